use Rattle.std.proofs.Common.{◌≡◌, ◌∙◌, [], true, Err, ap, subst, sym}
use Rattle.gpkt.specs.Change.{change_of}
use Rattle.gdialogue.specs.Running.{BreaksBy, HasRun}
use Rattle.gdialogue.specs.Dialogues.{turn_of}
use Rattle.gdialogue.specs.declared.begun.Begun.{Begun}
use Rattle.gdialogue.proofs.Endings.{begun_fails, begun_over, err_joined, ok_joined}
use Rattle.gdialogue.proofs.running.run_begun.Goals as goal

pub returns-clause-run : goal.returns-clause-run
returns-clause-run g c =
    let S = g.S.Side in
    let side_of = λ (b : Begun g.row.S.Denot g.row.L.Denot). b.side in
    let first = subst (λ s. g.L.First.is_first s × S.opens s [] true) (sym c.new.ensures) (c.requires.first, c.requires.opens) in
    let begins = c.with_room-connection.ensures.begins (c.new-2.ensures.holds first) in
    let listens = ap (λ d. turn_of d.stage) c.with_room-connection.ensures.conversation ∙ c.new-2.ensures.listens in
    let now = c.into_side.ensures ∙ ap (λ b. b.side) (c.into_side-begun.ensures ∙ ap (λ d. d.side) c.into_conversation.ensures) in
    let read = change_of g.I.Source.remaining c.args.source.now c.converse-driven.new.source in
    let written = change_of g.W.Sink.contents c.args.sink.now c.converse-driven.new.sink in
    let passed_on = change_of g.W.Sink.passed_on c.args.sink.now c.converse-driven.new.sink in
    ok_joined c.converse-driven.result _ _ _ _ c.converse-driven.ensures.done c.converse-driven.ensures.all_sent c.converse-driven.ensures.driven
    (λ done all_sent sent driven. subst (λ side. (x : g.row.S.Denot) × g.L.First.is_first x × HasRun S.judge S.brings S.opens S.answers S.refuses sent x side read written passed_on
    (g.I.Source.is_down c.converse-driven.new.source) (g.W.Sink.is_down c.converse-driven.new.sink) (c.converse-driven.new.sink ≡ c.args.sink.now)) (sym now)
    (begun_over side_of g.L.First.is_first S.judge S.brings S.opens S.answers S.refuses S.hears g.R.Reply.may c.with_room-connection.result c.converse-driven.new.connection read written passed_on
    (g.I.Source.is_down c.converse-driven.new.source) c.receive_limit-limit.result begins.0 begins.1 (c.converse-driven.ensures.drives.goes.room c.with_room-connection.ensures.room)
    c.with_room-connection.ensures.clean c.receive_limit-limit.ensures.lacks (c.converse-driven.ensures.reads listens c.with_room-connection.ensures.goes_on) sent _ _ driven done all_sent))

pub returns-clause-broken : goal.returns-clause-broken
returns-clause-broken g c =
    let S = g.S.Side in
    let side_of = λ (b : Begun g.row.S.Denot g.row.L.Denot). b.side in
    let first = subst (λ s. g.L.First.is_first s × S.opens s [] true) (sym c.new.ensures) (c.requires.first, c.requires.opens) in
    let begins = c.with_room-connection.ensures.begins (c.new-2.ensures.holds first) in
    let listens = ap (λ d. turn_of d.stage) c.with_room-connection.ensures.conversation ∙ c.new-2.ensures.listens in
    let now = c.into_side.ensures ∙ ap (λ b. b.side) (c.into_side-begun.ensures ∙ ap (λ d. d.side) c.into_conversation.ensures) in
    let read = change_of g.I.Source.remaining c.args.source.now c.converse-driven.new.source in
    let written = change_of g.W.Sink.contents c.args.sink.now c.converse-driven.new.sink in
    let passed_on = change_of g.W.Sink.passed_on c.args.sink.now c.converse-driven.new.sink in
    err_joined c.converse-driven.result _ _ c.converse-driven.ensures.fails
    (λ fault is fails. subst (λ side. (x : g.row.S.Denot) × g.L.First.is_first x × BreaksBy S.judge S.brings S.opens S.answers S.refuses fault x side read written passed_on
    (g.I.Source.is_down c.converse-driven.new.source)) (sym now)
    (begun_fails side_of g.L.First.is_first S.judge S.brings S.opens S.answers S.refuses S.hears g.R.Reply.may c.with_room-connection.result c.converse-driven.new.connection read written passed_on
    (g.I.Source.is_down c.converse-driven.new.source) c.receive_limit-limit.result begins.0 begins.1 (c.converse-driven.ensures.drives.goes.room c.with_room-connection.ensures.room)
    c.with_room-connection.ensures.clean c.receive_limit-limit.ensures.lacks (c.converse-driven.ensures.reads listens c.with_room-connection.ensures.goes_on) c.requires.completes fault
    (λ same. c.converse-driven.ensures.memory c.with_room-connection.ensures.room (is ∙ ap (λ f. Err f) same)) fails))
