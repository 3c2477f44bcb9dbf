use Rattle.std.proofs.Common.{◌≡◌, ◌≢◌, ◌∙◌, [], Bool, true, Result, Err, IfErr, IfOk, ap, subst, sym}
use Rattle.gpkt.specs.Change.{change_of}
use Rattle.gtalk.specs.declared.fault.TalkFault.{TalkFault}
use Rattle.gtalk.specs.declared.fault.TalkFault.TheVariants.{Memory}
use Rattle.gdialogue.specs.Running.{BreaksBy, HasRun}
use Rattle.gdialogue.specs.declared.begun.Begun.{Begun}
use Rattle.gdialogue.proofs.Endings.{begun_fails, begun_over}
use Rattle.gpair.specs.Joined.{HearsAll, all_read}
use Rattle.gpair.proofs.RunLemmas.{driven_all, fails_all, heard_bytes, heard_consumed, is_lost, joined_by, leaves_all}
use Rattle.gpair.proofs.running.run_begun.Goals as goal

pub join-driven-requires-clause-held : goal.join-driven-requires-clause-held
join-driven-requires-clause-held g c =
    let S = g.S.Side in
    let first = subst (λ s. g.L.First.is_first s × S.opens s [] true) (sym c.new.ensures) (c.requires.first, c.requires.opens) in
    ([], [], c.with_room-connection.ensures.holds (c.new-2.ensures.holds first))

pub returns-clause-hears : goal.returns-clause-hears
returns-clause-hears g c =
    let S = g.S.Side in
    let near = c.join-driven.new.near in
    let ensures = c.join-driven.ensures in
    let side_of = λ (b : Begun g.row.S.Denot g.row.L.Denot). b.side in
    let first = subst (λ s. g.L.First.is_first s × S.opens s [] true) (sym c.new.ensures) (c.requires.first, c.requires.opens) in
    let begins = c.with_room-connection.ensures.begins (c.new-2.ensures.holds first) in
    let now = c.into_side.ensures ∙ ap (λ b. b.side) (c.into_side-begun.ensures ∙ ap (λ d. d.side) c.into_conversation.ensures) in
    let read = change_of g.I.Source.remaining c.args.devices.0 near.source in
    let written = change_of g.W.Sink.contents c.args.devices.1 near.sink in
    let passed_on = change_of g.W.Sink.passed_on c.args.devices.1 near.sink in
    let room = ensures.drives.goes.room c.with_room-connection.ensures.room in
    let lost = is_lost near.connection.stopped in
    let leaves = leaves_all near.connection.stopped in
    subst (λ side. (x : g.row.S.Denot) × g.L.First.is_first x × HearsAll read (λ change down.
    IfOk c.join-driven.result (λ sent. HasRun S.judge S.brings S.opens S.answers S.refuses sent x side change written passed_on down (g.W.Sink.is_down near.sink) (near.sink ≡ c.args.devices.1))
    × IfErr c.join-driven.result (λ fault. BreaksBy S.judge S.brings S.opens S.answers S.refuses fault x side change written passed_on down))) (sym now)
    (joined_by c.join-driven.result _ _ _ _ (λ (r : Result Bool TalkFault). (x : g.row.S.Denot) × g.L.First.is_first x × HearsAll read (λ change down.
    IfOk r (λ sent. HasRun S.judge S.brings S.opens S.answers S.refuses sent x near.connection.conversation.side.side change written passed_on down (g.W.Sink.is_down near.sink) (near.sink ≡ c.args.devices.1))
    × IfErr r (λ fault. BreaksBy S.judge S.brings S.opens S.answers S.refuses fault x near.connection.conversation.side.side change written passed_on down)))
    ensures.done ensures.all_sent ensures.driven ensures.fails
    (λ sent done all_sent driven.
    let o = begun_over side_of g.L.First.is_first S.judge S.brings S.opens S.answers S.refuses S.hears g.R.Reply.may c.with_room-connection.result near.connection (all_read driven.drives.more) written passed_on
    lost c.receive_limit-limit.result begins.0 begins.1 room c.with_room-connection.ensures.clean c.receive_limit-limit.ensures.lacks leaves sent _ _
    (driven_all _ _ c.with_room-connection.result near.connection read written passed_on sent _ _ driven) done all_sent in
    (o.0, o.1, record { received = driven.drives.more; consumed = driven.drives.received; lost = lost; runs = (o.2, tt) }))
    (λ fault is fails.
    let some : fault ≢ Memory = λ same. ensures.memory c.with_room-connection.ensures.room (is ∙ ap (λ f. Err f) same) in
    let o = begun_fails side_of g.L.First.is_first S.judge S.brings S.opens S.answers S.refuses S.hears g.R.Reply.may c.with_room-connection.result near.connection
    (all_read (heard_bytes _ _ c.with_room-connection.result near.connection read written passed_on fault fails)) written passed_on
    lost c.receive_limit-limit.result begins.0 begins.1 room c.with_room-connection.ensures.clean c.receive_limit-limit.ensures.lacks leaves c.requires.completes fault some
    (fails_all _ _ c.with_room-connection.result near.connection read written passed_on fault fails) in (
      o.0,
      o.1,
      record {
        received = heard_bytes _ _ c.with_room-connection.result near.connection read written passed_on fault fails;
        consumed = heard_consumed _ _ c.with_room-connection.result near.connection read written passed_on fault fails some;
        lost = lost;
        runs = (tt, o.2);
      },
    )))
