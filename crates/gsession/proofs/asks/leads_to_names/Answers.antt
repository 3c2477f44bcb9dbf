use Rattle.std.proofs.Common.{◌≡◌, ◌∙◌, ◌<◌, ◌≤◌, true, [], ◌∷◌, length, sym, ap, refl, subst, arith}
use Rattle.std.specs.Option.{option_copied}
use Rattle.std.proofs.lemmas.Bool.{false≢true}
use Rattle.std.proofs.lemmas.List.{take_all}
use Rattle.std.proofs.lemmas.Option.{get_or_from_slice_get}
use Rattle.glsreply.specs.RefTexts.{RefLine}
use Rattle.gsession.specs.Asking.{AreNamed, asks_by}
use Rattle.gsession.proofs.CommonLemmas.{none_inside}
use Rattle.gsession.proofs.AskLemmas.{asks_by-append, named_line, named_more, named_one}
use Rattle.gsession.proofs.asks.leads_to_names.Goals as goal
use Rattle.gsession.proofs.asks.leads_to_names.Goals.{in-Some+else-not-can_take, in_default}

pub returns-then-not-can_take : goal.returns-then-not-can_take
returns-then-not-can_take g c =
    let spec = c.args.spec.now in
    let lines = c.args.reply.now.lines in
    let place = c.loop-place.place in
    let line = c.in-Some.line.now in
    let low : place < length lines = omega (arith, c.loop-place-test.true, c.len-place-end.ensures.len) in (
      λ yes. absurd (false≢true yes),
      λ named. sym c.if-not-can_take.true
          ∙ subst (λ (l : RefLine). AreNamed {A = g.row.A.Denot} (asks_by spec (l ∷ [])) → c.can_take.result ≡ true)
          c.line.view_is (λ one. c.can_take.ensures.1 ((named_line spec _).1 one))
          (named_one (asks_by spec) (asks_by-append spec) lines place line low
          (sym (get_or_from_slice_get lines place line line (sym c.in-Some.ensures))) (asks_by spec (line ∷ [])) refl
          named),
    )

pub loop-place-preserved : goal.loop-place-preserved
loop-place-preserved g c =
    let spec = c.args.spec.now in
    let lines = c.args.reply.now.lines in
    let place = c.loop-place.place in
    let low : place < length lines = omega (arith, c.loop-place-test.true, c.len-place-end.ensures.len) in
    elim c.match-at.branch [
      | in-Some+else-not-can_take w ↦
          let line = w.in-Some.line.now in
          named_more (asks_by spec) (asks_by-append spec) lines place line low
          (sym (get_or_from_slice_get lines place line line (sym w.in-Some.ensures))) (asks_by spec (line ∷ [])) refl
          c.loop-place.invariant
          (subst (λ (l : RefLine). AreNamed {A = g.row.A.Denot} (asks_by spec (l ∷ []))) w.line.view_is
          ((named_line spec _).0 (w.can_take.ensures.0 w.if-not-can_take.false)))
      | in_default w ↦ absurd (none_inside lines place low (sym c.at.ensures ∙ ap option_copied w.in_default.is))
    ]

pub returns : goal.returns
returns g c =
    let lines = c.args.reply.now.lines in
    let past : length lines ≤ c.loop-place.place =
    omega (arith, c.loop-place-test.false, c.len-place-end.ensures.len) in
    (λ _. rw (take_all c.loop-place.place lines past) at c.loop-place.invariant, λ _. refl)
