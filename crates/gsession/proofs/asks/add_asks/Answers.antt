use Rattle.std.proofs.Common.{◌∙◌, ◌<◌, [], ◌∷◌, length, sym, ap, refl, arith}
use Rattle.std.specs.Option.{option_copied}
use Rattle.std.proofs.lemmas.Option.{get_or_from_slice_get}
use Rattle.gsession.specs.Asking.{asks_by}
use Rattle.gsession.proofs.CommonLemmas.{none_inside}
use Rattle.gsession.proofs.AskLemmas.{added_more, asks_by-append}
use Rattle.gsession.proofs.asks.add_asks.Goals as goal
use Rattle.gsession.proofs.asks.add_asks.Goals.{in-Some+in_ok-ask_of_line, in_default}

pub loop-place-preserved : goal.loop-place-preserved
loop-place-preserved g c =
    let spec = c.args.spec.now in
    let lines = c.args.reply.now.lines in
    let place = c.loop-place.place in
    let low : place < length lines = omega (arith, c.loop-place-test.true, c.len-place-end.ensures.len) in
    elim c.match-at.branch [
      | in-Some+in_ok-ask_of_line w ↦
          let line = w.in-Some.line.now in
          rw w.asks-is (added_more (asks_by spec) (asks_by-append spec) lines place line low
          (sym (get_or_from_slice_get lines place line line (sym w.in-Some.ensures))) (asks_by spec (line ∷ [])) refl
          c.args.asks.now c.loop-place.asks w.ask_of_line.new.asks c.loop-place.invariant w.in_ok-ask_of_line.ensures)
      | in_default w ↦ absurd (none_inside lines place low (sym c.at.ensures ∙ ap option_copied w.in_default.is))
    ]
