use Rattle.std.proofs.Common.{◌+◌, ◌<◌, ◌≤◌, cond, length, take, sym, ap, ◌∙◌, arith, inl, inr}
use Rattle.std.proofs.lemmas.List.{take_all}
use Rattle.std.proofs.lemmas.List.Filters.{length-filter_more}
use Rattle.std.proofs.lemmas.Option.{get_or_from_slice_get, slice_get_cases}
use Rattle.gitwalk.specs.Gathering.{is_sent_pair, sent_count}
use Rattle.gitwalk.specs.steps.Walking.{is_sent_some}
use Rattle.gitwalk.proofs.fates.Fates.sent_count.Goals.{then-is_sent_at, else-is_sent_at}
use Rattle.gitwalk.proofs.fates.Fates.sent_count.Goals as goal

pub loop-number-preserved : goal.loop-number-preserved
loop-number-preserved g c =
    let fates = c.args.self.now in let k = c.loop-number.number in
    let inside : k < length fates = let n = c.len-number-end.ensures in omega (arith, c.loop-number-test.true) in
    let old = c.loop-number.invariant in
    let done = sent_count (take k fates) in
    elim (slice_get_cases fates k).1 [
      | inr past ↦ (let over = past.0 in absurd (omega (arith, over, inside)))
      | inl found ↦ (
          let pair = found.0 in
          let more = length-filter_more is_sent_pair fates k pair inside in
          let test =
          ap is_sent_pair (get_or_from_slice_get fates k pair pair found.2)
          ∙ sym (c.is_sent_at.ensures ∙ ap is_sent_some found.2) in
          elim c.if-is_sent_at.branch [
            | then-is_sent_at w ↦
                let total = more ∙ ap (λ b. done + cond b 1 0) (test ∙ w.if-is_sent_at.true) in let now = w.count-is in
                (omega (arith, old.0, total, now), omega (arith, old.1, now))
            | else-is_sent_at w ↦
                let total = more ∙ ap (λ b. done + cond b 1 0) (test ∙ w.if-is_sent_at.false) in let now = w.count-is in
                (omega (arith, old.0, total, now), omega (arith, old.1, now))
          ]
          )
    ]

pub returns : goal.returns
returns g c =
    let fates = c.args.self.now in
    let past : length fates ≤ c.loop-number.number = let n = c.len-number-end.ensures in omega (arith, c.loop-number-test.false) in
    rw (take_all c.loop-number.number fates past) at c.loop-number.invariant.0
