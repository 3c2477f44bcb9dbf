use Rattle.std.proofs.Common.{◌≡◌, ◌+◌, ◌≤◌, cond, length, take, sym, subst, ap, ◌∙◌, arith}
use Rattle.std.specs.List.{filter}
use Rattle.std.proofs.lemmas.List.{take_all}
use Rattle.std.proofs.lemmas.List.Filters.{length-filter_more}
use Rattle.std.proofs.lemmas.Option.{get_or_from_slice_get, slice_get_within}
use Rattle.gcomplete.specs.Stores.{is_commit_or_tag}
use Rattle.gcomplete.proofs.types.TypeMap.commits_and_tags.Goals.{then-is_commit_or_tag, else-is_commit_or_tag}
use Rattle.gcomplete.proofs.types.TypeMap.commits_and_tags.Goals as goal

pub loop-place-preserved : goal.loop-place-preserved
loop-place-preserved g c =
    let types = c.args.self.now in let k = c.loop-place.place in let pair = c.at-kind.result in
    let at = get_or_from_slice_get types k pair pair c.at-kind.ensures.at in
    let more = length-filter_more is_commit_or_tag types k pair (slice_get_within types k pair c.at-kind.ensures.at) in
    let test = ap is_commit_or_tag at ∙ sym c.is_commit_or_tag.ensures in
    let old = c.loop-place.invariant in
    let done = length (filter is_commit_or_tag (take k types)) in
    elim c.if-is_commit_or_tag.branch [
      | then-is_commit_or_tag w ↦
          let total = more ∙ ap (λ b. done + cond b 1 0) (test ∙ w.if-is_commit_or_tag.true) in let now = w.count-is in
          (omega (arith, old.0, total, now), omega (arith, old.1, now))
      | else-is_commit_or_tag w ↦
          let total = more ∙ ap (λ b. done + cond b 1 0) (test ∙ w.if-is_commit_or_tag.false) in let now = w.count-is in
          (omega (arith, old.0, total, now), omega (arith, old.1, now))
    ]

pub returns : goal.returns
returns g c =
    let types = c.args.self.now in
    let past : length types ≤ c.loop-place.place = let n = c.len-place-end.ensures in omega (arith, c.loop-place-test.false) in
    rw (take_all c.loop-place.place types past) at c.loop-place.invariant.0
