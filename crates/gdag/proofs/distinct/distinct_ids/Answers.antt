use Rattle.std.proofs.Common.{◌∙◌, ◌+◌, ◌∷◌, List, ℕ, ap, drop, sym}
use Rattle.std.proofs.lemmas.List.{drop_more}
use Rattle.gdag.proofs.IdLists.{with_new, with_new-insert}
use Rattle.gdag.proofs.distinct.distinct_ids.Goals as goal

pub loop-id-preserved : goal.loop-id-preserved
loop-id-preserved g c =
    let ids = c.args.ids.now in
    let k = c.loop-id.id-index in
    let id = c.id-item.result in
    let keys = c.loop-id.seen.keys in
    let later = drop (k + 1) ids in
    ap (λ (l : List (List ℕ)). with_new l later) c.in_ok-insert.ensures.keys
    ∙ with_new-insert keys id later
    ∙ ap (λ (x : List ℕ). with_new keys (x ∷ later)) c.id-item.is
    ∙ ap (with_new keys) (sym (drop_more ids k id c.loop-id-test.true))
    ∙ c.loop-id.invariant
