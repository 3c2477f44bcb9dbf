use Rattle.std.proofs.Common.{◌≡◌, ◌∙◌, List, [], ◌∷◌, ◌++◌, ap, length, map, refl, subst, sym, arith}
use Rattle.std.proofs.lemmas.Bool.{false≢true}
use Rattle.std.proofs.lemmas.Result.{err_from_is_err_and}
use Rattle.gitcommitgraph.specs.Chains.{AddsFile, checksum_of, graph_commits}
use Rattle.gitcommitgraph.specs.Files.{GraphFile, HasPositionsBefore}
use Rattle.gitcommitgraph.specs.steps.Chains.{IsGraph}
use Rattle.gitcommitgraph.proofs.ChainLemmas.{adds_file, is_graph, length-one_more}
use Rattle.gitcommitgraph.proofs.graph.CommitGraph.add.Goals as goal

pub invariant_of-self-2 : goal.invariant_of-self-2
invariant_of-self-2 g c =
    let count = c.saturating_add-count.ensures in
    let more = c.len.ensures in
    let few = c.if-count-gt-MAX_COMMITS.false in
    subst (IsGraph c.saturating_add-count.result) (sym c.in_ok-push.ensures.items)
    (is_graph c.self.inside.layers.items c.in_ok-layer.layer c.self.inside.count c.saturating_add-count.result c.self.invariant (omega (arith, count, more, few)) (omega (arith, few))
    c.in_ok-layer.ensures.formed (c.if-not-is_before.ensures.0 refl))

pub returns-clause-ok : goal.returns-clause-ok
returns-clause-ok g c =
    let count = c.saturating_add-count.ensures in
    let more = c.len.ensures in
    let few = c.if-count-gt-MAX_COMMITS.false in
    subst (λ old. AddsFile old c.args.bytes.items c.push.new.self.items) c.self.view_is
    (adds_file c.self.inside.layers.items c.in_ok-layer.layer c.self.inside.count c.saturating_add-count.result c.self.invariant (omega (arith, count, more, few)) (omega (arith, few))
    c.in_ok-layer.ensures.formed (c.if-not-is_before.ensures.0 refl) c.args.bytes.items c.push.new.self.items
    c.in_ok-layer.ensures (c.if-not-is_above.ensures.0 refl ∙ ap (map checksum_of) c.as_slice.ensures.value) c.in_ok-push.ensures.items)

pub returns-in_err-layer-clause-err : goal.returns-in_err-layer-clause-err
returns-in_err-layer-clause-err g c =
    let p = err_from_is_err_and c.from_residual.result c.from_residual.ensures.1 in
    rw (p.1, p.2) (c.in_err-layer.ensures c.args.self.now)

pub returns-then-not-is_above-clause-err : goal.returns-then-not-is_above-clause-err
returns-then-not-is_above-clause-err g c = (
  c.in_ok-layer.layer,
  c.in_ok-layer.ensures,
  λ same. false≢true (sym c.if-not-is_above.true ∙ c.is_above.ensures.1 (same ∙ ap (map checksum_of) (sym (c.as_slice.ensures.value ∙ c.self.view_is)))),
)

pub returns-then-count-gt-MAX_COMMITS-clause-err : goal.returns-then-count-gt-MAX_COMMITS-clause-err
returns-then-count-gt-MAX_COMMITS-clause-err g c =
    let all = length-one_more c.args.self.now c.in_ok-layer.layer in
    let before = c.self.invariant.counted ∙ ap (λ (fs : List GraphFile). length (graph_commits fs)) c.self.view_is in
    let count = c.saturating_add-count.ensures in
    let more = c.len.ensures in
    let many = c.if-count-gt-MAX_COMMITS.true in
    (c.in_ok-layer.layer, c.in_ok-layer.ensures, omega (arith, all, before, count, more, many))

pub returns-then-not-is_before-clause-err : goal.returns-then-not-is_before-clause-err
returns-then-not-is_before-clause-err g c =
    let layer = c.in_ok-layer.layer in
    let all = length-one_more c.args.self.now layer in
    let before = c.self.invariant.counted ∙ ap (λ (fs : List GraphFile). length (graph_commits fs)) c.self.view_is in
    let count = c.saturating_add-count.ensures in
    let more = c.len.ensures in
    let few = c.if-count-gt-MAX_COMMITS.false in
    let counted : length (graph_commits (c.args.self.now ++ layer ∷ [])) ≡ c.saturating_add-count.result = omega (arith, all, before, count, more, few) in (
      layer,
      c.in_ok-layer.ensures,
      λ within. false≢true (sym c.if-not-is_before.true ∙ c.is_before.ensures.1 (subst (λ n. HasPositionsBefore n layer) counted within)),
    )
