use Rattle.std.proofs.Common.{◌≢◌, ◌+◌, ◌∙◌, ap, arith}
use Rattle.gitcommitgraph.specs.Files.{Commit}
use Rattle.gitcommitgraph.proofs.ChainLemmas.{all_more, commit_in, length-le, length-more}
use Rattle.gitcommitgraph.proofs.graph.find_commit.Goals as goal

pub overflow_add-result : goal.overflow_add-result
overflow_add-result g c =
    let all = length-le c.args.layers.now c.loop-layer.layer-index c.layer-item.result (omega arith) c.layer-item.is in
    let found = c.in-Some.ensures.0 in
    let so_far = c.loop-layer.invariant.0 in
    let few = c.requires in
    omega (arith, all, found, so_far, few)

pub returns-in-Some : goal.returns-in-Some
returns-in-Some g c =
    let i = c.loop-layer.layer-index in
    let file = c.layer-item.result in
    let all = length-le c.args.layers.now i file (omega arith) c.layer-item.is in
    let found = c.in-Some.ensures in
    let inside = found.0 in
    let so_far = c.loop-layer.invariant.0 in (
      omega (arith, all, inside, so_far),
      λ commit. ap (λ (k : Commit). k.id) (commit_in c.args.layers.now i file (omega arith) c.layer-item.is (c.loop-layer.start + c.in-Some.place) c.in-Some.place commit inside (omega (arith, so_far)))
          ∙ found.1 commit,
    )

pub overflow_add-start : goal.overflow_add-start
overflow_add-start g c =
    let all = length-le c.args.layers.now c.loop-layer.layer-index c.layer-item.result (omega arith) c.layer-item.is in
    let so_far = c.loop-layer.invariant.0 in
    let more = c.len-start.ensures in
    let few = c.requires in
    omega (arith, all, so_far, more, few)

pub loop-layer-preserved : goal.loop-layer-preserved
loop-layer-preserved g c =
    let i = c.loop-layer.layer-index in
    let file = c.layer-item.result in
    let so_far = c.loop-layer.invariant in
    let one = so_far.0 in
    let more = length-more c.args.layers.now i file (omega arith) c.layer-item.is in
    let count = c.len-start.ensures in (
      omega (arith, one, more, count),
      all_more c.args.layers.now i file (omega arith) c.layer-item.is (λ (k : Commit). k.id ≢ c.args.id.now) so_far.1 c.in-None.ensures,
    )
