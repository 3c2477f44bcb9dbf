use Rattle.std.proofs.Common.{◌<◌, ℕ, List, length, take, ◌++◌, get_or, ap, ◌∙◌, arith}
use Rattle.grefs.specs.RefLists.{RefList}
use Rattle.ganswer.specs.LsAnswers.{head_id, head_ref}
use Rattle.ganswer.proofs.PeelLemmas.{ref_there}
use Rattle.ganswer.proofs.LsLemmas.{ref_next, refs_more}
use Rattle.ganswer.proofs.server.Server.add_refs.Goals as goal

pub add_ref_line-requires-clause-next : goal.add_ref_line-requires-clause-next
add_ref_line-requires-clause-next g c =
    let server = c.args.self.now in
    let k = c.loop-place.place in
    let ref : List ℕ × List ℕ = c.index-refs-place.result in
    let long = ap length c.requires.refs in
    let inside : k < length server.refs = omega (arith, long, c.loop-place-test.true) in
    ref_next server c.args.request.now.asked k ref c.loop-place.reply inside (c.index-refs-place.is ∙ ap (λ (refs : RefList). get_or refs k ref) c.requires.refs) c.loop-place.invariant

pub add_ref_line-requires-clause-known : goal.add_ref_line-requires-clause-known
add_ref_line-requires-clause-known g c =
    let ref : List ℕ × List ℕ = c.index-refs-place.result in
    c.peeled_at-known.ensures ref (ref_there c.args.refs.now c.args.self.now.refs c.requires.refs c.loop-place.place ref c.loop-place-test.true c.index-refs-place.is)

pub loop-place-preserved : goal.loop-place-preserved
loop-place-preserved g c =
    let server = c.args.self.now in
    let k = c.loop-place.place in
    let ref : List ℕ × List ℕ = c.index-refs-place.result in
    let long = ap length c.requires.refs in
    let inside : k < length server.refs = omega (arith, long, c.loop-place-test.true) in
    refs_more server c.args.request.now.asked k ref c.add_ref_line.new.reply inside (c.index-refs-place.is ∙ ap (λ (refs : RefList). get_or refs k ref) c.requires.refs)
    (c.in_ok-add_ref_line.ensures.added (head_ref (head_id server.head server.refs) ++ take k server.refs) c.loop-place.invariant)
