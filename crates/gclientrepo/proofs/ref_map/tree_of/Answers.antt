use Rattle.std.proofs.Common.{List, ℕ, ◌∙◌, ap, sym, take}
use Rattle.std.specs.BTreeMap.{insert_entry}
use Rattle.grefs.specs.RefLists.{RefList}
use Rattle.grefs.proofs.RefLemmas.{order}
use Rattle.gclientrepo.proofs.RefMapLemmas.{copied_more}
use Rattle.gclientrepo.proofs.ref_map.tree_of.Goals as goal

pub loop-pair-preserved : goal.loop-pair-preserved
loop-pair-preserved g c =
    let refs = c.args.refs.now in
    let place = c.loop-pair.pair-index in
    let pair = c.pair-item.result in
    c.in_ok-insert.ensures.entries
    ∙ ap (λ (copies : RefList). insert_entry order copies c.in_ok-name.name pair.1) c.loop-pair.invariant
    ∙ ap (λ (name : List ℕ). insert_entry order (take place refs) name pair.1) c.in_ok-name.ensures
    ∙ copied_more c.refs_come_in_order.ensures refs place pair c.requires c.loop-pair-test.true (sym c.pair-item.is)
