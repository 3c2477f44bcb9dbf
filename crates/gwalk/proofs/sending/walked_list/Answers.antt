use Rattle.std.proofs.Common.{◌∙◌, List, Bool, length, ap, subst}
use Rattle.gwalk.specs.steps.Tags.{AreTagged}
use Rattle.gwalk.proofs.Tagging.{tags_end}
use Rattle.gwalk.proofs.sending.walked_list.Goals as goal

pub with_tags-requires : goal.with_tags-requires
with_tags-requires g c = ap length c.as_slice.ensures.value ∙ c.in_ok-new.ensures.marks.long

pub entries_at-requires : goal.entries_at-requires
entries_at-requires g c = ap length c.as_slice-2.ensures.value ∙ c.in_ok-marks.ensures.long

pub returns-clause-list : goal.returns-clause-list
returns-clause-list g c =
    let entries = c.args.graph.now.entries in
    let tagged : AreTagged entries c.in_ok-new.new.items c.args.tips.now c.in_ok-marks.marks.items =
    subst (λ (l : List Bool). AreTagged entries l c.args.tips.now c.in_ok-marks.marks.items) c.as_slice.ensures.value c.in_ok-marks.ensures in
    rw (c.in_ok-entries_at.ensures, c.as_slice-2.ensures.value) (tags_end entries c.args.wants.now c.args.commons.now c.in_ok-new.new.items c.in_ok-new.ensures.graph.differ c.in_ok-new.ensures.marks c.args.tips.now c.in_ok-marks.marks.items tagged)
