use Rattle.std.proofs.Common.{◌≤◌, take, length, subst, arith}
use Rattle.std.proofs.lemmas.List.{take_all}
use Rattle.std.proofs.lemmas.List.Elements.{All-more}
use Rattle.gcomplete.proofs.Kept.{keeps_more}
use Rattle.gitrepository.specs.steps.Arriving.{IsNeeded}
use Rattle.gitrepository.proofs.LinkLemmas.{all_needed_more}
use Rattle.gitrepository.proofs.needs.Needs.note_all.Goals as goal

pub loop-link-preserved : goal.loop-link-preserved
loop-link-preserved g c =
    let links = c.args.links.now in let k = c.loop-link.link-index in let link = c.link-item.result in
    let old = c.loop-link.self in let new = c.note.new.self in let keeps = c.note.ensures.keeps in (
      All-more (IsNeeded new) links k link c.loop-link-test.true (all_needed_more old new keeps (take k links) c.loop-link.invariant.0)
          (subst (IsNeeded new) c.link-item.is c.in_default.ensures.noted),
      keeps_more c.args.self.now old new c.loop-link.invariant.1 keeps,
    )

pub returns-clause-noted : goal.returns-clause-noted
returns-clause-noted g c =
    let links = c.args.links.now in
    let past : length links ≤ c.loop-link.link-index = omega (arith, c.loop-link-test.false) in
    rw (take_all c.loop-link.link-index links past) at c.loop-link.invariant.0

pub returns-clause-keeps : goal.returns-clause-keeps
returns-clause-keeps g c = c.loop-link.invariant.1
