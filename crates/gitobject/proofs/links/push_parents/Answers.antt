use Rattle.std.proofs.Common.{[], ◌∷◌, ◌++◌, ◌∙◌, sym}
use Rattle.std.proofs.lemmas.Bool.{false≢true}
use Rattle.gitobject.proofs.Heads.{no_parents, parents_after, parents_end, parents_more, pushed}
use Rattle.gitobject.proofs.links.push_parents.Goals as goal

pub loop-line-preserved : goal.loop-line-preserved
loop-line-preserved g c =
    let inv = c.loop-line.invariant in
    let text = c.args.text.now in let rest = c.loop-line.rest.now in let line = c.in-Some.line in (
      inv.0 ++ line.0 ∷ [],
      pushed c.args.parents.now.items c.loop-line.parents.items c.push.new.self.items inv.0 line.0 inv.1 c.in_default-push.ensures.items,
      parents_more text rest inv.0 inv.2 line.0 line.1.now c.in-Some.ensures.line,
      λ ids has. let more = inv.3 ids has in parents_after rest line.1.now line.0 c.in-Some.ensures.line more.0 more.1,
    )

pub returns-then-goes_on : goal.returns-then-goes_on
returns-then-goes_on g c =
    let inv = c.loop-line.invariant in
    (inv.0, parents_end c.args.text.now c.loop-line.rest.now inv.0 inv.2 (c.goes_on.ensures.0 c.if-goes_on.true), inv.1)

pub returns-else-goes_on : goal.returns-else-goes_on
returns-else-goes_on g c has =
    let inv = c.loop-line.invariant in
    let more = inv.3 has.0 has.1 in
    no_parents c.loop-line.rest.now (λ on. false≢true (sym c.if-goes_on.false ∙ c.goes_on.ensures.1 on)) c.in_default.ensures.line more.0 more.1
