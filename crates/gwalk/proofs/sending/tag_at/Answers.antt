use Rattle.std.proofs.Common.{◌≡◌, None, sym, ◌∙◌}
use Rattle.std.proofs.lemmas.Option.{none-some}
use Rattle.gobject.specs.Objects.{position_of}
use Rattle.gdag.proofs.Reaching.{node_at_none}
use Rattle.gwalk.proofs.sending.tag_at.Goals as goal

-- the node was found, so the id has a position
pub returns-in_err-position-clause-only : goal.returns-in_err-position-clause-only
returns-in_err-position-clause-only g c =
    λ b tag.
    let missing = c.in_err-position.ensures in
    let gone : position_of c.args.graph.now.entries c.args.id.now ≡ None = cc in
    absurd (none-some c.in_ok-node.node.now (sym (node_at_none c.args.graph.now.entries c.args.id.now gone) ∙ sym c.in_ok-node.ensures))
