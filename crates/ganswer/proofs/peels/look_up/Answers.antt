use Rattle.std.proofs.Common.{◌≡◌, ℕ, zero, suc, List, Option, Some, None, IsSome, refl, sym, subst, ap, ◌∙◌}
use Rattle.std.specs.Option.{IfSome}
use Rattle.gobject.specs.declared.node.Kind.TheVariants.{Tag}
use Rattle.gobject.specs.declared.node.Node.{Node}
use Rattle.gobject.specs.declared.node.Entry.{Entry}
use Rattle.gobject.specs.Objects.{node_at}
use Rattle.gdag.specs.Peeling.{PeelsTo}
use Rattle.ganswer.specs.LsAnswers.{IsPeeled, TagPeelsTo}
use Rattle.ganswer.proofs.peels.look_up.Goals as goal

tag_peels : {A : Type 0} (g : List (Entry A)) (id : List ℕ) (node : Node A) → node_at g id ≡ Some node → node.kind ≡ Tag → (commit : List ℕ) → PeelsTo g id commit → TagPeelsTo g id commit
tag_peels g id node held tag commit (zero, same, is) =
    let here = ap (node_at g) same ∙ is.held in
    let both : Some node ≡ Some is.node = sym held ∙ here in
    let kind = is.commit in
    absurd cc
tag_peels g id node held tag commit (suc m, (next, first, rest), is) = record { named = next; tag = first; peels = (suc m, (next, first, rest), is) }

is_peeled : {A : Type 0} (g : List (Entry A)) (id : List ℕ) (node : Node A) → node_at g id ≡ Some node → node.kind ≡ Tag → (peeled : Option (List ℕ)) → IfSome peeled (PeelsTo g id)
    → ((commit : List ℕ) → PeelsTo g id commit → peeled ≡ Some commit) → IsPeeled g id peeled
is_peeled g id node held tag None leads only = λ commit other. let e = only commit other.peels in cc
is_peeled g id node held tag (Some commit) leads only = tag_peels g id node held tag commit leads

pub returns-in-Tag : goal.returns-in-Tag
returns-in-Tag g c = (
  subst (λ (o : Option (Node _)). IsSome o) c.in_ok-node.ensures refl,
  is_peeled c.args.graph.now.entries c.args.id.now c.in_ok-node.field-0.now (sym c.in_ok-node.ensures) c.in-Tag.is c.peel.result c.peel.ensures.found c.peel.ensures.only,
)
