use Rattle.std.proofs.Common.{◌≡◌, sym, ap, ap₂, rules, ◌∙◌}
use denote.Enum.Bare.{same_true}
use Rattle.std.proofs.lemmas.Slice.Eq.{slice_eq-Decides, bytes_eq-Decides}
use Rattle.gobject.specs.contracts.node.Kind.{the_type}
use Rattle.gobject.specs.Objects.{node_of}
use Rattle.gobject.proofs.node.Node.is_same.Goals as goal

pub returns-then-eq : goal.returns-then-eq
returns-then-eq g c =
    let kinds : c.args.self.now.kind ≡ c.args.other.now.kind = same_true the_type (search rules) _ _ (sym c.if-eq.ensures) in
    let ids = slice_eq-Decides bytes_eq-Decides _ _ _ c.eq-then-eq.ensures in (
      λ h. ap₂ node_of kinds (sym c.as_slice.ensures ∙ ids.0 h ∙ c.as_slice-then-eq.ensures),
      λ e. ids.1 (c.as_slice.ensures ∙ ap (λ node. node.parents) e ∙ sym c.as_slice-then-eq.ensures),
    )
