use Rattle.std.specs.Prelude.{slice_get, IfSome}
use Rattle.std.proofs.Common.{◌≡◌, ℕ, List, Option, Some, sym, subst}
use Rattle.std.specs.Slice.{IsItemAt}
use Rattle.ganswer.specs.LsAnswers.{IsPeeled}
use Rattle.ganswer.specs.Servers.{Server}
use Rattle.ganswer.proofs.PeelLemmas.{known_item}
use Rattle.ganswer.proofs.server.Server.peeled_at.Goals as goal

pub returns : goal.returns
returns g c =
    let inside = c.self.inside in
    let refs : List (List ℕ × List ℕ) = inside.refs in
    subst (λ (s : Server _). (ref : List ℕ × List ℕ) → slice_get s.refs c.args.place ≡ Some ref → IfSome c.copied.result (IsPeeled s.graph.entries ref.1))
    c.self.view_is
    (λ ref at.
    subst (λ (o : Option (Option (List ℕ))). IfSome o (IsPeeled inside.graph.entries ref.1)) (sym c.copied.ensures)
    (known_item inside.graph.entries refs inside.peels.items c.self.invariant.2 c.args.place c.get.result
    (subst (λ (l : List (Option (List ℕ))). IsItemAt l c.args.place c.get.result) c.deref.ensures.value c.get.ensures.lookup) ref at))
