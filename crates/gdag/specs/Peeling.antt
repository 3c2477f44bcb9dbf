-- Peeling of tags: a tag peels to the commit at the end of its chain of tags (gitrevisions(7), `<rev>^{}`).
use Rattle.std.specs.Prelude.{◌≡◌, ℕ, zero, suc, List, Some, slice_get}
use Rattle.gname.specs.Ids.{Id}
use Rattle.gobject.specs.declared.node.Kind.TheVariants.{Commit, Tag}
use Rattle.gobject.specs.declared.node.Node.{Node}
use Rattle.gobject.specs.declared.node.Entry.{Entry}
use Rattle.gdag.specs.Graphs.{IsNode}

-- `a` is a tag in the graph, and refers to `b`
pub record IsTagOf {A : Type 0} (g : List (Entry A)) (a b : Id) : Type 0 where
  pub node : Node A
  pub held : IsNode g a node
  pub tag : node.kind ≡ Tag
  pub names : slice_get node.parents 0 ≡ Some b

-- `a` is a commit in the graph
pub record IsCommit {A : Type 0} (g : List (Entry A)) (a : Id) : Type 0 where
  pub node : Node A
  pub held : IsNode g a node
  pub commit : node.kind ≡ Commit

-- a chain of exactly the given number of tags leads from `a` to `b`
abbrev pub Tags : {A : Type 0} → List (Entry A) → ℕ → Id → Id → Type 0
Tags g zero a b = a ≡ b
Tags g (suc m) a b = (next : Id) × IsTagOf g a next × Tags g m next b

-- a chain of tags leads from `a` to the commit `c`
abbrev pub PeelsTo : {A : Type 0} → List (Entry A) → Id → Id → Type 0
PeelsTo g a c = (m : ℕ) × Tags g m a c × IsCommit g c
