-- The value of HEAD (gitglossary(7), "HEAD").
use Rattle.std.specs.Prelude.{⊤}
use Rattle.grefs.specs.RefLists.{IsBelowRefs}
use Rattle.grefs.specs.declared.head.Head.{Head}
use Rattle.grefs.specs.declared.head.Head.TheVariants as heads

-- if HEAD is symbolic, its target has a name below refs/
abbrev pub PointsBelowRefs : {A : Type 0} → Head A → Type 0
PointsBelowRefs heads.None = ⊤
PointsBelowRefs (heads.Id id) = ⊤
PointsBelowRefs (heads.Symref target) = IsBelowRefs target
