-- Refs whose objects a graph holds.
use Rattle.std.proofs.Common.{◌≡◌, ◌⊎◌, inl, inr, List, All, Contains, sym, subst}
use Rattle.std.proofs.lemmas.List.Elements.{All-contains, All-weaker}
use Rattle.gname.specs.Ids.{Id}
use Rattle.gname.specs.Names.{Name}
use Rattle.grefs.specs.RefLists.{RefList, SetsRef}
use Rattle.gobject.specs.declared.node.Entry.{Entry}
use Rattle.gdag.specs.Graphs.{History, Holds}
use Rattle.gitrepository.specs.Repositories.{AreHeld, KeepsHeld}

-- if `P` holds for the new ref and for all old refs, it holds for a ref that is the new ref or an old ref
one : (P : Name × Id → Type 0) (old : RefList) (new ref : Name × Id) → P new → All P old → (ref ≡ new) ⊎ Contains old ref → P ref
one P old new ref this all (inl same) = subst P (sym same) this
one P old new ref this all (inr among) = All-contains P old ref all among

-- if the graph holds the object of each ref, this remains true after a ref is set to an object of the graph
pub AreHeld_set : {A : Type 0} (graph : History A) (old new : RefList) (name : Name) (id : Id) → SetsRef old new name id → Holds graph.entries id → AreHeld graph old → AreHeld graph new
AreHeld_set graph old new name id sets holds held =
    λ k d inside. one (λ ref. Holds graph.entries ref.1) old (name, id) _ holds held (sets.each k d inside)

-- the refs are still held in a graph that holds each id of the old graph
pub refs_still_held :
    {A : Type 0} (old new : List (Entry A)) → KeepsHeld old new → (refs : RefList)
    → All (λ ref. Holds old ref.1) refs → All (λ ref. Holds new ref.1) refs
refs_still_held old new keeps refs all =
    All-weaker (λ ref. Holds old ref.1) (λ ref. Holds new ref.1) (λ ref held. keeps ref.1 held) refs all
