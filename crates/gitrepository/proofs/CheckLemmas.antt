-- Refs and HEAD whose objects stay kept.
use Rattle.std.proofs.lemmas.List.Elements.{All-weaker}
use Rattle.grefs.specs.RefLists.{RefList}
use Rattle.grefs.specs.declared.head.Head.{Head}
use Rattle.grefs.specs.declared.head.Head.TheVariants as heads
use Rattle.gcomplete.specs.Batches.{KeepsTypes}
use Rattle.gcomplete.specs.Judging.{IsKept}
use Rattle.gcomplete.specs.Stores.{Types}
use Rattle.gcomplete.proofs.Kept.{kept_still}
use Rattle.gitrepository.specs.Checking.{AreRefsKept, IsHeadKept}

pub refs_still : (old new : Types) → KeepsTypes old new → (refs : RefList) → AreRefsKept old refs → AreRefsKept new refs
refs_still old new keeps refs all =
    All-weaker (λ ref. IsKept old ref.1) (λ ref. IsKept new ref.1) (λ ref kept. kept_still old new keeps ref.1 kept) refs all

pub head_still : {A : Type 0} (old new : Types) → KeepsTypes old new → (head : Head A) → IsHeadKept old head → IsHeadKept new head
head_still old new keeps heads.None kept = tt
head_still old new keeps (heads.Id id) kept = kept_still old new keeps id kept
head_still old new keeps (heads.Symref target) kept = tt
