-- The objects and entries of a pack that is read.
use Rattle.std.proofs.Common.{◌≡◌, Bool, true, false, if◌then◌else◌, IfSome, List, [], ◌∷◌, ◌++◌, All, Option, Some, subst, sym}
use Rattle.std.proofs.lemmas.List.Elements.{All-push, All-weaker}
use Rattle.gcomplete.proofs.Kept.{kept_still}
use Rattle.gcomplete.specs.Batches.{KeepsTypes}
use Rattle.gcomplete.specs.Judging.{IsKept}
use Rattle.gcomplete.specs.Stores.{Types}
use Rattle.gobject.specs.declared.node.Entry.{Entry}
use Rattle.gitmemory.specs.Entries.{IsOfObject}
use Rattle.gitmemory.specs.steps.Taking.{AreTaken, IsTaken, Taken}

-- entries that are taken stay taken when objects are added
pub taken_more : {A : Type 0} (old new : Types) → KeepsTypes old new → (entries : List (Entry A)) → AreTaken old entries → AreTaken new entries
taken_more {A} old new keeps entries all =
    let P : Entry A → Type 0 = IsTaken old in
    let Q : Entry A → Type 0 = IsTaken new in
    All-weaker P Q (λ entry is. record { object = is.object; kept = kept_still old new keeps entry.id is.kept }) entries all

-- the same when a taken entry is appended, or not
pub taken_pushed : {A : Type 0} (it now : Taken A) (new : List (Entry A)) (found : Option (Entry A)) (entry : Entry A) (comes : Bool) → it ≡ now → new ≡ (if comes then it.entries ++ entry ∷ [] else it.entries) → AreTaken it.noted.types it.entries → IfSome found (IsTaken now.noted.types) → found ≡ Some entry → AreTaken it.noted.types new
taken_pushed {A} it now new found entry comes same is all taken some = by comes is
  where
    this : IsTaken it.noted.types entry
    this =
        let P : Option (Entry A) → Type 0 = λ f. IfSome f (IsTaken now.noted.types) in
        let Q : Taken A → Type 0 = λ t. IsTaken t.noted.types entry in
        subst Q (sym same) (subst P some taken)

    by : (comes : Bool) → new ≡ (if comes then it.entries ++ entry ∷ [] else it.entries) → AreTaken it.noted.types new
    by true is =
        subst (AreTaken it.noted.types) (sym is) (All-push (IsTaken it.noted.types) it.entries entry all this)
    by false is = subst (AreTaken it.noted.types) (sym is) all

-- taken entries are entries of objects
pub taken_objects : {A : Type 0} (types : Types) (entries : List (Entry A)) → AreTaken types entries → All IsOfObject entries
taken_objects {A} types entries all =
    let P : Entry A → Type 0 = IsTaken types in
    let Q : Entry A → Type 0 = IsOfObject in
    All-weaker P Q (λ entry is. is.object) entries all

-- taken entries are kept by a store that has these ids and types
pub taken_kept : {A : Type 0} (old new : Types) → KeepsTypes old new → (entries : List (Entry A)) → AreTaken old entries → All (λ entry. IsKept new entry.id) entries
taken_kept {A} old new keeps entries all =
    let P : Entry A → Type 0 = IsTaken old in
    let Q : Entry A → Type 0 = λ entry. IsKept new entry.id in
    All-weaker P Q (λ entry is. kept_still old new keeps entry.id is.kept) entries all
