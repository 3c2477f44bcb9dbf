-- Definitions for the proofs of offering ids. A tour is a walk from the tips that can be resumed.
use Rattle.std.specs.Prelude.{◌≡◌, ◌↔◌, ℕ, Bool, true, false, List, ◌++◌, slice_index_or, All, Contains, Some}
use Rattle.gname.specs.Ids.{Id}
use Rattle.gobject.specs.declared.node.Entry.{Entry}
use Rattle.gobject.specs.Objects.{position_of}
use Rattle.gdag.specs.Offer.{IsOffer, MayBeOffered}
use Rattle.gwalk.specs.Offers.{IsUnderway}
use Rattle.gwalk.specs.declared.offer.Tour.{Tour}

-- the marked ids are exactly the ids of the list
abbrev pub HasMarks : {A : Type 0} → List (Entry A) → List Id → List Bool → Type 0
HasMarks g ids marks =
    (a : Id) (position : ℕ) → position_of g a ≡ Some position → (slice_index_or marks position false ≡ true) ↔ Contains ids a

-- `list` is the offer, and the tour can be resumed: after the ids of `list` are sent, none of the visited ids may be
-- offered
pub record GoesOn {A : Type 0} (g : List (Entry A)) (tips commons sent : List Id) (n : ℕ) (list : List Id)
    (tour : Tour A) : Type 0 where
  pub offer : IsOffer g tips commons sent n list
  pub front : List Id
  pub back : List Id
  pub underway :
      IsUnderway g tips front back tour.walk.marks.items tour.walk.met.items tour.walk.missing
      tour.walk.parent_count tour.at
  pub told : All (λ a. ¬ (MayBeOffered g commons (sent ++ list) a)) front
