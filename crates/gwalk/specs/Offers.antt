-- Offering of ids in batches. Each batch resumes the same walk from the client's tips (gitprotocol-v2(5), "fetch":
-- `have`). Positions are in insertion order.
use Rattle.std.specs.Prelude.{◌≡◌, ◌↔◌, ℕ, suc, Bool, true, false, List, [], ◌++◌, length, slice_index_or, All, Option}
use Rattle.std.specs.Prelude.{Some}
use Rattle.gname.specs.Ids.{Id}
use Rattle.gobject.specs.declared.node.Entry.{Entry}
use Rattle.gobject.specs.Objects.{position_of}
use Rattle.gdag.specs.Levels.{level, levels_below, new_ids, parents_of_each}
use Rattle.gdag.specs.Offer.{MayBeOffered}
use Rattle.gdag.specs.Reach.{SomeReaches}
use Rattle.gwalk.specs.Walks.{HasMet, places}
use Rattle.gwalk.specs.declared.offer.Offers.{Offers}

-- A walk from the tips has met the ids in `ids`, and has visited the first `at` of them. The walk has met all ids of
-- levels 0 to k and zero or more ids of level k + 1, but has not visited any id of level k + 1. The parents of the
-- unvisited ids of levels 0 to k complete level k + 1.
pub record IsWalked {A : Type 0} (g : List (Entry A)) (tips ids : List Id) (at : ℕ) : Type 0 where
  pub k : ℕ
  pub done : List Id
  pub rest : List Id
  pub more : List Id
  pub levels : levels_below g tips (suc k) ≡ done ++ rest
  pub has : ids ≡ (done ++ rest) ++ more
  pub position : length done ≡ at
  pub ahead : ids ++ new_ids ids (parents_of_each g rest) ≡ levels_below g tips (suc (suc k))

-- the state of a walk that has visited the ids of `front`, and has met but not visited the ids of `back`; `at` is the
-- number of visited ids that the graph contains
pub record IsUnderway {A : Type 0} (g : List (Entry A)) (tips front back : List Id) (marks : List Bool) (met : List ℕ)
    (lost : Option Id) (parents at : ℕ) : Type 0 where
  pub walked : IsWalked g tips (front ++ back) (length front)
  pub has_met : HasMet g (front ++ back) marks met lost parents
  pub position : length (places g front) ≡ at

-- the marked ids are exactly those that one of the given ids reaches
abbrev pub AreReached : {A : Type 0} → List (Entry A) → List Id → List Bool → Type 0
AreReached g ids marks =
    (a : Id) (position : ℕ) → position_of g a ≡ Some position
    → (slice_index_or marks position false ≡ true) ↔ SomeReaches g ids a

-- The state after zero or more batches. The walk from the tips has not visited any id that may still be offered. The
-- sent ids and the ids that common ids reach are marked.
pub record AreOffers {A : Type 0} (g : List (Entry A)) (tips commons sent : List Id) (offers : Offers A) : Type 0 where
  pub front : List Id
  pub back : List Id
  pub underway :
      IsUnderway g tips front back offers.tour.walk.marks.items offers.tour.walk.met.items offers.tour.walk.missing
      offers.tour.walk.parent_count offers.tour.at
  pub told : All (λ a. ¬ (MayBeOffered g commons sent a)) front
  pub known : AreReached g commons offers.known.items
  pub heard : offers.marked_commons ≡ length commons
  pub met : HasMet g (new_ids [] sent) offers.sent.marks.items offers.sent.met.items offers.sent.missing
      offers.sent.parent_count
