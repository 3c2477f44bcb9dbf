-- Definitions for the proofs of passes over a graph in which each object comes after its parents: positions, marks, and
-- the meaning of the marks during and after a pass.
use Rattle.std.specs.Prelude.{◌≡◌, ◌⊎◌, ℕ, zero, suc, ◌+◌, ◌<◌, ◌≤◌, Bool, true, false, not, ◌&&◌, Some}
use Rattle.std.specs.Prelude.{List, length, slice_index_or, All, Contains}
use Rattle.std.specs.List.{Any}
use Rattle.gname.specs.Ids.{Id}
use Rattle.gobject.specs.declared.node.Entry.{Entry}
use Rattle.gobject.specs.Objects.{position_of, IdsDiffer, IsShaped}
use Rattle.gdag.specs.Graphs.{HasParent, IsOrdered, max_nodes}
use Rattle.gdag.specs.Peeling.{IsTagOf, IsCommit, Tags}
use Rattle.gdag.specs.Reach.{Reaches, SomeReaches}
use Rattle.gdag.specs.Sending.{IsNew}

-- a list of ids
abbrev pub IdList : Type 0
IdList = List Id

-- the object at position `p` has the object at position `q` as a parent
pub record IsEdge {A : Type 0} (g : List (Entry A)) (p q : ℕ) : Type 0 where
  pub child : Id
  pub parent : Id
  pub edge : HasParent g child parent
  pub child_at : position_of g child ≡ Some p
  pub parent_at : position_of g parent ≡ Some q

-- a valid graph in which each entry comes after its parents
pub record IsInOrder {A : Type 0} (g : List (Entry A)) : Type 0 where
  pub differ : IdsDiffer g
  pub shaped : All (λ entry. IsShaped entry.node) g
  pub few : length g ≤ max_nodes
  pub ordered : IsOrdered g

-- the position of one of the ids
pub record IsPositionOf {A : Type 0} (g : List (Entry A)) (ids : IdList) (p : ℕ) : Type 0 where
  pub id : Id
  pub among : Contains ids id
  pub at : position_of g id ≡ Some p

-- one of the ids reaches the object at this position
pub record IsReachedAt {A : Type 0} (g : List (Entry A)) (ids : IdList) (p : ℕ) : Type 0 where
  pub id : Id
  pub at : position_of g id ≡ Some p
  pub reached : SomeReaches g ids id

-- the object at this position reaches one of the ids
pub record IsReachingAt {A : Type 0} (g : List (Entry A)) (ids : IdList) (p : ℕ) : Type 0 where
  pub id : Id
  pub at : position_of g id ≡ Some p
  pub reaching : Any (Reaches g id) ids

-- the object at this position is new: some want reaches the object, and no common id reaches it
pub record IsNewAt {A : Type 0} (g : List (Entry A)) (wants commons : IdList) (p : ℕ) : Type 0 where
  pub id : Id
  pub at : position_of g id ≡ Some p
  pub new : IsNew g wants commons id

-- ---- marks by position

-- whether the position is marked; a position past the end is unmarked
abbrev pub is_marked : List Bool → ℕ → Bool
is_marked marks p = slice_index_or marks p false

abbrev pub IsMarked : List Bool → ℕ → Type 0
IsMarked marks p = is_marked marks p ≡ true

-- the marks `new` are the marks `old`, with additional marks at the positions of the ids below the end of the marks
pub record MarksAll {A : Type 0} (g : List (Entry A)) (ids : IdList) (old new : List Bool) : Type 0 where
  pub long : length new ≡ length old
  pub kept : (p : ℕ) → IsMarked old p → IsMarked new p
  pub marked : (p : ℕ) → IsPositionOf g ids p → p < length old → IsMarked new p
  pub only : (p : ℕ) → IsMarked new p → IsMarked old p ⊎ IsPositionOf g ids p

-- whether a position is open: marked as wanted and not as known
abbrev pub is_open : List Bool → List Bool → ℕ → Bool
is_open wanted known p = is_marked wanted p && not (is_marked known p)

-- the number 1 for `true`, and 0 for `false`
abbrev pub one : Bool → ℕ
one true = 1
one false = 0

-- the number of open positions below `n`
unfoldable pub open_below : List Bool → List Bool → ℕ → ℕ
open_below wanted known zero = 0
open_below wanted known (suc n) = open_below wanted known n + one (is_open wanted known n)

-- `pending` is the number of open positions below `next`
pub record IsCounted (wanted known : List Bool) (next pending : ℕ) : Type 0 where
  pub long : length known ≡ length wanted
  pub inside : next ≤ length wanted
  pub count : pending ≡ open_below wanted known next
  pub some : 0 < pending → 1 ≤ next

-- ---- the pass down

-- The state of a pass down that has visited `next` and all higher positions. The wants are marked as wanted, and the
-- common ids as known. Every object marked as wanted is reachable from a want, and every object marked as known is
-- reachable from a common id. Each parent of a visited known object is marked as known. Each parent of a visited wanted
-- object is marked as wanted or as known.
pub record IsPassed {A : Type 0} (g : List (Entry A)) (wants commons : IdList)
    (wanted known : List Bool) (next : ℕ) : Type 0 where
  pub wants_in : (p : ℕ) → IsPositionOf g wants p → IsMarked wanted p
  pub commons_in : (p : ℕ) → IsPositionOf g commons p → IsMarked known p
  pub wanted_sound : (p : ℕ) → IsMarked wanted p → IsReachedAt g wants p
  pub known_sound : (p : ℕ) → IsMarked known p → IsReachedAt g commons p
  pub wanted_ahead : (p q : ℕ) → IsEdge g p q → next ≤ p → IsMarked wanted p → IsMarked wanted q ⊎ IsMarked known q
  pub known_ahead : (p q : ℕ) → IsEdge g p q → next ≤ p → IsMarked known p → IsMarked known q

-- the open positions are exactly those of the new objects, and no position below `next` is open
pub record IsDone {A : Type 0} (g : List (Entry A)) (wants commons : IdList)
    (wanted known : List Bool) (next : ℕ) : Type 0 where
  pub new : (p : ℕ) → is_open wanted known p ≡ true → IsNewAt g wants commons p
  pub all : (p : ℕ) → IsNewAt g wants commons p → is_open wanted known p ≡ true
  pub above : (p : ℕ) → is_open wanted known p ≡ true → next ≤ p

-- ---- the pass up

-- at least one of the ids has a marked position
pub record HasMarked {A : Type 0} (g : List (Entry A)) (ids : IdList) (marks : List Bool) : Type 0 where
  pub position : ℕ
  pub among : IsPositionOf g ids position
  pub marked : IsMarked marks position

-- the object at each marked position reaches a goal, and each position below `n` whose object reaches a goal is marked
pub record MarksReaching {A : Type 0} (g : List (Entry A)) (goals : IdList) (n : ℕ) (marks : List Bool) : Type 0 where
  pub sound : (p : ℕ) → IsMarked marks p → IsReachingAt g goals p
  pub all : (p : ℕ) → p < n → IsReachingAt g goals p → IsMarked marks p

-- ---- tags

-- the object at this position is a commit
pub record IsCommitAt {A : Type 0} (g : List (Entry A)) (p : ℕ) : Type 0 where
  pub id : Id
  pub at : position_of g id ≡ Some p
  pub commit : IsCommit g id

-- the object at position `p` is a tag of the object at the earlier position `q`
pub record IsTagAt {A : Type 0} (g : List (Entry A)) (p q : ℕ) : Type 0 where
  pub id : Id
  pub at : position_of g id ≡ Some p
  pub named : Id
  pub named_at : position_of g named ≡ Some q
  pub tag : IsTagOf g id named
  pub below : q < p

-- a chain of tags leads from the object at position `p` to the object at position `q`
pub record IsLedTo {A : Type 0} (g : List (Entry A)) (p q : ℕ) : Type 0 where
  pub id : Id
  pub at : position_of g id ≡ Some p
  pub end : Id
  pub end_at : position_of g end ≡ Some q
  pub steps : ℕ
  pub leads : Tags g steps id end

-- the object at position `p` peels to the commit at position `q`
pub record IsPeeledAt {A : Type 0} (g : List (Entry A)) (p q : ℕ) : Type 0 where
  pub led : IsLedTo g p q
  pub commit : IsCommitAt g q

-- the object at position `q` is a tag in the chain of tags that begins at position `p`
pub record IsOnChain {A : Type 0} (g : List (Entry A)) (p q : ℕ) : Type 0 where
  pub led : IsLedTo g p q
  pub next : Id
  pub tag : IsTagOf g led.end next

-- the marks `new` are the marks `old`, with additional marks for the tags in the chain that begins at `start`
pub record MarksChain {A : Type 0} (g : List (Entry A)) (start : ℕ) (old new : List Bool) : Type 0 where
  pub long : length new ≡ length old
  pub kept : (p : ℕ) → IsMarked old p → IsMarked new p
  pub marked : (p : ℕ) → IsOnChain g start p → IsMarked new p
  pub only : (p : ℕ) → IsMarked new p → IsMarked old p ⊎ IsOnChain g start p

-- the object at this position is a tag in the chain of tags from some tip to an open commit
pub record IsOpenTag {A : Type 0} (g : List (Entry A)) (tips : IdList) (wanted known : List Bool) (p : ℕ) : Type 0 where
  pub start : ℕ
  pub tip : IsPositionOf g tips start
  pub chain : IsOnChain g start p
  pub commit : ℕ
  pub peeled : IsPeeledAt g start commit
  pub open_there : is_open wanted known commit ≡ true

-- the marked positions are exactly those of the tags in the chains from tips to open commits
pub record MarksTags {A : Type 0} (g : List (Entry A)) (tips : IdList) (wanted known tagged : List Bool) : Type 0 where
  pub marked : (p : ℕ) → IsOpenTag g tips wanted known p → IsMarked tagged p
  pub only : (p : ℕ) → IsMarked tagged p → IsOpenTag g tips wanted known p
