-- The laws of graphs.
use Rattle.std.specs.Prelude.{◌≡◌, ◌≢◌, ◌<◌, ◌≤◌, ◌⊎◌, ◌↔◌, ℕ, List, ◌∷◌, ◌++◌, length, All, Contains, None, Some, slice_get}
use Rattle.std.specs.List.{IsDistinct}
use Rattle.std.specs.Str.{bytes_eq}
use Rattle.gname.specs.Ids.{Id}
use Rattle.gobject.specs.declared.node.Entry.{Entry}
use Rattle.gobject.specs.Objects.{node_at, position_of, entry_of, IdsDiffer, IsShaped}
use Rattle.gname.specs.declared.formats.Format.{Format}
use Rattle.gdag.specs.declared.fault.GraphFault.{GraphFault}
use Rattle.gdag.specs.declared.fault.GraphFault.TheVariants.{TooMany, Memory}
use Rattle.gdag.specs.Graphs.{History, Holds, HoldsParents, IsNode, IsGraph, IsOrdered, HasIdsOf, max_nodes}
use Rattle.gobject.specs.declared.node.Node.{Node}
use Rattle.gobject.specs.Packs.{AreEntries}
use Rattle.gdag.specs.Reach.{Reaches, IsConnected, IsClosed, Agree, Grows, Keeps, SomeReaches}
use Rattle.gdag.specs.Insert.{ComesIn, Inserts, IsCause, IsRefused}
use Rattle.gdag.specs.Peeling.{IsTagOf, PeelsTo}
use Rattle.gdag.specs.Sending.{IsListToSend}
use Rattle.gdag.specs.Levels.{distinct_of, level, AreDistances}
use Rattle.gdag.specs.Offer.{IsExact}
use Rattle.gdag.specs.Walks.{CountsReached, common_of}

-- the entry could be appended to the graph: its id is new, its ids have the format, its node is well-shaped, and the
-- graph has room
pub record MayComeNext {A : Type 0} (format : Format) (g : List (Entry A)) (entry : Entry A) : Type 0 where
  pub absent : node_at g entry.id ≡ None
  pub ids : HasIdsOf format entry
  pub shaped : IsShaped entry.node
  pub room : length g < max_nodes

-- each entry of a graph could be appended to the entries before it
abbrev pub EntriesComeInOrder : Type 0 → Type 0
EntriesComeInOrder A =
    (format : Format) (front : List (Entry A)) (entry : Entry A) (back : List (Entry A))
    → IsGraph (record { format = format; entries = front ++ entry ∷ back }) → MayComeNext format front entry

-- there is only one possible reason to refuse an entry
abbrev pub OneCause : Type 0 → Type 0
OneCause A =
    (format : Format) (g : List (Entry A)) (entry : Entry A) (fault other : GraphFault)
    → IsCause format g entry fault → IsCause format g entry other → fault ≡ other

-- a refused list has only one possible fault, apart from out of memory
abbrev pub OneRefusal : Type 0 → Type 0
OneRefusal A =
    (format : Format) (old entries : List (Entry A)) (fault other : GraphFault)
    → IsRefused format old entries fault → IsRefused format old entries other
    → fault ≢ Memory → other ≢ Memory → fault ≡ other

-- a list whose entries can all be inserted is refused only if memory runs out, and the graph after the insertion is
-- unique
abbrev pub WholeListsComeIn : Type 0 → Type 0
WholeListsComeIn A =
    (format : Format) (old entries new : List (Entry A))
    → Inserts format old entries new
    → ((fault : GraphFault) → IsRefused format old entries fault → fault ≡ Memory)
    × ((other : List (Entry A)) → Inserts format old entries other → new ≡ other)

-- a graph is closed exactly when each id that it contains is connected
abbrev pub ClosedIsConnected : Type 0 → Type 0
ClosedIsConnected A = (g : List (Entry A)) → IsClosed g ↔ ((a : Id) → Holds g a → IsConnected g a)

-- reachability is transitive
abbrev pub ReachingGoesOn : Type 0 → Type 0
ReachingGoesOn A = (g : List (Entry A)) (a b c : Id) → Reaches g a b → Reaches g b c → Reaches g a c

-- if a graph keeps all its nodes, a connected id stays connected and reaches nothing new
abbrev pub ConnectedStaysConnected : Type 0 → Type 0
ConnectedStaysConnected A =
    (g h : List (Entry A)) (a : Id) → Keeps g h → IsConnected g a
    → IsConnected h a × ((b : Id) → Reaches h a b → Reaches g a b)

-- if two graphs agree and `a` is connected in the second, each path from `a` in the first is a path in the second
abbrev pub PathsAreShared : Type 0 → Type 0
PathsAreShared A = (g h : List (Entry A)) (a b : Id) → Agree g h → IsConnected h a → Reaches g a b → Reaches h a b

-- a graph that grows keeps all its nodes
abbrev pub GrowingKeeps : Type 0 → Type 0
GrowingKeeps A = (g h : List (Entry A)) → Grows g h → Keeps g h

-- growth of graphs is transitive
abbrev pub GrowingGoesOn : Type 0 → Type 0
GrowingGoesOn A = (f g h : List (Entry A)) → Grows f g → Grows g h → Grows f h

-- a graph grows when an entry is inserted
abbrev pub ComingGrows : Type 0 → Type 0
ComingGrows A =
    (format : Format) (g : List (Entry A)) (entry : Entry A) (h : List (Entry A)) → ComesIn format g entry h → Grows g h

-- each id that a graph contains has a node
abbrev pub HoldingIsANode : Type 0 → Type 0
HoldingIsANode A = (g : List (Entry A)) (a : Id) → Holds g a → (node : Node A) × IsNode g a node

-- a graph that keeps all its nodes keeps all its ids
abbrev pub KeepingHolds : Type 0 → Type 0
KeepingHolds A = (g h : List (Entry A)) (a : Id) → Keeps g h → Holds g a → Holds h a

-- in a graph that keeps all its nodes, an id still reaches every id that it reached before
abbrev pub KeepingReaches : Type 0 → Type 0
KeepingReaches A = (g h : List (Entry A)) (a b : Id) → Keeps g h → Reaches g a b → Reaches h a b

-- if the graph contains the entry's id, it maps that id to the entry's node
abbrev pub AgreesWith : {A : Type 0} → List (Entry A) → Entry A → Type 0
AgreesWith {A} g entry = (node : Node A) → IsNode g entry.id node → node ≡ entry.node

-- two graphs still agree after entries are inserted into the second, if the first graph agrees with each of the entries
abbrev pub AgreeingStays : Type 0 → Type 0
AgreeingStays A =
    (g h entries new : List (Entry A)) (format : Format)
    → Agree g h → All (AgreesWith g) entries → Inserts format h entries new → Agree g new

-- if two graphs agree, the second refuses entries of the first only with `TooMany` or `Memory`; the entries must form a
-- valid graph of the second graph's format
abbrev pub AgreeingEntriesFit : Type 0 → Type 0
AgreeingEntriesFit A =
    (g h entries : List (Entry A)) (format : Format) (fault : GraphFault)
    → IsGraph (record { format = format; entries = entries }) → Agree g h
    → All (λ entry. IsNode g entry.id entry.node) entries → IsRefused format h entries fault
    → (fault ≡ TooMany) ⊎ (fault ≡ Memory)

-- an id peels to at most one commit
abbrev pub PeelsToOne : Type 0 → Type 0
PeelsToOne A = (g : List (Entry A)) (a b c : Id) → PeelsTo g a b → PeelsTo g a c → b ≡ c

-- an id that peels to a commit is that commit itself, or a tag of an id that peels to that commit; the id reaches the
-- commit
abbrev pub PeelsAlongTags : Type 0 → Type 0
PeelsAlongTags A =
    (g : List (Entry A)) (a c : Id) → PeelsTo g a c
    → ((a ≡ c) ⊎ ((b : Id) × IsTagOf g a b × PeelsTo g b c)) × Reaches g a c

-- a graph is closed if each entry comes after its parents
abbrev pub OrderedIsClosed : Type 0 → Type 0
OrderedIsClosed A = (g : List (Entry A)) → IdsDiffer g → IsOrdered g → IsClosed g

-- if each entry of a graph comes after its parents, an id of the graph reaches only ids of the graph, at the same or a
-- lower position
abbrev pub ReachingGoesDown : Type 0 → Type 0
ReachingGoesDown A =
    (g : List (Entry A)) (a b : Id) (p : ℕ)
    → IdsDiffer g → IsOrdered g → Reaches g a b → position_of g a ≡ Some p → (q : ℕ) × (position_of g b ≡ Some q) × (q ≤ p)

-- a closed graph stays closed when an entry is inserted and the graph contains all parents of that entry
abbrev pub ClosedStays : Type 0 → Type 0
ClosedStays A =
    (format : Format) (g : List (Entry A)) (entry : Entry A) (h : List (Entry A))
    → IsClosed g → HoldsParents g entry → ComesIn format g entry h → IsClosed h

-- the entry at position `position` has this id and this node
abbrev pub IsAt : {A : Type 0} → List (Entry A) → ℕ → Id → Node A → Type 0
IsAt g position a node = slice_get g position ≡ Some (entry_of a node)

-- the graph maps an id to a node exactly when some entry has that id and that node, and each id has only one position
abbrev pub PositionsAreNodes : Type 0 → Type 0
PositionsAreNodes A =
    (g : List (Entry A)) → IdsDiffer g
    → ((a : Id) (node : Node A) → IsNode g a node ↔ ((position : ℕ) × IsAt g position a node))
    × ((a : Id) (position : ℕ) → (position_of g a ≡ Some position) ↔ ((node : Node A) × IsAt g position a node))

-- the wants, the common ids and the tips determine the list to send
abbrev pub OneListToSend : Type 0 → Type 0
OneListToSend A =
    (g list other : List (Entry A)) (wants commons tips : List Id)
    → IsListToSend g wants commons tips list → IsListToSend g wants commons tips other → list ≡ other

-- the entries of a list to send form a valid graph of the sender's format and a valid pack; each is an entry of the
-- sender's graph
abbrev pub SentAreEntries : Type 0 → Type 0
SentAreEntries A =
    (g : History A) (list : List (Entry A)) (wants commons tips : List Id)
    → IsGraph g → IsListToSend g.entries wants commons tips list
    → IsGraph (record { format = g.format; entries = list }) × AreEntries list
    × All (λ entry. IsNode g.entries entry.id entry.node) list

-- each want is connected in graph `h`, and `h` contains every id that the want reaches in graph `s`
abbrev pub HasAll : {A : Type 0} → List (Entry A) → List Id → List (Entry A) → Type 0
HasAll s wants h = All (λ want. IsConnected h want × ((a : Id) → Reaches s want a → Holds h a)) wants

-- If a client with graph `c` inserts the list that a server with graph `s` sends, each want is connected in the
-- client's new graph. The new graph contains every id that the wants reach in `s`. The graph `s` must be closed and
-- contain the wants, the graphs `s` and `c` must agree, and the common ids must be connected in `c`.
abbrev pub SendingIsEnough : Type 0 → Type 0
SendingIsEnough A =
    (s c list new : List (Entry A)) (wants commons tips : List Id) (format : Format)
    → IdsDiffer s → IsClosed s → Agree s c → All (Holds s) wants → All (IsConnected c) commons
    → IsListToSend s wants commons tips list → Inserts format c list new → HasAll s wants new

-- Let `s` be a closed graph that contains the wants, and let the graph `t` keep the nodes of `s`. If `HasAll s wants h`
-- holds, `HasAll t wants h` holds too.
abbrev pub KeepingHasAll : Type 0 → Type 0
KeepingHasAll A =
    (s t h : List (Entry A)) (wants : List Id)
    → IsClosed s → Keeps s t → All (Holds s) wants → HasAll s wants h → HasAll t wants h

-- ---- counts

-- the count of reachable ids is at least the length of any list of distinct ids that the graph contains and the tips
-- reach
abbrev pub ReachedAreCounted : Type 0 → Type 0
ReachedAreCounted A =
    (g : List (Entry A)) (tips ids : List Id) (held parents : ℕ)
    → CountsReached g tips held parents → IsDistinct bytes_eq ids
    → All (λ a. Holds g a × SomeReaches g tips a) ids → length ids ≤ held

-- when the graph grows, the counts for connected tips do not change
abbrev pub CountsStay : Type 0 → Type 0
CountsStay A =
    (g h : List (Entry A)) (tips : List Id) (held parents : ℕ)
    → Grows g h → IdsDiffer h → All (IsConnected g) tips
    → CountsReached g tips held parents → CountsReached h tips held parents

-- ---- levels, offers and common ids

-- level k has exactly the ids at distance k from the tips
abbrev pub LevelsAreDistances : Type 0 → Type 0
LevelsAreDistances A = (g : List (Entry A)) (tips : List Id) → AreDistances g tips

-- an id is in some level exactly when a tip reaches that id
abbrev pub LevelsAreReached : Type 0 → Type 0
LevelsAreReached A =
    (g : List (Entry A)) (tips : List Id) (a : Id)
    → ((k : ℕ) × Contains (level g tips k) a) ↔ SomeReaches g tips a

-- the offer is unique, and has exactly the ids that should be offered
abbrev pub OffersAreExact : Type 0 → Type 0
OffersAreExact A = (g : List (Entry A)) (tips commons sent : List Id) (n : ℕ) → IsExact g tips commons sent n

-- the common ids are the haves that the graph contains, each once
abbrev pub CommonsAreHeld : Type 0 → Type 0
CommonsAreHeld A =
    (g : List (Entry A)) (haves : List Id)
    → IsDistinct bytes_eq (common_of g haves)
    × ((a : Id) → Contains (common_of g haves) a ↔ (Contains haves a × Holds g a))

-- the distinct ids of a list are its ids, each once; they begin with the distinct ids of each prefix of the list
pub record AreDistinct (ids : List Id) : Type 0 where
  pub once : IsDistinct bytes_eq (distinct_of ids)
  pub same : (a : Id) → Contains (distinct_of ids) a ↔ Contains ids a
  pub order : (front back : List Id) → ids ≡ front ++ back →
      (rest : List Id) × (distinct_of ids ≡ distinct_of front ++ rest)

abbrev pub DistinctAreOnce : Type 0
DistinctAreOnce = (ids : List Id) → AreDistinct ids
