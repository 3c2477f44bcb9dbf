-- The objects that a server sends for the wants, to a client that already has the common ids and all their ancestors
-- (gitprotocol-v2(5), "fetch": `want`, `have`, `include-tag`).
use Rattle.std.specs.Prelude.{◌⊎◌, ℕ, List, Contains}
use Rattle.gname.specs.Ids.{Id}
use Rattle.gobject.specs.declared.node.Entry.{Entry}
use Rattle.gdag.specs.Reach.{SomeReaches}
use Rattle.gdag.specs.Peeling.{IsTagOf, Tags, PeelsTo}
use Rattle.gdag.specs.Selecting.{Selects}

-- an id that some want reaches, and that no common id reaches
pub record IsNew {A : Type 0} (g : List (Entry A)) (wants commons : List Id) (a : Id) : Type 0 where
  pub wanted : SomeReaches g wants a
  pub unknown : ¬ (SomeReaches g commons a)

-- a tag in a chain of tags that leads from a tip to a commit to send
pub record IsTagToSend {A : Type 0} (g : List (Entry A)) (wants commons tips : List Id) (a : Id) : Type 0 where
  pub tip : Id
  pub among : Contains tips tip
  pub steps : ℕ
  pub leads : Tags g steps tip a
  pub next : Id
  pub tag : IsTagOf g a next
  pub commit : Id
  pub peels : PeelsTo g a commit
  pub new : IsNew g wants commons commit

-- an object to send: a new object, or a tag in a chain of tags to a new commit
abbrev pub IsToSend : {A : Type 0} → List (Entry A) → List Id → List Id → List Id → Entry A → Type 0
IsToSend g wants commons tips entry = IsNew g wants commons entry.id ⊎ IsTagToSend g wants commons tips entry.id

-- the objects to send, in the order of insertion; without `include-tag` the list of tips is empty
abbrev pub IsListToSend : {A : Type 0} → List (Entry A) → List Id → List Id → List Id → List (Entry A) → Type 0
IsListToSend g wants commons tips list = Selects (IsToSend g wants commons tips) g list
