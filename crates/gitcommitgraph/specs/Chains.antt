-- Chains of commit-graph files (gitformat-commit-graph(5), "Base Graphs List"; git-commit-graph(1), "--split").
use Rattle.std.specs.Prelude.{◌≡◌, ◌≢◌, ℕ, ◌<◌, ◌≤◌, List, [], ◌∷◌, ◌++◌, All, Option, MatchOption, length, map}
use Rattle.std.specs.List.{HoldsAt, flat_map}
use Rattle.std.specs.declared.vec.Vec.{Vec}
use Rattle.gname.specs.Ids.{Id, IsIdTextOf}
use Rattle.gname.specs.declared.formats.Format.TheVariants.{Sha1}
use Rattle.gitcommitgraph.specs.Files.{Commit, GraphFile, HasPositionsBefore, file_commits, no_parent}
use Rattle.gitcommitgraph.specs.Texts.{IsGraphText}

-- the checksum of a file
abbrev pub checksum_of : GraphFile → Id
checksum_of file = file.checksum

-- The commits of a chain of files, the lowest file first. The position of a commit is its index in this list.
abbrev pub graph_commits : List GraphFile → List Commit
graph_commits files = flat_map file_commits files

-- the position of a commit with this id, or `None` if no commit has the id
abbrev pub FindsCommit : List Commit → Id → Option ℕ → Type 0
FindsCommit commits id result =
    MatchOption result (All (λ c. c.id ≢ id) commits)
    (λ position. (position < length commits) × HoldsAt (λ c. c.id ≡ id) commits position)

-- the result is the list of these parents, or `None` if there are more than `most` parents
abbrev pub ListsParents : {A : Type 0} → ℕ → List ℕ → Option (Vec ℕ A) → Type 0
ListsParents most parents found =
    MatchOption found (most < length parents) (λ list. (list.items ≡ parents) × (length parents ≤ most))

-- each parent of the commit has a position less than `end`
abbrev pub HasParentsBelow : ℕ → Commit → Type 0
HasParentsBelow end commit = All (λ position. position < end) commit.parents

-- each parent of each commit has the position of a commit in the list
abbrev pub AreClosed : List Commit → Type 0
AreClosed commits = All (HasParentsBelow (length commits)) commits

-- The chain `new` is the chain `old` with one more file. The base graphs of the new file are the earlier files. Each
-- parent position in the new file is the position of a commit, and there are at most 0x7000_0000 commits.
pub record AddsFile (old : List GraphFile) (text : List ℕ) (new : List GraphFile) : Type 0 where
  pub file : GraphFile
  pub is : IsGraphText file text
  pub after : new ≡ old ++ file ∷ []
  pub bases : file.bases ≡ map checksum_of old
  pub few : length (graph_commits new) ≤ no_parent
  pub within : HasPositionsBefore (length (graph_commits new)) file

-- ---- the file `commit-graph-chain`

-- a line: the hexadecimal digits of an id, and a line feed
pub record IsLine (id : Id) (line : List ℕ) : Type 0 where
  pub digits : List ℕ
  pub spelt : IsIdTextOf Sha1 digits id
  pub parts : line ≡ digits ++ 10 ∷ []

-- a line for the checksum of each file, the lowest file first
abbrev pub IsChainText : List Id → List ℕ → Type 0
IsChainText [] text = text ≡ []
IsChainText (id ∷ ids) text = (line more : List ℕ) × IsLine id line × (text ≡ line ++ more) × IsChainText ids more
