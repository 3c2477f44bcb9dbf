-- The files and positions of a commit-graph in memory.
use Rattle.std.specs.Prelude.{◌≡◌, ℕ, ◌<◌, ◌≤◌, List, All, length, slice_index_or}
use Rattle.gitcommitgraph.specs.Chains.{AreClosed, graph_commits}
use Rattle.gitcommitgraph.specs.Files.{Commit, GraphFile, IsGraphFile, file_commits, no_parent}

-- `files` are the files of a commit-graph in memory, and `count` is the number of their commits
pub record IsGraph (count : ℕ) (files : List GraphFile) : Type 0 where
  pub counted : count ≡ length (graph_commits files)
  pub few : count ≤ no_parent
  pub closed : AreClosed (graph_commits files)
  pub formed : All IsGraphFile files

-- the commit at this position in the chain is the commit at index `place` in `file`
pub record IsIn (files : List GraphFile) (position : ℕ) (file : GraphFile) (place : ℕ) : Type 0 where
  pub inside : place < length (file_commits file)
  pub same : (c : Commit) → slice_index_or (graph_commits files) position c ≡ slice_index_or (file_commits file) place c
