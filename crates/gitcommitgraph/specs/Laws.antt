-- Laws that follow from the definitions of commit-graphs.
use Rattle.std.specs.Prelude.{◌≡◌, ◌<◌, ◌^◌, ℕ, List, length}
use Rattle.gname.specs.Ids.{Id}
use Rattle.gitcommitgraph.specs.Chains.{IsChainText}
use Rattle.gitcommitgraph.specs.Files.{GraphFile}
use Rattle.gitcommitgraph.specs.Texts.{IsGraphText}

-- a text of fewer than 2^64 bytes encodes at most one commit-graph file
abbrev pub FilesAreOne : Type 0
FilesAreOne =
    (one other : GraphFile) (text : List ℕ)
    → IsGraphText one text → IsGraphText other text → length text < 2 ^ 64 → one ≡ other

-- a text lists the files of at most one chain
abbrev pub ChainsAreOne : Type 0
ChainsAreOne = (one other : List Id) (text : List ℕ) → IsChainText one text → IsChainText other text → one ≡ other
