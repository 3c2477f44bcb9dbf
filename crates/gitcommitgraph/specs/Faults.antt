-- The reasons why a file cannot be added to a commit-graph, and their displayed texts.
use Rattle.std.specs.Prelude.{◌≢◌, ⊤, ℕ, ◌<◌, List, [], ◌∷◌, ◌++◌, codes, length, map}
use Rattle.gname.specs.Faults.{out_of_memory_text}
use Rattle.gitcommitgraph.specs.Chains.{checksum_of, graph_commits}
use Rattle.gitcommitgraph.specs.Files.{GraphFile, HasPositionsBefore, no_parent}
use Rattle.gitcommitgraph.specs.Texts.{IsGraphText}
use Rattle.gitcommitgraph.specs.declared.fault.CommitGraphFault.{CommitGraphFault}
use Rattle.gitcommitgraph.specs.declared.fault.CommitGraphFault.TheVariants.{Memory, Header, Contents, Chunk, Order, FanOut, Edges, Bases, TooMany, Parents}

-- the text is not a commit-graph file
abbrev pub IsNoFile : List ℕ → Type 0
IsNoFile text = (file : GraphFile) → ¬ IsGraphText file text

-- the text encodes a commit-graph file with this property
abbrev pub IsOfFile : List ℕ → (GraphFile → Type 0) → Type 0
IsOfFile text P = (file : GraphFile) × IsGraphText file text × P file

-- The condition under which this fault may be returned for the next file of a chain. `Memory` may always be returned.
-- Any other fault is returned only if the text is not a commit-graph file, or if the file has the fault.
abbrev pub IsRefused : List GraphFile → List ℕ → CommitGraphFault → Type 0
IsRefused old text Memory = ⊤
IsRefused old text Bases = IsOfFile text (λ file. file.bases ≢ map checksum_of old)
IsRefused old text TooMany = IsOfFile text (λ file. no_parent < length (graph_commits (old ++ file ∷ [])))
IsRefused old text Parents =
    IsOfFile text (λ file. ¬ HasPositionsBefore (length (graph_commits (old ++ file ∷ []))) file)
IsRefused old text Header = IsNoFile text
IsRefused old text Contents = IsNoFile text
IsRefused old text Chunk = IsNoFile text
IsRefused old text Order = IsNoFile text
IsRefused old text FanOut = IsNoFile text
IsRefused old text Edges = IsNoFile text

abbrev pub commit_graph_fault_text : CommitGraphFault → List ℕ
commit_graph_fault_text Memory = out_of_memory_text
commit_graph_fault_text Header = codes "the file is not a version 1 commit-graph with SHA-1 ids"
commit_graph_fault_text Contents = codes "the table of contents of the commit-graph is wrong"
commit_graph_fault_text Chunk = codes "a chunk of the commit-graph is missing or has a wrong length"
commit_graph_fault_text Order = codes "the ids of the commit-graph are not in ascending order"
commit_graph_fault_text FanOut = codes "the fan-out table of the commit-graph is wrong"
commit_graph_fault_text Edges = codes "an edge list of the commit-graph has no end"
commit_graph_fault_text Bases = codes "the base graphs of the commit-graph are not the earlier files"
commit_graph_fault_text TooMany = codes "the commit-graph has too many commits"
commit_graph_fault_text Parents = codes "a parent is not in the commit-graph"
