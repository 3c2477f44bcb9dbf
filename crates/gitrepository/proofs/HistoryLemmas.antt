-- Objects that enter a graph.
use Rattle.std.proofs.Common.{◌≡◌, ◌⊎◌, inl, inr, Bool, List, [], ◌∷◌, ◌++◌, All, Option, None, Some, IfSome, Result, Ok, Err, sym, subst, ◌∙◌}
use Rattle.std.specs.Option.{option_to_list}
use Rattle.std.proofs.lemmas.List.{append-nil}
use Rattle.std.proofs.lemmas.List.Elements.{All-push}
use Rattle.gname.proofs.ListLemmas.{All-parts}
use Rattle.gobject.specs.Objects.{node_at}
use Rattle.gobject.specs.declared.node.Entry.{Entry}
use Rattle.gdag.specs.Graphs.{History, IsNode, IsOrdered}
use Rattle.gdag.specs.Insert.{AddsOne}
use Rattle.gdag.specs.declared.fault.GraphFault.{GraphFault}
use Rattle.gitcommitgraph.specs.Files.{Commit}
use Rattle.gitrepository.specs.Entries.{IsKnown}
use Rattle.gitrepository.specs.Repositories.{IsHistory}

came : {A : Type 0} (P : Entry A → Type 0) (old new : List (Entry A)) (entry : Entry A) → All P old → P entry → (IsNode old entry.id entry.node × (new ≡ old)) ⊎ ((node_at old entry.id ≡ None) × (new ≡ old ++ entry ∷ [])) → All P new
came P old new entry all this (inl there) = subst (All P) (sym there.1) all
came P old new entry all this (inr comes) = subst (All P) (sym comes.1) (All-push P old entry all this)

-- if all entries of a graph are known, all are known after a known entry is added or refused
pub known_inserted : {A : Type 0} (commits : List Commit) (old new : History A) (entry : Entry A) (result : Result Bool GraphFault) → AddsOne old entry new result → All (IsKnown commits) old.entries → IsKnown commits entry → All (IsKnown commits) new.entries
known_inserted commits old new entry (Ok is_new) adds all this = came (IsKnown commits) old.entries new.entries entry all this adds.1.comes
known_inserted commits old new entry (Err fault) adds all this = subst (λ g. All (IsKnown commits) g.entries) (sym adds.0) all

-- if all entries of a list are known, all are known after a known entry is appended
pub known_pushed : {A : Type 0} (commits : List Commit) (old new : List (Entry A)) (entry : Entry A) → new ≡ old ++ entry ∷ [] → All (IsKnown commits) old → IsKnown commits entry → All (IsKnown commits) new
known_pushed commits old new entry is all this = subst (All (IsKnown commits)) (sym is) (All-push (IsKnown commits) old entry all this)

-- if all entries of a list are known, the last entry is known when it is removed, and the remaining entries are known
pub known_popped : {A : Type 0} (commits : List Commit) (old new : List (Entry A)) (last : Option (Entry A)) → old ≡ new ++ option_to_list last → All (IsKnown commits) old → All (IsKnown commits) new × IfSome last (IsKnown commits)
known_popped commits old new None is all = (subst (All (IsKnown commits)) (is ∙ append-nil new) all, tt)
known_popped commits old new (Some entry) is all = All-parts (IsKnown commits) new entry (subst (All (IsKnown commits)) is all)

-- a graph is a history if its entries are known and parents precede their children
pub is_history : {A : Type 0} (commits : List Commit) (graph : History A) → All (IsKnown commits) graph.entries → IsOrdered graph.entries → IsHistory commits graph
is_history commits graph known order = record { known = known; order = order }
