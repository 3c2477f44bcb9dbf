-- The server that is loaded from a file.
use Rattle.std.proofs.Common.{◌≡◌, ℕ, List, [], ◌∷◌, ◌++◌, Option, Some, None, refl, sym, ap, subst}
use Rattle.std.specs.Prelude.{All, IsSome, option_map}
use Rattle.std.specs.List.{flat_map}
use Rattle.std.specs.Option.{option_or}
use Rattle.std.proofs.lemmas.Bool.{false≢true}
use Rattle.std.proofs.lemmas.List.Elements.{All-append, All-nil, All-weaker}
use Rattle.std.proofs.lemmas.List.Folds.{find-append}
use Rattle.gdag.proofs.OrderLemmas.{all_at}
use Rattle.gobject.specs.Objects.{has_id}
use Rattle.gobject.specs.declared.node.Entry.{Entry}
use Rattle.gdag.specs.Graphs.{Holds, IsFirstAbsent}
use Rattle.ganswer.specs.Servers.{Server, IsServer, IsUnserved, parents_in}
use Rattle.ganswer.specs.declared.fault.BuildFault.{BuildFault}
use Rattle.ganswer.specs.declared.fault.BuildFault.TheVariants as build
use Rattle.gcmd.specs.Serving.{MissesPart, NamesParts, NamesServer, RefusesFile}
use Rattle.gcmd.specs.declared.fault.ProgramFault.{ProgramFault}
use Rattle.gcmd.specs.declared.fault.ProgramFault.TheVariants as program

-- if the file encodes the graph, refs and HEAD of a valid server, the file is the text of the server's repository
pub names_server : {A : Type 0} (file : List ℕ) (parts server : Server A) → NamesParts file parts → server ≡ parts → IsServer server → NamesServer file server
names_server file parts server names same whole = record { names = subst (NamesParts file) (sym same) names; whole = whole }

-- ---- parents of the objects in a file

-- if `P` holds for all elements of `f x`, for each `x` of a list `xs`, then `P` holds for all elements of
-- `flat_map f xs`
all_parts : {X Y : Type 0} (f : X → List Y) (P : Y → Type 0) (xs : List X)
    → ((front : List X) (x : X) (rest : List X) → xs ≡ front ++ x ∷ rest → All P (f x)) → All P (flat_map f xs)
all_parts f P [] each = All-nil P
all_parts f P (x ∷ xs) each =
    All-append P (f x) (flat_map f xs) (each [] x xs refl) (all_parts f P xs (λ front y rest e. each (x ∷ front) y rest (ap (λ l. x ∷ l) e)))

some_or : {X Y : Type 0} (f : X → Y) (a b : Option X) → IsSome (option_map f a) → IsSome (option_map f (option_or a b))
some_or f (Some x) b h = h
some_or f None b h = absurd (false≢true h)

-- an id that a list of entries holds is still held after more entries are appended
holds_more : {A : Type 0} (g more : List (Entry A)) (id : List ℕ) → Holds g id → Holds (g ++ more) id
holds_more {A} g more id h =
    subst (λ found. IsSome (option_map (λ (entry : Entry A). entry.node) found)) (sym (find-append (has_id id) g more)) (some_or _ _ _ h)

module _ {A : Type 0} (file : List ℕ) (parts : Server A) (names : NamesParts file parts) where
  parents_held : All (Holds parts.graph.entries) (parents_in parts.graph.entries)
  parents_held =
      let g = parts.graph.entries in
      all_parts (λ (entry : Entry A). entry.node.parents) (Holds g) g
      (λ front entry rest e. All-weaker (Holds front) (Holds g) (λ id h. subst (λ l. Holds l id) (sym e) (holds_more front (entry ∷ rest) id h))
      entry.node.parents (names.loadable.nodes front entry rest e).after)

  none_absent : (id : List ℕ) → IsFirstAbsent parts.graph.entries (parents_in parts.graph.entries) id → ⊥
  none_absent id absent =
      let P = Holds parts.graph.entries in
      let held : P id = all_at P absent.front id absent.rest (subst (All P) absent.parts parents_held) in
      false≢true (subst (λ (node : Option _). IsSome node) absent.absent held)

  misses_part : (cause : BuildFault A) → IsUnserved parts cause → MissesPart parts cause
  misses_part (build.NotClosed id) unserved = none_absent id unserved
  misses_part (build.Graph fault) unserved = unserved
  misses_part (build.Refs fault) unserved = unserved
  misses_part (build.RefMissing name) unserved = unserved
  misses_part build.HeadMissing unserved = unserved
  misses_part (build.MissingParent id) unserved = unserved
  misses_part build.Memory unserved = unserved

  -- a file is rejected if its parts do not form a server
  pub refuses_file : (cause : BuildFault A) (fault : ProgramFault A) → IsUnserved parts cause → fault ≡ program.Build cause → RefusesFile file fault
  refuses_file cause fault unserved same = subst (RefusesFile file) (sym same) (parts, names, misses_part cause unserved)
