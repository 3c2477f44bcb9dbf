-- Commits of a commit-graph.
use Rattle.std.proofs.Common.{◌≡◌, ◌∙◌, ℕ, ◌+◌, ◌<◌, List, [], ◌∷◌, ◌++◌, All, Option, Some, ap, get_or, length, map, take, sym, subst, refl}
use Rattle.std.specs.List.{HoldsAt}
use Rattle.std.specs.Option.{option_map}
use Rattle.std.specs.declared.vec.Vec.{Vec}
use Rattle.std.proofs.lemmas.List.{map_more, map_push}
use Rattle.std.proofs.lemmas.List.Elements.{All-get_or, Contains-get_or}
use Rattle.std.proofs.lemmas.Option.{slice_get-get_or}
use Rattle.gname.specs.Ids.{Id}
use Rattle.gobject.specs.Objects.{entry_of, node_of}
use Rattle.gobject.specs.declared.node.Kind.TheVariants as kinds
use Rattle.gobject.specs.declared.node.Entry.{Entry}
use Rattle.gitcommitgraph.specs.Chains.{ListsParents}
use Rattle.gitcommitgraph.specs.Files as files
use Rattle.gitrepository.specs.Entries.{IsOfCommit, id_at}

-- an arbitrary commit, the default for a position past the last commit
some_commit : files.Commit
some_commit = record { id = []; parents = [] }

-- if the commit at a valid position has this id, `id_at` returns the id
id_at_is : (commits : List files.Commit) (position : ℕ) (id : Id) → position < length commits → HoldsAt (λ commit. commit.id ≡ id) commits position → id_at commits position ≡ Some id
id_at_is commits position id inside is =
    ap (option_map (λ commit. commit.id)) (slice_get-get_or commits position some_commit inside) ∙ ap Some (is some_commit)

-- if `ids` are the ids of the commits at the first `i` of these positions, appending the id at the next position gives
-- the ids at the first `i + 1` positions
pub ids_pushed : (commits : List files.Commit) (positions : List ℕ) (i position : ℕ) (ids : List Id) (id : Id) → i < length positions → position ≡ get_or positions i position → All (λ p. p < length commits) positions → map (id_at commits) (take i positions) ≡ map Some ids → HoldsAt (λ commit. commit.id ≡ id) commits position → map (id_at commits) (take (i + 1) positions) ≡ map Some (ids ++ id ∷ [])
ids_pushed commits positions i position ids id more this all named is =
    let inside = subst (λ p. p < length commits) (sym this) (All-get_or (λ p. p < length commits) positions i position more all) in
    map_more (id_at commits) positions i position more
    ∙ ap (λ p. map (id_at commits) (take i positions) ++ id_at commits p ∷ []) (sym this)
    ∙ ap (λ all. all ++ id_at commits position ∷ []) named
    ∙ ap (λ last. map Some ids ++ last ∷ []) (id_at_is commits position id inside is)
    ∙ sym (map_push Some ids id)

-- the entry with the id of the commit at a position, and with the ids of its parents, describes this commit
pub is_of_commit : {A B : Type 0} (commits : List files.Commit) (position : ℕ) (positions : Vec ℕ A) (id : Id) (ids : List Id) → position < length commits → HoldsAt (λ commit. commit.id ≡ id) commits position → HoldsAt (λ commit. ListsParents 64 commit.parents (Some positions)) commits position → map (id_at commits) positions.items ≡ map Some ids → IsOfCommit {A = B} commits (entry_of id (node_of kinds.Commit ids))
is_of_commit commits position positions id ids inside is lists named =
    record {
      commit = get_or commits position some_commit;
      parents = ids;
      among = Contains-get_or commits position some_commit inside;
      id = sym (is some_commit);
      named = ap (map (id_at commits)) (sym (lists some_commit).0) ∙ named;
      node = refl;
    }
