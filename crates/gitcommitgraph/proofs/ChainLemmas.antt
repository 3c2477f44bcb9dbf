-- The commits of a file and of a chain of files, by their positions.
use Rattle.std.proofs.Common.{◌≡◌, ◌≢◌, ℕ, ◌+◌, ◌<◌, ◌≤◌, List, [], ◌∷◌, ◌++◌, Option, Some, None, IfSome, IsSome, MatchOption, length, take, get_or, map, All, refl, sym, ap, subst, ◌∙◌, length-append, arith}
use Rattle.std.specs.declared.vec.Vec.{Vec}
use Rattle.std.proofs.lemmas.Grind.{flat_map-append}
use Rattle.std.proofs.lemmas.List.{append-nil, map_more, take_more}
use Rattle.std.proofs.lemmas.List.Concat.{get_or-flat_map}
use Rattle.std.proofs.lemmas.List.Elements.{All-append, All-cons, All-head, All-nil, All-push, All-tail, All-weaker}
use Rattle.std.proofs.lemmas.List.Folds.{length-flat_map-take}
use Rattle.gname.specs.Formats.{id_length}
use Rattle.gname.specs.Ids.{Id, IsId}
use Rattle.gname.specs.declared.formats.Format.{Format}
use Rattle.gname.specs.declared.formats.Format.TheVariants.{Sha1}
use Rattle.gitcommitgraph.specs.Chains.{AddsFile, AreClosed, FindsCommit, HasParentsBelow, ListsParents, checksum_of, graph_commits}
use Rattle.gitcommitgraph.specs.Files.{AreLong, Commit, GraphFile, HasPositionsBefore, IsGraphFile, commits_of, file_commits, no_parent, row_parents}
use Rattle.gitcommitgraph.specs.Texts.{IsGraphText}
use Rattle.gitcommitgraph.specs.steps.Chains.{IsGraph}
use Rattle.gitcommitgraph.specs.steps.Tables.{IsPlaceOf}
use Rattle.gitcommitgraph.proofs.ParentLemmas.{commit_at, commits_before, length-commits}

-- ---- one file

-- the index of an id in the table of ids is the index of a commit with this id in the file
pub finds_in_file : (file : GraphFile) (id : Id) (result : Option ℕ) → IsGraphFile file → IsPlaceOf file.ids id result → FindsCommit (file_commits file) id result
finds_in_file file id None formed none = λ k c inside same.
    let n = length-commits file.edges file.ids file.rows formed.each in
    let each = formed.each in
    let at = commit_at file.edges file.ids file.rows k c (omega (arith, n, inside)) (omega (arith, n, each, inside)) in
    none k [] (omega (arith, n, inside)) (sym (ap (λ (c : Commit). c.id) at) ∙ same)
finds_in_file file id (Some place) formed found =
    let n = length-commits file.edges file.ids file.rows formed.each in
    let each = formed.each in
    let inside = found.0 in (
      omega (arith, n, inside),
      λ c. ap (λ (c : Commit). c.id) (commit_at file.edges file.ids file.rows place c inside (omega (arith, each, inside))) ∙ found.1 [],
    )

-- the commit at an index of a file has the id at this index, and the parents that the row at this index encodes
pub at_place : (file : GraphFile) (place : ℕ) (c : Commit) → IsGraphFile file → place < length (file_commits file)
    → get_or (file_commits file) place c ≡ record { id = get_or file.ids place []; parents = row_parents file.edges (get_or file.rows place []) }
at_place file place c formed inside =
    let n = length-commits file.edges file.ids file.rows formed.each in
    let each = formed.each in
    commit_at file.edges file.ids file.rows place c (omega (arith, n, inside)) (omega (arith, n, each, inside))

-- twenty bytes can be converted to an id
pub is_made : (bytes : List ℕ) (result : Option Id) → length bytes ≡ 20 → MatchOption result ((format : Format) → length bytes ≢ id_length format) (λ id. (id ≡ bytes) × IsId id) → IsSome result
is_made bytes None long h = absurd (h Sha1 long)
is_made bytes (Some id) long h = refl

-- ---- the checksums of files

pub above_more : (bases : List Id) (files : List GraphFile) (place : ℕ) (file : GraphFile) → place < length bases → place < length files
    → file ≡ get_or files place file → get_or bases place [] ≡ checksum_of file → take place bases ≡ map checksum_of (take place files)
    → take (place + 1) bases ≡ map checksum_of (take (place + 1) files)
above_more bases files place file low high is same so_far =
    take_more bases place [] low ∙ ap (λ b. take place bases ++ b ∷ []) (same ∙ ap checksum_of is)
    ∙ ap (λ l. l ++ checksum_of (get_or files place file) ∷ []) so_far ∙ sym (map_more checksum_of files place file high)

-- ---- files of a chain

module _ (files : List GraphFile) (i : ℕ) (file : GraphFile) (inside : i < length files) (is : file ≡ get_or files i file) where
  -- the commits of the first `i + 1` files are the commits of the first `i` files, followed by those of the next file
  more : graph_commits (take (i + 1) files) ≡ graph_commits (take i files) ++ file_commits file
  more =
      ap graph_commits (take_more files i file inside) ∙ flat_map-append file_commits (take i files) (get_or files i file ∷ [])
      ∙ ap (λ l. graph_commits (take i files) ++ l) (append-nil (file_commits (get_or files i file)) ∙ ap file_commits (sym is))

  pub length-more : length (graph_commits (take (i + 1) files)) ≡ length (graph_commits (take i files)) + length (file_commits file)
  length-more = ap length more ∙ length-append (graph_commits (take i files)) (file_commits file)

  -- the first `i + 1` files have at most as many commits as all files
  pub length-le : length (graph_commits (take i files)) + length (file_commits file) ≤ length (graph_commits files)
  length-le =
      let all = length-flat_map-take file_commits files i file inside in
      let same = ap (λ (f : GraphFile). length (file_commits f)) is in
      omega (arith, all, same)

  pub all_more : (P : Commit → Type 0) → All P (graph_commits (take i files)) → All P (file_commits file) → All P (graph_commits (take (i + 1) files))
  all_more P before here = subst (All P) (sym more) (All-append P (graph_commits (take i files)) (file_commits file) before here)

  -- each commit of the file is a commit of the chain
  pub commit_in : (position place : ℕ) (c : Commit) → place < length (file_commits file) → position ≡ length (graph_commits (take i files)) + place
      → get_or (graph_commits files) position c ≡ get_or (file_commits file) place c
  commit_in position place c within at =
      ap (λ n. get_or (graph_commits files) n c) at
      ∙ get_or-flat_map file_commits files i place file c inside (subst (λ (f : GraphFile). place < length (file_commits f)) is within)
      ∙ ap (λ (f : GraphFile). get_or (file_commits f) place c) (sym is)

-- ---- one more file

below_more : (n m : ℕ) → n ≤ m → (c : Commit) → HasParentsBelow n c → HasParentsBelow m c
below_more n m low c h k d inside = let p = h k d inside in omega (arith, p, low)

module _ (old : List GraphFile) (file : GraphFile) (count new_count : ℕ) (graph : IsGraph count old)
    (counted : new_count ≡ count + length (file_commits file)) (few : new_count ≤ no_parent) (formed : IsGraphFile file) (within : HasPositionsBefore new_count file) where
  commits_are : graph_commits (old ++ file ∷ []) ≡ graph_commits old ++ file_commits file
  commits_are = flat_map-append file_commits old (file ∷ []) ∙ ap (λ l. graph_commits old ++ l) (append-nil (file_commits file))

  count_is : new_count ≡ length (graph_commits (old ++ file ∷ []))
  count_is =
      let n = ap length commits_are ∙ length-append (graph_commits old) (file_commits file) in
      let m = graph.counted in
      omega (arith, n, m, counted)

  before : All (HasParentsBelow new_count) (file_commits file)
  before = commits_before new_count file.edges file.ids file.rows within.edges within.rows

  closed : AreClosed (graph_commits (old ++ file ∷ []))
  closed =
      let n = graph.counted in
      let first = All-weaker (HasParentsBelow (length (graph_commits old))) (HasParentsBelow new_count) (below_more (length (graph_commits old)) new_count (omega (arith, n, counted))) (graph_commits old) graph.closed in
      subst (λ m. All (HasParentsBelow m) (graph_commits (old ++ file ∷ []))) count_is
      (subst (All (HasParentsBelow new_count)) (sym commits_are) (All-append (HasParentsBelow new_count) (graph_commits old) (file_commits file) first before))

  pub is_graph : IsGraph new_count (old ++ file ∷ [])
  is_graph = record { counted = count_is; few = few; closed = closed; formed = All-push IsGraphFile old file graph.formed formed }

  pub adds_file : (text : List ℕ) (new : List GraphFile) → IsGraphText file text → file.bases ≡ map checksum_of old → new ≡ old ++ file ∷ [] → AddsFile old text new
  adds_file text new is bases after = record {
    file = file;
    is = is;
    after = after;
    bases = bases;
    few = subst (λ (n : List GraphFile). length (graph_commits n) ≤ no_parent) (sym after) (subst (λ n. n ≤ no_parent) count_is few);
    within = subst (λ (n : List GraphFile). HasPositionsBefore (length (graph_commits n)) file) (sym after) (subst (λ n. HasPositionsBefore n file) count_is within);
  }

-- ---- properties of all commits

ids_long : (edges : List (List ℕ)) (ids : List Id) (rows : List (List ℕ)) → AreLong 20 ids → All (λ (c : Commit). length c.id ≡ 20) (commits_of edges ids rows)
ids_long edges [] rows long = All-nil (λ (c : Commit). length c.id ≡ 20)
ids_long edges (id ∷ ids) [] long = All-nil (λ (c : Commit). length c.id ≡ 20)
ids_long edges (id ∷ ids) (row ∷ rows) long =
    All-cons (λ (c : Commit). length c.id ≡ 20) (record { id = id; parents = row_parents edges row }) (commits_of edges ids rows) (All-head (λ i. length i ≡ 20) id ids long)
    (ids_long edges ids rows (All-tail (λ i. length i ≡ 20) id ids long))

all_long : (files : List GraphFile) → All IsGraphFile files → All (λ (c : Commit). length c.id ≡ 20) (graph_commits files)
all_long [] formed = All-nil (λ (c : Commit). length c.id ≡ 20)
all_long (file ∷ files) formed =
    All-append (λ (c : Commit). length c.id ≡ 20) (file_commits file) (graph_commits files)
    (ids_long file.edges file.ids file.rows (All-head IsGraphFile file files formed).ids) (all_long files (All-tail IsGraphFile file files formed))

-- no commit has an id whose length differs from twenty bytes
pub other_id : (files : List GraphFile) (id : Id) → All IsGraphFile files → length id ≢ 20 → All (λ (c : Commit). c.id ≢ id) (graph_commits files)
other_id files id formed other k c inside same = other (ap length (sym same) ∙ all_long files formed k c inside)

pub lists_inside : {A : Type 0} (n most : ℕ) (parents : List ℕ) (found : Option (Vec ℕ A)) → All (λ p. p < n) parents → ListsParents most parents found → IfSome found (λ list. All (λ p. p < n) list.items)
lists_inside n most parents None all h = tt
lists_inside n most parents (Some list) all h = subst (All (λ p. p < n)) (sym h.0) all

-- one more file increases the number of commits by the number of its own commits
pub length-one_more : (old : List GraphFile) (file : GraphFile) → length (graph_commits (old ++ file ∷ [])) ≡ length (graph_commits old) + length (file_commits file)
length-one_more old file =
    ap length (flat_map-append file_commits old (file ∷ []) ∙ ap (λ l. graph_commits old ++ l) (append-nil (file_commits file)))
    ∙ length-append (graph_commits old) (file_commits file)
