-- The parents that two numbers and the edges encode, and the checks of parent positions.
use Rattle.std.proofs.Common.{◌≡◌, ◌≢◌, ℕ, zero, suc, ◌+◌, ◌-◌, ◌<◌, ◌≤◌, inl, inr, cond, List, [], ◌∷◌, ◌++◌, length, drop, get_or, All, eqb, ltb, refl, sym, ap, subst, ◌∙◌, length-append, arith}
use Rattle.std.proofs.lemmas.Bool.{cases_eq, cases_lt, eq-eqb, le-ltb, lt-ltb, ne_eqb}
use Rattle.std.proofs.lemmas.List.{append_assoc, drop_more}
use Rattle.std.proofs.lemmas.List.Elements.{All-cons, All-drop, All-head, All-nil, All-tail}
use Rattle.gname.specs.Ids.{Id}
use Rattle.gitcommitgraph.specs.Chains.{HasParentsBelow}
use Rattle.gitcommitgraph.specs.Files.{Commit, IsBefore, IsEdgeBefore, IsRowBefore, commits_of, edge_list, first_parent, mark, no_parent, number, parents_by, row_parents, second_parent}

-- ---- the parents that two numbers encode

module _ (edges : List (List ℕ)) (first second : ℕ) where
  abbrev after_second : List ℕ
  after_second = cond (ltb second mark) (first ∷ second ∷ []) (first ∷ edge_list (drop (second - mark) edges))

  abbrev after_first : List ℕ
  after_first = cond (eqb second no_parent) (first ∷ []) after_second

  pub parents_none : first ≡ no_parent → parents_by edges first second ≡ []
  parents_none is = ap (λ b. cond b [] after_first) (eq-eqb first no_parent is)

  pub parents_one : first ≢ no_parent → second ≡ no_parent → parents_by edges first second ≡ first ∷ []
  parents_one some is =
      ap (λ b. cond b [] after_first) (ne_eqb first no_parent some)
      ∙ ap (λ b. cond b (first ∷ []) after_second) (eq-eqb second no_parent is)

  pub parents_two : first ≢ no_parent → second ≢ no_parent → second < mark → parents_by edges first second ≡ first ∷ second ∷ []
  parents_two some other low =
      ap (λ b. cond b [] after_first) (ne_eqb first no_parent some)
      ∙ ap (λ b. cond b (first ∷ []) after_second) (ne_eqb second no_parent other)
      ∙ ap (λ b. cond b (first ∷ second ∷ []) (first ∷ edge_list (drop (second - mark) edges))) (lt-ltb second mark low)

  pub parents_list : first ≢ no_parent → mark ≤ second → parents_by edges first second ≡ first ∷ edge_list (drop (second - mark) edges)
  parents_list some high =
      ap (λ b. cond b [] after_first) (ne_eqb first no_parent some)
      ∙ ap (λ b. cond b (first ∷ []) after_second) (ne_eqb second no_parent (λ same. absurd (omega (arith, same, high))))
      ∙ ap (λ b. cond b (first ∷ second ∷ []) (first ∷ edge_list (drop (second - mark) edges))) (le-ltb second mark high)

-- ---- edge lists

inner_step : (edge : List ℕ) (edges : List (List ℕ)) → number edge < mark → edge_list (edge ∷ edges) ≡ number edge ∷ edge_list edges
inner_step edge edges low = ap (λ b. cond b (number edge ∷ edge_list edges) ((number edge - mark) ∷ [])) (lt-ltb (number edge) mark low)

last_step : (edge : List ℕ) (edges : List (List ℕ)) → mark ≤ number edge → edge_list (edge ∷ edges) ≡ (number edge - mark) ∷ []
last_step edge edges high = ap (λ b. cond b (number edge ∷ edge_list edges) ((number edge - mark) ∷ [])) (le-ltb (number edge) mark high)

module _ (edges : List (List ℕ)) (i : ℕ) (d : List ℕ) (inside : i < length edges) where
  pub edges_inner : number (get_or edges i d) < mark → edge_list (drop i edges) ≡ number (get_or edges i d) ∷ edge_list (drop (i + 1) edges)
  edges_inner low = ap edge_list (drop_more edges i d inside) ∙ inner_step (get_or edges i d) (drop (i + 1) edges) low

  pub edges_last : mark ≤ number (get_or edges i d) → edge_list (drop i edges) ≡ (number (get_or edges i d) - mark) ∷ []
  edges_last high = ap edge_list (drop_more edges i d inside) ∙ last_step (get_or edges i d) (drop (i + 1) edges) high

  pub edges_some : 0 < length (edge_list (drop i edges))
  edges_some = elim (cases_lt (number (get_or edges i d)) mark) [
    | inl low ↦ let n = ap length (edges_inner low) in omega (arith, n)
    | inr high ↦ let n = ap length (edges_last high) in omega (arith, n)
  ]

-- a list of parents that is extended by one more edge
module _ (start list : List ℕ) (edges : List (List ℕ)) (i p : ℕ) (d : List ℕ) (inside : i < length edges)
    (so_far : list ++ edge_list (drop i edges) ≡ start ++ edge_list edges) where
  pub follows_inner : number (get_or edges i d) < mark → p ≡ number (get_or edges i d) → (list ++ p ∷ []) ++ edge_list (drop (i + 1) edges) ≡ start ++ edge_list edges
  follows_inner low is =
      append_assoc list (p ∷ []) (edge_list (drop (i + 1) edges))
      ∙ ap (λ q. list ++ (q ∷ edge_list (drop (i + 1) edges))) is
      ∙ ap (λ l. list ++ l) (sym (edges_inner edges i d inside low)) ∙ so_far

  pub follows_last : mark ≤ number (get_or edges i d) → p ≡ number (get_or edges i d) - mark → list ++ p ∷ [] ≡ start ++ edge_list edges
  follows_last high is =
      ap (λ q. list ++ q ∷ []) is ∙ ap (λ l. list ++ l) (sym (edges_last edges i d inside high)) ∙ so_far

  pub follows_more : length list < length (start ++ edge_list edges)
  follows_more =
      let n = ap length so_far in
      let m = length-append list (edge_list (drop i edges)) in
      let some = edges_some edges i d inside in
      omega (arith, n, m, some)

-- ---- parents before a position

module _ (end : ℕ) where
  edges_before : (edges : List (List ℕ)) → All (IsEdgeBefore end) edges → All (λ p. p < end) (edge_list edges)
  edges_before [] h = All-nil (λ p. p < end)
  edges_before (edge ∷ edges) h =
      let one = All-head (IsEdgeBefore end) edge edges h in
      elim (cases_lt (number edge) mark) [
        | inl low ↦ subst (All (λ p. p < end)) (sym (inner_step edge edges low))
            (All-cons (λ p. p < end) (number edge) (edge_list edges) (one.inner low) (edges_before edges (All-tail (IsEdgeBefore end) edge edges h)))
        | inr high ↦ subst (All (λ p. p < end)) (sym (last_step edge edges high))
            (All-cons (λ p. p < end) (number edge - mark) [] (one.last high) (All-nil (λ p. p < end)))
      ]

  is_below : (parent : ℕ) → IsBefore end parent → parent ≢ no_parent → parent < end
  is_below parent before some = elim before [ inl none ↦ absurd (some none) | inr below ↦ below ]

  parents_before : (edges : List (List ℕ)) (first second : ℕ) → All (IsEdgeBefore end) edges → IsBefore end first → (second < mark → IsBefore end second) → All (λ p. p < end) (parents_by edges first second)
  parents_before edges first second listed one other =
      elim (cases_eq first no_parent) [
        | inl none ↦ subst (All (λ p. p < end)) (sym (parents_none edges first second none)) (All-nil (λ p. p < end))
        | inr some ↦
            let low = is_below first one some in
            elim (cases_lt second mark) [
              | inl few ↦ elim (cases_eq second no_parent) [
                | inl single ↦ subst (All (λ p. p < end)) (sym (parents_one edges first second some single)) (All-cons (λ p. p < end) first [] low (All-nil (λ p. p < end)))
                | inr both ↦ subst (All (λ p. p < end)) (sym (parents_two edges first second some both few))
                    (All-cons (λ p. p < end) first (second ∷ []) low (All-cons (λ p. p < end) second [] (is_below second (other few) both) (All-nil (λ p. p < end))))
              ]
              | inr many ↦ subst (All (λ p. p < end)) (sym (parents_list edges first second some many))
                  (All-cons (λ p. p < end) first (edge_list (drop (second - mark) edges)) low (edges_before (drop (second - mark) edges) (All-drop (IsEdgeBefore end) (second - mark) edges listed)))
            ]
      ]

  pub commits_before : (edges : List (List ℕ)) (ids : List Id) (rows : List (List ℕ)) → All (IsEdgeBefore end) edges → All (IsRowBefore end) rows → All (HasParentsBelow end) (commits_of edges ids rows)
  commits_before edges [] rows listed h = All-nil (HasParentsBelow end)
  commits_before edges (id ∷ ids) [] listed h = All-nil (HasParentsBelow end)
  commits_before edges (id ∷ ids) (row ∷ rows) listed h =
      let one = All-head (IsRowBefore end) row rows h in
      All-cons (HasParentsBelow end) (record { id = id; parents = row_parents edges row }) (commits_of edges ids rows)
      (parents_before edges (first_parent row) (second_parent row) listed one.first one.second)
      (commits_before edges ids rows listed (All-tail (IsRowBefore end) row rows h))

-- ---- commits by their indexes

pub length-commits : (edges : List (List ℕ)) (ids : List Id) (rows : List (List ℕ)) → length rows ≡ length ids → length (commits_of edges ids rows) ≡ length ids
length-commits edges [] rows same = refl
length-commits edges (id ∷ ids) [] same = absurd (omega (arith, same))
length-commits edges (id ∷ ids) (row ∷ rows) same = let n = length-commits edges ids rows (omega (arith, same)) in omega (arith, n)

pub commit_at : (edges : List (List ℕ)) (ids : List Id) (rows : List (List ℕ)) (k : ℕ) (c : Commit) → k < length ids → k < length rows
    → get_or (commits_of edges ids rows) k c ≡ record { id = get_or ids k []; parents = row_parents edges (get_or rows k []) }
commit_at edges [] rows k c low high = absurd (omega (arith, low))
commit_at edges (id ∷ ids) [] k c low high = absurd (omega (arith, high))
commit_at edges (id ∷ ids) (row ∷ rows) zero c low high = refl
commit_at edges (id ∷ ids) (row ∷ rows) (suc k) c low high = commit_at edges ids rows k c (omega (arith, low)) (omega (arith, high))
