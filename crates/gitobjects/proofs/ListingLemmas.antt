-- The names of the listed packs.
use Rattle.std.proofs.Common.{◌≡◌, ◌≢◌, inl, inr, ℕ, ◌-◌, true, false, nat_eq, None, List, [], ◌∷◌, ◌++◌, All, length, take, drop, ap, refl, sym, ◌∙◌, arith}
use Rattle.std.specs.Prelude.{codes, slice_index_or}
use Rattle.std.specs.List.{IsAnyAnswer}
use Rattle.std.specs.Cmp.{unsigned_Decides}
use Rattle.std.specs.Cmp.Lexicographic.{pointwise}
use Rattle.std.proofs.lemmas.Bool.{false≢true}
use Rattle.std.proofs.lemmas.List.{append_cancel_right, take-append-drop}
use Rattle.std.proofs.lemmas.Slice.Eq.{bytes_eq-Decides, strip_suffix_is}
use Rattle.gitobjects.specs.Listings.{AreStems, IsIndexName, IsOtherName}

-- a text that ends in `word` is the text without this suffix, followed by `word`
pub without_suffix : (text word front : List ℕ) → pointwise nat_eq (drop (length text - length word) text) word ≡ true → front ≡ take (length text - length word) text → text ≡ front ++ word
without_suffix text word front same is =
    let n = length text - length word in
    sym (take-append-drop n text) ∙ ap (λ l. l ++ drop n text) (sym is) ∙ ap (λ l. front ++ l) ((bytes_eq-Decides (drop n text) word).0 same)

-- a text that does not end in `.idx` is not the name of a pack index
pub no_suffix : (text : List ℕ) → pointwise nat_eq (drop (length text - length (codes ".idx")) text) (codes ".idx") ≡ false → IsOtherName text
no_suffix text other = λ stem index. strip_suffix_is unsigned_Decides text (codes ".idx") None other stem index.is

-- if a search of the text does not find `byte`, all bytes of the text differ from `byte`
pub is_plain : (byte : ℕ) (text : List ℕ) → IsAnyAnswer (λ y b. nat_eq y byte ≡ b) text false → All (λ b. b ≢ byte) text
is_plain byte text none =
    λ k d inside same. false≢true (sym (none k d (omega arith) inside) ∙ (unsigned_Decides (slice_index_or text k d) byte).1 same)

-- if a search of the text finds `byte`, not all bytes of the text differ from `byte`
pub is_not_plain : (byte : ℕ) (text : List ℕ) → IsAnyAnswer (λ y b. nat_eq y byte ≡ b) text true → ¬ (All (λ b. b ≢ byte) text)
is_not_plain byte text found all =
    all found.0 byte found.1 ((unsigned_Decides (slice_index_or text found.0 byte) byte).0 (found.2 byte))

-- a file name is the name of the index of at most one pack
pub one_stem : (name front stem : List ℕ) → name ≡ front ++ codes ".idx" → IsIndexName stem name → stem ≡ front
one_stem name front stem is index = append_cancel_right stem front (codes ".idx") (sym index.is ∙ is)

-- appending the name of a pack index to the names appends its stem to the stems
pub stems_more : (names : List (List ℕ)) (name stem : List ℕ) (stems : List (List ℕ)) → IsIndexName stem name → AreStems names stems → AreStems (names ++ name ∷ []) (stems ++ stem ∷ [])
stems_more [] name stem stems this is = inl (stem, [], this, ap (λ l. l ++ stem ∷ []) is, refl)
stems_more (first ∷ names) name stem stems this (inl h) =
    inl (h.0, h.1 ++ stem ∷ [], h.2, ap (λ l. l ++ stem ∷ []) h.3, stems_more names name stem h.1 this h.4)
stems_more (first ∷ names) name stem stems this (inr h) = inr (h.0, stems_more names name stem stems this h.1)

-- appending a name that is not the name of a pack index leaves the stems unchanged
pub stems_same : (names : List (List ℕ)) (name : List ℕ) (stems : List (List ℕ)) → IsOtherName name → AreStems names stems → AreStems (names ++ name ∷ []) stems
stems_same [] name stems other is = inr (other, is)
stems_same (first ∷ names) name stems other (inl h) = inl (h.0, h.1, h.2, h.3, stems_same names name h.1 other h.4)
stems_same (first ∷ names) name stems other (inr h) = inr (h.0, stems_same names name stems other h.1)
