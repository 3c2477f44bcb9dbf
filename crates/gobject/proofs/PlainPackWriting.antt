-- Writing a plain pack piece by piece.
use Rattle.std.proofs.Common.{◌≡◌, ℕ, ◌+◌, ◌<◌, List, [], ◌∷◌, ◌++◌, length, decimal, map, get_or, take, drop, refl, ap, sym, ◌∙◌, append_assoc, length-append, arith}
use Rattle.std.specs.List.{flat_map}
use Rattle.std.proofs.lemmas.List.{append-nil, flat_map_more, take_more, take-append-drop}
use Rattle.std.proofs.lemmas.List.Concat.{flat_map-append}
use Rattle.gobject.specs.declared.node.Entry.{Entry}
use Rattle.gobject.specs.PlainPackText.{line, text_of, header, node_text, end_text, pack_text}
use Rattle.gobject.specs.steps.PlainPackWriting.{nodes_text}
use Rattle.gobject.proofs.PlainPackLines.{text_of-push}

-- appending the piece at position `i` to the pieces before it
pub pieces_more : {X : Type 0} (f : X → List ℕ) (xs : List X) (i : ℕ) (x : X) (old : List ℕ) → i < length xs → x ≡ get_or xs i x
    → (old ++ flat_map f (take i xs)) ++ f x ≡ old ++ flat_map f (take (i + 1) xs)
pieces_more f xs i x old lt is =
    flat_map_more f old (take i xs) x ∙ ap (λ ys. old ++ flat_map f ys) (ap (λ y. take i xs ++ y ∷ []) is ∙ sym (take_more xs i x lt))

-- the pieces before position `i`, and the pieces from this position on
pub pieces_split : {X : Type 0} (f : X → List ℕ) (xs : List X) (i : ℕ) (old : List ℕ)
    → old ++ flat_map f xs ≡ (old ++ flat_map f (take i xs)) ++ flat_map f (drop i xs)
pieces_split f xs i old =
    ap (λ ys. old ++ flat_map f ys) (sym (take-append-drop i xs)) ∙ ap (λ ys. old ++ ys) (flat_map-append f (take i xs) (drop i xs))
    ∙ sym (append_assoc old (flat_map f (take i xs)) (flat_map f (drop i xs)))

-- ---- room

-- if no room is left for one piece, there is no room for all pieces
pub left_none : {X : Type 0} (f : X → List ℕ) (xs : List X) (i : ℕ) (x : X) (room left : ℕ) → i < length xs → x ≡ get_or xs i x
    → left + length (flat_map f (take i xs)) ≡ room → left < length (f x) → room < length (flat_map f xs)
left_none f xs i x room left lt is before over =
    let front = ap (λ (t : List ℕ). length t) (pieces_more f xs i x [] lt is) in
    let parts = length-append (flat_map f (take i xs)) (f x) in
    let whole = ap (λ (t : List ℕ). length t) (pieces_split f xs (i + 1) []) in
    let others = length-append (flat_map f (take (i + 1) xs)) (flat_map f (drop (i + 1) xs)) in
    omega (arith, before, over, front, parts, whole, others)

-- ---- the text

nodes_text-is : {A : Type 0} (list : List (Entry A)) → text_of (map node_text list) ≡ nodes_text list
nodes_text-is [] = refl
nodes_text-is (entry ∷ list) = ap (λ (text : List ℕ). line (node_text entry) ++ text) (nodes_text-is list)

-- a pack consists of the header, the lines of its entries and the last line
pub pack_text_is : {A : Type 0} (list : List (Entry A)) → pack_text list ≡ (line header ++ nodes_text list) ++ line (end_text (length list))
unfolding pack_text
pack_text_is list =
    let last = end_text (length list) in
    sym (append-nil (text_of (header ∷ (map node_text list ++ last ∷ []))))
    ∙ text_of-push (header ∷ map node_text list) last []
    ∙ ap (λ (text : List ℕ). text_of (header ∷ map node_text list) ++ text) (append-nil (line last))
    ∙ ap (λ (text : List ℕ). (line header ++ text) ++ line last) (nodes_text-is list)

-- the length of a pack
pub length_pack : {A : Type 0} (list : List (Entry A)) → length (pack_text list) ≡ 10 + length (decimal (length list)) + length (nodes_text list)
length_pack list =
    let whole = ap (λ (t : List ℕ). length t) (pack_text_is list) in
    let back = length-append (line header ++ nodes_text list) (line (end_text (length list))) in
    let front = length-append (line header) (nodes_text list) in
    let last = length-append (decimal (length list)) (10 ∷ []) in
    omega (arith, whole, back, front, last)
