-- The lines that a pack may begin with, and the line that may come next.
use Rattle.std.proofs.Common.{◌≡◌, ◌⊎◌, inl, inr, ℕ, suc, List, [], ◌∷◌, ◌++◌, length, refl, ap, sym, subst, ◌∙◌}
use Rattle.std.specs.Prelude.{⊤}
use Rattle.gobject.specs.declared.node.Entry.{Entry}
use Rattle.gobject.specs.PlainPackText.{header, letter, end_text, IsNodeText, AreNodeTexts, ArePackLines, BeginsPack}
use Rattle.gobject.proofs.PlainPackLines.{letter_no_end}

-- lines that a pack may begin with, without the last line: none, or the header and the lines of some entries
abbrev pub IsFront : Type 0 → List (List ℕ) → Type 0
IsFront A [] = ⊤
IsFront A (first ∷ nodes) = (first ≡ header) × ((list : List (Entry A)) × AreNodeTexts nodes list)

-- a line that may come after such lines: first the header, then the line of an entry or the last line
abbrev pub MayCome : Type 0 → List (List ℕ) → List ℕ → Type 0
MayCome A [] text = text ≡ header
MayCome A (first ∷ nodes) text = ((entry : Entry A) × IsNodeText text entry) ⊎ (text ≡ end_text (length nodes))

pub AreNodeTexts-length : {A : Type 0} (nodes : List (List ℕ)) (list : List (Entry A)) → AreNodeTexts nodes list → length nodes ≡ length list
AreNodeTexts-length [] [] h = refl
AreNodeTexts-length (text ∷ nodes) (entry ∷ list) h = ap suc (AreNodeTexts-length nodes list h.1)
AreNodeTexts-length _ _ h = absurd h

-- the last line of a pack is not the line of an entry
pub end_no_node : {A : Type 0} (n : ℕ) (entry : Entry A) → IsNodeText (end_text n) entry → ⊥
end_no_node n entry h = let first : letter entry.node.kind ≡ 101 = (let is = h.1 in cc) in letter_no_end entry.node.kind first

-- in lines of entries and a last line, the lines before `text` belong to entries, and `text` is a line of an entry or
-- the last
split_nodes : {A : Type 0} (nodes front : List (List ℕ)) (last text : List ℕ) (more : List (List ℕ)) (list : List (Entry A))
    → AreNodeTexts nodes list → nodes ++ last ∷ [] ≡ front ++ text ∷ more
    → ((read : List (Entry A)) × AreNodeTexts front read)
    × (((entry : Entry A) × IsNodeText text entry) ⊎ ((text ≡ last) × (length front ≡ length nodes)))
split_nodes [] [] last text more [] h same = (([], tt), inr (cc, refl))
split_nodes [] (first ∷ []) last text more list h same = cc same
split_nodes [] (first ∷ (second ∷ front)) last text more list h same = cc same
split_nodes (node ∷ nodes) [] last text more (entry ∷ list) h same =
    let is : node ≡ text = cc in (([], tt), inl (entry, subst (λ (t : List ℕ). IsNodeText t entry) is h.0))
split_nodes (node ∷ nodes) (first ∷ front) last text more (entry ∷ list) h same =
    let is : node ≡ first = cc in
    let rest = split_nodes nodes front last text more list h.1 cc in (
      (entry ∷ rest.0.0, (subst (λ (t : List ℕ). IsNodeText t entry) is h.0, rest.0.1)),
      elim rest.1 [ inl comes ↦ inl comes | inr ends ↦ inr (ends.0, ap suc ends.1) ],
    )
split_nodes _ _ last text more list h same = absurd h

-- the line of a pack that comes after the lines `front` may come there
pub comes_next : {A : Type 0} (front : List (List ℕ)) (text : List ℕ) (more lines : List (List ℕ)) (list : List (Entry A))
    → ArePackLines lines list → lines ≡ front ++ text ∷ more → MayCome A front text
comes_next [] text more lines list h same = let whole = sym same ∙ h.are in cc
comes_next (first ∷ front) text more lines list h same =
    let whole : header ∷ (h.nodes ++ end_text (length list) ∷ []) ≡ first ∷ (front ++ text ∷ more) = sym h.are ∙ same in
    elim (split_nodes h.nodes front (end_text (length list)) text more list h.each cc).1 [
      | inl comes ↦ inl comes
      | inr ends ↦ inr (ends.0 ∙ ap end_text (sym (ends.1 ∙ AreNodeTexts-length h.nodes list h.each)))
    ]

-- the lines of entries do not include the last line of a pack
last_no_node : {A : Type 0} (nodes : List (List ℕ)) (n : ℕ) (list : List (Entry A)) → AreNodeTexts (nodes ++ end_text n ∷ []) list → ⊥
last_no_node [] n [] h = h
last_no_node [] n (entry ∷ list) h = end_no_node n entry h.0
last_no_node (node ∷ nodes) n [] h = h
last_no_node (node ∷ nodes) n (entry ∷ list) h = last_no_node nodes n list h.1

pub whole_no_front : {A : Type 0} (lines : List (List ℕ)) (list : List (Entry A)) → ArePackLines lines list → IsFront A lines → ⊥
whole_no_front {A} lines list h before =
    let front : IsFront A (header ∷ (h.nodes ++ end_text (length list) ∷ [])) = subst (IsFront A) h.are before in
    last_no_node h.nodes (length list) front.1.0 front.1.1

-- some plain pack begins with the lines of a front
pub BeginsPack-front : (A : Type 0) (front : List (List ℕ)) → IsFront A front → BeginsPack A front
BeginsPack-front A [] h = record { list = []; more = header ∷ end_text 0 ∷ []; are = record { nodes = []; are = refl; each = tt } }
BeginsPack-front A (first ∷ nodes) h =
    let last = end_text (length h.1.0) in
    record {
      list = h.1.0;
      more = last ∷ [];
      are = record { nodes = nodes; are = ap (λ (l : List ℕ). l ∷ (nodes ++ last ∷ [])) h.0; each = h.1.1 };
    }

-- all lines of a pack before some line `text` of the pack are a front
pub IsFront-pack : {A : Type 0} (front : List (List ℕ)) (text : List ℕ) (more lines : List (List ℕ)) (list : List (Entry A)) → ArePackLines lines list
    → lines ≡ front ++ text ∷ more → IsFront A front
IsFront-pack [] text more lines list h same = tt
IsFront-pack (first ∷ front) text more lines list h same =
    let whole : header ∷ (h.nodes ++ end_text (length list) ∷ []) ≡ first ∷ (front ++ text ∷ more) = sym h.are ∙ same in
    let begins : first ≡ header = cc in
    (begins, (split_nodes h.nodes front (end_text (length list)) text more list h.each cc).0)
