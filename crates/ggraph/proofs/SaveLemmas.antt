-- Writing a text line by line, and the first id of another format.
use Rattle.std.proofs.Common.{◌≡◌, ℕ, ◌+◌, ◌<◌, List, [], ◌∷◌, ◌++◌, length, get_or, slice_get, take, drop, map, All, Option, Some, None, MatchOption, codes, refl, sym, ◌∙◌, ap, subst, arith}
use Rattle.std.proofs.lemmas.List.{append_assoc, map-append, map_push, take_more, take-append-drop}
use Rattle.std.proofs.lemmas.List.Elements.{All-append, All-cons, All-nil, All-push}
use Rattle.std.proofs.lemmas.Option.{slice_get-get_or}
use Rattle.gname.specs.Ids.{IsIdOf}
use Rattle.gname.specs.declared.formats.Format.{Format}
use Rattle.gobject.specs.PlainPackText.{line, node_text, text_of}
use Rattle.gobject.specs.declared.node.Entry.{Entry}
use Rattle.gdag.specs.Graphs.{History}
use Rattle.grefs.specs.RefLists.{RefList}
use Rattle.grefs.specs.declared.head.Head.{Head}
use Rattle.ggraph.specs.RepositoryText.{first_line, head_line, last_line, ref_line, repository_text}
use Rattle.ggraph.specs.Saving.{IsFirstOther, head_ids, named_ids, ref_ids}
use Rattle.gobject.proofs.PlainPackLines.{text_of-append}
use Rattle.ggraph.proofs.LoadLemmas.{text_of-push}

pub lines_more : {X : Type 0} (f : X → List ℕ) (old : List ℕ) (xs : List X) (x : X) → (old ++ text_of (map f xs)) ++ line (f x) ≡ old ++ text_of (map f (xs ++ x ∷ []))
lines_more f old xs x =
    append_assoc old (text_of (map f xs)) (line (f x))
    ∙ ap (λ (t : List ℕ). old ++ t) (sym (ap text_of (map_push f xs x) ∙ text_of-push (map f xs) (f x)))

-- the elements before position `i` and the element at this position are the first `i + 1` elements
pub next_seen : {X : Type 0} (xs : List X) (i : ℕ) (x : X) → i < length xs → x ≡ get_or xs i x → take i xs ++ x ∷ [] ≡ take (i + 1) xs
next_seen {X} xs i x lt is = ap (λ (y : X). take i xs ++ y ∷ []) is ∙ sym (take_more xs i x lt)

-- a list has an element at each position `i` below its length; this element follows the first `i` elements
entry_at : {X : Type 0} (xs : List X) (i : ℕ) → i < length xs → (x : X) × (slice_get xs i ≡ Some x) × (take i xs ++ x ∷ [] ≡ take (i + 1) xs)
entry_at [] i lt = absurd (grind (arith, lt))
entry_at (x ∷ xs) i lt = (get_or (x ∷ xs) i x, slice_get-get_or (x ∷ xs) i x lt, sym (take_more (x ∷ xs) i x lt))

-- appending the line of one more entry
pub nodes_more : {A : Type 0} (entries : List (Entry A)) (place : ℕ) → place < length entries → (first old new : List ℕ) → old ≡ first ++ text_of (map node_text (take place entries)) → ((entry : Entry A) → slice_get entries place ≡ Some entry → new ≡ old ++ line (node_text entry)) → new ≡ first ++ text_of (map node_text (take (place + 1) entries))
nodes_more {A} entries place inside first old new so_far put =
    let at = entry_at entries place inside in
    put at.0 at.1
    ∙ ap (λ (t : List ℕ). t ++ line (node_text at.0)) so_far
    ∙ lines_more node_text first (take place entries) at.0
    ∙ ap (λ (es : List (Entry A)). first ++ text_of (map node_text es)) at.2

-- the lines of a repository, appended one after another, are its text
pub whole_text : {A : Type 0} (g : History A) (refs : RefList) (head : Head A) → (((line (first_line g.format) ++ text_of (map node_text g.entries)) ++ text_of (map ref_line refs)) ++ line (head_line head)) ++ codes "end\n" ≡ repository_text g refs head
whole_text {A} g refs head =
    let first = line (first_line g.format) in
    let nodes = text_of (map node_text g.entries) in
    let names = text_of (map ref_line refs) in
    let ending = line (head_line head) ++ codes "end\n" in
    let parts : text_of (map node_text g.entries ++ (map ref_line refs ++ (head_line head ∷ last_line ∷ []))) ≡ nodes ++ (names ++ ending) =
    text_of-append (map node_text g.entries) (map ref_line refs ++ (head_line head ∷ last_line ∷ []))
    ∙ ap (λ (t : List ℕ). nodes ++ t) (text_of-append (map ref_line refs) (head_line head ∷ last_line ∷ [])) in
    append_assoc ((first ++ nodes) ++ names) (line (head_line head)) (codes "end\n")
    ∙ append_assoc (first ++ nodes) names ending
    ∙ append_assoc first nodes (names ++ ending)
    ∙ ap (λ (t : List ℕ). first ++ t) (sym parts)

-- ---- the first id of another format

-- if the ids of the first `i` refs and of the next ref have the format, the ids of the first `i + 1` refs have it
pub ids_push : (format : Format) (refs : RefList) (i : ℕ) (ref : List ℕ × List ℕ) → i < length refs → ref ≡ get_or refs i ref → All (IsIdOf format) (ref_ids (take i refs)) → IsIdOf format ref.1 → All (IsIdOf format) (ref_ids (take (i + 1) refs))
ids_push format refs i ref lt is all this =
    subst (λ (rs : RefList). All (IsIdOf format) (ref_ids rs)) (next_seen refs i ref lt is)
    (subst (All (IsIdOf format)) (sym (map_push (λ (r : List ℕ × List ℕ). r.1) (take i refs) ref)) (All-push (IsIdOf format) (ref_ids (take i refs)) ref.1 all this))

pub first_ref : (format : Format) (refs : RefList) (i : ℕ) (ref : List ℕ × List ℕ) → i < length refs → ref ≡ get_or refs i ref → All (IsIdOf format) (ref_ids (take i refs)) → (IsIdOf format ref.1 → ⊥) → IsFirstOther format (ref_ids refs) ref.1
first_ref format refs i ref lt is all other =
    let rest = ref_ids (drop (i + 1) refs) in
    let front = ap ref_ids (sym (next_seen refs i ref lt is)) ∙ map_push (λ (r : List ℕ × List ℕ). r.1) (take i refs) ref in
    record {
      front = ref_ids (take i refs);
      rest = rest;
      parts =
          ap ref_ids (sym (take-append-drop (i + 1) refs))
          ∙ map-append (λ (r : List ℕ × List ℕ). r.1) (take (i + 1) refs) (drop (i + 1) refs)
          ∙ ap (λ (ids : List (List ℕ)). ids ++ rest) front
          ∙ append_assoc (ref_ids (take i refs)) (ref.1 ∷ []) rest;
      before = all;
      other = other;
    }

-- the first id of another format among the refs is the first among all ids
pub other_in_refs : {A : Type 0} (format : Format) (refs : RefList) (head : Head A) (id : List ℕ) → IsFirstOther format (ref_ids refs) id → IsFirstOther format (named_ids refs head) id
other_in_refs format refs head id first = record {
  front = first.front;
  rest = first.rest ++ head_ids head;
  parts = ap (λ (ids : List (List ℕ)). ids ++ head_ids head) first.parts ∙ append_assoc first.front (id ∷ first.rest) (head_ids head);
  before = first.before;
  other = first.other;
}

-- if the ids of all refs have the format, the id of a detached HEAD with another format is the first such id
pub other_in_head : {A : Type 0} (format : Format) (refs : RefList) (head : Head A) (id : List ℕ) → All (IsIdOf format) (ref_ids refs) → IsFirstOther format (head_ids head) id → IsFirstOther format (named_ids refs head) id
other_in_head format refs head id all first = record {
  front = ref_ids refs ++ first.front;
  rest = first.rest;
  parts = ap (λ (ids : List (List ℕ)). ref_ids refs ++ ids) first.parts ∙ sym (append_assoc (ref_ids refs) first.front (id ∷ first.rest));
  before = All-append (IsIdOf format) (ref_ids refs) first.front all first.before;
  other = first.other;
}

pub other_in_head_result : {A : Type 0} (format : Format) (refs : RefList) (head : Head A) (found : Option (List ℕ)) → All (IsIdOf format) (ref_ids refs) → MatchOption found (All (IsIdOf format) (head_ids head)) (IsFirstOther format (head_ids head)) → MatchOption found (All (IsIdOf format) (named_ids refs head)) (IsFirstOther format (named_ids refs head))
other_in_head_result format refs head None all here = All-append (IsIdOf format) (ref_ids refs) (head_ids head) all here
other_in_head_result format refs head (Some id) all here = other_in_head format refs head id all here

-- an id of another format is the first such id in a list that contains only this id
pub head_is_other : (format : Format) (id : List ℕ) → (IsIdOf format id → ⊥) → IsFirstOther format (id ∷ []) id
head_is_other format id other = record { front = []; rest = []; parts = refl; before = All-nil (IsIdOf format); other = other }

pub head_is_not : (format : Format) (id : List ℕ) → IsIdOf format id → All (IsIdOf format) (id ∷ [])
head_is_not format id is = All-cons (IsIdOf format) id [] is (All-nil (IsIdOf format))
