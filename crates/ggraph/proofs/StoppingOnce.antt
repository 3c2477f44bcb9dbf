-- Apart from out of memory, a text is refused at only one line and for only one reason.
use Rattle.std.proofs.Common.{◌≡◌, ◌≢◌, ◌⊎◌, inl, inr, ℕ, ◌+◌, List, [], ◌∷◌, ◌++◌, length, refl, sym, ◌∙◌, ap, subst, append_assoc}
use Rattle.std.proofs.lemmas.List.{append_cancel_left}
use Rattle.ggraph.specs.Loading.{BeginsText, EndsEarly, IsWrongLine, NamesLaterParent, StopsAt}
use Rattle.ggraph.specs.declared.fault.LoadFault.{LoadFault}
use Rattle.ggraph.specs.declared.text.Order.{Order}
use Rattle.ggraph.specs.declared.text.Order.TheVariants.{Any, ParentsFirst}
use Rattle.ggraph.specs.steps.TextLaws.{TextLaws}
use Rattle.ggraph.specs.declared.fault.LoadFault.TheVariants as faults
use Rattle.gobject.specs.PlainPackText.{GoesOn, line, text_of}
use Rattle.ggraph.proofs.Lines.{AreLines, IsLine, back_lines, line_from, not_a_line, one_line}
use Rattle.ggraph.proofs.LoadLemmas.{text_of-push}
use Rattle.ggraph.proofs.Stopping.{lines_begun, loadable_in_any}

-- the list `lines` begins with `front` and one more line, and the text `rest` begins with this line
abbrev Extends : List (List ℕ) → List ℕ → List (List ℕ) → Type 0
Extends front rest lines =
    (this : List ℕ) × (more : List (List ℕ)) × (after : List ℕ) × (lines ≡ front ++ this ∷ more) × (rest ≡ line this ++ after)

-- if a text begins with two lists of lines, the lists are equal, or one begins with the other and one more line
lines_meet : (lines others : List (List ℕ)) (x y : List ℕ) → AreLines lines → AreLines others
    → text_of lines ++ x ≡ text_of others ++ y → (lines ≡ others) ⊎ Extends lines x others ⊎ Extends others y lines
lines_meet [] [] x y here there same = inl refl
lines_meet [] (second ∷ others) x y here there same =
    inr (inl (second, others, text_of others ++ y, refl, same ∙ append_assoc (line second) (text_of others) y))
lines_meet (first ∷ lines) [] x y here there same =
    inr (inr (first, lines, text_of lines ++ x, refl, sym same ∙ append_assoc (line first) (text_of lines) x))
lines_meet (first ∷ lines) (second ∷ others) x y here there same =
    let whole : line first ++ (text_of lines ++ x) ≡ line second ++ (text_of others ++ y) =
    sym (append_assoc (line first) (text_of lines) x) ∙ same ∙ append_assoc (line second) (text_of others) y in
    let parts = one_line first second (text_of lines ++ x) (text_of others ++ y) here.0 there.0 whole in
    elim (lines_meet lines others x y here.1 there.1 parts.1) [
      | inl is ↦ inl (ap (λ (l : List ℕ). l ∷ lines) parts.0 ∙ ap (λ (ls : List (List ℕ)). second ∷ ls) is)
      | inr (inl h) ↦ inr (inl (h.0, h.1, h.2, sym (ap (λ (l : List ℕ). l ∷ others) parts.0) ∙ ap (λ (ls : List (List ℕ)). first ∷ ls) h.3, h.4))
      | inr (inr h) ↦ inr (inr (h.0, h.1, h.2, ap (λ (l : List ℕ). l ∷ lines) parts.0 ∙ ap (λ (ls : List (List ℕ)). second ∷ ls) h.3, h.4))
    ]

-- a text consists of the lines, the next line and the rest
goes_rest : (text : List ℕ) (lines : List (List ℕ)) (this : List ℕ) (goes : GoesOn text lines this) → text ≡ text_of lines ++ (line this ++ goes.0)
goes_rest text lines this goes =
    goes.1 ∙ ap (λ (t : List ℕ). t ++ goes.0) (text_of-push lines this) ∙ append_assoc (text_of lines) (line this) goes.0

one_number : (lines others : List (List ℕ)) (a b : ℕ) → a ≡ length lines + 1 → b ≡ length others + 1 → lines ≡ others → a ≡ b
one_number lines others a b here there is = here ∙ ap (λ (ls : List (List ℕ)). length ls + 1) is ∙ sym there

module _ (laws : TextLaws) where
  in_any : {A : Type 0} (order : Order) (lines : List (List ℕ)) → BeginsText A order lines → BeginsText A Any lines
  in_any order lines h = record {
    graph = h.graph;
    refs = h.refs;
    head = h.head;
    loadable = loadable_in_any laws order h.graph h.refs h.head h.loadable;
    more = h.more;
    parts = h.parts;
  }

  -- reading stops after `lines`: some text begins with these lines, but no text begins with these lines and the next
  -- line
  record Stops (A : Type 0) (order : Order) (text : List ℕ) (lines : List (List ℕ)) : Type 0 where
    rest : List ℕ
    parts : text ≡ text_of lines ++ rest
    begins : BeginsText A order lines
    never : (this more : List ℕ) → IsLine this → rest ≡ line this ++ more → BeginsText A order (lines ++ this ∷ []) → ⊥

  module _ (A : Type 0) (order : Order) (text : List ℕ) where
    -- reading stops before a line if no text begins with the lines and this line
    stops_line : (lines : List (List ℕ)) (this : List ℕ) → BeginsText A order lines → (goes : GoesOn text lines this)
        → (BeginsText A order (lines ++ this ∷ []) → ⊥) → Stops A order text lines
    stops_line lines this begun goes never =
        let P : List ℕ → Type 0 = λ l. BeginsText A order (lines ++ l ∷ []) in
        record {
          rest = line this ++ goes.0;
          parts = goes_rest text lines this goes;
          begins = begun;
          never = λ other more clean same on. never (subst P (sym (one_line this other goes.0 more (line_from this goes.2) clean same).0) on);
        }

    -- reading stops if no further line follows
    stops_end : (lines : List (List ℕ)) → BeginsText A order lines → EndsEarly A order text lines → Stops A order text lines
    stops_end lines begun early = record {
      rest = early.0;
      parts = early.1;
      begins = begun;
      never = λ this more clean same on. not_a_line this more early.0 (line_from early.0 early.2) same;
    }

    stops_wrong : (lines : List (List ℕ)) → BeginsText A order lines → IsWrongLine A text lines ⊎ EndsEarly A order text lines → Stops A order text lines
    stops_wrong lines begun (inl wrong) = stops_line lines wrong.0 begun wrong.1 (λ on. wrong.2 (in_any order (lines ++ wrong.0 ∷ []) on))
    stops_wrong lines begun (inr early) = stops_end lines begun early

    stops_later : (lines : List (List ℕ)) → order ≡ ParentsFirst → BeginsText A order lines → NamesLaterParent A text lines → Stops A order text lines
    stops_later lines first begun later =
        stops_line lines later.0 begun later.1 (λ on. later.2 (subst (λ (o : Order). BeginsText A o (lines ++ later.0 ∷ [])) first on))

    -- no text begins with the lines before the stop, followed by the next line
    stops_here : (lines others : List (List ℕ)) (s : Stops A order text lines) → BeginsText A order others → Extends lines s.rest others → ⊥
    stops_here lines others s h on =
        let each = back_lines lines (on.0 ∷ on.1) (subst AreLines on.3 (lines_begun laws order others h)) in
        let same : others ++ h.more ≡ (lines ++ on.0 ∷ []) ++ (on.1 ++ h.more) = ap (λ (ls : List (List ℕ)). ls ++ h.more) on.3 ∙ simp append_assoc in
        s.never on.0 on.2 each.0 on.4 (record { graph = h.graph; refs = h.refs; head = h.head; loadable = h.loadable; more = on.1 ++ h.more; parts = h.parts ∙ same })

    -- reading stops after at most one list of lines
    one_place : (lines others : List (List ℕ)) → Stops A order text lines → Stops A order text others → lines ≡ others
    one_place lines others s t =
        elim (lines_meet lines others s.rest t.rest (lines_begun laws order lines s.begins) (lines_begun laws order others t.begins) (sym s.parts ∙ t.parts)) [
          | inl is ↦ is
          | inr (inl on) ↦ absurd (stops_here lines others s t.begins on)
          | inr (inr on) ↦ absurd (stops_here others lines t s.begins on)
        ]

    -- a line that is wrong only because of a later parent is not wrong for another reason
    one_reason : (lines : List (List ℕ)) → IsWrongLine A text lines ⊎ EndsEarly A order text lines → NamesLaterParent A text lines → ⊥
    one_reason lines (inl wrong) later =
        let P : List ℕ → Type 0 = λ l. BeginsText A Any (lines ++ l ∷ []) in
        let both = append_cancel_left (text_of lines) (line wrong.0 ++ wrong.1.0) (line later.0 ++ later.1.0)
        (sym (goes_rest text lines wrong.0 wrong.1) ∙ goes_rest text lines later.0 later.1) in
        let is = one_line wrong.0 later.0 wrong.1.0 later.1.0 (line_from wrong.0 wrong.1.2) (line_from later.0 later.1.2) both in
        wrong.2 (subst P (sym is.0) later.3)
    one_reason lines (inr early) later =
        not_a_line later.0 later.1.0 early.0 (line_from early.0 early.2)
        (append_cancel_left (text_of lines) early.0 (line later.0 ++ later.1.0) (sym early.1 ∙ goes_rest text lines later.0 later.1))

    mixed : (lines others : List (List ℕ)) → order ≡ ParentsFirst → BeginsText A order lines → BeginsText A order others
        → IsWrongLine A text lines ⊎ EndsEarly A order text lines → NamesLaterParent A text others → ⊥
    mixed lines others first begun also wrong later =
        let is = one_place lines others (stops_wrong lines begun wrong) (stops_later others first also later) in
        one_reason lines wrong (subst (NamesLaterParent A text) (sym is) later)

    pub stop_once : (a b : LoadFault) → StopsAt A order text a → StopsAt A order text b → a ≢ faults.Memory → b ≢ faults.Memory → a ≡ b
    stop_once faults.Memory b here there unlike also = absurd (unlike refl)
    stop_once (faults.Text m) faults.Memory here there unlike also = absurd (also refl)
    stop_once (faults.ParentLater m) faults.Memory here there unlike also = absurd (also refl)
    stop_once (faults.Text m) (faults.Text n) (lines, counted, begun, wrong) (others, numbered, more, early) unlike also =
        ap (λ (k : ℕ). faults.Text k) (one_number lines others m n counted numbered (one_place lines others (stops_wrong lines begun wrong) (stops_wrong others more early)))
    stop_once (faults.ParentLater m) (faults.ParentLater n) (first, (lines, counted, begun, later)) (second, (others, numbered, more, after)) unlike also =
        ap (λ (k : ℕ). faults.ParentLater k)
        (one_number lines others m n counted numbered (one_place lines others (stops_later lines first begun later) (stops_later others second more after)))
    stop_once (faults.Text m) (faults.ParentLater n) (lines, counted, begun, wrong) (second, (others, numbered, more, later)) unlike also =
        absurd (mixed lines others second begun more wrong later)
    stop_once (faults.ParentLater m) (faults.Text n) (first, (lines, counted, begun, later)) (others, numbered, more, wrong) unlike also =
        absurd (mixed others lines first more begun wrong later)
