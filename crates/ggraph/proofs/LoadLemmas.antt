-- The items that the lines of a text encode, and reading one more line.
use Rattle.std.specs.Prelude.{◌==◌}
use Rattle.std.proofs.Common.{true, ◌≡◌, ℕ, ◌+◌, ◌≤◌, List, [], ◌∷◌, ◌++◌, length, map, refl, sym, ◌∙◌, ap, subst, arith}
use Rattle.std.proofs.lemmas.Bool.Decides.{nat_tests}
use Rattle.std.proofs.lemmas.List.{append_assoc, append-nil, length-append, map_push}
use Rattle.ggraph.specs.declared.text.Order.{Order}
use Rattle.ggraph.specs.declared.text.reading.Reading.{Reading}
use Rattle.ggraph.specs.declared.text.reading.TextStage.{TextStage}
use Rattle.ggraph.specs.declared.text.reading.TextStage.TheVariants.{Done}
use Rattle.ggraph.specs.steps.Reading.{Item, MayCome, ComesNext, after, line_of, nothing_read}
use Rattle.gobject.specs.PlainPackText.{line, text_of}
use Rattle.gobject.proofs.PlainPackLines.{text_of-append}

-- each item of the list is allowed after the items before it, and `new` is the state after all items
abbrev pub ReadsTo : {A : Type 0} → Order → Reading A → List (Item A) → Reading A → Type 0
ReadsTo order old [] new = new ≡ old
ReadsTo order old (item ∷ items) new = MayCome order old item × ReadsTo order (after old item) items new

-- the text of some items
abbrev pub items_text : {A : Type 0} → List (Item A) → List ℕ
items_text items = text_of (map line_of items)

-- the text consists of the lines of these items and the text `rest`, and `new` is the state after the items
pub record HasRead {A : Type 0} (order : Order) (text : List ℕ) (items : List (Item A)) (rest : List ℕ) (new : Reading A) : Type 0 where
  pub spells : text ≡ items_text items ++ rest
  pub reads : ReadsTo order nothing_read items new

pub reads_more : {A : Type 0} (order : Order) (old mid new : Reading A) (items : List (Item A)) (item : Item A) → ReadsTo order old items mid → MayCome order mid item → new ≡ after mid item → ReadsTo order old (items ++ item ∷ []) new
reads_more {A} order old mid new [] item here may e = (subst (λ (r : Reading A). MayCome order r item) here may, e ∙ ap (λ (r : Reading A). after r item) here)
reads_more order old mid new (first ∷ items) item (may_first, rest) may e = (may_first, reads_more order (after old first) mid new items item rest may e)

-- the text of some lines and one more line
pub text_of-push : (lines : List (List ℕ)) (last : List ℕ) → text_of (lines ++ last ∷ []) ≡ text_of lines ++ line last
text_of-push lines last = text_of-append lines (last ∷ []) ∙ ap (λ (t : List ℕ). text_of lines ++ t) (append-nil (line last))

items_text_more : {A : Type 0} (items : List (Item A)) (item : Item A) → items_text (items ++ item ∷ []) ≡ items_text items ++ line (line_of item)
items_text_more items item = ap text_of (map_push line_of items item) ∙ text_of-push (map line_of items) (line_of item)

pub has_read_more : {A : Type 0} (order : Order) (text : List ℕ) (items : List (Item A)) (rest this after_it : List ℕ) (old new : Reading A) → HasRead order text items rest old → rest ≡ line this ++ after_it → (item : Item A) → this ≡ line_of item → MayCome order old item → new ≡ after old item → HasRead order text (items ++ item ∷ []) after_it new
has_read_more order text items rest this after_it old new so_far next item is may e = record {
  spells =
      so_far.spells ∙ ap (λ (t : List ℕ). items_text items ++ t) (next ∙ ap (λ (l : List ℕ). line l ++ after_it) is)
      ∙ sym (append_assoc (items_text items) (line (line_of item)) after_it)
      ∙ ap (λ (t : List ℕ). t ++ after_it) (sym (items_text_more items item));
  reads = reads_more order nothing_read old new items item so_far.reads may e;
}

-- the items that were read so far, the unread text, and the number of the next line
abbrev pub Progress : {A : Type 0} → Order → List ℕ → List ℕ → Reading A → ℕ → Type 0
Progress {A} order text rest reading number =
    (items : List (Item A)) × HasRead order text items rest reading × (number ≡ length items + 1) × (number + length rest ≤ length text + 1)

pub progress_more : {A : Type 0} (order : Order) (text rest this after_it : List ℕ) (old new : Reading A) (number : ℕ) → Progress order text rest old number → rest ≡ line this ++ after_it → ComesNext order old this new → Progress order text after_it new (number + 1)
progress_more order text rest this after_it old new number (items, so_far, counted, small) next (item, is, may, e) = (
  items ++ item ∷ [],
  has_read_more order text items rest this after_it old new so_far next item is may e,
  omega (arith, length-append items (item ∷ [])),
  omega (arith, ap length next, length-append (line this) after_it, length-append this (10 ∷ [])),
)

empty_one : (rest : List ℕ) → true ≡ (length rest == 0) → rest ≡ []
empty_one [] e = refl
empty_one (x ∷ xs) e = absurd (grind (arith, nat_tests))

done_same : {A : Type 0} (old : Reading A) → old.stage ≡ Done → old ≡ record { stage = Done; graph = old.graph; refs = old.refs; head = old.head }
done_same {A} old here =
    let at_stage : TextStage → Reading A = λ s. record { stage = s; graph = old.graph; refs = old.refs; head = old.head } in
    ap at_stage here

pub progress_done : {A : Type 0} (order : Order) (text rest : List ℕ) (old : Reading A) (number : ℕ) → Progress order text rest old number → true ≡ (length rest == 0) → old.stage ≡ Done → (items : List (Item A)) × HasRead order text items [] (record { stage = Done; graph = old.graph; refs = old.refs; head = old.head })
progress_done {A} order text rest old number (items, so_far, counted, small) empty here =
    let none = empty_one rest empty in (
      items,
      record {
        spells = so_far.spells ∙ ap (λ (t : List ℕ). items_text items ++ t) none;
        reads = subst (λ (r : Reading A). ReadsTo order nothing_read items r) (done_same old here) so_far.reads;
      },
    )
