-- The line at which a text is refused. The text of a valid repository is not refused.
use Rattle.std.proofs.Common.{◌≡◌, inl, inr, ℕ, ◌+◌, List, [], ◌∷◌, ◌++◌, length, map, Ok, Err, refl, sym, ◌∙◌, ap, subst}
use Rattle.std.proofs.lemmas.List.{append_assoc, length-map, map_push}
use Rattle.grefs.specs.RefLists.{RefList}
use Rattle.grefs.specs.declared.head.Head.{Head}
use Rattle.grefs.specs.declared.head.Head.TheVariants.{Symref}
use Rattle.ggraph.specs.Loading.{AcceptsText, BeginsText, EndsEarly, IsKeptLine, IsWholeText, IsWrongLine, StopsAt}
use Rattle.ggraph.specs.RepositoryText.{IsLoadable, lines_of, repository_text}
use Rattle.ggraph.specs.declared.fault.LoadFault.{LoadFault}
use Rattle.ggraph.specs.declared.text.Order.{Order}
use Rattle.ggraph.specs.declared.text.Order.TheVariants.{Any, ParentsFirst}
use Rattle.ggraph.specs.declared.text.Repository.{Repository}
use Rattle.ggraph.specs.declared.text.reading.Reading.{Reading}
use Rattle.ggraph.specs.declared.text.reading.TextStage.TheVariants.{Done}
use Rattle.ggraph.specs.steps.Reading.{Item, IsKept, MayCome, RefusesLine, NeverComes, after, heads}
use Rattle.ggraph.specs.steps.Reading.{line_of, node, nothing_read, ref}
use Rattle.ggraph.specs.steps.TextLaws.{TextLaws}
use Rattle.ggraph.specs.declared.fault.LoadFault.TheVariants as faults
use Rattle.gobject.specs.PlainPackText.{GoesOn, IsInLine, line}
use Rattle.gdag.specs.Graphs.{History}
use Rattle.ggraph.proofs.OneReading.{lines_are_lines, lines_whole, next_item, one_repository, reads_whole, same_reading, whole_items, whole_reading}
use Rattle.ggraph.proofs.Lines.{AreLines, front_lines, line_from, lines-append, more_lines, no_line_left}
use Rattle.ggraph.proofs.LoadLemmas.{HasRead, Progress, ReadsTo, items_text, reads_more, text_of-push}
use Rattle.ggraph.proofs.WholeLemmas.{begins_so_far}

module _ (laws : TextLaws) where
  -- ---- reading in any order

  may_in_any : {A : Type 0} (order : Order) (old : Reading A) (item : Item A) → MayCome order old item → MayCome Any old item
  may_in_any order old (node entry) may = (may.0, record { comes = may.1.comes; after = tt })
  may_in_any order old _ may = may

  reads_in_any : {A : Type 0} (order : Order) (old new : Reading A) (items : List (Item A)) → ReadsTo order old items new → ReadsTo Any old items new
  reads_in_any order old new [] reads = reads
  reads_in_any order old new (item ∷ items) reads = (may_in_any order old item reads.0, reads_in_any order (after old item) new items reads.1)

  -- ---- the next line

  module _ {A : Type 0} (order : Order) (items : List (Item A)) (old : Reading A) (reads : ReadsTo order nothing_read items old) where
    -- no text begins with the lines that were read and a line that is not allowed next
    begins_not : (other : Order) (line : List ℕ) → NeverComes other old line → BeginsText A other (map line_of items ++ line ∷ []) → ⊥
    begins_not other line never more =
        let parts : map line_of items ++ line ∷ more.more ≡ map line_of (whole_items laws more.graph more.refs more.head) =
        sym (append_assoc (map line_of items) (line ∷ []) more.more) ∙ sym more.parts ∙ sym (lines_whole laws more.graph more.refs more.head) in
        let next = next_item laws order other nothing_read old (whole_reading laws more.graph more.refs more.head) items (whole_items laws more.graph more.refs more.head) line more.more reads (reads_whole laws other more.graph more.refs more.head more.loadable) parts in
        never next.0 next.1 next.2

    -- some text begins with the lines that were read and a line that is allowed next, in each order that allows these
    -- lines
    begins_with : (other : Order) (line : List ℕ) (item : Item A) → ReadsTo other nothing_read items old → line ≡ line_of item → MayCome other old item → BeginsText A other (map line_of items ++ line ∷ [])
    begins_with other line item there is may =
        let longer = reads_more other nothing_read old (after old item) items item there may refl in
        subst (BeginsText A other) (map_push line_of items item ∙ ap (λ (l : List ℕ). map line_of items ++ l ∷ []) (sym is)) (begins_so_far other (items ++ item ∷ []) (after old item) longer)

    -- before the last line is read, the lines that were read are not a complete text
    whole_not : (old.stage ≡ Done → ⊥) → IsWholeText A order (map line_of items) → ⊥
    whole_not early all =
        let same = same_reading laws order order nothing_read old (whole_reading laws all.graph all.refs all.head) items (whole_items laws all.graph all.refs all.head) reads (reads_whole laws order all.graph all.refs all.head all.loadable) (sym all.parts ∙ sym (lines_whole laws all.graph all.refs all.head)) in
        early (ap (λ (r : Reading A). r.stage) same)

  -- ---- the fault that is reported

  goes_on : {A : Type 0} (order : Order) (text rest this after_it : List ℕ) (items : List (Item A)) (old : Reading A) → HasRead order text items rest old → rest ≡ line this ++ after_it → IsInLine this → GoesOn text (map line_of items) this
  goes_on order text rest this after_it items old so_far next clean = (
    after_it,
    so_far.spells ∙ ap (λ (t : List ℕ). items_text items ++ t) next
        ∙ sym (append_assoc (items_text items) (line this) after_it)
        ∙ ap (λ (t : List ℕ). t ++ after_it) (sym (text_of-push (map line_of items) this)),
    clean,
  )

  kept_line : {A : Type 0} (item : Item A) (this : List ℕ) → this ≡ line_of item → IsKept item → IsKeptLine A this
  kept_line (node entry) this is kept = inl (entry, is)
  kept_line (ref it) this is kept = inr (inl (it, is))
  kept_line (heads (Symref target)) this is kept = inr (inr (target, is))
  kept_line _ this is kept = absurd kept

  counted_lines : {A : Type 0} (items : List (Item A)) (number : ℕ) → number ≡ length items + 1 → number ≡ length (map line_of items) + 1
  counted_lines items number e = e ∙ ap (λ (n : ℕ). n + 1) (sym (length-map items line_of))

  pub stops_refused : {A : Type 0} (order : Order) (text rest this after_it : List ℕ) (old : Reading A) (number : ℕ) (fault : LoadFault) → Progress order text rest old number → rest ≡ line this ++ after_it → IsInLine this → RefusesLine order old this number fault → StopsAt A order text fault
  stops_refused order text rest this after_it old number faults.Memory (items, so_far, counted, small) next clean (item, is, may, kept) = (
    map line_of items,
    (
      this,
      goes_on order text rest this after_it items old so_far next clean,
      begins_with order items old so_far.reads order this item so_far.reads is may,
      kept_line item this is kept,
    ),
  )
  stops_refused order text rest this after_it old number (faults.Text at) (items, so_far, counted, small) next clean refuses = (
    map line_of items,
    counted_lines items at (refuses.0 ∙ counted),
    begins_so_far order items old so_far.reads,
    inl (this, goes_on order text rest this after_it items old so_far next clean, begins_not order items old so_far.reads Any this refuses.1),
  )
  stops_refused {A} order text rest this after_it old number (faults.ParentLater at) (items, so_far, counted, small) next clean refuses = (
    refuses.1,
    (
      map line_of items,
      counted_lines items at (refuses.0 ∙ counted),
      begins_so_far order items old so_far.reads,
      (
        this,
        goes_on order text rest this after_it items old so_far next clean,
        begins_not order items old so_far.reads ParentsFirst this refuses.2,
        begins_with order items old so_far.reads Any this refuses.3 (reads_in_any order nothing_read old items so_far.reads) refuses.4 refuses.5,
      ),
    ),
  )

  pub stops_early : {A : Type 0} (order : Order) (text rest : List ℕ) (old : Reading A) (number : ℕ) → Progress order text rest old number → IsInLine rest → (rest ≡ [] → old.stage ≡ Done → ⊥) → StopsAt A order text (faults.Text number)
  stops_early order text rest old number (items, so_far, counted, small) clean early = (
    map line_of items,
    counted_lines items number counted,
    begins_so_far order items old so_far.reads,
    inr (rest, so_far.spells, clean, λ none. whole_not order items old so_far.reads (early none)),
  )

  -- ---- the text of a valid repository

  pub lines_begun : {A : Type 0} (order : Order) (lines : List (List ℕ)) → BeginsText A order lines → AreLines lines
  lines_begun order lines more = front_lines lines more.more (subst AreLines more.parts (lines_are_lines laws order more.graph more.refs more.head more.loadable))

  pub loadable_in_any : {A : Type 0} (order : Order) (g : History A) (refs : RefList) (head : Head A) → IsLoadable order g refs head → IsLoadable Any g refs head
  loadable_in_any order g refs head valid = record {
    nodes = λ front x rest parts. (let may = valid.nodes front x rest parts in record { comes = may.comes; after = tt });
    refs_follow = valid.refs_follow;
    stands = valid.stands;
  }

  module _ {A : Type 0} (order : Order) (text : List ℕ) (g : History A) (refs : RefList) (head : Head A) (valid : IsLoadable order g refs head) (e : text ≡ repository_text g refs head) where
    goes_on_begins : (lines : List (List ℕ)) (this : List ℕ) → BeginsText A order lines → GoesOn text lines this → BeginsText A order (lines ++ this ∷ [])
    goes_on_begins lines this begun (rest, spells, clean) =
        let are = lines-append lines (this ∷ []) (lines_begun order lines begun) (line_from this clean, tt) in
        let next = more_lines (lines ++ this ∷ []) (lines_of g refs head) rest are (lines_are_lines laws order g refs head valid) (sym e ∙ spells) in
        record { graph = g; refs = refs; head = head; loadable = valid; more = next.0; parts = next.1 }

    wrong_line_not : (lines : List (List ℕ)) → BeginsText A order lines → IsWrongLine A text lines → ⊥
    wrong_line_not lines begun (line, goes, never) =
        let more = goes_on_begins lines line begun goes in
        never (record { graph = more.graph; refs = more.refs; head = more.head; loadable = loadable_in_any order more.graph more.refs more.head more.loadable; more = more.more; parts = more.parts })

    ends_early_not : (lines : List (List ℕ)) → BeginsText A order lines → EndsEarly A order text lines → ⊥
    ends_early_not lines begun (rest, spells, clean, early) =
        let none = no_line_left lines (lines_of g refs head) rest (lines_begun order lines begun) (lines_are_lines laws order g refs head valid) (line_from rest clean) (sym e ∙ spells) in
        early none.0 (record { graph = g; refs = refs; head = head; loadable = valid; parts = none.1 })

    not_stopped : (fault : LoadFault) → StopsAt A order text fault → fault ≡ faults.Memory
    not_stopped faults.Memory stops = refl
    not_stopped (faults.Text at) (lines, counted, begun, inl wrong) = absurd (wrong_line_not lines begun wrong)
    not_stopped (faults.Text at) (lines, counted, begun, inr early) = absurd (ends_early_not lines begun early)
    not_stopped (faults.ParentLater at) (first, (lines, counted, begun, (line, goes, never, may))) =
        absurd (never (subst (λ (o : Order). BeginsText A o (lines ++ line ∷ [])) first (goes_on_begins lines line begun goes)))

  -- if loading the text of a valid repository fails, the fault is `Memory`
  pub accepts_err : {A : Type 0} (order : Order) (text : List ℕ) (fault : LoadFault) → StopsAt A order text fault → AcceptsText A order text (Err fault)
  accepts_err order text fault stops g refs head valid e = not_stopped order text g refs head valid e fault stops

  pub accepts_ok : {A : Type 0} (order : Order) (text : List ℕ) (repo : Repository A) → text ≡ repository_text repo.graph repo.refs repo.head → IsLoadable order repo.graph repo.refs repo.head → AcceptsText A order text (Ok repo)
  accepts_ok {A} order text repo spells loadable g refs head valid e =
      let same = one_repository laws order order repo.graph g repo.refs refs repo.head head loadable valid (sym spells ∙ e) in
      (ap (λ (r : Reading A). r.graph) same, ap (λ (r : Reading A). r.refs) same, ap (λ (r : Reading A). r.head) same)
