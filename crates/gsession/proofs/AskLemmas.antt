-- The requested ref updates, refspec by refspec and line by line, and the first update for each ref.
use Rattle.std.proofs.Common.{◌≡◌, ◌≢◌, ◌↔◌, ℕ, ◌+◌, ◌<◌, true, false, if◌then◌else◌, List, [], ◌∷◌, ◌++◌, length}
use Rattle.std.proofs.Common.{get_or, map, filter, take, drop, All, Contains, Ok, refl, sym, ap, subst, append_assoc}
use Rattle.std.proofs.Common.{arith, ◌∙◌}
use Rattle.std.specs.Str.{bytes_eq}
use Rattle.std.proofs.lemmas.Grind.{flat_map-append}
use Rattle.std.proofs.lemmas.List.{map-append}
use Rattle.std.proofs.lemmas.List.Elements.{All-append, All-cons, All-contains, All-contains_itself, All-filter}
use Rattle.std.proofs.lemmas.List.Elements.{All-head, All-map, All-nil, All-push, All-tail, Contains-append_left}
use Rattle.std.proofs.lemmas.List.Elements.{Contains-append_right, Contains-get_or, Contains-push, filter-append}
use Rattle.std.proofs.lemmas.List.Elements.{filter_passes}
use Rattle.std.proofs.lemmas.List.Folds.{Any-from_list_any}
use Rattle.std.proofs.lemmas.Bool.{false≢true}
use Rattle.std.proofs.lemmas.Slice.Eq.{bytes_eq-Decides}
use Rattle.gname.specs.Ids.{IsIdOf}
use Rattle.gname.specs.Names.{IsRefName, Owns, name_fault}
use Rattle.gname.specs.declared.formats.Format.{Format}
use Rattle.glsreply.specs.RefTexts.{RefLine}
use Rattle.glsreply.specs.WellFormed.{IsRefLine}
use Rattle.gdag.proofs.Growing.{at_front, take_one}
use Rattle.gdag.proofs.IdLists.{contains_head, either_way, flat_map-from}
use Rattle.grefs.specs.Refspecs.{Refspec, destination_of, matches}
use Rattle.gclientrepo.specs.declared.ask.Ask.{Ask}
use Rattle.gclientrepo.specs.Asks.{NamesDiffer, is_asked, with_ask}
use Rattle.gclientrepo.proofs.AskLemmas.{differ_push, with_ask_new, with_ask_there}
use Rattle.gsession.specs.Asking.{AreNamed, ask_of, asked_of, asks_by, asks_by_all, line_matches, with_asks}
use Rattle.gsession.specs.Laws.{AsksAreOfLines, FirstIsAsked, IsAskOf, IsFirstFor, LeadsElsewhere}

module _ {A : Type 0} where
  -- ---- updates for more lines, and for more refspecs

  pub asks_by-append : (spec : Refspec) (xs ys : List RefLine)
      → asks_by {A = A} spec (xs ++ ys) ≡ asks_by spec xs ++ asks_by spec ys
  asks_by-append spec xs ys =
      ap (map (ask_of spec)) (filter-append (line_matches spec) xs ys)
      ∙ map-append (ask_of spec) (filter (line_matches spec) xs) (filter (line_matches spec) ys)

  pub asks_by_all-append : (lines : List RefLine) (specs more : List Refspec)
      → asks_by_all {A = A} (specs ++ more) lines ≡ asks_by_all specs lines ++ asks_by_all more lines
  asks_by_all-append lines specs more = flat_map-append (λ spec. asks_by {A = A} spec lines) specs more

  -- ---- adding requested updates

  with_asks-append : (asks xs ys : List (Ask A)) → with_asks asks (xs ++ ys) ≡ with_asks (with_asks asks xs) ys
  with_asks-append asks [] ys = refl
  with_asks-append asks (x ∷ xs) ys = with_asks-append (with_ask asks x) xs ys

  -- a property of all updates of two lists holds for all updates of the combined list
  asks_more : (P : Ask A → Type 0) (asks more : List (Ask A)) → All P asks → All P more → All P (with_asks asks more)
  asks_more P asks [] all new = all
  asks_more P asks (ask ∷ more) all new =
      asks_more P (with_ask asks ask) more
      (elim (is_asked asks ask.name) as (λ b. All P (if b then asks else asks ++ ask ∷ [])) [
        | true ↦ all
        | false ↦ All-push P asks ask all (All-head P ask more new)
      ])
      (All-tail P ask more new)

  -- the updates `more` were added to the old updates, and each is for a valid ref name
  abbrev pub HasAdded : List (Ask A) → List (Ask A) → List (Ask A) → Type 0
  HasAdded old more new = (new ≡ with_asks old more) × AreNamed more

  -- a line that the refspec does not match adds no update
  pub adds_none : (spec : Refspec) (line : RefLine) (old new : List (Ask A)) → matches spec line.name ≡ false
      → new ≡ old → HasAdded old (asks_by spec (line ∷ [])) new
  adds_none spec line old new e same = rw e (same, All-nil (λ (ask : Ask A). IsRefName ask.name))

  -- a line that the refspec matches adds the update for its destination, which is a valid ref name
  pub adds_one : (spec : Refspec) (line : RefLine) (name : List ℕ) (old new : List (Ask A))
      → matches spec line.name ≡ true → Owns name_fault (destination_of spec line.name) (Ok name)
      → new ≡ with_ask old (record { name = name; id = line.id; forced = spec.forced })
      → HasAdded old (asks_by spec (line ∷ [])) new
  adds_one spec line name old new e owns adds =
      let P : Ask A → Type 0 = λ ask. IsRefName ask.name in
      rw e (
        adds ∙ ap (λ (n : List ℕ). with_ask old (record { name = n; id = line.id; forced = spec.forced })) owns.0,
        All-cons P (ask_of spec line) [] owns.1 (All-nil P),
      )

  -- the updates for a line are for valid ref names exactly if its destination is one, or the refspec does not match
  pub named_line : (spec : Refspec) (line : RefLine)
      → (matches spec line.name ≡ true → IsRefName (destination_of spec line.name))
      ↔ AreNamed {A = A} (asks_by spec (line ∷ []))
  named_line spec line =
      let P : Ask A → Type 0 = λ ask. IsRefName ask.name in
      either_way (matches spec line.name)
      (λ e. rw e (
        λ is. All-cons P (ask_of spec line) [] (is refl) (All-nil P),
        λ named yes. All-head P (ask_of spec line) [] named,
      ))
      (λ e. rw e (λ is. All-nil P, λ named yes. absurd (false≢true yes)))

  -- the updates for the first `i` lines or refspecs, and for the line or refspec at index `i`
  module _ {X : Type 0} (f : List X → List (Ask A)) (joins : (xs ys : List X) → f (xs ++ ys) ≡ f xs ++ f ys)
      (xs : List X) (i : ℕ) (x : X) (low : i < length xs) (at : x ≡ get_or xs i x) (one : List (Ask A))
      (is_one : f (x ∷ []) ≡ one) where
    pub added_more : (old mid new : List (Ask A)) → HasAdded old (f (take i xs)) mid → HasAdded mid one new
        → HasAdded old (f (take (i + 1) xs)) new
    added_more old mid new first next =
        subst (λ (l : List (Ask A)). HasAdded old l new)
        (sym (ap f (take_one xs i x low at) ∙ joins (take i xs) (x ∷ []) ∙ ap (λ l. f (take i xs) ++ l) is_one)) (
          next.0 ∙ ap (λ (l : List (Ask A)). with_asks l one) first.0 ∙ sym (with_asks-append old (f (take i xs)) one),
          All-append (λ (ask : Ask A). IsRefName ask.name) (f (take i xs)) one first.1 next.1,
        )

    pub named_more : AreNamed (f (take i xs)) → AreNamed one → AreNamed (f (take (i + 1) xs))
    named_more first next =
        subst (AreNamed {A = A})
        (sym (ap f (take_one xs i x low at) ∙ joins (take i xs) (x ∷ []) ∙ ap (λ l. f (take i xs) ++ l) is_one))
        (All-append (λ (ask : Ask A). IsRefName ask.name) (f (take i xs)) one first next)

    pub named_one : AreNamed (f xs) → AreNamed one
    named_one named =
        let rest = f (drop (i + 1) xs) in
        let all = subst (AreNamed {A = A})
        (ap f (at_front xs i x low at) ∙ joins (take i xs) (x ∷ drop (i + 1) xs)
        ∙ ap (λ l. f (take i xs) ++ l) (joins (x ∷ []) (drop (i + 1) xs) ∙ ap (λ l. l ++ rest) is_one)) named in
        λ k d low. All-contains (λ (ask : Ask A). IsRefName ask.name) (f (take i xs) ++ (one ++ rest)) _ all
        (Contains-append_right (f (take i xs)) (one ++ rest) _
        (Contains-append_left one rest _ (Contains-get_or one k d low)))

  -- ---- the refspec and the line of a requested update

  asks_of_spec : (specs : List Refspec) (lines : List RefLine) (spec : Refspec) → Contains specs spec
      → All (IsAskOf {A = A} specs lines) (asks_by spec lines)
  asks_of_spec specs lines spec among =
      let chosen : List RefLine = filter (line_matches spec) lines in
      All-map (IsAskOf {A = A} specs lines) (ask_of spec) chosen (λ k d low. record {
        spec = spec;
        line = get_or chosen k d;
        among = among;
        told = All-filter (line_matches spec) (Contains lines) lines (All-contains_itself lines) k d low;
        matched = filter_passes (line_matches spec) lines k d low;
        is = refl;
      })

  asks_of_specs : (specs : List Refspec) (lines : List RefLine)
      → All (IsAskOf {A = A} specs lines) (asks_by_all specs lines)
  asks_of_specs specs lines = λ k d low.
      let all : List (Ask A) = asks_by_all specs lines in
      let from = flat_map-from (λ spec. asks_by {A = A} spec lines) specs (get_or all k d)
      (Contains-get_or all k d low) in
      All-contains (IsAskOf specs lines) (asks_by from.0 lines) (get_or all k d)
      (asks_of_spec specs lines from.0 from.1) from.2

  pub asks_are_of_lines : AsksAreOfLines A
  asks_are_of_lines specs lines =
      let P : Ask A → Type 0 = IsAskOf specs lines in
      asks_more P [] (asks_by_all specs lines) (All-nil P) (asks_of_specs specs lines)

  pub asked_have_ids : (specs : List Refspec) (lines : List RefLine) (asks : List (Ask A)) → asks ≡ asked_of specs lines
      → (format : Format) → All (IsRefLine format) lines → All (λ (ask : Ask A). IsIdOf format ask.id) asks
  asked_have_ids specs lines asks is format are = rw is (λ k d low.
      let of = asks_are_of_lines specs lines k d low in
      subst (λ (ask : Ask A). IsIdOf format ask.id) (sym of.is)
      (All-contains (IsRefLine format) lines of.line are of.told).id)

  -- ---- the first update for a ref

  -- an update of this ref is requested
  abbrev HasAsk : List (Ask A) → List ℕ → Type 0
  HasAsk asks name = (ask : Ask A) × Contains asks ask × (ask.name ≡ name)

  -- no requested update is for this ref
  abbrev AreElsewhere : List ℕ → List (Ask A) → Type 0
  AreElsewhere name asks = All (λ ask. ask.name ≢ name) asks

  asked_has : (asks : List (Ask A)) (name : List ℕ) → is_asked asks name ≡ true → HasAsk asks name
  asked_has asks name is =
      let (k, ask, low, at, same) = Any-from_list_any (λ (ask : Ask A). bytes_eq ask.name name) asks is in
      (ask, (k, low, at), (bytes_eq-Decides ask.name name).0 same)

  keeps : (asks : List (Ask A)) (ask a : Ask A) → Contains asks a → Contains (with_ask asks ask) a
  keeps asks ask a there =
      elim (is_asked asks ask.name) as (λ b. Contains (if b then asks else asks ++ ask ∷ []) a) [
        | true ↦ there
        | false ↦ Contains-append_left asks (ask ∷ []) a there
      ]

  keeps_all : (asks more : List (Ask A)) (a : Ask A) → Contains asks a → Contains (with_asks asks more) a
  keeps_all asks [] a there = there
  keeps_all asks (x ∷ more) a there = keeps_all (with_ask asks x) more a (keeps asks x a there)

  has_it : (asks : List (Ask A)) (ask : Ask A) → HasAsk (with_ask asks ask) ask.name
  has_it asks ask =
      either_way (is_asked asks ask.name)
      (λ e. let has = asked_has asks ask.name e in (has.0, keeps asks ask has.0 has.1, has.2))
      (λ e. (ask, rw (with_ask_new A asks ask e) (Contains-push asks ask), refl))

  has_each : (asks more : List (Ask A)) → All (λ ask. HasAsk (with_asks asks more) ask.name) more
  has_each asks [] = All-nil (λ (ask : Ask A). HasAsk asks ask.name)
  has_each asks (x ∷ more) =
      let here = has_it asks x in
      All-cons (λ (ask : Ask A). HasAsk (with_asks (with_ask asks x) more) ask.name) x more
      (here.0, keeps_all (with_ask asks x) more here.0 here.1, here.2) (has_each (with_ask asks x) more)

  differ_all : (asks more : List (Ask A)) → NamesDiffer asks → NamesDiffer (with_asks asks more)
  differ_all asks [] differ = differ
  differ_all asks (x ∷ more) differ =
      differ_all (with_ask asks x) more
      (either_way (is_asked asks x.name)
      (λ e. subst NamesDiffer (sym (with_ask_there A asks x e)) differ)
      (λ e. subst NamesDiffer (sym (with_ask_new A asks x e)) (differ_push A asks x differ e)))

  -- the first update for a ref is kept
  first_counts : (front : List (Ask A)) (ask : Ask A) (back : List (Ask A)) → AreElsewhere ask.name front
      → Contains (with_asks [] (front ++ ask ∷ back)) ask
  first_counts front ask back others =
      let P : Ask A → Type 0 = λ a. a.name ≢ ask.name in
      let mid : List (Ask A) = with_asks [] front in
      let apart : All P mid = asks_more P [] front (All-nil P) others in
      let none : is_asked mid ask.name ≡ false =
      either_way (is_asked mid ask.name)
      (λ e. let has = asked_has mid ask.name e in absurd (All-contains P mid has.0 apart has.1 has.2)) (λ e. e) in
      rw (with_asks-append [] front (ask ∷ back))
      (keeps_all (with_ask mid ask) back ask (rw (with_ask_new A mid ask none) (Contains-push mid ask)))

  -- the updates before the one for `spec` and `line`, this update, and the later updates
  all_parts : (before : List Refspec) (spec : Refspec) (after : List Refspec) (above : List RefLine) (line : RefLine)
      (below : List RefLine) → matches spec line.name ≡ true
      → asks_by_all {A = A} (before ++ spec ∷ after) (above ++ line ∷ below)
      ≡ (asks_by_all before (above ++ line ∷ below) ++ asks_by spec above)
      ++ ask_of spec line ∷ (asks_by spec below ++ asks_by_all after (above ++ line ∷ below))
  all_parts before spec after above line below e =
      asks_by_all-append (above ++ line ∷ below) before (spec ∷ after)
      ∙ rw (asks_by-append spec above (line ∷ below), e) (simp append_assoc)

  -- if no refspec maps a line to this ref, no requested update is for this ref
  by_specs : (name : List ℕ) (specs : List Refspec) (lines : List RefLine) (asks : List (Ask A))
      → All (IsAskOf specs lines) asks → All (λ spec. All (LeadsElsewhere name spec) lines) specs
      → AreElsewhere name asks
  by_specs name specs lines asks are none = λ k d low same.
      let of = are k d low in
      All-contains (LeadsElsewhere name of.spec) lines of.line
      (All-contains (λ spec. All (LeadsElsewhere name spec) lines) specs of.spec none of.among) of.told of.matched
      (sym (ap (λ (ask : Ask A). ask.name) of.is) ∙ same)

  is_first : (specs : List Refspec) (lines : List RefLine) (spec : Refspec) (line : RefLine)
      → IsFirstFor specs lines spec line → Contains {X = Ask A} (asked_of specs lines) (ask_of spec line)
  is_first specs lines spec line is =
      let name = destination_of spec line.name in
      let told = is.above ++ line ∷ is.below in
      let front : List (Ask A) = asks_by_all is.before told ++ asks_by spec is.above in
      let none = subst (λ (l : List RefLine). All (λ other. All (LeadsElsewhere name other) l) is.before) is.lines_are
      is.no_spec in
      let rest : List (Ask A) = asks_by spec is.below ++ asks_by_all is.after told in
      let parts : asks_by_all specs lines ≡ front ++ ask_of spec line ∷ rest =
      ap (λ l. asks_by_all specs l) is.lines_are ∙ ap (λ s. asks_by_all s told) is.specs_are
      ∙ all_parts is.before spec is.after is.above line is.below is.matched in
      rw parts (first_counts front (ask_of spec line) rest
      (All-append (λ (ask : Ask A). ask.name ≢ name) (asks_by_all is.before told) (asks_by spec is.above)
      (by_specs name is.before told (asks_by_all is.before told) (asks_of_specs is.before told) none)
      (by_specs name (spec ∷ []) is.above (asks_by spec is.above)
      (asks_of_spec (spec ∷ []) is.above spec (contains_head spec []))
      (All-cons (λ s. All (LeadsElsewhere name s) is.above) spec [] is.no_line
      (All-nil (λ s. All (LeadsElsewhere name s) is.above))))))

  has_ask : (specs : List Refspec) (lines : List RefLine) (spec : Refspec) (line : RefLine) → Contains specs spec
      → Contains lines line → matches spec line.name ≡ true
      → HasAsk (asked_of specs lines) (destination_of spec line.name)
  has_ask specs lines spec line among told e =
      let i = among.0 in
      let j = told.0 in
      let ls = take j lines ++ line ∷ drop (j + 1) lines in
      let ask : Ask A = ask_of spec line in
      let front : List (Ask A) = asks_by_all (take i specs) ls ++ asks_by spec (take j lines) in
      let rest : List (Ask A) = asks_by spec (drop (j + 1) lines) ++ asks_by_all (drop (i + 1) specs) ls in
      let all : List (Ask A) = asks_by_all specs lines in
      let parts : all ≡ front ++ ask ∷ rest =
      ap (λ (l : List RefLine). asks_by_all specs l) (at_front lines j line told.1 (sym told.2))
      ∙ ap (λ (s : List Refspec). asks_by_all s ls) (at_front specs i spec among.1 (sym among.2))
      ∙ all_parts (take i specs) spec (drop (i + 1) specs) (take j lines) line (drop (j + 1) lines) e in
      All-contains (λ (a : Ask A). HasAsk (asked_of specs lines) a.name) all ask (has_each [] all)
      (rw parts (Contains-append_right front (ask ∷ rest) ask (contains_head ask rest)))

  pub first_is_asked : FirstIsAsked A
  first_is_asked = record {
    each = has_ask;
    once = λ specs lines. differ_all [] (asks_by_all specs lines) (λ i j d before in'. absurd (omega arith));
    first = is_first;
  }
