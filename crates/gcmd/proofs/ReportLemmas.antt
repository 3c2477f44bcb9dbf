-- The lines of a report, one line at a time, and words that are read as refspecs, one word at a time.
use Rattle.std.proofs.Common.{◌≡◌, ℕ, ◌+◌, ◌≤◌, ◌<◌, List, [], ◌∷◌, ◌++◌, length, take, drop, get_or, map, slice_get, All, Some, Err, sym, ap, subst, ◌∙◌, append_assoc, arith}
use Rattle.std.specs.List.{AllZip}
use Rattle.std.specs.Prelude.{String, string_bytes}
use Rattle.std.proofs.lemmas.List.{append-nil, length-take-le, map-append, take_all, take_more, take-append-drop}
use Rattle.std.proofs.lemmas.List.Elements.{All-cons, All-nil}
use Rattle.std.proofs.lemmas.Option.{get_or_from_slice_get}
use Rattle.grefs.specs.Refspecs.{IsSpec, Reads, Refspec}
use Rattle.grefs.specs.declared.refspec.fault.SpecFault.{SpecFault}
use Rattle.gclientrepo.proofs.SettlingLemmas.{zip_push}
use Rattle.gclientrepo.specs.Asks.{IsAskAt}
use Rattle.gclientrepo.specs.declared.ask.Ask.{Ask}
use Rattle.gclientrepo.specs.declared.ask.RefUpdate.{RefUpdate}
use Rattle.gcmd.specs.Fetching.{IsSpecText, ReadsSpecs, RefusesWord}
use Rattle.gcmd.specs.Reporting.{update_line, update_lines, update_text}
use Rattle.gcmd.specs.declared.fault.ProgramFault.{ProgramFault}
use Rattle.gcmd.specs.declared.fault.ProgramFault.TheVariants as program

-- ---- the report

module _ {A : Type 0} where
  lines_push : (xs : List (Ask A)) (ys : List RefUpdate) (x : Ask A) (y : RefUpdate) → length xs ≡ length ys
      → update_lines (xs ++ x ∷ []) (ys ++ y ∷ []) ≡ update_lines xs ys ++ update_line x y
  lines_push [] [] x y same = append-nil (update_line x y)
  lines_push [] (b ∷ ys) x y same = absurd (omega (arith, same))
  lines_push (a ∷ xs) [] x y same = absurd (omega (arith, same))
  lines_push (a ∷ xs) (b ∷ ys) x y same =
      ap (λ (t : List ℕ). update_line a b ++ t) (lines_push xs ys x y (omega (arith, same)))
      ∙ sym (append_assoc (update_line a b) (update_lines xs ys) (update_line x y))

  -- the line for the requested update at an index is appended
  pub put_standing : (asks : List (Ask A)) (place : ℕ) (name id : List ℕ) (update : RefUpdate) (old new : List ℕ)
      → IsAskAt asks place name id → new ≡ old ++ update_text name id update
      → (ask : Ask A) × (slice_get asks place ≡ Some ask) × (new ≡ old ++ update_line ask update)
  put_standing asks place name id update old new at put = (
    at.0,
    at.1,
    put ∙ ap (λ (n : List ℕ). old ++ update_text n id update) (sym at.2)
        ∙ ap (λ (i : List ℕ). old ++ update_text at.0.name i update) (sym at.3),
  )

  -- the lines for the first requested updates, after one more line is appended
  pub updates_more : (asks : List (Ask A)) (updates : List RefUpdate) (place : ℕ) (update : RefUpdate)
      (first old new : List ℕ) → length updates ≡ length asks → place < length asks
      → slice_get updates place ≡ Some update → old ≡ first ++ update_lines (take place asks) (take place updates)
      → ((ask : Ask A) × (slice_get asks place ≡ Some ask) × (new ≡ old ++ update_line ask update))
      → new ≡ first ++ update_lines (take (place + 1) asks) (take (place + 1) updates)
  updates_more asks updates place update first old new same inside got so_far put =
      let ask : Ask A = put.0 in
      let lines = update_lines (take place asks) (take place updates) in
      let within : place < length updates = omega (arith, same, inside) in
      let low : place ≤ length asks = omega (arith, inside) in
      let low_too : place ≤ length updates = omega (arith, within) in
      let long : length (take place asks) ≡ length (take place updates) =
      length-take-le place asks low ∙ sym (length-take-le place updates low_too) in
      let next_ask : take (place + 1) asks ≡ take place asks ++ ask ∷ [] =
      take_more asks place ask inside
      ∙ ap (λ (a : Ask A). take place asks ++ a ∷ []) (get_or_from_slice_get asks place ask ask put.1) in
      let next_update : take (place + 1) updates ≡ take place updates ++ update ∷ [] =
      take_more updates place update within
      ∙ ap (λ (u : RefUpdate). take place updates ++ u ∷ []) (get_or_from_slice_get updates place update update got) in
      put.2
      ∙ ap (λ (t : List ℕ). t ++ update_line ask update) so_far
      ∙ append_assoc first lines (update_line ask update)
      ∙ ap (λ (t : List ℕ). first ++ t) (sym (lines_push (take place asks) (take place updates) ask update long))
      ∙ sym (ap (λ (xs : List (Ask A)). first ++ update_lines xs (take (place + 1) updates)) next_ask
      ∙ ap (λ (ys : List RefUpdate). first ++ update_lines (take place asks ++ ask ∷ []) ys) next_update)

  -- the lines for all requested updates
  pub updates_all : (asks : List (Ask A)) (updates : List RefUpdate) (place : ℕ) (first now : List ℕ)
      → length updates ≡ length asks → length asks ≤ place
      → now ≡ first ++ update_lines (take place asks) (take place updates) → now ≡ first ++ update_lines asks updates
  updates_all asks updates place first now same past so_far =
      let past_too : length updates ≤ place = omega (arith, same, past) in
      so_far
      ∙ (ap (λ (xs : List (Ask A)). first ++ update_lines xs (take place updates)) (take_all place asks past)
      ∙ ap (λ (ys : List RefUpdate). first ++ update_lines asks ys) (take_all place updates past_too))

-- ---- refspecs

each_spec : (texts : List (List ℕ)) (specs : List Refspec) → AllZip IsSpec texts specs
    → All IsSpecText texts
each_spec [] specs all = All-nil IsSpecText
each_spec (text ∷ texts) [] all = absurd all
each_spec (text ∷ texts) (spec ∷ specs) all = All-cons IsSpecText text texts (spec, all.0) (each_spec texts specs all.1)

module _ {Z : Type 0} (words : List (String Z)) (place : ℕ) (word : String Z) (specs : List Refspec)
    (inside : place < length words) (is : word ≡ get_or words place word)
    (so_far : AllZip IsSpec (map string_bytes (take place words)) specs)
  where
    next_word : take (place + 1) words ≡ take place words ++ word ∷ []
    next_word = take_more words place word inside ∙ sym (ap (λ (w : String Z). take place words ++ w ∷ []) is)

    -- the refspecs after one more word is read
    pub specs_more : (spec : Refspec) → IsSpec (string_bytes word) spec
        → AllZip IsSpec (map string_bytes (take (place + 1) words)) (specs ++ spec ∷ [])
    specs_more spec reads =
        subst (λ (texts : List (List ℕ)). AllZip IsSpec texts (specs ++ spec ∷ []))
        (sym (ap (λ (ws : List (String Z)). map string_bytes ws) next_word ∙ map-append string_bytes (take place words) (word ∷ [])))
        (zip_push IsSpec (map string_bytes (take place words)) specs (string_bytes word) spec so_far reads)

    -- the word is the first one that is refused, because all earlier words are refspecs
    pub refuses_word : (fault : SpecFault) → Reads (IsSpec (string_bytes word)) (Err fault) → RefusesWord (map string_bytes words) fault
    refuses_word fault refused = record {
      front = map string_bytes (take place words);
      word = string_bytes word;
      back = map string_bytes (drop (place + 1) words);
      parts =
          ap (λ (ws : List (String Z)). map string_bytes ws) (sym (take-append-drop (place + 1) words))
          ∙ map-append string_bytes (take (place + 1) words) (drop (place + 1) words)
          ∙ ap (λ (texts : List (List ℕ)). texts ++ map string_bytes (drop (place + 1) words))
          (ap (λ (ws : List (String Z)). map string_bytes ws) next_word ∙ map-append string_bytes (take place words) (word ∷ []))
          ∙ append_assoc (map string_bytes (take place words)) (string_bytes word ∷ []) (map string_bytes (drop (place + 1) words));
      before = each_spec (map string_bytes (take place words)) specs so_far;
      refused = refused;
    }

-- the result of reading the words, if a word is refused
pub refuses_specs : {A : Type 0} (words : List (List ℕ)) (cause : SpecFault) (fault : ProgramFault A) → RefusesWord words cause
    → fault ≡ program.Spec cause → ReadsSpecs words (Err fault)
refuses_specs {A} words cause fault refused same = subst (λ (f : ProgramFault A). ReadsSpecs words (Err f)) (sym same) refused
