-- Words that are read as prefixes, one word at a time.
use Rattle.std.proofs.Common.{◌≡◌, ℕ, ◌+◌, ◌<◌, List, [], ◌∷◌, ◌++◌, length, take, drop, get_or, map, Err, sym, ap, subst, ◌∙◌, append_assoc}
use Rattle.std.specs.Prelude.{String, string_bytes, All}
use Rattle.std.proofs.lemmas.List.{map-append, take_more, take-append-drop}
use Rattle.std.proofs.lemmas.List.Elements.{All-append, All-from_recursion}
use Rattle.gname.specs.Names.{IsPrefix, Owns, prefix_fault}
use Rattle.gname.specs.declared.faults.NameFault.{NameFault}
use Rattle.gcmd.specs.declared.fault.ProgramFault.{ProgramFault}
use Rattle.gcmd.specs.declared.fault.ProgramFault.TheVariants as program
use Rattle.gcmd.specs.Prefixes.{ReadsPrefixes, RefusesPrefix}

module _ {Z : Type 0} (words : List (String Z)) (place : ℕ) (word : String Z) (inside : place < length words)
    (is : word ≡ get_or words place word)
  where
    texts_more : map string_bytes (take (place + 1) words) ≡ map string_bytes (take place words) ++ string_bytes word ∷ []
    texts_more =
        ap (λ (ws : List (String Z)). map string_bytes ws)
        (take_more words place word inside ∙ sym (ap (λ (w : String Z). take place words ++ w ∷ []) is))
        ∙ map-append string_bytes (take place words) (word ∷ [])

    -- the prefixes after one more word is read
    pub words_more : (old new : List (List ℕ)) (text : List ℕ) → old ≡ map string_bytes (take place words)
        → text ≡ string_bytes word → new ≡ old ++ text ∷ [] → new ≡ map string_bytes (take (place + 1) words)
    words_more old new text so_far same kept =
        kept
        ∙ ap (λ (texts : List (List ℕ)). texts ++ text ∷ []) so_far
        ∙ ap (λ (t : List ℕ). map string_bytes (take place words) ++ t ∷ []) same
        ∙ sym texts_more

    pub prefixes_more : All IsPrefix (map string_bytes (take place words)) → IsPrefix (string_bytes word)
        → All IsPrefix (map string_bytes (take (place + 1) words))
    prefixes_more so_far is_prefix =
        subst (All IsPrefix) (sym texts_more)
        (All-append IsPrefix (map string_bytes (take place words)) (string_bytes word ∷ []) so_far
        (All-from_recursion IsPrefix (string_bytes word ∷ []) (is_prefix, tt)))

    -- the word is the first one that is refused, because all earlier words are prefixes
    pub refuses_prefix : (fault : NameFault) → All IsPrefix (map string_bytes (take place words))
        → Owns prefix_fault (string_bytes word) (Err fault) → RefusesPrefix (map string_bytes words) fault
    refuses_prefix fault so_far refused = record {
      front = map string_bytes (take place words);
      word = string_bytes word;
      back = map string_bytes (drop (place + 1) words);
      parts =
          ap (λ (ws : List (String Z)). map string_bytes ws) (sym (take-append-drop (place + 1) words))
          ∙ map-append string_bytes (take (place + 1) words) (drop (place + 1) words)
          ∙ ap (λ (texts : List (List ℕ)). texts ++ map string_bytes (drop (place + 1) words)) texts_more
          ∙ append_assoc (map string_bytes (take place words)) (string_bytes word ∷ []) (map string_bytes (drop (place + 1) words));
      before = so_far;
      refused = refused;
    }

-- the result of reading the words, if a word is refused
pub refuses_prefixes : {A : Type 0} (words : List (List ℕ)) (cause : NameFault) (fault : ProgramFault A)
    → RefusesPrefix words cause → fault ≡ program.Name cause → ReadsPrefixes words (Err fault)
refuses_prefixes {A} words cause fault refused same = subst (λ (f : ProgramFault A). ReadsPrefixes words (Err f)) (sym same) refused
