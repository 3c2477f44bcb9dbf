-- The entries of an outgoing pack.
use Rattle.std.proofs.Common.{◌≡◌, ℕ, ◌+◌, List, [], ◌∷◌, ◌++◌, refl, ap, subst, sym, ◌∙◌}
use Rattle.std.specs.List.{concat}
use Rattle.std.proofs.lemmas.List.Elements.{All-nil, All-push}
use Rattle.std.proofs.lemmas.List.Folds.{concat-append}
use Rattle.std.proofs.lemmas.List.{length-append, append_assoc, append-nil}
use Rattle.gitpack.specs.Packs.{AddsEntry, pack_header, with_trailer}
use Rattle.gitpack.specs.declared.entry.EntryForm.{EntryForm}
use Rattle.gitrepository.specs.Packs.{HasPut, IsEntryText, IsWholePack}

concat-one : (text : List ℕ) → concat (text ∷ []) ≡ text
concat-one text = append-nil text

-- if a pack header is followed by `put` entries, it is followed by `put + 1` entries after one more entry is added
pub HasPut_more : (count put size : ℕ) (form : EntryForm) (stream old new : List ℕ) → HasPut count put old → AddsEntry form size stream old new → HasPut count (put + 1) new
HasPut_more count put size form stream old new has adds =
    let entry : IsEntryText adds.text = record { form = form; size = size; stream = stream; is = adds.entry } in
    record {
      texts = has.texts ++ adds.text ∷ [];
      each = All-push IsEntryText has.texts adds.text has.each entry;
      many = length-append has.texts (adds.text ∷ []) ∙ ap (λ n. n + 1) has.many;
      is = adds.after ∙ ap (λ l. l ++ adds.text) has.is ∙ append_assoc (pack_header count) (concat has.texts) adds.text
          ∙ ap (λ l. pack_header count ++ l) (sym (concat-append has.texts (adds.text ∷ []) ∙ ap (λ l. concat has.texts ++ l) (concat-one adds.text)));
    }

-- a pack header alone is followed by 0 entries
pub HasPut_none : (count : ℕ) (bytes : List ℕ) → bytes ≡ pack_header count → HasPut count 0 bytes
HasPut_none count bytes is = record { texts = []; each = All-nil IsEntryText; many = refl; is = is ∙ sym (append-nil (pack_header count)) }

-- a pack with as many entries as its header says
pub IsWholePack_of : (count put : ℕ) (bytes pack : List ℕ) → put ≡ count → HasPut count put bytes → pack ≡ with_trailer bytes → IsWholePack count pack
IsWholePack_of count put bytes pack same has is = record { bytes = bytes; put = subst (λ n. HasPut count n bytes) same has; is = is }
