-- Reading a text as an id returns the id that the text encodes.
use Rattle.std.proofs.Common.{◌≡◌, ℕ, ◌≤◌, List, length, Option, None, Some, Result, Ok, Err, inl, inr, refl, sym, ap, subst, ◌∙◌, ◌==◌, arith}
use Rattle.std.proofs.lemmas.Bool.{cond-true, cond-false, eq-eqb}
use Rattle.std.proofs.lemmas.Bool.Decides.{eqb_tells}
use Rattle.hex.specs.Hex.{decode_of}
use Rattle.hex.specs.declared.error.FromHexError.{FromHexError}
use Rattle.gname.specs.Formats.{id_text_length}
use Rattle.gname.specs.Ids.{ReadsId, IsIdOf, IsIdTextOf, id_text}
use Rattle.gname.specs.Laws.{IdsHaveOneFormat, IdsHaveTexts, TextsHaveOneReading}
use Rattle.gname.specs.declared.formats.Format.{Format}
use Rattle.gname.specs.declared.ids.OidFault.{OidFault}
use Rattle.gname.proofs.IdLemmas.{few_digits}
use Rattle.ggrammar.specs.Ids.{id_of_text, ok_of, IdIsSpelt}

-- ---- the id that a text encodes

pub decodes : (decoded : Result (List ℕ) FromHexError) (id : List ℕ) → ok_of decoded ≡ Some id → decoded ≡ Ok id
decodes (Ok other) id e = cc
decodes (Err fault) id e = let none : None ≡ Some id = e in cc

pub spelt_by : (format : Format) (text id : List ℕ) → id_of_text format text ≡ Some id → IsIdTextOf format text id
unfolding id_of_text
spelt_by format text id e =
    elim (eqb_tells (length text) (id_text_length format)) [
      | inl h ↦ record {
        long = h.1;
        spells = decodes (decode_of text) id (sym (cond-true (length text == id_text_length format) (ok_of (decode_of text)) None h.0) ∙ e);
      }
      | inr h ↦ (let none : None ≡ Some id = sym (cond-false (length text == id_text_length format) (ok_of (decode_of text)) None h.0) ∙ e in cc)
    ]

pub is_spelt : (format : Format) (text id : List ℕ) → IsIdTextOf format text id → id_of_text format text ≡ Some id
unfolding id_of_text
is_spelt format text id h =
    cond-true (length text == id_text_length format) (ok_of (decode_of text)) None (eq-eqb _ _ h.long) ∙ ap ok_of h.spells

pub id_formed : TextsHaveOneReading → (format : Format) (text id : List ℕ) → id_of_text format text ≡ Some id → IsIdOf format id
id_formed law format text id e = ((law format text).0 id (spelt_by format text id e)).1

-- the result of reading a text, as the specification states it
pub id_read : (format : Format) (text id : List ℕ) → ReadsId format text (Ok id) → Some id ≡ id_of_text format text
id_read format text id h = sym (is_spelt format text id h.0)

none_spelt : (format : Format) (text : List ℕ) (fault : OidFault) (read : Option (List ℕ)) → TextsHaveOneReading
    → ReadsId format text (Err fault) → id_of_text format text ≡ read → None ≡ read
none_spelt format text fault None law h e = refl
none_spelt format text fault (Some id) law h e =
    let reads = (law format text).0 id (spelt_by format text id e) in
    let same : Err fault ≡ Ok id = (law format text).1 (Err fault) (Ok id) h reads in cc

pub id_refused : (format : Format) (text : List ℕ) (fault : OidFault) → TextsHaveOneReading → ReadsId format text (Err fault) → None ≡ id_of_text format text
id_refused format text fault law h = none_spelt format text fault (id_of_text format text) law h refl

-- the text of an id encodes this id in its format, and has at most 64 hex digits
pub id_spells : IdsHaveOneFormat → IdsHaveTexts → (format : Format) (id : List ℕ) → IsIdOf format id → IsIdTextOf format (id_text id) id
id_spells one texts format id h =
    let of = one format id h in
    subst (λ (f : Format). IsIdTextOf f (id_text id) id) of.1 (texts id of.0).0

pub id_text_short : IdsHaveOneFormat → IdsHaveTexts → (format : Format) (id : List ℕ) → IsIdOf format id → length (id_text id) ≤ 64
id_text_short one texts format id h =
    let long = (id_spells one texts format id h).long in
    let few = few_digits format in
    omega (arith, long, few)

pub id_is_spelt : IdIsSpelt
id_is_spelt format text id = (spelt_by format text id, is_spelt format text id)
