-- Lemmas about ids, and lists of ids, at the beginning of a text.
use Rattle.std.proofs.Common.{◌≡◌, ◌≢◌, ℕ, ◌+◌, ◌<◌, List, [], ◌∷◌, ◌++◌, length, take, drop, All, codes, Ok, Err, refl, sym, ◌∙◌, ap, subst, arith}
use Rattle.std.proofs.Math.Seq.{take-append_seam, drop-append_seam}
use Rattle.std.proofs.lemmas.List.{length-append, append_cancel_left, append_assoc, append-nil, take-append-drop}
use Rattle.std.proofs.lemmas.List.Elements.{All-push, All-head, All-tail, All-nil}
use Rattle.gname.specs.Formats.{id_text_length}
use Rattle.gname.specs.Ids.{IsIdOf, IsIdText, IsIdTextOf, ReadsId, id_text}
use Rattle.gname.specs.declared.formats.Format.{Format}
use Rattle.gname.specs.declared.ids.OidFault.{OidFault}
use Rattle.gobject.specs.Objects.{max_parents}
use Rattle.gobject.specs.PlainPackText.{ids_text}
use Rattle.ggraph.specs.steps.NoSuchPart.{BeginsWithNoId, BeginsWithNoSpacedId, BeginsWithNoRefId, IsNoParents}
use Rattle.ggraph.specs.steps.NoSuchPart.{IsNoIdText}
use Rattle.ggraph.specs.steps.TextLaws.{TextLaws}

-- ---- lists of ids

pub ids_text-append : (ids more : List (List ℕ)) → ids_text (ids ++ more) ≡ ids_text ids ++ ids_text more
ids_text-append [] more = refl
ids_text-append (id ∷ ids) more =
    ap (λ (t : List ℕ). 32 ∷ id_text id ++ t) (ids_text-append ids more)
    ∙ ap (λ (t : List ℕ). 32 ∷ t) (sym (append_assoc (id_text id) (ids_text ids) (ids_text more)))

-- if the text is a list of ids, the text `rest` is the list of the ids after `ids`
abbrev pub IsLeft : Format → List ℕ → List (List ℕ) → List ℕ → Type 0
IsLeft format text ids rest =
    (all : List (List ℕ)) → All (IsIdOf format) all → text ≡ ids_text all →
    (more : List (List ℕ)) × All (IsIdOf format) more × (rest ≡ ids_text more) × (length all ≡ length ids + length more)

-- the ids that were read so far, and the unread text
pub record IdsSoFar (format : Format) (text : List ℕ) (ids : List (List ℕ)) (rest : List ℕ) : Type 0 where
  pub reads : text ≡ ids_text ids ++ rest
  pub valid : All (IsIdOf format) ids
  pub left : IsLeft format text ids rest

pub ids_begin : (format : Format) (text : List ℕ) → IdsSoFar format text [] text
ids_begin format text = record { reads = refl; valid = All-nil (IsIdOf format); left = λ all valid e. (all, valid, e, omega arith) }

module _ (laws : TextLaws) (format : Format) where
  pub id_spells : (id : List ℕ) → IsIdOf format id → IsIdTextOf format (id_text id) id
  id_spells id valid =
      let facts = laws.one_format format id valid in
      subst (λ (f : Format). IsIdTextOf f (id_text id) id) facts.1 (laws.have_texts id facts.0).0

  is_text : (text id : List ℕ) → IsIdOf format id → IsIdTextOf format text id → IsIdText text id
  is_text text id valid spells = subst (λ (f : Format). IsIdTextOf f text id) (sym (laws.one_format format id valid).1) spells

  pub length-id_text : (id : List ℕ) → IsIdOf format id → length (id_text id) ≡ id_text_length format
  length-id_text id valid = (id_spells id valid).long

  id_take : (id rest : List ℕ) → IsIdOf format id → take (id_text_length format) (id_text id ++ rest) ≡ id_text id
  id_take id rest valid = subst (λ n. take n (id_text id ++ rest) ≡ id_text id) (length-id_text id valid) (take-append_seam (id_text id) rest)

  id_drop : (id rest : List ℕ) → IsIdOf format id → drop (id_text_length format) (id_text id ++ rest) ≡ rest
  id_drop id rest valid = subst (λ n. drop n (id_text id ++ rest) ≡ rest) (length-id_text id valid) (drop-append_seam (id_text id) rest)

  -- a text is the text of at most one id
  pub one_id : (a b : List ℕ) → IsIdOf format a → IsIdOf format b → id_text a ≡ id_text b → a ≡ b
  one_id a b va vb same =
      laws.one_id (id_text a) a b (is_text (id_text a) a va (id_spells a va)) (is_text (id_text a) b vb (subst (λ (t : List ℕ). IsIdTextOf format t b) (sym same) (id_spells b vb)))

  -- the id at the beginning of a text, and the text after the id, are unique
  pub one_front : (a b r s : List ℕ) → IsIdOf format a → IsIdOf format b → id_text a ++ r ≡ id_text b ++ s → (a ≡ b) × (r ≡ s)
  one_front a b r s va vb same = (
    one_id a b va vb (sym (id_take a r va) ∙ ap (take (id_text_length format)) same ∙ id_take b s vb),
    sym (id_drop a r va) ∙ ap (drop (id_text_length format)) same ∙ id_drop b s vb,
  )

  -- ---- texts that do not begin with an id

  pub no_id_short : (text : List ℕ) → length text < id_text_length format → BeginsWithNoId format text
  no_id_short text short id rest valid e = omega (arith, ap length e, length-append (id_text id) rest, length-id_text id valid)

  front_is : (text digits id rest : List ℕ) → digits ≡ take (id_text_length format) text → IsIdOf format id → text ≡ id_text id ++ rest → digits ≡ id_text id
  front_is text digits id rest cut valid e = cut ∙ ap (take (id_text_length format)) e ∙ id_take id rest valid

  reads_it : (digits id : List ℕ) → IsIdOf format id → digits ≡ id_text id → ReadsId format digits (Ok id)
  reads_it digits id valid e = (laws.one_reading format digits).0 id (subst (λ (t : List ℕ). IsIdTextOf format t id) (sym e) (id_spells id valid))

  pub no_id_fault : (text digits : List ℕ) (fault : OidFault) → digits ≡ take (id_text_length format) text → ReadsId format digits (Err fault) → BeginsWithNoId format text
  no_id_fault text digits fault cut reads id rest valid e =
      let other = reads_it digits id valid (front_is text digits id rest cut valid e) in
      let clash = (laws.one_reading format digits).1 (Err fault) (Ok id) reads other in cc

  pub no_id_upper : (text digits id' : List ℕ) → digits ≡ take (id_text_length format) text → ReadsId format digits (Ok id') → (digits ≡ id_text id' → ⊥) → BeginsWithNoId format text
  no_id_upper text digits id' cut reads upper id rest valid e =
      let here = front_is text digits id rest cut valid e in
      let other = reads_it digits id valid here in
      let same : id' ≡ id = laws.one_id digits id' id (is_text digits id' reads.1 reads.0) (is_text digits id other.1 other.0) in
      upper (here ∙ ap id_text (sym same))

  pub id_here : (text digits rest id : List ℕ) → digits ≡ take (id_text_length format) text → rest ≡ drop (id_text_length format) text → digits ≡ id_text id → text ≡ id_text id ++ rest
  id_here text digits rest id cut after e = sym (take-append-drop (id_text_length format) text) ∙ ap (λ (t : List ℕ). t ++ drop (id_text_length format) text) (sym cut ∙ e) ∙ ap (λ (t : List ℕ). id_text id ++ t) (sym after)

  -- ---- lists of ids

  left_step : (rest id after : List ℕ) → IsIdOf format id → rest ≡ codes " " ++ (id_text id ++ after) → (more : List (List ℕ)) → All (IsIdOf format) more → rest ≡ ids_text more → (others : List (List ℕ)) × All (IsIdOf format) others × (after ≡ ids_text others) × (length more ≡ 1 + length others)
  left_step rest id after valid e [] all same = let clash = sym e ∙ same in cc
  left_step rest id after valid e (other ∷ others) all same =
      let both = append_cancel_left (codes " ") (id_text id ++ after) (id_text other ++ ids_text others) (sym e ∙ same) in
      (others, All-tail (IsIdOf format) other others all, (one_front id other after (ids_text others) valid (All-head (IsIdOf format) other others all) both).1, omega arith)

  pub ids_more : (text : List ℕ) (ids : List (List ℕ)) (rest id after : List ℕ) → IdsSoFar format text ids rest → IsIdOf format id → rest ≡ codes " " ++ (id_text id ++ after) → IdsSoFar format text (ids ++ id ∷ []) after
  ids_more text ids rest id after so_far valid e = record {
    reads =
        so_far.reads ∙ ap (λ (t : List ℕ). ids_text ids ++ t) e
        ∙ regroup
        ∙ ap (λ (t : List ℕ). t ++ after) (sym (ids_text-append ids (id ∷ [])));
    valid = All-push (IsIdOf format) ids id so_far.valid valid;
    left = λ all each same.
        (let before = so_far.left all each same in
        let step = left_step rest id after valid e before.0 before.1 before.2 in
        (step.0, step.1, step.2, omega (arith, before.3, step.3, length-append ids (id ∷ []))));
  }
    where
      regroup : ids_text ids ++ (codes " " ++ (id_text id ++ after)) ≡ (ids_text ids ++ ids_text (id ∷ [])) ++ after
      regroup = simp (append_assoc, append-nil)

  pub no_ids_stuck : (text : List ℕ) (ids : List (List ℕ)) (rest : List ℕ) → IdsSoFar format text ids rest → (rest ≡ [] → ⊥) → BeginsWithNoSpacedId format rest → IsNoParents format text
  no_ids_stuck text ids rest so_far some none all valid few e =
      let before = so_far.left all valid e in stuck before.0 before.1 before.2
    where
      stuck : (more : List (List ℕ)) → All (IsIdOf format) more → rest ≡ ids_text more → ⊥
      stuck [] each same = some same
      stuck (id ∷ others) each same = none id (ids_text others) (All-head (IsIdOf format) id others each) same

  pub too_many_ids : (text : List ℕ) (ids : List (List ℕ)) (rest id after : List ℕ) → IdsSoFar format text ids rest → length ids ≡ max_parents → IsIdOf format id → rest ≡ codes " " ++ (id_text id ++ after) → IsNoParents format text
  too_many_ids text ids rest id after so_far connected valid e all each few same =
      let before = so_far.left all each same in
      let step = left_step rest id after valid e before.0 before.1 before.2 in
      omega (arith, before.3, step.3, connected, few)

  -- ---- lines with a missing part

  pub no_ref_space : (text after id : List ℕ) → text ≡ id_text id ++ after → IsIdOf format id → ((rest : List ℕ) → after ≢ codes " " ++ rest) → BeginsWithNoRefId format text
  no_ref_space text after id e valid none other rest ok same = none rest (one_front id other after (codes " " ++ rest) valid ok (sym e ∙ same)).1

  pub no_ref_id : (text : List ℕ) → BeginsWithNoId format text → BeginsWithNoRefId format text
  no_ref_id text none id rest ok same = none id (codes " " ++ rest) ok same

  -- ---- HEAD

  pub no_id_more : (text id after : List ℕ) → text ≡ id_text id ++ after → IsIdOf format id → (after ≡ [] → ⊥) → IsNoIdText format text
  no_id_more text id after e valid some other ok same =
      some (one_front id other after [] valid ok (sym e ∙ same ∙ sym (append-nil (id_text other)))).1

  pub no_id_front : (text : List ℕ) → BeginsWithNoId format text → IsNoIdText format text
  no_id_front text none other ok same = none other [] ok (same ∙ sym (append-nil (id_text other)))
