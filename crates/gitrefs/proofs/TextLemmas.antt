-- Reading back written texts, and the components of ref names.
use Rattle.std.proofs.Common.{◌≡◌, ◌≢◌, ℕ, ◌<◌, ◌==◌, true, false, not, inl, List, [], ◌∷◌, ◌++◌, length, All, codes, filter, map, Option, None, Some, Ok, Err, refl, sym, ap, subst, ◌∙◌, append_assoc, is_none, slice_index_or, arith}
use Rattle.std.specs.List.{flat_map, list_all}
use Rattle.std.proofs.lemmas.Bool.{and_from, false≢true, not-true}
use Rattle.std.proofs.lemmas.List.Elements.{All-head, All-map, All-tail, All-weaker}
use Rattle.std.proofs.lemmas.List.Sums.{AllPass-from_list_all}
use Rattle.gname.specs.Components.{ComponentsAreParts}
use Rattle.gname.specs.Ids.{Id, IsIdOf, IsIdTextOf, ReadsId, id_text}
use Rattle.gname.specs.Laws.{IdsHaveOneFormat, IdsHaveTexts, NamesAreClean, TextsHaveOneReading}
use Rattle.gname.specs.Names.{IsRefName, Name, is_bad_component}
use Rattle.gname.specs.declared.formats.Format.{Format}
use Rattle.gname.specs.declared.formats.Format.TheVariants.{Sha1}
use Rattle.gname.specs.declared.ids.OidFault.TheVariants.{Digit}
use Rattle.grefs.specs.RefLists.{IsBelowRefs, RefList}
use Rattle.gitrefs.specs.PackedRefs.{BeginsWithPeeled, HasPackedLines, PackedLine, PackedLinesOf, names_ref}
use Rattle.gitrefs.specs.PackedTexts.{HasSha1Ids, LeadsToSha1, WrittenRefsReadBack, line_text, peeled_header, peeled_line, peeled_ref_text, peeled_text, plain_header, plain_line, plain_ref_text}
use Rattle.gitrefs.specs.Paths.{NamesDescend}

-- ---- paths

pub names_descend : ComponentsAreParts → NamesDescend
names_descend law name is place part there =
    let allowed = (law name).name is place part there in record {
      named = λ same. false≢true (sym (subst (λ p. is_bad_component p ≡ false) same allowed));
      goes = λ same. false≢true (sym (subst (λ p. is_bad_component p ≡ false) same allowed));
      below = λ same. false≢true (sym (subst (λ p. is_bad_component p ≡ false) same allowed));
    }

-- ---- ids

id_spells : IdsHaveOneFormat → IdsHaveTexts → (id : Id) → IsIdOf Sha1 id → IsIdTextOf Sha1 (id_text id) id
id_spells formats texts id is =
    let known = formats Sha1 id is in
    let P : Format → Type 0 = λ f. IsIdTextOf f (id_text id) id in
    subst P known.1 (texts id known.0).0

-- the character `^` is not a hexadecimal digit
no_sign : TextsHaveOneReading → (digits : List ℕ) (id : Id) → ReadsId Sha1 digits (Ok id) → (more : List ℕ) → digits ≢ 94 ∷ more
no_sign law digits id reads more is =
    let refused : ReadsId Sha1 digits (Err (Digit 0)) = (
      reads.0.long,
      record {
        inside = subst (λ l. 0 < length l) (sym is) (omega arith);
        before = λ k d low. absurd (omega arith);
        bad = rw is refl;
      },
    ) in
    let same = (law Sha1 digits).1 (Ok id) (Err (Digit 0)) reads refused in
    cc

digits_first : TextsHaveOneReading → (digits rest : List ℕ) (id : Id) → IsIdTextOf Sha1 digits id → (more : List ℕ) → ¬ (digits ++ rest ≡ codes "^" ++ more)
digits_first law [] rest id spells more is = let long = spells.long in absurd (omega (arith, long))
digits_first law (d ∷ digits) rest id spells more is =
    let sign : d ≡ 94 = cc in
    no_sign law (d ∷ digits) id ((law Sha1 (d ∷ digits)).0 id spells) digits (ap (λ b. b ∷ digits) sign)

-- ---- lines

-- a line that can be written
record IsWritten (line : PackedLine) : Type 0 where
  name : IsBelowRefs line.name
  id : IsIdOf Sha1 line.id
  peeled : (id : Id) → line.peeled ≡ Some id → IsIdOf Sha1 id

-- the written text of a line
abbrev written : PackedLine → List ℕ
written line = line_text line.name line.id ++ peeled_text line.peeled

module _ (formats : IdsHaveOneFormat) (texts : IdsHaveTexts) (readings : TextsHaveOneReading) (names : NamesAreClean) where
  no_peeled : (lines : List PackedLine) → All IsWritten lines → (more : List ℕ) → ¬ (flat_map written lines ≡ codes "^" ++ more)
  no_peeled [] each more is = absurd (cc)
  no_peeled (line ∷ lines) each more is =
      let first = All-head IsWritten line lines each in
      let whole : flat_map written (line ∷ lines) ≡ id_text line.id ++ (32 ∷ (line.name ++ 10 ∷ []) ++ peeled_text line.peeled ++ flat_map written lines) = simp append_assoc in
      digits_first readings (id_text line.id) _ line.id (id_spells formats texts line.id first.id) more (sym whole ∙ is)

  follows : (lines : List PackedLine) → All IsWritten lines → (peeled : Option Id) → ((id : Id) → peeled ≡ Some id → IsIdOf Sha1 id)
      → BeginsWithPeeled (peeled_text peeled ++ flat_map written lines) peeled (flat_map written lines)
  follows lines each None sha1 = (refl, no_peeled lines each)
  follows lines each (Some id) sha1 = (
    id_text id ++ 10 ∷ flat_map written lines,
    simp append_assoc,
    record { digits = id_text id; spells = id_spells formats texts id (sha1 id refl); parts = refl },
  )

  clean : (name : Name) → IsRefName name → All (λ b. b ≢ 10) name
  clean name is = All-weaker (λ b. 32 < b) (λ b. b ≢ 10) (λ b high same. absurd (omega arith)) name (names name is).clean

  has_lines : (lines : List PackedLine) → All IsWritten lines → HasPackedLines (flat_map written lines) lines
  has_lines [] each = refl
  has_lines (line ∷ lines) each =
      let first = All-head IsWritten line lines each in
      let rest = All-tail IsWritten line lines each in (
        flat_map written lines,
        (
          peeled_text line.peeled ++ flat_map written lines,
          record {
            after_id = 32 ∷ (line.name ++ 10 ∷ (peeled_text line.peeled ++ flat_map written lines));
            id = record { digits = id_text line.id; spells = id_spells formats texts line.id first.id; parts = simp append_assoc };
            clean = clean line.name first.name.well_formed;
            parts = refl;
          },
          follows lines rest line.peeled first.peeled,
        ),
        has_lines lines rest,
      )

  kept : (lines : List PackedLine) → All IsWritten lines → lines ≡ filter names_ref lines
  kept [] each = refl
  kept (line ∷ lines) each =
      let first = All-head IsWritten line lines each in
      let named : names_ref line ≡ true = and_from _ _ (ap is_none first.name.well_formed) first.name.below in
      let rest = kept lines (All-tail IsWritten line lines each) in
      rw named (ap (λ l. line ∷ l) rest)

  no_end : (words : List ℕ) → list_all (λ b. not (b == 10)) words ≡ true → All (λ b. b ≢ 10) words
  no_end words pass =
      All-weaker (λ b. not (b == 10) ≡ true) (λ b. b ≢ 10)
      (λ b other same. false≢true (sym (not-true (b == 10) other) ∙ subst (λ x. (x == 10) ≡ true) (sym same) refl)) words (AllPass-from_list_all (λ b. not (b == 10)) words pass)

  file_of : (words : List ℕ) → list_all (λ b. not (b == 10)) words ≡ true → (lines : List PackedLine) → All IsWritten lines
      → PackedLinesOf (codes "# pack-refs with:" ++ (words ++ 10 ∷ flat_map written lines)) lines
  file_of words pass lines each = (
    flat_map written lines,
    lines,
    inl (words, record { clean = no_end words pass; parts = refl }),
    has_lines lines each,
    kept lines each,
  )

  -- the written texts of refs are the written texts of their lines
  plain_written : (refs : RefList) → flat_map plain_ref_text refs ≡ flat_map written (map plain_line refs)
  plain_written [] = refl
  plain_written (ref ∷ refs) = rw (plain_written refs) (simp append_assoc)

  peeled_written : (peeled refs : RefList) → flat_map (peeled_ref_text peeled) refs ≡ flat_map written (map (peeled_line peeled) refs)
  peeled_written peeled [] = refl
  peeled_written peeled (ref ∷ refs) = ap (λ l. peeled_ref_text peeled ref ++ l) (peeled_written peeled refs)

  plain_each : (refs : RefList) → All (λ ref. IsBelowRefs ref.0) refs → HasSha1Ids refs → All IsWritten (map plain_line refs)
  plain_each refs below sha1 = All-map IsWritten plain_line refs (λ k d low. record { name = below k d low; id = sha1 k d low; peeled = λ id same. absurd (cc) })

  peeled_each : (peeled refs : RefList) → LeadsToSha1 peeled → All (λ ref. IsBelowRefs ref.0) refs → HasSha1Ids refs → All IsWritten (map (peeled_line peeled) refs)
  peeled_each peeled refs leads below sha1 =
      All-map IsWritten (peeled_line peeled) refs (λ k d low. record { name = below k d low; id = sha1 k d low; peeled = λ id same. leads (slice_index_or refs k d).0 id same })

  pub read_back : WrittenRefsReadBack
  read_back refs peeled is sha1 leads = (
    subst (λ l. PackedLinesOf (plain_header ++ l) (map plain_line refs)) (sym (plain_written refs))
        (file_of (codes " sorted ") refl (map plain_line refs) (plain_each refs is.names sha1)),
    subst (λ l. PackedLinesOf (peeled_header ++ l) (map (peeled_line peeled) refs)) (sym (peeled_written peeled refs))
        (file_of (codes " peeled fully-peeled sorted ") refl (map (peeled_line peeled) refs) (peeled_each peeled refs leads is.names sha1)),
  )
