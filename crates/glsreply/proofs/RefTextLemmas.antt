-- The parser accepts exactly the texts that the manual allows, with the same values. Any other text is rejected with
-- `BadText`, `BadId` or `BadName`.
use Rattle.std.proofs.Common.{◌≡◌, ℕ, ◌<◌, Bool, true, false, List, [], ◌∷◌, ◌++◌, codes, nat_lt, Option, Some, arith}
use Rattle.std.proofs.Common.{None, Result, Ok, Err, inl, inr, refl, sym, ap, subst, ◌∙◌, append_assoc, append-nil}
use Rattle.std.specs.Prelude.{All, IfSome, is_none}
use Rattle.std.specs.List.{list_all, join_with_byte}
use Rattle.std.specs.Str.{bytes_eq}
use Rattle.std.proofs.lemmas.Bool.{cond-true, ltb-true, ne_eqb, cond_both}
use Rattle.std.proofs.lemmas.List.Elements.{All-cons, All-nil, All-head, All-tail, All-append}
use Rattle.std.proofs.lemmas.List.Sums.{AllPass-from_list_all}
use Rattle.std.proofs.lemmas.List.Splits.{slice_split_at, slice_split_none, join_with_byte-slice_split}
use Rattle.std.proofs.lemmas.Slice.Eq.{bytes_eq-Decides}
use Rattle.gname.specs.Ids.{IsIdTextOf, IsIdOf}
use Rattle.gname.specs.Laws.{IsClean, NamesAreClean, IdTextsAreDigits, IdsHaveOneFormat, TextsHaveOneReading}
use Rattle.gname.specs.Names.{IsRefName, name_fault}
use Rattle.gname.specs.declared.formats.Format.{Format}
use Rattle.ggrammar.specs.Ids.{id_of_text}
use Rattle.ggrammar.specs.PeerErrors.{after_word}
use Rattle.ggrammar.specs.declared.fault.Why.{Why}
use Rattle.gname.proofs.NameLemmas.{name_clean}
use Rattle.ggrammar.proofs.IdLemmas.{is_spelt, spelt_by}
use Rattle.ggrammar.proofs.TextLemmas.{follows_word, is_none-None}
use Rattle.glsreply.specs.RefTexts.{RefLine, Attribute, Symref, Peeled, UnknownAttribute, peeled_or_unknown}
use Rattle.glsreply.specs.RefTexts.{symref_or_else, parts_of, is_name, attribute_of, with_attribute}
use Rattle.ggrammar.specs.Texts.{is_space}
use Rattle.glsreply.specs.RefTexts.{with_attributes, with_id, line_with_id, line_of_parts, line_of, unborn_target}
use Rattle.glsreply.specs.RefTexts.{unborn_after_head, unborn_of_parts, UnbornForm, RefForm, first_of_parts, first_form}
use Rattle.glsreply.specs.RefTexts.{unborn_text, FirstForm}
use Rattle.glsreply.specs.LsManual.{IsSymref, IsPeeled, IsAttribute, AreAttributes, IsRefText}
use Rattle.ggrammar.specs.Grammar.{Refused}
use Rattle.ggrammar.specs.MessageReading.{IsReason}
use Rattle.ggrammar.specs.MessageBytes.{IsOfPacket}
use Rattle.ggrammar.specs.declared.fault.Why.TheVariants as why
use Rattle.glsreply.specs.WellFormed.{IsRefLine}
use Rattle.ggrammar.specs.declared.fault.Why.TheVariants as why
use Rattle.glsreply.specs.LsReplies.{within_limit, judge_line, judge_first, judge_text}

-- the laws of ids and names
pub record TextLaws : Type 0 where
  pub names : NamesAreClean
  pub digits : IdTextsAreDigits
  pub formats : IdsHaveOneFormat
  pub readings : TextsHaveOneReading

-- ---- parts

abbrev pub HasNoSpace : List ℕ → Type 0
HasNoSpace word = All (λ (byte : ℕ). is_space byte ≡ false) word

clean_has_none : (word : List ℕ) → IsClean word → HasNoSpace word
clean_has_none word clean k d within = let above = clean k d within in ne_eqb _ 32 (λ e. omega (arith, e, above))

part_then : (word rest : List ℕ) → HasNoSpace word → parts_of (word ++ 32 ∷ rest) ≡ word ∷ parts_of rest
unfolding parts_of
part_then word rest h = slice_split_at is_space word 32 rest h refl

part_alone : (word : List ℕ) → HasNoSpace word → parts_of word ≡ word ∷ []
unfolding parts_of
part_alone word h = slice_split_none is_space word h

abbrev is_above : ℕ → Bool
is_above byte = nat_lt 32 byte

word_is_clean : (word : List ℕ) → list_all is_above word ≡ true → IsClean word
word_is_clean word h k d within = ltb-true 32 _ (AllPass-from_list_all is_above word h k d within)

-- the word of an attribute followed by a clean value has no space
value_part : (word value : List ℕ) → list_all is_above word ≡ true → IsClean value → HasNoSpace (word ++ value)
value_part word value h clean =
    clean_has_none (word ++ value) (All-append (λ (byte : ℕ). 32 < byte) word value (word_is_clean word h) clean)

-- the parts in sequence, each after a space
abbrev pub spaced : List (List ℕ) → List ℕ
spaced [] = []
spaced (part ∷ parts) = 32 ∷ (part ++ spaced parts)

spaced_append : (parts more : List (List ℕ)) → spaced (parts ++ more) ≡ spaced parts ++ spaced more
spaced_append [] more = refl
spaced_append (part ∷ parts) more =
    ap (λ (bytes : List ℕ). 32 ∷ (part ++ bytes)) (spaced_append parts more)
    ∙ ap (λ (bytes : List ℕ). 32 ∷ bytes) (sym (append_assoc part (spaced parts) (spaced more)))

parts_spaced : (word : List ℕ) (parts : List (List ℕ)) → HasNoSpace word → All HasNoSpace parts → parts_of (word ++ spaced parts) ≡ word ∷ parts
parts_spaced word [] h all = ap parts_of (append-nil word) ∙ part_alone word h
parts_spaced word (part ∷ parts) h all =
    part_then word (part ++ spaced parts) h
    ∙ ap (λ (rest : List (List ℕ)). word ∷ rest) (parts_spaced part parts (All-head HasNoSpace part parts all) (All-tail HasNoSpace part parts all))

join_spaced : (word : List ℕ) (parts : List (List ℕ)) → join_with_byte 32 (word ∷ parts) ≡ word ++ spaced parts
join_spaced word [] = sym (append-nil word)
join_spaced word (part ∷ parts) = ap (λ (bytes : List ℕ). word ++ (32 ∷ bytes)) (join_spaced part parts)

of_parts : (text word : List ℕ) (parts : List (List ℕ)) → parts_of text ≡ word ∷ parts → text ≡ word ++ spaced parts
unfolding parts_of
of_parts text word parts e =
    sym (join_with_byte-slice_split 32 text) ∙ (ap (λ (all : List (List ℕ)). join_with_byte 32 all) e ∙ join_spaced word parts)

text_joins : (digits name attributes : List ℕ) → digits ++ codes " " ++ name ++ attributes ≡ digits ++ 32 ∷ (name ++ attributes)
text_joins digits name attributes =
    append_assoc (digits ++ codes " ") name attributes ∙ append_assoc digits (codes " ") (name ++ attributes)

-- ---- the reasons to reject a text

-- the reason is one of the reasons to reject a text
abbrev pub IsTextFault : Why → Type 0
IsTextFault why.BadText = Unit {0}
IsTextFault why.BadId = Unit {0}
IsTextFault why.BadName = Unit {0}
IsTextFault _ = ⊥

pub text_fault : (why : Why) (brings : Bool) → IsTextFault why → IsReason (Refused why) brings why × IsOfPacket why
text_fault why.BadText brings h = (refl, tt)
text_fault why.BadId brings h = (refl, tt)
text_fault why.BadName brings h = (refl, tt)
text_fault why brings h = absurd h

-- the result is a value for which `P` is true, or a reason to reject a text
abbrev pub Well : {X : Type 0} → (X → Type 0) → Result X Why → Type 0
Well P (Ok x) = P x
Well P (Err why) = IsTextFault why

well_map : {X : Type 0} {P Q : X → Type 0} → ((x : X) → P x → Q x) → (read : Result X Why) → Well P read → Well Q read
well_map f (Ok x) h = f x h
well_map f (Err why) h = h

pub name_is : (name : List ℕ) → is_name name ≡ true → IsRefName name
name_is name h = is_none-None (name_fault name) h

is_named : (name : List ℕ) → IsRefName name → is_name name ≡ true
is_named name h = ap is_none h

-- ---- attributes

attributes_append : (format : Format) (read : Result RefLine Why) (parts more : List (List ℕ))
    → with_attributes format read (parts ++ more) ≡ with_attributes format (with_attributes format read parts) more
attributes_append format (Err why) parts more = refl
attributes_append format (Ok line) [] more = refl
attributes_append format (Ok line) (part ∷ parts) more =
    attributes_append format (with_attribute format line (attribute_of part)) parts more

-- the part is the word of the attribute followed by the attribute's value
abbrev Spells : List ℕ → Attribute → Type 0
Spells part (Symref target) = part ≡ codes "symref-target:" ++ target
Spells part (Peeled digits) = part ≡ codes "peeled:" ++ digits
Spells part UnknownAttribute = Unit {0}

attribute_spells : (part : List ℕ) → Spells part (attribute_of part)
unfolding attribute_of
attribute_spells part = by_words _ _ refl refl where
  by_words : (found other : Option (List ℕ)) → after_word (codes "symref-target:") part ≡ found
      → after_word (codes "peeled:") part ≡ other
      → Spells part (symref_or_else found (peeled_or_unknown other))
  by_words (Some target) other is also = follows_word (codes "symref-target:") part target is
  by_words None (Some digits) is also = follows_word (codes "peeled:") part digits also
  by_words None None is also = tt

-- ---- parsing a text that the manual allows

module _ (laws : TextLaws) (format : Format) where
  digits_clean : (digits id : List ℕ) → IsIdTextOf format digits id → IsClean digits
  digits_clean digits id is =
      let one = laws.formats format id ((laws.readings format digits).0 id is).1 in
      (laws.digits digits id (subst (λ (f : Format). IsIdTextOf f digits id) (sym one.1) is)).clean

  -- the text of an optional attribute: parsing its parts turns the line `before` into the line `after`
  record IsRead (text : List ℕ) (before after : List ℕ → List ℕ → Option (List ℕ) → RefLine) : Type 0 where
    pub parts : List (List ℕ)
    pub same : text ≡ spaced parts
    pub clean : All HasNoSpace parts
    pub said : (id name : List ℕ) (other : Option (List ℕ)) → with_attributes format (Ok (before id name other)) parts ≡ Ok (after id name other)

  abbrev with_target : Option (List ℕ) → List ℕ → List ℕ → Option (List ℕ) → RefLine
  with_target symref id name peeled = record { id = id; name = name; symref = symref; peeled = peeled }

  abbrev with_leads : Option (List ℕ) → List ℕ → List ℕ → Option (List ℕ) → RefLine
  with_leads peeled id name symref = record { id = id; name = name; symref = symref; peeled = peeled }

  symref_read : (text : List ℕ) (symref : Option (List ℕ)) → IsAttribute IsSymref text symref → IsRead text (with_target None) (with_target symref)
  unfolding attribute_of after_word
  symref_read text None h = record { parts = []; same = h; clean = All-nil HasNoSpace; said = λ id name peeled. refl }
  symref_read text (Some target) h =
      let part = codes "symref-target:" ++ target in
      record {
        parts = part ∷ [];
        same = h.0 ∙ ap (λ (bytes : List ℕ). 32 ∷ bytes) (sym (append-nil part));
        clean = All-cons HasNoSpace part [] (value_part (codes "symref-target:") target refl (name_clean target h.1)) (All-nil HasNoSpace);
        said = λ id name peeled. ap (λ (read : Result RefLine Why). with_attributes format read [])
            (cond-true (is_name target) (Ok (with_target (Some target) id name peeled)) (Err why.BadName) (is_named target h.1));
      }

  peeled_read : (text : List ℕ) (peeled : Option (List ℕ)) → IsAttribute (IsPeeled format) text peeled → IsRead text (with_leads None) (with_leads peeled)
  unfolding attribute_of after_word
  peeled_read text None h = record { parts = []; same = h; clean = All-nil HasNoSpace; said = λ id name symref. refl }
  peeled_read text (Some id) h =
      let part = codes "peeled:" ++ h.0 in
      record {
        parts = part ∷ [];
        same = h.1 ∙ ap (λ (bytes : List ℕ). 32 ∷ bytes) (sym (append-nil part));
        clean = All-cons HasNoSpace part [] (value_part (codes "peeled:") h.0 refl (digits_clean h.0 id h.2)) (All-nil HasNoSpace);
        said = λ id' name symref. ap (λ (read : Result RefLine Why). with_attributes format read [])
            (ap (with_id (with_leads None id' name symref)) (is_spelt format h.0 id h.2));
      }

  record AreRead (text : List ℕ) (symref peeled : Option (List ℕ)) : Type 0 where
    pub parts : List (List ℕ)
    pub same : text ≡ spaced parts
    pub clean : All HasNoSpace parts
    pub said : (id name : List ℕ) → with_attributes format (Ok (with_target None id name None)) parts ≡ Ok (with_target symref id name peeled)

  attributes_read : (text : List ℕ) (symref peeled : Option (List ℕ)) → AreAttributes format text symref peeled → AreRead text symref peeled
  attributes_read text symref peeled h =
      let first = symref_read h.target symref h.is_target in
      let second = peeled_read h.leads peeled h.is_leads in
      elim h.parts [
        | inl e ↦ (record {
          parts = first.parts ++ second.parts;
          same = e ∙ ((λ i. first.same i ++ second.same i) ∙ sym (spaced_append first.parts second.parts));
          clean = All-append HasNoSpace first.parts second.parts first.clean second.clean;
          said = λ id name. attributes_append format (Ok (with_target None id name None)) first.parts second.parts
              ∙ (ap (λ (read : Result RefLine Why). with_attributes format read second.parts) (first.said id name None) ∙ second.said id name symref);
        })
        | inr e ↦ (record {
          parts = second.parts ++ first.parts;
          same = e ∙ ((λ i. second.same i ++ first.same i) ∙ sym (spaced_append second.parts first.parts));
          clean = All-append HasNoSpace second.parts first.parts second.clean first.clean;
          said = λ id name. attributes_append format (Ok (with_target None id name None)) second.parts first.parts
              ∙ (ap (λ (read : Result RefLine Why). with_attributes format read first.parts) (second.said id name None) ∙ first.said id name peeled);
        })
      ]

  pub ref_text_says : (text : List ℕ) (ref : RefLine) → IsRefText format text ref → line_of format text ≡ Ok ref
  unfolding line_of
  ref_text_says text ref h =
      let more = attributes_read h.attributes ref.symref ref.peeled h.are_attributes in
      let same : text ≡ h.digits ++ spaced (ref.name ∷ more.parts) =
      h.parts ∙ (text_joins h.digits ref.name h.attributes ∙ ap (λ (bytes : List ℕ). h.digits ++ 32 ∷ (ref.name ++ bytes)) more.same) in
      let parts : parts_of text ≡ h.digits ∷ ref.name ∷ more.parts =
      ap parts_of same
      ∙ parts_spaced h.digits (ref.name ∷ more.parts) (clean_has_none h.digits (digits_clean h.digits ref.id h.is_id))
      (All-cons HasNoSpace ref.name more.parts (clean_has_none ref.name (name_clean ref.name h.is_name)) more.clean) in
      ap (line_of_parts format) parts
      ∙ (ap (λ (id : Option (List ℕ)). line_with_id format id (ref.name ∷ more.parts)) (is_spelt format h.digits ref.id h.is_id)
      ∙ (cond-true (is_name ref.name) (with_attributes format (Ok (with_target None ref.id ref.name None)) more.parts) (Err why.BadName) (is_named ref.name h.is_name)
      ∙ more.said ref.id ref.name))

-- ---- the texts that the parser accepts

module _ (format : Format) where
  abbrev IsNext : RefLine → RefLine → List ℕ → Type 0
  IsNext line next text = (next.id ≡ line.id) × (next.name ≡ line.name) × AreAttributes format text next.symref next.peeled

  -- attributes without a target are the text of the peeled id, and attributes without a peeled id are the text of the
  -- target
  without_target : (text : List ℕ) (peeled : Option (List ℕ)) → (h : AreAttributes format text None peeled) → text ≡ h.leads
  without_target text peeled h = elim h.parts [
    | inl e ↦ e ∙ ap (λ (bytes : List ℕ). bytes ++ h.leads) h.is_target
    | inr e ↦ e ∙ (ap (λ (bytes : List ℕ). h.leads ++ bytes) h.is_target ∙ append-nil h.leads)
  ]

  without_leads : (text : List ℕ) (symref : Option (List ℕ)) → (h : AreAttributes format text symref None) → text ≡ h.target
  without_leads text symref h = elim h.parts [
    | inl e ↦ e ∙ (ap (λ (bytes : List ℕ). h.target ++ bytes) h.is_leads ∙ append-nil h.target)
    | inr e ↦ e ∙ ap (λ (bytes : List ℕ). bytes ++ h.target) h.is_leads
  ]

  next_attribute : (line : RefLine) (part text : List ℕ) (attribute : Attribute) → Spells part attribute
      → AreAttributes format text line.symref line.peeled
      → Well (λ next. IsNext line next (text ++ 32 ∷ part)) (with_attribute format line attribute)
  next_attribute line part text (Symref target) is so =
      cond_both (is_none line.symref) _ _ (Well (λ next. IsNext line next (text ++ 32 ∷ part)))
      (λ free. cond_both (is_name target) _ _ (Well (λ next. IsNext line next (text ++ 32 ∷ part)))
      (λ named.
      let before = subst (λ (symref : Option (List ℕ)). AreAttributes format text symref line.peeled) (is_none-None line.symref free) so in (
        refl,
        refl,
        record {
          target = 32 ∷ part;
          leads = before.leads;
          parts = inr (ap (λ (bytes : List ℕ). bytes ++ 32 ∷ part) (without_target text line.peeled before));
          is_target = (ap (λ (bytes : List ℕ). 32 ∷ bytes) is, name_is target named);
          is_leads = before.is_leads;
        },
      )) (λ _. tt)) (λ _. tt)
  next_attribute line part text (Peeled digits) is so =
      cond_both (is_none line.peeled) _ _ (Well (λ next. IsNext line next (text ++ 32 ∷ part)))
      (λ free. by_id free _ refl) (λ _. tt) where
        by_id : is_none line.peeled ≡ true → (found : Option (List ℕ)) → id_of_text format digits ≡ found
            → Well (λ next. IsNext line next (text ++ 32 ∷ part)) (with_id line found)
        by_id free None read = tt
        by_id free (Some id) read =
            let before = subst (AreAttributes format text line.symref) (is_none-None line.peeled free) so in (
              refl,
              refl,
              record {
                target = before.target;
                leads = 32 ∷ part;
                parts = inl (ap (λ (bytes : List ℕ). bytes ++ 32 ∷ part) (without_leads text line.symref before));
                is_target = before.is_target;
                is_leads = (digits, ap (λ (bytes : List ℕ). 32 ∷ bytes) is, spelt_by format digits id read);
              },
            )
  next_attribute line part text UnknownAttribute is so = tt

  attributes_are : (line : RefLine) (parts : List (List ℕ)) (text : List ℕ) → AreAttributes format text line.symref line.peeled
      → Well (λ ref. IsNext line ref (text ++ spaced parts)) (with_attributes format (Ok line) parts)
  attributes_are line [] text so =
      (refl, refl, subst (λ (bytes : List ℕ). AreAttributes format bytes line.symref line.peeled) (sym (append-nil text)) so)
  attributes_are line (part ∷ parts) text so =
      by_read _ (next_attribute line part text _ (attribute_spells part) so)
      (λ next bytes all. attributes_are next parts bytes all) where
        by_read : (read : Result RefLine Why) → Well (λ next. IsNext line next (text ++ 32 ∷ part)) read
            → ((next : RefLine) (bytes : List ℕ) → AreAttributes format bytes next.symref next.peeled
            → Well (λ ref. IsNext next ref (bytes ++ spaced parts)) (with_attributes format (Ok next) parts))
            → Well (λ ref. IsNext line ref (text ++ spaced (part ∷ parts))) (with_attributes format read parts)
        by_read (Err why) one later = one
        by_read (Ok next) one later =
            well_map (λ ref more. (
              more.0 ∙ one.0,
              more.1 ∙ one.1,
              subst (λ (bytes : List ℕ). AreAttributes format bytes ref.symref ref.peeled) (append_assoc text (32 ∷ part) (spaced parts)) more.2,
            )) (with_attributes format (Ok next) parts) (later next (text ++ 32 ∷ part) one.2)

  id_well : (text digits : List ℕ) (parts : List (List ℕ)) (found : Option (List ℕ)) → parts_of text ≡ digits ∷ parts
      → id_of_text format digits ≡ found → Well (IsRefText format text) (line_with_id format found parts)
  id_well text digits parts None is read = tt
  id_well text digits [] (Some id) is read = tt
  id_well text digits (name ∷ parts) (Some id) is read =
      let bare : RefLine = record { id = id; name = name; symref = None; peeled = None } in
      cond_both (is_name name) _ _ (Well (IsRefText format text))
      (λ named. well_map (λ ref all. record {
        digits = digits;
        attributes = spaced parts;
        parts = of_parts text digits (name ∷ parts) is
            ∙ (sym (text_joins digits name (spaced parts)) ∙ ap (λ (n : List ℕ). digits ++ codes " " ++ n ++ spaced parts) (sym all.1));
        is_id = subst (IsIdTextOf format digits) (sym all.0) (spelt_by format digits id read);
        is_name = subst IsRefName (sym all.1) (name_is name named);
        are_attributes = all.2;
      }) (with_attributes format (Ok bare) parts)
      (attributes_are bare parts [] (record { target = []; leads = []; parts = inl refl; is_target = refl; is_leads = refl }))) (λ _. tt)

  parts_well : (text : List ℕ) (parts : List (List ℕ)) → parts_of text ≡ parts
      → Well (IsRefText format text) (line_of_parts format parts)
  parts_well text [] is = tt
  parts_well text (digits ∷ parts) is = id_well text digits parts _ is refl

  pub line_well : (text : List ℕ) → Well (IsRefText format text) (line_of format text)
  unfolding line_of
  line_well text = parts_well text _ refl

  pub says_ref_text : (text : List ℕ) (ref : RefLine) → line_of format text ≡ Ok ref → IsRefText format text ref
  says_ref_text text ref e = subst (Well (IsRefText format text)) e (line_well text)

  -- a line that the parser accepts is valid, and its ids have the format
  symref_formed : (text : List ℕ) (symref : Option (List ℕ)) → IsAttribute IsSymref text symref
      → IfSome symref IsRefName
  symref_formed text None h = tt
  symref_formed text (Some target) h = h.1

  peeled_formed : TextsHaveOneReading → (text : List ℕ) (peeled : Option (List ℕ))
      → IsAttribute (IsPeeled format) text peeled
      → IfSome peeled (IsIdOf format)
  peeled_formed law text None h = tt
  peeled_formed law text (Some id) h = ((law format h.0).0 id h.2).1

  pub line_formed : TextsHaveOneReading → (text : List ℕ) (ref : RefLine) → line_of format text ≡ Ok ref
      → IsRefLine format ref
  line_formed law text ref e =
      let is = says_ref_text text ref e in
      let more = is.are_attributes in
      record {
        id = ((law format is.digits).0 ref.id is.is_id).1;
        name = is.is_name;
        symref = symref_formed more.target ref.symref more.is_target;
        peeled = peeled_formed law more.leads ref.peeled more.is_leads;
      }

-- ---- an unborn HEAD

unborn_parts : (target : List ℕ) → IsClean target → parts_of (unborn_text target) ≡ codes "unborn" ∷ codes "HEAD" ∷ (codes "symref-target:" ++ target) ∷ []
unfolding unborn_text
unborn_parts target clean =
    part_then (codes "unborn") (codes "HEAD symref-target:" ++ target) (clean_has_none (codes "unborn") (word_is_clean (codes "unborn") refl))
    ∙ ap (λ (parts : List (List ℕ)). codes "unborn" ∷ parts)
    (part_then (codes "HEAD") (codes "symref-target:" ++ target) (clean_has_none (codes "HEAD") (word_is_clean (codes "HEAD") refl))
    ∙ ap (λ (parts : List (List ℕ)). codes "HEAD" ∷ parts)
    (part_alone (codes "symref-target:" ++ target) (value_part (codes "symref-target:") target refl clean)))

pub unborn_says : NamesAreClean → (target : List ℕ) → IsRefName target → first_form (unborn_text target) ≡ UnbornForm (Ok target)
unfolding first_form after_word
unborn_says names target h =
    ap first_of_parts (unborn_parts target (names target h).clean)
    ∙ ap UnbornForm (cond-true (is_name target) (Ok target) (Err why.BadName) (is_named target h))

abbrev targets : List ℕ → List (List ℕ)
targets target = (codes "symref-target:" ++ target) ∷ []

after_head_well : (parts : List (List ℕ))
    → Well (λ target. (parts ≡ targets target) × IsRefName target) (unborn_after_head parts)
after_head_well [] = tt
after_head_well (part ∷ []) = by_name _ refl where
  by_name : (found : Option (List ℕ)) → after_word (codes "symref-target:") part ≡ found
      → Well (λ target. (part ∷ [] ≡ targets target) × IsRefName target) (unborn_target found)
  by_name None is = tt
  by_name (Some name) is =
      cond_both (is_name name) _ _ (Well (λ target. (part ∷ [] ≡ targets target) × IsRefName target))
      (λ named. (ap (λ (p : List ℕ). p ∷ []) (follows_word (codes "symref-target:") part name is), name_is name named))
      (λ _. tt)
after_head_well (part ∷ next ∷ parts) = tt

unborn_well : (parts : List (List ℕ))
    → Well (λ target. (parts ≡ codes "HEAD" ∷ targets target) × IsRefName target) (unborn_of_parts parts)
unborn_well [] = tt
unborn_well (head ∷ parts) =
    cond_both (bytes_eq head (codes "HEAD")) _ _
    (Well (λ target. (head ∷ parts ≡ codes "HEAD" ∷ targets target) × IsRefName target))
    (λ is. well_map (λ target h. ((λ i. (bytes_eq-Decides head (codes "HEAD")).0 is i ∷ h.0 i), h.1))
    (unborn_after_head parts) (after_head_well parts))
    (λ _. tt)

-- an accepted line of an unborn HEAD has three parts: `unborn`, `HEAD` and the target
abbrev pub FormsWell : List (List ℕ) → FirstForm → Type 0
FormsWell parts (UnbornForm target) =
    Well (λ target. (parts ≡ codes "unborn" ∷ codes "HEAD" ∷ targets target) × IsRefName target) target
FormsWell parts RefForm = Unit {0}

first_well : (parts : List (List ℕ)) → FormsWell parts (first_of_parts parts)
first_well [] = tt
first_well (first ∷ parts) =
    cond_both (bytes_eq first (codes "unborn")) _ _ (FormsWell (first ∷ parts))
    (λ is. well_map (λ target h. ((λ i. (bytes_eq-Decides first (codes "unborn")).0 is i ∷ h.0 i), h.1))
    (unborn_of_parts parts) (unborn_well parts))
    (λ _. tt)

pub form_well : (text : List ℕ) → FormsWell (parts_of text) (first_form text)
unfolding first_form
form_well text = first_well (parts_of text)

pub says_unborn_text : (text target : List ℕ) → first_form text ≡ UnbornForm (Ok target) → (text ≡ unborn_text target) × IsRefName target
unfolding unborn_text
says_unborn_text text target e =
    let h = subst (FormsWell (parts_of text)) e (form_well text) in (
      of_parts text (codes "unborn") (codes "HEAD" ∷ (codes "symref-target:" ++ target) ∷ []) h.0
          ∙ ap (λ (bytes : List ℕ). codes "unborn HEAD " ++ bytes) (append-nil (codes "symref-target:" ++ target)),
      h.1,
    )

-- ---- rejected texts

pub line_refused : (format : Format) (count : ℕ) (text : List ℕ) (why : Why) → Err why ≡ line_of format text
    → IsReason (within_limit count (judge_line (line_of format text))) true why
line_refused format count text why e =
    subst (λ (read : Result RefLine Why). IsReason (within_limit count (judge_line read)) true why) e
    (text_fault why true (subst (Well (IsRefText format text)) (sym e) (line_well format text))).0

pub unborn_refused : (format : Format) (count : ℕ) (text : List ℕ) (why : Why) → 0 ≡ count → UnbornForm (Err why) ≡ first_form text
    → IsReason (judge_text format count text) true why
unborn_refused format count text why zero e =
    subst (λ (n : ℕ). IsReason (judge_text format n text) true why) zero
    (subst (λ (form : FirstForm). IsReason (within_limit 0 (judge_first format text form)) true why) e
    (text_fault why true (subst (FormsWell (parts_of text)) (sym e) (form_well text))).0)
