-- Reading the file of a loose ref.
use Rattle.std.proofs.Common.{◌≡◌, ◌≢◌, ℕ, ◌<◌, ◌==◌, ◌||◌, true, false, inl, inr, List, [], ◌∷◌, ◌++◌, length, All, codes, Ok, Err, refl, sym, ap, subst, ◌∙◌, arith}
use Rattle.std.proofs.lemmas.Bool.{eqb-true, false_from_ne_true, false≢true, or_cases}
use Rattle.std.proofs.lemmas.List.{append_cancel_left}
use Rattle.std.proofs.lemmas.List.Elements.{All-head, All-weaker}
use Rattle.gname.specs.Ids.{Id, ReadsId}
use Rattle.gname.specs.Laws.{NamesAreClean, TextsHaveOneReading}
use Rattle.gname.specs.Names.{IsRefName, Name}
use Rattle.gname.specs.declared.formats.Format.TheVariants.{Sha1}
use Rattle.gname.specs.declared.ids.OidFault.TheVariants.{Digit}
use Rattle.gitrefs.specs.Faults.{IsTextFault}
use Rattle.gitrefs.specs.Ids.{BeginsWithId}
use Rattle.gitrefs.specs.LooseRefs.{IsLooseRefFile, IsTarget}
use Rattle.gitrefs.specs.Spaces.{BeginsWithoutSpace, EndsWord, IsBlank, is_space}
use Rattle.gitrefs.specs.declared.fault.TextFault.{TextFault}
use Rattle.gitrefs.specs.declared.fault.TextFault.TheVariants.{Malformed, Memory}
use Rattle.gitrefs.proofs.Cutting.{Stops, id_once, span_once}

-- a fault that is permitted for the reading `A` is also permitted for the reading `B`, if `B` implies `A`
pub fault_of : (A B : Type 0) → (B → A) → (fault : TextFault) → IsTextFault A fault → IsTextFault B fault
fault_of A B leads Malformed none = λ b. none (leads b)
fault_of A B leads Memory none = none

-- ---- the start and the end of white space

-- a byte greater than a space is not white space
other_above : (b : ℕ) → 32 < b → is_space b ≡ false
other_above b high = false_from_ne_true (is_space b) (λ space.
    elim (or_cases (b == 9 || b == 10 || b == 13) (b == 32) space) [
      | inr at ↦ absurd (omega (arith, eqb-true b 32 at))
      | inl low ↦ elim (or_cases (b == 9 || b == 10) (b == 13) low) [
        | inr at ↦ absurd (omega (arith, eqb-true b 13 at))
        | inl lower ↦ elim (or_cases (b == 9) (b == 10) lower) [
          | inr at ↦ absurd (omega (arith, eqb-true b 10 at))
          | inl at ↦ absurd (omega (arith, eqb-true b 9 at))
        ]
      ]
    ])

-- a ref name has no white space
name_whole : NamesAreClean → (name : Name) → IsRefName name → All (λ b. is_space b ≡ false) name
name_whole law name is = All-weaker (λ b. 32 < b) (λ b. is_space b ≡ false) other_above name (law name is).clean

starts_name : (name after : List ℕ) → 0 < length name → All (λ b. is_space b ≡ false) name → Stops is_space true (name ++ after)
starts_name [] after some clean first more is = absurd (omega (arith, some))
starts_name (c ∷ name) after some clean first more is =
    let same : c ≡ first = cc in
    let other = subst (λ b. is_space b ≡ false) same (All-head (λ b. is_space b ≡ false) c name clean) in
    λ space. false≢true (sym other ∙ space)

starts_other : (text : List ℕ) → BeginsWithoutSpace text → Stops is_space true text
starts_other text begins first more is space = false≢true (sym (begins first more is) ∙ space)

stops_word : (rest : List ℕ) → EndsWord rest → Stops is_space false rest
stops_word rest (inl none) first more is other = let h : [] ≡ first ∷ more = sym none ∙ is in absurd (cc)
stops_word rest (inr found) first more is other =
    let parts = found.2 in
    let same : found.0 ≡ first = cc in
    false≢true (sym other ∙ subst (λ b. is_space b ≡ true) same found.3)

stops_blank : (text : List ℕ) → IsBlank text → Stops is_space false text
stops_blank text blank first more is other =
    false≢true (sym other ∙ All-head (λ b. is_space b ≡ true) first more (subst IsBlank is blank))

-- ---- the name in a symbolic ref

module _ (text before padded word rest : List ℕ) (front : text ≡ before ++ padded) (spaces : IsBlank before) (begins : BeginsWithoutSpace padded) (parts : padded ≡ word ++ rest) (clean : All (λ b. is_space b ≡ false) word) (ends : EndsWord rest) where
  pub target_found : (name : Name) → name ≡ word → IsRefName word → IsBlank rest → IsTarget text name
  target_found name same is after = record {
    before = before;
    after = rest;
    well_formed = subst IsRefName (sym same) is;
    blank_before = spaces;
    blank_after = after;
    parts = front ∙ ap (λ l. before ++ l) (parts ∙ ap (λ l. l ++ rest) (sym same));
  }

  target_is : NamesAreClean → (name : Name) → IsTarget text name → (word ≡ name) × IsBlank rest
  target_is law name is =
      let whole = name_whole law name is.well_formed in
      let tails = span_once is_space true before is.before padded (name ++ is.after) spaces is.blank_before
      (starts_other padded begins) (starts_name name is.after (law name is.well_formed).some whole) (sym front ∙ is.parts) in
      let words = span_once is_space false word name rest is.after clean whole (stops_word rest ends) (stops_blank is.after is.blank_after) (sym parts ∙ tails.1) in
      (words.0, subst IsBlank (sym words.1) is.blank_after)

  pub more_words : NamesAreClean → ¬ (IsBlank rest) → (name : Name) → ¬ (IsTarget text name)
  more_words law more name is = more (target_is law name is).1

  pub bad_name : NamesAreClean → ¬ (IsRefName word) → (name : Name) → ¬ (IsTarget text name)
  bad_name law bad name is = bad (subst IsRefName (sym (target_is law name is).0) is.well_formed)

-- ---- the word at the start of a symbolic ref

-- the letter `r` is not a hexadecimal digit, so no text begins both with the word `ref:` and with an id
no_digit : TextsHaveOneReading → (digits : List ℕ) (id : Id) → ReadsId Sha1 digits (Ok id) → (more : List ℕ) → digits ≢ 114 ∷ more
no_digit law digits id reads more is =
    let refused : ReadsId Sha1 digits (Err (Digit 0)) = (
      reads.0.long,
      record {
        inside = subst (λ l. 0 < length l) (sym is) (omega arith);
        before = λ k d low. absurd (omega arith);
        bad = rw is refl;
      },
    ) in
    let same = (law Sha1 digits).1 (Ok id) (Err (Digit 0)) reads refused in
    cc

pub no_id_there : TextsHaveOneReading → (text target : List ℕ) → text ≡ codes "ref:" ++ target → (id : Id) (rest : List ℕ) → ¬ (BeginsWithId text id rest)
no_id_there law text target is id rest b = first b.digits b.spells.long (sym b.parts ∙ is) ((law Sha1 b.digits).0 id b.spells)
  where
    first : (digits : List ℕ) → length digits ≡ 40 → digits ++ rest ≡ codes "ref:" ++ target → ReadsId Sha1 digits (Ok id) → ⊥
    first [] long parts reads = absurd (omega (arith, long))
    first (d ∷ digits) long parts reads =
        let letter : d ≡ 114 = cc in
        no_digit law (d ∷ digits) id reads digits (ap (λ b. b ∷ digits) letter)

-- a valid ref file that begins with the word `ref:` names another ref
pub target_of : TextsHaveOneReading → (text target : List ℕ) → text ≡ codes "ref:" ++ target → IsLooseRefFile text → (name : Name) × IsTarget target name
target_of law text target begins (inl file) = absurd (no_id_there law text target begins file.0 file.1.0 file.1.1)
target_of law text target begins (inr file) =
    let same : file.1.0 ≡ target = append_cancel_left (codes "ref:") file.1.0 target (sym file.1.1 ∙ begins) in
    (file.0, subst (λ l. IsTarget l file.0) same file.1.2)

pub no_file : (text : List ℕ) → ((rest : List ℕ) → ¬ (text ≡ codes "ref:" ++ rest)) → ((id : Id) (rest : List ℕ) → ¬ (BeginsWithId text id rest)) → ¬ (IsLooseRefFile text)
no_file text plain none (inl file) = none file.0 file.1.0 file.1.1
no_file text plain none (inr file) = plain file.1.0 file.1.1

pub no_end : (text : List ℕ) (id : Id) (rest : List ℕ) → ((rest : List ℕ) → ¬ (text ≡ codes "ref:" ++ rest)) → BeginsWithId text id rest → ¬ (EndsWord rest) → ¬ (IsLooseRefFile text)
no_end text id rest plain begins goes (inl file) =
    let same = id_once text id file.0 rest file.1.0 begins file.1.1 in
    goes (subst EndsWord (sym same.1) file.1.2)
no_end text id rest plain begins goes (inr file) = plain file.1.0 file.1.1
