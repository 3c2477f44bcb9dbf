-- Facts about tables of flags.
use Rattle.std.proofs.Common.{◌≡◌, ℕ, ◌||◌, Bool, true, false, cond, List, [], ◌∷◌, ◌++◌, refl, sym, ap, ◌∙◌, true≢false}
use Rattle.std.proofs.Math.Bool.{or-false, or-true}
use Rattle.std.specs.Prelude.{IsTrue}
use Rattle.std.specs.List.{list_all, list_any}
use Rattle.std.proofs.lemmas.List.Folds.{list_any-append}
use Rattle.std.specs.Bool.{beq}
use Rattle.std.specs.Cmp.{booleans_Decides}
use Rattle.std.proofs.lemmas.Bool.{and_parts, and_from}
use denote.Enum.Bare.{same_true}
use Rattle.grequest.specs.declared.flag.LsRefsFlag.{LsRefsFlag}
use Rattle.grequest.specs.declared.flag.LsRefsFlag.TheVariants.{Peel}
use Rattle.grequest.specs.declared.flag.FetchFlag.{FetchFlag}
use Rattle.grequest.specs.declared.flag.FetchFlag.TheVariants.{ThinPack}
use Rattle.grequest.specs.contracts.flag.LsRefsFlag.{the_type as the_ls_flags}
use Rattle.grequest.specs.contracts.flag.FetchFlag.{the_type as the_fetch_flags}
use Rattle.grequest.specs.Flags.{Table, flags_where, has_flag, with_flag}
use Rattle.grequest.specs.Arguments.{ls_flags, fetch_flags}
use Rattle.grequest.specs.Asked.{same_ls_flag, same_fetch_flag}

-- ---- two tests on the flags of a table

module _ {F : Type 0} (p q : F → Bool) where
  -- the two tests agree on the flag of each row
  abbrev pub agree : Table F → Bool
  agree table = list_all (λ row. beq (p row.0) (q row.0)) table

  same_where : (table : Table F) → agree table ≡ true → flags_where table p ≡ flags_where table q
  same_where [] h = refl
  same_where (row ∷ rows) h =
      let parts = and_parts (beq (p row.0) (q row.0)) (agree rows) h in
      let here = (booleans_Decides _ _).0 parts.0 in
      let rest = same_where rows parts.1 in
      λ i. (here i, rest i)

  where_same : (table : Table F) → flags_where table p ≡ flags_where table q → agree table ≡ true
  where_same [] same = refl
  where_same (row ∷ rows) same =
      and_from (beq (p row.0) (q row.0)) (agree rows) ((booleans_Decides _ _).1 (λ i. (same i).0)) (where_same rows (λ i. (same i).1))

  -- the two tests agree on the flags of all rows exactly if the same flags pass them
  pub agree_same : (table : Table F) (b : Bool) → agree table ≡ b
      → (IsTrue b → flags_where table p ≡ flags_where table q) × (flags_where table p ≡ flags_where table q → IsTrue b)
  agree_same table true e = (λ h. same_where table e, λ same. refl)
  agree_same table false e = (λ h. absurd (true≢false (sym h)), λ same. sym e ∙ where_same table same)

-- ---- one more flag

or_is_cond : (before here : Bool) → (before || here) ≡ cond here true before
or_is_cond before true = or-true before
or_is_cond before false = or-false before

module _ {F : Type 0} (same : F → F → Bool) (table : Table F) where
  -- a flag is in the set of the flags that pass a test exactly if it passes the test
  abbrev pub HasEach : Type 0
  HasEach = (passes : F → Bool) (flag : F) → has_flag same table (flags_where table passes) flag ≡ passes flag

  where_more : HasEach → (passes : F → Bool) (flag : F)
      → flags_where table (λ other. passes other || same other flag) ≡ with_flag same table (flags_where table passes) flag true
  where_more each passes flag = λ i. flags_where table (λ other.
      (or_is_cond (passes other) (same other flag) ∙ ap (λ (b : Bool). cond (same other flag) true b) (sym (each passes other))) i)

  pub where_same_as : (p q : F → Bool) → ((flag : F) → p flag ≡ q flag) → flags_where table p ≡ flags_where table q
  where_same_as p q each = λ i. flags_where table (λ flag. each flag i)

-- the flags that occur among some texts, and among these texts followed by `line`
module _ {F X : Type 0} (same : F → F → Bool) (table : Table F) (form_of : List ℕ → X) (is_it : F → X → Bool)
    (texts : List (List ℕ)) (line : List ℕ) (form : X) (is : form_of line ≡ form) where
  abbrev among : F → List (List ℕ) → Bool
  among flag lines = list_any (λ text. is_it flag (form_of text)) lines

  among_more : (flag : F) → among flag (texts ++ line ∷ []) ≡ (among flag texts || is_it flag form)
  among_more flag =
      list_any-append (λ text. is_it flag (form_of text)) texts (line ∷ [])
      ∙ ap (λ b. among flag texts || b) (or-false (is_it flag (form_of line)) ∙ ap (is_it flag) is)

  pub flags_more : HasEach same table → (flag : F) → ((other : F) → is_it other form ≡ same other flag)
      → flags_where table (λ other. among other (texts ++ line ∷ []))
      ≡ with_flag same table (flags_where table (λ other. among other texts)) flag true
  flags_more each flag tells =
      where_same_as same table _ _ (λ other. among_more other ∙ ap (λ b. among other texts || b) (tells other))
      ∙ where_more same table each (λ other. among other texts) flag

  pub flags_same : ((flag : F) → is_it flag form ≡ false)
      → flags_where table (λ flag. among flag (texts ++ line ∷ [])) ≡ flags_where table (λ flag. among flag texts)
  flags_same none =
      where_same_as same table _ _ (λ flag. among_more flag ∙ ap (λ b. among flag texts || b) (none flag) ∙ or-false _)

-- ---- the flags of each command, all of which are in its table

pub one_ls_flag : (a b : LsRefsFlag) → same_ls_flag a b ≡ true → a ≡ b
one_ls_flag = same_true the_ls_flags tt

pub one_fetch_flag : (a b : FetchFlag) → same_fetch_flag a b ≡ true → a ≡ b
one_fetch_flag = same_true the_fetch_flags tt

pub ls_has_each : HasEach same_ls_flag ls_flags
ls_has_each passes Peel = refl
ls_has_each passes _ = refl

pub fetch_has_each : HasEach same_fetch_flag fetch_flags
fetch_has_each passes ThinPack = refl
fetch_has_each passes _ = refl
