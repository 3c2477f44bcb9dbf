-- Reading back a HEAD that points at a branch.
use Rattle.std.proofs.Common.{◌≡◌, ℕ, true, List, [], ◌∷◌, ◌++◌, All, refl}
use Rattle.std.proofs.lemmas.List.Elements.{All-cons, All-nil}
use Rattle.gname.specs.Names.{IsRefName, Name}
use Rattle.gitrefs.specs.LooseRefs.{IsSymrefFile}
use Rattle.gitrefs.specs.Spaces.{is_space}
use Rattle.gitrefs.specs.Texts.{branch_text}

-- the written text of a HEAD is the text of a symbolic ref to the branch
pub branch_reads : (name : Name) (text : List ℕ) → IsRefName name → text ≡ branch_text name → IsSymrefFile text name
branch_reads name text well_formed is = (
  32 ∷ (name ++ 10 ∷ []),
  is,
  record {
    before = 32 ∷ [];
    after = 10 ∷ [];
    well_formed = well_formed;
    blank_before = All-cons (λ b. is_space b ≡ true) 32 [] refl (All-nil (λ b. is_space b ≡ true));
    blank_after = All-cons (λ b. is_space b ≡ true) 10 [] refl (All-nil (λ b. is_space b ≡ true));
    parts = refl;
  },
)
