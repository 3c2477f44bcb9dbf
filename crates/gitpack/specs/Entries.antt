-- The headers of pack entries (gitformat-pack(5), "pack-*.pack files have the following format", "Object types").
use Rattle.std.specs.Prelude.{◌≡◌, ℕ, ◌+◌, ◌*◌, ◌/◌, ◌%◌, ◌≤◌, List, [], ◌∷◌, ◌++◌, length}
use Rattle.gname.specs.Ids.{IsIdOf}
use Rattle.gname.specs.declared.formats.Format.TheVariants.{Sha1}
use Rattle.gitobject.specs.Types.{pack_number}
use Rattle.gitpack.specs.Numbers.{IsNumber, IsOffset, low_first}
use Rattle.gitpack.specs.declared.entry.EntryForm.{EntryForm}
use Rattle.gitpack.specs.declared.entry.EntryForm.TheVariants.{Whole, OffsetDelta, RefDelta}

-- The encoding of a type and a size. Bits 4 to 6 of the first byte are the type number, and its low four bits are the
-- lowest bits of the size. At most eight more bytes encode the other bits of the size.
pub record IsTypeAndSize (number size : ℕ) (text : List ℕ) : Type 0 where
  pub first : ℕ
  pub more : List ℕ
  pub parts : text ≡ first ∷ more
  pub ends : IsNumber text
  pub short : length more ≤ 8
  pub typed : number ≡ first / 16 % 8
  pub sized : size ≡ first % 16 + 16 * low_first more

-- The part of an entry header after the size. This part is empty for an undeltified object, the offset of the base for
-- type 6, and the id of the base for type 7.
abbrev pub IsBaseOf : EntryForm → ℕ → List ℕ → Type 0
IsBaseOf (Whole kind) number text = (number ≡ pack_number kind) × (text ≡ [])
IsBaseOf (OffsetDelta back) number text = (number ≡ 6) × IsOffset text back
IsBaseOf (RefDelta id) number text = (number ≡ 7) × IsIdOf Sha1 id × (text ≡ id)

-- the header of an entry of type `form`, whose stream inflates to `size` bytes
pub record IsHead (form : EntryForm) (size : ℕ) (text : List ℕ) : Type 0 where
  pub number : ℕ
  pub front : List ℕ
  pub back : List ℕ
  pub parts : text ≡ front ++ back
  pub sized : IsTypeAndSize number size front
  pub based : IsBaseOf form number back

-- the bytes begin with the header of an entry of type `form`, and `rest` follows the header
pub record BeginsWithHead (bytes : List ℕ) (form : EntryForm) (size : ℕ) (rest : List ℕ) : Type 0 where
  pub head : List ℕ
  pub is : IsHead form size head
  pub parts : bytes ≡ head ++ rest
