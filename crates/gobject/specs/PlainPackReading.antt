-- The state of reading a plain pack, part by part.
use Rattle.std.specs.Prelude.{◌≡◌, ◌≢◌, ℕ, List, [], ◌∷◌, ◌++◌, slice_index, codes}
use Rattle.gobject.specs.declared.node.Entry.{Entry}
use Rattle.gobject.specs.declared.plain_pack.read.Next.{Next}
use Rattle.gobject.specs.declared.plain_pack.read.Next.TheVariants.{Header, Id, Parent, Count, Nothing}
use Rattle.gobject.specs.PlainPackText.{text_of, header, letter, IsNodeText, AreNodeTexts, ArePackLines}
use Rattle.gobject.specs.declared.plain_pack.feed.PlainFeed.{PlainFeed}

-- a text without spaces and line feeds
abbrev pub IsPart : List ℕ → Type 0
IsPart text = (at : ℕ) → (slice_index text at ≢ 32) × (slice_index text at ≢ 10)

-- ---- the bytes of the parts that were read

-- the complete lines before the line that contains the next part
abbrev pub AreLines : {A : Type 0} → Next A → List (Entry A) → List (List ℕ) → Type 0
AreLines Header list lines = (lines ≡ []) × (list ≡ [])
AreLines Nothing list lines = ArePackLines lines list
AreLines _ list lines = (nodes : List (List ℕ)) × (lines ≡ header ∷ nodes) × AreNodeTexts nodes list

-- the text before the next part in the same line
abbrev pub IsOpening : {A : Type 0} → Next A → List ℕ → Type 0
IsOpening (Id kind) text = text ≡ letter kind ∷ 32 ∷ []
IsOpening (Parent entry) text = (node : List ℕ) × (text ≡ node ++ 32 ∷ []) × IsNodeText node entry
IsOpening Count text = text ≡ codes "end "
IsOpening _ text = text ≡ []

-- the bytes that were read before the part `next`, with the entries of the complete lines
pub record HasRead {A : Type 0} (next : Next A) (list : List (Entry A)) (bytes : List ℕ) : Type 0 where
  pub front : List (List ℕ)
  pub opening : List ℕ
  pub parts : bytes ≡ text_of front ++ opening
  pub lines : AreLines next list front
  pub opens : IsOpening next opening

-- ---- the bytes that were fed

-- the bytes that were fed: the bytes of all parts that were read, and then the bytes of an unfinished part
pub record Fed {A : Type 0} (feed : PlainFeed A) (bytes : List ℕ) : Type 0 where
  pub before : List ℕ
  pub parts : bytes ≡ before ++ feed.part.items
  pub read : HasRead feed.lines.next feed.lines.entries.items before
  pub part : IsPart feed.part.items
