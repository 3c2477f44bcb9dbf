-- Definitions for the proofs of reading a plain pack: the parts that are allowed next, and the state after each part.
use Rattle.std.specs.Prelude.{◌≡◌, ◌==◌, if◌then◌else◌, ℕ, ◌+◌, List, [], ◌∷◌, ◌++◌, length, codes, decimal, Result, MatchResult, Vec}
use Rattle.gname.specs.declared.formats.Format.{Format}
use Rattle.gname.specs.declared.formats.Format.TheVariants.{Sha1, Sha256}
use Rattle.gname.specs.Formats.{id_text_length}
use Rattle.gname.specs.Ids.{Id, IsIdText}
use Rattle.gobject.specs.declared.node.Entry.{Entry}
use Rattle.gobject.specs.declared.fault.IndexFault.{IndexFault}
use Rattle.gobject.specs.declared.plain_pack.read.Separator.{Separator}
use Rattle.gobject.specs.declared.plain_pack.read.Separator.TheVariants.{Space, LineFeed}
use Rattle.gobject.specs.declared.plain_pack.read.Next.{Next}
use Rattle.gobject.specs.declared.plain_pack.read.Lines.{Lines}
use Rattle.gobject.specs.Objects.{entry_of, node_of}
use Rattle.gobject.specs.PlainPackText.{header, letter, IsPack, IndexRefuses}
use Rattle.gobject.specs.PlainPackReading.{IsPart, HasRead, Fed}
use Rattle.gobject.specs.declared.plain_pack.feed.PlainFeed.{PlainFeed}
use Rattle.gobject.specs.declared.plain_pack.read.Next.TheVariants as next_is

-- the byte that ends a part
abbrev pub separator_byte : Separator → ℕ
separator_byte Space = 32
separator_byte LineFeed = 10

-- the text consists of this part, the byte of the separator, and the rest
pub record SplitsPart (text part : List ℕ) (separator : Separator) (rest : List ℕ) : Type 0 where
  pub whole : text ≡ part ++ separator_byte separator ∷ rest
  pub unbroken : IsPart part

-- the format of an id with `n` digits, or SHA-1 if no id has `n` digits
abbrev pub format_of_digits : ℕ → Format
format_of_digits n = if n == id_text_length Sha256 then Sha256 else Sha1

-- the text is not the text of an id
abbrev pub NoId : List ℕ → Type 0
NoId text = (id : Id) → IsIdText text id → ⊥

-- ---- the parts that are allowed next, and the state after each

-- the entry with one more parent
abbrev pub with_parent : {A : Type 0} → Entry A → Id → Entry A
with_parent entry id = entry_of entry.id (node_of entry.node.kind (entry.node.parents ++ id ∷ []))

-- the text is the first word of a line; this word determines the next part
abbrev pub IsWord : {A : Type 0} → List ℕ → Next A → Type 0
IsWord part (next_is.Id kind) = part ≡ letter kind ∷ []
IsWord part next_is.Count = part ≡ codes "end"
IsWord part _ = ⊥

-- the state after an id in the line of the entry: a space announces one more parent, and a line feed ends the line
abbrev pub EndsId : {A : Type 0} → List (Entry A) → Entry A → Separator → Next A → List (Entry A) → Type 0
EndsId old entry Space next new = (next ≡ next_is.Parent entry) × (new ≡ old)
EndsId old entry LineFeed next new = (next ≡ next_is.Word) × (new ≡ old ++ entry ∷ [])

-- the part is allowed next; the last two arguments are the part expected after it, and the entries read so far
abbrev pub Leads : {A : Type 0} → Next A → List (Entry A) → List ℕ → Separator → Next A → List (Entry A) → Type 0
Leads next_is.Header old part LineFeed next new = (part ≡ header) × (next ≡ next_is.Word) × (new ≡ old)
Leads next_is.Word old part Space next new = IsWord part next × (new ≡ old)
Leads (next_is.Id kind) old part end next new =
    (id : Id) × IsIdText part id × EndsId old (entry_of id (node_of kind [])) end next new
Leads (next_is.Parent entry) old part end next new =
    (id : Id) × IsIdText part id × EndsId old (with_parent entry id) end next new
Leads next_is.Count old part LineFeed next new = (part ≡ decimal (length old)) × (next ≡ next_is.Nothing) × (new ≡ old)
Leads _ old part end next new = ⊥

-- the part is not allowed next
abbrev pub NeverLeads : {A : Type 0} → Next A → List (Entry A) → List ℕ → Separator → Type 0
NeverLeads {A} next list part end = (after : Next A) (new : List (Entry A)) → Leads next list part end after new → ⊥

-- the part has contents to store: it is a parent, or it completes the line of an entry
abbrev pub IsKept : {A : Type 0} → Next A → List ℕ → Separator → Type 0
IsKept (next_is.Id kind) part LineFeed = (id : Id) × IsIdText part id
IsKept (next_is.Parent entry) part end = (id : Id) × IsIdText part id
IsKept _ part end = ⊥

-- ---- the bytes that were read

-- the number, counted from 1, of the line that contains the next part, if `n` entries were read
abbrev pub line_number : {A : Type 0} → Next A → ℕ → ℕ
line_number next_is.Header n = 1
line_number next_is.Nothing n = n + 3
line_number _ n = n + 2

-- the outcome of reading a part and its separator: the part is read, or the bytes are refused regardless of the bytes
-- that follow
abbrev pub Reads : {A : Type 0} → Lines A → Lines A → Result (Unit {0}) IndexFault → List ℕ → Separator → Type 0
Reads {A} old new result part end =
    MatchResult result
    (λ _. (before : List ℕ) → IsPart part → HasRead old.next old.entries.items before →
    HasRead new.next new.entries.items (before ++ (part ++ separator_byte end ∷ [])))
    (λ fault. (before more : List ℕ) → IsPart part → HasRead old.next old.entries.items before →
    IndexRefuses A ((before ++ (part ++ separator_byte end ∷ [])) ++ more) fault)

-- the outcome at the end of the input: the bytes are a plain pack of the entries, or they are refused
abbrev pub Finishes : {A : Type 0} → Lines A → Result (Vec (Entry A) A) IndexFault → List ℕ → Type 0
Finishes {A} lines result part =
    MatchResult result
    (λ entries. (before : List ℕ) → IsPart part → HasRead lines.next lines.entries.items before →
    IsPack (before ++ part) entries.items)
    (λ fault. (before : List ℕ) → IsPart part → HasRead lines.next lines.entries.items before →
    IndexRefuses A (before ++ part) fault)

-- ---- the bytes that were fed

-- the outcome of feeding a piece: the piece is appended to the bytes that were fed, or the bytes are refused regardless
-- of the bytes that follow
abbrev pub Feeds : {A : Type 0} → PlainFeed A → PlainFeed A → Result (Unit {0}) IndexFault → List ℕ → Type 0
Feeds {A} old new result piece =
    MatchResult result (λ _. (given : List ℕ) → Fed old given → Fed new (given ++ piece))
    (λ fault. (given more : List ℕ) → Fed old given → IndexRefuses A ((given ++ piece) ++ more) fault)
