-- Reading a plain pack part by part: the state matches the bytes that were read, and a refused part is in a bad line.
use Rattle.std.proofs.Common.{ap₂, ◌≡◌, ◌≢◌, ◌⊎◌, ⊎_elim, inl, inr, ℕ, ◌+◌, ◌≤◌, ◌<◌, List, [], ◌∷◌, ◌++◌, length, length-append, codes, decimal, refl, ap, sym, subst, ◌∙◌, append_assoc, arith}
use Rattle.std.proofs.lemmas.List.{append-nil}
use Rattle.gname.specs.Ids.{IsIdText}
use Rattle.gname.specs.Laws.{IdTextsAreDigits}
use Rattle.gobject.specs.declared.node.Kind.{Kind}
use Rattle.gobject.specs.declared.node.Entry.{Entry}
use Rattle.gobject.specs.declared.plain_pack.read.Separator.{Separator}
use Rattle.gobject.specs.declared.plain_pack.read.Separator.TheVariants.{Space, LineFeed}
use Rattle.gobject.specs.declared.plain_pack.read.Next.{Next}
use Rattle.gobject.specs.declared.plain_pack.read.Next.TheVariants.{Header, Word, Id, Parent, Count, Nothing}
use Rattle.gobject.specs.Objects.{entry_of, node_of}
use Rattle.gobject.specs.PlainPackText.{line, text_of, header, letter, ids_of, end_text, IsNodeText, AreNodeTexts, IsPack, BeginsPack, IsWrongLine, EndsEarly, IsBadLine, TakesMemory}
use Rattle.gobject.specs.PlainPackReading.{AreLines, IsOpening, IsPart, HasRead}
use Rattle.gobject.specs.steps.PlainPackReading.{separator_byte, with_parent, EndsId, IsKept, Leads, NeverLeads}
use Rattle.gobject.specs.steps.PlainPackReading.{line_number}
use Rattle.gobject.proofs.PlainPackFronts.{AreNodeTexts-length, IsFront, MayCome, BeginsPack-front, IsFront-pack, comes_next, whole_no_front}
use Rattle.gobject.proofs.PlainPackLines.{IsPart-id, IsPart-letter, letter_no_end, IsPart-end, IsPart-decimal, IsPart-header, length-decimal-most, length-id-most, part_one, part_long, part_none, first_line, text_of-push, id_follows, ids_rest, IsIdsText-push}

-- ---- one more part

-- the lines of some entries and the line of one more entry
AreNodeTexts-push : {A : Type 0} (nodes : List (List ℕ)) (text : List ℕ) (list : List (Entry A)) (entry : Entry A) → AreNodeTexts nodes list
    → IsNodeText text entry → AreNodeTexts (nodes ++ text ∷ []) (list ++ entry ∷ [])
AreNodeTexts-push [] text [] entry h one = (one, tt)
AreNodeTexts-push (first ∷ nodes) text (other ∷ list) entry h one = (h.0, AreNodeTexts-push nodes text list entry h.1 one)
AreNodeTexts-push [] text (other ∷ list) entry h one = absurd h
AreNodeTexts-push (first ∷ nodes) text [] entry h one = absurd h

-- the line of an entry without parents
IsNodeText-first : (A : Type 0) (opening part id : List ℕ) (kind : Kind) → opening ≡ letter kind ∷ 32 ∷ [] → IsIdText part id
    → IsNodeText (opening ++ part) (entry_of {A = A} id (node_of kind []))
IsNodeText-first A opening part id kind opens spelt =
    let whole : opening ++ part ≡ letter kind ∷ (32 ∷ part ++ []) =
    ap (λ (o : List ℕ). o ++ part) opens ∙ ap (λ (p : List ℕ). letter kind ∷ 32 ∷ p) (sym (append-nil part)) in
    (32 ∷ part ++ [], whole, (part, [], refl, spelt, refl))

-- the line of an entry with one more parent
IsNodeText-parent : {A : Type 0} (opening node part id : List ℕ) (entry : Entry A) → opening ≡ node ++ 32 ∷ [] → IsNodeText node entry
    → IsIdText part id → IsNodeText (opening ++ part) (with_parent entry id)
IsNodeText-parent opening node part id entry opens h spelt =
    let whole : opening ++ part ≡ letter entry.node.kind ∷ (h.0 ++ 32 ∷ part) =
    ap (λ (o : List ℕ). o ++ part) opens ∙ append_assoc node (32 ∷ []) part ∙ ap (λ (n : List ℕ). n ++ 32 ∷ part) h.1 in
    (h.0 ++ 32 ∷ part, whole, IsIdsText-push h.0 part id (ids_of entry) h.2 spelt)

-- reading a part that a space ends
part_in_line : {A : Type 0} (next after : Next A) (list new : List (Entry A)) (before part : List ℕ) (h : HasRead next list before)
    → AreLines after new h.front → IsOpening after ((h.opening ++ part) ++ 32 ∷ []) → HasRead after new (before ++ (part ++ 32 ∷ []))
part_in_line next after list new before part h lines opens = record {
  front = h.front;
  opening = (h.opening ++ part) ++ 32 ∷ [];
  parts = ap (λ (b : List ℕ). b ++ (part ++ 32 ∷ [])) h.parts ∙ simp append_assoc;
  lines = lines;
  opens = opens;
}

-- reading a part that a line feed ends
part_at_end : {A : Type 0} (next after : Next A) (list new : List (Entry A)) (before part : List ℕ) (h : HasRead next list before)
    → AreLines after new (h.front ++ (h.opening ++ part) ∷ []) → IsOpening after [] → HasRead after new (before ++ (part ++ 10 ∷ []))
part_at_end next after list new before part h lines opens =
    let moved : (text : List ℕ) → (text ++ h.opening) ++ (part ++ 10 ∷ []) ≡ text ++ (line (h.opening ++ part) ++ []) = λ text. simp (append_assoc, append-nil) in
    record {
      front = h.front ++ (h.opening ++ part) ∷ [];
      opening = [];
      parts = ap (λ (b : List ℕ). b ++ (part ++ 10 ∷ [])) h.parts ∙ moved (text_of h.front) ∙ sym (text_of-push h.front (h.opening ++ part) []);
      lines = lines;
      opens = opens;
    }

-- reading an id of an entry
HasRead-id : {A : Type 0} (next after : Next A) (list new : List (Entry A)) (entry : Entry A) (end : Separator) (before part : List ℕ)
    (h : HasRead next list before) → ((nodes : List (List ℕ)) × (h.front ≡ header ∷ nodes) × AreNodeTexts nodes list)
    → IsNodeText (h.opening ++ part) entry → EndsId list entry end after new
    → HasRead after new (before ++ (part ++ separator_byte end ∷ []))
HasRead-id next after list new entry Space before part h (nodes, begins, each) node e =
    rw (e.0, e.1) (part_in_line next (Parent entry) list list before part h (nodes, begins, each) (h.opening ++ part, refl, node))
HasRead-id next after list new entry LineFeed before part h (nodes, begins, each) node e =
    let text = h.opening ++ part in
    rw (e.0, e.1) (part_at_end next Word list (list ++ entry ∷ []) before part h
    (nodes ++ text ∷ [], ap (λ (f : List (List ℕ)). f ++ text ∷ []) begins, AreNodeTexts-push nodes text list entry each node) refl)

-- reading a part that is allowed next
pub HasRead-part : {A : Type 0} (next after : Next A) (list new : List (Entry A)) (before part : List ℕ) (end : Separator) → HasRead next list before
    → Leads next list part end after new → HasRead after new (before ++ (part ++ separator_byte end ∷ []))
HasRead-part {A} Header after list new before part LineFeed h l =
    let P : List (Entry A) → Type 0 = λ entries. AreNodeTexts [] entries in
    let lines = ap₂ (λ (f : List (List ℕ)) (t : List ℕ). f ++ t ∷ []) h.lines.0 (ap₂ (λ (o p : List ℕ). o ++ p) h.opens l.0) in
    rw (l.1, l.2) (part_at_end Header Word list list before part h ([], lines, subst P (sym h.lines.1) tt) refl)
HasRead-part Word (Id kind) list new before part Space h l =
    rw (l.1) (part_in_line Word (Id kind) list list before part h h.lines (ap₂ (λ (o p : List ℕ). (o ++ p) ++ 32 ∷ []) h.opens l.0))
HasRead-part Word Count list new before part Space h l =
    rw (l.1) (part_in_line Word Count list list before part h h.lines (ap₂ (λ (o p : List ℕ). (o ++ p) ++ 32 ∷ []) h.opens l.0))
HasRead-part {A} (Id kind) after list new before part end h l =
    HasRead-id (Id kind) after list new (entry_of l.0 (node_of kind [])) end before part h h.lines (IsNodeText-first A h.opening part l.0 kind h.opens l.1) l.2
HasRead-part (Parent entry) after list new before part end h l =
    HasRead-id (Parent entry) after list new (with_parent entry l.0) end before part h h.lines (IsNodeText-parent h.opening h.opens.0 part l.0 entry h.opens.1 h.opens.2 l.1) l.2
HasRead-part Count after list new before part LineFeed h l =
    let last = ap₂ (λ (o p : List ℕ). o ++ p) h.opens l.0 in
    rw (l.1, l.2) (part_at_end Count Nothing list list before part h (record {
      nodes = h.lines.0;
      are = ap₂ (λ (f : List (List ℕ)) (t : List ℕ). f ++ t ∷ []) h.lines.1 last;
      each = h.lines.2;
    }) refl)
HasRead-part _ after list new before part end h l = grind arith

-- a list with one more element is not empty
one_more : {X : Type 0} (xs : List X) (x : X) → xs ++ x ∷ [] ≢ []
one_more [] x = λ e. cc
one_more (y ∷ xs) x = λ e. cc

-- the entry has contents to store: a space ends its text and the entry has a parent, or a line feed ends its text
Keeps : {A : Type 0} → Separator → Entry A → Type 0
Keeps end entry = ((separator_byte end ≡ 32) × (entry.node.parents ≢ [])) ⊎ (separator_byte end ≡ 10)

parent_kept : {A : Type 0} (end : Separator) (entry : Entry A) (id : List ℕ) → Keeps end (with_parent entry id)
unfolding Keeps
parent_kept Space entry id = inl (refl, one_more entry.node.parents id)
parent_kept LineFeed entry id = inr refl

-- bytes with the line of an entry, or with the beginning of such a line up to a parent, contain an entry to store
TakesMemory-id : {A : Type 0} (list : List (Entry A)) (entry : Entry A) (before : List ℕ) (front : List (List ℕ)) (opening part : List ℕ) (end : Separator) (more : List ℕ)
    → before ≡ text_of front ++ opening → (nodes : List (List ℕ)) → front ≡ header ∷ nodes → AreNodeTexts nodes list → IsNodeText (opening ++ part) entry
    → Keeps end entry → TakesMemory A ((before ++ (part ++ separator_byte end ∷ [])) ++ more)
unfolding Keeps
TakesMemory-id list entry before front opening part end more parts nodes begins each node keeps =
    let last = separator_byte end in
    let moved : (text : List ℕ) → ((text ++ opening) ++ (part ++ last ∷ [])) ++ more ≡ text ++ ((opening ++ part) ++ last ∷ more) = λ text. simp append_assoc in
    record {
      nodes = nodes;
      list = list;
      text = opening ++ part;
      entry = entry;
      end = last;
      rest = more;
      parts = ap (λ (b : List ℕ). (b ++ (part ++ last ∷ [])) ++ more) parts ∙ moved (text_of front)
          ∙ ap (λ (f : List (List ℕ)). text_of f ++ ((opening ++ part) ++ last ∷ more)) begins;
      before = each;
      node = node;
      ends = keeps;
    }

pub TakesMemory-part : {A : Type 0} (next : Next A) (list : List (Entry A)) (before part : List ℕ) (end : Separator) (more : List ℕ) → HasRead next list before
    → IsKept next part end → TakesMemory A ((before ++ (part ++ separator_byte end ∷ [])) ++ more)
unfolding Keeps
TakesMemory-part {A} (Id kind) list before part LineFeed more h k =
    TakesMemory-id list (entry_of k.0 (node_of kind [])) before h.front h.opening part LineFeed more h.parts h.lines.0 h.lines.1 h.lines.2 (IsNodeText-first A h.opening part k.0 kind h.opens k.1) (inr refl)
TakesMemory-part (Parent entry) list before part end more h k =
    TakesMemory-id list (with_parent entry k.0) before h.front h.opening part end more h.parts h.lines.0 h.lines.1 h.lines.2 (IsNodeText-parent h.opening h.opens.0 part k.0 entry h.opens.1 h.opens.2 k.1) (parent_kept end entry k.0)
TakesMemory-part _ list before part end more h k = grind arith

-- the bytes of a complete pack are a pack of the entries that were read
pub pack_is_read : {A : Type 0} (next : Next A) (list : List (Entry A)) (before part : List ℕ) → HasRead next list before → next ≡ Nothing → part ≡ []
    → IsPack (before ++ part) list
pack_is_read {A} next list before part h is none =
    let read : HasRead Nothing list before = rw is at h in
    let front = text_of read.front in
    let whole : before ++ part ≡ front =
    ap₂ (λ (b p : List ℕ). b ++ p) (read.parts ∙ ap (λ (o : List ℕ). front ++ o) read.opens ∙ append-nil front) none ∙ append-nil front in
    record { lines = read.front; whole = whole; are = read.lines }

-- ---- the parts and lines that are allowed next

module _ (digits_law : IdTextsAreDigits) where
  -- the text begins with a part that is allowed next
  record Follows {A : Type 0} (next : Next A) (list : List (Entry A)) (text : List ℕ) : Type 0 where
    part : List ℕ
    end : Separator
    rest : List ℕ
    after : Next A
    new : List (Entry A)
    parts : text ≡ part ++ separator_byte end ∷ rest
    is : IsPart part
    few : length part ≤ 64
    leads : Leads next list part end after new

  -- either separator may end an id
  ends_id : {A : Type 0} (list : List (Entry A)) (entry : Entry A) (end : Separator) → (after : Next A) × (new : List (Entry A)) × EndsId list entry end after new
  ends_id list entry Space = (Parent entry, list, (refl, refl))
  ends_id list entry LineFeed = (Word, list ++ entry ∷ [], (refl, refl))

  -- a line that may come after the lines of `n` entries: the line of an entry, or the last line
  abbrev MayStand : Type 0 → ℕ → List ℕ → Type 0
  MayStand A n text = ((entry : Entry A) × IsNodeText text entry) ⊎ (text ≡ end_text n)

  -- the first part of a pack
  may_begin : {A : Type 0} (list : List (Entry A)) (text x t more : List ℕ) → text ≡ [] → t ≡ header → text ++ x ≡ line t ++ more → Follows Header list x
  may_begin list text x t more opens is same =
      let parts : x ≡ header ++ 10 ∷ more = rw (opens, is) at same in
      record { part = header; end = LineFeed; rest = more; after = Word; new = list; parts = parts; is = IsPart-header; few = omega arith; leads = (refl, refl, refl) }

  -- the first part of a line
  may_word : {A : Type 0} (list : List (Entry A)) (text x t more : List ℕ) (n : ℕ) → text ≡ [] → MayStand A n t → text ++ x ≡ line t ++ more
      → Follows Word list x
  may_word list text x t more n opens (inl h) same =
      let node = h.1 in
      let parts : x ≡ (letter h.0.node.kind ∷ []) ++ 32 ∷ (((node.2.0 ++ node.2.1) ++ 10 ∷ []) ++ more) =
      sym (ap (λ (o : List ℕ). o ++ x) opens) ∙ same ∙ ap (λ (l : List ℕ). line l ++ more) (node.1 ∙ ap (λ (i : List ℕ). letter h.0.node.kind ∷ i) node.2.2) in
      record { part = letter h.0.node.kind ∷ []; end = Space; rest = ((node.2.0 ++ node.2.1) ++ 10 ∷ []) ++ more; after = Id h.0.node.kind; new = list; parts = parts; is = IsPart-letter h.0.node.kind; few = omega arith; leads = (refl, refl) }
  may_word list text x t more n opens (inr is) same =
      let parts : x ≡ codes "end" ++ 32 ∷ ((decimal n ++ 10 ∷ []) ++ more) = rw (opens, is) at same in
      record { part = codes "end"; end = Space; rest = (decimal n ++ 10 ∷ []) ++ more; after = Count; new = list; parts = parts; is = IsPart-end; few = omega arith; leads = (refl, refl) }

  -- the id of an entry
  may_id : {A : Type 0} (kind : Kind) (list : List (Entry A)) (text x t more : List ℕ) (n : ℕ) → text ≡ letter kind ∷ 32 ∷ [] → MayStand A n t
      → text ++ x ≡ line t ++ more → Follows (Id kind) list x
  may_id {A} kind list text x t more n opens (inl h) same =
      let node = h.1 in
      let others = node.2 in
      let whole : letter kind ∷ 32 ∷ x ≡ letter h.0.node.kind ∷ 32 ∷ (((others.0 ++ others.1) ++ 10 ∷ []) ++ more) =
      sym (ap (λ (o : List ℕ). o ++ x) opens) ∙ same ∙ ap (λ (l : List ℕ). line l ++ more) (node.1 ∙ ap (λ (i : List ℕ). letter h.0.node.kind ∷ i) others.2) in
      let rests : x ≡ ((others.0 ++ others.1) ++ 10 ∷ []) ++ more = cc in
      let f = id_follows others.0 others.1 h.0.node.parents LineFeed more others.4 in
      let after = ends_id list (entry_of {A = A} h.0.id (node_of kind [])) f.0 in
      record { part = others.0; end = f.0; rest = f.1; after = after.0; new = after.1; parts = rests ∙ append_assoc (others.0 ++ others.1) (10 ∷ []) more ∙ f.2; is = IsPart-id digits_law others.0 h.0.id others.3; few = length-id-most others.0 h.0.id others.3; leads = (h.0.id, others.3, after.2) }
  may_id kind list text x t more n opens (inr is) same =
      let whole : letter kind ∷ 32 ∷ x ≡ line (end_text n) ++ more = rw (opens, is) at same in
      let first : letter kind ≡ 101 = cc in
      absurd (letter_no_end kind first)

  -- one more parent
  may_parent : {A : Type 0} (entry : Entry A) (list : List (Entry A)) (text node x t more : List ℕ) (n : ℕ) → text ≡ node ++ 32 ∷ []
      → IsNodeText node entry → MayStand A n t → text ++ x ≡ line t ++ more → Follows (Parent entry) list x
  may_parent entry list text node x t more n opens own (inl h) same =
      let whole : ((letter entry.node.kind ∷ own.0) ++ 32 ∷ []) ++ x ≡ line (letter h.0.node.kind ∷ h.1.0) ++ more =
      sym (ap (λ (o : List ℕ). o ++ x) (opens ∙ ap (λ (l : List ℕ). l ++ 32 ∷ []) own.1)) ∙ same ∙ ap (λ (l : List ℕ). line l ++ more) h.1.1 in
      let rests : (own.0 ++ 32 ∷ []) ++ x ≡ (h.1.0 ++ 10 ∷ []) ++ more = cc in
      let f = ids_rest digits_law own.0 h.1.0 (ids_of entry) (ids_of h.0) x more own.2 h.1.2 (sym (append_assoc own.0 (32 ∷ []) x) ∙ rests ∙ append_assoc h.1.0 (10 ∷ []) more) in
      let after = ends_id list (with_parent entry f.1) f.3 in
      record { part = f.0; end = f.3; rest = f.4; after = after.0; new = after.1; parts = f.5; is = IsPart-id digits_law f.0 f.1 f.2; few = length-id-most f.0 f.1 f.2; leads = (f.1, f.2, after.2) }
  may_parent entry list text node x t more n opens own (inr is) same =
      let whole : ((letter entry.node.kind ∷ own.0) ++ 32 ∷ []) ++ x ≡ line (end_text n) ++ more =
      sym (ap (λ (o : List ℕ). o ++ x) (opens ∙ ap (λ (l : List ℕ). l ++ 32 ∷ []) own.1)) ∙ same ∙ ap (λ (l : List ℕ). line l ++ more) is in
      let first : letter entry.node.kind ≡ 101 = cc in
      absurd (letter_no_end entry.node.kind first)

  -- the count of entries
  may_count : {A : Type 0} (list : List (Entry A)) (text x t more : List ℕ) → text ≡ codes "end " → MayStand A (length list) t
      → text ++ x ≡ line t ++ more → Follows Count list x
  may_count list text x t more opens (inl h) same =
      let whole : codes "end " ++ x ≡ line (letter h.0.node.kind ∷ h.1.0) ++ more = rw (opens, h.1.1) at same in
      let first : letter h.0.node.kind ≡ 101 = cc in
      absurd (letter_no_end h.0.node.kind first)
  may_count list text x t more opens (inr is) same =
      let whole : codes "end " ++ x ≡ codes "end " ++ ((decimal (length list) ++ 10 ∷ []) ++ more) = rw (opens, is) at same in
      let rests : x ≡ (decimal (length list) ++ 10 ∷ []) ++ more = cc in
      record { part = decimal (length list); end = LineFeed; rest = more; after = Nothing; new = list; parts = rests ∙ append_assoc (decimal (length list)) (10 ∷ []) more; is = IsPart-decimal (length list); few = length-decimal-most (length list); leads = (refl, refl, refl) }

  -- ---- bad lines

  rest_of : (before x front opening : List ℕ) → before ≡ front ++ opening → before ++ x ≡ front ++ (opening ++ x)
  rest_of before x front opening h = ap (λ (b : List ℕ). b ++ x) h ∙ append_assoc front opening x

  next_parts : (whole : List ℕ) (front : List (List ℕ)) (text rest more : List ℕ) → whole ≡ text_of front ++ rest → rest ≡ line text ++ more
      → whole ≡ text_of (front ++ text ∷ []) ++ more
  next_parts whole front text rest more parts split =
      parts ∙ ap (λ (r : List ℕ). text_of front ++ r) split ∙ sym (text_of-push front text more)

  -- if the rest of the bytes does not begin with an allowed line, the next line is bad
  bad_line : {A : Type 0} (whole : List ℕ) (front : List (List ℕ)) (rest : List ℕ) (at : ℕ) → whole ≡ text_of front ++ rest → IsFront A front
      → ((t more : List ℕ) → MayCome A front t → rest ≡ line t ++ more → ⊥) → at ≡ length front + 1 → IsBadLine A whole at
  bad_line {A} whole front rest at parts before none place =
      let why : IsWrongLine A whole front ⊎ EndsEarly A whole front =
      elim (first_line rest) [
        | inl one ↦ inr (rest, parts, one, λ nothing all. whole_no_front front all.0 all.1 before)
        | inr found ↦
            inl (
              found.0,
              (found.1, next_parts whole front found.0 rest found.1 parts found.2, found.3),
              λ begins.
                  none found.0 found.1
                  (comes_next front found.0 begins.more _ begins.list begins.are (append_assoc front (found.0 ∷ []) begins.more)) found.2,
            )
      ] in
      (front, place, BeginsPack-front A front before, why)

  -- a bad first line
  bad_first : {A : Type 0} (whole : List ℕ) (front : List (List ℕ)) (rest : List ℕ) → whole ≡ text_of front ++ rest → front ≡ []
      → ((t more : List ℕ) → t ≡ header → rest ≡ line t ++ more → ⊥) → IsBadLine A whole 1
  bad_first {A} whole front rest parts is none =
      let P : List (List ℕ) → Type 0 = λ f. IsFront A f in
      let count = ap (λ (f : List (List ℕ)). length f) is in
      bad_line whole front rest 1 parts (subst P (sym is) tt) (λ t more may same. let Q : List (List ℕ) → Type 0 = λ f. MayCome A f t in none t more (subst Q is may) same) (omega (arith, count))

  -- a bad line after the lines of some entries
  bad_next : {A : Type 0} (whole : List ℕ) (front nodes : List (List ℕ)) (list : List (Entry A)) (rest : List ℕ) → whole ≡ text_of front ++ rest
      → front ≡ header ∷ nodes → AreNodeTexts nodes list → ((t more : List ℕ) → MayStand A (length list) t → rest ≡ line t ++ more → ⊥)
      → IsBadLine A whole (length list + 2)
  bad_next {A} whole front nodes list rest parts is each none =
      let P : List (List ℕ) → Type 0 = λ f. IsFront A f in
      let count = ap (λ (f : List (List ℕ)). length f) is in
      let long = AreNodeTexts-length nodes list each in
      let stands : (t : List ℕ) → MayCome A (header ∷ nodes) t → MayStand A (length list) t = λ t. ⊎_elim (λ node. inl node) (λ end. inr (end ∙ ap end_text long)) in
      bad_line whole front rest (length list + 2) parts (subst P (sym is) (refl, (list, each)))
      (λ t more may same. let Q : List (List ℕ) → Type 0 = λ f. MayCome A f t in none t more (stands t (subst Q is may)) same) (omega (arith, count, long))

  -- if the rest of the bytes does not begin with an allowed part, the line is bad
  bad_part : {A : Type 0} (next : Next A) (list : List (Entry A)) (before x whole : List ℕ) → HasRead next list before → whole ≡ before ++ x
      → (next ≡ Nothing → x ≡ [] → ⊥) → (Follows next list x → ⊥) → IsBadLine A whole (line_number next (length list))
  bad_part Header list before x whole h is goes none =
      bad_first whole h.front (h.opening ++ x) (is ∙ rest_of before x (text_of h.front) h.opening h.parts) h.lines.0
      (λ t more may same. none (may_begin list h.opening x t more h.opens may same))
  bad_part Word list before x whole h is goes none =
      bad_next whole h.front h.lines.0 list (h.opening ++ x) (is ∙ rest_of before x (text_of h.front) h.opening h.parts) h.lines.1 h.lines.2
      (λ t more may same. none (may_word list h.opening x t more (length list) h.opens may same))
  bad_part (Id kind) list before x whole h is goes none =
      bad_next whole h.front h.lines.0 list (h.opening ++ x) (is ∙ rest_of before x (text_of h.front) h.opening h.parts) h.lines.1 h.lines.2
      (λ t more may same. none (may_id kind list h.opening x t more (length list) h.opens may same))
  bad_part (Parent entry) list before x whole h is goes none =
      bad_next whole h.front h.lines.0 list (h.opening ++ x) (is ∙ rest_of before x (text_of h.front) h.opening h.parts) h.lines.1 h.lines.2
      (λ t more may same. none (may_parent entry list h.opening h.opens.0 x t more (length list) h.opens.1 h.opens.2 may same))
  bad_part Count list before x whole h is goes none =
      bad_next whole h.front h.lines.0 list (h.opening ++ x) (is ∙ rest_of before x (text_of h.front) h.opening h.parts) h.lines.1 h.lines.2
      (λ t more may same. none (may_count list h.opening x t more h.opens may same))
  bad_part {A} Nothing list before x whole h is goes none =
      let parts : whole ≡ text_of h.front ++ x = is ∙ ap (λ (b : List ℕ). b ++ x) (h.parts ∙ ap (λ (o : List ℕ). text_of h.front ++ o) h.opens ∙ append-nil (text_of h.front)) in
      let count = ap (λ (f : List (List ℕ)). length f) h.lines.are in
      let long = AreNodeTexts-length h.lines.nodes list h.lines.each in
      let last = length-append h.lines.nodes (end_text (length list) ∷ []) in
      let begins : BeginsPack A h.front = record { list = list; more = []; are = rw (append-nil h.front) h.lines } in
      let why : IsWrongLine A whole h.front ⊎ EndsEarly A whole h.front =
      elim (first_line x) [
        | inl one ↦ inr (x, parts, one, λ nothing all. goes refl nothing)
        | inr found ↦
            inl (
              found.0,
              (found.1, next_parts whole h.front found.0 x found.1 parts found.2, found.3),
              λ more.
                  whole_no_front h.front list h.lines
                  (IsFront-pack h.front found.0 more.more _ more.list more.are (append_assoc h.front (found.0 ∷ []) more.more)),
            )
      ] in
      (h.front, (let place : line_number {A = A} Nothing (length list) ≡ length h.front + 1 = omega (arith, count, long, last) in place), begins, why)

  not_nil : (a : List ℕ) (byte : ℕ) (x : List ℕ) → a ++ byte ∷ x ≡ [] → ⊥
  not_nil [] byte x h = cc
  not_nil (c ∷ a) byte x h = cc

  -- a part that is not allowed next makes its line bad, regardless of the bytes that follow
  pub IsBadLine-part : {A : Type 0} (next : Next A) (list : List (Entry A)) (before part : List ℕ) (end : Separator) (more : List ℕ)
      → HasRead next list before → IsPart part → NeverLeads next list part end
      → IsBadLine A ((before ++ (part ++ separator_byte end ∷ [])) ++ more) (line_number next (length list))
  IsBadLine-part {A} next list before part end more h is never =
      let text = part ++ separator_byte end ∷ more in
      bad_part next list before text _ h (simp append_assoc) (λ _ none. not_nil part (separator_byte end) more none) (λ f.
      let one = part_one part f.part end f.end more f.rest is f.is f.parts in
      never f.after f.new (rw (← one.0, ← one.1) at f.leads))

  -- a part of more than 64 bytes makes its line bad, regardless of the bytes that follow
  pub IsBadLine-long : {A : Type 0} (next : Next A) (list : List (Entry A)) (before part more : List ℕ) → HasRead next list before → IsPart part
      → 64 < length part → IsBadLine A ((before ++ part) ++ more) (line_number next (length list))
  IsBadLine-long next list before part more h is long =
      bad_part next list before (part ++ more) _ h (append_assoc before part more) (λ _ none. some part long none) (λ f.
      let most = part_long part f.part f.end more f.rest is f.parts in
      let few = f.few in
      absurd (omega arith))
    where
      some : (p : List ℕ) → 64 < length p → p ++ more ≡ [] → ⊥
      some [] lt none = absurd (omega arith)
      some (byte ∷ p) lt none = cc

  -- the end of the input makes the line bad, unless the pack is complete
  pub bad_line_at_end : {A : Type 0} (next : Next A) (list : List (Entry A)) (before part : List ℕ) → HasRead next list before → IsPart part
      → (next ≡ Nothing → part ≡ [] → ⊥) → IsBadLine A (before ++ part) (line_number next (length list))
  bad_line_at_end next list before part h is goes =
      bad_part next list before part _ h refl goes (λ f. part_none part f.part f.end f.rest is f.parts)
