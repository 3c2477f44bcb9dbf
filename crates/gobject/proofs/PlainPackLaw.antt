-- A plain pack has one list of entries, bytes have at most one bad line, and a list reads back from its pack.
use Rattle.std.proofs.Common.{ap₂, ◌≡◌, ◌⊎◌, inl, inr, ℕ, ◌+◌, List, [], ◌∷◌, ◌++◌, length, decimal, map, refl, ap, sym, subst, ◌∙◌, append_assoc, arith}
use Rattle.std.specs.List.{All}
use Rattle.std.proofs.lemmas.List.Elements.{All-append, All-cons, All-head, All-nil, All-tail}
use Rattle.std.proofs.lemmas.List.{append-nil}
use Rattle.gname.specs.Ids.{IsId, id_text}
use Rattle.gname.specs.Laws.{IdTextsAreDigits, IdsHaveTexts, TextsSpellOneId}
use Rattle.gobject.specs.declared.node.Kind.{Kind}
use Rattle.gobject.specs.declared.node.Kind.TheVariants.{Commit, Tag}
use Rattle.gobject.specs.declared.node.Entry.{Entry}
use Rattle.gobject.specs.declared.fault.IndexFault.{IndexFault}
use Rattle.gobject.specs.declared.fault.IndexFault.TheVariants as index_faults
use Rattle.gobject.specs.Objects.{HasIds, entry_of, node_of}
use Rattle.gobject.specs.Packs.{LosesNothing}
use Rattle.gobject.specs.PlainPackText.{line, text_of, header, letter, ids_of, ids_text, node_text, end_text, pack_lines, pack_text, PackRefuses, IsInLine, IsIdsText, IsNodeText, AreNodeTexts, ArePackLines, IsPack, BeginsPack, IsWholePack, IsBadLine, IndexRefuses}
use Rattle.gobject.proofs.PlainPackLines.{IsPart-nil, IsPart-id, IsPart-letter, IsPart-decimal, IsPart-end, IsPart-header, IsInLine-part, IsInLine-cons, IsInLine-append, not_in_line, line_parts, text_of-push, IsIdsText-one}
use Rattle.gobject.proofs.PlainPackFronts.{end_no_node}

module _ (digits_law : IdTextsAreDigits) (one_law : TextsSpellOneId) where
  -- ---- the contents of a line

  IsInLine-ids : (text : List ℕ) (ids : List (List ℕ)) → IsIdsText text ids → IsInLine text
  IsInLine-ids text [] h = subst IsInLine (sym h) (IsInLine-part [] IsPart-nil)
  IsInLine-ids text (id ∷ ids) h =
      let spaced = IsInLine-cons 32 (h.0 ++ h.1) (λ is. omega arith) (IsInLine-append h.0 h.1 (IsInLine-part h.0 (IsPart-id digits_law h.0 id h.3)) (IsInLine-ids h.1 ids h.4)) in
      subst IsInLine (sym h.2) spaced

  -- the line of an entry has no line feed
  IsInLine-node : {A : Type 0} (text : List ℕ) (entry : Entry A) → IsNodeText text entry → IsInLine text
  IsInLine-node text entry h =
      subst IsInLine (sym h.1) (IsInLine-cons (letter entry.node.kind) h.0 ((IsPart-letter entry.node.kind 0).1) (IsInLine-ids h.0 (ids_of entry) h.2))

  -- the last line of a pack has no line feed
  IsInLine-end : (n : ℕ) → IsInLine (end_text n)
  IsInLine-end n =
      IsInLine-append (101 ∷ 110 ∷ 100 ∷ []) (32 ∷ decimal n) (IsInLine-part (101 ∷ 110 ∷ 100 ∷ []) IsPart-end)
      (IsInLine-cons 32 (decimal n) (λ is. omega arith) (IsInLine-part (decimal n) (IsPart-decimal n)))

  letter_one : (a b : Kind) → letter a ≡ letter b → a ≡ b
  letter_one Commit Commit h = refl
  letter_one Tag Tag h = refl
  letter_one _ _ h = absurd (omega arith)

  -- a line is the line of at most one entry
  IsNodeText-one : {A : Type 0} (text : List ℕ) (a b : Entry A) → IsNodeText text a → IsNodeText text b → a ≡ b
  IsNodeText-one {A} text a b h k =
      let whole : letter a.node.kind ∷ h.0 ≡ letter b.node.kind ∷ k.0 = sym h.1 ∙ k.1 in
      let letters : letter a.node.kind ≡ letter b.node.kind = cc in
      let texts : h.0 ≡ k.0 = cc in
      let lists : ids_of a ≡ ids_of b = IsIdsText-one digits_law one_law h.0 k.0 (ids_of a) (ids_of b) [] [] h.2 k.2 (ap (λ (t : List ℕ). t ++ 10 ∷ []) texts) in
      let ids : a.id ≡ b.id = cc in
      let parents : a.node.parents ≡ b.node.parents = cc in
      ap₂ entry_of ids (ap₂ node_of (letter_one a.node.kind b.node.kind letters) parents)

  -- ---- lines that are read

  All-back : (front back : List (List ℕ)) → All IsInLine (front ++ back) → All IsInLine back
  All-back [] back all = all
  All-back (first ∷ front) back all = All-back front back (All-tail IsInLine first (front ++ back) all)

  All-front : (front back : List (List ℕ)) → All IsInLine (front ++ back) → All IsInLine front
  All-front [] back all = All-nil IsInLine
  All-front (first ∷ front) back all =
      All-cons IsInLine first front (All-head IsInLine first (front ++ back) all) (All-front front back (All-tail IsInLine first (front ++ back) all))

  nodes_in_line : {A : Type 0} (nodes : List (List ℕ)) (list : List (Entry A)) → AreNodeTexts nodes list → All IsInLine nodes
  nodes_in_line [] [] h = All-nil IsInLine
  nodes_in_line (text ∷ nodes) (entry ∷ list) h = All-cons IsInLine text nodes (IsInLine-node text entry h.0) (nodes_in_line nodes list h.1)
  nodes_in_line _ _ h = absurd h

  pack_in_line : {A : Type 0} (lines : List (List ℕ)) (list : List (Entry A)) → ArePackLines lines list → All IsInLine lines
  pack_in_line lines list h =
      subst (All IsInLine) (sym h.are)
      (All-cons IsInLine header (h.nodes ++ end_text (length list) ∷ []) (IsInLine-part header IsPart-header)
      (All-append IsInLine h.nodes (end_text (length list) ∷ []) (nodes_in_line h.nodes list h.each)
      (All-cons IsInLine (end_text (length list)) [] (IsInLine-end (length list)) (All-nil IsInLine))))

  -- the list `others` begins with `lines`, and the text `x` consists of the further lines and the text `y`
  abbrev GoesOn : List (List ℕ) → List ℕ → List (List ℕ) → List ℕ → Type 0
  GoesOn lines x others y = (more : List (List ℕ)) × (others ≡ lines ++ more) × (x ≡ text_of more ++ y)

  -- if a text begins with two lists of lines, one of the lists begins with the other
  lines_meet : (lines others : List (List ℕ)) (x y : List ℕ) → All IsInLine lines → All IsInLine others
      → text_of lines ++ x ≡ text_of others ++ y → GoesOn lines x others y ⊎ GoesOn others y lines x
  lines_meet [] others x y here there same = inl (others, refl, same)
  lines_meet (first ∷ lines) [] x y here there same = inr (first ∷ lines, refl, sym same)
  lines_meet (first ∷ lines) (second ∷ others) x y here there same =
      let whole : line first ++ (text_of lines ++ x) ≡ line second ++ (text_of others ++ y) =
      sym (append_assoc (line first) (text_of lines) x) ∙ same ∙ append_assoc (line second) (text_of others) y in
      let parts = line_parts first second (text_of lines ++ x) (text_of others ++ y) (All-head IsInLine first lines here) (All-head IsInLine second others there) whole in
      elim (lines_meet lines others x y (All-tail IsInLine first lines here) (All-tail IsInLine second others there) parts.1) [
        | inl h ↦ inl (h.0, ap₂ (λ (l : List ℕ) (ls : List (List ℕ)). l ∷ ls) (sym parts.0) h.1, h.2)
        | inr h ↦ inr (h.0, ap₂ (λ (l : List ℕ) (ls : List (List ℕ)). l ∷ ls) parts.0 h.1, h.2)
      ]

  -- a line is never empty, because it ends with a line feed
  no_more : (more : List (List ℕ)) (x : List ℕ) → text_of more ++ x ≡ [] → (more ≡ []) × (x ≡ [])
  no_more [] x same = (refl, same)
  no_more ([] ∷ more) x same = cc same
  no_more ((byte ∷ first) ∷ more) x same = cc same

  -- ---- packs with the same beginning

  -- if a pack begins with the lines of another pack, both have the same entries and the same lines
  same_nodes : {A : Type 0} (nodes front more : List (List ℕ)) (list read : List (Entry A)) (n m : ℕ) → AreNodeTexts nodes list → AreNodeTexts front read
      → nodes ++ end_text n ∷ [] ≡ (front ++ end_text m ∷ []) ++ more → (list ≡ read) × (more ≡ [])
  same_nodes [] [] more [] [] n m h k same = let nothing : [] ≡ more = cc in (refl, sym nothing)
  same_nodes [] (first ∷ front) more [] (entry ∷ read) n m h k same =
      let is : end_text n ≡ first = cc in absurd (end_no_node n entry (subst (λ (t : List ℕ). IsNodeText t entry) (sym is) k.0))
  same_nodes (node ∷ nodes) [] more (entry ∷ list) [] n m h k same =
      let is : node ≡ end_text m = cc in absurd (end_no_node m entry (subst (λ (t : List ℕ). IsNodeText t entry) is h.0))
  same_nodes (node ∷ nodes) (first ∷ front) more (entry ∷ list) (other ∷ read) n m h k same =
      let is : node ≡ first = cc in
      let rest : nodes ++ end_text n ∷ [] ≡ (front ++ end_text m ∷ []) ++ more = cc in
      let one : entry ≡ other = IsNodeText-one first entry other (subst (λ (t : List ℕ). IsNodeText t entry) is h.0) k.0 in
      let further = same_nodes nodes front more list read n m h.1 k.1 rest in
      (ap (λ e. e ∷ list) one ∙ ap (λ es. other ∷ es) further.0, further.1)
  same_nodes _ _ more list read n m h k same = grind arith

  same_packs : {A : Type 0} (lines front more : List (List ℕ)) (list read : List (Entry A)) → ArePackLines lines list → ArePackLines front read
      → lines ≡ front ++ more → (list ≡ read) × (more ≡ [])
  same_packs lines front more list read h k same =
      let whole : header ∷ (h.nodes ++ end_text (length list) ∷ []) ≡ header ∷ ((k.nodes ++ end_text (length read) ∷ []) ++ more) =
      sym h.are ∙ same ∙ ap (λ (ls : List (List ℕ)). ls ++ more) k.are in
      let rest : h.nodes ++ end_text (length list) ∷ [] ≡ (k.nodes ++ end_text (length read) ∷ []) ++ more = cc in
      same_nodes h.nodes k.nodes more list read (length list) (length read) h.each k.each rest

  -- ---- uniqueness of the entries

  -- bytes are the pack of at most one list
  pub packs_have_one_reading : {A : Type 0} (bytes : List ℕ) (a b : List (Entry A)) → IsPack bytes a → IsPack bytes b → a ≡ b
  packs_have_one_reading bytes a b h k =
      elim (lines_meet h.lines k.lines [] [] (pack_in_line h.lines a h.are) (pack_in_line k.lines b k.are)
      (ap (λ (t : List ℕ). t ++ []) (sym h.whole ∙ k.whole))) [
        | inl on ↦ sym (same_packs k.lines h.lines on.0 b a k.are h.are on.1).0
        | inr on ↦ (same_packs h.lines k.lines on.0 a b h.are k.are on.1).0
      ]

  -- ---- bad lines

  -- reading stops after `lines`: some pack begins with these lines, but no pack begins with these lines and the next
  -- line
  record Stops (A : Type 0) (bytes : List ℕ) (at : ℕ) : Type 0 where
    lines : List (List ℕ)
    rest : List ℕ
    parts : bytes ≡ text_of lines ++ rest
    each : All IsInLine lines
    begins : BeginsPack A lines
    never : (text more : List ℕ) → IsInLine text → rest ≡ line text ++ more → BeginsPack A (lines ++ text ∷ []) → ⊥
    goes : rest ≡ [] → IsWholePack A lines → ⊥
    place : at ≡ length lines + 1

  begins_in_line : {A : Type 0} (lines : List (List ℕ)) → BeginsPack A lines → All IsInLine lines
  begins_in_line lines h = All-front lines h.more (pack_in_line (lines ++ h.more) h.list h.are)

  -- reading stops before a bad line
  Stops-of : {A : Type 0} (bytes : List ℕ) (at : ℕ) → IsBadLine A bytes at → Stops A bytes at
  Stops-of {A} bytes at (lines, place, begins, inl w) =
      let P : List ℕ → Type 0 = λ t. BeginsPack A (lines ++ t ∷ []) in
      record {
        lines = lines;
        rest = line w.0 ++ w.1.0;
        parts = w.1.1 ∙ text_of-push lines w.0 w.1.0;
        each = begins_in_line lines begins;
        begins = begins;
        never = λ text more in_line same on. w.2 (subst P (sym (line_parts w.0 text w.1.0 more w.1.2 in_line same).0) on);
        goes = λ nothing all. not_in_line w.0 w.1.0 (subst IsInLine (sym nothing) (IsInLine-part [] IsPart-nil));
        place = place;
      }
  Stops-of {A} bytes at (lines, place, begins, inr e) =
      record {
        lines = lines;
        rest = e.0;
        parts = e.1;
        each = begins_in_line lines begins;
        begins = begins;
        never = λ text more in_line same on. not_in_line text more (subst IsInLine same e.2);
        goes = e.3;
        place = place;
      }

  -- no pack begins with the lines before the stop and one more line of the bytes
  stops_here : {A : Type 0} (bytes : List ℕ) (at : ℕ) (s : Stops A bytes at) (others : List (List ℕ)) (text : List ℕ) (more : List (List ℕ)) (y : List ℕ)
      → BeginsPack A others → others ≡ s.lines ++ text ∷ more → s.rest ≡ text_of (text ∷ more) ++ y → ⊥
  stops_here {A} bytes at s others text more y h is rest =
      let P : List (List ℕ) → Type 0 = λ ls. ArePackLines ls h.list in
      let in_line = All-head IsInLine text more (All-back s.lines (text ∷ more) (subst (All IsInLine) is (begins_in_line others h))) in
      let same : others ++ h.more ≡ (s.lines ++ text ∷ []) ++ (more ++ h.more) =
      ap (λ (ls : List (List ℕ)). ls ++ h.more) is ∙ simp append_assoc in
      s.never text (text_of more ++ y) in_line (rest ∙ append_assoc (line text) (text_of more) y)
      (record { list = h.list; more = more ++ h.more; are = subst P same h.are })

  -- no line of a pack is bad
  pub packs_have_no_bad_line : {A : Type 0} (bytes : List ℕ) (at : ℕ) (list : List (Entry A)) → IsPack bytes list → IsBadLine A bytes at → ⊥
  packs_have_no_bad_line {A} bytes at list h bad =
      elim (lines_meet s.lines h.lines s.rest [] s.each (pack_in_line h.lines list h.are) (sym s.parts ∙ h.whole ∙ sym (append-nil (text_of h.lines)))) [
        | inl on ↦ ends on.0 on.1 on.2
        | inr on ↦
            let none = no_more on.0 s.rest (sym on.2) in
            let same : s.lines ≡ h.lines = on.1 ∙ ap (λ (ls : List (List ℕ)). h.lines ++ ls) none.0 ∙ append-nil h.lines in
            s.goes none.1 (list, subst P (sym same) h.are)
      ]
    where
      s : Stops A bytes at
      s = Stops-of bytes at bad

      P : List (List ℕ) → Type 0
      P ls = ArePackLines ls list

      ends : (more : List (List ℕ)) → h.lines ≡ s.lines ++ more → s.rest ≡ text_of more ++ [] → ⊥
      ends [] whole same = s.goes same (list, subst P (whole ∙ append-nil s.lines) h.are)
      ends (first ∷ more) whole same =
          stops_here bytes at s h.lines first more [] (record { list = list; more = []; are = subst P (sym (append-nil h.lines)) h.are }) whole same

  -- bytes have at most one bad line
  pub bad_lines_have_one_place : {A : Type 0} (bytes : List ℕ) (a b : ℕ) → IsBadLine A bytes a → IsBadLine A bytes b → a ≡ b
  bad_lines_have_one_place {A} bytes a b h k =
      let f : Stops A bytes a = Stops-of bytes a h in
      let g : Stops A bytes b = Stops-of bytes b k in
      elim (lines_meet f.lines g.lines f.rest g.rest f.each g.each (sym f.parts ∙ g.parts)) [
        | inl on ↦ f.place ∙ ap (λ (ls : List (List ℕ)). length ls + 1) (met a b f g on.0 on.1 on.2) ∙ sym g.place
        | inr on ↦ f.place ∙ ap (λ (ls : List (List ℕ)). length ls + 1) (sym (met b a g f on.0 on.1 on.2)) ∙ sym g.place
      ]
    where
      met : (a b : ℕ) (f : Stops A bytes a) (g : Stops A bytes b) (more : List (List ℕ)) → g.lines ≡ f.lines ++ more
          → f.rest ≡ text_of more ++ g.rest → f.lines ≡ g.lines
      met a b f g [] is rest = sym (is ∙ append-nil f.lines)
      met a b f g (text ∷ more) is rest = absurd (stops_here bytes a f g.lines text more g.rest g.begins is rest)

module _ (texts_law : IdsHaveTexts) (digits_law : IdTextsAreDigits) (one_law : TextsSpellOneId) where
  -- ---- the image

  IsIdsText-image : (ids : List (List ℕ)) → All IsId ids → IsIdsText (ids_text ids) ids
  IsIdsText-image [] h = refl
  IsIdsText-image (id ∷ ids) h =
      (id_text id, ids_text ids, refl, (texts_law id (All-head IsId id ids h)).0, IsIdsText-image ids (All-tail IsId id ids h))

  IsNodeText-image : {A : Type 0} (entry : Entry A) → HasIds entry → IsNodeText (node_text entry) entry
  IsNodeText-image entry h =
      let parents = IsIdsText-image entry.node.parents h.parents in
      (ids_text (ids_of entry), refl, (id_text entry.id, ids_text entry.node.parents, refl, (texts_law entry.id h.id).0, parents))

  AreNodeTexts-image : {A : Type 0} (list : List (Entry A)) → All HasIds list → AreNodeTexts (map node_text list) list
  AreNodeTexts-image [] h = tt
  AreNodeTexts-image (entry ∷ list) h = (IsNodeText-image entry (All-head HasIds entry list h), AreNodeTexts-image list (All-tail HasIds entry list h))

  -- the text of a list is a pack of this list
  IsPack-image : {A : Type 0} (list : List (Entry A)) → All HasIds list → IsPack (pack_text list) list
  unfolding pack_text
  IsPack-image list h =
      record { lines = pack_lines list; whole = refl; are = record { nodes = map node_text list; are = refl; each = AreNodeTexts-image list h } }

  no_fault : {A : Type 0} (bytes : List ℕ) (list : List (Entry A)) (fault : IndexFault) → IsPack bytes list → IndexRefuses A bytes fault
      → fault ≡ index_faults.Memory
  no_fault bytes list index_faults.Memory h k = refl
  no_fault bytes list (index_faults.Bad at) h k = absurd (packs_have_no_bad_line digits_law one_law bytes at list h k)
  no_fault bytes list index_faults.Other h k = absurd k

  -- the packer and indexer of plain packs are lossless
  pub loses_nothing : (A : Type 0) → LosesNothing {A = A} (λ list pack. pack ≡ pack_text list)
      (λ list. PackRefuses (pack_text list)) (λ bytes list. IsPack bytes list) (λ bytes. IndexRefuses A bytes) (λ list. pack_text list)
  loses_nothing A = record {
    packs_image = λ list pack are h. h;
    too_large = λ list are h. h;
    packs_each = λ list are h. h;
    reads_image = λ list others are h. packs_have_one_reading digits_law one_law (pack_text list) others list h (IsPack-image list are.ids);
    reads_each = λ list fault are h. no_fault (pack_text list) list fault (IsPack-image list are.ids) h;
  }
