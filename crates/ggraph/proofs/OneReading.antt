-- A text is the text of at most one repository.
use Rattle.std.specs.Prelude.{◌==◌, ◌&&◌, not}
use Rattle.std.proofs.Common.{◌≡◌, ◌≢◌, inl, inr, Bool, true, false, ℕ, List, [], ◌∷◌, ◌++◌, map, All, codes, refl, sym, ◌∙◌, ap, subst}
use Rattle.std.proofs.lemmas.List.{append_assoc, append-nil}
use Rattle.std.proofs.lemmas.List.Elements.{All-head, All-tail, All-cons}
use Rattle.gname.specs.Ids.{IsIdOf, id_text}
use Rattle.gname.specs.declared.formats.Format.{Format}
use Rattle.gname.specs.declared.formats.Format.TheVariants.{Sha1, Sha256}
use Rattle.gobject.specs.PlainPackText.{ids_of, ids_text, letter, node_text}
use Rattle.gobject.specs.declared.node.Entry.{Entry}
use Rattle.gobject.specs.declared.node.Kind.{Kind}
use Rattle.gobject.specs.declared.node.Kind.TheVariants.{Commit, Tag}
use Rattle.grefs.specs.RefLists.{IsBelowRefs, RefList}
use Rattle.grefs.specs.declared.head.Head.{Head}
use Rattle.grefs.specs.declared.head.Head.TheVariants as heads_of
use Rattle.ggraph.specs.RepositoryText.{EachFollows, IsHead, IsLoadable, MayFollow, RefMayFollow, first_line, head_line, last_line, lines_of, ref_line, repository_text}
use Rattle.ggraph.specs.declared.text.Order.{Order}
use Rattle.ggraph.specs.declared.text.reading.Reading.{Reading}
use Rattle.ggraph.specs.declared.text.reading.TextStage.{TextStage}
use Rattle.ggraph.specs.declared.text.reading.TextStage.TheVariants.{Nodes, Refs, Done}
use Rattle.ggraph.specs.steps.Reading.{Item, MayCome, RefMayCome, after, begins, ends, heads, line_of, node}
use Rattle.ggraph.specs.steps.Reading.{nothing_read, ref}
use Rattle.ggraph.specs.steps.TextLaws.{TextLaws}
use Rattle.gdag.specs.Graphs.{History, HasIdsOf}
use Rattle.ggraph.proofs.LoadLemmas.{ReadsTo}
use Rattle.ggraph.proofs.Lines.{AreLines, IsLine, clean_line, line-append, one_list}
use Rattle.ggraph.proofs.ReadingLemmas.{one_item}

module _ (laws : TextLaws) where
  -- ---- equal lines have equal items

  module _ {A : Type 0} (order other : Order) where
    pub same_reading : (old mid new : Reading A) (items more : List (Item A)) → ReadsTo order old items mid → ReadsTo other old more new → map line_of items ≡ map line_of more → mid ≡ new
    same_reading old mid new [] [] here there e = here ∙ sym there
    same_reading old mid new [] (b ∷ more) here there e = let h = e in cc
    same_reading old mid new (a ∷ items) [] here there e = let h = e in cc
    same_reading old mid new (a ∷ items) (b ∷ more) here there e =
        let line : line_of a ≡ line_of b = (cc) in
        let later : map line_of items ≡ map line_of more = (cc) in
        let one = one_item laws order other old a b here.0 there.0 line in
        same_reading (after old a) mid new items more here.1 (subst (λ (i : Item A). ReadsTo other (after old i) more new) (sym one) there.1) later

    pub next_item : (old mid new : Reading A) (items more : List (Item A)) (line : List ℕ) (rest : List (List ℕ)) → ReadsTo order old items mid → ReadsTo other old more new → map line_of items ++ line ∷ rest ≡ map line_of more → (item : Item A) × (line ≡ line_of item) × MayCome other mid item
    next_item old mid new [] [] line rest here there e = let h = e in cc
    next_item old mid new [] (b ∷ more) line rest here there e =
        let same : line ≡ line_of b = (cc) in (b, same, subst (λ (r : Reading A). MayCome other r b) (sym here) there.0)
    next_item old mid new (a ∷ items) [] line rest here there e = let h = e in cc
    next_item old mid new (a ∷ items) (b ∷ more) line rest here there e =
        let first : line_of a ≡ line_of b = (cc) in
        let later : map line_of items ++ line ∷ rest ≡ map line_of more = (cc) in
        let one = one_item laws order other old a b here.0 there.0 first in
        next_item (after old a) mid new items more line rest here.1 (subst (λ (i : Item A). ReadsTo other (after old i) more new) (sym one) there.1) later

  -- ---- reading the text of a valid repository

  reads_on : {A : Type 0} (order : Order) (old mid new : Reading A) (xs ys : List (Item A)) → ReadsTo order old xs mid → ReadsTo order mid ys new → ReadsTo order old (xs ++ ys) new
  reads_on {A} order old mid new [] ys here there = subst (λ (r : Reading A). ReadsTo order r ys new) here there
  reads_on order old mid new (x ∷ xs) ys here there = (here.0, reads_on order (after old x) mid new xs ys here.1 there)

  abbrev at_nodes : {A : Type 0} → Format → List (Entry A) → Reading A
  at_nodes format g = record { stage = Nodes; graph = record { format = format; entries = g }; refs = []; head = heads_of.None }

  abbrev at_refs : {A : Type 0} → TextStage → History A → RefList → Reading A
  at_refs stage g refs = record { stage = stage; graph = g; refs = refs; head = heads_of.None }

  abbrev pub whole_reading : {A : Type 0} → History A → RefList → Head A → Reading A
  whole_reading g refs head = record { stage = Done; graph = g; refs = refs; head = head }

  reads_nodes : {A : Type 0} (order : Order) (format : Format) (front back whole : List (Entry A)) → whole ≡ front ++ back → EachFollows (MayFollow order format) whole → ReadsTo order (at_nodes format front) (map node back) (at_nodes format whole)
  reads_nodes order format front [] whole parts each = ap (at_nodes format) (parts ∙ append-nil front)
  reads_nodes order format front (x ∷ back) whole parts each =
      ((refl, each front x back parts), reads_nodes order format (front ++ x ∷ []) back whole (parts ∙ sym (append_assoc front (x ∷ []) back)) each)

  reads_refs : {A : Type 0} (order : Order) (stage : TextStage) (g : History A) (front back whole : RefList) → RefMayCome stage → whole ≡ front ++ back → EachFollows (RefMayFollow g.format) whole → (last : TextStage) × RefMayCome last × ReadsTo order (at_refs stage g front) (map ref back) (at_refs last g whole)
  reads_refs order stage g front [] whole due parts each = (stage, due, ap (at_refs stage g) (parts ∙ append-nil front))
  reads_refs order stage g front (x ∷ back) whole due parts each =
      let rest = reads_refs order Refs g (front ++ x ∷ []) back whole (inr refl) (parts ∙ sym (append_assoc front (x ∷ []) back)) each in
      (rest.0, rest.1, ((due, each front x back parts), rest.2))

  abbrev pub whole_items : {A : Type 0} → History A → RefList → Head A → List (Item A)
  whole_items g refs head = begins g.format ∷ (map node g.entries ++ (map ref refs ++ (heads head ∷ ends ∷ [])))

  pub reads_whole : {A : Type 0} (order : Order) (g : History A) (refs : RefList) (head : Head A) → IsLoadable order g refs head → ReadsTo order nothing_read (whole_items g refs head) (whole_reading g refs head)
  reads_whole {A} order g refs head valid =
      let nodes = reads_nodes order g.format [] g.entries g.entries refl valid.nodes in
      let all = reads_refs order Nodes g [] refs refs (inl refl) refl valid.refs_follow in
      let ending : ReadsTo order (at_refs all.0 g refs) (heads head ∷ ends ∷ []) (whole_reading g refs head) = ((all.1, valid.stands), (refl, refl)) in (
        refl,
        reads_on order (at_nodes g.format []) (at_nodes g.format g.entries) (whole_reading g refs head) (map node g.entries) (map ref refs ++ (heads head ∷ ends ∷ [])) nodes
            (reads_on order (at_nodes g.format g.entries) (at_refs all.0 g refs) (whole_reading g refs head) (map ref refs) (heads head ∷ ends ∷ []) all.2 ending),
      )

  lines_through : {A X : Type 0} (item : X → Item A) (xs : List X) (more : List (Item A))
      → map line_of (map item xs ++ more) ≡ map (λ x. line_of (item x)) xs ++ map line_of more
  lines_through item [] more = refl
  lines_through item (x ∷ xs) more = ap (λ (ls : List (List ℕ)). line_of (item x) ∷ ls) (lines_through item xs more)

  pub lines_whole : {A : Type 0} (g : History A) (refs : RefList) (head : Head A) → map line_of (whole_items g refs head) ≡ lines_of g refs head
  lines_whole {A} g refs head =
      ap (λ (ls : List (List ℕ)). first_line g.format ∷ ls) (lines_through node g.entries (map ref refs ++ (heads head ∷ ends ∷ [])))
      ∙ ap (λ (ls : List (List ℕ)). first_line g.format ∷ (map node_text g.entries ++ ls)) (lines_through ref refs (heads head ∷ ends ∷ []))

  -- ---- lines without an LF

  abbrev is_line : List ℕ → Bool
  is_line [] = true
  is_line (b ∷ bs) = not (b == 10) && is_line bs

  both : (a b : Bool) → (a && b) ≡ true → (a ≡ true) × (b ≡ true)
  both true b h = (refl, h)
  both false b h = cc

  differs : (b : ℕ) → not (b == 10) ≡ true → b ≢ 10
  differs b h e = let clash : not (10 == 10) ≡ true = subst (λ (n : ℕ). not (n == 10) ≡ true) e h in cc

  tested_line : (text : List ℕ) → is_line text ≡ true → IsLine text
  tested_line [] h = tt
  tested_line (b ∷ bs) h = let parts = both (not (b == 10)) (is_line bs) h in (differs b parts.0, tested_line bs parts.1)

  id_line : (format : Format) (id : List ℕ) → IsIdOf format id → IsLine (id_text id)
  id_line format id valid =
      let facts = laws.one_format format id valid in
      clean_line (id_text id) (laws.are_digits (id_text id) id (laws.have_texts id facts.0).0).clean

  name_line : (name : List ℕ) → IsBelowRefs name → IsLine name
  name_line name valid = clean_line name (laws.clean_names name valid.well_formed).clean

  ids_line : (format : Format) (ids : List (List ℕ)) → All (IsIdOf format) ids → IsLine (ids_text ids)
  ids_line format [] valid = tt
  ids_line format (id ∷ ids) valid =
      line-append (codes " ") (id_text id ++ ids_text ids) (tested_line (codes " ") refl)
      (line-append (id_text id) (ids_text ids) (id_line format id (All-head (IsIdOf format) id ids valid)) (ids_line format ids (All-tail (IsIdOf format) id ids valid)))

  letter_line : (kind : Kind) → IsLine (letter kind ∷ [])
  letter_line Commit = tested_line (codes "c") refl
  letter_line Tag = tested_line (codes "t") refl

  first_is_line : (format : Format) → IsLine (first_line format)
  first_is_line Sha1 = tested_line (first_line Sha1) refl
  first_is_line Sha256 = tested_line (first_line Sha256) refl

  node_is_line : {A : Type 0} (format : Format) (entry : Entry A) → HasIdsOf format entry → IsLine (node_text entry)
  node_is_line format entry valid = line-append (letter entry.node.kind ∷ []) (ids_text (ids_of entry)) (letter_line entry.node.kind) (ids_line format (ids_of entry) (All-cons (IsIdOf format) entry.id entry.node.parents valid.id valid.parents))

  ref_is_line : (format : Format) (it : List ℕ × List ℕ) → IsIdOf format it.1 → IsBelowRefs it.0 → IsLine (ref_line it)
  ref_is_line format it valid below =
      line-append (codes "r ") (id_text it.1 ++ (codes " " ++ it.0)) (tested_line (codes "r ") refl)
      (line-append (id_text it.1) (codes " " ++ it.0) (id_line format it.1 valid) (line-append (codes " ") it.0 (tested_line (codes " ") refl) (name_line it.0 below)))

  head_is_line : {A : Type 0} (format : Format) (head : Head A) → IsHead format head → IsLine (head_line head)
  head_is_line format heads_of.None valid = tested_line (codes "h none") refl
  head_is_line format (heads_of.Id id) valid = line-append (codes "h id ") (id_text id) (tested_line (codes "h id ") refl) (id_line format id valid)
  head_is_line format (heads_of.Symref target) valid = line-append (codes "h ref ") target (tested_line (codes "h ref ") refl) (name_line target valid)

  item_is_line : {A : Type 0} (order : Order) (old : Reading A) (item : Item A) → MayCome order old item → IsLine (line_of item)
  item_is_line order old (begins format) may = first_is_line format
  item_is_line order old (node entry) may = node_is_line old.graph.format entry may.1.comes.ids
  item_is_line order old (ref it) may = ref_is_line old.graph.format it may.1.id may.1.comes.below
  item_is_line order old (heads head) may = head_is_line old.graph.format head may.1
  item_is_line order old ends may = tested_line last_line refl

  pub items_are_lines : {A : Type 0} (order : Order) (old new : Reading A) (items : List (Item A)) → ReadsTo order old items new → AreLines (map line_of items)
  items_are_lines order old new [] reads = tt
  items_are_lines order old new (item ∷ items) reads = (item_is_line order old item reads.0, items_are_lines order (after old item) new items reads.1)

  pub lines_are_lines : {A : Type 0} (order : Order) (g : History A) (refs : RefList) (head : Head A) → IsLoadable order g refs head → AreLines (lines_of g refs head)
  lines_are_lines order g refs head valid =
      subst AreLines (lines_whole g refs head) (items_are_lines order nothing_read (whole_reading g refs head) (whole_items g refs head) (reads_whole order g refs head valid))

  -- ---- uniqueness of the repository

  pub one_repository : {A : Type 0} (order other : Order) (g h : History A) (refs others : RefList) (head at : Head A) → IsLoadable order g refs head → IsLoadable other h others at → repository_text g refs head ≡ repository_text h others at → whole_reading g refs head ≡ whole_reading h others at
  one_repository order other g h refs others head at here there e =
      let lines = one_list (lines_of g refs head) (lines_of h others at) (lines_are_lines order g refs head here) (lines_are_lines other h others at there) e in
      same_reading order other nothing_read (whole_reading g refs head) (whole_reading h others at) (whole_items g refs head) (whole_items h others at) (reads_whole order g refs head here) (reads_whole other h others at there)
      (lines_whole g refs head ∙ lines ∙ sym (lines_whole h others at))
