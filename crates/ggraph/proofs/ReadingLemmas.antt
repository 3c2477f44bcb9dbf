-- The lines that are allowed next. Each of these lines encodes one item.
use Rattle.std.proofs.Common.{ap₂, ◌≡◌, ℕ, List, [], ◌∷◌, ◌++◌, All, codes, refl, sym, ◌∙◌, ap, subst, arith, get_or, length, Result, Ok, Err, Option, Some, None, MatchOption, MatchResult, OnOk, IfErr}
use Rattle.std.proofs.lemmas.List.{append_cancel_left}
use Rattle.std.proofs.lemmas.List.Elements.{All-head, All-tail, All-cons}
use Rattle.std.specs.Prelude.{◌==◌, if◌then◌else◌}
use Rattle.gname.specs.Ids.{IsIdOf, id_text}
use Rattle.gname.specs.declared.formats.Format.{Format}
use Rattle.gname.specs.declared.formats.Format.TheVariants.{Sha1, Sha256}
use Rattle.gobject.specs.Objects.{entry_of, node_of}
use Rattle.gobject.specs.PlainPackText.{ids_of, ids_text, letter, node_text}
use Rattle.gobject.specs.declared.node.Entry.{Entry}
use Rattle.gobject.specs.declared.node.Kind.{Kind}
use Rattle.gobject.specs.declared.node.Kind.TheVariants.{Commit, Tag}
use Rattle.gdag.specs.Graphs.{History, HasIdsOf}
use Rattle.grefs.specs.RefLists.{IsBelowRefs}
use Rattle.grefs.specs.declared.head.Head.{Head}
use Rattle.grefs.specs.declared.head.Head.TheVariants as heads_of
use Rattle.ggraph.specs.RepositoryText.{IsHead, MayFollow, RefMayFollow, first_line, head_line, ref_line}
use Rattle.ggraph.specs.declared.fault.LoadFault.{LoadFault}
use Rattle.ggraph.specs.declared.text.Order.{Order}
use Rattle.ggraph.specs.declared.text.Order.TheVariants.{Any, ParentsFirst}
use Rattle.ggraph.specs.declared.text.reading.Reading.{Reading}
use Rattle.ggraph.specs.declared.text.reading.TextStage.TheVariants.{Nodes, Refs}
use Rattle.ggraph.specs.steps.NoSuchPart.{BeginsWithNoRefId, BeginsWithNoSpacedId, IsHeadOn, IsNoParents}
use Rattle.ggraph.specs.steps.NoSuchPart.{IsNoHead, IsSymrefLine}
use Rattle.ggraph.specs.steps.Reading.{Item, MayCome, begins, line_of, node, ref, heads, ends, RefusesLine}
use Rattle.ggraph.specs.steps.Reading.{RefusesEntry, RefusesRef, ComesNext, NeverComes, RefMayCome, with_entry}
use Rattle.ggraph.specs.steps.TextLaws.{TextLaws}
use Rattle.ggraph.specs.declared.fault.LoadFault.TheVariants as faults
use Rattle.ggraph.proofs.TextLemmas.{one_front, one_id}

-- ---- lines of different items

abbrev first_byte : List ℕ → ℕ
first_byte xs = get_or xs 0 0

abbrev third_byte : List ℕ → ℕ
third_byte xs = get_or xs 2 0

-- a line that begins with `h ref ` and has a malformed target is not the line of a valid HEAD
no_head_on : {A : Type 0} (format : Format) (line text : List ℕ) → line ≡ codes "h ref " ++ text → (IsBelowRefs text → ⊥) → IsNoHead A format line
no_head_on format line text is none (heads_of.Symref target) valid e =
    none (subst IsBelowRefs (sym (append_cancel_left (codes "h ref ") text target (sym is ∙ e))) valid)
no_head_on format line text is none _ valid e = let h = ap third_byte (sym is ∙ e) in absurd (omega (arith, h))

abbrev SaysHeadOn : {A E : Type 0} → List ℕ → Result (Option (Head A)) E → Type 0
SaysHeadOn text r = MatchResult r (λ found. MatchOption found (IsBelowRefs text → ⊥) (λ head. IsHeadOn text head)) (λ _. IsBelowRefs text)

abbrev SaysHead : {A E : Type 0} → Format → List ℕ → Result (Option (Head A)) E → Type 0
SaysHead {A} format line r =
    MatchResult r (λ found. MatchOption found (IsNoHead A format line) (λ head. (line ≡ head_line head) × IsHead format head)) (λ _. IsSymrefLine A line)

pub head_on_line : {A E : Type 0} (format : Format) (line text : List ℕ) (r : Result (Option (Head A)) E) → line ≡ codes "h ref " ++ text → SaysHeadOn text r → SaysHead format line r
head_on_line format line text (Ok None) is none = no_head_on format line text is none
head_on_line format line text (Ok (Some (heads_of.Symref target))) is facts =
    (is ∙ ap (λ (t : List ℕ). codes "h ref " ++ t) (sym facts.0), subst IsBelowRefs (sym facts.0) facts.1)
head_on_line format line text (Ok (Some _)) is facts = absurd facts
head_on_line format line text (Err e) is below = (text, below, is)

-- ---- out of memory for the target of a symbolic HEAD

pub symref_short : {A : Type 0} (order : Order) (old : Reading A) (line : List ℕ) (number : ℕ) → RefMayCome old.stage → IsSymrefLine A line → RefusesLine order old line number faults.Memory
symref_short order old line number due (target, below, is) = (heads (heads_of.Symref target), is, (due, below), tt)

module _ (laws : TextLaws) where
  -- the number of each kind of item, which the first byte of its line determines
  abbrev tag : {A : Type 0} → Item A → ℕ
  tag (begins format) = 0
  tag (node entry) = 1
  tag (ref it) = 2
  tag (heads head) = 3
  tag ends = 4

  abbrev told : List ℕ → ℕ
  told line =
      let b = first_byte line in
      if b == 103 then 0 else if b == 114 then 2 else if b == 104 then 3 else if b == 101 then 4 else 1

  letter_told : (kind : Kind) (rest : List ℕ) → told (letter kind ∷ rest) ≡ 1
  letter_told Commit rest = refl
  letter_told Tag rest = refl

  tagged : {A : Type 0} (item : Item A) → told (line_of item) ≡ tag item
  tagged (begins Sha1) = refl
  tagged (begins Sha256) = refl
  tagged (node entry) = letter_told entry.node.kind (ids_text (ids_of entry))
  tagged (ref it) = refl
  tagged (heads (heads_of.Id id)) = refl
  tagged (heads (heads_of.Symref target)) = refl
  tagged (heads heads_of.None) = refl
  tagged ends = refl

  -- ---- uniqueness of the contents of a line

  letters_one : (k l : Kind) (s t : List ℕ) → letter k ∷ s ≡ letter l ∷ t → (k ≡ l) × (s ≡ t)
  letters_one Commit Commit s t e = (refl, append_cancel_left (codes "c") s t e)
  letters_one Tag Tag s t e = (refl, append_cancel_left (codes "t") s t e)
  letters_one _ _ s t e = let h = ap first_byte e in absurd (omega (arith, h))

  pub formats_one : (a b : Format) → first_line a ≡ first_line b → a ≡ b
  formats_one Sha1 Sha1 e = refl
  formats_one Sha256 Sha256 e = refl
  formats_one _ _ e = let h = ap length e in absurd (omega (arith, h))

  module _ (format : Format) where
    pub spaced_one : (xs ys : List (List ℕ)) → All (IsIdOf format) xs → All (IsIdOf format) ys → ids_text xs ≡ ids_text ys → xs ≡ ys
    spaced_one [] [] vx vy e = refl
    spaced_one [] (y ∷ ys) vx vy e = (let h = e in cc)
    spaced_one (x ∷ xs) [] vx vy e = (let h = e in cc)
    spaced_one (x ∷ xs) (y ∷ ys) vx vy e =
        let both = append_cancel_left (codes " ") (id_text x ++ ids_text xs) (id_text y ++ ids_text ys) e in
        let fronts = one_front laws format x y (ids_text xs) (ids_text ys) (All-head (IsIdOf format) x xs vx) (All-head (IsIdOf format) y ys vy) both in
        let rests = spaced_one xs ys (All-tail (IsIdOf format) x xs vx) (All-tail (IsIdOf format) y ys vy) fronts.1 in
        ap (λ (z : List ℕ). z ∷ xs) fronts.0 ∙ ap (λ (zs : List (List ℕ)). y ∷ zs) rests

    ids_of_line : {A : Type 0} → (entry : Entry A) → HasIdsOf format entry → All (IsIdOf format) (ids_of entry)
    ids_of_line entry valid = All-cons (IsIdOf format) entry.id entry.node.parents valid.id valid.parents

    pub one_entry : {A : Type 0} → (a b : Entry A) → HasIdsOf format a → HasIdsOf format b → node_text a ≡ node_text b → a ≡ b
    one_entry a b va vb e =
        let parts = letters_one a.node.kind b.node.kind (ids_text (ids_of a)) (ids_text (ids_of b)) e in
        let lists = spaced_one (ids_of a) (ids_of b) (ids_of_line a va) (ids_of_line b vb) parts.1 in
        let ids : a.id ≡ b.id = (cc) in
        let parents : a.node.parents ≡ b.node.parents = (cc) in
        ap₂ entry_of ids (ap₂ node_of parts.0 parents)

    pub one_ref : (a b : List ℕ × List ℕ) → IsIdOf format a.1 → IsIdOf format b.1 → ref_line a ≡ ref_line b → a ≡ b
    one_ref a b va vb e =
        let ends_at = append_cancel_left (codes "r ") (id_text a.1 ++ (codes " " ++ a.0)) (id_text b.1 ++ (codes " " ++ b.0)) e in
        let parts = one_front laws format a.1 b.1 (codes " " ++ a.0) (codes " " ++ b.0) va vb ends_at in
        let names = append_cancel_left (codes " ") a.0 b.0 parts.1 in
        ap (λ (n : List ℕ). (n, a.1)) names ∙ ap (λ (i : List ℕ). (b.0, i)) parts.0

    pub one_head : {A : Type 0} → (a b : Head A) → IsHead format a → IsHead format b → head_line a ≡ head_line b → a ≡ b
    one_head heads_of.None heads_of.None va vb e = refl
    one_head (heads_of.Id a) (heads_of.Id b) va vb e = ap heads_of.Id (one_id laws format a b va vb (append_cancel_left (codes "h id ") (id_text a) (id_text b) e))
    one_head (heads_of.Symref a) (heads_of.Symref b) va vb e = ap heads_of.Symref (append_cancel_left (codes "h ref ") a b e)
    one_head _ _ va vb e = let h = ap third_byte e in absurd (omega (arith, h))

  -- ---- lines that are not allowed next

  module _ {A : Type 0} (order : Order) (old : Reading A) (line : List ℕ) where
    -- the line begins with the letter of a kind, but is not the line of an entry that is allowed next
    no_node_comes : (kind : Kind) (rest : List ℕ) → line ≡ letter kind ∷ rest → ((entry : Entry A) → letter kind ∷ rest ≡ node_text entry → MayFollow order old.graph.format old.graph.entries entry → ⊥) → NeverComes order old line
    no_node_comes kind rest is never (node entry) e may = never entry (sym is ∙ e) may.1
    no_node_comes kind rest is never item e may =
        let h = sym (letter_told kind rest) ∙ ap told (sym is ∙ e) ∙ tagged item in absurd (omega (arith, h))

    -- the line begins with `r` and a space, but is not the line of a ref that is allowed next
    no_ref_comes : (rest : List ℕ) → line ≡ codes "r " ++ rest → ((it : List ℕ × List ℕ) → line ≡ ref_line it → RefMayFollow old.graph.format old.refs it → ⊥) → NeverComes order old line
    no_ref_comes rest is never (ref it) e may = never it e may.1
    no_ref_comes rest is never item e may = let h = ap told (sym is ∙ e) ∙ tagged item in absurd (omega (arith, h))

  -- ---- uniqueness of the item of a line

  pub one_item : {A : Type 0} → (order other : Order) (old : Reading A) (a b : Item A) → MayCome order old a → MayCome other old b → line_of a ≡ line_of b → a ≡ b
  one_item order other old (begins f) (begins g) may there e = ap begins (formats_one f g e)
  one_item order other old (node a) (node b) may there e = ap node (one_entry old.graph.format a b may.1.comes.ids there.1.comes.ids e)
  one_item order other old (ref a) (ref b) may there e = ap ref (one_ref old.graph.format a b may.1.id there.1.id e)
  one_item order other old (heads a) (heads b) may there e = ap heads (one_head old.graph.format a b may.1 there.1 e)
  one_item order other old ends ends may there e = refl
  one_item order other old a b may there e = let h = sym (tagged a) ∙ ap told e ∙ tagged b in absurd (omega (arith, h))

  -- ---- the result of reading the line of a node

  -- the line of a node has no id
  pub no_node_id : {A : Type 0} (order : Order) (old : Reading A) (kind : Kind) (text : List ℕ) → old.stage ≡ Nodes → BeginsWithNoSpacedId old.graph.format text → NeverComes order old (letter kind ∷ text)
  no_node_id {A} order old kind text here none = no_node_comes order old (letter kind ∷ text) kind text refl never
    where
      never : (entry : Entry A) → letter kind ∷ text ≡ node_text entry → MayFollow order old.graph.format old.graph.entries entry → ⊥
      never entry e may = none entry.id (ids_text entry.node.parents) may.comes.ids.id (letters_one kind entry.node.kind text (ids_text (ids_of entry)) e).1

  -- the ids of the parents on the line of a node are malformed
  pub no_node_parents : {A : Type 0} (order : Order) (old : Reading A) (kind : Kind) (text id after : List ℕ) → old.stage ≡ Nodes → text ≡ codes " " ++ (id_text id ++ after) → IsIdOf old.graph.format id → IsNoParents old.graph.format after → NeverComes order old (letter kind ∷ text)
  no_node_parents {A} order old kind text id after here is valid none = no_node_comes order old (letter kind ∷ text) kind text refl never
    where
      never : (entry : Entry A) → letter kind ∷ text ≡ node_text entry → MayFollow order old.graph.format old.graph.entries entry → ⊥
      never entry e may =
          let same = sym is ∙ (letters_one kind entry.node.kind text (ids_text (ids_of entry)) e).1 in
          let both = append_cancel_left (codes " ") (id_text id ++ after) (id_text entry.id ++ ids_text entry.node.parents) same in
          none entry.node.parents may.comes.ids.parents may.comes.shaped.few (one_front laws old.graph.format id entry.id after (ids_text entry.node.parents) valid may.comes.ids.id both).1

  -- the letter of a kind, an id and the ids of the parents form the line of a node
  node_line_is : (A : Type 0) (kind : Kind) (text id after : List ℕ) (parents : List (List ℕ)) → text ≡ codes " " ++ (id_text id ++ after) → after ≡ ids_text parents → letter kind ∷ text ≡ node_text (entry_of {A = A} id (node_of kind parents))
  node_line_is A kind text id after parents is are = ap (λ (t : List ℕ). letter kind ∷ t) (is ∙ ap (λ (t : List ℕ). codes " " ++ (id_text id ++ t)) are)

  module _ {A : Type 0} (order : Order) (old : Reading A) (kind : Kind) (text id after : List ℕ) (parents : List (List ℕ)) (here : old.stage ≡ Nodes) (is : text ≡ codes " " ++ (id_text id ++ after)) (are : after ≡ ids_text parents) where
    abbrev this : Entry A
    this = entry_of id (node_of kind parents)

    pub node_taken : (graph : History A) (r : Result (Unit {0}) LoadFault) → OnOk r (MayFollow order old.graph.format old.graph.entries this × (graph ≡ with_entry old.graph this)) → OnOk r (ComesNext order old (letter kind ∷ text) (record old { graph = graph }))
    node_taken graph (Ok u) (may, grown) =
        let with_graph : History A → Reading A = λ g. record old { graph = g } in
        (node this, node_line_is A kind text id after parents is are, (here, may), ap with_graph grown)
    node_taken graph (Err e) facts = tt

    refused : (other : Order) → HasIdsOf old.graph.format this → (MayFollow other old.graph.format old.graph.entries this → ⊥) → NeverComes other old (letter kind ∷ text)
    refused other valid never = no_node_comes other old (letter kind ∷ text) kind text refl (λ entry e may.
        never (subst (λ (x : Entry A). MayFollow other old.graph.format old.graph.entries x) (one_entry old.graph.format entry this may.comes.ids valid (sym e ∙ node_line_is A kind text id after parents is are)) may))

    pub node_stopped : (number : ℕ) (r : Result (Unit {0}) LoadFault) → HasIdsOf old.graph.format this → IfErr r (RefusesEntry order old.graph this number) → IfErr r (RefusesLine order old (letter kind ∷ text) number)
    node_stopped number (Ok u) valid facts = tt
    node_stopped number (Err faults.Memory) valid facts = (node this, node_line_is A kind text id after parents is are, (here, facts), tt)
    node_stopped number (Err (faults.Text at)) valid facts = (facts.0, refused Any valid facts.1)
    node_stopped number (Err (faults.ParentLater at)) valid facts = (facts.0, facts.1, refused ParentsFirst valid facts.3, node this, node_line_is A kind text id after parents is are, (here, facts.2))

  -- ---- the result of reading the line of a ref

  -- the line of a ref has no id, or no space after the id
  pub no_ref_parts : {A : Type 0} (order : Order) (old : Reading A) (line text : List ℕ) → RefMayCome old.stage → line ≡ codes "r " ++ text → BeginsWithNoRefId old.graph.format text → NeverComes order old line
  no_ref_parts order old line text due is none = no_ref_comes order old line text is (λ it e may.
      none it.1 it.0 may.id (append_cancel_left (codes "r ") text (id_text it.1 ++ (codes " " ++ it.0)) (sym is ∙ e)))

  module _ {A : Type 0} (order : Order) (old : Reading A) (line text : List ℕ) (it : List ℕ × List ℕ) (due : RefMayCome old.stage) (is : line ≡ codes "r " ++ text) (are : text ≡ id_text it.1 ++ (codes " " ++ it.0)) where
    ref_line_is : line ≡ ref_line it
    ref_line_is = is ∙ ap (λ (t : List ℕ). codes "r " ++ t) are

    pub ref_taken : (refs : List (List ℕ × List ℕ)) (r : Result (Unit {0}) LoadFault) → OnOk r (RefMayFollow old.graph.format old.refs it × (refs ≡ old.refs ++ it ∷ [])) → OnOk r (ComesNext order old line (record old { stage = Refs; refs = refs }))
    ref_taken refs (Ok u) (may, grown) =
        let with_refs : List (List ℕ × List ℕ) → Reading A = λ rs. record old { stage = Refs; refs = rs } in
        (ref it, ref_line_is, (due, may), ap with_refs grown)
    ref_taken refs (Err e) facts = tt

    pub ref_stopped : (number : ℕ) (r : Result (Unit {0}) LoadFault) → IsIdOf old.graph.format it.1 → IfErr r (RefusesRef old.graph.format old.refs it number) → IfErr r (RefusesLine order old line number)
    ref_stopped number (Ok u) valid facts = tt
    ref_stopped number (Err faults.Memory) valid facts = (ref it, ref_line_is, (due, facts), tt)
    ref_stopped number (Err (faults.Text at)) valid facts = (
      facts.0,
      no_ref_comes Any old line text is (λ other e may.
          facts.1 (subst (λ (x : List ℕ × List ℕ). RefMayFollow old.graph.format old.refs x) (one_ref old.graph.format other it may.id valid (sym e ∙ ref_line_is)) may)),
    )
    ref_stopped number (Err (faults.ParentLater at)) valid facts = absurd facts
