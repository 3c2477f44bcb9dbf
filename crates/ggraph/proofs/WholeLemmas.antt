-- The lines of a complete text are the lines of a valid repository.
use Rattle.std.proofs.Common.{◌≡◌, inl, inr, ℕ, List, [], ◌∷◌, ◌++◌, map, refl, sym, ◌∙◌, ap, subst}
use Rattle.std.proofs.lemmas.List.{append_assoc, append-nil, map_push}
use Rattle.gname.specs.declared.formats.Format.{Format}
use Rattle.gname.specs.declared.formats.Format.TheVariants.{Sha1}
use Rattle.gobject.specs.PlainPackText.{node_text, text_of}
use Rattle.gdag.specs.Graphs.{History}
use Rattle.grefs.specs.RefLists.{RefList}
use Rattle.grefs.specs.declared.head.Head.{Head}
use Rattle.grefs.specs.declared.head.Head.TheVariants.{None}
use Rattle.ggraph.specs.RepositoryText.{EachFollows, IsHead, IsLoadable, MayFollow, RefMayFollow, first_line, head_line, last_line, lines_of, ref_line, repository_text}
use Rattle.ggraph.specs.Loading.{BeginsText}
use Rattle.ggraph.specs.declared.text.Order.{Order}
use Rattle.ggraph.specs.declared.text.reading.Reading.{Reading}
use Rattle.ggraph.specs.declared.text.reading.TextStage.{TextStage}
use Rattle.ggraph.specs.declared.text.reading.TextStage.TheVariants.{First, Nodes, Refs, Last, Done}
use Rattle.ggraph.specs.steps.Reading.{Item, MayCome, RefMayCome, after, begins, ends, heads, line_of, node}
use Rattle.ggraph.specs.steps.Reading.{nothing_read, ref}
use Rattle.ggraph.proofs.LoadLemmas.{HasRead, ReadsTo, items_text}

-- ---- elements and the elements before them

each_none : {X : Type 0} (P : List X → X → Type 0) → EachFollows P []
each_none P [] x back e = cc
each_none P (y ∷ ys) x back e = cc

pub each_push : {X : Type 0} (P : List X → X → Type 0) (xs : List X) (last : X) → EachFollows P xs → P xs last → EachFollows P (xs ++ last ∷ [])
each_push {X} P [] last each this [] x back e = let same : last ≡ x = (cc) in subst (λ (z : X). P [] z) same this
each_push {X} P [] last each this (y ∷ []) x back e = cc
each_push {X} P [] last each this (y ∷ (z ∷ ys)) x back e = cc
each_push {X} P (first ∷ xs) last each this [] x back e = let same : first ≡ x = (cc) in subst (λ (z : X). P [] z) same (each [] first xs refl)
each_push {X} P (first ∷ xs) last each this (y ∷ ys) x back e =
    let same : first ≡ y = (cc) in
    let rest : xs ++ last ∷ [] ≡ ys ++ x ∷ back = (cc) in
    let later = each_push (λ front z. P (first ∷ front) z) xs last (λ front z rest h. each (first ∷ front) z rest (ap (λ (zs : List X). first ∷ zs) h)) this ys x back rest in
    subst (λ (z : X). P (z ∷ ys) x) same later

-- ---- the lines that were read

-- the first line, the lines of nodes and refs, and the lines `more`
abbrev begun : {A : Type 0} → Reading A → List (List ℕ) → List (List ℕ)
begun r more = first_line r.graph.format ∷ (map node_text r.graph.entries ++ (map ref_line r.refs ++ more))

abbrev ShapeAt : {A : Type 0} → TextStage → Reading A → List (List ℕ) → Type 0
ShapeAt First r lines = (lines ≡ []) × (r ≡ nothing_read)
ShapeAt Nodes r lines = (lines ≡ first_line r.graph.format ∷ map node_text r.graph.entries) × (r.refs ≡ [])
ShapeAt Refs r lines = lines ≡ first_line r.graph.format ∷ (map node_text r.graph.entries ++ map ref_line r.refs)
ShapeAt Last r lines = lines ≡ begun r (head_line r.head ∷ [])
ShapeAt Done r lines = lines ≡ lines_of r.graph r.refs r.head

record IsFine {A : Type 0} (order : Order) (r : Reading A) (lines : List (List ℕ)) : Type 0 where
  shape : ShapeAt r.stage r lines
  valid : IsLoadable order r.graph r.refs r.head

module _ {A : Type 0} (order : Order) (r : Reading A) (lines : List (List ℕ)) where
  -- the lines that were read, at either stage at which the line of a ref is allowed
  so_far : RefMayCome r.stage → ShapeAt r.stage r lines → lines ≡ first_line r.graph.format ∷ (map node_text r.graph.entries ++ map ref_line r.refs)
  so_far (inl here) shape =
      let at_nodes = subst (λ (s : TextStage). ShapeAt s r lines) here shape in
      at_nodes.0
      ∙ ap (λ (ls : List (List ℕ)). first_line r.graph.format ∷ ls) (sym (append-nil (map node_text r.graph.entries)) ∙ ap (λ (rs : RefList). map node_text r.graph.entries ++ map ref_line rs) (sym at_nodes.1))
  so_far (inr here) shape = subst (λ (s : TextStage). ShapeAt s r lines) here shape

  line_after : (line : List ℕ) → RefMayCome r.stage → ShapeAt r.stage r lines → lines ++ line ∷ [] ≡ begun r (line ∷ [])
  line_after line due shape =
      ap (λ (ls : List (List ℕ)). ls ++ line ∷ []) (so_far due shape)
      ∙ ap (λ (ls : List (List ℕ)). first_line r.graph.format ∷ ls) (append_assoc (map node_text r.graph.entries) (map ref_line r.refs) (line ∷ []))

  shape_step : (item : Item A) → MayCome order r item → ShapeAt r.stage r lines → ShapeAt (after r item).stage (after r item) (lines ++ line_of item ∷ [])
  shape_step (begins format) may shape =
      let at_first = subst (λ (s : TextStage). ShapeAt s r lines) may shape in (
        ap (λ (ls : List (List ℕ)). ls ++ first_line format ∷ []) at_first.0,
        ap (λ (x : Reading A). x.refs) at_first.1,
      )
  shape_step (node entry) may shape =
      let at_nodes = subst (λ (s : TextStage). ShapeAt s r lines) may.0 shape in
      subst (λ (s : TextStage). ShapeAt s (after r (node entry)) (lines ++ node_text entry ∷ [])) (sym may.0) (
        ap (λ (ls : List (List ℕ)). ls ++ node_text entry ∷ []) at_nodes.0 ∙ ap (λ (ls : List (List ℕ)). first_line r.graph.format ∷ ls) (sym (map_push node_text r.graph.entries entry)),
        at_nodes.1,
      )
  shape_step (ref it) may shape =
      line_after (ref_line it) may.0 shape
      ∙ ap (λ (ls : List (List ℕ)). first_line r.graph.format ∷ (map node_text r.graph.entries ++ ls)) (sym (map_push ref_line r.refs it))
  shape_step (heads head) may shape = line_after (head_line head) may.0 shape
  shape_step ends may shape =
      let at_last = subst (λ (s : TextStage). ShapeAt s r lines) may shape in
      ap (λ (ls : List (List ℕ)). ls ++ last_line ∷ []) at_last
      ∙ ap (λ (ls : List (List ℕ)). first_line r.graph.format ∷ ls) (append_assoc (map node_text r.graph.entries) (map ref_line r.refs ++ head_line r.head ∷ []) (last_line ∷ []))
      ∙ ap (λ (ls : List (List ℕ)). first_line r.graph.format ∷ (map node_text r.graph.entries ++ ls)) (append_assoc (map ref_line r.refs) (head_line r.head ∷ []) (last_line ∷ []))

  -- before the first line is read, the contents are valid in each format
  fine_in : (format : Format) → r ≡ nothing_read → IsLoadable order (record { format = format; entries = [] }) r.refs r.head
  fine_in format none = record {
    nodes = each_none (MayFollow order format);
    refs_follow = subst (λ (x : Reading A). EachFollows (RefMayFollow format) x.refs) (sym none) (each_none (RefMayFollow format));
    stands = subst (λ (x : Reading A). IsHead format x.head) (sym none) tt;
  }

  valid_step : (item : Item A) → MayCome order r item → ShapeAt r.stage r lines → IsLoadable order r.graph r.refs r.head → IsLoadable order (after r item).graph (after r item).refs (after r item).head
  valid_step (begins format) may shape valid = fine_in format (subst (λ (s : TextStage). ShapeAt s r lines) may shape).1
  valid_step (node entry) may shape valid = record { nodes = each_push (MayFollow order r.graph.format) r.graph.entries entry valid.nodes may.1; refs_follow = valid.refs_follow; stands = valid.stands }
  valid_step (ref it) may shape valid = record { nodes = valid.nodes; refs_follow = each_push (RefMayFollow r.graph.format) r.refs it valid.refs_follow may.1; stands = valid.stands }
  valid_step (heads head) may shape valid = record { nodes = valid.nodes; refs_follow = valid.refs_follow; stands = may.1 }
  valid_step ends may shape valid = valid

reads_fine : {A : Type 0} (order : Order) (old new : Reading A) (items : List (Item A)) (lines : List (List ℕ)) → IsFine order old lines → ReadsTo order old items new → IsFine order new (lines ++ map line_of items)
reads_fine {A} order old new [] lines fine reads = subst (λ (r : Reading A). IsFine order r (lines ++ [])) (sym reads) (subst (λ (ls : List (List ℕ)). IsFine order old ls) (sym (append-nil lines)) fine)
reads_fine {A} order old new (item ∷ items) lines fine reads =
    let step : IsFine order (after old item) (lines ++ line_of item ∷ []) = record {
      shape = shape_step order old lines item reads.0 fine.shape;
      valid = valid_step order old lines item reads.0 fine.shape fine.valid;
    } in
    subst (λ (ls : List (List ℕ)). IsFine order new ls) (append_assoc lines (line_of item ∷ []) (map line_of items)) (reads_fine order (after old item) new items (lines ++ line_of item ∷ []) step reads.1)

begin_fine : {A : Type 0} (order : Order) → IsFine {A = A} order nothing_read []
begin_fine {A} order = record { shape = (refl, refl); valid = fine_in order nothing_read [] Sha1 refl }

-- a text that was read to its end is the text of the repository that was read
pub whole_read : {A : Type 0} (order : Order) (text : List ℕ) (items : List (Item A)) (g : History A) (refs : RefList) (head : Head A) → HasRead order text items [] (record { stage = Done; graph = g; refs = refs; head = head }) → (text ≡ repository_text g refs head) × IsLoadable order g refs head
whole_read {A} order text items g refs head all =
    let fine = reads_fine order nothing_read (record { stage = Done; graph = g; refs = refs; head = head }) items [] (begin_fine order) all.reads in
    (all.spells ∙ append-nil (items_text items) ∙ ap text_of fine.shape, fine.valid)

-- ---- texts that begin with the lines that were read

at_begin : {A : Type 0} (order : Order) (lines : List (List ℕ)) → lines ≡ [] → BeginsText A order lines
at_begin {A} order lines none =
    let first : Reading A = nothing_read in
    record {
      graph = first.graph;
      refs = [];
      head = None;
      loadable = (begin_fine {A = A} order).valid;
      more = lines_of first.graph [] first.head;
      parts = ap (λ (ls : List (List ℕ)). ls ++ lines_of first.graph [] first.head) (sym none);
    }

-- the first line and the lines of nodes and refs begin a text; the lines `h none` and `end` complete that text
at_refs : {A : Type 0} (order : Order) (r : Reading A) (lines : List (List ℕ)) → lines ≡ first_line r.graph.format ∷ (map node_text r.graph.entries ++ map ref_line r.refs) → IsLoadable order r.graph r.refs r.head → BeginsText A order lines
at_refs {A} order r lines shape valid =
    let ending = head_line {A = A} None ∷ last_line ∷ [] in
    record {
      graph = r.graph;
      refs = r.refs;
      head = None;
      loadable = record { nodes = valid.nodes; refs_follow = valid.refs_follow; stands = tt };
      more = ending;
      parts =
          ap (λ (ls : List (List ℕ)). first_line r.graph.format ∷ ls) (sym (append_assoc (map node_text r.graph.entries) (map ref_line r.refs) ending))
          ∙ ap (λ (ls : List (List ℕ)). ls ++ ending) (sym shape);
    }

at_last : {A : Type 0} (order : Order) (r : Reading A) (lines : List (List ℕ)) → lines ≡ begun r (head_line r.head ∷ []) → IsLoadable order r.graph r.refs r.head → BeginsText A order lines
at_last order r lines shape valid = record {
  graph = r.graph;
  refs = r.refs;
  head = r.head;
  loadable = valid;
  more = last_line ∷ [];
  parts =
      ap (λ (ls : List (List ℕ)). first_line r.graph.format ∷ (map node_text r.graph.entries ++ ls)) (sym (append_assoc (map ref_line r.refs) (head_line r.head ∷ []) (last_line ∷ [])))
      ∙ ap (λ (ls : List (List ℕ)). first_line r.graph.format ∷ ls) (sym (append_assoc (map node_text r.graph.entries) (map ref_line r.refs ++ head_line r.head ∷ []) (last_line ∷ [])))
      ∙ ap (λ (ls : List (List ℕ)). ls ++ last_line ∷ []) (sym shape);
}

at_stage : {A : Type 0} (order : Order) (r : Reading A) (lines : List (List ℕ)) (s : TextStage) → r.stage ≡ s → ShapeAt s r lines → IsLoadable order r.graph r.refs r.head → BeginsText A order lines
at_stage order r lines First here shape valid = at_begin order lines shape.0
at_stage order r lines Nodes here shape valid = at_refs order r lines (so_far order r lines (inl here) (subst (λ (s : TextStage). ShapeAt s r lines) (sym here) shape)) valid
at_stage order r lines Refs here shape valid = at_refs order r lines shape valid
at_stage order r lines Last here shape valid = at_last order r lines shape valid
at_stage order r lines Done here shape valid = record {
  graph = r.graph;
  refs = r.refs;
  head = r.head;
  loadable = valid;
  more = [];
  parts = sym shape ∙ sym (append-nil lines);
}

pub begins_so_far : {A : Type 0} (order : Order) (items : List (Item A)) (r : Reading A) → ReadsTo order nothing_read items r → BeginsText A order (map line_of items)
begins_so_far {A} order items r reads =
    let fine = reads_fine order nothing_read r items [] (begin_fine order) reads in
    at_stage order r (map line_of items) r.stage refl fine.shape fine.valid
