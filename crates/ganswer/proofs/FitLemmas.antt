-- Well-formed answers: the ids of a server have the object format of its graph, and an answer has room for its lines.
use Rattle.std.proofs.Common.{◌≡◌, ℕ, ◌+◌, ◌≤◌, Bool, true, false, cond, ◌&&◌, List, [], ◌∷◌, ◌++◌, length, map, All}
use Rattle.std.proofs.Common.{Contains, Option, Some, None, IsSome, refl, sym, ap, ap₂, ◌∙◌, subst, arith}
use Rattle.std.proofs.Common.{slice_index_or}
use Rattle.std.specs.Prelude.{filter, find, is_none, if◌then◌else◌, is_some, bytes_eq}
use Rattle.std.specs.Map.{values_of}
use Rattle.std.specs.Option.{IfSome, option_map, option_map_or}
use Rattle.std.proofs.lemmas.Bool.{lt-ltb, eq-eqb, le-leb}
use Rattle.std.proofs.lemmas.List.{length-append, length-map}
use Rattle.std.proofs.lemmas.List.Sums.{length-filter, count_by-le-length}
use Rattle.std.proofs.lemmas.List.Elements.{All-append, All-cons, All-contains, All-contains_itself, All-filter}
use Rattle.std.proofs.lemmas.List.Elements.{All-head, All-nil, All-tail, All-weaker, Contains-append_left}
use Rattle.std.proofs.lemmas.List.Elements.{Contains-append_right, filter_passes}
use Rattle.std.proofs.lemmas.Option.{none-some, same_Some}
use Rattle.gname.specs.Laws.{IdsHaveOneFormat}
use Rattle.gname.specs.Names.{head_name, IsRefName}
use Rattle.gname.specs.declared.formats.Format.{Format}
use Rattle.gname.specs.Ids.{IsIdOf}
use Rattle.gname.specs.Formats.{id_length}
use Rattle.gobject.specs.declared.node.Node.{Node}
use Rattle.gobject.specs.declared.node.Entry.{Entry}
use Rattle.gobject.specs.Objects.{node_at}
use Rattle.gobject.specs.Packs.{Packs}
use Rattle.gdag.specs.Graphs.{Holds, IsGraph, History}
use Rattle.gdag.specs.Laws.{PositionsAreNodes}
use Rattle.gdag.specs.Peeling.{PeelsTo}
use Rattle.gdag.specs.Levels.{new_ids}
use Rattle.gdag.specs.Walks.{common_of}
use Rattle.grefs.specs.RefLists.{RefList, has_name, ref_at, IsBelowRefs}
use Rattle.grefs.specs.declared.head.Head.{Head}
use Rattle.grefs.specs.declared.head.Head.TheVariants as heads
use Rattle.grequest.specs.Asked.{LsRefsAsked, ls_has, max_haves, FetchAsked}
use Rattle.grequest.specs.declared.flag.LsRefsFlag.TheVariants.{Peel, Unborn, Symrefs}
use Rattle.glsreply.specs.WellFormed.{first_has_format_of, has_format_of, has_one_format, has_room, is_format}
use Rattle.glsreply.specs.WellFormed.{line_count, IsRefLine}
use Rattle.glsreply.specs.LsReplies.{LsReply, max_lines, unborn_packets}
use Rattle.glsreply.specs.RefTexts.{RefLine}
use Rattle.ganswer.specs.LsAnswers.{HasAttributes, IsPeeledIf, ShowsLines, all_refs, head_id, head_ref, is_asked}
use Rattle.ganswer.specs.LsAnswers.{is_shown, missing_target, name_and_id, target_of}
use Rattle.grefs.specs.Heads.{PointsBelowRefs}
use Rattle.ganswer.specs.Servers.{Server, HoldsHead, HoldsRefs, IsServer}
use Rattle.ganswer.specs.steps.Answers.{IsNextRef}
use Rattle.ganswer.specs.FetchAnswers.{commons_of}
use Rattle.ganswer.specs.Laws.{FetchAnswersFit, LsAnswersFit}
use Rattle.gdag.proofs.IdLists.{contains_head, either_way}
use Rattle.gdag.proofs.Positions.{held_id}
use Rattle.glsreply.proofs.ValueLemmas.{is_format-same}
use Rattle.std.specs.List.{list_all}
use Rattle.ggrammar.specs.declared.fault.Why.TheVariants.{BadText, Limit}
use Rattle.ggrammar.specs.declared.limits.Limits.{Limits}
use Rattle.gfetchreply.specs.FetchReplies.{max_acks, Acks, Ready, Pack, Reading}
use Rattle.gfetchreply.specs.Values.{acks_fault}
use Rattle.gname.specs.Ids.{has_format}
use Rattle.gfetchreply.specs.WellFormed.{AreAcks}

pub unmap : {X Y : Type 0} (P : Y → Type 0) (f : X → Y) (xs : List X) → All P (map f xs) → All (λ x. P (f x)) xs
unmap P f [] all = All-nil (λ x. P (f x))
unmap P f (x ∷ xs) all = All-cons (λ x. P (f x)) x xs (All-head P (f x) (map f xs) all) (unmap P f xs (All-tail P (f x) (map f xs) all))

pub filter_short : {X : Type 0} (p : X → Bool) (xs : List X) → length (filter p xs) ≤ length xs
filter_short p xs = rw length-filter (count_by-le-length p xs)

-- ---- object formats of lines

module _ (law : IdsHaveOneFormat) (format : Format) where
  goes_with : (line : RefLine) (id : List ℕ) → IsIdOf format line.id → IsIdOf format id → has_format_of line id ≡ true
  goes_with line id a b = ap₂ is_format (law format id b).1 (law format line.id a).1 ∙ is_format-same format

  goes_with_peeled : (line : RefLine) (peeled : Option (List ℕ)) → IsIdOf format line.id → IfSome peeled (IsIdOf format) → option_map_or (has_format_of line) peeled true ≡ true
  goes_with_peeled line None a b = refl
  goes_with_peeled line (Some id) a b = goes_with line id a b

  goes_with_first : (line : RefLine) (lines : List RefLine) → IsIdOf format line.id → All (λ l. IsIdOf format l.id) lines → first_has_format_of line lines ≡ true
  goes_with_first line [] a all = refl
  goes_with_first line (first ∷ lines) a all = goes_with line first.id a (All-head (λ (l : RefLine). IsIdOf format l.id) first lines all)

  one_format : (lines : List RefLine) (line : RefLine) → IsIdOf format line.id → IfSome line.peeled (IsIdOf format) → All (λ l. IsIdOf format l.id) lines → has_one_format lines line ≡ true
  one_format lines line a b all = ap₂ (λ (u v : Bool). u && v) (goes_with_first line lines a all) (goes_with_peeled line line.peeled a b)

-- ---- the number of lines

head_short : (o : Option (List ℕ)) → length (head_ref o) ≤ 1
head_short None = omega arith
head_short (Some id) = omega arith

target_or_ref : (o : Option (List ℕ)) (target : List ℕ) → length (unborn_packets (if is_none o then Some target else None)) + length (head_ref o) ≤ 1
target_or_ref None target = omega arith
target_or_ref (Some id) target = omega arith

ref_held : (P : List ℕ → Type 0) (refs : RefList) (name id : List ℕ) → ref_at refs name ≡ Some id → All P (values_of refs) → P id
ref_held P [] name id at all = absurd (none-some id at)
ref_held P (ref ∷ refs) name id at all =
    let by : Bool → Option (List ℕ) = λ v. option_map (λ (r : List ℕ × List ℕ). r.1) (cond v (Some ref) (find (has_name name) refs)) in
    either_way (has_name name ref)
    (λ e. subst P (same_Some ref.1 id (sym (ap by e) ∙ at)) (All-head P ref.1 (values_of refs) all))
    (λ e. ref_held P refs name id (sym (ap by e) ∙ at) (All-tail P ref.1 (values_of refs) all))

module _ {A : Type 0} where
  peeled_held : (g : List (Entry A)) (id commit : List ℕ) → PeelsTo g id commit → Holds g commit
  peeled_held g id commit (m, tags, is) = subst (λ (o : Option (Node A)). IsSome o) (sym is.held) refl

  -- ---- refs with ids that the graph holds

  symref_held : (g : List (Entry A)) (o : Option (List ℕ)) → ((id : List ℕ) → o ≡ Some id → Holds g id) → All (λ ref. Holds g ref.1) (head_ref o)
  symref_held g None held = All-nil (λ ref. Holds g ref.1)
  symref_held g (Some id) held = All-cons (λ ref. Holds g ref.1) _ [] (held id refl) (All-nil (λ ref. Holds g ref.1))

  head_held : (g : List (Entry A)) (refs : RefList) (head : Head A) → HoldsHead g head → HoldsRefs g refs → All (λ ref. Holds g ref.1) (head_ref (head_id head refs))
  head_held g refs heads.None held all = All-nil (λ ref. Holds g ref.1)
  head_held g refs (heads.Id id) held all = All-cons (λ ref. Holds g ref.1) _ [] held (All-nil (λ ref. Holds g ref.1))
  head_held g refs (heads.Symref target) held all = symref_held g (ref_at refs target) (λ id at. ref_held (Holds g) refs target id at all)

  pub all_held : (server : Server A) → IsServer server → All (λ ref. Holds server.graph.entries ref.1) (all_refs server)
  all_held server is =
      let g = server.graph.entries in
      All-append (λ ref. Holds g ref.1) (head_ref (head_id server.head server.refs)) server.refs
      (head_held g server.refs server.head is.head is.held) (unmap (Holds g) (λ (ref : List ℕ × List ℕ). ref.1) server.refs is.held)

  pub lines_held : (server : Server A) (asked : LsRefsAsked) (refs : RefList) (lines : List RefLine) → ShowsLines server asked refs lines
      → All (λ ref. Holds server.graph.entries ref.1) refs → All (λ line. Holds server.graph.entries line.id) lines
  lines_held server asked refs lines shows held =
      let P : List ℕ × List ℕ → Type 0 = λ ref. Holds server.graph.entries ref.1 in
      unmap P name_and_id lines (subst (All P) (sym shows.shown) (All-filter (is_shown asked.prefixes) P refs held))

  pub peeled_format : PositionsAreNodes A → (g : History A) → IsGraph g → (is_asked : Bool) (id : List ℕ) (peeled : Option (List ℕ)) → IsPeeledIf is_asked g.entries id peeled → IfSome peeled (IsIdOf g.format)
  peeled_format law g graph is_asked id None is = tt
  peeled_format law g graph false id (Some commit) is = absurd (none-some commit (sym is))
  peeled_format law g graph true id (Some commit) is = held_id law g graph commit (peeled_held g.entries id commit is.peels)

  -- a reply lists HEAD at most once: as an unborn HEAD or as a ref
  pub unborn_or_shown : (is_asked : Bool) (head : Head A) (refs : RefList) → length (unborn_packets (if is_asked then missing_target head refs else None)) + length (head_ref (head_id head refs)) ≤ 1
  unborn_or_shown false head refs = let short = head_short (head_id head refs) in omega (arith, short)
  unborn_or_shown true (heads.Symref target) refs = target_or_ref (ref_at refs target) target
  unborn_or_shown true head refs = omega arith

  module _ (places : PositionsAreNodes A) (ids : IdsHaveOneFormat) (server : Server A) (is : IsServer server) (asked : LsRefsAsked)
      (ref : List ℕ × List ℕ) (reply : LsReply) (next : IsNextRef server asked ref reply)
    where
      abbrev IsHeld : List ℕ × List ℕ → Type 0
      IsHeld r = Holds server.graph.entries r.1

      parts_held : All IsHeld (next.front ++ ref ∷ next.back)
      parts_held = subst (All IsHeld) next.parts (all_held server is)

      front_held : All IsHeld next.front
      front_held =
          All-weaker (Contains next.front) IsHeld
          (λ r here. All-contains IsHeld (next.front ++ ref ∷ next.back) r parts_held
          (Contains-append_left next.front (ref ∷ next.back) r here))
          next.front (All-contains_itself next.front)

      ref_is_held : Holds server.graph.entries ref.1
      ref_is_held =
          All-contains IsHeld (next.front ++ ref ∷ next.back) ref parts_held
          (Contains-append_right next.front (ref ∷ next.back) ref (contains_head ref next.back))

      formats : All (λ l. IsIdOf server.graph.format l.id) reply.lines
      formats =
          All-weaker (λ (l : RefLine). Holds server.graph.entries l.id) (λ l. IsIdOf server.graph.format l.id)
          (λ l held. held_id places server.graph is.graph l.id held) reply.lines
          (lines_held server asked next.front reply.lines next.so_far.lines front_held)

      -- the line of the next ref has the object format of the lines before it
      pub goes : (line : RefLine) → ShowsLines server asked (ref ∷ []) (line ∷ []) → has_one_format reply.lines line ≡ true
      goes line shows =
          let P : RefLine → Type 0 = λ l. Holds server.graph.entries l.id in
          let here = lines_held server asked (ref ∷ []) (line ∷ []) shows (All-cons IsHeld ref [] ref_is_held (All-nil IsHeld)) in
          let id = held_id places server.graph is.graph line.id (All-head P line [] here) in
          let has : HasAttributes server asked line = All-head (HasAttributes server asked) line [] shows.attributes in
          one_format ids server.graph.format reply.lines line id (peeled_format places server.graph is.graph (ls_has asked Peel) line.id line.peeled has.peeled) formats

      -- the reply has room for the line of the next ref
      pub room : has_room reply ≡ true
      room =
          let shown : length reply.lines ≡ length (filter (is_shown asked.prefixes) next.front) = sym (length-map reply.lines name_and_id) ∙ ap length next.so_far.lines.shown in
          let few = filter_short (is_shown asked.prefixes) next.front in
          let sum = length-append next.front (ref ∷ next.back) in
          let all = ap length next.parts in
          let both = length-append (head_ref (head_id server.head server.refs)) server.refs in
          let one = unborn_or_shown (ls_has asked Unborn && is_asked asked.prefixes head_name) server.head server.refs in
          let unborn = ap (λ (o : Option (List ℕ)). length (unborn_packets o)) next.so_far.unborn in
          let refs = is.refs.few in
          lt-ltb (line_count reply) max_lines (omega (arith, shown, few, sum, all, both, one, unborn, refs))

-- ---- the object format and the number of the common ids

new_short : (earlier ids : List (List ℕ)) → length (new_ids earlier ids) ≤ length ids
new_short earlier [] = omega arith
new_short earlier (a ∷ ids) = grind (arith, new_short earlier ids, new_short (earlier ++ a ∷ []) ids)

no_fault : (limits : Limits) (format : Format) (ids : List (List ℕ)) → list_all (has_format format) ids ≡ true → length ids ≤ max_acks limits → acks_fault limits format ids ≡ None
no_fault limits format ids all few =
    ap₂ (λ (u v : Bool). if u then (if v then None else Some Limit) else Some BadText) all (le-leb (length ids) (max_acks limits) few)

module _ {A : Type 0} where
  pub commons_short : (g : List (Entry A)) (haves : List (List ℕ)) → length (common_of g haves) ≤ length haves
  commons_short g haves =
      let some = filter_short (λ a. is_some (node_at g a)) (new_ids [] haves) in
      let new = new_short [] haves in
      omega (arith, some, new)

  -- ids that the graph holds have the object format of the graph
  held_have_format : PositionsAreNodes A → (g : History A) → IsGraph g → (ids : List (List ℕ)) → list_all (has_format g.format) (filter (λ a. is_some (node_at g.entries a)) ids) ≡ true
  held_have_format law g graph [] = refl
  held_have_format law g graph (a ∷ ids) =
      let rest = filter (λ (b : List ℕ). is_some (node_at g.entries b)) ids in
      let more = held_have_format law g graph ids in
      let by : Bool → Bool = λ v. list_all (has_format g.format) (cond v (a ∷ rest) rest) in
      either_way (is_some (node_at g.entries a))
      (λ e. ap by e ∙ ap₂ (λ (u v : Bool). u && v) (eq-eqb (length a) (id_length g.format) (held_id law g graph a e).long) more)
      (λ e. ap by e ∙ more)

  pub commons_fit : PositionsAreNodes A → (limits : Limits) (g : History A) → IsGraph g → (haves : List (List ℕ)) → length haves ≤ max_haves limits → acks_fault limits g.format (common_of g.entries haves) ≡ None
  commons_fit law limits g graph haves few =
      let short = commons_short g.entries haves in
      no_fault limits g.format (common_of g.entries haves) (held_have_format law g graph (new_ids [] haves)) (omega (arith, short, few))

-- ---- names

named_head : IsRefName head_name → (o : Option (List ℕ)) → All (λ ref. IsRefName ref.0) (head_ref o)
named_head law None = All-nil (λ (ref : List ℕ × List ℕ). IsRefName ref.0)
named_head law (Some id) = All-cons (λ (ref : List ℕ × List ℕ). IsRefName ref.0) (head_name, id) [] law (All-nil (λ (ref : List ℕ × List ℕ). IsRefName ref.0))

missing_named : (o : Option (List ℕ)) (target : List ℕ) → IsRefName target → IfSome (if is_none o then Some target else None) IsRefName
missing_named None target name = name
missing_named (Some id) target name = tt

module _ {A : Type 0} where
  all_named : IsRefName head_name → (server : Server A) → IsServer server → All (λ ref. IsRefName ref.0) (all_refs server)
  all_named law server is =
      let N : List ℕ × List ℕ → Type 0 = λ ref. IsRefName ref.0 in
      let B : List ℕ × List ℕ → Type 0 = λ ref. IsBelowRefs ref.0 in
      All-append N (head_ref (head_id server.head server.refs)) server.refs (named_head law (head_id server.head server.refs))
      (All-weaker B N (λ ref below. below.well_formed) server.refs is.refs.names)

  lines_named : (server : Server A) (asked : LsRefsAsked) (refs : RefList) (lines : List RefLine) → ShowsLines server asked refs lines
      → All (λ ref. IsRefName ref.0) refs → All (λ line. IsRefName line.name) lines
  lines_named server asked refs lines shows named =
      let N : List ℕ × List ℕ → Type 0 = λ ref. IsRefName ref.0 in
      unmap N name_and_id lines (subst (All N) (sym shows.shown) (All-filter (is_shown asked.prefixes) N refs named))

  symref_named : (head : Head A) → PointsBelowRefs head → (shown : Bool) → IfSome (if shown then target_of head else None) IsRefName
  symref_named head below false = tt
  symref_named (heads.Symref target) below true = below.well_formed
  symref_named head below true = tt

  unborn_named : (head : Head A) (refs : RefList) → PointsBelowRefs head → (shown : Bool) → IfSome (if shown then missing_target head refs else None) IsRefName
  unborn_named head refs below false = tt
  unborn_named (heads.Symref target) refs below true = missing_named (ref_at refs target) target below.well_formed
  unborn_named head refs below true = tt

  -- ---- ls-refs replies

  module _ (places : PositionsAreNodes A) (server : Server A) (is : IsServer server) (asked : LsRefsAsked) where
    fit_line : (line : RefLine) → Holds server.graph.entries line.id → IsRefName line.name → HasAttributes server asked line → IsRefLine server.graph.format line
    fit_line line held name has = record {
      id = held_id places server.graph is.graph line.id held;
      name = name;
      symref = subst (λ (o : Option (List ℕ)). IfSome o IsRefName) (sym has.symref) (symref_named server.head is.target (ls_has asked Symrefs && bytes_eq line.name head_name));
      peeled = peeled_format places server.graph is.graph (ls_has asked Peel) line.id line.peeled has.peeled;
    }

    fit_lines : (lines : List RefLine) → All (λ line. Holds server.graph.entries line.id) lines → All (λ line. IsRefName line.name) lines → All (HasAttributes server asked) lines
        → All (IsRefLine server.graph.format) lines
    fit_lines lines held named has = λ k d inside.
        fit_line (slice_index_or lines k d) (held k d inside) (named k d inside) (has k d inside)

  pub ls_answers_fit : PositionsAreNodes A → IsRefName head_name → LsAnswersFit A
  ls_answers_fit places law server asked reply is answers = record {
    unborn = subst (λ (o : Option (List ℕ)). IfSome o IsRefName) (sym answers.unborn) (unborn_named server.head server.refs is.target (ls_has asked Unborn && is_asked asked.prefixes head_name));
    lines = fit_lines places server is asked reply.lines (lines_held server asked (all_refs server) reply.lines answers.lines (all_held server is))
        (lines_named server asked (all_refs server) reply.lines answers.lines (all_named law server is)) answers.lines.attributes;
    few =
        let shown : length reply.lines ≡ length (filter (is_shown asked.prefixes) (all_refs server)) = sym (length-map reply.lines name_and_id) ∙ ap length answers.lines.shown in
        let short = filter_short (is_shown asked.prefixes) (all_refs server) in
        let both = length-append (head_ref (head_id server.head server.refs)) server.refs in
        let one = unborn_or_shown (ls_has asked Unborn && is_asked asked.prefixes head_name) server.head server.refs in
        let unborn = ap (λ (o : Option (List ℕ)). length (unborn_packets o)) answers.unborn in
        let refs = is.refs.few in
        omega (arith, shown, short, both, one, unborn, refs);
  }

  -- ---- fetch replies

  acks_here : PositionsAreNodes A → (server : Server A) → IsServer server → (asked : FetchAsked) (reading : Reading) → length asked.haves ≤ max_acks reading.limits → reading.format ≡ server.graph.format
      → (ids : List (List ℕ)) → ids ≡ commons_of server asked → AreAcks reading.limits reading.format ids
  acks_here places server is asked reading few format ids are =
      subst (λ (f : Format). AreAcks reading.limits f ids) (sym format) (subst (AreAcks reading.limits server.graph.format) (sym are) (record {
        ids = All-weaker (Holds server.graph.entries) (IsIdOf server.graph.format) (held_id places server.graph is.graph) (commons_of server asked)
            (filter_passes (λ (a : List ℕ). is_some (node_at server.graph.entries a)) (new_ids [] asked.haves));
        few = (let short = commons_short server.graph.entries asked.haves in omega (arith, short, few));
      }))

  pub fetch_answers_fit : PositionsAreNodes A → (packs : Packs A) → FetchAnswersFit A packs
  fetch_answers_fit places packs server asked (Acks ids) reading is few answers format direct short =
      (direct ∙ answers.replies.0, acks_here places server is asked reading few format ids answers.replies.1)
  fetch_answers_fit places packs server asked (Ready ids pack) reading is few answers format direct short = (
    direct ∙ answers.replies.0,
    acks_here places server is asked reading few format ids answers.replies.1,
    short,
  )
  fetch_answers_fit places packs server asked (Pack pack) reading is few answers format direct short =
      (direct ∙ answers.replies.0, short)
