-- The invariant of a walk.
use Rattle.std.proofs.Common.{◌≡◌, inl, inr, ℕ, zero, suc, ◌+◌, ◌<◌, ◌≤◌, Bool, true, false, List, [], ◌∷◌, ◌++◌, length, get_or, set, take, Contains, Option, Some, None, refl, sym, ap, ◌∙◌, subst, arith, replicate, append-nil, append_assoc, length-append, unwrap_or}
use Rattle.std.specs.List.{slice_get, cons_option}
use Rattle.std.specs.Option.{option_map}
use Rattle.std.proofs.Math.Seq.{get_or-append_seam}
use Rattle.std.proofs.Common.{◌⊎◌, drop}
use Rattle.std.proofs.lemmas.List.{drop_at, drop_more, drop_all, length_push, get_or-set_same, get_or-set_other, length-set, length-replicate}
use Rattle.std.proofs.lemmas.Option.{none-some, same_Some}
use Rattle.std.proofs.lemmas.Bool.{false≢true, cases_eq}
use Rattle.std.proofs.lemmas.List.Elements.{All-nil, All-push, Contains-append_left, Contains-push, Contains-push_cases}
use Rattle.std.proofs.lemmas.List.Elements.{filter_map-append}
use Rattle.gobject.specs.declared.node.Node.{Node}
use Rattle.gobject.specs.declared.node.Entry.{Entry}
use Rattle.gobject.specs.Objects.{position_of}
use Rattle.gdag.specs.Graphs.{Holds}
use Rattle.gdag.specs.Levels.{is_in, new_ids, parents_of, AreLevels}
use Rattle.gwalk.specs.Offers.{IsUnderway, IsWalked}
use Rattle.gwalk.specs.Walks.{HasMet, IsLost, IsWalk, parents_in, places}
use Rattle.gdag.proofs.IdLists.{either_way, nothing_in_nil, in_or_not, in_from_contains, new_ids-old, new_ids-new, contains_from_in, with_new}
use Rattle.gdag.proofs.Growing.{take_one}
use Rattle.gdag.proofs.Reaching.{position_inside, position_same, node_at_none, held_at_position}
use Rattle.gdag.proofs.Holding.{mapped_from}
use Rattle.gwalk.proofs.Counting.{marked_none, marked_more, marked_few}
use Rattle.gwalk.proofs.LevelWalk.{with_new-nil, with_new-append, walk_begins, walk_goes, walk_ends}
use Rattle.gwalk.proofs.Positions.{parents_are}

-- an id has a position, or it has none
pub position_cases : {A : Type 0} (g : List (Entry A)) (a : List ℕ) →
    (position_of g a ≡ None) ⊎ ((p : ℕ) × (position_of g a ≡ Some p))
position_cases g a = by (position_of g a) refl
  where
    by : (o : Option ℕ) → position_of g a ≡ o → (position_of g a ≡ None) ⊎ ((p : ℕ) × (position_of g a ≡ Some p))
    by None e = inl e
    by (Some p) e = inr (p, e)

-- if none of the ids has a position, the first id has none, and the other ids have none
pub placed : {A : Type 0} (g : List (Entry A)) (b : List ℕ) (bs : List (List ℕ)) (o : Option ℕ) → position_of g b ≡ o → places g (b ∷ bs) ≡ [] → (o ≡ None) × (places g bs ≡ [])
placed g b bs None e none = (refl, sym (ap (λ o. cons_option o (places g bs)) e) ∙ none)
placed g b bs (Some p) e none = absurd (let some : p ∷ places g bs ≡ [] = sym (ap (λ o. cons_option o (places g bs)) e) ∙ none in cc)

-- ---- the start

none_marked : (n p : ℕ) → get_or (replicate n false) p false ≡ false
none_marked zero p = refl
none_marked (suc n) zero = refl
none_marked (suc n) (suc p) = none_marked n p

pub meets_nothing : {A : Type 0} (g : List (Entry A)) (n : ℕ) → n ≡ length g → HasMet g [] (replicate n false) [] None 0
meets_nothing g n long = record {
  long = length-replicate n false ∙ long;
  marked = λ a p e. (λ t. absurd (false≢true (sym (none_marked n p) ∙ t)), λ c. nothing_in_nil a c);
  met_are = refl;
  few = omega arith;
  inside = All-nil (λ p. p < length g);
  once = ap length (sym (marked_none g n));
  lost_is = λ a c. nothing_in_nil a c;
  parents_are = ap parents_in (sym (marked_none g n));
}

-- ---- one id

old_id : (ids : List (List ℕ)) (a : List ℕ) → Contains ids a → with_new ids (a ∷ []) ≡ ids
old_id ids a c = ap (λ l. ids ++ l) (new_ids-old ids a [] (in_from_contains ids a c)) ∙ append-nil ids

new_id : (ids : List (List ℕ)) (a : List ℕ) → ¬ (Contains ids a) → with_new ids (a ∷ []) ≡ ids ++ a ∷ []
new_id ids a out =
    either_way (is_in ids a)
    (λ e. absurd (out (contains_from_in ids a e)))
    (λ e. ap (λ l. ids ++ l) (new_ids-new ids a [] e))

positions_push : {A : Type 0} (g : List (Entry A)) (ids : List (List ℕ)) (a : List ℕ) (o : Option ℕ) → position_of g a ≡ o → places g (ids ++ a ∷ []) ≡ places g ids ++ cons_option o []
positions_push g ids a o e = filter_map-append (position_of g) ids (a ∷ []) ∙ ap (λ p. places g ids ++ cons_option p []) e

module _ {A : Type 0} (g : List (Entry A)) (ids : List (List ℕ)) (marks : List Bool) (met : List ℕ) (lost : Option (List ℕ)) (parents : ℕ) (old : HasMet g ids marks met lost parents) (a : List ℕ) where
  -- meeting an id that the graph does not contain
  pub meets_lost : position_of g a ≡ None → HasMet g (with_new ids (a ∷ [])) marks met (Some a) parents
  meets_lost e =
      let P : List (List ℕ) → Type 0 = λ l. HasMet g l marks met (Some a) parents in
      elim (in_or_not ids a) [
        | inl c ↦ subst P (sym (old_id ids a c)) record {
          long = old.long;
          marked = old.marked;
          met_are = old.met_are;
          once = old.once;
          few = old.few;
          inside = old.inside;
          lost_is = (c, node_at_none g a e);
          parents_are = old.parents_are;
        }
        | inr out ↦ subst P (sym (new_id ids a out)) record {
          long = old.long;
          marked = λ b p at. (
            λ t. Contains-append_left ids (a ∷ []) b ((old.marked b p at).0 t),
            λ c. elim (Contains-push_cases ids a b c) [
              | inl before ↦ (old.marked b p at).1 before
              | inr same ↦ absurd (none-some p (sym e ∙ ap (position_of g) same ∙ at))
            ],
          );
          met_are = old.met_are ∙ sym (append-nil (places g ids)) ∙ sym (positions_push g ids a None e);
          once = old.once;
          few = old.few;
          inside = old.inside;
          lost_is = (Contains-push ids a, node_at_none g a e);
          parents_are = old.parents_are;
        }
      ]

  -- meeting an id that was met before
  pub meets_again : (p : ℕ) → position_of g a ≡ Some p → get_or marks p false ≡ true → HasMet g (with_new ids (a ∷ [])) marks met lost parents
  meets_again p e t =
      let P : List (List ℕ) → Type 0 = λ l. HasMet g l marks met lost parents in
      subst P (sym (old_id ids a ((old.marked a p e).0 t))) old

  lost_more : (o : Option (List ℕ)) (p : ℕ) → position_of g a ≡ Some p → IsLost g ids o → IsLost g (ids ++ a ∷ []) o
  lost_more None p e none = λ b c.
      elim (Contains-push_cases ids a b c) [
        | inl before ↦ none b before
        | inr same ↦ subst (λ (x : List ℕ). Holds g x) same (held_at_position g a p e)
      ]
  lost_more (Some b) p e some = (Contains-append_left ids (a ∷ []) b some.0, some.1)

  -- meeting an id of the graph for the first time
  pub meets_new : (p : ℕ) (more : List (List ℕ)) → position_of g a ≡ Some p → get_or marks p false ≡ false → option_map (λ entry. entry.node.parents) (slice_get g p) ≡ Some more → HasMet g (with_new ids (a ∷ [])) (set marks p true) (met ++ p ∷ []) lost (parents + length more)
  meets_new p more e free are =
      let P : List (List ℕ) → Type 0 = λ l. HasMet g l (set marks p true) (met ++ p ∷ []) lost (parents + length more) in
      let inside : p < length marks = let h = position_inside g a p e in let l = old.long in omega arith in
      let out : ¬ (Contains ids a) = λ c. false≢true (sym free ∙ (old.marked a p e).1 c) in
      let w = mapped_from (λ (entry : Entry A). entry.node.parents) (slice_get g p) more are in
      let counted = marked_more g marks p w.0 inside free w.1 in
      let before = old.parents_are in let once = old.once in let many = ap length w.2 in
      let long = length-append met (p ∷ []) in
      subst P (sym (new_id ids a out)) record {
        long = length-set marks p true ∙ old.long;
        marked = λ b q at.
            elim (cases_eq p q) [
              | inl same ↦
                  let is : a ≡ b = position_same g a b p e (at ∙ ap Some (sym same)) in (
                    λ t. subst (λ (x : List ℕ). Contains (ids ++ a ∷ []) x) is (Contains-push ids a),
                    λ c. ap (λ i. get_or (set marks p true) i false) (sym same) ∙ get_or-set_same marks p true false inside,
                  )
              | inr other ↦
                  let kept : get_or (set marks p true) q false ≡ get_or marks q false = get_or-set_other marks p q true false (λ h. other (sym h)) in (
                    λ t. Contains-append_left ids (a ∷ []) b ((old.marked b q at).0 (sym kept ∙ t)),
                    λ c. kept ∙ elim (Contains-push_cases ids a b c) [
                      | inl first ↦ (old.marked b q at).1 first
                      | inr is ↦ absurd (other (same_Some p q (sym e ∙ ap (position_of g) is ∙ at)))
                    ],
                  )
            ];
        met_are = ap (λ l. l ++ p ∷ []) old.met_are ∙ sym (positions_push g ids a (Some p) e);
        once = omega arith;
        few = (let most = marked_few g (set marks p true) in omega arith);
        inside = All-push (λ q. q < length g) met p old.inside (position_inside g a p e);
        lost_is = lost_more lost p e old.lost_is;
        parents_are = omega arith;
      }

-- ---- ids in order

pub with_one_more : (before ids : List (List ℕ)) (i : ℕ) (x : List ℕ) → i < length ids → x ≡ get_or ids i x → with_new before (take (i + 1) ids) ≡ with_new (with_new before (take i ids)) (x ∷ [])
with_one_more before ids i x inside is =
    ap (λ l. with_new before l) (take_one ids i x inside is) ∙ with_new-append before (take i ids) (x ∷ [])

-- ---- the walk

pub underway : {A : Type 0} (g : List (Entry A)) (starts : List (List ℕ)) (marks : List Bool) (met : List ℕ) (lost : Option (List ℕ)) (parents : ℕ) → HasMet g (with_new [] starts) marks met lost parents → IsUnderway g starts [] (with_new [] starts) marks met lost parents 0
underway g starts marks met lost parents h = record {
  walked = walk_begins g starts (with_new [] starts) refl;
  has_met = h;
  position = refl;
}

no_parents : {A : Type 0} (g : List (Entry A)) (a : List ℕ) → position_of g a ≡ None → parents_of g a ≡ []
no_parents g a e = rw (node_at_none g a e) refl

-- the next id of the graph to visit: the graph does not contain the unvisited ids before it
pub record IsNext {A : Type 0} (g : List (Entry A)) (starts front back : List (List ℕ)) (x : ℕ) : Type 0 where
  pub mid : List (List ℕ)
  pub id : List ℕ
  pub rest : List (List ℕ)
  pub parts : back ≡ mid ++ id ∷ rest
  pub absent : places g mid ≡ []
  pub position : position_of g id ≡ Some x
  pub walked : IsWalked g starts (front ++ back) (length front + length mid)

module _ {A : Type 0} (g : List (Entry A)) where
  -- the walk skips ids that the graph does not contain
  passes : (starts mid front rest : List (List ℕ)) → places g mid ≡ [] → IsWalked g starts (front ++ (mid ++ rest))
      (length front) → IsWalked g starts (front ++ (mid ++ rest)) (length front + length mid)
  passes starts [] front rest none walked = let z : length front + 0 ≡ length front = omega arith in rw z walked
  passes starts (b ∷ mid) front rest none walked =
      let ids = front ++ b ∷ (mid ++ rest) in
      let r = placed g b mid (position_of g b) refl none in
      let inside : length front < length ids = omega (arith, length-append front (b ∷ (mid ++ rest))) in
      let item : b ≡ get_or ids (length front) b = sym (get_or-append_seam front b (mid ++ rest) b) in
      let goes = walk_goes g starts ids (length front) walked inside b item ids in
      let one = goes (sym (ap (λ l. with_new ids l) (no_parents g b r.0) ∙ with_new-nil ids)) in
      let again : (front ++ b ∷ []) ++ (mid ++ rest) ≡ ids = simp append_assoc in
      let on = passes starts mid (front ++ b ∷ []) rest r.1 (rw (again, length_push front b) one) in
      let sum : length front + 1 + length mid ≡ length front + length (b ∷ mid) = omega arith in
      rw (again, length_push front b, sum) at on

  -- the first unvisited id that the graph contains
  split_back : (back : List (List ℕ)) (x : ℕ) (xs : List ℕ) → places g back ≡ x ∷ xs → (mid : List (List ℕ)) ×
      (id : List ℕ) × (rest : List (List ℕ)) × (back ≡ mid ++ id ∷ rest) × (places g mid ≡ []) ×
      (position_of g id ≡ Some x)
  split_back [] x xs are = absurd (let e : [] ≡ x ∷ xs = are in cc)
  split_back (b ∷ bs) x xs are =
      elim (position_cases g b) [
        | inl e ↦ (let n = split_back bs x xs (rw e at are) in (b ∷ n.0, n.1, n.2, ap (λ t. b ∷ t) n.3, rw e n.4, n.5))
        | inr w ↦ (let all : w.0 ∷ places g bs ≡ x ∷ xs = rw w.1 at are in let same : w.0 ≡ x = cc in
            ([], b, bs, refl, refl, w.1 ∙ ap Some same))
      ]

module _ {A : Type 0} (g : List (Entry A)) (starts front back : List (List ℕ)) (marks : List Bool) (met : List ℕ) (lost : Option (List ℕ)) (parents at : ℕ) (now : IsUnderway g starts front back marks met lost parents at) where
  met_parts : met ≡ places g front ++ places g back
  met_parts = now.has_met.met_are ∙ filter_map-append (position_of g) front back

  left_are : places g back ≡ drop at met
  left_are = sym (drop_at (places g front) (places g back) at now.position) ∙ ap (drop at) (sym met_parts)

  pub next : (x : ℕ) → at < length met → x ≡ get_or met at x → IsNext g starts front back x
  next x inside is =
      let here = left_are ∙ drop_more met at x inside ∙ ap (λ y. y ∷ drop (at + 1) met) (sym is) in
      let s = split_back g back x (drop (at + 1) met) here in
      let W : ℕ → List (List ℕ) → Type 0 = λ i l. IsWalked g starts (front ++ l) i in
      let on = passes g starts s.0 front (s.1 ∷ s.2) s.4 (subst (W (length front)) s.3 now.walked) in
      let walked = subst (W (length front + length s.0)) (sym s.3) on in
      record { mid = s.0; id = s.1; rest = s.2; parts = s.3; absent = s.4; position = s.5; walked = walked }

  pub none_left : length met ≤ at → places g back ≡ []
  none_left end = left_are ∙ drop_all at met end

  -- if all positions were visited, the list of met ids has all levels
  pub ends_levels : length met ≤ at → AreLevels g starts (front ++ back)
  ends_levels end =
      let walked = passes g starts back front [] (none_left end) (rw (append-nil back) now.walked) in
      let long = length-append front back in
      walk_ends g starts (front ++ back) (length front + length back) (rw (append-nil back) at walked) (omega arith)

  pub finishes : length met ≤ at → IsWalk g starts marks met lost parents
  finishes end = record { ids = front ++ back; levels = ends_levels end; has_met = now.has_met }

  -- visiting the next id by meeting its parents
  pub goes : (x : ℕ) (n : IsNext g starts front back x) (more : List (List ℕ)) → more ≡ parents_of g n.id → (marks2 : List Bool) (met2 : List ℕ) (lost2 : Option (List ℕ)) (parents2 : ℕ) → HasMet g (with_new (front ++ back) more) marks2 met2 lost2 parents2 → IsUnderway g starts (front ++ (n.mid ++ n.id ∷ [])) (n.rest ++ new_ids (front ++ back) more) marks2 met2 lost2 parents2 (at + 1)
  goes x n more are marks2 met2 lost2 parents2 then =
      let i = length front + length n.mid in
      let whole : front ++ back ≡ (front ++ n.mid) ++ n.id ∷ n.rest = ap (λ l. front ++ l) n.parts ∙ (simp append_assoc) in
      let long1 = ap length whole in
      let long2 = length-append (front ++ n.mid) (n.id ∷ n.rest) in
      let long3 = length-append front n.mid in
      let long4 = length-append front (n.mid ++ n.id ∷ []) in
      let long5 = length-append n.mid (n.id ∷ []) in
      let inside : i < length (front ++ back) = omega arith in
      let at_i : n.id ≡ get_or (front ++ back) i n.id =
      sym (ap (λ l. get_or l i n.id) whole ∙ ap (λ k. get_or ((front ++ n.mid) ++ n.id ∷ n.rest) k n.id) (sym long3) ∙ get_or-append_seam (front ++ n.mid) n.id n.rest n.id) in
      let went = walk_goes g starts (front ++ back) i n.walked inside n.id at_i (with_new (front ++ back) more) (ap (λ l. with_new (front ++ back) l) are) in
      let again : with_new (front ++ back) more ≡ (front ++ (n.mid ++ n.id ∷ [])) ++ (n.rest ++ new_ids (front ++ back) more) =
      ap (λ l. l ++ new_ids (front ++ back) more) whole ∙ (simp append_assoc) in
      let count : i + 1 ≡ length (front ++ (n.mid ++ n.id ∷ [])) = omega arith in
      let p1 = filter_map-append (position_of g) front (n.mid ++ n.id ∷ []) in
      let p2 = positions_push g n.mid n.id (Some x) n.position in
      let p3 : places g (front ++ (n.mid ++ n.id ∷ [])) ≡ places g front ++ x ∷ [] = p1 ∙ ap (λ l. places g front ++ l) (p2 ∙ ap (λ l. l ++ x ∷ []) n.absent) in
      let p4 = ap length p3 in
      let p5 = length-append (places g front) (x ∷ []) in
      let p6 = now.position in
      record {
        walked = subst (λ (l : List (List ℕ)). IsWalked g starts l (length (front ++ (n.mid ++ n.id ∷ [])))) again
            (subst (λ (k : ℕ). IsWalked g starts (with_new (front ++ back) more) k) count went);
        has_met = subst (λ (l : List (List ℕ)). HasMet g l marks2 met2 lost2 parents2) again then;
        position = omega arith;
      }

-- ---- the parents that a look-up returns

pub lent_parents : {A : Type 0} (g : List (Entry A)) (a : List ℕ) (p : ℕ) (parents : List (List ℕ)) → position_of g a ≡ Some p → option_map (λ entry. entry.node.parents) (slice_get g p) ≡ Some parents → parents ≡ parents_of g a
lent_parents {A} g a p parents e are =
    let n = parents_are g a p parents e are in
    sym (ap (λ (o : Option (Node A)). unwrap_or (option_map (λ (node : Node A). node.parents) o) []) n.1 ∙ n.2)

-- the position of an id is inside the marks
pub mark_inside : {A : Type 0} (g : List (Entry A)) (ids : List (List ℕ)) (marks : List Bool) (met : List ℕ) (lost : Option (List ℕ)) (parents : ℕ) (a : List ℕ) (p : ℕ) → HasMet g ids marks met lost parents → position_of g a ≡ Some p → p < length marks
mark_inside g ids marks met lost parents a p h e = let i = position_inside g a p e in let l = h.long in omega arith
