-- The walk that lists all levels: it visits one id after another, and appends the parents that are new.
use Rattle.std.proofs.Common.{◌≡◌, ℕ, suc, ◌<◌, ◌≤◌, ◌+◌, List, [], ◌∷◌, ◌++◌, length, get_or, refl, sym, ap, ◌∙◌, length-append, append_assoc, append-nil, arith}
use Rattle.std.proofs.Math.Seq.{get_or-append_seam}
use Rattle.std.proofs.lemmas.List.{nil_from_length}
use Rattle.gobject.specs.declared.node.Entry.{Entry}
use Rattle.gdag.specs.Levels.{new_ids, parents_of, parents_of_each, level, levels_below, AreLevels, is_in}
use Rattle.gdag.proofs.IdLists.{either_way, with_new, with_new-old, with_new-new}
use Rattle.gdag.proofs.LevelReach.{in_reached, reached_in}
use Rattle.gdag.specs.Reach.{SomeReaches}
use Rattle.gwalk.specs.Offers.{IsWalked}
use Rattle.std.proofs.Common.{Contains, subst}

-- ---- a list of ids, followed by new ids

pub with_new-nil : (s : List (List ℕ)) → with_new s [] ≡ s
with_new-nil s = append-nil s

pub with_new-append : (s xs ys : List (List ℕ)) → with_new s (xs ++ ys) ≡ with_new (with_new s xs) ys
with_new-append s [] ys = ap (λ l. with_new l ys) (sym (append-nil s))
with_new-append s (x ∷ xs) ys =
    either_way (is_in s x)
    (λ e. with_new-old s x (xs ++ ys) e ∙ with_new-append s xs ys ∙ ap (λ l. with_new l ys) (sym (with_new-old s x xs e)))
    (λ e. with_new-new s x (xs ++ ys) e ∙ with_new-append (s ++ x ∷ []) xs ys ∙ ap (λ l. with_new l ys) (sym (with_new-new s x xs e)))

-- ---- the walk

module _ {A : Type 0} (g : List (Entry A)) (tips : List (List ℕ)) where
  pub walk_begins : (ids : List (List ℕ)) → ids ≡ [] ++ new_ids [] tips → IsWalked g tips ids 0
  walk_begins ids e = record {
    k = 0;
    done = [];
    rest = new_ids [] tips;
    more = [];
    levels = refl;
    has = e ∙ sym (append-nil (new_ids [] tips));
    position = refl;
    ahead = ap (λ l. with_new l (parents_of_each g (new_ids [] tips))) e;
  }

  -- visiting one more id of a level
  next_id : (ids : List (List ℕ)) (at k : ℕ) (done : List (List ℕ)) (y : List ℕ) (rest more : List (List ℕ)) → levels_below g tips (suc k) ≡ done ++ y ∷ rest → ids ≡ (done ++ y ∷ rest) ++ more → length done ≡ at → with_new ids (parents_of_each g (y ∷ rest)) ≡ levels_below g tips (suc (suc k)) → (x : List ℕ) → x ≡ get_or ids at x → (ids2 : List (List ℕ)) → ids2 ≡ with_new ids (parents_of g x) → IsWalked g tips ids2 (at + 1)
  next_id ids at k done y rest more levels has position ahead x item ids2 is =
      let regroup : done ++ y ∷ rest ≡ (done ++ y ∷ []) ++ rest = simp append_assoc in
      let same : x ≡ y = item ∙ ap (λ l. get_or l at x) (has ∙ (simp append_assoc)) ∙ ap (λ i. get_or (done ++ y ∷ (rest ++ more)) i x) (sym position) ∙ get_or-append_seam done y (rest ++ more) x in
      let here : ids2 ≡ with_new ids (parents_of g y) = is ∙ ap (λ z. with_new ids (parents_of g z)) same in
      record {
        k = k;
        done = done ++ y ∷ [];
        rest = rest;
        more = more ++ new_ids ids (parents_of g y);
        levels = levels ∙ regroup;
        has = here ∙ ap (λ l. l ++ new_ids ids (parents_of g y)) (has ∙ ap (λ l. l ++ more) regroup) ∙ (simp append_assoc);
        position = omega (arith, length-append done (y ∷ []));
        ahead = ap (λ l. with_new l (parents_of_each g rest)) here ∙ sym (with_new-append ids (parents_of g y) (parents_of_each g rest)) ∙ ahead;
      }

  -- visiting the next id
  pub walk_goes : (ids : List (List ℕ)) (at : ℕ) → IsWalked g tips ids at → at < length ids → (x : List ℕ) → x ≡ get_or ids at x → (ids2 : List (List ℕ)) → ids2 ≡ with_new ids (parents_of g x) → IsWalked g tips ids2 (at + 1)
  walk_goes ids at w inside x item ids2 is = in_level ids at w.k w.done w.rest w.more w.levels w.has w.position w.ahead inside x item ids2 is
    where
      within : (ids : List (List ℕ)) (at k : ℕ) (done rest more : List (List ℕ)) → levels_below g tips (suc k) ≡ done ++ rest → ids ≡ (done ++ rest) ++ [] → length done ≡ at → with_new ids (parents_of_each g rest) ≡ levels_below g tips (suc (suc k)) → at < length ids → (x : List ℕ) → x ≡ get_or ids at x → (ids2 : List (List ℕ)) → ids2 ≡ with_new ids (parents_of g x) → IsWalked g tips ids2 (at + 1)
      within ids at k done [] more levels has position ahead inside x item ids2 is =
          let short : length ids ≡ length ((done ++ []) ++ []) = ap length has in
          absurd (omega (arith, simp (append-nil {A = List ℕ}) at short))
      within ids at k done (y ∷ rest) more levels has position ahead inside x item ids2 is =
          next_id ids at k done y rest [] levels has position ahead x item ids2 is

      -- at the end of a level, the unvisited ids are the next level
      in_level : (ids : List (List ℕ)) (at k : ℕ) (done rest more : List (List ℕ)) → levels_below g tips (suc k) ≡ done ++ rest → ids ≡ (done ++ rest) ++ more → length done ≡ at → with_new ids (parents_of_each g rest) ≡ levels_below g tips (suc (suc k)) → at < length ids → (x : List ℕ) → x ≡ get_or ids at x → (ids2 : List (List ℕ)) → ids2 ≡ with_new ids (parents_of g x) → IsWalked g tips ids2 (at + 1)
      in_level ids at k done [] more levels has position ahead inside x item ids2 is =
          let next = level g tips (suc k) in
          let whole : ids ≡ levels_below g tips (suc (suc k)) = sym (with_new-nil ids) ∙ ahead in
          let parts = ap (λ l. l ++ next) (levels ∙ append-nil done) in
          within ids at (suc k) done next [] parts (whole ∙ parts ∙ sym (append-nil (done ++ next))) position
          (ap (λ l. with_new l (parents_of_each g next)) whole) inside x item ids2 is
      in_level ids at k done (y ∷ rest) more levels has position ahead inside x item ids2 is =
          next_id ids at k done y rest more levels has position ahead x item ids2 is

  -- if all ids were visited, the list has all levels
  pub walk_ends : (ids : List (List ℕ)) (at : ℕ) → IsWalked g tips ids at → length ids ≤ at → AreLevels g tips ids
  walk_ends ids at w end =
      let long = ap length w.has in
      let long1 = length-append (w.done ++ w.rest) w.more in
      let long2 = length-append w.done w.rest in
      let position = w.position in
      let rest : w.rest ≡ [] = nil_from_length w.rest (omega arith) in
      let more : w.more ≡ [] = nil_from_length w.more (omega arith) in
      let joined : ids ≡ levels_below g tips (suc w.k) = w.has ∙ ap (λ l. (w.done ++ w.rest) ++ l) more ∙ append-nil (w.done ++ w.rest) ∙ sym w.levels in
      let next : ids ≡ levels_below g tips (suc (suc w.k)) = sym (with_new-nil ids) ∙ ap (λ l. with_new ids (parents_of_each g l)) (sym rest) ∙ w.ahead in
      let both = length-append (levels_below g tips (suc w.k)) (level g tips (suc w.k)) in
      let e1 = ap length joined in
      let e2 = ap length next in
      record { count = suc w.k; joined = joined; last = nil_from_length (level g tips (suc w.k)) (omega arith) }

-- the ids of all levels are the ids that a tip reaches
module _ {A : Type 0} (g : List (Entry A)) (tips ids : List (List ℕ)) (levels : AreLevels g tips ids) where
  pub met_reached : (a : List ℕ) → Contains ids a → SomeReaches g tips a
  met_reached a c = in_reached g tips levels.count a (subst (λ (l : List (List ℕ)). Contains l a) levels.joined c)

  pub reached_met : (a : List ℕ) → SomeReaches g tips a → Contains ids a
  reached_met a s = subst (λ (l : List (List ℕ)). Contains l a) (sym levels.joined) (reached_in g tips levels.count levels.last a s)
