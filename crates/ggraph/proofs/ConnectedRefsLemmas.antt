-- Refs that are connected in a graph.
use Rattle.std.proofs.Common.{◌≡◌, inl, inr, ◌⊎◌, ℕ, zero, suc, take, drop, slice_get, List, [], ◌∷◌, ◌++◌, Some, sym, ap, subst, All, Contains}
use Rattle.std.proofs.lemmas.List.Elements.{All-nil, All-cons, All-head, All-tail, All-contains}
use Rattle.std.proofs.lemmas.Option.{none-some, same_Some}
use Rattle.std.specs.Map.{values_of}
use Rattle.gobject.specs.declared.node.Entry.{Entry}
use Rattle.gdag.specs.Laws.{ConnectedStaysConnected}
use Rattle.gdag.specs.Reach.{IsConnected, Keeps}
use Rattle.grefs.specs.RefLists.{RefList}
use Rattle.ggraph.specs.ConnectedRefs.{HasConnectedRefs, ConnectedRefsStay, SettingKeepsConnectedRefs}

module _ {A : Type 0} where
  all_connected : (g h : List (Entry A)) → ConnectedStaysConnected A → Keeps g h → (ids : List (List ℕ)) → All (IsConnected g) ids → All (IsConnected h) ids
  all_connected g h law keeps [] connected = All-nil (IsConnected h)
  all_connected g h law keeps (id ∷ ids) connected =
      All-cons (IsConnected h) id ids (law g h id keeps (All-head (IsConnected g) id ids connected)).0 (all_connected g h law keeps ids (All-tail (IsConnected g) id ids connected))

  pub connected_refs_stay : ConnectedStaysConnected A → ConnectedRefsStay A
  connected_refs_stay law g h refs keeps connected_refs = all_connected g h law keeps (values_of refs) connected_refs

  -- the id of each ref is connected
  each_connected : (g : List (Entry A)) (refs : RefList) → HasConnectedRefs g refs → All (λ (ref : List ℕ × List ℕ). IsConnected g ref.1) refs
  each_connected g [] connected_refs = All-nil (λ (ref : List ℕ × List ℕ). IsConnected g ref.1)
  each_connected g (ref ∷ refs) connected_refs =
      All-cons (λ (ref : List ℕ × List ℕ). IsConnected g ref.1) ref refs (All-head (IsConnected g) ref.1 (values_of refs) connected_refs)
      (each_connected g refs (All-tail (IsConnected g) ref.1 (values_of refs) connected_refs))

  from_each : (g : List (Entry A)) (old : RefList) (name id : List ℕ) → HasConnectedRefs g old → IsConnected g id → (refs : RefList)
      → All (λ ref. (ref ≡ (name, id)) ⊎ Contains old ref) refs → HasConnectedRefs g refs
  from_each g old name id connected_refs connected [] each = All-nil (IsConnected g)
  from_each g old name id connected_refs connected (ref ∷ refs) each =
      let P : List ℕ × List ℕ → Type 0 = λ ref. (ref ≡ (name, id)) ⊎ Contains old ref in
      All-cons (IsConnected g) ref.1 (values_of refs)
      (elim (All-head P ref refs each) [
        | inl same ↦ subst (λ (r : List ℕ × List ℕ). IsConnected g r.1) (sym same) connected
        | inr there ↦ All-contains (λ (ref : List ℕ × List ℕ). IsConnected g ref.1) old ref (each_connected g old connected_refs) there
      ])
      (from_each g old name id connected_refs connected refs (All-tail P ref refs each))

  pub setting_keeps_connected_refs : SettingKeepsConnectedRefs A
  setting_keeps_connected_refs g old new name id connected_refs connected sets = from_each g old name id connected_refs connected new sets.each

-- a list, split at one of its positions
pub split_there : {X : Type 0} (xs : List X) (place : ℕ) (x : X) → slice_get xs place ≡ Some x → xs ≡ take place xs ++ x ∷ drop (suc place) xs
split_there {X} [] place x at = absurd (none-some x at)
split_there {X} (y ∷ xs) zero x at = ap (λ (z : X). z ∷ xs) (same_Some y x at)
split_there {X} (y ∷ xs) (suc place) x at = ap (λ (zs : List X). y ∷ zs) (split_there xs place x at)
