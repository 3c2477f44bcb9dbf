-- The result of settling requested updates is unique.
use Rattle.std.proofs.Common.{◌≡◌, ◌≢◌, ◌⊎◌, inl, inr, ℕ, Bool, true, false, List, [], ◌∷◌, All, Contains, Some, refl, sym, ap, ◌∙◌, subst, suc, arith}
use Rattle.std.proofs.lemmas.Bool.{false≢true}
use Rattle.std.proofs.lemmas.List.Elements.{All-contains, All-cons, All-nil}
use Rattle.std.proofs.lemmas.Slice.Eq.{bytes_eq-Decides}
use Rattle.std.specs.List.{AllZip}
use Rattle.std.specs.Str.{bytes_eq}
use Rattle.gobject.specs.declared.node.Entry.{Entry}
use Rattle.gdag.specs.Reach.{here}
use Rattle.grefs.specs.Laws.{RefsAreTheirLookUps}
use Rattle.grefs.specs.RefLists.{RefList, ref_at}
use Rattle.gclientrepo.specs.Laws.{SettlingIsDecided}
use Rattle.gclientrepo.specs.Settling.{IsUpdate, MayMove, Settles}
use Rattle.gclientrepo.specs.declared.ask.Ask.{Ask}
use Rattle.gclientrepo.specs.declared.ask.RefUpdate.{RefUpdate}
use Rattle.gclientrepo.specs.declared.ask.RefUpdate.TheVariants.{Moved, Same, NotForward}

module _ {A : Type 0} where
  one_update : (g : List (Entry A)) (old : RefList) (ask : Ask A) (u v : RefUpdate) → IsUpdate g old ask u → IsUpdate g old ask v → u ≡ v
  one_update g old ask Moved Moved a b = refl
  one_update g old ask Same Same a b = refl
  one_update g old ask NotForward NotForward a b = refl
  one_update g old ask Moved Same a b = absurd (a.0 b)
  one_update g old ask Same Moved a b = absurd (b.0 a)
  one_update g old ask NotForward Same a b = absurd (a.0 b)
  one_update g old ask Same NotForward a b = absurd (b.0 a)
  one_update g old ask Moved NotForward a b = absurd (b.1 a.1)
  one_update g old ask NotForward Moved a b = absurd (a.1 b.1)

  one_list : (g : List (Entry A)) (old : RefList) (asks : List (Ask A)) (us vs : List RefUpdate) → AllZip (IsUpdate g old) asks us → AllZip (IsUpdate g old) asks vs → us ≡ vs
  one_list g old [] [] [] a b = refl
  one_list g old [] [] (v ∷ vs) a b = absurd b
  one_list g old [] (u ∷ us) vs a b = absurd a
  one_list g old (ask ∷ asks) [] vs a b = absurd a
  one_list g old (ask ∷ asks) (u ∷ us) [] a b = absurd b
  one_list g old (ask ∷ asks) (u ∷ us) (v ∷ vs) a b =
      ap (λ (w : RefUpdate). w ∷ us) (one_update g old ask u v a.0 b.0) ∙ ap (λ (ws : List RefUpdate). v ∷ ws) (one_list g old asks us vs a.1 b.1)

  -- the outcome of a requested update decides whether the update is allowed
  may_or_not : (g : List (Entry A)) (old : RefList) (ask : Ask A) (u : RefUpdate) → IsUpdate g old ask u → MayMove g old ask ⊎ ¬ (MayMove g old ask)
  may_or_not g old ask Moved is = inl is.1
  may_or_not g old ask Same is = inl (inr (inr (ask.id, is, here)))
  may_or_not g old ask NotForward is = inr is.1

  -- an allowed update of the ref with this name
  abbrev pub Mover : List (Entry A) → RefList → List (Ask A) → List ℕ → Type 0
  Mover g old asks name = (ask : Ask A) × Contains asks ask × (ask.name ≡ name) × MayMove g old ask

  abbrev pub Stays : List (Entry A) → RefList → List ℕ → Ask A → Type 0
  Stays g old name ask = MayMove g old ask → ask.name ≢ name

  head_mover : (g : List (Entry A)) (old : RefList) (ask : Ask A) (asks : List (Ask A)) (name : List ℕ) (same : Bool) → bytes_eq ask.name name ≡ same
      → MayMove g old ask ⊎ ¬ (MayMove g old ask) → (Mover g old (ask ∷ asks) name) ⊎ Stays g old name ask
  head_mover g old ask asks name true is (inl may) = inl (ask, (0, omega arith, refl), (bytes_eq-Decides ask.name name).0 is, may)
  head_mover g old ask asks name false is (inl may) = inr (λ _. λ same. false≢true (sym is ∙ (bytes_eq-Decides ask.name name).1 same))
  head_mover g old ask asks name same is (inr never) = inr (λ may. absurd (never may))

  tail_mover : (g : List (Entry A)) (old : RefList) (ask : Ask A) (asks : List (Ask A)) (name : List ℕ) → Mover g old asks name → Mover g old (ask ∷ asks) name
  tail_mover g old ask asks name mover =
      let low = mover.1.1 in
      (mover.0, (suc mover.1.0, omega (arith, low), mover.1.2), mover.2, mover.3)

  pub some_mover : (g : List (Entry A)) (old : RefList) (asks : List (Ask A)) (us : List RefUpdate) (name : List ℕ) → AllZip (IsUpdate g old) asks us
      → (Mover g old asks name) ⊎ All (Stays g old name) asks
  some_mover g old [] us name each = inr (All-nil (Stays g old name))
  some_mover g old (ask ∷ asks) [] name each = absurd each
  some_mover g old (ask ∷ asks) (u ∷ us) name each =
      elim (head_mover g old ask asks name (bytes_eq ask.name name) refl (may_or_not g old ask u each.0)) [
        | inl mover ↦ inl mover
        | inr stays ↦ elim (some_mover g old asks us name each.1) [
          | inl mover ↦ inl (tail_mover g old ask asks name mover)
          | inr others ↦ inr (All-cons (Stays g old name) ask asks stays others)
        ]
      ]

  -- after settling, the ref of an allowed update points at the new id of this update
  pub stands : (g : List (Entry A)) (old : RefList) (asks : List (Ask A)) (us : List RefUpdate) (new : RefList) (name : List ℕ) → Settles g old asks us new
      → (mover : Mover g old asks name) → ref_at new name ≡ Some (mover.0).id
  stands g old asks us new name settles mover =
      let Asked : Ask A → Type 0 = λ ask. MayMove g old ask → ref_at new ask.name ≡ Some ask.id in
      subst (λ (n : List ℕ). ref_at new n ≡ Some (mover.0).id) mover.2 (All-contains Asked asks mover.0 settles.asked mover.1 mover.3)

  pub settling_is_decided : RefsAreTheirLookUps → SettlingIsDecided A
  settling_is_decided law g old asks us vs new other here_refs there_refs a b =
      let alike : (name : List ℕ) → ref_at new name ≡ ref_at other name = λ name.
      elim (some_mover g old asks us name a.each) [
        | inl mover ↦ stands g old asks us new name a mover ∙ sym (stands g old asks vs other name b mover)
        | inr stays ↦ a.others name stays ∙ sym (b.others name stays)
      ] in
      (one_list g old asks us vs a.each b.each, law new other here_refs there_refs alike)
