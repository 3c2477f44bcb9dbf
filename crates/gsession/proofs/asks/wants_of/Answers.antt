use Rattle.std.proofs.Common.{◌≡◌, ◌∙◌, ◌+◌, ◌≤◌, ℕ, List, [], ◌∷◌, ◌++◌, length, take, sym, ap, subst, arith}
use Rattle.std.proofs.lemmas.Bool.{false≢true}
use Rattle.std.proofs.lemmas.List.{take_all}
use Rattle.gdag.specs.Levels.{distinct_of}
use Rattle.gdag.specs.Reach.{IsConnected}
use Rattle.gdag.specs.Selecting.{Selects, none}
use Rattle.gclientrepo.specs.Asks.{asked_ids}
use Rattle.gdag.proofs.Choosing.{selects_keep, selects_skip}
use Rattle.gdag.proofs.Growing.{take_one}
use Rattle.gsession.proofs.CommonLemmas.{want_ids}
use Rattle.gsession.proofs.asks.wants_of.Goals as goal
use Rattle.gsession.proofs.asks.wants_of.Goals.{then-not-branch+in_ok-push, else-not-branch}

pub loop-id-init : goal.loop-id-init
loop-id-init g c =
    let P : List ℕ → Type 0 = λ a. ¬ (IsConnected c.args.repo.now.graph.entries a) in
    subst (λ (l : List (List ℕ)). Selects P [] l) (sym c.new-wants.ensures.items) none

pub loop-id-preserved : goal.loop-id-preserved
loop-id-preserved g c =
    let P : List ℕ → Type 0 = λ a. ¬ (IsConnected c.args.repo.now.graph.entries a) in
    let ids = c.as_slice-id-items.result.now in
    let k = c.loop-id.id-index in
    let id = c.id-item.result in
    let wants = c.loop-id.wants.items in
    let more : take (k + 1) ids ≡ take k ids ++ id ∷ [] = take_one ids k id c.loop-id-test.true c.id-item.is in
    elim c.if-not-branch.branch [
      | then-not-branch+in_ok-push w ↦
          let out : P id = λ connected. false≢true (sym w.if-not-branch.true ∙ c.in_ok-is_connected.ensures.connected.1 connected) in
          let kept : Selects P (take (k + 1) ids) (wants ++ id ∷ []) =
          subst (λ (l : List (List ℕ)). Selects P l (wants ++ id ∷ [])) (sym more)
          (selects_keep P (take k ids) wants id c.loop-id.invariant out) in
          subst (λ v. Selects P (take (k + 1) ids) v.items) (sym w.wants-is)
          (subst (λ (l : List (List ℕ)). Selects P (take (k + 1) ids) l) (sym w.in_ok-push.ensures.items) kept)
      | else-not-branch w ↦
          let connected : IsConnected c.args.repo.now.graph.entries id = c.in_ok-is_connected.ensures.connected.0 w.if-not-branch.false in
          let kept : Selects P (take (k + 1) ids) wants = subst (λ (l : List (List ℕ)). Selects P l wants) (sym more)
          (selects_skip P (take k ids) wants id c.loop-id.invariant (λ out. out connected)) in
          subst (λ v. Selects P (take (k + 1) ids) v.items) (sym w.wants-is) kept
    ]

pub returns-clause-wants : goal.returns-clause-wants
returns-clause-wants g c =
    let P : List ℕ → Type 0 = λ a. ¬ (IsConnected c.args.repo.now.graph.entries a) in
    let items = c.as_slice-id-items.result.now in
    let past : length items ≤ c.loop-id.id-index = omega (arith, c.loop-id-test.false) in
    let all : items ≡ distinct_of (asked_ids c.args.asks.now) =
    c.as_slice-id-items.ensures.value ∙ c.in_ok-ids.ensures
    ∙ ap distinct_of (c.as_slice.ensures.value ∙ c.in_ok-asked.ensures) in
    subst (λ (l : List (List ℕ)). Selects P l c.loop-id.wants.items) (take_all c.loop-id.id-index items past ∙ all)
    c.loop-id.invariant

pub returns-clause-ids : goal.returns-clause-ids
returns-clause-ids g c =
    want_ids c.distinct_are_once.ensures c.args.repo.now.graph.entries c.args.asks.now c.loop-id.wants.items
    (returns-clause-wants g c)
