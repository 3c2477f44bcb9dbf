-- The precondition and the postcondition of a call of `count_allocation`. The precondition gives shared access to the
-- count, and the postcondition gives a boolean result.
use Rattle.std.proofs.Common.{◌≡◌, ℕ, List, [], ◌∷◌, refl, ap, Bool}
use seplogic.Ra.Ura.{Ura}
use mir.Val.{Val, vbool, vptr}
use base.Logic.{SProp, ent, sep, ex, guard, id⊢}
use base.Fml.{Lft, Share, ftrue, fsep, flft}
use prog.Memory.{Memory}
use prog.Routine.{Routine}
use types.Logic.{Logic, sem}
use types.Kit.{‵, raw, ◌⊛◌, some, later, ◌$◌, ◌∵◌, !, qed, move, keep, use1, split, join, pick, fjoin, feq_i, feq_l, check, show, await, updating, now as from_now, done}
use contract.Monad.{Fun}
use denote.RattleType.{RattleType}
use denote.Memory.{hidden_shr}
use denote.Builtin.{u64, bool}
use denote.Steps.{nothing, only}
use denote.Triple.Statement.{Contract}
use denote.Triple.Spec.{triple_of}
use Rattle.std.specs.contracts.cell.Cell as cell
use Rattle.case_text.specs.contracts.refusing_allocator.count_allocation as f

-- the type of the count
abbrev pub Count : RattleType
Count = cell.the_row u64

module _ {M : Type 1} {𝓤 : Ura M} (𝓛 : Logic 𝓤) (at_mem : Memory → SProp 𝓤) (run : Routine → Fun 𝓤) where
  -- the contract of `count_allocation`
  abbrev pub Counts : Contract 𝓤
  Counts = triple_of 𝓛 f.signature (f.spec 𝓛 at_mem run)

  module _ (κ : Lft) (q : Share) (place : ℕ × ℕ) where
    open 𝓛 use {H, A}

    -- the ghost arguments of a call: the lifetime `κ` of the shared access, a share `q` of `κ`, and the address `place`
    -- of the count
    abbrev pub picked : Counts.Ghost
    picked = (((κ, tt), (q, tt), tt, (record { ref_ptr = place; now = record { value = tt } }, tt), (vptr place.0 place.1 ∷ [], tt)), tt)

    -- shared access to the count, which other borrowers may also have
    abbrev pub look : SProp 𝓤
    look = sem 𝓛 (hidden_shr Count κ (record { value = tt }) place.0 place.1)

    -- the value `v` is the boolean `word`, and the caller gets back the share `q` of the lifetime `κ`
    abbrev pub IsWord : Val → Bool → SProp 𝓤
    IsWord v word = guard 𝓤 (v ≡ vbool word) (A.lft κ q)

    pub handed : ent 𝓤 (sep 𝓤 look (A.lft κ q)) (Counts.pre picked)
    handed =
        qed 𝓛 (‵ (hidden_shr Count κ (record { value = tt }) place.0 place.1) ∷ ‵ (flft κ q) ∷ []) ∵
        feq_i ! (List Val) (vptr place.0 place.1 ∷ []) (vptr place.0 place.1 ∷ []) refl $
        fjoin ! $ nothing ! $ move ! (1 ∷ []) $
        fjoin ! $ nothing ! $ move ! (2 ∷ []) $
        join ! $ join ! $ nothing ! $ move ! (1 ∷ []) $ done !

    pub returned : (v : Val) → ent 𝓤 (Counts.post picked v) (H.⇛ (ex 𝓤 (IsWord v)))
    returned v =
        qed 𝓛 (raw (Counts.post picked v) ∷ []) ∵ updating ! $
        use1 𝓛 (later (some (λ (word : Bool). ((‵ (flft κ q) ⊛ ‵ ftrue) ⊛ ‵ (bool.own_val word (v ∷ [])))
        ⊛ some (λ (ws : Unit {0} × Unit {0}). ‵ (fsep ftrue ftrue) ⊛ ‵ ftrue)))) (id⊢ 𝓤 _) $
        await ! tt $ pick ! (λ word. split ! $ split ! $ move ! (1 ∷ []) $ feq_l ! (λ is_word.
        split ! $ from_now ! $ show ! (IsWord v) word $ check ! (ap only is_word) $ keep ! (0 ∷ []) $ done !))
