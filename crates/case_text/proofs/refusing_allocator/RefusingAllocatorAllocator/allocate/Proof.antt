-- The proof of `allocate`. A refused call returns an error. Any other call returns the result of the inner allocator,
-- and a returned block comes with the right to free it.
use Rattle.std.proofs.Common.{◌≡◌, ℕ, ◌+◌, ◌^◌, ◌<◌, Bool, true, false, List, [], ◌∷◌, Ok, Err, refl, w64, Bor}
use seplogic.Ra.Ura.{Ura}
use mir.Syntax.{Ty, Args, Fn, a_type, dnil, dcons}
use mir.Val.{Val, vbool, vint, vptr}
use mir.MapTy.{inst_fn}
use base.Logic.{SProp, ent, id⊢}
use base.Fml.{Lft, Share, ftrue, fsep, froom, flft}
use prog.Memory.{Memory, size, align, capped, up}
use prog.Routine.{Routine}
use prog.Wp.{WpFn, Tables}
use types.Logic.{Logic}
use types.Kit.{‵, raw, ◌⊛◌, some, later, given, prop, at_ret, Sq, ◌$◌, ◌∵◌, !, qed, move, keep, use0, use1, use2, split, join, pick, learn, fsplit, fjoin, suffices, await, done}
use types.Part.{agg}
use types.Run.{stop, fld, addr, lit, no_more, and_then, first, branches, skips, exec, returns, returns_within, enter}
use types.ByLocal.{alloc_all, pass_all, free_all, look_at, get, through, sets, lands_as, env}
use contract.BorrowLft.{◌⊑◌, ⊑_trans}
use contract.Monad.{Fun, fact}
use contract.Running.{tables, tables_of}
use sound.WpLaws.{fm_of, WpFn-mono}
use denote.Builtin.{usize, RefOf}
use denote.Exit.{yes}
use denote.Opens.{unhide}
use denote.Param.{bounded, param}
use denote.Plain.{uint_vals, uint_Tells}
use denote.RattleType.{owns}
use denote.RawPtr.{block_ptr}
use denote.Ref.{shr_vals}
use denote.Signature.{Slot, plain, types_at}
use denote.Steps.{heard, nothing}
use denote.Triple.Call.{calls_at}
use denote.Triple.Clauses.{Ended, Clauses}
use denote.Triple.Spec.{triple_of}
use denote.Triple.Statement.{Triple}
use denote.Triple.Table.{entered, cited}
use denote.Triple.Walked.{Stays, stay_dropped, walk_of, ends_at, walked, Goes-dropped, walk_Meets}
use Rattle.std.proofs.alloc.Calls.{Al, α, seen, Answer, answer_val, Answer-typed, Answer-Ok, Answer-err, takes_key, Takes, at_takes, Answered, Takes-goes, Takes-gives, answers}
use Rattle.std.proofs.alloc.Shapes.{after}
use Rattle.case_text.proofs.Counting.{Counts, picked, handed, returned}
use Rattle.case_text.proofs.refusing_allocator.count_allocation.Symbol as count_allocation
use Rattle.case_text.proofs.refusing_allocator.count_allocation.Met as count_allocation_met
use Rattle.case_text.specs.contracts.refusing_allocator.RefusingAllocator as allocator
use Rattle.case_text.specs.contracts.refusing_allocator.RefusingAllocatorAllocator.allocate as f
use Rattle.case_text.specs.contracts.refusing_allocator.RefusingAllocatorAllocator.allocate.Key as key
use Rattle.case_text.proofs.refusing_allocator.RefusingAllocatorAllocator.allocate.Statement.{statement}
use Rattle.case_text.proofs.refusing_allocator.RefusingAllocatorAllocator.allocate.Code as code

module _ (inner : Al) where
  -- the generic arguments of the code for the inner allocator `inner`
  abbrev applied : Args
  applied = bounded (a_type ∷ []) (inner.row, tt) (dcons inner.d (dcons inner.drops dnil))

  abbrev body : Fn
  body = inst_fn applied code.function

  -- the parameters of `allocate`: the handle, the size and the alignment
  abbrev handle : Slot 2
  handle = RefOf (0 ∷ []) tt (plain (λ _. allocator.the_row (param 0 inner.row))) (λ _. tt)

  abbrev number : Slot 2
  number = plain (λ _. usize)

  abbrev ended : Ended
  ended = f.ended inner.row inner.g inner.d inner.drops

  abbrev stays : Stays ended.signature.params ended.kept
  stays = (stay_dropped handle yes, (stay_dropped number yes, (stay_dropped number yes, tt)))

module _ (inner : Al) {M : Type 1} {𝓤 : Ura M} (𝓛 : Logic 𝓤) (at_mem : Memory → SProp 𝓤) (run : Routine → Fun 𝓤)
    (𝓣 : Tables 𝓤 𝓛.H) (takes : Triple 𝓤 (𝓣.C (takes_key inner)) (Takes inner 𝓛 at_mem run))
    (counts : Triple 𝓤 (𝓣.C count_allocation.name) (Counts 𝓛 at_mem run)) where
  open 𝓛 use {H}

  abbrev clauses : Clauses 𝓤 (ended inner)
  clauses = f.clauses inner.row inner.g inner.d inner.drops 𝓛 at_mem run

  module _ (κ ρ : Lft) (q s : Share) (within : κ ⊑ ρ) (r : Bor (allocator.the_row inner.row).Denot) (n a : ℕ) (τ : Ty) where
    abbrev asked : (walk_of 𝓛 (ended inner) (stays inner) clauses).Ghost
    asked = (((κ, (ρ, tt)), (q, (s, tt)), (within, tt), (r, (n, (a, tt))), (shr_vals r, (vint w64 n ∷ [], (vint w64 a ∷ [], tt)))), τ)

    abbrev values : List Val
    values = vptr r.ref_ptr.0 r.ref_ptr.1 ∷ vint w64 n ∷ vint w64 a ∷ []

    abbrev due : Val → SProp 𝓤
    due = (walk_of 𝓛 (ended inner) (stays inner) clauses).post asked

    -- the arguments `n` and `a` are the size and the alignment of the type `τ`
    abbrev IsOfType : Type 0
    IsOfType = (capped (size τ) ≡ n) × (capped (align τ) ≡ a)

    -- the postcondition of a call that returns no block
    ends_without : Sq 𝓛 (‵ (flft κ q) ∷ (‵ (flft ρ s) ⊛ ‵ ftrue) ∷ []) (prop (due (answer_val false 0 0)))
    ends_without =
        nothing ! $
        suffices ! _ (ends_at 𝓛 (ended inner) (stays inner) clauses asked (answer_val false 0 0) (Err (record {})) (tt, (tt, (tt, tt))) (tt, (tt, (tt, tt)))) $
        use0 𝓛 (‵ (Answer.own_val (Err (record {})) (answer_val false 0 0 ∷ []))) (Answer-err 𝓛) $
        nothing ! $ nothing ! $ fjoin ! $ nothing ! $ fjoin ! $ nothing ! $ fjoin ! $ join ! $
        move ! (2 ∷ 3 ∷ []) $ join ! $ join ! $ done !

    -- the postcondition of a call that returns a block
    ends_with : (b o : ℕ) → Sq 𝓛 (‵ (fsep (froom τ b o) (inner.g.dealloc_token r.now.inner τ (block_ptr b o))) ∷ ‵ (flft κ q) ∷ (‵ (flft ρ s) ⊛ ‵ ftrue) ∷ []) (prop (due (answer_val true b o)))
    ends_with b o =
        suffices ! _ (ends_at 𝓛 (ended inner) (stays inner) clauses asked (answer_val true b o) (Ok (block_ptr b o)) (tt, (tt, (tt, tt))) (tt, (tt, (tt, tt)))) $
        use0 𝓛 (‵ (Answer.own_val (Ok (block_ptr b o)) (answer_val true b o ∷ []))) (Answer-Ok 𝓛 b o) $
        nothing ! $ nothing ! $ fjoin ! $ nothing ! $ fjoin ! $ nothing ! $ fjoin ! $ join ! $
        move ! (2 ∷ 3 ∷ []) $ join ! $ join ! $ done !

    answers_for : n < 2 ^ 64 → a < 2 ^ 64
        → ent 𝓤 ((walk_of 𝓛 (ended inner) (stays inner) clauses).pre asked) (WpFn 𝓤 H 𝓣.C 𝓣.Λ (body inner) values due)
    answers_for fits_n fits_a =
        let held : inner.row.Denot = r.now.inner in
        let place : ℕ × ℕ = (r.ref_ptr.0, r.ref_ptr.1 + up (align (α inner)) 0) in
        let count : ℕ × ℕ = (r.ref_ptr.0, r.ref_ptr.1 + up 8 (up (align (α inner)) 0 + size (α inner))) in
        let there : (Takes inner 𝓛 at_mem run).Ghost = at_takes inner 𝓛 at_mem run κ q place held n a τ in
        qed 𝓛 (((‵ (flft κ q) ⊛ ‵ (flft ρ s) ⊛ ‵ ftrue) ⊛ ‵ (owns (types_at (ended inner).signature.params asked.0.0) asked.0.3 asked.0.4))
        ∷ (raw (fact 𝓤 (ρ ⊑ inner.row.lives)) ⊛ raw (fact 𝓤 IsOfType)) ∷ []) ∵
        -- shared access to the count and to the inner allocator, and their lifetimes
        move ! (1 ∷ []) $ split ! $ heard ! (ρ ⊑ inner.row.lives) (λ outlives. heard ! IsOfType (λ of_type.
        split ! $ split ! $ move ! (2 ∷ []) $ fsplit ! $ fsplit ! $ move ! (1 ∷ []) $ unhide ! $ fsplit ! $ fsplit ! $
        use1 𝓛 (‵ (seen inner κ place held)) (id⊢ 𝓤 _) $ move ! (1 ∷ []) $ fsplit ! $ keep ! (0 ∷ 6 ∷ 2 ∷ 7 ∷ []) $
        enter ! 𝓣.C 𝓣.Λ (body inner) values _ $
        alloc_all ! (λ l. pass_all ! refl ((tt, tt), ((tt, record { fits = fits_n }), ((tt, record { fits = fits_a }), tt))) $
        -- the call of `count_allocation`
        sets ! (addr ! (through ! refl (fld ! refl (stop !)))) refl (tt, tt) $
        use2 𝓛 (raw ((Counts 𝓛 at_mem run).pre (picked 𝓛 at_mem run κ q count))) (handed 𝓛 at_mem run κ q count) $
        calls_at ! (fm_of 𝓤 H 𝓛.laws 𝓣) (Counts 𝓛 at_mem run) counts (picked 𝓛 at_mem run κ q count) (and_then ! (get ! refl) (no_more !)) (λ u.
        use1 𝓛 (later (some (λ (word : Bool). given (u ≡ vbool word) (‵ (flft κ q))))) (returned 𝓛 at_mem run κ q count u) $
        await ! tt $ pick ! (λ word. learn ! (λ is_word. lands_as ! is_word refl (tt, tt) $
        first ! $ branches ! (get ! refl)
        -- a refused allocation
        (λ ends. sets ! (agg ! (no_more !)) refl (tt, tt) $
        sets ! (agg ! (and_then ! (lit ! tt) (and_then ! (get ! refl) (no_more !)))) refl (Answer-typed false 0 0) $
        returns_within ! due refl (look_at ! 0 refl) $ free_all ! refl $ keep ! (0 ∷ 2 ∷ []) $ ends_without)
        -- an allocation by the inner allocator
        (λ goes_on. skips ! $ exec ! 𝓣.C 𝓣.Λ (env (body inner).locals l) (after 3 (body inner).body) (at_ret _ due) $
        move ! (1 ∷ []) $ sets ! (addr ! (through ! refl (fld ! refl (stop !)))) refl (tt, tt) $
        use2 𝓛 (raw ((Takes inner 𝓛 at_mem run).pre there))
        (Takes-goes inner 𝓛 at_mem run κ q place held (⊑_trans κ ρ inner.row.lives within outlives) n a τ of_type.0 of_type.1 fits_n fits_a) $
        calls_at ! (fm_of 𝓤 H 𝓛.laws 𝓣) (Takes inner 𝓛 at_mem run) takes there (and_then ! (get ! refl) (and_then ! (get ! refl) (and_then ! (get ! refl) (no_more !)))) (λ v.
        use1 𝓛 (later (raw (Answered inner 𝓛 at_mem run held τ v) ⊛ ‵ (flft κ q))) (Takes-gives inner 𝓛 at_mem run κ q place held n a τ v) $
        await ! tt $ split ! $ answers inner ! at_mem run held τ v
        (λ b o is_block. fjoin ! $ lands_as ! is_block refl (Answer-typed true b o) $
        returns ! (look_at ! 0 refl) $ free_all ! refl $ ends_with b o)
        (λ is_none. lands_as ! is_none refl (Answer-typed false 0 0) $
        returns ! (look_at ! 0 refl) $ free_all ! refl $ ends_without)))))))))

pub allocate_spec : {M : Type 1} → statement M
unfolding tables_of
allocate_spec 𝓤 𝓛 𝓜 𝓡 wired row laws g d drops met _ =
    let inner : Al = record { row = row; laws = laws; g = g; d = d; drops = drops } in
    let 𝓣 : Tables 𝓤 𝓛.H = tables_of 𝓤 𝓛.H 𝓜 (tables 𝓤 𝓛.H 𝓜 𝓡 𝓡.env) in
    let clauses = f.clauses row g d drops 𝓛 𝓜.mem 𝓡.returns in
    let runs = WpFn 𝓤 𝓛.H 𝓣.C 𝓣.Λ (body inner) in
    let counts = cited 𝓤 𝓛.H _ 𝓜 𝓡 𝓡.env count_allocation.name (𝓡.env count_allocation.name) refl
    (count_allocation_met.met 𝓤 𝓛 𝓜 𝓡 (code.calls-case_text::refusing_allocator::count_allocation 𝓡.env wired)) in
    entered 𝓤 𝓛.H (triple_of 𝓛 (f.signature row) (f.spec row g d drops 𝓛 𝓜.mem 𝓡.returns)) 𝓣.C 𝓣.Λ
    (key.name (applied inner)) (body inner) (code.unfolded 𝓤 𝓛.H 𝓜 𝓡 wired (row, tt) d drops)
    (walk_Meets 𝓛 (ended inner) (stays inner) (
      Goes-dropped 𝓛 2 (handle inner) yes (λ κs x w. refl),
      (Goes-dropped 𝓛 2 (number inner) yes (λ κs x w. refl), (Goes-dropped 𝓛 2 (number inner) yes (λ κs x w. refl), tt)),
    )
    clauses runs (WpFn-mono 𝓤 𝓛.H 𝓛.laws 𝓣 (body inner))
    (walked 𝓛 (ended inner) (stays inner) clauses runs
    (λ κs. (shr_vals, (uint_vals w64, (uint_vals w64, tt))))
    (λ κs. ((λ r vs is. is.0), (uint_Tells w64, (uint_Tells w64, tt))))
    (λ κs qs bounds args τ are. answers_for inner 𝓛 𝓜.mem 𝓡.returns 𝓣 (met.allocate drops) counts
    κs.0 κs.1.0 qs.0 qs.1.0 bounds.0 args.0 args.1.0 args.1.1.0 τ are.1.0.1 are.1.1.0.1)))
