-- The proof of `deallocate`. The caller passes the right to free the block, and the inner allocator frees the block.
use Rattle.std.proofs.Common.{◌≡◌, ℕ, ◌+◌, ◌^◌, ◌<◌, List, [], ◌∷◌, refl, w64, Bor}
use seplogic.Ra.Ura.{Ura}
use mir.Syntax.{Ty, Args, Fn, a_type, dnil, dcons}
use mir.Val.{Val, vunit, vint, vptr}
use mir.MapTy.{inst_fn}
use base.Logic.{SProp, ent, id⊢, never_e}
use base.Fml.{Lft, Share, ftrue, ffalse, fsep, froom, flft}
use prog.Memory.{Memory, size, align, capped, up}
use prog.Routine.{Routine}
use prog.Wp.{WpFn, Tables}
use types.Logic.{Logic}
use types.Kit.{Item, ‵, raw, ◌⊛◌, later, given, ◌$◌, ◌∵◌, !, qed, by, move, keep, use1, split, split3, join, learn, fsplit, fjoin, feq_i, suffices, await, done}
use types.Run.{stop, fld, addr, no_more, and_then, of_opd, unit_lit, returns, enter}
use types.ByLocal.{alloc_all, pass_all, free_all, look_at, get, through, sets, lands_as}
use contract.BorrowLft.{◌⊑◌, ⊑_trans}
use contract.Monad.{Fun, fact}
use contract.Running.{tables, tables_of}
use sound.WpLaws.{fm_of, WpFn-mono}
use denote.Builtin.{usize, RawPtr, RefOf}
use denote.Exit.{yes}
use denote.Opens.{unhide}
use denote.Param.{bounded, param}
use denote.Plain.{uint_vals, uint_Tells}
use denote.RattleType.{owns}
use denote.RawPtr.{Ptr, block_ptr, null_ptr, ptr_val, rawptr_vals, rawptr_Tells}
use denote.Ref.{shr_vals}
use denote.Signature.{Slot, plain, types_at}
use denote.Steps.{heard, nothing}
use denote.Triple.Call.{calls_at}
use denote.Triple.Clauses.{Ended, Clauses}
use denote.Triple.Spec.{triple_of}
use denote.Triple.Statement.{Triple}
use denote.Triple.Table.{entered}
use denote.Triple.Walked.{Stays, stay_dropped, walk_of, ends_at, walked, Goes-dropped, walk_Meets}
use Rattle.std.proofs.alloc.Calls.{Al, α, seen, token, gives_key, Gives, at_gives, Gives-goes, Gives-Gives}
use Rattle.case_text.specs.contracts.refusing_allocator.RefusingAllocator as allocator
use Rattle.case_text.specs.contracts.refusing_allocator.RefusingAllocatorAllocator.deallocate as f
use Rattle.case_text.specs.contracts.refusing_allocator.RefusingAllocatorAllocator.deallocate.Key as key
use Rattle.case_text.proofs.refusing_allocator.RefusingAllocatorAllocator.deallocate.Statement.{statement}
use Rattle.case_text.proofs.refusing_allocator.RefusingAllocatorAllocator.deallocate.Code as code

module _ (inner : Al) where
  -- the generic arguments of the code for the inner allocator `inner`
  abbrev applied : Args
  applied = bounded (a_type ∷ []) (inner.row, tt) (dcons inner.d (dcons inner.drops dnil))

  abbrev body : Fn
  body = inst_fn applied code.function

  -- the parameters of `deallocate`: the handle, the pointer, the size and the alignment
  abbrev handle : Slot 2
  handle = RefOf (0 ∷ []) tt (plain (λ _. allocator.the_row (param 0 inner.row))) (λ _. tt)

  abbrev pointer : Slot 2
  pointer = plain (λ _. RawPtr)

  abbrev number : Slot 2
  number = plain (λ _. usize)

  abbrev ended : Ended
  ended = f.ended inner.row inner.g inner.d inner.drops

  abbrev stays : Stays ended.signature.params ended.kept
  stays = (stay_dropped handle yes, (stay_dropped pointer yes, (stay_dropped number yes, (stay_dropped number yes, tt))))

module _ (inner : Al) {M : Type 1} {𝓤 : Ura M} (𝓛 : Logic 𝓤) (at_mem : Memory → SProp 𝓤) (run : Routine → Fun 𝓤)
    (𝓣 : Tables 𝓤 𝓛.H) (frees : Triple 𝓤 (𝓣.C (gives_key inner)) (Gives inner 𝓛 at_mem run)) where
  open 𝓛 use {H}

  abbrev clauses : Clauses 𝓤 (ended inner)
  clauses = f.clauses inner.row inner.g inner.d inner.drops 𝓛 at_mem run

  module _ (κ ρ : Lft) (q s : Share) (within : κ ⊑ ρ) (r : Bor (allocator.the_row inner.row).Denot) (n a : ℕ) (τ : Ty) where
    -- the ghost arguments of a call with the pointer `x`
    abbrev given_at : Ptr → (walk_of 𝓛 (ended inner) (stays inner) clauses).Ghost
    given_at x =
        (((κ, (ρ, tt)), (q, (s, tt)), (within, tt), (r, (x, (n, (a, tt)))), (shr_vals r, (rawptr_vals x, (vint w64 n ∷ [], (vint w64 a ∷ [], tt))))), τ)

    abbrev values : Ptr → List Val
    values x = vptr r.ref_ptr.0 r.ref_ptr.1 ∷ ptr_val x ∷ vint w64 n ∷ vint w64 a ∷ []

    abbrev due : Ptr → Val → SProp 𝓤
    due x = (walk_of 𝓛 (ended inner) (stays inner) clauses).post (given_at x)

    abbrev at_first : Ptr → Item 𝓤
    at_first x =
        (‵ (flft κ q) ⊛ ‵ (flft ρ s) ⊛ ‵ ftrue)
        ⊛ ‵ (owns (types_at (ended inner).signature.params (given_at x).0.0) (given_at x).0.3 (given_at x).0.4)

    -- the arguments `n` and `a` are the size and the alignment of the block's type `τ`
    abbrev IsOfType : Type 0
    IsOfType = (capped (size τ) ≡ n) × (capped (align τ) ≡ a)

    gives_back : n < 2 ^ 64 → a < 2 ^ 64 → (x : Ptr)
        → ent 𝓤 ((walk_of 𝓛 (ended inner) (stays inner) clauses).pre (given_at x)) (WpFn 𝓤 H 𝓣.C 𝓣.Λ (body inner) (values x) (due x))
    -- the null pointer, which points to no block
    gives_back fits_n fits_a null_ptr =
        qed 𝓛 (at_first null_ptr ∷ (raw (fact 𝓤 (ρ ⊑ inner.row.lives)) ⊛ raw (fact 𝓤 IsOfType) ⊛ ‵ (fsep ffalse (token inner r.now.inner τ null_ptr))) ∷ []) ∵
        move ! (1 ∷ []) $ split3 ! $ move ! (2 ∷ []) $ fsplit ! $ keep ! (0 ∷ []) $ by ! (never_e 𝓤 _)
    gives_back fits_n fits_a (block_ptr b o) =
        let held : inner.row.Denot = r.now.inner in
        let place : ℕ × ℕ = (r.ref_ptr.0, r.ref_ptr.1 + up (align (α inner)) 0) in
        let x : Ptr = block_ptr b o in
        let there : (Gives inner 𝓛 at_mem run).Ghost = at_gives inner 𝓛 at_mem run κ q place held b o n a τ in
        qed 𝓛 (at_first x ∷ (raw (fact 𝓤 (ρ ⊑ inner.row.lives)) ⊛ raw (fact 𝓤 IsOfType) ⊛ ‵ (fsep (froom τ b o) (token inner held τ x))) ∷ []) ∵
        -- shared access to the inner allocator, the lifetimes, and the block with the right to free it
        move ! (1 ∷ []) $ split3 ! $
        heard ! (ρ ⊑ inner.row.lives) (λ outlives. heard ! IsOfType (λ of_type.
        move ! (1 ∷ []) $ split ! $ split ! $ move ! (2 ∷ []) $
        fsplit ! $ fsplit ! $ move ! (1 ∷ []) $ unhide ! $ fsplit ! $ fsplit ! $
        use1 𝓛 (‵ (seen inner κ place held)) (id⊢ 𝓤 _) $ keep ! (0 ∷ 5 ∷ 6 ∷ 7 ∷ []) $
        enter ! 𝓣.C 𝓣.Λ (body inner) (values x) _ $
        alloc_all ! (λ l. pass_all ! refl ((tt, tt), ((tt, tt), ((tt, record { fits = fits_n }), ((tt, record { fits = fits_a }), tt)))) $
        -- the address of the field `inner`, and the call of the inner allocator
        sets ! (addr ! (through ! refl (fld ! refl (stop !)))) refl (tt, tt) $
        join ! $ move ! (2 ∷ []) $ fsplit ! $ move ! (1 ∷ 2 ∷ []) $ join ! $ move ! (1 ∷ 0 ∷ []) $ join ! $
        use1 𝓛 (raw ((Gives inner 𝓛 at_mem run).pre there))
        (Gives-goes inner 𝓛 at_mem run κ q place held (⊑_trans κ ρ inner.row.lives within outlives) b o n a τ of_type.0 of_type.1 fits_n fits_a) $
        calls_at ! (fm_of 𝓤 H 𝓛.laws 𝓣) (Gives inner 𝓛 at_mem run) frees there
        (and_then ! (get ! refl) (and_then ! (get ! refl) (and_then ! (get ! refl) (and_then ! (get ! refl) (no_more !))))) (λ v.
        use1 𝓛 (later (given (v ≡ vunit) (‵ (flft κ q)))) (Gives-Gives inner 𝓛 at_mem run κ q place held b o n a τ v) $
        await ! tt $ learn ! (λ is_unit. lands_as ! is_unit refl (tt, tt) $
        -- the return from `deallocate`
        sets ! (of_opd ! (unit_lit !)) refl (tt, tt) $ returns ! (look_at ! 0 refl) $ free_all ! refl $
        suffices ! _ (ends_at 𝓛 (ended inner) (stays inner) clauses (given_at x) vunit tt (tt, (tt, (tt, (tt, tt)))) (tt, (tt, (tt, (tt, tt))))) $
        nothing ! $ feq_i ! (List Val) (vunit ∷ []) (vunit ∷ []) refl $ nothing ! $
        nothing ! $ fjoin ! $ nothing ! $ fjoin ! $ nothing ! $ fjoin ! $ nothing ! $ fjoin ! $ join ! $
        move ! (2 ∷ 3 ∷ []) $ join ! $ join ! $ done !)))))

pub deallocate_spec : {M : Type 1} → statement M
unfolding tables_of
deallocate_spec 𝓤 𝓛 𝓜 𝓡 wired row laws g d drops met _ =
    let inner : Al = record { row = row; laws = laws; g = g; d = d; drops = drops } in
    let 𝓣 : Tables 𝓤 𝓛.H = tables_of 𝓤 𝓛.H 𝓜 (tables 𝓤 𝓛.H 𝓜 𝓡 𝓡.env) in
    let clauses = f.clauses row g d drops 𝓛 𝓜.mem 𝓡.returns in
    let runs = WpFn 𝓤 𝓛.H 𝓣.C 𝓣.Λ (body inner) in
    entered 𝓤 𝓛.H (triple_of 𝓛 (f.signature row) (f.spec row g d drops 𝓛 𝓜.mem 𝓡.returns)) 𝓣.C 𝓣.Λ
    (key.name (applied inner)) (body inner) (code.unfolded 𝓤 𝓛.H 𝓜 𝓡 wired (row, tt) d drops)
    (walk_Meets 𝓛 (ended inner) (stays inner) (
      Goes-dropped 𝓛 2 (handle inner) yes (λ κs x w. refl),
      (
        Goes-dropped 𝓛 2 (pointer inner) yes (λ κs x w. refl),
        (Goes-dropped 𝓛 2 (number inner) yes (λ κs x w. refl), (Goes-dropped 𝓛 2 (number inner) yes (λ κs x w. refl), tt)),
      ),
    )
    clauses runs (WpFn-mono 𝓤 𝓛.H 𝓛.laws 𝓣 (body inner))
    (walked 𝓛 (ended inner) (stays inner) clauses runs
    (λ κs. (shr_vals, (rawptr_vals, (uint_vals w64, (uint_vals w64, tt)))))
    (λ κs. ((λ r vs is. is.0), (rawptr_Tells, (uint_Tells w64, (uint_Tells w64, tt)))))
    (λ κs qs bounds args τ are. gives_back inner 𝓛 𝓜.mem 𝓡.returns 𝓣 (met.deallocate drops)
    κs.0 κs.1.0 qs.0 qs.1.0 bounds.0 args.0 args.1.1.0 args.1.1.1.0 τ are.1.1.0.1 are.1.1.1.0.1 args.1.0)))
