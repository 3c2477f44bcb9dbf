-- The source of a valid refspec is a prefix of ref names, so it can stand in a request.
use Rattle.std.proofs.Common.{◌++◌, ◌≡◌, ◌≤◌, ℕ, Bool, true, false, cond, if◌then◌else◌, List, length, All, Some}
use Rattle.std.proofs.Common.{None, codes, refl, ap, arith, length-append}
use Rattle.std.specs.List.{position_or_len}
use Rattle.std.specs.Option.{option_map}
use Rattle.std.proofs.lemmas.Bool.{le-ltb}
use Rattle.std.proofs.lemmas.List.Elements.{All-weaker}
use Rattle.std.proofs.lemmas.List.Sums.{position_or_len_is}
use Rattle.gname.proofs.ListLemmas.{All-parts}
use Rattle.gname.proofs.NameLemmas.{IsPrefix-of_name, names_are_clean}
use Rattle.gname.specs.Names.{IsPrefix, IsRefName, bad_byte, is_bad_byte, max_name, prefix_fault, too_long}
use Rattle.gname.specs.declared.faults.NameFault.TheVariants.{BadByte, TooLong}
use Rattle.grefs.specs.Refspecs.{AreSides, IsRefspec, Refspec}

-- the sources of the refspecs can stand in a request
abbrev pub AreSources : List Refspec → Type 0
AreSources specs = All (λ spec. IsPrefix spec.source) specs

none_bad : (text : List ℕ) → All (λ (b : ℕ). is_bad_byte b ≡ false) text → bad_byte text ≡ None
unfolding bad_byte
none_bad text good =
    let first = position_or_len is_bad_byte text in
    let all : first ≡ length text =
    position_or_len_is is_bad_byte text (length text) 0 (omega arith) (λ k low. good k 0 low)
    (λ wrong. absurd (omega arith)) in
    ap (λ (b : Bool). option_map BadByte (cond b (Some first) None)) (le-ltb first (length text) (omega (arith, all)))

short : (text : List ℕ) → length text ≤ max_name → too_long text ≡ None
unfolding too_long
short text few = ap (λ (b : Bool). if b then Some TooLong else None) (le-ltb max_name (length text) few)

stem_prefix : (stem : List ℕ) → IsRefName (stem ++ codes "x") → IsPrefix stem
unfolding prefix_fault
stem_prefix stem name =
    let facts = names_are_clean (stem ++ codes "x") name in
    let within = short stem (omega (arith, facts.within, length-append stem (codes "x"))) in
    let bytes = none_bad stem (All-parts (λ (b : ℕ). is_bad_byte b ≡ false) stem 120 facts.bytes).0 in
    rw (within, bytes) refl

side_prefix : (pattern : Bool) (source destination : List ℕ) → AreSides pattern source destination → IsPrefix source
side_prefix true source destination is = stem_prefix source is.0.name.well_formed
side_prefix false source destination is = IsPrefix-of_name source is.0

pub sources : (specs : List Refspec) → All IsRefspec specs → AreSources specs
sources specs are =
    All-weaker IsRefspec (λ (spec : Refspec). IsPrefix spec.source)
    (λ (spec : Refspec) is. side_prefix spec.pattern spec.source spec.destination is) specs are
