-- The tests of a batch.
use Rattle.std.proofs.Common.{◌≡◌, List, All, Some, Result, Ok, Err, MatchResult, sym, subst}
use Rattle.std.specs.Map.{lookup}
use Rattle.std.specs.Str.{bytes_eq}
use Rattle.std.proofs.lemmas.Map.Entries.{place_from_lookup}
use Rattle.std.proofs.lemmas.Option.{get_or_from_slice_get, slice_get_within}
use Rattle.std.proofs.lemmas.Slice.Eq.{bytes_eq-Decides}
use Rattle.gname.specs.Ids.{Id}
use Rattle.gcomplete.specs.Stores.{Types}
use Rattle.gcomplete.specs.Batches.{Needs, Noted, need_of}
use Rattle.gcomplete.specs.Adding.{IsFit, IsRefused}
use Rattle.gcomplete.specs.steps.Checking.{AllLead, AreFree, IsFreeAt, IsTaken, IsUnmet, LeadsAt}
use Rattle.gcomplete.specs.declared.fault.BatchFault.{BatchFault}
use Rattle.gcomplete.specs.declared.fault.BatchFault.TheVariants.{Malformed, Collision, Clash, Missing, Memory}

-- a fact about each pair of a list is a fact about the pair that a look-up finds
pub found_in : {X : Type 0} (P : Id × X → Type 0) (xs : List (Id × X)) (a : Id) (x : X) → All P xs → lookup (bytes_eq a) xs ≡ Some x → P (a, x)
found_in {X} P xs a x each is =
    let p = place_from_lookup (bytes_eq a) xs x is in
    let key : p.1 ≡ a = sym ((bytes_eq-Decides a p.1).0 p.3) in
    let Q : Id → Type 0 = λ k. P (k, x) in
    subst Q key (subst P (get_or_from_slice_get xs p.0 (p.1, x) (p.1, x) p.2) (each p.0 (p.1, x) (slice_get_within xs p.0 (p.1, x) p.2)))

pub all_free : (store batch : Types) → All (IsFreeAt store) batch → AreFree store batch
all_free store batch each a kind other comes kept = found_in (IsFreeAt store) batch a kind each comes other kept

pub all_lead : (store batch : Types) (needs : Needs) → All (LeadsAt store batch) needs → AllLead store batch needs
all_lead store batch needs each a need noted = found_in (LeadsAt store batch) needs a need each noted

-- a batch is refused by the first test
pub refused_types : (store : Types) (batch : Noted) (fault : BatchFault) → IsTaken store batch.types fault → IsRefused store batch fault
refused_types store batch (Collision a) why = why
refused_types store batch (Malformed a) why = absurd why
refused_types store batch (Clash a link) why = absurd why
refused_types store batch (Missing a link) why = absurd why
refused_types store batch Memory why = absurd why

refused_needs : (store : Types) (batch : Noted) (fault : BatchFault) → IsUnmet store batch.types batch.needs fault → IsRefused store batch fault
refused_needs store batch (Missing a link) why = (λ objects is. is.only link.id (need_of a link) why.0, why.1)
refused_needs store batch (Malformed a) why = absurd why
refused_needs store batch (Collision a) why = absurd why
refused_needs store batch (Clash a link) why = absurd why
refused_needs store batch Memory why = absurd why

-- and judged by the second
pub judged : (store : Types) (batch now : Noted) (r : Result (Unit {0}) BatchFault) → batch ≡ now → AreFree store batch.types
    → MatchResult r (λ _. AllLead store batch.types batch.needs) (IsUnmet store batch.types batch.needs) → MatchResult r (λ _. IsFit store now) (IsRefused store now)
judged store batch now (Ok x) same free leads = subst (IsFit store) same (record { free = free; leads = leads })
judged store batch now (Err fault) same free why = let P : Noted → Type 0 = λ n. IsRefused store n fault in subst P same (refused_needs store batch fault why)
