use Rattle.std.proofs.Common.{◌≡◌, ◌↔◌, ℕ, List, [], true, Contains, bytes_eq, sym, ◌∙◌}
use Rattle.std.proofs.lemmas.Iterator.{YieldsList-from_slice}
use Rattle.std.proofs.lemmas.Iterator.Adapters.{fact_from_collect}
use Rattle.std.proofs.lemmas.Iterator.Consumers.{YieldsList-from_copied}
use Rattle.std.proofs.lemmas.Result.{IfOk-weaker}
use Rattle.indexmap.specs.IndexSet.{IndexSet, IsFromIterResult, contains, insert_all}
use Rattle.gdag.proofs.IdLists.{any_from_contains, contains_from_any}
use Rattle.gsession.proofs.acks.set_of.Goals as goal

-- a set that was built from these ids contains exactly these ids
abbrev IsMade : {S : Type 0} → List (List ℕ) → IndexSet (List ℕ) S → Type 0
IsMade ids set = (set.keys ≡ insert_all bytes_eq [] ids) × IsFromIterResult bytes_eq ids set

has_ids : {S : Type 0} (ids : List (List ℕ)) (set : IndexSet (List ℕ) S) → IsMade ids set → (id : List ℕ)
    → (contains bytes_eq set id ≡ true) ↔ Contains ids id
has_ids ids set made id =
    (λ t. contains_from_any ids id (sym (made.1.0 id) ∙ t), λ there. made.1.0 id ∙ any_from_contains ids id there)

pub returns : goal.returns
returns g c =
    let ids = c.args.ids.now in
    IfOk-weaker c.collect.result (IsMade ids) _ (has_ids ids)
    (fact_from_collect IsMade c.collect.result c.collect.ensures.ran
    (YieldsList-from_copied (YieldsList-from_slice ids cc)))
