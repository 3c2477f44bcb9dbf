-- The steps of building acknowledgments.
use Rattle.std.specs.Prelude.{◌≡◌, ◌≤◌, ◌<◌, length, Result, Ok, Err}
use Rattle.gname.specs.Ids.{Id}
use Rattle.ggrammar.specs.declared.fault.Why.{Why}
use Rattle.ggrammar.specs.declared.fault.Why.TheVariants as why
use Rattle.gfetchreply.specs.FetchReplies.{max_acks}
use Rattle.gfetchreply.specs.Values.{Acks, with_id}

-- the result of appending an id of the right format: the id is appended, or the list is full, or memory runs out
abbrev pub AddsId : Acks → Acks → Id → Result Unit Why → Type 0
AddsId old new id (Ok _) = (length old.ids < max_acks old.limits) × (new ≡ with_id old id)
AddsId old new id (Err why.Limit) = (max_acks old.limits ≤ length old.ids) × (new ≡ old)
AddsId old new id (Err why.Memory) = (length old.ids < max_acks old.limits) × (new ≡ old)
AddsId old new id (Err _) = ⊥
