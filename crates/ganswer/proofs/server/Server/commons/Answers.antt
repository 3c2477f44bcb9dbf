use Rattle.std.proofs.Common.{◌≡◌, ℕ, List, Result, Ok, Err, None, refl, sym, ap, ap₂, ◌∙◌}
use Rattle.std.specs.Result.{IsOk}
use Rattle.std.proofs.lemmas.Option.{none-some}
use Rattle.gname.specs.declared.formats.Format.{Format}
use Rattle.ggrammar.specs.declared.fault.MessageFault.{MessageFault}
use Rattle.ggrammar.specs.declared.limits.Limits.{Limits}
use Rattle.gfetchreply.specs.Values.{Acks, MakesAcks, acks_fault}
use Rattle.ganswer.proofs.FitLemmas.{commons_fit}
use Rattle.ganswer.proofs.server.Server.commons.Goals as goal

made : (limits : Limits) (format : Format) (ids : List (List ℕ)) (result : Result Acks MessageFault) → acks_fault limits format ids ≡ None → MakesAcks limits format ids result → IsOk result
made limits format ids (Ok acks) fits is = refl
made limits format ids (Err fault) fits is = absurd (none-some fault.why (sym fits ∙ is.1))

pub unwrap-requires : goal.unwrap-requires
unwrap-requires g c =
    let haves = c.args.request.now.asked.haves in
    let limits = c.args.request.now.limits in
    let fits = commons_fit c.positions_are_nodes.ensures limits c.args.self.now.graph c.graph.ensures.server.graph haves c.laws.ensures.few_haves in
    let format = rw c.graph.ensures.graph at c.format.ensures in
    made c.limits.result c.format.result c.in_ok-ids.ids.items c.from_ids_within-made.result
    (ap (λ (l : Limits). acks_fault l c.format.result c.in_ok-ids.ids.items) c.limits.ensures ∙ ap₂ (acks_fault limits) format c.in_ok-ids.ensures.ids ∙ fits) c.from_ids_within-made.ensures
