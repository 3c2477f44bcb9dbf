use Rattle.std.proofs.Common.{refl, sym, ap, ◌∙◌}
use Rattle.gfetchreply.specs.FetchReplies.{Reading}
use Rattle.gfetchreply.specs.steps.ReplyState.{Kept}
use Rattle.gfetchreply.proofs.StateLemmas.{begins}
use Rattle.gfetchreply.proofs.ReplyLemmas.{takes_reply, refuses_reply}
use Rattle.gfetchreply.proofs.reading.read_to_end.Goals as goal

pub read_message-requires : goal.read_message-requires
read_message-requires g c =
    begins _ _ _ _ _ _ _ _ _ _ c.requires.reading c.requires.kept c.requires.accepted_before c.requires.state_before c.requires.address

pub returns-in-Ok-clause-read : goal.returns-in-Ok-clause-read
returns-in-Ok-clause-read g c =
    let read = c.in-Ok.ensures.read in
    takes_reply _ _ _ _ _ _ _ _ _ _ _ _ read.lines _ c.requires.reading read.read read.held refl

pub returns-in-Ok-clause-format : goal.returns-in-Ok-clause-format
returns-in-Ok-clause-format g c =
    let held = c.in-Ok.ensures.read.held in
    let same = held.kind ∙ sym c.requires.reading in (
      ap (λ (k : Kept). k.acks.limits) held.counts ∙ ap (λ (r : Reading). r.limits) same,
      ap (λ (k : Kept). k.acks.format) held.counts ∙ ap (λ (r : Reading). r.format) same,
    )

pub returns-in-Ok-clause-same : goal.returns-in-Ok-clause-same
returns-in-Ok-clause-same g c = c.in-Ok.ensures.read.held.is_same

pub returns-in-Err-clause-same : goal.returns-in-Err-clause-same
returns-in-Err-clause-same g c = c.in-Err.ensures.read.leaves.is_same

pub returns-in-Err-clause-read : goal.returns-in-Err-clause-read
returns-in-Err-clause-read g c =
    let read = c.in-Err.ensures.read in
    refuses_reply _ _ _ _ _ _ _ _ _ _ _ _ read.front _ c.requires.reading read.refused read.leaves
