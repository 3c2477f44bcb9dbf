use Rattle.gfetchreply.proofs.ReplyLemmas.{has_head}
use Rattle.gfetchreply.specs.Views.{reading_in}
use Rattle.gfetchreply.specs.steps.ReplyState.{kept_in}
use Rattle.gfetchreply.proofs.reader.FetchReader.finish.Goals as goal

pub returns : goal.returns
returns g c = λ lines whole counts.
    has_head (reading_in c.args.self.reading) (kept_in c.args.self.sections) lines _ whole counts c.into_head.ensures.head
