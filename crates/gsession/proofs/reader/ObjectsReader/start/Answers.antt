use Rattle.std.proofs.Common.{ℕ, [], ap, subst, sym, ◌∙◌}
use Rattle.gfetchreply.specs.Views.{reading_in}
use Rattle.gfetchreply.specs.declared.reading.FetchReading.{FetchReading}
use Rattle.gfetchreply.specs.steps.ReplyState.{first_kept, kept_in}
use Rattle.gfetchreply.proofs.StateLemmas.{begins_reply}
use Rattle.gsession.specs.steps.Calls.{MayHaveFed}
use Rattle.gsession.proofs.reader.ObjectsReader.start.Goals as goal

pub returns : goal.returns
returns g c =
    let Fed = MayHaveFed g.K.KeepingIndexer.fed g.K.KeepingIndexer.index_fails in (
      ap reading_in c.new.ensures.reading,
      begins_reply Fed (λ one other. Unit {0}) (reading_in c.new.result.reading) (kept_in c.new.result.sections)
          c.into_feed.result
          (c.new.ensures.kept ∙ ap (λ (r : FetchReading ℕ). first_kept r.limits r.format r.direct) (sym c.new.ensures.reading))
          (subst (λ feed. Fed feed []) (sym c.into_feed.ensures) c.start.ensures),
    )
