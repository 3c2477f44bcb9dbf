use Rattle.std.proofs.Common.{refl, true}
use Rattle.gpkt.specs.Sending.{output_of}
use Rattle.gfetch.specs.Saying.{reply_rest}
use Rattle.gfetch.proofs.EndLemmas.{EndingLaws, nothing_written, talk_ends}
use Rattle.gpair.specs.Joined.{all_input, all_read}
use Rattle.gpair.proofs.fetching.talk.Goals as goal

pub returns : goal.returns
returns g c =
    let h = c.run_joined.ensures.hears in
    let output = output_of g.W.Sink.contents g.W.Sink.passed_on g.W.Sink.is_down c.args.devices.1 c.run_joined.result.2.1 in
    let laws : EndingLaws = record { laws = c.grammars_are_exact.ensures; advert = c.endings.ensures.advert; refs = c.endings-2.ensures.endings; objects = c.endings-3.ensures.endings } in
    record {
      received = h.received;
      consumed = h.consumed;
      lost = h.lost;
      runs = talk_ends g.K.KeepingIndexer.indexes g.K.KeepingIndexer.index_fails g.K.KeepingIndexer.keeps c.args.side laws c.requires.fresh (all_input (all_read h.received) h.lost) output
          c.run_joined.result.0 c.run_joined.result.1 _
          (nothing_written g.W.Sink.contents g.W.Sink.passed_on g.W.Sink.is_down _ _) h.runs.0 h.runs.1 c.run_joined.ensures.down;
    }

pub run_joined-requires-clause-opens : goal.run_joined-requires-clause-opens
run_joined-requires-clause-opens g c = (c.requires.fresh, (refl, refl))

pub run_joined-requires-clause-completes : goal.run_joined-requires-clause-completes
run_joined-requires-clause-completes g c = λ reply. (reply_rest reply, true, (refl, refl))
