use Rattle.std.proofs.Common.{[], false, refl, subst}
use Rattle.std.proofs.KnownBytes.{Consumes-nil}
use Rattle.gpkt.specs.Sending.{output_of}
use Rattle.gfetch.specs.Conversations.{FetchesOver}
use Rattle.gfetch.specs.Fetching.{start_of_side}
use Rattle.gfetch.specs.Starts.{Start}
use Rattle.gpair.specs.Joined.{all_input, all_read}
use Rattle.gpair.proofs.fetching.fetch_joined.Goals as goal

pub returns-in-Err : goal.returns-in-Err
returns-in-Err g c = record {
  received = [];
  consumed = Consumes-nil _;
  lost = false;
  runs = c.in-Err.ensures.fails _ _ (record { read = refl; down = refl }) (record { written = refl; passed_on = refl; down = refl });
}

pub returns : goal.returns
returns g c =
    let indexes = g.K.KeepingIndexer.indexes in
    let fails = g.K.KeepingIndexer.index_fails in
    let h = c.talk-driven.ensures in
    let input = all_input (all_read h.received) h.lost in
    let output = output_of g.W.Sink.contents g.W.Sink.passed_on g.W.Sink.is_down c.args.devices.1 c.talk-driven.result.2.1 in
    record {
      received = h.received;
      consumed = h.consumed;
      lost = h.lost;
      runs = subst (λ (s : Start g.row.A.Denot). FetchesOver indexes fails s input output c.end_fetch-fetched.new.repo c.end_fetch-fetched.result) c.in-Ok.ensures.begins.starts
          (c.end_fetch-fetched.ensures.fetches (start_of_side c.in-Ok.begun.0) input output h.runs);
    }
