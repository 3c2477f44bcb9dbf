use Rattle.gfetch.proofs.CountLemmas.{CountLaws, next_is_few, talks_are_few, ends_are_few}
use Rattle.gfetch.proofs.laws.requests_are_few.Goals as goal

pub returns : goal.returns
returns g c =
    let laws : CountLaws g.K.KeepingIndexer.indexes g.K.KeepingIndexer.index_fails = record {
      begins_on = c.began_begins.ensures;
      stays_on = c.began_stays_on.ensures;
      goes_on = c.calls_go_on.ensures;
      few = c.counted_are_few.ensures;
      begins = c.requests_are_counted.ensures.begins;
      counted = c.requests_are_counted.ensures.stays;
    } in
    record {
      talks = talks_are_few g.K.KeepingIndexer.indexes g.K.KeepingIndexer.index_fails laws;
      next = next_is_few g.K.KeepingIndexer.indexes g.K.KeepingIndexer.index_fails laws;
      ends = ends_are_few g.K.KeepingIndexer.indexes g.K.KeepingIndexer.index_fails
          (talks_are_few g.K.KeepingIndexer.indexes g.K.KeepingIndexer.index_fails laws)
          (next_is_few g.K.KeepingIndexer.indexes g.K.KeepingIndexer.index_fails laws);
    }
