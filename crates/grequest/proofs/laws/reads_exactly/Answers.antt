use Rattle.grequest.proofs.ReaderLemmas.{is_missing_where_empty}
use Rattle.grequest.proofs.laws.reads_exactly.Goals as goal

pub returns : goal.returns
returns c =
    let one = c.one_meaning.ensures in record {
      request = λ limits format.
          c.kinds_are_read.ensures.exactly_if_any (limits, format) (one.whole limits format) (one.one limits format);
      missing = λ limits format.
          is_missing_where_empty c.has_four_bytes.ensures limits format (c.messages_are_read.ensures _);
    }
