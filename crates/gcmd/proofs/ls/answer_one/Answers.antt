use Rattle.std.proofs.Common.{inl}
use Rattle.gcmd.proofs.ls.answer_one.Goals as goal

pub returns : goal.returns
returns g c = (
  inl (record {
    server = c.in_ok-server.server;
    names = c.in_ok-server.ensures;
    does = record { ended = c.serve_one.result; exchange = c.serve_one.ensures.exchange; comes_out = c.outcome_of.ensures };
  }),
  c.serve_one.ensures.source_loans,
  c.serve_one.ensures.sink_loans,
)
