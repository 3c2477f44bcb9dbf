use Rattle.std.proofs.Common.{inl}
use Rattle.gcmd.proofs.upload.answer_all.Goals as goal

pub returns : goal.returns
returns g c = (
  inl (record {
    server = c.in_ok-server.server;
    names = c.in_ok-server.ensures;
    does = record {
      requests = c.serve.result.requests;
      ended = c.serve.result.end;
      connection = c.serve.ensures.serves;
      comes_out = c.outcome_of.ensures;
    };
  }),
  c.serve.ensures.source_loans,
  c.serve.ensures.sink_loans,
)
