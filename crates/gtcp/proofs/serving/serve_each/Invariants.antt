use Rattle.std.proofs.Common.{◌≡◌}
use Rattle.gpkt.specs.Sending.{output_of}
use Rattle.gobject.specs.Packs.{MayPack}
use Rattle.gtcp.specs.steps.Remote.{ServesSoFar}
use Rattle.gtcp.proofs.serving.serve_each.Given as goal

abbrev pub invariant-loop-number : goal.invariant-loop-number
invariant-loop-number g l = record {
  serves : ServesSoFar l.export.server.now (MayPack (g.K.Packer.packs l.packer)) (g.K.Packer.pack_fails l.packer)
      l.export.path.now l.export.ends
      (output_of g.E.Sink.contents g.E.Sink.passed_on g.E.Sink.is_down l.initial.errors l.errors) l.can_print l._number;
  same_loans : g.E.Sink.loans l.errors ≡ g.E.Sink.loans l.initial.errors;
}
