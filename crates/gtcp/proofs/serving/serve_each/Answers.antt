use Rattle.std.proofs.Common.{◌≡◌, refl, ◌∙◌, arith}
use Rattle.gobject.specs.Packs.{MayPack}
use Rattle.gtcp.proofs.ServingLemmas.{serves_all, serves_fewer, serves_next, serves_none}
use Rattle.gtcp.proofs.serving.serve_each.Goals as goal

pub loop-number-init : goal.loop-number-init
loop-number-init g c = record {
  serves =
      serves_none g.E.Sink.contents g.E.Sink.passed_on g.E.Sink.is_down c.args.export.now.server.now
      (MayPack (g.K.Packer.packs c.args.packer.now)) (g.K.Packer.pack_fails c.args.packer.now) c.args.export.now.path.now
      c.args.export.now.ends c.args.errors.now;
  same_loans = refl;
}

pub loop-number-preserved : goal.loop-number-preserved
loop-number-preserved g c = record {
  serves =
      serves_next g.E.Sink.contents g.E.Sink.passed_on g.E.Sink.is_down _ _ _ _ _ c.args.errors.now c.loop-number.errors
      c.tell-can_print.new.errors c.serve_stream-outcome.result c.loop-number.can_print c.tell-can_print.result c.loop-number._number
      c.loop-number.invariant.serves c.serve_stream-outcome.ensures c.tell-can_print.ensures.tells;
  same_loans = c.tell-can_print.ensures.loans ∙ c.loop-number.invariant.same_loans;
}

pub returns-in_default-clause-serves : goal.returns-in_default-clause-serves
returns-in_default-clause-serves g c =
    serves_fewer g.E.Sink.contents g.E.Sink.passed_on g.E.Sink.is_down _ _ _ _ _ c.args.errors.now c.loop-number.errors
    c.loop-number.can_print c.loop-number._number c.args.listening.now.connections c.loop-number.invariant.serves c.loop-number-test.true

pub returns-clause-serves : goal.returns-clause-serves
returns-clause-serves g c =
    let all : c.loop-number._number ≡ c.args.listening.now.connections =
    let within = c.loop-number.auto._number-end in omega (arith, within, c.loop-number-test.false) in
    serves_all g.E.Sink.contents g.E.Sink.passed_on g.E.Sink.is_down _ _ _ _ _ c.args.errors.now c.loop-number.errors
    c.loop-number.can_print c.loop-number._number c.args.listening.now.connections c.loop-number.invariant.serves all
