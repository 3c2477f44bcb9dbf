use Rattle.std.proofs.Common.{subst}
use Rattle.gpkt.specs.Packets.{packet_of}
use Rattle.gpkt.specs.PacketReading.{HasRead}
use Rattle.gcmd.proofs.LinesLemmas.{IsShowing-next, Shows-end, Shows-failed}
use Rattle.ggrammar.proofs.ReadingLemmas.{read_some, read_none}
use Rattle.gcmd.proofs.lines.show_each.Goals as goal

pub returns-in-Ok-None : goal.returns-in-Ok-None
returns-in-Ok-None g c =
    Shows-end g.S.Source g.W.Sink c.args.reader.now c.loop-count.reader c.next.follows.lender-at-none c.args.output.now c.loop-count.output
    c.loop-count.count c.loop-count.invariant
    (subst (HasRead g.S.Source.remaining g.S.Source.is_down g.S.Source.loans _ _) (read_none _ _ c.in-Ok-None.is c.in-Ok-None.field-0-is) c.next.follows.holds-at-none)

pub returns-in-Err-show_line : goal.returns-in-Err-show_line
returns-in-Err-show_line g c =
    Shows-failed g.S.Source g.W.Sink c.args.reader.now c.loop-count.reader c.next.follows.lender-at-none c.args.output.now
    c.loop-count.output c.show_line.new.output c.loop-count.count c.reads_join.ensures.next (packet_of c.in-Ok-Some.line)
    c.in-Err-show_line.down c.loop-count.invariant
    (subst (HasRead g.S.Source.remaining g.S.Source.is_down g.S.Source.loans _ _) (read_some _ _ _ c.in-Ok-Some.is c.in-Ok-Some.field-0-is) c.next.follows.holds-at-none)
    c.in-Err-show_line.ensures

pub loop-count-preserved : goal.loop-count-preserved
loop-count-preserved g c =
    IsShowing-next g.S.Source g.W.Sink c.args.reader.now c.loop-count.reader c.next.follows.lender-at-none c.args.output.now
    c.loop-count.output c.show_line.new.output c.loop-count.count c.reads_join.ensures.next (packet_of c.in-Ok-Some.line)
    c.loop-count.invariant
    (subst (HasRead g.S.Source.remaining g.S.Source.is_down g.S.Source.loans _ _) (read_some _ _ _ c.in-Ok-Some.is c.in-Ok-Some.field-0-is) c.next.follows.holds-at-none)
    c.in-Ok.ensures
