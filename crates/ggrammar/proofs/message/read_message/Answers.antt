use Rattle.std.proofs.Common.{◌∙◌, ap, refl, subst, Ok, arith}
use Rattle.gpkt.specs.PacketReading.{Reads, HasRead, read_of}
use Rattle.ggrammar.specs.declared.fault.Why.TheVariants.{Line, Ended}
use Rattle.ggrammar.proofs.ReadingLemmas.{read_some, read_none, reason_after, takes_as, not_failed, still_well}
use Rattle.ggrammar.proofs.ReadingLemmas.{nothing_yet, refused_there, goes_on, ends_there}
use Rattle.ggrammar.proofs.message.read_message.Goals as goal

pub loop-frame-init : goal.loop-frame-init
loop-frame-init g c =
    let brings = g.M.Message.brings c.args.message.now in
    (nothing_yet _ brings _ g.M.Message.left _ _ c.requires, refl, refl, refl, refl, (λ failed. refl), omega arith)

pub returns-in-Ok-None-clause-read : goal.returns-in-Ok-None-clause-read
returns-in-Ok-None-clause-read g c =
    let going = c.loop-frame.invariant.0 in
    refused_there _ _ _ _ (c.laws.ensures.endings _) _ _ _ _ _ _ Ended going (c.laws.ensures.left _ _ going.held)
    (subst (Reads _) (read_none _ _ c.in-Ok-None.is c.in-Ok-None.field-0-is) c.next.follows.holds-at-none.bytes)

pub returns-in-Err-clause-read : goal.returns-in-Err-clause-read
returns-in-Err-clause-read g c =
    let going = c.loop-frame.invariant.0 in
    refused_there _ _ _ _ (c.laws.ensures.endings _) _ _ _ _ _ _ (Line c.in-Err.fault) going
    (c.laws.ensures.left _ _ going.held) (subst (Reads _) (ap read_of c.in-Err.is) c.next.follows.holds-at-none.bytes)

pub returns-in-Ok-Whole-clause-read : goal.returns-in-Ok-Whole-clause-read
returns-in-Ok-Whole-clause-read g c =
    let all = c.loop-frame.invariant in
    let is = read_some _ _ _ c.in-Ok-Some.is c.in-Ok-Some.field-0-is in
    ends_there _ _ _ _ _ _ _ _ _ _ _ all.0 (subst (Reads _) is c.next.follows.holds-at-none.bytes)
    (takes_as g.M.Message.holds g.M.Message.left _ _ _ _ _ _ _ _ _ all.1 all.2 c.accept_packet.ensures.takes
    (c.in-Ok-Whole.is ∙ ap (λ x. Ok x) c.in-Ok-Whole.field-0-is) all.0.lines all.0.goes all.0.held)

pub returns-in-Err-accept_packet-clause-read : goal.returns-in-Err-accept_packet-clause-read
returns-in-Err-accept_packet-clause-read g c =
    let all = c.loop-frame.invariant in
    let is = read_some _ _ _ c.in-Ok-Some.is c.in-Ok-Some.field-0-is in
    let taken =
    takes_as g.M.Message.holds g.M.Message.left _ _ _ _ _ _ _ _ _ all.1 all.2 c.accept_packet.ensures.takes c.in-Err-accept_packet.is
    all.0.lines all.0.goes all.0.held in
    refused_there _ _ _ _ (c.laws.ensures.endings _) _ _ _ _ _ _ c.in-Err-accept_packet.why all.0 taken.1
    (reason_after (g.M.Message.judge c.args.message.now) (g.M.Message.brings c.args.message.now) all.0.lines _ _
    c.in-Err-accept_packet.why (subst (Reads _) is c.next.follows.holds-at-none.bytes) taken.0)

pub loop-frame-preserved : goal.loop-frame-preserved
loop-frame-preserved g c =
    let all = c.loop-frame.invariant in
    let is = read_some _ _ _ c.in-Ok-Some.is c.in-Ok-Some.field-0-is in
    let read = subst (HasRead g.S.Source.remaining g.S.Source.is_down g.S.Source.loans _ _) is c.next.follows.holds-at-none in (
      goes_on _ (g.M.Message.brings c.args.message.now) _ g.M.Message.left _ _ _ _ _ _ _ all.0 read.bytes
          (takes_as g.M.Message.holds g.M.Message.left _ _ _ _ _ _ _ _ _ all.1 all.2 c.accept_packet.ensures.takes
          (c.in-Ok-Open.is ∙ ap (λ x. Ok x) c.in-Ok-Open.field-0-is) all.0.lines all.0.goes all.0.held),
      c.accept_packet.ensures.judge ∙ all.1,
      c.accept_packet.ensures.brings ∙ all.2,
      c.next.follows.holds-at-none.loans ∙ all.3,
      still_well _ _ _ _ _ _ read ∙ all.4,
      (λ failed. not_failed _ _ _ _ _ _ read (all.4 ∙ failed)),
      omega (arith, c.laws.ensures.bounded c.args.message.now all.0.lines all.0.goes, all.0.count),
    )
