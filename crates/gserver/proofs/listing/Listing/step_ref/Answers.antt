use Rattle.std.proofs.Common.{true, false, subst, arith}
use Rattle.gserver.specs.steps.RefLines.{SaysRefAt}
use Rattle.gserver.proofs.ListingLemmas.{flush_at_end, flush_before_end, ref_said}
use Rattle.gserver.proofs.listing.Listing.step_ref.Goals as goal

pub overflow_add-self : goal.overflow_add-self
overflow_add-self g c =
    let less = c.if-say_ref.ensures.0 in
    let few = c.laws.ensures.refs.few in
    omega (arith, less, few)

pub returns-then-say_ref : goal.returns-then-say_ref
returns-then-say_ref g c =
    let server = g.R.ServedRepository.server c.args.self.now.repo in
    rw c.requires.next (ref_said server c.args.self.now.asked.asked c.args.self.now.ends c.args.self.now.goes_on c.args.at c.args.out.now c.say_ref.new.out
    (subst (λ s. SaysRefAt s c.args.self.now.asked.asked c.args.at c.args.out.now c.say_ref.new.out true) c.server-server.ensures c.if-say_ref.ensures))

pub returns-in-Plain : goal.returns-in-Plain
returns-in-Plain g c =
    let server = g.R.ServedRepository.server c.args.self.now.repo in
    rw c.requires.next (rw c.said_at_end.ensures (flush_at_end server c.args.self.now.asked.asked c.args.self.now.ends c.args.self.now.goes_on c.args.at
    c.args.out.now c.say_ref.new.out c.put_flush.new.self
    (subst (λ s. SaysRefAt s c.args.self.now.asked.asked c.args.at c.args.out.now c.say_ref.new.out false) c.server-server.ensures c.if-say_ref.ensures)
    c.in-Plain.is c.put_flush.ensures))

pub returns-in-Response : goal.returns-in-Response
returns-in-Response g c =
    let server = g.R.ServedRepository.server c.args.self.now.repo in
    rw c.requires.next (flush_before_end server c.args.self.now.asked.asked c.args.self.now.ends c.args.self.now.goes_on c.args.at
    c.args.out.now c.say_ref.new.out c.put_flush.new.self
    (subst (λ s. SaysRefAt s c.args.self.now.asked.asked c.args.at c.args.out.now c.say_ref.new.out false) c.server-server.ensures c.if-say_ref.ensures)
    c.in-Response.is c.put_flush.ensures)
