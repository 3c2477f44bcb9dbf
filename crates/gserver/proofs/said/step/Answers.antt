use Rattle.std.proofs.Common.{ℕ, List, ◌++◌, ◌∙◌, ap, codes, false, refl, arith}
use Rattle.gpkt.specs.Packets.{Delim, canonical}
use Rattle.ggrammar.specs.Texts.{text_packet}
use Rattle.gserver.proofs.StepLemmas.{heading_said, last_one, puts_one, response_ended}
use Rattle.gserver.proofs.said.step.Goals as goal

pub returns-in-Refusal : goal.returns-in-Refusal
returns-in-Refusal g c = rw c.in-Refusal.is (last_one (text_packet (codes "ERR " ++ c.in-Refusal.text)) _ false c.args.out.now c.put_text.new.self
    (c.put_text.ensures ∙ ap (λ (t : List ℕ). c.args.out.now ++ canonical (text_packet (codes "ERR " ++ t))) c.as_bytes.ensures.bytes)
    (refl, refl))

pub returns-in-AckHeading : goal.returns-in-AckHeading
returns-in-AckHeading g c = rw c.in-AckHeading.is (heading_said g.row.A.Denot g.R.PartPacker.gives g.R.PartPacker.most c.args.ends c.args.goes_on c.in-AckHeading.acks c.in-AckHeading.pack c.after_heading.result c.args.out.now c.put_text-in-AckHeading.new.self c.after_heading.ensures c.put_text-in-AckHeading.ensures)

pub returns-in-Ack : goal.returns-in-Ack
returns-in-Ack g c = rw c.in-Ack.is (c.say_ack.ensures c.args.ends c.args.goes_on)

pub returns-in-Nak : goal.returns-in-Nak
returns-in-Nak g c = rw c.in-Nak.is (puts_one (text_packet (codes "NAK")) _ _ _ _ c.args.out.now c.put_text-in-Nak.new.self c.put_text-in-Nak.ensures (λ more goes h. record { rest = more; parts = refl; then = h }) (omega arith))

pub returns-in-Delim : goal.returns-in-Delim
returns-in-Delim g c = rw c.in-Delim.is (puts_one Delim _ _ _ _ c.args.out.now c.put_delim.new.self c.put_delim.ensures (λ more goes h. record { rest = more; parts = refl; then = h }) (omega arith))

pub returns-in-PackHeading : goal.returns-in-PackHeading
returns-in-PackHeading g c = rw c.in-PackHeading.is (puts_one (text_packet (codes "packfile")) _ _ _ _ c.args.out.now c.put_text-in-PackHeading.new.self c.put_text-in-PackHeading.ensures (λ more goes h. record { rest = more; parts = refl; then = h }) (omega arith))

pub returns-in-Pack : goal.returns-in-Pack
returns-in-Pack g c = rw c.in-Pack.is (c.say_pack.ensures c.args.ends c.args.goes_on)

pub returns-in-ResponseEnd : goal.returns-in-ResponseEnd
returns-in-ResponseEnd g c =
    rw c.in-ResponseEnd.is (rw c.end_of.ensures (response_ended g.row.A.Denot g.R.PartPacker.gives g.R.PartPacker.most c.args.ends c.args.goes_on
    c.args.out.now c.put_response_end.new.self c.put_response_end.ensures))
