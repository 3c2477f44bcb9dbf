use Rattle.std.proofs.Common.{◌<◌, ℕ, List, [], ◌∷◌, ◌++◌, ◌∙◌, ap, codes, length, subst}
use Rattle.gpkt.specs.Packets.{Data, canonical, line_feed}
use Rattle.gserver.proofs.StepLemmas.{ack_said, acks_over, ids_from, no_ids_from, ready_said}
use Rattle.gserver.proofs.said.say_ack.Goals as goal

pub returns-in-Some : goal.returns-in-Some
returns-in-Some g c = λ ends goes_on.
    let lookup = c.in-Some.ensures.lookup in
    let less : c.args.at < length c.args.acks.ids = subst (λ (l : List (List ℕ)). c.args.at < length l) c.ids.ensures.ids lookup.3.0 in
    ack_said g.row.A.Denot g.R.PartPacker.gives g.R.PartPacker.most ends goes_on c.args.acks c.args.at c.args.pack c.in-Some.id.now
    c.args.out.now c.put_text.new.self less
    (ids_from c.args.acks.ids c.ids.result.now c.args.at c.in-Some.id.now c.ids.ensures.ids lookup.3.0 (lookup.3.1 c.in-Some.id.now))
    (c.put_text.ensures ∙ ap (λ (t : List ℕ). c.args.out.now ++ canonical (Data (codes "ACK " ++ t ++ line_feed ∷ []))) c.to_hex-count.ensures.text)

pub returns-in-Some-pack : goal.returns-in-Some-pack
returns-in-Some-pack g c = λ ends goes_on.
    ready_said g.row.A.Denot g.R.PartPacker.gives g.R.PartPacker.most ends goes_on c.args.acks c.args.at c.args.pack c.in-Some-pack.packer c.in-Some-pack.parts
    c.args.out.now c.put_text-in-Some-pack.new.self
    (no_ids_from c.args.acks.ids c.ids.result.now c.args.at c.ids.ensures.ids c.in_default.ensures.lookup.3)
    c.in-Some-pack.is c.put_text-in-Some-pack.ensures

pub returns : goal.returns
returns g c = λ ends goes_on.
    acks_over g.row.A.Denot g.R.PartPacker.gives g.R.PartPacker.most ends goes_on c.args.acks c.args.at c.args.pack
    c.args.out.now (no_ids_from c.args.acks.ids c.ids.result.now c.args.at c.ids.ensures.ids c.in_default.ensures.lookup.3) c.in-None.is
