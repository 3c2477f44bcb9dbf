use Rattle.std.proofs.Common.{◌∙◌, Bool, ◌++◌, ap, codes}
use Rattle.gpkt.specs.Packets.{canonical_all}
use Rattle.grequest.specs.RequestWriting.{flag_packets}
use Rattle.gfetch.proofs.SayingLemmas.{four_said}
use Rattle.gfetch.proofs.asking.say_fetch_flags.Goals as goal

pub returns : goal.returns
returns g c =
    let asked = c.args.asked.now.asked in
    four_said
    (flag_packets (codes "thin-pack") asked.flags.0)
    (flag_packets (codes "no-progress") asked.flags.1.0)
    (flag_packets (codes "include-tag") asked.flags.1.1.0)
    (flag_packets (codes "ofs-delta") asked.flags.1.1.1.0)
    c.args.out.now c.say_flag.new.out c.say_flag-2.new.out c.say_flag-3.new.out c.say_flag-4.new.out c.requires
    (c.say_flag.ensures.said ∙ ap (λ (b : Bool). c.args.out.now ++ canonical_all (flag_packets (codes "thin-pack") b)) c.has.ensures)
    (c.say_flag-2.ensures.said ∙ ap (λ (b : Bool). c.say_flag.new.out ++ canonical_all (flag_packets (codes "no-progress") b)) c.has-2.ensures)
    (c.say_flag-3.ensures.said ∙ ap (λ (b : Bool). c.say_flag-2.new.out ++ canonical_all (flag_packets (codes "include-tag") b)) c.has-3.ensures)
    (c.say_flag-4.ensures.said ∙ ap (λ (b : Bool). c.say_flag-3.new.out ++ canonical_all (flag_packets (codes "ofs-delta") b)) c.has-4.ensures)
