use Rattle.std.proofs.Common.{◌++◌, ◌≤◌, length, [], ◌∷◌, codes, sym, ap, subst, ◌∙◌}
use Rattle.std.specs.Option.{option_copied}
use Rattle.gpkt.specs.Packets.{Data, line_feed}
use Rattle.gname.specs.Names.{max_name}
use Rattle.ggrammar.specs.Texts.{text_packet}
use Rattle.ggrammar.specs.Writing.{WritesPackets}
use Rattle.glsreply.specs.RefTexts.{unborn_text}
use Rattle.glsreply.specs.LsReplies.{unborn_packets}
use Rattle.glsreply.proofs.WritingLemmas.{unborn_line, unborn_fits}
use Rattle.glsreply.proofs.writer.write_unborn.Goals as goal

pub returns-in-Some-clause-lines : goal.returns-in-Some-clause-lines
returns-in-Some-clause-lines g c =
    let law = c.writes_packets.ensures in
    let name = c.as_bytes.result.now in
    let same = ap (λ target. unborn_packets (option_copied target)) c.in-Some.is
    ∙ (ap (λ bytes. text_packet (unborn_text bytes) ∷ []) (sym c.as_bytes.ensures.bytes) ∙ ap (λ line. line ∷ []) (sym (unborn_line name))) in
    let short = subst (λ bytes. length bytes ≤ max_name) (sym c.as_bytes.ensures.bytes) c.as_bytes.ensures.within in
    law.part _ _ _ _ (subst (λ lines. WritesPackets g.W.Sink.contents g.W.Sink.passed_on g.W.Sink.is_down g.W.Sink.loans c.args.writer.now c.text2.new.self c.text2.result lines) (sym same)
    (law.fitting _ _ _ (Data (codes "unborn HEAD symref-target:" ++ (name ++ line_feed ∷ []))) c.text2.ensures.written c.text2.ensures.too_long (unborn_fits name short)))
