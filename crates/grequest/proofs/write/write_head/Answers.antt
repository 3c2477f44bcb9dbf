use Rattle.std.proofs.Common.{◌++◌, ◌∷◌, [], ◌∙◌, List, ap, sym, refl, codes, append_assoc}
use Rattle.std.specs.Option.{option_copied}
use Rattle.gpkt.specs.Packets.{Packet, Delim}
use Rattle.ggrammar.specs.Texts.{text_packet}
use Rattle.grequest.specs.RequestWriting.{command_packet, agent_packets, format_packets}
use Rattle.grequest.proofs.write.write_head.Goals as goal

pub returns-in_err-write_text : goal.returns-in_err-write_text
returns-in_err-write_text g c =
    let w0 = c.writes_packets.ensures.starts c.args.writer.now (command_packet c.args.command ∷ (agent_packets (option_copied c.args.agent) ++ format_packets c.args.format ++ Delim ∷ [])) in
    c.writes_packets.ensures.fails _ _ _ _ _ _ _ _ _ w0 (ap (λ name. text_packet (codes "command=" ++ name) ∷ (agent_packets (option_copied c.args.agent) ++ format_packets c.args.format ++ Delim ∷ [])) (sym (c.as_bytes.ensures.value ∙ c.name.ensures)) ∙ ap (λ (xs : List Packet). text_packet (codes "command=" ++ c.as_bytes.result.now) ∷ xs) (append_assoc (agent_packets (option_copied c.args.agent)) (format_packets c.args.format) (Delim ∷ []))) c.in_err-write_text.ensures c.from_residual.ensures.1

pub returns-in_err-write_agent : goal.returns-in_err-write_agent
returns-in_err-write_agent g c =
    let w0 = c.writes_packets.ensures.starts c.args.writer.now (command_packet c.args.command ∷ (agent_packets (option_copied c.args.agent) ++ format_packets c.args.format ++ Delim ∷ [])) in
    let w1 = c.writes_packets.ensures.goes_on _ _ _ _ _ _ _ w0 (ap (λ name. text_packet (codes "command=" ++ name) ∷ (agent_packets (option_copied c.args.agent) ++ format_packets c.args.format ++ Delim ∷ [])) (sym (c.as_bytes.ensures.value ∙ c.name.ensures)) ∙ ap (λ (xs : List Packet). text_packet (codes "command=" ++ c.as_bytes.result.now) ∷ xs) (append_assoc (agent_packets (option_copied c.args.agent)) (format_packets c.args.format) (Delim ∷ []))) c.in_ok-write_text.ensures in
    c.writes_packets.ensures.fails _ _ _ _ _ _ _ _ _ w1 refl c.in_err-write_agent.ensures c.from_residual-in_err-write_agent.ensures.1

pub returns-in_err-write_format : goal.returns-in_err-write_format
returns-in_err-write_format g c =
    let w0 = c.writes_packets.ensures.starts c.args.writer.now (command_packet c.args.command ∷ (agent_packets (option_copied c.args.agent) ++ format_packets c.args.format ++ Delim ∷ [])) in
    let w1 = c.writes_packets.ensures.goes_on _ _ _ _ _ _ _ w0 (ap (λ name. text_packet (codes "command=" ++ name) ∷ (agent_packets (option_copied c.args.agent) ++ format_packets c.args.format ++ Delim ∷ [])) (sym (c.as_bytes.ensures.value ∙ c.name.ensures)) ∙ ap (λ (xs : List Packet). text_packet (codes "command=" ++ c.as_bytes.result.now) ∷ xs) (append_assoc (agent_packets (option_copied c.args.agent)) (format_packets c.args.format) (Delim ∷ []))) c.in_ok-write_text.ensures in
    let w2 = c.writes_packets.ensures.after_part _ _ _ _ _ _ _ w1 refl c.in_ok-write_agent.ensures in
    c.writes_packets.ensures.fails _ _ _ _ _ _ _ _ _ w2 refl c.in_err-write_format.ensures c.from_residual-in_err-write_format.ensures.1

pub returns : goal.returns
returns g c =
    let w0 = c.writes_packets.ensures.starts c.args.writer.now (command_packet c.args.command ∷ (agent_packets (option_copied c.args.agent) ++ format_packets c.args.format ++ Delim ∷ [])) in
    let w1 = c.writes_packets.ensures.goes_on _ _ _ _ _ _ _ w0 (ap (λ name. text_packet (codes "command=" ++ name) ∷ (agent_packets (option_copied c.args.agent) ++ format_packets c.args.format ++ Delim ∷ [])) (sym (c.as_bytes.ensures.value ∙ c.name.ensures)) ∙ ap (λ (xs : List Packet). text_packet (codes "command=" ++ c.as_bytes.result.now) ∷ xs) (append_assoc (agent_packets (option_copied c.args.agent)) (format_packets c.args.format) (Delim ∷ []))) c.in_ok-write_text.ensures in
    let w2 = c.writes_packets.ensures.after_part _ _ _ _ _ _ _ w1 refl c.in_ok-write_agent.ensures in
    let w3 = c.writes_packets.ensures.after_part _ _ _ _ _ _ _ w2 refl c.in_ok-write_format.ensures in
    c.writes_packets.ensures.ends _ _ _ _ _ _ w3 (c.writes_packets.ensures.line _ _ _ Delim c.delim.ensures.written c.delim.ensures.fits)
