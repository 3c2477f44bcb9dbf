use Rattle.std.proofs.Common.{◌++◌, ◌∷◌, [], map}
use Rattle.gpkt.specs.Packets.{Flush}
use Rattle.grequest.specs.declared.command.Command.TheVariants.{LsRefs}
use Rattle.grequest.specs.Arguments.{ls_flags}
use Rattle.grequest.specs.Asked.{Ls}
use Rattle.grequest.specs.RequestWriting.{canonical_request, prefix_packet, ls_argument_packets}
use Rattle.grequest.proofs.WriteLemmas.{head_first, flags_first, list_first, ls_arguments_first}
use Rattle.grequest.proofs.write.write_ls_refs.Goals as goal

pub returns-in_err-write_head : goal.returns-in_err-write_head
unfolding canonical_request
returns-in_err-write_head g c =
    let w0 = c.writes_packets.ensures.starts c.args.writer.now (canonical_request c.args.format (Ls c.args.request.now.asked)) in
    c.writes_packets.ensures.fails _ _ _ _ _ _ _ _ _ w0 (head_first c.args.format LsRefs c.args.request.now.asked.agent _ (ls_argument_packets c.args.request.now.asked) _ c.agent.ensures.agent (ls_arguments_first c.args.request.now.asked)) c.in_err-write_head.ensures c.from_residual.ensures.1

pub returns-in_err-write_flags : goal.returns-in_err-write_flags
unfolding canonical_request
returns-in_err-write_flags g c =
    let w0 = c.writes_packets.ensures.starts c.args.writer.now (canonical_request c.args.format (Ls c.args.request.now.asked)) in
    let w1 = c.writes_packets.ensures.goes_on _ _ _ _ _ _ _ w0 (head_first c.args.format LsRefs c.args.request.now.asked.agent _ (ls_argument_packets c.args.request.now.asked) _ c.agent.ensures.agent (ls_arguments_first c.args.request.now.asked)) c.in_ok-write_head.ensures in
    c.writes_packets.ensures.fails _ _ _ _ _ _ _ _ _ w1 (flags_first ls_flags c.args.request.now.asked.flags _ (map prefix_packet c.args.request.now.asked.prefixes ++ (Flush ∷ [])) c.flags.ensures) c.in_err-write_flags.ensures c.from_residual-in_err-write_flags.ensures.1

pub returns-in_err-write_prefixes : goal.returns-in_err-write_prefixes
unfolding canonical_request
returns-in_err-write_prefixes g c =
    let w0 = c.writes_packets.ensures.starts c.args.writer.now (canonical_request c.args.format (Ls c.args.request.now.asked)) in
    let w1 = c.writes_packets.ensures.goes_on _ _ _ _ _ _ _ w0 (head_first c.args.format LsRefs c.args.request.now.asked.agent _ (ls_argument_packets c.args.request.now.asked) _ c.agent.ensures.agent (ls_arguments_first c.args.request.now.asked)) c.in_ok-write_head.ensures in
    let w2 = c.writes_packets.ensures.after_part _ _ _ _ _ _ _ w1 (flags_first ls_flags c.args.request.now.asked.flags _ (map prefix_packet c.args.request.now.asked.prefixes ++ (Flush ∷ [])) c.flags.ensures) c.in_ok-write_flags.ensures in
    c.writes_packets.ensures.fails _ _ _ _ _ _ _ _ _ w2 (list_first prefix_packet c.args.request.now.asked.prefixes _ (Flush ∷ []) c.prefixes.ensures.prefixes) c.in_err-write_prefixes.ensures c.from_residual-in_err-write_prefixes.ensures.1

pub returns : goal.returns
unfolding canonical_request
returns g c =
    let w0 = c.writes_packets.ensures.starts c.args.writer.now (canonical_request c.args.format (Ls c.args.request.now.asked)) in
    let w1 = c.writes_packets.ensures.goes_on _ _ _ _ _ _ _ w0 (head_first c.args.format LsRefs c.args.request.now.asked.agent _ (ls_argument_packets c.args.request.now.asked) _ c.agent.ensures.agent (ls_arguments_first c.args.request.now.asked)) c.in_ok-write_head.ensures in
    let w2 = c.writes_packets.ensures.after_part _ _ _ _ _ _ _ w1 (flags_first ls_flags c.args.request.now.asked.flags _ (map prefix_packet c.args.request.now.asked.prefixes ++ (Flush ∷ [])) c.flags.ensures) c.in_ok-write_flags.ensures in
    let w3 = c.writes_packets.ensures.after_part _ _ _ _ _ _ _ w2 (list_first prefix_packet c.args.request.now.asked.prefixes _ (Flush ∷ []) c.prefixes.ensures.prefixes) c.in_ok-write_prefixes.ensures in
    c.writes_packets.ensures.ends _ _ _ _ _ _ w3 (c.writes_packets.ensures.line _ _ _ Flush c.flush_pkt.ensures.written c.flush_pkt.ensures.fits)
