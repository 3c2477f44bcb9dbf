use Rattle.std.proofs.Common.{◌++◌, ◌∷◌, [], false, codes, map}
use Rattle.gpkt.specs.Packets.{Flush}
use Rattle.grequest.specs.declared.command.Command.TheVariants.{Fetch}
use Rattle.grequest.specs.declared.flag.FetchFlag.TheVariants.{Done}
use Rattle.grequest.specs.Arguments.{fetch_flags}
use Rattle.grequest.specs.Asked.{Fetches, fetch_has, fetch_with}
use Rattle.grequest.specs.RequestWriting.{canonical_request, flag_packets, id_packet, fetch_argument_packets}
use Rattle.grequest.proofs.WriteLemmas.{head_first, flag_first, flags_first, list_first, fetch_arguments_first}
use Rattle.grequest.proofs.write.write_fetch.Goals as goal

pub returns-in_err-write_head : goal.returns-in_err-write_head
unfolding canonical_request
returns-in_err-write_head g c =
    let w0 = c.writes_packets.ensures.starts c.args.writer.now (canonical_request c.args.format (Fetches c.args.request.now.asked)) in
    c.writes_packets.ensures.fails _ _ _ _ _ _ _ _ _ w0 (head_first c.args.format Fetch c.args.request.now.asked.agent _ (fetch_argument_packets c.args.request.now.asked) _ c.agent.ensures.agent (fetch_arguments_first c.args.request.now.asked)) c.in_err-write_head.ensures c.from_residual.ensures.1

pub returns-in_err-write_flags : goal.returns-in_err-write_flags
unfolding canonical_request
returns-in_err-write_flags g c =
    let w0 = c.writes_packets.ensures.starts c.args.writer.now (canonical_request c.args.format (Fetches c.args.request.now.asked)) in
    let w1 = c.writes_packets.ensures.goes_on _ _ _ _ _ _ _ w0 (head_first c.args.format Fetch c.args.request.now.asked.agent _ (fetch_argument_packets c.args.request.now.asked) _ c.agent.ensures.agent (fetch_arguments_first c.args.request.now.asked)) c.in_ok-write_head.ensures in
    c.writes_packets.ensures.fails _ _ _ _ _ _ _ _ _ w1 (flags_first fetch_flags (fetch_with c.args.request.now.asked Done false).flags _ (map (id_packet (codes "want ")) c.args.request.now.asked.wants ++ (map (id_packet (codes "have ")) c.args.request.now.asked.haves ++ (flag_packets (codes "done") (fetch_has c.args.request.now.asked Done) ++ (Flush ∷ [])))) c.early_flags.ensures) c.in_err-write_flags.ensures c.from_residual-in_err-write_flags.ensures.1

pub returns-in_err-write_ids : goal.returns-in_err-write_ids
unfolding canonical_request
returns-in_err-write_ids g c =
    let w0 = c.writes_packets.ensures.starts c.args.writer.now (canonical_request c.args.format (Fetches c.args.request.now.asked)) in
    let w1 = c.writes_packets.ensures.goes_on _ _ _ _ _ _ _ w0 (head_first c.args.format Fetch c.args.request.now.asked.agent _ (fetch_argument_packets c.args.request.now.asked) _ c.agent.ensures.agent (fetch_arguments_first c.args.request.now.asked)) c.in_ok-write_head.ensures in
    let w2 = c.writes_packets.ensures.after_part _ _ _ _ _ _ _ w1 (flags_first fetch_flags (fetch_with c.args.request.now.asked Done false).flags _ (map (id_packet (codes "want ")) c.args.request.now.asked.wants ++ (map (id_packet (codes "have ")) c.args.request.now.asked.haves ++ (flag_packets (codes "done") (fetch_has c.args.request.now.asked Done) ++ (Flush ∷ [])))) c.early_flags.ensures) c.in_ok-write_flags.ensures in
    c.writes_packets.ensures.fails _ _ _ _ _ _ _ _ _ w2 (list_first (id_packet (codes "want ")) c.args.request.now.asked.wants _ (map (id_packet (codes "have ")) c.args.request.now.asked.haves ++ (flag_packets (codes "done") (fetch_has c.args.request.now.asked Done) ++ (Flush ∷ []))) c.wants.ensures.wants) c.in_err-write_ids.ensures c.from_residual-in_err-write_ids.ensures.1

pub returns-in_err-write_ids-2 : goal.returns-in_err-write_ids-2
unfolding canonical_request
returns-in_err-write_ids-2 g c =
    let w0 = c.writes_packets.ensures.starts c.args.writer.now (canonical_request c.args.format (Fetches c.args.request.now.asked)) in
    let w1 = c.writes_packets.ensures.goes_on _ _ _ _ _ _ _ w0 (head_first c.args.format Fetch c.args.request.now.asked.agent _ (fetch_argument_packets c.args.request.now.asked) _ c.agent.ensures.agent (fetch_arguments_first c.args.request.now.asked)) c.in_ok-write_head.ensures in
    let w2 = c.writes_packets.ensures.after_part _ _ _ _ _ _ _ w1 (flags_first fetch_flags (fetch_with c.args.request.now.asked Done false).flags _ (map (id_packet (codes "want ")) c.args.request.now.asked.wants ++ (map (id_packet (codes "have ")) c.args.request.now.asked.haves ++ (flag_packets (codes "done") (fetch_has c.args.request.now.asked Done) ++ (Flush ∷ [])))) c.early_flags.ensures) c.in_ok-write_flags.ensures in
    let w3 = c.writes_packets.ensures.after_part _ _ _ _ _ _ _ w2 (list_first (id_packet (codes "want ")) c.args.request.now.asked.wants _ (map (id_packet (codes "have ")) c.args.request.now.asked.haves ++ (flag_packets (codes "done") (fetch_has c.args.request.now.asked Done) ++ (Flush ∷ []))) c.wants.ensures.wants) c.in_ok-write_ids.ensures in
    c.writes_packets.ensures.fails _ _ _ _ _ _ _ _ _ w3 (list_first (id_packet (codes "have ")) c.args.request.now.asked.haves _ (flag_packets (codes "done") (fetch_has c.args.request.now.asked Done) ++ (Flush ∷ [])) c.haves.ensures.haves) c.in_err-write_ids-2.ensures c.from_residual-in_err-write_ids-2.ensures.1

pub returns-in_err-write_flag : goal.returns-in_err-write_flag
unfolding canonical_request
returns-in_err-write_flag g c =
    let w0 = c.writes_packets.ensures.starts c.args.writer.now (canonical_request c.args.format (Fetches c.args.request.now.asked)) in
    let w1 = c.writes_packets.ensures.goes_on _ _ _ _ _ _ _ w0 (head_first c.args.format Fetch c.args.request.now.asked.agent _ (fetch_argument_packets c.args.request.now.asked) _ c.agent.ensures.agent (fetch_arguments_first c.args.request.now.asked)) c.in_ok-write_head.ensures in
    let w2 = c.writes_packets.ensures.after_part _ _ _ _ _ _ _ w1 (flags_first fetch_flags (fetch_with c.args.request.now.asked Done false).flags _ (map (id_packet (codes "want ")) c.args.request.now.asked.wants ++ (map (id_packet (codes "have ")) c.args.request.now.asked.haves ++ (flag_packets (codes "done") (fetch_has c.args.request.now.asked Done) ++ (Flush ∷ [])))) c.early_flags.ensures) c.in_ok-write_flags.ensures in
    let w3 = c.writes_packets.ensures.after_part _ _ _ _ _ _ _ w2 (list_first (id_packet (codes "want ")) c.args.request.now.asked.wants _ (map (id_packet (codes "have ")) c.args.request.now.asked.haves ++ (flag_packets (codes "done") (fetch_has c.args.request.now.asked Done) ++ (Flush ∷ []))) c.wants.ensures.wants) c.in_ok-write_ids.ensures in
    let w4 = c.writes_packets.ensures.after_part _ _ _ _ _ _ _ w3 (list_first (id_packet (codes "have ")) c.args.request.now.asked.haves _ (flag_packets (codes "done") (fetch_has c.args.request.now.asked Done) ++ (Flush ∷ [])) c.haves.ensures.haves) c.in_ok-write_ids-2.ensures in
    c.writes_packets.ensures.fails _ _ _ _ _ _ _ _ _ w4 (flag_first (codes "done") (fetch_has c.args.request.now.asked Done) _ (Flush ∷ []) c.has.ensures) c.in_err-write_flag.ensures c.from_residual-in_err-write_flag.ensures.1

pub returns : goal.returns
unfolding canonical_request
returns g c =
    let w0 = c.writes_packets.ensures.starts c.args.writer.now (canonical_request c.args.format (Fetches c.args.request.now.asked)) in
    let w1 = c.writes_packets.ensures.goes_on _ _ _ _ _ _ _ w0 (head_first c.args.format Fetch c.args.request.now.asked.agent _ (fetch_argument_packets c.args.request.now.asked) _ c.agent.ensures.agent (fetch_arguments_first c.args.request.now.asked)) c.in_ok-write_head.ensures in
    let w2 = c.writes_packets.ensures.after_part _ _ _ _ _ _ _ w1 (flags_first fetch_flags (fetch_with c.args.request.now.asked Done false).flags _ (map (id_packet (codes "want ")) c.args.request.now.asked.wants ++ (map (id_packet (codes "have ")) c.args.request.now.asked.haves ++ (flag_packets (codes "done") (fetch_has c.args.request.now.asked Done) ++ (Flush ∷ [])))) c.early_flags.ensures) c.in_ok-write_flags.ensures in
    let w3 = c.writes_packets.ensures.after_part _ _ _ _ _ _ _ w2 (list_first (id_packet (codes "want ")) c.args.request.now.asked.wants _ (map (id_packet (codes "have ")) c.args.request.now.asked.haves ++ (flag_packets (codes "done") (fetch_has c.args.request.now.asked Done) ++ (Flush ∷ []))) c.wants.ensures.wants) c.in_ok-write_ids.ensures in
    let w4 = c.writes_packets.ensures.after_part _ _ _ _ _ _ _ w3 (list_first (id_packet (codes "have ")) c.args.request.now.asked.haves _ (flag_packets (codes "done") (fetch_has c.args.request.now.asked Done) ++ (Flush ∷ [])) c.haves.ensures.haves) c.in_ok-write_ids-2.ensures in
    let w5 = c.writes_packets.ensures.after_part _ _ _ _ _ _ _ w4 (flag_first (codes "done") (fetch_has c.args.request.now.asked Done) _ (Flush ∷ []) c.has.ensures) c.in_ok-write_flag.ensures in
    c.writes_packets.ensures.ends _ _ _ _ _ _ w5 (c.writes_packets.ensures.line _ _ _ Flush c.flush_pkt.ensures.written c.flush_pkt.ensures.fits)
