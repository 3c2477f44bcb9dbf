use Rattle.std.proofs.Common.{◌∙◌, refl, sym, ap, subst, arith}
use Rattle.gpkt.specs.Sending.{input_of, output_of}
use Rattle.gpkt.specs.declared.fault.PacketFault.TheVariants.{Memory as NoBuffer}
use Rattle.ganswer.specs.declared.fault.ServeFault.TheVariants as serve
use Rattle.gserver.specs.Packings.{ReportsLastPacking}
use Rattle.gserver.specs.Serving.{max_requests}
use Rattle.gserver.proofs.OpeningLemmas.{first_packing, is_fresh, not_advertised, refused_first}
use Rattle.gserver.proofs.ServingLemmas.{keeps_packer, reports_last, serves_rest}
use Rattle.gserver.proofs.TalkLemmas.{talk_in_place}
use Rattle.gserver.proofs.serving.converse.Goals as goal

pub returns-in-Err-clause-serves : goal.returns-in-Err-clause-serves
returns-in-Err-clause-serves g c =
    refused_first c.args.server.now (g.K.Recorded.packs (g.K.Recorded.once c.args.packer.now).packer) (g.K.Recorded.fails (g.K.Recorded.once c.args.packer.now).packer) c.args.ends
    (input_of g.S.Source.remaining g.S.Source.is_down c.args.source.now c.args.source.now)
    (output_of g.W.Sink.contents g.W.Sink.passed_on g.W.Sink.is_down c.args.sink.now c.refuse_first-end.new.sink)
    (serve.Reader NoBuffer) c.refuse_first-end.result (record { read = refl; down = refl }) c.refuse_first-end.ensures.refused

pub returns-in-Err-clause-packing : goal.returns-in-Err-clause-packing
returns-in-Err-clause-packing g c =
    first_packing (serve.Reader NoBuffer) (output_of g.W.Sink.contents g.W.Sink.passed_on g.W.Sink.is_down c.args.sink.now c.refuse_first-end.new.sink)
    c.refuse_first-end.result (g.K.Recorded.once c.args.packer.now).answered c.refuse_first-end.ensures.refused c.requires.unasked

pub returns-in-Err-advertise-clause-serves : goal.returns-in-Err-advertise-clause-serves
returns-in-Err-advertise-clause-serves g c =
    not_advertised c.args.server.now (g.K.Recorded.packs (g.K.Recorded.once c.args.packer.now).packer) (g.K.Recorded.fails (g.K.Recorded.once c.args.packer.now).packer) c.args.ends
    (input_of g.S.Source.remaining g.S.Source.is_down c.args.source.now c.args.source.now)
    (output_of g.W.Sink.contents g.W.Sink.passed_on g.W.Sink.is_down c.args.sink.now c.advertise.new.sink)
    c.in-Err-advertise.end (record { read = refl; down = refl }) c.in-Err-advertise.ensures.advertises

pub talk-driven-requires : goal.talk-driven-requires
talk-driven-requires g c =
    is_fresh g.K.Recorded.once c.new-side.result c.args.packer.now max_requests (omega arith) c.new-side.ensures.packer c.requires.unasked c.new-side.ensures.requests c.new-side.ensures.most
    c.new-side.ensures.closing

pub returns-in-Ok-advertise-clause-serves : goal.returns-in-Ok-advertise-clause-serves
returns-in-Ok-advertise-clause-serves g c =
    let input = input_of g.S.Source.remaining g.S.Source.is_down c.args.source.now c.talk-driven.new.source in
    serves_rest g.K.Recorded.once g.K.Recorded.packs g.K.Recorded.fails c.args.server.now c.args.packer.now c.args.ends
    c.new-side.result c.talk-driven.result.1 c.new-side.ensures.server c.new-side.ensures.packer c.new-side.ensures.ends
    g.W.Sink.contents g.W.Sink.passed_on g.W.Sink.is_down c.args.sink.now c.advertise.new.sink c.talk-driven.new.sink
    input c.talk-driven.result.0 c.take_closing.result c.earlier.result c.requests.result c.flushed_replies-requests.result c.connection_end-end.result
    c.new-side.ensures.most c.in-Ok-advertise.ensures.advertises c.talk-driven.ensures.ends
    c.take_closing.ensures.closing c.connection_end-end.ensures c.earlier.ensures c.requests.ensures c.flushed_replies-requests.ensures

pub returns-in-Ok-advertise-clause-packing : goal.returns-in-Ok-advertise-clause-packing
returns-in-Ok-advertise-clause-packing g c =
    let input = input_of g.S.Source.remaining g.S.Source.is_down c.args.source.now c.talk-driven.new.source in
    let output = output_of g.W.Sink.contents g.W.Sink.passed_on g.W.Sink.is_down c.advertise.new.sink c.talk-driven.new.sink in
    let name =
    sym (c.into_packer-packer.ensures.in_place ∙ (c.take_closing.ensures.in_place
    ∙ (talk_in_place g.K.Recorded.once g.K.Recorded.packs g.K.Recorded.fails c.new-side.result input output c.talk-driven.result.1 c.talk-driven.result.0 c.talk-driven.ensures.ends
    ∙ c.new-side.ensures.in_place))) in
    subst (λ (p : g.row.K.Denot). ReportsLastPacking c.connection_end-end.result (g.K.Recorded.once p).answered)
    (sym (c.packer-1.given.1 name ∙ (c.into_packer-packer.ensures.value ∙ c.take_closing.ensures.packer)))
    (reports_last g.K.Recorded.once g.K.Recorded.packs g.K.Recorded.fails c.args.server.now c.args.packer.now c.args.ends
    c.new-side.result c.talk-driven.result.1 c.new-side.ensures.server c.new-side.ensures.packer c.new-side.ensures.ends
    input output c.talk-driven.result.0 c.take_closing.result c.connection_end-end.result c.talk-driven.ensures.ends
    c.take_closing.ensures.closing c.connection_end-end.ensures)

pub returns-in-Ok-advertise-clause-packer : goal.returns-in-Ok-advertise-clause-packer
returns-in-Ok-advertise-clause-packer g c =
    let input = input_of g.S.Source.remaining g.S.Source.is_down c.args.source.now c.talk-driven.new.source in
    let output = output_of g.W.Sink.contents g.W.Sink.passed_on g.W.Sink.is_down c.advertise.new.sink c.talk-driven.new.sink in
    let name =
    sym (c.into_packer-packer.ensures.in_place ∙ (c.take_closing.ensures.in_place
    ∙ (talk_in_place g.K.Recorded.once g.K.Recorded.packs g.K.Recorded.fails c.new-side.result input output c.talk-driven.result.1 c.talk-driven.result.0 c.talk-driven.ensures.ends
    ∙ c.new-side.ensures.in_place))) in
    ap (λ (p : g.row.K.Denot). (g.K.Recorded.once p).packer) (c.packer-1.given.1 name ∙ (c.into_packer-packer.ensures.value ∙ c.take_closing.ensures.packer))
    ∙ keeps_packer g.K.Recorded.once g.K.Recorded.packs g.K.Recorded.fails c.args.server.now c.args.packer.now c.args.ends
    c.new-side.result c.talk-driven.result.1 c.new-side.ensures.server c.new-side.ensures.packer c.new-side.ensures.ends
    input output c.talk-driven.result.0 c.talk-driven.ensures.ends
