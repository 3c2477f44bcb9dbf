use Rattle.std.proofs.Common.{◌∙◌, inr, refl, sym, ap, subst, arith}
use Rattle.gpkt.specs.Sending.{input_of, output_of}
use Rattle.gpkt.specs.declared.fault.PacketFault.TheVariants.{Memory as NoBuffer}
use Rattle.ganswer.specs.declared.fault.ServeFault.TheVariants as serve
use Rattle.gserver.specs.Packings.{ReportsPacking}
use Rattle.gserver.proofs.OpeningLemmas.{is_fresh, refused_at_once, refused_packing}
use Rattle.gserver.proofs.ServingLemmas.{keeps_packer, reports_one, serves_one}
use Rattle.gserver.proofs.TalkLemmas.{talk_in_place}
use Rattle.gserver.proofs.serving.exchange.Goals as goal

pub returns-in-Err-clause-exchange : goal.returns-in-Err-clause-exchange
returns-in-Err-clause-exchange g c =
    inr (refused_at_once (input_of g.S.Source.remaining g.S.Source.is_down c.args.source.now c.args.source.now)
    (output_of g.W.Sink.contents g.W.Sink.passed_on g.W.Sink.is_down c.args.sink.now c.refuse_one.new.sink) c.refuse_one.result
    (record { read = refl; down = refl }) c.refuse_one.ensures.refused)

pub returns-in-Err-clause-packing : goal.returns-in-Err-clause-packing
returns-in-Err-clause-packing g c =
    refused_packing (serve.Reader NoBuffer) (output_of g.W.Sink.contents g.W.Sink.passed_on g.W.Sink.is_down c.args.sink.now c.refuse_one.new.sink)
    c.refuse_one.result (g.K.Recorded.once c.args.packer.now).answered c.refuse_one.ensures.refused c.requires.unasked

pub talk-driven-requires : goal.talk-driven-requires
talk-driven-requires g c =
    is_fresh g.K.Recorded.once c.new-side.result c.args.packer.now 1 (omega arith) c.new-side.ensures.packer c.requires.unasked c.new-side.ensures.requests c.new-side.ensures.most
    c.new-side.ensures.closing

pub returns-clause-exchange : goal.returns-clause-exchange
returns-clause-exchange g c =
    let input = input_of g.S.Source.remaining g.S.Source.is_down c.args.source.now c.talk-driven.new.source in
    let output = output_of g.W.Sink.contents g.W.Sink.passed_on g.W.Sink.is_down c.args.sink.now c.talk-driven.new.sink in
    serves_one g.K.Recorded.once g.K.Recorded.packs g.K.Recorded.fails c.args.server.now c.args.packer.now c.args.ends
    c.new-side.result c.talk-driven.result.1 c.new-side.ensures.server c.new-side.ensures.packer c.new-side.ensures.ends
    input output c.talk-driven.result.0 c.take_closing.result c.exchange_end-end.result c.new-side.ensures.most c.talk-driven.ensures.ends
    c.take_closing.ensures.closing c.exchange_end-end.ensures

pub returns-clause-packing : goal.returns-clause-packing
returns-clause-packing g c =
    let input = input_of g.S.Source.remaining g.S.Source.is_down c.args.source.now c.talk-driven.new.source in
    let output = output_of g.W.Sink.contents g.W.Sink.passed_on g.W.Sink.is_down c.args.sink.now c.talk-driven.new.sink in
    let name =
    sym (c.into_packer-packer.ensures.in_place ∙ (c.take_closing.ensures.in_place
    ∙ (talk_in_place g.K.Recorded.once g.K.Recorded.packs g.K.Recorded.fails c.new-side.result input output c.talk-driven.result.1 c.talk-driven.result.0 c.talk-driven.ensures.ends
    ∙ c.new-side.ensures.in_place))) in
    subst (λ (p : g.row.K.Denot). ReportsPacking c.exchange_end-end.result (g.K.Recorded.once p).answered)
    (sym (c.packer-1.given.1 name ∙ (c.into_packer-packer.ensures.value ∙ c.take_closing.ensures.packer)))
    (reports_one g.K.Recorded.once g.K.Recorded.packs g.K.Recorded.fails c.args.server.now c.args.packer.now c.args.ends
    c.new-side.result c.talk-driven.result.1 c.new-side.ensures.server c.new-side.ensures.packer c.new-side.ensures.ends
    input output c.talk-driven.result.0 c.take_closing.result c.exchange_end-end.result c.talk-driven.ensures.ends
    c.take_closing.ensures.closing c.exchange_end-end.ensures)

pub returns-clause-packer : goal.returns-clause-packer
returns-clause-packer g c =
    let input = input_of g.S.Source.remaining g.S.Source.is_down c.args.source.now c.talk-driven.new.source in
    let output = output_of g.W.Sink.contents g.W.Sink.passed_on g.W.Sink.is_down c.args.sink.now c.talk-driven.new.sink in
    let name =
    sym (c.into_packer-packer.ensures.in_place ∙ (c.take_closing.ensures.in_place
    ∙ (talk_in_place g.K.Recorded.once g.K.Recorded.packs g.K.Recorded.fails c.new-side.result input output c.talk-driven.result.1 c.talk-driven.result.0 c.talk-driven.ensures.ends
    ∙ c.new-side.ensures.in_place))) in
    ap (λ (p : g.row.K.Denot). (g.K.Recorded.once p).packer) (c.packer-1.given.1 name ∙ (c.into_packer-packer.ensures.value ∙ c.take_closing.ensures.packer))
    ∙ keeps_packer g.K.Recorded.once g.K.Recorded.packs g.K.Recorded.fails c.args.server.now c.args.packer.now c.args.ends
    c.new-side.result c.talk-driven.result.1 c.new-side.ensures.server c.new-side.ensures.packer c.new-side.ensures.ends
    input output c.talk-driven.result.0 c.talk-driven.ensures.ends
