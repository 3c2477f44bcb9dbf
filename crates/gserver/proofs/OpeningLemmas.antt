-- The start of a connection: the advertisement, or an error packet in its place.
use Rattle.std.proofs.Common.{◌≡◌, ◌<◌, ◌∙◌, ℕ, List, None, Result, Err, refl, sym, ap, subst, arith, inl, inr}
use Rattle.gname.specs.declared.formats.Format.{Format}
use Rattle.gpkt.specs.Sending.{Input, Output, IsUnread, Passes}
use Rattle.gpkt.specs.Packets.{canonical_all}
use Rattle.gpkt.specs.declared.fault.PacketFault.TheVariants.{Memory as NoBuffer}
use Rattle.ggrammar.specs.Capabilities.{Capability}
use Rattle.ggrammar.specs.declared.ends.Ends.{Ends}
use Rattle.ghello.specs.Adverts.{canonical_advert}
use Rattle.gobject.specs.Packs.{PackFails, Packs}
use Rattle.ganswer.specs.Adverts.{advertisement}
use Rattle.ganswer.specs.OnePack.{OnePack, packing_of_fault}
use Rattle.ganswer.specs.Servers.{Server}
use Rattle.ganswer.specs.declared.fault.ServeFault.{ServeFault}
use Rattle.ganswer.specs.declared.fault.ServeFault.TheVariants as serve
use Rattle.ganswer.specs.declared.one_pack.Packing.{Packing}
use Rattle.ganswer.specs.declared.one_pack.Packing.TheVariants.{Unasked}
use Rattle.gserver.specs.Conversations.{CannotBegin, Serves, advert, advert_packets}
use Rattle.gserver.specs.Conversations.{refusal as refusal_first}
use Rattle.gserver.specs.Exchanges.{LacksBuffer, RefusesAtOnce}
use Rattle.gserver.specs.Packings.{ReportsLastPacking, ReportsPacking}
use Rattle.gserver.specs.Refusals.{err_packets}
use Rattle.gserver.specs.declared.serving.End.{End}
use Rattle.gserver.specs.declared.serving.End.TheVariants as end
use Rattle.gserver.specs.declared.serving.ExchangeEnd.{ExchangeEnd}
use Rattle.gserver.specs.declared.serving.ExchangeEnd.TheVariants as exchange
use Rattle.gserver.specs.declared.lent_side.LentSide.{LentSide}
use Rattle.gserver.specs.steps.Connections.{Advertises, PassesPackets, RefusesFirst, ReportsRefusal}
use Rattle.gserver.specs.steps.Lending.{IsFresh}

-- writing the advertised capabilities is writing the advertisement
pub sent_advert : {E : Type 0} (format : Format) (capabilities : List Capability) (output : Output) (result : Result (Unit {0}) E)
    → capabilities ≡ advertisement format → PassesPackets output result (canonical_advert capabilities)
    → PassesPackets output result (advert_packets format)
unfolding advert_packets
sent_advert format capabilities output result is sent =
    subst (λ (said : List Capability). PassesPackets output result (canonical_advert said)) is sent

-- ---- a connection that ends at its start

module _ {A : Type 0} (server : Server A) (packs : Packs A) (fails : PackFails A) (ends : Ends) (input : Input) (output : Output) where
  -- the error packet of a refusal replaces the advertisement
  pub refused_first : (cause : ServeFault) (last : End) → CannotBegin input cause → RefusesFirst cause output last
      → Serves server packs fails ends input output 0 last
  refused_first cause (end.Refused reported) cannot h =
      let P : ServeFault → Type 0 = λ f. CannotBegin input f × Passes output (canonical_all (err_packets f)) in
      let both : P reported = subst P (sym h.0) (cannot, h.1) in
      inr (refl, both.0, both.1)
  refused_first cause end.WriteFailed cannot h = inr (err_packets cause, refl, refusal_first cause cannot, h.0, h.1)
  refused_first cause last cannot h = absurd h

  -- if the advertisement is not sent, the connection ends
  pub not_advertised : (last : End) → IsUnread input → Advertises server.graph.format output (Err last)
      → Serves server packs fails ends input output 0 last
  not_advertised (end.Refused reported) unread h = refused_first serve.Memory (end.Refused reported) unread h
  not_advertised end.WriteFailed unread (inl h) = refused_first serve.Memory end.WriteFailed unread h
  not_advertised end.WriteFailed unread (inr h) =
      inr (advert_packets server.graph.format, refl, advert unread, h.0, h.1)
  not_advertised last unread h = absurd h

-- ---- an exchange without memory for the buffers

pub refused_at_once : (input : Input) (output : Output) (ended : ExchangeEnd) → IsUnread input
    → ReportsRefusal (serve.Reader NoBuffer) output ended → RefusesAtOnce input output ended
refused_at_once input output (exchange.Refused reported) unread h =
    let P : ServeFault → Type 0 = λ f. LacksBuffer input f × Passes output (canonical_all (err_packets f)) in
    let lacks : LacksBuffer input (serve.Reader NoBuffer) = unread in
    subst P (sym h.0) (lacks, h.1)
refused_at_once input output exchange.WriteFailed unread h = (serve.Reader NoBuffer, unread, h.0, h.1)
refused_at_once input output _ unread h = absurd h

-- ---- the packer's last result

pub refused_packing : (fault : ServeFault) (output : Output) (ended : ExchangeEnd) (answered : Packing)
    → ReportsRefusal fault output ended → answered ≡ packing_of_fault fault → ReportsPacking ended answered
refused_packing fault output (exchange.Refused reported) answered h is = is ∙ ap packing_of_fault (sym h.0)
refused_packing fault output exchange.WriteFailed answered h is = tt
refused_packing fault output _ answered h is = absurd h

pub first_packing : (fault : ServeFault) (output : Output) (last : End) (answered : Packing)
    → RefusesFirst fault output last → answered ≡ packing_of_fault fault → ReportsLastPacking last answered
first_packing fault output (end.Refused reported) answered h is = is ∙ ap packing_of_fault (sym h.0)
first_packing fault output end.WriteFailed answered h is = tt
first_packing fault output last answered h is = absurd h

-- ---- the side before the first message

pub is_fresh : {A K : Type 0} (once : K → OnePack K) (side : LentSide A K) (packer : K) (most : ℕ) → 0 < most → side.packer.now ≡ packer → (once packer).answered ≡ Unasked
    → side.requests ≡ 0 → side.most ≡ most → side.closing ≡ None → IsFresh once side
is_fresh {K = K} once side packer most some is unasked requests own closing = record {
  ready = record {
    unasked = ap (λ (p : K). (once p).answered) is ∙ unasked;
    room = omega (arith, some, requests, own);
    unclosed = closing;
  };
  requests = requests;
}
