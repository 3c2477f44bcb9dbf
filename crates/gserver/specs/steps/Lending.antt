-- The server's end of a dialogue with a borrowed server and a borrowed packer: its answers, and the end of its
-- dialogue.
use Rattle.std.specs.Prelude.{◌≡◌, ◌≢◌, ◌⊎◌, ◌+◌, ◌<◌, ℕ, Bool, true, false, nat_lt, List, [], ◌++◌, length, drop, Option}
use Rattle.std.specs.Prelude.{Some, None, Result, Ok, Err, flat_map}
use Rattle.std.specs.Io.KnownBytes.{Appends}
use Rattle.gobject.specs.Packs.{PackFails, Packs}
use Rattle.gparts.specs.Parts.{Gives}
use Rattle.gpkt.specs.Devices.{KeepsPassed}
use Rattle.gpkt.specs.Packets.{Bytes, Packet, canonical_all}
use Rattle.gpkt.specs.Sending.{Input, IsUnwritten, Output, Passes, rest_of}
use Rattle.ggrammar.specs.Grammar.{Judge}
use Rattle.ggrammar.specs.Limits.{profile}
use Rattle.ggrammar.specs.declared.ends.Ends.{Ends}
use Rattle.ggrammar.specs.declared.fault.MessageFault.{MessageFault}
use Rattle.ggrammar.specs.declared.fault.Why.TheVariants as why
use Rattle.grequest.specs.Asked.{Asked, Empty}
use Rattle.grequest.specs.Requests.{Says, judge}
use Rattle.grequest.specs.steps.RequestState.{HoldsPackets, RequestSoFar}
use Rattle.ganswer.specs.Answers.{Answers, Reply}
use Rattle.ganswer.specs.OnePack.{OnePack, packing_of_fault}
use Rattle.ganswer.specs.Servers.{Server}
use Rattle.ganswer.specs.declared.fault.ServeFault.{ServeFault}
use Rattle.ganswer.specs.declared.fault.ServeFault.TheVariants as serve
use Rattle.ganswer.specs.declared.one_pack.Packing.TheVariants.{Unasked}
use Rattle.gtalk.specs.Connections.{PassesBytes}
use Rattle.gtalk.specs.declared.fault.TalkFault.{TalkFault}
use Rattle.gtalk.specs.declared.fault.TalkFault.TheVariants.{Io, Memory}
use Rattle.gdialogue.specs.Sides.{SaysNothing}
use Rattle.gserver.specs.Exchanges.{Declines, IsRefused, ReadsEmpty, ReadsEnd, ReadsTurn, ReadsTurns, Turn, reply_packets}
use Rattle.gserver.specs.Refusals.{err_packets}
use Rattle.gserver.specs.declared.lent.Lent.{Lent}
use Rattle.gserver.specs.declared.lent_side.Closing.{Closing}
use Rattle.gserver.specs.declared.lent_side.Closing.TheVariants as closes
use Rattle.gserver.specs.declared.lent_side.LentSide.{LentSide}
use Rattle.gserver.specs.declared.serving.End.{End}
use Rattle.gserver.specs.declared.serving.End.TheVariants as end
use Rattle.gserver.specs.declared.serving.ExchangeEnd.{ExchangeEnd}
use Rattle.gserver.specs.declared.serving.ExchangeEnd.TheVariants as exchange

-- ---- the pack of a reply

-- the bytes of the pack after the first `given` bytes, without a fault
abbrev pub gives_of : Bytes → ℕ → Gives
gives_of pack given bytes end = (bytes ≡ drop given pack) × (end ≡ None)

abbrev pub server_of : {A : Type 0} → Lent A → Server A
server_of lent = lent.server.now

abbrev pub gives_lent : {A : Type 0} → Lent A → ℕ → Gives
gives_lent lent given = gives_of lent.pack given

-- ---- the state of a side

-- the parts of a side that never change
pub record Parts (A K : Type 0) : Type 0 where
  pub server : Server A
  pub packer : K
  pub ends : Ends
  pub most : ℕ

abbrev pub judge_lent : {A K : Type 0} → LentSide A K → Judge
judge_lent side = judge profile side.server.now.graph.format

-- the message is a request within the default limits, and consists of exactly these packets so far
pub record HearsRequest {A K : Type 0} (side : LentSide A K) (message : RequestSoFar) (packets : List Packet) : Type 0 where
  pub judged : judge message.limits message.format ≡ judge_lent side
  pub held : HoldsPackets message packets

-- `once` gives the packer before it is asked for a pack, and its last result
module _ {A K : Type 0} (once : K → OnePack K) where
  abbrev pub parts_of : LentSide A K → Parts A K
  parts_of side = record {
    server = side.server.now;
    packer = (once side.packer.now).packer;
    ends = side.ends;
    most = side.most;
  }

  pub record KeepsParts (old new : LentSide A K) : Type 0 where
    pub server : new.server.now ≡ old.server.now
    pub packer : (once new.packer.now).packer ≡ (once old.packer.now).packer
    pub in_place : new.packer.ghost_name ≡ old.packer.ghost_name
    pub ends : new.ends ≡ old.ends
    pub most : new.most ≡ old.most

  -- each message was answered with a reply, and the connection accepts another request
  pub record IsReady (side : LentSide A K) : Type 0 where
    pub unasked : (once side.packer.now).answered ≡ Unasked
    pub room : side.requests < side.most
    pub unclosed : side.closing ≡ None

  -- a side that has received no message
  pub record IsFresh (side : LentSide A K) : Type 0 where
    pub ready : IsReady side
    pub requests : side.requests ≡ 0

  abbrev pub OpensLent : LentSide A K → List Packet → Bool → Type 0
  OpensLent side said goes = IsFresh side × SaysNothing said goes

  -- ---- the answers

  -- a reply is counted
  pub record CountsReply (old new : LentSide A K) : Type 0 where
    pub counts : old.requests < old.most → new.requests ≡ old.requests + 1
    pub earlier : new.earlier ≡ old.requests
    pub packer : new.packer.now ≡ old.packer.now
    pub closing : new.closing ≡ old.closing
    pub keeps : KeepsParts old new

  -- the dialogue ends without a reply
  pub record ClosesAs (how : Closing) (old new : LentSide A K) : Type 0 where
    pub closing : new.closing ≡ Some how
    pub earlier : new.earlier ≡ old.requests
    pub requests : new.requests ≡ old.requests
    pub packer : new.packer.now ≡ old.packer.now
    pub keeps : KeepsParts old new

  -- the packer may be asked for a pack, and nothing else changes
  pub record AsksPacker (old new : LentSide A K) : Type 0 where
    pub earlier : new.earlier ≡ old.earlier
    pub requests : new.requests ≡ old.requests
    pub closing : new.closing ≡ old.closing
    pub keeps : KeepsParts old new

  module _ (packs : K → Packs A) (fails : K → PackFails A) where
    module _ (parts : Parts A K) (old : LentSide A K) (asked : Asked) (said : List Packet) (goes : Bool) (new : LentSide A K) where
      -- the packets are a reply to the request
      pub record RepliesTo : Type 0 where
        pub answer : Reply
        pub asks : asked ≢ Empty
        pub answers : Answers parts.server (packs parts.packer) asked answer
        pub all : said ≡ reply_packets parts.ends answer
        pub goes_so : goes ≡ nat_lt new.requests new.most
        pub count : new.requests ≡ old.requests + 1
        pub unclosed : new.closing ≡ None
        pub unasked : (once new.packer.now).answered ≡ Unasked

      -- the request is empty, and the dialogue ends without a packet
      pub record Closes : Type 0 where
        pub empty : asked ≡ Empty
        pub all : said ≡ []
        pub ended : goes ≡ false
        pub count : new.requests ≡ old.requests
        pub closing : new.closing ≡ Some closes.Closed
        pub unasked : (once new.packer.now).answered ≡ Unasked

      -- the request is refused with an error packet
      pub record DeclinesAsked : Type 0 where
        pub fault : ServeFault
        pub declines : Declines parts.server (fails parts.packer) asked fault
        pub all : said ≡ err_packets fault
        pub ended : goes ≡ false
        pub count : new.requests ≡ old.requests
        pub closing : new.closing ≡ Some (closes.Refused fault)
        pub packing : (once new.packer.now).answered ≡ packing_of_fault fault

      abbrev pub AnswersAs : Type 0
      AnswersAs = RepliesTo ⊎ (Closes ⊎ DeclinesAsked)

    -- the packets `lines` are a request, and the packets `said` are the answer to this request
    pub record AnswersLines (parts : Parts A K) (old : LentSide A K) (lines said : List Packet) (goes : Bool) (new : LentSide A K) : Type 0 where
      pub asked : Asked
      pub says : Says profile parts.server.graph.format lines asked
      pub answers : AnswersAs parts old asked said goes new

    pub record AnswersLent (old : LentSide A K) (lines said : List Packet) (goes : Bool) (new : LentSide A K) : Type 0 where
      pub keeps : KeepsParts old new
      pub earlier : new.earlier ≡ old.requests
      pub answers : IsReady old → AnswersLines (parts_of old) old lines said goes new

-- the input ends before the first packet of a request, and the dialogue ends without a packet
pub record EndsInput {A K : Type 0} (fault : MessageFault) (said : List Packet) (new : LentSide A K) : Type 0 where
  pub first : fault.frame ≡ 0
  pub ended : fault.why ≡ why.Ended
  pub all : said ≡ []
  pub closing : new.closing ≡ Some closes.Ended

-- the request is refused while it is read
pub record RejectsLines {A K : Type 0} (fault : MessageFault) (said : List Packet) (new : LentSide A K) : Type 0 where
  pub begun : fault.why ≡ why.Ended → fault.frame ≢ 0
  pub all : said ≡ err_packets (serve.Request fault)
  pub closing : new.closing ≡ Some (closes.Refused (serve.Request fault))

pub record RefusesLent {A K : Type 0} (once : K → OnePack K) (old : LentSide A K) (fault : MessageFault) (said : List Packet) (new : LentSide A K) : Type 0 where
  pub keeps : KeepsParts once old new
  pub earlier : new.earlier ≡ old.requests
  pub count : new.requests ≡ old.requests
  pub packer : new.packer.now ≡ old.packer.now
  pub how : EndsInput fault said new ⊎ RejectsLines fault said new

-- ---- the end of a dialogue

module _ {A K : Type 0} (once : K → OnePack K) (packs : K → Packs A) (fails : K → PackFails A) where
  -- How the last message ends. The arguments are the rest of the input, the packets of the last answer, whether the
  -- dialogue then continues, and the state of the side.
  pub data IsLast (parts : Parts A K) (rest : Input) (said : List Packet) (goes : Bool) (now : LentSide A K) : Type 0 where
    turned : (turn : Turn) → ReadsTurn parts.server (packs parts.packer) rest turn → said ≡ reply_packets parts.ends turn.answer
        → goes ≡ nat_lt now.requests now.most → now.requests ≡ now.earlier + 1 → now.closing ≡ None
        → (once now.packer.now).answered ≡ Unasked → IsLast parts rest said goes now
    closed : ReadsEmpty parts.server.graph.format rest → said ≡ [] → now.requests ≡ now.earlier
        → now.closing ≡ Some closes.Closed → (once now.packer.now).answered ≡ Unasked → IsLast parts rest said goes now
    ended : ReadsEnd rest → said ≡ [] → now.requests ≡ now.earlier → now.closing ≡ Some closes.Ended
        → (once now.packer.now).answered ≡ Unasked → IsLast parts rest said goes now
    refused : (fault : ServeFault) → IsRefused parts.server (fails parts.packer) rest fault → said ≡ err_packets fault
        → now.requests ≡ now.earlier → now.closing ≡ Some (closes.Refused fault)
        → (once now.packer.now).answered ≡ packing_of_fault fault → IsLast parts rest said goes now

  -- the requests that were answered with flushed replies, and the last message; before the first reply, the whole input
  -- is the last message
  pub record HasTalked (first : LentSide A K) (input : Input) (earlier reply : Bytes) (goes : Bool) (now : LentSide A K) : Type 0 where
    pub turns : List Turn
    pub between : Option Bytes
    pub read : ReadsTurns first.server.now (packs (once first.packer.now).packer) (record { old = input.read.old; new = between }) turns
    pub alone : turns ≡ [] → between ≡ input.read.old
    pub count : now.earlier ≡ length turns
    pub room : now.earlier < first.most
    pub said : List Packet
    pub last : IsLast (parts_of once first) (rest_of input between) said goes now
    pub before : earlier ≡ canonical_all (flat_map (λ turn. reply_packets first.ends turn.answer) turns)
    pub latest : reply ≡ canonical_all said
    pub same : parts_of once now ≡ parts_of once first
    pub in_place : now.packer.ghost_name ≡ first.packer.ghost_name

  -- all replies are written and flushed
  pub record HasSpoken (first : LentSide A K) (input : Input) (output : Output) (now : LentSide A K) : Type 0 where
    pub earlier : Bytes
    pub reply : Bytes
    pub talked : HasTalked first input earlier reply false now
    pub sent : ((0 < length (earlier ++ reply)) × Passes output (earlier ++ reply)) ⊎ ((earlier ++ reply ≡ []) × IsUnwritten output)

  -- the sink failed while the latest answer was written
  pub record HasFailed (first : LentSide A K) (input : Input) (output : Output) (now : LentSide A K) : Type 0 where
    pub earlier : Bytes
    pub reply : Bytes
    pub goes : Bool
    pub talked : HasTalked first input earlier reply goes now
    pub some : talked.said ≢ []
    pub front : Bytes
    pub back : Bytes
    pub due : reply ≡ front ++ back
    pub wrote : Appends output.written.old output.written.new (earlier ++ front)
    pub passed : ((earlier ≡ []) × KeepsPassed output.passed_on) ⊎ ((0 < length earlier) × PassesBytes earlier output.written output.passed_on)
    pub down : output.is_down ≡ true

  abbrev pub EndsTalk : LentSide A K → Input → Output → LentSide A K → Result Bool TalkFault → Type 0
  EndsTalk first input output now (Ok sent) = HasSpoken first input output now
  EndsTalk first input output now (Err Io) = HasFailed first input output now
  EndsTalk first input output now (Err Memory) = ⊥

-- how an exchange ends
abbrev pub exchange_end : Result Bool TalkFault → Option Closing → ExchangeEnd
exchange_end (Err fault) how = exchange.WriteFailed
exchange_end (Ok sent) None = exchange.Answered
exchange_end (Ok sent) (Some closes.Closed) = exchange.Closed
exchange_end (Ok sent) (Some closes.Ended) = exchange.Ended
exchange_end (Ok sent) (Some (closes.Refused fault)) = exchange.Refused fault

-- how a connection ends
abbrev pub connection_end : Result Bool TalkFault → Option Closing → End
connection_end (Err fault) how = end.WriteFailed
connection_end (Ok sent) None = end.Ended
connection_end (Ok sent) (Some closes.Closed) = end.Closed
connection_end (Ok sent) (Some closes.Ended) = end.Ended
connection_end (Ok sent) (Some (closes.Refused fault)) = end.Refused fault

-- the number of replies that were written and flushed
abbrev pub flushed_replies : Result Bool TalkFault → ℕ → ℕ → ℕ
flushed_replies (Err fault) earlier requests = earlier
flushed_replies (Ok sent) earlier requests = requests
