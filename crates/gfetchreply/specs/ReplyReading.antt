-- The result of reading a fetch reply (gitprotocol-v2(5), "fetch"), and the effect on the sink.
use Rattle.std.specs.Prelude.{◌≡◌, ◌≤◌, Bool, List, ◌++◌, length, Result, Ok, Err}
use Rattle.gpkt.specs.Change.{Change}
use Rattle.gpkt.specs.Packets.{Bytes, Packet}
use Rattle.ggrammar.specs.Kinds.{ReadsMessage}
use Rattle.ggrammar.specs.MessageReading.{ReadsRefused}
use Rattle.ggrammar.specs.declared.fault.MessageFault.{MessageFault}
use Rattle.gfetchreply.specs.FetchReplies.{Reading, FetchReply, Says, band_payloads, brings_into, data_of, judge}
use Rattle.gfetchreply.specs.FetchHeads.{FetchHead, head_of, pack_of}

module _ {S : Type 0} (taken : S → Bytes → Type 0) where
  -- a complete reply is read; the result is the head of the reply, and the sink accepted the pack after any bytes that
  -- it had accepted before
  pub record TakesReply (reading : Reading) (bytes : Change) (had : Bytes → Type 0) (sink : S) (head : FetchHead)
      : Type 0 where
    pub reply : FetchReply
    pub read : ReadsMessage (judge reading) (Says reading) bytes reply
    pub is_head : head ≡ head_of reply
    pub short : length (pack_of reply) ≤ reading.limit
    pub pack : (before : Bytes) → had before → taken sink (before ++ pack_of reply)

  -- The reply is refused after these packets. The sink accepted the data of these packets, which is within the limit.
  -- Out of memory is reported only at an acknowledgment or, if the sink may refuse a piece, at data of the pack.
  pub record RefusesReply (refuses : Bool) (reading : Reading) (bytes : Change) (had : Bytes → Type 0) (sink : S)
      (fault : MessageFault) : Type 0 where
    pub packets : List Packet
    pub refused : ReadsRefused (judge reading) (brings_into refuses reading) packets bytes fault
    pub short : length (data_of (band_payloads reading.direct packets)) ≤ reading.limit
    pub pack : (before : Bytes) → had before → taken sink (before ++ data_of (band_payloads reading.direct packets))

  abbrev pub ReadsReply : Bool → Reading → Change → (Bytes → Type 0) → S → Result FetchHead MessageFault → Type 0
  ReadsReply refuses reading bytes had sink (Ok head) = TakesReply reading bytes had sink head
  ReadsReply refuses reading bytes had sink (Err fault) = RefusesReply refuses reading bytes had sink fault

  -- the packets are a reply with this head, and the sink has accepted exactly the pack of the reply
  pub record HasRead (reading : Reading) (packets : List Packet) (head : FetchHead) (sink : S) : Type 0 where
    pub reply : FetchReply
    pub says : Says reading packets reply
    pub is_head : head ≡ head_of reply
    pub pack : taken sink (pack_of reply)

-- the packets are a reply with this head, and the data of the packets is the pack of the reply
pub record HasHead (reading : Reading) (packets : List Packet) (head : FetchHead) : Type 0 where
  pub reply : FetchReply
  pub says : Says reading packets reply
  pub is_head : head ≡ head_of reply
  pub pack : data_of (band_payloads reading.direct packets) ≡ pack_of reply
