-- Definitions for the laws about fetch replies.
use Rattle.std.specs.Prelude.{◌≡◌, ℕ, ◌≤◌, Bool, List, [], ◌++◌, length, Result, Ok, IfErr}
use Rattle.gpkt.specs.Packets.{Bytes, Packet, canonical_all}
use Rattle.ggrammar.specs.Grammar.{IsOpen, IsWhole}
use Rattle.ggrammar.specs.Kinds.{SaysAtFront}
use Rattle.ggrammar.specs.MessageBytes.{known_bytes, IsFront, IsOfBytes}
use Rattle.ggrammar.specs.MessageReading.{ReadsRefused}
use Rattle.ggrammar.specs.declared.fault.MessageFault.{MessageFault}
use Rattle.ggrammar.specs.declared.fault.Why.TheVariants.{Limit}
use Rattle.ggrammar.specs.declared.limits.Limits.{Limits}
use Rattle.gfetchreply.specs.FetchReplies.{FetchReply, Reading, Says, brings, canonical_reply, judge, max_acks}
use Rattle.gfetchreply.specs.FetchHeads.{FetchHead, acknowledged_by, head_of, pack_of}
use Rattle.gfetchreply.specs.ReplyReading.{ReadsReply, TakesReply}
use Rattle.gfetchreply.specs.WellFormed.{IsReplyIn}

-- the maximum number of packets needed to complete a reply: a delimiter, the pack's heading, a flush and a response-end
abbrev pub max_ending : ℕ
max_ending = 4

-- each unfinished reply can be completed with at most four packets
abbrev pub HasShortEndings : Reading → Type 0
HasShortEndings reading = (front : List Packet) → IsOpen (judge reading) front
    → (more : List Packet) × (length more ≤ max_ending) × IsWhole (judge reading) (front ++ more)

-- ---- reading the same packets with different parameters

-- Consider two sets of parameters, `reading` and `other`, with the same id format and the same `ends`. Suppose that a
-- list of packets is read as a reply with the parameters `other`, and a prefix of this list is read as a reply with
-- `reading`. Then both lists and both replies are equal.
abbrev pub OneInWhateverReading : Type 0
OneInWhateverReading =
    (reading other : Reading) (packets back : List Packet) (one also : FetchReply) → other.format ≡ reading.format
    → other.ends ≡ reading.ends → Says reading packets one → Says other (packets ++ back) also
    → (back ≡ []) × (also ≡ one)

-- an accepted reply is also accepted under any other size limit that is at least the length of its pack
abbrev pub IsInAnyLimit : Type 0
IsInAnyLimit =
    (reading : Reading) (limit : ℕ) (packets : List Packet) (reply : FetchReply) → Says reading packets reply
    → length (pack_of reply) ≤ limit → Says (record reading { limit = limit }) packets reply

-- an accepted reply is also accepted under any other limits that allow the number of its acknowledged ids
abbrev pub IsInAnyLimits : Type 0
IsInAnyLimits =
    (reading : Reading) (limits : Limits) (packets : List Packet) (reply : FetchReply) → Says reading packets reply
    → length (acknowledged_by reply) ≤ max_acks limits → Says (record reading { limits = limits }) packets reply

-- if a reply is accepted under some limits and refused under others because of its content, the fault is `Limit`
abbrev pub IsRefusedOverLimit : Type 0
IsRefusedOverLimit =
    (reading : Reading) (limit : ℕ) (limits : Limits) (packets front : List Packet) (reply : FetchReply)
    (bytes new rest : Bytes) (fault : MessageFault)
    → Says (record reading { limit = limit; limits = limits }) packets reply → IsFront packets bytes rest
    → ReadsRefused (judge reading) (brings reading) front (known_bytes bytes new) fault → IsOfBytes fault.why
    → fault.why ≡ Limit

-- ---- reading into a sink

module _ {S : Type 0} (taken : S → Bytes → Type 0) where
  -- the call read the reply and nothing after it, and the sink has accepted the pack
  pub record HasReadInto (rest new : Bytes) (old sink : S) (result : Result FetchHead MessageFault)
      (reply : FetchReply) : Type 0 where
    pub head : result ≡ Ok (head_of reply)
    pub left : new ≡ rest
    pub pack : (before : Bytes) → taken old before → taken sink (before ++ pack_of reply)

  -- A reply is read if the input begins with packets that encode the reply. The law does not apply if memory runs out,
  -- the source fails, or the reader had failed before.
  abbrev pub ReadsIntoWhereSaid : Bool → Reading → Type 0
  ReadsIntoWhereSaid refuses reading =
      (bytes new rest : Bytes) (old sink : S) (result : Result FetchHead MessageFault) (reply : FetchReply)
      → ReadsReply taken refuses reading (known_bytes bytes new) (taken old) sink result
      → IfErr result (λ fault. IsOfBytes fault.why) → SaysAtFront (Says reading) bytes rest reply
      → HasReadInto rest new old sink result reply

  -- a reply is read only if the input begins with packets that encode the reply
  abbrev pub ReadsIntoOnlySaid : Reading → Type 0
  ReadsIntoOnlySaid reading =
      (bytes new : Bytes) (old sink : S) (head : FetchHead)
      → TakesReply taken reading (known_bytes bytes new) (taken old) sink head
      → (reply : FetchReply) × SaysAtFront (Says reading) bytes new reply
      × HasReadInto new new old sink (Ok head) reply

  -- A well-formed reply that was written reads back, even if other bytes follow. The law does not apply if memory runs
  -- out, the source fails, or the reader had failed before.
  abbrev pub ReadsBackInto : Bool → Reading → Type 0
  ReadsBackInto refuses reading =
      (rest new : Bytes) (old sink : S) (result : Result FetchHead MessageFault) (reply : FetchReply)
      → IsReplyIn reading reply
      → ReadsReply taken refuses reading (known_bytes (canonical_all (canonical_reply reading.ends reply) ++ rest) new)
      (taken old) sink result → IfErr result (λ fault. IsOfBytes fault.why) → HasReadInto rest new old sink result reply
