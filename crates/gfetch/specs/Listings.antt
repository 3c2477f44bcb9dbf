-- The listing of a server's refs: the bytes that the client reads and writes (gitprotocol-v2(5), "ls-refs").
use Rattle.std.specs.Prelude.{◌≡◌, ◌⊎◌, false, List, ◌++◌, Option, Some, Result, Ok, Err}
use Rattle.gname.specs.declared.formats.Format.{Format}
use Rattle.gpkt.specs.PacketReading.{ReadsPackets}
use Rattle.gpkt.specs.Packets.{Bytes, Packet}
use Rattle.gpkt.specs.Sending.{Input, Output, IsUnread, IsUnwritten, IsUp, Passes, SendsAndFails, rest_of}
use Rattle.ggrammar.specs.Capabilities.{Capability}
use Rattle.ggrammar.specs.MessageReading.{IsReadFailure, ReadsRefused}
use Rattle.ggrammar.specs.declared.ends.Ends.TheVariants.{Plain}
use Rattle.ggrammar.specs.declared.fault.MessageFault.{MessageFault}
use Rattle.ghello.specs.Adverts as advert
use Rattle.ghello.specs.Offers.{check_fault}
use Rattle.glsreply.specs.LsReplies as ls
use Rattle.grequest.specs.declared.flag.LsRefsFlag.TheVariants.{Unborn}
use Rattle.grequest.specs.Asked.{LsRefsAsked, Empty, Ls, ls_with}
use Rattle.gsession.specs.Sessions.{tells_unborn}
use Rattle.gsession.specs.declared.fault.ClientFault.TheVariants as client
use Rattle.gfetch.specs.Conversations.{FailsToSend, IsLeft, RefusesToRead, request_bytes}
use Rattle.gfetch.specs.Starts.{Advertises}
use Rattle.gfetch.specs.declared.fault.FetchFault.{FetchFault}
use Rattle.gfetch.specs.declared.fault.FetchFault.TheVariants as fetch

-- ---- the bytes written

-- the request for refs, with `unborn` exactly if the server offers to report an unborn HEAD
abbrev pub asked_of : List Capability → LsRefsAsked → LsRefsAsked
asked_of capabilities asked = ls_with asked Unborn (tells_unborn capabilities)

-- the bytes of the request for refs
abbrev pub asking_bytes : Format → List Capability → LsRefsAsked → Bytes
asking_bytes format capabilities asked = request_bytes format (Ls (asked_of capabilities asked))

-- the bytes of the lone flush packet that ends the conversation
abbrev pub ending_bytes : Format → Bytes
ending_bytes format = request_bytes format Empty

-- ---- the bytes read

-- The client reads the advertisement of a server that a client of this object format supports. `Rest` holds for the
-- remaining input. `format` is the object format that the advertisement names.
pub record HasHeard (input : Input) (format : Format) (capabilities : List Capability) (Rest : Input → Type 0)
    : Type 0 where
  pub packets : List Packet
  pub advertises : Advertises format packets capabilities
  pub between : Option Bytes
  pub read : ReadsPackets (record { old = input.read.old; new = between }) packets
  pub rest : Rest (rest_of input between)

-- the client reads the advertisement of a server that no client of either object format supports
pub record FitsNone (input : Input) (cause : MessageFault) : Type 0 where
  pub packets : List Packet
  pub capabilities : List Capability
  pub lines : ReadsPackets input.read packets
  pub says : advert.Says packets capabilities
  pub why : (format : Format) → check_fault format capabilities ≡ Some cause.why
  pub frame : cause.frame ≡ 0
  pub up : IsUp input

-- the client reads the reply in this object format, and nothing after the reply
pub record ReadsReply (format : Format) (input : Input) (reply : ls.LsReply) : Type 0 where
  pub packets : List Packet
  pub lines : ReadsPackets input.read packets
  pub says : ls.Says format Plain packets reply
  pub up : IsUp input

-- reading the reply fails at a packet that is unreadable, missing or rejected, and the fault reports a failed source
-- exactly if the source failed
pub record RefusesReply (format : Format) (input : Input) (cause : MessageFault) : Type 0 where
  pub front : List Packet
  pub refused : ReadsRefused (ls.judge format Plain) ls.brings front input.read cause
  pub source : IsReadFailure false input.is_down cause.why

-- ---- the listing

module _ (asked : LsRefsAsked) where
  -- the client reads the advertisement and the reply, and flushes the request and the lone flush packet
  pub record HasListed (input : Input) (output : Output) (reply : ls.LsReply) : Type 0 where
    pub format : Format
    pub capabilities : List Capability
    pub read : HasHeard input format capabilities (λ rest. ReadsReply format rest reply)
    pub passed : Passes output (asking_bytes format capabilities asked ++ ending_bytes format)

  -- The reasons why a listing fails. All steps before the fault succeeded.
  pub data FailsToList {A : Type 0} (input : Input) (output : Output) : FetchFault A → Type 0 where
    -- the client does not have enough memory for its buffers, and reads nothing
    no_buffer : IsUnread input → IsUnwritten output → FailsToList input output fetch.NoBuffer
    -- reading the advertisement fails, or the client does not support the server
    cannot_hear : (cause : MessageFault) → RefusesToRead input cause ⊎ FitsNone input cause → IsUnwritten output
        → FailsToList input output (fetch.Client (client.Message cause))
    -- the client can't write or flush the request
    cannot_ask : (format : Format) (capabilities : List Capability) → HasHeard input format capabilities IsLeft
        → FailsToSend output (asking_bytes format capabilities asked) → FailsToList input output fetch.WriteFailed
    -- the client rejects the reply
    cannot_take : (format : Format) (capabilities : List Capability) (cause : MessageFault)
        → HasHeard input format capabilities (λ rest. RefusesReply format rest cause)
        → Passes output (asking_bytes format capabilities asked)
        → FailsToList input output (fetch.Client (client.Message cause))
    -- the client accepts the reply, but can't write or flush the lone flush packet
    cannot_end : (format : Format) (capabilities : List Capability) (reply : ls.LsReply)
        → HasHeard input format capabilities (λ rest. ReadsReply format rest reply)
        → SendsAndFails output (asking_bytes format capabilities asked) (ending_bytes format)
        → FailsToList input output fetch.WriteFailed

  -- the result and the effects of a listing
  abbrev pub Lists : {A : Type 0} → Input → Output → Result ls.LsReply (FetchFault A) → Type 0
  Lists input output (Ok reply) = HasListed input output reply
  Lists input output (Err fault) = FailsToList input output fault
