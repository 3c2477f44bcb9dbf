-- The client's end of a listing: its messages and its answers.
use Rattle.std.specs.Prelude.{◌≡◌, ◌⊎◌, ℕ, Bool, true, false, List, [], Some, None, Result, Ok, Err}
use Rattle.gname.specs.declared.formats.Format.{Format}
use Rattle.gpkt.specs.Packets.{Packet}
use Rattle.gpkt.specs.Sending.{Input, Output}
use Rattle.ggrammar.specs.Capabilities.{Capability}
use Rattle.ggrammar.specs.Grammar.{Judge}
use Rattle.ggrammar.specs.declared.ends.Ends.TheVariants.{Plain}
use Rattle.ggrammar.specs.declared.fault.MessageFault.{MessageFault}
use Rattle.ghello.specs.Adverts as advert
use Rattle.ghello.specs.Offers.{check_fault}
use Rattle.ghello.specs.steps.AdvertReading.{IsKept}
use Rattle.glsreply.specs.LsReplies as ls
use Rattle.glsreply.specs.steps.ReplyState.{Holds}
use Rattle.grequest.specs.Asked.{Empty, Ls, LsRefsAsked}
use Rattle.grequest.specs.Building.{LimitedLsRefs}
use Rattle.grequest.specs.RequestWriting.{canonical_request}
use Rattle.gsession.specs.declared.fault.ClientFault.TheVariants as client
use Rattle.gdialogue.specs.Sides.{SaysNothing}
use Rattle.gtalk.specs.declared.fault.TalkFault.{TalkFault}
use Rattle.gfetch.specs.Listings.{FailsToList, Lists, asked_of}
use Rattle.gfetch.specs.Starts.{Advertises}
use Rattle.gfetch.specs.declared.fault.FetchFault.{FetchFault}
use Rattle.gfetch.specs.declared.fault.FetchFault.TheVariants as fetch
use Rattle.gfetch.specs.declared.listing.ListHeard.{ListHeard}
use Rattle.gfetch.specs.declared.listing.ListHeard.TheVariants as heard
use Rattle.gfetch.specs.declared.listing.ListSide.{ListSide}
use Rattle.gfetch.specs.declared.listing.ListStage.{ListStage}
use Rattle.gfetch.specs.declared.listing.ListStage.TheVariants.{Asks, Reads}

-- a client of this object format supports the server, or no client of either object format supports the server
abbrev pub FitsFormat : List Capability → Result Format MessageFault → Type 0
FitsFormat capabilities (Ok format) = check_fault format capabilities ≡ None
FitsFormat capabilities (Err cause) =
    ((format : Format) → check_fault format capabilities ≡ Some cause.why) × (cause.frame ≡ 0)

-- ---- the messages

module _ {A : Type 0} where
  -- the grammar of the next message
  abbrev pub judge_at : ListStage A → Judge
  judge_at (Asks asked) = advert.judge
  judge_at (Reads format) = ls.judge format Plain

  -- whether a packet of the next message has contents to store
  abbrev pub brings_at : ListStage A → List Packet → Packet → Bool
  brings_at (Asks asked) = advert.brings
  brings_at (Reads format) = ls.brings

  -- the message consists of these packets so far
  abbrev pub HearsAt : ListStage A → ListHeard A → List Packet → Type 0
  HearsAt (Asks asked) (heard.Advert reader) packets = IsKept packets reader.has_version reader.advert
  HearsAt (Reads format) (heard.Refs reader) packets =
      (reader.format ≡ format) × (reader.ends ≡ Plain) × Holds reader packets
  HearsAt stage message packets = ⊥

  -- the maximum number of further messages that the client answers with a request
  abbrev pub messages_at : ListStage A → ℕ
  messages_at (Asks asked) = 1
  messages_at (Reads format) = 0

-- ---- the answers

module _ {A : Type 0} (lines said : List Packet) (goes : Bool) (new : ListSide A) where
  -- the packets are the advertisement of a server that the client supports, and the client sends its request
  pub record AsksRefs (asked : LsRefsAsked) : Type 0 where
    pub format : Format
    pub capabilities : List Capability
    pub advertises : Advertises format lines capabilities
    pub now : new.stage ≡ Reads format
    pub all : said ≡ canonical_request format (Ls (asked_of capabilities asked))
    pub goes_on : goes ≡ true

  -- the packets are the advertisement of a server that no client of either object format supports
  pub record FitsNoClient : Type 0 where
    pub capabilities : List Capability
    pub says : advert.Says lines capabilities
    pub cause : MessageFault
    pub why : (format : Format) → check_fault format capabilities ≡ Some cause.why
    pub frame : cause.frame ≡ 0
    pub listed : new.listed ≡ Err cause
    pub all : said ≡ []
    pub ended : goes ≡ false

  -- the packets are the reply, and the client sends the lone flush packet
  pub record EndsList (format : Format) : Type 0 where
    pub reply : ls.LsReply
    pub says : ls.Says format Plain lines reply
    pub listed : new.listed ≡ Ok reply
    pub all : said ≡ canonical_request format Empty
    pub ended : goes ≡ false

  -- the answer to a message, given the stage before the message
  abbrev pub AnswersAt : ListStage A → Type 0
  AnswersAt (Asks asked) = AsksRefs asked.asked ⊎ FitsNoClient
  AnswersAt (Reads format) = EndsList format

-- the answer to a message
abbrev pub AnswersList : {A : Type 0} → ListSide A → List Packet → List Packet → Bool → ListSide A → Type 0
AnswersList old lines said goes new = AnswersAt lines said goes new old.stage

-- a message is refused, and the client sends nothing more
abbrev pub RefusesList : {A : Type 0} → ListSide A → MessageFault → List Packet → ListSide A → Type 0
RefusesList old cause said new = (new.listed ≡ Err cause) × (said ≡ [])

-- ---- the beginning and the end

-- the listing has received no message
abbrev pub IsListing : {A : Type 0} → ListSide A → Type 0
IsListing side = (asked : LimitedLsRefs) × (side.stage ≡ Asks asked)

-- a listing that has received no message opens the dialogue without a packet
abbrev pub OpensList : {A : Type 0} → ListSide A → List Packet → Bool → Type 0
OpensList side said goes = IsListing side × SaysNothing said goes

-- the result of the listing, as the result of a conversation
abbrev pub listed_result : {A : Type 0} → Result ls.LsReply MessageFault → Result ls.LsReply (FetchFault A)
listed_result (Ok reply) = Ok reply
listed_result (Err cause) = Err (fetch.Client (client.Message cause))

-- the end of the dialogue, or the failure of its sink
abbrev pub EndsListing : {A : Type 0} → LsRefsAsked → Input → Output → ListSide A → Result Bool TalkFault → Type 0
EndsListing {A} asked input output now (Ok sent) = Lists asked {A = A} input output (listed_result now.listed)
EndsListing {A} asked input output now (Err fault) = FailsToList asked {A = A} input output fetch.WriteFailed
