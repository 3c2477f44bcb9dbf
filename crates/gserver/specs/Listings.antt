-- The packets that complete a reply to an ls-refs request (gitprotocol-v2(5), "ls-refs").
use Rattle.std.specs.Prelude.{◌≡◌, ℕ, ◌+◌, ◌-◌, Bool, true, false, List, [], ◌∷◌, ◌++◌, length, map, drop}
use Rattle.gpkt.specs.Packets.{Packet, Flush, ResponseEnd}
use Rattle.ggrammar.specs.Endings.{ends_with}
use Rattle.ggrammar.specs.declared.ends.Ends.{Ends}
use Rattle.grefs.specs.RefLists.{RefList}
use Rattle.grequest.specs.Asked.{LsRefsAsked}
use Rattle.glsreply.specs.LsReplies.{LsReply, canonical_reply, ref_packet}
use Rattle.glsreply.specs.RefTexts.{RefLine}
use Rattle.ganswer.specs.LsAnswers.{LsAnswer, ShowsLines, all_refs}
use Rattle.ganswer.specs.Servers.{Server}
use Rattle.gdialogue.specs.declared.side.Said.{Said}
use Rattle.gdialogue.specs.declared.side.Said.TheVariants as said
use Rattle.gserver.specs.PackSaying.{May}
use Rattle.gserver.specs.declared.listing.NextLine.{NextLine}
use Rattle.gserver.specs.declared.listing.NextLine.TheVariants as next

module _ {A : Type 0} (server : Server A) (asked : LsRefsAsked) (ends : Ends) (goes_on : Bool) where
  -- the packets are the canonical encoding of a reply that answers the ls-refs request
  pub record SaysLsAnswer (said : List Packet) (goes : Bool) : Type 0 where
    pub reply : LsReply
    pub answers : LsAnswer server asked reply
    pub all : said ≡ canonical_reply ends reply
    pub goes_so : goes ≡ goes_on

  -- the packets are the lines of the requested refs among `refs`, and the end of the reply
  pub record SaysRefs (refs : RefList) (said : List Packet) (goes : Bool) : Type 0 where
    pub lines : List RefLine
    pub shows : ShowsLines server asked refs lines
    pub all : said ≡ map ref_packet lines ++ Flush ∷ ends_with ends
    pub goes_so : goes ≡ goes_on

  -- the packets of the reply, from this line to the end
  abbrev pub SaysListing : NextLine → May
  SaysListing next.Unborn said goes = SaysLsAnswer said goes
  SaysListing next.Head said goes = SaysRefs (all_refs server) said goes
  SaysListing (next.Ref at) said goes = SaysRefs (drop at server.refs) said goes
  SaysListing next.ResponseEnd said goes = (said ≡ ResponseEnd ∷ []) × (goes ≡ goes_on)

-- the maximum number of steps after the next step; each step sends at most one packet
abbrev pub steps_of_listing : {A : Type 0} → Server A → NextLine → ℕ
steps_of_listing server next.Unborn = length server.refs + 4
steps_of_listing server next.Head = length server.refs + 3
steps_of_listing server (next.Ref at) = (length server.refs - at) + 2
steps_of_listing server next.ResponseEnd = 0

-- the result of the step that queues the last packet of a reply, given whether the dialogue then continues
abbrev pub said_at_end : Bool → Said
said_at_end true = said.Whole
said_at_end false = said.Last
