-- The packets that a server sends for a fetch request, with a pack that its packer returns in parts (gitprotocol-v2(5),
-- "fetch").
use Rattle.std.specs.Prelude.{◌≡◌, ◌⊎◌, Bool, false, List, [], ◌∷◌, ◌++◌}
use Rattle.gobject.specs.Packs.{PackFails, Packs}
use Rattle.gobject.specs.declared.fault.PackFault.{PackFault}
use Rattle.gpkt.specs.Packets.{Packet}
use Rattle.ggrammar.specs.declared.ends.Ends.{Ends}
use Rattle.grequest.specs.Asked.{FetchAsked}
use Rattle.gfetchreply.specs.FetchReplies.{FetchReply, canonical_reply}
use Rattle.ganswer.specs.FetchAnswers.{CanServe, FailsToPack, FetchAnswer, IsPackDue}
use Rattle.ganswer.specs.Servers.{Server}
use Rattle.gserver.specs.Saying.{fatal_packet}

module _ {A : Type 0} (server : Server A) (packs : Packs A) (fails : PackFails A) (asked : FetchAsked) where
  -- the packets are the canonical encoding of a reply that answers the fetch request
  pub record SaysAnswer (ends : Ends) (goes_on : Bool) (said : List Packet) (goes : Bool) : Type 0 where
    pub reply : FetchReply
    pub answers : FetchAnswer server packs asked reply
    pub all : said ≡ canonical_reply ends reply
    pub goes_so : goes ≡ goes_on

  -- the packer fails while a pack is sent, and the last packet reports the fault on side band 3
  pub record SaysFailure (said : List Packet) (goes : Bool) : Type 0 where
    pub fault : PackFault
    pub can : CanServe server asked
    pub due : IsPackDue server asked
    pub failed : FailsToPack server fails asked fault
    pub front : List Packet
    pub all : said ≡ front ++ fatal_packet fault ∷ []
    pub ended : goes ≡ false

  -- a complete reply to the fetch request, or a reply that ends early because the packer fails
  abbrev pub SaysFetch : Ends → Bool → List Packet → Bool → Type 0
  SaysFetch ends goes_on said goes = SaysAnswer ends goes_on said goes ⊎ SaysFailure said goes
