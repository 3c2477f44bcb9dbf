-- A world: a server, a client that fetches from it, and all messages that they sent.
use Rattle.std.specs.Prelude.{Bool, false, List, [], Option, None}
use Rattle.gpkt.specs.Packets.{Bytes, canonical_all}
use Rattle.ggrammar.specs.declared.ends.Ends.TheVariants.{Plain}
use Rattle.gobject.specs.Packs.{Indexes, IndexFails, MayPack, PackFails, Packs}
use Rattle.grequest.specs.Asked.{Asked}
use Rattle.ganswer.specs.Answers.{Reply}
use Rattle.ganswer.specs.Servers.{Server}
use Rattle.gserver.specs.Exchanges.{reply_packets}
use Rattle.gclientrepo.specs.Repos.{RepoState}
use Rattle.gsession.specs.Sessions.{SessionState}

-- a reply of the server, and the request that it answers
pub record Kept : Type 0 where
  pub asked : Asked
  pub reply : Reply

-- The state of a world: the server, the client's repository and session, all sent requests and all replies. `forged`
-- states whether bytes were ever forged. `answered` states whether the client accepted the pack of a complete reply to
-- its open request.
pub record WorldState (A : Type 0) : Type 0 where
  pub server : Server A
  pub repo : RepoState A
  pub session : Option (SessionState A)
  pub sent : List Asked
  pub kept : List Kept
  pub forged : Bool
  pub answered : Bool

-- the bytes of a reply, with each packet in its canonical encoding
abbrev pub reply_bytes : Reply → Bytes
reply_bytes reply = canonical_all (reply_packets Plain reply)

-- a new world
abbrev pub new_world : {A : Type 0} → Server A → RepoState A → WorldState A
new_world server repo = record {
  server = server;
  repo = repo;
  session = None;
  sent = [];
  kept = [];
  forged = false;
  answered = false;
}

-- The possible results and faults of a world's packer and indexer. A packer makes a pack of objects, and an indexer
-- reads the objects of a pack.
pub record PackTools (A : Type 0) : Type 1 where
  pub packs : Packs A
  pub pack_fails : PackFails A
  pub indexes : Indexes A
  pub index_fails : IndexFails

-- the possible packs of a packer, up to the maximum length, and its faults; the results and faults of an indexer
abbrev pub tools_of : {A : Type 0} → Packs A → PackFails A → Indexes A → IndexFails → PackTools A
tools_of packs pack_fails indexes index_fails = record {
  packs = MayPack packs;
  pack_fails = pack_fails;
  indexes = indexes;
  index_fails = index_fails;
}

-- a world, and the value that implements its packer and its indexer
pub record WorldOf (A K : Type 0) : Type 0 where
  pub tools : K
  pub world : WorldState A
