-- The beginning of a client's conversation, up to the advertisement (gitprotocol-v2(5), "Capability Advertisement").
use Rattle.std.specs.Prelude.{◌≡◌, ℕ, List, None}
use Rattle.gname.specs.declared.formats.Format.{Format}
use Rattle.gpkt.specs.Packets.{Packet}
use Rattle.ggrammar.specs.Capabilities.{Capability}
use Rattle.ggrammar.specs.declared.ends.Ends.{Ends}
use Rattle.ghello.specs.Adverts as advert
use Rattle.ghello.specs.Offers.{check_fault}
use Rattle.grefs.specs.Refspecs.{Refspec}
use Rattle.gclientrepo.specs.Repos.{RepoState}
use Rattle.gsession.specs.Sessions.{SessionState, new_session, no_options, tells_unborn, tips_of}
use Rattle.gsession.specs.declared.options.PackOptions.{PackOptions}
use Rattle.gfetch.specs.Turns.{ClientState}

-- the inputs of a conversation: the repository, the refspecs, the size limit of a pack, how replies end, and the pack
-- options
pub record Start (A : Type 0) : Type 0 where
  pub repo : RepoState A
  pub refspecs : List Refspec
  pub limit : ℕ
  pub ends : Ends
  pub options : PackOptions

-- the packets are the advertisement of a server that a client of this object format supports
pub record Advertises (format : Format) (packets : List Packet) (capabilities : List Capability) : Type 0 where
  pub says : advert.Says packets capabilities
  pub fits : check_fault format capabilities ≡ None

-- the inputs of a conversation that uses this repository and these pack options
abbrev pub start_for : {A : Type 0} → RepoState A → List Refspec → ℕ → Ends → PackOptions → Start A
start_for repo refspecs limit ends options =
    record { repo = repo; refspecs = refspecs; limit = limit; ends = ends; options = options }

-- the inputs of a conversation that uses this repository and the default pack options
abbrev pub start_of : {A : Type 0} → RepoState A → List Refspec → ℕ → Ends → Start A
start_of repo refspecs limit ends = start_for repo refspecs limit ends no_options

module _ {A : Type 0} (start : Start A) where
  -- the session at the beginning of the conversation
  abbrev pub begin_session : SessionState A
  begin_session =
      record (new_session start.repo.graph.format start.refspecs start.limit start.ends (tips_of start.repo)) {
        options = start.options;
      }

  -- the state of the client after it read the server's advertisement
  abbrev pub hear_advert : List Capability → ClientState A
  hear_advert capabilities = record {
    session = record begin_session { offers_unborn = tells_unborn capabilities };
    repo = start.repo;
    unborn = None;
  }
