-- The end of a client's dialogue, before the update of the local refs.
use Rattle.std.specs.Prelude.{◌≡◌, Bool, List, Option, Some, None, Result, Ok, Err}
use Rattle.gobject.specs.Packs.{Indexes, IndexFails}
use Rattle.gpkt.specs.Sending.{Input, Output, Passes}
use Rattle.gsession.specs.declared.fault.ClientFault.{ClientFault}
use Rattle.gsession.specs.declared.stage.Stage.TheVariants.{Settling}
use Rattle.gtalk.specs.declared.fault.TalkFault.{TalkFault}
use Rattle.gfetch.specs.Conversations.{Converses, Fails, IsLeft, talk_bytes}
use Rattle.gfetch.specs.Starts.{Start}
use Rattle.gfetch.specs.Turns.{Turn}
use Rattle.gfetch.specs.declared.fault.FetchFault.TheVariants as fetch
use Rattle.gfetch.specs.declared.side.ClientSide.{ClientSide}

module _ {A K : Type 0} (indexes : Indexes A) (index_fails : IndexFails) (start : Start A) (input : Input)
    (output : Output) (now : ClientSide A K) where
  -- the client accepted all replies, and flushed the requests and the lone flush packet
  pub record HasClosed : Type 0 where
    pub talk : List Turn
    pub converses : Converses indexes index_fails start input talk now.client IsLeft
    pub settles_next : now.client.session.stage ≡ Settling
    pub passed : Passes output (talk_bytes indexes index_fails start talk)

  -- the end of a dialogue, given the stored fault
  abbrev pub EndsAs : Option (ClientFault A) → Type 0
  EndsAs None = HasClosed
  EndsAs (Some cause) = Fails indexes index_fails start input output now.client.repo (fetch.Client cause)

  -- the end of a dialogue, or the failure of its sink
  abbrev pub EndsTalk : Result Bool TalkFault → Type 0
  EndsTalk (Ok sent) = EndsAs now.fault
  EndsTalk (Err fault) = Fails indexes index_fails start input output now.client.repo fetch.WriteFailed
