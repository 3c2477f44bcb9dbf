-- A client's conversation over the `git://` transport: the client sends a first line, and then holds a conversation as
-- in protocol v2 (gitprotocol-pack(5), "Git Transport").
use Rattle.std.specs.Prelude.{◌≡◌, ◌⊎◌, Result, Err}
use Rattle.gpkt.specs.Sending.{Input, Output}
use Rattle.ghello.specs.Hello.{Hello}
use Rattle.gobject.specs.Packs.{Indexes, IndexFails}
use Rattle.gclientrepo.specs.Repos.{RepoState}
use Rattle.gfetch.specs.Conversations.{FetchesOver}
use Rattle.gfetch.specs.Starts.{Start}
use Rattle.gfetch.specs.declared.fault.FetchFault.{FetchFault}
use Rattle.gfetch.specs.declared.fault.FetchFault.TheVariants as fetch
use Rattle.gfetch.specs.declared.fetched.Fetched.{Fetched}
use Rattle.gclient.specs.Greetings.{CannotGreet, HasGreeted}

module _ {A : Type 0} (indexes : Indexes A) (index_fails : IndexFails) (start : Start A) (hello : Hello) where
  -- the result and the effects of a conversation over the `git://` transport
  abbrev pub FetchesGit : Input → Output → RepoState A → Result (Fetched A) (FetchFault A) → Type 0
  FetchesGit input output new result =
      HasGreeted hello output (λ rest. FetchesOver indexes index_fails start input rest new result)
      ⊎ (CannotGreet hello input output × (result ≡ Err fetch.WriteFailed) × (new ≡ start.repo))
