-- A listing over the `git://` transport: the client sends a first line, and then lists the refs of the server
-- (gitprotocol-pack(5), "Git Transport").
use Rattle.std.specs.Prelude.{◌≡◌, ◌⊎◌, Result, Err}
use Rattle.gpkt.specs.Sending.{Input, Output}
use Rattle.ghello.specs.Hello.{Hello}
use Rattle.glsreply.specs.LsReplies as ls
use Rattle.grequest.specs.Asked.{LsRefsAsked}
use Rattle.gfetch.specs.Listings.{Lists}
use Rattle.gfetch.specs.declared.fault.FetchFault.{FetchFault}
use Rattle.gfetch.specs.declared.fault.FetchFault.TheVariants as fetch
use Rattle.gclient.specs.Greetings.{CannotGreet, HasGreeted}

-- the result and the effects of a listing over the `git://` transport, with a first line
abbrev pub ListsGit : {A : Type 0} → LsRefsAsked → Hello → Input → Output → Result ls.LsReply (FetchFault A) → Type 0
ListsGit asked hello input output result =
    HasGreeted hello output (λ rest. Lists asked input rest result)
    ⊎ (CannotGreet hello input output × (result ≡ Err fetch.WriteFailed))
