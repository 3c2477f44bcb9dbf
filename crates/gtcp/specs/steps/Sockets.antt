-- Definitions for private functions and proofs: conversations over a reader and a writer.
use Rattle.std.specs.Prelude.{Bool, false, None, Result}
use Rattle.gpkt.specs.Change.{Change}
use Rattle.gpkt.specs.Sending.{Input, Output}
use Rattle.gpkt.specs.Packets.{Bytes}
use Rattle.ggrammar.specs.declared.ends.Ends.{Ends}
use Rattle.ghello.specs.Hello.{Hello}
use Rattle.glsreply.specs.LsReplies.{LsReply}
use Rattle.gobject.specs.Packs.{Indexes, IndexFails, PackFails, Packs}
use Rattle.gclientrepo.specs.Repos.{RepoState}
use Rattle.grequest.specs.Asked.{LsRefsAsked}
use Rattle.ganswer.specs.Servers.{Server}
use Rattle.gserver.specs.GitConnections.{ServesGit}
use Rattle.gserver.specs.declared.git_transport.GitEnd.{GitEnd}
use Rattle.gfetch.specs.Starts.{Start}
use Rattle.gfetch.specs.declared.fault.FetchFault.{FetchFault}
use Rattle.gfetch.specs.declared.fetched.Fetched.{Fetched}
use Rattle.gclient.specs.GitFetches.{FetchesGit}
use Rattle.gclient.specs.Listings.{ListsGit}

-- ---- sources and sinks

-- a source over a reader that has not failed before, with the reader's remaining bytes before and after its use
abbrev pub input_by : Change → Bool → Input
input_by read failed = record { read = read; was_down = false; is_down = failed }

-- a sink over a writer that has not failed before, with the written bytes before and after its use; the flushed bytes
-- are unknown
abbrev pub output_by : Change → Bool → Output
output_by written failed = record {
  written = written;
  passed_on = record { old = None; new = None };
  was_down = false;
  is_down = failed;
}

-- ---- fetching

module _ {A : Type 0} (indexes : Indexes A) (index_fails : IndexFails) (start : Start A) (hello : Hello) where
  -- a fetch over a reader and a writer, with the bytes of both before and after the fetch
  abbrev pub FetchesBetween : Change → Change → RepoState A → Result (Fetched A) (FetchFault A) → Type 0
  FetchesBetween read written new result =
      (reader_failed writer_failed : Bool)
      × FetchesGit indexes index_fails start hello
      (input_by read reader_failed) (output_by written writer_failed) new result

-- ---- listing

module _ {A : Type 0} (asked : LsRefsAsked) (hello : Hello) where
  -- a listing over a reader and a writer, with the bytes of both before and after the listing
  abbrev pub ListsBetween : Change → Change → Result LsReply (FetchFault A) → Type 0
  ListsBetween read written result =
      (reader_failed writer_failed : Bool)
      × ListsGit asked hello (input_by read reader_failed) (output_by written writer_failed) result

-- ---- serving

module _ {A : Type 0} (server : Server A) (packs : Packs A) (fails : PackFails A) (path : Bytes) (ends : Ends) where
  -- a connection that is served over a reader and a writer, with the bytes of both before and after the connection, and
  -- with the connection's end
  abbrev pub ServesBetween : Change → Change → GitEnd → Type 0
  ServesBetween read written ended =
      (reader_failed writer_failed : Bool)
      × ServesGit server packs fails path ends (input_by read reader_failed) (output_by written writer_failed) ended

  -- a connection that is served from a reader into a socket, with the reader's remaining bytes before and after it
  abbrev pub ServesFrom : Change → GitEnd → Type 0
  ServesFrom read ended =
      (reader_failed : Bool) × (output : Output)
      × ServesGit server packs fails path ends (input_by read reader_failed) output ended
