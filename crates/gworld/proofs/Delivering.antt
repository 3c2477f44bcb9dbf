-- The contents and the effect of a kept reply, if no bytes were forged.
use Rattle.std.proofs.Common.{◌≡◌, ℕ, ◌≤◌, List, length, All, refl, sym, ap, subst, ◌∙◌, arith, take, inl, inr}
use Rattle.std.proofs.lemmas.List.Elements.{All-weaker, All-contains}
use Rattle.gname.specs.Limits.{max_pack}
use Rattle.gname.specs.declared.formats.Format.{Format}
use Rattle.ggrammar.specs.Kinds.{ReadsMessage}
use Rattle.ggrammar.specs.Limits.{profile}
use Rattle.ggrammar.specs.MessageBytes.{known_bytes}
use Rattle.ggrammar.specs.declared.ends.Ends.{Ends}
use Rattle.ggrammar.specs.declared.ends.Ends.TheVariants.{Plain}
use Rattle.glsreply.specs.LsReplies as refs
use Rattle.glsreply.specs.LsReplies.{LsReply}
use Rattle.glsreply.specs.RefTexts.{RefLine}
use Rattle.gfetchreply.specs.FetchReplies.{FetchReply, Reading, Acks, Ready, Pack}
use Rattle.gfetchreply.specs.FetchHeads.{acknowledged_by, pack_of}
use Rattle.gfetchreply.specs.Values.{max_stream}
use Rattle.gfetchreply.specs.WellFormed.{IsReplyIn}
use Rattle.gobject.specs.declared.node.Entry.{Entry}
use Rattle.gdag.specs.Graphs.{Holds, IsNode}
use Rattle.gdag.specs.Insert.{Inserts}
use Rattle.gdag.specs.Laws.{AgreesWith, HasAll}
use Rattle.gdag.specs.Reach.{Agree, Grows, IsConnected, Reaches}
use Rattle.grequest.specs.Asked.{Asked, Empty, Ls, Fetches, FetchAsked, is_direct, max_haves}
use Rattle.gclientrepo.specs.Repos.{RepoState}
use Rattle.ganswer.specs.Answers.{Answers, Reply, Ls as Refs, Fetch as Objects}
use Rattle.ganswer.specs.FetchAnswers.{FetchAnswer, RepliesWith, SendsPack}
use Rattle.ganswer.specs.Laws.{IsEnough}
use Rattle.ganswer.specs.Servers.{IsServer, Server}
use Rattle.gsession.specs.Sessions.{SessionState, IsSession}
use Rattle.gsession.specs.TakingReplies.{ReadsFetch, reading_for, Awaits, HasPack, after_acks, InsertsPack}
use Rattle.gworld.specs.Sound.{IsUnforgedAndFaithful, IsSoundKept, IsSoundRequest, IsSoundFetch, IsSoundSession}
use Rattle.gworld.specs.Sound.{IsWantedOrConnected, IsSound}
use Rattle.gworld.specs.Worlds.{Kept, PackTools, WorldState, reply_bytes}
use Rattle.gworld.proofs.Reading.{objects_read, objects_unlike, refs_read, refs_unlike}
use Rattle.gclientrepo.specs.Asks.{asked_ids}
use Rattle.gsession.specs.declared.stage.Stage.TheVariants.{Settling}
use Rattle.gworld.specs.Taking.{TakesObjects}
use Rattle.gworld.specs.declared.outcome.Outcome.TheVariants.{PackTaken}
use Rattle.gworld.proofs.Sessions.{Tells, WorldLaws, all_held}

-- the parameters for reading a fetch reply with the default limits and the maximum pack size
abbrev pub any_reading : Format → FetchAsked → Reading
any_reading format asked =
    record { limits = profile; format = format; direct = is_direct asked; limit = max_pack; ends = Plain }

-- the maximum pack size is a valid limit
pub largest : max_pack ≤ max_stream
largest = omega arith

module _ {A : Type 0} {tools : PackTools A} (laws : WorldLaws tools) where
  pack_small : (server : Server A) (asked : FetchAsked) (reply : FetchReply)
      → RepliesWith server tools.packs asked reply → length (pack_of reply) ≤ max_pack
  pack_small server asked (Acks ids) replies = omega arith
  pack_small server asked (Ready ids pack) replies = laws.small _ pack replies.3.packed
  pack_small server asked (Pack pack) replies = laws.small _ pack replies.1.packed

  pub reply_fits : {server : Server A} {asked : FetchAsked} {reply : FetchReply} → IsServer server
      → length asked.haves ≤ max_haves profile → FetchAnswer server tools.packs asked reply
      → IsReplyIn (any_reading server.graph.format asked) reply
  reply_fits {server} {asked} {reply} is few answers =
      laws.objects_fit server asked reply (any_reading server.graph.format asked) is few answers refl refl
      (pack_small server asked reply answers.replies)

  -- a fetch reply that is read from a kept reply equals the kept reply, which answers a request for objects
  pub record IsKeptFetch (server : Server A) (asked : Asked) (reply : Reply) (read : FetchReply) : Type 0 where
    pub fetch : FetchAsked
    pub is_asked : asked ≡ Fetches fetch
    pub is_reply : reply ≡ Objects read
    pub answers : FetchAnswer server tools.packs fetch read

  module _ (w : WorldState A) (server : Server A) (count : ℕ) (left : List ℕ) (is : IsServer server) where
    -- the server holds the id of each ref that is read from the first bytes of a kept reply
    lines_told : (asked : Asked) (reply : Reply) (told : LsReply) → Grows server.graph.entries w.server.graph.entries
        → Answers server tools.packs asked reply → IsSoundRequest w asked
        → ReadsMessage (refs.judge server.graph.format Plain) (refs.Says server.graph.format Plain)
        (known_bytes (take count (reply_bytes reply)) left) told
        → All (λ (line : RefLine). Holds w.server.graph.entries line.id) told.lines
    lines_told (Ls asked) (Refs reply) told grown answers sound reads =
        let g = server.graph.entries in
        let h = w.server.graph.entries in
        let same = refs_read laws.reading server.graph.format reply told count left
        (laws.refs_fit server asked reply is answers) reads in
        All-weaker (λ (line : RefLine). Holds g line.id) (λ (line : RefLine). Holds h line.id)
        (λ (line : RefLine) there. laws.holds g h line.id (laws.keeps g h grown) there) told.lines
        (subst (λ (r : LsReply). All (λ (line : RefLine). Holds g line.id) r.lines) (sym same)
        (laws.refs_held server asked reply is answers))
    lines_told (Fetches asked) (Objects reply) told grown answers sound reads =
        absurd (refs_unlike laws.reading server.graph.format (any_reading server.graph.format asked) reply told count
        left refl largest (reply_fits is sound.few answers) reads)
    lines_told Empty reply told grown answers sound reads = absurd sound
    lines_told asked reply told grown answers sound reads = absurd answers

    pub kept_fetch : (reading : Reading) (asked : Asked) (reply : Reply) (read : FetchReply)
        → server.graph.format ≡ reading.format → reading.ends ≡ Plain
        → Answers server tools.packs asked reply → IsSoundRequest w asked
        → ReadsFetch reading (known_bytes (take count (reply_bytes reply)) left) read → IsKeptFetch server asked reply read
    kept_fetch reading (Ls asked) (Refs reply) read format plain answers sound reads =
        absurd (objects_unlike laws.reading server.graph.format reading reply read count left
        (laws.refs_fit server asked reply is answers) reads)
    kept_fetch reading (Fetches asked) (Objects reply) read format plain answers sound reads =
        let same : read ≡ reply = objects_read laws.reading reading (any_reading server.graph.format asked) reply read
        count left format plain refl largest (reply_fits is sound.few answers) reads in record {
          fetch = asked;
          is_asked = refl;
          is_reply = ap Objects (sym same);
          answers = subst (FetchAnswer server tools.packs asked) (sym same) answers;
        }
    kept_fetch reading Empty reply read format plain answers sound reads = absurd sound
    kept_fetch reading asked reply read format plain answers sound reads = absurd answers

  -- the server holds each id of a ref and each acknowledged id that is read from the first bytes of a kept reply
  pub kept_tells : {w : WorldState A} {kept : Kept} (s : SessionState A) (count : ℕ) → IsSoundKept tools.packs w kept
      → s.format ≡ w.server.graph.format → s.ends ≡ Plain → Tells w s (take count (reply_bytes kept.reply))
  kept_tells {w} {kept} s count is format plain =
      let same : s.format ≡ is.server.graph.format = format ∙ sym is.format in
      let bytes = take count (reply_bytes kept.reply) in record {
        refs = λ unforged left reply reads.
            lines_told w is.server count left is.is kept.asked kept.reply reply is.grown is.answers is.request
            (subst (λ (f : Format). ReadsMessage (refs.judge f Plain) (refs.Says f Plain) (known_bytes bytes left) reply) same
            (subst (λ (e : Ends). ReadsMessage (refs.judge s.format e) (refs.Says s.format e) (known_bytes bytes left) reply)
            plain reads));
        objects = λ unforged asked left reply reads.
            let read = kept_fetch w is.server count left is.is (reading_for s asked) kept.asked kept.reply reply
            (sym same) plain is.answers is.request reads in
            all_held laws is.server.graph.entries w.server.graph.entries is.grown (acknowledged_by reply)
            (laws.acks is.server read.fetch reply read.answers).held;
      }

  -- ---- packs

  -- the indexer reads from the pack exactly the objects that the server packed
  pub read_is_sent : {w : WorldState A} {server : Server A} {asked : FetchAsked} {pack : List ℕ}
      (entries : List (Entry A)) → IsUnforgedAndFaithful tools w → (enough : IsEnough server tools.packs asked pack)
      → tools.indexes pack entries → entries ≡ enough.list
  read_is_sent {w} {server} {asked} {pack} entries honest enough read =
      let same = honest.faithful.packs_image enough.list pack enough.entries enough.packed in
      honest.faithful.reads_image enough.list entries enough.entries
      (subst (λ (bytes : List ℕ). tools.indexes bytes entries) same read)

  -- after a pack is accepted, the client holds all objects that the wants reach, and the graphs agree
  pub record IsCompleted (server : Server A) (wants : List (List ℕ)) (g : List (Entry A)) : Type 0 where
    pub all : HasAll server.graph.entries wants g
    pub agree : Agree server.graph.entries g

  pack_completes : (w : WorldState A) (old : Server A) (asked : FetchAsked) (pack : List ℕ) (repo : RepoState A)
      (added : ℕ) → IsUnforgedAndFaithful tools w → Agree w.server.graph.entries w.repo.graph.entries
      → IsServer old → Grows old.graph.entries w.server.graph.entries → All (Holds old.graph.entries) asked.wants
      → All (IsConnected w.repo.graph.entries) asked.haves → IsEnough old tools.packs asked pack
      → InsertsPack tools.indexes tools.index_fails w.repo pack repo added
      → IsCompleted w.server asked.wants repo.graph.entries
  pack_completes w old asked pack repo added honest agree is grown held connected enough inserts =
      let g = w.repo.graph.entries in
      let server = w.server.graph.entries in
      let list = enough.list in
      let keeps = laws.keeps old.graph.entries server grown in
      let same = read_is_sent inserts.0 honest enough inserts.1 in
      let format = w.repo.graph.format in
      let comes = subst (λ (l : List (Entry A)). Inserts format g l repo.graph.entries) same inserts.2.adds.1 in
      let before : Agree old.graph.entries g = λ a m n here there. agree a m n (keeps a m here) there in
      let nodes : All (AgreesWith server) list =
      All-weaker (λ (entry : Entry A). IsNode old.graph.entries entry.id entry.node) (AgreesWith server)
      (λ (entry : Entry A) here node there. let both = sym there ∙ keeps entry.id entry.node here in cc) list
      enough.nodes in record {
        all = laws.has_all old.graph.entries server repo.graph.entries asked.wants is.closed keeps held
            (enough.enough g repo.graph.entries format before connected comes);
        agree = laws.agreeing server g list repo.graph.entries format agree nodes comes;
      }

  pub sends : (server : Server A) (asked : FetchAsked) (reply : FetchReply) → HasPack reply
      → RepliesWith server tools.packs asked reply → SendsPack server tools.packs asked (pack_of reply)
  sends server asked (Acks ids) has replies = absurd has
  sends server asked (Ready ids pack) has replies = replies.3
  sends server asked (Pack pack) has replies = replies.1

  -- the pack of a kept reply was accepted: the client holds all objects that the wants of the reply's request reach
  pub record PackCame (w : WorldState A) (kept : Kept) (repo : RepoState A) : Type 0 where
    pub fetch : FetchAsked
    pub is_asked : kept.asked ≡ Fetches fetch
    pub completed : IsCompleted w.server fetch.wants repo.graph.entries

  -- the effect of an accepted pack, if no bytes were forged and the packer and the indexer are faithful
  pub pack_came : {w : WorldState A} {s : SessionState A} {kept : Kept} (count added : ℕ) (after : SessionState A)
      (repo : RepoState A) → IsUnforgedAndFaithful tools w → IsSound tools w → IsSoundKept tools.packs w kept
      → IsSoundSession w s
      → TakesObjects tools.indexes tools.index_fails s w.repo (take count (reply_bytes kept.reply)) (PackTaken added)
      after repo → PackCame w kept repo
  pack_came {w} {s} {kept} count added after repo honest world is sound takes =
      let took = takes.1 in
      let reply = took.2.0 in
      let head = took.2.2.1 in
      let read = kept_fetch w is.server count takes.0 is.is (reading_for s took.0) kept.asked kept.reply reply
      (is.format ∙ sym (sound.format ∙ world.format)) sound.ends is.answers is.request took.2.1 in
      let request : IsSoundFetch w read.fetch = subst (IsSoundRequest w) read.is_asked is.request in
      let enough = laws.enough is.server read.fetch (pack_of reply) is.is read.answers.can
      (sends is.server read.fetch reply head.0 read.answers.replies) in record {
        fetch = read.fetch;
        is_asked = read.is_asked;
        completed = pack_completes w is.server read.fetch (pack_of reply) repo added honest (world.agree honest) is.is
            is.grown read.answers.can.held request.connected enough head.2;
      }

  -- ---- sessions that are marked as answered

  pub either_connected : (g : List (Entry A)) (s : SessionState A) → All (IsConnected g) s.wants → (a : List ℕ) → IsWantedOrConnected g s a
      → IsConnected g a
  either_connected g s connected a (inl wanted) = All-contains (IsConnected g) s.wants a connected wanted
  either_connected g s connected a (inr there) = there

  -- in the world `v` after the session's pack is accepted, each requested id of the session is connected
  pub can_settle : {w v : WorldState A} {s : SessionState A} {kept : Kept} (after : SessionState A)
      (fetch : FetchAsked) (acks : List (List ℕ))
      → IsSession s → Awaits s fetch → kept.asked ≡ Fetches fetch → PackCame w kept v.repo → IsSoundSession v s
      → after ≡ after_acks s Settling acks → All (IsConnected v.repo.graph.entries) (asked_ids after.asks)
  can_settle {w} {v} {s} {kept} after fetch acks session waits same came sound is =
      let g = v.repo.graph.entries in
      let both : Fetches came.fetch ≡ Fetches fetch = sym came.is_asked ∙ same in
      let one : came.fetch ≡ fetch = cc in
      let wants : came.fetch.wants ≡ s.wants =
      ap (λ (x : FetchAsked). x.wants) one ∙ (laws.waits s fetch session waits).wants in
      let connected : All (IsConnected g) s.wants = subst (All (IsConnected g)) wants
      (All-weaker
      (λ (want : List ℕ). IsConnected g want × ((a : List ℕ) → Reaches w.server.graph.entries want a → Holds g a))
      (IsConnected g) (λ (want : List ℕ) both. both.0) came.fetch.wants came.completed.all) in
      subst (λ (x : SessionState A). All (IsConnected g) (asked_ids x.asks)) (sym is)
      (All-weaker (IsWantedOrConnected g s) (IsConnected g) (λ (a : List ℕ) either. either_connected g s connected a either)
      (asked_ids s.asks) sound.asked)
