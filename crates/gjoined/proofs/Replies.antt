-- The replies that a client reads are those that the server wrote. They arrive complete.
use Rattle.std.proofs.Common.{[], ◌++◌, ◌≡◌, ◌∙◌, ◌≤◌, ℕ, List, length, Some, inl, inr, refl, sym, ap, subst}
use Rattle.std.proofs.Common.{All, arith, append-nil}
use Rattle.gname.specs.Limits.{max_pack}
use Rattle.gname.specs.declared.formats.Format.{Format}
use Rattle.gpkt.specs.Laws.{HasFourBytes}
use Rattle.gpkt.specs.Packets.{Packet, SpellsAll}
use Rattle.ggrammar.specs.Limits.{profile}
use Rattle.ggrammar.specs.MessageBytes.{ReadsNoOther, known_bytes}
use Rattle.ggrammar.specs.declared.ends.Ends.{Ends}
use Rattle.ggrammar.specs.declared.ends.Ends.TheVariants.{Plain}
use Rattle.gobject.specs.Packs.{Packs}
use Rattle.gobject.specs.declared.node.Entry.{Entry}
use Rattle.grefs.specs.Refspecs.{Refspec}
use Rattle.grequest.specs.Asked.{Asked, Empty, Ls, Fetches, FetchAsked, LsRefsAsked, max_haves}
use Rattle.grequest.specs.WellFormed.{IsAsked}
use Rattle.glsreply.specs.LsReplies as refs
use Rattle.glsreply.specs.LsReplies.{LsReply}
use Rattle.glsreply.specs.WellFormed.{IsLsReplyIn, IsRefLine}
use Rattle.gfetchreply.specs.FetchHeads.{pack_of}
use Rattle.gfetchreply.specs.FetchReplies as objects
use Rattle.gfetchreply.specs.FetchReplies.{FetchReply, Reading, Acks, Ready, Pack}
use Rattle.gfetchreply.specs.WellFormed.{IsReplyIn}
use Rattle.gclientrepo.specs.Repos.{RepoState}
use Rattle.ganswer.specs.Answers.{Answers, Reply, Ls as Refs, Fetch as Objects}
use Rattle.ganswer.specs.FetchAnswers.{RepliesWith}
use Rattle.ganswer.specs.Laws.{FetchAnswersFit, LsAnswersFit}
use Rattle.ganswer.specs.Servers.{IsServer, Server}
use Rattle.gsession.specs.Sessions.{SessionState}
use Rattle.gsession.specs.TakingRefs.{ReadsRefs}
use Rattle.gsession.specs.TakingReplies.{ReadsFetch, TakesRead, reading_for}
use Rattle.gsession.specs.declared.taken.Taken.{Taken}
use Rattle.gsession.specs.declared.taken.Taken.TheVariants as taken
use Rattle.gfetch.specs.Turns.{ClientState, Takes}
use Rattle.gworld.specs.Fetching.{IsDone}
use Rattle.gworld.specs.Taking.{TakesBytes}
use Rattle.gworld.specs.Worlds.{PackTools, reply_bytes}
use Rattle.gworld.specs.declared.outcome.Outcome.{Outcome}
use Rattle.gworld.specs.declared.outcome.Outcome.TheVariants as outcomes
use Rattle.gworld.proofs.Delivering.{any_reading, largest}
use Rattle.gworld.proofs.Reading.{ReadingLaws, objects_bytes, objects_written, refs_bytes, refs_written}
use Rattle.gjoined.proofs.Bytes.{none_spelt, none_whole, one_front}
use Rattle.gjoined.proofs.Errors.{ErrorLaws, error_bytes, no_objects, no_refs}
use Rattle.gjoined.proofs.Plain.{IsPlain, SessionLaws, objects_keep, refs_keep}

-- the laws of replies
pub record ReplyLaws {A : Type 0} (packs : Packs A) : Type 0 where
  pub reading : ReadingLaws
  pub refs_end : (format : Format) (ends : Ends) → ReadsNoOther (refs.judge format ends)
  pub refs_fit : LsAnswersFit A
  pub objects_fit : FetchAnswersFit A packs
  pub small : (list : List (Entry A)) (pack : List ℕ) → packs list pack → length pack ≤ max_pack
  pub sessions : SessionLaws A

-- if no more packets are spelt, the bytes after them are the bytes before them
nothing_more : (more : List Packet) (bytes rest after : List ℕ) → more ≡ [] → SpellsAll more bytes
    → rest ≡ bytes ++ after → rest ≡ after
nothing_more more bytes rest after none spelt is =
    let empty : bytes ≡ [] = subst (λ (l : List Packet). SpellsAll l bytes) none spelt in
    is ∙ ap (λ (b : List ℕ). b ++ after) empty

-- two fetch replies at the front of the same bytes are equal, whatever the limits of their readers
one_objects : ReadingLaws → (reading other : Reading) (lines others : List Packet) (reply kept : FetchReply)
    (front next rest after : List ℕ) → other.format ≡ reading.format → other.ends ≡ reading.ends
    → objects.Says reading lines reply → objects.Says other others kept → SpellsAll lines front → SpellsAll others next
    → front ++ rest ≡ next ++ after → (lines ≡ others) × (rest ≡ after)
one_objects laws reading other lines others reply kept front next rest after format ends says also spelt spelt_too same =
    elim (laws.begins lines others front next rest after spelt spelt_too same) [
      | inl longer ↦
          let one = laws.objects_once reading other lines longer.0 reply kept format ends says
          (subst (λ (l : List Packet). objects.Says other l kept) longer.2 also) in (
            sym (longer.2 ∙ ap (λ (l : List Packet). lines ++ l) one.0 ∙ append-nil lines),
            nothing_more longer.0 longer.1 rest after one.0 longer.3 longer.4,
          )
      | inr longer ↦
          let one = laws.objects_once other reading others longer.0 kept reply (sym format) (sym ends) also
          (subst (λ (l : List Packet). objects.Says reading l reply) longer.2 says) in (
            longer.2 ∙ ap (λ (l : List Packet). others ++ l) one.0 ∙ append-nil others,
            sym (nothing_more longer.0 longer.1 after rest one.0 longer.3 longer.4),
          )
    ]

-- the outcome of an accepted fetch reply
abbrev taken_outcome : Taken → Outcome
taken_outcome (taken.Round common) = outcomes.Round common
taken_outcome (taken.PackTaken added) = outcomes.PackTaken added

module _ {A : Type 0} (tools : PackTools A) where
  -- the complete reply arrives, and the client accepts it
  pub record IsTaken (format : Format) (specs : List Refspec) (waiting : SessionState A) (asked : Asked) (old new : ClientState A) (reply : Reply)
      (rest after : List ℕ) : Type 0 where
    pub outcome : Outcome
    pub takes : TakesBytes tools.indexes tools.index_fails asked waiting old.repo (reply_bytes reply) outcome
        new.session new.repo
    pub done : IsDone outcome
    pub plain : IsPlain format specs new.session
    pub refs_after : new.repo.refs ≡ old.repo.refs
    pub left : rest ≡ after

  -- no reply is read from no bytes
  takes_some : (waiting : SessionState A) (asked : Asked) (old new : ClientState A) (lines : List Packet)
      → Takes tools.indexes tools.index_fails waiting asked old lines new → lines ≡ [] → ⊥
  takes_some waiting Empty old new lines takes none = takes
  takes_some waiting (Ls asked) old new lines takes none = none_whole takes.says.whole none
  takes_some waiting (Fetches asked) old new lines takes none = none_whole takes.says.whole none

  -- the bytes do not begin with a reply
  abbrev pub NoReply : List ℕ → Type 0
  NoReply bytes =
      (waiting : SessionState A) (asked : Asked) (old new : ClientState A) (lines : List Packet) (front rest : List ℕ)
      → Takes tools.indexes tools.index_fails waiting asked old lines new → SpellsAll lines front
      → front ++ rest ≡ bytes → ⊥

  pub no_bytes : HasFourBytes → NoReply []
  no_bytes four waiting asked old new lines front rest takes spelt none =
      takes_some waiting asked old new lines takes (none_spelt four lines front rest spelt none)

  pub no_error : ErrorLaws → (said : List ℕ) → length said ≤ 128 → NoReply (error_bytes said)
  no_error errors said short waiting Empty old new lines front rest takes spelt same = takes
  no_error errors said short waiting (Ls asked) old new lines front rest takes spelt same =
      no_refs errors waiting.format waiting.ends lines front rest said short takes.says.whole spelt same
  no_error errors said short waiting (Fetches asked) old new lines front rest takes spelt same =
      no_objects errors (reading_for waiting asked) lines front rest said short takes.says.whole spelt same

module _ {A : Type 0} (tools : PackTools A) (laws : ReplyLaws tools.packs) (server : Server A)
    (is : IsServer server) (specs : List Refspec) where
  pack_small : (asked : FetchAsked) (reply : FetchReply) → RepliesWith server tools.packs asked reply
      → length (pack_of reply) ≤ max_pack
  pack_small asked (Acks ids) replies = omega arith
  pack_small asked (Ready ids pack) replies = laws.small _ pack replies.3.packed
  pack_small asked (Pack pack) replies = laws.small _ pack replies.1.packed

  -- the packets `lines` that the client read are those that the server wrote, and only these were read
  refs_come : (s : SessionState A) (asked : LsRefsAsked) (reply : LsReply) (told : LsReply) (lines : List Packet)
      (front rest after : List ℕ) → s.format ≡ server.graph.format → s.ends ≡ Plain
      → Answers server tools.packs (Ls asked) (Refs reply) → refs.Says s.format s.ends lines told → SpellsAll lines front
      → front ++ rest ≡ refs_bytes reply ++ after
      → (told ≡ reply) × ReadsRefs s (known_bytes (refs_bytes reply) []) told × (rest ≡ after)
  refs_come s asked reply told lines front rest after format plain answers says spelt same =
      let f = server.graph.format in
      let canonical = refs.canonical_reply Plain reply in
      let fits : IsLsReplyIn f reply = laws.refs_fit server asked reply is answers in
      let written = refs_written laws.reading f reply fits in
      let here : refs.Says f Plain lines told =
      subst (λ (x : Format). refs.Says x Plain lines told) format
      (subst (λ (e : Ends). refs.Says s.format e lines told) plain says) in
      let one = one_front (laws.refs_end f Plain) canonical lines (refs_bytes reply) front after rest written.0.whole
      here.whole written.1 spelt (sym same) in (
        laws.reading.refs_once f Plain lines told reply here
            (subst (λ (l : List Packet). refs.Says f Plain l reply) (sym one.0) written.0),
        record {
          lines = lines;
          read = record {
            whole = says.whole;
            bytes = (
              refs_bytes reply,
              sym (append-nil (refs_bytes reply)),
              subst (λ (l : List Packet). SpellsAll l (refs_bytes reply)) (sym one.0) written.1,
            );
          };
          says = says;
        },
        one.1,
      )

  objects_come : (s : SessionState A) (asked : FetchAsked) (reply : FetchReply) (told : FetchReply)
      (lines : List Packet) (front rest after : List ℕ) → s.format ≡ server.graph.format → s.ends ≡ Plain
      → length asked.haves ≤ max_haves profile → Answers server tools.packs (Fetches asked) (Objects reply)
      → objects.Says (reading_for s asked) lines told → SpellsAll lines front
      → front ++ rest ≡ objects_bytes reply ++ after
      → ReadsFetch (reading_for s asked) (known_bytes (objects_bytes reply) []) told × (rest ≡ after)
  objects_come s asked reply told lines front rest after format plain few answers says spelt same =
      let f = server.graph.format in
      let canonical = objects.canonical_reply Plain reply in
      let other = any_reading f asked in
      let fits : IsReplyIn other reply =
      laws.objects_fit server asked reply other is few answers refl refl (pack_small asked reply answers.replies) in
      let written = objects_written laws.reading other reply refl largest fits in
      let one = one_objects laws.reading (reading_for s asked) other lines canonical told reply front
      (objects_bytes reply) rest after (sym format) (sym plain) says written.0 spelt written.1 same in (
        record {
          lines = lines;
          read = record {
            whole = says.whole;
            bytes = (
              objects_bytes reply,
              sym (append-nil (objects_bytes reply)),
              subst (λ (l : List Packet). SpellsAll l (objects_bytes reply)) (sym one.0) written.1,
            );
          };
          says = says;
        },
        one.1,
      )

  objects_taken : (s after : SessionState A) (asked : FetchAsked) (repo new : RepoState A) (bytes : List ℕ)
      (told : FetchReply) (result : Taken) → s.pending ≡ Some (Fetches asked)
      → ReadsFetch (reading_for s asked) (known_bytes bytes []) told
      → TakesRead tools.indexes tools.index_fails asked.haves s repo told after new result
      → TakesBytes tools.indexes tools.index_fails (Fetches asked) s repo bytes (taken_outcome result) after new
      × IsDone (taken_outcome result) × (new.refs ≡ repo.refs)
  objects_taken s after asked repo new bytes told (taken.Round common) waits reads takes =
      (([], (asked, waits, (told, reads, takes))), tt, ap (λ (r : RepoState A). r.refs) takes.1.3)
  objects_taken s after asked repo new bytes told (taken.PackTaken added) waits reads takes =
      (([], (asked, waits, (told, reads, takes))), tt, takes.1.2.2.refs)

  pub takes_reply : (waiting : SessionState A) (asked : Asked) (old new : ClientState A) (reply : Reply)
      (lines : List Packet) (front rest after : List ℕ) → IsPlain server.graph.format specs waiting
      → waiting.pending ≡ Some asked → IsAsked profile server.graph.format asked → Answers server tools.packs asked reply
      → Takes tools.indexes tools.index_fails waiting asked old lines new → SpellsAll lines front
      → front ++ rest ≡ reply_bytes reply ++ after → IsTaken tools server.graph.format specs waiting asked old new reply rest after
  takes_reply waiting (Ls asked) old new (Refs reply) lines front rest after plain waits well answers takes spelt same =
      let come = refs_come waiting asked reply takes.reply lines front rest after plain.format_is plain.ends_are answers
      takes.says spelt same in
      let fits : IsLsReplyIn server.graph.format reply = laws.refs_fit server asked reply is answers in record {
        outcome = outcomes.LsTaken takes.taken.asks takes.taken.wants;
        takes = ([], takes.taken, ((asked, waits), (takes.reply, come.1, takes.takes)), refl, refl, takes.stays);
        done = tt;
        plain = refs_keep laws.sessions server.graph.format specs waiting new.session old.repo.graph.entries takes.reply
            takes.taken plain (asked, waits)
            (subst (λ (r : LsReply). All (IsRefLine server.graph.format) r.lines) (sym come.0) fits.lines) takes.takes;
        refs_after = ap (λ (r : RepoState A). r.refs) takes.stays;
        left = come.2;
      }
  takes_reply waiting (Fetches asked) old new (Objects reply) lines front rest after plain waits well answers takes spelt same =
      let come = objects_come waiting asked reply takes.reply lines front rest after plain.format_is plain.ends_are
      well.few_haves answers takes.says spelt same in
      let took = objects_taken waiting new.session asked old.repo new.repo (objects_bytes reply) takes.reply takes.taken
      waits come.0 takes.takes in record {
        outcome = taken_outcome takes.taken;
        takes = took.0;
        done = took.1;
        plain = objects_keep laws.sessions tools.indexes tools.index_fails server.graph.format specs waiting new.session
            old.repo new.repo asked lines takes.reply takes.taken plain waits takes.says takes.takes;
        refs_after = took.2;
        left = come.1;
      }
  takes_reply waiting Empty old new reply lines front rest after plain waits well answers takes spelt same = absurd takes
  takes_reply waiting asked old new reply lines front rest after plain waits well answers takes spelt same = absurd answers
