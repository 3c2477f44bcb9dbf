-- The reasons for the client to reject a complete ls-refs reply to the open request.
use Rattle.std.proofs.Common.{[], false, ◌≡◌, ◌⊎◌, ℕ, ◌≤◌, List, length, Option, Some, Err, inl, inr, sym, ap}
use Rattle.std.proofs.Common.{subst, ◌∙◌, take}
use Rattle.std.specs.Prelude.{slice_get}
use Rattle.std.proofs.lemmas.List.{take_all}
use Rattle.gname.specs.declared.formats.Format.{Format}
use Rattle.ggrammar.specs.Faults.{why_row}
use Rattle.ggrammar.specs.Kinds.{ReadsMessage, SaysAtFront}
use Rattle.ggrammar.specs.MessageBytes.{IsOfBytes, known_bytes}
use Rattle.ggrammar.specs.MessageReading.{IsReadFailure, ReadsRefused}
use Rattle.ggrammar.specs.declared.ends.Ends.{Ends}
use Rattle.ggrammar.specs.declared.ends.Ends.TheVariants.{Plain}
use Rattle.ggrammar.specs.declared.fault.MessageFault.{MessageFault}
use Rattle.ggrammar.specs.declared.fault.Why.{Why}
use Rattle.ggrammar.specs.declared.fault.Why.TheVariants as why
use Rattle.glsreply.specs.LsReplies as refs
use Rattle.glsreply.specs.LsReplies.{LsReply}
use Rattle.glsreply.specs.WellFormed.{IsLsReplyIn}
use Rattle.gdag.specs.declared.fault.GraphFault.TheVariants as graph
use Rattle.gclientrepo.specs.Repos.{RepoState}
use Rattle.gclientrepo.specs.declared.fault.RepoFault.TheVariants as repo
use Rattle.gdag.proofs.Growing.{all_standing}
use Rattle.grequest.specs.Asked.{Asked, Empty, Ls, Fetches, LsRefsAsked}
use Rattle.ganswer.specs.Answers.{Reply, Ls as Refs}
use Rattle.gsession.specs.Asking.{AreNamed, asks_by_all}
use Rattle.gsession.specs.Sessions.{SessionState}
use Rattle.gsession.specs.TakingRefs.{IsLsFault, ReadsRefs, ReadsUntaken, RefusesRefs}
use Rattle.gsession.specs.TakingRefs.{WantsTooMuch}
use Rattle.gsession.specs.declared.fault.ClientFault.{ClientFault}
use Rattle.gsession.specs.declared.fault.ClientFault.TheVariants as client
use Rattle.gworld.specs.Events.{Delivers, Step, waiting_session, waits_for}
use Rattle.gworld.specs.Promises.{BringsRefs, IsListedOrDeclined, ListsRefs, MayDeclineRefs}
use Rattle.gworld.specs.Sound.{IsSound, IsSoundKept, IsSoundSession}
use Rattle.gworld.specs.Taking.{IsAtHand, TakesBytes, code_of}
use Rattle.gworld.specs.Worlds.{Kept, PackTools, WorldState, reply_bytes}
use Rattle.gscenario.specs.declared.event.Event.{Event}
use Rattle.gscenario.specs.declared.event.Event.TheVariants as event
use Rattle.gworld.specs.declared.outcome.Outcome.{Outcome}
use Rattle.gworld.specs.declared.outcome.Outcome.TheVariants.{LsTaken, Fault}
use Rattle.gworld.proofs.Faults.{FaultLaws, err_is_no_ok, why_cases}
use Rattle.gworld.proofs.Reading.{front_all, refs_bytes, refs_read, refs_written}
use Rattle.gworld.proofs.Sessions.{IsSoundIn, WorldLaws}

module _ {A : Type 0} {tools : PackTools A} (laws : WorldLaws tools) (faults : FaultLaws A) where
  -- ---- reading the reply

  module _ (s : SessionState A) (format : Format) (reply : LsReply) (is : IsLsReplyIn format reply)
      (same : s.format ≡ format) (plain : s.ends ≡ Plain) (count : ℕ) (left : List ℕ) where
    -- the reply that is read equals the reply that was sent
    read_same : (told : LsReply) → ReadsRefs s (known_bytes (take count (refs_bytes reply)) left) told → told ≡ reply
    read_same told reads = refs_read laws.reading format reply told count left is
        (subst (λ (f : Format). ReadsMessage (refs.judge f Plain) (refs.Says f Plain)
        (known_bytes (take count (refs_bytes reply)) left) told) same
        (subst (λ (e : Ends). ReadsMessage (refs.judge s.format e) (refs.Says s.format e)
        (known_bytes (take count (refs_bytes reply)) left) told) plain reads))

    -- reading a complete reply fails only if out of memory
    refused_memory : (cause : MessageFault) → length (refs_bytes reply) ≤ count
        → RefusesRefs s (known_bytes (take count (refs_bytes reply)) left) cause
        → (cause.why ≡ why.Memory) ⊎ IsOfBytes cause.why → cause.why ≡ why.Memory
    refused_memory cause all refused (inl memory) = memory
    refused_memory cause all refused (inr certain) =
        let bytes = refs_bytes reply in
        let lines = refs.canonical_reply Plain reply in
        let written = refs_written laws.reading format reply is in
        let there : SaysAtFront (refs.Says format Plain) bytes [] reply = (lines, front_all written.1, written.0) in
        let here : ReadsRefused (refs.judge format Plain) refs.brings refused.0 (known_bytes bytes left) cause =
        subst (λ (f : Format). ReadsRefused (refs.judge f Plain) refs.brings refused.0 (known_bytes bytes left) cause) same
        (subst (λ (e : Ends). ReadsRefused (refs.judge s.format e) refs.brings refused.0 (known_bytes bytes left) cause)
        plain
        (subst (λ (b : List ℕ). ReadsRefused (refs.judge s.format s.ends) refs.brings refused.0 (known_bytes b left) cause)
        (take_all count bytes all) refused.1)) in
        absurd (err_is_no_ok cause reply
        ((faults.refs_exactly format Plain bytes left [] (Err cause) reply (refused.0, here) certain).1 there).0)

  -- ---- accepting the reply

  module _ (w : WorldState A) (s : SessionState A) (session : IsSoundSession w s) (asked : LsRefsAsked)
      (reply : LsReply) (count : ℕ) (waits : s.pending ≡ Some (Ls asked)) (format : Format)
      (is : IsLsReplyIn format reply) (same : s.format ≡ format) (all : length (refs_bytes reply) ≤ count)
      (left : List ℕ) (number : ℕ) where
    abbrev Read : LsReply → Type 0
    Read told = ReadsRefs s (known_bytes (take count (refs_bytes reply)) left) told

    told_same : (told : LsReply) → Read told → told ≡ reply
    told_same told reads = read_same s format reply is same session.ends count left told reads

    message_fault : (cause : MessageFault) → IsReadFailure false false cause.why → number ≡ (why_row cause.why).code
        → RefusesRefs s (known_bytes (take count (refs_bytes reply)) left) cause
        ⊎ ReadsUntaken s w.repo.graph.entries (known_bytes (take count (refs_bytes reply)) left) (client.Message cause)
        → MayDeclineRefs w s reply number
    message_fault cause at is_number (inl refused) =
        let memory = refused_memory s format reply is same session.ends count left cause all refused
        (why_cases cause.why at) in
        inr (inr (inl (is_number ∙ ap (λ (y : Why). (why_row y).code) memory)))
    message_fault cause at is_number (inr untaken) = inl (
      is_number ∙ ap (λ (y : Why). (why_row y).code) untaken.2.why,
      subst (λ (r : LsReply). ¬ (AreNamed {A = A} (asks_by_all s.refspecs r.lines)))
          (told_same untaken.0 untaken.1) untaken.2.unnamed,
    )

    refs_fault : (fault : ClientFault A)
        → IsLsFault s w.repo.graph.entries (known_bytes (take count (refs_bytes reply)) left) fault → IsAtHand fault
        → number ≡ code_of fault → MayDeclineRefs w s reply number
    refs_fault client.NoOpenRequest why at is_number = absurd (why.0 (asked, waits))
    refs_fault (client.Message cause) why at is_number = message_fault cause at is_number why.1
    refs_fault client.TooManyWants why at is_number = inr (inl (
      is_number,
      subst (WantsTooMuch s w.repo.graph.entries) (told_same why.1.0 why.1.1) why.1.2,
    ))
    refs_fault (client.Repo (repo.Graph graph.Memory)) why at is_number = inr (inr (inr is_number))
    refs_fault (client.Repo _) why at is_number = absurd why.1.2
    refs_fault _ why at is_number = absurd why

  -- the client accepts a complete ls-refs reply to the open request, or rejects it for one of the allowed reasons
  listed : (w : WorldState A) (s after : SessionState A) (asked : Asked) (reply : LsReply) (count : ℕ)
      (outcome : Outcome) (r : RepoState A) → w.repo.graph.format ≡ w.server.graph.format → IsSoundSession w s
      → s.pending ≡ Some asked → IsSoundKept tools.packs w (record { asked = asked; reply = Refs reply })
      → length (reply_bytes (Refs reply)) ≤ count
      → TakesBytes tools.indexes tools.index_fails asked s w.repo (take count (reply_bytes (Refs reply))) outcome
      after r → IsListedOrDeclined w s reply outcome
  listed w s after (Ls asked) reply count (LsTaken asks wants) r format session waits is all takes = tt
  listed w s after (Ls asked) reply count (Fault number) r format session waits is all takes =
      refs_fault w s session asked reply count waits is.server.graph.format
      (laws.refs_fit is.server asked reply is.is is.answers) (session.format ∙ format ∙ sym is.format) all takes.0
      number takes.1 takes.2.0 takes.3 takes.4
  listed w s after (Fetches asked) reply count outcome r format session waits is all takes = absurd is.answers
  listed w s after Empty reply count outcome r format session waits is all takes = absurd takes
  listed w s after asked reply count _ r format session waits is all takes = absurd takes

  module _ {w : WorldState A} (sound : IsSound tools w) where
    delivers_listed : (v : WorldState A) (number count : ℕ) (outcome : Outcome)
        → Delivers tools.indexes tools.index_fails w (slice_get w.kept number) count (waiting_session w.session) outcome v
        → (reply : LsReply) (s : SessionState A) → BringsRefs w number count reply s
        → IsListedOrDeclined w s reply outcome
    delivers_listed v number count outcome delivers reply s brings =
        let kept = brings.kept in
        let Comes = Delivers tools.indexes tools.index_fails w in
        let found : Comes (Some kept) count (waiting_session w.session) outcome v =
        subst (λ (o : Option Kept). Comes o count (waiting_session w.session) outcome v) brings.at delivers in
        let to : Comes (Some kept) count (waits_for s s.pending) outcome v =
        subst (λ (o : Option (SessionState A)). Comes (Some kept) count (waiting_session o) outcome v) brings.goes_on found in
        let comes : Comes (Some kept) count (Some (s, kept.asked)) outcome v =
        subst (λ (o : Option Asked). Comes (Some kept) count (waits_for s o) outcome v) brings.waits to in
        let bytes = comes.2 in
        let same = ap (λ (r : Reply). record { asked = kept.asked; reply = r }) brings.refs in
        listed w s bytes.after kept.asked reply count outcome bytes.repo sound.format
        (subst (IsSoundIn w) brings.goes_on sound.session) brings.waits
        (subst (IsSoundKept tools.packs w) same
        (all_standing (IsSoundKept tools.packs w) w.kept number kept brings.at sound.kept))
        (subst (λ (r : Reply). length (reply_bytes r) ≤ count) brings.refs brings.all)
        (subst (λ (r : Reply). TakesBytes tools.indexes tools.index_fails kept.asked s w.repo
        (take count (reply_bytes r)) outcome bytes.after bytes.repo) brings.refs bytes.takes)

    pub lists_each : (v : WorldState A) (e : Event A) (outcome : Outcome) → Step tools w e outcome v
        → ListsRefs w e outcome
    lists_each v (event.Deliver number count) outcome step = delivers_listed v number count outcome step
    lists_each v e outcome step = tt
