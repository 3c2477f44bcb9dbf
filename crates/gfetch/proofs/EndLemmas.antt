-- The end of a client's dialogue, as the end of a conversation of turns.
use Rattle.std.proofs.Common.{◌≡◌, ◌≢◌, ◌⊎◌, ◌∙◌, ◌<◌, Bool, true, false, List, [], ◌∷◌, ◌++◌, length, Option, Some, None, Result, Ok, Err, IfErr, IfOk, inl, inr, refl, sym, ap, subst, arith, append-nil, append_assoc, length-append}
use Rattle.std.proofs.lemmas.Grind.{flat_map-append}
use Rattle.std.specs.Io.KnownBytes.{Appends, Consumes}
use Rattle.gname.specs.Ids.{Id}
use Rattle.gname.specs.declared.formats.Format.{Format}
use Rattle.gpkt.specs.Change.{Change}
use Rattle.gpkt.specs.Devices.{KeepsPassed}
use Rattle.gpkt.specs.Packets.{Bytes, Packet, Delim, Flush, canonical, canonical_all}
use Rattle.gpkt.specs.PacketReading.{ReadsPackets}
use Rattle.gpkt.specs.Sending.{Input, Output, IsUnwritten, Passes, output_of}
use Rattle.ggrammar.specs.Capabilities.{Capability}
use Rattle.ggrammar.specs.Grammar.{HasEndings, IsWhole, Judge, LawsOf}
use Rattle.ggrammar.specs.MessageReading.{IsReadFailure}
use Rattle.ggrammar.specs.declared.ends.Ends.{Ends}
use Rattle.ggrammar.specs.declared.fault.MessageFault.{MessageFault}
use Rattle.ggrammar.specs.declared.fault.Why.{Why}
use Rattle.ghello.specs.Adverts as advert
use Rattle.ghello.specs.Offers.{check_fault}
use Rattle.glsreply.specs.LsReplies as ls
use Rattle.gfetchreply.specs.FetchReplies as fetch
use Rattle.gfetchreply.specs.FetchReplies.{Reading}
use Rattle.gobject.specs.declared.node.Entry.{Entry}
use Rattle.gobject.specs.Packs.{Indexes, IndexFails}
use Rattle.gclientrepo.specs.Repos.{RepoState}
use Rattle.gclientrepo.specs.declared.fault.RepoFault.TheVariants as repo_fault
use Rattle.grequest.specs.Asked.{Asked, Empty, Ls, Fetches}
use Rattle.grequest.specs.RequestWriting.{agent_packets, canonical_request, fetch_argument_packets, format_packets, ls_argument_packets}
use Rattle.gsession.specs.Requesting.{Requests}
use Rattle.gsession.specs.Sessions.{SessionState}
use Rattle.gsession.specs.declared.fault.ClientFault.{ClientFault}
use Rattle.gsession.specs.declared.fault.ClientFault.TheVariants as client
use Rattle.gtalk.specs.Connections.{HasSent, PassesBytes, Spelt}
use Rattle.gtalk.specs.Partial.{LeavesSource}
use Rattle.gtalk.specs.declared.conversation.Stop.{Stop}
use Rattle.gtalk.specs.Connections.{IsDownBy}
use Rattle.gtalk.specs.declared.fault.TalkFault.{TalkFault}
use Rattle.gtalk.specs.declared.fault.TalkFault.TheVariants.{Io, Memory}
use Rattle.gtalk.proofs.Driving.{four_bytes}
use Rattle.gtalk.proofs.Moves.{canonical_joins}
use Rattle.gdialogue.specs.Dialogues.{Answered, HasReplied, IsRefused}
use Rattle.gdialogue.specs.Dialogues as dialogue
use Rattle.gdialogue.specs.Running.{BreaksBy, HasRun, Leaves, Receives}
use Rattle.gdialogue.proofs.Receiving.{RefusesAt, reads_heard, reads_parts, refuses_at}
use Rattle.gfetch.specs.Conversations.{Converses, FailsToAsk, HasAsked, IsDue, IsLeft, Mismatches, RefusesToRead, cannot_ask, cannot_hear, cannot_send, cannot_take, ending, request, request_bytes, requests_bytes, talk_bytes}
use Rattle.gfetch.specs.Conversations as conversation
use Rattle.gfetch.specs.Fetching.{AcceptsReply, AnswersAfter, DeclinesReply, AnswersMessage, Fails, GoesOn, IsDeclined, IsFresh, KeepsObjects, MismatchesAdvert, OpensFresh, RefusesMessage, start_of_side}
use Rattle.gfetch.specs.Heard.{brings_after, judge_after, session_brings, session_judge}
use Rattle.gfetch.specs.Laws.{HasTalked, IsTalk, asked_packets, reply_packets}
use Rattle.gfetch.specs.Laws as talk
use Rattle.gfetch.specs.Starts.{Advertises, Start, hear_advert}
use Rattle.gfetch.specs.Turns.{AreTurns, ClientState, FitsSource, IsTurn, IsUntaken, Turn}
use Rattle.gfetch.specs.declared.side.ClientSide.{ClientSide}
use Rattle.gfetch.specs.declared.fault.FetchFault.{FetchFault}
use Rattle.gfetch.specs.declared.fault.FetchFault.TheVariants as fetch_fault
use Rattle.gfetch.specs.Endings.{EndsAs, EndsTalk}
use Rattle.gfetch.proofs.SideLemmas.{objects_stay, objects_then}
use Rattle.gfetch.proofs.TalkLemmas.{begun_is, dialogues_are_turns, format_is, format_takes, heard_is, not_both, pending_is, takes_same, turn_more, waits}

-- ---- the bytes of requests

bytes_of_requests : (format : Format) (turns : List Turn) → canonical_all (asked_packets format turns) ≡ requests_bytes format turns
bytes_of_requests format [] = refl
bytes_of_requests format (turn ∷ turns) =
    canonical_joins (canonical_request format turn.asked) (asked_packets format turns)
    ∙ ap (λ (b : Bytes). request_bytes format turn.asked ++ b) (bytes_of_requests format turns)

pub longer : (a b : Bytes) → 0 < length b → 0 < length (a ++ b)
longer a b some = omega (arith, some, length-append a b)

pub longer_first : (a b : Bytes) → 0 < length a → 0 < length (a ++ b)
longer_first a b some = omega (arith, some, length-append a b)

delim_some : (first : Packet) (front back : List Packet) → 0 < length (canonical_all (first ∷ (front ++ Delim ∷ back)))
delim_some first front back =
    longer (canonical first) (canonical_all (front ++ Delim ∷ back))
    (subst (λ (b : Bytes). 0 < length b) (sym (canonical_joins front (Delim ∷ back)))
    (longer (canonical_all front) (canonical_all (Delim ∷ back)) (longer_first (canonical Delim) (canonical_all back) (four_bytes (canonical Delim) refl))))

some_of : (packets : List Packet) (first : Packet) (front back : List Packet) → packets ≡ first ∷ (front ++ Delim ∷ back) → 0 < length (canonical_all packets)
some_of packets first front back is = subst (λ (l : List Packet). 0 < length (canonical_all l)) (sym is) (delim_some first front back)

-- a request has at least one byte
pub some_request : (format : Format) (asked : Asked) → 0 < length (request_bytes format asked)
unfolding canonical_request
some_request format Empty = four_bytes (canonical_all (Flush ∷ [])) refl
some_request format (Ls asked) =
    some_of (canonical_request format (Ls asked)) _ (agent_packets asked.agent ++ format_packets format) (ls_argument_packets asked ++ Flush ∷ []) refl
some_request format (Fetches asked) =
    some_of (canonical_request format (Fetches asked)) _ (agent_packets asked.agent ++ format_packets format) (fetch_argument_packets asked ++ Flush ∷ []) refl

-- ---- the bytes written

not_empty : {P : Type 0} (bytes : Bytes) → 0 < length bytes → bytes ≡ [] → P
not_empty bytes some none = absurd (let n = ap length none in omega (arith, some, n))

pub passes_by : (output : Output) (Untouched : Type 0) (sent : Bool) (bytes : Bytes) → 0 < length bytes → HasSent sent bytes output.written output.passed_on output.is_down Untouched
    → Appends output.written.old output.written.new bytes → Passes output bytes
passes_by output Untouched true bytes some h wrote = record { written = wrote; passed_on = h.1; up = h.2 }
passes_by output Untouched false bytes some h wrote = not_empty bytes some h.0

pub unwritten_by : (output : Output) (Untouched : Type 0) → (Untouched → IsUnwritten output) → (sent : Bool) → HasSent sent [] output.written output.passed_on output.is_down Untouched
    → IsUnwritten output
unwritten_by output Untouched untouched true h = not_empty [] h.0 refl
unwritten_by output Untouched untouched false h = untouched h.1

module _ (output : Output) (Untouched : Type 0) (untouched : Untouched → IsUnwritten output) (sent : Bool) where
  passes_all : (bytes : Bytes) → 0 < length bytes → HasSent sent bytes output.written output.passed_on output.is_down Untouched
      → Appends output.written.old output.written.new bytes → Passes output bytes
  passes_all bytes some flushed wrote = passes_by output Untouched sent bytes some flushed wrote

  unwritten : HasSent sent [] output.written output.passed_on output.is_down Untouched → IsUnwritten output
  unwritten flushed = unwritten_by output Untouched untouched sent flushed

  has_asked : (format : Format) (turns : List Turn) → HasSent sent (requests_bytes format turns) output.written output.passed_on output.is_down Untouched
      → Appends output.written.old output.written.new (requests_bytes format turns) → HasAsked format output turns
  has_asked format [] flushed wrote = unwritten flushed
  has_asked format (turn ∷ turns) flushed wrote =
      passes_all (requests_bytes format (turn ∷ turns)) (longer_first (request_bytes format turn.asked) (requests_bytes format turns) (some_request format turn.asked)) flushed wrote

-- the sink failed after the requests of the turns
fails_to_ask : (output : Output) (format : Format) (turns : List Turn) (due front back : Bytes) → due ≡ front ++ back
    → Appends output.written.old output.written.new (requests_bytes format turns ++ front)
    → ((requests_bytes format turns ≡ []) × KeepsPassed output.passed_on) ⊎ ((0 < length (requests_bytes format turns)) × PassesBytes (requests_bytes format turns) output.written output.passed_on)
    → output.is_down ≡ true → FailsToAsk format output turns due
fails_to_ask output format [] due front back parts wrote (inl (none, keeps)) down = (record { front = front; rest = back; parts = parts; written = wrote; down = down }, keeps)
fails_to_ask output format [] due front back parts wrote (inr (some, passed)) down = not_empty [] some refl
fails_to_ask output format (turn ∷ turns) due front back parts wrote (inl (none, keeps)) down =
    not_empty (requests_bytes format (turn ∷ turns)) (longer_first (request_bytes format turn.asked) (requests_bytes format turns) (some_request format turn.asked)) none
fails_to_ask output format (turn ∷ turns) due front back parts wrote (inr (some, passed)) down =
    record { front = front; rest = back; parts = parts; written = wrote; passed_on = passed; down = down }

-- an unchanged sink
pub nothing_written : {W : Type 0} (contents passed_on : W → Option Bytes) (is_down : W → Bool) (old new : W) → new ≡ old → IsUnwritten (output_of contents passed_on is_down old new)
nothing_written contents passed_on is_down old new same = record { written = ap contents same; passed_on = ap passed_on same; down = ap is_down same }

-- ---- rejected replies

-- each grammar of a client's messages can complete every open list of packets
pub record EndingLaws : Type 0 where
  pub laws : (judge : Judge) → LawsOf judge
  pub advert : HasEndings advert.judge
  pub refs : (format : Format) (ends : Ends) → HasEndings (ls.judge format ends)
  pub objects : (reading : Reading) → HasEndings (fetch.judge reading)

endings_after : {A : Type 0} → EndingLaws → (session : SessionState A) (pending : Option Asked) → HasEndings (judge_after session pending)
endings_after l session None = l.advert
endings_after l session (Some Empty) = l.advert
endings_after l session (Some (Ls asked)) = l.refs session.format session.ends
endings_after l session (Some (Fetches asked)) = l.objects _

module _ {A : Type 0} (indexes : Indexes A) (index_fails : IndexFails) (g : List (Entry A)) (old waiting : SessionState A) (repo : RepoState A) (change : Change) where
  -- a packet of the reply is unreadable or rejected
  untaken_refused : (asked : Asked) (down : Bool) (fault : MessageFault) → Requests old g waiting (Ok asked) → waiting.pending ≡ Some asked
      → RefusesAt (judge_after waiting (Some asked)) (brings_after waiting (Some asked)) change down fault
      → IsUntaken indexes index_fails waiting asked repo change (client.Message fault)
  untaken_refused Empty down fault made pending r = absurd made.1.1
  untaken_refused (Ls asked) down fault made pending r = ((asked, pending), inl (r.front, r.refused))
  untaken_refused (Fetches asked) down fault made pending r = (asked, pending, (r.front, r.refused))

  -- the content of the complete reply is rejected
  untaken_declined : (asked : Asked) (down : Bool) (lines : List Packet) (cause : ClientFault A) → Requests old g waiting (Ok asked) → waiting.pending ≡ Some asked
      → ReadsPackets change lines → IsWhole (judge_after waiting (Some asked)) lines → IsDeclined indexes index_fails waiting asked repo lines cause → down ≡ false
      → IsUntaken indexes index_fails waiting asked repo change cause × FitsSource down cause
  untaken_declined Empty down lines cause made pending read whole is up = absurd made.1.1
  untaken_declined (Ls asked) down lines (client.Message fault) made pending read whole is up = (
    ((asked, pending), inr (is.0, record { lines = lines; read = record { whole = whole; bytes = read }; says = is.1 }, is.2)),
    subst (λ (w : Why). IsReadFailure false down w) (sym is.2.why) (refl, up),
  )
  untaken_declined (Ls asked) down lines client.TooManyWants made pending read whole is up =
      (((asked, pending), (is.0, record { lines = lines; read = record { whole = whole; bytes = read }; says = is.1 }, is.2)), up)
  untaken_declined (Ls asked) down lines (client.Repo fault) made pending read whole is up =
      (((asked, pending), (is.0, record { lines = lines; read = record { whole = whole; bytes = read }; says = is.1 }, is.2)), up)
  untaken_declined (Ls asked) down lines other made pending read whole is up = absurd is.2
  untaken_declined (Fetches asked) down lines (client.StrangeAck id) made pending read whole is up =
      ((asked, pending, (is.0, record { lines = lines; read = record { whole = whole; bytes = read }; says = is.1 }, is.2)), up)
  untaken_declined (Fetches asked) down lines (client.Index fault) made pending read whole is up =
      ((asked, pending, (is.0, record { lines = lines; read = record { whole = whole; bytes = read }; says = is.1 }, is.2)), up)
  untaken_declined (Fetches asked) down lines (client.Repo (repo_fault.Graph fault)) made pending read whole is up =
      ((asked, pending, (is.0, record { lines = lines; read = record { whole = whole; bytes = read }; says = is.1 }, is.2)), up)
  untaken_declined (Fetches asked) down lines other made pending read whole is up = absurd is.2

-- ---- the outcome of a dialogue

both_answers : {A K : Type 0} (indexes : Indexes A) (index_fails : IndexFails) (keeps : K → Id → Type 0) (g : List (Entry A)) (last : SessionState A)
    (asked : Asked) (mid now : ClientSide A K) (lines reply : List Packet) (goes : Bool) → Requests last g mid.client.session (Ok asked)
    → AnswersAfter indexes index_fails keeps (Some asked) mid now lines reply goes
    → AcceptsReply indexes index_fails asked mid now lines reply goes ⊎ DeclinesReply indexes index_fails asked mid now lines reply goes
both_answers indexes index_fails keeps g last Empty mid now lines reply goes made answers = absurd made.1.1
both_answers indexes index_fails keeps g last (Ls asked) mid now lines reply goes made answers = answers
both_answers indexes index_fails keeps g last (Fetches asked) mid now lines reply goes made answers = answers

module _ {A K : Type 0} (indexes : Indexes A) (index_fails : IndexFails) (keeps : K → Id → Type 0) (first : ClientSide A K) where
  abbrev OwnFormat : Format
  OwnFormat = first.client.repo.graph.format

  abbrev OwnStart : Start A
  OwnStart = start_of_side first

  abbrev SideReplied : List Packet → Option Stop → List Packet → List Packet → Bool → ClientSide A K → Type 0
  SideReplied = HasReplied (λ (side : ClientSide A K). session_judge side.client.session) (λ (side : ClientSide A K). session_brings side.client.session) OpensFresh
      (AnswersMessage indexes index_fails keeps) RefusesMessage first

  -- the client has completed turns, and is in the state `last`
  pub record HasCompleted (heard said : List Packet) (last : ClientState A) : Type 0 where
    pub packets : List Packet
    pub capabilities : List Capability
    pub advertises : Advertises OwnFormat packets capabilities
    pub turns : List Turn
    pub each : AreTurns indexes index_fails (hear_advert OwnStart capabilities) turns last
    pub all_heard : heard ≡ packets ++ reply_packets turns
    pub all_said : said ≡ asked_packets OwnFormat turns
    pub own : last.session.format ≡ OwnFormat

  completed_advert : IsFresh first → (lines : List Packet) (capabilities : List Capability) → Advertises first.client.session.format lines capabilities
      → HasCompleted lines [] (hear_advert OwnStart capabilities)
  completed_advert fresh lines capabilities advertises = record {
    packets = lines;
    capabilities = capabilities;
    advertises = subst (λ (f : Format). Advertises f lines capabilities) (format_is indexes index_fails keeps first fresh) advertises;
    turns = [];
    each = refl;
    all_heard = sym (append-nil lines);
    all_said = refl;
    own = refl;
  }

  completed_reply : (front said lines reply : List Packet) (goes : Bool) (mid now : ClientSide A K) (h : HasTalked indexes index_fails keeps first front said mid)
      → (a : AcceptsReply indexes index_fails h.asked mid now lines reply goes) → HasCompleted (front ++ lines) said a.now
  completed_reply front said lines reply goes mid now h a =
      let turn : Turn = record { asked = h.asked; reply = lines } in
      let is : IsTurn indexes index_fails h.last turn a.now = record {
        waiting = mid.client.session;
        asks = h.asks;
        takes = takes_same indexes index_fails mid.client.session h.asked mid.client h.last a.now lines h.repo h.unborn a.takes;
      } in
      record {
        packets = h.packets;
        capabilities = h.capabilities;
        advertises = h.advertises;
        turns = h.turns ++ turn ∷ [];
        each = turn_more indexes index_fails (hear_advert OwnStart h.capabilities) h.last a.now h.turns turn h.each is;
        all_heard =
            ap (λ (l : List Packet). l ++ lines) h.all_heard ∙ append_assoc h.packets (reply_packets h.turns) lines
            ∙ ap (λ (l : List Packet). h.packets ++ l) (sym (flat_map-append (λ (t : Turn). t.reply) h.turns (turn ∷ []) ∙ ap (λ (l : List Packet). reply_packets h.turns ++ l) (append-nil lines)));
        all_said =
            h.all_said
            ∙ sym (flat_map-append (λ (t : Turn). canonical_request OwnFormat t.asked) h.turns (turn ∷ []) ∙ ap (λ (l : List Packet). asked_packets OwnFormat h.turns ++ l) (append-nil (canonical_request OwnFormat h.asked)));
        own = format_takes indexes index_fails mid.client.session h.asked mid.client a.now lines a.takes ∙ h.format;
      }

  pub data Outcome (now : ClientSide A K) (heard : List Packet) (stopped : Option Stop) (earlier reply : List Packet) (goes : Bool) : Type 0 where
    -- the client accepted the message
    next : (last : ClientState A) → HasCompleted heard earlier last → stopped ≡ None → GoesOn last first.fault now reply goes
        → Outcome now heard stopped earlier reply goes
    -- a packet of the message was unreadable or rejected
    refused : (mid : ClientSide A K) (front lines : List Packet) (cause : MessageFault) → IsTalk indexes index_fails keeps first front earlier mid
        → heard ≡ front ++ lines → IsRefused (session_judge mid.client.session) (session_brings mid.client.session) lines stopped cause
        → Fails mid now (client.Message cause) reply goes → Outcome now heard stopped earlier reply goes
    -- the client does not support the server
    mismatched : MismatchesAdvert first now heard reply goes → earlier ≡ [] → stopped ≡ None → Outcome now heard stopped earlier reply goes
    -- the client rejected the content of a complete reply
    declined : (mid : ClientSide A K) (front lines : List Packet) (cause : ClientFault A) (h : HasTalked indexes index_fails keeps first front earlier mid)
        → heard ≡ front ++ lines → stopped ≡ None → IsWhole (session_judge mid.client.session) lines → IsDeclined indexes index_fails mid.client.session h.asked mid.client.repo lines cause
        → Fails mid now cause reply goes → Outcome now heard stopped earlier reply goes

  of_first : IsFresh first → (lines reply : List Packet) (goes : Bool) (now : ClientSide A K) → AnswersMessage indexes index_fails keeps first lines reply goes now
      → Outcome now lines None [] reply goes
  of_first fresh lines reply goes now answers =
      elim (subst (λ (p : Option Asked). AnswersAfter indexes index_fails keeps p first now lines reply goes) (pending_is indexes index_fails keeps first fresh) answers.answers
      (begun_is indexes index_fails keeps first fresh)) as (λ _. Outcome now lines None [] reply goes) [
        | inl heard ↦ next (hear_advert OwnStart heard.capabilities) (completed_advert fresh lines heard.capabilities heard.advertises) refl
            (subst (λ (c : ClientState A). GoesOn c first.fault now reply goes) (heard_is indexes index_fails keeps first fresh heard.capabilities) heard.goes_on)
        | inr not ↦ mismatched not refl refl
      ]

  of_reply : (front said lines reply : List Packet) (goes : Bool) (mid now : ClientSide A K) → HasTalked indexes index_fails keeps first front said mid
      → IsWhole (session_judge mid.client.session) lines → AnswersMessage indexes index_fails keeps mid lines reply goes now
      → Outcome now (front ++ lines) None said reply goes
  of_reply front said lines reply goes mid now h whole answers =
      let g = h.last.repo.graph.entries in
      let opened = waits g h.last.session mid.client.session h.asked h.asks in
      elim (both_answers indexes index_fails keeps g h.last.session h.asked mid now lines reply goes h.asks
      (subst (λ (p : Option Asked). AnswersAfter indexes index_fails keeps p mid now lines reply goes) opened answers.answers)) as (λ _. Outcome now (front ++ lines) None said reply goes) [
        | inl a ↦ next a.now (completed_reply front said lines reply goes mid now h a) refl (subst (λ (f : Option (ClientFault A)). GoesOn a.now f now reply goes) h.fault a.goes_on)
        | inr d ↦ declined mid front lines d.cause h refl refl whole d.declined d.fails
      ]

  of_answer : (front said lines reply : List Packet) (goes : Bool) (mid now : ClientSide A K) → IsTalk indexes index_fails keeps first front said mid
      → IsWhole (session_judge mid.client.session) lines → AnswersMessage indexes index_fails keeps mid lines reply goes now
      → Outcome now (front ++ lines) None said reply goes
  of_answer front said lines reply goes mid now (talk.IsTalk.begun fresh) whole answers = of_first fresh lines reply goes now answers
  of_answer front said lines reply goes mid now (talk.IsTalk.talked so_far so_said there fresh h) whole answers =
      of_reply so_far so_said lines reply goes there now h whole answers

  outcome : (heard : List Packet) (stopped : Option Stop) (earlier reply : List Packet) (goes : Bool) (now : ClientSide A K) → SideReplied heard stopped earlier reply goes now
      → (goes ≡ false) ⊎ (reply ≢ []) → Outcome now heard stopped earlier reply goes
  outcome heard stopped earlier reply goes now (dialogue.HasReplied.opened said on h) (inl is) = not_both (sym h.1.1 ∙ is)
  outcome heard stopped earlier reply goes now (dialogue.HasReplied.opened said on h) (inr some) = absurd (some h.1.0)
  outcome heard stopped earlier reply goes now (dialogue.HasReplied.answered so_far so_said lines said on mid last a w h) some =
      of_answer so_far so_said lines said on mid last (dialogues_are_turns indexes index_fails keeps first so_far so_said mid a) w h
  outcome heard stopped earlier reply goes now (dialogue.HasReplied.refused so_far so_said lines said why fault mid last a r h) some =
      refused mid so_far lines fault (dialogues_are_turns indexes index_fails keeps first so_far so_said mid a) refl r h.fails

  -- ---- the indexer

  talk_keeps : (heard said : List Packet) (now : ClientSide A K) → IsTalk indexes index_fails keeps first heard said now → KeepsObjects keeps first now
  talk_keeps heard said now (talk.IsTalk.begun fresh) = objects_stay keeps first first (record { indexer = record { value = refl; in_place = refl }; repo = refl })
  talk_keeps heard said now (talk.IsTalk.talked so_far so_said there fresh h) = h.indexer

  pub replied_keeps : (heard : List Packet) (stopped : Option Stop) (earlier reply : List Packet) (goes : Bool) (now : ClientSide A K) → SideReplied heard stopped earlier reply goes now
      → KeepsObjects keeps first now
  replied_keeps heard stopped earlier reply goes now (dialogue.HasReplied.opened said on h) =
      objects_stay keeps first first (record { indexer = record { value = refl; in_place = refl }; repo = refl })
  replied_keeps heard stopped earlier reply goes now (dialogue.HasReplied.answered so_far so_said lines said on mid last a w h) =
      objects_then keeps first mid last (talk_keeps so_far so_said mid (dialogues_are_turns indexes index_fails keeps first so_far so_said mid a)) h.indexer
  replied_keeps heard stopped earlier reply goes now (dialogue.HasReplied.refused so_far so_said lines said why fault mid last a r h) =
      objects_then keeps first mid last (talk_keeps so_far so_said mid (dialogues_are_turns indexes index_fails keeps first so_far so_said mid a))
      (objects_stay keeps mid last (record { indexer = h.indexer; repo = h.fails.repo }))

  -- ---- the result of a conversation

  module _ (endings : EndingLaws) (fresh : IsFresh first) (input : Input) (output : Output) where
    abbrev FailsSo : RepoState A → FetchFault A → Type 0
    FailsSo = conversation.Fails indexes index_fails OwnStart input output

    converses_left : (heard said : List Packet) (stopped : Option Stop) (last : ClientState A) → (h : HasCompleted heard said last) → stopped ≡ None
        → Receives heard stopped input.read input.is_down → Converses indexes index_fails OwnStart input h.turns last IsLeft
    converses_left heard said stopped last h none r =
        let source = subst (λ (s : Option Stop). LeavesSource s input.read.new input.is_down) none r.leaves.source in record {
          few = fresh.few;
          packets = h.packets;
          capabilities = h.capabilities;
          advertises = h.advertises;
          each = h.each;
          between = input.read.new;
          read = subst (ReadsPackets input.read) h.all_heard (reads_heard input.read r.more r.partial heard r.consumed r.spelt (r.leaves.clean none));
          rest = record { unread = refl; up = source };
        }

    -- the client rejects a reply, after it has sent the requests of the turns and the open request
    untaken_reply : (front said lines : List Packet) (stopped : Option Stop) (mid now : ClientSide A K) (cause : ClientFault A) (goes : Bool) (reply : List Packet)
        → (h : HasTalked indexes index_fails keeps first front said mid) → Receives (front ++ lines) stopped input.read input.is_down
        → ((between : Option Bytes) (rest : Bytes) (partial : Bytes) → Consumes between input.read.new rest → Spelt lines partial rest → Leaves stopped partial input.read.new input.is_down
        → IsUntaken indexes index_fails mid.client.session h.asked h.last.repo (record { old = between; new = input.read.new }) cause × FitsSource input.is_down cause)
        → Passes output (requests_bytes OwnFormat h.turns ++ request_bytes OwnFormat h.asked)
        → Fails mid now cause reply goes → FailsSo now.client.repo (fetch_fault.Client cause)
    untaken_reply front said lines stopped mid now cause goes reply h r untaken passed fails =
        let p = reads_parts input.read r.more r.partial front lines r.consumed r.spelt in
        let u = untaken p.0 p.1 r.partial p.3 p.4 r.leaves in
        cannot_take h.turns h.last h.asked mid.client.session cause h.asks
        (record {
          few = fresh.few;
          packets = h.packets;
          capabilities = h.capabilities;
          advertises = h.advertises;
          each = h.each;
          between = p.0;
          read = subst (ReadsPackets (record { old = input.read.old; new = p.0 })) h.all_heard p.2;
          rest = record { untaken = u.0; source = u.1 };
        })
        passed (fails.repo ∙ h.repo)

    module _ (sent : Bool) (Untouched : Type 0) (untouched : Untouched → IsUnwritten output) (earlier reply : List Packet)
        (flushed : HasSent sent (canonical_all earlier ++ canonical_all reply) output.written output.passed_on output.is_down Untouched)
        (wrote : Appends output.written.old output.written.new (canonical_all earlier ++ canonical_all reply)) where
      flushed_as : (bytes : Bytes) → canonical_all earlier ++ canonical_all reply ≡ bytes → HasSent sent bytes output.written output.passed_on output.is_down Untouched
      flushed_as bytes is = subst (λ (b : Bytes). HasSent sent b output.written output.passed_on output.is_down Untouched) is flushed

      wrote_as : (bytes : Bytes) → canonical_all earlier ++ canonical_all reply ≡ bytes → Appends output.written.old output.written.new bytes
      wrote_as bytes is = subst (λ (b : Bytes). Appends output.written.old output.written.new b) is wrote

      silent : (packets : List Packet) → earlier ≡ packets → reply ≡ [] → canonical_all earlier ++ canonical_all reply ≡ canonical_all packets
      silent packets is none = ap (λ (l : List Packet). canonical_all earlier ++ canonical_all l) none ∙ append-nil (canonical_all earlier) ∙ ap canonical_all is

      none_sent : earlier ≡ [] → reply ≡ [] → IsUnwritten output
      none_sent is none = unwritten output Untouched untouched sent (flushed_as [] (silent [] is none))

      open_sent : (turns : List Turn) (asked : Asked) → earlier ≡ asked_packets OwnFormat turns ++ canonical_request OwnFormat asked → reply ≡ []
          → Passes output (requests_bytes OwnFormat turns ++ request_bytes OwnFormat asked)
      open_sent turns asked is none =
          let bytes = silent (asked_packets OwnFormat turns ++ canonical_request OwnFormat asked) is none
          ∙ canonical_joins (asked_packets OwnFormat turns) (canonical_request OwnFormat asked)
          ∙ ap (λ (b : Bytes). b ++ request_bytes OwnFormat asked) (bytes_of_requests OwnFormat turns) in
          passes_all output Untouched untouched sent (requests_bytes OwnFormat turns ++ request_bytes OwnFormat asked)
          (longer (requests_bytes OwnFormat turns) (request_bytes OwnFormat asked) (some_request OwnFormat asked)) (flushed_as _ bytes) (wrote_as _ bytes)

      turns_sent : (turns : List Turn) → earlier ≡ asked_packets OwnFormat turns → reply ≡ [] → HasAsked OwnFormat output turns
      turns_sent turns is none =
          let bytes = silent (asked_packets OwnFormat turns) is none ∙ bytes_of_requests OwnFormat turns in
          has_asked output Untouched untouched sent OwnFormat turns (flushed_as _ bytes) (wrote_as _ bytes)

      all_sent : (turns : List Turn) (asked : Asked) → earlier ≡ asked_packets OwnFormat turns → reply ≡ canonical_request OwnFormat asked
          → Passes output (requests_bytes OwnFormat turns ++ request_bytes OwnFormat asked)
      all_sent turns asked is last =
          let bytes = ap (λ (l : List Packet). canonical_all earlier ++ canonical_all l) last
          ∙ ap (λ (l : List Packet). canonical_all l ++ request_bytes OwnFormat asked) is
          ∙ ap (λ (b : Bytes). b ++ request_bytes OwnFormat asked) (bytes_of_requests OwnFormat turns) in
          passes_all output Untouched untouched sent (requests_bytes OwnFormat turns ++ request_bytes OwnFormat asked)
          (longer (requests_bytes OwnFormat turns) (request_bytes OwnFormat asked) (some_request OwnFormat asked)) (flushed_as _ bytes) (wrote_as _ bytes)

      -- a packet of a message was unreadable or rejected
      refused_ends : (front lines : List Packet) (stopped : Option Stop) (mid now : ClientSide A K) (cause : MessageFault) (goes : Bool)
          → (said : List Packet) → earlier ≡ said → IsTalk indexes index_fails keeps first front said mid → Receives (front ++ lines) stopped input.read input.is_down
          → IsRefused (session_judge mid.client.session) (session_brings mid.client.session) lines stopped cause → Fails mid now (client.Message cause) reply goes
          → FailsSo now.client.repo (fetch_fault.Client (client.Message cause))
      refused_ends front lines stopped mid now cause goes said same (talk.IsTalk.begun begun) r is fails =
          let advert_refused = subst (λ (p : Option Asked). IsRefused (judge_after first.client.session p) (brings_after first.client.session p) lines stopped cause) (pending_is indexes index_fails keeps first fresh) is in
          let a = refuses_at advert.judge advert.brings (endings.laws advert.judge) endings.advert input.read r.more r.partial lines stopped cause input.is_down r.consumed r.spelt r.leaves advert_refused in
          cannot_hear cause fresh.few (inl (record { front = a.front; refused = a.refused; source = a.source })) (none_sent same fails.all) fails.repo
      refused_ends front lines stopped mid now cause goes said same (talk.IsTalk.talked so_far so_said there begun h) r is fails =
          let g = h.last.repo.graph.entries in
          let opened = waits g h.last.session there.client.session h.asked h.asks in
          let reply_refused = subst (λ (p : Option Asked). IsRefused (judge_after there.client.session p) (brings_after there.client.session p) lines stopped cause) opened is in
          untaken_reply so_far so_said lines stopped there now (client.Message cause) goes reply h r
          (λ between rest partial consumed spelt leaves.
          let a = refuses_at (judge_after there.client.session (Some h.asked)) (brings_after there.client.session (Some h.asked)) (endings.laws _) (endings_after endings there.client.session (Some h.asked))
          (record { old = between; new = input.read.new }) rest partial lines stopped cause input.is_down consumed spelt leaves reply_refused in
          (untaken_refused indexes index_fails g h.last.session there.client.session h.last.repo (record { old = between; new = input.read.new }) h.asked input.is_down cause h.asks opened a, a.source))
          (open_sent h.turns h.asked (same ∙ h.all_said) fails.all) fails

      -- the content of a complete reply was rejected
      declined_ends : (front lines : List Packet) (mid now : ClientSide A K) (cause : ClientFault A) (goes : Bool)
          → (h : HasTalked indexes index_fails keeps first front earlier mid) → Receives (front ++ lines) None input.read input.is_down
          → IsWhole (session_judge mid.client.session) lines → IsDeclined indexes index_fails mid.client.session h.asked mid.client.repo lines cause → Fails mid now cause reply goes
          → FailsSo now.client.repo (fetch_fault.Client cause)
      declined_ends front lines mid now cause goes h r whole is fails =
          let g = h.last.repo.graph.entries in
          let opened = waits g h.last.session mid.client.session h.asked h.asks in
          let whole_reply = subst (λ (p : Option Asked). IsWhole (judge_after mid.client.session p) lines) opened whole in
          untaken_reply front earlier lines None mid now cause goes reply h r
          (λ between rest partial consumed spelt leaves.
          untaken_declined indexes index_fails g h.last.session mid.client.session h.last.repo (record { old = between; new = input.read.new }) h.asked input.is_down lines cause h.asks opened
          (reads_heard (record { old = between; new = input.read.new }) rest partial lines consumed spelt (leaves.clean refl)) whole_reply
          (subst (λ (state : RepoState A). IsDeclined indexes index_fails mid.client.session h.asked state lines cause) h.repo is) leaves.source)
          (open_sent h.turns h.asked h.all_said fails.all) fails

      mismatched_ends : (heard : List Packet) (stopped : Option Stop) (now : ClientSide A K) (goes : Bool) → (m : MismatchesAdvert first now heard reply goes) → earlier ≡ [] → stopped ≡ None
          → Receives heard stopped input.read input.is_down → FailsSo now.client.repo (fetch_fault.Client (client.Message m.cause))
      mismatched_ends heard stopped now goes m nothing none r =
          let up = subst (λ (s : Option Stop). LeavesSource s input.read.new input.is_down) none r.leaves.source in
          let format = format_is indexes index_fails keeps first fresh in
          cannot_hear m.cause fresh.few
          (inr (record {
            packets = heard;
            capabilities = m.capabilities;
            lines = reads_heard input.read r.more r.partial heard r.consumed r.spelt (r.leaves.clean none);
            says = m.says;
            why = subst (λ (f : Format). check_fault f m.capabilities ≡ Some m.cause.why) format m.why;
            frame = m.frame;
            up = up;
          }))
          (none_sent nothing m.fails.all) m.fails.repo

      -- the client accepted the last message, and the dialogue has ended
      next_ends : (heard : List Packet) (stopped : Option Stop) (now : ClientSide A K) (last : ClientState A) → HasCompleted heard earlier last → stopped ≡ None
          → GoesOn last first.fault now reply false → Receives heard stopped input.read input.is_down → EndsAs indexes index_fails OwnStart input output now now.fault
      next_ends heard stopped now last done none (inl asks) r = not_both (sym asks.goes_on)
      next_ends heard stopped now last done none (inr (inl ends)) r =
          subst (EndsAs indexes index_fails OwnStart input output now) (sym (ends.fault ∙ fresh.fault))
          (record {
            talk = done.turns;
            converses = subst (λ (c : ClientState A). Converses indexes index_fails OwnStart input done.turns c IsLeft) (sym ends.same) (converses_left heard earlier stopped last done none r);
            settles_next = ap (λ (c : ClientState A). c.session.stage) ends.same ∙ ends.settles_next;
            passed = all_sent done.turns Empty done.all_said (ends.all ∙ ap (λ (f : Format). canonical_request f Empty) done.own);
          })
      next_ends heard stopped now last done none (inr (inr lacks)) r =
          subst (EndsAs indexes index_fails OwnStart input output now) (sym lacks.fault)
          (cannot_ask done.turns last now.client.session (converses_left heard earlier stopped last done none r) lacks.fails (turns_sent done.turns done.all_said lacks.all) lacks.repo)

      ends_as : (heard : List Packet) (stopped : Option Stop) (now : ClientSide A K) → Outcome now heard stopped earlier reply false → Receives heard stopped input.read input.is_down
          → EndsAs indexes index_fails OwnStart input output now now.fault
      ends_as heard stopped now (next last done none goes) r = next_ends heard stopped now last done none goes r
      ends_as heard stopped now (refused mid front lines cause so_far is why fails) r =
          subst (EndsAs indexes index_fails OwnStart input output now) (sym fails.fault)
          (refused_ends front lines stopped mid now cause false earlier refl so_far (subst (λ (l : List Packet). Receives l stopped input.read input.is_down) is r) why fails)
      ends_as heard stopped now (mismatched m nothing none) r =
          subst (EndsAs indexes index_fails OwnStart input output now) (sym m.fails.fault) (mismatched_ends heard stopped now false m nothing none r)
      ends_as heard stopped now (declined mid front lines cause h is none whole why fails) r =
          subst (EndsAs indexes index_fails OwnStart input output now) (sym fails.fault)
          (declined_ends front lines mid now cause false h
          (subst (λ (s : Option Stop). Receives (front ++ lines) s input.read input.is_down) none (subst (λ (l : List Packet). Receives l stopped input.read input.is_down) is r)) whole why fails)

    -- the sink failed while the client sent a request
    module _ (now : ClientSide A K) (heard : List Packet) (stopped : Option Stop) (earlier reply : List Packet) (goes : Bool) (some : reply ≢ [])
        (r : Receives heard stopped input.read input.is_down) (front back : Bytes) (due : canonical_all reply ≡ front ++ back)
        (wrote : Appends output.written.old output.written.new (canonical_all earlier ++ front))
        (passed : ((canonical_all earlier ≡ []) × KeepsPassed output.passed_on) ⊎ ((0 < length (canonical_all earlier)) × PassesBytes (canonical_all earlier) output.written output.passed_on))
        (down : output.is_down ≡ true) where
      unsent : (last : ClientState A) → (done : HasCompleted heard earlier last) → stopped ≡ None → (asked : Asked) → IsDue indexes index_fails OwnStart last asked
          → reply ≡ canonical_request last.session.format asked → now.client.repo ≡ last.repo → FailsSo now.client.repo fetch_fault.WriteFailed
      unsent last done none asked is_due is same =
          let bytes = ap canonical_all done.all_said ∙ bytes_of_requests OwnFormat done.turns in
          let parts : request_bytes OwnFormat asked ≡ front ++ back = sym (ap canonical_all (is ∙ ap (λ (f : Format). canonical_request f asked) done.own)) ∙ due in
          cannot_send done.turns last asked (converses_left heard earlier stopped last done none r) is_due
          (fails_to_ask output OwnFormat done.turns (request_bytes OwnFormat asked) front back parts
          (subst (λ (b : Bytes). Appends output.written.old output.written.new (b ++ front)) bytes wrote)
          (subst (λ (b : Bytes). ((b ≡ []) × KeepsPassed output.passed_on) ⊎ ((0 < length b) × PassesBytes b output.written output.passed_on)) bytes passed) down)
          same

      unsent_next : (last : ClientState A) → HasCompleted heard earlier last → stopped ≡ None → GoesOn last first.fault now reply goes → FailsSo now.client.repo fetch_fault.WriteFailed
      unsent_next last done none (inl asks) = unsent last done none asks.asked (request asks.asked now.client.session asks.asks) asks.all asks.repo
      unsent_next last done none (inr (inl ends)) = unsent last done none Empty (ending ends.settles_next) ends.all (ap (λ (c : ClientState A). c.repo) ends.same)
      unsent_next last done none (inr (inr lacks)) = absurd (some lacks.all)

      ends_broken : Outcome now heard stopped earlier reply goes → FailsSo now.client.repo fetch_fault.WriteFailed
      ends_broken (next last done none on) = unsent_next last done none on
      ends_broken (refused mid front_packets lines cause told is why fails) = absurd (some fails.all)
      ends_broken (mismatched m nothing none) = absurd (some m.fails.all)
      ends_broken (declined mid so_far lines cause h is none whole why fails) = absurd (some fails.all)

    -- ---- a dialogue that ran over a source and a sink

    abbrev Ran : Bool → ClientSide A K → Type 0 → Type 0
    Ran sent now Untouched = HasRun (λ (side : ClientSide A K). session_judge side.client.session) (λ (side : ClientSide A K). session_brings side.client.session) OpensFresh
        (AnswersMessage indexes index_fails keeps) RefusesMessage sent first now input.read output.written output.passed_on input.is_down output.is_down Untouched

    abbrev Broke : TalkFault → ClientSide A K → Type 0
    Broke fault now = BreaksBy (λ (side : ClientSide A K). session_judge side.client.session) (λ (side : ClientSide A K). session_brings side.client.session) OpensFresh
        (AnswersMessage indexes index_fails keeps) RefusesMessage fault first now input.read output.written output.passed_on input.is_down

    pub talk_ran : (sent : Bool) (now : ClientSide A K) (Untouched : Type 0) → (Untouched → IsUnwritten output) → Ran sent now Untouched
        → EndsAs indexes index_fails OwnStart input output now now.fault
    talk_ran sent now Untouched untouched h =
        ends_as sent Untouched untouched h.earlier h.reply h.flushed h.wrote h.heard h.stopped now
        (outcome h.heard h.stopped h.earlier h.reply false now h.replied (inl refl)) h.receives

    pub talk_broke : (fault : TalkFault) (now : ClientSide A K) → IsDownBy {T = Bool} (Err fault) output.was_down output.is_down → Broke fault now → FailsSo now.client.repo fetch_fault.WriteFailed
    talk_broke Io now down h =
        ends_broken now h.heard h.stopped h.earlier h.reply h.goes h.some h.receives h.front h.back h.due h.wrote h.passed down
        (outcome h.heard h.stopped h.earlier h.reply h.goes now h.replied (inr h.some))
    talk_broke Memory now down h = absurd h

    pub talk_kept : (sent : Bool) (now : ClientSide A K) (Untouched : Type 0) → Ran sent now Untouched → KeepsObjects keeps first now
    talk_kept sent now Untouched h = replied_keeps h.heard h.stopped h.earlier h.reply false now h.replied

    pub broke_kept : (fault : TalkFault) (now : ClientSide A K) → Broke fault now → KeepsObjects keeps first now
    broke_kept Io now h = replied_keeps h.heard h.stopped h.earlier h.reply h.goes now h.replied
    broke_kept Memory now h = absurd h

    pub talk_ends : (result : Result Bool TalkFault) (now : ClientSide A K) (Untouched : Type 0) → (Untouched → IsUnwritten output) → IfOk result (λ sent. Ran sent now Untouched)
        → IfErr result (λ fault. Broke fault now) → IsDownBy result output.was_down output.is_down → EndsTalk indexes index_fails OwnStart input output now result
    talk_ends (Ok sent) now Untouched untouched ran broke down = talk_ran sent now Untouched untouched ran
    talk_ends (Err fault) now Untouched untouched ran broke down = talk_broke fault now down broke

    pub talk_keeps_objects : (result : Result Bool TalkFault) (now : ClientSide A K) (Untouched : Type 0) → IfOk result (λ sent. Ran sent now Untouched)
        → IfErr result (λ fault. Broke fault now) → KeepsObjects keeps first now
    talk_keeps_objects (Ok sent) now Untouched ran broke = talk_kept sent now Untouched ran
    talk_keeps_objects (Err fault) now Untouched ran broke = broke_kept fault now broke
