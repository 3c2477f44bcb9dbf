-- The end of a dialogue, and the failure of its sink.
use Rattle.std.proofs.Common.{◌≡◌, ◌≢◌, ◌⊎◌, ℕ, ◌<◌, Bool, true, false, List, [], ◌∷◌, ◌++◌, length, drop, Option, Some, None, Result, Ok, Err, IfErr, IfOk, OnOk, inl, inr, refl, sym, ap, ◌∙◌, subst, arith, append-nil, append_assoc, length-append}
use Rattle.std.specs.Io.KnownBytes.{Appends}
use Rattle.gpkt.specs.Change.{Change}
use Rattle.gpkt.specs.Devices.{KeepsPassed}
use Rattle.gpkt.specs.Packets.{Bytes, Packet, canonical_all}
use Rattle.gpkt.specs.declared.fault.PacketFault.TheVariants as packet
use Rattle.ggrammar.specs.Grammar.{Judge}
use Rattle.ggrammar.specs.declared.fault.MessageFault.{MessageFault}
use Rattle.gtalk.specs.Connections.{FailsBy, FailsInTurn, HasDriven, HasRoom, HasSent, Holds, IsClean, IsDone, PassesBytes, bytes_in, pending_of}
use Rattle.gtalk.specs.Partial.{IsKept, IsStopped, IsWithinPacket, Lacks, LeavesSource}
use Rattle.gtalk.specs.Talks.{IsTurnStart, Talk, no_talk}
use Rattle.gtalk.specs.declared.connection.Connection.{Connection}
use Rattle.gtalk.specs.declared.conversation.Stop.{Stop}
use Rattle.gtalk.specs.declared.conversation.Stop.TheVariants as stop
use Rattle.gtalk.specs.declared.conversation.Turn.{Turn}
use Rattle.gtalk.specs.declared.conversation.Turn.TheVariants as turn
use Rattle.gtalk.specs.declared.fault.TalkFault.{TalkFault}
use Rattle.gtalk.specs.declared.fault.TalkFault.TheVariants.{Io, Memory}
use Rattle.gtalk.proofs.Moves.{canonical_joins}
use Rattle.gdialogue.specs.Dialogues.{HasReplied, HoldsOver, HoldsStage, turn_of}
use Rattle.gdialogue.proofs.Beginnings.{begun_replied}
use Rattle.gdialogue.specs.Running.{BreaksBy, HasBroken, HasRun, Leaves}
use Rattle.gdialogue.specs.declared.dialogue.Dialogue.{Dialogue}
use Rattle.gdialogue.specs.declared.dialogue.DialogueStage.{DialogueStage}
use Rattle.gdialogue.specs.declared.dialogue.DialogueStage.TheVariants as stage

-- ---- the bytes after the last packet

kept_bytes : (stopped : Option Stop) (partial kept : Bytes) → IsKept stopped partial kept → stopped ≢ Some (stop.Refused packet.Memory) → kept ≡ partial
kept_bytes None partial kept is some = is
kept_bytes (Some stop.Ended) partial kept is some = is
kept_bytes (Some stop.Failed) partial kept is some = is
kept_bytes (Some (stop.Refused packet.BadDigits)) partial kept is some = is
kept_bytes (Some (stop.Refused packet.Reserved)) partial kept is some = is
kept_bytes (Some (stop.Refused packet.TooLong)) partial kept is some = is
kept_bytes (Some (stop.Refused packet.Truncated)) partial kept is some = is
kept_bytes (Some (stop.Refused packet.Io)) partial kept is some = is
kept_bytes (Some (stop.Refused packet.Failed)) partial kept is some = is
kept_bytes (Some (stop.Refused packet.Memory)) partial kept is some = absurd (some refl)

within_kept : (bytes : Bytes) (n : ℕ) → Lacks bytes n → IsWithinPacket bytes
within_kept bytes n lacks = subst IsWithinPacket (append-nil bytes) (lacks.within [] (omega arith))

-- the bytes after the last packet of a connection with room
leaves : {C A : Type 0} (holds : C → Talk → Type 0) (c : Connection C A) (more said : Bytes) (h : Holds {A = A} holds c more said) (last : Option Bytes) (down : Bool) (n : ℕ)
    → HasRoom c → (c.stopped ≡ None → c.incoming.bytes ≡ [])
    → Lacks c.incoming.bytes n → LeavesSource c.stopped last down → Leaves h.talk.stopped h.partial last down
leaves holds c more said h last down n room clean lacks source =
    let kept = kept_bytes c.stopped h.partial c.incoming.bytes h.kept room.kept in record {
      rest = subst (λ (s : Option Stop). IsStopped s h.partial) (sym h.stopped) h.rest;
      within = subst IsWithinPacket kept (within_kept c.incoming.bytes n lacks);
      clean = λ none. sym kept ∙ clean (sym h.stopped ∙ none);
      memory = λ is. room.kept (sym h.stopped ∙ is);
      source = subst (λ (s : Option Stop). LeavesSource s last down) (sym h.stopped) source;
    }

-- a connection that is done stores no bytes of a further packet, unless no more packets arrive
done_clean : {C A : Type 0} (turn_in : C → Turn) (c : Connection C A) → IsDone {A = A} turn_in c → IsClean {A = A} turn_in c → c.stopped ≡ None → c.incoming.bytes ≡ []
done_clean turn_in c (inl over) clean none = clean (λ listens. cc (over, listens)) none
done_clean turn_in c (inr (listens, (why, stopped))) clean none = absurd (cc (stopped, none))

-- ---- the packets of the latest answer

bytes_parts : (said before part : List Packet) → said ≡ before ++ part → canonical_all said ≡ canonical_all before ++ canonical_all part
bytes_parts said before part all = ap canonical_all all ∙ canonical_joins before part

take_front : (a b c d : Bytes) → a ++ b ≡ (a ++ c) ++ d → b ≡ c ++ d
take_front [] b c d same = same
take_front (x ∷ a) b c d same = take_front a b c d (let rest : a ++ b ≡ (a ++ c) ++ d = cc same in rest)

not_longer : (earlier last pending : Bytes) → earlier ≡ (earlier ++ last) ++ pending → 0 < length (last ++ pending) → ⊥
not_longer earlier last pending same some =
    let n = ap length same in omega (arith, some, n, length-append (earlier ++ last) pending, length-append earlier last, length-append last pending)

not_started : (bytes last pending : Bytes) (earlier said : List Packet) → canonical_all earlier ≡ bytes → canonical_all said ≡ (bytes ++ last) ++ pending
    → 0 < length (last ++ pending) → earlier ≡ said → ⊥
not_started bytes last pending earlier said before all some same = not_longer bytes last pending (sym before ∙ ap canonical_all same ∙ all) some

-- the bytes of the queued part of an answer
part_bytes : (bytes last pending : Bytes) (earlier said part : List Packet) → canonical_all earlier ≡ bytes → said ≡ earlier ++ part
    → canonical_all said ≡ (bytes ++ last) ++ pending → canonical_all part ≡ last ++ pending
part_bytes bytes last pending earlier said part before all said_is =
    take_front bytes (canonical_all part) last pending (ap (λ (b : Bytes). b ++ canonical_all part) (sym before) ∙ sym (bytes_parts said earlier part all) ∙ said_is)

-- the bytes of an answer, of which a part is queued
due_bytes : (part rest : List Packet) (last pending : Bytes) → canonical_all part ≡ last ++ pending
    → canonical_all (part ++ rest) ≡ last ++ (pending ++ canonical_all rest)
due_bytes part rest last pending is =
    canonical_joins part rest ∙ ap (λ (b : Bytes). b ++ canonical_all rest) is ∙ append_assoc last pending (canonical_all rest)

-- the bytes of all answers
all_bytes : (bytes pending : Bytes) (said earlier part : List Packet) → canonical_all said ≡ bytes ++ pending → pending ≡ [] → said ≡ earlier ++ part
    → bytes ≡ canonical_all earlier ++ canonical_all part
all_bytes bytes pending said earlier part said_is none all =
    sym (said_is ∙ ap (λ (b : Bytes). bytes ++ b) none ∙ append-nil bytes) ∙ bytes_parts said earlier part all

some_part : (earlier said part : List Packet) → said ≡ earlier ++ part → (earlier ≡ said → ⊥) → part ≢ []
some_part earlier said part all new none = new (sym (all ∙ ap (λ (l : List Packet). earlier ++ l) none ∙ append-nil earlier))

some_more : (part rest : List Packet) → part ≢ [] → part ++ rest ≢ []
some_more [] rest some none = absurd (some refl)
some_more (p ∷ part) rest some none = cc none

module _ {S M R : Type 0} (judge : S → Judge) (brings : S → List Packet → Packet → Bool)
    (opens : S → List Packet → Bool → Type 0) (answers : S → List Packet → List Packet → Bool → S → Type 0)
    (refuses : S → MessageFault → List Packet → S → Type 0) (hears : S → M → List Packet → Type 0)
    (may : R → List Packet → Bool → Type 0) where
  abbrev Stands : S → DialogueStage M R → Talk → Type 0
  Stands = HoldsStage judge brings opens answers refuses hears may

  abbrev Over : S → Talk → Type 0
  Over = HoldsOver judge brings opens answers refuses hears may

  -- a dialogue that is done is over
  over_now : (side : S) (at : DialogueStage M R) (talk : Talk) (stopped : Option Stop) → Stands side at talk → talk.stopped ≡ stopped
      → (turn_of at ≡ turn.Done) ⊎ ((turn_of at ≡ turn.Listens) × ((why : Stop) × (stopped ≡ Some why))) → Over side talk
  over_now side (stage.Hears message frame) talk stopped h same (inl done) = absurd (cc done)
  over_now side (stage.Hears message frame) talk stopped h same (inr (listens, (why, is))) = let none = h.unstopped in absurd (cc (none, same, is))
  over_now side (stage.Says reply) talk stopped h same (inl done) = absurd (cc done)
  over_now side (stage.Says reply) talk stopped h same (inr (listens, is)) = absurd (cc listens)
  over_now side (stage.Ends reply) talk stopped h same (inl done) = absurd (cc done)
  over_now side (stage.Ends reply) talk stopped h same (inr (listens, is)) = absurd (cc listens)
  over_now side stage.Over talk stopped h same done = h

  -- the latest answer, of which at least one packet is queued; `rest` contains packets that may complete it
  pub record IsReplying (side : S) (talk : Talk) : Type 0 where
    pub first : S
    pub part : List Packet
    pub rest : List Packet
    pub goes : Bool
    pub all : talk.said ≡ talk.earlier ++ part
    pub replied : HasReplied judge brings opens answers refuses first talk.heard talk.stopped talk.earlier (part ++ rest) goes side

  replying : ((reply : R) → (rest : List Packet) × (goes : Bool) × may reply rest goes) → (side : S) (at : DialogueStage M R) (talk : Talk) → Stands side at talk
      → (talk.earlier ≡ talk.said → ⊥) → IsReplying side talk
  replying completes side (stage.Hears message frame) talk h new =
      elim h.latest as (λ _. IsReplying side talk) [
        | inl start ↦ absurd (new start)
        | inr latest ↦ record {
          first = h.first;
          part = latest.0;
          rest = [];
          goes = true;
          all = latest.1;
          replied = subst (λ (l : List Packet). HasReplied judge brings opens answers refuses h.first talk.heard talk.stopped talk.earlier l true side) (sym (append-nil latest.0)) latest.2;
        }
      ]
  replying completes side (stage.Says reply) talk h new =
      let c = completes reply in record {
        first = h.first;
        part = h.part;
        rest = c.0;
        goes = c.1;
        all = h.all;
        replied = h.due c.0 c.1 c.2;
      }
  replying completes side (stage.Ends reply) talk h new =
      let c = completes reply in record {
        first = h.first;
        part = h.part;
        rest = c.0;
        goes = false;
        all = h.all;
        replied = h.due c.0 c.1 c.2;
      }
  replying completes side stage.Over talk h new = record {
    first = h.first;
    part = h.part;
    rest = [];
    goes = false;
    all = h.all;
    replied = subst (λ (l : List Packet). HasReplied judge brings opens answers refuses h.first talk.heard talk.stopped talk.earlier l false side) (sym (append-nil h.part)) h.ended;
  }

  -- ---- a dialogue that ran from its beginning

  abbrev DialogueHolds : Dialogue S M R → Talk → Type 0
  DialogueHolds d talk = Stands d.side d.stage talk

  abbrev TurnIn : Dialogue S M R → Turn
  TurnIn d = turn_of d.stage

  abbrev Finished : Bool → S → S → Change → Change → Change → Bool → Bool → Type 0 → Type 0
  Finished = HasRun judge brings opens answers refuses

  abbrev Broken : S → S → Change → Change → Change → Bool → Type 0
  Broken = HasBroken judge brings opens answers refuses

  module _ {A : Type 0} (old new : Connection (Dialogue S M R) A) (read written passed_on : Change) (source_down : Bool) (n : ℕ)
      (h : Holds {A = A} DialogueHolds old [] []) (fresh : h.talk ≡ no_talk) (room : HasRoom new)
      (clean : IsClean {A = A} TurnIn old) (lacks : Lacks new.incoming.bytes n) (source : LeavesSource new.stopped read.new source_down) where
    pub run_over : (sent sink_down : Bool) (Untouched : Type 0) → HasDriven {A = A} TurnIn DialogueHolds sent old new read written passed_on sink_down Untouched
        → IsDone {A = A} TurnIn new → pending_of new ≡ []
        → (first : S) × Finished sent first new.conversation.side read written passed_on source_down sink_down Untouched
    run_over sent sink_down Untouched driven done all_sent =
        let k = driven.drives.goes.talks [] [] h in
        let talk = k.0.talk in
        let over = over_now new.conversation.side new.conversation.stage talk new.stopped k.0.held k.0.stopped done in
        let said = driven.drives.said in
        let bytes = all_bytes said (pending_of new) talk.said talk.earlier over.part k.0.said all_sent over.all in (
          over.first,
          record {
            heard = talk.heard;
            stopped = talk.stopped;
            earlier = talk.earlier;
            reply = over.part;
            replied = over.ended;
            receives = record {
              more = driven.drives.more;
              partial = k.0.partial;
              consumed = driven.drives.received;
              spelt = k.0.heard;
              leaves = leaves {A = A} DialogueHolds new driven.drives.more said k.0 read.new source_down n room
                  (done_clean {A = A} TurnIn new done (driven.drives.goes.clean clean)) lacks source;
            };
            wrote = subst (λ (b : Bytes). Appends written.old written.new b) bytes driven.drives.sent;
            flushed = subst (λ (b : Bytes). HasSent sent b written passed_on sink_down Untouched) bytes driven.flushed;
          },
        )

    pub run_broken : ((reply : R) → (rest : List Packet) × (goes : Bool) × may reply rest goes) → FailsInTurn {A = A} TurnIn DialogueHolds old new read written passed_on
        → (first : S) × Broken first new.conversation.side read written passed_on source_down
    run_broken completes f =
        let k = f.talks [] [] h (subst IsTurnStart (sym fresh) refl) in
        let talk = k.0.talk in
        let pending = drop new.sent (bytes_in new.outgoing) in
        let started : talk.earlier ≡ talk.said → ⊥ = λ same. not_started f.earlier f.last pending talk.earlier talk.said k.1 k.0.said f.some same in
        let r = replying completes new.conversation.side new.conversation.stage talk k.0.held started in
        let part = part_bytes f.earlier f.last pending talk.earlier talk.said r.part k.1 r.all k.0.said in (
          r.first,
          record {
            heard = talk.heard;
            stopped = talk.stopped;
            earlier = talk.earlier;
            reply = r.part ++ r.rest;
            goes = r.goes;
            replied = r.replied;
            some = some_more r.part r.rest (some_part talk.earlier talk.said r.part r.all started);
            receives = record {
              more = f.more;
              partial = k.0.partial;
              consumed = f.received;
              spelt = k.0.heard;
              leaves = leaves {A = A} DialogueHolds new f.more (f.earlier ++ f.last) k.0 read.new source_down n room (f.clean clean) lacks source;
            };
            front = f.last;
            back = pending ++ canonical_all r.rest;
            due = due_bytes r.part r.rest f.last pending part;
            wrote = subst (λ (b : Bytes). Appends written.old written.new (b ++ f.last)) (sym k.1) f.sent;
            passed = subst (λ (b : Bytes). ((b ≡ []) × KeepsPassed passed_on) ⊎ ((0 < length b) × PassesBytes b written passed_on)) (sym k.1) f.passed;
          },
        )

    pub breaks_by : ((reply : R) → (rest : List Packet) × (goes : Bool) × may reply rest goes) → (fault : TalkFault) → fault ≢ Memory
        → FailsBy {A = A} TurnIn DialogueHolds fault old new read written passed_on
        → (first : S) × BreaksBy judge brings opens answers refuses fault first new.conversation.side read written passed_on source_down
    breaks_by completes Io some f = run_broken completes f
    breaks_by completes Memory some f = absurd (some refl)

-- ---- a side whose first state is known

module _ {B S : Type 0} (side_of : B → S) (is_first : S → Type 0) (judge : S → Judge) (brings : S → List Packet → Packet → Bool)
    (opens : S → List Packet → Bool → Type 0) (answers : S → List Packet → List Packet → Bool → S → Type 0)
    (refuses : S → MessageFault → List Packet → S → Type 0) where
  abbrev Judges : B → Judge
  Judges b = judge (side_of b)

  abbrev Brings : B → List Packet → Packet → Bool
  Brings b = brings (side_of b)

  abbrev Opens : B → List Packet → Bool → Type 0
  Opens b said goes = is_first (side_of b) × opens (side_of b) said goes

  abbrev Answers : B → List Packet → List Packet → Bool → B → Type 0
  Answers old lines said goes new = answers (side_of old) lines said goes (side_of new)

  abbrev Refuses : B → MessageFault → List Packet → B → Type 0
  Refuses old fault said new = refuses (side_of old) fault said (side_of new)

  pub begun_run : (sent : Bool) (now : B) (read written passed_on : Change) (source_down sink_down : Bool) (Untouched : Type 0)
      → (first : B) × HasRun Judges Brings Opens Answers Refuses sent first now read written passed_on source_down sink_down Untouched
      → (first : S) × is_first first × HasRun judge brings opens answers refuses sent first (side_of now) read written passed_on source_down sink_down Untouched
  begun_run sent now read written passed_on source_down sink_down Untouched (first, h) =
      let b = begun_replied side_of is_first judge brings opens answers refuses first h.heard h.stopped h.earlier h.reply false now h.replied in (
        side_of first,
        b.0,
        record {
          heard = h.heard;
          stopped = h.stopped;
          earlier = h.earlier;
          reply = h.reply;
          replied = b.1;
          receives = h.receives;
          wrote = h.wrote;
          flushed = h.flushed;
        },
      )

  begun_broken : (now : B) (read written passed_on : Change) (source_down : Bool)
      → (first : B) × HasBroken Judges Brings Opens Answers Refuses first now read written passed_on source_down
      → (first : S) × is_first first × HasBroken judge brings opens answers refuses first (side_of now) read written passed_on source_down
  begun_broken now read written passed_on source_down (first, h) =
      let b = begun_replied side_of is_first judge brings opens answers refuses first h.heard h.stopped h.earlier h.reply h.goes now h.replied in (
        side_of first,
        b.0,
        record {
          heard = h.heard;
          stopped = h.stopped;
          earlier = h.earlier;
          reply = h.reply;
          goes = h.goes;
          replied = b.1;
          some = h.some;
          receives = h.receives;
          front = h.front;
          back = h.back;
          due = h.due;
          wrote = h.wrote;
          passed = h.passed;
        },
      )

  pub begun_breaks : (fault : TalkFault) (now : B) (read written passed_on : Change) (source_down : Bool)
      → (first : B) × BreaksBy Judges Brings Opens Answers Refuses fault first now read written passed_on source_down
      → (first : S) × is_first first × BreaksBy judge brings opens answers refuses fault first (side_of now) read written passed_on source_down
  begun_breaks Io now read written passed_on source_down h = begun_broken now read written passed_on source_down h
  begun_breaks Memory now read written passed_on source_down h = absurd h.1

  abbrev Hears : {M : Type 0} → (S → M → List Packet → Type 0) → B → M → List Packet → Type 0
  Hears hears b = hears (side_of b)

  module _ {M R A : Type 0} (hears : S → M → List Packet → Type 0) (may : R → List Packet → Bool → Type 0)
      (old new : Connection (Dialogue B M R) A) (read written passed_on : Change) (source_down : Bool) (n : ℕ)
      (h : Holds {A = A} (DialogueHolds Judges Brings Opens Answers Refuses (Hears hears) may) old [] []) (fresh : h.talk ≡ no_talk) (room : HasRoom new)
      (clean : IsClean {A = A} (TurnIn Judges Brings Opens Answers Refuses (Hears hears) may) old) (lacks : Lacks new.incoming.bytes n)
      (source : LeavesSource new.stopped read.new source_down) where
    pub begun_over : (sent sink_down : Bool) (Untouched : Type 0)
        → HasDriven {A = A} (TurnIn Judges Brings Opens Answers Refuses (Hears hears) may) (DialogueHolds Judges Brings Opens Answers Refuses (Hears hears) may) sent old new read written passed_on sink_down Untouched
        → IsDone {A = A} (TurnIn Judges Brings Opens Answers Refuses (Hears hears) may) new → pending_of new ≡ []
        → (first : S) × is_first first × HasRun judge brings opens answers refuses sent first (side_of new.conversation.side) read written passed_on source_down sink_down Untouched
    begun_over sent sink_down Untouched driven done all_sent =
        begun_run sent new.conversation.side read written passed_on source_down sink_down Untouched
        (run_over Judges Brings Opens Answers Refuses (Hears hears) may old new read written passed_on source_down n h fresh room clean lacks source sent sink_down Untouched driven done all_sent)

    pub begun_fails : ((reply : R) → (rest : List Packet) × (goes : Bool) × may reply rest goes) → (fault : TalkFault) → fault ≢ Memory
        → FailsBy {A = A} (TurnIn Judges Brings Opens Answers Refuses (Hears hears) may) (DialogueHolds Judges Brings Opens Answers Refuses (Hears hears) may) fault old new read written passed_on
        → (first : S) × is_first first × BreaksBy judge brings opens answers refuses fault first (side_of new.conversation.side) read written passed_on source_down
    begun_fails completes fault some f =
        begun_breaks fault new.conversation.side read written passed_on source_down
        (breaks_by Judges Brings Opens Answers Refuses (Hears hears) may old new read written passed_on source_down n h fresh room clean lacks source completes fault some f)

-- ---- the result of a call

pub ok_joined : {T E : Type 0} (r : Result T E) (D F : Type 0) (P Q : T → Type 0) → OnOk r D → OnOk r F → IfOk r P → (D → F → (t : T) → P t → Q t) → IfOk r Q
ok_joined (Ok t) D F P Q d f p join = join d f t p
ok_joined (Err e) D F P Q d f p join = tt

pub err_joined : {T E : Type 0} (r : Result T E) (P Q : E → Type 0) → IfErr r P → ((e : E) → r ≡ Err e → P e → Q e) → IfErr r Q
err_joined (Ok t) P Q p join = tt
err_joined (Err e) P Q p join = join e refl p
