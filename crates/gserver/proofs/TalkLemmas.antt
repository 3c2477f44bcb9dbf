-- The dialogue of a server with a borrowed packer, as a list of requests and replies.
use Rattle.std.proofs.Common.{◌≡◌, ◌≢◌, ◌⊎◌, ◌∙◌, ℕ, ◌+◌, ◌<◌, Bool, true, false, List, [], ◌∷◌, ◌++◌, length, Option, Some, None, Result, Ok, Err, IfErr, IfOk, inl, inr, refl, sym, ap, subst, arith, append-nil, length-append}
use Rattle.std.specs.Prelude.{All}
use Rattle.std.specs.List.{flat_map}
use Rattle.std.proofs.lemmas.Bool.{ltb-true}
use Rattle.std.proofs.lemmas.Grind.{flat_map-append}
use Rattle.std.proofs.lemmas.List.{nil_from_length}
use Rattle.std.proofs.lemmas.List.Elements.{All-nil, All-push}
use Rattle.std.specs.Io.KnownBytes.{Appends, Consumes, IsAtEnd}
use Rattle.gpkt.specs.Change.{Change}
use Rattle.gpkt.proofs.Joins.{reads_none}
use Rattle.gpkt.specs.Packets.{Bytes, Packet, canonical_all}
use Rattle.gpkt.specs.PacketReading.{Reads, ReadsPackets}
use Rattle.gpkt.specs.Sending.{Input, IsUnwritten, Output, Passes, output_of, rest_of}
use Rattle.gobject.specs.Packs.{PackFails, Packs}
use Rattle.ggrammar.specs.Grammar.{HasEndings, Judge, LawsOf}
use Rattle.ggrammar.specs.Limits.{profile}
use Rattle.ggrammar.specs.MessageReading.{IsReason}
use Rattle.ggrammar.specs.declared.fault.MessageFault.{MessageFault}
use Rattle.ggrammar.specs.declared.fault.Why.{Why}
use Rattle.ggrammar.specs.declared.fault.Why.TheVariants as why
use Rattle.grequest.specs.Asked.{Asked, Fetches}
use Rattle.grequest.specs.Requests.{Says, brings, judge}
use Rattle.ganswer.specs.OnePack.{OnePack}
use Rattle.ganswer.specs.Servers.{Server}
use Rattle.ganswer.specs.declared.fault.ServeFault.{ServeFault}
use Rattle.ganswer.specs.declared.fault.ServeFault.TheVariants as serve
use Rattle.gtalk.specs.Connections.{HasSent, Spelt}
use Rattle.gtalk.specs.declared.conversation.Stop.{Stop}
use Rattle.gtalk.specs.declared.conversation.Stop.TheVariants as stop
use Rattle.gtalk.specs.declared.fault.TalkFault.{TalkFault}
use Rattle.gtalk.specs.declared.fault.TalkFault.TheVariants.{Io, Memory}
use Rattle.gtalk.specs.Connections.{IsDownBy}
use Rattle.gdialogue.specs.Dialogues.{Answered, HasReplied, IsRefused as IsRejected, reason_of}
use Rattle.gdialogue.specs.Dialogues as dialogue
use Rattle.gdialogue.specs.Running.{BreaksBy, HasRun, Leaves, Receives}
use Rattle.gdialogue.proofs.Receiving.{reads_heard, reads_parts, refuses_at}
use Rattle.gserver.specs.Exchanges.{Declines, IsRefused, IsTurn, RefusesToAnswer, Turn, reply_packets}
use Rattle.gserver.specs.declared.lent_side.LentSide.{LentSide}
use Rattle.gserver.specs.steps.Lending.{AnswersAs, AnswersLent, AnswersLines, Closes, DeclinesAsked, EndsTalk, HasFailed, HasSpoken, HasTalked, IsFresh, IsLast, IsReady, KeepsParts, OpensLent, Parts, RefusesLent, RepliesTo, judge_lent, parts_of}
use Rattle.gserver.specs.steps.Lending as lending
use Rattle.gserver.proofs.LentLemmas.{same_parts}

abbrev pub requests_of : List Turn → List Packet
requests_of turns = flat_map (λ (turn : Turn). turn.request) turns

abbrev pub replies_of : {A K : Type 0} → Parts A K → List Turn → List Packet
replies_of parts turns = flat_map (λ (turn : Turn). reply_packets parts.ends turn.answer) turns

-- ---- the end of the input

spelt_nothing : (partial more : Bytes) → Spelt [] partial more → more ≡ partial
spelt_nothing partial more h = h.parts ∙ ap (λ (b : Bytes). b ++ partial) h.spells

-- a source at its end, of which no byte was read
reads_end : (first last : Option Bytes) (more : Bytes) → Consumes first last more → more ≡ [] → IsAtEnd last
    → Reads (record { old = first; new = last }) (Ok None)
reads_end None last more read none end = tt
reads_end (Some all) None more read none end = absurd read
reads_end (Some all) (Some rest) more read none end = (read ∙ ap (λ (b : Bytes). b ++ rest) none ∙ end, end)

-- the fault of an incomplete message reports the end of the input only if the input has ended
ended_by : (stopped : Stop) → reason_of stopped ≡ why.Ended → stopped ≡ stop.Ended
ended_by stop.Ended is = refl
ended_by (stop.Refused fault) is = absurd (cc is)
ended_by stop.Failed is = absurd (cc is)

ends_input : (judge : Judge) (brings : List Packet → Packet → Bool) (change : Change) (more partial : Bytes) (lines : List Packet) (stopped : Option Stop)
    (fault : MessageFault) (down : Bool) → Consumes change.old change.new more → Spelt lines partial more → Leaves stopped partial change.new down
    → IsRejected judge brings lines stopped fault → fault.frame ≡ 0 → fault.why ≡ why.Ended → Reads change (Ok None) × (down ≡ false)
ends_input judge brings change more partial lines stopped fault down consumed spelt leaves (dialogue.IsRefused.packet front one reason goes is) first ended =
    absurd (subst (λ (w : Why). IsReason (judge front one) (brings front one) w) ended is)
ends_input judge brings change more partial lines stopped fault down consumed spelt leaves (dialogue.IsRefused.stopped front why goes) first ended =
    let left : Leaves (Some stop.Ended) partial change.new down = subst (λ (w : Stop). Leaves (Some w) partial change.new down) (ended_by why ended) leaves in
    let none : front ≡ [] = nil_from_length front first in
    let all : more ≡ partial = spelt_nothing partial more (subst (λ (l : List Packet). Spelt l partial more) none spelt) in
    (reads_end change.old change.new more consumed (all ∙ left.rest) left.source.0, left.source.1)

-- an unchanged sink
pub nothing_written : {W : Type 0} (contents passed_on : W → Option Bytes) (is_down : W → Bool) (old new : W) → new ≡ old
    → IsUnwritten (output_of contents passed_on is_down old new)
nothing_written contents passed_on is_down old new same = record { written = ap contents same; passed_on = ap passed_on same; down = ap is_down same }

-- ---- the parts of the input

-- the requests of the turns, and the packets after them
pub record HasSplit (read : Change) (partial : Bytes) (turns : List Turn) (lines : List Packet) : Type 0 where
  pub between : Option Bytes
  pub rest : Bytes
  pub before : ReadsPackets (record { old = read.old; new = between }) (requests_of turns)
  pub consumed : Consumes between read.new rest
  pub spelt : Spelt lines partial rest
  pub alone : turns ≡ [] → between ≡ read.old

split_turns : (read : Change) (more partial : Bytes) (turns : List Turn) (heard lines : List Packet) → heard ≡ requests_of turns
    → Consumes read.old read.new more → Spelt (heard ++ lines) partial more → HasSplit read partial turns lines
split_turns read more partial [] heard lines is consumed spelt = record {
  between = read.old;
  rest = more;
  before = reads_none read.old;
  consumed = consumed;
  spelt = subst (λ (l : List Packet). Spelt (l ++ lines) partial more) is spelt;
  alone = λ none. refl;
}
split_turns read more partial (turn ∷ turns) heard lines is consumed spelt =
    let p = reads_parts read more partial heard lines consumed spelt in record {
      between = p.0;
      rest = p.1;
      before = subst (λ (l : List Packet). ReadsPackets (record { old = read.old; new = p.0 }) l) is p.2;
      consumed = p.3;
      spelt = p.4;
      alone = λ none. absurd (cc none);
    }

-- ---- one more turn

pub requests_more : (turns : List Turn) (turn : Turn) → requests_of (turns ++ turn ∷ []) ≡ requests_of turns ++ turn.request
requests_more turns turn =
    flat_map-append (λ (t : Turn). t.request) turns (turn ∷ []) ∙ ap (λ (l : List Packet). requests_of turns ++ l) (append-nil turn.request)

pub replies_more : {A K : Type 0} (parts : Parts A K) (turns : List Turn) (turn : Turn)
    → replies_of parts (turns ++ turn ∷ []) ≡ replies_of parts turns ++ reply_packets parts.ends turn.answer
replies_more parts turns turn =
    flat_map-append (λ (t : Turn). reply_packets parts.ends t.answer) turns (turn ∷ [])
    ∙ ap (λ (l : List Packet). replies_of parts turns ++ l) (append-nil (reply_packets parts.ends turn.answer))

-- a request that was read is never refused with a fault of reading
never_reading : {A : Type 0} (server : Server A) (fails : PackFails A) (asked : Asked) (cause : MessageFault)
    → Declines server fails asked (serve.Request cause) → ⊥
never_reading server fails (Fetches asked) cause h = h
never_reading server fails asked cause h = h

refused_to_answer : {A : Type 0} (server : Server A) (fails : PackFails A) (input : Input) (cause : ServeFault)
    → RefusesToAnswer server fails input cause → IsRefused server fails input cause
refused_to_answer server fails input (serve.Request cause) h = absurd (never_reading server fails h.asked cause h.declines)
refused_to_answer server fails input cause h = h

module _ {A K : Type 0} (once : K → OnePack K) (packs : K → Packs A) (fails : K → PackFails A) (first : LentSide A K) where
  abbrev Own : Parts A K
  Own = parts_of once first

  abbrev SideAnswered : List Packet → List Packet → LentSide A K → Type 0
  SideAnswered = Answered judge_lent (λ side. brings) (OpensLent once) (AnswersLent once packs fails) (RefusesLent once) first

  abbrev SideReplied : List Packet → Option Stop → List Packet → List Packet → Bool → LentSide A K → Type 0
  SideReplied = HasReplied judge_lent (λ side. brings) (OpensLent once) (AnswersLent once packs fails) (RefusesLent once) first

  -- each message so far was a request, and was answered with a reply
  pub record HasTurns (heard said : List Packet) (now : LentSide A K) : Type 0 where
    pub turns : List Turn
    pub same : parts_of once now ≡ Own
    pub in_place : now.packer.ghost_name ≡ first.packer.ghost_name
    pub each : All (IsTurn Own.server (packs Own.packer)) turns
    pub all_heard : heard ≡ requests_of turns
    pub all_said : said ≡ replies_of Own turns
    pub count : now.requests ≡ length turns
    pub ready : IsReady once now

  turns_by : (heard said lines reply : List Packet) (mid now : LentSide A K) → HasTurns heard said mid → KeepsParts once mid now
      → (asked : Asked) → Says profile Own.server.graph.format lines asked → AnswersAs once packs fails Own mid asked reply true now
      → HasTurns (heard ++ lines) (said ++ reply) now
  turns_by heard said lines reply mid now t keeps asked says (inl r) =
      let turn : Turn = record { request = lines; asked = asked; answer = r.answer } in record {
        turns = t.turns ++ turn ∷ [];
        same = same_parts once mid now keeps ∙ t.same;
        in_place = keeps.in_place ∙ t.in_place;
        each = All-push (IsTurn Own.server (packs Own.packer)) t.turns turn t.each (record { says = says; asks = r.asks; answers = r.answers });
        all_heard = ap (λ (l : List Packet). l ++ lines) t.all_heard ∙ sym (requests_more t.turns turn);
        all_said = ap (λ (l : List Packet). l ++ reply) t.all_said ∙ ap (λ (l : List Packet). replies_of Own t.turns ++ l) r.all ∙ sym (replies_more Own t.turns turn);
        count = r.count ∙ ap (λ (n : ℕ). n + 1) t.count ∙ sym (length-append t.turns (turn ∷ []));
        ready = record { unasked = r.unasked; room = ltb-true now.requests now.most (sym r.goes_so); unclosed = r.unclosed };
      }
  turns_by heard said lines reply mid now t keeps asked says (inr (inl c)) = absurd (cc c.ended)
  turns_by heard said lines reply mid now t keeps asked says (inr (inr d)) = absurd (cc d.ended)

  own_lines : (heard said lines reply : List Packet) (goes : Bool) (mid now : LentSide A K) → HasTurns heard said mid → AnswersLent once packs fails mid lines reply goes now
      → AnswersLines once packs fails Own mid lines reply goes now
  own_lines heard said lines reply goes mid now t a =
      subst (λ (p : Parts A K). AnswersLines once packs fails p mid lines reply goes now) t.same (a.answers t.ready)

  has_turns : (heard said : List Packet) (now : LentSide A K) → SideAnswered heard said now → HasTurns heard said now
  has_turns heard said now (dialogue.Answered.opened packets h) = record {
    turns = [];
    same = refl;
    in_place = refl;
    each = All-nil (IsTurn Own.server (packs Own.packer));
    all_heard = refl;
    all_said = h.1.0;
    count = h.0.requests;
    ready = h.0.ready;
  }
  has_turns heard said now (dialogue.Answered.more so_far so_said lines reply mid last before whole says) =
      let t = has_turns so_far so_said mid before in
      let l = own_lines so_far so_said lines reply true mid last t says in
      turns_by so_far so_said lines reply mid last t says.keeps l.asked l.says l.answers

  -- ---- the last message

  answered_last : (rest : Input) (lines reply : List Packet) (goes : Bool) (mid now : LentSide A K) → now.earlier ≡ mid.requests
      → ReadsPackets rest.read lines → rest.is_down ≡ false → (asked : Asked) → Says profile Own.server.graph.format lines asked
      → AnswersAs once packs fails Own mid asked reply goes now → IsLast once packs fails Own rest reply goes now
  answered_last rest lines reply goes mid now earlier read up asked says (inl r) =
      lending.IsLast.turned (record { request = lines; asked = asked; answer = r.answer })
      (record { lines = read; is_turn = record { says = says; asks = r.asks; answers = r.answers }; up = up })
      r.all r.goes_so (r.count ∙ ap (λ (n : ℕ). n + 1) (sym earlier)) r.unclosed r.unasked
  answered_last rest lines reply goes mid now earlier read up asked says (inr (inl c)) =
      lending.IsLast.closed
      (record { packets = lines; lines = read; says = subst (λ (a : Asked). Says profile Own.server.graph.format lines a) c.empty says; up = up })
      c.all (c.count ∙ sym earlier) c.closing c.unasked
  answered_last rest lines reply goes mid now earlier read up asked says (inr (inr d)) =
      lending.IsLast.refused d.fault
      (refused_to_answer Own.server (fails Own.packer) rest d.fault
      (record { packets = lines; asked = asked; lines = read; says = says; declines = d.declines; up = up }))
      d.all (d.count ∙ sym earlier) d.closing d.packing

  refused_last : ((j : Judge) → LawsOf j) → HasEndings (judge profile Own.server.graph.format) → (rest : Input) (more partial : Bytes) (lines reply : List Packet) (stopped : Option Stop)
      (fault : MessageFault) (mid now : LentSide A K) → IsReady once mid → RefusesLent once mid fault reply now
      → Consumes rest.read.old rest.read.new more → Spelt lines partial more → Leaves stopped partial rest.read.new rest.is_down
      → IsRejected (judge profile Own.server.graph.format) brings lines stopped fault → IsLast once packs fails Own rest reply false now
  refused_last laws endings rest more partial lines reply stopped fault mid now ready h consumed spelt leaves is =
      let answered = ap (λ (p : K). (once p).answered) h.packer ∙ ready.unasked in
      elim h.how as (λ _. IsLast once packs fails Own rest reply false now) [
        | inl e ↦
            let reads = ends_input (judge profile Own.server.graph.format) brings rest.read more partial lines stopped fault rest.is_down consumed spelt leaves is e.first e.ended in
            lending.IsLast.ended (record { ended = reads.0; up = reads.1 }) e.all (h.count ∙ sym h.earlier) e.closing answered
        | inr r ↦
            let at = refuses_at (judge profile Own.server.graph.format) brings (laws (judge profile Own.server.graph.format)) endings rest.read more partial lines stopped fault rest.is_down
            consumed spelt leaves is in
            lending.IsLast.refused (serve.Request fault) (record { front = at.front; refused = at.refused; source = at.source; begun = r.begun })
            r.all (h.count ∙ sym h.earlier) r.closing answered
      ]

  -- ---- the whole dialogue

  has_talked : ((j : Judge) → LawsOf j) → HasEndings (judge profile Own.server.graph.format) → (input : Input) (heard : List Packet) (stopped : Option Stop) (earlier reply : List Packet)
      (goes : Bool) (now : LentSide A K) → SideReplied heard stopped earlier reply goes now → Receives heard stopped input.read input.is_down
      → (reply ≢ []) ⊎ (goes ≡ false)
      → (t : HasTalked once packs fails first input (canonical_all earlier) (canonical_all reply) goes now) × (t.said ≡ reply)
  has_talked laws endings input heard stopped earlier reply goes now (dialogue.HasReplied.opened said on h) r (inl some) = absurd (some h.1.0)
  has_talked laws endings input heard stopped earlier reply goes now (dialogue.HasReplied.opened said on h) r (inr off) = absurd (cc (h.1.1, off))
  has_talked laws endings input heard stopped earlier reply goes now (dialogue.HasReplied.answered so_far so_said lines said on mid last before whole a) r some =
      let t = has_turns so_far so_said mid before in
      let s = split_turns input.read r.more r.partial t.turns so_far lines t.all_heard r.consumed r.spelt in
      let l = own_lines so_far so_said lines said on mid last t a in
      let own : mid.most ≡ first.most = ap (λ (p : Parts A K). p.most) t.same in
      let rest = rest_of input s.between in
      let read = reads_heard rest.read s.rest r.partial lines s.consumed s.spelt (r.leaves.clean refl) in (
        record {
          turns = t.turns;
          between = s.between;
          read = record { lines = s.before; each = t.each };
          alone = s.alone;
          count = a.earlier ∙ t.count;
          room = omega (arith, a.earlier, t.ready.room, own);
          said = said;
          last = answered_last rest lines said on mid last a.earlier read r.leaves.source l.asked l.says l.answers;
          before = ap canonical_all t.all_said;
          latest = refl;
          same = same_parts once mid last a.keeps ∙ t.same;
          in_place = a.keeps.in_place ∙ t.in_place;
        },
        refl,
      )
  has_talked laws endings input heard stopped earlier reply goes now (dialogue.HasReplied.refused so_far so_said lines said why fault mid last before is h) r some =
      let t = has_turns so_far so_said mid before in
      let s = split_turns input.read r.more r.partial t.turns so_far lines t.all_heard r.consumed r.spelt in
      let rest = rest_of input s.between in
      let own : mid.most ≡ first.most = ap (λ (p : Parts A K). p.most) t.same in
      let rejected = subst (λ (p : Parts A K). IsRejected (judge profile p.server.graph.format) brings lines why fault) t.same is in (
        record {
          turns = t.turns;
          between = s.between;
          read = record { lines = s.before; each = t.each };
          alone = s.alone;
          count = h.earlier ∙ t.count;
          room = omega (arith, h.earlier, t.ready.room, own);
          said = said;
          last = refused_last laws endings rest s.rest r.partial lines said why fault mid last t.ready h s.consumed s.spelt r.leaves rejected;
          before = ap canonical_all t.all_said;
          latest = refl;
          same = same_parts once mid last h.keeps ∙ t.same;
          in_place = h.keeps.in_place ∙ t.in_place;
        },
        refl,
      )

  -- ---- the result of the dialogue

  abbrev Ran : Bool → LentSide A K → Change → Change → Change → Bool → Bool → Type 0 → Type 0
  Ran sent now = HasRun judge_lent (λ side. brings) (OpensLent once) (AnswersLent once packs fails) (RefusesLent once) sent first now

  abbrev Broke : TalkFault → LentSide A K → Change → Change → Change → Bool → Type 0
  Broke fault now = BreaksBy judge_lent (λ side. brings) (OpensLent once) (AnswersLent once packs fails) (RefusesLent once) fault first now

  sent_all : (output : Output) (Untouched : Type 0) → (Untouched → IsUnwritten output) → (sent : Bool) (bytes : Bytes)
      → HasSent sent bytes output.written output.passed_on output.is_down Untouched → Appends output.written.old output.written.new bytes
      → ((0 < length bytes) × Passes output bytes) ⊎ ((bytes ≡ []) × IsUnwritten output)
  sent_all output Untouched still true bytes h wrote = inl (h.0, record { written = wrote; passed_on = h.1; up = h.2 })
  sent_all output Untouched still false bytes h wrote = inr (h.0, still h.1)

  pub talk_ends : ((j : Judge) → LawsOf j) → HasEndings (judge profile Own.server.graph.format) → (input : Input) (output : Output) (result : Result Bool TalkFault) (now : LentSide A K)
      (Untouched : Type 0) → (Untouched → IsUnwritten output)
      → IfOk result (λ sent. Ran sent now input.read output.written output.passed_on input.is_down output.is_down Untouched)
      → IfErr result (λ fault. Broke fault now input.read output.written output.passed_on input.is_down)
      → IsDownBy result output.was_down output.is_down → EndsTalk once packs fails first input output now result
  talk_ends laws endings input output (Ok sent) now Untouched still run broken down =
      let t = has_talked laws endings input run.heard run.stopped run.earlier run.reply false now run.replied run.receives (inr refl) in record {
        earlier = canonical_all run.earlier;
        reply = canonical_all run.reply;
        talked = t.0;
        sent = sent_all output Untouched still sent (canonical_all run.earlier ++ canonical_all run.reply) run.flushed run.wrote;
      }
  talk_ends laws endings input output (Err Io) now Untouched still run broken down =
      let t = has_talked laws endings input broken.heard broken.stopped broken.earlier broken.reply broken.goes now broken.replied broken.receives (inl broken.some) in record {
        earlier = canonical_all broken.earlier;
        reply = canonical_all broken.reply;
        goes = broken.goes;
        talked = t.0;
        some = λ none. broken.some (sym t.1 ∙ none);
        front = broken.front;
        back = broken.back;
        due = broken.due;
        wrote = broken.wrote;
        passed = broken.passed;
        down = down;
      }
  talk_ends laws endings input output (Err Memory) now Untouched still run broken down = absurd broken

  pub talk_in_place : (input : Input) (output : Output) (now : LentSide A K) (result : Result Bool TalkFault) → EndsTalk once packs fails first input output now result
      → now.packer.ghost_name ≡ first.packer.ghost_name
  talk_in_place input output now (Ok sent) h = h.talked.in_place
  talk_in_place input output now (Err Io) h = h.talked.in_place
  talk_in_place input output now (Err Memory) h = absurd h
