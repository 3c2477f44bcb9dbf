-- The effects of calls on the bytes and packets of a connection.
use Rattle.std.proofs.Common.{◌≡◌, ◌≢◌, ℕ, ◌+◌, ◌<◌, ◌≤◌, length, length-append, IsSome, List, [], ◌∷◌, ◌++◌, take, drop, Option, Some, None, Bool, true, false, not, ◌==◌, IsOk, Result, Ok, Err, OnOk, is_err, inl, inr, refl, sym, ap, ◌∙◌, subst, arith, append-nil, append_assoc, take-append-drop}
use Rattle.std.proofs.lemmas.Grind.{common_steps}
use Rattle.std.proofs.lemmas.Bool.{eqb-true}
use Rattle.std.proofs.lemmas.List.{nil_from_length}
use Rattle.gpkt.specs.Packets.{Bytes, Packet, Spells, SpellsAll, canonical, canonical_all, max_packet}
use Rattle.gpkt.specs.Change.{Change}
use Rattle.gpkt.specs.PacketReading.{IsPartialPacket, NoPacket}
use Rattle.gpkt.specs.declared.fault.PacketFault.{PacketFault}
use Rattle.gpkt.specs.declared.fault.PacketFault.TheVariants.{BadDigits, Reserved, TooLong, Truncated, Io, Failed, Memory}
use Rattle.gtalk.specs.Talks.{AnyTalk, IsTurnStart, Talk, Says, SaysOn, no_talk, talk_after, talk_with_reply, stop_talk}
use Rattle.gtalk.specs.Partial.{Buffered, IsByEnd, IsFound, IsKept, IsPartial, IsStopped}
use Rattle.gtalk.specs.Connections.{Drives, Goes, HearsOn, HearsRead, Holds, IsHeld, Moves, SendsSaid, Spelt, TurnsOn, bytes_in, pending_of}
use Rattle.gtalk.specs.steps.Driving.{SendsPending}
use Rattle.gtalk.specs.declared.conversation.Turn.{Turn}
use Rattle.gtalk.specs.declared.conversation.Turn.TheVariants.{Listens, Speaks}
use Rattle.gtalk.specs.declared.conversation.Stop.TheVariants as stop
use Rattle.std.proofs.KnownBytes.{Appends-kept, Appends-nil, Appends-trans, Consumes-nil, Consumes-trans}
use Rattle.std.specs.Io.KnownBytes.{Keeps}
use Rattle.gtalk.specs.declared.conversation.Stop.{Stop}
use Rattle.gtalk.specs.declared.connection.Connection.{Connection}

pub drop_more : (count sent : ℕ) (bytes : Bytes) → drop count (drop sent bytes) ≡ drop (sent + count) bytes
drop_more count sent bytes = grind (arith, common_steps)

-- ---- encodings of packets

pub spells_next : (lines : List Packet) (line : Packet) (front next : Bytes) → SpellsAll lines front → Spells line next
    → SpellsAll (lines ++ line ∷ []) (front ++ next)
spells_next [] line front next all one =
    (next, [], ap (λ f. f ++ next) all ∙ sym (append-nil next), one, refl)
spells_next (first ∷ lines) line front next (head, rest, split, is, all) one = (
  head,
  rest ++ next,
  ap (λ f. f ++ next) split ∙ append_assoc head rest next,
  is,
  spells_next lines line rest next all one,
)

pub canonical_joins : (lines more : List Packet) → canonical_all (lines ++ more) ≡ canonical_all lines ++ canonical_all more
canonical_joins [] more = refl
canonical_joins (line ∷ lines) more =
    ap (λ b. canonical line ++ b) (canonical_joins lines more) ∙ sym (append_assoc (canonical line) (canonical_all lines) (canonical_all more))

-- a call that did not fail satisfies its postcondition
pub taken : {E P : Type 0} (r : Result (Unit {0}) E) (b : Bool) → b ≡ is_err r → b ≡ false → OnOk r P → P
taken (Ok x) b is fine p = p
taken (Err e) b is fine p = absurd (cc (is, fine))

pub nothing_partial : IsPartialPacket []
nothing_partial = inl (omega arith)

-- receiving no bytes preserves `Spelt`
pub same_spelt : (heard : List Packet) (partial received : Bytes) → Spelt heard partial received → Spelt heard partial (received ++ [])
same_spelt heard partial received h = record { front = h.front; parts = append-nil received ∙ h.parts; spells = h.spells }

-- received bytes that do not complete a packet extend the incomplete packet
pub more_spelt : (heard : List Packet) (partial received more new : Bytes) → new ≡ partial ++ more → Spelt heard partial received
    → Spelt heard new (received ++ more)
more_spelt heard partial received more new is h = record {
  front = h.front;
  parts = ap (λ r. r ++ more) h.parts ∙ append_assoc h.front partial more ∙ ap (λ p. h.front ++ p) (sym is);
  spells = h.spells;
}

-- received bytes that complete a packet add it to the received packets
pub packet_spelt : (heard : List Packet) (line : Packet) (partial received more new : Bytes) → new ≡ partial ++ more → Spells line new
    → Spelt heard partial received → Spelt (heard ++ line ∷ []) [] (received ++ more)
unfolding more_spelt
packet_spelt heard line partial received more new is spelt h = record {
  front = h.front ++ new;
  parts = (more_spelt heard partial received more new is h).parts ∙ sym (append-nil (h.front ++ new));
  spells = spells_next heard line h.front new h.spells spelt;
}

-- sending no bytes leaves the pending bytes unchanged
pub same_said : (all sent pending : Bytes) → all ≡ sent ++ pending → all ≡ (sent ++ []) ++ pending
same_said all sent pending is = is ∙ ap (λ s. s ++ pending) (sym (append-nil sent))

-- ---- the history of a connection

pub nothing_said : (t : Talk) → SaysOn t t
nothing_said t =
    ([], ap (λ (s : List Packet). record { heard = t.heard; stopped = t.stopped; said = s; earlier = t.earlier }) (sym (append-nil t.said)))

pub says_then : (t u v : Talk) → SaysOn t u → SaysOn u v → SaysOn t v
says_then t u v (a, p) (b, q) = (
  a ++ b,
  q ∙ ap (λ (x : Talk). talk_with_reply x b) p
      ∙ ap (λ (s : List Packet). record { heard = t.heard; stopped = t.stopped; said = s; earlier = t.earlier }) (append_assoc t.said a b),
)

module _ {C A : Type 0} (holds : C → Talk → Type 0) where
  -- sending pending bytes preserves `Holds`
  unfoldable pub sends : (c : Connection C A) (count : ℕ) (p : ∥ IsPartial c.stopped c.incoming.bytes ∥₁) (received sent : Bytes)
      → Holds {A = A} holds c received sent
      → Holds {A = A} holds (record { conversation = c.conversation; alloc = c.alloc; stopped = c.stopped; incoming = c.incoming; outgoing = c.outgoing; sent = c.sent + count; part = p })
      (received ++ []) (sent ++ take count (drop c.sent (bytes_in c.outgoing)))
  sends c count p received sent h =
      let out = bytes_in c.outgoing in
      record {
        talk = h.talk;
        held = h.held;
        stopped = h.stopped;
        partial = h.partial;
        heard = same_spelt h.talk.heard h.partial received h.heard;
        rest = h.rest;
        kept = h.kept;
        said =
            let rest = drop_more count c.sent out in
            h.said ∙ ap (λ p. sent ++ p) (sym (take-append-drop count (drop c.sent out)) ∙ ap (λ r. take count (drop c.sent out) ++ r) rest)
            ∙ sym (append_assoc sent (take count (drop c.sent out)) (drop (c.sent + count) out));
      }

  -- if no bytes are pending, queuing packets preserves `Holds`
  unfoldable pub speaks : (c : Connection C A) (conversation : C) (p : ∥ IsPartial c.stopped c.incoming.bytes ∥₁) (out received sent : Bytes)
      → drop c.sent (bytes_in c.outgoing) ≡ []
      → ((talk : Talk) → holds c.conversation talk → Says (holds conversation) talk out) → Holds {A = A} holds c received sent
      → Holds {A = A} holds (record { conversation = conversation; alloc = c.alloc; stopped = c.stopped; incoming = c.incoming; outgoing = Some out; sent = 0; part = p })
      (received ++ []) (sent ++ [])
  speaks c conversation p out received sent empty says h =
      let told = says h.talk h.held in
      record {
        talk = talk_with_reply h.talk told.more;
        held = told.held;
        stopped = h.stopped;
        partial = h.partial;
        heard = same_spelt h.talk.heard h.partial received h.heard;
        rest = h.rest;
        kept = h.kept;
        said =
            canonical_joins h.talk.said told.more ∙ ap (λ s. s ++ canonical_all told.more) (h.said ∙ ap (λ p. sent ++ p) empty)
            ∙ ap (λ b. (sent ++ []) ++ b) (sym told.spelt);
      }

  -- while more packets may arrive, all received bytes of the incomplete packet are stored
  pub kept_all : (c : Connection C A) (received sent : Bytes) (h : Holds {A = A} holds c received sent) → c.stopped ≡ None → c.incoming.bytes ≡ h.partial
  kept_all c received sent h goes = subst (λ s. IsKept s h.partial c.incoming.bytes) goes h.kept

  -- receiving bytes that do not complete a packet preserves `Holds`
  unfoldable pub grows : (c : Connection C A) (more : Bytes) (new : Buffered) (p : ∥ IsPartial c.stopped new.bytes ∥₁) (received sent : Bytes) → c.stopped ≡ None
      → new.bytes ≡ c.incoming.bytes ++ more → IsPartialPacket new.bytes
      → Holds {A = A} holds c received sent
      → Holds {A = A} holds (record { conversation = c.conversation; alloc = c.alloc; stopped = c.stopped; incoming = new; outgoing = c.outgoing; sent = c.sent; part = p })
      (received ++ more) (sent ++ [])
  grows c more new p received sent goes is part h =
      record {
        talk = h.talk;
        held = h.held;
        stopped = h.stopped;
        partial = new.bytes;
        heard = more_spelt h.talk.heard h.partial received more new.bytes (is ∙ ap (λ b. b ++ more) (kept_all c received sent h goes)) h.heard;
        rest = subst (λ s. IsStopped s new.bytes) (sym goes) part;
        kept = subst (λ s. IsKept s new.bytes new.bytes) (sym goes) refl;
        said = same_said (canonical_all h.talk.said) sent (drop c.sent (bytes_in c.outgoing)) h.said;
      }

  -- receiving the last bytes of a packet preserves `Holds`
  unfoldable pub hears : (c : Connection C A) (conversation : C) (line : Packet) (more new : Bytes) (left : Buffered) (p : ∥ IsPartial c.stopped left.bytes ∥₁) (received sent : Bytes) → c.stopped ≡ None
      → left.bytes ≡ [] → new ≡ c.incoming.bytes ++ more → Spells line new → ((talk : Talk) → holds c.conversation talk → holds conversation (talk_after talk line))
      → Holds {A = A} holds c received sent
      → Holds {A = A} holds (record { conversation = conversation; alloc = c.alloc; stopped = c.stopped; incoming = left; outgoing = c.outgoing; sent = c.sent; part = p })
      (received ++ more) (sent ++ [])
  hears c conversation line more new left p received sent goes empty is spelt hear h = record {
    talk = talk_after h.talk line;
    held = hear h.talk h.held;
    stopped = h.stopped;
    partial = [];
    heard = packet_spelt h.talk.heard line h.partial received more new (is ∙ ap (λ b. b ++ more) (kept_all c received sent h goes)) spelt h.heard;
    rest = subst (λ s. IsStopped s []) (sym goes) nothing_partial;
    kept = subst (λ s. IsKept s [] left.bytes) (sym goes) empty;
    said = same_said (canonical_all h.talk.said) sent (drop c.sent (bytes_in c.outgoing)) h.said;
  }

  -- notifying the conversation that no more packets arrive preserves `Holds`
  unfoldable pub stops : (c : Connection C A) (conversation : C) (why : Stop) (more : Bytes) (new : Buffered) (p : ∥ IsPartial (Some why) new.bytes ∥₁) (received sent : Bytes) → c.stopped ≡ None
      → (IsPartialPacket c.incoming.bytes → IsStopped (Some why) (c.incoming.bytes ++ more)) → IsKept (Some why) (c.incoming.bytes ++ more) new.bytes
      → ((talk : Talk) → holds c.conversation talk → holds conversation (stop_talk talk why))
      → Holds {A = A} holds c received sent
      → Holds {A = A} holds (record { conversation = conversation; alloc = c.alloc; stopped = Some why; incoming = new; outgoing = c.outgoing; sent = c.sent; part = p })
      (received ++ more) (sent ++ [])
  stops c conversation why more new p received sent goes stopped kept stop h =
      let all = kept_all c received sent h goes in
      record {
        talk = stop_talk h.talk why;
        held = stop h.talk h.held;
        stopped = refl;
        partial = c.incoming.bytes ++ more;
        heard = more_spelt h.talk.heard h.partial received more (c.incoming.bytes ++ more) (ap (λ b. b ++ more) all) h.heard;
        rest = stopped (subst IsPartialPacket (sym all) (subst (λ s. IsStopped s h.partial) goes h.rest));
        kept = kept;
        said = same_said (canonical_all h.talk.said) sent (drop c.sent (bytes_in c.outgoing)) h.said;
      }

  pub hears_then : (old mid new : Connection C A) (t u v : Talk) → HearsOn old mid t u → HearsOn mid new u v → HearsOn old new t v
  hears_then old mid new t u v (inl (p, c)) (inl (q, d)) = inl (q ∙ p, d ∙ c)
  hears_then old mid new t u v (inl (p, c)) (inr (s, e)) = inr (s, e ∙ ap (λ (x : Talk). x.said) p)
  hears_then old mid new t u v (inr (s, e)) (inl (q, d)) = inr (subst IsTurnStart (sym q) s, ap (λ (x : Talk). x.said) q ∙ e)
  hears_then old mid new t u v (inr (s, e)) (inr (r, f)) = inr (r, f ∙ e)

  -- a connection that has received and sent nothing
  pub begun : (c : Connection C A) → c.stopped ≡ None → c.incoming.bytes ≡ [] → drop c.sent (bytes_in c.outgoing) ≡ [] → holds c.conversation no_talk
      → (h : Holds {A = A} holds c [] []) × (h.talk ≡ no_talk)
  begun c goes empty none held = (
    record {
      talk = no_talk;
      held = held;
      stopped = sym goes;
      partial = [];
      heard = record { front = []; parts = refl; spells = refl };
      rest = subst (λ s. IsStopped s []) (sym goes) nothing_partial;
      kept = subst (λ s. IsKept s [] c.incoming.bytes) (sym goes) empty;
      said = sym none;
    },
    refl,
  )

  module _ (turn : C → Turn) where
    -- sending pending bytes
    pub sends_goes : (c : Connection C A) (count : ℕ) (p : ∥ IsPartial c.stopped c.incoming.bytes ∥₁)
        → Goes {A = A} turn holds SaysOn c (record { conversation = c.conversation; alloc = c.alloc; stopped = c.stopped; incoming = c.incoming; outgoing = c.outgoing; sent = c.sent + count; part = p })
        [] (take count (drop c.sent (bytes_in c.outgoing)))
    unfolding sends
    sends_goes c count p = record {
      talks = λ received sent h. (sends c count p received sent h, nothing_said h.talk);
      clean = λ clean. clean;
      room = λ room. record { incoming = room.incoming; outgoing = room.outgoing; kept = room.kept };
    }

    -- queuing packets, if no bytes are pending
    pub speaks_goes : (c : Connection C A) (conversation : C) (p : ∥ IsPartial c.stopped c.incoming.bytes ∥₁) (out : Bytes)
        → turn c.conversation ≡ Speaks → drop c.sent (bytes_in c.outgoing) ≡ []
        → ((talk : Talk) → holds c.conversation talk → Says (holds conversation) talk out)
        → Goes {A = A} turn holds SaysOn c (record { conversation = conversation; alloc = c.alloc; stopped = c.stopped; incoming = c.incoming; outgoing = Some out; sent = 0; part = p })
        [] []
    unfolding speaks
    speaks_goes c conversation p out is empty says = record {
      talks = λ received sent h. (speaks c conversation p out received sent empty says h, ((says h.talk h.held).more, refl));
      clean = λ clean other goes. clean (λ listens. cc (is, listens)) goes;
      room = λ room. record { incoming = room.incoming; outgoing = refl; kept = room.kept };
    }

    -- receiving bytes that do not complete a packet
    pub grows_goes : (c : Connection C A) (more : Bytes) (new : Buffered) (p : ∥ IsPartial c.stopped new.bytes ∥₁) → turn c.conversation ≡ Listens
        → c.stopped ≡ None → new.bytes ≡ c.incoming.bytes ++ more → IsPartialPacket new.bytes → c.incoming.room ≤ new.room
        → Goes {A = A} turn holds (HearsOn c (record { conversation = c.conversation; alloc = c.alloc; stopped = c.stopped; incoming = new; outgoing = c.outgoing; sent = c.sent; part = p }))
        c (record { conversation = c.conversation; alloc = c.alloc; stopped = c.stopped; incoming = new; outgoing = c.outgoing; sent = c.sent; part = p })
        more []
    unfolding grows
    grows_goes c more new p listens goes is part wide = record {
      talks = λ received sent h. (grows c more new p received sent goes is part h, inl (refl, refl));
      clean = λ clean other on. absurd (other listens);
      room = λ room. let enough = room.incoming in record { incoming = omega (arith, enough, wide); outgoing = room.outgoing; kept = room.kept };
    }

    -- receiving the last bytes of a packet
    pub hears_goes : (c : Connection C A) (conversation : C) (line : Packet) (more new : Bytes) (left : Buffered) (p : ∥ IsPartial c.stopped left.bytes ∥₁) → c.stopped ≡ None
        → left.bytes ≡ [] → new ≡ c.incoming.bytes ++ more → Spells line new → ((talk : Talk) → holds c.conversation talk → holds conversation (talk_after talk line))
        → c.incoming.room ≤ left.room
        → Goes {A = A} turn holds (HearsOn c (record { conversation = conversation; alloc = c.alloc; stopped = c.stopped; incoming = left; outgoing = c.outgoing; sent = c.sent; part = p }))
        c (record { conversation = conversation; alloc = c.alloc; stopped = c.stopped; incoming = left; outgoing = c.outgoing; sent = c.sent; part = p })
        more []
    unfolding hears
    hears_goes c conversation line more new left p goes empty is spelt hear wide = record {
      talks = λ received sent h. (hears c conversation line more new left p received sent goes empty is spelt hear h, inr (refl, refl));
      clean = λ clean other on. empty;
      room = λ room. let enough = room.incoming in record { incoming = omega (arith, enough, wide); outgoing = room.outgoing; kept = room.kept };
    }

    -- notifying the conversation that no more packets arrive
    pub stops_goes : (c : Connection C A) (conversation : C) (why : Stop) (more : Bytes) (new : Buffered) (p : ∥ IsPartial (Some why) new.bytes ∥₁) → c.stopped ≡ None
        → (IsPartialPacket c.incoming.bytes → IsStopped (Some why) (c.incoming.bytes ++ more)) → IsKept (Some why) (c.incoming.bytes ++ more) new.bytes
        → ((talk : Talk) → holds c.conversation talk → holds conversation (stop_talk talk why))
        → c.incoming.room ≤ new.room → (max_packet ≤ c.incoming.room → why ≢ stop.Refused Memory)
        → Goes {A = A} turn holds (HearsOn c (record { conversation = conversation; alloc = c.alloc; stopped = Some why; incoming = new; outgoing = c.outgoing; sent = c.sent; part = p }))
        c (record { conversation = conversation; alloc = c.alloc; stopped = Some why; incoming = new; outgoing = c.outgoing; sent = c.sent; part = p })
        more []
    unfolding stops
    stops_goes c conversation why more new p goes stopped kept stop wide never = record {
      talks = λ received sent h. (stops c conversation why more new p received sent goes stopped kept stop h, inr (refl, refl));
      clean = λ clean other on. absurd (cc on);
      room = λ room. let enough = room.incoming in record { incoming = omega (arith, enough, wide); outgoing = room.outgoing; kept = λ is. never enough (cc is) };
    }

    -- receiving and sending no bytes
    pub no_goes : (Leads : Talk → Talk → Type 0) (c : Connection C A) → ((t : Talk) → Leads t t) → Goes {A = A} turn holds Leads c c [] []
    no_goes Leads c same = record {
      talks = λ received sent h.
          subst (λ r. (k : Holds {A = A} holds c r (sent ++ [])) × Leads h.talk k.talk) (sym (append-nil received))
          (subst (λ s. (k : Holds {A = A} holds c received s) × Leads h.talk k.talk) (sym (append-nil sent)) (h, same h.talk));
      clean = λ clean. clean;
      room = λ room. room;
    }

    -- two consecutive changes
    pub two_goes : (P Q R : Talk → Talk → Type 0) (old mid new : Connection C A) (a b said told : Bytes)
        → ((t u v : Talk) → P t u → Q u v → R t v)
        → Goes {A = A} turn holds P old mid a said → Goes {A = A} turn holds Q mid new b told
        → Goes {A = A} turn holds R old new (a ++ b) (said ++ told)
    two_goes P Q R old mid new a b said told join first second = record {
      talks = λ received sent h.
          let k = first.talks received sent h in
          let l = second.talks (received ++ a) (sent ++ said) k.0 in
          subst (λ r. (x : Holds {A = A} holds new r (sent ++ (said ++ told))) × R h.talk x.talk) (append_assoc received a b)
          (subst (λ s. (x : Holds {A = A} holds new ((received ++ a) ++ b) s) × R h.talk x.talk) (append_assoc sent said told)
          (l.0, join h.talk k.0.talk l.0.talk k.1 l.1));
      clean = λ clean. second.clean (first.clean clean);
      room = λ room. second.room (first.room room);
    }

    pub goes_as : (P Q : Talk → Talk → Type 0) (old new : Connection C A) (more said : Bytes) → ((t u : Talk) → P t u → Q t u)
        → Goes {A = A} turn holds P old new more said → Goes {A = A} turn holds Q old new more said
    goes_as P Q old new more said weaker g = record {
      talks = λ received sent h. let k = g.talks received sent h in (k.0, weaker h.talk k.0.talk k.1);
      clean = g.clean;
      room = g.room;
    }

    -- the change, without the histories
    pub moves_of : (Leads : Talk → Talk → Type 0) (old new : Connection C A) (more said : Bytes) → Goes {A = A} turn holds Leads old new more said → Moves {A = A} holds old new more said
    moves_of Leads old new more said g = λ received sent h. (g.talks received sent h).0

    -- after a change, the connection still matches some received and sent bytes
    pub held_after : (Leads : Talk → Talk → Type 0) (old new : Connection C A) (more said : Bytes) → Goes {A = A} turn holds Leads old new more said
        → IsHeld {A = A} holds old → IsHeld {A = A} holds new
    held_after Leads old new more said g (received, sent, h) = (received ++ more, sent ++ said, (g.talks received sent h).0)

    -- ---- a connection with its source and sink

    unfoldable pub nothing_driven : (c : Connection C A) (read written : Option Bytes)
        → Drives {A = A} turn holds (TurnsOn turn c) c c (record { old = read; new = read }) (record { old = written; new = written })
    nothing_driven c read written = record {
      more = [];
      said = [];
      received = Consumes-nil read;
      sent = Appends-nil written;
      goes = no_goes (TurnsOn turn c) c (λ t start speaks. start);
    }

    pub nothing_sent : (c : Connection C A) (written : Option Bytes) → SendsSaid {A = A} turn holds c c (record { old = written; new = written })
    nothing_sent c written = record { said = []; sent = Appends-nil written; goes = no_goes SaysOn c nothing_said; partial = refl; stopped = refl }

    unfoldable pub more_sent : (old mid new : Connection C A) (first between last : Option Bytes)
        → SendsSaid {A = A} turn holds old mid (record { old = first; new = between })
        → SendsSaid {A = A} turn holds mid new (record { old = between; new = last })
        → SendsSaid {A = A} turn holds old new (record { old = first; new = last })
    more_sent old mid new first between last h k = record {
      said = h.said ++ k.said;
      sent = Appends-trans first between last h.said k.said h.sent k.sent;
      goes = two_goes SaysOn SaysOn SaysOn old mid new [] [] h.said k.said says_then h.goes k.goes;
      partial = k.partial ∙ h.partial;
      stopped = k.stopped ∙ h.stopped;
    }

    -- a connection that listens receives packets, so a turn that speaks next begins anew
    pub turns_heard : (mid new : Connection C A) → turn mid.conversation ≡ Listens → (t u v : Talk) → TurnsOn turn mid t u → HearsOn mid new u v → TurnsOn turn new t v
    turns_heard mid new listens t u v before (inl (same, conversation)) = λ start speaks.
        absurd (let was = ap turn conversation in cc (was, speaks, listens))
    turns_heard mid new listens t u v before (inr (start, said)) = λ at_start speaks. start

    unfoldable pub more_heard : (old mid new : Connection C A) (first between last written latest : Option Bytes) → turn mid.conversation ≡ Listens
        → Drives {A = A} turn holds (TurnsOn turn mid) old mid (record { old = first; new = between }) (record { old = written; new = latest })
        → HearsRead {A = A} turn holds mid new (record { old = between; new = last })
        → Drives {A = A} turn holds (TurnsOn turn new) old new (record { old = first; new = last }) (record { old = written; new = latest })
    more_heard old mid new first between last written latest listens h k = record {
      more = h.more ++ k.more;
      said = h.said;
      received = Consumes-trans first between last h.more k.more h.received k.received;
      sent = h.sent;
      goes = subst (λ s. Goes {A = A} turn holds (TurnsOn turn new) old new (h.more ++ k.more) s) (append-nil h.said)
          (two_goes (TurnsOn turn mid) (HearsOn mid new) (TurnsOn turn new) old mid new h.more k.more h.said [] (turns_heard mid new listens) h.goes k.goes);
    }

    unfoldable pub more_said : (Leads : Talk → Talk → Type 0) (old mid new : Connection C A) (first between read latest last : Option Bytes)
        → ((t u v : Talk) → TurnsOn turn mid t u → SaysOn u v → Leads t v)
        → Drives {A = A} turn holds (TurnsOn turn mid) old mid (record { old = first; new = between }) (record { old = read; new = latest })
        → SendsSaid {A = A} turn holds mid new (record { old = latest; new = last })
        → Drives {A = A} turn holds Leads old new (record { old = first; new = between }) (record { old = read; new = last })
    more_said Leads old mid new first between read latest last join h k = record {
      more = h.more;
      said = h.said ++ k.said;
      received = h.received;
      sent = Appends-trans read latest last h.said k.said h.sent k.sent;
      goes = subst (λ r. Goes {A = A} turn holds Leads old new r (h.said ++ k.said)) (append-nil h.more)
          (two_goes (TurnsOn turn mid) SaysOn Leads old mid new h.more [] h.said k.said join h.goes k.goes);
    }

    -- a connection that has received and sent bytes, without the histories
    pub driven_any : (Leads : Talk → Talk → Type 0) (old new : Connection C A) (read written : Change) → Drives {A = A} turn holds Leads old new read written
        → Drives {A = A} turn holds AnyTalk old new read written
    driven_any Leads old new read written h = record {
      more = h.more;
      said = h.said;
      received = h.received;
      sent = h.sent;
      goes = goes_as Leads AnyTalk old new h.more h.said (λ t u leads. tt) h.goes;
    }

    pub none_sent : (c : Connection C A) (written last : Option Bytes) → Keeps written last
        → SendsSaid {A = A} turn holds c c (record { old = written; new = last })
    none_sent c written last keeps =
        record { said = []; sent = Appends-kept written written last [] (Appends-nil written) keeps; goes = no_goes SaysOn c nothing_said; partial = refl; stopped = refl }

    -- a call that leaves the contents of the sink unchanged preserves `SendsSaid`
    unfoldable pub kept_sent : (old new : Connection C A) (first between last : Option Bytes)
        → SendsSaid {A = A} turn holds old new (record { old = first; new = between }) → Keeps between last
        → SendsSaid {A = A} turn holds old new (record { old = first; new = last })
    kept_sent old new first between last h keeps =
        record { said = h.said; sent = Appends-kept first between last h.said h.sent keeps; goes = h.goes; partial = h.partial; stopped = h.stopped }

    pub nothing_heard : (c : Connection C A) (read : Option Bytes) → HearsRead {A = A} turn holds c c (record { old = read; new = read })
    nothing_heard c read = record { more = []; received = Consumes-nil read; goes = no_goes (HearsOn c c) c (λ t. inl (refl, refl)) }

    pub reads_joined : (old mid new : Connection C A) (first between last : Option Bytes)
        → HearsRead {A = A} turn holds old mid (record { old = first; new = between })
        → HearsRead {A = A} turn holds mid new (record { old = between; new = last })
        → HearsRead {A = A} turn holds old new (record { old = first; new = last })
    reads_joined old mid new first between last h k = record {
      more = h.more ++ k.more;
      received = Consumes-trans first between last h.more k.more h.received k.received;
      goes = two_goes (HearsOn old mid) (HearsOn mid new) (HearsOn old new) old mid new h.more k.more [] [] (hears_then old mid new) h.goes k.goes;
    }

    -- sending a prefix of the pending bytes twice
    pub pending_joined : (old mid new : Connection C A) (first between last : Option Bytes)
        → SendsPending {A = A} turn holds old mid (record { old = first; new = between })
        → SendsPending {A = A} turn holds mid new (record { old = between; new = last })
        → SendsPending {A = A} turn holds old new (record { old = first; new = last })
    unfolding more_sent
    pending_joined old mid new first between last h k = record {
      sends = more_sent old mid new first between last h.sends k.sends;
      parts = h.parts ∙ ap (λ (b : Bytes). h.sends.said ++ b) k.parts ∙ sym (append_assoc h.sends.said k.sends.said (pending_of new));
    }

    pub nothing_pending : (c : Connection C A) (written last : Option Bytes) → Keeps written last
        → SendsPending {A = A} turn holds c c (record { old = written; new = last })
    unfolding none_sent
    nothing_pending c written last keeps = record { sends = none_sent c written last keeps; parts = refl }

    -- the connection is unchanged
    pub same_goes : (c d : Connection C A) → d.conversation ≡ c.conversation → d.stopped ≡ c.stopped → d.incoming ≡ c.incoming → d.outgoing ≡ c.outgoing → d.sent ≡ c.sent
        → Goes {A = A} turn holds SaysOn c d [] []
    same_goes c d conversation stopped incoming outgoing sent = record {
      talks = λ r s h.
          subst (λ (x : Bytes). (k : Holds {A = A} holds d x (s ++ [])) × SaysOn h.talk k.talk) (sym (append-nil r))
          (subst (λ (x : Bytes). (k : Holds {A = A} holds d r x) × SaysOn h.talk k.talk) (sym (append-nil s)) (
            record {
              talk = h.talk;
              held = subst (λ (x : C). holds x h.talk) (sym conversation) h.held;
              stopped = h.stopped ∙ sym stopped;
              partial = h.partial;
              heard = h.heard;
              rest = subst (λ (x : Option Stop). IsStopped x h.partial) (sym stopped) h.rest;
              kept = subst (λ (x : Option Stop). IsKept x h.partial d.incoming.bytes) (sym stopped)
                  (subst (λ (b : Buffered). IsKept c.stopped h.partial b.bytes) (sym incoming) h.kept);
              said = h.said ∙ ap (λ (n : ℕ). s ++ drop n (bytes_in c.outgoing)) (sym sent) ∙ ap (λ (o : Option Bytes). s ++ drop d.sent (bytes_in o)) (sym outgoing);
            },
            nothing_said h.talk,
          ));
      clean = λ clean other on. ap (λ (b : Buffered). b.bytes) incoming ∙ clean (λ is. other (ap turn conversation ∙ is)) (sym stopped ∙ on);
      room = λ room. record {
        incoming = subst (λ (b : Buffered). max_packet ≤ b.room) (sym incoming) room.incoming;
        outgoing = subst IsSome (sym outgoing) room.outgoing;
        kept = λ is. room.kept (sym stopped ∙ is);
      };
    }

  -- receiving and sending no bytes preserves `Holds`
  pub no_move : (c : Connection C A) (received sent : Bytes) → Holds {A = A} holds c received sent → Holds {A = A} holds c (received ++ []) (sent ++ [])
  no_move c received sent h =
      subst (λ r. Holds {A = A} holds c r (sent ++ [])) (sym (append-nil received)) (subst (λ s. Holds {A = A} holds c received s) (sym (append-nil sent)) h)

pub some_bytes : (bytes : Bytes) → false ≡ (length bytes == 0) → 0 < length bytes
some_bytes [] is = absurd (cc is)
some_bytes (b ∷ bytes) is = omega arith

pub no_bytes : (bytes : Bytes) → true ≡ (length bytes == 0) → bytes ≡ []
no_bytes bytes is = nil_from_length bytes (eqb-true (length bytes) 0 (sym is))

not_false : (b : Bool) → not b ≡ false → true ≡ b
not_false true is = refl
not_false false is = absurd (cc is)

not_true : (b : Bool) → not b ≡ true → false ≡ b
not_true false is = refl
not_true true is = absurd (cc is)

-- whether a queue with these bytes is empty
pub none_now : (b : Bool) (bytes : Bytes) → b ≡ (length bytes == 0) → not b ≡ false → bytes ≡ []
none_now b bytes is none = no_bytes bytes (not_false b none ∙ is)

pub some_now : (b : Bool) (bytes : Bytes) → b ≡ (length bytes == 0) → not b ≡ true → 0 < length bytes
some_now b bytes is some = some_bytes bytes (not_true b some ∙ is)

-- if some bytes are pending now, some were pending at first
pub some_pending : (old said new : Bytes) → old ≡ said ++ new → 0 < length new → 0 < length old
some_pending old said new parts some = let same = ap length parts in omega (arith, some, same, length-append said new)

pub never_pending : (old said new : Bytes) → old ≡ said ++ new → 0 < length new → old ≡ [] → ⊥
never_pending old said new parts some none = let first = some_pending old said new parts some in let same = ap length none in omega (arith, first, same)

-- the input has ended, so memory did not run out
pub ended_well : (why : Stop) → IsByEnd (Some why) → why ≢ stop.Refused Memory
ended_well why end is = subst (λ (w : Stop). IsByEnd (Some w)) is end

-- bytes that are not a packet were refused, so memory did not run out
pub refused_well : (fault : PacketFault) (bytes : Bytes) → IsFound bytes (Err fault) → stop.Refused fault ≢ stop.Refused Memory
refused_well fault bytes found is = let same : fault ≡ Memory = cc is in subst (λ (f : PacketFault). NoPacket f bytes) same found

-- the bytes that are not a packet
pub refused_stops : (fault : PacketFault) (bytes new : Bytes) → new ≡ bytes → IsFound new (Err fault) → IsStopped (Some (stop.Refused fault)) bytes
refused_stops BadDigits bytes new is found = subst (NoPacket BadDigits) is found
refused_stops Reserved bytes new is found = subst (NoPacket Reserved) is found
refused_stops TooLong bytes new is found = subst (NoPacket TooLong) is found
refused_stops Truncated bytes new is found = subst (NoPacket Truncated) is found
refused_stops Io bytes new is found = absurd found
refused_stops Failed bytes new is found = absurd found
refused_stops Memory bytes new is found = absurd found

pub refused_kept : (fault : PacketFault) (bytes new : Bytes) → new ≡ bytes → IsKept (Some (stop.Refused fault)) bytes new
refused_kept BadDigits bytes new is = is
refused_kept Reserved bytes new is = is
refused_kept TooLong bytes new is = is
refused_kept Truncated bytes new is = is
refused_kept Io bytes new is = is
refused_kept Failed bytes new is = is
refused_kept Memory bytes new is = tt

pub ok_not_err : {T E : Type 0} (r : Result T E) (b : Bool) → b ≡ is_err r → b ≡ true → IsOk r → ⊥
ok_not_err (Ok x) b is err ok = cc (is, err)
ok_not_err (Err e) b is err ok = cc ok

pub kept_end : (why : Stop) (bytes : Bytes) → IsByEnd (Some why) → IsKept (Some why) (bytes ++ []) bytes
kept_end stop.Ended bytes end = sym (append-nil bytes)
kept_end stop.Failed bytes end = absurd end
kept_end (stop.Refused Truncated) bytes end = sym (append-nil bytes)
kept_end (stop.Refused BadDigits) bytes end = absurd end
kept_end (stop.Refused Reserved) bytes end = absurd end
kept_end (stop.Refused TooLong) bytes end = absurd end
kept_end (stop.Refused Io) bytes end = absurd end
kept_end (stop.Refused Failed) bytes end = absurd end
kept_end (stop.Refused Memory) bytes end = absurd end
