-- The remaining turns and steps of a driven connection, and the bytes of its source and sink.
use Rattle.std.proofs.Common.{◌≡◌, ◌≢◌, ℕ, ◌+◌, ◌<◌, ◌≤◌, ◌⊎◌, ◌++◌, [], Bool, true, false, if◌then◌else◌, length, Option, Some, None, Result, Ok, Err, IfOk, IsSome, OnErr, inl, inr, refl, sym, subst, ap, ◌∙◌, arith, append-nil, append_assoc, length-append}
use Rattle.std.proofs.KnownBytes.{Appends-nil, Appends-trans}
use Rattle.std.specs.Io.KnownBytes.{Appends, Keeps}
use Rattle.gpkt.specs.Packets.{Bytes, canonical_all, max_packet}
use Rattle.gpkt.specs.Devices.{KeepsPassed, PassesAll}
use Rattle.gtalk.specs.Talks.{IsNearer, Left, SaysOn, Talk}
use Rattle.gtalk.specs.Connections.{BreaksOff, FailsBy, FailsInTurn, Goes, HasDriven, HasPassed, HasSent, HearsRead, Holds, IsDone, IsTurn, LeavesSink, PassesBytes, SendsSaid, TurnsOn, pending_of}
use Rattle.gtalk.specs.steps.Driving.{CountsSent, IsFewer, IsLater, SaysTurn, SendsPending, calls_left, reading_left, reads_left, saying_left, turns_left, count_unstopped}
use Rattle.gtalk.specs.declared.connection.Connection.{Connection}
use Rattle.gtalk.specs.declared.conversation.Stop.{Stop}
use Rattle.gtalk.specs.declared.conversation.Turn.{Turn}
use Rattle.gtalk.specs.declared.conversation.Turn.TheVariants.{Listens, Speaks, Done}
use Rattle.gtalk.specs.declared.fault.TalkFault.{TalkFault}
use Rattle.gtalk.specs.declared.fault.TalkFault.TheVariants.{Io, Memory}
use Rattle.gtalk.proofs.Moves.{kept_sent, more_heard, more_said, more_sent, no_goes, nothing_driven, nothing_said}

-- ---- remaining calls, reads and turns

-- fewer calls remain after a call that queues packets
pub calls_fewer : (old new : Turn) (steps fewer : ℕ) → old ≡ Speaks → (new ≡ old → fewer < steps)
    → calls_left new fewer < calls_left old steps
calls_fewer Speaks Speaks steps fewer is less = let l = less refl in omega (arith, l)
calls_fewer Speaks Listens steps fewer is less = omega arith
calls_fewer Speaks Done steps fewer is less = omega arith
calls_fewer Listens new steps fewer is less = absurd (cc is)
calls_fewer Done new steps fewer is less = absurd (cc is)

-- fewer reads remain after a packet is received
pub reads_fewer : (old new : Turn) (steps fewer kept more : ℕ) → old ≡ Listens → (new ≡ old → fewer < steps)
    → reads_left new fewer more < reads_left old steps kept
reads_fewer Listens Listens steps fewer kept more is less = let l = less refl in omega (arith, l)
reads_fewer Listens Speaks steps fewer kept more is less = omega arith
reads_fewer Listens Done steps fewer kept more is less = omega arith
reads_fewer Speaks new steps fewer kept more is less = absurd (cc is)
reads_fewer Done new steps fewer kept more is less = absurd (cc is)

-- fewer reads remain after more bytes of an incomplete packet are received
pub reads_on : (turn : Turn) (steps kept more count : ℕ) → turn ≡ Listens → more ≡ kept + count → 0 < count → kept + count ≤ max_packet
    → reads_left turn steps more < reads_left turn steps kept
reads_on Listens steps kept more count is same some few = omega (arith, same, some, few)
reads_on Speaks steps kept more count is same some few = absurd (cc is)
reads_on Done steps kept more count is same some few = absurd (cc is)

module _ {C : Type 0} (turn : C → Turn) (left : C → Left) where
  -- a step within a turn decreases the number of remaining steps
  pub fewer_steps : (old new : C) → IsNearer turn left old new → turn new ≡ turn old → (left new).steps < (left old).steps
  fewer_steps old new (inl (same, few, less)) is = less
  fewer_steps old new (inr (other, less)) is = absurd (other is)

  pub later_nothing : (c : C) → IsLater turn left c c
  later_nothing c = inl (refl, omega arith)

  pub later_nearer : (old mid new : C) → IsLater turn left old mid → IsNearer turn left mid new → IsLater turn left old new
  later_nearer old mid new (inl (same, few)) (inl (is, fewer, less)) = inl (is ∙ same, omega (arith, few, fewer))
  later_nearer old mid new (inl (same, few)) (inr (other, less)) = inr (omega (arith, few, less))
  later_nearer old mid new (inr few) (inl (is, fewer, less)) = inr (omega (arith, few, fewer))
  later_nearer old mid new (inr few) (inr (other, less)) = inr (omega (arith, few, less))

  pub later_later : (old mid new : C) → IsLater turn left old mid → IsLater turn left mid new → IsLater turn left old new
  later_later old mid new (inl (same, few)) (inl (is, fewer)) = inl (is ∙ same, omega (arith, few, fewer))
  later_later old mid new (inl (same, few)) (inr less) = inr (omega (arith, few, less))
  later_later old mid new (inr few) (inl (is, fewer)) = inr (omega (arith, few, fewer))
  later_later old mid new (inr few) (inr less) = inr (omega (arith, few, less))

  -- fewer turns remain after the turn `was` has ended
  pub turn_over : (old new : C) (was : Turn) → IsLater turn left old new → turn old ≡ was → (turn new ≡ was → ⊥)
      → (left new).turns < (left old).turns
  turn_over old new was (inl (same, few)) is other = absurd (other (same ∙ is))
  turn_over old new was (inr few) is other = few

at_most_one : (stopped : Option Stop) → count_unstopped stopped ≤ 1
at_most_one None = omega arith
at_most_one (Some why) = omega arith

module _ {C A : Type 0} (turn : C → Turn) (left : C → Left) where
  pub says_fewer : (old new : Connection C A) → turn old.conversation ≡ Speaks → IsNearer turn left old.conversation new.conversation
      → saying_left {A = A} turn left new < saying_left {A = A} turn left old
  says_fewer old new is near =
      calls_fewer (turn old.conversation) (turn new.conversation) (left old.conversation).steps (left new.conversation).steps is
      (fewer_steps turn left old.conversation new.conversation near)

  pub hears_fewer : (old new : Connection C A) → turn old.conversation ≡ Listens → IsNearer turn left old.conversation new.conversation
      → reading_left {A = A} turn left new < reading_left {A = A} turn left old
  hears_fewer old new is near =
      reads_fewer (turn old.conversation) (turn new.conversation) (left old.conversation).steps (left new.conversation).steps
      (length old.incoming.bytes) (length new.incoming.bytes) is (fewer_steps turn left old.conversation new.conversation near)

  -- when the conversation no longer listens, fewer turns remain, or no more packets arrive
  pub listens_no_more : (old new : Connection C A) → turn old.conversation ≡ Listens → IsLater turn left old.conversation new.conversation
      → ((turn new.conversation ≡ Speaks) ⊎ IsDone {A = A} turn new) → IsFewer {A = A} left old new
  listens_no_more old new is later (inl speaks) =
      inl (turn_over turn left old.conversation new.conversation Listens later is (λ other. cc (other, speaks)))
  listens_no_more old new is later (inr (inl over)) =
      inl (turn_over turn left old.conversation new.conversation Listens later is (λ other. cc (other, over)))
  listens_no_more old new is (inl (same, few)) (inr (inr (there, stopped))) = inr (few, stopped)
  listens_no_more old new is (inr few) (inr (inr (there, stopped))) = inl few

  pub fewer_turns : (old new : Connection C A) → old.stopped ≡ None → IsFewer {A = A} left old new
      → turns_left {A = A} turn left new < turns_left {A = A} turn left old
  fewer_turns old new goes (inl less) =
      let one : count_unstopped old.stopped ≡ 1 = ap count_unstopped goes in let most = at_most_one new.stopped in omega (arith, less, one, most)
  fewer_turns old new goes (inr (few, (why, stopped))) =
      let one : count_unstopped old.stopped ≡ 1 = ap count_unstopped goes in
      let none : count_unstopped new.stopped ≡ 0 = ap count_unstopped stopped in
      omega (arith, few, one, none)

  pub said_turns : (old new : Connection C A) → new.stopped ≡ old.stopped → (left new.conversation).turns < (left old.conversation).turns
      → turns_left {A = A} turn left new < turns_left {A = A} turn left old
  said_turns old new same less = let is = ap count_unstopped same in omega (arith, is, less)

pub over_now : {C A : Type 0} (turn : C → Turn) (c : Connection C A) (t : Turn) → IsTurn {A = A} turn c t → (t ≡ Speaks) ⊎ (t ≡ Done)
    → (turn c.conversation ≡ Speaks) ⊎ IsDone {A = A} turn c
over_now {A = A} turn c t is (inl speaks) = inl (subst (λ x. IsTurn {A = A} turn c x) speaks is)
over_now {A = A} turn c t is (inr done) = inr (subst (λ x. IsTurn {A = A} turn c x) done is)

-- a connection that listened at first, and does not listen now, has read
pub has_read : {C A : Type 0} (turn : C → Turn) (old new : Connection C A) (P : Type 0) → turn old.conversation ≡ Listens → old.stopped ≡ None
    → ((turn new.conversation ≡ Speaks) ⊎ IsDone {A = A} turn new) → (new ≡ old) ⊎ P → P
has_read turn old new P listens goes over (inr p) = p
has_read turn old new P listens goes (inl speaks) (inl same) = let is = ap (λ x. turn x.conversation) same in absurd (cc (is, speaks, listens))
has_read turn old new P listens goes (inr (inl done)) (inl same) = let is = ap (λ x. turn x.conversation) same in absurd (cc (is, done, listens))
has_read turn old new P listens goes (inr (inr (there, (why, stopped)))) (inl same) = let is = ap (λ x. x.stopped) same in absurd (cc (is, stopped, goes))

-- ---- the written and flushed bytes of a sink

pub keeps_known : (a b : Option Bytes) → Keeps a b → IsSome a → IsSome b
keeps_known None b keeps some = absurd (cc some)
keeps_known (Some x) None keeps some = absurd keeps
keeps_known (Some x) (Some y) keeps some = refl

pub appends_known : (a b : Option Bytes) (more : Bytes) → Appends a b more → IsSome a → IsSome b
appends_known None b more appends some = absurd (cc some)
appends_known (Some x) None more appends some = absurd appends
appends_known (Some x) (Some y) more appends some = refl

pub leaves_sink : (result : Result Unit TalkFault) (first was is : Bool) → LeavesSink result was is → was ≡ first → LeavesSink result first is
leaves_sink (Ok done) first was is h same = h
leaves_sink (Err Io) first was is h same = h
leaves_sink (Err Memory) first was is h same = h ∙ same

-- unchanged flushed bytes satisfy `KeepsPassed`
pub keeps_passed : (a b : Option Bytes) → Keeps a b → KeepsPassed (record { old = a; new = b })
keeps_passed None b keeps = tt
keeps_passed (Some x) None keeps = keeps
keeps_passed (Some x) (Some y) keeps = ([], keeps ∙ sym (append-nil x))

pub keeps_then_passed : (a b c : Option Bytes) → Keeps a b → KeepsPassed (record { old = b; new = c }) → KeepsPassed (record { old = a; new = c })
keeps_then_passed None b c keeps h = tt
keeps_then_passed (Some x) None c keeps h = absurd keeps
keeps_then_passed (Some x) (Some y) None keeps h = h
keeps_then_passed (Some x) (Some y) (Some z) keeps (more, is) = (more, is ∙ ap (λ l. l ++ more) keeps)

-- if all written bytes are flushed at the start of a turn, they are still flushed at its end
passed_since : (between passed last : Option Bytes) → passed ≡ between → IsSome passed → KeepsPassed (record { old = passed; new = last })
    → (bytes : Bytes) × (more : Bytes) × (between ≡ Some bytes) × (last ≡ Some (bytes ++ more))
passed_since between None last same some h = absurd (cc some)
passed_since between (Some x) None same some h = absurd h
passed_since between (Some x) (Some y) same some (more, is) = (x, more, sym same, ap Some is)

-- the first bytes that were written, and the bytes at a later moment
all_known : (first between last passed : Option Bytes) (said : Bytes) → Appends first between said → passed ≡ between → IsSome passed
    → KeepsPassed (record { old = passed; new = last }) → (old : Bytes) → first ≡ Some old
    → (more : Bytes) × (last ≡ Some (old ++ said ++ more))
all_known first between last passed said wrote same some keeps old is =
    let p = passed_since between passed last same some keeps in
    let wrote : Appends (Some old) (Some p.0) said = subst (λ (b : Option Bytes). Appends (Some old) b said) p.2 (subst (λ (f : Option Bytes). Appends f between said) is wrote) in
    (p.1, p.3 ∙ ap (λ (b : Bytes). Some (b ++ p.1)) wrote)

pub longer_first : (a b : Bytes) → 0 < length a → 0 < length (a ++ b)
longer_first a b some = omega (arith, some, length-append a b)

pub longer : (a b : Bytes) → 0 < length b → 0 < length (a ++ b)
longer a b some = omega (arith, some, length-append a b)

pub four_bytes : (bytes : Bytes) → length bytes ≡ 4 → 0 < length bytes
four_bytes bytes four = omega (arith, four)

-- ---- whether a turn queued packets

pub still : (passed sent : Bool) → passed ≡ true → (if passed then true else sent) ≡ passed
still passed sent is = ap (λ (p : Bool). if p then true else sent) is ∙ sym is

pub first_now : (passed sent : Bool) → passed ≡ false → (if passed then true else sent) ≡ sent
first_now passed sent is = ap (λ (p : Bool). if p then true else sent) is

pub counts_fails : (fault : TalkFault) (old said new : Bytes) (Untouched : Type 0) → old ≡ said ++ new → 0 < length old → CountsSent (Err fault) said new Untouched
counts_fails Io old said new Untouched parts some = subst (λ (b : Bytes). 0 < length b) parts some
counts_fails Memory old said new Untouched parts some = tt

more_counts : {D : Type 0} (passed sent : Bool) (a b pending middle : Bytes) (begun sink after : D) → CountsSent (Ok passed) a middle (sink ≡ begun) → CountsSent (Ok sent) b pending (after ≡ sink)
    → CountsSent (Ok (if passed then true else sent)) (a ++ b) pending (after ≡ begun)
more_counts true sent a b pending middle begun sink after h k = longer_first a b h
more_counts false true a b pending middle begun sink after h k = longer a b k
more_counts false false a b pending middle begun sink after h k = (ap (λ (x : Bytes). x ++ b) h.0 ∙ k.0, k.1 ∙ h.1)

fails_counts : {D : Type 0} (fault : TalkFault) (a b pending : Bytes) (begun sink after : D) → CountsSent (Err fault) b pending (after ≡ sink)
    → CountsSent (Err fault) (a ++ b) pending (after ≡ begun)
fails_counts Io a b pending begun sink after k = omega (arith, k, length-append b pending, length-append (a ++ b) pending, length-append a b)
fails_counts Memory a b pending begun sink after k = tt

finish_counts : {D : Type 0} (passed : Bool) (said pending : Bytes) (begun sink after : D) (result : Result Bool TalkFault) → CountsSent (Ok passed) said pending (sink ≡ begun)
    → (passed ≡ false → after ≡ sink) → IfOk result (λ sent. sent ≡ passed) → OnErr result (passed ≡ true)
    → CountsSent result said pending (after ≡ begun)
finish_counts true said pending begun sink after (Ok true) h untouched same some = h
finish_counts true said pending begun sink after (Ok false) h untouched same some = absurd (cc same)
finish_counts false said pending begun sink after (Ok true) h untouched same some = absurd (cc same)
finish_counts false said pending begun sink after (Ok false) h untouched same some = (h.0, untouched refl ∙ h.1)
finish_counts true said pending begun sink after (Err Io) h untouched same some = longer_first said pending h
finish_counts false said pending begun sink after (Err Io) h untouched same some = absurd (cc some)
finish_counts passed said pending begun sink after (Err Memory) h untouched same some = tt

module _ {C A D : Type 0} (holds : C → Talk → Type 0) (turn : C → Turn) (contents passed_on : D → Option Bytes) (is_down : D → Bool) where
  abbrev Drove : Bool → Connection C A → Connection C A → Option Bytes → Option Bytes → D → D → Type 0
  Drove passed old new first last begun sink = HasDriven {A = A} turn holds passed old new (record { old = first; new = last })
      (record { old = contents begun; new = contents sink }) (record { old = passed_on begun; new = passed_on sink }) (is_down sink) (sink ≡ begun)

  abbrev Said : Result Bool TalkFault → Connection C A → Connection C A → D → D → Type 0
  Said result old new begun sink = SaysTurn {A = A} turn holds result old new (record { old = contents begun; new = contents sink }) (sink ≡ begun)

  -- if the bytes written and flushed before the call are known, the bytes flushed so far are known
  known_now : (passed : Bool) (old mid : Connection C A) (first last : Option Bytes) (begun sink : D) → Drove passed old mid first last begun sink
      → IsSome (contents begun) → IsSome (passed_on begun) → IsSome (passed_on sink)
  known_now false old mid first last begun sink h some known = subst (λ d. IsSome (passed_on d)) (sym h.flushed.1) known
  known_now true old mid first last begun sink h some known =
      subst IsSome (sym (h.flushed.1 some known)) (appends_known (contents begun) (contents sink) h.drives.said h.drives.sent some)

  pub driven_nothing : (c : Connection C A) (first : Option Bytes) (begun : D) → Drove false c c first first begun begun
  unfolding nothing_driven
  driven_nothing c first begun = record {
    drives = nothing_driven holds turn c first (contents begun);
    flushed = (refl, refl);
  }

  pub driven_heard : (passed : Bool) (old mid new : Connection C A) (first between last : Option Bytes) (begun sink : D) → turn mid.conversation ≡ Listens
      → Drove passed old mid first between begun sink → HearsRead {A = A} turn holds mid new (record { old = between; new = last })
      → Drove passed old new first last begun sink
  unfolding more_heard
  driven_heard passed old mid new first between last begun sink listens h k = record {
    drives = more_heard holds turn old mid new first between last (contents begun) (contents sink) listens h.drives k;
    flushed = h.flushed;
  }

  -- a turn has ended, so the next turn begins anew
  turn_ends : (new : Connection C A) (mid : Connection C A) → turn new.conversation ≢ Speaks → (t u v : Talk) → TurnsOn turn mid t u → SaysOn u v → TurnsOn turn new t v
  turn_ends new mid over t u v before said = λ start speaks. absurd (over speaks)

  said_flushed : (passed sent : Bool) (old mid new : Connection C A) (first between : Option Bytes) (begun sink after : D)
      → (h : Drove passed old mid first between begun sink) → (k : Said (Ok sent) mid new sink after)
      → (sent ≡ true → PassesAll (contents after) (record { old = passed_on sink; new = passed_on after }))
      → (sent ≡ true → is_down after ≡ false)
      → HasSent (if passed then true else sent) (h.drives.said ++ k.sends.said) (record { old = contents begun; new = contents after })
      (record { old = passed_on begun; new = passed_on after }) (is_down after) (after ≡ begun)
  said_flushed passed true old mid new first between begun sink after h k all up =
      let long = longer h.drives.said k.sends.said k.counts in
      let known : IsSome (contents begun) → PassesAll (contents after) (record { old = passed_on begun; new = passed_on after }) =
      λ some known. all refl (known_now passed old mid first between begun sink h some known) in
      elim passed as (λ p. HasSent (if p then true else true) (h.drives.said ++ k.sends.said) (record { old = contents begun; new = contents after })
      (record { old = passed_on begun; new = passed_on after }) (is_down after) (after ≡ begun)) [
        | true ↦ (long, known, up refl)
        | false ↦ (long, known, up refl)
      ]
  said_flushed true false old mid new first between begun sink after h k all up = (
    longer_first h.drives.said k.sends.said h.flushed.0,
    subst (λ d. IsSome (contents begun) → PassesAll (contents d) (record { old = passed_on begun; new = passed_on d })) (sym k.counts.1) h.flushed.1,
    ap is_down k.counts.1 ∙ h.flushed.2,
  )
  said_flushed false false old mid new first between begun sink after h k all up =
      (ap (λ (b : Bytes). b ++ k.sends.said) h.flushed.0 ∙ k.counts.0, k.counts.1 ∙ h.flushed.1)

  pub driven_said : (passed sent : Bool) (old mid new : Connection C A) (first between : Option Bytes) (begun sink after : D)
      → Drove passed old mid first between begun sink → Said (Ok sent) mid new sink after → turn new.conversation ≢ Speaks
      → (sent ≡ true → PassesAll (contents after) (record { old = passed_on sink; new = passed_on after }))
      → (sent ≡ true → is_down after ≡ false)
      → Drove (if passed then true else sent) old new first between begun after
  unfolding more_said
  driven_said passed sent old mid new first between begun sink after h k over all up = record {
    drives = more_said holds turn (TurnsOn turn new) old mid new first between (contents begun) (contents sink) (contents after) (turn_ends new mid over) h.drives k.sends;
    flushed = said_flushed passed sent old mid new first between begun sink after h k all up;
  }

  -- if the turn that starts at `mid` fails, the connection is aborted as `BreaksOff` states
  pub breaks_off : (passed : Bool) (old mid new : Connection C A) (first between : Option Bytes) (begun sink after : D)
      → Drove passed old mid first between begun sink
      → ((turn mid.conversation ≡ Speaks) ⊎ IsDone {A = A} turn mid) → pending_of mid ≡ []
      → SendsSaid {A = A} turn holds mid new (record { old = contents sink; new = contents after })
      → KeepsPassed (record { old = passed_on sink; new = passed_on after })
      → BreaksOff {A = A} turn holds old new (record { old = first; new = between })
      (record { old = contents begun; new = contents after }) (record { old = passed_on begun; new = passed_on after })
  breaks_off passed old mid new first between begun sink after h turns all_sent last keeps = record {
    mid = mid;
    between = contents sink;
    before = h.drives;
    turns = turns;
    all_sent = all_sent;
    last = last;
    passed = passed_so passed h;
  }
    where
      passed_so : (p : Bool) (d : Drove p old mid first between begun sink)
          → HasPassed d.drives.said (contents sink) (record { old = contents begun; new = contents after }) (record { old = passed_on begun; new = passed_on after })
      passed_so false d = inl (d.flushed.0, subst (λ s. KeepsPassed (record { old = passed_on s; new = passed_on after })) d.flushed.1 keeps)
      passed_so true d = inr (λ some known. passed_since (contents sink) (passed_on sink) (passed_on after) (d.flushed.1 some known)
          (known_now true old mid first between begun sink d some known) keeps)

  -- if the sink fails in a turn that speaks, all bytes of the earlier turns were flushed
  pub fails_in_turn : (passed : Bool) (old mid new : Connection C A) (first between : Option Bytes) (begun sink after : D)
      → Drove passed old mid first between begun sink → turn mid.conversation ≡ Speaks → pending_of mid ≡ []
      → Said (Err Io) mid new sink after
      → KeepsPassed (record { old = passed_on sink; new = passed_on after })
      → FailsInTurn {A = A} turn holds old new (record { old = first; new = between })
      (record { old = contents begun; new = contents after }) (record { old = passed_on begun; new = passed_on after })
  fails_in_turn passed old mid new first between begun sink after h speaks all_sent k keeps = record {
    more = h.drives.more;
    earlier = h.drives.said;
    last = k.sends.said;
    received = h.drives.received;
    sent = Appends-trans (contents begun) (contents sink) (contents after) h.drives.said k.sends.said h.drives.sent k.sends.sent;
    talks = λ heard said x start.
        let m = h.drives.goes.talks heard said x in
        let n = k.sends.goes.talks (heard ++ h.drives.more) (said ++ h.drives.said) m.0 in
        subst (λ (r : Bytes). (z : Holds {A = A} holds new r (said ++ (h.drives.said ++ k.sends.said))) × (canonical_all z.talk.earlier ≡ said ++ h.drives.said)) (append-nil (heard ++ h.drives.more))
        (subst (λ (s : Bytes). (z : Holds {A = A} holds new ((heard ++ h.drives.more) ++ []) s) × (canonical_all z.talk.earlier ≡ said ++ h.drives.said)) (append_assoc said h.drives.said k.sends.said)
        (n.0, ap (λ (t : Talk). canonical_all t.earlier) n.1.1 ∙ ap canonical_all (m.1 start speaks) ∙ m.0.said ∙ ap (λ (p : Bytes). (said ++ h.drives.said) ++ p) all_sent ∙ append-nil (said ++ h.drives.said)));
    clean = λ clean on. k.sends.partial ∙ h.drives.goes.clean clean (λ listens. cc (speaks, listens)) (sym k.sends.stopped ∙ on);
    passed = passed_so passed h;
    some = k.counts;
  }
    where
      passed_so : (p : Bool) (d : Drove p old mid first between begun sink)
          → ((d.drives.said ≡ []) × KeepsPassed (record { old = passed_on begun; new = passed_on after }))
          ⊎ ((0 < length d.drives.said) × PassesBytes d.drives.said (record { old = contents begun; new = contents after }) (record { old = passed_on begun; new = passed_on after }))
      passed_so false d = inl (d.flushed.0, subst (λ s. KeepsPassed (record { old = passed_on s; new = passed_on after })) d.flushed.1 keeps)
      passed_so true d = inr (
        d.flushed.0,
        λ was is known.
            let some : IsSome (contents begun) = subst IsSome (sym is) refl in
            all_known (contents begun) (contents sink) (passed_on after) (passed_on sink) d.drives.said d.drives.sent (d.flushed.1 some known)
            (known_now true old mid first between begun sink d some known) keeps was is,
      )

  pub fails_by : (fault : TalkFault) (passed : Bool) (old mid new : Connection C A) (first between : Option Bytes) (begun sink after : D)
      → Drove passed old mid first between begun sink → turn mid.conversation ≡ Speaks → pending_of mid ≡ []
      → Said (Err fault) mid new sink after
      → KeepsPassed (record { old = passed_on sink; new = passed_on after })
      → FailsBy {A = A} turn holds fault old new (record { old = first; new = between })
      (record { old = contents begun; new = contents after }) (record { old = passed_on begun; new = passed_on after })
  fails_by Io passed old mid new first between begun sink after h speaks all_sent k keeps = fails_in_turn passed old mid new first between begun sink after h speaks all_sent k keeps
  fails_by Memory passed old mid new first between begun sink after h speaks all_sent k keeps = tt

  pub said_as : (result other : Result Bool TalkFault) (old new : Connection C A) (begun after : D) → result ≡ other → Said result old new begun after → Said other old new begun after
  said_as result other old new begun after same h = subst (λ (r : Result Bool TalkFault). Said r old new begun after) same h

  pub drove_as : (one other : Bool) (old mid : Connection C A) (first last : Option Bytes) (begun sink : D) → one ≡ other → Drove one old mid first last begun sink → Drove other old mid first last begun sink
  drove_as one other old mid first last begun sink same h = subst (λ (p : Bool). Drove p old mid first last begun sink) same h

  -- ---- the parts of a turn

  pub said_nothing : (c : Connection C A) (begun : D) → Said (Ok false) c c begun begun
  said_nothing c begun = record { sends = record { said = []; sent = Appends-nil (contents begun); goes = no_goes holds turn SaysOn c nothing_said; partial = refl; stopped = refl }; counts = (refl, refl) }

  pub said_more : (passed sent : Bool) (old mid new : Connection C A) (begun sink after : D) → Said (Ok passed) old mid begun sink → Said (Ok sent) mid new sink after
      → Said (Ok (if passed then true else sent)) old new begun after
  unfolding more_sent
  said_more passed sent old mid new begun sink after h k = record {
    sends = more_sent holds turn old mid new (contents begun) (contents sink) (contents after) h.sends k.sends;
    counts = more_counts passed sent h.sends.said k.sends.said (pending_of new) (pending_of mid) begun sink after h.counts k.counts;
  }

  pub said_fails : (passed : Bool) (fault : TalkFault) (old mid new : Connection C A) (begun sink after : D) → Said (Ok passed) old mid begun sink → Said (Err fault) mid new sink after
      → Said (Err fault) old new begun after
  unfolding more_sent
  said_fails passed fault old mid new begun sink after h k = record {
    sends = more_sent holds turn old mid new (contents begun) (contents sink) (contents after) h.sends k.sends;
    counts = fails_counts fault h.sends.said k.sends.said (pending_of new) begun sink after k.counts;
  }

  -- the end of a turn, after which the sink is flushed if bytes were sent
  pub said_finished : (passed : Bool) (result : Result Bool TalkFault) (old new : Connection C A) (begun sink after : D) → Said (Ok passed) old new begun sink
      → Keeps (contents sink) (contents after) → (passed ≡ false → after ≡ sink) → IfOk result (λ sent. sent ≡ passed) → OnErr result (passed ≡ true)
      → Said result old new begun after
  unfolding kept_sent
  said_finished passed result old new begun sink after h keeps untouched same some = record {
    sends = kept_sent holds turn old new (contents begun) (contents sink) (contents after) h.sends keeps;
    counts = finish_counts passed h.sends.said (pending_of new) begun sink after result h.counts untouched same some;
  }

  -- a call that queued packets, and then sent the pending bytes
  pub said_pending : (result : Result Bool TalkFault) (old mid new : Connection C A) (begun after : D) → Goes {A = A} turn holds SaysOn old mid [] [] → mid.incoming.bytes ≡ old.incoming.bytes → mid.stopped ≡ old.stopped
      → (k : SendsPending {A = A} turn holds mid new (record { old = contents begun; new = contents after }))
      → CountsSent result k.sends.said (pending_of new) (after ≡ begun)
      → Said result old new begun after
  unfolding more_sent
  said_pending result old mid new begun after goes partial stopped k counts = record {
    sends = more_sent holds turn old mid new (contents begun) (contents begun) (contents after)
        (record { said = []; sent = Appends-nil (contents begun); goes = goes; partial = partial; stopped = stopped }) k.sends;
    counts = counts;
  }

  pub counts_pending : (some : Bool) (old new : Connection C A) (begun after : D)
      → (k : SendsPending {A = A} turn holds old new (record { old = contents begun; new = contents after }))
      → (some ≡ false → pending_of old ≡ []) → (some ≡ true → 0 < length (pending_of old)) → pending_of new ≡ [] → (pending_of old ≡ [] → after ≡ begun)
      → CountsSent (Ok some) k.sends.said (pending_of new) (after ≡ begun)
  counts_pending true old new begun after k none long all untouched =
      subst (λ (b : Bytes). 0 < length b) (k.parts ∙ ap (λ (p : Bytes). k.sends.said ++ p) all ∙ append-nil k.sends.said) (long refl)
  counts_pending false old new begun after k none long all untouched =
      (sym (k.parts ∙ ap (λ (p : Bytes). k.sends.said ++ p) all ∙ append-nil k.sends.said) ∙ none refl, untouched (none refl))

pub on_err : {P Q : Type 0} (result : Result Unit TalkFault) → (P → Q) → OnErr result P → OnErr result Q
on_err (Ok done) f h = tt
on_err (Err fault) f h = f h
