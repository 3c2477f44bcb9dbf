-- Bytes that are written one after the other, and packets that are shown one after the other.
use Rattle.std.proofs.Common.{◌≡◌, ℕ, ◌+◌, ◌-◌, ◌<◌, List, [], ◌∷◌, ◌++◌, length, take, drop, Some, None, Ok, Err, Result, true, false, refl, sym, ap, ◌∙◌, inl, inr, subst, append_assoc, append-nil, take-append-drop, arith, codes}
use Rattle.std.specs.Prelude.{slice_index, ◌/◌, ◌%◌, ◌==◌}
use Rattle.std.proofs.lemmas.Bool.{false≢true}
use Rattle.std.proofs.lemmas.List.{length_push, take_rest}
use Rattle.std.proofs.KnownBytes.{Appends-nil, Appends-trans, Appends-kept, Keeps-refl, Keeps-trans}
use Rattle.std.specs.Io.KnownBytes.{Keeps}
use Rattle.hex.specs.Hex.{encode_with, encode_lower, lower_digits}
use Rattle.gpkt.specs.Change.{change_of}
use Rattle.gpkt.specs.Devices.{KeepsPassed, PassesAll}
use Rattle.gpkt.specs.Laws.{ReadsNone, ReadsNext}
use Rattle.gpkt.specs.Packets.{Packet}
use Rattle.gpkt.specs.PacketReading.{Reader, HasRead, ReadsPackets}
use Rattle.gpkt.specs.declared.device.Down.{Down}
use Rattle.gpkt.specs.declared.device.Sink.{Ghosts as SinkGhosts}
use Rattle.gpkt.specs.declared.device.Source.{Ghosts as SourceGhosts}
use Rattle.gpkt.specs.declared.fault.PacketFault.{PacketFault}
use Rattle.gcmd.specs.Lines.{digits_part, max_lines, shown_line, shown_lines}
use Rattle.gcmd.specs.steps.Lines.{ShowsEach, ShowsAndFlushes}
use Rattle.gpkt.specs.Streams.{OnBoth, SameSink, SameSource}
use Rattle.gcmd.specs.steps.Outputs.{Puts}
use Rattle.gpkt.proofs.Joins.{IsSome-kept}
use Rattle.gpkt.proofs.SendingLemmas.{keeps_on}
use Rattle.gcmd.proofs.ReadingLemmas.{read_failure}

-- ---- bytes

-- the digits of `xs ++ ys` are the digits of `xs`, followed by the digits of `ys`
pub encode_with-append : (table xs ys : List ℕ) → encode_with table (xs ++ ys) ≡ encode_with table xs ++ encode_with table ys
unfolding encode_with
encode_with-append table [] ys = refl
encode_with-append table (x ∷ xs) ys = ap (λ (rest : List ℕ). slice_index table (x / 16) ∷ slice_index table (x % 16) ∷ rest) (encode_with-append table xs ys)

encode_lower-nil : encode_lower [] ≡ []
unfolding encode_with
encode_lower-nil = refl

-- the digits of a payload that is not empty
pub digits_part-some : (payload : List ℕ) → (length payload == 0) ≡ false → digits_part payload ≡ codes " " ++ encode_lower payload
digits_part-some [] some = absurd (false≢true (sym some))
digits_part-some (byte ∷ bytes) some = refl

module _ {W : Type 0} (sink : SinkGhosts W) where
  -- writing no bytes leaves the sink unchanged
  pub Puts-nil : (a : W) → Puts sink a a (Ok tt) []
  Puts-nil a = ((Appends-nil (sink.contents a), Keeps-refl (sink.passed_on a)), refl)

  -- the bytes `xs` are written, and then all bytes of `ys`, or a prefix of `ys` if the sink fails
  pub Puts-after : (a b c : W) (xs ys : List ℕ) (result : Result (Unit {0}) Down)
      → Puts sink a b (Ok tt) xs → Puts sink b c result ys → Puts sink a c result (xs ++ ys)
  Puts-after a b c xs ys (Ok done) first next =
      ((Appends-trans _ _ _ xs ys first.0.0 next.0.0, Keeps-trans _ _ _ first.0.1 next.0.1), next.1 ∙ first.1)
  Puts-after a b c xs ys (Err fault) first next = (
    (
      record {
        front = xs ++ next.0.0.front;
        rest = next.0.0.rest;
        parts = ap (λ bytes. xs ++ bytes) next.0.0.parts ∙ sym (append_assoc xs next.0.0.front next.0.0.rest);
        written = Appends-trans _ _ _ xs next.0.0.front first.0.0 next.0.0.written;
        down = next.0.0.down;
      },
      Keeps-trans _ _ _ first.0.1 next.0.1,
    ),
    next.1 ∙ first.1,
  )

  -- if the sink failed after a prefix of `xs`, it failed after a prefix of `xs ++ ys`
  pub Puts-more : (a b : W) (xs ys : List ℕ) (fault : Down) → Puts sink a b (Err fault) xs → Puts sink a b (Err fault) (xs ++ ys)
  Puts-more a b xs ys fault some = (
    (
      record {
        front = some.0.0.front;
        rest = some.0.0.rest ++ ys;
        parts = ap (λ bytes. bytes ++ ys) some.0.0.parts ∙ append_assoc some.0.0.front some.0.0.rest ys;
        written = some.0.0.written;
        down = some.0.0.down;
      },
      some.0.1,
    ),
    some.1,
  )

  -- the digits of a prefix of `bytes` are written, and `rest` has the remaining bytes
  pub record IsPutting (start now : W) (bytes rest : List ℕ) : Type 0 where
    pub front : List ℕ
    pub parts : bytes ≡ front ++ rest
    pub put : Puts sink start now (Ok tt) (encode_lower front)

  pub IsPutting-none : (start : W) (bytes : List ℕ) → IsPutting start start bytes bytes
  IsPutting-none start bytes = record {
    front = [];
    parts = refl;
    put = subst (Puts sink start start (Ok tt)) (sym encode_lower-nil) (Puts-nil start);
  }

  pub IsPutting-next : (start now next : W) (bytes rest : List ℕ) (n : ℕ) → IsPutting start now bytes rest
      → Puts sink now next (Ok tt) (encode_lower (take n rest))
      → IsPutting start next bytes (take (length rest - n) (drop n rest))
  IsPutting-next start now next bytes rest n putting put =
      let joined = Puts-after start now next (encode_lower putting.front) (encode_lower (take n rest)) (Ok tt) putting.put put in
      let same = sym (encode_with-append lower_digits putting.front (take n rest)) in
      record {
        front = putting.front ++ take n rest;
        parts =
            putting.parts ∙ ap (λ l. putting.front ++ l) (sym (take-append-drop n rest)) ∙ sym (append_assoc putting.front (take n rest) (drop n rest))
            ∙ ap (λ l. (putting.front ++ take n rest) ++ l) (sym (take_rest rest n));
        put = subst (Puts sink start next (Ok tt)) same joined;
      }

  pub IsPutting-failed : (start now next : W) (bytes rest : List ℕ) (n : ℕ) (fault : Down) → IsPutting start now bytes rest
      → Puts sink now next (Err fault) (encode_lower (take n rest)) → Puts sink start next (Err fault) (encode_lower bytes)
  IsPutting-failed start now next bytes rest n fault putting put =
      let chunk = encode_lower (take n rest) in
      let more = Puts-more now next chunk (encode_lower (drop n rest)) fault put in
      let last = subst (Puts sink now next (Err fault)) (sym (encode_with-append lower_digits (take n rest) (drop n rest)) ∙ ap encode_lower (take-append-drop n rest)) more in
      let joined = Puts-after start now next (encode_lower putting.front) (encode_lower rest) (Err fault) putting.put last in
      let same = sym (encode_with-append lower_digits putting.front rest) ∙ ap encode_lower (sym putting.parts) in
      subst (Puts sink start next (Err fault)) same joined

  pub IsPutting-done : (start now : W) (bytes rest : List ℕ) → IsPutting start now bytes rest → rest ≡ []
      → Puts sink start now (Ok tt) (encode_lower bytes)
  IsPutting-done start now bytes rest putting none =
      let same : putting.front ≡ bytes = sym (putting.parts ∙ ap (λ l. putting.front ++ l) none ∙ append-nil putting.front) in
      subst (Puts sink start now (Ok tt)) (ap encode_lower same) putting.put

module _ {S W : Type 0} (source : SourceGhosts S) (sink : SinkGhosts W) where
  -- the effect of showing each packet
  abbrev pub Shows : (s t : S) (a b : W) → Result (Result (Unit {0}) PacketFault) Down → Type 0
  Shows s t a b result = OnBoth source s t sink a b (λ read written. ShowsEach read written result)

  -- the effect of showing each packet, with a flush
  abbrev pub Passes : (s t : S) (a b : W) → Result (Result (Unit {0}) PacketFault) Down → Type 0
  Passes s t a b result = OnBoth source s t sink a b (λ read written. ShowsAndFlushes read written result)

  module _ (s t : S) (a b c : W) where
    -- the packets are shown, and the flush succeeds
    pub Passes-all : (ended : Result (Unit {0}) PacketFault) → Shows s t a b (Ok ended)
        → Keeps (sink.contents b) (sink.contents c) → PassesAll (sink.contents c) (change_of sink.passed_on b c) → sink.is_down c ≡ false
        → SameSink sink b c → Passes s t a c (Ok ended)
    Passes-all ended ((lines, read, put), from, to) kept passes up same = (
      (
        lines,
        read,
        record { written = Appends-kept _ _ _ (shown_lines lines) put.0 kept; passed_on = λ known. passes (IsSome-kept _ _ put.1 known); up = up },
      ),
      from,
      same ∙ to,
    )

    -- the packets are shown, and the flush fails
    pub Passes-unflushed : (ended : Result (Unit {0}) PacketFault) (fault : Down) → Shows s t a b (Ok ended)
        → Keeps (sink.contents b) (sink.contents c) → KeepsPassed (change_of sink.passed_on b c) → sink.is_down c ≡ true
        → SameSink sink b c → Passes s t a c (Err fault)
    Passes-unflushed ended fault ((lines, read, put), from, to) kept passed down same = (
      (
        lines,
        inr (ended, read),
        inr (record {
          written = Appends-kept _ _ _ (shown_lines lines) put.0 kept;
          passed_on = keeps_on (sink.passed_on a) (sink.passed_on b) (sink.passed_on c) put.1 passed;
          down = down;
        }),
      ),
      from,
      same ∙ to,
    )

  -- a write fails while the packets are shown
  pub Passes-failed : (s t : S) (a b : W) (fault : Down) → Shows s t a b (Err fault) → Passes s t a b (Err fault)
  Passes-failed s t a b fault ((lines, read, put), from, to) = ((lines, read, inl put), from, to)

-- ---- packets

-- after one more packet is appended, its line follows the lines of the earlier packets
shown_lines-push : (lines : List Packet) (line : Packet) → shown_lines (lines ++ line ∷ []) ≡ shown_lines lines ++ shown_line line
shown_lines-push [] line = append-nil (shown_line line)
shown_lines-push (first ∷ lines) line =
    ap (λ bytes. shown_line first ++ bytes) (shown_lines-push lines line) ∙ sym (append_assoc (shown_line first) (shown_lines lines) (shown_line line))

module _ {S W : Type 0} (source : SourceGhosts S) (sink : SinkGhosts W) where
  -- `count` packets are read, and their lines are written
  pub record IsShowing (start now : Reader S) (before after : W) (count : ℕ) : Type 0 where
    pub lines : List Packet
    pub counted : count ≡ length lines
    pub ready : now.failed ≡ false
    pub up : 0 < count → source.is_down now.source ≡ false
    pub read : ReadsPackets (record { old = source.remaining start.source; new = source.remaining now.source }) lines
    pub same : SameSource source start.source now.source
    pub put : Puts sink before after (Ok tt) (shown_lines lines)

  pub IsShowing-none : ReadsNone → (start : Reader S) (writer : W) → start.failed ≡ false → IsShowing start start writer writer 0
  IsShowing-none none start writer ready = record {
    lines = [];
    counted = refl;
    ready = ready;
    up = λ some. absurd (omega (arith, some));
    read = none (source.remaining start.source);
    same = refl;
    put = Puts-nil sink writer;
  }

  module _ (start now next : Reader S) (before mid after : W) (count : ℕ) where
    put_next : (lines : List Packet) (packet : Packet) (result : Result (Unit {0}) Down)
        → Puts sink before mid (Ok tt) (shown_lines lines) → Puts sink mid after result (shown_line packet)
        → Puts sink before after result (shown_lines (lines ++ packet ∷ []))
    put_next lines packet result first put =
        subst (Puts sink before after result) (sym (shown_lines-push lines packet))
        (Puts-after sink before mid after (shown_lines lines) (shown_line packet) result first put)

    -- the next packet is shown
    pub IsShowing-next : ReadsNext → (packet : Packet) → IsShowing start now before mid count
        → HasRead source.remaining source.is_down source.loans now next (Ok (Some packet))
        → Puts sink mid after (Ok tt) (shown_line packet) → IsShowing start next before after (count + 1)
    IsShowing-next reads packet showing read put = record {
      lines = showing.lines ++ packet ∷ [];
      counted = ap (λ n. n + 1) showing.counted ∙ sym (length_push showing.lines packet);
      ready = read.after.1;
      up = λ some. read.after.2;
      read = reads _ _ _ showing.lines packet showing.read read.bytes;
      same = read.loans ∙ showing.same;
      put = put_next showing.lines packet (Ok tt) showing.put put;
    }

    -- the sink fails while the next packet is shown
    pub Shows-failed : ReadsNext → (packet : Packet) (fault : Down) → IsShowing start now before mid count
        → HasRead source.remaining source.is_down source.loans now next (Ok (Some packet))
        → Puts sink mid after (Err fault) (shown_line packet) → Shows source sink start.source next.source before after (Err fault)
    Shows-failed reads packet fault showing read put =
        let written = put_next showing.lines packet (Err fault) showing.put put in (
          (showing.lines ++ packet ∷ [], inl (reads _ _ _ showing.lines packet showing.read read.bytes), written.0),
          read.loans ∙ showing.same,
          written.1,
        )

  module _ (start now next : Reader S) (before after : W) (count : ℕ) where
    -- the input ends
    pub Shows-end : IsShowing start now before after count → HasRead source.remaining source.is_down source.loans now next (Ok None)
        → Shows source sink start.source next.source before after (Ok (Ok tt))
    Shows-end showing read = (
      (
        showing.lines,
        record { between = source.remaining now.source; before = showing.read; stops = inl read.bytes; source = read.after.2 },
        showing.put.0,
      ),
      read.loans ∙ showing.same,
      showing.put.1,
    )

    -- a packet is refused
    pub Shows-refused : (fault : PacketFault) → IsShowing start now before after count
        → HasRead source.remaining source.is_down source.loans now next (Err fault)
        → Shows source sink start.source next.source before after (Ok (Err fault))
    Shows-refused fault showing read = (
      (
        showing.lines,
        record {
          between = source.remaining now.source;
          before = showing.read;
          stops = read.bytes;
          source = read_failure source.remaining source.is_down source.loans now next fault showing.ready read;
        },
        showing.put.0,
      ),
      read.loans ∙ showing.same,
      showing.put.1,
    )

  -- reading stops at the maximum number of packets
  pub Shows-counted : (start now : Reader S) (before after : W) (count : ℕ) → IsShowing start now before after count → count ≡ max_lines
      → Shows source sink start.source now.source before after (Ok (Ok tt))
  Shows-counted start now before after count showing all = (
    (
      showing.lines,
      record {
        between = source.remaining now.source;
        before = showing.read;
        stops = inr (sym showing.counted ∙ all, refl);
        source = showing.up (omega (arith, all));
      },
      showing.put.0,
    ),
    showing.same,
    showing.put.1,
  )
