-- Facts about hellos: the parts of a payload, and the lists of packets that the judge accepts.
use Rattle.std.proofs.Common.{◌≡◌, ℕ, ◌+◌, ◌<◌, ◌≤◌, Bool, true, false, ◌&&◌, nat_eq, nat_le, ◌^◌, List, [], ◌∷◌, ◌++◌, length, take, drop, codes, position, Option, Some, None, Result, Ok, Err, refl, sym, ap, subst, ◌∙◌, append_assoc, arith}
use Rattle.std.specs.List.{All, list_all, slice_split, starts_with, join_with_byte, position_or_len}
use Rattle.std.specs.Prelude.{⊤}
use Rattle.std.specs.Str.{bytes_eq}
use Rattle.std.proofs.lemmas.List.Sums.{fails_before_first, AllPass-from_list_all}
use Rattle.std.proofs.lemmas.List.Splits.{slice_split_first, slice_split_none, slice_split_at, length-slice_split, join_with_byte-slice_split}
use Rattle.std.proofs.lemmas.List.{drop_at}
use Rattle.std.proofs.lemmas.List.Folds.{list_all-append}
use Rattle.std.proofs.lemmas.Bool.{and_parts, cond-true}
use Rattle.std.proofs.lemmas.Bool.Decides.{Decides-eqb, nat_tests}
use Rattle.std.proofs.lemmas.Slice.Eq.{bytes_eq-Decides, starts_is}
use Rattle.std.proofs.lemmas.Grind.{common_steps}
use Rattle.gpkt.specs.Packets.{Packet, Data}
use Rattle.ggrammar.specs.Grammar.{Judge, Open, Whole, IsOpen, IsWhole, HasEndings, NothingIsOpen}
use Rattle.ggrammar.specs.Capabilities.{is_graphic, is_printable}
use Rattle.ggrammar.specs.PeerErrors.{after_word}
use Rattle.ggrammar.proofs.TextLemmas.{follows_word, tested}
use Rattle.ghello.specs.Hello.{Hello, IsHello, Says, brings, judge, judge_payload, canonical_hello, hello_of, hello_of_parts, hello_payload, hello_with, is_hello, is_host, is_nul, is_path, max_host, max_path, nul}
use Rattle.ghello.specs.steps.HelloReading.{hello_in}
use Rattle.gpkt.specs.Change.{Change}
use Rattle.ggrammar.specs.Kinds.{ReadsOrRefuses, SaysWhole, OneMeaning}
use Rattle.ggrammar.specs.MessageReading.{TakesAs, TakesPacket, HasTaken, HasRefused}
use Rattle.ggrammar.specs.declared.fault.Why.{Why}
use Rattle.ggrammar.specs.declared.fault.MessageFault.{MessageFault}
use Rattle.ggrammar.specs.declared.message.Step.{Step}
use Rattle.ggrammar.specs.declared.message.Step.TheVariants as step

-- ---- forms

shorter : (n most : ℕ) → nat_le n most ≡ true → n ≤ most
shorter n most h = grind (arith, nat_tests)

pub path_within : (hello : Hello) → IsHello hello → length hello.path ≤ max_path
unfolding is_path
path_within hello form = shorter _ _ (and_parts _ _ (and_parts _ _ form.path).0).1

pub host_within : (hello : Hello) → IsHello hello → length hello.host ≤ max_host
unfolding is_host
host_within hello form = shorter _ _ (and_parts _ _ (and_parts _ _ form.host).0).1

-- ---- cutting at NULs

pub cut_there : (text : List ℕ) (at : ℕ) → position is_nul text ≡ Some at → slice_split is_nul text ≡ take at text ∷ slice_split is_nul (drop (at + 1) text)
cut_there text at e =
    let same : position_or_len is_nul text ≡ at = grind (arith, common_steps) in
    let inside : position_or_len is_nul text < length text = grind (arith, common_steps) in
    subst (λ (n : ℕ). slice_split is_nul text ≡ take n text ∷ slice_split is_nul (drop (n + 1) text)) same (slice_split_first is_nul text 0 inside)

pub cut_nowhere : (text : List ℕ) → position is_nul text ≡ None → slice_split is_nul text ≡ text ∷ []
cut_nowhere text e =
    let past : length text ≤ position_or_len is_nul text = grind (arith, common_steps) in
    slice_split_none is_nul text (λ k d within. fails_before_first is_nul text k d (omega arith))

-- ---- the hello that the parts of a payload encode

with_says : (path host : Option (List ℕ)) (hello : Hello) → hello_with path host ≡ Some hello → (path ≡ Some hello.path) × (host ≡ Some hello.host) × IsHello hello
with_says None host hello e = absurd cc
with_says (Some path) None hello e = absurd cc
with_says (Some path) (Some host) hello e =
    let h = tested (is_path path && is_host host) (Some (record { path = path; host = host })) hello e in
    let same : record { path = path; host = host } ≡ hello = cc in
    let forms = and_parts (is_path path) (is_host host) h.0 in
    (ap (λ (x : Hello). Some x.path) same, ap (λ (x : Hello). Some x.host) same, subst IsHello same (record { path = forms.0; host = forms.1 }))

-- a payload as one sequence of parts and NULs: each NUL written as the list `nul`, or as the element 0
pub joined : (command host_word host version end : List ℕ)
    → command ++ nul ++ host_word ++ host ++ nul ++ nul ++ version ++ end ≡ command ++ 0 ∷ (host_word ++ host ++ 0 ∷ 0 ∷ (version ++ end))
joined command host_word host version end = simp append_assoc

pub parts_say : (parts : List (List ℕ)) (hello : Hello) → hello_of_parts parts ≡ Some hello → IsHello hello × (join_with_byte 0 parts ≡ hello_payload hello)
parts_say (command ∷ host ∷ [] ∷ version ∷ [] ∷ []) hello e =
    let h = tested (bytes_eq version (codes "version=2")) (hello_with (after_word (codes "git-upload-pack ") command) (after_word (codes "host=") host)) hello e in
    let says = with_says (after_word (codes "git-upload-pack ") command) (after_word (codes "host=") host) hello h.1 in
    let same_version : version ≡ codes "version=2" = (bytes_eq-Decides version (codes "version=2")).0 h.0 in
    let same_command : command ≡ codes "git-upload-pack " ++ hello.path = follows_word (codes "git-upload-pack ") command hello.path says.0 in
    let same_host : host ≡ codes "host=" ++ hello.host = follows_word (codes "host=") host hello.host says.1 in (
      says.2,
      rw (same_command, same_host, same_version) (sym (joined (codes "git-upload-pack " ++ hello.path) (codes "host=") hello.host (codes "version=2") (0 ∷ []))),
    )
parts_say parts hello e = absurd cc

-- a payload that is parsed as a hello is the payload that is written for this hello
pub hello_is_said : (payload : List ℕ) (hello : Hello) → hello_of payload ≡ Some hello → Says (Data payload ∷ []) hello
unfolding hello_of canonical_hello
hello_is_said payload hello e =
    let h = parts_say (slice_split is_nul payload) hello e in
    let same : payload ≡ hello_payload hello = sym (join_with_byte-slice_split 0 payload) ∙ h.1 in
    record { form = h.0; line = ap (λ (xs : List ℕ). Data xs ∷ []) same }

-- more than five parts encode no hello
hello_of_rest : (command host nothing version end : List ℕ) (parts : List (List ℕ)) → 0 < length parts
    → hello_of_parts (command ∷ host ∷ nothing ∷ version ∷ end ∷ parts) ≡ None
hello_of_rest command host [] version [] [] some = absurd (omega (arith, some))
hello_of_rest command host nothing version end parts some = refl

pub too_many_parts : (payload command after_command host after_host nothing after_nothing version after_version end after_end : List ℕ)
    → slice_split is_nul payload ≡ command ∷ slice_split is_nul after_command → slice_split is_nul after_command ≡ host ∷ slice_split is_nul after_host
    → slice_split is_nul after_host ≡ nothing ∷ slice_split is_nul after_nothing → slice_split is_nul after_nothing ≡ version ∷ slice_split is_nul after_version
    → slice_split is_nul after_version ≡ end ∷ slice_split is_nul after_end → None ≡ hello_of payload
unfolding hello_of
too_many_parts payload command after_command host after_host nothing after_nothing version after_version end after_end a b c d e =
    let some : 0 < length (slice_split is_nul after_end) = omega (arith, length-slice_split is_nul after_end) in
    sym (ap hello_of_parts (a ∙ ap (λ (xs : List (List ℕ)). command ∷ xs) (b ∙ ap (λ (xs : List (List ℕ)). host ∷ xs) (c ∙ ap (λ (xs : List (List ℕ)). nothing ∷ xs) (d ∙ ap (λ (xs : List (List ℕ)). version ∷ xs) e))))
    ∙ hello_of_rest command host nothing version end (slice_split is_nul after_end) some)

-- ---- parsing the payload of a hello

printable_not_nul : (byte : ℕ) → is_printable byte ≡ true → is_nul byte ≡ false
printable_not_nul byte h = grind (arith, nat_tests, common_steps)

graphic_not_nul : (byte : ℕ) → is_graphic byte ≡ true → is_nul byte ≡ false
graphic_not_nul byte h = grind (arith, nat_tests, common_steps)

no_nul : (test : ℕ → Bool) (bytes : List ℕ) → ((byte : ℕ) → test byte ≡ true → is_nul byte ≡ false) → list_all test bytes ≡ true → All (λ byte. is_nul byte ≡ false) bytes
no_nul test bytes other h = λ k d within. other _ (AllPass-from_list_all test bytes h k d within)

path_bytes : (path : List ℕ) → is_path path ≡ true → list_all is_printable path ≡ true
unfolding is_path
path_bytes path h = (and_parts _ _ h).1

host_bytes : (host : List ℕ) → is_host host ≡ true → list_all is_graphic host ≡ true
unfolding is_host
host_bytes host h = (and_parts _ _ h).1

-- the parts of the payload of a hello
pub parts_of_line : (hello : Hello) → IsHello hello
    → slice_split is_nul (hello_payload hello) ≡ (codes "git-upload-pack " ++ hello.path) ∷ (codes "host=" ++ hello.host) ∷ [] ∷ codes "version=2" ∷ [] ∷ []
parts_of_line hello form =
    let command = codes "git-upload-pack " ++ hello.path in
    let host = codes "host=" ++ hello.host in
    let command_clean : All (λ byte. is_nul byte ≡ false) command = no_nul is_printable command printable_not_nul
    (list_all-append is_printable (codes "git-upload-pack ") hello.path ∙ path_bytes hello.path form.path) in
    let host_clean : All (λ byte. is_nul byte ≡ false) host = no_nul is_graphic host graphic_not_nul
    (list_all-append is_graphic (codes "host=") hello.host ∙ host_bytes hello.host form.host) in
    ap (slice_split is_nul) (joined command (codes "host=") hello.host (codes "version=2") (0 ∷ []))
    ∙ (slice_split_at is_nul command 0 (host ++ 0 ∷ 0 ∷ (codes "version=2" ++ 0 ∷ [])) command_clean refl
    ∙ ap (λ (parts : List (List ℕ)). command ∷ parts) (slice_split_at is_nul host 0 (0 ∷ (codes "version=2" ++ 0 ∷ [])) host_clean refl))

word_follows : (word rest : List ℕ) → after_word word (word ++ rest) ≡ Some rest
unfolding after_word
word_follows word rest =
    cond-true (starts_with nat_eq (word ++ rest) word) (Some (drop (length word) (word ++ rest))) None ((starts_is Decides-eqb (word ++ rest) word (starts_with nat_eq (word ++ rest) word) refl).1 rest refl)
    ∙ ap (λ (xs : List ℕ). Some xs) (drop_at word rest (length word) refl)

line_is_said : (hello : Hello) → IsHello hello → hello_of (hello_payload hello) ≡ Some hello
unfolding hello_of
line_is_said hello form =
    let forms : is_hello hello ≡ true = rw form.path form.host in
    ap hello_of_parts (parts_of_line hello form)
    ∙ (ap (λ (path : Option (List ℕ)). hello_with path (after_word (codes "host=") (codes "host=" ++ hello.host))) (word_follows (codes "git-upload-pack ") hello.path)
    ∙ (ap (λ (host : Option (List ℕ)). hello_with (Some hello.path) host) (word_follows (codes "host=") hello.host)
    ∙ cond-true (is_hello hello) (Some hello) None forms))

-- the payload of a hello is parsed as this hello
pub said_is_hello : (payload : List ℕ) (hello : Hello) → Says (Data payload ∷ []) hello → hello_of payload ≡ Some hello
unfolding canonical_hello
said_is_hello payload hello says =
    let same : payload ≡ hello_payload hello = (let line = says.line in cc) in
    ap hello_of same ∙ line_is_said hello says.form

-- a list of packets encodes at most one hello
pub one_hello : OneMeaning Says
unfolding canonical_hello
one_hello packets said other says also =
    let same : hello_payload other ≡ hello_payload said = (let line = sym also.line ∙ says.line in cc) in
    let both : Some said ≡ Some other = sym (line_is_said said says.form) ∙ (ap hello_of (sym same) ∙ line_is_said other also.form) in
    cc

-- ---- the lists of packets that the judge accepts

payload_never_open : (said : Option Hello) → judge_payload said ≡ Open → ⊥
payload_never_open None e = cc
payload_never_open (Some hello) e = cc

whole_payload : (said : Option Hello) → judge_payload said ≡ Whole → (hello : Hello) × (said ≡ Some hello)
whole_payload None e = absurd cc
whole_payload (Some hello) e = (hello, refl)

-- the verdict on a packet of a hello is never `Open`
pub never_open : (packets : List Packet) (packet : Packet) → judge packets packet ≡ Open → ⊥
never_open packets (Data payload) e = payload_never_open (hello_of payload) e
never_open packets _ e = cc

pub open_is_empty : (packets : List Packet) → IsOpen judge packets → packets ≡ []
open_is_empty [] opened = refl
open_is_empty (packet ∷ packets) opened = absurd (never_open [] packet (opened.each [] packet packets refl))

pub open_is_short : (packets : List Packet) → IsOpen judge packets → length packets < 2 ^ 60
open_is_short packets opened = rw (open_is_empty packets opened) (omega arith)

-- a packet that completes a hello encodes a hello
pub whole_packet : (packets : List Packet) (packet : Packet) → judge packets packet ≡ Whole → (hello : Hello) × (hello_in (packet ∷ []) ≡ Some hello)
whole_packet packets (Data payload) e = whole_payload (hello_of payload) e
whole_packet packets _ e = absurd cc

pub whole_list : (packets : List Packet) → IsWhole judge packets → (hello : Hello) × (hello_in packets ≡ Some hello)
whole_list packets whole =
    let same : packets ≡ whole.last ∷ [] = whole.parts ∙ ap (λ (front : List Packet). front ++ whole.last ∷ []) (open_is_empty whole.front whole.goes) in
    let h = whole_packet whole.front whole.last whole.ends in
    (h.0, ap hello_in same ∙ h.1)

-- packets that are parsed as a hello encode this hello
pub packet_says : (packets : List Packet) (hello : Hello) → hello_in packets ≡ Some hello → Says packets hello
packet_says (Data payload ∷ []) hello e = hello_is_said payload hello e
packet_says packets hello e = absurd cc

-- a list of packets that encodes a hello is complete
pub said_is_whole : NothingIsOpen judge → (packets : List Packet) (hello : Hello) → Says packets hello → IsWhole judge packets
unfolding canonical_hello
said_is_whole nothing packets hello says = record {
  front = [];
  last = Data (hello_payload hello);
  parts = says.line;
  goes = nothing;
  ends = ap judge_payload (line_is_said hello says.form);
}

pub hello_says_whole : NothingIsOpen judge → SaysWhole judge Says
hello_says_whole nothing packets = (
  (λ whole. let h = whole_list packets whole in (h.0, packet_says packets h.0 h.1)),
  (λ h. said_is_whole nothing packets h.0 h.1),
)

-- ---- completing a hello

sample : Hello
sample = record { path = codes "/"; host = codes "h" }

sample_form : IsHello sample
unfolding is_path is_host sample
sample_form = record { path = refl; host = refl }

pub hello_has_endings : NothingIsOpen judge → HasEndings judge
hello_has_endings nothing packets opened = (
  canonical_hello sample,
  subst (λ (front : List Packet). IsWhole judge (front ++ canonical_hello sample)) (sym (open_is_empty packets opened))
      (said_is_whole nothing (canonical_hello sample) sample (record { form = sample_form; line = refl })),
)

-- ---- reading

-- `TakesAs` for the verdict of the judge implies `TakesPacket`, if `left` is true for the packets before this one
TakesPacket-by_verdict : {M : Type 0} (judge : Judge) (brings : List Packet → Packet → Bool) (holds left : M → List Packet → Type 0)
    (front : List Packet) (packet : Packet) (new : M) (result : Result Step Why) → left new front
    → TakesAs (judge front packet) (brings front packet) (holds new (front ++ packet ∷ [])) result
    → TakesPacket judge brings holds left front packet new result
TakesPacket-by_verdict judge brings holds left front packet new (Ok step.Open) leaves h = h
TakesPacket-by_verdict judge brings holds left front packet new (Ok step.Whole) leaves h = h
TakesPacket-by_verdict judge brings holds left front packet new (Err why) leaves h = (h, leaves)

pub hello_takes : {M : Type 0} (kept : M → Option Hello) (front : List Packet) (packet : Packet) (new : M) (result : Result Step Why)
    → IsOpen judge front → TakesAs (judge [] packet) (brings [] packet) (kept new ≡ hello_in (packet ∷ [])) result
    → TakesPacket judge brings (λ reader packets. kept reader ≡ hello_in packets) (λ reader packets. ⊤) front packet new result
hello_takes kept front packet new result opened h =
    subst (λ (lines : List Packet). TakesPacket judge brings (λ reader packets. kept reader ≡ hello_in packets) (λ reader packets. ⊤) lines packet new result) (sym (open_is_empty front opened))
    (TakesPacket-by_verdict judge brings (λ reader packets. kept reader ≡ hello_in packets) (λ reader packets. ⊤) [] packet new result tt h)

module _ {M : Type 0} (kept : M → Option Hello) (left : M → List Packet → Type 0) (bytes : Change) (message : M) where
  pub hello_is_read : (hello : Hello) → HasTaken judge brings (λ reader packets. kept reader ≡ hello_in packets) left bytes message
      → kept message ≡ Some hello → ReadsOrRefuses judge brings Says bytes (Ok hello)
  hello_is_read hello taken e = record { lines = taken.lines; read = taken.read; says = packet_says taken.lines hello (sym taken.held ∙ e) }

  pub some_is_read : {P : Type 0} → HasTaken judge brings (λ reader packets. kept reader ≡ hello_in packets) left bytes message
      → kept message ≡ None → P
  some_is_read taken e =
      let h = whole_list taken.lines taken.read.whole in
      let no : None ≡ Some h.0 = sym e ∙ (taken.held ∙ h.1) in absurd cc

  pub refused_at_once : (fault : MessageFault) → HasRefused judge brings (λ reader packets. kept reader ≡ hello_in packets) left bytes message fault
      → fault.frame ≡ 0
  refused_at_once fault refused = refused.refused.frame ∙ ap (λ (lines : List Packet). length lines) (open_is_empty refused.front refused.refused.goes)
