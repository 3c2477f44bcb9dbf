-- The form of an open list of an advertisement's packets, and how the list can be completed. The judge of
-- advertisements and the manual accept the same complete lists of packets.
use Rattle.std.proofs.Common.{◌≡◌, ℕ, ◌<◌, ◌≤◌, ◌^◌, ◌⊎◌, inl, inr, Bool, true, false, if◌then◌else◌, ◌==◌, nat_lt}
use Rattle.std.proofs.Common.{List, [], ◌∷◌, ◌++◌, map, length, Option, Some, None, refl, sym, ap, subst, ◌∙◌}
use Rattle.std.proofs.Common.{append-nil, append_assoc, arith, suc, ◌+◌, ◌&&◌, codes, take, drop, get_or, position}
use Rattle.std.specs.List.{filter_map, list_all}
use Rattle.std.specs.Str.{bytes_eq}
use Rattle.std.proofs.lemmas.List.{length_push, length-map, map_push, length-append}
use Rattle.std.proofs.lemmas.Bool.Decides.{nat_tests}
use Rattle.std.proofs.lemmas.Slice.Eq.{bytes_eq-Decides}
use Rattle.gpkt.specs.Packets.{Packet, Data, Flush, text, Delim, ResponseEnd}
use Rattle.ggrammar.specs.Grammar.{Verdict, Open, Whole, Refused, IsOpen, IsWhole, Begins, HasEndings, LawsOf}
use Rattle.ggrammar.specs.Texts.{texts_of, TextsOfMore}
use Rattle.ggrammar.specs.PeerErrors.{after_word, peer_error, unless_error}
use Rattle.ggrammar.specs.Capabilities.{Capability, capability_of, capability_split, has_length, is_equals_sign, is_key}
use Rattle.ggrammar.specs.Capabilities.{is_key_byte, is_value}
use Rattle.ggrammar.specs.declared.fault.Why.TheVariants as why
use Rattle.ggrammar.proofs.TextLemmas.{texts_of-data, follows_word}
use Rattle.ggrammar.proofs.VerdictLemmas.{open_unless, room_left, room_goes_on, room_not_whole, whole_unless}
use Rattle.ghello.specs.Adverts.{capabilities_in, capabilities_of, judge, judge_at, judge_capability, judge_text}
use Rattle.ghello.specs.Adverts.{judge_version, max_advertised, version, IsAdvert, Says}
use Rattle.std.proofs.lemmas.List.Quantifiers.{position-Some}
use Rattle.std.proofs.lemmas.Bool.{and_parts, cond-true, lt-ltb}
use Rattle.gpkt.specs.Laws.{TextOrLine}
use Rattle.ggrammar.specs.Kinds.{AsInManual}

-- ---- the form of an open list after the version line

pub record HasBegun (front : List Packet) (capabilities : List Capability) : Type 0 where
  pub first : List ℕ
  pub payloads : List (List ℕ)
  pub parts : front ≡ Data first ∷ map Data payloads
  pub is_version : text first ≡ version
  pub each : map (λ payload. capability_of (text payload)) payloads ≡ map (λ capability. Some capability) capabilities
  pub few : length capabilities ≤ max_advertised

abbrev pub Shape : List Packet → Type 0
Shape front = (front ≡ []) ⊎ ((capabilities : List Capability) × HasBegun front capabilities)

listed : (payloads : List (List ℕ)) (capabilities : List Capability) → map (λ payload. capability_of (text payload)) payloads ≡ map (λ capability. Some capability) capabilities
    → filter_map capability_of (map text payloads) ≡ capabilities
listed [] [] e = refl
listed [] (capability ∷ capabilities) e = absurd cc
listed (payload ∷ payloads) [] e = absurd cc
listed (payload ∷ payloads) (capability ∷ capabilities) e =
    let first : capability_of (text payload) ≡ Some capability = cc in
    let rest : map (λ line. capability_of (text line)) payloads ≡ map (λ other. Some other) capabilities = cc in
    rw first (ap (λ (xs : List Capability). capability ∷ xs) (listed payloads capabilities rest))

-- the texts and the capabilities of an open list after the version line
pub begun_texts : (front : List Packet) (capabilities : List Capability) (h : HasBegun front capabilities) → texts_of front ≡ text h.first ∷ map text h.payloads
begun_texts front capabilities h = ap texts_of h.parts ∙ ap (λ (xs : List (List ℕ)). text h.first ∷ xs) (texts_of-data h.payloads)

pub begun_capabilities : (front : List Packet) (capabilities : List Capability) → HasBegun front capabilities → capabilities_of front ≡ capabilities
begun_capabilities front capabilities h = ap capabilities_in (begun_texts front capabilities h) ∙ listed h.payloads capabilities h.each

not_first : {X Y : Type 0} (x : X) (xs : List X) (a b : Y) → (if length (x ∷ xs) == 0 then a else b) ≡ b
not_first x xs a b = let other : (length (x ∷ xs) == 0) ≡ false = grind (arith, nat_tests) in rw other refl

-- the verdict on a data packet after the version line
pub begun_judge : (front : List Packet) (capabilities : List Capability) (payload : List ℕ) → HasBegun front capabilities
    → judge front (Data payload) ≡ unless_error (peer_error payload) (judge_capability (length capabilities) (capability_of (text payload)))
unfolding judge_at
begun_judge front capabilities payload h =
    ap (λ (xs : List (List ℕ)). unless_error (peer_error payload) (judge_text (length xs) (length (capabilities_of front)) (text payload))) (begun_texts front capabilities h)
    ∙ (ap (λ (v : Verdict). unless_error (peer_error payload) v) (not_first (text h.first) (map text h.payloads) (judge_version (text payload)) (judge_capability (length (capabilities_of front)) (capability_of (text payload))))
    ∙ ap (λ (xs : List Capability). unless_error (peer_error payload) (judge_capability (length xs) (capability_of (text payload)))) (begun_capabilities front capabilities h))

pub begun_flush : (front : List Packet) (capabilities : List Capability) → HasBegun front capabilities → judge front Flush ≡ Whole
unfolding judge_at
begun_flush front capabilities h =
    ap (λ (xs : List (List ℕ)). if length xs == 0 then Refused why.UnexpectedFrame else Whole) (begun_texts front capabilities h)
    ∙ not_first (text h.first) (map text h.payloads) (Refused why.UnexpectedFrame) Whole

open_version : (b : Bool) → (if b then Open else Refused why.BadText) ≡ Open → b ≡ true
open_version true e = refl
open_version false e = absurd cc

open_capability : (count : ℕ) (found : Option Capability) → judge_capability count found ≡ Open → (capability : Capability) × (found ≡ Some capability) × (count < max_advertised)
open_capability count None e = absurd cc
open_capability count (Some capability) e =
    let room : nat_lt count max_advertised ≡ true = room_left (nat_lt count max_advertised) e in (capability, refl, grind (arith, nat_tests))

pub HasBegun-first : (payload : List ℕ) → text payload ≡ version → HasBegun (Data payload ∷ []) []
HasBegun-first payload e = record { first = payload; payloads = []; parts = refl; is_version = e; each = refl; few = omega arith }

pub HasBegun-push : (front : List Packet) (capabilities : List Capability) (payload : List ℕ) (capability : Capability) → HasBegun front capabilities → capability_of (text payload) ≡ Some capability
    → length capabilities < max_advertised → HasBegun (front ++ Data payload ∷ []) (capabilities ++ capability ∷ [])
HasBegun-push front capabilities payload capability h is room = record {
  first = h.first;
  payloads = h.payloads ++ payload ∷ [];
  parts = ap (λ (xs : List Packet). xs ++ Data payload ∷ []) h.parts ∙ ap (λ (xs : List Packet). Data h.first ∷ xs) (sym (map_push Data h.payloads payload));
  is_version = h.is_version;
  each = map_push (λ line. capability_of (text line)) h.payloads payload
      ∙ (ap (λ (xs : List (Option Capability)). xs ++ capability_of (text payload) ∷ []) h.each
      ∙ (ap (λ (o : Option Capability). map (λ other. Some other) capabilities ++ o ∷ []) is ∙ sym (map_push (λ other. Some other) capabilities capability)));
  few = rw (length_push capabilities capability) (omega (arith, room));
}

shape_step : (front : List Packet) (packet : Packet) → Shape front → judge front packet ≡ Open → Shape (front ++ packet ∷ [])
unfolding judge_at
shape_step front Flush (inl e) goes = absurd (let first : judge [] Flush ≡ Open = subst (λ (xs : List Packet). judge xs Flush ≡ Open) e goes in cc)
shape_step front Flush (inr h) goes = absurd (let whole = begun_flush front h.0 h.1 in cc)
shape_step front (Data payload) (inl e) goes =
    let first : judge [] (Data payload) ≡ Open = subst (λ (xs : List Packet). judge xs (Data payload) ≡ Open) e goes in
    let is : text payload ≡ version = (bytes_eq-Decides (text payload) version).0 (open_version (bytes_eq (text payload) version) (open_unless (peer_error payload) (judge_version (text payload)) first)) in
    inr ([], subst (λ (xs : List Packet). HasBegun (xs ++ Data payload ∷ []) []) (sym e) (HasBegun-first payload is))
shape_step front (Data payload) (inr h) goes =
    let found = open_capability (length h.0) (capability_of (text payload))
    (open_unless (peer_error payload) (judge_capability (length h.0) (capability_of (text payload))) (sym (begun_judge front h.0 payload h.1) ∙ goes)) in
    inr (h.0 ++ found.0 ∷ [], HasBegun-push front h.0 payload found.0 h.1 found.1 found.2)
shape_step front packet shape goes = absurd cc

shape_more : (front more : List Packet) → IsOpen judge (front ++ more) → Shape front → Shape (front ++ more)
shape_more front [] opened shape = subst Shape (sym (append-nil front)) shape
shape_more front (packet ∷ more) opened shape =
    let same : (front ++ packet ∷ []) ++ more ≡ front ++ packet ∷ more = append_assoc front (packet ∷ []) more in
    subst Shape same (shape_more (front ++ packet ∷ []) more (subst (IsOpen judge) (sym same) opened) (shape_step front packet shape (opened.each front packet more refl)))

pub open_shape : (front : List Packet) → IsOpen judge front → Shape front
open_shape front opened = shape_more [] front opened (inl refl)

count_of : (payloads : List (List ℕ)) (capabilities : List Capability) → map (λ payload. capability_of (text payload)) payloads ≡ map (λ capability. Some capability) capabilities → length payloads ≡ length capabilities
count_of payloads capabilities e =
    sym (length-map payloads (λ payload. capability_of (text payload))) ∙ (ap (λ (xs : List (Option Capability)). length xs) e ∙ length-map capabilities (λ capability. Some capability))

short : (front : List Packet) → Shape front → length front < 2 ^ 60
short front (inl e) = rw e (omega arith)
short front (inr h) =
    let begun = h.1 in
    let count : length begun.payloads ≡ length h.0 = count_of begun.payloads h.0 begun.each in
    let all : length front ≡ length (Data begun.first ∷ map Data begun.payloads) = ap (λ (xs : List Packet). length xs) begun.parts in
    let rest : length (map Data begun.payloads) ≡ length begun.payloads = length-map begun.payloads Data in
    let few : length h.0 ≤ max_advertised = begun.few in
    grind (arith, all, rest, count, few)

pub open_is_short : (front : List Packet) → IsOpen judge front → length front < 2 ^ 60
open_is_short front opened = short front (open_shape front opened)

-- ---- endings

bare_version_goes : judge [] (Data version) ≡ Open
unfolding judge_at after_word
bare_version_goes = refl

ending : LawsOf judge → (front : List Packet) → IsOpen judge front → Shape front → Begins judge front
ending laws front opened (inl e) = (
  Data version ∷ Flush ∷ [],
  subst (λ (xs : List Packet). IsWhole judge (xs ++ Data version ∷ Flush ∷ [])) (sym e) (record {
    front = Data version ∷ [];
    last = Flush;
    parts = refl;
    goes = laws.goes_on [] (Data version) laws.nothing bare_version_goes;
    ends = begun_flush (Data version ∷ []) [] (HasBegun-first version refl);
  }),
)
ending laws front opened (inr h) = (Flush ∷ [], record { front = front; last = Flush; parts = refl; goes = opened; ends = begun_flush front h.0 h.1 })

pub advert_has_endings : LawsOf judge → HasEndings judge
advert_has_endings laws front opened = ending laws front opened (open_shape front opened)

-- ---- the judge and the manual

-- ---- from the judge to the manual

no_whole_version : (b : Bool) → (if b then Open else Refused why.BadText) ≡ Whole → ⊥
no_whole_version true e = cc
no_whole_version false e = cc

no_whole_capability : (count : ℕ) (found : Option Capability) → judge_capability count found ≡ Whole → ⊥
no_whole_capability count None e = cc
no_whole_capability count (Some capability) e = room_not_whole _ e

flush_ends : (front : List Packet) (last : Packet) → Shape front → judge front last ≡ Whole → (last ≡ Flush) × ((capabilities : List Capability) × HasBegun front capabilities)
unfolding judge_at
flush_ends front Delim shape e = absurd cc
flush_ends front ResponseEnd shape e = absurd cc
flush_ends front Flush (inr h) e = (refl, h)
flush_ends front Flush (inl empty) e = absurd (let first : judge [] Flush ≡ Whole = subst (λ (xs : List Packet). judge xs Flush ≡ Whole) empty e in cc)
flush_ends front (Data payload) (inl empty) e =
    absurd (no_whole_version (bytes_eq (text payload) version) (whole_unless (peer_error payload) (judge_version (text payload)) (subst (λ (xs : List Packet). judge xs (Data payload) ≡ Whole) empty e)))
flush_ends front (Data payload) (inr h) e =
    absurd (no_whole_capability (length h.0) (capability_of (text payload)) (whole_unless (peer_error payload) _ (sym (begun_judge front h.0 payload h.1) ∙ e)))

capabilities_of-flush : TextsOfMore → (front : List Packet) → capabilities_of (front ++ Flush ∷ []) ≡ capabilities_of front
capabilities_of-flush more front = ap capabilities_in (more front (Flush ∷ []) ∙ append-nil (texts_of front))

said_is_advert : TextsOfMore → (packets : List Packet) (capabilities : List Capability) → Says packets capabilities → IsAdvert packets capabilities
said_is_advert more packets capabilities says =
    let h = flush_ends says.whole.front says.whole.last (open_shape says.whole.front says.whole.goes) says.whole.ends in
    let begun = h.1.1 in
    let parts : packets ≡ says.whole.front ++ Flush ∷ [] = says.whole.parts ∙ ap (λ (last : Packet). says.whole.front ++ last ∷ []) h.0 in
    let same : h.1.0 ≡ capabilities = sym (begun_capabilities says.whole.front h.1.0 begun) ∙ (sym (capabilities_of-flush more says.whole.front) ∙ (ap capabilities_of (sym parts) ∙ sym says.says)) in
    subst (IsAdvert packets) same (record {
      first = begun.first;
      payloads = begun.payloads;
      parts = parts ∙ ap (λ (front : List Packet). front ++ Flush ∷ []) begun.parts;
      is_version = begun.is_version;
      each = begun.each;
      few = begun.few;
    })

-- ---- packets that report an error: neither the version nor a capability

cut_line : (line said : List ℕ) → codes "ERR " ++ said ≡ line ++ 10 ∷ [] → (rest : List ℕ) × (line ≡ codes "ERR " ++ rest)
cut_line (a ∷ b ∷ c ∷ d ∷ rest) said e = (rest, cc)
cut_line line said e = absurd cc

error_text : TextOrLine → (payload said : List ℕ) → peer_error payload ≡ Some said → (rest : List ℕ) × (text payload ≡ codes "ERR " ++ rest)
error_text law payload said e =
    let parts : payload ≡ codes "ERR " ++ said = follows_word (codes "ERR ") payload said e in
    elim (law payload) [ inl same ↦ (said, sym same ∙ parts) | inr line ↦ cut_line (text payload) said (sym parts ∙ line) ]

no_key : (rest : List ℕ) → is_key (codes "ERR " ++ rest) ≡ true → ⊥
unfolding is_key
no_key rest e = let spaced = (and_parts (has_length (codes "ERR " ++ rest)) (list_all is_key_byte (codes "ERR " ++ rest)) e).1 in cc

key_test : {X : Type 0} (b : Bool) (x y : X) → (if b then Some x else None) ≡ Some y → b ≡ true
key_test true x y e = refl
key_test false x y e = absurd cc

no_split : (rest : List ℕ) (place : Option ℕ) (capability : Capability) → position is_equals_sign (codes "ERR " ++ rest) ≡ place → capability_split (codes "ERR " ++ rest) place ≡ Some capability → ⊥
no_split rest None capability is e = no_key rest (key_test (is_key (codes "ERR " ++ rest)) _ capability e)
no_split rest (Some (suc (suc (suc (suc at))))) capability is e =
    no_key (take at rest) (and_parts _ _ (key_test (is_key (codes "ERR " ++ take at rest) && is_value (drop (suc (suc (suc (suc at))) + 1) (codes "ERR " ++ rest))) _ capability e)).0
no_split rest (Some at) capability is e = let h = (position-Some is_equals_sign (codes "ERR " ++ rest) at 0 is).1 in cc

no_error_capability : (line rest : List ℕ) (capability : Capability) → line ≡ codes "ERR " ++ rest → capability_of line ≡ Some capability → ⊥
unfolding capability_of
no_error_capability line rest capability same e = no_split rest _ capability refl (sym (ap capability_of same) ∙ e)

version_reports_none : TextOrLine → (payload : List ℕ) (said : Option (List ℕ)) → peer_error payload ≡ said → text payload ≡ version → said ≡ None
version_reports_none law payload None is e = refl
version_reports_none law payload (Some said) is e = absurd (
    let h = error_text law payload said is in
    let first : 118 ≡ 69 = ap (λ (xs : List ℕ). get_or xs 0 0) (sym e ∙ h.1) in omega (arith, first))

capability_reports_none : TextOrLine → (payload : List ℕ) (said : Option (List ℕ)) (capability : Capability) → peer_error payload ≡ said → capability_of (text payload) ≡ Some capability → said ≡ None
capability_reports_none law payload None capability is e = refl
capability_reports_none law payload (Some said) capability is e = absurd (let h = error_text law payload said is in no_error_capability (text payload) h.0 capability h.1 e)

-- ---- from the manual to the judge

module _ (law : TextOrLine) (more_texts : TextsOfMore) (laws : LawsOf judge) where
  version_goes : (payload : List ℕ) → text payload ≡ version → judge [] (Data payload) ≡ Open
  unfolding judge_at
  version_goes payload is =
      ap (λ (said : Option (List ℕ)). unless_error said (judge_version (text payload))) (version_reports_none law payload (peer_error payload) refl is)
      ∙ cond-true (bytes_eq (text payload) version) Open (Refused why.BadText) ((bytes_eq-Decides (text payload) version).1 is)

  capability_goes : (front : List Packet) (capabilities : List Capability) (payload : List ℕ) (capability : Capability) → HasBegun front capabilities → capability_of (text payload) ≡ Some capability
      → length capabilities < max_advertised → judge front (Data payload) ≡ Open
  capability_goes front capabilities payload capability begun is few =
      begun_judge front capabilities payload begun
      ∙ (ap (λ (said : Option (List ℕ)). unless_error said (judge_capability (length capabilities) (capability_of (text payload)))) (capability_reports_none law payload (peer_error payload) capability refl is)
      ∙ (ap (judge_capability (length capabilities)) is ∙ room_goes_on _ (lt-ltb (length capabilities) max_advertised few)))

  all_go : (front : List Packet) (capabilities : List Capability) (payloads : List (List ℕ)) (more : List Capability) → IsOpen judge front → HasBegun front capabilities
      → map (λ payload. capability_of (text payload)) payloads ≡ map (λ capability. Some capability) more → length (capabilities ++ more) ≤ max_advertised
      → IsOpen judge (front ++ map Data payloads) × HasBegun (front ++ map Data payloads) (capabilities ++ more)
  all_go front capabilities [] [] opened begun each few =
      (subst (IsOpen judge) (sym (append-nil front)) opened, subst (λ (xs : List Packet). HasBegun xs (capabilities ++ [])) (sym (append-nil front)) (subst (HasBegun front) (sym (append-nil capabilities)) begun))
  all_go front capabilities [] (capability ∷ more) opened begun each few = absurd cc
  all_go front capabilities (payload ∷ payloads) [] opened begun each few = absurd cc
  all_go front capabilities (payload ∷ payloads) (capability ∷ more) opened begun each few =
      let is : capability_of (text payload) ≡ Some capability = cc in
      let rest : map (λ line. capability_of (text line)) payloads ≡ map (λ other. Some other) more = cc in
      let count : length (capabilities ++ capability ∷ more) ≡ length capabilities + length (capability ∷ more) = length-append capabilities (capability ∷ more) in
      let few_before : length capabilities < max_advertised = omega (arith, count, few) in
      let goes = capability_goes front capabilities payload capability begun is few_before in
      let lines : (front ++ Data payload ∷ []) ++ map Data payloads ≡ front ++ Data payload ∷ map Data payloads = append_assoc front (Data payload ∷ []) (map Data payloads) in
      let all : (capabilities ++ capability ∷ []) ++ more ≡ capabilities ++ capability ∷ more = append_assoc capabilities (capability ∷ []) more in
      let h = all_go (front ++ Data payload ∷ []) (capabilities ++ capability ∷ []) payloads more (laws.goes_on front (Data payload) opened goes)
      (HasBegun-push front capabilities payload capability begun is few_before) rest (rw all few) in
      (subst (IsOpen judge) lines h.0, subst (λ (xs : List Packet). HasBegun xs (capabilities ++ capability ∷ more)) lines (subst (HasBegun ((front ++ Data payload ∷ []) ++ map Data payloads)) all h.1))

  advert_is_said : (packets : List Packet) (capabilities : List Capability) → IsAdvert packets capabilities → Says packets capabilities
  advert_is_said packets capabilities advert =
      let begun = HasBegun-first advert.first advert.is_version in
      let h = all_go (Data advert.first ∷ []) [] advert.payloads capabilities (laws.goes_on [] (Data advert.first) laws.nothing (version_goes advert.first advert.is_version)) begun advert.each advert.few in
      let front = Data advert.first ∷ map Data advert.payloads in
      record {
        whole = record { front = front; last = Flush; parts = advert.parts; goes = h.0; ends = begun_flush front capabilities h.1 };
        says = sym (ap capabilities_of advert.parts ∙ (capabilities_of-flush more_texts front ∙ begun_capabilities front capabilities h.1));
      }

  pub table_is_manual : AsInManual Says IsAdvert
  table_is_manual packets capabilities = (said_is_advert more_texts packets capabilities, advert_is_said packets capabilities)
