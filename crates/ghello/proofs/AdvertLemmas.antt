-- Facts about advertisements: the state of a reader after some packets, and capabilities that can be added.
use Rattle.std.proofs.Common.{◌≡◌, ℕ, ◌+◌, ◌<◌, ◌≤◌, Bool, true, false, not, ◌&&◌, if◌then◌else◌, ◌==◌, nat_le, nat_lt, Bor, map, List, [], ◌∷◌, ◌++◌, length, drop, get_or, ◌⊎◌, inl, inr, Option, Some, None, Result, Ok, Err, refl, sym, ap, subst, ◌∙◌, append-nil, arith}
use Rattle.std.specs.Prelude.{IfSome, IsTrue, ⊤}
use Rattle.std.specs.List.{list_all}
use Rattle.std.proofs.lemmas.List.{drop_more, length_push}
use Rattle.std.proofs.lemmas.List.Elements.{All-append, All-cons, All-nil}
use Rattle.std.proofs.lemmas.Bool.{and_parts}
use Rattle.std.proofs.lemmas.Bool.Decides.{nat_tests}
use Rattle.gpkt.specs.Packets.{Packet, Data, Flush, text}
use Rattle.ggrammar.specs.Grammar.{Open, Whole, Refused, if_room}
use Rattle.ggrammar.specs.Texts.{TextsOfMore, texts_of}
use Rattle.ggrammar.specs.PeerErrors.{peer_error, unless_error}
use Rattle.ggrammar.specs.Faults.{kept_text}
use Rattle.ggrammar.specs.Capabilities.{Capability, CapabilityIsItsText, IsWellFormed, capability_of, has_length, is_key, is_key_byte, is_printable, is_value, max_capability}
use Rattle.std.specs.Option.{option_copied, option_to_list}
use Rattle.ggrammar.specs.CapabilityView.{capability_view}
use Rattle.ggrammar.specs.declared.capability.Capability as lent
use Rattle.ggrammar.specs.Building.{IsBuildReason}
use Rattle.ggrammar.specs.MessageReading.{IsReason, TakesAs, TakesPacket}
use Rattle.ggrammar.specs.declared.fault.Why.{Why}
use Rattle.ggrammar.specs.declared.fault.Why.TheVariants as why
use Rattle.ggrammar.specs.declared.message.Step.{Step}
use Rattle.ggrammar.specs.declared.message.Step.TheVariants as step
use Rattle.ggrammar.proofs.PlaceLemmas.{filter_map-push}
use Rattle.ghello.specs.Adverts.{AreCapabilities, brings, capabilities_in, capabilities_of, capability_packet, has_room, is_capability, is_value_or_none, judge, judge_at, judge_capability, judge_text, judge_version, max_advertised}
use Rattle.ghello.specs.steps.AdvertReading.{IsKept, added_by, brings_after, judge_after, texts_at_least}

-- ---- forms

longest : (bytes : List ℕ) (rest : Bool) → (has_length bytes && rest) ≡ true → length bytes ≤ max_capability
longest bytes rest h =
    let few : nat_le (length bytes) max_capability ≡ true = (and_parts (nat_le 1 (length bytes)) (nat_le (length bytes) max_capability) (and_parts (has_length bytes) rest h).0).1 in
    grind (arith, nat_tests)

pub key_within : (capability : Capability) → IsWellFormed capability → length capability.key ≤ max_capability
unfolding is_key
key_within capability form = longest capability.key (list_all is_key_byte capability.key) form.key

value_at : (value : Option (List ℕ)) → IfSome value (λ bytes. IsTrue (is_value bytes)) → IfSome value (λ bytes. length bytes ≤ max_capability)
unfolding is_value
value_at None h = tt
value_at (Some value) h = longest value (list_all is_printable value) h

pub value_within : (capability : Capability) → IsWellFormed capability → IfSome capability.value (λ bytes. length bytes ≤ max_capability)
value_within capability form = value_at capability.value form.value

lent_value : (value : Option (Bor (List ℕ))) → IfSome (option_copied value) (λ bytes. length bytes ≤ max_capability) → IfSome value (λ bytes. length bytes.now ≤ max_capability)
lent_value None h = tt
lent_value (Some value) h = h

pub lent_key_within : (capability : lent.Capability) (kept : Capability) → capability_view capability ≡ kept → IsWellFormed kept → length capability.key.now ≤ max_capability
lent_key_within capability kept same form = subst (λ (c : Capability). length c.key ≤ max_capability) (sym same) (key_within kept form)

pub lent_value_within : (capability : lent.Capability) (kept : Capability) → capability_view capability ≡ kept → IsWellFormed kept → IfSome capability.value (λ bytes. length bytes.now ≤ max_capability)
lent_value_within capability kept same form =
    lent_value capability.value (subst (λ (c : Capability). IfSome c.value (λ bytes. length bytes ≤ max_capability)) (sym same) (value_within kept form))

-- ---- adding

value_form : (value : Option (List ℕ)) → is_value_or_none value ≡ true → IfSome value (λ bytes. IsTrue (is_value bytes))
value_form None h = tt
value_form (Some value) h = h

pub capability_form : (capability : Capability) → is_capability capability ≡ true → IsWellFormed capability
capability_form capability h =
    let parts = and_parts (is_key capability.key) (is_value_or_none capability.value) h in
    record { key = parts.0; value = value_form capability.value parts.1 }

pub AreCapabilities-push : (capabilities : List Capability) (capability : Capability) → AreCapabilities capabilities → IsWellFormed capability → length capabilities < max_advertised
    → AreCapabilities (capabilities ++ capability ∷ [])
AreCapabilities-push capabilities capability are form room = record {
  each = All-append IsWellFormed capabilities (capability ∷ []) are.each (All-cons IsWellFormed capability [] form (All-nil IsWellFormed));
  few = rw (length_push capabilities capability) (omega (arith, room));
}

value_is : (value : Option (List ℕ)) → IfSome value (λ bytes. IsTrue (is_value bytes)) → is_value_or_none value ≡ true
value_is None h = refl
value_is (Some value) h = h

-- a capability that is read from a text is well-formed
pub capability_of_form : CapabilityIsItsText → (line : List ℕ) (capability : Capability) → capability_of line ≡ Some capability → is_capability capability ≡ true
capability_of_form texts line capability e =
    let form = ((texts line capability).0 e).1 in rw (form.key, value_is capability.value form.value) refl

-- the reason that a well-formed capability is not added is a reason to reject its packet
not_added : (room : Bool) (reason : Why) → IsBuildReason true room reason → IsReason (if_room room) true reason
not_added room why.BadText h = absurd cc
not_added room why.Limit h = rw h.1 refl
not_added room why.Memory h = rw h.1 (tt, refl)
not_added room reason h = absurd h

pub capability_is_not_added : CapabilityIsItsText → (line : List ℕ) (capability : Capability) (capabilities : List Capability) (reason : Why) → capability_of line ≡ Some capability
    → IsBuildReason (is_capability capability) (has_room capabilities) reason → IsReason (judge_capability (length capabilities) (capability_of line)) true reason
capability_is_not_added texts line capability capabilities reason is h =
    subst (λ (o : Option Capability). IsReason (judge_capability (length capabilities) o) true reason) (sym is)
    (not_added (has_room capabilities) reason (subst (λ (form : Bool). IsBuildReason form (has_room capabilities) reason) (capability_of_form texts line capability is) h))

-- the packets of the capabilities from position `at` on: the packet of the capability `found`, then the rest
pub packets_from : (capabilities : List Capability) (at : ℕ) (found : Capability) → at < length capabilities → found ≡ get_or capabilities at found
    → map capability_packet (drop at capabilities) ≡ capability_packet found ∷ [] ++ map capability_packet (drop (at + 1) capabilities)
packets_from capabilities at found inside is =
    ap (map capability_packet) (drop_more capabilities at found inside ∙ ap (λ (x : Capability). x ∷ drop (at + 1) capabilities) (sym is))

-- ---- the state of a reader after some packets

capabilities_in-push : (has : Bool) (texts : List (List ℕ)) (payload : List ℕ) → not has ≡ (length texts == 0)
    → capabilities_in (texts ++ text payload ∷ []) ≡ capabilities_in texts ++ added_by has (Data payload)
capabilities_in-push true [] payload e = absurd (let no : false ≡ true = e in cc)
capabilities_in-push false [] payload e = refl
capabilities_in-push true (first ∷ texts) payload e = filter_map-push capability_of texts (text payload) _ refl
capabilities_in-push false (first ∷ texts) payload e = absurd (grind (arith, nat_tests))

same_test : (has : Bool) (count : ℕ) → not has ≡ (count == 0) → (count == 0) ≡ (texts_at_least has == 0)
same_test true count e = sym e
same_test false count e = sym e

same_brings : (has : Bool) (count : ℕ) → not has ≡ (count == 0) → nat_lt 0 count ≡ has
same_brings true count e = grind (arith, nat_tests)
same_brings false count e = grind (arith, nat_tests)

-- the verdict on a packet depends on the packets before it only through the state of the reader
pub judge_kept : (front : List Packet) (has : Bool) (capabilities : List Capability) (packet : Packet) → IsKept front has capabilities → judge front packet ≡ judge_after has capabilities packet
unfolding judge_at
judge_kept front has capabilities (Data payload) kept =
    ap (λ (b : Bool). unless_error (peer_error payload) (if b then judge_version (text payload) else judge_capability (length (capabilities_of front)) (capability_of (text payload)))) (same_test has (length (texts_of front)) kept.begun)
    ∙ ap (λ (xs : List Capability). unless_error (peer_error payload) (if texts_at_least has == 0 then judge_version (text payload) else judge_capability (length xs) (capability_of (text payload)))) (sym kept.listed)
judge_kept front has capabilities Flush kept = ap (λ (b : Bool). if b then Refused why.UnexpectedFrame else Whole) (same_test has (length (texts_of front)) kept.begun)
judge_kept front has capabilities _ kept = refl

pub brings_kept : (front : List Packet) (has : Bool) (capabilities : List Capability) (packet : Packet) → IsKept front has capabilities → brings front packet ≡ brings_after has packet
brings_kept front has capabilities (Data payload) kept = same_brings has (length (texts_of front)) kept.begun
brings_kept front has capabilities _ kept = refl

pub IsKept-push : TextsOfMore → (front : List Packet) (has : Bool) (capabilities : List Capability) (packet : Packet) (new_has : Bool) (new_capabilities : List Capability)
    → IsKept front has capabilities → (judge_after has capabilities packet ≡ Open) ⊎ (judge_after has capabilities packet ≡ Whole) → new_has ≡ true → new_capabilities ≡ capabilities ++ added_by has packet
    → IsKept (front ++ packet ∷ []) new_has new_capabilities
unfolding judge_at
IsKept-push law front has capabilities (Data payload) new_has new_capabilities kept taken is_new adds =
    let texts : texts_of (front ++ Data payload ∷ []) ≡ texts_of front ++ text payload ∷ [] = law front (Data payload ∷ []) in
    record {
      begun = rw (is_new, texts, length_push (texts_of front) (text payload)) (grind (arith, nat_tests));
      listed = adds ∙ (ap (λ (xs : List Capability). xs ++ added_by has (Data payload)) kept.listed
          ∙ (sym (capabilities_in-push has (texts_of front) payload kept.begun) ∙ ap capabilities_in (sym texts)));
    }
IsKept-push law front true capabilities Flush new_has new_capabilities kept taken is_new adds =
    let texts : texts_of (front ++ Flush ∷ []) ≡ texts_of front = law front (Flush ∷ []) ∙ append-nil (texts_of front) in
    record {
      begun = rw (is_new, texts) kept.begun;
      listed = adds ∙ (append-nil capabilities ∙ (kept.listed ∙ ap capabilities_in (sym texts)));
    }
IsKept-push law front has capabilities packet new_has new_capabilities kept (inl e) is_new adds = absurd cc
IsKept-push law front has capabilities packet new_has new_capabilities kept (inr e) is_new adds = absurd cc

-- ---- accepting a packet

pub error_is_taken : (has : Bool) (capabilities : List Capability) (payload said : List ℕ) (brought : Bool) → peer_error payload ≡ Some said
    → IsReason (judge_after has capabilities (Data payload)) brought (why.RemoteErr (kept_text said))
unfolding judge_at
error_is_taken has capabilities payload said brought is =
    ap (λ (o : Option (List ℕ)). unless_error o (judge_text (texts_at_least has) (length capabilities) (text payload))) is

pub version_is_taken : (has new_has : Bool) (capabilities new_capabilities : List Capability) (payload line : List ℕ) (result : Result Step Why) → has ≡ false → peer_error payload ≡ None
    → line ≡ text payload → TakesAs (judge_version line) false ((new_has ≡ true) × (new_capabilities ≡ capabilities)) result
    → TakesAs (judge_after has capabilities (Data payload)) has ((new_has ≡ true) × (new_capabilities ≡ capabilities ++ added_by has (Data payload))) result
unfolding judge_at
version_is_taken true new_has capabilities new_capabilities payload line result is none same h = absurd cc
version_is_taken false new_has capabilities new_capabilities payload line result is none same h =
    rw (none, append-nil capabilities) (subst (λ (l : List ℕ). TakesAs (judge_version l) false ((new_has ≡ true) × (new_capabilities ≡ capabilities)) result) same h)

pub capability_is_taken : (has new_has : Bool) (capabilities new_capabilities : List Capability) (payload line : List ℕ) (result : Result Step Why) → has ≡ true → peer_error payload ≡ None
    → line ≡ text payload → TakesAs (judge_capability (length capabilities) (capability_of line)) true ((new_has ≡ has) × (new_capabilities ≡ capabilities ++ option_to_list (capability_of line))) result
    → TakesAs (judge_after has capabilities (Data payload)) has ((new_has ≡ true) × (new_capabilities ≡ capabilities ++ added_by has (Data payload))) result
unfolding judge_at
capability_is_taken false new_has capabilities new_capabilities payload line result is none same h = absurd cc
capability_is_taken true new_has capabilities new_capabilities payload line result is none same h =
    rw none (subst (λ (l : List ℕ). TakesAs (judge_capability (length capabilities) (capability_of l)) true ((new_has ≡ true) × (new_capabilities ≡ capabilities ++ option_to_list (capability_of l))) result) same h)

module _ {M : Type 0} (has : M → Bool) (kept : M → List Capability) where
  pub advert_takes : TextsOfMore → (front : List Packet) (packet : Packet) (old new : M) (result : Result Step Why) → IsKept front (has old) (kept old)
      → TakesAs (judge_after (has old) (kept old) packet) (brings_after (has old) packet) ((has new ≡ true) × (kept new ≡ kept old ++ added_by (has old) packet)) result
      → TakesPacket judge brings (λ reader packets. IsKept packets (has reader) (kept reader)) (λ reader packets. ⊤) front packet new result
  advert_takes law front packet old new (Ok step.Open) held h =
      (judge_kept front (has old) (kept old) packet held ∙ h.0, IsKept-push law front (has old) (kept old) packet (has new) (kept new) held (inl h.0) h.1.0 h.1.1)
  advert_takes law front packet old new (Ok step.Whole) held h =
      (judge_kept front (has old) (kept old) packet held ∙ h.0, IsKept-push law front (has old) (kept old) packet (has new) (kept new) held (inr h.0) h.1.0 h.1.1)
  advert_takes law front packet old new (Err why) held h =
      (rw (judge_kept front (has old) (kept old) packet held, brings_kept front (has old) (kept old) packet held) h, tt)
