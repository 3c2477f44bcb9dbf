-- The packets that are written for a value encode the value, and each payload fits into a packet.
use Rattle.std.proofs.Common.{◌≡◌, ℕ, ◌+◌, ◌≤◌, List, [], ◌∷◌, ◌++◌, map, length, Option, Some, None, refl, sym, ap, subst, ◌∙◌, arith}
use Rattle.std.specs.Prelude.{All, IfSome}
use Rattle.std.proofs.lemmas.List.{length_push, length-append}
use Rattle.std.proofs.lemmas.List.Elements.{All-append, All-cons, All-head, All-nil, All-tail}
use Rattle.std.proofs.lemmas.Grind.{common_steps}
use Rattle.gpkt.specs.Packets.{Packet, Data, Flush, text, max_payload, line_feed}
use Rattle.gpkt.specs.Laws.{Fits, TextOfLine}
use Rattle.ggrammar.specs.Capabilities.{Capability, CapabilityIsItsText, IsWellFormed, capability_of, capability_text, max_capability, value_text}
use Rattle.ggrammar.specs.Kinds.{AsInManual, CanonicalSays}
use Rattle.ghello.specs.Hello as hello
use Rattle.ghello.specs.Hello.{Hello, IsHello, canonical_hello, hello_payload}
use Rattle.ghello.specs.Adverts as advert
use Rattle.ghello.specs.Adverts.{AreCapabilities, canonical_advert, capability_packet, version}
use Rattle.ghello.proofs.HelloLemmas.{path_within, host_within}
use Rattle.ghello.proofs.AdvertLemmas.{key_within, value_within}

-- ---- hellos

hello_fits : (said : Hello) → IsHello said → length (hello_payload said) ≤ max_payload
hello_fits said form =
    let path : length said.path ≤ 1000 = path_within said form in
    let host : length said.host ≤ 255 = host_within said form in
    grind (arith, common_steps)

pub canonical_says_hello : CanonicalSays hello.Says IsHello hello.IsCanonical
unfolding canonical_hello
canonical_says_hello packets said form line =
    (record { form = form; line = line }, rw line (All-cons Fits (Data (hello_payload said)) [] (hello_fits said form) (All-nil Fits)))

-- ---- advertisements

payload_of_capability : Capability → List ℕ
payload_of_capability capability = capability_text capability ++ line_feed ∷ []

lines_of : (capabilities : List Capability) → map capability_packet capabilities ≡ map Data (map payload_of_capability capabilities)
unfolding payload_of_capability
lines_of [] = refl
lines_of (capability ∷ capabilities) = ap (λ (xs : List Packet). capability_packet capability ∷ xs) (lines_of capabilities)

each_reads_back : TextOfLine → CapabilityIsItsText → (capabilities : List Capability) → All IsWellFormed capabilities
    → map (λ payload. capability_of (text payload)) (map payload_of_capability capabilities) ≡ map (λ capability. Some capability) capabilities
unfolding payload_of_capability
each_reads_back law texts [] forms = refl
each_reads_back law texts (capability ∷ capabilities) forms =
    let first : capability_of (text (payload_of_capability capability)) ≡ Some capability = ap capability_of (law (capability_text capability)) ∙ (texts (capability_text capability) capability).1 (refl, All-head IsWellFormed capability capabilities forms) in
    rw first (ap (λ (xs : List (Option Capability)). Some capability ∷ xs) (each_reads_back law texts capabilities (All-tail IsWellFormed capability capabilities forms)))

value_text_short : (value : Option (List ℕ)) → IfSome value (λ bytes. length bytes ≤ max_capability) → length (value_text value) ≤ 1001
value_text_short None h = omega arith
value_text_short (Some value) h = omega (arith, h)

capability_fits : (capability : Capability) → IsWellFormed capability → Fits (capability_packet capability)
capability_fits capability form =
    let key : length capability.key ≤ 1000 = key_within capability form in
    let value : length (value_text capability.value) ≤ 1001 = value_text_short capability.value (value_within capability form) in
    let all : length (capability_text capability) ≡ length capability.key + length (value_text capability.value) = length-append capability.key (value_text capability.value) in
    let line : length (capability_text capability ++ line_feed ∷ []) ≡ length (capability_text capability) + 1 = length_push (capability_text capability) line_feed in
    omega (arith, key, value, all, line)

all_fit : (capabilities : List Capability) → All IsWellFormed capabilities → All Fits (map capability_packet capabilities ++ Flush ∷ [])
all_fit [] forms = All-cons Fits Flush [] (omega arith) (All-nil Fits)
all_fit (capability ∷ capabilities) forms =
    All-append Fits (capability_packet capability ∷ []) (map capability_packet capabilities ++ Flush ∷ [])
    (All-cons Fits (capability_packet capability) [] (capability_fits capability (All-head IsWellFormed capability capabilities forms)) (All-nil Fits))
    (all_fit capabilities (All-tail IsWellFormed capability capabilities forms))

advert_says : TextOfLine → CapabilityIsItsText → AsInManual advert.Says advert.IsAdvert → (capabilities : List Capability) → AreCapabilities capabilities
    → advert.Says (canonical_advert capabilities) capabilities × All Fits (canonical_advert capabilities)
advert_says law texts manual capabilities are = (
  (manual (canonical_advert capabilities) capabilities).1 (record {
    first = version ++ line_feed ∷ [];
    payloads = map payload_of_capability capabilities;
    parts = ap (λ (xs : List Packet). Data (version ++ line_feed ∷ []) ∷ (xs ++ Flush ∷ [])) (lines_of capabilities);
    is_version = law version;
    each = each_reads_back law texts capabilities are.each;
    few = are.few;
  }),
  All-append Fits (Data (version ++ line_feed ∷ []) ∷ []) (map capability_packet capabilities ++ Flush ∷ [])
      (All-cons Fits (Data (version ++ line_feed ∷ [])) [] (omega arith) (All-nil Fits)) (all_fit capabilities are.each),
)

pub canonical_says_advert : TextOfLine → CapabilityIsItsText → AsInManual advert.Says advert.IsAdvert → CanonicalSays advert.Says AreCapabilities advert.IsCanonical
canonical_says_advert law texts manual packets capabilities are line =
    subst (λ (lines : List Packet). advert.Says lines capabilities × All Fits lines) (sym line) (advert_says law texts manual capabilities are)
