-- An advertisement that is sent packet by packet.
use Rattle.std.proofs.Common.{◌≡◌, ◌<◌, ◌≤◌, ◌+◌, ◌-◌, ℕ, true, ◌⊎◌, inl, inr, List, [], ◌∷◌, ◌++◌, length, map, drop, Some, None, refl, sym, ap, ap₂, ◌∙◌, subst, append-nil, add-one, drop-cons, get_or, arith, length-drop}
use Rattle.std.specs.List.{slice_get}
use Rattle.std.proofs.lemmas.List.{nil_from_length}
use Rattle.std.proofs.lemmas.List.Elements.{All-get_or}
use Rattle.std.proofs.lemmas.Option.{get_or_from_slice_get, none-some, slice_get_cases, slice_get_within}
use Rattle.gpkt.specs.Packets.{Bytes, Data, Flush, canonical, line_feed}
use Rattle.ggrammar.specs.Capabilities.{Capability, IsWellFormed, capability_text}
use Rattle.ggrammar.specs.Texts.{text_packet}
use Rattle.ghello.specs.Adverts.{AreCapabilities, capability_packet, max_advertised, version}
use Rattle.gserver.specs.Greetings.{SaysGreeting, steps_of_greeting}
use Rattle.gserver.specs.declared.greeting.NextPart.TheVariants as part
use Rattle.gserver.specs.steps.Stepping.{PutsLast, PutsSome}
use Rattle.gserver.proofs.StepLemmas.{last_one, puts_one}

module _ (capabilities : List Capability) (at : ℕ) where
  -- ---- the capability at a position

  pub one_there : (capability : Capability) → Some capability ≡ slice_get capabilities at
      → drop at capabilities ≡ capability ∷ drop (at + 1) capabilities
  one_there capability found =
      drop-cons capabilities at capability (slice_get_within capabilities at capability (sym found))
      ∙ ap₂ (λ x l. x ∷ l) (get_or_from_slice_get capabilities at capability capability (sym found)) (ap (λ n. drop n capabilities) (sym (add-one at)))

  none_in : None ≡ slice_get capabilities at
      → ((x : Capability) × (at < length capabilities) × (slice_get capabilities at ≡ Some x) × (get_or capabilities at x ≡ x))
      ⊎ ((length capabilities ≤ at) × (slice_get capabilities at ≡ None))
      → drop at capabilities ≡ []
  none_in missing (inl found) = absurd (none-some found.0 (missing ∙ found.2))
  none_in missing (inr past) = nil_from_length (drop at capabilities) (omega (arith, length-drop at capabilities, past.0))

  pub none_there : None ≡ slice_get capabilities at → drop at capabilities ≡ []
  none_there missing = none_in missing (slice_get_cases capabilities at).1

  pub form_there : (capability : Capability) → Some capability ≡ slice_get capabilities at → AreCapabilities capabilities
      → IsWellFormed capability
  form_there capability found form =
      subst IsWellFormed (get_or_from_slice_get capabilities at capability capability (sym found))
      (All-get_or IsWellFormed capabilities at capability (slice_get_within capabilities at capability (sym found)) form.each)

  pub few_there : (capability : Capability) → Some capability ≡ slice_get capabilities at → AreCapabilities capabilities
      → at < max_advertised
  few_there capability found form =
      let within = slice_get_within capabilities at capability (sym found) in
      omega (arith, within, form.few)

  -- ---- queuing the packets of the advertisement

  pub capability_said : (capability : Capability) (words before out : Bytes) → Some capability ≡ slice_get capabilities at
      → words ≡ capability_text capability → out ≡ before ++ canonical (Data (words ++ [] ++ line_feed ∷ []))
      → PutsSome (SaysGreeting (part.Capability at) capabilities) (SaysGreeting (part.Capability (at + 1)) capabilities)
      (steps_of_greeting (part.Capability at) capabilities) (length capabilities - (at + 1)) before out
  capability_said capability words before out found same is =
      let within = slice_get_within capabilities at capability (sym found) in
      puts_one (capability_packet capability) _ _ _ _ before out
      (is ∙ ap (λ t. before ++ canonical (Data (t ++ line_feed ∷ []))) (append-nil words ∙ same))
      (λ more goes h. (ap (λ l. capability_packet capability ∷ l) h.0 ∙ ap (λ l. map capability_packet l ++ Flush ∷ []) (sym (one_there capability found)), h.1))
      (omega (arith, within))

  pub greeting_over : (before out : Bytes) → None ≡ slice_get capabilities at → out ≡ before ++ canonical Flush
      → PutsLast (SaysGreeting (part.Capability at) capabilities) true before out
  greeting_over before out missing is =
      last_one Flush _ true before out is (ap (λ l. map capability_packet l ++ Flush ∷ []) (sym (none_there missing)), refl)

pub version_said : (capabilities : List Capability) (before out : Bytes) → out ≡ before ++ canonical (text_packet version)
    → PutsSome (SaysGreeting part.Version capabilities) (SaysGreeting (part.Capability 0) capabilities)
    (steps_of_greeting part.Version capabilities) (length capabilities - 0) before out
version_said capabilities before out is =
    puts_one (text_packet version) _ _ _ _ before out is (λ more goes h. (ap (λ l. text_packet version ∷ l) h.0, h.1)) (omega arith)
