-- The packets that complete an advertisement (gitprotocol-v2(5), "Capability Advertisement").
use Rattle.std.specs.Prelude.{◌≡◌, ℕ, ◌+◌, ◌-◌, true, List, [], ◌∷◌, ◌++◌, length, map, drop}
use Rattle.gpkt.specs.Packets.{Flush}
use Rattle.ggrammar.specs.Capabilities.{Capability}
use Rattle.ghello.specs.Adverts.{canonical_advert, capability_packet}
use Rattle.gserver.specs.PackSaying.{May}
use Rattle.gserver.specs.declared.greeting.NextPart.{NextPart}
use Rattle.gserver.specs.declared.greeting.NextPart.TheVariants as part

-- the packets from this part of the advertisement to its end, after which the dialogue continues
abbrev pub SaysGreeting : NextPart → List Capability → May
SaysGreeting part.Version capabilities said goes = (said ≡ canonical_advert capabilities) × (goes ≡ true)
SaysGreeting (part.Capability at) capabilities said goes =
    (said ≡ map capability_packet (drop at capabilities) ++ Flush ∷ []) × (goes ≡ true)

-- the number of steps after the next step; each step sends one packet
abbrev pub steps_of_greeting : NextPart → List Capability → ℕ
steps_of_greeting part.Version capabilities = length capabilities + 1
steps_of_greeting (part.Capability at) capabilities = length capabilities - at
