-- The places in the grammar of a message, such as its sections, and the values in the packets. Each packet leads from
-- one place to the next.
use Rattle.std.specs.Prelude.{List, [], ◌∷◌, ◌++◌}
use Rattle.gpkt.specs.Packets.{Packet}

-- the place in the grammar after these packets, if `place` is the place before them
abbrev pub place_after : {Place : Type 0} → (Place → Packet → Place) → Place → List Packet → Place
place_after next place [] = place
place_after next place (packet ∷ packets) = place_after next (next place packet) packets

-- the values in the packets, in order; the values in a packet depend on its place in the grammar
abbrev pub collect : {Place X : Type 0} → (Place → Packet → Place) → (Place → Packet → List X) → Place
    → List Packet → List X
collect next give place [] = []
collect next give place (packet ∷ packets) = give place packet ++ collect next give (next place packet) packets
