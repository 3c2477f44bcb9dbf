-- The packets of a pack that a packer returns in parts (gitprotocol-v2(5), "fetch", "packfile").
use Rattle.std.specs.Prelude.{◌≡◌, Bool, List, [], ◌++◌, map, Option, None}
use Rattle.gobject.specs.declared.fault.PackFault.{PackFault}
use Rattle.gparts.specs.Parts.{Gives}
use Rattle.gpkt.specs.Packets.{Bytes, Packet}
use Rattle.gfetchreply.specs.FetchReplies.{data_packet, pieces}

-- whether these packets may complete a reply; the boolean states whether the dialogue then continues
abbrev pub May : Type 1
May = List Packet → Bool → Type 0

-- The packets that carry a pack on side band 1. If the packer fails, the packets carry a prefix of the bytes that the
-- packer returned.
pub record SaysPack (gives : Gives) (packets : List Packet) (end : Option PackFault) : Type 0 where
  pub sent : Bytes
  pub lost : Bytes
  pub given : gives (sent ++ lost) end
  pub pieces : packets ≡ map data_packet (pieces sent)
  pub all : end ≡ None → lost ≡ []
