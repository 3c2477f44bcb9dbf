-- The capabilities that a server advertises (gitprotocol-v2(5), "Capability Advertisement").
use Rattle.std.specs.Prelude.{List, [], ◌∷◌, codes, Some, None}
use Rattle.gname.specs.Formats.{format_name}
use Rattle.gname.specs.declared.formats.Format.{Format}
use Rattle.gpkt.specs.Packets.{Bytes}
use Rattle.ggrammar.specs.Capabilities.{Capability}

abbrev pub key : Bytes → Capability
key name = record { key = name; value = None }

abbrev pub key_with : Bytes → Bytes → Capability
key_with name value = record { key = name; value = Some value }

-- the advertised capabilities: the agent's name, ls-refs with `unborn`, fetch, and the object format
abbrev pub advertisement : Format → List Capability
advertisement format =
    key_with (codes "agent") (codes "gitv2/1")
    ∷ key_with (codes "ls-refs") (codes "unborn")
    ∷ key (codes "fetch")
    ∷ key_with (codes "object-format") (format_name format)
    ∷ []
