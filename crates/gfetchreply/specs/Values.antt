-- The values that make up fetch replies (gitprotocol-v2(5), "fetch"), and how they are built.
use Rattle.std.specs.Prelude.{◌≡◌, ℕ, ◌≤◌, ◌<◌, List, [], ◌∷◌, ◌++◌, length, nat_le, if◌then◌else◌}
use Rattle.std.specs.Prelude.{Option, Some, None, Result, Ok, Err}
use Rattle.std.specs.List.{list_all}
use Rattle.gname.specs.Limits.{max_pack}
use Rattle.gname.specs.declared.formats.Format.{Format}
use Rattle.gname.specs.Ids.{Id, has_format}
use Rattle.gpkt.specs.Packets.{Bytes}
use Rattle.ggrammar.specs.declared.fault.Why.{Why}
use Rattle.ggrammar.specs.declared.fault.Why.TheVariants as why
use Rattle.ggrammar.specs.declared.fault.MessageFault.{MessageFault}
use Rattle.ggrammar.specs.declared.limits.Limits.{Limits}
use Rattle.gfetchreply.specs.FetchReplies.{max_acks}

-- the default limit on the length of a pack, in bytes
abbrev pub default_limit : ℕ
default_limit = 16777216

-- the maximum limit on the length of a pack that is passed to a sink, in bytes
abbrev pub max_stream : ℕ
max_stream = 4294967295

-- acknowledged ids, their format, and the limits on their number
pub record Acks : Type 0 where
  pub limits : Limits
  pub format : Format
  pub ids : List Id

abbrev pub with_id : Acks → Id → Acks
with_id acks id = record acks { ids = acks.ids ++ id ∷ [] }

-- the reason that a list of ids can't be acknowledged: an id has the wrong format, or there are too many ids
abbrev pub acks_fault : Limits → Format → List Id → Option Why
acks_fault limits format ids =
    if list_all (has_format format) ids then if nat_le (length ids) (max_acks limits) then None else Some why.Limit
    else Some why.BadText

-- the result of making acknowledgments from a list of ids: all of the ids, or the fault
abbrev pub MakesAcks : Limits → Format → List Id → Result Acks MessageFault → Type 0
MakesAcks limits format ids (Ok acks) =
    (acks_fault limits format ids ≡ None) × (acks ≡ record { limits = limits; format = format; ids = ids })
MakesAcks limits format ids (Err fault) = (fault.frame ≡ 0) × (acks_fault limits format ids ≡ Some fault.why)

-- the result of making a pack from bytes, whose number must not exceed the limit
abbrev pub MakesPack : Bytes → Result Bytes MessageFault → Type 0
MakesPack bytes (Ok pack) = (length bytes ≤ max_pack) × (pack ≡ bytes)
MakesPack bytes (Err fault) =
    (max_pack < length bytes) × (fault.frame ≡ 0) × (fault.why ≡ why.Limit)
