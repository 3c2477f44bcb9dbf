-- An input without a request: the client has closed the connection (gitprotocol-v2(5), "Command Request").
use Rattle.std.specs.Prelude.{◌≡◌, ◌↔◌, ◌<◌, [], Option, None, Result, Ok, IfErr}
use Rattle.gname.specs.declared.formats.Format.{Format}
use Rattle.gpkt.specs.Packets.{Bytes}
use Rattle.ggrammar.specs.Kinds.{ReadsIfAny}
use Rattle.ggrammar.specs.declared.limits.Limits.{Limits}
use Rattle.ggrammar.specs.MessageBytes.{known_bytes, IsOfBytes}
use Rattle.ggrammar.specs.declared.fault.Why.TheVariants.{Ended}
use Rattle.ggrammar.specs.declared.fault.MessageFault.{MessageFault}
use Rattle.grequest.specs.Asked.{Asked}
use Rattle.grequest.specs.Requests.{judge, brings, Says}

-- the content of the bytes caused the fault; if the fault is the end of the input, at least one packet precedes it
abbrev pub IsNotMissing : MessageFault → Type 0
IsNotMissing fault = IsOfBytes fault.why × (fault.why ≡ Ended → 0 < fault.frame)

-- the reader returns `None` exactly if the input is empty
abbrev pub IsMissingWhereEmpty : Limits → Format → Type 0
IsMissingWhereEmpty limits format =
    (bytes new : Bytes) (result : Result (Option Asked) MessageFault)
    → ReadsIfAny (judge limits format) brings (Says limits format) (known_bytes bytes new) result
    → IfErr result IsNotMissing → (result ≡ Ok None) ↔ (bytes ≡ [])
