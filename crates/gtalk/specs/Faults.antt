-- The texts of the faults of a conversation.
use Rattle.std.specs.Prelude.{codes}
use Rattle.gpkt.specs.Packets.{Bytes}
use Rattle.gtalk.specs.declared.fault.TalkFault.{TalkFault}
use Rattle.gtalk.specs.declared.fault.TalkFault.TheVariants.{Io, Memory}

abbrev pub talk_fault_text : TalkFault → Bytes
talk_fault_text Io = codes "the sink failed"
talk_fault_text Memory = codes "out of memory"
