-- The error packet that reports a fault.
use Rattle.std.proofs.Common.{◌≡◌, ap}
use Rattle.gpkt.specs.Packets.{Bytes}
use Rattle.ganswer.specs.declared.fault.ServeFault.{ServeFault}
use Rattle.gserver.specs.ErrTexts.{error_packets}
use Rattle.gserver.specs.Refusals.{err_packets, err_text}

-- the error packet with the text of a fault is the error packet of this fault
pub err_line : (text : Bytes) (fault : ServeFault) → text ≡ err_text fault → error_packets text ≡ err_packets fault
unfolding err_packets
err_line text fault said = ap error_packets said
