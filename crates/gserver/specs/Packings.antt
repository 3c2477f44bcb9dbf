-- The last result of the packer at the end of an exchange or a connection. If the packer fails, its fault is reported.
-- If any other fault is reported, the packer was not asked for a pack for the last request. If the sink fails, nothing
-- is stated about the packer's last result.
use Rattle.std.specs.Prelude.{◌≡◌, ⊤, false}
use Rattle.ganswer.specs.OnePack.{has_failed, packing_of_fault}
use Rattle.ganswer.specs.declared.one_pack.Packing.TheVariants.{Unasked}
use Rattle.ganswer.specs.declared.one_pack.Packing.{Packing}
use Rattle.gserver.specs.declared.serving.End.{End}
use Rattle.gserver.specs.declared.serving.ExchangeEnd.{ExchangeEnd}
use Rattle.gserver.specs.declared.serving.End.TheVariants as end
use Rattle.gserver.specs.declared.serving.ExchangeEnd.TheVariants as exchange

abbrev pub ReportsPacking : ExchangeEnd → Packing → Type 0
ReportsPacking exchange.Answered answered = has_failed answered ≡ false
ReportsPacking exchange.Closed answered = answered ≡ Unasked
ReportsPacking exchange.Ended answered = answered ≡ Unasked
ReportsPacking (exchange.Refused fault) answered = answered ≡ packing_of_fault fault
ReportsPacking exchange.WriteFailed answered = ⊤

abbrev pub ReportsLastPacking : End → Packing → Type 0
ReportsLastPacking end.Closed answered = answered ≡ Unasked
ReportsLastPacking end.Ended answered = answered ≡ Unasked
ReportsLastPacking (end.Refused fault) answered = answered ≡ packing_of_fault fault
ReportsLastPacking end.WriteFailed answered = ⊤
