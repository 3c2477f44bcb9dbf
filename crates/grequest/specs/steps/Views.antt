-- The steps of reading a request's texts: the contents of a text, independent of where its bytes are in memory.
use Rattle.grequest.specs.Arguments.{CapabilityForm, Agent, ObjectFormat, UnknownCapability, BadCapability}
use Rattle.grequest.specs.Arguments.{LsArgument, KnownLsFlag, RefPrefix, UnknownLsArgument}
use Rattle.grequest.specs.Arguments.{FetchArgument, KnownFetchFlag, Want, Have, UnknownFetchArgument}
use Rattle.grequest.specs.declared.line.CapabilityForm.{CapabilityForm as LentCapabilityForm}
use Rattle.grequest.specs.declared.line.CapabilityForm.TheVariants as capability
use Rattle.grequest.specs.declared.line.LsArgument.{LsArgument as LentLsArgument}
use Rattle.grequest.specs.declared.line.LsArgument.TheVariants as ls
use Rattle.grequest.specs.declared.line.FetchArgument.{FetchArgument as LentFetchArgument}
use Rattle.grequest.specs.declared.line.FetchArgument.TheVariants as fetch

abbrev pub capability_in : LentCapabilityForm → CapabilityForm
capability_in (capability.Agent value) = Agent value.now
capability_in (capability.ObjectFormat value) = ObjectFormat value.now
capability_in capability.Unknown = UnknownCapability
capability_in capability.Bad = BadCapability

abbrev pub ls_argument_in : LentLsArgument → LsArgument
ls_argument_in (ls.Flag flag) = KnownLsFlag flag
ls_argument_in (ls.RefPrefix prefix) = RefPrefix prefix.now
ls_argument_in ls.Unknown = UnknownLsArgument

abbrev pub fetch_argument_in : LentFetchArgument → FetchArgument
fetch_argument_in (fetch.Flag flag) = KnownFetchFlag flag
fetch_argument_in (fetch.Want id) = Want id.now
fetch_argument_in (fetch.Have id) = Have id.now
fetch_argument_in fetch.Unknown = UnknownFetchArgument
