-- The contents of a request value, independent of where the value is in memory.
use Rattle.std.specs.Prelude.{◌≡◌, Option, Some, None, IfSome, Result, Ok, Err}
use Rattle.gname.specs.declared.formats.Format.{Format}
use Rattle.ggrammar.specs.declared.fault.MessageFault.{MessageFault}
use Rattle.ggrammar.specs.declared.limits.Limits.{Limits}
use Rattle.grequest.specs.Asked.{Asked, Empty, Ls, Fetches}
use Rattle.grequest.specs.declared.request.Request.{Request}
use Rattle.grequest.specs.declared.request.Request.TheVariants as request

abbrev pub asked_by_request : {A : Type 0} → Request A → Asked
asked_by_request request.Empty = Empty
asked_by_request (request.Ls ls) = Ls ls.asked
asked_by_request (request.Fetch fetch) = Fetches fetch.asked

-- the format of the ids of a request, if the request can have ids
abbrev pub ids_format : {A : Type 0} → Request A → Option Format
ids_format request.Empty = None
ids_format (request.Ls ls) = None
ids_format (request.Fetch fetch) = Some fetch.format

-- the limits of a request, or `None` for the empty request
abbrev pub limits_of : {A : Type 0} → Request A → Option Limits
limits_of request.Empty = None
limits_of (request.Ls ls) = Some ls.limits
limits_of (request.Fetch fetch) = Some fetch.limits

-- the request has these limits
abbrev pub HasLimits : {A : Type 0} → Limits → Request A → Type 0
HasLimits limits request = IfSome (limits_of request) (λ other. other ≡ limits)

-- the ids of the request have this format
abbrev pub IsOfFormat : {A : Type 0} → Format → Request A → Type 0
IsOfFormat format request = IfSome (ids_format request) (λ other. other ≡ format)

-- the result of reading a request, with the request replaced by its contents
abbrev pub asked_result : {A : Type 0} → Result (Option (Request A)) MessageFault → Result (Option Asked) MessageFault
asked_result (Ok (Some request)) = Ok (Some (asked_by_request request))
asked_result (Ok None) = Ok None
asked_result (Err fault) = Err fault
