use Rattle.std.proofs.Common.{◌≡◌, Option, refl, sym, subst, ◌∙◌}
use Rattle.std.specs.Prelude.{IfSome}
use Rattle.gname.specs.declared.formats.Format.{Format}
use Rattle.grequest.specs.RequestValues.{IsOfFormat}
use Rattle.grequest.proofs.ReaderLemmas.{asked_within, format_of_later, read_says}
use Rattle.grequest.proofs.read.read_request_within.Goals as goal

pub read_message-requires : goal.read_message-requires
read_message-requires g c = rw c.within-reading.ensures refl

pub set_limits-requires : goal.set_limits-requires
set_limits-requires g c =
    let taken = c.in-Ok.ensures.read in
    let says =
    read_says c.args.limits c.args.format c.within-reading.result c.read_message.new.message taken.lines _
    c.within-reading.ensures c.read_message.ensures.judge taken.read.whole taken.held c.finish-request.ensures.asked in
    asked_within c.args.limits c.args.format taken.lines _
    ((c.manual.ensures c.args.limits c.args.format taken.lines _).0 says)

pub returns-in-Ok-clause-read : goal.returns-in-Ok-clause-read
returns-in-Ok-clause-read g c =
    let taken = c.in-Ok.ensures.read in
    let says =
    read_says c.args.limits c.args.format c.within-reading.result c.read_message.new.message taken.lines _
    c.within-reading.ensures c.read_message.ensures.judge taken.read.whole taken.held
    (c.set_limits.ensures.asked ∙ c.finish-request.ensures.asked) in
    record { lines = taken.lines; read = record { whole = says.whole; bytes = taken.read.bytes }; says = says }

pub returns-in-Ok-clause-format : goal.returns-in-Ok-clause-format
returns-in-Ok-clause-format g c =
    subst (λ (ids : Option Format). IfSome ids (λ other. other ≡ c.args.format)) (sym c.set_limits.ensures.format)
    (subst (λ (format : Format). IsOfFormat format c.finish-request.result)
    (format_of_later c.args.limits c.args.format c.within-reading.result c.read_message.new.message
    c.within-reading.ensures c.read_message.ensures.judge) c.finish-request.ensures.format)
