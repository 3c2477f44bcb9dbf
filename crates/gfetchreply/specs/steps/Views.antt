-- The steps of reading a reply: the contents of texts, parameters and values, independent of where their bytes are in
-- memory.
use Rattle.std.specs.Prelude.{ℕ, Bool, false, Result, Ok, Err}
use Rattle.gname.specs.declared.formats.Format.{Format}
use Rattle.ggrammar.specs.declared.ends.Ends.TheVariants.{Plain}
use Rattle.ggrammar.specs.declared.fault.MessageFault.{MessageFault}
use Rattle.ggrammar.specs.declared.limits.Limits.{Limits}
use Rattle.gfetchreply.specs.FetchReplies.{Reading}
use Rattle.gfetchreply.specs.FetchReplies.{ReplyForm, Acknowledgments, Nak, Readiness, Packfile, Ack, OtherForm}
use Rattle.gfetchreply.specs.FetchHeads as head
use Rattle.gfetchreply.specs.steps.FetchHeads as head_steps
use Rattle.gfetchreply.specs.declared.form.ReplyForm as lent_form
use Rattle.gfetchreply.specs.declared.form.ReplyForm.TheVariants as lent
use Rattle.gfetchreply.specs.declared.value.FetchReply.{FetchReply}
use Rattle.gfetchreply.specs.declared.value.FetchHead.{FetchHead}
use Rattle.gfetchreply.specs.declared.reading.FetchReading.{FetchReading}
use Rattle.gfetchreply.specs.declared.sections.Sections.{Sections}
use Rattle.gfetchreply.specs.Views.{IsHeadOf, IsReplyOf, reading_in, sha1_reading}

abbrev pub form_in : lent_form.ReplyForm → ReplyForm
form_in lent.Acknowledgments = Acknowledgments
form_in lent.Nak = Nak
form_in lent.Readiness = Readiness
form_in lent.Packfile = Packfile
form_in (lent.Ack id) = Ack id.now
form_in lent.Other = OtherForm

-- the acknowledgments of the head have the same limits and the same format as those of the reply
abbrev pub KeepsFormat : {A : Type 0} → FetchHead A → FetchReply A → Type 0
KeepsFormat head reply =
    (limits : Limits) (format : Format) → IsHeadOf limits format head → IsReplyOf limits format reply

-- the parameters of reading, with the limits and the format of the stored ids
abbrev pub reading_with : {A : Type 0} → FetchReading ℕ → Sections A → Reading
reading_with reading sections =
    record (reading_in reading) { limits = sections.acks.limits; format = sections.acks.format }

-- the head of the reply after reading, or the fault
abbrev pub head_after : {A : Type 0} → Bool → Sections A → Result Unit MessageFault → Result head.FetchHead MessageFault
head_after direct sections (Ok done) = Ok (head_steps.head_by direct sections.ready sections.acks.ids)
head_after direct sections (Err fault) = Err fault

abbrev pub no_reading : Reading
no_reading = sha1_reading false 0 Plain
