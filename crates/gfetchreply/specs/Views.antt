-- The contents of values and parameters, independent of where their bytes are in memory.
use Rattle.std.specs.Prelude.{◌≡◌, ℕ, Bool, Result, Ok, Err}
use Rattle.gname.specs.declared.formats.Format.{Format}
use Rattle.gname.specs.declared.formats.Format.TheVariants.{Sha1}
use Rattle.ggrammar.specs.Limits.{profile}
use Rattle.ggrammar.specs.declared.ends.Ends.{Ends}
use Rattle.ggrammar.specs.declared.fault.MessageFault.{MessageFault}
use Rattle.ggrammar.specs.declared.limits.Limits.{Limits}
use Rattle.gfetchreply.specs.FetchReplies.{Reading}
use Rattle.gfetchreply.specs.FetchReplies as reply
use Rattle.gfetchreply.specs.FetchHeads as head
use Rattle.gfetchreply.specs.Values.{Acks}
use Rattle.gfetchreply.specs.declared.value.FetchReply.{FetchReply}
use Rattle.gfetchreply.specs.declared.value.FetchReply.TheVariants as value
use Rattle.gfetchreply.specs.declared.value.FetchHead.{FetchHead}
use Rattle.gfetchreply.specs.declared.value.FetchHead.TheVariants as value_head
use Rattle.gfetchreply.specs.declared.reading.FetchReading.{FetchReading}

-- the contents of a reply
abbrev pub reply_in : {A : Type 0} → FetchReply A → reply.FetchReply
reply_in (value.Acks acks) = reply.Acks acks.ids
reply_in (value.Ready acks pack) = reply.Ready acks.ids pack
reply_in (value.Pack pack) = reply.Pack pack

abbrev pub head_in : {A : Type 0} → FetchHead A → head.FetchHead
head_in (value_head.Acks acks) = head.Acks acks.ids
head_in (value_head.Ready acks) = head.Ready acks.ids
head_in value_head.Pack = head.Pack

-- the acknowledgments have these limits, and all of their ids have this format
abbrev pub AreAcksOf : Limits → Format → Acks → Type 0
AreAcksOf limits format acks = (acks.limits ≡ limits) × (acks.format ≡ format)

-- if the head has acknowledgments, they have these limits, and all of their ids have this format
abbrev pub IsHeadOf : {A : Type 0} → Limits → Format → FetchHead A → Type 0
IsHeadOf limits format (value_head.Acks acks) = AreAcksOf limits format acks
IsHeadOf limits format (value_head.Ready acks) = AreAcksOf limits format acks
IsHeadOf limits format value_head.Pack = Unit {0}

abbrev pub IsReplyOf : {A : Type 0} → Limits → Format → FetchReply A → Type 0
IsReplyOf limits format (value.Acks acks) = AreAcksOf limits format acks
IsReplyOf limits format (value.Ready acks pack) = AreAcksOf limits format acks
IsReplyOf limits format (value.Pack pack) = Unit {0}

abbrev pub head_result : {A : Type 0} → Result (FetchHead A) MessageFault → Result head.FetchHead MessageFault
head_result (Ok head) = Ok (head_in head)
head_result (Err fault) = Err fault

abbrev pub reading_in : FetchReading ℕ → Reading
reading_in reading = record {
  limits = reading.limits;
  format = reading.format;
  direct = reading.direct;
  limit = reading.limit;
  ends = reading.ends;
}

abbrev pub reply_result : {A : Type 0} → Result (FetchReply A) MessageFault → Result reply.FetchReply MessageFault
reply_result (Ok found) = Ok (reply_in found)
reply_result (Err fault) = Err fault

-- the parameters of reading a reply with SHA-1 ids and the default limits
abbrev pub sha1_reading : Bool → ℕ → Ends → Reading
sha1_reading direct limit ends =
    record { limits = profile; format = Sha1; direct = direct; limit = limit; ends = ends }
