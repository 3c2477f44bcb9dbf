-- Adding a line to a reply.
use Rattle.std.proofs.Common.{◌≡◌, ℕ, ◌<◌, true, List, [], ◌∷◌, ◌++◌, Option, Some, None, Result, Ok, Err, refl, sym, ap, subst, ◌∙◌, arith}
use Rattle.std.specs.Prelude.{All, IfSome}
use Rattle.std.specs.Option.{option_map_or}
use Rattle.std.proofs.lemmas.Bool.{and_parts, ltb-true}
use Rattle.std.proofs.lemmas.List.{length_push}
use Rattle.std.proofs.lemmas.List.Elements.{All-cons, All-nil, All-head, All-append}
use Rattle.gname.specs.Ids.{IsId, IsIdOf, format_of}
use Rattle.gname.specs.Laws.{IdsHaveOneFormat}
use Rattle.gname.specs.declared.formats.Format.{Format}
use Rattle.gname.specs.declared.formats.Format.TheVariants.{Sha1, Sha256}
use Rattle.ggrammar.specs.declared.fault.MessageFault.{MessageFault}
use Rattle.ggrammar.specs.Building.{IsBuildReason}
use Rattle.glsreply.specs.RefTexts.{RefLine}
use Rattle.glsreply.specs.LsReplies.{LsReply, max_lines}
use Rattle.glsreply.specs.steps.WellFormed.{IsLine, Adds}
use Rattle.glsreply.specs.WellFormed.{IsRefLine, IsLsReplyIn, IsReplyValue, BeginsIn, is_format, has_format_of}
use Rattle.glsreply.specs.WellFormed.{has_one_format, line_count, has_room, Pushes}

same_format : (a b : Format) → is_format a b ≡ true → a ≡ b
same_format Sha1 Sha1 e = refl
same_format Sha256 Sha256 e = refl
same_format a b e = cc

pub is_format-same : (a : Format) → is_format a a ≡ true
is_format-same Sha1 = refl
is_format-same Sha256 = refl

module _ (law : IdsHaveOneFormat) where
  -- ---- ids of the same format

  id_in : (format : Format) (line : RefLine) (id : List ℕ) → format_of line.id ≡ format → has_format_of line id ≡ true → IsId id → IsIdOf format id
  id_in format line id same goes h = subst (λ (f : Format). IsIdOf f id) (same_format (format_of id) (format_of line.id) goes ∙ same) h

  peeled_in : (format : Format) (line : RefLine) (peeled : Option (List ℕ)) → format_of line.id ≡ format → option_map_or (has_format_of line) peeled true ≡ true
      → IfSome peeled IsId → IfSome peeled (IsIdOf format)
  peeled_in format line None same goes h = tt
  peeled_in format line (Some id) same goes h = id_in format line id same goes h

  line_in_format : (format : Format) (line : RefLine) → IsLine line → format_of line.id ≡ format → option_map_or (has_format_of line) line.peeled true ≡ true → IsRefLine format line
  line_in_format format line h same goes = record {
    id = subst (λ (f : Format). IsIdOf f line.id) same h.id;
    name = h.name;
    symref = h.symref;
    peeled = peeled_in format line line.peeled same goes h.peeled;
  }

  lines_in_format : (format : Format) (lines : List RefLine) (line : RefLine) → All (IsRefLine format) lines → IsLine line → has_one_format lines line ≡ true
      → (f : Format) × All (IsRefLine f) (lines ++ line ∷ [])
  lines_in_format format [] line all h goes =
      let parts = and_parts true (option_map_or (has_format_of line) line.peeled true) goes in
      (format_of line.id, All-cons (IsRefLine (format_of line.id)) line [] (line_in_format (format_of line.id) line h refl parts.1) (All-nil (IsRefLine (format_of line.id))))
  lines_in_format format (first ∷ lines) line all h goes =
      let parts = and_parts (has_format_of line first.id) (option_map_or (has_format_of line) line.peeled true) goes in
      let head = All-head (IsRefLine format) first lines all in
      let same : format_of line.id ≡ format = sym (same_format (format_of first.id) (format_of line.id) parts.0) ∙ (law format first.id head.id).1 in
      (format, All-append (IsRefLine format) (first ∷ lines) (line ∷ []) all (All-cons (IsRefLine format) line [] (line_in_format format line h same parts.1) (All-nil (IsRefLine format))))

  -- ---- the format of a reply

  lines_begin : (other format : Format) (lines : List RefLine) → All (IsRefLine other) lines → BeginsIn format lines → All (IsRefLine format) lines
  lines_begin other format [] all begins = All-nil (IsRefLine format)
  lines_begin other format (line ∷ lines) all begins =
      let is = (All-head (IsRefLine other) line lines all).id in
      subst (λ (f : Format). All (IsRefLine f) (line ∷ lines)) (sym (law other line.id is).1 ∙ (law format line.id begins).1) all

  -- a valid reply is valid in the format of its first id
  pub value_in : (reply : LsReply) → IsReplyValue reply → (format : Format) → BeginsIn format reply.lines → IsLsReplyIn format reply
  value_in reply h format begins =
      record { unborn = h.1.unborn; lines = lines_begin h.0 format reply.lines h.1.lines begins; few = h.1.few }

  -- ---- the reply with the line

  pub value_pushed : (reply : LsReply) (line : RefLine) → IsReplyValue reply → IsLine line → has_one_format reply.lines line ≡ true → line_count reply < max_lines
      → IsReplyValue (record { unborn = reply.unborn; lines = reply.lines ++ line ∷ [] })
  value_pushed reply line h is goes room =
      let all = lines_in_format h.0 reply.lines line h.1.lines is goes in
      (all.0, record { unborn = h.1.unborn; lines = all.1; few = (let long = length_push reply.lines line in omega (arith, long, room)) })

  -- ---- a push

  module _ (reply : LsReply) (line : RefLine) (h : IsReplyValue reply) (is : IsLine line) where
    pub pushed_value : (lines : List RefLine) (result : Result Unit MessageFault) → Adds reply.lines line lines result → has_one_format reply.lines line ≡ true
        → has_room reply ≡ true → IsReplyValue (record { unborn = reply.unborn; lines = lines })
    pushed_value lines (Ok done) e goes room =
        subst (λ (l : List RefLine). IsReplyValue (record { unborn = reply.unborn; lines = l })) (sym e) (value_pushed reply line h is goes (ltb-true _ _ room))
    pushed_value lines (Err fault) e goes room =
        subst (λ (l : List RefLine). IsReplyValue (record { unborn = reply.unborn; lines = l })) (sym e.0) h

    pub pushes : (lines : List RefLine) (result : Result Unit MessageFault) → Adds reply.lines line lines result → has_one_format reply.lines line ≡ true
        → has_room reply ≡ true → Pushes reply line (record { unborn = reply.unborn; lines = lines }) result
    pushes lines (Ok done) e goes room = (goes, room, ap (λ (l : List RefLine). record { unborn = reply.unborn; lines = l }) e)
    pushes lines (Err fault) e goes room = (
      e.1,
      ap (λ (l : List RefLine). record { unborn = reply.unborn; lines = l }) e.0,
      subst (IsBuildReason (has_one_format reply.lines line) (has_room reply)) (sym e.2) (goes, room),
    )

  module _ (old reply : LsReply) (line : RefLine) (same : reply ≡ old) (h : IsReplyValue reply) (is : IsLine line) (goes : has_one_format old.lines line ≡ true)
      (room : has_room old ≡ true) (lines : List RefLine) (result : Result Unit MessageFault) (adds : Adds reply.lines line lines result)
    where
      here : has_one_format reply.lines line ≡ true
      here = subst (λ (r : LsReply). has_one_format r.lines line ≡ true) (sym same) goes

      room_here : has_room reply ≡ true
      room_here = subst (λ (r : LsReply). has_room r ≡ true) (sym same) room

      pub pushed_value_at : IsReplyValue (record { unborn = reply.unborn; lines = lines })
      pushed_value_at = pushed_value reply line h is lines result adds here room_here

      pub pushes_at : Pushes old line (record { unborn = reply.unborn; lines = lines }) result
      pushes_at = subst (λ (r : LsReply). Pushes r line (record { unborn = reply.unborn; lines = lines }) result) same (pushes reply line h is lines result adds here room_here)
