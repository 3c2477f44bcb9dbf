-- An ls-refs reply and a fetch reply differ in their first packet. An ls-refs reply begins with a flush or a text with
-- a space, and a fetch reply with a heading without a space.
use Rattle.std.proofs.Common.{◌≡◌, ◌⊎◌, ℕ, ◌==◌, Bool, true, false, if◌then◌else◌, List, [], ◌∷◌, ◌++◌, length, map, filter, codes, All, Contains, Option, Some, None, inl, inr, refl, sym, ap, subst, ◌∙◌, arith}
use Rattle.std.proofs.lemmas.Bool.{false≢true}
use Rattle.std.proofs.lemmas.List.Elements.{All-append, All-cons, All-contains, All-head, All-nil, Contains-append_left, Contains-append_right, filter_passes}
use Rattle.gpkt.specs.Laws.{OneBegins}
use Rattle.gpkt.specs.Packets.{Packet, Data, Flush, Delim, ResponseEnd, text}
use Rattle.gname.specs.declared.formats.Format.{Format}
use Rattle.ggrammar.specs.Kinds.{AsInManual}
use Rattle.ggrammar.specs.declared.ends.Ends.{Ends}
use Rattle.glsreply.specs.LsManual.{AreRefTexts, IsLsReply, IsRefText, IsUnbornFirst}
use Rattle.glsreply.specs.LsReplies as ls
use Rattle.glsreply.specs.RefTexts.{RefLine, unborn_text}
use Rattle.gfetchreply.specs.FetchManual.{IsAckReply, IsAckSection, IsBody, IsFetchReply, IsNakReply, IsPackSection}
use Rattle.gfetchreply.specs.FetchReplies.{FetchReply, Acks, Ready, Pack, Reading}
use Rattle.gfetchreply.specs.FetchReplies as fetch
use Rattle.ggrammar.specs.declared.limits.Limits.{Limits}
use Rattle.gmsg.specs.Laws.{NoneBeginsAsBoth}

-- ---- words without a space

abbrev no_space : ℕ → Bool
no_space byte = if byte == 32 then false else true

spaceless : (word : List ℕ) → filter no_space word ≡ word → ¬ (Contains word 32)
spaceless word same there =
    let all : All (λ (byte : ℕ). no_space byte ≡ true) word =
    subst (All (λ (byte : ℕ). no_space byte ≡ true)) same (filter_passes no_space word) in
    false≢true (All-contains (λ (byte : ℕ). no_space byte ≡ true) word 32 all there)

heading_spaceless : ¬ (Contains (codes "acknowledgments") 32)
heading_spaceless = spaceless (codes "acknowledgments") refl

pack_spaceless : ¬ (Contains (codes "packfile") 32)
pack_spaceless = spaceless (codes "packfile") refl

-- ---- the first packet

record BeginsSo (P : Packet → Type 0) (packets : List Packet) : Type 0 where
  first : Packet
  rest : List Packet
  parts : packets ≡ first ∷ rest
  is : P first

longer : (P : Packet → Type 0) (packets front more : List Packet) → packets ≡ front ++ more → BeginsSo P front → BeginsSo P packets
longer P packets front more same begins = record {
  first = begins.first;
  rest = begins.rest ++ more;
  parts = same ∙ ap (λ (l : List Packet). l ++ more) begins.parts;
  is = begins.is;
}

-- the packet is a flush, or its text has a space
abbrev IsSpaced : Packet → Type 0
IsSpaced (Data payload) = Contains (text payload) 32
IsSpaced Flush = Unit {0}
IsSpaced _ = ⊥

-- the packet is the heading of a section of a fetch reply
abbrev IsHeading : Packet → Type 0
IsHeading (Data payload) = (text payload ≡ codes "acknowledgments") ⊎ (text payload ≡ codes "packfile")
IsHeading _ = ⊥

not_both : (packet : Packet) → IsSpaced packet → IsHeading packet → ⊥
not_both (Data payload) spaced (inl is) = heading_spaceless (subst (λ (t : List ℕ). Contains t 32) is spaced)
not_both (Data payload) spaced (inr is) = pack_spaceless (subst (λ (t : List ℕ). Contains t 32) is spaced)
not_both Flush spaced heading = heading
not_both Delim spaced heading = spaced
not_both ResponseEnd spaced heading = spaced

not_so : (packets : List Packet) → BeginsSo IsSpaced packets → BeginsSo IsHeading packets → ⊥
not_so packets one other =
    let both : one.first ∷ one.rest ≡ other.first ∷ other.rest = sym one.parts ∙ other.parts in
    let same : other.first ≡ one.first = cc in
    not_both one.first one.is (subst (λ (p : Packet). IsHeading p) same other.is)

-- ---- the first packet of an ls-refs reply

abbrev HasSpace : List ℕ → Type 0
HasSpace payload = Contains (text payload) 32

unborn_space : (target : List ℕ) → Contains (unborn_text target) 32
unfolding unborn_text
unborn_space target =
    let long : length (codes "unborn HEAD symref-target:") ≡ 26 = refl in
    Contains-append_left (codes "unborn HEAD symref-target:") target 32 (6, omega arith, refl)

ref_space : (format : Format) (line : List ℕ) (ref : RefLine) → IsRefText format line ref → Contains line 32
ref_space format line ref is =
    let long : length (codes " ") ≡ 1 = refl in
    subst (λ (l : List ℕ). Contains l 32) (sym is.parts)
    (Contains-append_left (is.digits ++ codes " " ++ ref.name) is.attributes 32
    (Contains-append_left (is.digits ++ codes " ") ref.name 32
    (Contains-append_right is.digits (codes " ") 32 (0, omega arith, refl))))

unborn_spaced : (unborn : Option (List ℕ)) (payloads : List (List ℕ)) → IsUnbornFirst unborn payloads → All HasSpace payloads
unborn_spaced None payloads is = subst (All HasSpace) (sym is) (All-nil HasSpace)
unborn_spaced (Some target) payloads (payload, same, is, named) =
    subst (All HasSpace) (sym same)
    (All-cons HasSpace payload [] (subst (λ (t : List ℕ). Contains t 32) (sym is) (unborn_space target)) (All-nil HasSpace))

refs_spaced : (format : Format) (payloads : List (List ℕ)) (lines : List RefLine) → AreRefTexts format (map text payloads) lines → All HasSpace payloads
refs_spaced format [] lines are = All-nil HasSpace
refs_spaced format (payload ∷ payloads) [] are = absurd are
refs_spaced format (payload ∷ payloads) (line ∷ lines) are =
    All-cons HasSpace payload payloads (ref_space format (text payload) line are.0) (refs_spaced format payloads lines are.1)

begins_spaced : (payloads : List (List ℕ)) (tail : List Packet) → All HasSpace payloads → BeginsSo IsSpaced (map Data payloads ++ Flush ∷ tail)
begins_spaced [] tail all = record { first = Flush; rest = tail; parts = refl; is = tt }
begins_spaced (payload ∷ payloads) tail all =
    record { first = Data payload; rest = map Data payloads ++ Flush ∷ tail; parts = refl; is = All-head HasSpace payload payloads all }

ls_begins : (format : Format) (ends : Ends) (packets : List Packet) (reply : ls.LsReply) → IsLsReply format ends packets reply → BeginsSo IsSpaced packets
ls_begins format ends packets reply is =
    subst (BeginsSo IsSpaced) (sym is.parts)
    (begins_spaced (is.first ++ is.refs) _
    (All-append HasSpace is.first is.refs (unborn_spaced reply.unborn is.first is.is_first) (refs_spaced format is.refs reply.lines is.are_refs)))

-- ---- the first packet of a fetch reply

acks_begin : (limits : Limits) (format : Format) (packets : List Packet) (ids : List (List ℕ)) → IsAckSection limits format packets ids → BeginsSo IsHeading packets
acks_begin limits format packets ids is = record { first = Data is.heading; rest = map Data is.acks; parts = is.parts; is = inl is.is_heading }

pack_begins : (limit : ℕ) (packets : List Packet) (pack : List ℕ) → IsPackSection limit packets pack → BeginsSo IsHeading packets
pack_begins limit packets pack is =
    record { first = Data is.heading; rest = map Data is.payloads ++ Flush ∷ []; parts = is.parts; is = inr is.is_heading }

nak_or_acks : (limits : Limits) (format : Format) (packets : List Packet) (ids : List (List ℕ)) → ((ids ≡ []) × IsNakReply limits format packets) ⊎ IsAckReply limits format packets ids
    → BeginsSo IsHeading packets
nak_or_acks limits format packets ids (inl none) =
    longer IsHeading packets none.1.section _ none.1.parts (acks_begin limits format none.1.section [] none.1.acks)
nak_or_acks limits format packets ids (inr some) =
    longer IsHeading packets some.section _ some.parts (acks_begin limits format some.section ids some.acks)

body_begins : (reading : Reading) (packets : List Packet) (reply : FetchReply) → IsBody reading packets reply → BeginsSo IsHeading packets
body_begins reading packets (Acks ids) is = nak_or_acks reading.limits reading.format packets ids is.1
body_begins reading packets (Ready ids pack) is =
    longer IsHeading packets is.1.section _ is.1.parts (acks_begin reading.limits reading.format is.1.section ids is.1.acks)
body_begins reading packets (Pack pack) is = pack_begins reading.limit packets pack is.1

fetch_begins : (reading : Reading) (packets : List Packet) (reply : FetchReply) → IsFetchReply reading packets reply → BeginsSo IsHeading packets
fetch_begins reading packets reply is = longer IsHeading packets is.body _ is.parts (body_begins reading is.body reply is.is_body)

-- ---- the difference between the two kinds of reply

pub none_begins_as_both : OneBegins → ((format : Format) (ends : Ends) → AsInManual (ls.Says format ends) (IsLsReply format ends))
    → ((reading : Reading) → AsInManual (fetch.Says reading) (IsFetchReply reading)) → (format : Format) (ends : Ends) (reading : Reading)
    → NoneBeginsAsBoth (ls.judge format ends) (fetch.judge reading)
none_begins_as_both one_begins ls_manual fetch_manual format ends reading bytes (lines, rest, whole, front) (others, after, whole_too, next) =
    let spaced : BeginsSo IsSpaced lines =
    ls_begins format ends lines (ls.reply_of format lines) ((ls_manual format ends lines (ls.reply_of format lines)).0 (record { whole = whole; says = refl })) in
    let heading : BeginsSo IsHeading others =
    fetch_begins reading others (fetch.reply_of reading others) ((fetch_manual reading others (fetch.reply_of reading others)).0 (record { whole = whole_too; says = refl })) in
    elim (one_begins lines others front.front next.front rest after front.spelt next.spelt (sym front.parts ∙ next.parts)) [
      | inl shorter ↦ not_so others (longer IsSpaced others lines shorter.0 shorter.2 spaced) heading
      | inr longer_one ↦ not_so lines spaced (longer IsHeading lines others longer_one.0 longer_one.2 heading)
    ]
