-- An error packet begins neither an advertisement nor a reply.
use Rattle.std.proofs.Common.{[], ◌∷◌, ◌++◌, ◌≡◌, ◌∙◌, ◌≤◌, ℕ, Bool, true, false, List, length, codes, Option, Some}
use Rattle.std.proofs.Common.{refl, sym, ap, arith, append_assoc, length-append}
use Rattle.gname.specs.declared.formats.Format.{Format}
use Rattle.gpkt.specs.Laws.{CanonicalSpells, Fits, OneReading}
use Rattle.gpkt.specs.Packets.{Bytes, Data, Packet, SpellsAll, canonical, canonical_all, line_feed}
use Rattle.gpkt.specs.Packets.{payload_of, text}
use Rattle.ggrammar.specs.Faults.{kept_text}
use Rattle.ggrammar.specs.Grammar.{IsOpen, IsWhole, Judge, Open, Refused, Whole}
use Rattle.ggrammar.specs.PeerErrors.{after_word, peer_error, unless_error}
use Rattle.ggrammar.specs.Texts.{text_packet}
use Rattle.ggrammar.specs.declared.ends.Ends.{Ends}
use Rattle.ggrammar.specs.declared.fault.Why.{Why}
use Rattle.ggrammar.specs.declared.fault.Why.TheVariants.{RemoteErr}
use Rattle.ghello.specs.Adverts as advert
use Rattle.ghello.specs.Adverts.{judge_at as advert_judge_at}
use Rattle.glsreply.specs.LsReplies as refs
use Rattle.glsreply.specs.LsReplies.{judge_at as refs_judge_at}
use Rattle.gfetchreply.specs.FetchReplies as objects
use Rattle.gfetchreply.specs.FetchReplies.{Reading, State, first_place, judge_at as objects_judge_at, judge_payload, judge_there}
use Rattle.gjoined.proofs.Bytes.{none_whole}

-- the packet that reports an error with this text
abbrev pub error_packet : Bytes → Packet
error_packet said = text_packet (codes "ERR " ++ said)

-- the rest of the packet's payload further `ERR `
abbrev rest_of : Bytes → Bytes
rest_of said = said ++ line_feed ∷ []

abbrev reason_of : Bytes → Why
reason_of said = RemoteErr (kept_text (rest_of said))

is_error : (said : List ℕ) → peer_error ((codes "ERR " ++ said) ++ line_feed ∷ []) ≡ Some (rest_of said)
unfolding after_word
is_error said = refl

-- ---- every judge refuses an error packet at the beginning

advert_refuses : (said : List ℕ) → advert.judge [] (error_packet said) ≡ Refused (reason_of said)
unfolding advert_judge_at
advert_refuses said =
    let line = text (payload_of (error_packet said)) in
    ap (λ (found : Option (List ℕ)). unless_error found (advert.judge_text 0 0 line)) (is_error said)

refs_refuse : (format : Format) (ends : Ends) (said : List ℕ)
    → refs.judge format ends [] (error_packet said) ≡ Refused (reason_of said)
unfolding refs_judge_at
refs_refuse format ends said =
    let line = text (payload_of (error_packet said)) in
    ap (λ (found : Option (List ℕ)). unless_error found (refs.judge_text format 0 line)) (is_error said)

there_judged : (reading : Reading) (direct : Bool) (state : State) (payload : List ℕ)
    → judge_there reading (first_place direct) state (Data payload)
    ≡ unless_error (peer_error payload) (judge_payload reading (first_place direct) state payload)
there_judged reading true state payload = refl
there_judged reading false state payload = refl

objects_refuse : (reading : Reading) (said : List ℕ)
    → objects.judge reading [] (error_packet said) ≡ Refused (reason_of said)
unfolding objects_judge_at
objects_refuse reading said =
    let payload = payload_of (error_packet said) in
    let state = objects.state_of reading [] in
    there_judged reading reading.direct state payload
    ∙ ap (λ (found : Option (List ℕ)). unless_error found (judge_payload reading (first_place reading.direct) state payload))
    (is_error said)

-- ---- no message begins with a packet that is refused at the beginning

first_refused : (judge : Judge) (front : List Packet) (last first : Packet) (later : List Packet) (why : Why)
    → first ∷ later ≡ front ++ last ∷ [] → IsOpen judge front → judge front last ≡ Whole
    → judge [] first ≡ Refused why → ⊥
first_refused judge [] last first later why parts goes ends refused =
    let same : first ≡ last = cc in
    let wrong : Refused why ≡ Whole = sym refused ∙ ap (judge []) same ∙ ends in
    absurd (cc)
first_refused judge (packet ∷ front) last first later why parts goes ends refused =
    let same : first ≡ packet = cc in
    let wrong : Refused why ≡ Open = sym refused ∙ ap (judge []) same ∙ goes.each [] packet front refl in
    absurd (cc)

-- the laws of error packets
pub record ErrorLaws : Type 0 where
  pub spells : CanonicalSpells
  pub reading : OneReading

-- the bytes of an error packet
abbrev pub error_bytes : Bytes → Bytes
error_bytes said = canonical_all (error_packet said ∷ [])

error_fits : (said : List ℕ) → length said ≤ 128 → Fits (error_packet said)
error_fits said short = simp length-append (omega arith)

begins_refused : ErrorLaws → (judge : Judge) (lines : List Packet) (front rest said : List ℕ) → length said ≤ 128
    → judge [] (error_packet said) ≡ Refused (reason_of said) → IsWhole judge lines → SpellsAll lines front
    → front ++ rest ≡ error_bytes said → ⊥
begins_refused laws judge [] front rest said short refused whole spelt same = none_whole whole refl
begins_refused laws judge (line ∷ lines) front rest said short refused whole (first, later, parts, spelt, more) same =
    let packet = error_packet said in
    let one = laws.reading line packet first (canonical packet) (later ++ rest) [] spelt
    (laws.spells packet (error_fits said short))
    (sym (append_assoc first later rest) ∙ ap (λ (l : List ℕ). l ++ rest) (sym parts) ∙ same) in
    first_refused judge whole.front whole.last line lines (reason_of said) whole.parts whole.goes whole.ends
    (ap (judge []) one.0 ∙ refused)

pub no_advert : ErrorLaws → (lines : List Packet) (front rest said : List ℕ) → length said ≤ 128
    → IsWhole advert.judge lines → SpellsAll lines front → front ++ rest ≡ error_bytes said → ⊥
no_advert laws lines front rest said short whole spelt same =
    begins_refused laws advert.judge lines front rest said short (advert_refuses said) whole spelt same

pub no_refs : ErrorLaws → (format : Format) (ends : Ends) (lines : List Packet) (front rest said : List ℕ)
    → length said ≤ 128 → IsWhole (refs.judge format ends) lines → SpellsAll lines front
    → front ++ rest ≡ error_bytes said → ⊥
no_refs laws format ends lines front rest said short whole spelt same =
    begins_refused laws (refs.judge format ends) lines front rest said short (refs_refuse format ends said) whole spelt same

pub no_objects : ErrorLaws → (reading : Reading) (lines : List Packet) (front rest said : List ℕ) → length said ≤ 128
    → IsWhole (objects.judge reading) lines → SpellsAll lines front → front ++ rest ≡ error_bytes said → ⊥
no_objects laws reading lines front rest said short whole spelt same =
    begins_refused laws (objects.judge reading) lines front rest said short (objects_refuse reading said) whole spelt same
