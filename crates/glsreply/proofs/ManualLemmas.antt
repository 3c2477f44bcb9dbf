-- A reply whose texts the parser accepts is a complete list of packets for the judge, with the same value.
use Rattle.std.proofs.Common.{◌≡◌, ℕ, suc, ◌+◌, ◌-◌, ◌<◌, ◌≤◌, Bool, true, false, nat_eq, List, [], ◌∷◌, ◌++◌, length, take, drop, map, ◌==◌, codes, Option, Some, None, Result, Ok, Err, refl, sym, ap, subst, ◌∙◌, append_assoc, append-nil, arith, length-append}
use Rattle.std.specs.Prelude.{All}
use Rattle.std.specs.List.{starts_with}
use Rattle.std.proofs.lemmas.Bool.{lt-ltb, cond_both}
use Rattle.std.proofs.lemmas.Bool.Decides.{Decides-eqb}
use Rattle.std.proofs.lemmas.List.{length_push, map-append}
use Rattle.std.proofs.lemmas.List.Elements.{All-head, All-tail}
use Rattle.std.proofs.lemmas.Slice.Eq.{starts_is}
use Rattle.std.proofs.Math.Bool.{or-false}
use Rattle.gpkt.specs.Packets.{Packet, Data, Flush, text}
use Rattle.gname.specs.declared.formats.Format.{Format}
use Rattle.gname.specs.declared.formats.Format.TheVariants.{Sha1, Sha256}
use Rattle.ggrammar.specs.Grammar.{Verdict, Open, IsOpen, IsWhole, if_room}
use Rattle.ggrammar.specs.Endings.{ends_with}
use Rattle.ggrammar.specs.Ids.{id_of_text}
use Rattle.ggrammar.specs.PeerErrors.{after_word, peer_error, unless_error}
use Rattle.ggrammar.specs.Texts.{texts_of}
use Rattle.ggrammar.specs.declared.ends.Ends.{Ends}
use Rattle.ggrammar.specs.declared.ends.Ends.TheVariants.{Plain, Response}
use Rattle.ggrammar.specs.declared.fault.Why.{Why}
use Rattle.ggrammar.specs.declared.fault.Why.TheVariants.{BadId}
use Rattle.ggrammar.proofs.TextLemmas.{tested}
use Rattle.glsreply.specs.RefTexts.{RefLine, parts_of, line_of, line_of_parts, FirstForm, UnbornForm, RefForm, first_form, first_of_parts}
use Rattle.glsreply.specs.LsReplies.{LsReply, Says, max_lines, is_over, unborn_in, unborn_of, ref_lines, judge_line, judge_first, within_limit, judge_text, judge_at, judge}
use Rattle.glsreply.proofs.StateLemmas.{GrammarsAreExact, texts_push, over_push, unborn_is_no_line, unborn_gives_none, ref_lines-cons}
use Rattle.glsreply.proofs.LawLemmas.{ends_so}

-- ---- the replies of the manual, with the parser in place of the manual's grammar of texts

-- the text is parsed as the line of a ref
abbrev pub SaysRef : Format → List ℕ → Type 0
SaysRef format line = (ref : RefLine) × (line_of format line ≡ Ok ref)

-- the payload that is parsed as the unborn HEAD, or no payload if there is no unborn HEAD
abbrev pub SaysUnborn : Option (List ℕ) → List (List ℕ) → Type 0
SaysUnborn None payloads = payloads ≡ []
SaysUnborn (Some target) payloads =
    (payload : List ℕ) × (payloads ≡ payload ∷ []) × (first_form (text payload) ≡ UnbornForm (Ok target))

-- the packets are a reply with this value, if its texts are parsed
pub record IsReadReply (format : Format) (ends : Ends) (packets : List Packet) (reply : LsReply) : Type 0 where
  pub first : List (List ℕ)
  pub refs : List (List ℕ)
  pub parts : packets ≡ map Data (first ++ refs) ++ Flush ∷ ends_with ends
  pub is_first : SaysUnborn reply.unborn first
  pub are_refs : All (SaysRef format) (map text refs)
  pub few : length (first ++ refs) ≤ max_lines
  pub lines : reply.lines ≡ ref_lines format (map text refs)

-- ---- payloads that report an error, none of which is a line

err_text : (rest : List ℕ) → (more : List ℕ) × (text (codes "ERR " ++ rest) ≡ codes "ERR " ++ more)
err_text [] = ([], refl)
err_text (r ∷ rest) =
    let shorter : suc (suc (suc (suc (suc (length rest))))) - 1 ≡ suc (suc (suc (suc (length rest)))) = omega arith in
    cond_both _ (take (suc (suc (suc (suc (suc (length rest))))) - 1) (codes "ERR " ++ r ∷ rest))
    (codes "ERR " ++ r ∷ rest) (λ (cut : List ℕ). (more : List ℕ) × (cut ≡ codes "ERR " ++ more))
    (λ _. (take (length rest) (r ∷ rest), ap (λ (n : ℕ). take n (codes "ERR " ++ r ∷ rest)) shorter)) (λ _. (r ∷ rest, refl))

err_parts : (more : List ℕ) → parts_of (codes "ERR " ++ more) ≡ codes "ERR" ∷ parts_of more
unfolding parts_of
err_parts more = refl

err_is_no_id : (format : Format) (parts : List (List ℕ)) → line_of_parts format (codes "ERR" ∷ parts) ≡ Err BadId
unfolding id_of_text
err_is_no_id Sha1 parts = refl
err_is_no_id Sha256 parts = refl

error_parts : (payload said : List ℕ) → peer_error payload ≡ Some said → (parts : List (List ℕ)) × (parts_of (text payload) ≡ codes "ERR" ∷ parts)
unfolding after_word
error_parts payload said e =
    let h = tested (starts_with nat_eq payload (codes "ERR ")) (Some (drop 4 payload)) said e in
    let begins = (starts_is Decides-eqb payload (codes "ERR ") (starts_with nat_eq payload (codes "ERR ")) refl).0 h.0 in
    let cut = err_text (drop 4 payload) in
    (parts_of cut.0, ap (λ (p : List ℕ). parts_of (text p)) begins ∙ (ap parts_of cut.1 ∙ err_parts cut.0))

error_is_no_line : (format : Format) (payload said : List ℕ) → peer_error payload ≡ Some said → line_of format (text payload) ≡ Err BadId
unfolding line_of
error_is_no_line format payload said e =
    let h = error_parts payload said e in ap (line_of_parts format) h.1 ∙ err_is_no_id format h.0

error_is_not_unborn : (payload said : List ℕ) → peer_error payload ≡ Some said → first_form (text payload) ≡ RefForm
unfolding first_form
error_is_not_unborn payload said e = let h = error_parts payload said e in ap first_of_parts h.1

no_error : (said : Option (List ℕ)) → ((x : List ℕ) → said ≡ Some x → ⊥) → said ≡ None
no_error None never = refl
no_error (Some x) never = absurd (never x refl)

line_is_no_error : (format : Format) (payload : List ℕ) (ref : RefLine) → line_of format (text payload) ≡ Ok ref → peer_error payload ≡ None
line_is_no_error format payload ref e =
    no_error (peer_error payload) (λ said h. let no : Err BadId ≡ Ok ref = sym (error_is_no_line format payload said h) ∙ e in cc)

unborn_is_no_error : (payload : List ℕ) (target : Result (List ℕ) Why) → first_form (text payload) ≡ UnbornForm target → peer_error payload ≡ None
unborn_is_no_error payload target e =
    no_error (peer_error payload) (λ said h. let no : RefForm ≡ UnbornForm target = sym (error_is_not_unborn payload said h) ∙ e in cc)

-- ---- the verdict on a line of the manual

form_of_ref : (format : Format) (line : List ℕ) (ref : RefLine) → line_of format line ≡ Ok ref → first_form line ≡ RefForm
form_of_ref format line ref e = by_form (first_form line) refl where
  by_form : (form : FirstForm) → first_form line ≡ form → form ≡ RefForm
  by_form RefForm h = refl
  by_form (UnbornForm target) h = absurd (let no : Err BadId ≡ Ok ref = sym (unborn_is_no_line format line target h) ∙ e in cc)

ref_text_goes : (format : Format) (count : ℕ) (line : List ℕ) (ref : RefLine) → line_of format line ≡ Ok ref → count < max_lines → judge_text format count line ≡ Open
ref_text_goes format count line ref e room =
    let judged = cond_both (count == 0) (judge_first format line (first_form line)) (judge_line (line_of format line))
    (λ (verdict : Verdict). verdict ≡ Open)
    (λ _. ap (judge_first format line) (form_of_ref format line ref e) ∙ ap judge_line e) (λ _. ap judge_line e) in
    ap (within_limit count) judged ∙ ap if_room (lt-ltb count max_lines room)

data_is : (format : Format) (ends : Ends) (over : Bool) (count : ℕ) (payload : List ℕ) → over ≡ false → peer_error payload ≡ None
    → judge_at format ends over count (Data payload) ≡ judge_text format count (text payload)
unfolding judge_at
data_is format ends true count payload at none = absurd cc
data_is format ends false count payload at none = ap (λ (said : Option (List ℕ)). unless_error said (judge_text format count (text payload))) none

ref_goes : (format : Format) (ends : Ends) (front : List Packet) (payload : List ℕ) → is_over front ≡ false → SaysRef format (text payload)
    → length (texts_of front) < max_lines → judge format ends front (Data payload) ≡ Open
ref_goes format ends front payload at ref room =
    data_is format ends (is_over front) (length (texts_of front)) payload at (line_is_no_error format payload ref.0 ref.1)
    ∙ ref_text_goes format (length (texts_of front)) (text payload) ref.0 ref.1 room

unborn_goes : (format : Format) (ends : Ends) (payload target : List ℕ) → first_form (text payload) ≡ UnbornForm (Ok target) → judge format ends [] (Data payload) ≡ Open
unborn_goes format ends payload target e =
    data_is format ends false 0 payload refl (unborn_is_no_error payload (Ok target) e)
    ∙ ap (λ (form : FirstForm). within_limit 0 (judge_first format (text payload) form)) e

-- ---- the completeness of the manual's replies

record IsBody (format : Format) (ends : Ends) (front : List Packet) (count : ℕ) : Type 0 where
  pub goes : IsOpen (judge format ends) front
  pub at : is_over front ≡ false
  pub texts : length (texts_of front) ≡ count

body_push : GrammarsAreExact → (format : Format) (ends : Ends) (front : List Packet) (payload : List ℕ) (count : ℕ) → IsBody format ends front count
    → judge format ends front (Data payload) ≡ Open → IsBody format ends (front ++ Data payload ∷ []) (count + 1)
body_push laws format ends front payload count body goes = record {
  goes = (laws (judge format ends)).goes_on front (Data payload) body.goes goes;
  at = over_push front (Data payload) ∙ (or-false (is_over front) ∙ body.at);
  texts = ap (λ (texts : List (List ℕ)). length texts) (texts_push front (Data payload)) ∙ (length_push (texts_of front) (text payload) ∙ ap (λ (n : ℕ). n + 1) body.texts);
}

refs_body : GrammarsAreExact → (format : Format) (ends : Ends) (front : List Packet) (count : ℕ) (refs : List (List ℕ)) → IsBody format ends front count
    → All (SaysRef format) (map text refs) → count + length refs ≤ max_lines → IsBody format ends (front ++ map Data refs) (count + length refs)
refs_body laws format ends front count [] body are few =
    subst (λ (packets : List Packet). IsBody format ends packets (count + 0)) (sym (append-nil front)) (subst (IsBody format ends front) (omega arith) body)
refs_body laws format ends front count (payload ∷ refs) body are few =
    let room : length (texts_of front) < max_lines = omega (arith, body.texts, few) in
    let next = body_push laws format ends front payload count body (ref_goes format ends front payload body.at (All-head (SaysRef format) (text payload) (map text refs) are) room) in
    let all = refs_body laws format ends (front ++ Data payload ∷ []) (count + 1) refs next (All-tail (SaysRef format) (text payload) (map text refs) are) (omega (arith, few)) in
    subst (λ (packets : List Packet). IsBody format ends packets (count + suc (length refs))) (append_assoc front (Data payload ∷ []) (map Data refs))
    (subst (IsBody format ends ((front ++ Data payload ∷ []) ++ map Data refs)) (omega arith) all)

first_body : GrammarsAreExact → (format : Format) (ends : Ends) (unborn : Option (List ℕ)) (first : List (List ℕ)) → SaysUnborn unborn first → IsBody format ends (map Data first) (length first)
first_body laws format ends None first h =
    subst (λ (payloads : List (List ℕ)). IsBody format ends (map Data payloads) (length payloads)) (sym h)
    (record { goes = (laws (judge format ends)).nothing; at = refl; texts = refl })
first_body laws format ends (Some target) first h =
    subst (λ (payloads : List (List ℕ)). IsBody format ends (map Data payloads) (length payloads)) (sym h.1)
    (body_push laws format ends [] h.0 0 (record { goes = (laws (judge format ends)).nothing; at = refl; texts = refl }) (unborn_goes format ends h.0 target h.2))

pub texts_sent : (ends : Ends) (payloads : List (List ℕ)) → texts_of (map Data payloads ++ Flush ∷ ends_with ends) ≡ map text payloads
texts_sent Plain [] = refl
texts_sent Response [] = refl
texts_sent ends (payload ∷ payloads) = ap (λ (texts : List (List ℕ)). text payload ∷ texts) (texts_sent ends payloads)

-- the value that the texts of a reply in the manual encode
says_unborn : (format : Format) (unborn : Option (List ℕ)) (first refs : List (List ℕ)) → SaysUnborn unborn first → All (SaysRef format) (map text refs)
    → unborn_of (map text (first ++ refs)) ≡ unborn
says_unborn format None first [] h are = ap (λ (payloads : List (List ℕ)). unborn_of (map text (payloads ++ []))) h
says_unborn format None first (payload ∷ refs) h are =
    let ref = All-head (SaysRef format) (text payload) (map text refs) are in
    ap (λ (payloads : List (List ℕ)). unborn_of (map text (payloads ++ payload ∷ refs))) h ∙ ap unborn_in (form_of_ref format (text payload) ref.0 ref.1)
says_unborn format (Some target) first refs h are =
    ap (λ (payloads : List (List ℕ)). unborn_of (map text (payloads ++ refs))) h.1 ∙ ap unborn_in h.2

says_refs : (format : Format) (unborn : Option (List ℕ)) (first refs : List (List ℕ)) → SaysUnborn unborn first
    → ref_lines format (map text (first ++ refs)) ≡ ref_lines format (map text refs)
says_refs format None first refs h = ap (λ (payloads : List (List ℕ)). ref_lines format (map text (payloads ++ refs))) h
says_refs format (Some target) first refs h =
    ap (λ (payloads : List (List ℕ)). ref_lines format (map text (payloads ++ refs))) h.1
    ∙ (ref_lines-cons format (text h.0) (map text refs)
    ∙ ap (λ (lines : List RefLine). lines ++ ref_lines format (map text refs)) (unborn_gives_none format (text h.0) (Ok target) h.2))

pub manual_says : GrammarsAreExact → (format : Format) (ends : Ends) (packets : List Packet) (reply : LsReply) → IsReadReply format ends packets reply → Says format ends packets reply
manual_says laws format ends packets reply h =
    let few : length h.first + length h.refs ≤ max_lines = omega (arith, h.few, length-append h.first h.refs) in
    let body = refs_body laws format ends (map Data h.first) (length h.first) h.refs (first_body laws format ends reply.unborn h.first h.is_first) h.are_refs few in
    let parts = ap (λ (sent : List Packet). sent ++ Flush ∷ ends_with ends) (map-append Data h.first h.refs) in
    let whole = subst (IsWhole (judge format ends)) (sym (h.parts ∙ parts)) (ends_so laws format ends (map Data h.first ++ map Data h.refs) body.goes body.at) in
    let texts : texts_of packets ≡ map text (h.first ++ h.refs) = ap texts_of h.parts ∙ texts_sent ends (h.first ++ h.refs) in
    let unborn : unborn_of (texts_of packets) ≡ reply.unborn = ap unborn_of texts ∙ says_unborn format reply.unborn h.first h.refs h.is_first h.are_refs in
    let lines : ref_lines format (texts_of packets) ≡ reply.lines = ap (ref_lines format) texts ∙ (says_refs format reply.unborn h.first h.refs h.is_first ∙ sym h.lines) in
    record { whole = whole; says = λ i. record { unborn = sym unborn i; lines = sym lines i } }
