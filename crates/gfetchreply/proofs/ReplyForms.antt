-- The kinds of texts and payloads in a reply.
use Rattle.std.proofs.Common.{◌≡◌, ℕ, Bool, true, false, cond, nat_eq, List, [], ◌∷◌, ◌++◌, length, take, codes, inl, inr, Option, Some, None, refl, sym, ap, subst, ◌∙◌, ◌-◌, suc, arith}
use Rattle.std.specs.Str.{bytes_eq}
use Rattle.std.proofs.lemmas.Bool.{and_left, cond-false, cond_both, cases_cond, eqb-true}
use Rattle.std.proofs.lemmas.Slice.Eq.{bytes_eq-Decides}
use Rattle.gpkt.specs.Packets.{text}
use Rattle.gpkt.specs.Bands.{band_form, band_at}
use Rattle.ggrammar.specs.PeerErrors.{after_word, peer_error}
use Rattle.ggrammar.proofs.TextLemmas.{follows_word}
use Rattle.gfetchreply.specs.FetchManual.{IsDataOrProgress}
use Rattle.gfetchreply.specs.FetchReplies.{ReplyForm, Acknowledgments, Nak, Readiness, Packfile, Ack, OtherForm, ack_or_other, reply_form}

-- ---- the six kinds of texts

abbrev pub IsOfForm : List ℕ → ReplyForm → Type 0
IsOfForm line Acknowledgments = line ≡ codes "acknowledgments"
IsOfForm line Nak = line ≡ codes "NAK"
IsOfForm line Readiness = line ≡ codes "ready"
IsOfForm line Packfile = line ≡ codes "packfile"
IsOfForm line (Ack id) = after_word (codes "ACK ") line ≡ Some id
IsOfForm line OtherForm = Unit {0}

ack_form : (line : List ℕ) (id : Option (List ℕ)) → after_word (codes "ACK ") line ≡ id
    → IsOfForm line (ack_or_other id)
ack_form line None e = tt
ack_form line (Some id) e = e

word_form : (line word : List ℕ) (form rest : ReplyForm) → (line ≡ word → IsOfForm line form) → IsOfForm line rest
    → IsOfForm line (cond (bytes_eq line word) form rest)
word_form line word form rest is not_it =
    cond_both (bytes_eq line word) form rest (IsOfForm line) (λ e. is ((bytes_eq-Decides line word).0 e)) (λ _. not_it)

form_of : (line : List ℕ) → IsOfForm line (reply_form line)
unfolding reply_form
form_of line =
    word_form line (codes "acknowledgments") Acknowledgments _ (λ e. e)
    (word_form line (codes "NAK") Nak _ (λ e. e)
    (word_form line (codes "ready") Readiness _ (λ e. e)
    (word_form line (codes "packfile") Packfile _ (λ e. e) (ack_form line _ refl))))

pub form_there : (line : List ℕ) (form : ReplyForm) → reply_form line ≡ form → IsOfForm line form
form_there line form e = subst (IsOfForm line) e (form_of line)

-- the kind of a text that is a single word
abbrev pub IsWord : ReplyForm → Type 0
IsWord (Ack id) = ⊥
IsWord OtherForm = ⊥
IsWord _ = Unit {0}

pub word_there : (line : List ℕ) (form : ReplyForm) → IsWord form → IsOfForm line form → reply_form line ≡ form
unfolding reply_form
word_there line Acknowledgments word e = ap reply_form e
word_there line Nak word e = ap reply_form e
word_there line Readiness word e = ap reply_form e
word_there line Packfile word e = ap reply_form e
word_there line form word e = absurd word

pub ack_form-written : (id : List ℕ) → reply_form (codes "ACK " ++ id) ≡ Ack id
unfolding reply_form after_word
ack_form-written id = refl

-- ---- texts of the grammar, which report no error

-- a nonempty text begins with the first byte of its payload
text-head : (payload : List ℕ) (byte : ℕ) (rest : List ℕ) → text payload ≡ byte ∷ rest → (more : List ℕ) × (payload ≡ byte ∷ more)
text-head [] byte rest e = absurd (let no : [] ≡ byte ∷ rest = e in cc)
text-head (first ∷ []) byte rest e =
    elim (cases_cond _ [] (first ∷ []) (byte ∷ rest) (sym e)) [
      | inl h ↦ absurd cc
      | inr h ↦ ([], (let same : first ≡ byte = cc in cc))
    ]
text-head (first ∷ second ∷ more) byte rest e =
    let shorter : suc (suc (length more)) - 1 ≡ suc (length more) = omega arith in
    elim (cases_cond _ (take (suc (suc (length more)) - 1) (first ∷ second ∷ more)) (first ∷ second ∷ more) (byte ∷ rest) (sym e)) [
      | inl h ↦ (
        second ∷ more,
        (
            let cut : byte ∷ rest ≡ first ∷ take (length more) (second ∷ more) = h ∙ ap (λ (n : ℕ). take n (first ∷ second ∷ more)) shorter in
            let same : first ≡ byte = cc in
            cc
            ),
      )
      | inr h ↦ (second ∷ more, (let same : first ≡ byte = cc in cc))
    ]

-- a payload that does not begin with `E` reports no error
reports_none : (byte : ℕ) (more : List ℕ) → nat_eq 69 byte ≡ false → peer_error (byte ∷ more) ≡ None
unfolding after_word
reports_none byte more not_e = cond-false _ _ None (and_left (nat_eq 69 byte) _ not_e)

text_reports_none : (payload : List ℕ) (byte : ℕ) (rest : List ℕ) → text payload ≡ byte ∷ rest → nat_eq 69 byte ≡ false → peer_error payload ≡ None
text_reports_none payload byte rest e not_e =
    let h = text-head payload byte rest e in ap peer_error h.1 ∙ reports_none byte h.0 not_e

after_ack : (line id : List ℕ) → after_word (codes "ACK ") line ≡ Some id → (rest : List ℕ) × (line ≡ 65 ∷ rest)
after_ack line id e = (67 ∷ 75 ∷ 32 ∷ id, follows_word (codes "ACK ") line id e)

-- the kind of a text that the grammar defines
abbrev pub IsForm : ReplyForm → Type 0
IsForm OtherForm = ⊥
IsForm _ = Unit {0}

none_by : (payload : List ℕ) (form : ReplyForm) → IsOfForm (text payload) form → IsForm form → peer_error payload ≡ None
none_by payload Acknowledgments e h = text_reports_none payload 97 _ e refl
none_by payload Nak e h = text_reports_none payload 78 _ e refl
none_by payload Readiness e h = text_reports_none payload 114 _ e refl
none_by payload Packfile e h = text_reports_none payload 112 _ e refl
none_by payload (Ack id) e h = let a = after_ack (text payload) id e in text_reports_none payload 65 a.0 a.1 refl
none_by payload OtherForm e h = absurd h

-- a payload whose text is of a kind that the grammar defines reports no error
pub form_reports_none : (payload : List ℕ) (form : ReplyForm) → reply_form (text payload) ≡ form → IsForm form → peer_error payload ≡ None
form_reports_none payload form e h = none_by payload form (form_there (text payload) form e) h

-- ---- bands

band_none : (first : ℕ) (bytes : List ℕ) (test : Bool) → nat_eq 69 first ≡ test → IsDataOrProgress (band_at first bytes) → peer_error (first ∷ bytes) ≡ None
band_none first bytes true is h = absurd (subst (λ (b : ℕ). IsDataOrProgress (band_at b bytes)) (sym (eqb-true 69 first is)) h)
band_none first bytes false is h = reports_none first bytes is

pub band_reports_none : (payload : List ℕ) → IsDataOrProgress (band_form payload) → peer_error payload ≡ None
unfolding band_form
band_reports_none [] h = absurd h
band_reports_none (first ∷ bytes) h =
    band_none first bytes _ refl h
