-- The side band of a payload, which its first byte selects.
use Rattle.std.proofs.Common.{◌≡◌, ℕ, Bool, true, false, if◌then◌else◌, ◌==◌, List, [], ◌∷◌, length, Result, Ok, Err, refl, sym, ap, ◌∙◌, arith}
use Rattle.std.proofs.lemmas.Bool.{eqb-true}
use Rattle.gpkt.specs.Bands.{BandPacket, Data, Progress, Fatal, band_at, band_form, band_payload, data_band, progress_band, fatal_band, BandIsRead, BandIsPayload}
use Rattle.gpkt.specs.declared.fault.BandFault.{BandFault}
use Rattle.gpkt.specs.declared.fault.BandFault.TheVariants.{NoBand, BadBand}

pub band_form-empty : (payload : List ℕ) → length payload ≡ 0 → Err NoBand ≡ band_form payload
unfolding band_form
band_form-empty [] h = refl
band_form-empty (first ∷ bytes) h = absurd (omega (arith, h))

pub band_form-first : (payload : List ℕ) (first : ℕ) (bytes : List ℕ) → payload ≡ first ∷ bytes → band_at first bytes ≡ band_form payload
unfolding band_form
band_form-first payload first bytes h = sym (ap band_form h)

pub band_is_read : BandIsRead
unfolding band_form
band_is_read (Data bytes) = refl
band_is_read (Progress bytes) = refl
band_is_read (Fatal bytes) = refl

ok_same : (x y : BandPacket) → ◌≡◌ {A = Result BandPacket BandFault} (Ok x) (Ok y) → x ≡ y
ok_same x y h = cc

-- if the tests `a`, `b` and `c` of the byte `first` select a band, `first` followed by `bytes` is the payload of this
-- band
tests_tell : (a b c : Bool) (first : ℕ) (bytes : List ℕ) (band : BandPacket)
    → (a ≡ true → first ≡ data_band) → (b ≡ true → first ≡ progress_band) → (c ≡ true → first ≡ fatal_band)
    → (if a then Ok (Data bytes) else if b then Ok (Progress bytes) else if c then Ok (Fatal bytes) else Err BadBand) ≡ Ok band
    → first ∷ bytes ≡ band_payload band
tests_tell true b c first bytes band one two three h = ap (λ n. n ∷ bytes) (one refl) ∙ ap band_payload (ok_same (Data bytes) band h)
tests_tell false true c first bytes band one two three h = ap (λ n. n ∷ bytes) (two refl) ∙ ap band_payload (ok_same (Progress bytes) band h)
tests_tell false false true first bytes band one two three h = ap (λ n. n ∷ bytes) (three refl) ∙ ap band_payload (ok_same (Fatal bytes) band h)
tests_tell false false false first bytes band one two three h = cc h

pub band_is_payload : BandIsPayload
unfolding band_form
band_is_payload [] band h = cc h
band_is_payload (first ∷ bytes) band h =
    tests_tell (first == data_band) (first == progress_band) (first == fatal_band) first bytes band (eqb-true first data_band)
    (eqb-true first progress_band) (eqb-true first fatal_band) h
