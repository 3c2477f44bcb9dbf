-- The encoding of a packet reader's model.
use Rattle.std.specs.Coded.{Coded, code_by, coded×, coded_bool}
use Rattle.std.specs.Prelude.{Bool, refl}
use Rattle.gpkt.specs.PacketReading.{Reader}

-- the encoding of a packet reader as a pair of its two fields
abbrev pub reader_code : {S : Type 0} → Coded S → Coded (Reader S)
reader_code {S} code =
    code_by (S × Bool) (coded× code coded_bool) (λ r. (r.source, r.failed))
    (λ p. record { source = p.0; failed = p.1 }) (λ _. refl)
