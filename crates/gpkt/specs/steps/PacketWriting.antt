-- The encoding of a packet writer's model.
use Rattle.std.specs.Coded.{Coded, code_by, coded×, coded_bool}
use Rattle.std.specs.Prelude.{Bool, refl}
use Rattle.gpkt.specs.PacketWriting.{Writer}

-- the encoding of a packet writer as a pair of its two fields
abbrev pub writer_code : {W : Type 0} → Coded W → Coded (Writer W)
writer_code {W} code =
    code_by (W × Bool) (coded× code coded_bool) (λ w. (w.sink, w.failed))
    (λ p. record { sink = p.0; failed = p.1 }) (λ _. refl)
