-- The encodings of the models of sources and sinks as pairs, which generated contracts use.
use Rattle.std.specs.Coded.{Coded, code_by, coded×, coded_bool, coded_list, coded_ℕ}
use Rattle.std.specs.Prelude.{ℕ, Bool, refl}
use Rattle.gpkt.specs.Devices.{Device, Written}
use Rattle.gpkt.specs.Packets.{Bytes}

-- the encoding of a source or sink as a pair of its two fields
abbrev pub device_code : {X : Type 0} → Coded X → Coded (Device X)
device_code {X} code =
    code_by (X × Bool) (coded× code coded_bool) (λ d. (d.inner, d.down))
    (λ p. record { inner = p.0; down = p.1 }) (λ _. refl)

-- the encoding of bytes as a list of numbers
abbrev pub bytes_code : Coded Bytes
bytes_code = coded_list coded_ℕ

-- the encoding of a sink in memory by its four fields
abbrev pub written_code : Coded Written
written_code =
    code_by (Bytes × (Bytes × (ℕ × Bool))) (coded× bytes_code (coded× bytes_code (coded× coded_ℕ coded_bool)))
    (λ w. (w.bytes, (w.passed_on, (w.flushes, w.down))))
    (λ p. record { bytes = p.0; passed_on = p.1.0; flushes = p.1.1.0; down = p.1.1.1 }) (λ _. refl)
