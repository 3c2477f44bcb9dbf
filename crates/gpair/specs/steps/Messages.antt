-- Definitions for private functions and proofs: the model of a sink that holds a message back.
use Rattle.std.specs.Prelude.{ℕ, Bool, refl}
use Rattle.std.specs.Coded.{Coded, code_by, coded×, coded_bool, coded_ℕ}
use Rattle.gpkt.specs.steps.Devices.{bytes_code}
use Rattle.gpkt.specs.Packets.{Bytes}
use Rattle.gpair.specs.Messages.{Holding}

-- the encoding of a message sink as a tuple of its six parts, for executable contracts
abbrev pub holding_code : {W : Type 0} → Coded W → Coded (Holding W)
holding_code {W} code =
    code_by (W × (Bytes × (ℕ × (Bool × (Bool × Bool)))))
    (coded× code (coded× bytes_code (coded× coded_ℕ (coded× coded_bool (coded× coded_bool coded_bool)))))
    (λ h. (h.inner, (h.held, (h.flushed, (h.too_long, (h.lacks_memory, h.down))))))
    (λ p. record {
      inner = p.0;
      held = p.1.0;
      flushed = p.1.1.0;
      too_long = p.1.1.1.0;
      lacks_memory = p.1.1.1.1.0;
      down = p.1.1.1.1.1;
    }) (λ _. refl)
