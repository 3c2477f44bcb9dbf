use Rattle.std.proofs.Common.{◌≡◌, false, refl, sym, ap, ◌∙◌}
use Rattle.gpkt.specs.PacketReading.{Reader}
use Rattle.gpkt.proofs.Ending.{HasRead-at_fault, IsReadFault-of_new, IsNewFault-other}
use Rattle.gpkt.proofs.reading.PacketReader.next.Goals as goal

pub returns-in-Err : goal.returns-in-Err
returns-in-Err g c =
    let said = c.in-Err.ensures in
    let was = c.if-self.false in (
      (
        refl,
        (λ _. tt),
        rw (← c.self.view_is) (HasRead-at_fault _ _ _ _ _ _ was refl said.faults said.down said.bytes said.loans),
      ),
      record {
        refused = (λ e. absurd (IsNewFault-other _ said.faults cc), λ e. let open_was : c.args.self.now.failed ≡ false = sym (ap (λ (r : Reader g.row.S.Denot). r.failed) c.self.view_is) ∙ was in cc);
        limit = tt;
        faults = IsReadFault-of_new _ said.faults;
        rests = tt;
      },
    )
