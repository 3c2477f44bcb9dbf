use Rattle.std.proofs.Common.{◌≡◌, List, [], ◌∷◌, ◌++◌, map, refl, sym, ap, ◌∙◌}
use Rattle.gpkt.specs.Packets.{Flush}
use Rattle.ggrammar.specs.Capabilities.{Capability}
use Rattle.ghello.specs.Adverts.{capability_packet}
use Rattle.ghello.proofs.advert.write_advert.Goals as goal

pub returns-in_err-write_version-clause-lines : goal.returns-in_err-write_version-clause-lines
returns-in_err-write_version-clause-lines g c =
    c.writes_packets.ensures.fails _ _ _ _ _ _ _ _ _ (c.writes_packets.ensures.starts _ _) refl c.in_err-write_version.ensures c.from_residual.ensures.1

pub returns-in_err-write_capabilities-clause-lines : goal.returns-in_err-write_capabilities-clause-lines
returns-in_err-write_capabilities-clause-lines g c =
    let same : c.args.advert.now ≡ c.as_slice-capabilities.result.now = sym c.advert.view_is ∙ sym c.as_slice-capabilities.ensures.value in
    let begun = c.writes_packets.ensures.goes_on _ _ _ _ _ _ _ (c.writes_packets.ensures.starts _ _) refl c.in_ok-write_version.ensures in
    c.writes_packets.ensures.fails _ _ _ _ _ _ _ _ _ begun (ap (λ (xs : List Capability). map capability_packet xs ++ Flush ∷ []) same)
    c.in_err-write_capabilities.ensures c.from_residual-in_err-write_capabilities.ensures.1

pub returns-clause-lines : goal.returns-clause-lines
returns-clause-lines g c =
    let same : c.args.advert.now ≡ c.as_slice-capabilities.result.now = sym c.advert.view_is ∙ sym c.as_slice-capabilities.ensures.value in
    let begun = c.writes_packets.ensures.goes_on _ _ _ _ _ _ _ (c.writes_packets.ensures.starts _ _) refl c.in_ok-write_version.ensures in
    let listed = c.writes_packets.ensures.after_part _ _ _ _ _ _ _ begun (ap (λ (xs : List Capability). map capability_packet xs ++ Flush ∷ []) same) c.in_ok-write_capabilities.ensures in
    c.writes_packets.ensures.ends _ _ _ _ _ _ listed c.write_flush.ensures
