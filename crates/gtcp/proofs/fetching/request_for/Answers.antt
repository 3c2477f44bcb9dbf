use Rattle.std.proofs.Common.{◌≡◌, ◌≤◌, length, ap, subst, ◌∙◌, arith}
use Rattle.std.proofs.lemmas.List.{take_all}
use Rattle.grequest.specs.Asked.{LsRefsAsked}
use Rattle.gtcp.specs.Sockets.{FitPrefixes, asked_for}
use Rattle.gtcp.proofs.fetching.request_for.Goals as goal

pub returns : goal.returns
returns g c =
    let prefixes = c.args.prefixes.now in
    let past : length prefixes ≤ c.loop-prefix.prefix-index = omega (arith, c.loop-prefix-test.false) in
    let same : c.loop-prefix.asked.asked ≡ asked_for prefixes =
    c.loop-prefix.invariant.same ∙ ap asked_for (take_all c.loop-prefix.prefix-index prefixes past) in
    (same, subst FitPrefixes (ap (λ (asked : LsRefsAsked). asked.prefixes) same) c.loop-prefix.invariant.fits)
