use Rattle.std.proofs.Common.{◌≢◌, [], ◌∷◌, ◌++◌, All}
use Rattle.std.proofs.lemmas.List.Elements.{All-push}
use Rattle.gitobjects.proofs.PartsLemmas.{ended_by-more}
use Rattle.gitobjects.proofs.listing.listed_stems.Goals as goal

pub loop-name-preserved : goal.loop-name-preserved
loop-name-preserved g c =
    let inv = c.loop-name.invariant in
    let name = c.in-Some.name.now in (
      inv.0 ++ name ∷ [],
      ended_by-more 0 c.args.names.now inv.0 name c.loop-name.rest.now c.in-Some.after.now inv.1 c.in-Some.ensures.parts.1,
      All-push (All (λ b. b ≢ 0)) inv.0 name inv.2 c.in-Some.ensures.parts.0,
      c.in_ok-push_stem.ensures inv.0 inv.3,
    )
