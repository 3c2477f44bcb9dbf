use Rattle.std.proofs.Common.{◌≤◌, ◌∷◌, ◌++◌, [], arith, length, refl, subst}
use Rattle.gitconfig.specs.Values.{HasPieces}
use Rattle.gitconfig.proofs.ValueLemmas.{pieces_end, pieces_more, pushed, value_end, value_start}
use Rattle.gitconfig.proofs.reading.read_value.Goals as goal

pub loop-piece-init : goal.loop-piece-init
loop-piece-init g c = ([], value_start _ c.new.ensures.items refl, λ more after has. has, omega arith)

pub loop-piece-preserved : goal.loop-piece-preserved
loop-piece-preserved g c =
    let inv = c.loop-piece.invariant in
    let piece = c.in-Some.piece in
    let text = c.args.text.now in let rest = c.loop-piece.rest.now in let next = c.in-Some.after.now in
    let before : length rest ≤ length text = inv.3 in (
      inv.0 ++ piece ∷ [],
      pushed inv.0 piece c.loop-piece.value c.push.new.self c.in_ok-push.ensures.value inv.1,
      λ more after has. pieces_more c.loop-piece.value.is_quoted text rest next after inv.0 more piece inv.2 c.in-Some.ensures.piece
          (subst (λ q. HasPieces q next more after) c.in_ok-push.ensures.quoted has),
      omega (arith, before, c.in-Some.ensures.shorter),
    )

pub returns-clause-value : goal.returns-clause-value
returns-clause-value g c =
    let inv = c.loop-piece.invariant in (
      inv.0,
      pieces_end c.loop-piece.value.is_quoted c.args.text.now c.loop-piece.rest.now inv.0 inv.2 c.if-value.false (c.ends_value.ensures.0 c.if-not-ends_value.false),
      value_end _ c.loop-piece.value _ inv.1 c.truncate.ensures.items,
    )
