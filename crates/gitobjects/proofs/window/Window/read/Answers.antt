use Rattle.std.proofs.Common.{◌≡◌, ◌+◌, ◌-◌, ◌%◌, None, length, subst, ap, ◌∙◌, arith}
use Rattle.std.specs.Prelude.{slice_index_or}
use Rattle.std.proofs.Math.Nat.{mod-le}
use Rattle.gitobjects.specs.Windows.{IsPartOf}
use Rattle.gitobjects.proofs.WindowLemmas.{IsPart-inner}
use Rattle.gitobjects.proofs.window.Window.read.Goals as goal

pub returns-clause-part : goal.returns-clause-part
returns-clause-part g c =
    let start = c.args.start in
    let offset = start % 1048576 in
    let below = mod-le start 1048576 in
    let sum : (start - offset) + offset ≡ start = omega (arith, below) in
    let known = slice_index_or c.args.self.now c.args.pack None in
    let block : IsPartOf c.args.self.now c.args.pack (start - offset) c.in-Some.block.now =
    subst (λ packs. IsPartOf packs c.args.pack (start - offset) c.in-Some.block.now) c.in_ok-fetch.ensures c.in-Some.ensures in
    let copy = c.in_ok-from_slice.ensures.items in
    IsPart-inner known (start - offset) offset c.args.count start c.in-Some.block.now c.in_ok-from_slice.field-0.items sum block
    c.in-Some-inner_part.ensures.fits (copy ∙ c.in-Some-inner_part.ensures.part) (ap length copy ∙ c.in-Some-inner_part.ensures.count)
