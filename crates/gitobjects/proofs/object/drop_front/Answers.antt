use Rattle.std.proofs.Common.{◌≡◌, ◌+◌, ◌-◌, length, take, drop, ap, ◌∙◌, arith, rules, length-drop, take_all}
use Rattle.std.proofs.Math.Seq.{paste}
use Rattle.std.proofs.lemmas.List.{with_items_is, places}
use Rattle.std.proofs.lemmas.List.Edits.{take-paste}
use Rattle.gitobjects.proofs.object.drop_front.Goals as goal

pub returns : goal.returns
returns g c =
    let count = c.args.count in
    let all = c.as_mut_slice.result.now in
    let rest = drop count all in
    let left = c.len-length.result - count in
    let long : length all ≡ c.len-length.result = search rules in
    let same : left ≡ 0 + left = omega arith in
    let size : length rest ≡ left = omega (arith, length-drop count all) in
    let moved : c.copy_within.new.self ≡ paste all 0 rest left = c.copy_within.ensures.after in
    c.truncate.ensures.items ∙ ap (take left) (with_items_is c.args.text.now c.copy_within.new.self (search (rules, places)) ∙ moved)
    ∙ ap (λ k. take k (paste all 0 rest left)) same ∙ take-paste all 0 rest left (omega arith) (omega arith)
    ∙ take_all left rest (omega arith) ∙ ap (drop count) c.as_mut_slice.ensures.value
