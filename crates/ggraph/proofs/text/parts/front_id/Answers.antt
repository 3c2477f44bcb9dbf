use Rattle.std.proofs.Common.{refl}
use Rattle.ggraph.proofs.LowerDigits.{lower_is_text, text_is_lower}
use Rattle.ggraph.proofs.TextLemmas.{no_id_short, no_id_fault, no_id_upper, id_here}
use Rattle.ggraph.proofs.text.parts.front_id.Goals as goal

pub returns-then-text-length : goal.returns-then-text-length
returns-then-text-length c = no_id_short c.text_laws.ensures c.args.format c.args.text.now (rw c.id_text_length-length.ensures at c.if-text-length.true)

pub returns-then-is_lower : goal.returns-then-is_lower
returns-then-is_lower c =
    let same = lower_is_text c.split_at.result.0.now c.in-Ok.id c.in-Ok.ensures.0.spells (c.if-is_lower.ensures.0 refl) in
    let length = c.id_text_length-length.ensures in (
      id_here c.text_laws.ensures c.args.format c.args.text.now c.split_at.result.0.now c.split_at.result.1.now c.in-Ok.id (rw length at c.split_at.ensures.front) (rw length at c.split_at.ensures.back) same,
      same,
      c.in-Ok.ensures.1,
    )

pub returns-else-is_lower : goal.returns-else-is_lower
returns-else-is_lower c =
    no_id_upper c.text_laws.ensures c.args.format c.args.text.now c.split_at.result.0.now c.in-Ok.id (rw c.id_text_length-length.ensures at c.split_at.ensures.front) c.in-Ok.ensures (λ same. (let lower = c.is_lower.ensures.1 (text_is_lower c.split_at.result.0.now c.in-Ok.id c.in-Ok.ensures.0.spells same) in cc))

pub returns-in-Err : goal.returns-in-Err
returns-in-Err c = no_id_fault c.text_laws.ensures c.args.format c.args.text.now c.split_at.result.0.now c.in-Err.field-0 (rw c.id_text_length-length.ensures at c.split_at.ensures.front) c.in-Err.ensures
