use Rattle.std.proofs.Common.{◌≡◌, ◌++◌, ◌∷◌, [], ℕ, List, ap, sym, ◌∙◌}
use Rattle.std.proofs.lemmas.List.{append-nil}
use Rattle.std.proofs.lemmas.Result.{err_from_is_err_and}
use Rattle.arrayvec.specs.ArrayVec.{ArrayVec}
use Rattle.gobject.specs.steps.PlainPackReading.{separator_byte}
use Rattle.gobject.proofs.PlainPackFeed.{feeds_then, feeds_more, feeds_part, nil-of_empty}
use Rattle.gobject.proofs.PlainPackLines.{IsPart-nil}
use Rattle.gobject.proofs.plain_pack.feed.PlainFeed.end_part.Goals as goal

-- the part that was moved out of the feed has the stored bytes
kept : (part moved : ArrayVec ℕ) (bytes : List ℕ) → moved ≡ part → bytes ≡ moved.items → part.items ++ [] ≡ bytes
kept part moved bytes is lent = append-nil part.items ∙ sym (ap (λ (v : ArrayVec ℕ). v.items) is) ∙ sym lent

pub returns-then-is_empty : goal.returns-then-is_empty
returns-then-is_empty g c =
    let none : c.args.self.now.part.items ≡ [] = nil-of_empty c.args.self.now.part.items (sym c.is_empty.ensures ∙ c.if-is_empty.true) in
    feeds_part c.args.self.now (record { lines = c.take_part.new.self; part = c.args.self.now.part }) c.args.text.now c.args.text.now c.args.separator c.take_part.result c.requires
    (ap (λ (part : List ℕ). part ++ c.args.text.now) none) none c.take_part.ensures

pub returns-in_err-keep : goal.returns-in_err-keep
returns-in_err-keep g c =
    let p = err_from_is_err_and c.from_residual.result c.from_residual.ensures.1 in
    rw (p.1, p.2) (feeds_more c.args.self.now c.keep.new.self c.keep.new.self c.args.text.now (separator_byte c.args.separator ∷ []) c.in_err-keep.field-0.0 c.in_err-keep.ensures)

pub returns : goal.returns
returns g c =
    let whole : c.keep.new.self.part.items ++ [] ≡ c.as_slice.result.now = kept c.keep.new.self.part c.replace-part.result c.as_slice.result.now c.replace-part.ensures.value c.as_slice.ensures.value in
    let none : c.replace-part.new.dest.items ≡ [] = ap (λ (v : ArrayVec ℕ). v.items) c.replace-part.ensures.after ∙ c.new.ensures in
    feeds_then c.args.self.now c.keep.new.self (record { lines = c.take_part-2.new.self; part = c.replace-part.new.dest }) c.args.text.now (separator_byte c.args.separator ∷ []) c.take_part-2.result c.in_ok-keep.ensures
    (feeds_part c.keep.new.self (record { lines = c.take_part-2.new.self; part = c.replace-part.new.dest }) [] c.as_slice.result.now c.args.separator c.take_part-2.result IsPart-nil whole none c.take_part-2.ensures)
