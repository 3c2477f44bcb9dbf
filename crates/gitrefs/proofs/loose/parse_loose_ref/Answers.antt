use Rattle.std.proofs.Common.{sym, ◌∙◌}
use Rattle.std.proofs.lemmas.Bool.{false≢true}
use Rattle.gname.specs.Names.{Name}
use Rattle.gitrefs.specs.LooseRefs.{IsLooseRefFile, IsTarget}
use Rattle.gitrefs.proofs.LooseLemmas.{fault_of, no_end, no_file, target_of}
use Rattle.gitrefs.proofs.loose.parse_loose_ref.Goals as goal

pub returns-in-Err : goal.returns-in-Err
returns-in-Err g c =
    let text = c.args.text.now in let target = c.in-Some.target.now in
    fault_of ((name : Name) × IsTarget target name) (IsLooseRefFile text)
    (target_of c.texts_have_one_reading.ensures text target c.in-Some.ensures) c.in-Err.fault c.in-Err.ensures

pub returns-in_default-cut_id : goal.returns-in_default-cut_id
returns-in_default-cut_id g c = no_file c.args.text.now c.in_default.ensures c.in_default-cut_id.ensures

pub returns-else-ends_word : goal.returns-else-ends_word
returns-else-ends_word g c =
    no_end c.args.text.now c.in-Some-cut_id.parts.0 c.in-Some-cut_id.parts.1.now c.in_default.ensures c.in-Some-cut_id.ensures
    (λ ends. false≢true (sym c.if-ends_word.false ∙ c.ends_word.ensures.1 ends))
