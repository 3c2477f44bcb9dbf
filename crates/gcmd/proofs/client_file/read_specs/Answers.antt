use Rattle.std.proofs.Common.{◌<◌, ℕ, List, length, Err, sym, subst, arith}
use Rattle.std.specs.Prelude.{string_bytes}
use Rattle.std.proofs.lemmas.Result.{err_from_is_err_and}
use Rattle.grefs.specs.Refspecs.{IsSpec, Reads}
use Rattle.grefs.specs.declared.refspec.fault.SpecFault.{SpecFault}
use Rattle.gcmd.proofs.ReportLemmas.{refuses_specs, refuses_word, specs_more}
use Rattle.gcmd.proofs.client_file.read_specs.Goals as goal

pub loop-word-preserved : goal.loop-word-preserved
loop-word-preserved g c =
    let inside : c.loop-word.word-index < length c.args.words.now = omega arith in
    rw c.in_ok-keep.ensures.kept
    (specs_more c.args.words.now c.loop-word.word-index c.word-item.result c.loop-word.specs.items inside c.word-item.is
    c.loop-word.invariant c.in_ok-spec.spec
    (subst (λ (text : List ℕ). IsSpec text c.in_ok-spec.spec) c.as_bytes.ensures.value c.in_ok-spec.ensures))

pub returns-in_err-spec : goal.returns-in_err-spec
returns-in_err-spec g c =
    let p = err_from_is_err_and c.from_residual.result c.from_residual.ensures.1 in
    let inside : c.loop-word.word-index < length c.args.words.now = omega arith in
    rw p.1
    (refuses_specs _ c.in_err-spec.field-0.0 p.0
    (refuses_word c.args.words.now c.loop-word.word-index c.word-item.result c.loop-word.specs.items inside c.word-item.is
    c.loop-word.invariant c.in_err-spec.field-0.0
    (subst (λ (text : List ℕ). Reads (IsSpec text) (Err c.in_err-spec.field-0.0)) c.as_bytes.ensures.value c.in_err-spec.ensures))
    p.2)

pub returns-in_err-keep : goal.returns-in_err-keep
returns-in_err-keep g c =
    let p = err_from_is_err_and c.from_residual-in_err-keep.result c.from_residual-in_err-keep.ensures.1 in
    let inside : c.loop-word.word-index < length c.args.words.now = omega arith in
    let kept = λ (fault : SpecFault). Reads (IsSpec (string_bytes c.word-item.result)) (Err fault) in
    rw p.1
    (refuses_specs _ c.in_err-keep.field-0.0 p.0
    (refuses_word c.args.words.now c.loop-word.word-index c.word-item.result c.loop-word.specs.items inside c.word-item.is
    c.loop-word.invariant c.in_err-keep.field-0.0
    (subst kept (sym c.in_err-keep.ensures.fault) (c.in_ok-spec.spec, subst (λ (text : List ℕ). IsSpec text c.in_ok-spec.spec) c.as_bytes.ensures.value c.in_ok-spec.ensures)))
    p.2)
