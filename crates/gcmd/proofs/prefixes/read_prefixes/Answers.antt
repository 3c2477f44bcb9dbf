use Rattle.std.proofs.Common.{◌<◌, ℕ, List, length, Err, inr, subst, ◌∙◌, arith}
use Rattle.std.proofs.lemmas.Result.{err_from_is_err_and}
use Rattle.gname.specs.Names.{IsPrefix, Owns, prefix_fault}
use Rattle.gcmd.proofs.PrefixLemmas.{prefixes_more, refuses_prefix, refuses_prefixes, words_more}
use Rattle.gcmd.proofs.prefixes.read_prefixes.Goals as goal

pub loop-word-preserved : goal.loop-word-preserved
loop-word-preserved g c =
    let inside : c.loop-word.word-index < length c.args.words.now = omega arith in
    record {
      same =
          words_more c.args.words.now c.loop-word.word-index c.word-item.result inside c.word-item.is c.loop-word.prefixes.items
          c.keep.new.prefixes.items c.in_ok-prefix.prefix c.loop-word.invariant.same
          (c.in_ok-prefix.ensures.0 ∙ c.as_bytes.ensures.value) c.in_ok-keep.ensures.kept;
      prefixes =
          prefixes_more c.args.words.now c.loop-word.word-index c.word-item.result inside c.word-item.is
          c.loop-word.invariant.prefixes (subst IsPrefix c.as_bytes.ensures.value c.in_ok-prefix.ensures.1);
    }

pub returns-in_err-prefix : goal.returns-in_err-prefix
returns-in_err-prefix g c =
    let p = err_from_is_err_and c.from_residual.result c.from_residual.ensures.1 in
    let inside : c.loop-word.word-index < length c.args.words.now = omega arith in
    let cause = c.in_err-prefix.field-0.0 in
    rw p.1
    (refuses_prefixes _ cause p.0
    (refuses_prefix c.args.words.now c.loop-word.word-index c.word-item.result inside c.word-item.is cause
    c.loop-word.invariant.prefixes
    (subst (λ (text : List ℕ). Owns prefix_fault text (Err cause)) c.as_bytes.ensures.value c.in_err-prefix.ensures))
    p.2)

pub returns-in_err-keep : goal.returns-in_err-keep
returns-in_err-keep g c =
    let p = err_from_is_err_and c.from_residual-in_err-keep.result c.from_residual-in_err-keep.ensures.1 in
    let inside : c.loop-word.word-index < length c.args.words.now = omega arith in
    rw p.1
    (refuses_prefixes _ c.in_err-keep.field-0.0 p.0
    (refuses_prefix c.args.words.now c.loop-word.word-index c.word-item.result inside c.word-item.is c.in_err-keep.field-0.0
    c.loop-word.invariant.prefixes
    (inr (c.in_err-keep.ensures.fault, subst IsPrefix c.as_bytes.ensures.value c.in_ok-prefix.ensures.1)))
    p.2)
