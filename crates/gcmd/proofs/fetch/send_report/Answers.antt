use Rattle.std.proofs.Common.{List, ℕ, inl, inr, refl, subst, ◌∙◌}
use Rattle.gpkt.specs.Sending.{output_of}
use Rattle.gcmd.specs.Fetching.{SendsReport}
use Rattle.gcmd.proofs.fetch.send_report.Goals as goal

pub returns-in-Ok-clause-reports : goal.returns-in-Ok-clause-reports
returns-in-Ok-clause-reports g c =
    let report = output_of g.R.Sink.contents g.R.Sink.passed_on g.R.Sink.is_down c.args.report.now c.send_text.new.report in
    inl (subst (λ (bytes : List ℕ). SendsReport bytes report c.send_text.result) (c.as_slice.ensures.value ∙ c.in-Ok.ensures) c.send_text.ensures.sends)

pub returns-in-Err-clause-reports : goal.returns-in-Err-clause-reports
returns-in-Err-clause-reports g c = inr (refl, record { written = refl; passed_on = refl; down = refl })
