use Rattle.std.proofs.Common.{List, ℕ, inl, inr, refl, subst, ◌∙◌}
use Rattle.gpkt.specs.Sending.{output_of}
use Rattle.gcmd.specs.Fetching.{SendsReport}
use Rattle.gtcp.proofs.remote.show_reply.Goals as goal

pub returns-in-Ok : goal.returns-in-Ok
returns-in-Ok g c =
    let output = output_of g.W.Sink.contents g.W.Sink.passed_on g.W.Sink.is_down c.args.output.now c.send_text.new.report in (
      inl (subst (λ (bytes : List ℕ). SendsReport bytes output c.send_text.result) (c.as_slice.ensures.value ∙ c.in-Ok.ensures) c.send_text.ensures.sends),
      c.send_text.ensures.loans,
    )

pub returns-in-Err : goal.returns-in-Err
returns-in-Err g c = (inr (refl, record { written = refl; passed_on = refl; down = refl }), refl)
