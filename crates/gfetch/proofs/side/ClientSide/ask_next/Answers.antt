use Rattle.std.proofs.Common.{◌∙◌, inl, inr, refl, sym, ap, arith}
use Rattle.gname.specs.declared.formats.Format.{Format}
use Rattle.grequest.specs.Asked.{Empty}
use Rattle.grequest.specs.RequestValues.{asked_by_request}
use Rattle.grequest.specs.RequestWriting.{canonical_request}
use Rattle.gfetch.proofs.SideLemmas.{lacked, rest_then, request_fault, request_fewer, settles_next}
use Rattle.gfetch.proofs.side.ClientSide.ask_next.Goals as goal

pub returns-then-not-is_due-clause-goes : goal.returns-then-not-is_due-clause-goes
returns-then-not-is_due-clause-goes g c = λ pending going said goes may.
    let format = rw c.session-session.ensures at c.format-format.ensures in
    let undue = sym (rw c.session-session.ensures at c.is_due.ensures) ∙ c.if-not-is_due.true in
    inr (inl (record {
      settles_next = settles_next c.args.self.now.client.session pending going undue;
      all = may.1.1.0 ∙ c.request.ensures ∙ ap (λ (f : Format). canonical_request f Empty) format;
      ended = may.0;
      same = refl {a = c.args.self.now.client};
      fault = refl {a = c.args.self.now.fault};
    }))

pub returns-in-Ok-clause-goes : goal.returns-in-Ok-clause-goes
returns-in-Ok-clause-goes g c = λ pending going said goes may.
    let format = rw c.session-session.ensures at c.format-format.ensures in
    let asked = asked_by_request c.in-Ok.request in
    inl (record {
      asked = asked;
      asks = c.in-Ok.ensures.requests;
      all = may.0 ∙ c.request-in-Ok.ensures ∙ ap (λ (f : Format). canonical_request f asked) format;
      goes_on = may.1;
      repo = c.in-Ok.ensures.repo;
      unborn = c.in-Ok.ensures.unborn;
      fault = refl {a = c.args.self.now.fault};
    })

pub returns-in-Ok-clause-fewer : goal.returns-in-Ok-clause-fewer
returns-in-Ok-clause-fewer g c = λ reply is.
    let old = c.args.self.now.client in
    let count = rw c.session.ensures at c.rounds-rounds.ensures.rounds in
    request_fewer old.session _ old.repo.graph.entries (asked_by_request c.in-Ok.request) (omega (arith, count)) c.in-Ok.ensures.requests

pub returns-in-Err-clause-goes : goal.returns-in-Err-clause-goes
returns-in-Err-clause-goes g c = λ pending going said goes may.
    let old = c.args.self.now in
    let s = old.client.session in
    let due = sym (rw c.session-session.ensures at c.is_due.ensures) ∙ c.if-not-is_due.false in
    let f = request_fault s _ old.client.repo.graph.entries c.in-Err.fault due c.in-Err.ensures.requests in
    inr (inr (lacked old c.fail.new.self c.request-2.new.self c.fail.result c.in-Err.fault said goes c.fail.ensures.silent may
    c.fail.ensures.fault c.fail.ensures.client f.1 f.0 c.in-Err.ensures.repo c.in-Err.ensures.unborn))

pub returns-in-Err-clause-fewer : goal.returns-in-Err-clause-fewer
returns-in-Err-clause-fewer g c = λ reply is. absurd (cc (sym c.fail.ensures.silent ∙ is))

pub returns-in-Ok-clause-stays : goal.returns-in-Ok-clause-stays
returns-in-Ok-clause-stays g c = record { indexer = record { value = refl; in_place = refl }; repo = c.in-Ok.ensures.repo }

pub returns-in-Err-clause-stays : goal.returns-in-Err-clause-stays
returns-in-Err-clause-stays g c = rest_then c.args.self.now c.fail.new.self c.request-2.new.self c.in-Err.ensures.repo c.fail.ensures.stays
