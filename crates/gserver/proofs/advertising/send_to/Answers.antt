use Rattle.gserver.proofs.SendingLemmas.{passed_failed, passed_pushed}
use Rattle.gserver.proofs.advertising.send_to.Goals as goal

pub returns-in_err-write_advert-clause-sent : goal.returns-in_err-write_advert-clause-sent
returns-in_err-write_advert-clause-sent g c =
    passed_failed g.W.Sink.contents g.W.Sink.passed_on g.W.Sink.is_down g.W.Sink.loans _ _ _ _ _ c.requires c.in_err-write_advert.ensures.lines
    c.from_residual.ensures.1

pub returns-clause-sent : goal.returns-clause-sent
returns-clause-sent g c =
    passed_pushed g.W.Sink.contents g.W.Sink.passed_on g.W.Sink.is_down g.W.Sink.loans c.writes_join.ensures.pushed
    _ _ _ _ c.push.result c.in_ok-write_advert.ensures.lines c.push.ensures
