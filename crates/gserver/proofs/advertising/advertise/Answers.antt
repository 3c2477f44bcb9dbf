use Rattle.std.proofs.Common.{Ok, Err, inr}
use Rattle.gpkt.specs.declared.fault.WriteFault.{WriteFault}
use Rattle.gserver.proofs.OpeningLemmas.{sent_advert}
use Rattle.gserver.proofs.advertising.advertise.Goals as goal

pub returns-in-Ok-send_advert-clause-advertises : goal.returns-in-Ok-send_advert-clause-advertises
returns-in-Ok-send_advert-clause-advertises g c =
    sent_advert {E = WriteFault} c.args.server.now.graph.format _ _ (Ok tt) c.in-Ok.ensures.advert c.in-Ok-send_advert.ensures.sent

pub returns-clause-advertises : goal.returns-clause-advertises
returns-clause-advertises g c =
    inr (sent_advert {E = WriteFault} c.args.server.now.graph.format _ _ (Err c.in-Err-send_advert.field-0) c.in-Ok.ensures.advert c.in-Err-send_advert.ensures.sent)
