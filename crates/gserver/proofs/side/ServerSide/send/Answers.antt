use Rattle.std.proofs.Common.{◌∙◌, Ok, inr, refl, subst, sym}
use Rattle.gparts.specs.Parts.{given_by}
use Rattle.ganswer.specs.Answers.{FetchRefuses}
use Rattle.gserver.specs.Fetching.{SaysFetch}
use Rattle.gserver.proofs.SideLemmas.{some_same}
use Rattle.gserver.proofs.side.ServerSide.send.Goals as goal

pub returns-in-Ok-spoken-clause-sends : goal.returns-in-Ok-spoken-clause-sends
returns-in-Ok-spoken-clause-sends g c = λ repo some said goes says.
    record {
      found = c.in_ok-opened-in-Some.opened;
      packer = c.in-Ok.packer;
      opens = subst (λ it. g.H.Host.opens c.args.self.now.host.now it (Ok c.in_ok-opened-in-Some.opened))
          (some_same c.in-Some.repo repo (sym c.in-Some.is ∙ some)) c.in_ok-opened-in-Some.ensures;
      served = refl;
      same = c.in-Ok.ensures;
      sends = subst (λ s. SaysFetch s (given_by g.R.PartPacker.packs c.in-Ok.packer) (g.R.PartPacker.pack_fails c.in-Ok.packer) c.args.asked.now.asked c.args.self.now.ends c.args.goes_on said goes)
          c.server.ensures (c.in-Ok-spoken.ensures said goes says);
    }

pub returns-in-Err-clause-sends : goal.returns-in-Err-clause-sends
returns-in-Err-clause-sends g c = λ repo some. inr (record {
  found = c.in_ok-opened-in-Some.opened;
  packer = c.in-Ok.packer;
  opens = subst (λ it. g.H.Host.opens c.args.self.now.host.now it (Ok c.in_ok-opened-in-Some.opened))
      (some_same c.in-Some.repo repo (sym c.in-Some.is ∙ some)) c.in_ok-opened-in-Some.ensures;
  served = refl;
  same = c.in-Ok.ensures;
  fault = record {
    fault = c.in-Err.fault;
    can = subst (λ s. FetchRefuses s (g.R.PartPacker.pack_fails c.in-Ok.packer) c.args.asked.now.asked c.in-Err.fault) c.server.ensures c.in-Err.ensures;
    keeps = c.words-in-Err.ensures.kept;
    words = c.words-in-Err.ensures.words;
  };
})
