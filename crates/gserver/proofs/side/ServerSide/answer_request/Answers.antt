use Rattle.std.proofs.Common.{◌≡◌, IsSome, ◌∙◌, sym, subst}
use Rattle.gparts.specs.Parts.{given_by}
use Rattle.gserver.specs.Listings.{SaysLsAnswer}
use Rattle.gserver.specs.Serving.{CannotSend, LacksMemory, SendsFrom}
use Rattle.gserver.proofs.SideLemmas.{answered_so, either_so, fetch_ends, fewer_left, list_ends, quiet_so, went_on}
use Rattle.gserver.proofs.side.ServerSide.answer_request.Goals as goal

pub returns-in-Ls-clause-answers : goal.returns-in-Ls-clause-answers
returns-in-Ls-clause-answers g c = rw c.in-Ls.is (λ repo some said goes may.
    let old = c.args.self.now in
    let left = c.list-listed.new.self in
    let goes_on = c.count-goes_on.result in
    let served = g.R.ServedRepository.server repo in
    either_so said goes
    (λ l. (c.list-listed.ensures.repo ∙ some, subst (λ b. SaysLsAnswer served c.in-Ls.asked.asked old.ends b said goes) c.count-goes_on.ensures.goes l))
    (λ text why. (c.list-listed.ensures.repo ∙ some, why))
    (answered_so g.R.ServedRepository.server g.R.PartPacker.gives (SaysLsAnswer served c.in-Ls.asked.asked old.ends goes_on)
    (LacksMemory g.H.Host.says old.host.now left.fault) c.list-listed.result goes_on c.answer_of.result
    (c.list-listed.ensures.lists repo some) c.answer_of.ensures
    (list_ends g.R.ServedRepository.server g.R.PartPacker.gives served c.in-Ls.asked.asked old.ends goes_on) said goes may))

pub returns-in-Ls-clause-quiet : goal.returns-in-Ls-clause-quiet
returns-in-Ls-clause-quiet g c = λ said goes may.
    quiet_so g.R.ServedRepository.server g.R.PartPacker.gives (c.list-listed.new.self.fault ≡ c.args.self.now.fault) c.list-listed.result
    c.count-goes_on.result c.answer_of.result c.list-listed.ensures.quiet c.answer_of.ensures said goes may

pub returns-in-Ls-clause-fewer : goal.returns-in-Ls-clause-fewer
returns-in-Ls-clause-fewer g c = λ reply same.
    let counted = c.count-goes_on in
    let w = went_on g.R.ServedRepository.server g.R.PartPacker.gives (IsSome c.args.self.now.repo) c.list-listed.result counted.result c.answer_of.result reply
    c.list-listed.ensures.served c.answer_of.ensures same in
    fewer_left c.args.self.now.repo c.list-listed.new.self.repo c.args.self.now.requests c.list-listed.new.self.requests
    w.1 (subst IsSome (sym c.list-listed.ensures.repo) w.1)
    (c.list-listed.ensures.requests ∙ counted.ensures.counts) (sym counted.ensures.goes ∙ w.0)

pub returns-in-Fetch-clause-answers : goal.returns-in-Fetch-clause-answers
returns-in-Fetch-clause-answers g c = rw c.in-Fetch.is (λ repo some said goes may.
    let old = c.args.self.now in
    let left = c.send-sent.new.self in
    let goes_on = c.count-goes_on-in-Fetch.result in
    let opens = g.H.Host.opens old.host.now repo in
    either_so said goes
    (λ l. subst (λ b. SendsFrom g.R.ServedRepository.server g.H.Host.says old.host.now (given_by g.R.PartPacker.packs) g.R.PartPacker.pack_fails opens old.ends
    c.in-Fetch.asked.asked b left.repo said goes) c.count-goes_on-in-Fetch.ensures.goes l)
    (λ text why. why)
    (answered_so g.R.ServedRepository.server g.R.PartPacker.gives
    (SendsFrom g.R.ServedRepository.server g.H.Host.says old.host.now (given_by g.R.PartPacker.packs) g.R.PartPacker.pack_fails opens old.ends
    c.in-Fetch.asked.asked goes_on left.repo)
    (CannotSend g.R.ServedRepository.server g.H.Host.says old.host.now (given_by g.R.PartPacker.packs) g.R.PartPacker.pack_fails opens old.ends
    repo c.in-Fetch.asked.asked left.repo left.fault)
    c.send-sent.result goes_on c.answer_of-in-Fetch.result (c.send-sent.ensures.sends repo some) c.answer_of-in-Fetch.ensures
    (fetch_ends g.R.ServedRepository.server g.R.PartPacker.gives g.H.Host.says old.host.now (given_by g.R.PartPacker.packs) g.R.PartPacker.pack_fails opens old.ends
    c.in-Fetch.asked.asked goes_on left.repo) said goes may))

pub returns-in-Fetch-clause-quiet : goal.returns-in-Fetch-clause-quiet
returns-in-Fetch-clause-quiet g c = λ said goes may.
    quiet_so g.R.ServedRepository.server g.R.PartPacker.gives (c.send-sent.new.self.fault ≡ c.args.self.now.fault) c.send-sent.result
    c.count-goes_on-in-Fetch.result c.answer_of-in-Fetch.result c.send-sent.ensures.quiet c.answer_of-in-Fetch.ensures said goes may

pub returns-in-Fetch-clause-fewer : goal.returns-in-Fetch-clause-fewer
returns-in-Fetch-clause-fewer g c = λ reply same.
    let counted = c.count-goes_on-in-Fetch in
    let w = went_on g.R.ServedRepository.server g.R.PartPacker.gives (IsSome c.args.self.now.repo × IsSome c.send-sent.new.self.repo) c.send-sent.result
    counted.result c.answer_of-in-Fetch.result reply c.send-sent.ensures.served c.answer_of-in-Fetch.ensures same in
    fewer_left c.args.self.now.repo c.send-sent.new.self.repo c.args.self.now.requests c.send-sent.new.self.requests
    w.1.0 w.1.1 (c.send-sent.ensures.requests ∙ counted.ensures.counts) (sym counted.ensures.goes ∙ w.0)
