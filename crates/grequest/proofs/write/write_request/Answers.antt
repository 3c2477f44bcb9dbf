use Rattle.gpkt.specs.Packets.{Flush}
use Rattle.grequest.specs.RequestWriting.{canonical_request}
use Rattle.grequest.proofs.write.write_request.Goals as goal

pub returns-in-Empty-clause-lines : goal.returns-in-Empty-clause-lines
unfolding canonical_request
returns-in-Empty-clause-lines g c =
    rw c.in-Empty.is (c.writes_packets.ensures.line _ _ _ Flush c.flush_pkt.ensures.written c.flush_pkt.ensures.fits)

pub returns-in-Ls-clause-form : goal.returns-in-Ls-clause-form
returns-in-Ls-clause-form g c = λ limits has. c.laws.ensures limits c.args.format has c.requires

pub returns-in-Fetch-clause-form : goal.returns-in-Fetch-clause-form
returns-in-Fetch-clause-form g c = λ limits has. c.laws.ensures limits c.args.format has c.requires
