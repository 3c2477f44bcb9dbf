use Rattle.std.proofs.Common.{ap}
use Rattle.grequest.specs.RequestValues.{limits_of}
use Rattle.ganswer.proofs.server.Server.answer.Goals as goal

pub returns-in_ok-reply-in-Fetch-clause-format : goal.returns-in_ok-reply-in-Fetch-clause-format
returns-in_ok-reply-in-Fetch-clause-format g c =
    (c.in-Fetch.fetch.limits, ap (λ request. limits_of request) c.in-Fetch.is, c.in_ok-reply-in-Fetch.ensures.format)
