-- The fields of a session in memory.
use Rattle.std.specs.Prelude.{option_map}
use Rattle.grequest.specs.RequestValues.{asked_by_request}
use Rattle.gsession.specs.Sessions.{SessionState}
use Rattle.gsession.specs.declared.session.Session.TheInside.{Inside}

-- the session that the fields represent
abbrev pub session_of : {A : Type 0} → Inside A → SessionState A
session_of it = record {
  format = it.format;
  refspecs = it.refspecs.items;
  limit = it.limit;
  ends = it.ends;
  options = it.options;
  tips = it.tips.items;
  offers_unborn = it.offers_unborn;
  stage = it.stage;
  pending = option_map asked_by_request it.pending;
  asks = it.asks;
  wants = it.wants.items;
  commons = it.commons.items;
  sent = it.sent.items;
  rounds = it.rounds;
}
