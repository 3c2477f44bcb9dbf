use Rattle.gfetchreply.proofs.OtherReadings as other
use Rattle.gfetchreply.proofs.laws.other_readings.Goals as goal

pub returns-clause-whatever_reading : goal.returns-clause-whatever_reading
returns-clause-whatever_reading c = other.whatever_reading

pub returns-clause-any_limit : goal.returns-clause-any_limit
returns-clause-any_limit c = other.any_limit

pub returns-clause-any_limits : goal.returns-clause-any_limits
returns-clause-any_limits c = other.any_limits

pub returns-clause-over_limit : goal.returns-clause-over_limit
returns-clause-over_limit c = other.over_limit c.grammars_are_exact.ensures c.messages_are_read.ensures
