use Rattle.sb_local.proofs.Places.{each_is_sent_or_denied, sent_calls_are_for_the_broker, statements_had_places}
use Rattle.sb_local.proofs.laws.statements_had_their_places.Goals as goal

pub returns-clause-places : goal.returns-clause-places
returns-clause-places c = statements_had_places

pub returns-clause-each : goal.returns-clause-each
returns-clause-each c = each_is_sent_or_denied

pub returns-clause-sent : goal.returns-clause-sent
returns-clause-sent c = sent_calls_are_for_the_broker
