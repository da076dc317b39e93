use Rattle.stomp_client.proofs.Serving.{connect_is_taken, each_is_taken, all_are_taken, given_are_taken}
use Rattle.stomp_client.proofs.laws.what_a_client_wrote_is_taken.Goals as goal

pub returns-clause-connect : goal.returns-clause-connect
returns-clause-connect c = connect_is_taken

pub returns-clause-each : goal.returns-clause-each
returns-clause-each c = each_is_taken

pub returns-clause-all : goal.returns-clause-all
returns-clause-all c = all_are_taken

pub returns-clause-read : goal.returns-clause-read
returns-clause-read c = given_are_taken
