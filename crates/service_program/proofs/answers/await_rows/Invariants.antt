use Rattle.std.specs.Prelude.{◌≡◌}
use Rattle.shared_endpoint.specs.Keys.{IsSeatOf, seat_number}
use Rattle.service_program.proofs.answers.await_rows.Given as goal

abbrev pub invariant-loop : goal.invariant-loop
invariant-loop g l = IsSeatOf l.shared l.seat × (seat_number l.seat ≡ seat_number l.fn.seat)
