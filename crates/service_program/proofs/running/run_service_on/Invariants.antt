use Rattle.std.specs.Prelude.{Some, ⊤}
use Rattle.shared_endpoint.specs.Keys.{name_of}
use Rattle.service_program.specs.Lives.{IsWhole}
use Rattle.service_program.proofs.running.run_service_on.Given as goal

abbrev pub ghosts-live : goal.ghosts-live
ghosts-live g a = record {
  lock = name_of a.shared;
  sound = IsWhole g.K.Keep.seen g.H.Handler.service a.found.value;
  given = λ link. ⊤;
  found = Some a.found.value;
}
