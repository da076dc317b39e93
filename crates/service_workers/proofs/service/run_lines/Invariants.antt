use Rattle.std.specs.Prelude.{if◌then◌else◌, ◌==◌}
use Rattle.service_workers.proofs.service.run_lines.Given as goal

-- the links with which the connections of this run began
abbrev pub ghosts-run_named : goal.ghosts-run_named
ghosts-run_named g a = record {
  begun = λ number. if number == 0 then a.held.zero.link else a.held.one.link;
}
