use Rattle.std.proofs.Common.{◌≤◌, length, take}
use Rattle.std.specs.Io.KnownBytes.{Appends}
use Rattle.streams.proofs.writing.write_octets.Given as goal

abbrev pub invariant-loop : goal.invariant-loop
invariant-loop g l = record {
  within : l.written ≤ length l.octets;
  appended : Appends (g.W.Write.contents l.initial.out) (g.W.Write.contents l.out) (take l.written l.octets);
}
