use Rattle.std.proofs.Common.{take}
use Rattle.std.specs.List.{flat_map}
use Rattle.std.specs.Io.KnownBytes.{Appends}
use Rattle.schedule_text.specs.Words.{spelled}
use Rattle.schedule_io.proofs.writing.write_word.Given as goal

abbrev pub invariant-loop-octet : goal.invariant-loop-octet
invariant-loop-octet g l = Appends (g.W.Write.contents l.fn.out) (g.W.Write.contents l.out)
    (flat_map spelled (take l.octet-index l.octet-items))
