use Rattle.std.proofs.Common.{◌≡◌, string_bytes, take}
use Rattle.std.specs.List.{flat_map}
use Rattle.schedule_shows.specs.Printed.{frame_line}
use Rattle.schedule_shows.proofs.frames.show_frames.Given as goal

abbrev pub invariant-loop-letter : goal.invariant-loop-letter
invariant-loop-letter l = string_bytes l.lines ≡ flat_map frame_line (take l.letter-index l.letters)
