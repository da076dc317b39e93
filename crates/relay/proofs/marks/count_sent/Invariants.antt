use Rattle.std.proofs.Common.{◌≡◌, take}
use Rattle.relay.specs.Marks.{mark_in}
use Rattle.relay.specs.Parts.Pages.{AreSent}
use Rattle.relay.proofs.marks.count_sent.Given as goal

abbrev pub invariant-loop-letter : goal.invariant-loop-letter
invariant-loop-letter l = (l.count ≡ l.letter-index) × AreSent (mark_in l.fn.marks) (take l.count l.letters)
