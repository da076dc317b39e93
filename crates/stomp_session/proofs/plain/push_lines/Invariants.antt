use Rattle.std.proofs.Common.{◌≡◌, ◌++◌, take}
use Rattle.stomp_frame.specs.declared.command.Command.TheVariants.{Message}
use Rattle.stomp_frame.specs.Inner.Writing.{lines_of}
use Rattle.stomp_session.proofs.plain.push_lines.Given as goal

abbrev pub invariant-loop-header : goal.invariant-loop-header
invariant-loop-header l = l.out.items ≡ l.fn.out.items ++ lines_of Message (take l.header-index l.headers)
