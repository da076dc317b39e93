use Rattle.std.proofs.Common.{refl}
use Rattle.stomp_frame.proofs.AsIs.{ends_are}
use Rattle.stomp_frame.proofs.octets.as_is.ends_of_8.Goals as goal

pub returns : goal.returns
returns c = ends_are c.args.text.now 8 16 c.requires refl
