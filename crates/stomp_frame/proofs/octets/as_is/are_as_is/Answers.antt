use Rattle.stomp_frame.proofs.AsIs.{vector_is}
use Rattle.stomp_frame.proofs.octets.as_is.are_as_is.Goals as goal

pub returns : goal.returns
returns g c = vector_is c.args.octets g.row.N c.fits-octets.0 c.requires
