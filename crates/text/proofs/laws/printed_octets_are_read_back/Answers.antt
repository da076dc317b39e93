use Rattle.std.proofs.Common.{arith}
use Rattle.text.proofs.Escapes.{spelled_back}
use Rattle.text.proofs.laws.printed_octets_are_read_back.Goals as goal

pub returns : goal.returns
returns c = spelled_back c.args.octets.now (λ i. omega (arith, c.type_inv.octets i))
