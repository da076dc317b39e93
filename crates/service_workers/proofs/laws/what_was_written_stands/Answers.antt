use Rattle.std.proofs.Common.{◌≡◌}
use Rattle.shared_endpoint.specs.Keys.{Any}
use Rattle.service_workers.proofs.Lasting.{written_stands}
use Rattle.service_workers.proofs.laws.what_was_written_stands.Goals as goal

pub returns : goal.returns
returns g c = λ came. written_stands g.K.Keep.seen g.H.Handler.service (λ message. Any (λ m. m ≡ message) came)
