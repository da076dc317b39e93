use Rattle.std.proofs.Common.{arith}
use Rattle.std.proofs.lemmas.Bool.Decides.{nat_tests}
use Rattle.stomp_session.specs.Headers.{is_own}
use Rattle.stomp_session.proofs.Measuring.{fewer}
use Rattle.stomp_session.proofs.refusing.has_many_own.Goals as goal

pub returns-else-headers-gt-MAX_OWN_HEADERS : goal.returns-else-headers-gt-MAX_OWN_HEADERS
returns-else-headers-gt-MAX_OWN_HEADERS c =
    let few = fewer is_own c.args.headers.now in
    grind (arith, nat_tests)
