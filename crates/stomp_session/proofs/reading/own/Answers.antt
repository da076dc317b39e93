use Rattle.std.proofs.Common.{rules}
use Rattle.std.proofs.lemmas.List.Elements.{filter_from_retain}
use Rattle.stomp_session.specs.Headers.{is_own}
use Rattle.stomp_session.proofs.reading.own.Goals as goal

pub returns : goal.returns
returns c =
    rw c.new.ensures (filter_from_retain _ is_own (λ p h b q says. search rules) _ _ _ c.retain.ensures.filtered)
