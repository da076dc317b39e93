use Rattle.std.proofs.Common.{◌∙◌, subst, sym}
use Rattle.told_lock.specs.Rule.{seen_by}
use Rattle.shared_endpoint.specs.Keys.{told_hand, shown_hand}
use Rattle.service_workers.specs.Conns.{or_was}
use Rattle.service_workers.specs.Written.{HasSpokenIf}
use Rattle.service_workers.proofs.Lives.{still_usable}
use Rattle.service_workers.proofs.Written.{spoken_before, spoken_further}
use Rattle.service_workers.proofs.service.run_service.Goals as goal

pub returns-clause-ends : goal.returns-clause-ends
returns-clause-ends g c = record {
  ended_given = (c.end-zero.ensures.given, (c.end-one.ensures.given, tt));
  ended_spoken = λ s. (
    spoken_further g.L.Link.put_gives g.L.Link.take_gives g.K.Keep.seen g.H.Handler.service (shown_hand c.end-zero.new.hand)
        (shown_hand c.end-one.new.hand) (or_was c.end-zero.result.conn c.end-zero.result.was.value) c.end-one.ensures.shown
        (c.end-zero.ensures.spoken s),
    (c.end-one.ensures.spoken s, tt),
  );
  ended_read = λ s. (c.end-zero.ensures.read s, (c.end-one.ensures.read s, tt));
  ended_owe = λ s. (c.end-zero.ensures.owes s, (c.end-one.ensures.owes s, tt));
}

pub returns-clause-usable : goal.returns-clause-usable
returns-clause-usable g c = still_usable g.K.Keep.seen _ _ _ _ _ _ (c.end-one.ensures.knows ∙ c.end-zero.ensures.knows)
    c.end-zero.ensures.conn c.end-one.ensures.conn c.run_lines-held.ensures.usable

pub new-requires-clause-spoken : goal.new-requires-clause-spoken
new-requires-clause-spoken g c = λ s.
    let hand = c.args.start.tokens.hand in
    subst (λ es. HasSpokenIf g.L.Link.put_gives g.L.Link.take_gives g.K.Keep.seen g.H.Handler.service es c.args.start.zero)
    (sym c.witness-first.ensures.shown)
    (spoken_before g.L.Link.put_gives g.L.Link.take_gives g.K.Keep.seen g.H.Handler.service (seen_by (told_hand hand))
    (shown_hand hand) c.args.start.zero (c.requires.start.conns_spoken s).0)

pub new-requires-2-clause-spoken : goal.new-requires-2-clause-spoken
new-requires-2-clause-spoken g c = λ s.
    let hand = c.witness-first.new.self in
    let same = c.witness-first.ensures.knows.1 in
    subst (λ es. HasSpokenIf g.L.Link.put_gives g.L.Link.take_gives g.K.Keep.seen g.H.Handler.service es c.args.start.one)
    (sym c.witness-second.ensures.shown)
    (spoken_before g.L.Link.put_gives g.L.Link.take_gives g.K.Keep.seen g.H.Handler.service (seen_by (told_hand hand))
    (shown_hand hand) c.args.start.one
    (subst (λ es. HasSpokenIf g.L.Link.put_gives g.L.Link.take_gives g.K.Keep.seen g.H.Handler.service es c.args.start.one)
    (sym same) (c.requires.start.conns_spoken s).1.0))
