use Rattle.std.proofs.Common.{inl, inr, refl, subst, sym}
use Rattle.std.specs.Prelude.{option_to_list}
use Rattle.std.specs.Vec.Iter.{into_iter_items, into_iter_len}
use Rattle.shared_endpoint.specs.Keys.{told_hand}
use Rattle.shared_endpoint.specs.Token.{hand_number}
use Rattle.service_workers.specs.Batches.{all_of, Carry, CarriesFirst}
use Rattle.service_workers.specs.Taking.{CarriedAmong, CarriedIn, CarriedOrIn, Takes}
use Rattle.service_workers.specs.Tokens.{GoesOn}
use Rattle.service_workers.specs.Truth.{Knows, IsLeftIn}
use Rattle.service_workers.proofs.Batching.{carry_first, carry_rest}
use Rattle.service_workers.proofs.Further.{on_join, on_same}
use Rattle.service_workers.proofs.Taking.{among_left, among_right, both_take, carried_here, nothing_takes, so_takes}
use Rattle.service_workers.proofs.Truth.{any_tells, knows_now, none_left_yet, so_knows}
use Rattle.service_workers.proofs.run.Run.take.Goals as goal

pub loop-arrival-init : goal.loop-arrival-init
loop-arrival-init g c =
    let same = on_same g.K.Keep.seen g.H.Handler.service hand_number _ _ c.requires.hand.0.own in
    let rest = c.as_slice-rest.result.now in
    record {
      hand = c.requires.hand;
      goes_on = same;
      carried = subst (λ xs. Carry xs rest) (sym c.into_iter-arrival-iterator.ensures.into_iter_gives.0)
          (subst (λ es. Carry c.args.batch.arrivals.items es) (sym c.as_slice-rest.ensures.value) c.requires.carried);
      left = knows_now g.K.Keep.seen g.H.Handler.service hand_number g.N.Naming.sound
          (IsLeftIn g.H.Handler.service rest (into_iter_len c.nothing_told-told.result) (into_iter_items c.nothing_told-told.result)) _ _ same c.requires.sound
          (any_tells g.K.Keep.seen g.H.Handler.service hand_number
          (IsLeftIn g.H.Handler.service rest (into_iter_len c.nothing_told-told.result) (into_iter_items c.nothing_told-told.result))
          (λ x. none_left_yet g.H.Handler.service rest _ _ x c.nothing_told-told.ensures.len) _ _ same);
      took = nothing_takes g.K.Keep.seen g.H.Handler.service (CarriedAmong (all_of c.args.batch.arrivals.items c.args.batch.last)) _ _ _
          c.requires.hand.0.own refl;
      among = λ e h. among_left c.args.batch.arrivals.items (option_to_list c.args.batch.last) e
          (subst (λ xs. CarriedAmong xs e) c.into_iter-arrival-iterator.ensures.into_iter_gives.0 h);
    }

pub ask_next-answer-requires-clause-carried : goal.ask_next-answer-requires-clause-carried
ask_next-answer-requires-clause-carried g c =
    subst (λ m. CarriesFirst m c.loop-arrival.rest.now) (sym c.message.ensures.is) (carry_first c.in-Some.arrival (into_iter_items c.next.new.self) c.loop-arrival.rest.now
    (subst (λ xs. Carry xs c.loop-arrival.rest.now) c.in-Some.ensures.steps.0 c.loop-arrival.invariant.carried))

pub loop-arrival-preserved : goal.loop-arrival-preserved
loop-arrival-preserved g c = record {
  hand = c.finish_taking-count.ensures.hand;
  goes_on = subst (GoesOn g.K.Keep.seen g.H.Handler.service hand_number (told_hand c.args.hand.now))
      (sym c.finish_taking-count.ensures.knows)
      (on_join g.K.Keep.seen g.H.Handler.service hand_number _ _ _ c.loop-arrival.invariant.goes_on
      c.ask_next-answer.ensures.goes_on);
  carried = subst (Carry (into_iter_items c.next.new.self)) (sym c.behind-rest.ensures)
      (carry_rest c.in-Some.arrival (into_iter_items c.next.new.self) c.loop-arrival.rest.now
      (subst (λ xs. Carry xs c.loop-arrival.rest.now) c.in-Some.ensures.steps.0 c.loop-arrival.invariant.carried));
  left = subst (Knows g.K.Keep.seen g.H.Handler.service g.N.Naming.sound (IsLeftIn g.H.Handler.service
      c.behind-rest.result.now (into_iter_len c.ask_next-answer.new.told) (into_iter_items c.ask_next-answer.new.told)))
      (sym c.finish_taking-count.ensures.knows)
      (subst (λ es. Knows g.K.Keep.seen g.H.Handler.service g.N.Naming.sound
      (IsLeftIn g.H.Handler.service es (into_iter_len c.ask_next-answer.new.told) (into_iter_items c.ask_next-answer.new.told))
      (told_hand c.ask_next-answer.new.hand)) (sym c.behind-rest.ensures) c.ask_next-answer.ensures.left);
  took = subst (Takes g.K.Keep.seen g.H.Handler.service (CarriedAmong (all_of c.args.batch.arrivals.items c.args.batch.last)) (told_hand c.args.hand.now))
      (sym c.finish_taking-count.ensures.knows)
      (both_take g.K.Keep.seen g.H.Handler.service hand_number (CarriedAmong (all_of c.args.batch.arrivals.items c.args.batch.last)) _ _ _
      c.loop-arrival.invariant.goes_on c.ask_next-answer.ensures.goes_on c.loop-arrival.invariant.took
      (so_takes g.K.Keep.seen g.H.Handler.service (CarriedOrIn c.in-Some.arrival c.loop-arrival.rest.now)
      (CarriedAmong (all_of c.args.batch.arrivals.items c.args.batch.last))
      (λ e at. c.loop-arrival.invariant.among e (subst (λ xs. CarriedAmong xs e) (sym c.in-Some.ensures.steps.0)
      (carried_here c.in-Some.arrival (into_iter_items c.next.new.self) c.loop-arrival.rest.now
      (subst (λ xs. Carry xs c.loop-arrival.rest.now) c.in-Some.ensures.steps.0 c.loop-arrival.invariant.carried) e at)))
      _ _ (subst (λ m. Takes g.K.Keep.seen g.H.Handler.service (CarriedOrIn m c.loop-arrival.rest.now)
      (told_hand c.loop-arrival.hand) (told_hand c.ask_next-answer.new.hand)) c.message.ensures.is
      c.ask_next-answer.ensures.took)));
  among = λ e h. c.loop-arrival.invariant.among e (subst (λ xs. CarriedAmong xs e) (sym c.in-Some.ensures.steps.0) (inr h));
}

pub take_last-requires-clause-sound : goal.take_last-requires-clause-sound
take_last-requires-clause-sound g c = so_knows g.K.Keep.seen g.H.Handler.service g.N.Naming.sound
    (IsLeftIn g.H.Handler.service c.loop-arrival.rest.now (into_iter_len c.loop-arrival.told)
    (into_iter_items c.loop-arrival.told)) _ (λ x h. tt) _ c.loop-arrival.invariant.left

pub returns-clause-goes_on : goal.returns-clause-goes_on
returns-clause-goes_on g c = on_join g.K.Keep.seen g.H.Handler.service hand_number _ _ _
    c.loop-arrival.invariant.goes_on c.take_last.ensures.goes_on

pub returns-clause-took : goal.returns-clause-took
returns-clause-took g c = both_take g.K.Keep.seen g.H.Handler.service hand_number (CarriedAmong (all_of c.args.batch.arrivals.items c.args.batch.last)) _ _ _
    c.loop-arrival.invariant.goes_on c.take_last.ensures.goes_on c.loop-arrival.invariant.took
    (so_takes g.K.Keep.seen g.H.Handler.service (CarriedIn c.in-Some-last.arrival) (CarriedAmong (all_of c.args.batch.arrivals.items c.args.batch.last))
    (λ e is. among_right c.args.batch.arrivals.items (option_to_list c.args.batch.last) e
    (subst (λ o. CarriedAmong (option_to_list o) e) (sym c.in-Some-last.is) (inl is))) _ _ c.take_last.ensures.took)
