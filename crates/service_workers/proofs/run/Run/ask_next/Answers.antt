use Rattle.std.proofs.Common.{subst, inl, inr}
use Rattle.std.specs.Prelude.{Contains}
use Rattle.std.specs.Vec.Iter.{into_iter_items, into_iter_len}
use Rattle.shared_endpoint.specs.Token.{hand_number}
use Rattle.service_workers.specs.Batches.{behind}
use Rattle.service_workers.specs.Taking.{CarriedIn, CarriedOrIn, Only}
use Rattle.service_workers.specs.Truth.{AnsweredIn, AnsweredTo, IsLeftIn, IsNextIn}
use Rattle.service_workers.proofs.Batching.{carries_this}
use Rattle.service_workers.proofs.Further.{on_join}
use Rattle.service_workers.proofs.Taking.{both_take, first_contained, so_takes, then_nothing}
use Rattle.service_workers.proofs.Truth.{answered_one, empty_is, first_of, head_is, knows_now, left_of, left_stays}
use Rattle.service_workers.proofs.Truth.{none_left, nothing_behind, so_knows, so_tells, still_knows}
use Rattle.service_workers.proofs.run.Run.ask_next.Goals as goal

-- none is left to be told of
pub returns-in_default-clause-told : goal.returns-in_default-clause-told
returns-in_default-clause-told g c = knows_now g.K.Keep.seen g.H.Handler.service hand_number g.N.Naming.sound
    (AnsweredTo g.H.Handler.service c.args.message.now c.ask_unread.result) _ _ c.ask_unread.ensures.goes_on
    (so_knows g.K.Keep.seen g.H.Handler.service g.N.Naming.sound
    (IsLeftIn g.H.Handler.service c.args.envelopes.now (into_iter_len c.args.told.now) (into_iter_items c.args.told.now)) _
    (λ x h. tt) _ c.requires.told) c.ask_unread.ensures.told

pub returns-in_default-clause-left : goal.returns-in_default-clause-left
returns-in_default-clause-left g c = still_knows g.K.Keep.seen g.H.Handler.service hand_number g.N.Naming.sound
    (IsLeftIn g.H.Handler.service (behind c.args.envelopes.now) (into_iter_len c.args.told.now) (into_iter_items c.args.told.now))
    (left_stays g.H.Handler.service (behind c.args.envelopes.now) (into_iter_len c.args.told.now) (into_iter_items c.args.told.now)) _ _ c.ask_unread.ensures.goes_on
    (so_knows g.K.Keep.seen g.H.Handler.service g.N.Naming.sound
    (IsLeftIn g.H.Handler.service c.args.envelopes.now (into_iter_len c.args.told.now) (into_iter_items c.args.told.now)) _
    (λ x h. nothing_behind g.H.Handler.service c.args.envelopes.now (into_iter_len c.args.told.now) (into_iter_items c.args.told.now) x (empty_is c.args.envelopes.now c.in_default.ensures.value) h) _
    c.requires.told)

-- it was taken in with others
pub answer_of-requires-clause-told : goal.answer_of-requires-clause-told
answer_of-requires-clause-told g c =
    let first = head_is c.args.envelopes.now c.in-Some.envelope.now c.in-Some.ensures.value in
    so_knows g.K.Keep.seen g.H.Handler.service g.N.Naming.sound
    (IsNextIn g.H.Handler.service c.args.envelopes.now c.next_told.result (into_iter_len c.next_told.new.told)
    (into_iter_items c.next_told.new.told)) _
    (λ x h. first_of g.H.Handler.service c.args.envelopes.now c.in-Some.envelope.now c.in-Some-next_told.grouped (into_iter_len c.next_told.new.told)
    (into_iter_items c.next_told.new.told) x first
    (subst (λ o. IsNextIn g.H.Handler.service c.args.envelopes.now o (into_iter_len c.next_told.new.told)
    (into_iter_items c.next_told.new.told) x) c.in-Some-next_told.is h)) _ c.next_told.ensures.told

pub returns-in-Some-next_told-clause-goes_on : goal.returns-in-Some-next_told-clause-goes_on
returns-in-Some-next_told-clause-goes_on g c = on_join g.K.Keep.seen g.H.Handler.service hand_number _ _ _
    c.next_told.ensures.goes_on c.answer_of.ensures.goes_on

pub returns-in-Some-next_told-clause-told : goal.returns-in-Some-next_told-clause-told
returns-in-Some-next_told-clause-told g c =
    let first = head_is c.args.envelopes.now c.in-Some.envelope.now c.in-Some.ensures.value in
    so_knows g.K.Keep.seen g.H.Handler.service g.N.Naming.sound (AnsweredIn g.H.Handler.service c.in-Some.envelope.now c.answer_of.result) _
    (λ x h. answered_one g.H.Handler.service c.args.message.now c.in-Some.envelope.now c.answer_of.result x
    (carries_this c.args.message.now c.args.envelopes.now c.in-Some.envelope.now first c.requires.carried) h) _
    c.answer_of.ensures.told

pub returns-in-Some-next_told-clause-left : goal.returns-in-Some-next_told-clause-left
returns-in-Some-next_told-clause-left g c =
    let first = head_is c.args.envelopes.now c.in-Some.envelope.now c.in-Some.ensures.value in
    still_knows g.K.Keep.seen g.H.Handler.service hand_number g.N.Naming.sound
    (IsLeftIn g.H.Handler.service (behind c.args.envelopes.now) (into_iter_len c.next_told.new.told) (into_iter_items c.next_told.new.told))
    (left_stays g.H.Handler.service (behind c.args.envelopes.now) (into_iter_len c.next_told.new.told) (into_iter_items c.next_told.new.told)) _ _ c.answer_of.ensures.goes_on
    (so_knows g.K.Keep.seen g.H.Handler.service g.N.Naming.sound
    (IsNextIn g.H.Handler.service c.args.envelopes.now c.next_told.result (into_iter_len c.next_told.new.told)
    (into_iter_items c.next_told.new.told)) _
    (λ x h. left_of g.H.Handler.service c.args.envelopes.now c.in-Some.envelope.now c.in-Some-next_told.grouped (into_iter_len c.next_told.new.told)
    (into_iter_items c.next_told.new.told) x first
    (subst (λ o. IsNextIn g.H.Handler.service c.args.envelopes.now o (into_iter_len c.next_told.new.told)
    (into_iter_items c.next_told.new.told) x) c.in-Some-next_told.is h)) _ c.next_told.ensures.told)

-- it's taken in by itself
pub returns-in-None-clause-goes_on : goal.returns-in-None-clause-goes_on
returns-in-None-clause-goes_on g c = on_join g.K.Keep.seen g.H.Handler.service hand_number _ _ _
    c.next_told.ensures.goes_on c.ask.ensures.goes_on

pub returns-in-None-clause-told : goal.returns-in-None-clause-told
returns-in-None-clause-told g c =
    let first = head_is c.args.envelopes.now c.in-Some.envelope.now c.in-Some.ensures.value in
    knows_now g.K.Keep.seen g.H.Handler.service hand_number g.N.Naming.sound
    (AnsweredTo g.H.Handler.service c.args.message.now c.ask.result) _ _ c.ask.ensures.goes_on
    (so_knows g.K.Keep.seen g.H.Handler.service g.N.Naming.sound
    (IsNextIn g.H.Handler.service c.args.envelopes.now c.next_told.result (into_iter_len c.next_told.new.told)
    (into_iter_items c.next_told.new.told)) _ (λ x h. tt) _ c.next_told.ensures.told)
    (so_tells g.K.Keep.seen g.H.Handler.service (AnsweredIn g.H.Handler.service c.in-Some.envelope.now c.ask.result) _
    (λ x h. answered_one g.H.Handler.service c.args.message.now c.in-Some.envelope.now c.ask.result x
    (carries_this c.args.message.now c.args.envelopes.now c.in-Some.envelope.now first c.requires.carried) h) _ _
    c.ask.ensures.told)

pub returns-in-None-clause-left : goal.returns-in-None-clause-left
returns-in-None-clause-left g c =
    still_knows g.K.Keep.seen g.H.Handler.service hand_number g.N.Naming.sound
    (IsLeftIn g.H.Handler.service (behind c.args.envelopes.now) (into_iter_len c.next_told.new.told) (into_iter_items c.next_told.new.told))
    (left_stays g.H.Handler.service (behind c.args.envelopes.now) (into_iter_len c.next_told.new.told) (into_iter_items c.next_told.new.told)) _ _ c.ask.ensures.goes_on
    (so_knows g.K.Keep.seen g.H.Handler.service g.N.Naming.sound
    (IsNextIn g.H.Handler.service c.args.envelopes.now c.next_told.result (into_iter_len c.next_told.new.told)
    (into_iter_items c.next_told.new.told)) _
    (λ x h. none_left g.H.Handler.service c.args.envelopes.now (into_iter_len c.next_told.new.told) (into_iter_items c.next_told.new.told) x
    (subst (λ o. IsNextIn g.H.Handler.service c.args.envelopes.now o (into_iter_len c.next_told.new.told)
    (into_iter_items c.next_told.new.told) x) c.in-None.is h)) _ c.next_told.ensures.told)

-- what was taken in
pub returns-in_default-clause-took : goal.returns-in_default-clause-took
returns-in_default-clause-took g c = so_takes g.K.Keep.seen g.H.Handler.service (CarriedIn c.args.message.now)
    (CarriedOrIn c.args.message.now c.args.envelopes.now) (λ e is. inl is) _ _ c.ask_unread.ensures.took

pub returns-in-Some-next_told-clause-took : goal.returns-in-Some-next_told-clause-took
returns-in-Some-next_told-clause-took g c = so_takes g.K.Keep.seen g.H.Handler.service (Contains c.args.envelopes.now)
    (CarriedOrIn c.args.message.now c.args.envelopes.now) (λ e at. inr at) _ _
    (then_nothing g.K.Keep.seen g.H.Handler.service hand_number (Contains c.args.envelopes.now) _ _ _
    c.next_told.ensures.goes_on c.answer_of.ensures.goes_on c.next_told.ensures.took c.answer_of.ensures.took)

pub returns-in-None-clause-took : goal.returns-in-None-clause-took
returns-in-None-clause-took g c =
    let first = head_is c.args.envelopes.now c.in-Some.envelope.now c.in-Some.ensures.value in
    so_takes g.K.Keep.seen g.H.Handler.service (Contains c.args.envelopes.now)
    (CarriedOrIn c.args.message.now c.args.envelopes.now) (λ e at. inr at) _ _
    (both_take g.K.Keep.seen g.H.Handler.service hand_number (Contains c.args.envelopes.now) _ _ _
    c.next_told.ensures.goes_on c.ask.ensures.goes_on c.next_told.ensures.took
    (so_takes g.K.Keep.seen g.H.Handler.service (Only c.in-Some.envelope.now) (Contains c.args.envelopes.now)
    (first_contained c.args.envelopes.now c.in-Some.envelope.now first) _ _ c.ask.ensures.took))
