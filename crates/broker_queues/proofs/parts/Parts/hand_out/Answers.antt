use Rattle.std.proofs.Common.{◌≡◌, ◌∙◌, ◌+◌, ◌<◌, ◌^◌, ◌-◌, Some, None, refl, ap, map, arith, inl, inr}
use Rattle.std.specs.Prelude.{nat_lt}
use Rattle.std.proofs.lemmas.Bool.{and_parts, ltb-true}
use Rattle.std.proofs.lemmas.Result.{err_from_is_err_and}
use Rattle.base.specs.declared.limits.TheConstants.{MAX_UNANSWERED}
use Rattle.broker_book.specs.declared.parts.Subscription.{Subscription}
use Rattle.broker_book.specs.Books.{Out}
use Rattle.broker_index.specs.Index.{Subscriber, with_count, with_fate, without_entries}
use Rattle.broker_index.specs.declared.places.Entry.{Entry}
use Rattle.broker_index.specs.declared.standing.Holder.{Holder}
use Rattle.broker_queues.specs.Parts.Held.{holding_of}
use Rattle.broker_queues.specs.Parts.Facts.{subscriber_at}
use Rattle.broker_queues.specs.Parts.Whole.{Holding}
use Rattle.broker_queues.proofs.Delivering.{forgets_note, handed_out, noted_back, out_dealt, sits_still, noting}
use Rattle.broker_queues.proofs.Swept.{none_fated, none_same}
use Rattle.broker_queues.proofs.parts.Parts.hand_out.Goals as goal

pub returns-in_err-note-clause-notes : goal.returns-in_err-note-clause-notes
returns-in_err-note-clause-notes g c =
    let failed = err_from_is_err_and c.from_residual.result c.from_residual.ensures.1 in
    rw failed.1 (inl c.in_err-note.ensures.err)

pub returns-in-Err-clause-hands : goal.returns-in-Err-clause-hands
returns-in-Err-clause-hands g c accepted k s is p auto =
    let e : Entry =
    record { ack = c.saturating_add-ack.result; number = c.args.message.number; key = c.args.message.key } in
    let done = noted_back c.args.message.number c.args.to.number e refl (holding_of c.args.self.now) is k s accepted
    c.note.new.self c.forget.new.self p.there p.ready p.sits c.in_ok-note.ensures.ok c.forget.ensures in
    (done.0, (done.1, c.in-Err.ensures.err))

pub returns-in-Err-clause-notes : goal.returns-in-Err-clause-notes
returns-in-Err-clause-notes g c =
    inr (c.forget.ensures
    ∙ ap (map (without_entries c.args.to.number c.args.message.number)) c.in_ok-note.ensures.ok
    ∙ forgets_note c.args.message.number c.args.to.number _ refl c.args.self.now.subscribers)

pub returns-in_default-get-clause-hands : goal.returns-in_default-get-clause-hands
returns-in_default-get-clause-hands g c accepted k s is p auto =
    let e : Entry =
    record { ack = c.saturating_add-ack.result; number = c.args.message.number; key = c.args.message.key } in
    let there = ap (λ l. subscriber_at c.args.to.number l) c.in_ok-note.ensures.ok
    ∙ sits_still (holding_of c.args.self.now) is c.args.message.number c.args.to.number k s e 0 p.there p.ready p.sits
    refl in
    let never : None ≡ Some (noting e s) = c.in_default-get.ensures ∙ there in
    absurd (cc)

pub returns-in-Ok-clause-hands : goal.returns-in-Ok-clause-hands
returns-in-Ok-clause-hands g c accepted k s is p auto =
    let h : Holding = holding_of c.args.self.now in
    let e : Entry =
    record { ack = c.saturating_add-ack.result; number = c.args.message.number; key = c.args.message.key } in
    let found : Some c.in-Some.stored.now ≡ Some k = c.in-Some.ensures ∙ p.there in
    let there = ap (λ l. subscriber_at c.args.to.number l) c.in_ok-note.ensures.ok
    ∙ sits_still (holding_of c.args.self.now) is c.args.message.number c.args.to.number k s e 0 p.there p.ready p.sits
    refl in
    let sits : Some c.in-Some-get.subscriber.now ≡ Some (noting e s) = c.in-Some-get.ensures ∙ there in
    let one : c.in-Some.stored.now ≡ k = cc in
    let two : c.in-Some-get.subscriber.now ≡ noting e s = cc in
    let sent : c.get-sent.result.now ≡ k.sent = cc in
    let to : c.subscription-subscription.result.now ≡ s.subscription =
    c.subscription-subscription.ensures ∙ ap (λ (u : Subscriber). u.subscription) two in
    let had : c.in-Some-get.subscriber.now.count ≡ s.count = ap (λ (u : Subscriber). u.count) two in
    let parts =
    and_parts (nat_lt s.count MAX_UNANSWERED) (nat_lt c.args.self.now.given (2 ^ 64 - 1)) (rw auto at p.may) in
    let few : s.count < MAX_UNANSWERED = ltb-true s.count MAX_UNANSWERED parts.0 in
    let left : c.args.self.now.given < 2 ^ 64 - 1 = ltb-true c.args.self.now.given (2 ^ 64 - 1) parts.1 in
    let next : c.saturating_add-ack.result ≡ c.args.self.now.given + 1 =
    omega (arith, left, c.saturating_add-ack.ensures) in
    let more : c.saturating_add-count.result ≡ s.count + 1 =
    omega (arith, few, had, c.count.ensures, c.saturating_add-count.ensures) in
    let fate = ap (λ (o : Holder). Some (Out o.session o.id o.ack)) c.in-Ok.ensures.holder
    ∙ ap (λ (u : Subscription). Some (Out u.session u.id c.saturating_add-ack.result)) to in
    let i : Holding = holding_of (record c.args.self.now {
      messages = c.set.new.self;
      subscribers = c.set_count.new.self;
      given = c.saturating_add-ack.result;
    }) in
    let change = handed_out h is c.args.message.number c.args.to.number k s e c.saturating_add-ack.result p.there
    p.ready p.sits refl i _
    c.saturating_add-count.result fate more c.set.ensures
    (c.set_count.ensures ∙ ap (λ l. map (with_count c.args.to.number c.saturating_add-count.result) l)
    c.in_ok-note.ensures.ok)
    refl refl refl refl next (omega arith) in
    let dealt = out_dealt h is c.args.message.number c.args.to.number k s p c.get-sent.result.now
    c.subscription-subscription.result.now sent to accepted i e c.saturating_add-ack.result auto next change refl in
    (dealt.0, (_, dealt.1, c.in-Ok.ensures.ok))

pub returns-in-Ok-clause-whole : goal.returns-in-Ok-clause-whole
returns-in-Ok-clause-whole g c k s is p none =
    none_same (map (with_fate c.args.message.number (Some (Out c.in-Ok.holder.session c.in-Ok.holder.id
    c.in-Ok.holder.ack))) c.args.self.now.messages) c.set.new.self c.set.ensures
    (none_fated c.args.message.number (Out c.in-Ok.holder.session c.in-Ok.holder.id c.in-Ok.holder.ack)
    c.args.self.now.messages none)
