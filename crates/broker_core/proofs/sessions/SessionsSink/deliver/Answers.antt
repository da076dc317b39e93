use Rattle.std.proofs.Common.{◌≡◌, refl, ap, ◌∙◌}
use Rattle.std.specs.Prelude.{slice_set}
use Rattle.stomp_session.specs.Replies.{Delivered, message_frame}
use Rattle.broker_tx.proofs.Places.{on_ok}
use Rattle.broker_core.specs.Feeding.{delivery_of}
use Rattle.broker_core.specs.Serving.{writing}
use Rattle.broker_core.proofs.Places.{got_at, written_at}
use Rattle.broker_core.proofs.Rising.{kept_at, writing_number}
use Rattle.broker_core.proofs.sessions.SessionsSink.deliver.Goals as goal

pub invariant_of-self : goal.invariant_of-self
invariant_of-self c =
    let d : Delivered = record {
      destination = c.as_str.result.now;
      number = c.args.number;
      subscription = c.as_str-2.result.now;
      ack = c.args.ack;
      headers = c.as_slice.result.now;
      body = c.as_slice-2.result.now;
    } in
    let items = c.self.inside.items.items in
    let first = rw (← c.self.view_is) at c.in-Some.ensures in
    let s = c.index_mut.result.now in
    let t = c.write_message-done.new.self in
    kept_at c.self.inside.opened items (slice_set items c.in-Some.at t) c.in-Some.at s t c.self.invariant
    (got_at items c.in-Some.at s first.within c.index_mut.ensures.value) refl
    (writing_number (message_frame d) s t c.write_message-done.result c.write_message-done.ensures.ok
    c.write_message-done.ensures.err)

pub returns-in-Some-clause-ok : goal.returns-in-Some-clause-ok
returns-in-Some-clause-ok c =
    let d : Delivered = record {
      destination = c.as_str.result.now;
      number = c.args.number;
      subscription = c.as_str-2.result.now;
      ack = c.args.ack;
      headers = c.as_slice.result.now;
      body = c.as_slice-2.result.now;
    } in
    let told : Delivered =
    delivery_of (record { number = c.args.number; sent = c.args.sent.now; to = c.args.to.now; ack = c.args.ack }) in
    let same : d ≡ told =
    rw (c.as_str.ensures, c.as_str-2.ensures, c.get.ensures, c.as_slice.ensures, c.as_slice-2.ensures) refl in
    let items = c.self.inside.items.items in
    let first = rw (← c.self.view_is) at c.in-Some.ensures in
    let s = c.index_mut.result.now in
    on_ok c.write_message-done.result c.write_message-done.ensures.ok (λ e. rw (← c.self.view_is)
    (written_at c.args.to.now.session items (slice_set items c.in-Some.at c.write_message-done.new.self)
    c.self.inside.opened c.in-Some.at s (writing (message_frame told)) first
    (got_at items c.in-Some.at s first.within c.index_mut.ensures.value)
    (ap (λ y. slice_set items c.in-Some.at y) (e ∙ ap (λ x. writing (message_frame x) s) same))))
