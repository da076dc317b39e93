use Rattle.std.proofs.Common.{◌%◌, ◌^◌, ◌∙◌, ap, sym}
use Rattle.std.specs.List.{find}
use Rattle.broker_book.specs.Sizes.{sent_octets}
use Rattle.broker_index.specs.Held.{kept_octets, kept_out, out_weight}
use Rattle.broker_index.specs.Index.{Kept, has_number}
use Rattle.broker_index.specs.Slots.{in_order}
use Rattle.broker_index.proofs.Counting.{held_remove, out_one}
use Rattle.broker_index.proofs.messages.Messages.remove.Goals as goal

pub invariant_of-self : goal.invariant_of-self
invariant_of-self c =
    let kept = in_order (λ (k : Kept). k.number) c.self.inside.slab.slots in
    let held = c.self.invariant in
    record {
      rising = c.take_value.ensures.rising;
      counted = held_remove (λ k. sent_octets k.sent) c.args.number kept c.self.inside.octets c.octets_at-fewer.result
          held.rising held.counted c.octets_at-fewer.ensures
          ∙ ap (λ ks. kept_octets ks % 2 ^ 64) (sym c.take_value.ensures.taken);
      delivered = held_remove (λ k. out_weight k.fate) c.args.number kept c.self.inside.out c.unanswered_at-answered.result
          held.rising held.delivered (c.unanswered_at-answered.ensures ∙ sym (out_one (find (has_number c.args.number) kept)))
          ∙ ap (λ ks. kept_out ks % 2 ^ 64) (sym c.take_value.ensures.taken);
    }
