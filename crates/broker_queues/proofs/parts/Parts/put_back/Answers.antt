use Rattle.std.proofs.Common.{◌≡◌, ◌∙◌, ap, arith, false, true, refl, sym}
use Rattle.broker_book.specs.declared.parts.Sent.{Sent}
use Rattle.broker_index.specs.Standing.{fate_of}
use Rattle.broker_queues.specs.Parts.Fates.{passes}
use Rattle.broker_queues.specs.Parts.Held.{holding_of}
use Rattle.broker_queues.specs.Parts.Undoing.{is_out_fate}
use Rattle.broker_queues.proofs.Restoring.{back_none, back_stays, no_holder, restored}
use Rattle.broker_queues.proofs.parts.Parts.put_back.Goals as goal

pub returns-in_default : goal.returns-in_default
returns-in_default c start log b last =
    back_none start (holding_of c.args.self.now) log c.args.logged b last (sym c.in_default.ensures)

pub returns-then-is_out : goal.returns-then-is_out
returns-then-is_out c start log b last =
    let on : passes is_out_fate c.in-Some.stored.now.fate ≡ true =
    ap (λ f. passes is_out_fate f) (sym c.standing.ensures) ∙ sym c.is_out.ensures ∙ c.if-is_out.true in
    back_stays start (holding_of c.args.self.now) log c.args.logged b last c.in-Some.stored.now (sym c.in-Some.ensures)
    on

pub returns-in_default-get : goal.returns-in_default-get
returns-in_default-get c start log b last =
    absurd (no_holder start (holding_of c.args.self.now) log c.args.logged b last c.in_default-get.ensures)

pub returns : goal.returns
returns c start log b last =
    let off : passes is_out_fate c.in-Some.stored.now.fate ≡ false =
    ap (λ f. passes is_out_fate f) (sym c.standing.ensures) ∙ sym c.is_out.ensures ∙ c.if-is_out.false in
    let name : c.get-2.result.now.destination ≡ c.in-Some.stored.now.sent.destination =
    ap (λ (s : Sent). s.destination) (c.get-2.ensures ∙ c.sent.ensures) in
    restored start (holding_of c.args.self.now) _ log c.args.logged c.in-Some.stored.now c.in-Some-get.subscriber.now
    (fate_of c.standing-2.result.now) c.get-2.result.now.destination c.len-most.result c.one_more-count.result b last
    c.in-Some.ensures
    off c.in-Some-get.ensures c.standing-2.ensures name c.len-most.ensures c.count_back.ensures
    (λ short. omega (arith, c.one_more-count.ensures)) c.set.ensures c.set_count.ensures refl refl refl refl
