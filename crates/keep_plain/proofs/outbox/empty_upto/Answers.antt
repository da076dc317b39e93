use Rattle.std.proofs.Common.{refl, subst, arith, ◌<◌, ◌≤◌}
use Rattle.keep.specs.Places.{place_cmp}
use Rattle.base.specs.declared.pair.Pair.{Pair}
use Rattle.std.specs.Prelude.{None}
use Rattle.keep_plain.specs.Slots.{SetsAt}
use Rattle.keep_plain.specs.Upto.{NoneBetween}
use Rattle.keep_plain.proofs.Upto.{emptied_one, emptied_more, emptied_all}
use Rattle.keep_plain.proofs.outbox.empty_upto.Goals as goal

pub loop-number-init : goal.loop-number-init
loop-number-init c = record {
  empties = emptied_one c.args.place.now c.args.outbox.now c.empty_slot.new.map c.empty_slot.ensures.sets;
  keeps = c.empty_slot.ensures.keeps;
  pair = refl;
  fits = omega arith;
}

pub loop-number-preserved : goal.loop-number-preserved
loop-number-preserved c =
    let inv = c.loop-number.invariant in
    let last = c.in-Some.ensures in
    record {
      empties = emptied_more c.args.place.now.pair c.in-Some.number c.loop-number.place.number c.args.place.now.number
          c.args.outbox.now
          c.loop-number.outbox c.empty_slot-in-Some.new.map
          inv.empties last.0 inv.fits (subst
          (λ p. NoneBetween c.loop-number.outbox p (λ k. c.in-Some.number < k) c.loop-number.place.number) inv.pair
          last.1)
          (subst (λ (p : Pair). SetsAt place_cmp (record { pair = p; number = c.in-Some.number }) None
          c.loop-number.outbox
          c.empty_slot-in-Some.new.map) inv.pair c.empty_slot-in-Some.ensures.sets);
      keeps = λ q h. c.empty_slot-in-Some.ensures.keeps q (inv.keeps q h);
      pair = inv.pair;
      fits = let under = last.0 in let within = inv.fits in omega (arith, under, within);
    }

pub returns-clause-empties : goal.returns-clause-empties
returns-clause-empties c =
    let inv = c.loop-number.invariant in
    emptied_all c.args.place.now.pair c.loop-number.place.number c.args.place.now.number c.args.outbox.now
    c.loop-number.outbox inv.empties
    (subst (λ p. NoneBetween c.loop-number.outbox p (λ k. 0 ≤ k) c.loop-number.place.number) inv.pair
    c.in_default.ensures)
