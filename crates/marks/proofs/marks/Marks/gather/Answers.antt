use Rattle.std.proofs.Common.{Some, ap, ◌∙◌, arith}
use Rattle.std.proofs.lemmas.List.Elements.{All-pop}
use Rattle.marks.specs.Seats.{IsSeatOf, raised_by, read_by}
use Rattle.marks.proofs.Sharing.{gathers_keep}
use Rattle.marks.proofs.Taken.{left_count, left_lists, takes_in}
use Rattle.marks.proofs.marks.Marks.gather.Goals as goal

pub loop-other-init : goal.loop-other-init
loop-other-init c =
    let e = c.in-Some.ensures.items in
    let all = All-pop (IsSeatOf c.args.self.now) _ _ (Some _) e c.requires.each in
    let count = left_count _ _ _ e in
    let seats = c.requires.all in
    let one = c.in-Some.last.one in
    let raised = left_lists _ _ _ e raised_by in
    let read = left_lists _ _ _ e read_by in
    (all.1, c.in-Some.last.free, omega arith, omega arith, all.0, raised, read)

pub join_seat-requires : goal.join_seat-requires
join_seat-requires c =
    let i = c.loop-other.invariant in
    let e = c.in-Some-pop.ensures.items in
    let other = (All-pop (IsSeatOf c.args.self.now) _ _ (Some _) e i.4).1 in
    let words = c.args.self.now.words in
    let some = c.args.self.now.some in
    (i.0, other, c.in-Some-pop.other.free, omega arith, gathers_keep _ _ _ _ _ _ i.2)

pub loop-other-preserved : goal.loop-other-preserved
loop-other-preserved c =
    let i = c.loop-other.invariant in
    let e = c.in-Some-pop.ensures.items in
    let all = All-pop (IsSeatOf c.args.self.now) _ _ (Some _) e i.4 in
    let count = left_count _ _ _ e in
    let j = c.join_seat.ensures in
    let parts = ap (λ m. m.0.parts) j.2 in
    let one = c.in-Some-pop.other.one in
    let were = i.3 in
    let some = i.2 in (
      j.0 ∙ i.0,
      ap (λ m. m.1) j.2 ∙ i.1,
      omega arith,
      omega arith,
      all.0,
      takes_in _ _ _ e raised_by _ _ _ i.5 (ap (λ m. m.0.raised) j.2),
      takes_in _ _ _ e read_by _ _ _ i.6 (ap (λ m. m.0.read) j.2),
    )
