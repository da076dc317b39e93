use Rattle.std.proofs.Common.{◌≡◌, ◌∙◌, arith}
use Rattle.std.proofs.lemmas.List.{length-set}
use Rattle.shared_endpoint.specs.Keys.{IsSeatOf, seat_number}
use Rattle.service_program.proofs.Seats.{behind_first}
use Rattle.service_program.proofs.answers.answer_first.Goals as goal

pub answer_all-answered-requires : goal.answer_all-answered-requires
answer_all-answered-requires g c =
    let sixteen = c.requires.seats.0 in
    record { seat = (c.requires.seats.1 0 c.index-seats-0.result (omega (arith, sixteen))).0 }

pub returns : goal.returns
returns g c =
    let old = c.requires.seats in
    let number = c.answer_all-answered.ensures.seat.1 ∙ (old.1 0 c.index-seats-0.result (omega (arith, old.0))).1 in
    record {
      seats = (
        length-set c.args.seats 0 c.answer_all-answered.new.seat ∙ old.0,
        behind_first (λ seat i. IsSeatOf c.args.shared.now seat × (seat_number seat ≡ i)) c.args.seats
            c.answer_all-answered.new.seat (c.answer_all-answered.ensures.seat.0, number) old.1,
      );
    }
