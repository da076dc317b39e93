use Rattle.std.specs.Prelude.{codes}
use Rattle.schedule_text.specs.Outcomes.{shown_entity}
use Rattle.streams.proofs.Writes.{first_of_three, second_of_three, third_of_three, on_err_always}
use Rattle.schedule_io.proofs.writing.write_pair.Goals as goal

pub returns-in_err-write_entity-clause-err : goal.returns-in_err-write_entity-clause-err
returns-in_err-write_entity-clause-err g c =
    let at = g.W.Write.contents in
    on_err_always c.from_residual.result
    (first_of_three (at c.args.out.now) (at c.write_entity.new.out) (shown_entity c.args.pair.now.from) (codes " ")
    (shown_entity c.args.pair.now.to) c.in_err-write_entity.ensures.err)

pub returns-in_err-write_octets-clause-err : goal.returns-in_err-write_octets-clause-err
returns-in_err-write_octets-clause-err g c =
    let at = g.W.Write.contents in
    on_err_always _
    (second_of_three (at c.args.out.now) (at c.write_entity.new.out) (at c.write_octets.new.out)
    (shown_entity c.args.pair.now.from) (codes " ")
    (shown_entity c.args.pair.now.to) c.in_ok-write_entity.ensures.ok c.in_err-write_octets.ensures.err)

pub returns-clause-err : goal.returns-clause-err
returns-clause-err g c =
    let at = g.W.Write.contents in
    third_of_three (at c.args.out.now) (at c.write_entity.new.out) (at c.write_octets.new.out)
    (at c.write_entity-2.new.out)
    (shown_entity c.args.pair.now.from) (codes " ") (shown_entity c.args.pair.now.to) c.write_entity-2.result
    c.in_ok-write_entity.ensures.ok c.in_ok-write_octets.ensures.ok c.write_entity-2.ensures.err
