use Rattle.std.specs.Prelude.{◌++◌, ◌∷◌, [], codes, decimal}
use Rattle.schedule_text.specs.Outcomes.{shown_pair}
use Rattle.streams.proofs.Writes.{first_of_three, second_of_three, third_of_three, on_err_always}
use Rattle.schedule_io.proofs.writing.write_of_pair.Goals as goal

pub returns-in_err-write_octets-clause-err : goal.returns-in_err-write_octets-clause-err
returns-in_err-write_octets-clause-err g c =
    let at = g.W.Write.contents in
    on_err_always c.from_residual.result
    (first_of_three (at c.args.out.now) (at c.write_octets.new.out) c.args.words.now (shown_pair c.args.pair.now)
    (codes " " ++ decimal c.args.number ++ 10 ∷ []) c.in_err-write_octets.ensures.err)

pub returns-in_err-write_pair-clause-err : goal.returns-in_err-write_pair-clause-err
returns-in_err-write_pair-clause-err g c =
    let at = g.W.Write.contents in
    on_err_always _
    (second_of_three (at c.args.out.now) (at c.write_octets.new.out) (at c.write_pair.new.out) c.args.words.now
    (shown_pair c.args.pair.now)
    (codes " " ++ decimal c.args.number ++ 10 ∷ []) c.in_ok-write_octets.ensures.ok c.in_err-write_pair.ensures.err)

pub returns-clause-err : goal.returns-clause-err
returns-clause-err g c =
    let at = g.W.Write.contents in
    third_of_three (at c.args.out.now) (at c.write_octets.new.out) (at c.write_pair.new.out)
    (at c.write_numbered.new.out)
    c.args.words.now (shown_pair c.args.pair.now) (codes " " ++ decimal c.args.number ++ 10 ∷ [])
    c.write_numbered.result
    c.in_ok-write_octets.ensures.ok c.in_ok-write_pair.ensures.ok c.write_numbered.ensures.err
