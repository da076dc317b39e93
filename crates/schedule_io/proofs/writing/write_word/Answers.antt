use Rattle.std.proofs.Common.{get_or, refl, subst}
use Rattle.std.specs.List.{flat_map}
use Rattle.std.specs.Io.KnownBytes.{Appends}
use Rattle.schedule_text.specs.Words.{spelled}
use Rattle.streams.specs.Written.{AppendsPart}
use Rattle.streams.proofs.Writes.{appends_more, part_of_all, on_err_always}
use Rattle.schedule_io.proofs.writing.write_word.Goals as goal

pub loop-octet-preserved : goal.loop-octet-preserved
loop-octet-preserved g c =
    let at = g.W.Write.contents in
    let octets = c.as_bytes-octet-items.result.now in
    let i = c.loop-octet.octet-index in
    appends_more spelled octets i 0 (get_or octets i 0) (at c.args.out.now) (at c.loop-octet.out)
    (at c.write_octets.new.out)
    c.loop-octet-test.true refl c.loop-octet.invariant
    (subst (Appends (at c.loop-octet.out) (at c.write_octets.new.out)) c.spelled.ensures
    c.in_ok-write_octets.ensures.ok)

pub returns-in_err-write_octets-clause-err : goal.returns-in_err-write_octets-clause-err
returns-in_err-write_octets-clause-err g c =
    let at = g.W.Write.contents in
    let octets = c.as_bytes-octet-items.result.now in
    let i = c.loop-octet.octet-index in
    let part = part_of_all spelled octets i 0 (get_or octets i 0) (at c.args.out.now) (at c.loop-octet.out)
    (at c.write_octets.new.out)
    c.loop-octet-test.true refl c.loop-octet.invariant
    (subst (AppendsPart (at c.loop-octet.out) (at c.write_octets.new.out)) c.spelled.ensures
    c.in_err-write_octets.ensures.err) in
    on_err_always c.from_residual.result
    (subst (λ os. AppendsPart (at c.args.out.now) (at c.write_octets.new.out) (flat_map spelled os))
    c.as_bytes-octet-items.ensures.value part)
