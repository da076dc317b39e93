use Rattle.std.proofs.Common.{List, ℕ, refl, subst}
use Rattle.std.specs.Io.KnownBytes.{Appends}
use Rattle.command_line.specs.Usage.{bad_words_text}
use Rattle.streams.specs.Written.{AppendsPart}
use Rattle.streams.proofs.Writes.{appends_keeps, on_err_always, part_whole}
use Rattle.command_line.proofs.told.tell_bad_words.Goals as goal

pub returns-in_err-write_three-clause-untold : goal.returns-in_err-write_three-clause-untold
returns-in_err-write_three-clause-untold g c =
    let old = g.E.Write.contents c.args.err.now in
    let new = g.E.Write.contents c.write_three.new.out in
    on_err_always c.from_residual.result
    (subst (λ (usage : List ℕ). AppendsPart old new (bad_words_text usage)) c.as_bytes.ensures.value
    c.in_err-write_three.ensures.err)

pub returns-in_err-flush-clause-untold : goal.returns-in_err-flush-clause-untold
returns-in_err-flush-clause-untold g c =
    let old = g.E.Write.contents c.args.err.now in
    let written = g.E.Write.contents c.write_three.new.out in
    let new = g.E.Write.contents c.flush.new.self in
    let text = bad_words_text c.as_bytes.result.now in
    on_err_always c.from_residual-in_err-flush.result
    (subst (λ (usage : List ℕ). AppendsPart old new (bad_words_text usage)) c.as_bytes.ensures.value
    (part_whole old new text
    (appends_keeps old written new text c.in_ok-write_three.ensures.ok c.in_err-flush.ensures.bytes)))

pub returns-clause-told : goal.returns-clause-told
returns-clause-told g c =
    let old = g.E.Write.contents c.args.err.now in
    let written = g.E.Write.contents c.write_three.new.out in
    let new = g.E.Write.contents c.flush.new.self in
    let text = bad_words_text c.as_bytes.result.now in (
      refl,
      subst (λ (usage : List ℕ). Appends old new (bad_words_text usage)) c.as_bytes.ensures.value
          (appends_keeps old written new text c.in_ok-write_three.ensures.ok c.in_ok-flush.ensures.bytes),
    )
