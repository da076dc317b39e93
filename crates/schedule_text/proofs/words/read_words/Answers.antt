use Rattle.std.proofs.Common.{Some, sym, ap, ◌∙◌, rules}
use Rattle.std.proofs.lemmas.Result.{err_from_is_err_and}
use Rattle.schedule_text.specs.Words.{word_of, words_of}
use Rattle.schedule_text.proofs.Joins.{words_go_on, words_are_bad, words_end, words_end_badly, bad_passes}
use Rattle.schedule_text.proofs.words.read_words.Goals as goal

pub returns-in_err-read : goal.returns-in_err-read
returns-in_err-read c =
    let p = err_from_is_err_and c.from_residual.result c.from_residual.ensures.1 in
    rw (p.1, p.2) (bad_passes c.in_err-read.field-0.0 (word_of c.in-Some.part.now) (words_of c.args.line.now)
    c.in_err-read.ensures
    (λ bad. words_are_bad c.loop-part.words.items c.in-Some.part.now c.loop-part.rest.now c.in-Some.after.now
    (words_of c.args.line.now) c.in-Some.ensures.1 c.in-Some.ensures.0 bad c.loop-part.invariant.1))

pub loop-part-preserved : goal.loop-part-preserved
loop-part-preserved c = (
  search rules,
  rw c.in_ok-push.ensures.items (words_go_on c.loop-part.words.items c.in-Some.part.now c.loop-part.rest.now
      c.in-Some.after.now
      c.in_ok-read.field-0 (words_of c.args.line.now)
      c.in-Some.ensures.1 c.in-Some.ensures.0 c.in_ok-read.ensures c.loop-part.invariant.1),
)

pub returns-in_err-read-2 : goal.returns-in_err-read-2
returns-in_err-read-2 c =
    let p = err_from_is_err_and c.from_residual-in_err-read-2.result c.from_residual-in_err-read-2.ensures.1 in
    rw (p.1, p.2) (bad_passes c.in_err-read-2.field-0.0 (word_of c.loop-part.rest.now) (words_of c.args.line.now)
    c.in_err-read-2.ensures
    (λ bad. words_end_badly c.loop-part.words.items c.loop-part.rest.now (words_of c.args.line.now) c.in_default.ensures
    bad
    c.loop-part.invariant.1))

pub returns : goal.returns
returns c =
    words_end c.loop-part.words.items c.loop-part.rest.now c.in_ok-read-2.field-0 (words_of c.args.line.now)
    c.in_default.ensures
    c.in_ok-read-2.ensures c.loop-part.invariant.1
    ∙ ap Some (sym c.in_ok-push-2.ensures.items)
