use Rattle.std.proofs.Common.{◌≡◌, ◌++◌, ◌∷◌, [], Some, sym, ap, ◌∙◌, rules, string_bytes, refl}
use Rattle.std.specs.Prelude.{encode_utf8}
use Rattle.schedule_text.specs.Words.{unescaped}
use Rattle.schedule_text.proofs.Joins.{word_is, nothing_read, word_goes_on, word_ends, word_is_bad}
use Rattle.schedule_text.proofs.words.Word.read.Goals as goal

pub loop-before-init : goal.loop-before-init
loop-before-init c = (c.utf8.part, nothing_read _ (unescaped c.args.part.now) c.new-text.ensures.bytes)

pub returns-in_default-escaped : goal.returns-in_default-escaped
returns-in_default-escaped c =
    word_is c.args.part.now (sym c.is_empty.ensures ∙ c.if-is_empty.false)
    ∙ word_is_bad (string_bytes c.loop-before.text) c.in-Some.before.now c.loop-before.rest.now c.in-Some.after.now
    (unescaped c.args.part.now) c.in-Some.ensures.1 c.in-Some.ensures.0 c.in_default-escaped.ensures
    c.loop-before.invariant.1

pub loop-before-preserved : goal.loop-before-preserved
loop-before-preserved c =
    let ascii : encode_utf8 c.in-Some-escaped.octet ≡ c.in-Some-escaped.octet ∷ [] =
    c.in_ok-push.ensures.ascii c.in-Some-escaped.ensures.3 in
    let e : string_bytes c.push.new.self ≡ (string_bytes c.loop-before.text ++ c.in-Some.before.now)
    ++ c.in-Some-escaped.octet ∷ [] =
    rw (c.in_ok-push.ensures.bytes, c.in_ok-push_str.ensures.bytes, ascii) refl in (
      search rules,
      rw e (word_goes_on (string_bytes c.loop-before.text) c.in-Some.before.now c.in-Some-escaped.more.now
          c.loop-before.rest.now
          c.in-Some.after.now c.in-Some-escaped.ensures.0 c.in-Some-escaped.octet (unescaped c.args.part.now)
          c.in-Some.ensures.1 c.in-Some.ensures.0 c.in-Some-escaped.ensures.1 c.in-Some-escaped.ensures.2
          c.loop-before.invariant.1),
    )

pub returns : goal.returns
returns c =
    word_is c.args.part.now (sym c.is_empty.ensures ∙ c.if-is_empty.false)
    ∙ word_ends (string_bytes c.loop-before.text) c.loop-before.rest.now (unescaped c.args.part.now)
    c.in_default.ensures
    c.loop-before.invariant.1
    ∙ ap Some (sym c.in_ok-push_str-2.ensures.bytes)
