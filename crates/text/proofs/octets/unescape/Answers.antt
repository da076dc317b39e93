use Rattle.std.proofs.Common.{sym, ap, ◌∙◌, length}
use Rattle.std.proofs.lemmas.Bool.{eqb-false}
use Rattle.text.proofs.Escapes.{spells_more, spells_none}
use Rattle.text.proofs.octets.unescape.Goals as goal

pub returns-in_default : goal.returns-in_default
returns-in_default c = λ all.
    spells_none c.args.text.now c.loop-rest.octets.items c.loop-rest.rest.now all c.loop-rest.invariant
    c.in_default.ensures
    (λ e. eqb-false (length c.loop-rest.rest.now) 0 (sym c.is_empty.ensures ∙ c.loop-rest-test.true) (ap length e))

pub loop-rest-preserved : goal.loop-rest-preserved
loop-rest-preserved c =
    rw c.in_ok-push.ensures.items (spells_more c.args.text.now c.loop-rest.octets.items c.loop-rest.rest.now
    c.in-Some.behind.now
    c.in-Some.octet c.loop-rest.invariant c.in-Some.ensures)
