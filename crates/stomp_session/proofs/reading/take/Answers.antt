use Rattle.std.proofs.Common.{◌≡◌, Some, None, sym, ◌∙◌, rules}
use Rattle.std.specs.List.{position}
use Rattle.stomp_session.specs.Parts.Taking.{is_named}
use Rattle.stomp_session.proofs.Taking.{taken_value, taken_rest, missing_value, missing_rest}
use Rattle.stomp_session.proofs.reading.take.Goals as goal

pub returns-in_err-at-clause-value : goal.returns-in_err-at-clause-value
returns-in_err-at-clause-value c =
    let none : position (is_named c.args.name.now) c.args.headers.now.items ≡ None = search rules in
    rw (missing_value c.args.name.now c.args.headers.now.items none) (search rules)

pub returns-in_err-at-clause-rest : goal.returns-in_err-at-clause-rest
returns-in_err-at-clause-rest c =
    let none : position (is_named c.args.name.now) c.args.headers.now.items ≡ None = search rules in
    sym (missing_rest c.args.name.now c.args.headers.now.items none)

pub returns-clause-value : goal.returns-clause-value
returns-clause-value c =
    let found : position (is_named c.args.name.now) c.args.headers.now.items ≡ Some c.in_ok-at.at = search rules in
    rw (
      taken_value c.args.name.now c.args.headers.now.items c.in_ok-at.at c.remove.result found,
      ← c.remove.ensures.value,
      c.new.ensures,
      c.into_value.ensures,
    ) (search rules)

pub returns-clause-rest : goal.returns-clause-rest
returns-clause-rest c =
    let found : position (is_named c.args.name.now) c.args.headers.now.items ≡ Some c.in_ok-at.at = search rules in
    c.remove.ensures.items ∙ sym (taken_rest c.args.name.now c.args.headers.now.items c.in_ok-at.at c.remove.result
    found)
