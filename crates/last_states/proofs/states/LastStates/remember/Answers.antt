use Rattle.std.proofs.Common.{◌∙◌, subst}
use Rattle.std.specs.Option.{IsSome}
use Rattle.last_states.specs.declared.states.TheConstants.{MOST_STATES}
use Rattle.base.specs.Entity.{text_of}
use Rattle.last_states.proofs.Knowing.{is_known, is_unknown, remembered-replaced, known-replaced}
use Rattle.last_states.proofs.Knowing.{remembered-not, remembered-put, room-put}
use Rattle.last_states.proofs.Orders.{texts-replaced, texts-put}
use Rattle.std.proofs.lemmas.Bool.{cond-false, false≢true}
use Rattle.last_states.proofs.states.LastStates.remember.Goals as goal

pub returns-in-Some-clause-known : goal.returns-in-Some-clause-known
returns-in-Some-clause-known g c =
    let es = c.args.self.now.states.entries in
    let some = is_known es c.args.entity.now c.text.ensures.text c.in-Some.known.now c.in-Some.ensures.value in
    λ e s. rw c.text.ensures.text (remembered-replaced es c.args.entity.now c.args.state some e s)

pub returns-in-Some-clause-latest : goal.returns-in-Some-clause-latest
returns-in-Some-clause-latest g c = λ some.
    rw c.text.ensures.text
    (texts-replaced (text_of c.args.entity.now) c.args.self.now.states.entries c.args.state some)

pub returns-in-Some-clause-replaced : goal.returns-in-Some-clause-replaced
returns-in-Some-clause-replaced g c =
    λ some e. rw c.text.ensures.text (known-replaced c.args.self.now.states.entries c.args.entity.now c.args.state some e)

pub returns-in-Some-clause-others : goal.returns-in-Some-clause-others
returns-in-Some-clause-others g c =
    let es = c.args.self.now.states.entries in
    let some = is_known es c.args.entity.now c.text.ensures.text c.in-Some.known.now c.in-Some.ensures.value in
    λ _ e other. rw c.text.ensures.text (known-replaced es c.args.entity.now c.args.state some e
    ∙ cond-false _ _ _ other)

pub returns-in_default-from_str-clause-known : goal.returns-in_default-from_str-clause-known
returns-in_default-from_str-clause-known g c =
    let es = c.args.self.now.states.entries in
    remembered-not es c.args.entity.now c.args.state
    (is_unknown es c.args.entity.now c.text.ensures.text c.in_default.ensures.value)

pub returns-clause-known : goal.returns-clause-known
returns-clause-known g c =
    let old = c.args.self.now.states in
    let none = is_unknown old.entries c.args.entity.now c.text.ensures.text c.in_default.ensures.value in
    remembered-put old c.args.entity.now c.in-Ok.text (c.in-Ok.ensures.ok ∙ c.text-2.ensures.text) c.args.state
    c.put.new.self none c.put.result c.put.ensures.entries c.put.ensures.err

pub returns-clause-first_goes : goal.returns-clause-first_goes
returns-clause-first_goes g c =
    let old = c.args.self.now.states in
    λ none. texts-put old (text_of c.args.entity.now) c.in-Ok.text (c.in-Ok.ensures.ok ∙ c.text-2.ensures.text) c.args.state
    none MOST_STATES c.put.new.self c.put.result c.args.self.now.bounded c.put.ensures.entries c.put.ensures.err

pub returns-in-Some-clause-first_goes : goal.returns-in-Some-clause-first_goes
returns-in-Some-clause-first_goes g c =
    let es = c.args.self.now.states.entries in
    let some = is_known es c.args.entity.now c.text.ensures.text c.in-Some.known.now c.in-Some.ensures.value in
    λ none. absurd (false≢true (subst IsSome none some))

pub returns-in_default-from_str-clause-latest : goal.returns-in_default-from_str-clause-latest
returns-in_default-from_str-clause-latest g c =
    let es = c.args.self.now.states.entries in
    let none = is_unknown es c.args.entity.now c.text.ensures.text c.in_default.ensures.value in
    λ some. absurd (false≢true (subst IsSome none some))

pub returns-clause-latest : goal.returns-clause-latest
returns-clause-latest g c =
    let es = c.args.self.now.states.entries in
    let none = is_unknown es c.args.entity.now c.text.ensures.text c.in_default.ensures.value in
    λ some. absurd (false≢true (subst IsSome none some))

pub returns-clause-others : goal.returns-clause-others
returns-clause-others g c =
    let old = c.args.self.now.states in
    let none = is_unknown old.entries c.args.entity.now c.text.ensures.text c.in_default.ensures.value in
    λ room. room-put old c.args.entity.now c.in-Ok.text (c.in-Ok.ensures.ok ∙ c.text-2.ensures.text) c.args.state
    c.put.new.self none c.put.result c.put.ensures.entries c.put.ensures.err (rw c.args.self.now.bounded room)
