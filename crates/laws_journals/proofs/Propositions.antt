-- What is said of journals and envelopes has one proof at most.
use Rattle.std.proofs.Common.{ℕ, List}
use Rattle.std.proofs.Props.{props}
use Rattle.base.specs.declared.pair.Pair.{Pair}
use Rattle.envelope.specs.declared.message.Message.{Message}
use Rattle.envelope.specs.declared.message.Envelope.{Envelope}
use Rattle.envelope.specs.declared.message.Envelope.TheVariants.{Letter, Settle}
use Rattle.activities.proofs.Propositions.{message-set, prefix-prop, legal-prop}
use Rattle.laws_journals.specs.Journals.{Journals, HandlesPrefixes, AreLawful}
use Rattle.laws_journals.specs.Envelopes.{IsAuthentic, SettledAreHandled}

letters-set : IsSet (List (ℕ × Message))
letters-set = hlevel (props, message-set)

pub prefixes-prop : (js : Journals) → IsProp (HandlesPrefixes js)
prefixes-prop js = hlevel (prefix-prop letters-set)

pub lawful-prop : (js : Journals) → IsProp (AreLawful js)
lawful-prop js = hlevel (props, legal-prop, prefixes-prop js)

pub authentic-prop : (js : Journals) (e : Envelope) → IsProp (IsAuthentic js e)
authentic-prop js (Letter l) = hlevel (props, message-set)
authentic-prop js (Settle pair count) = hlevel props

pub settled-prop : (js : Journals) (settled : Pair → ℕ) → IsProp (SettledAreHandled js settled)
settled-prop js settled = hlevel props
