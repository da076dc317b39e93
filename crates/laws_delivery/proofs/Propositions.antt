-- What is good has one proof at most.
use Rattle.std.proofs.Common.{Bool, ℕ, List}
use Rattle.std.proofs.Props.{props}
use Rattle.base.specs.declared.entity.Kind.{Kind}
use Rattle.base.specs.declared.pair.Pair.{Pair}
use Rattle.envelope.specs.declared.message.Message.{Message}
use Rattle.envelope.specs.declared.message.Envelope.{Envelope}
use Rattle.envelope.specs.declared.message.Envelope.TheVariants.{Letter, Settle}
use Rattle.activities.proofs.Propositions.{message-set, prefix-prop}
use Rattle.laws_services.specs.Services.{Traffic}
use Rattle.laws_delivery.specs.Good.{IsGoodFromTo}
use Rattle.laws_delivery.specs.Shown.{Shown, Delivers, IsTrueOf, IsThere}

letters-set : IsSet (List (ℕ × Message))
letters-set = hlevel (props, message-set)

pub true-prop : (f t : Shown) (e : Envelope) → IsProp (IsTrueOf f t e)
true-prop f t (Letter l) = hlevel (props, message-set)
true-prop f t (Settle p n) = hlevel props

pub there-prop : (t : Shown) (p : Pair) (n : ℕ) → IsProp (IsThere t p n)
there-prop t p n = hlevel props

delivers-prop : (pairs : Pair → Bool) (from to : Kind) (f t : Shown) → IsProp (Delivers pairs from to f t)
delivers-prop pairs from to f t = hlevel (props, message-set, prefix-prop letters-set)

pub good-prop : (pairs : Pair → Bool) (traffic : Traffic) (from to : Kind) (f t : Shown)
    → IsProp (IsGoodFromTo pairs traffic from to f t)
good-prop pairs traffic from to f t = hlevel (props, delivers-prop, true-prop)
