-- The ages of subscribers.
use Rattle.std.specs.Prelude.{◌≡◌, ℕ, Bool, true, nat_lt, List}
use Rattle.std.specs.List.{list_all}
use Rattle.broker_index.specs.Index.{Subscriber}
use Rattle.broker_index.specs.Slots.{is_rising}

-- whether all are below the next age
abbrev pub are_before : ℕ → List Subscriber → Bool
are_before next ss = list_all (λ s. nat_lt s.age next) ss

-- the ages rise, and all are below the next one
abbrev pub AreAged : ℕ → List Subscriber → Type 0
AreAged next ss = (is_rising (λ (s : Subscriber). s.age) ss ≡ true) × (are_before next ss ≡ true)
