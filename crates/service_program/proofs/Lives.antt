-- Tokens that were just made are good, by the endpoint that was found.
use Rattle.std.proofs.Common.{◌≡◌, ℕ, List, [], ◌∷◌, ◌++◌, sym, subst, inl}
use Rattle.activities.specs.Service.{Service}
use Rattle.keep.specs.Seen.{Seen}
use Rattle.keep.specs.Tables.{Tables}
use Rattle.told_lock.specs.Rule.{Every, new_told, seen_by}
use Rattle.told_lock.specs.declared.view.ToldToken.{ToldToken}
use Rattle.shared_endpoint.specs.Keys.{Any}
use Rattle.shared_endpoint.specs.Promises.{IsGood}
use Rattle.service_workers.specs.Truth.{IsGoodWhile}
use Rattle.service_workers.proofs.Truth.{sound_at_first}
use Rattle.service_program.specs.Lives.{IsWhole}

module _ {E S C : Type 0} (seen : E → Seen (Tables S C)) (service : Service S C) (n : ℕ) (e : E) (own : List (ToldToken E)) where
  pub new_is_good : (sound : Type 0) → own ≡ new_told n e ∷ [] → (sound → IsWhole seen service e)
      → IsGoodWhile seen service sound own
  new_is_good sound is whole = sound_at_first seen service sound own (new_told n e) is
      (λ s. subst (Every (IsGood seen service)) (sym is)
      (record { usable = (whole s).usable; matches = (whole s).matches }, tt))

-- it has seen that endpoint
pub new_has_seen : {E : Type 0} (Found : E → Type 0) (n : ℕ) (e : E) (own : List (ToldToken E)) (shown : List E)
    → own ≡ new_told n e ∷ [] → Found e → Any Found (seen_by own ++ shown)
new_has_seen Found n e own shown is found = subst (λ ts. Any Found (seen_by ts ++ shown)) (sym is) (inl found)
