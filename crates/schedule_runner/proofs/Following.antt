-- One path after another.
use Rattle.std.proofs.Common.{List, [], ◌∷◌, ◌++◌, refl, subst}
use Rattle.schedule_text.specs.declared.event.Event.{Event}
use Rattle.schedule_text.specs.declared.outcome.Outcome.{Outcome}
use Rattle.schedule_runner.specs.Paths.{IsPath, Leads}

module _ {Z : Type 0} (Step : Event → Outcome → Z → Z → Type 0) where
  pub path_append : (es : List Event) (os : List Outcome) (more : List Event) (told : List Outcome) (a b c : Z)
      → IsPath Step es os a b → IsPath Step more told b c → IsPath Step (es ++ more) (os ++ told) a c
  path_append [] [] more told a b c path next = subst (λ z. IsPath Step more told z c) path next
  path_append [] (o ∷ os) more told a b c path next = absurd path
  path_append (e ∷ es) [] more told a b c path next = absurd path
  path_append (e ∷ es) (o ∷ os) more told a b c path next =
      (path.0, path.1, path_append es os more told path.0 b c path.2 next)

  pub path_one : (e : Event) (o : Outcome) (a b : Z) → Step e o a b → IsPath Step (e ∷ []) (o ∷ []) a b
  path_one e o a b step = (b, step, refl)

  pub leads_append : (es more : List Event) (a b c : Z) → Leads Step es a b → Leads Step more b c
      → Leads Step (es ++ more) a c
  leads_append es more a b c first next = (first.0 ++ next.0, path_append es first.0 more next.0 a b c first.1 next.1)

  pub leads_none : (a : Z) → Leads Step [] a a
  leads_none a = ([], refl)

  pub leads_one : (e : Event) (o : Outcome) (a b : Z) → Step e o a b → Leads Step (e ∷ []) a b
  leads_one e o a b step = (o ∷ [], path_one e o a b step)
