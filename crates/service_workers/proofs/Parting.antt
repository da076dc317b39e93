-- Letters by the kind of their receiver.
use Rattle.std.proofs.Common.{◌≡◌, ℕ, Bool, true, false, List, [], ◌∷◌, refl, subst, sym}
use Rattle.std.specs.Prelude.{filter, if◌then◌else◌}
use Rattle.std.specs.List.{AllByRecursion}
use Rattle.base.specs.declared.entity.Kind.{Kind}
use Rattle.base.specs.declared.entity.Kind.TheVariants.{Order, Stock, Account}
use Rattle.envelope.specs.declared.message.Envelope.TheVariants as envelope
use Rattle.envelope.specs.declared.message.Letter.{Letter}
use Rattle.activities.specs.Service.{Service}
use Rattle.keep.specs.Seen.{Seen}
use Rattle.keep.specs.Tables.{Tables}
use Rattle.laws_stores.specs.Writing.{IsTrueIn}
use Rattle.told_lock.specs.declared.view.ToldToken.{ToldToken}
use Rattle.service_workers.specs.Counts.{count_of, with_count}
use Rattle.service_workers.specs.Truth.{AreSentIn, Knows}
use Rattle.service_workers.specs.declared.counts.Counts.{Counts}
use Rattle.service_workers.proofs.Truth.{so_knows}

-- the count that was set for a kind is the one that is read for it
pub count_with : (kind : Kind) (n : ℕ) (c : Counts) → count_of kind (with_count kind n c) ≡ n
count_with Order n c = refl
count_with Stock n c = refl
count_with Account n c = refl

module _ {A : Type 0} (p : A → Bool) where
  all_if : (P : A → Type 0) (b : Bool) (x : A) (xs : List A) → P x → AllByRecursion P xs
      → AllByRecursion P (if b then x ∷ xs else xs)
  all_if P true x xs h each = (h, each)
  all_if P false x xs h each = each

  -- what is so of all letters is so of those that pass
  pub all_kept : (P : A → Type 0) (xs : List A) → AllByRecursion P xs → AllByRecursion P (filter p xs)
  all_kept P [] each = tt
  all_kept P (x ∷ xs) each = all_if P (p x) x (filter p xs) each.0 (all_kept P xs each.1)

-- some of the letters that a token knows to be sent
pub some_known : {E S C : Type 0} (seen : E → Seen (Tables S C)) (service : Service S C) (sound : Type 0) (p : Letter → Bool)
    (ls some : List Letter) → some ≡ filter p ls → (ws : List (ToldToken E))
    → Knows seen service sound (AreSentIn service.reactions ls) ws
    → Knows seen service sound (AreSentIn service.reactions some) ws
some_known seen service sound p ls some is =
    so_knows seen service sound (AreSentIn service.reactions ls) (AreSentIn service.reactions some)
    (λ x h. subst (λ xs. AreSentIn service.reactions xs x) (sym is)
    (all_kept p (λ l. IsTrueIn service.reactions x.journal (envelope.Letter l)) ls h))
