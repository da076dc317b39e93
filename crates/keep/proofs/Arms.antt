-- What is armed, over more than one call.
use Rattle.std.proofs.Common.{◌≡◌, ◌-◌, inl, inr, refl, ◌∙◌, subst, arith, Bool, true, false}
use Rattle.std.specs.Prelude.{Option, Some, None, nat_le, if◌then◌else◌}
use Rattle.keep.specs.Failing.{due, counted_down}
use Rattle.keep.specs.Law.{StaysArmed, MayBeMet, IsServed, HasFailed, MoreFailures}
use Rattle.keep.specs.Seen.{Seen}
use Rattle.keep.specs.declared.faulty.Arming.{Arming}

-- a call that isn't made
pub stays_armed : (a : Option Arming) → StaysArmed a a
stays_armed None = refl
stays_armed (Some a) = (refl, omega arith)

-- one call behind another
pub still_armed : (a b c : Option Arming) → StaysArmed a b → StaysArmed b c → StaysArmed a c
still_armed None b c one two = subst (λ x. StaysArmed x c) one two
still_armed (Some a) None c one two = absurd one
still_armed (Some a) (Some b) None one two = absurd two
still_armed (Some a) (Some b) (Some c) one two = let x = one.1 in let y = two.1 in (two.0 ∙ one.0, omega (arith, x, y))

-- a call that fails behind one that was served
pub met_later : (a b c : Option Arming) → StaysArmed a b → MayBeMet b c → MayBeMet a c
met_later a b c one (inl gone) = inl gone
met_later a b c one (inr two) = inr (still_armed a b c one two)

-- a call that wasn't to fail is counted down, and one that was is met
unmet_by : (a : Arming) (last : Bool) → (if last then Some a.leaves else None) ≡ None
    → StaysArmed (Some a) (if last then None else Some (record a { calls = a.calls - 1 }))
unmet_by a true none = absurd (cc)
unmet_by a false none = (refl, omega arith)

pub unmet : (a : Option Arming) → due a ≡ None → StaysArmed a (counted_down a)
unmet None none = refl
unmet (Some a) none = unmet_by a (nat_le a.calls 1) none

met_by : (a : Arming) (last : Bool)
    → MayBeMet (Some a) (if last then None else Some (record a { calls = a.calls - 1 }))
met_by a true = inl refl
met_by a false = inr (refl, omega arith)

pub counts_down : (a : Option Arming) → MayBeMet a (counted_down a)
counts_down None = inl refl
counts_down (Some a) = met_by a (nat_le a.calls 1)

-- ---- the same of calls

module _ {E T : Type 0} (seen : E → Seen T) (old mid new : E) (served : IsServed seen old mid) where
  pub then_served : IsServed seen mid new → IsServed seen old new
  then_served h =
      (served.0, h.1, h.2 ∙ served.2, still_armed (seen old).armed (seen mid).armed (seen new).armed served.3 h.3)

  pub then_failed : HasFailed seen mid new → HasFailed seen old new
  then_failed h = (
    served.0,
    h.1,
    subst (λ n. MoreFailures n (seen new).failures) served.2 h.2,
    met_later (seen old).armed (seen mid).armed (seen new).armed served.3 h.3,
  )
