-- Why a group ends before an envelope.
use Rattle.std.proofs.Common.{◌≡◌, ℕ, ◌+◌, ◌-◌, ◌^◌, ◌<◌, ◌≤◌, Bool, true, false, List, Result, Ok, Err, min}
use Rattle.std.proofs.Common.{inr, refl, sym, subst, arith}
use Rattle.std.specs.Prelude.{nat_lt}
use Rattle.std.proofs.lemmas.Bool.Decides.{nat_tests}
use Rattle.base.specs.Number.{IsNumber}
use Rattle.base.specs.declared.limits.TheConstants.{MAX_NUMBER}
use Rattle.envelope.specs.declared.message.Letter.{Letter}
use Rattle.activities.specs.Reaction.{react}
use Rattle.activities.specs.Rows.{state_for}
use Rattle.activities.specs.Service.{Service}
use Rattle.activities.specs.declared.handler.Refusal.{Refusal}
use Rattle.activities.specs.declared.input.Input.{Input}
use Rattle.activities.specs.declared.input.Input.TheVariants.{FromEntity}
use Rattle.activities.specs.declared.outs.Out.{Out}
use Rattle.keep.specs.Tables.{Tables}
use Rattle.outbox.specs.Numbering.{NumbersPass}
use Rattle.group_commit.specs.Parts.Planning.{Stops, IsNotNext}

-- a number that is none, though it isn't 0, is above the limit
above_limit : (n : ℕ) → 0 < n → (IsNumber n → ⊥) → (b : Bool) → nat_lt MAX_NUMBER n ≡ b → MAX_NUMBER < n
above_limit n some none true is = grind (arith, nat_tests, is)
above_limit n some none false is =
    let small : n ≤ MAX_NUMBER = grind (arith, nat_tests, is) in
    absurd (none (record { positive = some; small = small }))

pub is_above : (n : ℕ) → 0 < n → (IsNumber n → ⊥) → MAX_NUMBER < n
is_above n some none = above_limit n some none (nat_lt MAX_NUMBER n) refl

-- no number is left for a row
pub no_row_left : (rows v : ℕ) → v ≡ min (rows + 1) (2 ^ 64 - 1) → (IsNumber v → ⊥) → MAX_NUMBER ≤ rows
no_row_left rows v is none = let big = is_above v (omega (arith, is)) none in omega (arith, is, big)

-- the receiver stops a letter that finds it in this state
module _ {S C : Type 0} (service : Service S C) (rows : ℕ) (l : Letter) (t : Tables S C) (state : S) (input : Input C)
    (is : input ≡ FromEntity l.pair.from l.number l.message)
    (found : state ≡ state_for service.reactions.opening (t.entity l.pair.to)) where
  abbrev Reaction : Result (S × List Out) Refusal
  Reaction = react service.reactions (state_for service.reactions.opening (t.entity l.pair.to))
      (FromEntity l.pair.from l.number l.message)

  reacts : (r : Result (S × List Out) Refusal) → react service.reactions state input ≡ r → Reaction ≡ r
  reacts r h = subst (λ (s : S). react service.reactions s (FromEntity l.pair.from l.number l.message) ≡ r) found
      (subst (λ (i : Input C). react service.reactions state i ≡ r) is h)

  pub refuses : (refusal : Refusal) → react service.reactions state input ≡ Err refusal → IsNotNext service rows l t
  refuses refusal h = inr (inr (subst (λ r. Stops r l.pair.to t) (sym (reacts (Err refusal) h)) tt))

  pub passes : (done : S × List Out) → react service.reactions state input ≡ Ok done
      → NumbersPass t.sent l.pair.to done.1 → IsNotNext service rows l t
  passes done h more = inr (inr (subst (λ r. Stops r l.pair.to t) (sym (reacts (Ok done) h)) more))
