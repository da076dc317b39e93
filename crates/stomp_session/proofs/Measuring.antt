-- Where no value is too long, none of a name is, and where few headers are there, few are a SEND's own.
use Rattle.std.proofs.Common.{◌≡◌, ◌≤◌, ℕ, Bool, true, false, List, [], ◌∷◌, length, refl, arith, inl, inr}
use Rattle.std.specs.Prelude.{◌||◌, filter, nat_lt}
use Rattle.std.specs.List.{list_any}
use Rattle.std.specs.Str.{bytes_eq}
use Rattle.std.proofs.lemmas.Bool.{cases_Bool}
use Rattle.base.specs.declared.limits.TheConstants.{MAX_ECHOED}
use Rattle.stomp_frame.specs.Frames.{Header, value_of}
use Rattle.stomp_session.specs.Headers.{is_long}

left_false : (a b : Bool) → (a || b) ≡ false → a ≡ false
left_false true b e = e
left_false false b e = refl

right_false : (a b : Bool) → (a || b) ≡ false → b ≡ false
right_false true b e = cc
right_false false b e = e

-- a value of a name is one of the values
pub value_short : (name : List ℕ) (hs : List Header)
    → list_any (λ (h : Header). nat_lt MAX_ECHOED (length h.value)) hs ≡ false
    → is_long (value_of name hs) ≡ false
value_short name [] none = refl
value_short name (h ∷ hs) none = elim (cases_Bool (bytes_eq h.name name)) [
  | inl on ↦ rw on (left_false (nat_lt MAX_ECHOED (length h.value))
      (list_any (λ (g : Header). nat_lt MAX_ECHOED (length g.value)) hs) none)
  | inr off ↦ rw off (value_short name hs (right_false (nat_lt MAX_ECHOED (length h.value))
      (list_any (λ (g : Header). nat_lt MAX_ECHOED (length g.value)) hs) none))
]

-- where no element passes, none in a list does
pub any_never : {X : Type 0} (p : X → Bool) (xs : List X) → ((x : X) → p x ≡ false) → list_any p xs ≡ false
any_never p [] never = refl
any_never p (x ∷ xs) never = rw (never x) (any_never p xs never)

-- a part has no more than the whole
pub fewer : {X : Type 0} (p : X → Bool) (xs : List X) → length (filter p xs) ≤ length xs
fewer p [] = omega arith
fewer p (x ∷ xs) = elim (cases_Bool (p x)) [
  | inl on ↦ rw on (omega (arith, fewer p xs))
  | inr off ↦ rw off (omega (arith, fewer p xs))
]
