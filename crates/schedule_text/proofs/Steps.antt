-- Words that are read one after another.
use Rattle.std.proofs.Common.{◌≡◌, ◌<◌, ◌≤◌, List, [], ◌∷◌, length, get_or, refl, arith, Option, Some, Result, Ok, Err}
use Rattle.std.specs.Result.{IsErrAnd}
use Rattle.schedule_text.specs.declared.fault.LineFault.{LineFault}
use Rattle.schedule_text.specs.declared.fault.LineFault.TheVariants.{Bad, Memory}
use Rattle.schedule_text.specs.Reading.{MayFail, Reads}
use Rattle.schedule_text.specs.Words.{◌>>=◌}

-- two items alone
pub two : {A : Type 0} (l : List A) (a b : A) → 2 ≤ length l → length l < 3 → a ≡ get_or l 0 a → b ≡ get_or l 1 b
    → l ≡ a ∷ b ∷ []
two [] a b least below first second = absurd (omega (arith, least))
two (x ∷ []) a b least below first second = absurd (omega (arith, least))
two (x ∷ y ∷ []) a b least below first second = rw first (rw second refl)
two (x ∷ y ∷ z ∷ l) a b least below first second = absurd (omega (arith, below))

-- three items alone
pub three : {A : Type 0} (l : List A) (a b c : A) → 3 ≤ length l → length l < 4 → a ≡ get_or l 0 a → b ≡ get_or l 1 b
    → c ≡ get_or l 2 c
    → l ≡ a ∷ b ∷ c ∷ []
three [] a b c least below first second third = absurd (omega (arith, least))
three (w ∷ l) a b c least below first second third =
    rw first (rw (two l b c (omega (arith, least)) (omega (arith, below)) second third) refl)

-- four items alone
pub four : {A : Type 0} (l : List A) (a b c d : A) → 4 ≤ length l → length l < 5 → a ≡ get_or l 0 a → b ≡ get_or l 1 b
    → c ≡ get_or l 2 c
    → d ≡ get_or l 3 d → l ≡ a ∷ b ∷ c ∷ d ∷ []
four [] a b c d least below first second third fourth = absurd (omega (arith, least))
four (w ∷ l) a b c d least below first second third fourth =
    rw first (rw (three l b c d (omega (arith, least)) (omega (arith, below)) second third fourth) refl)

-- what isn't read first isn't read at all
pub fails_first : {A B : Type 0} (fault : LineFault) (o : Option A) (f : A → Option B) → MayFail fault o
    → MayFail fault (o >>= f)
fails_first Bad o f none = rw none refl
fails_first Memory o f none = tt

-- what is read first is what the others are read with
pub then_fails : {A B : Type 0} (fault : LineFault) (o : Option A) (a : A) (f : A → Option B) → o ≡ Some a
    → MayFail fault (f a)
    → MayFail fault (o >>= f)
then_fails fault o a f known fails = rw known fails

-- what is read first is what the others are read with
pub then_reads : {A B : Type 0} (o : Option A) (a : A) (f : A → Option B) (expected : Option B) → o ≡ Some a
    → f a ≡ expected
    → (o >>= f) ≡ expected
then_reads o a f expected known same = rw known same

-- a fault is answered as it is
pub answers_fault : {X Y : Type 0} (view : X → Y) (r : Result X LineFault) (fault : LineFault) (expected : Option Y)
    → IsErrAnd r (λ y. y ≡ fault) → MayFail fault expected → Reads view r expected
answers_fault view (Ok x) fault expected said fails = absurd said
answers_fault view (Err y) fault expected said fails = rw said fails
