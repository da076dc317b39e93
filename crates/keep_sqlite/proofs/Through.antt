-- What a call makes of what another ended in.
use Rattle.std.proofs.Common.{◌≡◌, ℕ, Result, Ok, Err, IfOk, sym, subst}
use Rattle.std.specs.Prelude.{IsOkAnd, OnOk}
use Rattle.sqlite.specs.State.{State}
use Rattle.keep.specs.Tables.{Tables}
use Rattle.keep_sqlite.specs.Filing.{Filing}
use Rattle.keep_sqlite.specs.Ready.{Makes}

-- what holds of an answer, and of what was made of it, tells of that
pub through : {X Y E F : Type 0} (P : X → Type 0) (Q : X → Y → Type 0) (R : Y → Type 0) (answer : Result X E)
    (result : Result Y F) → IfOk answer P → IfOk result (λ y. IsOkAnd answer (λ x. Q x y))
    → ((x : X) (y : Y) → P x → Q x y → R y) → IfOk result R
through P Q R (Ok x) (Ok y) p q r = r x y p q
through P Q R (Err e) (Ok y) p q r = absurd q
through P Q R (Ok x) (Err e) p q r = tt
through P Q R (Err d) (Err e) p q r = tt

-- what the answer is of which something was made
pub answered : {X E : Type 0} (P Q : X → Type 0) (answer : Result X E) → IfOk answer P → IsOkAnd answer Q
    → (x : X) × P x × Q x
answered P Q (Ok x) p q = (x, p, q)
answered P Q (Err e) p q = absurd q

-- a statement was made, and the journal has so many rows
pub counted_makes : {S C X E F : Type 0} (f : Filing S C) (change : Tables S C → Tables S C) (old new : State)
    (count : ℕ) (A : Type 0) (made : Result X E) (result : Result ℕ F) → OnOk made A
    → IfOk result (λ n. IsOkAnd made (λ _. n ≡ count)) → (A → Makes f change count old new)
    → IfOk result (λ n. Makes f change n old new)
counted_makes f change old new count A (Ok x) (Ok n) h is makes =
    subst (λ m. Makes f change m old new) (sym is) (makes h)
counted_makes f change old new count A (Err e) (Ok n) h is makes = absurd is
counted_makes f change old new count A (Ok x) (Err e) h is makes = tt
counted_makes f change old new count A (Err d) (Err e) h is makes = tt
