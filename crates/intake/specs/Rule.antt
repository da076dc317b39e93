-- The rule of the intake: what each reader has put is what was taken of it, and then what stands in the intake of it.
use Rattle.std.specs.Prelude.{◌≡◌, ℕ, ◌==◌, if◌then◌else◌, List, [], ◌∷◌, ◌++◌, true, false, ⊤}
use mathlib.Core.Option.{some}
use lib.ListN.{get_elem?}
use Rattle.intake.specs.declared.slip.Slip.{Slip}
use Rattle.intake.specs.declared.rule.Put.{Put}
use Rattle.intake.specs.declared.rule.Known.{Known}

-- P holds of each
abbrev pub Every : {X : Type 0} → (X → Type 0) → List X → Type 0
Every P [] = ⊤
Every P (x ∷ xs) = P x × Every P xs

module _ {M : Type 0} where
  -- the arrivals of a reader, in order
  abbrev pub of_reader : ℕ → List (Slip M) → List M
  of_reader n [] = []
  of_reader n (s ∷ ss) = if s.reader == n then s.arrival ∷ of_reader n ss else of_reader n ss

  -- a reader that has put nothing
  abbrev pub nothing_put : ℕ → Put M
  nothing_put n = record { reader = n; put = [] }

  -- the first pass: it has both readers, and takes
  abbrev pub opener : Known M
  opener = record { own = nothing_put 0 ∷ nothing_put 1 ∷ []; takes = true; got = [] }

  -- a pass that was taken in
  abbrev pub gone : Known M
  gone = record { own = []; takes = false; got = [] }

  abbrev pub first_of : List (Put M) → Put M
  first_of [] = nothing_put 0
  first_of (t ∷ ts) = t

  abbrev pub others_of : List (Put M) → List (Put M)
  others_of [] = []
  others_of (t ∷ ts) = ts

  -- the pass that made one of a reader, its first, and that one
  abbrev pub rest_of : Known M → Known M
  rest_of v = record { own = others_of v.own; takes = v.takes; got = v.got }

  abbrev pub reader_of : Known M → Known M
  reader_of v = record { own = first_of v.own ∷ []; takes = false; got = [] }

  -- the pass that took another in
  abbrev pub both_of : Known M → Known M → Known M
  both_of v w = record { own = v.own ++ w.own; takes = v.takes; got = v.got }

  abbrev pub has_put : Put M → M → Put M
  has_put t x = record { reader = t.reader; put = t.put ++ x ∷ [] }

  -- the steps: a reader's pass puts, the worker's takes
  abbrev pub HasPut : Known M → Slip M → Known M → Type 0
  HasPut v s w = w ≡ record { own = has_put (first_of v.own) s.arrival ∷ []; takes = v.takes; got = v.got }

  abbrev pub HasTaken : Known M → Slip M → Known M → Type 0
  HasTaken v s w = w ≡ record { own = v.own; takes = v.takes; got = v.got ++ s ∷ [] }

  -- the pass has this reader, and what it knows of it is so
  abbrev pub Has : (ℕ → List M) → (ℕ → ℕ) → ℕ → Put M → Type 0
  Has sent seat pass t = (seat t.reader ≡ pass) × (t.put ≡ sent t.reader)

  -- what a pass knows is so: `got` was taken, `sent n` was put by reader n, which the pass `seat n` has
  pub record Fits (got : List (Slip M)) (sent : ℕ → List M) (seat : ℕ → ℕ) (worker pass : ℕ) (v : Known M) : Type 0 where
    pub own : Every (Has sent seat pass) v.own
    pub takes : v.takes ≡ true → (worker ≡ pass) × (v.got ≡ got)

  -- the rule
  pub record IsKept (items : List (Slip M)) (views : List (Known M)) : Type 0 where
    pub got : List (Slip M)
    pub sent : ℕ → List M
    pub seat : ℕ → ℕ
    pub worker : ℕ
    pub flows : (n : ℕ) → of_reader n (got ++ items) ≡ sent n
    pub known : (pass : ℕ) (v : Known M) → get_elem? views pass ≡ some v → Fits got sent seat worker pass v

  -- what the worker learns of the readers that it has taken in
  abbrev pub Compared : Known M → List (Slip M) → Type 0
  Compared v items = v.takes ≡ true → Every (λ t. of_reader t.reader (v.got ++ items) ≡ t.put) v.own
