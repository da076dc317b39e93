-- SENDs with their numbers stand each at the place of its number.
use Rattle.std.proofs.Common.{◌≡◌, ℕ, ◌+◌, ◌-◌, List, [], ◌∷◌, ◌++◌, length, ◌∙◌, subst, refl, ap}
use Rattle.std.proofs.Common.{Some, append_assoc, length-append, arith}
use Rattle.std.specs.List.{AllByRecursion, slice_get}
use Rattle.broker_book.specs.declared.parts.Accepted.{Accepted}
use Rattle.broker_book.specs.declared.parts.Sent.{Sent}
use Rattle.broker_book.specs.Laws.{numbered}
use Rattle.laws_broker.specs.Runs.{StandsIn}

-- the item behind a list
item_behind : {X : Type 0} (before : List X) (x : X) (rest : List X)
    → slice_get (before ++ x ∷ rest) (length before) ≡ Some x
item_behind [] x rest = refl
item_behind (y ∷ before) x rest = item_behind before x rest

stands_behind : (before : List Accepted) (last : ℕ) (s : Sent) (rest : List Accepted) → length before ≡ last
    → StandsIn (before ++ record { number = last + 1; sent = s } ∷ rest) (record { number = last + 1; sent = s })
stands_behind before last s rest e =
    let k : last + 1 - 1 ≡ length before = omega (arith, e) in
    rw k (item_behind before (record { number = last + 1; sent = s }) rest)

-- SENDs with their numbers stand each at the place of its number
pub numbered_stand : (before : List Accepted) (last : ℕ) (ss : List Sent) → length before ≡ last
    → AllByRecursion (StandsIn (before ++ numbered last ss)) (numbered last ss)
numbered_stand before last [] e = tt
numbered_stand before last (s ∷ ss) e =
    let x : Accepted = record { number = last + 1; sent = s } in
    let rest = numbered (last + 1) ss in
    let l : length (before ++ x ∷ []) ≡ last + 1 = length-append before (x ∷ []) ∙ ap (λ n. n + 1) e in (
      stands_behind before last s rest e,
      subst (λ all. AllByRecursion (StandsIn all) rest) (append_assoc before (x ∷ []) rest)
          (numbered_stand (before ++ x ∷ []) (last + 1) ss l),
    )
