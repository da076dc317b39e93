-- What is known of a link's octets, over several calls.
use Rattle.std.proofs.Common.{◌≡◌, ℕ, zero, suc, ◌+◌, ◌-◌, ◌≤◌, List, [], ◌∷◌, ◌++◌, length, take, drop, Option, Some}
use Rattle.std.proofs.Common.{None, refl, sym, ap}
use Rattle.std.proofs.Common.{◌∙◌, append_assoc, arith, rules}
use Rattle.std.proofs.lemmas.Grind.{common_steps}
use Rattle.std.specs.Io.KnownBytes.{Appends, Keeps}

-- what no call has touched stays
pub Keeps-same : (known : Option (List ℕ)) → Keeps known known
Keeps-same None = tt
Keeps-same (Some xs) = refl

-- what stays known twice stays known
pub Keeps-twice : (first second third : Option (List ℕ)) → Keeps first second → Keeps second third → Keeps first third
Keeps-twice None second third kept again = tt
Keeps-twice (Some xs) None third kept again = absurd kept
Keeps-twice (Some xs) (Some ys) None kept again = again
Keeps-twice (Some xs) (Some ys) (Some zs) kept again = again ∙ kept

pub Appends-none : (known : Option (List ℕ)) → Appends known known []
Appends-none None = tt
Appends-none (Some xs) = search rules

-- what was added and then stays known was added
pub Appends-kept : (first second third : Option (List ℕ)) (more : List ℕ) → Appends first second more
    → Keeps second third
    → Appends first third more
Appends-kept None second third more put kept = tt
Appends-kept (Some xs) None third more put kept = absurd put
Appends-kept (Some xs) (Some ys) None more put kept = kept
Appends-kept (Some xs) (Some ys) (Some zs) more put kept = kept ∙ put

-- octets that were added one list after the other were added as one list
pub Appends-twice : (first second third : Option (List ℕ)) (more rest whole : List ℕ) → whole ≡ more ++ rest
    → Appends first second more
    → Appends second third rest → Appends first third whole
Appends-twice None second third more rest whole is put again = tt
Appends-twice (Some xs) None third more rest whole is put again = absurd put
Appends-twice (Some xs) (Some ys) None more rest whole is put again = again
Appends-twice (Some xs) (Some ys) (Some zs) more rest whole is put again =
    again ∙ ap (λ (t : List ℕ). t ++ rest) put ∙ append_assoc xs more rest ∙ ap (λ (t : List ℕ). xs ++ t) (sym is)

-- no octets were added after those
pub Appends-then_none : (n : ℕ) (none : n ≡ 0) (octets more : List ℕ) (first second third : Option (List ℕ))
    → Appends first second more
    → Appends second third (take n octets) → Appends first third more
Appends-then_none n none octets more first second third put again =
    let same : more ≡ more ++ take n octets = rw none (grind (arith, common_steps)) in
    Appends-twice first second third more (take n octets) more same put again

-- what a slice from `n` on has
pub take-rest : {X : Type 0} (n : ℕ) (xs : List X) → take (length xs - n) (drop n xs) ≡ drop n xs
take-rest n xs = grind (arith, common_steps)

-- a beginning is a shorter beginning and then some of what is left after it
pub take-more : {X : Type 0} (n m : ℕ) (xs : List X) → take (n + m) xs ≡ take n xs ++ take m (drop n xs)
take-more n m [] = grind (arith, common_steps)
take-more zero m (x ∷ xs) = grind (arith, common_steps)
take-more (suc n) m (x ∷ xs) = let one_less : suc n + m ≡ suc (n + m) = omega arith in
    rw one_less (ap (λ rest. x ∷ rest) (take-more n m xs))

-- what is left after some, and then some more, is what is left after all of them
pub drop-more : {X : Type 0} (n m : ℕ) (xs : List X) → drop m (drop n xs) ≡ drop (n + m) xs
drop-more n m [] = grind (arith, common_steps)
drop-more zero m (x ∷ xs) = grind (arith, common_steps)
drop-more (suc n) m (x ∷ xs) = let one_less : suc n + m ≡ suc (n + m) = omega arith in rw one_less (drop-more n m xs)

module _ (gone count : ℕ) (least : gone ≤ count) (octets : List ℕ) where
  -- from `gone` octets to `count` and `some` more
  pub Appends-more : (some : ℕ) (first second third : Option (List ℕ))
      → Appends first second (take (count - gone) (drop gone octets))
      → Appends second third (take some (drop count octets))
      → Appends first third (take (count + some - gone) (drop gone octets))
  Appends-more some first second third put again =
      let sum : count + some - gone ≡ (count - gone) + some = omega (arith, least) in
      let whole : gone + (count - gone) ≡ count = omega (arith, least) in
      let left : drop (count - gone) (drop gone octets) ≡ drop count octets = drop-more gone (count - gone) octets
      ∙ ap (λ n. drop n octets) whole in
      let parts : take (count + some - gone) (drop gone octets) ≡ take (count - gone) (drop gone octets)
      ++ take some (drop count octets) =
      ap (λ n. take n (drop gone octets)) sum ∙ take-more (count - gone) some (drop gone octets)
      ∙ ap (λ rest. take (count - gone) (drop gone octets) ++ take some rest) left in
      Appends-twice first second third _ _ _ parts put again

  -- from the first octet to `gone`, and from there to `count`
  pub Appends-whole : (first second third : Option (List ℕ)) → Appends first second (take gone octets)
      → Appends second third (take (count - gone) (drop gone octets)) → Appends first third (take count octets)
  Appends-whole first second third put again =
      let whole : gone + (count - gone) ≡ count = omega (arith, least) in
      let parts : take count octets ≡ take gone octets ++ take (count - gone) (drop gone octets) =
      ap (λ n. take n octets) (sym whole) ∙ take-more gone (count - gone) octets in
      Appends-twice first second third _ _ _ parts put again
