-- The arrivals of one reader in a list of slips, and how many they are.
use Rattle.std.proofs.Common.{◌≡◌, ◌≢◌, ℕ, ◌+◌, ◌==◌, List, [], ◌∷◌, ◌++◌, length, refl, sym, ap, ◌∙◌, arith}
use Rattle.std.proofs.Common.{length-append}
use Rattle.std.specs.Prelude.{if◌then◌else◌, take}
use Rattle.std.proofs.lemmas.Bool.Decides.{nat_tests}
use Rattle.std.proofs.Math.Seq.{take-append_seam}
use Rattle.intake.specs.declared.slip.Slip.{Slip}
use Rattle.intake.specs.declared.taken.Taken.{Taken}
use Rattle.intake.specs.Counts.{IsCountOf, HasOneMore}
use Rattle.intake.specs.Ends.{AreFirst}
use Rattle.intake.specs.Rule.{of_reader}

module _ {M : Type 0} where
  pub of_reader-append : (n : ℕ) (xs ys : List (Slip M)) → of_reader n (xs ++ ys) ≡ of_reader n xs ++ of_reader n ys
  of_reader-append n [] ys = refl
  of_reader-append n (x ∷ xs) ys = let ih = of_reader-append n xs ys in grind (arith, nat_tests)

  -- one slip more, of this reader or of another
  pub of_reader-own : (n : ℕ) (xs : List (Slip M)) (s : Slip M) → s.reader ≡ n
      → of_reader n (xs ++ s ∷ []) ≡ of_reader n xs ++ s.arrival ∷ []
  of_reader-own n [] s e = grind (arith, nat_tests)
  of_reader-own n (x ∷ xs) s e = let ih = of_reader-own n xs s e in grind (arith, nat_tests)

  pub of_reader-other : (n : ℕ) (xs : List (Slip M)) (s : Slip M) → s.reader ≢ n
      → of_reader n (xs ++ s ∷ []) ≡ of_reader n xs
  of_reader-other n [] s e = grind (arith, nat_tests)
  of_reader-other n (x ∷ xs) s e = let ih = of_reader-other n xs s e in grind (arith, nat_tests)

  longer : (n k : ℕ) (xs : List (Slip M)) (s : Slip M) → k ≡ length (of_reader n xs)
      → length (of_reader n (xs ++ s ∷ [])) ≡ (if s.reader == n then k + 1 else k)
  longer n k [] s e = grind (arith, nat_tests)
  longer n k (x ∷ xs) s e =
      let more = of_reader-append n (x ∷ xs) (s ∷ []) in
      let sum = length-append (of_reader n (x ∷ xs)) (of_reader n (s ∷ [])) in
      grind (arith, nat_tests)

  -- counts that were right are so with one more
  pub counts : (got : List (Slip M)) (s : Slip M) (t u : Taken) → IsCountOf got t → HasOneMore s.reader t u
      → IsCountOf (got ++ s ∷ []) u
  counts got s t u h more = record {
    zero = more.0 ∙ sym (longer 0 t.zero got s h.zero);
    one = more.1 ∙ sym (longer 1 t.one got s h.one);
  }

  -- where a reader has put what was taken of it and what is left, what was taken are the first that it put
  pub first : (n count : ℕ) (got items : List (Slip M)) (put : List M) → count ≡ length (of_reader n got)
      → of_reader n (got ++ items) ≡ put → AreFirst count (of_reader n got) put
  first n count got items put is e =
      let whole : of_reader n got ++ of_reader n items ≡ put = sym (of_reader-append n got items) ∙ e in
      let begins : take (length (of_reader n got)) put ≡ of_reader n got =
      ap (λ (xs : List M). take (length (of_reader n got)) xs) (sym whole)
      ∙ take-append_seam (of_reader n got) (of_reader n items) in (
        sym begins ∙ ap (λ k. take k put) (sym is),
        sym is,
      )
