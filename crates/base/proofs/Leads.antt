-- Leads order as the texts do: octets with a lower lead are less.
use Rattle.std.proofs.Common.{◌≡◌, ◌≢◌, refl, ℕ, zero, suc, ◌+◌, ◌*◌, ◌^◌, ◌<◌, ◌≤◌, true, List, [], ◌∷◌, ◌++◌, get_or}
use Rattle.std.proofs.Common.{arith, sym, ◌∙◌, ap}
use Rattle.std.proofs.Common.{subst}
use Rattle.std.proofs.Math.Utf8.{scalars, scalar}
use Rattle.std.specs.Char.{encode_utf8}
use Rattle.std.specs.Int.{w64, from_be_bytes}
use Rattle.std.specs.Str.{IsUtf8, encode_utf8_all}
use Rattle.std.specs.Ordering.{nat_cmp, ordering_then, ordering_reverse}
use Rattle.std.specs.declared.cmp.Ordering.{Ordering}
use Rattle.std.specs.declared.cmp.Ordering.TheVariants.{Less, Equal, Greater}
use Rattle.std.specs.Cmp.Lexicographic.{slice_cmp}
use Rattle.std.proofs.lemmas.Bool.{and_parts}
use Rattle.std.proofs.lemmas.Bool.Decides.{nat_tests}
use Rattle.std.proofs.lemmas.Cmp.{by_ranked, ranked, nat_list_cmp_total}
use Rattle.std.proofs.Math.Nat.{mul-le-mul_right, one-le-pow, pow-suc}
use Rattle.base.specs.declared.entity.Kind.{Kind}
use Rattle.base.specs.declared.entity.Kind.TheVariants.{Order, Stock, Account}
use Rattle.base.specs.Entity.{Entity, word_of, prefix_of, text_of}
use Rattle.base.specs.Order.{entity_cmp}
use Rattle.base.specs.Parts.Lead.{lead_of}

-- the first n octets as one number, the first highest, and 0 for those that are missing
abbrev lead : ℕ → List ℕ → ℕ
lead zero xs = 0
lead (suc n) [] = 0
lead (suc n) (x ∷ xs) = x * 256 ^ n + lead n xs

abbrev AreOctets : List ℕ → Type 0
AreOctets xs = (i : ℕ) → get_or xs i 0 < 256

-- what is compared first decides where it tells two apart
pub then_decided : (o p r : Ordering) → o ≡ p → o ≢ Equal → o ≡ ordering_then p r
then_decided o p r is unequal = is ∙ decided p (λ e. unequal (is ∙ e))
  where
    decided : (p : Ordering) → p ≢ Equal → p ≡ ordering_then p r
    decided Less n = refl
    decided Equal n = absurd (n refl)
    decided Greater n = refl

-- ---- octets

octets-append : (xs ys : List ℕ) → AreOctets xs → AreOctets ys → AreOctets (xs ++ ys)
octets-append [] ys p q i = q i
octets-append (x ∷ xs) ys p q zero = p 0
octets-append (x ∷ xs) ys p q (suc i) = octets-append xs ys (λ j. p (suc j)) q i

encode-octets : (c : ℕ) → scalar c ≡ true → AreOctets (encode_utf8 c)
unfolding encode_utf8
encode-octets c is i = grind (arith, nat_tests)

encode_all-octets : (cs : List ℕ) → scalars cs ≡ true → AreOctets (encode_utf8_all cs)
encode_all-octets [] is = λ i. omega arith
encode_all-octets (c ∷ cs) is =
    let each = and_parts (scalar c) (scalars cs) is in
    octets-append (encode_utf8 c) (encode_utf8_all cs) (encode-octets c each.0) (encode_all-octets cs each.1)

-- a text has octets
octets_of_text : (bs : List ℕ) → IsUtf8 bs → AreOctets bs
octets_of_text bs is = subst AreOctets is.1.1 (encode_all-octets is.0 is.1.0)

-- ---- the order of leads

lead_fits : (n : ℕ) (xs : List ℕ) → AreOctets xs → lead n xs < 256 ^ n
lead_fits zero xs is = omega arith
lead_fits (suc n) [] is = omega (arith, one-le-pow (suc n) 256)
lead_fits (suc n) (x ∷ xs) is =
    let first : x ≤ 255 = omega (arith, is 0) in
    omega (arith, lead_fits n xs (λ i. is (suc i)), mul-le-mul_right (256 ^ n) first, pow-suc 256 n)

-- with a lower lead they are less
lead_Less : (n : ℕ) (xs ys : List ℕ) → AreOctets xs → AreOctets ys → lead n xs < lead n ys
    → slice_cmp nat_cmp xs ys ≡ Less
lead_Less zero xs ys p q lower = absurd (omega arith)
lead_Less (suc n) xs [] p q lower = absurd (omega arith)
lead_Less (suc n) [] (y ∷ ys) p q lower = refl
lead_Less (suc n) (x ∷ xs) (y ∷ ys) p q lower =
    by_ranked _ _ _ (nat_cmp x y) (ranked x y (nat_cmp x y) refl)
    (λ e less. rw e refl)
    (λ e same. rw e (lead_Less n xs ys (λ i. p (suc i)) (λ i. q (suc i)) (omega (arith, ap (λ k. k * 256 ^ n) same))))
    (λ e more. absurd (omega (arith, lead_fits n ys (λ i. q (suc i)), mul-le-mul_right (256 ^ n) more)))

-- so nothing changes where leads are compared first
lead_then : (n : ℕ) (xs ys : List ℕ) → AreOctets xs → AreOctets ys
    → ordering_then (nat_cmp (lead n xs) (lead n ys)) (slice_cmp nat_cmp xs ys) ≡ slice_cmp nat_cmp xs ys
lead_then n xs ys p q =
    by_ranked _ _ _ (nat_cmp (lead n xs) (lead n ys)) (ranked (lead n xs) (lead n ys) (nat_cmp (lead n xs) (lead n ys))
    refl)
    (λ e lower. rw e (sym (lead_Less n xs ys p q lower)))
    (λ e same. rw e refl)
    (λ e higher. rw e (sym (nat_list_cmp_total.antisymm xs ys ∙ ap ordering_reverse (lead_Less n ys xs q p higher))))

-- eight octets are a word
word_of_eight : (xs : List ℕ) → from_be_bytes w64 xs ≡ lead 8 xs
word_of_eight [] = refl
word_of_eight (a ∷ []) = omega arith
word_of_eight (a ∷ b ∷ []) = omega arith
word_of_eight (a ∷ b ∷ c ∷ []) = omega arith
word_of_eight (a ∷ b ∷ c ∷ d ∷ []) = omega arith
word_of_eight (a ∷ b ∷ c ∷ d ∷ e ∷ []) = omega arith
word_of_eight (a ∷ b ∷ c ∷ d ∷ e ∷ f ∷ []) = omega arith
word_of_eight (a ∷ b ∷ c ∷ d ∷ e ∷ f ∷ g ∷ []) = omega arith
word_of_eight (a ∷ b ∷ c ∷ d ∷ e ∷ f ∷ g ∷ h ∷ xs) = omega arith

-- ---- entities

-- the first octet of an entity's text, and its key: they order as the text
abbrev brief : Entity → List ℕ
brief e = get_or (word_of e.kind) 0 0 ∷ e.key

brief_cmp : (a b : Entity) → slice_cmp nat_cmp (brief a) (brief b) ≡ entity_cmp a b
brief_cmp a b = by_kinds a.kind b.kind a.key b.key
  where
    by_kinds : (j k : Kind) (x y : List ℕ)
        → slice_cmp nat_cmp (get_or (word_of j) 0 0 ∷ x) (get_or (word_of k) 0 0 ∷ y)
        ≡ slice_cmp nat_cmp (prefix_of j ++ x) (prefix_of k ++ y)
    by_kinds Order Order x y = refl
    by_kinds Order Stock x y = refl
    by_kinds Order Account x y = refl
    by_kinds Stock Order x y = refl
    by_kinds Stock Stock x y = refl
    by_kinds Stock Account x y = refl
    by_kinds Account Order x y = refl
    by_kinds Account Stock x y = refl
    by_kinds Account Account x y = refl

octets_behind : (xs ys : List ℕ) → AreOctets (xs ++ ys) → AreOctets ys
octets_behind [] ys is = is
octets_behind (x ∷ xs) ys is = octets_behind xs ys (λ i. is (suc i))

brief-octets : (e : Entity) → AreOctets (text_of e) → AreOctets (brief e)
brief-octets e is zero = initial e.kind
  where
    initial : (k : Kind) → get_or (word_of k) 0 0 < 256
    initial Order = omega arith
    initial Stock = omega arith
    initial Account = omega arith
brief-octets e is (suc i) = octets_behind (prefix_of e.kind) e.key is i

lead_of-then : (a b : Entity) → AreOctets (text_of a) → AreOctets (text_of b)
    → ordering_then (nat_cmp (lead_of a) (lead_of b)) (entity_cmp a b) ≡ entity_cmp a b
unfolding lead_of
lead_of-then a b p q =
    subst (λ o. ordering_then (nat_cmp (lead_of a) (lead_of b)) o ≡ o) (brief_cmp a b)
    (rw (word_of_eight (brief a), word_of_eight (brief b)) (lead_then 8 (brief a) (brief b) (brief-octets a p)
    (brief-octets b q)))

-- where leads differ, they order the entities
pub lead_of-decides : (a b : Entity) (o : Ordering) → IsUtf8 (text_of a) → IsUtf8 (text_of b)
    → o ≡ nat_cmp (lead_of a) (lead_of b)
    → o ≢ Equal → o ≡ entity_cmp a b
lead_of-decides a b o p q is unequal =
    then_decided o (nat_cmp (lead_of a) (lead_of b)) (entity_cmp a b) is unequal
    ∙ lead_of-then a b (octets_of_text (text_of a) p) (octets_of_text (text_of b) q)
