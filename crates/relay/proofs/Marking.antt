-- Marks by pair, as a map has them.
use Rattle.std.proofs.Common.{◌≡◌, ℕ, Bool, true, false, cond, Option, Some, None, refl, sym, ap, subst, ◌∙◌, BTreeMap}
use Rattle.std.specs.Prelude.{unwrap_or}
use Rattle.std.proofs.Math.Path.{fun_ext}
use Rattle.std.specs.declared.cmp.Ordering.{Ordering}
use Rattle.std.specs.declared.cmp.Ordering.TheVariants.{Less, Equal, Greater}
use Rattle.std.specs.Ordering.{is_eq}
use Rattle.std.specs.BTreeMap.{get, is_at}
use Rattle.base.specs.Order.{pair_cmp, same_pair-ties}
use Rattle.base.specs.declared.pair.Pair.{Pair}
use Rattle.keep.specs.Tables.{set_mark}
use Rattle.keep.proofs.Places.{pair_cmp-Equal}
use Rattle.relay.specs.Marks.{mark_in}

equal : (o : Ordering) → is_eq o ≡ true → o ≡ Equal
equal Equal e = refl
equal Less e = absurd cc
equal Greater e = absurd cc

zero_or : (b : Bool) (o : Option ℕ) → (b ≡ true → o ≡ None) → unwrap_or (cond b (Some 0) o) 0 ≡ unwrap_or o 0
zero_or true o h = rw (h refl) refl
zero_or false o h = refl

-- a mark of 0 is as none
pub zero_same : (old new : BTreeMap Pair ℕ) (p : Pair) → get pair_cmp old p ≡ None
    → ((q : Pair) → get pair_cmp new q ≡ cond (is_at (pair_cmp p) q) (Some 0) (get pair_cmp old q)) → (q : Pair)
    → mark_in new q ≡ mark_in old q
zero_same old new p none e q = ap (λ o. unwrap_or o 0) (e q)
    ∙ zero_or (is_eq (pair_cmp p q)) (get pair_cmp old q)
    (λ at. subst (λ x. get pair_cmp old x ≡ None) (pair_cmp-Equal p q (equal (pair_cmp p q) at)) none)

number_or : (b : Bool) (n : ℕ) (o : Option ℕ) → unwrap_or (cond b (Some n) o) 0 ≡ cond b n (unwrap_or o 0)
number_or true n o = refl
number_or false n o = refl

-- a mark is set where a place was made for it
pub set_is : (old mid new : BTreeMap Pair ℕ) (p : Pair) (n : ℕ) → ((q : Pair) → mark_in mid q ≡ mark_in old q)
    → ((q : Pair) → get pair_cmp new q ≡ cond (is_at (pair_cmp p) q) (Some n) (get pair_cmp mid q))
    → ◌≡◌ {A = Pair → ℕ} (λ q. mark_in new q) (set_mark p n (λ q. mark_in old q))
set_is old mid new p n same e = fun_ext (λ q. ap (λ o. unwrap_or o 0) (e q)
    ∙ number_or (is_eq (pair_cmp p q)) n (get pair_cmp mid q)
    ∙ ap (λ x. cond (is_eq (pair_cmp p q)) n x) (same q)
    ∙ ap (λ b. cond b n (mark_in old q)) (sym (same_pair-ties p q)))

-- marks that are the same at each pair are the same
pub marks_same : (old new : BTreeMap Pair ℕ) → ((q : Pair) → mark_in new q ≡ mark_in old q)
    → ◌≡◌ {A = Pair → ℕ} (λ q. mark_in new q) (λ q. mark_in old q)
marks_same old new same = fun_ext same
