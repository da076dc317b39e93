-- A slot that is put where a key has none.
use Rattle.std.proofs.Common.{◌≡◌, Option, Some, None, cond, refl, ap, ◌∙◌, Ordering}
use Rattle.std.proofs.Common.{inl, inr}
use Rattle.std.specs.Cmp.{IsTotalOrder}
use Rattle.std.specs.Option.{unwrap_or}
use Rattle.std.specs.Ordering.{is_eq}
use Rattle.std.specs.BTreeMap.{BTreeMap, get, get_by}
use Rattle.std.proofs.Math.Path.{fun_ext}
use Rattle.std.proofs.lemmas.Bool.{cases_Bool}
use Rattle.keep_plain.specs.Slots.{at, filled}
use Rattle.keep_plain.proofs.Filled.{equal_is}

written_back : {V : Type 0} (o : Option (Option V)) → unwrap_or o None ≡ filled o
written_back None = refl
written_back (Some slot) = refl

-- what stood at a key is written back there
pub same_slot : {K V : Type 0} {cmp : K → K → Ordering} (o : IsTotalOrder cmp) (m : BTreeMap K (Option V)) (k q : K)
    (w : Option V)
    (new : Option (Option V)) → w ≡ unwrap_or (get cmp m k) None
    → new ≡ cond (is_eq (cmp k q)) (Some w) (get cmp m q) → filled new ≡ at cmp m q
same_slot {cmp = cmp} o m k q w new is h = elim (cases_Bool (is_eq (cmp k q))) [
  | inl same ↦
      let alike : cmp k ≡ cmp q = fun_ext (λ x. o.congr k q x (equal_is (cmp k q) same)) in
      ap filled (h ∙ ap (λ b. cond b (Some w) (get cmp m q)) same) ∙ is ∙ written_back (get cmp m k)
      ∙ ap (λ c. filled (get_by c m)) alike
  | inr apart ↦ ap filled (h ∙ ap (λ b. cond b (Some w) (get cmp m q)) apart)
]
