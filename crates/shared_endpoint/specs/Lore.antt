-- What always holds of `Since`, `IsLater`, `EndsAs` and `EverSince`.
use Rattle.std.proofs.Common.{◌≡◌, ℕ, ◌+◌, ◌-◌, ◌^◌, ◌≤◌, Bool, true, false, true≢false, ◌++◌, inl, refl, sym}
use Rattle.std.proofs.Common.{ap, ◌∙◌}
use Rattle.std.proofs.Common.{subst, [], append-nil, append_assoc}
use Rattle.std.proofs.Math.Nat.{le_trans, le_refl, le-min, min-le_left, min-le_right, add-le-add}
use Rattle.std.proofs.Math.Arith.{le-zero}
use Rattle.activities.specs.Service.{Service}
use Rattle.keep.specs.Law.{MoreFailures}
use Rattle.keep.specs.Seen.{Seen}
use Rattle.keep.specs.Tables.{Tables}
use Rattle.endpoint.specs.Deeds.{Kept, kept}
use Rattle.shared_endpoint.specs.History.{Stands, Grows, IsLater, Since, EverSince, EndsAs}

pub zero_below : (a b : ℕ) → a ≤ b → b ≡ 0 → a ≡ 0
zero_below a b le z = le-zero (subst (λ n. a ≤ n) z le)

more_then : (a b c : ℕ) → MoreFailures a b → b ≤ c → MoreFailures a c
more_then a b c m le = (le_trans m.0 le, le_trans m.1 le)

pub then_more : (a b c : ℕ) → a ≤ b → MoreFailures b c → MoreFailures a c
then_more a b c le m = (
  le_trans le m.0,
  le_trans (le-min (le_trans (min-le_left (a + 1) (2 ^ 64 - 1)) (add-le-add le (le_refl 1)))
      (min-le_right (a + 1) (2 ^ 64 - 1))) m.1,
)

by_use : {P : Type 0} (b : Bool) → (b ≡ true → P) → (b ≡ false → P) → P
by_use true f g = f refl
by_use false f g = g refl

pub stands_same : {C : Type 0} (n : ℕ) (x : Kept C) → Stands n x x
stands_same n x = record {
  begins = ([], append-nil x.journal);
  rows = refl;
  marks = λ p. le_refl (x.settled p);
  held = λ _. (refl, refl);
}

pub stands_join : {C : Type 0} (n : ℕ) (x y z : Kept C) → Stands n x y → Stands n y z → Stands n x z
stands_join n x y z a b = record {
  begins = (
    a.begins.0 ++ b.begins.0,
    sym (append_assoc x.journal a.begins.0 b.begins.0) ∙ (ap (λ w. w ++ b.begins.0) a.begins.1 ∙ b.begins.1),
  );
  rows = b.rows ∙ a.rows;
  marks = λ p. le_trans (a.marks p) (b.marks p);
  held = λ is. ((b.held is).0 ∙ (a.held is).0, (b.held is).1 ∙ (a.held is).1);
}

pub grows_same : {S C : Type 0} (t : Tables S C) → Grows t t
grows_same t = (([], append-nil t.journal), λ p. le_refl (t.settled p))

pub grows_join : {S C : Type 0} (t u v : Tables S C) → Grows t u → Grows u v → Grows t v
grows_join t u v a b = (
  (
    a.0.0 ++ b.0.0,
    sym (append_assoc t.journal a.0.0 b.0.0) ∙ (ap (λ w. w ++ b.0.0) a.0.1 ∙ b.0.1),
  ),
  λ p. le_trans (a.1 p) (b.1 p),
)

module _ {E S C : Type 0} (seen : E → Seen (Tables S C)) where
  pub later_same : (a : E) → IsLater seen a a
  later_same a = record {
    doubt = le_refl (seen a).doubt;
    failures = le_refl (seen a).failures;
    dead = λ _. refl;
    fell = λ t f. absurd (true≢false (sym t ∙ f));
  }

  pub later_join : (a b c : E) → IsLater seen a b → IsLater seen b c → IsLater seen a c
  later_join a b c p q = record {
    doubt = le_trans p.doubt q.doubt;
    failures = le_trans p.failures q.failures;
    dead = λ d. let same : b ≡ a = p.dead d in q.dead (ap (λ (k : E). (seen k).usable) same ∙ d) ∙ same;
    fell = λ t f. by_use (seen b).usable
        (λ up. then_more (seen a).failures (seen b).failures (seen c).failures p.failures (q.fell up f))
        (λ down. more_then (seen a).failures (seen b).failures (seen c).failures (p.fell t down) q.failures);
  }

  module _ (service : Service S C) where
    pub since_same : (n : ℕ) (a : E) → Since seen service n a a
    since_same n a = record {
      usable = λ u. u;
      doubt = le_refl (seen a).doubt;
      clean = λ _ m. (m, stands_same n (kept (seen a).tables));
    }

    pub since_join : (n : ℕ) (a b c : E) → Since seen service n a b → Since seen service n b c
        → Since seen service n a c
    since_join n a b c p q = record {
      usable = λ u. q.usable (p.usable u);
      doubt = le_trans p.doubt q.doubt;
      clean = λ z m.
          let first = p.clean (zero_below (seen b).doubt (seen c).doubt q.doubt z) m in
          let then' = q.clean z first.0 in (
            then'.0,
            stands_join n (kept (seen a).tables) (kept (seen b).tables) (kept (seen c).tables) first.1 then'.1,
          );
    }

    pub ends_same : (a : E) → EndsAs seen service a a
    ends_same a = inl refl

    pub ever_of : (n : ℕ) (a b : E) → Since seen service n a b → EverSince seen service a b
    ever_of n a b s = record {
      usable = s.usable;
      doubt = s.doubt;
      clean = λ z m. let known = s.clean z m in (known.0, (known.1.begins, known.1.marks));
    }

    pub ever_join : (a b c : E) → EverSince seen service a b → EverSince seen service b c → EverSince seen service a c
    ever_join a b c p q = record {
      usable = λ u. q.usable (p.usable u);
      doubt = le_trans p.doubt q.doubt;
      clean = λ z m.
          let first = p.clean (zero_below (seen b).doubt (seen c).doubt q.doubt z) m in
          let then' = q.clean z first.0 in
          (then'.0, grows_join (seen a).tables (seen b).tables (seen c).tables first.1 then'.1);
    }
