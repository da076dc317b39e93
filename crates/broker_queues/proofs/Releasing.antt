-- A subscriber whose deliveries were taken back goes: the book releases the subscription.
use Rattle.std.proofs.Common.{◌≡◌, ℕ, Bool, true, false, not, cond, List, [], ◌∷◌, map, Option, Some, None, refl, sym}
use Rattle.std.proofs.Common.{ap, ◌∙◌, inl, inr}
use Rattle.std.specs.Prelude.{◌==◌, filter}
use Rattle.std.proofs.lemmas.Bool.{cases_Bool, cases_eq, eq-eqb, ne_eqb}
use Rattle.broker_book.specs.declared.parts.Accepted.{Accepted}
use Rattle.broker_book.specs.declared.parts.Subscription.{Subscription}
use Rattle.broker_book.specs.Books.{Fate, Ready, out_to, is_named}
use Rattle.broker_book.specs.Steps.{released, ready_if}
use Rattle.broker_index.specs.Index.{Kept, Subscriber, has_number}
use Rattle.broker_queues.specs.Parts.Facts.{kept_at, subscriber_at, living_of, subscriptions_of}
use Rattle.broker_queues.specs.Parts.Fates.{passes, back, counts_in, fated, turn_if}
use Rattle.broker_queues.specs.Parts.Held.{Turns}
use Rattle.broker_queues.specs.Parts.Whole.{Holding, IsSound, Leaves, book_of}
use Rattle.broker_queues.proofs.Answering.{whole, noted_by, released_living}
use Rattle.broker_queues.proofs.Finding.{IsMapped, is_mapped, find_map}
use Rattle.broker_queues.proofs.Rising.{filter_same}
use Rattle.broker_queues.proofs.Subscribing.{named_from}

filter_mapped : {A B : Type 0} (p : B → Bool) (g : A → B) (xs : List A)
    → filter p (map g xs) ≡ map g (filter (λ x. p (g x)) xs)
filter_mapped p g [] = refl
filter_mapped p g (x ∷ xs) = both (p (g x)) (filter_mapped p g xs)
  where
    both : (b : Bool) → filter p (map g xs) ≡ map g (filter (λ x. p (g x)) xs)
        → cond b (g x ∷ filter p (map g xs)) (filter p (map g xs))
        ≡ map g (cond b (x ∷ filter (λ x. p (g x)) xs) (filter (λ x. p (g x)) xs))
    both true rest = ap (λ l. g x ∷ l) rest
    both false rest = rest

-- one that turned fails the test
turned_fails : (to : Option Fate) (test : Fate → Bool) → passes test to ≡ false → (k : Kept)
    → passes test (turn_if to test k).fate ≡ false
turned_fails to test fails k = elim (cases_Bool (passes test k.fate)) [
  | inl on ↦
      let turned : turn_if to test k ≡ fated to k = rw on refl in
      ap (λ (l : Kept). passes test l.fate) turned ∙ fails
  | inr off ↦
      let stays : turn_if to test k ≡ k = rw off refl in
      ap (λ (l : Kept). passes test l.fate) stays ∙ off
]

turned_number : (to : Option Fate) (test : Fate → Bool) (k : Kept) → (turn_if to test k).number ≡ k.number
turned_number to test k = elim (cases_Bool (passes test k.fate)) [ inl on ↦ rw on refl | inr off ↦ rw off refl ]

module _ (h : Holding) (is : IsSound h) (a : ℕ) (s : Subscriber) (sits : subscriber_at a h.subscribers ≡ Some s) where
  -- the others are those of other names
  others : map (λ (u : Subscriber). u.subscription) (filter (λ (u : Subscriber). not (u.age == a)) h.subscribers)
      ≡ filter (λ u. not (is_named s.subscription.session s.subscription.id u)) (subscriptions_of h.subscribers)
  others =
      let x : ℕ = s.subscription.session in
      let j : List ℕ = s.subscription.id in
      sym (filter_mapped (λ u. not (is_named s.subscription.session s.subscription.id u)) (λ
      (u : Subscriber). u.subscription) h.subscribers
      ∙ ap (λ l. map (λ (u : Subscriber). u.subscription) l)
      (filter_same (λ (u : Subscriber). u.age) (λ u. not (is_named s.subscription.session s.subscription.id
      u.subscription))
      (λ u. not (u.age == a)) 0 h.subscribers is.ages each))
    where
      each : (u : Subscriber) → subscriber_at u.age h.subscribers ≡ Some u
          → not (is_named s.subscription.session s.subscription.id u.subscription) ≡ not (u.age == a)
      each u there = elim (cases_eq u.age a) [
        | inl same ↦
            let here : subscriber_at a h.subscribers ≡ Some u =
            ap (λ b. subscriber_at b h.subscribers) (sym same) ∙ there in
            let both : Some s ≡ Some u = sym sits ∙ here in
            let e : s ≡ u = cc in
            let named : is_named s.subscription.session s.subscription.id u.subscription ≡ true =
            named_from s.subscription.session s.subscription.id u.subscription
            (ap (λ (v : Subscriber). v.subscription.session) (sym e)) (ap (λ (v : Subscriber). v.subscription.id)
            (sym e)) in
            let number : (u.age == a) ≡ true = eq-eqb u.age a same in
            ap not named ∙ ap not (sym number)
        | inr other ↦
            let number : (u.age == a) ≡ false = ne_eqb u.age a other in
            elim (cases_Bool (is_named s.subscription.session s.subscription.id u.subscription)) [
              | inl named ↦ absurd (other (sym (is.apart a u.age s u sits there named)))
              | inr unnamed ↦ ap not unnamed ∙ ap not (sym number)
            ]
      ]

module _ (h i : Holding) (is : IsSound h) (a : ℕ) (s : Subscriber) (sits : subscriber_at a h.subscribers ≡ Some s)
    (t : Turns h a s (back true) (counts_in s.subscription None) s.entries i) where
  -- none is out to it any more
  pub none_out : (n : ℕ) (k : Kept) → kept_at n i.kept ≡ Some k
      → passes (out_to t.now.subscription.session t.now.subscription.id) k.fate ≡ false
  none_out n k there =
      let test : Fate → Bool = out_to s.subscription.session s.subscription.id in
      let all : i.kept ≡ map (turn_if (Some Ready) test) h.kept =
      t.kept ∙ whole (Some Ready) test refl s.entries h.kept is.numbers (λ k there on. noted_by h is a s sits k.number k
      there on) in
      let e : kept_at n (map (turn_if (Some Ready) test) h.kept) ≡ Some k = ap (λ l. kept_at n l) (sym all) ∙ there in
      let same : (l : Kept) → has_number n (turn_if (Some Ready) test l) ≡ has_number n l =
      λ l. ap (λ m. m == n) (turned_number (Some Ready) test l) in
      let was : IsMapped (turn_if (Some Ready) test) (kept_at n h.kept) k =
      is_mapped (turn_if (Some Ready) test) (kept_at n h.kept) k
      (sym (find_map (has_number n) (turn_if (Some Ready) test) same h.kept) ∙ e) in
      let fails : passes test k.fate ≡ false =
      ap (λ (l : Kept). passes test l.fate) (sym was.to) ∙ turned_fails (Some Ready) test refl was.from in
      ap (λ (u : Subscription). passes (out_to u.session u.id) k.fate) t.subscription ∙ fails

  -- when it goes, the book has released its subscription
  pub released_book : (accepted : List Accepted) (j : Holding) → Leaves i a t.now j
      → book_of j accepted ≡ released (book_of h accepted) s.subscription.session s.subscription.id
  released_book accepted j p =
      let living : living_of j.kept ≡ map (ready_if (out_to s.subscription.session s.subscription.id))
      (living_of h.kept) =
      ap living_of (p.kept ∙ t.kept) ∙ released_living h is a s sits in
      let subscriptions : subscriptions_of j.subscribers
      ≡ filter (λ u. not (is_named s.subscription.session s.subscription.id u)) (subscriptions_of h.subscribers) =
      ap subscriptions_of p.subscribers ∙ others i t.sound a t.now t.sits
      ∙ ap (λ (u : Subscription). filter (λ v. not (is_named u.session u.id v)) (subscriptions_of i.subscribers))
      t.subscription
      ∙ ap (λ l. filter (λ u. not (is_named s.subscription.session s.subscription.id u)) l) t.subscriptions in
      let last : j.last ≡ h.last = p.last ∙ t.last in
      let given : j.given ≡ h.given = p.given ∙ t.given in
      rw (living, subscriptions, last, given) refl
