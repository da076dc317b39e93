-- Whether messages are out to a session, and what messages are counted as.
use Rattle.std.proofs.Common.{◌≡◌, ◌+◌, ◌<◌, ◌≤◌, ℕ, Bool, true, false, cond, List, [], ◌∷◌, Option, Some, None, refl, sym}
use Rattle.std.proofs.Common.{ap, ◌∙◌, arith, inl, inr}
use Rattle.std.specs.Prelude.{◌&&◌, ◌==◌, nat_le, count_by}
use Rattle.std.specs.List.{list_any, sum_by}
use Rattle.std.specs.Option.{option_map}
use Rattle.std.specs.Str.{bytes_eq}
use Rattle.std.proofs.lemmas.Bool.{and_from, and_parts, cases_Bool, eq-eqb, eqb-true, ltb-true, lt-ltb, ne_eqb}
use Rattle.std.proofs.lemmas.List.Sums.{sum_by-cons}
use Rattle.broker_book.specs.declared.parts.Sent.{Sent}
use Rattle.broker_book.specs.Books.{Fate, Out, QueuedMessage, Ready, out_of, out_to}
use Rattle.broker_book.specs.Sizes.{held_octets, sent_octets}
use Rattle.broker_index.specs.Held.{kept_octets}
use Rattle.broker_index.specs.Index.{Kept, Subscriber, is_place_of}
use Rattle.broker_index.specs.declared.places.KeyedPlace.{KeyedPlace}
use Rattle.broker_queues.specs.Parts.Facts.{holds_number, kept_at, lists, living_as, living_of, message_of, notes, rise}
use Rattle.broker_queues.specs.Parts.Facts.{subscriber_at}
use Rattle.broker_queues.specs.Parts.Fates.{fated}
use Rattle.broker_queues.specs.Parts.Storing.{NoneGone, is_gone}
use Rattle.broker_queues.specs.Parts.Waiting.{waits, waits_at}
use Rattle.broker_queues.specs.Parts.Whole.{Holding, IsSound}
use Rattle.broker_queues.proofs.Finding.{any_implies, same_tests}
use Rattle.broker_queues.proofs.Living.{any_of_living, tests}
use Rattle.broker_queues.proofs.Rising.{IsAmong, any_at, any_from_at, at_high}
use Rattle.broker_queues.proofs.Subscribing.{itself, name_parts}

-- ---- counts of what passes a test

counted_any : {A : Type 0} (test : A → Bool) (xs : List A) → 0 < count_by test xs → list_any test xs ≡ true
counted_any test [] some = absurd (omega arith)
counted_any test (x ∷ xs) some = elim (cases_Bool (test x)) [
  | inl on ↦ rw on refl
  | inr off ↦
      let nothing = ap {B = ℕ} (λ (b : Bool). cond b 1 0) off in
      rw off (counted_any test xs (omega (arith, sum_by-cons (λ y. cond (test y) 1 0) x xs, nothing)))
]

any_counted : {A : Type 0} (test : A → Bool) (xs : List A) → list_any test xs ≡ true → 0 < count_by test xs
any_counted test [] any = let never : false ≡ true = any in cc
any_counted test (x ∷ xs) any = elim (cases_Bool (test x)) [
  | inl on ↦
      let one = ap {B = ℕ} (λ (b : Bool). cond b 1 0) on in omega (arith, sum_by-cons (λ y. cond (test y) 1 0) x xs, one)
  | inr off ↦ omega (arith, sum_by-cons (λ y. cond (test y) 1 0) x xs, any_counted test xs (rw off at any))
]

-- ---- what is out to a session

-- what is out to a subscription is out to its session
out_to_of : (session x : ℕ) (id : List ℕ) (f : Fate) → session ≡ x → out_to session id f ≡ true → out_of x f ≡ true
out_to_of session x id Ready same on = on
out_to_of session x id (Out s i n) same on =
    ap (λ y. s == y) (sym same) ∙ (and_parts (s == session) (bytes_eq i id) on).0

module _ (h : Holding) (is : IsSound h) (x : ℕ) where
  -- a message is out to the session
  abbrev SomeOut : Type 0
  SomeOut = list_any (λ (m : QueuedMessage). out_of x m.fate) (living_of h.kept) ≡ true

  -- a subscriber of the session waits for an answer
  abbrev SomeWaits : Type 0
  SomeWaits = list_any (waits_at h.subscribers) (h.sessions x) ≡ true

  out_by : (a : ℕ) → lists a (h.sessions x) ≡ true → (o : Option Subscriber) → subscriber_at a h.subscribers ≡ o
      → waits o ≡ true → SomeOut
  out_by a listed None there on = let never : false ≡ true = on in cc
  out_by a listed (Some s) there on =
      let owner : Some s.subscription.session ≡ Some x =
      ap (λ o. option_map (λ (t : Subscriber). t.subscription.session) o) (sym there) ∙ is.owners x a listed in
      let session : s.subscription.session ≡ x = cc in
      let test = λ (m : QueuedMessage). out_to s.subscription.session s.subscription.id m.fate in
      let some : 0 < s.count = ltb-true 0 s.count on in
      let counted : s.count ≡ count_by test (living_of h.kept) = is.credited a s there in
      any_implies test (λ m. out_of x m.fate)
      (λ m here. out_to_of s.subscription.session x s.subscription.id m.fate session here) (living_of h.kept)
      (counted_any test (living_of h.kept) (omega arith))

  out_where_waits : SomeWaits → SomeOut
  out_where_waits any =
      let one : IsAmong (λ (p : KeyedPlace). p.number) (waits_at h.subscribers) (h.sessions x) =
      any_at (λ (p : KeyedPlace). p.number) (waits_at h.subscribers) 0 (h.sessions x) (is.owned_rise x) any in
      let listed : lists one.value.number (h.sessions x) ≡ true =
      any_from_at (λ (p : KeyedPlace). p.number) (is_place_of one.value.number) one.value.number (h.sessions x) one.value
      one.found (eq-eqb one.value.number one.value.number refl) in
      out_by one.value.number listed (subscriber_at one.value.number h.subscribers) refl one.passes

  -- a subscriber to whom a message is out is at a place of the session
  waits_by : (k : Kept) (i : List ℕ) (a : ℕ) → kept_at k.number h.kept ≡ Some k → k.fate ≡ Some (Out x i a) → SomeWaits
  waits_by k i a found fate =
      let one : IsAmong (λ (s : Subscriber). s.age) (holds_number x i k.number) h.subscribers =
      any_at (λ (s : Subscriber). s.age) (holds_number x i k.number) 0 h.subscribers is.ages
      (is.noted k.number k x i a found fate) in
      let s = one.value in
      let name = name_parts x i s.subscription (and_parts _ (notes k.number s.entries) one.passes).0 in
      let test = λ (m : QueuedMessage). out_to s.subscription.session s.subscription.id m.fate in
      let both : (x == s.subscription.session && bytes_eq i s.subscription.id) ≡ true =
      and_from (x == s.subscription.session) (bytes_eq i s.subscription.id) (eq-eqb x s.subscription.session
      (sym name.0)) (rw name.1 (itself i)) in
      let passes : tests test (message_of k) ≡ true =
      ap (λ f. tests test (living_as k.number k.sent f)) fate ∙ both in
      let out : list_any test (living_of h.kept) ≡ true =
      any_of_living test h.kept
      ∙ any_from_at (λ (l : Kept). l.number) (λ l. tests test (message_of l)) k.number h.kept k found passes in
      let some : 0 < count_by test (living_of h.kept) = any_counted test (living_of h.kept) out in
      let counted : s.count ≡ count_by test (living_of h.kept) = is.credited s.age s one.found in
      let owned : lists s.age (h.sessions x) ≡ true =
      ap (λ y. lists s.age (h.sessions y)) (sym name.0) ∙ is.owned s.age s one.found in
      let place : IsAmong (λ (p : KeyedPlace). p.number) (is_place_of s.age) (h.sessions x) =
      any_at (λ (p : KeyedPlace). p.number) (is_place_of s.age) 0 (h.sessions x) (is.owned_rise x) owned in
      let same : place.value.number ≡ s.age = eqb-true place.value.number s.age place.passes in
      let waiting : waits_at h.subscribers place.value ≡ true =
      ap (λ b. waits (subscriber_at b h.subscribers)) same ∙ ap waits one.found ∙ lt-ltb 0 s.count (omega arith) in
      any_from_at (λ (p : KeyedPlace). p.number) (waits_at h.subscribers) place.value.number (h.sessions x) place.value
      place.found waiting

  waits_at_fate : (k : Kept) → kept_at k.number h.kept ≡ Some k → (f : Option Fate) → k.fate ≡ f
      → tests (λ m. out_of x m.fate) (living_as k.number k.sent f) ≡ true → SomeWaits
  waits_at_fate k found None fate on = let never : false ≡ true = on in cc
  waits_at_fate k found (Some Ready) fate on = let never : false ≡ true = on in cc
  waits_at_fate k found (Some (Out y i a)) fate on =
      let same : y ≡ x = eqb-true y x on in
      waits_by k i a found (fate ∙ ap (λ z. Some (Out z i a)) same)

  waits_where_out : SomeOut → SomeWaits
  waits_where_out any =
      let test = λ (m : QueuedMessage). out_of x m.fate in
      let one : IsAmong (λ (k : Kept). k.number) (λ k. tests test (message_of k)) h.kept =
      any_at (λ (k : Kept). k.number) (λ k. tests test (message_of k)) 0 h.kept is.numbers
      (sym (any_of_living test h.kept) ∙ any) in
      waits_at_fate one.value one.found one.value.fate refl one.passes

  pub asks_unanswered : list_any (waits_at h.subscribers) (h.sessions x)
      ≡ list_any (λ (m : QueuedMessage). out_of x m.fate) (living_of h.kept)
  asks_unanswered =
      same_tests (list_any (waits_at h.subscribers) (h.sessions x))
      (list_any (λ (m : QueuedMessage). out_of x m.fate) (living_of h.kept)) out_where_waits waits_where_out

-- ---- what messages are counted as

module _ (weight : Sent → ℕ) where
  -- where none is gone, those that are kept are counted as those that live
  pub counts_living : (low : ℕ) (kept : List Kept) → rise (λ k. k.number) low kept ≡ true → NoneGone kept
      → sum_by (λ k. weight k.sent) kept ≡ sum_by (λ m. weight m.sent) (living_of kept)
  counts_living low [] rises none = refl
  counts_living low (k ∷ kept) rises none =
      let parts = and_parts (nat_le low k.number) (rise (λ k. k.number) (k.number + 1) kept) rises in
      let first : kept_at k.number (k ∷ kept) ≡ Some k = rw (eq-eqb k.number k.number refl) refl in
      let later : NoneGone kept = λ n l found.
      let high : k.number + 1 ≤ n = at_high (λ (l : Kept). l.number) (k.number + 1) n kept l parts.1 found in
      let other : (k.number == n) ≡ false = ne_eqb k.number n (λ same. omega arith) in
      none n l (rw other found) in
      by_fate k.fate (none k.number k first) (counts_living (k.number + 1) kept parts.1 later)
    where
      by_fate : (f : Option Fate) → is_gone f ≡ false
          → sum_by (λ k. weight k.sent) kept ≡ sum_by (λ m. weight m.sent) (living_of kept)
          → sum_by (λ k. weight k.sent) (fated f k ∷ kept) ≡ sum_by (λ m. weight m.sent) (living_of (fated f k ∷ kept))
      by_fate None gone rest = let never : true ≡ false = gone in cc
      by_fate (Some f) gone rest =
          let m : QueuedMessage = record { number = k.number; sent = k.sent; fate = f } in
          omega (
            arith,
            rest,
            sum_by-cons (λ (l : Kept). weight l.sent) (fated (Some f) k) kept,
            sum_by-cons (λ (l : QueuedMessage). weight l.sent) m (living_of kept),
          )

-- the octets counted for all messages are those of the book's living ones
pub counts_held : (h : Holding) → IsSound h → NoneGone h.kept → kept_octets h.kept ≡ held_octets (living_of h.kept)
counts_held h is none = counts_living sent_octets 0 h.kept is.numbers none
