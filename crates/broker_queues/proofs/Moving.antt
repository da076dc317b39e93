-- Notes and places change: the parts agree as before.
use Rattle.std.proofs.Common.{◌≡◌, ◌≤◌, ℕ, true, map, Some, refl, sym, ap, ◌∙◌, arith}
use Rattle.std.specs.Prelude.{count_by}
use Rattle.std.specs.Str.{bytes_eq}
use Rattle.broker_book.specs.Books.{Ready, out_to, is_named}
use Rattle.broker_index.specs.Index.{Kept, Subscriber, has_age}
use Rattle.broker_queues.specs.Parts.Facts.{kept_at, subscriber_at, session_at, destination_at, lists}
use Rattle.broker_queues.specs.Parts.Facts.{queue_of, living_of, holds_number, may_have}
use Rattle.broker_queues.specs.Parts.Facts.{AreNoted}
use Rattle.broker_queues.specs.Parts.Whole.{Holding, IsSound, Renotes, LooksElsewhere}
use Rattle.broker_queues.proofs.Distinct.{distinct_still}
use Rattle.broker_queues.proofs.Finding.{IsMapped, is_mapped, find_map, option_map_map}
use Rattle.broker_queues.proofs.Rising.{IsAmong, any_at, any_from_at, rise_map}

module _ (h i : Holding) (is : IsSound h) (m : LooksElsewhere h i) where
  pub moved : IsSound i
  moved = record {
    placed = λ n k there. rw (m.numbers k.sent.destination) (is.placed n k (rw m.kept at there));
    counted = λ d. rw (m.count d, m.kept) (is.counted d);
    noted = λ n k x j a there out. rw m.subscribers (is.noted n k x j a (rw m.kept at there) out);
    credited = λ a s there. rw m.kept (is.credited a s (rw m.subscribers at there));
    listening = λ a s there. rw (m.listeners s.subscription.destination) (is.listening a s (rw m.subscribers at there));
    owned = λ a s there. rw m.sessions (is.owned a s (rw m.subscribers at there));
    ahead = λ n k there ready. m.ahead n k (rw m.kept at there) ready;
    takers = λ a s there may. m.takers a s (rw m.subscribers at there) (rw m.given at may);
    awake = λ n k a s there ready sits same may.
        m.awake n k a s (rw m.kept at there) ready (rw m.subscribers at sits) same (rw m.given at may);
    distinct = distinct_still h.given i.given h.kept i.kept (omega (arith, m.given)) is.distinct
        (λ n k x j a there out. rw m.kept at there);
    numbers = rw m.kept is.numbers;
    last = λ n k there. rw m.last (is.last n k (rw m.kept at there));
    listed_last = λ d n listed. rw m.last (is.listed_last d n (rw (m.numbers d) at listed));
    ages = rw m.subscribers is.ages;
    apart = λ a b s t there sits. is.apart a b s t (rw m.subscribers at there) (rw m.subscribers at sits);
    listeners = λ d a listed. rw m.subscribers (is.listeners d a (rw (m.listeners d) at listed));
    owners = λ x a listed. rw m.subscribers (is.owners x a (rw m.sessions at listed));
    owned_rise = λ x. rw m.sessions (is.owned_rise x);
  }

module _ (h : Holding) (change : Subscriber
    → Subscriber) (is : IsSound h) (r : Renotes h change (record h { subscribers = map change h.subscribers })) where
  -- what a subscriber was
  abbrev Noting : ℕ → Subscriber → Type 0
  Noting a s = IsMapped change (subscriber_at a h.subscribers) s

  same_age : (a : ℕ) (x : Subscriber) → has_age a (change x) ≡ has_age a x
  same_age a x = rw (r.age x) refl

  was : (a : ℕ) (s : Subscriber) → subscriber_at a (map change h.subscribers) ≡ Some s → Noting a s
  was a s there =
      is_mapped change (subscriber_at a h.subscribers) s (sym (find_map (has_age a) change (same_age a) h.subscribers)
      ∙ there)

  noted_still : AreNoted h.kept (map change h.subscribers)
  noted_still n k x j a there out =
      let one : IsAmong (λ s. s.age) (holds_number x j n) h.subscribers =
      any_at (λ s. s.age) (holds_number x j n) 0 h.subscribers is.ages (is.noted n k x j a there out) in
      let now : subscriber_at one.value.age (map change h.subscribers) ≡ Some (change one.value) =
      rw (find_map (has_age one.value.age) change (same_age one.value.age) h.subscribers, one.found) refl in
      any_from_at (λ s. s.age) (holds_number x j n) one.value.age (map change h.subscribers) (change one.value) now
      (r.noted n k x j a one.value there out one.found one.passes)

  same_credit : (s : Subscriber) → may_have h.given (change s) ≡ may_have h.given s
  same_credit s = rw (r.subscription s, r.count s) refl

  credited_still : (a : ℕ) (s : Subscriber) → Noting a s
      → s.count ≡ count_by (λ m. out_to s.subscription.session s.subscription.id m.fate) (living_of h.kept)
  credited_still a s w = rw (← w.to, r.subscription w.from, r.count w.from) (is.credited a w.from w.found)

  listening_still : (a : ℕ) (s : Subscriber) → Noting a s
      → lists a (queue_of h.queues s.subscription.destination).subscribers ≡ true
  listening_still a s w = rw (← w.to, r.subscription w.from) (is.listening a w.from w.found)

  owned_still : (a : ℕ) (s : Subscriber) → Noting a s → lists a (h.sessions s.subscription.session) ≡ true
  owned_still a s w = rw (← w.to, r.subscription w.from) (is.owned a w.from w.found)

  takers_still : (a : ℕ) (s : Subscriber) → Noting a s → may_have h.given s ≡ true
      → (queue_of h.queues s.subscription.destination).taker_from ≤ a
  takers_still a s w may =
      let may2 : may_have h.given (change w.from) ≡ true = rw (← w.to) at may in
      let may3 : may_have h.given w.from ≡ true = sym (same_credit w.from) ∙ may2 in
      rw (← w.to, r.subscription w.from) (is.takers a w.from w.found may3)

  awake_still : (n : ℕ) (k : Kept) (a : ℕ) (s : Subscriber) → kept_at n h.kept ≡ Some k → k.fate ≡ Some Ready
      → Noting a s
      → bytes_eq s.subscription.destination k.sent.destination ≡ true → may_have h.given s ≡ true
      → h.awake k.sent.destination ≡ true
  awake_still n k a s there ready w same may =
      let may2 : may_have h.given (change w.from) ≡ true = rw (← w.to) at may in
      let may3 : may_have h.given w.from ≡ true = sym (same_credit w.from) ∙ may2 in
      let same2 : bytes_eq (change w.from).subscription.destination k.sent.destination ≡ true = rw (← w.to) at same in
      let same3 : bytes_eq w.from.subscription.destination k.sent.destination ≡ true =
      rw (r.subscription w.from) at same2 in
      is.awake n k a w.from there ready w.found same3 may3

  apart_still : (a b : ℕ) (s t : Subscriber) → Noting a s → Noting b t
      → is_named s.subscription.session s.subscription.id t.subscription ≡ true → a ≡ b
  apart_still a b s t v w named =
      let one : is_named (change v.from).subscription.session (change v.from).subscription.id
      (change w.from).subscription ≡ true =
      rw (← v.to, ← w.to) at named in
      let two : is_named v.from.subscription.session v.from.subscription.id w.from.subscription ≡ true =
      rw (r.subscription v.from, r.subscription w.from) at one in
      is.apart a b v.from w.from v.found w.found two

  destination_here : (a : ℕ) → destination_at a (map change h.subscribers) ≡ destination_at a h.subscribers
  destination_here a =
      rw (find_map (has_age a) change (same_age a) h.subscribers)
      (option_map_map (λ s. s.subscription.destination) change (λ s. s.subscription.destination)
      (λ s. ap (λ t. t.destination) (r.subscription s)) (subscriber_at a h.subscribers))

  session_here : (a : ℕ) → session_at a (map change h.subscribers) ≡ session_at a h.subscribers
  session_here a =
      rw (find_map (has_age a) change (same_age a) h.subscribers)
      (option_map_map (λ s. s.subscription.session) change (λ s. s.subscription.session)
      (λ s. ap (λ t. t.session) (r.subscription s))
      (subscriber_at a h.subscribers))

  pub renoted : IsSound (record h { subscribers = map change h.subscribers })
  renoted = record {
    placed = is.placed;
    counted = is.counted;
    noted = noted_still;
    credited = λ a s there. credited_still a s (was a s there);
    listening = λ a s there. listening_still a s (was a s there);
    owned = λ a s there. owned_still a s (was a s there);
    ahead = is.ahead;
    takers = λ a s there. takers_still a s (was a s there);
    awake = λ n k a s there ready sits. awake_still n k a s there ready (was a s sits);
    distinct = is.distinct;
    numbers = is.numbers;
    last = is.last;
    listed_last = is.listed_last;
    ages = rw (rise_map (λ s. s.age) change r.age 0 h.subscribers) is.ages;
    apart = λ a b s t there sits. apart_still a b s t (was a s there) (was b t sits);
    listeners = λ d a listed. destination_here a ∙ is.listeners d a listed;
    owners = λ x a listed. session_here a ∙ is.owners x a listed;
    owned_rise = is.owned_rise;
  }
