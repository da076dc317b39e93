-- A kept message gets another fate: the parts agree as before.
use Rattle.std.proofs.Common.{◌≡◌, ◌≤◌, ◌<◌, ℕ, ◌+◌, ◌-◌, ◌^◌, Bool, true, false}
use Rattle.std.proofs.Common.{◌&&◌, ◌||◌, map, Option, Some, refl, sym, ◌∙◌, arith, inl, inr}
use Rattle.std.specs.Prelude.{◌⊎◌, nat_lt, count_by}
use Rattle.std.specs.Str.{bytes_eq}
use Rattle.std.proofs.lemmas.Bool.{cases_Bool, cases_eq, and_parts, and_from, ltb-true, lt-ltb}
use Rattle.std.proofs.lemmas.Slice.Eq.{bytes_eq-Decides}
use Rattle.base.specs.declared.limits.TheConstants.{MAX_UNANSWERED}
use Rattle.broker_book.specs.Books.{Fate, Ready, Out, out_to, is_for, is_named, is_auto}
use Rattle.broker_index.specs.Index.{Kept, Subscriber, with_fate, has_age}
use Rattle.broker_queues.specs.Parts.Facts.{kept_at, subscriber_at, session_at, destination_at, lists}
use Rattle.broker_queues.specs.Parts.Facts.{queue_of, message_of, living_of, holds_number, may_have}
use Rattle.broker_queues.specs.Parts.Facts.{ArePlaced, AreCounted, AreNoted, AreAhead, IsPast}
use Rattle.broker_queues.specs.Parts.Fates.{passes, counts_for, recounted, weight, fated}
use Rattle.broker_queues.specs.Parts.Whole.{Holding, IsSound, Changes}
use Rattle.broker_queues.proofs.Finding.{IsMapped, is_mapped, find_map, any_map, option_map_map}
use Rattle.broker_queues.proofs.Living.{count_change, weight_fate}
use Rattle.broker_queues.proofs.Rising.{at_edit, at_edit_other, rise_edit, rise_map}

-- credit that is there with more unanswered, and with fewer numbers left, was there
pub may_before : (auto : Bool) (full top count more given later : ℕ) → count ≤ more → given ≤ later
    → (auto || (nat_lt more full && nat_lt later top)) ≡ true → (auto || (nat_lt count full && nat_lt given top)) ≡ true
may_before true full top count more given later fewer earlier may = refl
may_before false full top count more given later fewer earlier may =
    let parts = and_parts (nat_lt more full) (nat_lt later top) may in
    let a : more < full = ltb-true more full parts.0 in
    let b : later < top = ltb-true later top parts.1 in
    and_from (nat_lt count full) (nat_lt given top) (lt-ltb count full (omega arith)) (lt-ltb given top (omega arith))

module _ (h i : Holding) (n : ℕ) (k : Kept) (f : Option Fate) (is : IsSound h) (found : kept_at n h.kept
    ≡ Some k) (c : Changes h n k f i) where
  -- a kept message is the changed one, or was there
  kept_was : (m : ℕ) (l : Kept) → kept_at m i.kept ≡ Some l → ((m ≡ n) × (l ≡ fated f k)) ⊎ (kept_at m h.kept ≡ Some l)
  kept_was m l there =
      let e : kept_at m (map (with_fate n f) h.kept) ≡ Some l = rw c.kept at there in
      elim (cases_eq m n) [
        | inl same ↦
            let here : kept_at n (map (with_fate n f) h.kept) ≡ Some (fated f k) =
            at_edit (λ k. k.number) n (fated f) (λ x. refl) h.kept k found in
            let e2 : kept_at n (map (with_fate n f) h.kept) ≡ Some l = rw same at e in
            let is_it : l ≡ fated f k = cc in
            inl (same, is_it)
        | inr other ↦ inr (sym (at_edit_other (λ k. k.number) n m (fated f) (λ x. refl) other h.kept) ∙ e)
      ]

  -- a subscriber was there, with another count perhaps
  subscriber_was : (a : ℕ) (s : Subscriber) → subscriber_at a i.subscribers ≡ Some s
      → IsMapped (recounted k.fate f) (subscriber_at a h.subscribers) s
  subscriber_was a s there =
      let e : subscriber_at a (map (recounted k.fate f) h.subscribers) ≡ Some s = rw c.subscribers at there in
      is_mapped (recounted k.fate f) (subscriber_at a h.subscribers) s
      (sym (find_map (has_age a) (recounted k.fate f) (λ x. refl) h.subscribers) ∙ e)

  placed : ArePlaced i.kept i.queues
  placed m l there = elim (kept_was m l there) [
    | inl both ↦ rw (both.0, both.1, c.lowers.numbers k.sent.destination) (is.placed n k found)
    | inr old ↦ rw (c.lowers.numbers l.sent.destination) (is.placed m l old)
  ]

  counted : AreCounted i.kept i.queues
  counted d = rw c.kept (omega (arith, c.count d, count_change (is_for d) n f h.kept k is.numbers found, is.counted d))

  noted : AreNoted i.kept i.subscribers
  noted m l x j a there out = elim (kept_was m l there) [
    | inl both ↦
        let out2 : f ≡ Some (Out x j a) = rw both.1 at out in
        rw (
          c.subscribers,
          both.0,
          any_map (holds_number x j n) (recounted k.fate f) (holds_number x j n) (λ s. refl)
              h.subscribers,
        )
        (c.noted x j a out2)
    | inr old ↦
        rw (
          c.subscribers,
          any_map (holds_number x j m) (recounted k.fate f) (holds_number x j m) (λ s. refl)
              h.subscribers,
        )
        (is.noted m l x j a old out)
  ]

  recount : (a : ℕ) (s : Subscriber) → subscriber_at a h.subscribers ≡ Some s
      → (s.count + counts_for s f) - counts_for s k.fate
      ≡ count_by (λ m. out_to s.subscription.session s.subscription.id m.fate) (living_of (map (with_fate n f) h.kept))
  recount a s there =
      let test : Fate → Bool = out_to s.subscription.session s.subscription.id in
      let one : weight (λ m. test m.fate) (message_of k) ≡ counts_for s k.fate =
      weight_fate test k.number k.sent k.fate in
      let two : weight (λ m. test m.fate) (message_of (fated f k)) ≡ counts_for s f =
      weight_fate test k.number k.sent f in
      let counts : count_by (λ m. test m.fate) (living_of (map (with_fate n f) h.kept)) + counts_for s k.fate
      ≡ count_by (λ m. test m.fate) (living_of h.kept) + counts_for s f =
      rw (← one, ← two) (count_change (λ m. test m.fate) n f h.kept k is.numbers found) in
      omega (arith, is.credited a s there, counts)

  -- what a subscriber was
  abbrev Was : ℕ → Subscriber → Type 0
  Was a s = IsMapped (recounted k.fate f) (subscriber_at a h.subscribers) s

  credited_was : (a : ℕ) (s : Subscriber) → Was a s
      → s.count ≡ count_by (λ m. out_to s.subscription.session s.subscription.id m.fate) (living_of i.kept)
  credited_was a s w = rw (← w.to, c.kept) (recount a w.from w.found)

  listening_was : (a : ℕ) (s : Subscriber) → Was a s
      → lists a (queue_of i.queues s.subscription.destination).subscribers ≡ true
  listening_was a s w =
      rw (← w.to, c.lowers.subscribers w.from.subscription.destination) (is.listening a w.from w.found)

  owned_was : (a : ℕ) (s : Subscriber) → Was a s → lists a (i.sessions s.subscription.session) ≡ true
  owned_was a s w = rw (← w.to, c.sessions) (is.owned a w.from w.found)

  ahead : AreAhead i.kept i.queues
  ahead m l there ready = elim (kept_was m l there) [
    | inl both ↦ let ready2 : f ≡ Some Ready = rw both.1 at ready in rw (both.0, both.1) (c.ready_from ready2)
    | inr old ↦ omega (arith, c.lowers.ready l.sent.destination, is.ahead m l old ready)
  ]

  -- one that the message wasn't out to had credit, if it has it now
  had_credit : (s : Subscriber) → passes (out_to s.subscription.session s.subscription.id) k.fate ≡ false
      → may_have i.given (recounted k.fate f s) ≡ true → may_have h.given s ≡ true
  had_credit s off may =
      let none : counts_for s k.fate ≡ 0 = rw off refl in
      may_before (is_auto s.subscription.mode) MAX_UNANSWERED (2 ^ 64 - 1) s.count
      ((s.count + counts_for s f) - counts_for s k.fate)
      h.given i.given (omega arith) c.given may

  takers_was : (a : ℕ) (s : Subscriber) → Was a s → may_have i.given s ≡ true
      → (queue_of i.queues s.subscription.destination).taker_from ≤ a
  takers_was a s w may =
      let may2 : may_have i.given (recounted k.fate f w.from) ≡ true = rw (← w.to) at may in
      elim (cases_Bool (passes (out_to w.from.subscription.session w.from.subscription.id) k.fate)) [
        | inl on ↦ rw (← w.to) (c.free_from a w.from w.found on)
        | inr off ↦ rw (← w.to) (omega (
          arith,
          c.lowers.takers w.from.subscription.destination,
          is.takers a w.from w.found (had_credit w.from off may2),
        ))
      ]

  awake_was : (m : ℕ) (l : Kept) (a : ℕ) (s : Subscriber) → ((m ≡ n) × (l ≡ fated f k)) ⊎ (kept_at m h.kept ≡ Some l)
      → l.fate ≡ Some Ready → Was a s → bytes_eq s.subscription.destination l.sent.destination ≡ true
      → may_have i.given s ≡ true
      → i.awake l.sent.destination ≡ true
  awake_was m l a s was ready w same may =
      let may2 : may_have i.given (recounted k.fate f w.from) ≡ true = rw (← w.to) at may in
      let same2 : bytes_eq w.from.subscription.destination l.sent.destination ≡ true = rw (← w.to) at same in
      elim was [
        | inl both ↦ let ready2 : f ≡ Some Ready = rw both.1 at ready in rw both.1 (c.ready_awake ready2)
        | inr old ↦ elim (cases_Bool (passes (out_to w.from.subscription.session w.from.subscription.id) k.fate)) [
          | inl on ↦
              let e : w.from.subscription.destination ≡ l.sent.destination =
              (bytes_eq-Decides w.from.subscription.destination l.sent.destination).0 same2 in
              elim (c.free_awake a w.from w.found on) [
                | inl awake ↦ rw (← e) awake
                | inr past ↦
                    let past2 : IsPast (queue_of i.queues l.sent.destination) = rw e at past in
                    let listed : lists m (queue_of i.queues l.sent.destination).numbers ≡ true =
                    rw (c.lowers.numbers l.sent.destination) (is.placed m l old) in
                    absurd (past2 m listed (omega (arith, c.lowers.ready l.sent.destination, is.ahead m l old ready)))
              ]
          | inr off ↦ c.wakes l.sent.destination (is.awake m l a w.from old ready w.found same2
              (had_credit w.from off may2))
        ]
      ]

  last : (m : ℕ) (l : Kept) → kept_at m i.kept ≡ Some l → m ≤ i.last
  last m l there = rw c.last (elim (kept_was m l there) [
    | inl both ↦ rw both.0 (is.last n k found)
    | inr old ↦ is.last m l old
  ])

  apart_was : (a b : ℕ) (s t : Subscriber) → Was a s → Was b t
      → is_named s.subscription.session s.subscription.id t.subscription ≡ true → a ≡ b
  apart_was a b s t v w named =
      let named2 : is_named v.from.subscription.session v.from.subscription.id w.from.subscription ≡ true =
      rw (← v.to, ← w.to) at named in
      is.apart a b v.from w.from v.found w.found named2

  destination_here : (a : ℕ) → destination_at a i.subscribers ≡ destination_at a h.subscribers
  destination_here a =
      rw (c.subscribers, find_map (has_age a) (recounted k.fate f) (λ x. refl) h.subscribers)
      (option_map_map (λ s. s.subscription.destination) (recounted k.fate f) (λ s. s.subscription.destination)
      (λ s. refl)
      (subscriber_at a h.subscribers))

  session_here : (a : ℕ) → session_at a i.subscribers ≡ session_at a h.subscribers
  session_here a =
      rw (c.subscribers, find_map (has_age a) (recounted k.fate f) (λ x. refl) h.subscribers)
      (option_map_map (λ s. s.subscription.session) (recounted k.fate f) (λ s. s.subscription.session) (λ s. refl)
      (subscriber_at a h.subscribers))

  pub changed : IsSound i
  changed = record {
    placed = placed;
    counted = counted;
    noted = noted;
    credited = λ a s there. credited_was a s (subscriber_was a s there);
    listening = λ a s there. listening_was a s (subscriber_was a s there);
    owned = λ a s there. owned_was a s (subscriber_was a s there);
    ahead = ahead;
    takers = λ a s there. takers_was a s (subscriber_was a s there);
    awake = λ m l a s there ready sits. awake_was m l a s (kept_was m l there) ready (subscriber_was a s sits);
    distinct = c.distinct;
    numbers = rw (c.kept, rise_edit (λ k. k.number) n (fated f) (λ x. refl) 0 h.kept) is.numbers;
    last = last;
    listed_last = λ d m listed. rw c.last (is.listed_last d m (rw (c.lowers.numbers d) at listed));
    ages = rw (c.subscribers, rise_map (λ s. s.age) (recounted k.fate f) (λ x. refl) 0 h.subscribers) is.ages;
    apart = λ a b s t there sits. apart_was a b s t (subscriber_was a s there) (subscriber_was b t sits);
    listeners = λ d a listed. destination_here a ∙ is.listeners d a (rw (c.lowers.subscribers d) at listed);
    owners = λ x a listed. session_here a ∙ is.owners x a (rw c.sessions at listed);
    owned_rise = λ x. rw c.sessions (is.owned_rise x);
  }
