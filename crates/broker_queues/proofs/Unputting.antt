-- The last message that came within a transaction is taken out.
use Rattle.std.proofs.Common.{◌≡◌, ◌≤◌, ◌<◌, ℕ, ◌-◌, Bool, true, false, not, cond, List, [], ◌∷◌, map}
use Rattle.std.proofs.Common.{Some, None, refl, sym, ap, ◌∙◌, arith, inl, inr}
use Rattle.std.specs.Prelude.{◌==◌, nat_le, filter}
use Rattle.std.specs.Str.{bytes_eq}
use Rattle.std.proofs.lemmas.Bool.{cases_Bool, cases_eq, eqb-true, lt-leb}
use Rattle.broker_index.specs.Index.{Kept, with_fate}
use Rattle.broker_queues.specs.declared.transactions.Logged.{Logged}
use Rattle.broker_queues.specs.Parts.Begun.{IsBegun, LetsGo, goes_to}
use Rattle.broker_queues.specs.Parts.Fates.{fated, recounted}
use Rattle.broker_queues.specs.Parts.Facts.{kept_at, lists, queue_of, subscriptions_of}
use Rattle.broker_queues.specs.Parts.Storing.{Sweeps, Takes, TakesOut}
use Rattle.broker_queues.specs.Parts.Undoing.{before, undone}
use Rattle.broker_queues.specs.Parts.Whole.{Changes, Holding, IsSound}
use Rattle.broker_queues.proofs.Begun.{held_still}
use Rattle.broker_queues.proofs.Changing.{changed}
use Rattle.broker_queues.proofs.Finding.{map_map}
use Rattle.broker_queues.proofs.Logging.{undone_number}
use Rattle.broker_queues.proofs.Restoring.{same_recounted}
use Rattle.broker_queues.proofs.Rising.{at_edit, at_edit_other, at_filter, at_filter_other}
use Rattle.broker_queues.proofs.Subscribing.{same_texts}

-- ---- the last number is given back

-- where nothing has the last number, it can be given again
lowered_last : (h : Holding) → IsSound h → kept_at h.last h.kept ≡ None
    → ((d : List ℕ) → lists h.last (queue_of h.queues d).numbers ≡ true → ⊥) → IsSound (record h { last = h.last - 1 })
lowered_last h is none unlisted = record {
  placed = is.placed;
  counted = is.counted;
  noted = is.noted;
  credited = is.credited;
  listening = is.listening;
  owned = is.owned;
  ahead = is.ahead;
  takers = is.takers;
  awake = is.awake;
  distinct = is.distinct;
  numbers = is.numbers;
  last = λ n k there. kept_lower n k there (is.last n k there);
  listed_last = λ d n listed. listed_lower d n listed (is.listed_last d n listed);
  ages = is.ages;
  apart = is.apart;
  listeners = is.listeners;
  owners = is.owners;
  owned_rise = is.owned_rise;
}
  where
    kept_lower : (n : ℕ) (k : Kept) → kept_at n h.kept ≡ Some k → n ≤ h.last → n ≤ h.last - 1
    kept_lower n k there high = elim (cases_eq n h.last) [
      | inl same ↦ let never : None ≡ Some k = sym none ∙ ap (λ m. kept_at m h.kept) (sym same) ∙ there in cc
      | inr other ↦ omega arith
    ]

    listed_lower : (d : List ℕ) (n : ℕ) → lists n (queue_of h.queues d).numbers ≡ true → n ≤ h.last → n ≤ h.last - 1
    listed_lower d n listed high = elim (cases_eq n h.last) [
      | inl same ↦ absurd (unlisted d (ap (λ m. lists m (queue_of h.queues d).numbers) (sym same) ∙ listed))
      | inr other ↦ omega arith
    ]

-- ---- what was there before

-- what came later doesn't count among what was there before
before_taken : (last n : ℕ) (log : List Logged) (kept : List Kept) → last < n
    → before last log (filter (λ k. not (k.number == n)) (map (with_fate n None) kept)) ≡ before last log kept
before_taken last n log [] later = refl
before_taken last n log (k ∷ kept) later = elim (cases_Bool (k.number == n)) [
  | inl on ↦
      let off : nat_le (undone log k).number last ≡ false =
      ap (λ m. nat_le m last) (undone_number log k ∙ eqb-true k.number n on) ∙ lt-leb n last later in
      rw (on, on, off) (before_taken last n log kept later)
  | inr off ↦ rw (off, off) (consed (nat_le (undone log k).number last) (before_taken last n log kept later))
]
  where
    consed : (b : Bool) → before last log (filter (λ k. not (k.number == n)) (map (with_fate n None) kept))
        ≡ before last log kept
        → cond b (undone log k ∷ before last log (filter (λ k. not (k.number == n)) (map (with_fate n None) kept)))
        (before last log (filter (λ k. not (k.number == n)) (map (with_fate n None) kept)))
        ≡ cond b (undone log k ∷ before last log kept) (before last log kept)
    consed true rest = ap (λ l. undone log k ∷ l) rest
    consed false rest = rest

-- ---- the whole step

-- there was no such message
pub unput_none : (start h : Holding) (log : List Logged) → IsBegun start log h → start.last < h.last
    → kept_at h.last h.kept ≡ None
    → IsBegun start log (record h { last = h.last - 1 })
unput_none start h log b later none = record {
  sound = lowered_last h b.sound none (λ d listed. (let never : false ≡ true =
      sym (ap (goes_to d) none) ∙ b.listed d h.last listed later in cc));
  kept = b.kept;
  subscriptions = b.subscriptions;
  given = b.given;
  distinct = b.distinct;
  last = omega arith;
  held = b.held;
  fresh = b.fresh;
  listed = b.listed;
}

module _ (start h i j : Holding) (log : List Logged) (k : Kept) (b : IsBegun start log h) (later : start.last < h.last)
    (found : kept_at h.last h.kept ≡ Some k) (c : Changes h h.last k None i) (given : i.given ≡ h.given)
    (is : IsSound j)
    (t : Takes i h.last (fated None k) j) where
  -- what is kept then was, and has another number
  other_at : (m : ℕ) → (m ≡ h.last → ⊥) → kept_at m j.kept ≡ kept_at m h.kept
  other_at m other =
      ap (kept_at m) t.kept ∙ at_filter_other (λ k. k.number) h.last m other i.kept ∙ ap (kept_at m) c.kept
      ∙ at_edit_other (λ k. k.number) h.last m (fated None) (λ x. refl) other h.kept

  none_there : kept_at h.last j.kept ≡ None
  none_there = ap (kept_at h.last) t.kept ∙ at_filter (λ k. k.number) h.last i.kept

  same_last : j.last ≡ h.last
  same_last = t.last ∙ c.last

  -- what is listed then was
  was_listed : (d : List ℕ) (m : ℕ) → lists m (queue_of j.queues d).numbers ≡ true
      → lists m (queue_of h.queues d).numbers ≡ true
  was_listed d m listed =
      ap (λ ps. lists m ps) (sym (c.lowers.numbers d)) ∙ t.listed d m listed

  -- it is listed nowhere
  nowhere : (d : List ℕ) → lists h.last (queue_of j.queues d).numbers ≡ true → ⊥
  nowhere d listed =
      let goes : bytes_eq k.sent.destination d ≡ true =
      sym (ap (goes_to d) found) ∙ b.listed d h.last (was_listed d h.last listed) later in
      let same : k.sent.destination ≡ d = same_texts k.sent.destination d goes in
      let never : false ≡ true = sym t.away ∙ ap (λ e. lists h.last (queue_of j.queues e).numbers) same ∙ listed in cc

  other_than_last : (d : List ℕ) (m : ℕ) → lists m (queue_of j.queues d).numbers ≡ true → m ≡ h.last → ⊥
  other_than_last d m listed same = nowhere d (ap (λ n. lists n (queue_of j.queues d).numbers) (sym same) ∙ listed)

  pub unput_begun : IsBegun start log (record j { last = h.last - 1 })
  unput_begun = record {
    sound = lower_sound;
    kept = ap (before start.last log) (t.kept ∙ ap (filter (λ k. not (k.number == h.last))) c.kept)
        ∙ before_taken start.last h.last log h.kept later ∙ b.kept;
    subscriptions = ap subscriptions_of (t.subscribers ∙ c.subscribers)
        ∙ map_map (λ s. s.subscription) (recounted k.fate None) h.subscribers ∙ b.subscriptions;
    given = t.given ∙ given ∙ b.given;
    distinct = b.distinct;
    last = omega arith;
    held = rw t.subscribers (held_still h.subscribers i.subscribers (same_recounted h i k.fate None c.subscribers) log
        b.held);
    fresh = λ m l there high. b.fresh m l (sym (other_at m (λ same. (let never : None ≡ Some l =
        sym none_there ∙ ap (λ n. kept_at n j.kept) (sym same) ∙ there in cc))) ∙ there) high;
    listed = λ d m listed high. ap (goes_to d) (other_at m (other_than_last d m listed))
        ∙ b.listed d m (was_listed d m listed) high;
  }
    where
      lower_sound : IsSound (record j { last = h.last - 1 })
      lower_sound =
          let s = lowered_last j is (ap (λ n. kept_at n j.kept) same_last ∙ none_there)
          (λ d listed. nowhere d (ap (λ n. lists n (queue_of j.queues d).numbers) (sym same_last) ∙ listed)) in
          rw same_last at s

-- ---- by what each step of the code says

-- where the last number has no message, to undo its put lowers the number alone
pub none_taken : (start h i : Holding) (log : List Logged) → IsBegun start log h → start.last < h.last
    → LetsGo h h.last i false
    → IsBegun start log (record i { last = h.last - 1 })
none_taken start h i log b later gone = rw gone.1 (unput_none start h log b later gone.0)

-- where it has one, to undo its put takes the message out and lowers the number
pub one_taken : (start h i j : Holding) (log : List Logged) → IsBegun start log h → start.last < h.last
    → LetsGo h h.last i true
    → Sweeps i j → TakesOut i h.last j → IsBegun start log (record j { last = h.last - 1 })
one_taken start h i j log b later gone sweeps takes =
    let changes = gone.2 b.sound (b.fresh h.last gone.0 gone.1 later) in
    let is : IsSound i = changed h i h.last gone.0 None b.sound gone.1 changes.0 in
    let found : kept_at h.last i.kept ≡ Some (fated None gone.0) =
    ap (kept_at h.last) changes.0.kept ∙ at_edit (λ k. k.number) h.last (fated None) (λ x. refl) h.kept gone.0 gone.1 in
    unput_begun start h i j log gone.0 b later gone.1 changes.0 changes.1 (sweeps is).sound
    (takes (fated None gone.0) is found refl)
