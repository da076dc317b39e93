-- A transaction under way: what can be undone still can.
use Rattle.std.proofs.Common.{◌≡◌, ◌<◌, ◌+◌, ℕ, Bool, true, false, cond, ◌&&◌, List, [], ◌∷◌, ◌++◌, map}
use Rattle.std.proofs.Common.{Option, Some, None, refl, sym, ap, ◌∙◌, arith, inl, inr}
use Rattle.std.specs.Prelude.{◌==◌, ◌⊎◌, nat_le, filter}
use Rattle.std.specs.Option.{option_map, option_or}
use Rattle.std.specs.Str.{bytes_eq}
use Rattle.std.proofs.lemmas.Bool.{cases_Bool, eq-eqb, le-leb, lt-leb}
use Rattle.broker_book.specs.declared.parts.Sent.{Sent}
use Rattle.broker_book.specs.Books.{Fate, Ready, Out}
use Rattle.broker_index.specs.Index.{Kept, Subscriber, has_number}
use Rattle.broker_index.specs.declared.places.Entry.{Entry}
use Rattle.broker_queues.specs.declared.transactions.Logged.{Logged}
use Rattle.broker_queues.specs.Parts.Begun.{IsHeldBy, AreHeld, IsBegun, Noted, goes_to}
use Rattle.broker_queues.specs.Parts.Fates.{back, counts_in, passes, turn_among}
use Rattle.broker_queues.specs.Parts.Held.{IsSame, Turns}
use Rattle.broker_queues.specs.Parts.Facts.{kept_at, subscriber_at, lists, notes, queue_of, subscriptions_of}
use Rattle.broker_queues.specs.Parts.Undoing.{is_out_fate, undone, before}
use Rattle.broker_queues.specs.Parts.Whole.{Holding, IsSound, Puts, new_kept}
use Rattle.broker_queues.proofs.Finding.{is_mapped, find_map, none_unless, or_some}
use Rattle.broker_queues.proofs.Logging.{before_answer, before_noted, before_put}
use Rattle.broker_queues.proofs.Rising.{at_push, filter_same}
use Rattle.broker_queues.proofs.Subscribing.{itself}
use Rattle.broker_queues.proofs.Turning.{uncovered}

-- ---- the start

filter_every : (kept : List Kept) → filter (λ (k : Kept). true) kept ≡ kept
filter_every [] = refl
filter_every (k ∷ kept) = ap (λ l. k ∷ l) (filter_every kept)

pub map_nothing : (kept : List Kept) → map (undone []) kept ≡ kept
map_nothing [] = refl
map_nothing (k ∷ kept) = ap (λ l. k ∷ l) (map_nothing kept)

-- what is kept has numbers up to the last
pub up_to : (h : Holding) → IsSound h → filter (λ k. nat_le k.number h.last) h.kept ≡ h.kept
up_to h is =
    filter_same (λ k. k.number) (λ k. nat_le k.number h.last) (λ k. true) 0 h.kept is.numbers
    (λ k found. le-leb k.number h.last (is.last k.number k found))
    ∙ filter_every h.kept

-- before its first action a transaction has changed nothing
pub begins : (h : Holding) → IsSound h → IsBegun h [] h
begins h is = record {
  sound = is;
  kept = ap (filter (λ k. nat_le k.number h.last)) (map_nothing h.kept) ∙ up_to h is;
  subscriptions = refl;
  given = refl;
  distinct = is.distinct;
  last = omega arith;
  held = tt;
  fresh = λ n k there later. absurd (omega (arith, is.last n k there, later));
  listed = λ d n listed later. absurd (omega (arith, is.listed_last d n listed, later));
}

-- ---- notes

-- a subscriber that stays the same holds what it held
held_same : (o : Option Subscriber) (e : Logged) (m : IsHeldBy o e) (p : Option Subscriber) → IsSame m.holder p
    → IsHeldBy p e
held_same o e m p is = record {
  holder = is.now;
  there = is.there;
  ack = m.ack;
  fate = m.fate ∙ ap (λ s. Some (Out s.session s.id m.ack)) (sym is.subscription);
  noted = rw is.entries m.noted;
}

pub held_still : (old new : List Subscriber)
    → ((b : ℕ) (u : Subscriber) → subscriber_at b old ≡ Some u → IsSame u (subscriber_at b new))
    → (log : List Logged) → AreHeld old log → AreHeld new log
held_still old new same [] held = tt
held_still old new same (e ∷ log) held = (
  held_same (subscriber_at e.age old) e held.0 (subscriber_at e.age new) (same e.age held.0.holder held.0.there),
  held_still old new
      same log held.1,
)

pub held_append : (subscribers : List Subscriber) (log later : List Logged) → AreHeld subscribers log
    → AreHeld subscribers later
    → AreHeld subscribers (log ++ later)
held_append subscribers [] later held more = more
held_append subscribers (e ∷ log) later held more = (held.0, held_append subscribers log later held.1 more)

pub held_front : (subscribers : List Subscriber) (log later : List Logged) → AreHeld subscribers (log ++ later)
    → AreHeld subscribers log
held_front subscribers [] later held = tt
held_front subscribers (e ∷ log) later held = (held.0, held_front subscribers log later held.1)

pub held_last : (subscribers : List Subscriber) (log : List Logged) (e : Logged) → AreHeld subscribers (log ++ e ∷ [])
    → IsHeldBy (subscriber_at e.age subscribers) e
held_last subscribers [] e held = held.0
held_last subscribers (d ∷ log) e held = held_last subscribers log e held.1

-- what isn't out to be answered isn't out
never_out : (again : Bool) → passes is_out_fate (back again) ≡ false
never_out true = refl
never_out false = refl

-- ---- notes alone

pub noted_begun : (start h : Holding) (log : List Logged) (s : Subscriber) (answered : Option ℕ) (es : List Entry)
    (now : List Logged)
    → IsBegun start log h → Noted h s answered es log now → IsBegun start now h
noted_begun start h log s answered es now b n = record {
  sound = b.sound;
  kept = ap (λ l. before start.last l h.kept) n.more
      ∙ before_noted start.last log n.later h.kept b.sound.numbers n.holds ∙ b.kept;
  subscriptions = b.subscriptions;
  given = b.given;
  distinct = b.distinct;
  last = b.last;
  held = rw n.more (held_append h.subscribers log n.later b.held n.held);
  fresh = b.fresh;
  listed = b.listed;
}

-- ---- an answer

goes_map : (f : Kept → Kept) → ((k : Kept) → (f k).sent ≡ k.sent) → (d : List ℕ) (o : Option Kept)
    → goes_to d (option_map f o) ≡ goes_to d o
goes_map f keeps d None = refl
goes_map f keeps d (Some k) = ap (λ (s : Sent). bytes_eq s.destination d) (keeps k)

module _ (to : Option Fate) (test : Fate → Bool) (es : List Entry) where
  turn_number : (k : Kept) → (turn_among to test es k).number ≡ k.number
  turn_number k =
      elim (cases_Bool (passes test k.fate && notes k.number es)) [ inl on ↦ rw on refl | inr off ↦ rw off refl ]

  turn_sent : (k : Kept) → (turn_among to test es k).sent ≡ k.sent
  turn_sent k =
      elim (cases_Bool (passes test k.fate && notes k.number es)) [ inl on ↦ rw on refl | inr off ↦ rw off refl ]

  turn_ready : passes test (Some Ready) ≡ false → (k : Kept) → k.fate ≡ Some Ready
      → (turn_among to test es k).fate ≡ Some Ready
  turn_ready fails k ready =
      let off : passes test k.fate ≡ false = ap (λ f. passes test f) ready ∙ fails in
      rw off ready

  turn_at : (n : ℕ) (kept : List Kept)
      → kept_at n (map (turn_among to test es) kept) ≡ option_map (turn_among to test es) (kept_at n kept)
  turn_at n kept = find_map (has_number n) (turn_among to test es) (λ k. ap (λ m. m == n) (turn_number k)) kept

module _ (start h i : Holding) (log : List Logged) (age : ℕ) (s : Subscriber) (again : Bool) (answered : Option ℕ)
    (now : List Logged)
    (b : IsBegun start log h) (n : Noted h s answered s.entries log now)
    (t : Turns h age s (back again) (counts_in s.subscription answered) s.entries i) where
  turned_fresh : (m : ℕ) (k : Kept) → kept_at m i.kept ≡ Some k → start.last < m → k.fate ≡ Some Ready
  turned_fresh m k there later =
      let e : option_map (turn_among (back again) (counts_in s.subscription answered) s.entries) (kept_at m h.kept)
      ≡ Some k =
      sym (turn_at (back again) (counts_in s.subscription answered) s.entries m h.kept) ∙ ap (kept_at m) (sym t.kept)
      ∙ there in
      let w = is_mapped (turn_among (back again) (counts_in s.subscription answered) s.entries) (kept_at m h.kept) k e
      in
      ap (λ (l : Kept). l.fate) (sym w.to) ∙ turn_ready (back again) (counts_in s.subscription answered) s.entries
      (uncovered s.subscription answered true) w.from (b.fresh m w.from w.found later)

  turned_listed : (d : List ℕ) (m : ℕ) → lists m (queue_of i.queues d).numbers ≡ true → start.last < m
      → goes_to d (kept_at m i.kept) ≡ true
  turned_listed d m listed later =
      ap (λ l. goes_to d (kept_at m l)) t.kept
      ∙ ap (goes_to d) (turn_at (back again) (counts_in s.subscription answered) s.entries m h.kept)
      ∙ goes_map (turn_among (back again) (counts_in s.subscription answered) s.entries)
      (turn_sent (back again) (counts_in s.subscription answered) s.entries) d (kept_at m h.kept)
      ∙ b.listed d m (rw (t.numbers d) at listed) later

  pub answer_begun : IsBegun start now i
  answer_begun = record {
    sound = t.sound;
    kept = ap (λ l. before start.last l i.kept) n.more ∙ ap (before start.last (log ++ n.later)) t.kept
        ∙ before_answer start.last log n.later h.kept (back again) (counts_in s.subscription answered) s.entries
        b.sound.numbers
        (never_out again) n.holds n.all
        ∙ b.kept;
    subscriptions = t.subscriptions ∙ b.subscriptions;
    given = t.given ∙ b.given;
    distinct = b.distinct;
    last = omega (arith, b.last, t.last);
    held = rw n.more (held_still h.subscribers i.subscribers t.others (log ++ n.later)
        (held_append h.subscribers log n.later b.held n.held));
    fresh = turned_fresh;
    listed = turned_listed;
  }

-- ---- a put

module _ (start h i : Holding) (log : List Logged) (sent : Sent) (b : IsBegun start log h) (is : IsSound i)
    (p : Puts h sent i)
    (only : (d : List ℕ) (m : ℕ) → lists m (queue_of i.queues d).numbers ≡ true
    → (lists m (queue_of h.queues d).numbers ≡ true) ⊎ ((m ≡ h.last + 1) × (d ≡ sent.destination))) where
  new_at : kept_at (h.last + 1) h.kept ≡ None
  new_at = none_unless (kept_at (h.last + 1) h.kept) (λ k there. omega (arith, b.sound.last (h.last + 1) k there))

  put_at : (m : ℕ) → kept_at m i.kept ≡ option_or (kept_at m h.kept) (cond ((h.last + 1) == m)
      (Some (new_kept (h.last + 1) sent)) None)
  put_at m = ap (kept_at m) p.kept ∙ at_push (λ k. k.number) m h.kept (new_kept (h.last + 1) sent)

  put_fresh : (m : ℕ) (k : Kept) → kept_at m i.kept ≡ Some k → start.last < m → k.fate ≡ Some Ready
  put_fresh m k there later =
      elim (or_some (kept_at m h.kept) (cond ((h.last + 1) == m) (Some (new_kept (h.last + 1) sent)) None) k
      (sym (put_at m) ∙ there)) [
        | inl old ↦ b.fresh m k old later
        | inr new ↦ elim (cases_Bool ((h.last + 1) == m)) [
          | inl on ↦ let e : Some (new_kept (h.last + 1) sent) ≡ Some k = rw on at new in
              let is_it : new_kept (h.last + 1) sent ≡ k = cc in ap (λ (l : Kept). l.fate) (sym is_it)
          | inr off ↦ let never : None ≡ Some k = rw off at new in cc
        ]
      ]

  goes_or : (d : List ℕ) (o p : Option Kept) → goes_to d o ≡ true → goes_to d (option_or o p) ≡ true
  goes_or d None p goes = let never : false ≡ true = goes in cc
  goes_or d (Some k) p goes = goes

  put_listed : (d : List ℕ) (m : ℕ) → lists m (queue_of i.queues d).numbers ≡ true → start.last < m
      → goes_to d (kept_at m i.kept) ≡ true
  put_listed d m listed later = elim (only d m listed) [
    | inl old ↦ ap (goes_to d) (put_at m) ∙ goes_or d (kept_at m h.kept)
        (cond ((h.last + 1) == m) (Some (new_kept (h.last + 1) sent)) None) (b.listed d m old later)
    | inr new ↦
        let number : ((h.last + 1) == m) ≡ true = eq-eqb (h.last + 1) m (sym new.0) in
        let gone : kept_at m h.kept ≡ None = ap (λ l. kept_at l h.kept) new.0 ∙ new_at in
        let here : kept_at m i.kept ≡ Some (new_kept (h.last + 1) sent) = put_at m ∙ rw (gone, number) refl in
        ap (goes_to d) here ∙ rw new.1 (itself sent.destination)
  ]

  pub put_begun : IsBegun start log i
  put_begun = record {
    sound = is;
    kept = ap (before start.last log) p.kept ∙ before_put start.last log h.kept (new_kept (h.last + 1) sent)
        (lt-leb (h.last + 1) start.last (omega (arith, b.last))) ∙ b.kept;
    subscriptions = ap subscriptions_of p.subscribers ∙ b.subscriptions;
    given = p.given ∙ b.given;
    distinct = b.distinct;
    last = omega (arith, b.last, p.last);
    held = rw p.subscribers b.held;
    fresh = put_fresh;
    listed = put_listed;
  }

-- ---- a change of places alone

pub same_begun : (start h i : Holding) (log : List Logged) → IsBegun start log h → IsSound i → i.kept ≡ h.kept
    → i.subscribers ≡ h.subscribers → i.last ≡ h.last → i.given ≡ h.given
    → ((d : List ℕ) (m : ℕ) → lists m (queue_of i.queues d).numbers ≡ true
    → lists m (queue_of h.queues d).numbers ≡ true)
    → IsBegun start log i
same_begun start h i log b is kept subscribers last given listed = record {
  sound = is;
  kept = ap (before start.last log) kept ∙ b.kept;
  subscriptions = ap subscriptions_of subscribers ∙ b.subscriptions;
  given = given ∙ b.given;
  distinct = b.distinct;
  last = omega (arith, b.last, last);
  held = rw subscribers b.held;
  fresh = λ m k there later. b.fresh m k (rw kept at there) later;
  listed = λ d m l later. ap (λ ks. goes_to d (kept_at m ks)) kept ∙ b.listed d m (listed d m l) later;
}
