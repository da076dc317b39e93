-- An answer of a session: the book takes the step.
use Rattle.std.proofs.Common.{◌≡◌, ℕ, Bool, true, false, List, [], ◌∷◌, map, Some, None, Ok, Err, refl, ap, ◌∙◌, inl}
use Rattle.std.proofs.Common.{inr}
use Rattle.std.specs.Prelude.{◌==◌, not, find, filter}
use Rattle.std.specs.Option.{option_map}
use Rattle.std.proofs.lemmas.Bool.{cases_Bool, eq-eqb}
use Rattle.broker_book.specs.declared.fault.QueueFault.TheVariants.{NoSuchAck}
use Rattle.broker_book.specs.declared.parts.Accepted.{Accepted}
use Rattle.broker_book.specs.Steps.{covered, ready_if, holder, holds_out, acked, nacked}
use Rattle.broker_index.specs.Index.{Subscriber}
use Rattle.broker_index.specs.declared.places.KeyedPlace.{KeyedPlace}
use Rattle.broker_queues.specs.Parts.Facts.{lists, living_of}
use Rattle.broker_queues.specs.Parts.Fates.{back, is_held_at}
use Rattle.broker_queues.specs.Parts.Held.{Turns, TurnsAll, step_of}
use Rattle.broker_queues.specs.Parts.Whole.{Holding, IsSound, book_of}
use Rattle.broker_queues.proofs.Answering.{holds_out_in, IsHolder, no_holder, the_holder, acked_living, nacked_living}
use Rattle.broker_queues.proofs.Finding.{find_mapped}

-- what is found is there
pub found_lists : (test : KeyedPlace → Bool) (ps : List KeyedPlace) (p : KeyedPlace) → find test ps ≡ Some p → lists p.number ps ≡ true
found_lists test [] p found = let never : None ≡ Some p = found in cc
found_lists test (q ∷ ps) p found = elim (cases_Bool (test q)) [
  | inl on ↦
      let same : Some q ≡ Some p = rw on at found in
      let e : q ≡ p = cc in
      let number : (q.number == p.number) ≡ true = eq-eqb q.number p.number (ap (λ (r : KeyedPlace). r.number) e) in
      rw number refl
  | inr off ↦ elim (cases_Bool (q.number == p.number)) [
    | inl here ↦ rw here refl
    | inr other ↦ rw other (found_lists test ps p (rw off at found))
  ]
]

-- the book's holder is the subscriber's
pub holder_is : (h : Holding) (accepted : List Accepted) (x number : ℕ)
    → holder (book_of h accepted) x number ≡ option_map (λ (s : Subscriber). s.subscription)
    (find (holds_out_in h x number) h.subscribers)
holder_is h accepted x number =
    find_mapped (holds_out (book_of h accepted) x number) (λ s. s.subscription) h.subscribers

-- none holds it
pub refused : (h : Holding) (accepted : List Accepted) (x number : ℕ) (again : Bool) → IsSound h
    → find (is_held_at h.kept h.subscribers number) (h.sessions x) ≡ None
    → step_of again (book_of h accepted) x number ≡ Err NoSuchAck
refused h accepted x number again is none = by_step again
  where
    nobody : holder (book_of h accepted) x number ≡ None
    nobody = holder_is h accepted x number
        ∙ ap (λ o. option_map (λ (s : Subscriber). s.subscription) o) (no_holder h is x number none)

    by_step : (b : Bool) → step_of b (book_of h accepted) x number ≡ Err NoSuchAck
    by_step true = ap (nacked (book_of h accepted) number) nobody
    by_step false = ap (acked (book_of h accepted) number) nobody

-- one holds it, and its deliveries were gone through
module _ (h i : Holding) (accepted : List Accepted) (x number : ℕ) (is : IsSound h) (a : ℕ)
    (held : IsHolder h x number a) where
  it : holder (book_of h accepted) x number ≡ Some held.subscriber.subscription
  it = holder_is h accepted x number ∙ ap (λ o. option_map (λ (s : Subscriber). s.subscription) o) held.first

  gone : Turns h a held.subscriber None (covered held.subscriber.subscription number) held.subscriber.entries i
      → step_of false (book_of h accepted) x number ≡ Ok (book_of i accepted)
  gone t =
      let living : living_of i.kept ≡ filter (λ m. not (covered held.subscriber.subscription number m.fate))
      (living_of h.kept) =
      ap living_of t.kept ∙ acked_living h is a held.subscriber held.sits number in
      ap (acked (book_of h accepted) number) it ∙ rw (living, t.last, t.given, t.subscriptions) refl

  again_ready : Turns h a held.subscriber (back true) (covered held.subscriber.subscription number)
      held.subscriber.entries i
      → step_of true (book_of h accepted) x number ≡ Ok (book_of i accepted)
  again_ready t =
      let living : living_of i.kept ≡ map (ready_if (covered held.subscriber.subscription number)) (living_of h.kept) =
      ap living_of t.kept ∙ nacked_living h is a held.subscriber held.sits number in
      ap (nacked (book_of h accepted) number) it ∙ rw (living, t.last, t.given, t.subscriptions) refl

  stepped : (again : Bool)
      → Turns h a held.subscriber (back again) (covered held.subscriber.subscription number) held.subscriber.entries i
      → step_of again (book_of h accepted) x number ≡ Ok (book_of i accepted)
  stepped true t = again_ready t
  stepped false t = gone t

-- an answer at the subscriber that holds the delivery is the book's step
pub responded : (h i : Holding) (accepted : List Accepted) (x number : ℕ) (again : Bool) (p : KeyedPlace) → IsSound h
    → find (is_held_at h.kept h.subscribers number) (h.sessions x) ≡ Some p → TurnsAll h p.number (Some number) again i
    → IsSound i × (step_of again (book_of h accepted) x number ≡ Ok (book_of i accepted))
responded h i accepted x number again p is found turns =
    let held : IsHolder h x number p.number =
    the_holder h is x number p found (found_lists (is_held_at h.kept h.subscribers number) (h.sessions x) p found) in
    let t : Turns h p.number held.subscriber (back again) (covered held.subscriber.subscription number)
    held.subscriber.entries i =
    turns held.subscriber is held.sits in
    (t.sound, stepped h i accepted x number is p.number held again t)
