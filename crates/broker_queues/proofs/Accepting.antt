-- A SEND is accepted, or refused for want of memory.
use Rattle.std.proofs.Common.{◌≡◌, ◌<◌, ◌^◌, ◌-◌, ◌+◌, ℕ, true, List, [], ◌∷◌, ◌++◌, Result, Ok, Err, refl, ap, ◌∙◌}
use Rattle.std.proofs.Common.{arith, inl, not}
use Rattle.std.specs.Prelude.{nat_lt, count_by, filter, ◌==◌, All}
use Rattle.std.specs.Result.{IsErrAnd}
use Rattle.std.proofs.lemmas.Bool.{lt-ltb}
use Rattle.broker_book.specs.declared.fault.QueueFault.{QueueFault}
use Rattle.broker_book.specs.declared.fault.QueueFault.TheVariants.{Memory}
use Rattle.broker_book.specs.declared.parts.Accepted.{Accepted}
use Rattle.broker_book.specs.declared.parts.Sent.{Sent}
use Rattle.broker_book.specs.Books.{Ready, is_for}
use Rattle.broker_book.specs.Steps.{put_of}
use Rattle.broker_index.specs.Index.{Kept}
use Rattle.broker_queues.specs.Parts.Facts.{living_of, queue_of}
use Rattle.broker_queues.specs.Parts.Storing.{ListsOnly, PutsIn, PutsOne}
use Rattle.broker_queues.specs.Parts.Whole.{Holding, IsSound, LooksElsewhere, Puts, book_of, new_kept}
use Rattle.broker_queues.proofs.Listing.{all_found, push_filter}
use Rattle.broker_queues.proofs.Living.{living_push}
use Rattle.broker_queues.proofs.Moving.{moved}
use Rattle.broker_queues.proofs.Putting.{put_keeps}

-- a put that fails for memory has changed at most where a queue looks
pub memory_refused : {A : Type 0} (full : ℕ) (h : Holding) (sent : Sent) (i : Holding) → IsSound h → LooksElsewhere h i
    → (r : Result A QueueFault) → IsErrAnd r (λ fault. fault ≡ Memory) → PutsIn full h sent i r
memory_refused full h sent i is m (Ok x) e = absurd e
memory_refused full h sent i is m (Err fault) e = record { sound = moved h i is m; moves = m; refused = inl e }

module _ (full : ℕ) (h : Holding) (sent : Sent) (i : Holding) (is : IsSound h) (p : Puts h sent i)
    (only : ListsOnly h sent i)
    (few : (queue_of h.queues sent.destination).count < full) (room : h.last < 2 ^ 64 - 1) where
  puts_step : (accepted : List Accepted) → put_of full (book_of h accepted) sent
      ≡ Ok (book_of i (accepted ++ record { number = h.last + 1; sent = sent } ∷ []))
  puts_step accepted =
      let counts : nat_lt (count_by (is_for sent.destination) (living_of h.kept)) full ≡ true =
      lt-ltb (count_by (is_for sent.destination) (living_of h.kept)) full (omega (arith, is.counted sent.destination))
      in
      let numbers : nat_lt h.last (2 ^ 64 - 1) ≡ true = lt-ltb h.last (2 ^ 64 - 1) room in
      let living : living_of i.kept ≡ living_of h.kept ++ record { number = h.last + 1; sent = sent; fate = Ready } ∷ []
      =
      ap living_of p.kept ∙ living_push h.kept (h.last + 1) sent Ready in
      rw (counts, numbers, living, p.subscribers, p.last, p.given) refl

  pub accepts : PutsOne full h sent i
  accepts = record { sound = put_keeps h sent i is p; puts = p; only = only; step = puts_step }

-- each number is below the next one
pub all_earlier : (h : Holding) → IsSound h → All (λ (k : Kept). k.number < h.last + 1) h.kept
all_earlier h is =
    all_found (λ (k : Kept). k.number) (λ (k : Kept). k.number < h.last + 1) 0 h.kept is.numbers
    (λ k there. omega (arith, is.last k.number k there))

-- a message that was put in is taken out again
pub taken_out : (h : Holding) → IsSound h → (n : ℕ) (sent : Sent) → n ≡ h.last + 1
    → filter (λ (k : Kept). not (k.number == n)) (h.kept ++ new_kept n sent ∷ []) ≡ h.kept
taken_out h is n sent next =
    rw next (push_filter (λ (k : Kept). k.number) h.kept (new_kept (h.last + 1) sent) (all_earlier h is))
