-- The first message that can go out, to the oldest subscriber that may take it, is a deal of the book.
use Rattle.std.proofs.Common.{◌≡◌, ◌≤◌, ℕ, ◌^◌, ◌-◌, true, false, ◌&&◌, ◌||◌, List, ◌∷◌}
use Rattle.std.proofs.Common.{◌++◌, map, Option, Some, None, refl, sym, ap, ◌∙◌, arith, inl, inr}
use Rattle.std.specs.Prelude.{find, nat_lt}
use Rattle.std.specs.List.{list_any}
use Rattle.std.specs.Option.{option_map}
use Rattle.std.specs.Str.{bytes_eq}
use Rattle.std.proofs.lemmas.Bool.{cases_Bool, and_parts, and_from}
use Rattle.base.specs.declared.limits.TheConstants.{MAX_UNANSWERED}
use Rattle.broker_book.specs.declared.parts.Accepted.{Accepted}
use Rattle.broker_book.specs.Books.{Book, QueuedMessage, Fate, Ready, Out, is_auto, has_credit, may_take, is_due}
use Rattle.broker_book.specs.Books.{IsQuiet}
use Rattle.broker_book.specs.Steps.{Deal, left_of, last_given, next_ack}
use Rattle.broker_index.specs.Index.{Kept, Subscriber, with_fate}
use Rattle.broker_queues.specs.Parts.Facts.{rise, kept_at, subscriber_at, living_of, message_of, living_as}
use Rattle.broker_queues.specs.Parts.Facts.{subscriptions_of, may_have}
use Rattle.broker_queues.specs.Parts.Fates.{fated, dealt_fate}
use Rattle.broker_queues.specs.Parts.Whole.{Holding, IsSound, Picks, book_of}
use Rattle.broker_queues.proofs.Finding.{any_map, find_mapped}
use Rattle.broker_queues.proofs.Living.{tests, any_of_living, living_append}
use Rattle.broker_queues.proofs.Rising.{at_number, IsAmong, any_at, least_first, front_of}
use Rattle.broker_queues.proofs.Rising.{back_of, split_at, edit_split, rise_front, front_below}

-- a kept message that is due, and a subscriber that may take it
pub record IsDue (h : Holding) (kept : List Kept) : Type 0 where
  pub message : Kept
  pub there : kept_at message.number kept ≡ Some message
  pub ready : message.fate ≡ Some Ready
  pub subscriber : Subscriber
  pub sits : subscriber_at subscriber.age h.subscribers ≡ Some subscriber
  pub same : bytes_eq subscriber.subscription.destination message.sent.destination ≡ true
  pub may : may_have h.given subscriber ≡ true

-- what a test of a message that is ready says
record IsReadyOne (b : Book) (k : Kept) : Type 0 where
  ready : k.fate ≡ Some Ready
  taken : list_any (may_take b (record { number = k.number; sent = k.sent; fate = Ready })) b.subscriptions ≡ true

ready_one : (b : Book) (k : Kept) (f : Option Fate) → k.fate ≡ f → tests (is_due b) (living_as k.number k.sent f) ≡ true
    → IsReadyOne b k
ready_one b k None is on = let never : false ≡ true = on in cc
ready_one b k (Some (Out x i a)) is on = let never : false ≡ true = on in cc
ready_one b k (Some Ready) is on = record { ready = is; taken = on }

module _ (h : Holding) (accepted : List Accepted) (is : IsSound h) where
  -- credit by the count that is kept is credit
  credit : (a : ℕ) (s : Subscriber) → subscriber_at a h.subscribers ≡ Some s
      → has_credit (book_of h accepted) s.subscription ≡ may_have h.given s
  credit a s sits =
      ap (λ n. is_auto s.subscription.mode || (nat_lt n MAX_UNANSWERED && nat_lt h.given (2 ^ 64 - 1)))
      (sym (is.credited a s sits))

  due_one : (kept : List Kept) → rise (λ k. k.number) 0 kept ≡ true
      → list_any (is_due (book_of h accepted)) (living_of kept) ≡ true → IsDue h kept
  due_one kept rises any =
      let b : Book = book_of h accepted in
      let k : IsAmong (λ k. k.number) (λ k. tests (is_due b) (message_of k)) kept =
      any_at (λ k. k.number) (λ k. tests (is_due b) (message_of k)) 0 kept rises
      (sym (any_of_living (is_due b) kept) ∙ any) in
      let one : IsReadyOne b k.value = ready_one b k.value k.value.fate refl k.passes in
      let m : QueuedMessage = record { number = k.value.number; sent = k.value.sent; fate = Ready } in
      let s : IsAmong (λ s. s.age) (λ s. may_take b m s.subscription) h.subscribers =
      any_at (λ s. s.age) (λ s. may_take b m s.subscription) 0 h.subscribers is.ages
      (sym (any_map (may_take b m) (λ s. s.subscription) (λ s. may_take b m s.subscription) (λ s. refl) h.subscribers)
      ∙ one.taken) in
      let parts = and_parts (bytes_eq s.value.subscription.destination m.sent.destination)
      (has_credit b s.value.subscription) s.passes in
      record {
        message = k.value;
        there = k.found;
        ready = one.ready;
        subscriber = s.value;
        sits = s.found;
        same = parts.0;
        may = sym (credit s.value.age s.value s.found) ∙ parts.1;
      }

  -- where nothing is due, the book is quiet
  pub quiet : (IsDue h h.kept → ⊥) → IsQuiet (book_of h accepted)
  quiet none = elim (cases_Bool (list_any (is_due (book_of h accepted)) (living_of h.kept))) [
    | inl on ↦ absurd (none (due_one h.kept is.numbers on))
    | inr off ↦ off
  ]

  module _ (n : ℕ) (k : Kept) (a : ℕ) (s : Subscriber) (p : Picks h n k a s) where
    picked : QueuedMessage
    picked = record { number = k.number; sent = k.sent; fate = Ready }

    none_before : list_any (is_due (book_of h accepted)) (living_of (front_of (λ k. k.number) n h.kept)) ≡ false
    none_before =
        elim (cases_Bool (list_any (is_due (book_of h accepted)) (living_of (front_of (λ k. k.number) n h.kept)))) [
          | inl on ↦
              let front : List Kept = front_of (λ k. k.number) n h.kept in
              let due : IsDue h front = due_one front (rise_front (λ k. k.number) n 0 h.kept is.numbers) on in
              let lower =
              front_below (λ k. k.number) n due.message.number 0 h.kept k due.message is.numbers p.there due.there in
              let later : n ≤ due.message.number =
              p.first due.message.number due.message due.subscriber.age due.subscriber lower.0 due.ready due.sits
              due.same
              due.may in
              absurd (omega (arith, lower.1, later))
          | inr off ↦ off
        ]

    oldest : find (may_take (book_of h accepted) (record { number = k.number; sent = k.sent; fate = Ready }))
        (subscriptions_of h.subscribers)
        ≡ Some s.subscription
    oldest =
        let b : Book = book_of h accepted in
        let m : QueuedMessage = record { number = k.number; sent = k.sent; fate = Ready } in
        let first : find (λ s. may_take b m s.subscription) h.subscribers ≡ Some s =
        least_first (λ s. s.age) (λ s. may_take b m s.subscription) 0 h.subscribers s a is.ages p.sits
        (and_from (bytes_eq s.subscription.destination k.sent.destination) (has_credit b s.subscription) p.same
        (credit a s p.sits ∙ p.may))
        (λ c t there passes.
        let parts =
        and_parts (bytes_eq t.subscription.destination k.sent.destination) (has_credit b t.subscription) passes in
        p.oldest c t there parts.0 (sym (credit c t there) ∙ parts.1)) in
        find_mapped (may_take b m) (λ s. s.subscription) h.subscribers
        ∙ ap (λ o. option_map (λ s. s.subscription) o) first

    living_split : living_of h.kept
        ≡ living_of (front_of (λ k. k.number) n h.kept)
        ++ (record { number = k.number; sent = k.sent; fate = Ready }) ∷ living_of (back_of (λ k. k.number) n h.kept)
    living_split =
        let front : List Kept = front_of (λ k. k.number) n h.kept in
        let back : List Kept = back_of (λ k. k.number) n h.kept in
        ap living_of (split_at (λ k. k.number) n h.kept k p.there) ∙ living_append front (k ∷ back)
        ∙ ap (λ f. living_of front ++ living_of (fated f k ∷ back)) p.ready

    living_dealt : (ack : Option ℕ) → living_of (map (with_fate n (dealt_fate s.subscription ack)) h.kept)
        ≡ living_of (front_of (λ k. k.number) n h.kept)
        ++ (left_of (record { number = k.number; sent = k.sent; fate = Ready }) s.subscription ack
        ++ living_of (back_of (λ k. k.number) n h.kept))
    living_dealt ack =
        let front : List Kept = front_of (λ k. k.number) n h.kept in
        let back : List Kept = back_of (λ k. k.number) n h.kept in
        ap living_of (edit_split (λ k. k.number) n (fated (dealt_fate s.subscription ack)) 0 h.kept k is.numbers
        p.there)
        ∙ living_append front (fated (dealt_fate s.subscription ack) k ∷ back)
        ∙ ap (λ l. living_of front ++ l) (left ack)
      where
        left : (ack : Option ℕ) → living_of (fated (dealt_fate s.subscription ack) k ∷ back_of (λ k. k.number) n h.kept)
            ≡ left_of (record { number = k.number; sent = k.sent; fate = Ready }) s.subscription ack
            ++ living_of (back_of (λ k. k.number) n h.kept)
        left None = refl
        left (Some ack) = refl

    -- it is the deal that the book wants
    pub dealt : (ack : Option ℕ) → ack ≡ next_ack (book_of h accepted) s.subscription
        → Deal (book_of h accepted) (record { number = n; sent = k.sent; to = s.subscription; ack = ack })
        (record (book_of h accepted) {
          living = living_of (map (with_fate n (dealt_fate s.subscription ack)) h.kept);
          given = last_given h.given ack;
        })
    dealt ack next = record {
      message = record { number = k.number; sent = k.sent; fate = Ready };
      front = living_of (front_of (λ k. k.number) n h.kept);
      back = living_of (back_of (λ k. k.number) n h.kept);
      found = living_split;
      first = none_before;
      ready = refl;
      oldest = oldest;
      number = sym (at_number (λ k. k.number) n h.kept k p.there);
      sent = refl;
      ack = next;
      changed = rw (living_dealt ack) refl;
    }
