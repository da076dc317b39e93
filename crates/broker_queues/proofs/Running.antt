-- One deal behind others.
use Rattle.std.proofs.Common.{◌≡◌, ◌<◌, ℕ, Option, Some, None, List, [], ◌∷◌, ◌++◌, cond, refl, ap, subst, arith}
use Rattle.std.specs.Prelude.{count_by}
use Rattle.std.proofs.lemmas.List.Sums.{sum_by-cons, sum_by-append}
use Rattle.broker_book.specs.declared.parts.Accepted.{Accepted}
use Rattle.broker_book.specs.declared.parts.Subscription.{Subscription}
use Rattle.broker_book.specs.Books.{Book, QueuedMessage, Out, IsQuiet, is_ready}
use Rattle.broker_book.specs.Steps.{Handed, Deal, Deals, Taken, Dealt, left_of}
use Rattle.broker_queues.specs.Parts.Choosing.{Rests, IsNext}
use Rattle.broker_queues.specs.Parts.Facts.{living_of}
use Rattle.broker_queues.specs.Parts.Whole.{Holding, IsSound, book_of}
use Rattle.broker_queues.proofs.Dealing.{quiet}

deals_more : (old mid new : Book) (ds : List Handed) (d : Handed) → Deals old ds mid → Deal mid d new
    → Deals old (ds ++ d ∷ []) new
deals_more old mid new [] d e h = (new, subst (λ b. Deal b d new) e h, refl)
deals_more old mid new (x ∷ ds) d e h = (e.0, e.1, deals_more e.0 mid new ds d e.2 h)

taken_more : {S : Type 0} (takes : S → Handed → S → Type 0) (old mid new : S) (ds : List Handed) (d : Handed)
    → Taken takes old ds mid
    → takes mid d new → Taken takes old (ds ++ d ∷ []) new
taken_more takes old mid new [] d e h = (new, subst (λ b. takes b d new) e h, refl)
taken_more takes old mid new (x ∷ ds) d e h = (e.0, e.1, taken_more takes e.0 mid new ds d e.2 h)

-- one deal behind some
pub dealt_more : {S : Type 0} (takes : S → Handed → S → Type 0) (old mid new : Book) (from between to : S) (d : Handed)
    → Dealt takes old from mid between → Deal mid d new → takes between d to → Dealt takes old from new to
dealt_more takes old mid new from between to d h one took = record {
  handed = h.handed ++ d ∷ [];
  deals = deals_more old mid new h.handed d h.deals one;
  taken = taken_more takes from between to h.handed d h.taken took;
}

-- none yet
pub dealt_none : {S : Type 0} (takes : S → Handed → S → Type 0) (old : Book) (from : S) → Dealt takes old from old from
dealt_none takes old from = record { handed = []; deals = refl; taken = refl }

-- the parts rest, and so does the book
pub rests_book : (h i : Holding) → Rests h i → (accepted : List Accepted) → book_of i accepted ≡ book_of h accepted
rests_book h i r accepted = rw (r.kept, r.subscribers, r.last, r.given) refl

-- one that went out is ready no more
left_ready : (m : QueuedMessage) (to : Subscription) (ack : Option ℕ) (back : List QueuedMessage)
    → count_by is_ready (left_of m to ack ++ back) ≡ count_by is_ready back
left_ready m to None back = refl
left_ready m to (Some n) back =
    omega (arith, sum_by-cons (λ x. cond (is_ready x) 1 0) (record m { fate = Out to.session to.id n }) back)

-- a deal leaves fewer that are ready
pub fewer_ready : (old new : Book) (d : Handed) → Deal old d new
    → count_by is_ready new.living < count_by is_ready old.living
fewer_ready old new d deal =
    let f : QueuedMessage → ℕ = λ x. cond (is_ready x) 1 0 in
    let now : new.living ≡ deal.front ++ (left_of deal.message d.to d.ack ++ deal.back) =
    ap (λ (b : Book). b.living) deal.changed in
    let one : f deal.message ≡ 1 = rw deal.ready refl in
    rw (now, deal.found) (omega (
      arith,
      sum_by-append f deal.front (left_of deal.message d.to d.ack ++ deal.back),
      sum_by-append f deal.front (deal.message ∷ deal.back),
      sum_by-cons f deal.message deal.back,
      left_ready deal.message d.to d.ack deal.back,
      one,
    ))

-- where nothing is due anywhere, the book is quiet
pub ends_quiet : (h : Holding) → IsSound h → IsNext h None → (accepted : List Accepted) → IsQuiet (book_of h accepted)
ends_quiet h is none accepted =
    quiet h accepted is (λ due. none due.message.sent.destination due.message.number (record {
      message = due.message;
      there = due.there;
      ready = due.ready;
      for_it = refl;
      age = due.subscriber.age;
      subscriber = due.subscriber;
      sits = due.sits;
      same = due.same;
      may = due.may;
    }))

module _ {S : Type 0} (takes : S → Handed → S → Type 0) (book : Book) (i j : Holding) (from between : S) (r : Rests i j)
    (accepted : List Accepted) (d : Dealt takes book from (book_of i accepted) between) where
  -- the parts rest behind some deals
  pub dealt_still : Dealt takes book from (book_of j accepted) between
  dealt_still = rw (rests_book i j r accepted) d

  -- one deal more
  pub dealt_next : (k : Holding) (to : S) (one : Handed) → Deal (book_of j accepted) one (book_of k accepted)
      → takes between one to → Dealt takes book from (book_of k accepted) to
  dealt_next k to one deal took =
      dealt_more takes book (book_of j accepted) (book_of k accepted) from between to one dealt_still deal took

  -- none, since memory was refused
  pub dealt_no_more : (k : Holding) (to : S) → book_of k accepted ≡ book_of j accepted → to ≡ between
      → Dealt takes book from (book_of k accepted) to
  dealt_no_more k to same still = rw (same, still) dealt_still

-- fewer are ready behind a deal
pub fewer_kept : (i j k : Holding) → Rests i j → (one : Handed) → Deal (book_of j []) one (book_of k [])
    → count_by is_ready (living_of k.kept) < count_by is_ready (living_of i.kept)
fewer_kept i j k r one deal =
    let fewer : count_by is_ready (living_of k.kept) < count_by is_ready (living_of j.kept) =
    fewer_ready (book_of j []) (book_of k []) one deal in
    rw (← r.kept) fewer
