-- A message is put in, or one that is gone is taken out: the parts agree as before.
use Rattle.std.proofs.Common.{◌≡◌, ◌≤◌, ℕ, ◌+◌, not, cond, List, [], ◌∷◌, ◌++◌, Some, None, sym, ◌∙◌, arith, inl, inr}
use Rattle.std.specs.Prelude.{◌==◌, ◌⊎◌, filter}
use Rattle.std.proofs.lemmas.Bool.{cases_Bool, cases_eq, eqb-true}
use Rattle.broker_book.specs.declared.parts.Sent.{Sent}
use Rattle.broker_book.specs.Books.{Ready, Out, out_to, is_for}
use Rattle.broker_index.specs.Index.{Kept}
use Rattle.broker_queues.specs.Parts.Facts.{kept_at, subscriber_at}
use Rattle.broker_queues.specs.Parts.Facts.{ArePlaced, AreCounted, AreNoted, AreCredited, AreAhead, AreAwake}
use Rattle.broker_queues.specs.Parts.Whole.{Holding, IsSound, Puts, Purges, new_kept}
use Rattle.broker_queues.proofs.Distinct.{distinct_still}
use Rattle.broker_queues.proofs.Finding.{or_some}
use Rattle.broker_queues.proofs.Living.{count_push, count_purge}
use Rattle.broker_queues.proofs.Rising.{at_push, rise_push, at_filter, at_filter_other, rise_filter}

module _ (h : Holding) (sent : Sent) (i : Holding) (is : IsSound h) (p : Puts h sent i) where
  -- a kept message is the new one, or was there
  kept_was : (m : ℕ) (l : Kept) → kept_at m i.kept ≡ Some l
      → ((m ≡ h.last + 1) × (l ≡ new_kept (h.last + 1) sent)) ⊎ (kept_at m h.kept ≡ Some l)
  kept_was m l there =
      let new : Kept = new_kept (h.last + 1) sent in
      let e : kept_at m (h.kept ++ new ∷ []) ≡ Some l = rw p.kept at there in
      elim (or_some (kept_at m h.kept) (cond (new.number == m) (Some new) None) l
      (sym (at_push (λ k. k.number) m h.kept new) ∙ e)) [
        | inl old ↦ inr old
        | inr fresh ↦ elim (cases_Bool (new.number == m)) [
          | inl on ↦
              let same : Some new ≡ Some l = rw on at fresh in
              let e2 : l ≡ new = cc in
              inl (sym (eqb-true new.number m on), e2)
          | inr off ↦ let no : None ≡ Some l = rw off at fresh in cc
        ]
      ]

  put_placed : ArePlaced i.kept i.queues
  put_placed m l there = elim (kept_was m l there) [
    | inl both ↦ rw (both.0, both.1) p.added
    | inr old ↦ p.numbers l.sent.destination m (is.placed m l old)
  ]

  put_counted : AreCounted i.kept i.queues
  put_counted d =
      rw p.kept (omega (arith, p.count d, count_push (is_for d) h.kept (new_kept (h.last + 1) sent), is.counted d))

  put_noted : AreNoted i.kept i.subscribers
  put_noted m l x j a there out = elim (kept_was m l there) [
    | inl both ↦ let no : Some Ready ≡ Some (Out x j a) = rw both.1 at out in cc
    | inr old ↦ rw p.subscribers (is.noted m l x j a old out)
  ]

  -- what is out was there
  put_was : (m : ℕ) (l : Kept) (x : ℕ) (j : List ℕ) (a : ℕ) → kept_at m i.kept ≡ Some l → l.fate ≡ Some (Out x j a)
      → kept_at m h.kept ≡ Some l
  put_was m l x j a there out = elim (kept_was m l there) [
    | inl both ↦ let no : Some Ready ≡ Some (Out x j a) = rw both.1 at out in cc
    | inr old ↦ old
  ]

  put_credited : AreCredited i.kept i.subscribers
  put_credited a s there =
      let was : subscriber_at a h.subscribers ≡ Some s = rw p.subscribers at there in
      rw p.kept (omega (
        arith,
        is.credited a s was,
        count_push (λ m. out_to s.subscription.session s.subscription.id m.fate) h.kept (new_kept (h.last + 1) sent),
      ))

  put_ahead : AreAhead i.kept i.queues
  put_ahead m l there ready = elim (kept_was m l there) [
    | inl both ↦ rw (both.0, both.1) p.ready_from
    | inr old ↦ omega (arith, p.ready l.sent.destination, is.ahead m l old ready)
  ]

  put_awake : AreAwake i.given i.kept i.subscribers i.awake
  put_awake m l a s there ready sits same may = elim (kept_was m l there) [
    | inl both ↦ rw both.1 p.awake
    | inr old ↦ p.wakes l.sent.destination
        (is.awake m l a s old ready (rw p.subscribers at sits) same (rw p.given at may))
  ]

  put_last : (m : ℕ) (l : Kept) → kept_at m i.kept ≡ Some l → m ≤ i.last
  put_last m l there = rw p.last (elim (kept_was m l there) [
    | inl both ↦ omega (arith, both.0)
    | inr old ↦ omega (arith, is.last m l old)
  ])

  pub put_keeps : IsSound i
  put_keeps = record {
    placed = put_placed;
    counted = put_counted;
    noted = put_noted;
    credited = put_credited;
    listening = λ a s there. rw (p.listeners s.subscription.destination) (is.listening a s (rw p.subscribers at there));
    owned = λ a s there. rw p.sessions (is.owned a s (rw p.subscribers at there));
    ahead = put_ahead;
    takers = λ a s there may. omega (
      arith,
      p.takers s.subscription.destination,
      is.takers a s (rw p.subscribers at there) (rw p.given at may),
    );
    awake = put_awake;
    distinct = distinct_still h.given i.given h.kept i.kept (omega (arith, p.given)) is.distinct put_was;
    numbers = rw p.kept (rise_push (λ k. k.number) 0 h.kept (new_kept (h.last + 1) sent) is.numbers (omega arith)
        (λ n y found. omega (arith, is.last n y found)));
    last = put_last;
    listed_last = λ d m listed. rw p.last (p.listed d m listed);
    ages = rw p.subscribers is.ages;
    apart = λ a b s t there sits. is.apart a b s t (rw p.subscribers at there) (rw p.subscribers at sits);
    listeners = λ d a listed. rw p.subscribers (is.listeners d a (rw (p.listeners d) at listed));
    owners = λ x a listed. rw p.subscribers (is.owners x a (rw p.sessions at listed));
    owned_rise = λ x. rw p.sessions (is.owned_rise x);
  }

module _ (h : Holding) (n : ℕ) (k : Kept) (i : Holding) (is : IsSound h) (found : kept_at n h.kept ≡ Some k)
    (gone : k.fate ≡ None)
    (p : Purges h n i) where
  -- a kept message was there, and is another
  left_was : (m : ℕ) (l : Kept) → kept_at m i.kept ≡ Some l → (m ≡ n → ⊥) × (kept_at m h.kept ≡ Some l)
  left_was m l there =
      let e : kept_at m (filter (λ k. not (k.number == n)) h.kept) ≡ Some l = rw p.kept at there in
      elim (cases_eq m n) [
        | inl same ↦
            let e2 : kept_at n (filter (λ k. not (k.number == n)) h.kept) ≡ Some l = rw same at e in
            let no : None ≡ Some l = sym (at_filter (λ k. k.number) n h.kept) ∙ e2 in cc
        | inr other ↦ (other, sym (at_filter_other (λ k. k.number) n m other h.kept) ∙ e)
      ]

  purge_credited : AreCredited i.kept i.subscribers
  purge_credited a s there =
      let was : subscriber_at a h.subscribers ≡ Some s = rw p.subscribers at there in
      rw (
        p.kept,
        count_purge (λ m. out_to s.subscription.session s.subscription.id m.fate) n h.kept k is.numbers found
            gone,
      )
      (is.credited a s was)

  pub purge_keeps : IsSound i
  purge_keeps = record {
    placed = λ m l there. let was = left_was m l there in p.numbers l.sent.destination m was.0 (is.placed m l was.1);
    counted = λ d. rw (p.kept, count_purge (is_for d) n h.kept k is.numbers found gone, p.count d) (is.counted d);
    noted = λ m l x j a there out. rw p.subscribers (is.noted m l x j a (left_was m l there).1 out);
    credited = purge_credited;
    listening = λ a s there. rw (p.listeners s.subscription.destination) (is.listening a s (rw p.subscribers at there));
    owned = λ a s there. rw p.sessions (is.owned a s (rw p.subscribers at there));
    ahead = λ m l there ready. omega (arith, p.ready l.sent.destination, is.ahead m l (left_was m l there).1 ready);
    takers = λ a s there may. omega (
      arith,
      p.takers s.subscription.destination,
      is.takers a s (rw p.subscribers at there) (rw p.given at may),
    );
    awake = λ m l a s there ready sits same may. p.wakes l.sent.destination
        (is.awake m l a s (left_was m l there).1 ready (rw p.subscribers at sits) same (rw p.given at may));
    distinct = distinct_still h.given i.given h.kept i.kept (omega (arith, p.given)) is.distinct
        (λ m l x j a there out. (left_was m l there).1);
    numbers = rw p.kept (rise_filter (λ k. k.number) (λ k. not (k.number == n)) 0 h.kept is.numbers);
    last = λ m l there. rw p.last (is.last m l (left_was m l there).1);
    listed_last = λ d m listed. rw p.last (is.listed_last d m (p.listed d m listed));
    ages = rw p.subscribers is.ages;
    apart = λ a b s t there sits. is.apart a b s t (rw p.subscribers at there) (rw p.subscribers at sits);
    listeners = λ d a listed. rw p.subscribers (is.listeners d a (rw (p.listeners d) at listed));
    owners = λ x a listed. rw p.subscribers (is.owners x a (rw p.sessions at listed));
    owned_rise = λ x. rw p.sessions (is.owned_rise x);
  }
