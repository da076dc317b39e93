-- The steps of a transaction: each can be undone, and all are the actions in order.
use Rattle.std.proofs.Common.{◌≡◌, ℕ, Bool, List, [], ◌∷◌, ◌++◌, length, get_or, take, drop, drop-cons, suc}
use Rattle.std.proofs.Common.{append_assoc}
use Rattle.std.proofs.Common.{Some, Result, Ok, Err, refl, sym, ap, arith, ◌+◌, ◌∙◌, inl, inr}
use Rattle.std.specs.Prelude.{◌⊎◌, ◌<◌, nat_le, find, filter}
use Rattle.std.proofs.Math.Seq.{take-append_seam}
use Rattle.std.proofs.lemmas.List.{append-nil}
use Rattle.broker_book.specs.declared.fault.QueueFault.{QueueFault}
use Rattle.broker_book.specs.declared.fault.QueueFault.TheVariants.{Memory, NoSuchAck, QueueFull, TooMany}
use Rattle.broker_book.specs.declared.parts.Accepted.{Accepted}
use Rattle.broker_book.specs.declared.parts.Action.{Action}
use Rattle.broker_book.specs.declared.parts.Sent.{Sent}
use Rattle.broker_book.specs.Books.{Book}
use Rattle.broker_book.specs.Steps.{UnlessMemory, act_of, apply_of, put_of, then_all}
use Rattle.broker_index.specs.Index.{Subscriber}
use Rattle.broker_index.specs.declared.places.KeyedPlace.{KeyedPlace}
use Rattle.broker_queues.specs.declared.transactions.Logged.{Logged}
use Rattle.broker_queues.specs.Parts.Begun.{Accepts, Acts, Applies, Goes, Grows, IsBegun, Noted}
use Rattle.broker_queues.specs.Parts.Fates.{is_held_at}
use Rattle.broker_queues.specs.Parts.Held.{TurnsAll}
use Rattle.broker_queues.specs.Parts.Facts.{living_of, subscriber_at}
use Rattle.broker_queues.specs.Parts.Storing.{PutsNone, Tidies}
use Rattle.broker_queues.specs.Parts.Undoing.{before}
use Rattle.broker_queues.specs.Parts.Whole.{Holding, IsSound, book_of}
use Rattle.broker_queues.proofs.Answering.{IsHolder, the_holder}
use Rattle.broker_queues.proofs.Begun.{answer_begun, begins, map_nothing, noted_begun, put_begun, same_begun, up_to}
use Rattle.broker_queues.proofs.Responding.{found_lists}

-- ---- lists that grow

-- a list that stays the same has grown by nothing
pub grows_none : {A : Type 0} (xs ys : List A) → ys ≡ xs → Grows xs ys
grows_none xs ys same = record { more = []; is = same ∙ sym (append-nil xs) }

-- a list that grows twice has grown
pub grows_again : {A : Type 0} (xs ys zs : List A) → Grows xs ys → Grows ys zs → Grows xs zs
grows_again xs ys zs one two = record {
  more = one.more ++ two.more;
  is = two.is ∙ ap (λ l. l ++ two.more) one.is ∙ append_assoc xs one.more two.more;
}

-- what was put behind is cut off
pub grown_cut : {A : Type 0} (xs ys : List A) (n : ℕ) → Grows xs ys → n ≡ length xs → take n ys ≡ xs
grown_cut xs ys n grows e = rw (e, grows.is) (take-append_seam xs grows.more)

-- ---- refusals

pub goes_refused : (A : Type 0) (step : Result Book QueueFault) (new : Book) (fault : QueueFault)
    → (fault ≡ Memory) ⊎ (step ≡ Err fault) → Goes {A = A} step new (Err fault)
goes_refused A step new Memory why = tt
goes_refused A step new NoSuchAck why = elim why [ inl never ↦ cc | inr is ↦ is ]
goes_refused A step new QueueFull why = elim why [ inl never ↦ cc | inr is ↦ is ]
goes_refused A step new TooMany why = elim why [ inl never ↦ cc | inr is ↦ is ]

-- the refusal of one step is that of all
pub goes_on : (A B : Type 0) (step whole : Result Book QueueFault) (one new : Book) (fault : QueueFault)
    → (step ≡ Err fault → whole ≡ Err fault) → Goes {A = A} step one (Err fault) → Goes {A = B} whole new (Err fault)
goes_on A B step whole one new Memory f g = tt
goes_on A B step whole one new NoSuchAck f g = f g
goes_on A B step whole one new QueueFull f g = f g
goes_on A B step whole one new TooMany f g = f g

-- a refused step leaves the book
pub goes_back : (A B : Type 0) (step : Result Book QueueFault) (there old new : Book) (fault : QueueFault)
    → new ≡ old → Goes {A = A} step there (Err fault) → UnlessMemory {A = B} step old new (Err fault)
goes_back A B step there old new Memory same g = same
goes_back A B step there old new NoSuchAck same g = (g, same)
goes_back A B step there old new QueueFull same g = (g, same)
goes_back A B step there old new TooMany same g = (g, same)

-- ---- a SEND

module _ (full : ℕ) (h i : Holding) (noted : List Logged) (given accepted : List Accepted) (sent : Sent) where
  pub put_acts : Accepts full h given sent i accepted
      → Acts {A = Unit {0}} (λ b. put_of full b sent) h noted given i noted accepted (Ok tt)
  put_acts a = record {
    sound = a.sound;
    begun = λ start b. put_begun start h i noted sent b a.sound a.puts a.only;
    goes = a.step;
    grows = a.grows;
  }

  -- it came, but its key could not be noted
  pub put_lost : Accepts full h given sent i accepted
      → Acts {A = Unit {0}} (λ b. put_of full b sent) h noted given i noted accepted (Err Memory)
  put_lost a = record {
    sound = a.sound;
    begun = λ start b. put_begun start h i noted sent b a.sound a.puts a.only;
    goes = tt;
    grows = a.grows;
  }

  pub put_refused : (fault : QueueFault) → PutsNone full h sent fault i → accepted ≡ given
      → Acts {A = Unit {0}} (λ b. put_of full b sent) h noted given i noted accepted (Err fault)
  put_refused fault n same = record {
    sound = n.sound;
    begun = λ start b. same_begun start h i noted b n.sound n.moves.kept n.moves.subscribers n.moves.last n.moves.given
        (λ d m listed. rw (n.moves.numbers d) at listed);
    goes = goes_refused (Unit {0}) (put_of full (book_of h given) sent) (book_of i accepted) fault (elim n.refused [
      | inl memory ↦ inl memory
      | inr step ↦ inr (step given)
    ]);
    grows = grows_none given accepted same;
  }

-- ---- an answer

module _ (h : Holding) (x number : ℕ) (again : Bool) (p : KeyedPlace) (noted now : List Logged)
    (found : find (is_held_at h.kept h.subscribers number) (h.sessions x) ≡ Some p) where
  holds_it : IsSound h → IsHolder h x number p.number
  holds_it is =
      the_holder h is x number p found (found_lists (is_held_at h.kept h.subscribers number) (h.sessions x) p found)

  pub noting_begun : ((s : Subscriber) → subscriber_at p.number h.subscribers ≡ Some s
      → Noted h s (Some number) [] noted now)
      → (start : Holding) → IsBegun start noted h → IsBegun start now h
  noting_begun notes start b =
      let held = holds_it b.sound in
      noted_begun start h noted held.subscriber (Some number) [] now b (notes held.subscriber held.sits)

  pub answering_begun : (i : Holding)
      → ((s : Subscriber) → subscriber_at p.number h.subscribers ≡ Some s → Noted h s (Some number) s.entries noted now)
      → TurnsAll h p.number (Some number) again i → (start : Holding) → IsBegun start noted h → IsBegun start now i
  answering_begun i notes turns start b =
      let held = holds_it b.sound in
      answer_begun start h i noted p.number held.subscriber again (Some number) now b (notes held.subscriber held.sits)
      (turns held.subscriber b.sound held.sits)

-- ---- one action after another

-- behind a refusal nothing is done
pub refused_stays : (full session : ℕ) (actions : List Action) (fault : QueueFault)
    → then_all full session actions (Err fault) ≡ Err fault
refused_stays full session [] fault = refl
refused_stays full session (a ∷ actions) fault = refl

-- what is left is one action, and then the rest
pub left_first : (full session : ℕ) (actions : List Action) (index : ℕ) (a : Action) (b : Book) → index < length actions
    → a ≡ get_or actions index a
    → then_all full session (drop index actions) (Ok b) ≡ then_all full session (drop (index + 1) actions)
    (act_of full session b a)
left_first full session actions index a b short is =
    let one : suc index ≡ index + 1 = omega arith in
    ap (λ l. then_all full session l (Ok b)) (drop-cons actions index a short
    ∙ ap (λ e. e ∷ drop (suc index) actions) (sym is))
    ∙ ap (λ n. then_all full session (drop n actions) (act_of full session b a)) one

-- ---- the end

-- nothing of the book has changed
pub tidy_book : (h i : Holding) (accepted now : List Accepted) → Tidies h i → now ≡ accepted
    → book_of i now ≡ book_of h accepted
tidy_book h i accepted now t same = rw (t.living, t.last, t.given, t.subscriptions, same) refl

-- where nothing is done the book stays tidy
pub tidies_none : (h : Holding) → IsSound h → Tidies h h
tidies_none h is = record { sound = is; living = refl; subscriptions = refl; last = refl; given = refl }

-- two steps that keep the book tidy keep it tidy
pub tidies_again : (h i j : Holding) → Tidies h i → Tidies i j → Tidies h j
tidies_again h i j one two = record {
  sound = two.sound;
  living = two.living ∙ one.living;
  subscriptions = two.subscriptions ∙ one.subscriptions;
  last = two.last ∙ one.last;
  given = two.given ∙ one.given;
}

-- all is undone
pub undone_kept : (start h : Holding) → IsBegun start [] h → h.last ≡ start.last → h.kept ≡ start.kept
undone_kept start h b last =
    sym (up_to h b.sound) ∙ sym (ap (filter (λ k. nat_le k.number h.last)) (map_nothing h.kept))
    ∙ ap (λ n. before n [] h.kept) last
    ∙ b.kept

-- once all is undone, the book is what it was at the start
pub undone_tidies : (start h : Holding) → IsBegun start [] h → h.last ≡ start.last → Tidies start h
undone_tidies start h b last = record {
  sound = b.sound;
  living = ap living_of (undone_kept start h b last);
  subscriptions = b.subscriptions;
  last = last;
  given = b.given;
}

-- all was done, and put away
pub applied : (full session : ℕ) (actions : List Action) (h i j : Holding) (noted now : List Logged)
    (given accepted : List Accepted)
    → Acts {A = Unit {0}} (λ b. apply_of full session b actions) h noted given i now accepted (Ok tt)
    → (IsSound i → Tidies i j) → Applies {A = Unit {0}} full session actions h given j accepted (Ok tt)
applied full session actions h i j noted now given accepted acts sweeps =
    let t : Tidies i j = sweeps acts.sound in
    (t.sound, acts.goes ∙ ap (λ b. Ok b) (sym (tidy_book i j accepted accepted t refl)))

-- or it was refused, and undone
pub unapplied : (full session : ℕ) (actions : List Action) (h i j : Holding) (noted now : List Logged)
    (given accepted cut : List Accepted)
    (fault : QueueFault) → IsSound h → noted ≡ []
    → Acts {A = Unit {0}} (λ b. apply_of full session b actions) h noted given i now accepted (Err fault)
    → (IsBegun h now i → Tidies h j) → cut ≡ given
    → Applies {A = Unit {0}} full session actions h given j cut (Err fault)
unapplied full session actions h i j noted now given accepted cut fault is none acts undoes same =
    let t : Tidies h j = undoes (acts.begun h (rw none (begins h is))) in (
      t.sound,
      goes_back (Unit {0}) (Unit {0}) (apply_of full session (book_of h given) actions) (book_of i accepted)
          (book_of h given)
          (book_of j cut) fault (tidy_book h j given cut t same) acts.goes,
    )
