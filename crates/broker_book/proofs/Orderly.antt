-- Along a run books stay orderly.
use Rattle.std.proofs.Common.{◌≡◌, ℕ, ◌+◌, ◌<◌, ◌≤◌, Bool, true, false, not, cond, List, [], ◌∷◌, ◌++◌, map, refl, sym}
use Rattle.std.proofs.Common.{ap}
use Rattle.std.proofs.Common.{◌∙◌, subst, arith, Option, Some, None, Ok}
use Rattle.std.proofs.lemmas.Bool.{and_parts, and_from, or_left, or_right, not_from_false, eqb-true, eq-eqb}
use Rattle.std.proofs.lemmas.Bool.Decides.{nat_tests}
use Rattle.std.proofs.lemmas.Slice.Eq.{bytes_eq-Decides}
use Rattle.std.specs.Prelude.{count_by, filter, find, ◌==◌, ◌&&◌, ◌||◌, if◌then◌else◌}
use Rattle.std.specs.List.{list_any, AllByRecursion}
use Rattle.std.specs.Str.{bytes_eq}
use Rattle.broker_book.specs.declared.parts.Accepted.{Accepted}
use Rattle.broker_book.specs.declared.parts.Subscription.{Subscription}
use Rattle.broker_book.specs.Books.{Book, QueuedMessage, Fate, Ready, Out, empty_book, is_named, is_auto, out_to}
use Rattle.broker_book.specs.Books.{out_of, may_take}
use Rattle.broker_book.specs.Steps.{Handed, Deal, left_of, last_given, acked, nacked, holder, covered, ready_if}
use Rattle.broker_book.specs.Steps.{subscribed}
use Rattle.broker_book.specs.Runs.{BookEvent, Puts, Hands, Acks, Nacks, Subscribes, Releases, Ends, Takes, BookStep}
use Rattle.broker_book.specs.Runs.{Run}
use Rattle.broker_book.specs.Laws.{RiseTo, is_delivery, deliveries, is_at, IsOrderly}
use Rattle.broker_book.proofs.Counts.{count-cons, count-append, count-filter, count-map, count-less, no-count}
use Rattle.broker_book.proofs.Numbers.{put_is}

-- ---- numbers rise

rise-weak : (low lower last : ℕ) (ms : List QueuedMessage) → lower ≤ low → RiseTo low last ms → RiseTo lower last ms
rise-weak low lower last [] e h = omega arith
rise-weak low lower last (m ∷ ms) e h = let first = h.0 in (omega arith, h.1)

rise_push : (low last : ℕ) (ms : List QueuedMessage) (m : QueuedMessage) → m.number ≡ last + 1 → RiseTo low last ms
    → RiseTo low (last + 1) (ms ++ m ∷ [])
rise_push low last [] m e h = (omega arith, omega arith)
rise_push low last (x ∷ ms) m e h = (h.0, rise_push x.number last ms m e h.1)

filter_rises : (b : Bool) (low last : ℕ) (m : QueuedMessage) (rest : List QueuedMessage) → low < m.number
    → RiseTo m.number last rest
    → RiseTo low last (cond b (m ∷ rest) rest)
filter_rises true low last m rest l r = (l, r)
filter_rises false low last m rest l r = rise-weak m.number low last rest (omega arith) r

rise-filter : (p : QueuedMessage → Bool) (low last : ℕ) (ms : List QueuedMessage) → RiseTo low last ms
    → RiseTo low last (filter p ms)
rise-filter p low last [] h = h
rise-filter p low last (m ∷ ms) h = filter_rises (p m) low last m (filter p ms) h.0 (rise-filter p m.number last ms h.1)

ready_rises : (b : Bool) (low last : ℕ) (m : QueuedMessage) (rest : List QueuedMessage) → low < m.number
    → RiseTo m.number last rest
    → RiseTo low last ((if b then record m { fate = Ready } else m) ∷ rest)
ready_rises true low last m rest l r = (l, r)
ready_rises false low last m rest l r = (l, r)

rise-ready : (test : Fate → Bool) (low last : ℕ) (ms : List QueuedMessage) → RiseTo low last ms
    → RiseTo low last (map (ready_if test) ms)
rise-ready test low last [] h = h
rise-ready test low last (m ∷ ms) h =
    ready_rises (test m.fate) low last m (map (ready_if test) ms) h.0 (rise-ready test m.number last ms h.1)

rise_dealt : (low last : ℕ) (front back : List QueuedMessage) (m : QueuedMessage) (s : Subscription) (ack : Option ℕ)
    → RiseTo low last (front ++ m ∷ back) → RiseTo low last (front ++ (left_of m s ack ++ back))
rise_dealt low last [] back m s None h = let first = h.0 in rise-weak m.number low last back (omega arith) h.1
rise_dealt low last [] back m s (Some n) h = h
rise_dealt low last (x ∷ front) back m s ack h = (h.0, rise_dealt x.number last front back m s ack h.1)

-- ---- what is out is out to a subscription that is there

-- each of these messages is ready, or out to one of the subscriptions
abbrev AreAt : List Subscription → List QueuedMessage → Type 0
AreAt subscriptions ms = AllByRecursion (λ (m : QueuedMessage). is_at subscriptions m.fate ≡ true) ms

at-append : (s : List Subscription) (xs ys : List QueuedMessage) → AreAt s xs → AreAt s ys → AreAt s (xs ++ ys)
at-append s [] ys h k = k
at-append s (x ∷ xs) ys h k = (h.0, at-append s xs ys h.1 k)

at_split : (s : List Subscription) (xs ys : List QueuedMessage) → AreAt s (xs ++ ys) → AreAt s xs × AreAt s ys
at_split s [] ys h = (tt, h)
at_split s (x ∷ xs) ys h = let k = at_split s xs ys h.1 in ((h.0, k.0), k.1)

filter_at : (b : Bool) (s : List Subscription) (m : QueuedMessage) (rest : List QueuedMessage) → is_at s m.fate ≡ true
    → AreAt s rest
    → AreAt s (cond b (m ∷ rest) rest)
filter_at true s m rest h k = (h, k)
filter_at false s m rest h k = k

at-filter : (p : QueuedMessage → Bool) (s : List Subscription) (ms : List QueuedMessage) → AreAt s ms
    → AreAt s (filter p ms)
at-filter p s [] h = h
at-filter p s (m ∷ ms) h = filter_at (p m) s m (filter p ms) h.0 (at-filter p s ms h.1)

at-more : (s t : List Subscription) (ms : List QueuedMessage) → ((f : Fate) → is_at s f ≡ true → is_at t f ≡ true)
    → AreAt s ms → AreAt t ms
at-more s t [] all h = h
at-more s t (m ∷ ms) all h = (all m.fate h.0, at-more s t ms all h.1)

ready_at : (b : Bool) (t : List Subscription) (m : QueuedMessage) → (b ≡ false → is_at t m.fate ≡ true)
    → is_at t (if b then record m { fate = Ready } else m).fate ≡ true
ready_at true t m h = refl
ready_at false t m h = h refl

at-ready : (test : Fate → Bool) (s t : List Subscription) (ms : List QueuedMessage)
    → ((f : Fate) → test f ≡ false → is_at s f ≡ true → is_at t f ≡ true) → AreAt s ms
    → AreAt t (map (ready_if test) ms)
at-ready test s t [] all h = h
at-ready test s t (m ∷ ms) all h =
    (ready_at (test m.fate) t m (λ e. all m.fate e h.0), at-ready test s t ms all h.1)

left_at : (s : List Subscription) (m : QueuedMessage) (to : Subscription) (ack : Option ℕ)
    → list_any (is_named to.session to.id) s ≡ true
    → AreAt s (left_of m to ack)
left_at s m to None h = tt
left_at s m to (Some n) h = (h, tt)

-- ---- subscriptions

or_more : (b r q : Bool) → (b || r) ≡ true → (r ≡ true → q ≡ true) → (b || q) ≡ true
or_more true r q h f = refl
or_more false r q h f = f h

any-append : {X : Type 0} (p : X → Bool) (xs ys : List X) → list_any p xs ≡ true → list_any p (xs ++ ys) ≡ true
any-append p [] ys h = absurd cc
any-append p (x ∷ xs) ys h = or_more (p x) (list_any p xs) (list_any p (xs ++ ys)) h (any-append p xs ys)

any_kept : {X : Type 0} (p : X → Bool) (x : X) (kept : List X) (a b r : Bool) → p x ≡ a → (a ≡ true → b ≡ true)
    → (a || r) ≡ true
    → (r ≡ true → list_any p kept ≡ true) → list_any p (cond b (x ∷ kept) kept) ≡ true
any_kept p x kept true true r e k h f = or_left (p x) (list_any p kept) e
any_kept p x kept true false r e k h f = let z = k refl in absurd cc
any_kept p x kept false true r e k h f = or_right (p x) (list_any p kept) (f h)
any_kept p x kept false false r e k h f = f h

-- a filter that keeps what is looked for
any-filter : {X : Type 0} (p q : X → Bool) (xs : List X) → ((x : X) → p x ≡ true → q x ≡ true) → list_any p xs ≡ true
    → list_any p (filter q xs) ≡ true
any-filter p q [] k h = h
any-filter p q (x ∷ xs) k h = any_kept p x (filter q xs) (p x) (q x) (list_any p xs) refl (k x) h (any-filter p q xs k)

found_any : {X : Type 0} (b : Bool) (p q : X → Bool) (x : X) (xs : List X) (y : X)
    → cond b (Some x) (find p xs) ≡ Some y → q y ≡ true
    → (find p xs ≡ Some y → list_any q xs ≡ true) → list_any q (x ∷ xs) ≡ true
found_any true p q x xs y h k f = let e : x ≡ y = cc in or_left (q x) (list_any q xs) (ap q e ∙ k)
found_any false p q x xs y h k f = or_right (q x) (list_any q xs) (f h)

-- what is found is there
find-any : {X : Type 0} (p q : X → Bool) (xs : List X) (y : X) → find p xs ≡ Some y → q y ≡ true → list_any q xs ≡ true
find-any p q [] y h k = absurd cc
find-any p q (x ∷ xs) y h k = found_any (p x) p q x xs y h k (λ e. find-any p q xs y e k)

named_itself : (s : Subscription) → is_named s.session s.id s ≡ true
named_itself s =
    and_from (s.session == s.session) (bytes_eq s.id s.id) (eq-eqb s.session s.session refl)
    ((bytes_eq-Decides s.id s.id).1 refl)

named_parts : (session : ℕ) (id : List ℕ) (s : Subscription) → is_named session id s ≡ true → (s.session ≡ session)
    × (s.id ≡ id)
named_parts session id s h =
    let k = and_parts (s.session == session) (bytes_eq s.id id) h in
    (eqb-true s.session session k.0, (bytes_eq-Decides s.id id).0 k.1)

-- what is out to another subscription stays with it
release_at : (session : ℕ) (id : List ℕ) (subscriptions : List Subscription) (f : Fate) → out_to session id f ≡ false
    → is_at subscriptions f ≡ true → is_at (filter (λ s. not (is_named session id s)) subscriptions) f ≡ true
release_at session id subscriptions Ready e h = refl
release_at session id subscriptions (Out x i n) e h =
    any-filter (is_named x i) (λ s. not (is_named session id s)) subscriptions other h
  where
    other : (s : Subscription) → is_named x i s ≡ true → not (is_named session id s) ≡ true
    other s k =
        let parts = named_parts x i s k in
        let same : is_named session id s ≡ (x == session && bytes_eq i id) =
        λ j. parts.0 j == session && bytes_eq (parts.1 j) id in
        not_from_false (is_named session id s) (same ∙ e)

-- what is out to another session stays with it
end_at : (session : ℕ) (subscriptions : List Subscription) (f : Fate) → out_of session f ≡ false
    → is_at subscriptions f ≡ true
    → is_at (filter (λ s. not (s.session == session)) subscriptions) f ≡ true
end_at session subscriptions Ready e h = refl
end_at session subscriptions (Out x i n) e h =
    any-filter (is_named x i) (λ s. not (s.session == session)) subscriptions other h
  where
    other : (s : Subscription) → is_named x i s ≡ true → not (s.session == session) ≡ true
    other s k =
        let parts = named_parts x i s k in
        let same : (s.session == session) ≡ (x == session) = λ j. parts.0 j == session in
        not_from_false (s.session == session) (same ∙ e)

subscribe_at : (s : Subscription) (subscriptions : List Subscription) (f : Fate) → is_at subscriptions f ≡ true
    → is_at (subscriptions ++ s ∷ []) f ≡ true
subscribe_at s subscriptions Ready h = refl
subscribe_at s subscriptions (Out x i n) h = any-append (is_named x i) subscriptions (s ∷ []) h

named_more : (b : Bool) (subscriptions : List Subscription) (s : Subscription) (session : ℕ) (id : List ℕ)
    → is_named session id s ≡ b
    → list_any (is_named s.session s.id) subscriptions ≡ false → count_by (is_named session id) subscriptions ≤ 1
    → cond b 1 0 + count_by (is_named session id) subscriptions ≤ 1
named_more false subscriptions s session id e h k = omega arith
named_more true subscriptions s session id e h k =
    let parts = named_parts session id s e in
    let same : list_any (is_named s.session s.id) subscriptions ≡ list_any (is_named session id) subscriptions
    = λ j. list_any (is_named (parts.0 j) (parts.1 j)) subscriptions in
    let none = no-count (is_named session id) subscriptions (sym same ∙ h) in
    omega arith

-- a subscription with a new name
named_once : (subscriptions : List Subscription) (s : Subscription) (session : ℕ) (id : List ℕ)
    → list_any (is_named s.session s.id) subscriptions ≡ false → count_by (is_named session id) subscriptions ≤ 1
    → count_by (is_named session id) (subscriptions ++ s ∷ []) ≤ 1
named_once subscriptions s session id h k =
    let a = count-append (is_named session id) subscriptions (s ∷ []) in
    let c = count-cons (is_named session id) s [] in
    let m = named_more (is_named session id s) subscriptions s session id refl h k in
    omega arith

-- ---- delivery numbers

ready_out : (b : Bool) (n : ℕ) (m : QueuedMessage)
    → is_delivery n (if b then record m { fate = Ready } else m).fate ≡ true
    → is_delivery n m.fate ≡ true
ready_out true n m h = absurd cc
ready_out false n m h = h

fewer-ready : (test : Fate → Bool) (n : ℕ) (ms : List QueuedMessage)
    → deliveries n (map (ready_if test) ms) ≤ deliveries n ms
fewer-ready test n ms =
    let e = count-map (λ (m : QueuedMessage). is_delivery n m.fate) (ready_if test) ms in
    let l = count-less (λ (m : QueuedMessage). is_delivery n (ready_if test m).fate)
    (λ (m : QueuedMessage). is_delivery n m.fate) ms
    (λ m. ready_out (test m.fate) n m) in
    omega arith

fewer-filter : (p : QueuedMessage → Bool) (n : ℕ) (ms : List QueuedMessage)
    → deliveries n (filter p ms) ≤ deliveries n ms
fewer-filter p n ms = count-filter (λ (m : QueuedMessage). is_delivery n m.fate) p ms

-- a message that goes out: with a number, or for good
fewer-none : (n : ℕ) (front back : List QueuedMessage) (m : QueuedMessage)
    → deliveries n (front ++ back) ≤ deliveries n (front ++ m ∷ back)
fewer-none n front back m =
    let p = λ (x : QueuedMessage). is_delivery n x.fate in
    let a = count-append p front back in let b =
    count-append p front (m ∷ back) in let c = count-cons p m back in omega arith

one_out : (n k : ℕ) (front back : List QueuedMessage) (m out : QueuedMessage) → is_delivery n out.fate ≡ (k == n)
    → deliveries n (front ++ out ∷ back) ≤ deliveries n (front ++ m ∷ back) + cond (k == n) 1 0
one_out n k front back m out e =
    let p = λ (x : QueuedMessage). is_delivery n x.fate in
    let a = count-append p front (out ∷ back) in let b = count-append p front (m ∷ back) in
    let c = count-cons p m back in let d = count-cons p out back in
    let f : cond {A = ℕ} (is_delivery n out.fate) 1 0 ≡ cond (k == n) 1 0 = ap (λ (t : Bool). cond {A = ℕ} t 1 0) e in
    omega arith

over_given : (given n old new : ℕ) → (given < n → old ≡ 0) → new ≤ old + cond (given + 1 == n) 1 0 → given + 1 < n
    → new ≡ 0
over_given given n old new g l h = grind (arith, nat_tests)

over_once : (given n old new : ℕ) → (given < n → old ≡ 0) → old ≤ 1 → new ≤ old + cond (given + 1 == n) 1 0 → new ≤ 1
over_once given n old new g o l = grind (arith, nat_tests)

-- no number above this one is out, and none twice
abbrev AreGiven : ℕ → List QueuedMessage → Type 0
AreGiven given ms = ((n : ℕ) → given < n → deliveries n ms ≡ 0) × ((n : ℕ) → deliveries n ms ≤ 1)

given_fewer : (given : ℕ) (old new : List QueuedMessage) → ((n : ℕ) → deliveries n new ≤ deliveries n old)
    → AreGiven given old
    → AreGiven given new
given_fewer given old new h g =
    (λ n l. let a = h n in let b = g.0 n l in omega arith, λ n. let a = h n in let b = g.1 n in omega arith)

given_dealt : (given : ℕ) (front back : List QueuedMessage) (m : QueuedMessage) (s : Subscription) (b : Bool)
    (ack : Option ℕ)
    → ack ≡ (if b then None else Some (given + 1)) → AreGiven given (front ++ m ∷ back)
    → AreGiven (last_given given ack) (front ++ (left_of m s ack ++ back))
given_dealt given front back m s true ack e g =
    rw e (given_fewer given (front ++ m ∷ back) (front ++ back) (λ n. fewer-none n front back m) g)
given_dealt given front back m s false ack e g = rw e (
  λ n l. over_given given n (deliveries n (front ++ m ∷ back)) _ (g.0 n) (more n) l,
  λ n. over_once given n (deliveries n (front ++ m ∷ back)) _ (g.0 n) (g.1 n) (more n),
)
  where
    more : (n : ℕ) → deliveries n (front ++ record m { fate = Out s.session s.id (given + 1) } ∷ back)
        ≤ deliveries n (front ++ m ∷ back) + cond (given + 1 == n) 1 0
    more n = one_out n (given + 1) front back m (record m { fate = Out s.session s.id (given + 1) }) refl

-- ---- one event

put_orderly : (old : Book) (m : QueuedMessage) (accepted : List Accepted) → m.number ≡ old.last + 1 → m.fate ≡ Ready
    → IsOrderly old
    → IsOrderly (record old { living = old.living ++ m ∷ []; last = old.last + 1; accepted = accepted })
put_orderly old m accepted e r o = record {
  rising = rise_push 0 old.last old.living m e o.rising;
  given = λ n l. let a = more n in let b = o.given n l in omega arith;
  once = λ n. let a = more n in let b = o.once n in omega arith;
  there = at-append old.subscriptions old.living (m ∷ []) o.there (ap (λ (f : Fate). is_at old.subscriptions f) r, tt);
  named = o.named;
}
  where
    more : (n : ℕ) → deliveries n (old.living ++ m ∷ []) ≤ deliveries n old.living
    more n =
        let p = λ (x : QueuedMessage). is_delivery n x.fate in
        let a = count-append p old.living (m ∷ []) in let c = count-cons p m [] in
        let f : cond {A = ℕ} (is_delivery n m.fate) 1 0 ≡ 0 = ap (λ (x : Fate). cond {A = ℕ} (is_delivery n x) 1 0) r in
        omega arith

deal_orderly : (old new : Book) (d : Handed) → Deal old d new → IsOrderly old → IsOrderly new
deal_orderly old new d h o = rw h.changed (record {
  rising = rise_dealt 0 old.last h.front h.back h.message d.to d.ack (subst (λ l. RiseTo 0 old.last l) h.found
      o.rising);
  given = given.0;
  once = given.1;
  there = at-append old.subscriptions h.front (left_of h.message d.to d.ack ++ h.back) parts.0
      (at-append old.subscriptions (left_of h.message d.to d.ack) h.back (left_at old.subscriptions h.message d.to d.ack
      taker) parts.1.1);
  named = o.named;
})
  where
    taker : list_any (is_named d.to.session d.to.id) old.subscriptions ≡ true
    taker = find-any (may_take old h.message) (is_named d.to.session d.to.id) old.subscriptions d.to h.oldest
        (named_itself d.to)

    given : AreGiven (last_given old.given d.ack) (h.front ++ (left_of h.message d.to d.ack ++ h.back))
    given = given_dealt old.given h.front h.back h.message d.to (is_auto d.to.mode) d.ack h.ack
        (subst (λ l. AreGiven old.given l) h.found (o.given, o.once))

    parts : AreAt old.subscriptions h.front × AreAt old.subscriptions (h.message ∷ h.back)
    parts = at_split old.subscriptions h.front (h.message ∷ h.back) (subst (λ l. AreAt old.subscriptions l) h.found
        o.there)

-- messages are ready again, and perhaps subscriptions end
ready_orderly : (old : Book) (test : Fate → Bool) (subscriptions : List Subscription)
    → ((f : Fate) → test f ≡ false → is_at old.subscriptions f ≡ true → is_at subscriptions f ≡ true)
    → ((session : ℕ) (id : List ℕ) → count_by (is_named session id) subscriptions ≤ 1) → IsOrderly old
    → IsOrderly (record old { living = map (ready_if test) old.living; subscriptions = subscriptions })
ready_orderly old test subscriptions stay named o =
    let given = given_fewer old.given old.living (map (ready_if test) old.living) (λ n. fewer-ready test n old.living)
    (o.given, o.once) in
    record {
      rising = rise-ready test 0 old.last old.living o.rising;
      given = given.0;
      once = given.1;
      there = at-ready test old.subscriptions subscriptions old.living stay o.there;
      named = named;
    }

ack_orderly : (old new : Book) (number : ℕ) (o : Option Subscription) → acked old number o ≡ Ok new → IsOrderly old
    → IsOrderly new
ack_orderly old new number None h o = absurd cc
ack_orderly old new number (Some s) h o =
    let left = λ (m : QueuedMessage). not (covered s number m.fate) in
    let e : record old { living = filter left old.living } ≡ new = cc in
    let given = given_fewer old.given old.living (filter left old.living) (λ n. fewer-filter left n old.living)
    (o.given, o.once) in
    rw (← e) (record {
      rising = rise-filter left 0 old.last old.living o.rising;
      given = given.0;
      once = given.1;
      there = at-filter left old.subscriptions old.living o.there;
      named = o.named;
    })

nack_orderly : (old new : Book) (number : ℕ) (o : Option Subscription) → nacked old number o ≡ Ok new → IsOrderly old
    → IsOrderly new
nack_orderly old new number None h o = absurd cc
nack_orderly old new number (Some s) h o =
    let e : record old { living = map (ready_if (covered s number)) old.living } ≡ new = cc in
    rw (← e) (ready_orderly old (covered s number) old.subscriptions (λ f k l. l) o.named o)

subscribe_orderly : (old : Book) (s : Subscription) → list_any (is_named s.session s.id) old.subscriptions ≡ false
    → IsOrderly old
    → IsOrderly (subscribed old s)
subscribe_orderly old s h o = record {
  rising = o.rising;
  given = o.given;
  once = o.once;
  there = at-more old.subscriptions (old.subscriptions ++ s ∷ []) old.living (subscribe_at s old.subscriptions) o.there;
  named = λ session id. named_once old.subscriptions s session id h (o.named session id);
}

fewer_named : (q : Subscription → Bool) (old : Book) → IsOrderly old → (session : ℕ) (id : List ℕ)
    → count_by (is_named session id) (filter q old.subscriptions) ≤ 1
fewer_named q old o session id =
    let a = count-filter (is_named session id) q old.subscriptions in let b = o.named session id in omega arith

event_orderly : (old new : Book) (e : BookEvent) → BookStep old e new → IsOrderly old → IsOrderly new
event_orderly old new (Puts full sent) h o = rw (put_is full old sent new h)
    (put_orderly old (record { number = old.last + 1; sent = sent; fate = Ready }) _ refl refl o)
event_orderly old new (Hands d) h o = deal_orderly old new d h o
event_orderly old new (Acks session number numbers) h o = ack_orderly old new number (holder old session number) h.0 o
event_orderly old new (Nacks session number) h o = nack_orderly old new number (holder old session number) h o
event_orderly old new (Subscribes s) h o = rw h.1 (subscribe_orderly old s h.0 o)
event_orderly old new (Releases session id) h o = rw h (ready_orderly old (out_to session id)
    (filter (λ s. not (is_named session id s)) old.subscriptions) (release_at session id old.subscriptions)
    (fewer_named (λ s. not (is_named session id s)) old o) o)
event_orderly old new (Ends session) h o = rw h (ready_orderly old (out_of session)
    (filter (λ s. not (s.session == session)) old.subscriptions) (end_at session old.subscriptions)
    (fewer_named (λ s. not (s.session == session)) old o) o)
event_orderly old new (Takes accepted) h o = rw h.1 (record {
  rising = o.rising;
  given = o.given;
  once = o.once;
  there = o.there;
  named = o.named;
})

-- ---- runs

run_orderly : (events : List BookEvent) (old new : Book) → Run old events new → IsOrderly old → IsOrderly new
run_orderly [] old new h o = rw h o
run_orderly (e ∷ events) old new h o = run_orderly events h.0 new h.2 (event_orderly old h.0 e h.1 o)

start_orderly : IsOrderly empty_book
start_orderly = record {
  rising = omega arith;
  given = λ n l. refl;
  once = λ n. omega arith;
  there = tt;
  named = λ session id. omega arith;
}

-- after any run from the empty book: numbers in order, deliveries and names unique
pub books_orderly : (events : List BookEvent) (b : Book) → Run empty_book events b → IsOrderly b
books_orderly events b h = run_orderly events empty_book b h start_orderly
