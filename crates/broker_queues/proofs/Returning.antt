-- A delivery is taken back: the parts change as one message's change of fate wants.
use Rattle.std.proofs.Common.{◌≡◌, ℕ, ◌+◌, ◌-◌, Bool, true, false, cond, List, map}
use Rattle.std.proofs.Common.{Option, Some, None, refl, sym, ap, ◌∙◌, arith, inl, inr}
use Rattle.std.specs.Prelude.{◌==◌, ◌++◌, ◌||◌, [], ◌∷◌}
use Rattle.std.specs.List.{list_any}
use Rattle.std.specs.Option.{option_map}
use Rattle.std.specs.Str.{bytes_eq}
use Rattle.std.proofs.lemmas.Bool.{cases_Bool, cases_eq, eq-eqb, ne_eqb}
use Rattle.std.proofs.lemmas.List.Folds.{list_any-append}
use Rattle.broker_book.specs.Books.{Fate, Ready, Out, out_to, is_for}
use Rattle.broker_index.specs.Index.{Kept, Subscriber, Queue, with_fate, with_count}
use Rattle.broker_queues.specs.Parts.Facts.{kept_at, subscriber_at, queue_of, message_of, holds_number}
use Rattle.broker_queues.specs.Parts.Fates.{passes, counts_for, recounted, weight, fated, back}
use Rattle.broker_queues.specs.Parts.Queues.{Credits, Marks, awake_in}
use Rattle.broker_queues.specs.Parts.Undoing.{is_out_fate}
use Rattle.broker_queues.specs.Parts.Whole.{Holding, IsSound, Changes, Lowers, Wakes}
use Rattle.broker_queues.proofs.Distinct.{distinct_back}
use Rattle.broker_queues.proofs.Living.{count_change}
use Rattle.broker_queues.proofs.Rising.{map_same}
use Rattle.broker_queues.proofs.Subscribing.{is_out, IsOut, named_from, itself}

pub Lowers-trans : (a b c : List ℕ → Option Queue) → Lowers a b → Lowers b c → Lowers a c
Lowers-trans a b c p q = record {
  numbers = λ d. q.numbers d ∙ p.numbers d;
  subscribers = λ d. q.subscribers d ∙ p.subscribers d;
  ready = λ d. omega (arith, p.ready d, q.ready d);
  takers = λ d. omega (arith, p.takers d, q.takers d);
}

-- the message of a subscriber is out to no other
pub only_one : (h : Holding) → IsSound h → (f : Option Fate) (a b : ℕ) (s t : Subscriber)
    → subscriber_at a h.subscribers ≡ Some s
    → subscriber_at b h.subscribers ≡ Some t → passes (out_to s.subscription.session s.subscription.id) f ≡ true
    → passes (out_to t.subscription.session t.subscription.id) f ≡ true → a ≡ b
only_one h is f a b s t sits there on also =
    let one : IsOut s.subscription.session s.subscription.id f = is_out s.subscription.session s.subscription.id f on in
    let two : IsOut t.subscription.session t.subscription.id f =
    is_out t.subscription.session t.subscription.id f also in
    let same : Some (Out s.subscription.session s.subscription.id one.ack)
    ≡ Some (Out t.subscription.session t.subscription.id two.ack) =
    sym one.out ∙ two.out in
    let session : t.subscription.session ≡ s.subscription.session = cc in
    let id : t.subscription.id ≡ s.subscription.id = cc in
    is.apart a b s t sits there (named_from s.subscription.session s.subscription.id t.subscription session id)

-- its count alone changes
recount_one : (h : Holding) → IsSound h → (f to : Option Fate) (a : ℕ) (s : Subscriber)
    → subscriber_at a h.subscribers ≡ Some s
    → passes (out_to s.subscription.session s.subscription.id) f ≡ true
    → ((x : ℕ) (i : List ℕ) → passes (out_to x i) to ≡ false)
    → map (with_count a (s.count - 1)) h.subscribers ≡ map (recounted f to) h.subscribers
recount_one h is f to a s sits on off =
    map_same (λ s. s.age) (with_count a (s.count - 1)) (recounted f to) 0 h.subscribers is.ages each
  where
    none : (t : Subscriber) → counts_for t to ≡ 0
    none t = rw (off t.subscription.session t.subscription.id) refl

    one : (t : Subscriber) → passes (out_to t.subscription.session t.subscription.id) f ≡ true → counts_for t f ≡ 1
    one t out = rw out refl

    zero_for : (t : Subscriber) → passes (out_to t.subscription.session t.subscription.id) f ≡ false
        → counts_for t f ≡ 0
    zero_for t out = rw out refl

    each : (t : Subscriber) → subscriber_at t.age h.subscribers ≡ Some t
        → with_count a (s.count - 1) t ≡ recounted f to t
    each t there = elim (cases_eq t.age a) [
      | inl same ↦
          let here : subscriber_at a h.subscribers ≡ Some t =
          ap (λ b. subscriber_at b h.subscribers) (sym same) ∙ there in
          let both : Some t ≡ Some s = sym here ∙ sits in
          let e : t ≡ s = cc in
          let on2 : passes (out_to t.subscription.session t.subscription.id) f ≡ true =
          ap (λ u. passes (out_to u.subscription.session u.subscription.id) f) e ∙ on in
          let number : (t.age == a) ≡ true = eq-eqb t.age a same in
          let count : s.count - 1 ≡ (t.count + counts_for t to) - counts_for t f =
          let c : s.count ≡ t.count = ap (λ u. u.count) (sym e) in omega (arith, none t, one t on2, c) in
          let changed : with_count a (s.count - 1) t ≡ record t { count = s.count - 1 } = rw number refl in
          changed ∙ ap (λ n. record t { count = n }) count
      | inr other ↦
          let number : (t.age == a) ≡ false = ne_eqb t.age a other in
          let stays : with_count a (s.count - 1) t ≡ t = rw number refl in
          elim (cases_Bool (passes (out_to t.subscription.session t.subscription.id) f)) [
            | inl out ↦ absurd (other (only_one h is f t.age a t s there sits out on))
            | inr quiet ↦
                let count : t.count ≡ (t.count + counts_for t to) - counts_for t f =
                omega (arith, none t, zero_for t quiet) in
                stays ∙ ap (λ n. record t { count = n }) count
          ]
    ]

-- what becomes of a message that is taken back is out to none
never_out : (again : Bool) (x : ℕ) (i : List ℕ) → passes (out_to x i) (back again) ≡ false
never_out true x i = refl
never_out false x i = refl

-- nor is it out at all
never_back : (again : Bool) → passes is_out_fate (back again) ≡ false
never_back true = refl
never_back false = refl

weight_back : (again : Bool) (k : Kept) (d x : ℕ) (i : List ℕ) (a : ℕ) (name : List ℕ) → k.fate ≡ Some (Out x i a)
    → weight (is_for name) (message_of (fated (back again) k)) + cond again 0
    (cond (bytes_eq k.sent.destination name) 1 0)
    ≡ weight (is_for name) (message_of k)
weight_back true k d x i a name out = rw out (omega arith)
weight_back false k d x i a name out = rw out (omega arith)

module _ (h : Holding) (n age : ℕ) (again : Bool) (k : Kept) (s : Subscriber) (q r : List ℕ → Option Queue)
    (v w : List ℕ → Bool)
    (is : IsSound h) (found : kept_at n h.kept ≡ Some k) (sits : subscriber_at age h.subscribers ≡ Some s)
    (on : passes (out_to s.subscription.session s.subscription.id) k.fate ≡ true)
    (m : Marks again k.sent.destination n h.queues q h.awake v) (f : Credits s.subscription.destination age q r v w) where
  recounts : (d : List ℕ) → (queue_of r d).count + weight (is_for d) (message_of k)
      ≡ (queue_of h.queues d).count + weight (is_for d) (message_of (fated (back again) k))
  recounts d =
      let out : IsOut s.subscription.session s.subscription.id k.fate =
      is_out s.subscription.session s.subscription.id k.fate on in
      omega (
        arith,
        f.counts d,
        m.counts d,
        is.counted d,
        count_change (is_for d) n (back again) h.kept k is.numbers found,
        weight_back again k 0 s.subscription.session s.subscription.id out.ack d out.out,
      )

  was_again : (b : Bool) → back b ≡ Some Ready → b ≡ true
  was_again true ready = refl
  was_again false ready = let never : None ≡ Some Ready = ready in cc

  isnt_out : (b : Bool) (x : ℕ) (i : List ℕ) (a : ℕ) → back b ≡ Some (Out x i a)
      → list_any (holds_number x i n) h.subscribers ≡ true
  isnt_out true x i a out = let never : Some Ready ≡ Some (Out x i a) = out in cc
  isnt_out false x i a out = let never : None ≡ Some (Out x i a) = out in cc

  it_is : (a : ℕ) (t : Subscriber) → subscriber_at a h.subscribers ≡ Some t
      → passes (out_to t.subscription.session t.subscription.id) k.fate ≡ true
      → (a ≡ age) × (t ≡ s)
  it_is a t there out =
      let same : a ≡ age = only_one h is k.fate a age t s there sits out on in
      let both : Some t ≡ Some s = sym there ∙ ap (λ b. subscriber_at b h.subscribers) same ∙ sits in
      let e : t ≡ s = cc in
      (same, e)

  pub taken_back : Changes h n k (back again) (record h {
    kept = map (with_fate n (back again)) h.kept;
    subscribers = map (with_count age (s.count - 1)) h.subscribers;
    queues = r;
    awake = w;
  })
  taken_back = record {
    kept = refl;
    subscribers = recount_one h is k.fate (back again) age s sits on (never_out again);
    lowers = Lowers-trans h.queues q r m.lowers f.lowers;
    count = recounts;
    sessions = refl;
    wakes = λ d awake. f.wakes d (m.wakes d awake);
    last = refl;
    given = omega arith;
    ready_from = λ ready. omega (arith, f.lowers.ready k.sent.destination, m.from (was_again again ready));
    ready_awake = λ ready. f.wakes k.sent.destination (m.awake (was_again again ready));
    free_from = λ a t there out. let it = it_is a t there out in rw (it.0, it.1) f.from;
    free_awake = λ a t there out. let it = it_is a t there out in rw it.1 f.awake;
    noted = isnt_out again;
    distinct = distinct_back h.given h.given n (back again) h.kept (map (with_fate n (back again)) h.kept) k found
        is.distinct (omega arith) (never_back again) refl;
  }

-- the same, by what each step says
pub taken_back_in : (h i : Holding) (n age count : ℕ) (again : Bool) (fate : Option Fate) (k : Kept) (s : Subscriber)
    (name there : List ℕ)
    (q : List ℕ → Option Queue) (v : List ℕ → Bool) → IsSound h → kept_at n h.kept ≡ Some k
    → subscriber_at age h.subscribers ≡ Some s
    → passes (out_to s.subscription.session s.subscription.id) k.fate ≡ true
    → name ≡ k.sent.destination → there ≡ s.subscription.destination → count ≡ s.count - 1 → fate ≡ back again
    → Marks again name n h.queues q h.awake v → Credits there age q i.queues v i.awake
    → i.kept ≡ map (with_fate n fate) h.kept → i.subscribers ≡ map (with_count age count) h.subscribers
    → i.sessions ≡ h.sessions → i.last ≡ h.last → i.given ≡ h.given → Changes h n k (back again) i
taken_back_in h i n age count again fate k s name there q v is found sits on e1 e2 e3 e4 m f kept subscribers sessions
    last given =
    let m2 : Marks again k.sent.destination n h.queues q h.awake v = rw e1 at m in
    let f2 : Credits s.subscription.destination age q i.queues v i.awake = rw e2 at f in
    let t = taken_back h n age again k s q i.queues v i.awake is found sits on m2 f2 in
    record {
      kept = kept ∙ ap (λ to. map (with_fate n to) h.kept) e4;
      subscribers = subscribers ∙ ap (λ c. map (with_count age c) h.subscribers) e3 ∙ t.subscribers;
      lowers = t.lowers;
      count = t.count;
      sessions = sessions;
      wakes = t.wakes;
      last = last;
      given = omega (arith, given);
      ready_from = t.ready_from;
      ready_awake = t.ready_awake;
      free_from = t.free_from;
      free_awake = t.free_awake;
      noted = t.noted;
      distinct = distinct_back h.given i.given n (back again) h.kept i.kept k found is.distinct (omega (arith, given))
          (never_back again) (kept ∙ ap (λ to. map (with_fate n to) h.kept) e4);
    }

-- ---- names of what is awake

-- a destination whose name was added last is awake
pub noted_name : (all : Bool) (names : List (List ℕ)) (copy name : List ℕ) → copy ≡ name
    → awake_in all (names ++ copy ∷ []) name ≡ true
noted_name true names copy name same = refl
noted_name false names copy name same =
    list_any-append (λ n. bytes_eq n name) names (copy ∷ [])
    ∙ rw (same, itself name) (last (list_any (λ n. bytes_eq n name) names))
  where
    last : (b : Bool) → (b || (true || false)) ≡ true
    last true = refl
    last false = refl

-- what a queue of a name tells of its name
pub told_name : (o : Option Queue) (shared name : List ℕ) → Some shared ≡ option_map (λ q. name) o → shared ≡ name
told_name None shared name same = absurd (let never : Some shared ≡ None = same in cc)
told_name (Some q) shared name same = let both : Some shared ≡ Some name = same in cc

pub noted_wakes : (all : Bool) (names : List (List ℕ)) (copy : List ℕ)
    → Wakes (awake_in all names) (awake_in all (names ++ copy ∷ []))
noted_wakes true names copy d on = refl
noted_wakes false names copy d on = list_any-append (λ n. bytes_eq n d) names (copy ∷ []) ∙ rw on refl
