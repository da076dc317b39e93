-- The destinations that are awake are looked at, one after another.
use Rattle.std.proofs.Common.{◌≡◌, ◌≤◌, ◌<◌, ◌+◌, ℕ, suc, Bool, true, false, ◌||◌, List, [], ◌∷◌, ◌++◌, length, get_or}
use Rattle.std.proofs.Common.{take, drop}
use Rattle.std.proofs.Common.{map, Option, Some, None, refl, sym, ap, ◌∙◌, add-one, arith, inl, inr}
use Rattle.std.specs.Prelude.{nat_le, remove, ◌⊎◌}
use Rattle.std.specs.List.{list_any}
use Rattle.std.specs.Str.{bytes_eq}
use Rattle.std.proofs.lemmas.Bool.{cases_Bool, leb-true, le-leb, leb-false}
use Rattle.std.proofs.lemmas.List.{take_at, length-take-le, drop_more, take_all, take-append-drop, length-append}
use Rattle.std.proofs.lemmas.List.{length-drop}
use Rattle.std.proofs.lemmas.List.Folds.{list_any-append, list_any_more}
use Rattle.broker_index.specs.Index.{Kept, Subscriber, Queue, queue_at}
use Rattle.broker_queues.specs.declared.deals.Pick.{Pick}
use Rattle.broker_queues.specs.Parts.Choosing.{Rests, IsDueAt, MayGo, Looked, Covers, IsPick, IsNext, is_at_most}
use Rattle.broker_queues.specs.Parts.Choosing.{earlier}
use Rattle.broker_queues.specs.Parts.Queues.{awake_in}
use Rattle.broker_queues.specs.Parts.Facts.{lists, queue_of, AreAwake}
use Rattle.broker_queues.specs.Parts.Whole.{Holding, IsSound}
use Rattle.broker_queues.proofs.Moving.{moved}
use Rattle.broker_queues.proofs.Subscribing.{itself, same_texts}

-- ---- the parts rest

pub rests_same : (h : Holding) → IsSound h → Rests h h
rests_same h is = record { sound = is; kept = refl; subscribers = refl; last = refl; given = refl }

pub rests_on : (h i j : Holding) → Rests h i → Rests i j → Rests h j
rests_on h i j r s = record {
  sound = s.sound;
  kept = s.kept ∙ r.kept;
  subscribers = s.subscribers ∙ r.subscribers;
  last = s.last ∙ r.last;
  given = s.given ∙ r.given;
}

-- ---- picks

module _ (kept : List Kept) (subscribers : List Subscriber) (given : ℕ) where
  pub earlier_can : (best : Option Pick) (p : Pick) → IsPick kept subscribers given best
      → IsPick kept subscribers given (Some p)
      → IsPick kept subscribers given (Some (earlier best p))
  earlier_can None p one two = two
  earlier_can (Some b) p one two = elim (cases_Bool (nat_le b.message.number p.message.number)) [
    | inl on ↦ rw on one
    | inr off ↦ rw off two
  ]

  at_most_best : (best : Option Pick) (p : Pick) (n : ℕ) → is_at_most best n ≡ true
      → is_at_most (Some (earlier best p)) n ≡ true
  at_most_best None p n on = let never : false ≡ true = on in cc
  at_most_best (Some b) p n on = elim (cases_Bool (nat_le b.message.number p.message.number)) [
    | inl first ↦ rw first on
    | inr off ↦ rw off (le-leb p.message.number n
        (omega (arith, leb-false b.message.number p.message.number off, leb-true b.message.number n on)))
  ]

  at_most_it : (best : Option Pick) (p : Pick) (n : ℕ) → is_at_most (Some p) n ≡ true
      → is_at_most (Some (earlier best p)) n ≡ true
  at_most_it None p n on = on
  at_most_it (Some b) p n on = elim (cases_Bool (nat_le b.message.number p.message.number)) [
    | inl first ↦ rw first (le-leb b.message.number n
        (omega (arith, leb-true b.message.number p.message.number first, leb-true p.message.number n on)))
    | inr off ↦ rw off on
  ]

  -- the destinations among the first few of these are covered
  abbrev pub CoversFirst : ℕ → List (List ℕ) → Option Pick → Type 0
  CoversFirst index names best = (d : List ℕ) → list_any (λ n. bytes_eq n d) (take index names) ≡ true
      → Covers kept subscribers given d best

  pub covers_none : (names : List (List ℕ)) (best : Option Pick) → CoversFirst 0 names best
  covers_none names best d among = let never : false ≡ true = among in cc

  -- the next is as well
  pub covers_next : (index : ℕ) (names : List (List ℕ)) (best : Option Pick) → index < length names
      → CoversFirst index names best
      → Covers kept subscribers given (get_or names index []) best → CoversFirst (index + 1) names best
  covers_next index names best short before it d among =
      let split : (list_any (λ n. bytes_eq n d) (take index names) || bytes_eq (get_or names index []) d) ≡ true =
      sym (list_any_more (λ n. bytes_eq n d) names index [] short) ∙ among in
      elim (cases_Bool (list_any (λ n. bytes_eq n d) (take index names))) [
        | inl on ↦ before d on
        | inr off ↦
            let last : bytes_eq (get_or names index []) d ≡ true = rw off at split in
            let same : get_or names index [] ≡ d = same_texts (get_or names index []) d last in
            rw (← same) it
      ]

  -- a pick was found there
  pub covers_found : (index : ℕ) (names : List (List ℕ)) (best : Option Pick) (p : Pick) → index < length names
      → CoversFirst index names best → Covers kept subscribers given (get_or names index []) (Some p)
      → CoversFirst (index + 1) names (Some (earlier best p))
  covers_found index names best p short before it =
      covers_next index names (Some (earlier best p)) short (λ d among n due. at_most_best best p n
      (before d among n due))
      (λ n due. at_most_it best p n (it n due))

  -- none was, and its name goes
  pub covers_left : (index : ℕ) (names : List (List ℕ)) (best : Option Pick) → index < length names
      → CoversFirst index names best
      → CoversFirst index (remove names index) best
  covers_left index names best short before d among =
      let front : take index (take index names ++ drop (suc index) names) ≡ take index names =
      take_at (take index names) (drop (suc index) names) index (length-take-le index names (omega arith)) in
      let among2 : list_any (λ n. bytes_eq n d) (take index names) ≡ true = rw front at among in
      before d among2

-- what is due stays due where no message and no subscriber changed
pub covers_still : (h i : Holding) (d : List ℕ) (best : Option Pick) → Rests h i
    → Covers i.kept i.subscribers i.given d best
    → Covers h.kept h.subscribers h.given d best
covers_still h i d best r covers = rw (← r.kept, ← r.subscribers, ← r.given) covers

pub can_still : (h i : Holding) (best : Option Pick) → Rests h i → IsPick i.kept i.subscribers i.given best
    → IsPick h.kept h.subscribers h.given best
can_still h i best r can = rw (← r.kept, ← r.subscribers, ← r.given) can

-- nothing is ready at a destination before where its queue looks for one
pub behind_covers : (h : Holding) → IsSound h → (d : List ℕ) (best : Option Pick)
    → is_at_most best (queue_of h.queues d).ready_from ≡ true
    → Covers h.kept h.subscribers h.given d best
behind_covers h is d best on n due = by_best best on
  where
    ahead : (queue_of h.queues d).ready_from ≤ n
    ahead = rw (← due.for_it) (is.ahead n due.message due.there due.ready)

    by_best : (b : Option Pick) → is_at_most b (queue_of h.queues d).ready_from ≡ true → is_at_most b n ≡ true
    by_best None on = let never : false ≡ true = on in cc
    by_best (Some p) on =
        le-leb p.message.number n (omega (arith, leb-true p.message.number (queue_of h.queues d).ready_from on, ahead))

-- ---- a destination sleeps

-- a name that is among names is the one that goes, or among the others
left_or : (names : List (List ℕ)) (index : ℕ) (d : List ℕ) → index < length names
    → list_any (λ n. bytes_eq n d) names ≡ true
    → (get_or names index [] ≡ d) ⊎ (list_any (λ n. bytes_eq n d) (remove names index) ≡ true)
left_or names index d short among =
    let whole : names ≡ take index names ++ get_or names index [] ∷ drop (index + 1) names =
    sym (take-append-drop index names) ∙ ap (λ l. take index names ++ l) (drop_more names index [] short) in
    let split : (list_any (λ n. bytes_eq n d) (take index names)
    || (bytes_eq (get_or names index []) d || list_any (λ n. bytes_eq n d) (drop (index + 1) names))) ≡ true =
    sym (list_any-append (λ n. bytes_eq n d) (take index names) (get_or names index [] ∷ drop (index + 1) names))
    ∙ ap (λ l. list_any (λ n. bytes_eq n d) l) (sym whole) ∙ among in
    let rest : list_any (λ n. bytes_eq n d) (remove names index)
    ≡ (list_any (λ n. bytes_eq n d) (take index names) || list_any (λ n. bytes_eq n d) (drop (index + 1) names)) =
    list_any-append (λ n. bytes_eq n d) (take index names) (drop (suc index) names) ∙ rw add-one refl in
    elim (cases_Bool (bytes_eq (get_or names index []) d)) [
      | inl on ↦ inl (same_texts (get_or names index []) d on)
      | inr off ↦ let both = rw off at split in inr (rest ∙ both)
    ]

module _ (h : Holding) (is : IsSound h) (all : Bool) (names : List (List ℕ)) (index : ℕ) (short : index < length names)
    (awake : h.awake ≡ awake_in all names) (covers : Covers h.kept h.subscribers h.given (get_or names index []) None)
  where
    still_awake : AreAwake h.given h.kept h.subscribers (awake_in all (remove names index))
    still_awake n k a s there ready sits same may =
        let was : awake_in all names k.sent.destination ≡ true =
        ap (λ (f : List ℕ → Bool). f k.sent.destination) (sym awake) ∙ is.awake n k a s there ready sits same may in
        by_all all was
      where
        due : (get_or names index [] ≡ k.sent.destination)
            → IsDueAt h.kept h.subscribers h.given (get_or names index []) n
        due it = record {
          message = k;
          there = there;
          ready = ready;
          for_it = sym it;
          age = a;
          subscriber = s;
          sits = sits;
          same = same;
          may = may;
        }

        by_all : (b : Bool) → awake_in b names k.sent.destination ≡ true
            → awake_in b (remove names index) k.sent.destination ≡ true
        by_all true on = refl
        by_all false on = elim (left_or names index k.sent.destination short on) [
          | inl it ↦ let never : false ≡ true = covers n (due it) in cc
          | inr rest ↦ rest
        ]

    pub slept : Rests h (record h { awake = awake_in all (remove names index) })
    slept = record {
      sound = moved h (record h { awake = awake_in all (remove names index) }) is (record {
        kept = refl;
        subscribers = refl;
        sessions = refl;
        last = refl;
        given = refl;
        numbers = λ d. refl;
        listeners = λ d. refl;
        count = λ d. refl;
        ahead = is.ahead;
        takers = is.takers;
        awake = still_awake;
      });
      kept = refl;
      subscribers = refl;
      last = refl;
      given = refl;
    }

-- ---- all are named

named_there : (qs : List (List ℕ × Queue)) (d : List ℕ) (n : ℕ) → lists n (queue_of (queue_at qs) d).numbers ≡ true
    → list_any (λ x. bytes_eq x d) (map (λ e. e.0) qs) ≡ true
named_there [] d n listed = let never : false ≡ true = listed in cc
named_there (e ∷ qs) d n listed = elim (cases_Bool (bytes_eq d e.0)) [
  | inl on ↦ rw (same_texts d e.0 on, itself e.0) refl
  | inr off ↦
      let rest : lists n (queue_of (queue_at qs) d).numbers ≡ true = rw off at listed in
      elim (cases_Bool (bytes_eq e.0 d)) [ inl here ↦ rw here refl | inr there ↦ rw there (named_there qs d n rest) ]
]

-- to name all destinations as awake leaves the book as it is
pub roused : (h : Holding) → IsSound h → (qs : List (List ℕ × Queue)) (names : List (List ℕ)) → h.queues ≡ queue_at qs
    → names ≡ map (λ e. e.0) qs → Rests h (record h { awake = awake_in false names })
roused h is qs names queues all = record {
  sound = moved h (record h { awake = awake_in false names }) is (record {
    kept = refl;
    subscribers = refl;
    sessions = refl;
    last = refl;
    given = refl;
    numbers = λ d. refl;
    listeners = λ d. refl;
    count = λ d. refl;
    ahead = is.ahead;
    takers = is.takers;
    awake = λ n k a s there ready sits same may. rw all (named_there qs k.sent.destination n
        (ap (λ (f : List ℕ → Option Queue). lists n (queue_of f k.sent.destination).numbers) (sym queues)
        ∙ is.placed n k there));
  });
  kept = refl;
  subscribers = refl;
  last = refl;
  given = refl;
}

-- ---- at the end

-- what the look at the first few found
pub record Choosing (h i : Holding) (index : ℕ) (names : List (List ℕ)) (best : Option Pick) : Type 0 where
  pub rests : Rests h i
  pub within : index ≤ length names
  pub can : IsPick h.kept h.subscribers h.given best
  pub covers : CoversFirst h.kept h.subscribers h.given index names best

-- before the first
pub chooses_none : (h : Holding) (names : List (List ℕ)) → IsSound h → Choosing h h 0 names None
chooses_none h names is = record {
  rests = rests_same h is;
  within = omega arith;
  can = tt;
  covers = covers_none h.kept h.subscribers h.given names None;
}

module _ (h i : Holding) (index : ℕ) (names : List (List ℕ)) (best : Option Pick) (c : Choosing h i index names best)
    (short : index < length names) where
  -- the next can have nothing before the best
  pub chooses_behind : is_at_most best (queue_of i.queues (get_or names index [])).ready_from ≡ true
      → Choosing h i (index + 1) names best
  chooses_behind on = record {
    rests = c.rests;
    within = omega (arith, short);
    can = c.can;
    covers = covers_next h.kept h.subscribers h.given index names best short c.covers
        (covers_still h i (get_or names index []) best c.rests (behind_covers i c.rests.sound (get_or names index [])
        best on));
  }

  -- a deal can be made there
  pub chooses_found : (j : Holding) (p e : Pick) → Looked i (get_or names index []) j (Some p) → e ≡ earlier best p
      → Choosing h j (index + 1) names (Some e)
  chooses_found j p e l is = rw is (record {
    rests = rests_on h i j c.rests l.rests;
    within = omega (arith, short);
    can = earlier_can h.kept h.subscribers h.given best p c.can (can_still h i (Some p) c.rests l.can);
    covers = covers_found h.kept h.subscribers h.given index names best p short c.covers
        (covers_still h i (get_or names index []) (Some p) c.rests l.covers);
  })

  -- none can
  pub chooses_left : (j : Holding) (all all2 : Bool) (names2 : List (List ℕ)) → Looked i (get_or names index []) j None
      → j.awake ≡ awake_in all names → all2 ≡ all → names2 ≡ remove names index
      → Choosing h (record j { awake = awake_in all2 names2 }) index names2 best
  chooses_left j all all2 names2 l awake same fewer =
      let covers : Covers j.kept j.subscribers j.given (get_or names index []) None =
      rw (l.rests.kept, l.rests.subscribers, l.rests.given) l.covers in
      rw (same, fewer) (record {
        rests = rests_on h j (record j { awake = awake_in all (remove names index) }) (rests_on h i j c.rests l.rests)
            (slept j l.rests.sound all names index short awake covers);
        within = omega (
          arith,
          short,
          length-append (take index names) (drop (suc index) names),
          length-take-le index names (omega (arith, short)),
          length-drop (suc index) names,
        );
        can = c.can;
        covers = covers_left h.kept h.subscribers h.given index names best short c.covers;
      })

-- once all awake destinations were looked at, the best pick is the next deal
pub chosen : (h i : Holding) (index : ℕ) (names : List (List ℕ)) (best : Option Pick) → Choosing h i index names best
    → i.awake ≡ awake_in false names → length names ≤ index → IsNext i best
chosen h i index names best c awake end = by_best best c.can covers
  where
    covers : (d : List ℕ) (n : ℕ) → IsDueAt h.kept h.subscribers h.given d n → is_at_most best n ≡ true
    covers d n due =
        let all : take index names ≡ names = take_all index names end in
        let due2 : IsDueAt i.kept i.subscribers i.given d n =
        rw (c.rests.kept, c.rests.subscribers, c.rests.given) due in
        let on : i.awake due2.message.sent.destination ≡ true =
        c.rests.sound.awake n due2.message due2.age due2.subscriber due2.there due2.ready due2.sits due2.same due2.may
        in
        let named : list_any (λ x. bytes_eq x due2.message.sent.destination) names ≡ true = rw awake at on in
        c.covers d (rw (all, ← due2.for_it) named) n due

    by_best : (b : Option Pick) → IsPick h.kept h.subscribers h.given b
        → ((d : List ℕ) (n : ℕ) → IsDueAt h.kept h.subscribers h.given d n → is_at_most b n ≡ true) → IsNext i b
    by_best None can all = λ d n due. (let never : false ≡ true =
        all d n (rw (← c.rests.kept, ← c.rests.subscribers, ← c.rests.given) due) in cc)
    by_best (Some p) can all =
        let go : MayGo i.kept i.subscribers i.given p.message.number p.taker.number =
        rw (c.rests.kept, c.rests.subscribers, c.rests.given) can in (
          go.message,
          go.subscriber,
          record {
            there = go.there;
            ready = go.ready;
            sits = go.sits;
            same = go.same;
            may = go.may;
            oldest = go.oldest;
            first = λ m l b t there ready sits same may.
                let due : IsDueAt i.kept i.subscribers i.given l.sent.destination m =
                record {
                  message = l;
                  there = there;
                  ready = ready;
                  for_it = refl;
                  age = b;
                  subscriber = t;
                  sits = sits;
                  same = same;
                  may = may;
                } in
                leb-true p.message.number m (all l.sent.destination m (rw
                (← c.rests.kept, ← c.rests.subscribers, ← c.rests.given) due));
          },
        )
