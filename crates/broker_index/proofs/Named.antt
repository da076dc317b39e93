-- Queues by name, in slots to which a map leads.
use Rattle.std.proofs.Common.{◌≡◌, ◌≢◌, ℕ, ◌+◌, zero, suc, true, false, List, [], ◌∷◌, map, get_or, set, Option, Some}
use Rattle.std.proofs.Common.{None, cond, count_by, is_some, length}
use Rattle.std.proofs.Common.{refl, sym, ap, ◌∙◌, inl, inr, arith}
use Rattle.std.specs.Prelude.{◌⊎◌, String, Result, Ok, Err, OnOk}
use Rattle.std.specs.Cmp.Lexicographic.{slice_cmp}
use Rattle.std.specs.Ordering.{nat_cmp}
use Rattle.std.specs.Map.{lookup}
use Rattle.std.specs.Str.{bytes_eq}
use Rattle.std.specs.BTreeMap.{BTreeMap, get_by_text, UpdatesBy}
use Rattle.std.specs.String.{string_bytes, string_cmp}
use Rattle.std.proofs.lemmas.Bool.{cases_Bool, cases_eq, cond-true, cond-false, false_from_ne_true, true≢false}
use Rattle.std.proofs.lemmas.List.Sums.{sum_by-cons}
use Rattle.std.proofs.lemmas.Map.Text.{btree_map_updates_text}
use Rattle.std.proofs.lemmas.Slice.Eq.{bytes_eq-Decides}
use Rattle.std.specs.Option.{option_map, option_and_then}
use Rattle.slab.specs.Slab.{Slab, Updates, entries_from, get, with_value}
use Rattle.slab.proofs.SlabLemmas.{Updates-with_value}
use Rattle.broker_index.specs.Index.{Sets, Queue, is_idle, queue_at, unless_idle, opened}
use Rattle.broker_index.specs.Named.{AreFound, AreLed, IsIndexed, queues_in}
use Rattle.broker_index.specs.declared.destinations.Destination.{Destination}

-- nothing is set where the value stays
pub Sets-same : {K X : Type 0} (values : K → X) (k : K) (x : X) → values k ≡ x → Sets values values k x
Sets-same values k x same = record { at = same; others = λ other differs. refl }

-- the value may be said otherwise
pub Sets-like : {K X : Type 0} (old new : K → X) (k : K) (x y : X) → Sets old new k x → x ≡ y → Sets old new k y
Sets-like old new k x y sets same = record { at = sets.at ∙ same; others = sets.others }

-- of two changes at one key the later one counts
pub Sets-again : {K X : Type 0} (a b c : K → X) (k : K) (x y : X) → Sets a b k x → Sets b c k y → Sets a c k y
Sets-again a b c k x y first later = record {
  at = later.at;
  others = λ other differs. later.others other differs ∙ first.others other differs;
}

-- a queue changes, and goes if it is idle then
pub Sets-taken : {K : Type 0} (a b c : K → Option Queue) (k : K) (f : Queue → Queue) (g : Queue → Option Queue)
    → ((q : Queue) → unless_idle (f q) ≡ g q) → Sets a b k (option_map f (a k))
    → Sets b c k (option_and_then unless_idle (b k)) → Sets a c k (option_and_then g (a k))
Sets-taken a b c k f g same p q = record {
  at = q.at ∙ ap (λ o. option_and_then unless_idle o) p.at ∙ by_queue (a k);
  others = λ other differs. q.others other differs ∙ p.others other differs;
}
  where
    by_queue : (o : Option Queue) → option_and_then unless_idle (option_map f o) ≡ option_and_then g o
    by_queue None = refl
    by_queue (Some x) = same x

-- ---- a name among slots

module _ (name : List ℕ) where
  -- none of these slots has it
  abbrev pub HasNone : List (Option Destination) → Type 0
  HasNone slots = (key : ℕ) (d : Destination) → get_or slots key None ≡ Some d → d.name ≢ name

  -- one has it
  pub record IsNamed (slots : List (Option Destination)) : Type 0 where
    pub key : ℕ
    pub destination : Destination
    pub at : get_or slots key None ≡ Some destination
    pub named : destination.name ≡ name

  same_name : (x : Destination) → x.name ≡ name → bytes_eq name x.name ≡ true
  same_name x same = (bytes_eq-Decides name x.name).1 (sym same)

  other_name : (x : Destination) → x.name ≢ name → bytes_eq name x.name ≡ false
  other_name x differs =
      false_from_ne_true (bytes_eq name x.name) (λ h. differs (sym ((bytes_eq-Decides name x.name).0 h)))

  -- its queue is found, where no other slot has it
  found_in : (slots : List (Option Destination)) (key : ℕ) (d : Destination) → get_or slots key None ≡ Some d
      → d.name ≡ name
      → ((k : ℕ) (e : Destination) → get_or slots k None ≡ Some e → e.name ≡ name → k ≡ key)
      → lookup (bytes_eq name) (queues_in slots) ≡ Some d.queue
  found_in [] key d at same only = absurd (cc)
  found_in (None ∷ slots) zero d at same only = absurd (cc)
  found_in (None ∷ slots) (suc key) d at same only =
      found_in slots key d at same (λ k e there is. omega (arith, only (suc k) e there is))
  found_in (Some x ∷ slots) zero d at same only =
      let e : x ≡ d = cc in
      cond-true (bytes_eq name x.name) (Some x.queue) (lookup (bytes_eq name) (queues_in slots))
      (same_name x (ap (λ (y : Destination). y.name) e ∙ same))
      ∙ ap (λ (y : Destination). Some y.queue) e
  found_in (Some x ∷ slots) (suc key) d at same only =
      elim (cases_Bool (bytes_eq name x.name)) [
        | inl on ↦ absurd (omega (arith, only 0 x refl (sym ((bytes_eq-Decides name x.name).0 on))))
        | inr off ↦
            cond-false (bytes_eq name x.name) (Some x.queue) (lookup (bytes_eq name) (queues_in slots)) off
            ∙ found_in slots key d at same (λ k e there is. omega (arith, only (suc k) e there is))
      ]

  -- none is found, where none has it
  pub none_in : (slots : List (Option Destination)) → HasNone slots → lookup (bytes_eq name) (queues_in slots) ≡ None
  none_in [] none = refl
  none_in (None ∷ slots) none = none_in slots (λ key. none (suc key))
  none_in (Some x ∷ slots) none =
      cond-false (bytes_eq name x.name) (Some x.queue) (lookup (bytes_eq name) (queues_in slots))
      (other_name x (none 0 x refl))
      ∙ none_in slots (λ key. none (suc key))

  behind : (o : Option Destination) (slots : List (Option Destination))
      → ((d : Destination) → o ≡ Some d → d.name ≢ name) → HasNone slots
      → HasNone (o ∷ slots)
  behind o slots first rest zero d there = first d there
  behind o slots first rest (suc key) d there = rest key d there

  further : (o : Option Destination) (slots : List (Option Destination)) → IsNamed slots → IsNamed (o ∷ slots)
  further o slots it = record { key = suc it.key; destination = it.destination; at = it.at; named = it.named }

  pub some_or_none : (slots : List (Option Destination)) → IsNamed slots ⊎ HasNone slots
  some_or_none [] = inr (λ key d there. absurd (let never : None ≡ Some d = there in cc))
  some_or_none (None ∷ slots) = elim (some_or_none slots) [
    | inl it ↦ inl (further None slots it)
    | inr none ↦ inr (behind None slots (λ d never. absurd (cc)) none)
  ]
  some_or_none (Some x ∷ slots) = elim (cases_Bool (bytes_eq name x.name)) [
    | inl on ↦ inl (record { key = 0; destination = x; at = refl; named = sym ((bytes_eq-Decides name x.name).0 on) })
    | inr off ↦ elim (some_or_none slots) [
      | inl it ↦ inl (further (Some x) slots it)
      | inr none ↦ inr (behind (Some x) slots (λ d is. first d is off) none)
    ]
  ]
    where
      first : (d : Destination) → Some x ≡ Some d → bytes_eq name x.name ≡ false → d.name ≢ name
      first d is off same =
          let e : x ≡ d = cc in
          true≢false (sym (same_name x (ap (λ (y : Destination). y.name) e ∙ same)) ∙ off)

-- ---- a name in a slab

module _ {Y : Type 0} (slab : Slab Destination) (keys : BTreeMap (String Y) ℕ) (found : AreFound slab.slots keys)
    (name : List ℕ) where
  -- one slot has it at most
  only_one : (key k : ℕ) (d e : Destination) → get slab key ≡ Some d → d.name ≡ name → get slab k ≡ Some e
      → e.name ≡ name → k ≡ key
  only_one key k d e at same there is =
      let both : Some k ≡ Some key =
      sym (found k e there) ∙ ap (λ n. get_by_text keys n) (is ∙ sym same) ∙ found key d at in cc

  pub queue_there : (key : ℕ) (d : Destination) → get slab key ≡ Some d → d.name ≡ name
      → queue_at (queues_in slab.slots) name ≡ Some d.queue
  queue_there key d at same =
      found_in name slab.slots key d at same (λ k e there is. only_one key k d e at same there is)

  -- no slot has it, where no queue is found
  pub absent : queue_at (queues_in slab.slots) name ≡ None → HasNone name slab.slots
  absent none = elim (some_or_none name slab.slots) [
    | inl it ↦ let never : None ≡ Some it.destination.queue =
        sym none ∙ queue_there it.key it.destination it.at it.named in absurd (cc)
    | inr all ↦ all
  ]

  -- nor where the map leads nowhere
  pub misled : get_by_text keys name ≡ None → HasNone name slab.slots
  misled nowhere key d there same =
      let never : None ≡ Some key = sym nowhere ∙ ap (λ n. get_by_text keys n) (sym same) ∙ found key d there in
      absurd (cc)

-- ---- one slot changes

module _ {Y Z : Type 0} (old new : Slab Destination) (keys : BTreeMap (String Y) ℕ) (later : BTreeMap (String Z) ℕ)
    (was : AreFound old.slots keys) (is : AreFound new.slots later) (key : ℕ) (slot : Option Destination)
    (u : Updates old new key slot)
    (name : List ℕ) (before : (d : Destination) → get old key ≡ Some d → d.name ≡ name)
    (after : (d : Destination) → slot ≡ Some d → d.name ≡ name) where
  others_stay : (other : List ℕ) → other ≢ name
      → queue_at (queues_in new.slots) other ≡ queue_at (queues_in old.slots) other
  others_stay other differs = elim (some_or_none other old.slots) [
    | inl it ↦
        let apart : it.key ≢ key =
        λ same. differs (sym it.named ∙ before it.destination (ap (get old) (sym same) ∙ it.at)) in
        queue_there new later is other it.key it.destination (u.others it.key apart ∙ it.at) it.named
        ∙ sym (queue_there old keys was other it.key it.destination it.at it.named)
    | inr none ↦ none_in other new.slots (still none) ∙ sym (none_in other old.slots none)
  ]
    where
      still : HasNone other old.slots → HasNone other new.slots
      still none k d there named = elim (cases_eq k key) [
        | inl same ↦ differs (sym named ∙ after d (sym u.changed ∙ ap (get new) (sym same) ∙ there))
        | inr apart ↦ none k d (sym (u.others k apart) ∙ there) named
      ]

  -- the queue of its name alone has changed
  pub Sets-updated : (w : Option Queue) → queue_at (queues_in new.slots) name ≡ w
      → Sets (queue_at (queues_in old.slots)) (queue_at (queues_in new.slots)) name w
  Sets-updated w at = record { at = at; others = others_stay }

module _ {Y : Type 0} (slab : Slab Destination) (keys : BTreeMap (String Y) ℕ) (found : AreFound slab.slots keys)
    (key : ℕ)
    (d : Destination) (at : get slab key ≡ Some d) (w : Queue) where
  -- the slab with another queue under the same name
  abbrev changed : Slab Destination
  changed = with_value slab key (record d { queue = w })

  updated : Updates slab changed key (Some (record d { queue = w }))
  updated = Updates-with_value slab key (record d { queue = w }) (rw at refl)

  -- names still lead to their slots
  pub still_found : AreFound (set slab.slots key (Some (record d { queue = w }))) keys
  still_found k e there = elim (cases_eq k key) [
    | inl same ↦
        let both : Some (record d { queue = w }) ≡ Some e = sym updated.changed ∙ ap (get changed) (sym same) ∙ there in
        let is : record d { queue = w } ≡ e = cc in
        ap (λ n. get_by_text keys n) (sym (ap (λ (x : Destination). x.name) is)) ∙ found key d at
        ∙ ap (λ n. Some n) (sym same)
    | inr apart ↦ found k e (sym (updated.others k apart) ∙ there)
  ]

  pub still_led : AreLed slab.slots keys → AreLed (set slab.slots key (Some (record d { queue = w }))) keys
  still_led led name k leads =
      let was = led name k leads in
      elim (cases_eq k key) [
        | inl same ↦
            let both : Some was.0 ≡ Some d = sym was.1 ∙ ap (get slab) same ∙ at in
            let is : was.0 ≡ d = cc in (
              record d { queue = w },
              ap (get changed) same ∙ updated.changed,
              ap (λ (x : Destination). x.name) (sym is) ∙ was.2,
            )
        | inr apart ↦ (was.0, updated.others k apart ∙ was.1, was.2)
      ]

  pub still_indexed : AreLed slab.slots keys → IsIndexed (set slab.slots key (Some (record d { queue = w }))) keys
  still_indexed led = record { found = still_found; led = still_led led }

  -- the slot still has the name
  pub still_there : (name : List ℕ) → d.name ≡ name
      → (e : Destination) × (get changed key ≡ Some e) × (e.name ≡ name)
  still_there name same = (record d { queue = w }, updated.changed, same)

  -- the queue of this name is another
  pub Sets-changed : (name : List ℕ) (f : Queue → Queue) → d.name ≡ name → w ≡ f d.queue
      → Sets (queue_at (queues_in slab.slots)) (queue_at (queues_in (set slab.slots key
      (Some (record d { queue = w }))))) name
      (option_map f (queue_at (queues_in slab.slots) name))
  Sets-changed name f same written =
      Sets-updated slab changed keys keys found still_found key (Some (record d { queue = w })) updated name before
      after
      (option_map f (queue_at (queues_in slab.slots) name))
      (queue_there changed keys still_found name key (record d { queue = w }) updated.changed same
      ∙ ap (λ q. Some q) written ∙ ap (λ o. option_map f o) (sym (queue_there slab keys found name key d at same)))
    where
      before : (e : Destination) → get slab key ≡ Some e → e.name ≡ name
      before e there =
          let both : Some d ≡ Some e = sym at ∙ there in
          let is : d ≡ e = cc in
          ap (λ (x : Destination). x.name) (sym is) ∙ same

      after : (e : Destination) → Some (record d { queue = w }) ≡ Some e → e.name ≡ name
      after e there =
          let is : record d { queue = w } ≡ e = cc in
          ap (λ (x : Destination). x.name) (sym is) ∙ same

-- where none has the name, nothing changes
pub Sets-absent : (slab : Slab Destination) (name : List ℕ) (f : Queue → Queue) → HasNone name slab.slots
    → Sets (queue_at (queues_in slab.slots)) (queue_at (queues_in slab.slots)) name
    (option_map f (queue_at (queues_in slab.slots) name))
Sets-absent slab name f none =
    let is : queue_at (queues_in slab.slots) name ≡ None = none_in name slab.slots none in
    Sets-same (queue_at (queues_in slab.slots)) name (option_map f (queue_at (queues_in slab.slots) name))
    (is ∙ sym (ap (λ o. option_map f o) is))

-- nor is a message taken
pub Sets-none_taken : (slab : Slab Destination) (name : List ℕ) (g : Queue → Option Queue) → HasNone name slab.slots
    → Sets (queue_at (queues_in slab.slots)) (queue_at (queues_in slab.slots)) name
    (option_and_then g (queue_at (queues_in slab.slots) name))
Sets-none_taken slab name g none =
    let is : queue_at (queues_in slab.slots) name ≡ None = none_in name slab.slots none in
    Sets-same (queue_at (queues_in slab.slots)) name (option_and_then g (queue_at (queues_in slab.slots) name))
    (is ∙ sym (ap (λ o. option_and_then g o) is))

-- ---- a queue comes or goes

same_or_other : (n m : List ℕ) → (n ≡ m) ⊎ (n ≢ m)
same_or_other n m = elim (cases_Bool (bytes_eq n m)) [
  | inl on ↦ inl ((bytes_eq-Decides n m).0 on)
  | inr off ↦ inr (λ same. true≢false (sym ((bytes_eq-Decides n m).1 same) ∙ off))
]

module _ {Y : Type 0} (bs : List ℕ) (keys now : BTreeMap (String Y) ℕ) (w : Option ℕ)
    (updates : UpdatesBy string_cmp (λ k. slice_cmp nat_cmp bs (string_bytes k)) keys now w) where
  pub leads_there : get_by_text now bs ≡ w
  leads_there = btree_map_updates_text bs keys now w updates bs
      ∙ cond-true (bytes_eq bs bs) w (get_by_text keys bs) ((bytes_eq-Decides bs bs).1 refl)

  pub leads_still : (other : List ℕ) → other ≢ bs → get_by_text now other ≡ get_by_text keys other
  leads_still other differs = btree_map_updates_text bs keys now w updates other
      ∙ cond-false (bytes_eq bs other) w (get_by_text keys other) (false_from_ne_true (bytes_eq bs other)
      (λ h. differs (sym ((bytes_eq-Decides bs other).0 h))))

module _ {Y : Type 0} (slab new : Slab Destination) (keys now : BTreeMap (String Y) ℕ)
    (found : AreFound slab.slots keys) (key : ℕ)
    (name : List ℕ) where
  -- one comes under a new name
  pub added_found : (d : Destination) → Updates slab new key (Some d) → d.name ≡ name → HasNone name slab.slots
      → get_by_text now name ≡ Some key
      → ((other : List ℕ) → other ≢ name → get_by_text now other ≡ get_by_text keys other)
      → AreFound new.slots now
  added_found d u same none there others k e at = elim (cases_eq k key) [
    | inl here ↦
        let both : Some d ≡ Some e = sym u.changed ∙ ap (get new) (sym here) ∙ at in
        let is : d ≡ e = cc in
        ap (λ n. get_by_text now n) (ap (λ (x : Destination). x.name) (sym is) ∙ same) ∙ there
        ∙ ap (λ n. Some n) (sym here)
    | inr apart ↦
        let was : get slab k ≡ Some e = sym (u.others k apart) ∙ at in
        others e.name (none k e was) ∙ found k e was
  ]

  pub added_led : (d : Destination) → Updates slab new key (Some d) → d.name ≡ name → get slab key ≡ None
      → AreLed slab.slots keys
      → get_by_text now name ≡ Some key
      → ((other : List ℕ) → other ≢ name → get_by_text now other ≡ get_by_text keys other)
      → AreLed new.slots now
  added_led d u same vacant led there others n k leads = elim (same_or_other n name) [
    | inl is ↦
        let both : Some key ≡ Some k = sym there ∙ ap (λ m. get_by_text now m) (sym is) ∙ leads in
        let here : k ≡ key = cc in
        (d, ap (get new) here ∙ u.changed, same ∙ sym is)
    | inr differs ↦
        let was = led n k (sym (others n differs) ∙ leads) in
        (was.0, u.others k (λ here. vacant_none was.0 (sym vacant ∙ ap (get slab) (sym here) ∙ was.1)) ∙ was.1, was.2)
  ]
    where
      vacant_none : (e : Destination) → None ≡ Some e → ⊥
      vacant_none e never = let no : None ≡ Some e = never in cc

  pub Sets-added : (d : Destination) → Updates slab new key (Some d) → d.name ≡ name → HasNone name slab.slots
      → get slab key ≡ None
      → AreFound new.slots now → d.queue ≡ opened None
      → Sets (queue_at (queues_in slab.slots)) (queue_at (queues_in new.slots)) name
      (Some (opened (queue_at (queues_in slab.slots) name)))
  Sets-added d u same none vacant is empty =
      Sets-updated slab new keys now found is key (Some d) u name before after
      (Some (opened (queue_at (queues_in slab.slots) name)))
      (queue_there new now is name key d u.changed same ∙ ap (λ q. Some q) empty
      ∙ ap (λ o. Some (opened o)) (sym (none_in name slab.slots none)))
    where
      before : (e : Destination) → get slab key ≡ Some e → e.name ≡ name
      before e there = let never : None ≡ Some e = sym vacant ∙ there in cc

      after : (e : Destination) → Some d ≡ Some e → e.name ≡ name
      after e there =
          let is : d ≡ e = cc in
          ap (λ (x : Destination). x.name) (sym is) ∙ same

  module _ (d : Destination) (at : get slab key ≡ Some d) (same : d.name ≡ name) (u : Updates slab new key None) where
    -- one goes
    pub removed_found : ((other : List ℕ) → other ≢ name → get_by_text now other ≡ get_by_text keys other)
        → AreFound new.slots now
    removed_found others k e there = elim (cases_eq k key) [
      | inl here ↦ let never : None ≡ Some e = sym u.changed ∙ ap (get new) (sym here) ∙ there in cc
      | inr apart ↦
          let was : get slab k ≡ Some e = sym (u.others k apart) ∙ there in
          others e.name (λ is. apart (only_one slab keys found name key k d e at same was is)) ∙ found k e was
    ]

    pub removed_led : AreLed slab.slots keys → get_by_text now name ≡ None
        → ((other : List ℕ) → other ≢ name → get_by_text now other ≡ get_by_text keys other) → AreLed new.slots now
    removed_led led gone others n k leads = elim (same_or_other n name) [
      | inl is ↦ let never : None ≡ Some k = sym gone ∙ ap (λ m. get_by_text now m) (sym is) ∙ leads in cc
      | inr differs ↦
          let was = led n k (sym (others n differs) ∙ leads) in (
            was.0,
            u.others k (λ here. differs (sym was.2 ∙ own was.0 (sym at ∙ ap (get slab) (sym here) ∙ was.1)))
                ∙ was.1,
            was.2,
          )
    ]
      where
        own : (e : Destination) → Some d ≡ Some e → e.name ≡ name
        own e both =
            let it : d ≡ e = cc in
            ap (λ (x : Destination). x.name) (sym it) ∙ same

    -- it was idle
    pub Sets-removed : is_idle d.queue ≡ true → AreFound new.slots now
        → Sets (queue_at (queues_in slab.slots)) (queue_at (queues_in new.slots)) name
        (option_and_then unless_idle (queue_at (queues_in slab.slots) name))
    Sets-removed idle is =
        Sets-updated slab new keys now found is key None u name before (λ e never.
        (let no : None ≡ Some e = never in cc))
        (option_and_then unless_idle (queue_at (queues_in slab.slots) name))
        (none_in name new.slots gone
        ∙ sym (ap (λ o. option_and_then unless_idle o) (queue_there slab keys found name key d at same)
        ∙ cond-true (is_idle d.queue) None (Some d.queue) idle))
      where
        before : (e : Destination) → get slab key ≡ Some e → e.name ≡ name
        before e there =
            let both : Some d ≡ Some e = sym at ∙ there in
            let it : d ≡ e = cc in
            ap (λ (x : Destination). x.name) (sym it) ∙ same

        gone : HasNone name new.slots
        gone k e there named = elim (cases_eq k key) [
          | inl here ↦ let never : None ≡ Some e = sym u.changed ∙ ap (get new) (sym here) ∙ there in cc
          | inr apart ↦ apart (only_one slab keys found name key k d e at same (sym (u.others k apart) ∙ there) named)
        ]

-- it stays, where it isn't idle
pub Sets-busy : {Y : Type 0} (slab : Slab Destination) (keys : BTreeMap (String Y) ℕ) → AreFound slab.slots keys
    → (key : ℕ)
    (name : List ℕ) (d : Destination) → get slab key ≡ Some d → d.name ≡ name → is_idle d.queue ≡ false
    → Sets (queue_at (queues_in slab.slots)) (queue_at (queues_in slab.slots)) name
    (option_and_then unless_idle (queue_at (queues_in slab.slots) name))
Sets-busy slab keys found key name d at same busy =
    let is : queue_at (queues_in slab.slots) name ≡ Some d.queue = queue_there slab keys found name key d at same in
    Sets-same (queue_at (queues_in slab.slots)) name (option_and_then unless_idle
    (queue_at (queues_in slab.slots) name))
    (is ∙ sym (ap (λ o. option_and_then unless_idle o) is ∙ cond-false (is_idle d.queue) None (Some d.queue) busy))

-- and so does nothing
pub Sets-nothing : (slab : Slab Destination) (name : List ℕ) → HasNone name slab.slots
    → Sets (queue_at (queues_in slab.slots)) (queue_at (queues_in slab.slots)) name
    (option_and_then unless_idle (queue_at (queues_in slab.slots) name))
Sets-nothing slab name none =
    let is : queue_at (queues_in slab.slots) name ≡ None = none_in name slab.slots none in
    Sets-same (queue_at (queues_in slab.slots)) name (option_and_then unless_idle
    (queue_at (queues_in slab.slots) name))
    (is ∙ sym (ap (λ o. option_and_then unless_idle o) is))

-- what is open stays
pub Sets-open : {Y : Type 0} (slab : Slab Destination) (keys : BTreeMap (String Y) ℕ) → AreFound slab.slots keys
    → (key : ℕ)
    (name : List ℕ) (d : Destination) → get slab key ≡ Some d → d.name ≡ name
    → Sets (queue_at (queues_in slab.slots)) (queue_at (queues_in slab.slots)) name
    (Some (opened (queue_at (queues_in slab.slots) name)))
Sets-open slab keys found key name d at same =
    let is : queue_at (queues_in slab.slots) name ≡ Some d.queue = queue_there slab keys found name key d at same in
    Sets-same (queue_at (queues_in slab.slots)) name (Some (opened (queue_at (queues_in slab.slots) name)))
    (is ∙ sym (ap (λ o. Some (opened o)) is))

-- ---- names

-- the names in the slab are the names of the queues
pub names_of : (first : ℕ) (slots : List (Option Destination))
    → map (λ (p : ℕ × Destination). p.1.name) (entries_from first slots) ≡ map (λ e. e.0) (queues_in slots)
names_of first [] = refl
names_of first (None ∷ slots) = names_of (first + 1) slots
names_of first (Some d ∷ slots) = ap (λ l. d.name ∷ l) (names_of (first + 1) slots)

-- as many names as there are values
pub names_length : (slots : List (Option Destination)) → length (queues_in slots) ≡ count_by is_some slots
names_length [] = refl
names_length (None ∷ slots) =
    omega (arith, names_length slots, sum_by-cons (λ (o : Option Destination). cond (is_some o) 1 0) None slots)
names_length (Some d ∷ slots) =
    omega (arith, names_length slots, sum_by-cons (λ (o : Option Destination). cond (is_some o) 1 0) (Some d) slots)

-- where it went well, more is so
pub on_ok : {T E : Type 0} {P Q : Type 0} (r : Result T E) → OnOk r P → (P → Q) → OnOk r Q
on_ok (Ok x) h more = more h
on_ok (Err e) h more = h
