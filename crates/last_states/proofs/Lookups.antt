-- Look-ups by one test of the keys in entries that were changed at another.
use Rattle.std.proofs.Common.{◌≡◌, ℕ, zero, suc, ◌-◌, Bool, true, false, cond, List, [], ◌∷◌, take, length, ◌<◌}
use Rattle.std.proofs.Common.{arith, Option, Some, None, refl, sym, ap, ◌∙◌}
use Rattle.std.proofs.lemmas.Bool.{false≢true}
use Rattle.std.proofs.lemmas.List.{take_all}
use Rattle.std.proofs.lemmas.Map.{NonePasses, lookup-none}
use Rattle.std.proofs.lemmas.Map.Keys.{IsDistinct-head, IsDistinct-tail}
use Rattle.std.specs.Option.{option_map_or, IsSome}
use Rattle.std.specs.List.{IsDistinct, AllByRecursion}
use Rattle.std.specs.Map.{keys_of, lookup, lookup_entry, remove_entry, set_value, IsKeyTest, AreApart}
use Rattle.lru.specs.LruCache.{LruCache, promoted, put_entries}

module _ {K X : Type 0} where
  -- the entry that a look-up finds has a key that passes, and the value that is found
  pub found : (p : K → Bool) (es : List (K × X)) (f : K × X) → lookup_entry p es ≡ Some f
      → (p f.0 ≡ true) × (lookup p es ≡ Some f.1)
  found p [] f h = absurd cc
  found p (e ∷ es) f h = (elim (p e.0) as (λ y. p e.0 ≡ y → (p f.0 ≡ true) × (lookup p (e ∷ es) ≡ Some f.1)) [
    | true ↦ λ t. let h' = rw t at h in let same : e ≡ f = cc in
        (ap (λ (g : K × X). p g.0) (sym same) ∙ t, rw t (ap (λ (g : K × X). Some g.1) same))
    | false ↦ λ t. rw t (found p es f (rw t at h))
  ]) refl

  pub not_found : (p : K → Bool) (es : List (K × X)) → lookup_entry p es ≡ None → lookup p es ≡ None
  not_found p [] h = refl
  not_found p (e ∷ es) h = (elim (p e.0) as (λ y. p e.0 ≡ y → lookup p (e ∷ es) ≡ None) [
    | true ↦ λ t. let h' = rw t at h in absurd cc
    | false ↦ λ t. rw t (not_found p es (rw t at h))
  ]) refl

  promoted_found : (p : K → Bool) (es : List (K × X)) (o : Option (K × X)) → lookup_entry p es ≡ o
      → lookup p (option_map_or (λ f. f ∷ remove_entry p es) o es) ≡ lookup p es
  promoted_found p es None h = refl
  promoted_found p es (Some f) h = let is = found p es f h in rw is.0 (sym is.1)

  -- the value that was found is found first
  pub lookup-promoted-same : (p : K → Bool) (es : List (K × X)) → lookup p (promoted p es) ≡ lookup p es
  lookup-promoted-same p es = promoted_found p es (lookup_entry p es) refl

  pub lookup-set_value-same : (p : K → Bool) (es : List (K × X)) (w : X) → IsSome (lookup p es)
      → lookup p (set_value p es w) ≡ Some w
  lookup-set_value-same p [] w h = absurd (false≢true h)
  lookup-set_value-same p (e ∷ es) w h =
      (elim (p e.0) as (λ y. p e.0 ≡ y → lookup p (set_value p (e ∷ es) w) ≡ Some w) [
        | true ↦ λ t. rw t (rw t refl)
        | false ↦ λ t. rw t (rw t (lookup-set_value-same p es w (rw t at h)))
      ]) refl

  -- one entry more or less in front, where its key doesn't pass
  past : (q : K → Bool) (k : K) (v : X) (es : List (K × X)) → q k ≡ false → lookup q ((k, v) ∷ es) ≡ lookup q es
  past q k v es h = rw h refl

  module _ (p q : K → Bool) (apart : AreApart p q) where
    pub lookup-remove_entry-apart : (es : List (K × X)) → lookup q (remove_entry p es) ≡ lookup q es
    lookup-remove_entry-apart [] = refl
    lookup-remove_entry-apart (e ∷ es) =
        (elim (p e.0) as (λ y. p e.0 ≡ y → lookup q (remove_entry p (e ∷ es)) ≡ lookup q (e ∷ es)) [
          | true ↦ λ t. rw t (rw (apart e.0 t) refl)
          | false ↦ λ t. rw t (ap (cond (q e.0) (Some e.1)) (lookup-remove_entry-apart es))
        ]) refl

    promoted_apart : (es : List (K × X)) (o : Option (K × X)) → lookup_entry p es ≡ o
        → lookup q (option_map_or (λ f. f ∷ remove_entry p es) o es) ≡ lookup q es
    promoted_apart es None h = refl
    promoted_apart es (Some f) h =
        past q f.0 f.1 (remove_entry p es) (apart f.0 (found p es f h).0) ∙ lookup-remove_entry-apart es

    pub lookup-promoted-apart : (es : List (K × X)) → lookup q (promoted p es) ≡ lookup q es
    lookup-promoted-apart es = promoted_apart es (lookup_entry p es) refl

    pub lookup-set_value-apart : (es : List (K × X)) (w : X) → lookup q (set_value p es w) ≡ lookup q es
    lookup-set_value-apart [] w = refl
    lookup-set_value-apart (e ∷ es) w =
        (elim (p e.0) as (λ y. p e.0 ≡ y → lookup q (set_value p (e ∷ es) w) ≡ lookup q (e ∷ es)) [
          | true ↦ λ t. rw t (rw (apart e.0 t) refl)
          | false ↦ λ t. rw t (ap (cond (q e.0) (Some e.1)) (lookup-set_value-apart es w))
        ]) refl

  -- what is found in front is found in the whole
  pub lookup-take : (q : K → Bool) (n : ℕ) (es : List (K × X)) (v : X) → lookup q (take n es) ≡ Some v
      → lookup q es ≡ Some v
  lookup-take q zero es v h = absurd cc
  lookup-take q (suc n) [] v h = absurd cc
  lookup-take q (suc n) (e ∷ es) v h = (elim (q e.0) as (λ y. q e.0 ≡ y → lookup q (e ∷ es) ≡ Some v) [
    | true ↦ λ t. rw t (rw t at h)
    | false ↦ λ t. rw t (lookup-take q n es v (rw t at h))
  ]) refl

  none_alike : (eq : K → K → Bool) (p : K → Bool) → IsKeyTest eq p → (k : K) → p k ≡ true → (es : List (K × X))
      → AllByRecursion (λ j. eq k j ≡ false) (keys_of es) → NonePasses p es
  none_alike eq p one k t [] h = tt
  none_alike eq p one k t (e ∷ es) h = (one k e.0 t ∙ h.0, none_alike eq p one k t es h.1)

  -- where no two keys are alike, the entry that was removed is found no more
  pub lookup-remove_entry-same : (eq : K → K → Bool) (p : K → Bool) → IsKeyTest eq p → (es : List (K × X))
      → IsDistinct eq (keys_of es) → lookup p (remove_entry p es) ≡ None
  lookup-remove_entry-same eq p one [] d = refl
  lookup-remove_entry-same eq p one (e ∷ es) d =
      (elim (p e.0) as (λ y. p e.0 ≡ y → lookup p (remove_entry p (e ∷ es)) ≡ None) [
        | true ↦ λ t. rw t (lookup-none p es (none_alike eq p one e.0 t es (IsDistinct-head eq e.0 (keys_of es) d)))
        | false ↦ λ t. rw t (rw t (lookup-remove_entry-same eq p one es (IsDistinct-tail eq e.0 (keys_of es) d)))
      ]) refl

  module _ (eq : K → K → Bool) (c : LruCache K X) (k : K) (v : X) (q : K → Bool) (apart : AreApart (eq k) q)
      (itself : q k ≡ false) where
    abbrev after : Option (K × X) → List (K × X)
    after o = option_map_or (λ e. (e.0, v) ∷ remove_entry (eq k) c.entries) o ((k, v) ∷ take (c.cap - 1) c.entries)

    put_apart : (s : X) (o : Option (K × X)) → lookup_entry (eq k) c.entries ≡ o → lookup q (after o) ≡ Some s
        → lookup q c.entries ≡ Some s
    put_apart s None h is =
        lookup-take q (c.cap - 1) c.entries s (sym (past q k v (take (c.cap - 1) c.entries) itself) ∙ is)
    put_apart s (Some f) h is =
        sym (past q f.0 v (remove_entry (eq k) c.entries) (apart f.0 (found (eq k) c.entries f h).0)
        ∙ lookup-remove_entry-apart (eq k) q apart c.entries)
        ∙ is

    -- what another test finds after a pair was put was there before
    pub lookup-put_entries-apart : (s : X) → lookup q (put_entries eq c k v) ≡ Some s → lookup q c.entries ≡ Some s
    lookup-put_entries-apart s = put_apart s (lookup_entry (eq k) c.entries) refl

    put_room : length c.entries < c.cap → (o : Option (K × X)) → lookup_entry (eq k) c.entries ≡ o
        → lookup q (after o) ≡ lookup q c.entries
    put_room room None is =
        past q k v (take (c.cap - 1) c.entries) itself
        ∙ ap (lookup q) (take_all (c.cap - 1) c.entries (omega arith))
    put_room room (Some f) is =
        past q f.0 v (remove_entry (eq k) c.entries) (apart f.0 (found (eq k) c.entries f is).0)
        ∙ lookup-remove_entry-apart (eq k) q apart c.entries

    -- where there was room it is all found still
    pub lookup-put_entries-room : length c.entries < c.cap → lookup q (put_entries eq c k v) ≡ lookup q c.entries
    lookup-put_entries-room room = put_room room (lookup_entry (eq k) c.entries) refl
