-- What is known of each entity after the entries changed at one.
use Rattle.std.proofs.Common.{◌≡◌, ℕ, Bool, true, false, cond, List, length, ◌<◌, Option, Some, None, refl, sym}
use Rattle.std.proofs.Common.{◌∙◌, subst, ◌⊎◌, inl, inr, Result, Ok, Err, OnOk, OnErr, String, Global}
use Rattle.std.proofs.lemmas.Bool.{true≢false, false_from_ne_true}
use Rattle.std.proofs.lemmas.Slice.Eq.{bytes_eq-Decides}
use Rattle.std.specs.Cmp.Lexicographic.{nat_list_eq_equiv}
use Rattle.std.specs.Option.{IsSome}
use Rattle.std.specs.String.{string_bytes, string_eq, string_eq_equiv}
use Rattle.std.specs.List.{IsDistinct}
use Rattle.std.specs.Map.{keys_of, lookup, remove_entry, set_value, AreApart}
use Rattle.lru.specs.LruCache.{LruCache, lru_cache, promoted, put_entries}
use Rattle.lru.proofs.CallerLemmas.{lookup-put_entries}
use Rattle.base.specs.Entity.{Entity, text_of}
use Rattle.base.specs.Order.{same_entity}
use Rattle.base.proofs.Entities.{same_entity-Decides, text_of-injective}
use Rattle.std.proofs.lemmas.Map.Text.{is_text}
use Rattle.last_states.proofs.Lookups.{lookup-promoted-same, lookup-promoted-apart}
use Rattle.last_states.proofs.Lookups.{lookup-set_value-same, lookup-set_value-apart, lookup-remove_entry-same}
use Rattle.last_states.proofs.Lookups.{lookup-remove_entry-apart, lookup-put_entries-apart, lookup-put_entries-room}

-- the tests of two texts pass no key both
texts_apart : (a b : Entity) → same_entity a b ≡ false → AreApart (is_text {Y = Global} (text_of a)) (is_text (text_of b))
texts_apart a b h k p = false_from_ne_true (is_text (text_of b) k) (λ q.
    let x : text_of a ≡ string_bytes k = (bytes_eq-Decides (text_of a) (string_bytes k)).0 p in
    let y : text_of b ≡ string_bytes k = (bytes_eq-Decides (text_of b) (string_bytes k)).0 q in
    true≢false (sym ((same_entity-Decides a b).1 (text_of-injective a b (x ∙ sym y))) ∙ h))

-- of two entities each is the other, or they are apart
cases : (P : Bool → Type 0) (a b : Entity) → (a ≡ b → P true) → (same_entity a b ≡ false → P false) → P (same_entity a b)
cases P a b f g = (elim (same_entity a b) as (λ y. same_entity a b ≡ y → P y) [
  | true ↦ λ t. f ((same_entity-Decides a b).0 t)
  | false ↦ g
]) refl

module _ {S : Type 0} where
  abbrev at : Entity → List (String Global × S) → Option S
  at e entries = lookup (is_text (text_of e)) entries

module _ {S : Type 0} (es : List (String Global × S)) (entity : Entity) where
  abbrev test : String Global → Bool
  test = is_text (text_of entity)

  pub is_known : {text : List ℕ} → text ≡ text_of entity → (v : S) → Some v ≡ lookup (is_text text) es
      → IsSome (at entity es)
  is_known same v h = subst (λ t. IsSome (lookup (is_text t) es)) same (subst IsSome h refl)

  pub is_unknown : {text : List ℕ} → text ≡ text_of entity → None ≡ lookup (is_text text) es → at entity es ≡ None
  is_unknown same h = subst (λ t. lookup (is_text t) es ≡ None) same (sym h)

  pub known-promoted : (e : Entity) → at e (promoted test es) ≡ at e es
  known-promoted e = cases (λ _. at e (promoted test es) ≡ at e es) entity e
      (λ same. subst (λ x. at x (promoted test es) ≡ at x es) same (lookup-promoted-same test es))
      (λ other. lookup-promoted-apart test (is_text (text_of e)) (texts_apart entity e other) es)

  pub known-removed : IsDistinct string_eq (keys_of es) → (e : Entity)
      → at e (remove_entry test es) ≡ cond (same_entity entity e) None (at e es)
  known-removed distinct e = cases (λ b. at e (remove_entry test es) ≡ cond b None (at e es)) entity e
      (λ same. subst (λ x. at x (remove_entry test es) ≡ None) same (lookup-remove_entry-same string_eq test
      (λ x y. nat_list_eq_equiv.congr (text_of entity) (string_bytes x) (string_bytes y)) es distinct))
      (λ other. lookup-remove_entry-apart test (is_text (text_of e)) (texts_apart entity e other) es)

  pub known-replaced-here : (w : S) → IsSome (at entity es) → at entity (set_value test (promoted test es) w) ≡ Some w
  known-replaced-here w some =
      lookup-set_value-same test (promoted test es) w (subst IsSome (sym (lookup-promoted-same test es)) some)

  -- the state of a known entity is replaced
  pub known-replaced : (w : S) → IsSome (at entity es) → (e : Entity)
      → at e (set_value test (promoted test es) w) ≡ cond (same_entity entity e) (Some w) (at e es)
  known-replaced w some e = cases (λ b. at e (set_value test (promoted test es) w) ≡ cond b (Some w) (at e es)) entity e
      (λ same. subst (λ x. at x (set_value test (promoted test es) w) ≡ Some w) same (known-replaced-here w some))
      (λ other. lookup-set_value-apart test (is_text (text_of e)) (texts_apart entity e other) (promoted test es) w
      ∙ known-promoted e)

  -- what is known of e in these entries, where the entity has a new state or none
  abbrev IsRemembered : S → List (String Global × S) → Entity → S → Type 0
  IsRemembered w new e s = at e new ≡ Some s
      → ((same_entity entity e ≡ true) × (s ≡ w)) ⊎ ((same_entity entity e ≡ false) × (at e es ≡ Some s))

  pub remembered-replaced : (w : S) → IsSome (at entity es) → (e : Entity) (s : S)
      → IsRemembered w (set_value test (promoted test es) w) e s
  remembered-replaced w some e s is = let new = sym (known-replaced w some e) ∙ is in
      (elim (same_entity entity e) as (λ y. same_entity entity e ≡ y
      → ((y ≡ true) × (s ≡ w)) ⊎ ((y ≡ false) × (at e es ≡ Some s))) [
        | true ↦ λ t. let it = rw t at new in inl (refl, cc)
        | false ↦ λ t. inr (refl, rw t at new)
      ]) refl

  pub remembered-not : (w : S) → at entity es ≡ None → (e : Entity) (s : S) → IsRemembered w es e s
  remembered-not w none e s is =
      cases (λ b. ((b ≡ true) × (s ≡ w)) ⊎ ((b ≡ false) × (at e es ≡ Some s))) entity e
      (λ same. let it : None ≡ Some s = sym none ∙ (subst (λ x. at x es ≡ Some s) (sym same) is) in absurd cc)
      (λ other. inr (refl, is))

-- a pair is put whose key is the entity's text
module _ {S : Type 0} (old : LruCache (String Global) S) (entity : Entity) (key : String Global)
    (is_key : string_bytes key ≡ text_of entity) (w : S) where
  abbrev put : List (String Global × S)
  put = put_entries string_eq old key w

  put_apart : (e : Entity) → same_entity entity e ≡ false → (s : S) → at e put ≡ Some s → at e old.entries ≡ Some s
  put_apart e other s is =
      let apart = subst (λ (t : List ℕ). AreApart (is_text {Y = Global} t) (is_text (text_of e))) (sym is_key)
      (texts_apart entity e other) in
      lookup-put_entries-apart string_eq old key w (is_text (text_of e)) apart (apart key (string_eq_equiv.refl key)) s is

  put_room : length old.entries < old.cap → (e : Entity) → same_entity entity e ≡ false → at e put ≡ at e old.entries
  put_room room e other =
      let apart = subst (λ (t : List ℕ). AreApart (is_text {Y = Global} t) (is_text (text_of e))) (sym is_key)
      (texts_apart entity e other) in
      lookup-put_entries-room string_eq old key w (is_text (text_of e)) apart (apart key (string_eq_equiv.refl key)) room

  put_same : at entity put ≡ Some w
  put_same = subst (λ (t : List ℕ). lookup (is_text t) put ≡ Some w) is_key
      (lookup-put_entries string_eq old key w string_eq_equiv)

  remembered_put : (e : Entity) (s : S) → IsRemembered old.entries entity w put e s
  remembered_put e s is = cases (λ b. ((b ≡ true) × (s ≡ w)) ⊎ ((b ≡ false) × (at e old.entries ≡ Some s))) entity e
      (λ same. let it : Some w ≡ Some s = sym (subst (λ x. at x put ≡ Some w) same put_same) ∙ is in inl (refl, cc))
      (λ other. inr (refl, put_apart e other s is))

  module _ {R E : Type 0} (new : LruCache (String Global) S) (none : at entity old.entries ≡ None) where
    pub remembered-put : (r : Result R E) → OnOk r (new ≡ lru_cache put old.cap) → OnErr r (new ≡ old) → (e : Entity)
        (s : S) → IsRemembered old.entries entity w new.entries e s
    remembered-put (Ok x) ok err e s = rw ok (remembered_put e s)
    remembered-put (Err x) ok err e s = rw err (remembered-not old.entries entity w none e s)

    pub room-put : (r : Result R E) → OnOk r (new ≡ lru_cache put old.cap) → OnErr r (new ≡ old)
        → length old.entries < old.cap → (e : Entity) → same_entity entity e ≡ false
        → at e new.entries ≡ at e old.entries
    room-put (Ok x) ok err room e other = rw ok (put_room room e other)
    room-put (Err x) ok err room e other = rw err refl
