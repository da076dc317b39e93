-- The order of the entities after the entries changed at one.
use Rattle.std.proofs.Common.{◌≡◌, ℕ, zero, suc, ◌-◌, Bool, true, false, cond, List, [], ◌∷◌, take, map, Option, Some, None}
use Rattle.std.proofs.Common.{refl, sym, ap, ◌∙◌, subst, ◌⊎◌, inl, inr, Result, Ok, Err, OnOk, OnErr, String, Global}
use Rattle.std.proofs.lemmas.Slice.Eq.{bytes_eq-Decides}
use Rattle.std.specs.Option.{IsSome, is_some, option_map_or}
use Rattle.std.specs.String.{string_bytes, string_eq}
use Rattle.std.specs.Map.{lookup, lookup_entry, remove_entry, set_value}
use Rattle.std.proofs.lemmas.Map.Text.{is_text}
use Rattle.lru.specs.LruCache.{LruCache, lru_cache, promoted, put_entries}
use Rattle.last_states.proofs.Lookups.{found, not_found}
use Rattle.last_states.specs.Known.{without}

module _ {S : Type 0} where
  abbrev texts : List (String Global × S) → List (List ℕ)
  texts = map (λ entry. string_bytes entry.0)

  texts-take : (n : ℕ) (es : List (String Global × S)) → texts (take n es) ≡ take n (texts es)
  texts-take zero es = refl
  texts-take (suc n) [] = refl
  texts-take (suc n) (e ∷ es) = ap (λ ts. string_bytes e.0 ∷ ts) (texts-take n es)

  texts-set_value : (p : String Global → Bool) (es : List (String Global × S)) (w : S)
      → texts (set_value p es w) ≡ texts es
  texts-set_value p [] w = refl
  texts-set_value p (e ∷ es) w = (elim (p e.0) as (λ y. p e.0 ≡ y → texts (set_value p (e ∷ es) w) ≡ texts (e ∷ es)) [
    | true ↦ λ t. rw t refl
    | false ↦ λ t. rw t (ap (λ ts. string_bytes e.0 ∷ ts) (texts-set_value p es w))
  ]) refl

  -- the entry of a text is removed
  pub texts-removed : (text : List ℕ) (es : List (String Global × S))
      → texts (remove_entry (is_text text) es) ≡ without text (texts es)
  texts-removed text [] = refl
  texts-removed text (e ∷ es) = (elim (is_text text e.0) as (λ y. is_text text e.0 ≡ y
      → texts (remove_entry (is_text text) (e ∷ es)) ≡ without text (texts (e ∷ es))) [
        | true ↦ λ t. rw t refl
        | false ↦ λ t. rw t (ap (λ ts. string_bytes e.0 ∷ ts) (texts-removed text es))
      ]) refl

  module _ (text : List ℕ) (es : List (String Global × S)) where
    promoted_texts : (o : Option (String Global × S)) → lookup_entry (is_text text) es ≡ o
        → texts (option_map_or (λ f. f ∷ remove_entry (is_text text) es) o es)
        ≡ cond (is_some (lookup (is_text text) es)) (text ∷ without text (texts es)) (texts es)
    promoted_texts None h = rw (not_found (is_text text) es h) refl
    promoted_texts (Some f) h = let is = found (is_text text) es f h in
        rw is.1 (ap (λ t. t ∷ texts (remove_entry (is_text text) es))
        (sym ((bytes_eq-Decides text (string_bytes f.0)).0 is.0))
        ∙ ap (λ ts. text ∷ ts) (texts-removed text es))

    -- the entry of a text goes first, where there is one
    pub texts-promoted : texts (promoted (is_text text) es)
        ≡ cond (is_some (lookup (is_text text) es)) (text ∷ without text (texts es)) (texts es)
    texts-promoted = promoted_texts (lookup_entry (is_text text) es) refl

    -- the same where its state is replaced
    pub texts-replaced : (w : S) → IsSome (lookup (is_text text) es)
        → texts (set_value (is_text text) (promoted (is_text text) es) w) ≡ text ∷ without text (texts es)
    texts-replaced w some =
        texts-set_value (is_text text) (promoted (is_text text) es) w
        ∙ texts-promoted
        ∙ rw some refl

-- a pair is put whose key is a text that there isn't
module _ {S : Type 0} (old : LruCache (String Global) S) (text : List ℕ) (key : String Global)
    (is_key : string_bytes key ≡ text) (w : S) (none : lookup (is_text text) old.entries ≡ None) where
  put_texts : (o : Option (String Global × S)) → lookup_entry (string_eq key) old.entries ≡ o
      → texts (option_map_or (λ f. (f.0, w) ∷ remove_entry (string_eq key) old.entries) o
      ((key, w) ∷ take (old.cap - 1) old.entries)) ≡ text ∷ take (old.cap - 1) (texts old.entries)
  put_texts None h = ap (λ t. t ∷ texts (take (old.cap - 1) old.entries)) is_key
      ∙ ap (λ ts. text ∷ ts) (texts-take (old.cap - 1) old.entries)
  put_texts (Some f) h =
      let is = (found (string_eq key) old.entries f h).1 in
      let it : lookup (is_text text) old.entries ≡ Some f.1 =
      subst (λ (t : List ℕ). lookup (is_text {Y = Global} t) old.entries ≡ Some f.1) is_key is in
      let no : None ≡ Some f.1 = sym none ∙ it in absurd cc

  pub texts-put : {R E : Type 0} (most : ℕ) (new : LruCache (String Global) S) (r : Result R E) → old.cap ≡ most
      → OnOk r (new ≡ lru_cache (put_entries string_eq old key w) old.cap) → OnErr r (new ≡ old)
      → (texts new.entries ≡ texts old.entries) ⊎ (texts new.entries ≡ text ∷ take (most - 1) (texts old.entries))
  texts-put most new (Ok x) cap ok err = inr (rw (sym cap) (rw ok (put_texts (lookup_entry (string_eq key) old.entries) refl)))
  texts-put most new (Err x) cap ok err = inl (rw err refl)
