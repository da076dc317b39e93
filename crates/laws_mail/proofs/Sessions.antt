-- What holds of the session of each number, once one was changed.
use Rattle.std.proofs.Common.{◌≡◌, ℕ, Bool, true, false, Option, Some, None, refl, sym, ap, ◌∙◌, subst}
use Rattle.std.specs.Prelude.{◌==◌, List}
use Rattle.std.specs.List.{find}
use Rattle.std.proofs.lemmas.Bool.{eqb-true}
use Rattle.broker_core.specs.Serving.{is_session, with_session}
use Rattle.broker_core.specs.declared.session.Session.{Session}
use Rattle.broker_core.proofs.Left.{find_with}
use Rattle.laws_broker.proofs.Sessions.{Keeps, none_changed, other_found}

-- what holds of the session of each number, and of each number that none has
pub record EachAt (P : ℕ → Session → Type 0) (N : ℕ → Type 0) (ss : List Session) : Type 0 where
  pub found : (n : ℕ) (s : Session) → find (is_session n) ss ≡ Some s → P n s
  pub none : (n : ℕ) → find (is_session n) ss ≡ None → N n

pub same_some : (o : Option Session) (x y : Session) → o ≡ Some x → o ≡ Some y → x ≡ y
same_some o x y p q = cc

module _ (P : ℕ → Session → Type 0) (n : ℕ) (f : Session → Session) (ss : List Session) where
  -- what is found at the number of the change is what was found, changed
  here : (t : Session) (o : Option Session) → find (is_session n) ss ≡ o → Keeps n f ss
      → ((s : Session) → find (is_session n) ss ≡ Some s → P n (f s))
      → find (is_session n) (with_session n f ss) ≡ Some t → P n t
  here t None e keeps news h =
      let z : None ≡ Some t = sym e ∙ ap (find (is_session n)) (sym (none_changed n f ss e)) ∙ h in absurd cc
  here t (Some s) e keeps news h =
      let z : Some (f s) ≡ Some t = sym (find_with n f ss s (keeps s e) e) ∙ h in
      let k : f s ≡ t = cc in subst (P n) k (news s e)

  there : (m : ℕ) (t : Session) (b : Bool) → (n == m) ≡ b → Keeps n f ss
      → ((s : Session) → find (is_session n) ss ≡ Some s → P n (f s))
      → ((n == m) ≡ false → find (is_session m) ss ≡ Some t → P m t)
      → find (is_session m) (with_session n f ss) ≡ Some t → P m t
  there m t true e keeps news others h =
      let z : n ≡ m = eqb-true n m e in
      subst (λ k. P k t) z (here t (find (is_session n) ss) refl keeps news
      (ap (λ k. find (is_session k) (with_session n f ss)) z ∙ h))
  there m t false e keeps news others h = others e (sym (other_found n m f ss e keeps) ∙ h)

  -- the changed one, and the others
  pub found_changed : (m : ℕ) (t : Session) → Keeps n f ss
      → ((s : Session) → find (is_session n) ss ≡ Some s → P n (f s))
      → ((n == m) ≡ false → find (is_session m) ss ≡ Some t → P m t)
      → find (is_session m) (with_session n f ss) ≡ Some t → P m t
  found_changed m t keeps news others h = there m t (n == m) refl keeps news others h

module _ (n : ℕ) (f : Session → Session) (ss : List Session) where
  none_here : (o : Option Session) → find (is_session n) ss ≡ o → Keeps n f ss
      → find (is_session n) (with_session n f ss) ≡ None
      → find (is_session n) ss ≡ None
  none_here None e keeps h = e
  none_here (Some s) e keeps h = let z : Some (f s) ≡ None = sym (find_with n f ss s (keeps s e) e) ∙ h in absurd cc

  none_there : (m : ℕ) (b : Bool) → (n == m) ≡ b → Keeps n f ss → find (is_session m) (with_session n f ss) ≡ None
      → find (is_session m) ss ≡ None
  none_there m true e keeps h =
      let z : n ≡ m = eqb-true n m e in
      subst (λ k. find (is_session k) ss ≡ None) z
      (none_here (find (is_session n) ss) refl keeps (ap (λ k. find (is_session k) (with_session n f ss)) z ∙ h))
  none_there m false e keeps h = sym (other_found n m f ss e keeps) ∙ h

  -- where none is found behind a change, none was found before it
  pub none_before : (m : ℕ) → Keeps n f ss → find (is_session m) (with_session n f ss) ≡ None
      → find (is_session m) ss ≡ None
  none_before m keeps h = none_there m (n == m) refl keeps h

-- the same holds once one was changed
pub each_changed : (P : ℕ → Session → Type 0) (N : ℕ → Type 0) (n : ℕ) (f : Session → Session) (ss : List Session)
    → Keeps n f ss
    → EachAt P N ss → ((s : Session) → find (is_session n) ss ≡ Some s → P n (f s)) → EachAt P N (with_session n f ss)
each_changed P N n f ss keeps h news = record {
  found = λ m t e. found_changed P n f ss m t keeps news (λ _ k. h.found m t k) e;
  none = λ m e. h.none m (none_before n f ss m keeps e);
}
