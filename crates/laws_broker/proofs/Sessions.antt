-- Which session is found once one was changed, added or dropped.
use Rattle.std.proofs.Common.{◌≡◌, ℕ, Bool, true, false, List, [], ◌∷◌, ◌++◌, Option, Some, None, refl, sym, ap, ◌∙◌}
use Rattle.std.specs.Prelude.{◌==◌}
use Rattle.std.specs.List.{find}
use Rattle.std.proofs.lemmas.Bool.{eqb-true, eq-eqb}
use Rattle.broker_core.specs.Calls.{new_session, others}
use Rattle.broker_core.specs.Serving.{is_session, with_session}
use Rattle.broker_core.specs.declared.session.Session.{Session}
use Rattle.broker_core.proofs.Left.{find_with}

-- the session of a number, among these
abbrev pub at : ℕ → List Session → Option Session
at n ss = find (is_session n) ss

-- a change keeps the number of the session that it changes
abbrev pub Keeps : ℕ → (Session → Session) → List Session → Type 0
Keeps n f ss = (s : Session) → at n ss ≡ Some s → (f s).number ≡ s.number

differ : (n m k : ℕ) (P : Type 0) → (k == n) ≡ true → (k == m) ≡ true → (n == m) ≡ false → P
differ n m k P e f d =
    let z : n ≡ m = sym (eqb-true k n e) ∙ eqb-true k m f in
    let y : true ≡ false = sym (eq-eqb n m z) ∙ d in absurd cc

turned_by : (n m : ℕ) (v : Bool) → (m == n) ≡ v → (n == m) ≡ false → v ≡ false
turned_by n m true e d = sym (eq-eqb n m (sym (eqb-true m n e))) ∙ d
turned_by n m false e d = refl

pub turned : (n m : ℕ) → (n == m) ≡ false → (m == n) ≡ false
turned n m d = turned_by n m (m == n) refl d

-- ---- one is changed

other_step : (n m : ℕ) (f : Session → Session) (x : Session) (ss : List Session) (u v : Bool) → is_session n x ≡ u
    → is_session m x ≡ v
    → (n == m) ≡ false → Keeps n f (x ∷ ss) → (Keeps n f ss → at m (with_session n f ss) ≡ at m ss)
    → at m (with_session n f (x ∷ ss)) ≡ at m (x ∷ ss)
other_step n m f x ss true true e k d keeps ih = differ n m x.number _ e k d
other_step n m f x ss true false e k d keeps ih =
    let p : is_session m (f x) ≡ false = ap (λ a. a == m) (keeps x (rw e refl)) ∙ k in rw (e, p, k) refl
other_step n m f x ss false true e k d keeps ih = rw (e, k) refl
other_step n m f x ss false false e k d keeps ih = rw (e, k) (ih (λ s q. keeps s (rw e q)))

-- another one is found as before
pub other_found : (n m : ℕ) (f : Session → Session) (ss : List Session) → (n == m) ≡ false → Keeps n f ss
    → at m (with_session n f ss) ≡ at m ss
other_found n m f [] d keeps = refl
other_found n m f (x ∷ ss) d keeps =
    other_step n m f x ss (is_session n x) (is_session m x) refl refl d keeps (other_found n m f ss d)

none_step : (n : ℕ) (f : Session → Session) (x : Session) (ss : List Session) (b : Bool) → is_session n x ≡ b
    → (at n ss ≡ None → with_session n f ss ≡ ss) → at n (x ∷ ss) ≡ None → with_session n f (x ∷ ss) ≡ x ∷ ss
none_step n f x ss true e ih h = let k : Some x ≡ None = rw e at h in absurd cc
none_step n f x ss false e ih h = rw e (ap (λ l. x ∷ l) (ih (rw e at h)))

-- where there is none, none is changed
pub none_changed : (n : ℕ) (f : Session → Session) (ss : List Session) → at n ss ≡ None → with_session n f ss ≡ ss
none_changed n f [] h = refl
none_changed n f (x ∷ ss) h = none_step n f x ss (is_session n x) refl (none_changed n f ss) h

-- what holds of each session
abbrev pub Each : (Session → Type 0) → List Session → Type 0
Each P ss = (n : ℕ) (s : Session) → at n ss ≡ Some s → P s

each_here : (P : Session → Type 0) (n : ℕ) (f : Session → Session) (ss : List Session) (t : Session)
    (o : Option Session) → at n ss ≡ o
    → Keeps n f ss → ((s : Session) → at n ss ≡ Some s → P (f s)) → at n (with_session n f ss) ≡ Some t → P t
each_here P n f ss t None e keeps news h =
    let z : None ≡ Some t = sym e ∙ ap (at n) (sym (none_changed n f ss e)) ∙ h in absurd cc
each_here P n f ss t (Some s) e keeps news h =
    let z : Some (f s) ≡ Some t = sym (find_with n f ss s (keeps s e) e) ∙ h in
    let k : f s ≡ t = cc in rw (← k) (news s e)

each_step : (P : Session → Type 0) (n m : ℕ) (f : Session → Session) (ss : List Session) (t : Session) (b : Bool)
    → (n == m) ≡ b
    → Keeps n f ss → Each P ss → ((s : Session) → at n ss ≡ Some s → P (f s)) → at m (with_session n f ss) ≡ Some t
    → P t
each_step P n m f ss t true e keeps all news h =
    each_here P n f ss t (at n ss) refl keeps news (ap (λ k. at k (with_session n f ss)) (eqb-true n m e) ∙ h)
each_step P n m f ss t false e keeps all news h = all m t (sym (other_found n m f ss e keeps) ∙ h)

-- it holds of each once one was changed, if it holds of that one
pub each_changed : (P : Session → Type 0) (n : ℕ) (f : Session → Session) (ss : List Session) → Keeps n f ss → Each P ss
    → ((s : Session) → at n ss ≡ Some s → P (f s)) → Each P (with_session n f ss)
each_changed P n f ss keeps all news m t h = each_step P n m f ss t (n == m) refl keeps all news h

-- ---- one is added

new_step : (m : ℕ) (x y : Session) (ss : List Session) (b : Bool) → is_session m y ≡ b
    → (at m ss ≡ None → at m (ss ++ x ∷ []) ≡ at m (x ∷ [])) → at m (y ∷ ss) ≡ None
    → at m ((y ∷ ss) ++ x ∷ []) ≡ at m (x ∷ [])
new_step m x y ss true e ih h = let k : Some y ≡ None = rw e at h in absurd cc
new_step m x y ss false e ih h = rw e (ih (rw e at h))

pub new_found : (m : ℕ) (x : Session) (ss : List Session) → at m ss ≡ None → at m (ss ++ x ∷ []) ≡ at m (x ∷ [])
new_found m x [] h = refl
new_found m x (y ∷ ss) h = new_step m x y ss (is_session m y) refl (new_found m x ss) h

old_step : (m : ℕ) (x y s : Session) (ss : List Session) (b : Bool) → is_session m y ≡ b
    → (at m ss ≡ Some s → at m (ss ++ x ∷ []) ≡ Some s) → at m (y ∷ ss) ≡ Some s → at m ((y ∷ ss) ++ x ∷ []) ≡ Some s
old_step m x y s ss true e ih h = rw e (rw e at h)
old_step m x y s ss false e ih h = rw e (ih (rw e at h))

pub old_found : (m : ℕ) (x s : Session) (ss : List Session) → at m ss ≡ Some s → at m (ss ++ x ∷ []) ≡ Some s
old_found m x s [] h = absurd cc
old_found m x s (y ∷ ss) h = old_step m x y s ss (is_session m y) refl (old_found m x s ss) h

-- a new one leaves those of other numbers
pub new_other : (n k : ℕ) (ss : List Session) (o : Option Session) → at n ss ≡ o → (n == k) ≡ false
    → at n (ss ++ new_session k ∷ []) ≡ at n ss
new_other n k ss None e d = new_found n (new_session k) ss e ∙ rw (turned n k d) refl ∙ sym e
new_other n k ss (Some s) e d = old_found n (new_session k) s ss e ∙ sym e

-- ---- one is dropped

no_step : (n : ℕ) (x : Session) (ss : List Session) (b : Bool) → is_session n x ≡ b → at n (others n ss) ≡ None
    → at n (others n (x ∷ ss)) ≡ None
no_step n x ss true e ih = rw e ih
no_step n x ss false e ih = rw (e, e) ih

pub none_left : (n : ℕ) (ss : List Session) → at n (others n ss) ≡ None
none_left n [] = refl
none_left n (x ∷ ss) = no_step n x ss (is_session n x) refl (none_left n ss)

left_step : (n m : ℕ) (x : Session) (ss : List Session) (u v : Bool) → is_session n x ≡ u → is_session m x ≡ v
    → (n == m) ≡ false
    → at m (others n ss) ≡ at m ss → at m (others n (x ∷ ss)) ≡ at m (x ∷ ss)
left_step n m x ss true true e k d ih = differ n m x.number _ e k d
left_step n m x ss true false e k d ih = rw (e, k) ih
left_step n m x ss false true e k d ih = rw (e, k) refl
left_step n m x ss false false e k d ih = rw (e, k) ih

pub others_left : (n m : ℕ) (ss : List Session) → (n == m) ≡ false → at m (others n ss) ≡ at m ss
others_left n m [] d = refl
others_left n m (x ∷ ss) d = left_step n m x ss (is_session n x) (is_session m x) refl refl d (others_left n m ss d)
