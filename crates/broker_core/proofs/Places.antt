-- A write at the place of a session changes the session of its number.
use Rattle.std.proofs.Common.{◌≡◌, ◌<◌, ℕ, Bool, true, false, cond, List, [], ◌∷◌, Option, Some, None, Result, Ok, Err}
use Rattle.std.proofs.Common.{get_or, length, refl, sym, ap, ◌∙◌}
use Rattle.std.proofs.lemmas.Option.{slice_get-get_or}
use Rattle.std.specs.Prelude.{◌==◌, ◌≢◌, slice_set, IfOk}
use Rattle.std.specs.List.{find, slice_get}
use Rattle.broker_book.specs.Books.{Book}
use Rattle.broker_tx.proofs.Places.{set_at}
use Rattle.broker_tx.specs.First.{IsFirstAt}
use Rattle.broker_core.specs.Feeding.{FeedsNone, at_fault, at_frame, awaits, closed, faulty, in_step, taking}
use Rattle.broker_core.specs.Feeding.{with_incoming, with_waiting}
use Rattle.broker_core.specs.Parts.Taking.{SessionPieceAnswer}
use Rattle.broker_core.specs.Parts.Taking.{BegunAnswer, PartTurn, StepAnswer, before_frame, has_none, left_of}
use Rattle.broker_core.specs.Parts.Taking.{met_fault, untold, waits}
use Rattle.broker_core.specs.Parts.Taking.{was_closed}
use Rattle.broker_core.specs.Serving.{Part, Roster, broker_of, changing, changing_part, in_roster, is_session, part}
use Rattle.broker_core.specs.Serving.{refused, served}
use Rattle.broker_core.specs.Serving.{with_session}
use Rattle.broker_core.specs.declared.fault.FrameRefusal.TheVariants.{BadFrame}
use Rattle.broker_core.specs.declared.session.Session.{Session}
use Rattle.broker_core.proofs.Left.{find_with, served_number}

pub number_if : (b : Bool) (s t : Session) → t.number ≡ s.number → (cond b s t).number ≡ s.number
number_if true s t e = refl
number_if false s t e = e

-- the roster of these items
abbrev pub roster : List Session → ℕ → Roster
roster items opened = record { sessions = items; opened = opened }

same_item : (o : Option Session) (x y : Session) → o ≡ Some x → o ≡ Some y → y ≡ x
same_item o x y p q = cc

-- what an index within the list reads
pub got_at : (ss : List Session) (at : ℕ) (s : Session) → at < length ss → s ≡ get_or ss at s → slice_get ss at ≡ Some s
got_at ss at s h e = slice_get-get_or ss at s h ∙ ap (λ y. Some y) (sym e)

-- what stands at the place of a session is the session of its number
pub found_at : (n : ℕ) (ss : List Session) (at : ℕ) (s : Session) → IsFirstAt (is_session n) ss at
    → slice_get ss at ≡ Some s
    → find (is_session n) ss ≡ Some s
found_at n ss at s h get = h.found ∙ ap (λ y. Some y) (sym (same_item (slice_get ss at) h.item s h.got get))

-- a write at its place
pub written_at : (n : ℕ) (ss news : List Session) (opened at : ℕ) (s : Session) (f : Session → Session)
    → IsFirstAt (is_session n) ss at
    → slice_get ss at ≡ Some s → news ≡ slice_set ss at (f s) → roster news opened ≡ in_roster n f (roster ss opened)
written_at n ss news opened at s f h get set =
    ap (λ l. roster l opened) (set_at (is_session n) ss ss news at s f h refl get set).0

kept_step : (n : ℕ) (x : Session) (ss : List Session) (s : Session) (b : Bool) → is_session n x ≡ b
    → (find (is_session n) ss ≡ Some s → with_session n (λ _. s) ss ≡ ss) → find (is_session n) (x ∷ ss) ≡ Some s
    → with_session n (λ _. s) (x ∷ ss) ≡ x ∷ ss
kept_step n x ss s true e ih h = let k : Some x ≡ Some s = rw e at h in let m : s ≡ x = cc in rw e (ap (λ y. y ∷ ss) m)
kept_step n x ss s false e ih h = rw e (ap (λ l. x ∷ l) (ih (rw e at h)))

-- a session that is put back as it was changes nothing
pub put_same : (n : ℕ) (ss : List Session) (s : Session) → find (is_session n) ss ≡ Some s
    → with_session n (λ _. s) ss ≡ ss
put_same n [] s h = refl
put_same n (x ∷ ss) s h = kept_step n x ss s (is_session n x) refl (put_same n ss s) h

-- what is written back as it was changes nothing
pub same_at : (n : ℕ) (ss news : List Session) (opened at : ℕ) (s t : Session) → IsFirstAt (is_session n) ss at
    → slice_get ss at ≡ Some s → news ≡ slice_set ss at t → t ≡ s → roster news opened ≡ roster ss opened
same_at n ss news opened at s t h get set m =
    let r = set_at (is_session n) ss ss news at s (λ _. s) h refl get (set ∙ ap (λ y. slice_set ss at y) m) in
    ap (λ l. roster l opened) (r.0 ∙ put_same n ss s r.1)

-- the same with the book
same_part : (n : ℕ) (book book2 : Book) (ss news : List Session) (opened at : ℕ) (s t : Session)
    → IsFirstAt (is_session n) ss at
    → slice_get ss at ≡ Some s → news ≡ slice_set ss at t → part book2 t ≡ part book s
    → broker_of book2 (roster news opened) ≡ broker_of book (roster ss opened)
same_part n book book2 ss news opened at s t h get set e =
    ap (λ b. broker_of b (roster news opened)) (ap (λ (p : Part). p.book) e)
    ∙ ap (broker_of book) (same_at n ss news opened at s t h get set (ap (λ (p : Part). p.session) e))

-- a session is changed, and the book isn't
changed_part : (n : ℕ) (f : Session → Session) (book book2 : Book) (ss news : List Session) (opened at : ℕ)
    (s t : Session)
    → IsFirstAt (is_session n) ss at → slice_get ss at ≡ Some s → news ≡ slice_set ss at t
    → part book2 t ≡ part book (f s)
    → broker_of book2 (roster news opened) ≡ changing n f (broker_of book (roster ss opened))
changed_part n f book book2 ss news opened at s t h get set e =
    ap (λ b. broker_of b (roster news opened)) (ap (λ (p : Part). p.book) e)
    ∙ ap (broker_of book) (written_at n ss news opened at s f h get (set
    ∙ ap (λ (p : Part). slice_set ss at p.session) e))

-- ---- a session that is changed twice

twice_step : (n : ℕ) (f g : Session → Session) (x : Session) (ss : List Session) (b : Bool) → is_session n x ≡ b
    → ((y : Session) → (f y).number ≡ y.number)
    → with_session n g (with_session n f ss) ≡ with_session n (λ y. g (f y)) ss
    → with_session n g (with_session n f (x ∷ ss)) ≡ with_session n (λ y. g (f y)) (x ∷ ss)
twice_step n f g x ss true e k ih = let p : is_session n (f x) ≡ true = ap (λ a. a == n) (k x) ∙ e in rw (e, p) refl
twice_step n f g x ss false e k ih = rw (e, e) (ap (λ l. x ∷ l) ih)

twice : (n : ℕ) (f g : Session → Session) (ss : List Session) → ((y : Session) → (f y).number ≡ y.number)
    → with_session n g (with_session n f ss) ≡ with_session n (λ y. g (f y)) ss
twice n f g [] k = refl
twice n f g (x ∷ ss) k = twice_step n f g x ss (is_session n x) refl k (twice n f g ss k)

-- a session is changed, and then with the book
part_twice : (n : ℕ) (change : Part → Part) (f : Session → Session) (book book2 : Book) (ss news : List Session)
    (opened at : ℕ)
    (s t : Session) → ((y : Session) → (f y).number ≡ y.number) → IsFirstAt (is_session n) ss at
    → slice_get ss at ≡ Some s
    → news ≡ slice_set ss at t → part book2 t ≡ change (part book (f s))
    → broker_of book2 (roster news opened)
    ≡ changing_part n change (changing n f (broker_of book (roster ss opened)))
    (find (is_session n) (with_session n f ss))
part_twice n change f book book2 ss news opened at s t k h get set eq =
    let r = set_at (is_session n) ss ss news at s (λ _. t) h refl get set in
    let found : find (is_session n) (with_session n f ss) ≡ Some (f s) = find_with n f ss s (k s) r.1 in
    rw (found, ← eq, r.0) (ap (λ l. broker_of book2 (roster l opened)) (sym (twice n f (λ _. t) ss k)))

-- ---- a piece

-- memory was refused to it
pub refused_at : (n : ℕ) (piece : List ℕ) (book : Book) (ss news : List Session) (opened at : ℕ) (s t : Session)
    → IsFirstAt (is_session n) ss at → slice_get ss at ≡ Some s → news ≡ slice_set ss at t
    → (s.closed ≡ false) × (s.incoming.decoder.failed ≡ false) × (piece ≢ []) × (t ≡ s)
    → FeedsNone (broker_of book (roster ss opened)) n piece (broker_of book (roster news opened))
refused_at n piece book ss news opened at s t h get set a = record {
  session = s;
  is_open = record { found = found_at n ss at s h get; is_open = a.0 };
  sound = a.1;
  some = a.2;
  same = ap (broker_of book) (same_at n ss news opened at s t h get set a.3);
}

-- what a piece is answered, once it was fed to the session at a place
pub begun_so : {E : Type 0} (n : ℕ) (piece : List ℕ) (book : Book) (ss news : List Session) (opened at : ℕ)
    (s t : Session) → IsFirstAt (is_session n) ss at → slice_get ss at ≡ Some s → news ≡ slice_set ss at t
    → (r : Result ℕ E) → SessionPieceAnswer piece s t r → IfOk r (λ bound. left_of t.incoming < bound)
    → BegunAnswer n piece (broker_of book (roster ss opened)) (broker_of book (roster news opened)) r
begun_so n piece book ss news opened at s t h get set (Ok bound) e less =
    let written = written_at n ss news opened at s (taking piece) h get (set ∙ ap (λ y. slice_set ss at y) e) in
    let found : find (is_session n) news ≡ Some (taking piece s) =
    ap (λ (r : Roster). find (is_session n) r.sessions) written
    ∙ find_with n (taking piece) ss s (number_if s.closed s _ refl) (found_at n ss at s h get) in (
      rw (found_at n ss at s h get) refl,
      ap (broker_of book) written,
      rw (found, ← e) less,
    )
begun_so n piece book ss news opened at s t h get set (Err x) a less =
    refused_at n piece book ss news opened at s t h get set a

-- ---- a turn

-- a turn of the session at a place
pub stepped_at : {E : Type 0} (full n : ℕ) (book book2 : Book) (ss news : List Session) (opened at : ℕ) (s t : Session)
    → IsFirstAt (is_session n) ss at → slice_get ss at ≡ Some s → news ≡ slice_set ss at t → (r : Result Bool E)
    → PartTurn full (part book s) (part book2 t) r
    → StepAnswer full n (broker_of book (roster ss opened)) (broker_of book2 (roster news opened)) r
stepped_at full n book book2 ss news opened at s t h get set (Ok true) p = record {
  frame = p.decided;
  taken = changing n (with_incoming p.left) (broker_of book (roster ss opened));
  takes = record {
    session = s;
    left = p.left;
    is_open = record { found = found_at n ss at s h get; is_open = p.is_open };
    takes = p.takes;
    changed = refl;
  };
  changed = part_twice n (served full p.decided) (with_incoming p.left) book book2 ss news opened at s t (λ y. refl) h
      get set p.changed;
}
stepped_at full n book book2 ss news opened at s t h get set (Ok false) (was_closed c e) =
    closed s (found_at n ss at s h get) c (same_part n book book2 ss news opened at s t h get set e)
stepped_at full n book book2 ss news opened at s t h get set (Ok false) (has_none left o m e) =
    awaits s left (record { found = found_at n ss at s h get; is_open = o }) m
    (changed_part n (with_incoming left) book book2 ss news opened at s t h get set e)
stepped_at full n book book2 ss news opened at s t h get set (Ok false) (met_fault left o m e) =
    faulty s left (record { found = found_at n ss at s h get; is_open = o }) m
    (part_twice n (refused BadFrame None) (with_incoming left) book book2 ss news opened at s t (λ y. refl) h get set e)
stepped_at full n book book2 ss news opened at s t h get set (Err x) (before_frame e) =
    at_frame (same_part n book book2 ss news opened at s t h get set e)
stepped_at full n book book2 ss news opened at s t h get set (Err x) (waits d left o m e) =
    in_step d s left (record { found = found_at n ss at s h get; is_open = o }) m
    (changed_part n (with_incoming (with_waiting d left)) book book2 ss news opened at s t h get set e)
stepped_at full n book book2 ss news opened at s t h get set (Err x) (untold left o m e) =
    at_fault s left (record { found = found_at n ss at s h get; is_open = o }) m
    (changed_part n (with_incoming left) book book2 ss news opened at s t h get set e)

-- it keeps the session's number
pub turn_number : {E : Type 0} (full : ℕ) (old new : Part) (r : Result Bool E) → PartTurn full old new r
    → new.session.number ≡ old.session.number
turn_number full old new (Ok true) p =
    ap (λ (q : Part). q.session.number) p.changed
    ∙ served_number full p.decided (part old.book (with_incoming p.left old.session))
turn_number full old new (Ok false) (was_closed c e) = ap (λ (q : Part). q.session.number) e
turn_number full old new (Ok false) (has_none left o m e) = ap (λ (q : Part). q.session.number) e
turn_number full old new (Ok false) (met_fault left o m e) = ap (λ (q : Part). q.session.number) e
turn_number full old new (Err x) (before_frame e) = ap (λ (q : Part). q.session.number) e
turn_number full old new (Err x) (waits d left o m e) = ap (λ (q : Part). q.session.number) e
turn_number full old new (Err x) (untold left o m e) = ap (λ (q : Part). q.session.number) e
