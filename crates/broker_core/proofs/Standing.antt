-- A session stays at its place while frames are handled.
use Rattle.std.proofs.Common.{◌≡◌, ℕ, suc, zero, Bool, true, false, List, [], ◌∷◌, Option, Some, None}
use Rattle.std.proofs.Common.{refl, sym, ap, ◌∙◌}
use Rattle.std.proofs.lemmas.Bool.{eqb-true}
use Rattle.stomp_session.specs.Replies.{message_frame}
use Rattle.broker_book.specs.Steps.{Handed, Taken}
use Rattle.broker_tx.specs.First.{IsFirstAt}
use Rattle.broker_core.specs.Feeding.{Handles, Hands, delivery_of, taking, with_incoming}
use Rattle.broker_core.specs.Parts.Rising.{StandsAt}
use Rattle.broker_core.specs.Serving.{Decided, Part, Roster, Server, changing_part, is_session, part, roster_of}
use Rattle.broker_core.specs.Serving.{served, session_of, step, with_session, writing}
use Rattle.broker_core.specs.declared.session.Session.{Session}
use Rattle.broker_core.proofs.Left.{served_number}
use Rattle.broker_core.proofs.Places.{number_if}
use Rattle.broker_core.proofs.Rising.{passes}

-- the session of a number has it
pub stands_first : (n : ℕ) (ss : List Session) (at : ℕ) → IsFirstAt (is_session n) ss at → StandsAt n ss at
stands_first n ss at h = (h.item, h.got, eqb-true h.item.number n (passes (is_session n) ss h.item h.found))

-- ---- one session is changed

-- a change of the session of this number keeps the number
abbrev pub KeepsNumber : ℕ → (Session → Session) → Type 0
KeepsNumber m f = (y : Session) → is_session m y ≡ true → (f y).number ≡ y.number

stands_more : (k m : ℕ) (f : Session → Session) → KeepsNumber m f → (x : Session) (ss : List Session) (b : Bool)
    → is_session m x ≡ b
    → ((at : ℕ) → StandsAt k ss at → StandsAt k (with_session m f ss) at) → (at : ℕ) → StandsAt k (x ∷ ss) at
    → StandsAt k (with_session m f (x ∷ ss)) at
stands_more k m f keeps x ss true e ih zero h =
    let i : x ≡ h.0 = cc (h.1) in
    rw e (f x, refl, keeps x e ∙ ap (λ (s : Session). s.number) i ∙ h.2)
stands_more k m f keeps x ss false e ih zero h = rw e (h.0, h.1, h.2)
stands_more k m f keeps x ss true e ih (suc at) h = rw e (h.0, h.1, h.2)
stands_more k m f keeps x ss false e ih (suc at) h = rw e (ih at h)

pub stands_with : (k m : ℕ) (f : Session → Session) → KeepsNumber m f → (ss : List Session) (at : ℕ)
    → StandsAt k ss at
    → StandsAt k (with_session m f ss) at
stands_with k m f keeps [] at h = h
stands_with k m f keeps (x ∷ ss) at h =
    stands_more k m f keeps x ss (is_session m x) refl (stands_with k m f keeps ss) at h

-- a piece is fed
pub stands_fed : (k n : ℕ) (piece : List ℕ) (ss : List Session) (at : ℕ) → StandsAt k ss at
    → StandsAt k (with_session n (taking piece) ss) at
stands_fed k n piece ss at h = stands_with k n (taking piece) (λ y i. number_if y.closed y _ refl) ss at h

-- ---- a frame is handled

stands_part : (k n : ℕ) (change : Part → Part) → ((p : Part) → (change p).session.number ≡ p.session.number)
    → (b : Server) (o : Option Session) → session_of n b ≡ o → (at : ℕ) → StandsAt k b.sessions at
    → StandsAt k (changing_part n change b o).sessions at
stands_part k n change keeps b None e at h = h
stands_part k n change keeps b (Some s) e at h =
    let its : s.number ≡ n = eqb-true s.number n (passes (is_session n) b.sessions s e) in
    stands_with k n (λ _. (change (part b.book s)).session)
    (λ y i. keeps (part b.book s) ∙ its ∙ sym (eqb-true y.number n i)) b.sessions at h

stands_taken : (k : ℕ) (old new : Roster) (ds : List Handed) (at : ℕ) → Taken Hands old ds new
    → StandsAt k old.sessions at
    → StandsAt k new.sessions at
stands_taken k old new [] at h stands = rw h stands
stands_taken k old new (d ∷ ds) at h stands =
    stands_taken k h.0 new ds at h.2 (rw h.1
    (stands_with k d.to.session (writing (message_frame (delivery_of d))) (λ y i. refl) old.sessions at stands))

-- a session stays at its place while a frame is handled
pub stands_handled : (k full n : ℕ) (old new : Server) (decided : Decided) (at : ℕ) → Handles full n old decided new
    → StandsAt k old.sessions at
    → StandsAt k new.sessions at
stands_handled k full n old new decided at h stands =
    let t = h.takes in
    let taken : StandsAt k h.taken.sessions at =
    rw t.changed (stands_with k n (with_incoming t.left) (λ y i. refl) old.sessions at stands) in
    let stepped = stands_part k n (served full decided) (served_number full decided) h.taken (session_of n h.taken) refl
    at taken in
    stands_taken k (roster_of (step full n decided h.taken)) (roster_of new) h.settles.0.handed at h.settles.0.taken
    stepped
