-- The account of a session from when it was opened is that of all calls: its number was never another's.
use Rattle.std.proofs.Common.{◌≡◌, ℕ, ◌+◌, ◌<◌, ◌≤◌, Bool, true, false, List, [], ◌∷◌, ◌++◌, take, Option, Some, None}
use Rattle.std.proofs.Common.{refl, sym, ap}
use Rattle.std.proofs.Common.{◌∙◌}
use Rattle.std.proofs.Common.{append_assoc, arith}
use Rattle.std.specs.Prelude.{◌==◌, if◌then◌else◌, Result, Ok, Err}
use Rattle.std.proofs.lemmas.Bool.{eqb-true}
use Rattle.std.proofs.lemmas.List.{append-nil}
use Rattle.std.proofs.Math.Seq.{take-nil}
use Rattle.broker_core.specs.Calls.{dropped, empty, out_in}
use Rattle.broker_core.specs.Feeding.{Dealing}
use Rattle.broker_core.specs.Serving.{Decided, Server, roster_of, session_of}
use Rattle.broker_core.specs.Streams.{Fed}
use Rattle.broker_core.specs.declared.session.Session.{Session}
use Rattle.broker_core.specs.declared.fault.BrokerFault.{BrokerFault}
use Rattle.broker_core.specs.declared.fault.BrokerFault.TheVariants.{Memory, NoSession, TooMany}
use Rattle.laws_broker.specs.Lives.{Account, BrokerCall, Opened, FedTo, Dispatched, TakenFrom, Dropped, Named, Told}
use Rattle.laws_broker.specs.Lives.{DoesCall, Lives, account}
use Rattle.laws_broker.specs.Lives.{handled_in, octets_by, octets_in}
use Rattle.laws_broker.proofs.Calling.{after, after_all, no_account}
use Rattle.laws_broker.proofs.Hearing.{Answered, Heard, answered, gone, handled_by, handled_more, heard_call, never}
use Rattle.laws_broker.proofs.Hearing.{nothing_heard}
use Rattle.laws_broker.proofs.Hearing.{pieces_by, taken, there, thrown}
use Rattle.laws_broker.proofs.Sparing.{same_opened, took_spares}

-- an account of these octets and frames
abbrev of : List ℕ → List Decided → Account
of t h = record { taken = t; handled = h }

-- ---- the last number never falls

dropped_opened : (k : ℕ) (b : Server) (o : Option Session) → (dropped k b o).opened ≡ b.opened
dropped_opened k b None = refl
dropped_opened k b (Some s) = refl

level : (old new : Server) → new.opened ≡ old.opened → old.opened ≤ new.opened
level old new e = omega (arith, e)

still : (old new : Server) → new ≡ old → old.opened ≤ new.opened
still old new e = level old new (ap (λ (b : Server). b.opened) e)

fed_rises : (full k : ℕ) (old : Server) (f : Fed) (new : Server) (answer : Result ℕ BrokerFault)
    → Answered full k old f new answer
    → old.opened ≤ new.opened
fed_rises full k old f new answer (taken was d) = level old new (took_spares k k full old f new d).opened
fed_rises full k old f new answer (thrown was same none) = still old new same

dealing_rises : (old new : Server) → Dealing old new → old.opened ≤ new.opened
dealing_rises old new d = level old new (same_opened 0 0 d.handed (roster_of old) (roster_of new) d.taken)

rises : (full : ℕ) (c : BrokerCall) (old new : Server) → DoesCall full old c new → old.opened ≤ new.opened
rises full (Opened (Ok k)) old new d =
    let e : new.opened ≡ old.opened + 1 = ap (λ (b : Server). b.opened) d.changed in omega (arith, e)
rises full (Opened (Err (Memory took))) old new d = still old new d.1
rises full (Opened (Err NoSession)) old new d = absurd d
rises full (Opened (Err TooMany)) old new d = still old new d.1
rises full (FedTo k f answer) old new d = fed_rises full k old f new answer (answered full k old f new answer d)
rises full (Dispatched true) old new d = dealing_rises old new d.0
rises full (Dispatched false) old new d = dealing_rises old new d
rises full (TakenFrom k octets) old new d = level old new (ap (λ (b : Server). b.opened) d.3)
rises full (Dropped k) old new d =
    level old new (ap (λ (b : Server). b.opened) d ∙ dropped_opened k old (session_of k old))
rises full (Named (Some k)) old new d = level old new (ap (λ (b : Server). b.opened) d.changed)
rises full (Named None) old new d = still old new d.1
rises full (Told accepted) old new d = level old new (ap (λ (b : Server). b.opened) d.1)

-- ---- nothing is told of a session that is still to come

none_handled : (n : ℕ) (h : List Decided) (t : List ℕ) (b : Server) → Heard n h t b → b.opened < n → h ≡ []
none_handled n h t b (never low none a c) high = a
none_handled n h t b (there low i) high = absurd (omega (arith, low, high))
none_handled n h t b (gone low none f) high = absurd (omega (arith, low, high))

none_there : (n : ℕ) (h : List Decided) (t : List ℕ) (b : Server) → Heard n h t b → b.opened < n → session_of n b ≡ None
none_there n h t b (never low none a c) high = none
none_there n h t b (there low i) high = absurd (omega (arith, low, high))
none_there n h t b (gone low none f) high = none

none_taken : (full n : ℕ) (h : List Decided) (t : List ℕ) (m : ℕ) (octets : List ℕ) (old new : Server) (v : Bool)
    → (n == m) ≡ v
    → DoesCall full old (TakenFrom m octets) new → Heard n h t old → old.opened < n
    → octets_by n (TakenFrom m octets) ≡ []
none_taken full n h t m octets old new true e d g high =
    let z : n ≡ m = eqb-true n m e in
    let none : out_in (session_of m old) ≡ [] =
    ap (λ i. out_in (session_of i old)) (sym z) ∙ ap out_in (none_there n h t old g high) in
    rw e (d.2 ∙ ap (take d.0) none ∙ take-nil d.0)
none_taken full n h t m octets old new false e d g high = rw e refl

still_none : (full n : ℕ) (h : List Decided) (t : List ℕ) (c : BrokerCall) (old new : Server) → DoesCall full old c new
    → Heard n h t old
    → old.opened < n → octets_by n c ≡ []
still_none full n h t (TakenFrom m octets) old new d g high =
    none_taken full n h t m octets old new (n == m) refl d g high
still_none full n h t _ old new d g high = refl

-- ---- one call more

opened_account : (n m : ℕ) (x : List ℕ) (h : List Decided) (v : Bool) → (n == m) ≡ v → (n ≡ m → x ≡ [])
    → (n ≡ m → h ≡ [])
    → after n (of x h) (Opened (Ok m)) ≡ of (x ++ []) (h ++ [])
opened_account n m x h true e p q = let z : n ≡ m = eqb-true n m e in rw (e, p z, q z) refl
opened_account n m x h false e p q = rw (e, append-nil x, append-nil h) refl

fed_account : (full n m : ℕ) (x : List ℕ) (h : List Decided) (old : Server) (f : Fed) (new : Server)
    (answer : Result ℕ BrokerFault)
    (v : Bool) → (n == m) ≡ v → Answered full m old f new answer
    → after n (of x h) (FedTo m f answer) ≡ of (x ++ []) (h ++ handled_by n (FedTo m f answer))
fed_account full n m x h old f new answer true e (taken was d) = rw (e, was, append-nil x, append-nil f.frames) refl
fed_account full n m x h old f new answer true e (thrown was same none) =
    rw (e, was, none, append-nil x, append-nil h) refl
fed_account full n m x h old f new answer false e d = rw (e, append-nil x, append-nil h) refl

taken_account : (n m : ℕ) (x octets : List ℕ) (h : List Decided) (v : Bool) → (n == m) ≡ v
    → (if n == m then of (x ++ octets) h else of x h) ≡ of (x ++ (if n == m then octets else [])) (h ++ [])
taken_account n m x octets h true e = rw (e, append-nil h) refl
taken_account n m x octets h false e = rw (e, append-nil x, append-nil h) refl

same_account : (x : List ℕ) (h : List Decided) → of x h ≡ of (x ++ []) (h ++ [])
same_account x h = rw (append-nil x, append-nil h) refl

one_more : (full n : ℕ) (x : List ℕ) (h : List Decided) (t : List ℕ) (c : BrokerCall) (old new : Server)
    → DoesCall full old c new
    → Heard n h t old → (old.opened < n → x ≡ []) → after n (of x h) c ≡ of (x ++ octets_by n c) (h ++ handled_by n c)
one_more full n x h t (Opened (Ok m)) old new d g none =
    let next : m ≡ old.opened + 1 = d.next in
    opened_account n m x h (n == m) refl (λ z. none (omega (arith, z, next)))
    (λ z. none_handled n h t old g (omega (arith, z, next)))
one_more full n x h t (Opened (Err fault)) old new d g none = same_account x h
one_more full n x h t (FedTo m f answer) old new d g none =
    fed_account full n m x h old f new answer (n == m) refl (answered full m old f new answer d)
one_more full n x h t (TakenFrom m octets) old new d g none = taken_account n m x octets h (n == m) refl
one_more full n x h t (Dispatched b) old new d g none = same_account x h
one_more full n x h t (Dropped m) old new d g none = same_account x h
one_more full n x h t (Named answer) old new d g none = same_account x h
one_more full n x h t (Told accepted) old new d g none = same_account x h

-- ---- all calls

both_none : (x y : List ℕ) → x ≡ [] → y ≡ [] → x ++ y ≡ []
both_none x y p q = rw (p, q) refl

from_here : (full n : ℕ) (x : List ℕ) (h : List Decided) (t : List ℕ) (calls : List BrokerCall) (old new : Server)
    → Lives full old calls new → Heard n h t old → (old.opened < n → x ≡ [])
    → after_all n (of x h) calls ≡ of (x ++ octets_in n calls) (h ++ handled_in n calls)
from_here full n x h t [] old new d g none = same_account x h
from_here full n x h t (c ∷ calls) old new d g none =
    let one = one_more full n x h t c old d.0 d.1 g none in
    let up = rises full c old d.0 d.1 in
    let rest = from_here full n (x ++ octets_by n c) (h ++ handled_by n c) (t ++ pieces_by n c) calls d.0 new d.2
    (heard_call full n h t c old d.0 d.1 g)
    (λ high. let low : old.opened < n = omega (arith, high, up) in
    both_none x (octets_by n c) (none low) (still_none full n h t c old d.0 d.1 g low)) in
    ap (λ a. after_all n a calls) one ∙ rest
    ∙ ap (λ l. of l ((h ++ handled_by n c) ++ handled_in n calls)) (append_assoc x (octets_by n c) (octets_in n calls))
    ∙ ap (of (x ++ (octets_by n c ++ octets_in n calls)))
    (append_assoc h (handled_by n c) (handled_in n calls) ∙ ap (λ l. h ++ l) (sym (handled_more n c calls)))

pub account_is : (full n : ℕ) (calls : List BrokerCall) (b : Server) → Lives full empty calls b
    → after_all n no_account calls ≡ account n calls
account_is full n calls b d = from_here full n [] [] [] calls empty b d (nothing_heard n) (λ high. refl)
