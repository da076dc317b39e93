-- One frame of a session, from what it was fed to the deals behind it.
use Rattle.std.proofs.Common.{◌≡◌, ◌<◌, ◌≤◌, ℕ, ◌+◌, Bool, true, false, List, [], ◌∷◌, ◌++◌, length, Some}
use Rattle.std.proofs.Common.{refl, ap, ◌∙◌, subst, arith, length-append}
use Rattle.std.specs.Prelude.{is_some, is_err, OnOk, Result, Ok, Err}
use Rattle.broker_core.specs.Feeding.{TakesDecided, Handles, HandlesAll, DealsAll, Dealing, Stops}
use Rattle.broker_core.specs.Feeding.{Feeds, at_end, in_deals, taking, with_incoming}
use Rattle.broker_core.specs.Parts.Taking.{EndsQuiet, Handled, StepsOrEnds, Turned, TurnsOrEnds, left_of}
use Rattle.broker_core.specs.Serving.{Decided, Server, roster_of, session_of, changing, step}
use Rattle.broker_core.proofs.Left.{Seen, seen_in, seen_taken, seen_some, find_with, step_lessens, taken_less}

-- ---- a frame that was handled

pub turned : (full n : ℕ) (old mid new : Server) (d : Decided) → TakesDecided old n d mid
    → DealsAll (step full n d mid) new
    → Turned full n old new
turned full n old mid new d t s =
    let found : session_of n mid ≡ Some (with_incoming t.left t.session) =
    ap (session_of n) t.changed ∙ find_with n (with_incoming t.left) old.sessions t.session refl t.is_open.found in
    let k = step_lessens full n d mid (with_incoming t.left t.session) found in
    let u = seen_some (session_of n new) k.0 (seen_taken n (roster_of (step full n d mid)) (roster_of new) s.0.handed
    s.0.taken ∙ ap
    seen_in k.1.0) in
    let same : u.0.incoming ≡ k.0.incoming = ap (λ (x : Seen). x.incoming) u.1.1 in
    let less : left_of t.left < left_of t.session.incoming =
    taken_less t.session.server t.session.incoming d t.left t.takes in
    let kept : left_of k.0.incoming ≤ left_of t.left = k.1.1.left in
    record {
      frame = d;
      handles = record { taken = mid; takes = t; settles = s };
      less = rw (u.1.0, t.is_open.found, same) (omega arith);
    }

-- ---- one frame after another

pub handles_more : (full n : ℕ) (old mid new : Server) (fs : List Decided) (d : Decided) → HandlesAll full n old fs mid
    → Handles full n mid d new
    → HandlesAll full n old (fs ++ d ∷ []) new
handles_more full n old mid new [] d e h = (new, subst (λ b. Handles full n b d new) e h, refl)
handles_more full n old mid new (x ∷ fs) d e h = (e.0, e.1, handles_more full n e.0 mid new fs d e.2 h)

-- one more frame handled is one more of the call
pub handled_more : (full n : ℕ) (old mid new : Server) (count : ℕ) → Handled full n old count mid
    → Turned full n mid new
    → Handled full n old (count + 1) new
handled_more full n old mid new count h one = record {
  frames = h.frames ++ one.frame ∷ [];
  handles = handles_more full n old mid new h.frames one.frame h.handles one.handles;
  counted =
      let e = h.counted in let k : length (h.frames ++ one.frame ∷ []) ≡ length h.frames + 1 = length-append h.frames
      (one.frame ∷ []) in omega arith;
}

-- a call whose frames are handled until no whole one is left has done its work
pub finished : (full n : ℕ) (piece : List ℕ) (old handled new : Server) (count : ℕ)
    → is_some (session_of n old) ≡ true
    → Handled full n (changing n (taking piece) old) count handled
    → EndsQuiet handled n new
    → Feeds full old n piece new count
finished full n piece old handled new count there h e = record {
  frames = h.frames;
  handled = handled;
  ended = e.0;
  there = there;
  handles = h.handles;
  counted = h.counted;
  ends = e.1;
  settles = e.2;
}

-- ---- a turn

-- a step, and the deals behind it
pub turned_step : (full n : ℕ) (old mid new : Server) (stepped : Bool) → StepsOrEnds full n old mid stepped
    → DealsAll mid new
    → TurnsOrEnds full n old new stepped
turned_step full n old mid new true h s =
    turned full n old h.taken new h.frame h.takes (subst (λ (b : Server). DealsAll b new) h.changed s)
turned_step full n old mid new false h s = (mid, h, s)

-- memory was refused to these
pub stops_behind : (full n : ℕ) (old mid new : Server) (stepped : Bool) → StepsOrEnds full n old mid stepped
    → Dealing mid new
    → Stops full n old new
stops_behind full n old mid new true h d =
    in_deals h.frame h.taken h.takes (subst (λ (b : Server). Dealing b new) h.changed d)
stops_behind full n old mid new false h d = at_end mid h d

-- ---- answers

-- a fact that holds at `Ok`, where the answer is none
pub at_ok : {T E P : Type 0} (r : Result T E) → is_err r ≡ false → OnOk r P → P
at_ok (Ok x) e h = h
at_ok (Err x) e h = cc
