-- What is written for one session, frame by frame.
use Rattle.std.proofs.Common.{◌≡◌, ℕ, Bool, true, false, List, [], ◌∷◌, ◌++◌, Option, Some, None, Result, Ok, Err}
use Rattle.std.proofs.Common.{refl, sym, ap, ◌∙◌, subst, append_assoc, inl, inr}
use Rattle.std.specs.Prelude.{◌⊎◌, not}
use Rattle.std.specs.List.{AllByRecursion}
use Rattle.std.proofs.lemmas.List.{append-nil}
use Rattle.std.proofs.lemmas.List.Concat.{flat_map-append}
use Rattle.base.specs.declared.limits.TheConstants.{MAX_BODY}
use Rattle.stomp_frame.specs.Frames.{Content, IsFrame, canonical}
use Rattle.stomp_frame.specs.Streams.{canonical_texts}
use Rattle.stomp_session.proofs.Framing.{connected_is_a_frame, receipt_is_a_frame}
use Rattle.stomp_session.proofs.Owning.{all_append}
use Rattle.stomp_session.specs.Fitting.{Fits}
use Rattle.stomp_session.specs.Replies.{IsEchoedIfAny, connected_frame, receipt_frame, error_frame}
use Rattle.stomp_session.specs.Requests.{receipt_of}
use Rattle.stomp_session.specs.declared.request.Request.{Request}
use Rattle.stomp_session.specs.declared.request.Request.TheVariants.{Connect}
use Rattle.stomp_client.specs.Written.{Wrote}
use Rattle.broker_core.specs.Faults.{refusal_number, refusal_name}
use Rattle.broker_core.specs.Performing.{Reach}
use Rattle.broker_core.specs.Serving.{Decided, Part, closed_of, closing_if, confirmed, finished, is_connect, is_last}
use Rattle.broker_core.specs.Serving.{receipt_reply}
use Rattle.broker_core.specs.Serving.{reply_of, refused as refusing, text_of}
use Rattle.broker_core.specs.declared.fault.FrameRefusal.{FrameRefusal}
use Rattle.broker_core.specs.declared.session.Session.{Session}
use Rattle.laws_broker.specs.Lives.{Account}
use Rattle.laws_broker.specs.Written.{Confirms, Speaks, Told, nothing, refused, opened, ended, listed, receipt_asked}
use Rattle.laws_broker.specs.Written.{receipt_by}
use Rattle.laws_broker.specs.Written.{receipts_asked, receipts_in}
use Rattle.laws_broker.proofs.Replies.{error_fits, receipt_fits}

-- ---- texts and receipts

one_more : (frames : List Content) (f : Content)
    → canonical_texts (frames ++ f ∷ []) ≡ canonical_texts frames ++ canonical f
one_more frames f =
    flat_map-append canonical frames (f ∷ [])
    ∙ ap (λ (l : List ℕ). canonical_texts frames ++ l) (append-nil (canonical f))

wrote_more : (frames : List Content) (gone out : List ℕ) (f : Content) → IsFrame MAX_BODY f → Wrote frames gone out
    → Wrote (frames ++ f ∷ []) gone (out ++ canonical f)
wrote_more frames gone out f is h = record {
  each = all_append (IsFrame MAX_BODY) frames (f ∷ []) h.each (is, tt);
  whole = sym (append_assoc gone out (canonical f)) ∙ ap (λ (l : List ℕ). l ++ canonical f) h.whole
      ∙ sym (one_more frames f);
}

receipts_more : (frames : List Content) (f : Content)
    → receipts_in (frames ++ f ∷ []) ≡ receipts_in frames ++ receipt_by f.command f.headers
receipts_more frames f = flat_map-append (λ (g : Content). receipt_by g.command g.headers) frames (f ∷ [])
    ∙ ap (λ (l : List (List ℕ)). receipts_in frames ++ l) (append-nil (receipt_by f.command f.headers))

pub asked_more : (handled : List Decided) (d : Decided)
    → receipts_asked (handled ++ d ∷ []) ≡ receipts_asked handled ++ receipt_asked d
asked_more handled d = flat_map-append receipt_asked handled (d ∷ [])
    ∙ ap (λ (l : List (List ℕ)). receipts_asked handled ++ l) (append-nil (receipt_asked d))

-- the same account with a frame handled
abbrev pub with_handled : Account → Decided → Account
with_handled a d = record a { handled = a.handled ++ d ∷ [] }

-- ---- an open session

-- nothing was written, and it isn't connected
pub record IsFresh (a : Account) (s : Session) : Type 0 where
  pub wrote : Wrote [] a.taken s.out
  pub receipts : receipts_asked a.handled ≡ []
  pub connected : s.server ≡ false

-- CONNECTED was written and what comes behind it, and each receipt that was asked for
pub record IsRunning (later : Content → Type 0) (a : Account) (s : Session) : Type 0 where
  pub frames : List Content
  pub each : AllByRecursion later frames
  pub wrote : Wrote (connected_frame ∷ frames) a.taken s.out
  pub receipts : receipts_asked a.handled ≡ receipts_in (connected_frame ∷ frames)
  pub connected : s.server ≡ true

module _ (later : Content → Type 0) where
  all_confirmed : (a : Account) (frames : List Content) (closed : Bool) → Confirms closed a.handled frames
      → closed ≡ false
      → receipts_asked a.handled ≡ receipts_in frames
  all_confirmed a frames closed r e =
      r.receipts ∙ ap (λ (m : Option (List ℕ)). receipts_in frames ++ listed m) (r.all e)
      ∙ append-nil (receipts_in frames)

  split : (a : Account) (s : Session) (frames : List Content) (left : List ℕ) (connected closed : Bool)
      → Told later connected closed frames
      → Wrote frames a.taken left → Confirms closed a.handled frames → s.server ≡ connected → s.out ≡ left
      → closed ≡ false
      → IsFresh a s ⊎ IsRunning later a s
  split a s frames left connected closed (nothing c k e) w r p o z = inl (record {
    wrote = subst (λ (l : List ℕ). Wrote [] a.taken l) (sym o) (subst (λ (l : List Content). Wrote l a.taken left) e w);
    receipts = all_confirmed a frames closed r z ∙ ap receipts_in e;
    connected = p ∙ c;
  })
  split a s frames left connected closed (refused f k is e) w r p o z = absurd cc
  split a s frames left connected closed (opened fs c each e) w r p o z = inr (record {
    frames = fs;
    each = each;
    wrote = subst (λ (l : List ℕ). Wrote (connected_frame ∷ fs) a.taken l) (sym o)
        (subst (λ (l : List Content). Wrote l a.taken left) e w);
    receipts = all_confirmed a frames closed r z ∙ ap receipts_in e;
    connected = p ∙ c;
  })
  split a s frames left connected closed (ended fs f k each is e) w r p o z = absurd cc

  -- an open session is fresh or runs
  pub fresh_or_running : (a : Account) (s : Session) → Speaks later a (Some s) → s.closed ≡ false → IsFresh a s
      ⊎ IsRunning later a s
  fresh_or_running a s h e =
      split a s h.frames h.left h.connected h.closed h.told h.wrote h.confirms h.now.0 h.now.2 (sym h.now.1 ∙ e)

  pub running_speaks : (a : Account) (s : Session) → IsRunning later a s → Speaks later a (Some s)
  running_speaks a s h = record {
    frames = connected_frame ∷ h.frames;
    left = s.out;
    wrote = h.wrote;
    connected = true;
    closed = s.closed;
    told = opened h.frames refl h.each refl;
    confirms = record {
      missing = None;
      receipts = h.receipts ∙ sym (append-nil (receipts_in (connected_frame ∷ h.frames)));
      all =
          λ e. refl;
    };
    now = (h.connected, refl, refl);
  }

  -- one frame more is written behind CONNECTED
  pub running_more : (a b : Account) (s t : Session) (f : Content) → IsRunning later a s → IsFrame MAX_BODY f → later f
      → b.taken ≡ a.taken → receipts_asked b.handled ≡ receipts_asked a.handled ++ receipt_by f.command f.headers
      → t.server ≡ true → t.out ≡ s.out ++ canonical f → IsRunning later b t
  running_more a b s t f h is l same asks c o = record {
    frames = h.frames ++ f ∷ [];
    each = all_append later h.frames (f ∷ []) h.each (l, tt);
    wrote = rw (same, o) (wrote_more (connected_frame ∷ h.frames) a.taken s.out f is h.wrote);
    receipts = asks ∙ ap (λ (l : List (List ℕ)). l ++ receipt_by f.command f.headers) h.receipts
        ∙ sym (receipts_more (connected_frame ∷ h.frames) f);
    connected = c;
  }

  -- a RECEIPT is written, if one is asked for
  running_receipt : (a b : Account) (s t : Session) (o : Option (List ℕ)) → ((v : List ℕ) → later (receipt_frame v))
      → IsRunning later a s
      → IsEchoedIfAny o → b.taken ≡ a.taken → receipts_asked b.handled ≡ receipts_asked a.handled ++ listed o
      → t.server ≡ true → t.out ≡ s.out ++ text_of (receipt_reply o) → IsRunning later b t
  running_receipt a b s t None r h is same asks c e = record {
    frames = h.frames;
    each = h.each;
    wrote = rw (same, e, append-nil s.out) h.wrote;
    receipts = asks ∙ append-nil (receipts_asked a.handled) ∙ h.receipts;
    connected = c;
  }
  running_receipt a b s t (Some v) r h is same asks c e =
      running_more a b s t (receipt_frame v) h (receipt_is_a_frame v is) (r v) same asks c e

  -- CONNECTED is written
  fresh_connected : (a b : Account) (s t : Session) → IsFresh a s → b.taken ≡ a.taken
      → receipts_asked b.handled ≡ receipts_asked a.handled
      → t.server ≡ true → t.out ≡ s.out ++ canonical connected_frame → IsRunning later b t
  fresh_connected a b s t h same asks c o = record {
    frames = [];
    each = tt;
    wrote = rw (same, o) (wrote_more [] a.taken s.out connected_frame connected_is_a_frame h.wrote);
    receipts = asks ∙ h.receipts;
    connected = c;
  }

  -- one ERROR is written, and the session is closed
  pub error_speaks : (a b : Account) (s t : Session) (number : ℕ) (name : List ℕ) (receipt : Option (List ℕ))
      (missing : Option (List ℕ))
      → IsFresh a s ⊎ IsRunning later a s → IsFrame MAX_BODY (error_frame number name receipt) → b.taken ≡ a.taken
      → receipts_asked b.handled ≡ receipts_asked a.handled ++ listed missing → t.server ≡ s.server → t.closed ≡ true
      → t.out ≡ s.out ++ canonical (error_frame number name receipt) → Speaks later b (Some t)
  error_speaks a b s t number name receipt missing (inl h) is same asks c k o = record {
    frames = error_frame number name receipt ∷ [];
    left = t.out;
    wrote = rw (same, o) (wrote_more [] a.taken s.out (error_frame number name receipt) is h.wrote);
    connected = t.server;
    closed = t.closed;
    told = refused (error_frame number name receipt) k (record {
      number = number;
      name = name;
      receipt = receipt;
      is = refl;
    }) refl;
    confirms = record {
      missing = missing;
      receipts = asks ∙ ap (λ (l : List (List ℕ)). l ++ listed missing) h.receipts;
      all = λ e. absurd (let z : true ≡ false = sym k ∙ e in cc);
    };
    now = (refl, refl, refl);
  }
  error_speaks a b s t number name receipt missing (inr h) is same asks c k o = record {
    frames = connected_frame ∷ (h.frames ++ error_frame number name receipt ∷ []);
    left = t.out;
    wrote = rw (same, o) (wrote_more (connected_frame ∷ h.frames) a.taken s.out (error_frame number name receipt) is
        h.wrote);
    connected = t.server;
    closed = t.closed;
    told = ended h.frames (error_frame number name receipt) k h.each
        (record { number = number; name = name; receipt = receipt; is = refl }) refl;
    confirms = record {
      missing = missing;
      receipts = asks ∙ ap (λ (l : List (List ℕ)). l ++ listed missing) (h.receipts
          ∙ sym (append-nil (receipts_in (connected_frame ∷ h.frames)))
          ∙ sym (receipts_more (connected_frame ∷ h.frames) (error_frame number name receipt)));
      all = λ e. absurd (let z : true ≡ false = sym k ∙ e in cc);
    };
    now = (refl, refl, refl);
  }

  -- ---- a decided frame

  connects_or_not : (q : Request) → ((is_connect q ≡ true) × (reply_of q ≡ Some connected_frame)
      × (receipt_of q ≡ None))
      ⊎ ((is_connect q ≡ false) × (reply_of q ≡ receipt_reply (receipt_of q)))
  connects_or_not (Connect c) = inl (refl, refl, refl)
  connects_or_not _ = inr (refl, refl)

  done_runs : (a : Account) (q : Request) (p : Part) (r : Reach) → ((v : List ℕ) → later (receipt_frame v)) → Fits q
      → is_connect q ≡ not p.session.server → IsFresh a p.session ⊎ IsRunning later a p.session
      → IsRunning later (with_handled a (Ok q)) (confirmed q p r).session
  done_runs a q p r l is connects h = elim (connects_or_not q) [
    | inl y ↦ elim h [
      | inl g ↦ fresh_connected a (with_handled a (Ok q)) p.session (confirmed q p r).session g refl
          (asked_more a.handled (Ok q) ∙ rw (y.2, append-nil (receipts_asked a.handled)) refl) refl (rw y.1 refl)
      | inr runs ↦ absurd (let z : true ≡ not p.session.server = sym y.0 ∙ connects in
          let x : not p.session.server ≡ false = ap not runs.connected in cc)
    ]
    | inr n ↦ elim h [
      | inl g ↦ absurd (let z : false ≡ not p.session.server = sym n.0 ∙ connects in
          let x : not p.session.server ≡ true = ap not g.connected in cc)
      | inr runs ↦ running_receipt a (with_handled a (Ok q)) p.session (confirmed q p r).session (receipt_of q) l runs
          (receipt_fits q is) refl
          (asked_more a.handled (Ok q)) refl (rw n.1 refl)
    ]
  ]

  closing_speaks : (a : Account) (last : Bool) (p : Part) → IsRunning later a p.session
      → Speaks later a (Some (closing_if last p).session)
  closing_speaks a true p h = running_speaks a (closed_of p.session)
      (record { frames = h.frames; each = h.each; wrote = h.wrote; receipts = h.receipts; connected = h.connected })
  closing_speaks a false p h = running_speaks a p.session h

  pub refused_speaks : (a b : Account) (x : FrameRefusal) (receipt : Option (List ℕ)) (missing : Option (List ℕ))
      (p : Part)
      → IsEchoedIfAny receipt
      → b.taken ≡ a.taken → receipts_asked b.handled ≡ receipts_asked a.handled ++ listed missing
      → IsFresh a p.session ⊎ IsRunning later a p.session → Speaks later b (Some (refusing x receipt p).session)
  refused_speaks a b x receipt missing p is same asks h =
      error_speaks a b p.session (refusing x receipt p).session (refusal_number x) (refusal_name x) receipt missing h
      (error_fits x receipt is) same asks refl refl refl

  pub finished_speaks : (a : Account) (q : Request) (p : Part) (o : Result Reach FrameRefusal)
      → ((v : List ℕ) → later (receipt_frame v))
      → Fits q
      → is_connect q ≡ not p.session.server → IsFresh a p.session ⊎ IsRunning later a p.session
      → Speaks later (with_handled a (Ok q)) (Some (finished q p o).session)
  finished_speaks a q p (Ok r) l is connects h =
      closing_speaks (with_handled a (Ok q)) (is_last q) (confirmed q p r) (done_runs a q p r l is connects h)
  finished_speaks a q p (Err x) l is connects h =
      refused_speaks a (with_handled a (Ok q)) x (receipt_of q) (receipt_of q) p (receipt_fits q is) refl
      (asked_more a.handled (Ok q)) h
