-- Several calls of `feed`: the frames that had their step are the first of what the session was fed.
use Rattle.std.proofs.Common.{◌≡◌, ℕ, Bool, true, false, cond, List, [], ◌∷◌, ◌++◌, Some, None, refl, sym, ap, ◌∙◌}
use Rattle.std.proofs.Common.{append_assoc, append-nil, subst, inl, inr}
use Rattle.std.specs.Prelude.{◌⊎◌}
use Rattle.std.specs.List.{flat_map}
use Rattle.base.specs.declared.limits.TheConstants.{MAX_BODY}
use Rattle.stomp_frame.specs.Frames.{Content}
use Rattle.stomp_frame.specs.Spelling.{IsGap, SpellsAfterGap}
use Rattle.stomp_frame.proofs.Streaming.{gap_both, gap_spelled}
use Rattle.broker_core.specs.Feeding.{DecidesNext, waited, read, HasNone, MeetsFault, now, before, TakesDecided}
use Rattle.broker_core.specs.Feeding.{HandlesAll, Ends}
use Rattle.broker_core.specs.Feeding.{closed, awaits, faulty}
use Rattle.broker_core.specs.Feeding.{Stops, at_frame, in_step, in_deals, at_fault, at_end, Dealing, IsOpen, answer_of}
use Rattle.broker_core.specs.Feeding.{fed, taking}
use Rattle.broker_core.specs.Feeding.{with_incoming, with_waiting}
use Rattle.broker_core.specs.Serving.{Decided, Server, session_of, roster_of, step, changing, with_fault, part, refused}
use Rattle.broker_core.specs.Serving.{nothing_incoming}
use Rattle.broker_core.specs.Streams.{SpellsEach, SpellsFirst, connected_after, Fed, Took, whole, part as in_part}
use Rattle.broker_core.specs.Streams.{Untouched, FedInTurn}
use Rattle.broker_core.specs.Streams.{AreFirst, HandledAreFirst, stopped_frames}
use Rattle.broker_core.specs.declared.fault.FrameRefusal.TheVariants.{BadFrame}
use Rattle.broker_core.specs.declared.incoming.Incoming.{Incoming}
use Rattle.broker_core.specs.declared.session.Session.{Session}
use Rattle.broker_core.proofs.Left.{Seen, seen_in, seen_taken, seen_some, find_with}
use Rattle.broker_core.proofs.Streams.{Keeps, step_keeps, same_session}

-- ---- what is left of a text, as a session holds it

pub data HoldsIn (connected : Bool) (rest : List ℕ) (i : Incoming) : Type 0 where
  lost : i.waiting ≡ None → i.decoder.failed ≡ true → HoldsIn connected rest i
  held : (gap : List ℕ) → IsGap gap → i.waiting ≡ None → i.decoder.failed ≡ false → rest ≡ gap ++ i.decoder.octets
      → HoldsIn connected rest i
  waits : (f : Content) → (d : Decided) → (front : List ℕ) → i.waiting ≡ Some d → i.decoder.failed ≡ false
      → SpellsAfterGap MAX_BODY f front
      → d ≡ answer_of connected f → rest ≡ front ++ i.decoder.octets → HoldsIn connected rest i

pub record Holds (connected : Bool) (rest : List ℕ) (s : Session) : Type 0 where
  pub server : s.server ≡ connected
  pub incoming : HoldsIn connected rest s.incoming

-- the frames so far are spelled at the front of the pieces so far, and an open session holds what is left
pub record State (c : Bool) (frames : List Decided) (pieces : List ℕ) (s : Session) : Type 0 where
  pub text : List ℕ
  pub rest : List ℕ
  pub spells : SpellsEach c frames text
  pub whole : pieces ≡ text ++ rest
  pub next : (s.closed ≡ true) ⊎ Holds (connected_after c frames) rest s

-- ---- one more frame

pub record TookOne (c : Bool) (d : Decided) (rest : List ℕ) (left : Incoming) : Type 0 where
  pub after : List ℕ
  pub first : SpellsFirst c d rest after
  pub none : left.waiting ≡ None
  pub sound : left.decoder.failed ≡ false
  pub octets : after ≡ left.decoder.octets

take_one : (c : Bool) (rest : List ℕ) (i : Incoming) (d : Decided) (left : Incoming) → HoldsIn c rest i
    → DecidesNext c i d left
    → TookOne c d rest left
take_one c rest i d left (lost w f) (waited e k) = let z : Some d ≡ None = sym e ∙ w in cc
take_one c rest i d left (lost w f) (read fr front w1 s1 spells o1 s2 w2 a) = let z : true ≡ false = sym f ∙ s1 in cc
take_one c rest i d left (held gap g w f o) (waited e k) = let z : Some d ≡ None = sym e ∙ w in cc
take_one c rest i d left (held gap g w f o) (read fr front w1 s1 spells o1 s2 w2 a) = record {
  after = left.decoder.octets;
  first = record {
    frame = fr;
    front = gap ++ front;
    spells = gap_spelled MAX_BODY fr gap front g spells;
    answers = a;
    whole = o ∙ ap (λ x. gap ++ x) o1 ∙ sym (append_assoc gap front left.decoder.octets);
  };
  none = w2;
  sound = s2;
  octets = refl;
}
take_one c rest i d left (waits fr x front w f spells a o) (waited e k) =
    let m : x ≡ d = cc in
    record {
      after = i.decoder.octets;
      first = record { frame = fr; front = front; spells = spells; answers = sym m ∙ a; whole = o };
      none = ap (λ (j : Incoming). j.waiting) k;
      sound = ap (λ (j : Incoming). j.decoder.failed) k ∙ f;
      octets = ap (λ (j : Incoming). j.decoder.octets) (sym k);
    }
take_one c rest i d left (waits fr x front w f spells a o) (read fr2 front2 w1 s1 spells2 o1 s2 w2 a2) =
    let z : Some x ≡ None = sym w ∙
    w1 in cc

spells_more : (c : Bool) (frames : List Decided) (d : Decided) (text rest after : List ℕ) → SpellsEach c frames text
    → (h : SpellsFirst (connected_after c frames) d rest after) → SpellsEach c (frames ++ d ∷ []) (text ++ h.front)
spells_more c [] d text rest after e h = rw e (
  [],
  (
    record {
      frame = h.frame;
      front = h.front;
      spells = h.spells;
      answers = h.answers;
      whole = sym (append-nil h.front);
    },
    refl,
  ),
)
spells_more c (x ∷ []) d text rest after e h = (
  e.0 ++ h.front,
  (
    record {
      frame = e.1.0.frame;
      front = e.1.0.front;
      spells = e.1.0.spells;
      answers = e.1.0.answers;
      whole = ap (λ l. l ++ h.front) e.1.0.whole ∙ append_assoc e.1.0.front e.0 h.front;
    },
    spells_more true [] d e.0 rest after e.1.1 h,
  ),
)
spells_more c (x ∷ y ∷ frames) d text rest after e h = (
  e.0 ++ h.front,
  (
    record {
      frame = e.1.0.frame;
      front = e.1.0.front;
      spells = e.1.0.spells;
      answers = e.1.0.answers;
      whole = ap (λ l. l ++ h.front) e.1.0.whole ∙ append_assoc e.1.0.front e.0 h.front;
    },
    spells_more true (y ∷ frames) d e.0 rest after
        e.1.1 h,
  ),
)

connected_more : (c : Bool) (frames : List Decided) (d : Decided) → connected_after c (frames ++ d ∷ []) ≡ true
connected_more c [] d = refl
connected_more c (x ∷ frames) d = refl

nothing_before : (rest : List ℕ) (i : Incoming) (c : Bool) → i.waiting ≡ None → i.decoder.failed ≡ false
    → rest ≡ i.decoder.octets
    → HoldsIn c rest i
nothing_before rest i c w f o = held [] (0, refl) w f o

-- a frame was taken and had its step
stepped : (c : Bool) (frames : List Decided) (pieces : List ℕ) (s mid t : Session) (d : Decided) (left : Incoming)
    → State c frames pieces s → s.closed ≡ false
    → DecidesNext s.server s.incoming d left → mid ≡ with_incoming left s → Keeps mid t
    → State c (frames ++ d ∷ []) pieces t
stepped c frames pieces s mid t d left st o takes m k = elim st.next [
  | inl shut ↦ let z : true ≡ false = sym shut ∙ o in cc
  | inr h ↦
      let one = take_one (connected_after c frames) st.rest s.incoming d left h.incoming
      (subst (λ b. DecidesNext b s.incoming d left) h.server takes) in
      record {
        text = st.text ++ one.first.front;
        rest = one.after;
        spells = spells_more c frames d st.text st.rest one.after st.spells one.first;
        whole = st.whole ∙ ap (λ x. st.text ++ x) one.first.whole
            ∙ sym (append_assoc st.text one.first.front one.after);
        next = elim k.kept [
          | inl shut ↦ inl shut
          | inr e ↦ inr (record {
            server = e.1 ∙ sym (connected_more c frames d);
            incoming = subst (λ (j : Incoming). HoldsIn (connected_after c (frames ++ d ∷ [])) one.after j)
                (sym (e.0 ∙ ap (λ (x : Session). x.incoming) m))
                (nothing_before one.after left (connected_after c (frames ++ d ∷ [])) one.none one.sound one.octets);
          })
        ];
      }
]

-- ---- what doesn't change it

pub moved : (c : Bool) (frames : List Decided) (pieces : List ℕ) (s t : Session) → State c frames pieces s
    → t.closed ≡ s.closed
    → t.server ≡ s.server
    → t.incoming ≡ s.incoming → State c frames pieces t
moved c frames pieces s t st a b e = record {
  text = st.text;
  rest = st.rest;
  spells = st.spells;
  whole = st.whole;
  next = elim st.next [
    | inl shut ↦ inl (a ∙ shut)
    | inr h ↦ inr (record {
      server = b ∙ h.server;
      incoming = subst (λ (j : Incoming). HoldsIn (connected_after c frames) st.rest j) (sym
          e) h.incoming;
    })
  ];
}

-- a session of a broker, and its state
pub record Is (c : Bool) (frames : List Decided) (pieces : List ℕ) (n : ℕ) (b : Server) : Type 0 where
  pub session : Session
  pub found : session_of n b ≡ Some session
  pub state : State c frames pieces session

dealt : (c : Bool) (frames : List Decided) (pieces : List ℕ) (n : ℕ) (old new : Server) → Is c frames pieces n old
    → Dealing old new
    → Is c frames pieces n new
dealt c frames pieces n old new i h =
    let u = seen_some (session_of n new) i.session (seen_taken n (roster_of old) (roster_of new) h.handed h.taken
    ∙ ap seen_in i.found) in
    record {
      session = u.0;
      found = u.1.0;
      state = moved c frames pieces i.session u.0 i.state (ap (λ (x : Seen). x.closed) u.1.1)
          (ap (λ (x : Seen). x.server) u.1.1)
          (ap (λ (x : Seen). x.incoming) u.1.1);
    }

-- ---- a frame, and frames

one_step : (full n : ℕ) (c : Bool) (frames : List Decided) (pieces : List ℕ) (old mid : Server) (d : Decided)
    → Is c frames pieces n old
    → TakesDecided old n d mid
    → Is c (frames ++ d ∷ []) pieces n (step full n d mid)
one_step full n c frames pieces old mid d i t =
    let m : t.session ≡ i.session = same_session (session_of n old) t.session i.session t.is_open.found i.found in
    let there : session_of n mid ≡ Some (with_incoming t.left t.session) =
    ap (session_of n) t.changed ∙ find_with n (with_incoming t.left) old.sessions t.session refl t.is_open.found in
    let k = step_keeps full n d mid (with_incoming t.left t.session) there in
    record {
      session = k.0;
      found = k.1.0;
      state = stepped c frames pieces t.session (with_incoming t.left t.session) k.0 d t.left
          (subst (λ (x : Session). State c frames pieces x) (sym m) i.state) t.is_open.is_open t.takes refl k.1.1;
    }

all_steps : (full n : ℕ) (c : Bool) (frames more : List Decided) (pieces : List ℕ) (old new : Server)
    → Is c frames pieces n old
    → HandlesAll full n old more new
    → Is c (frames ++ more) pieces n new
all_steps full n c frames [] pieces old new i h =
    subst (λ l. Is c l pieces n new) (sym (append-nil frames)) (subst (λ b. Is c frames pieces n b) (sym h) i)
all_steps full n c frames (d ∷ more) pieces old new i h =
    let one = dealt c (frames ++ d ∷ []) pieces n (step full n d h.1.taken) h.0
    (one_step full n c frames pieces old h.1.taken d i h.1.takes) h.1.settles.0 in
    subst (λ l. Is c l pieces n new) (append_assoc frames (d ∷ []) more) (all_steps full n c (frames ++ d ∷ []) more
    pieces h.0 new one h.2)

-- ---- the end of a call

-- a session whose rest is another
left_as : (c : Bool) (frames : List Decided) (pieces : List ℕ) (n : ℕ) (old new : Server) (i : Is c frames pieces n old)
    (s : Session)
    (left : Incoming)
    → IsOpen old n s
    → (s.server ≡ connected_after c frames → (rest : List ℕ) → HoldsIn (connected_after c frames) rest s.incoming
    → HoldsIn (connected_after c frames) rest left)
    → new ≡ changing n (with_incoming left) old → Is c frames pieces n new
left_as c frames pieces n old new i s left o keeps e =
    let m : s ≡ i.session = same_session (session_of n old) s i.session o.found i.found in
    let st : State c frames pieces s = subst (λ (x : Session). State c frames pieces x) (sym m) i.state in
    record {
      session = with_incoming left s;
      found = ap (session_of n) e ∙ find_with n (with_incoming left) old.sessions s refl o.found;
      state = record {
        text = st.text;
        rest = st.rest;
        spells = st.spells;
        whole = st.whole;
        next = elim st.next [
          | inl shut ↦ inl shut
          | inr h ↦ inr
              (record { server = h.server; incoming = keeps h.server st.rest h.incoming })
        ];
      };
    }

-- EOLs that are gone stay part of the text
waits_more : (c : Bool) (i left : Incoming) → HasNone i left → (rest : List ℕ) → HoldsIn c rest i → HoldsIn c rest left
waits_more c i left h rest (lost w f) = let z : true ≡ false = sym f ∙ h.sound in cc
waits_more c i left h rest (held gap g w f o) =
    held (gap ++ h.gap) (gap_both gap h.gap g h.is_gap) h.still_none h.still_sound
    (o ∙ ap (λ x. gap ++ x) h.octets ∙ sym (append_assoc gap h.gap left.decoder.octets))
waits_more c i left h rest (waits fr x front w f spells a o) = let z : Some x ≡ None = sym w ∙ h.none_waits in cc

fails : (c : Bool) (i left : Incoming) → MeetsFault i left → (rest : List ℕ) → HoldsIn c rest i → HoldsIn c rest left
fails c i left (now fault w f bad w2 f2) rest h = lost w2 f2
fails c i left (before w f e) rest h = subst (λ (j : Incoming). HoldsIn c rest j) (sym e) h

-- a frame that waits again
waits_again : (c : Bool) (i left : Incoming) (d : Decided) → DecidesNext c i d left → (rest : List ℕ) → HoldsIn c rest i
    → HoldsIn c rest (with_waiting d left)
waits_again c i left d t rest h =
    let one = take_one c rest i d left h t in
    waits one.first.frame d one.first.front refl one.sound one.first.spells one.first.answers
    (one.first.whole ∙ ap (λ x. one.first.front ++ x) one.octets)

-- the ERROR of a fault ends the session
faulted : (c : Bool) (frames : List Decided) (pieces : List ℕ) (n : ℕ) (b : Server) → Is c frames pieces n b
    → Is c frames pieces n (with_fault n b)
faulted c frames pieces n b i =
    let t = (refused BadFrame None (part b.book i.session)).session in
    record {
      session = t;
      found = rw i.found (find_with n (λ _. t) b.sessions i.session refl i.found);
      state = record {
        text = i.state.text;
        rest = i.state.rest;
        spells = i.state.spells;
        whole = i.state.whole;
        next = inl refl;
      };
    }

ended : (c : Bool) (frames : List Decided) (pieces : List ℕ) (n : ℕ) (old new : Server) → Is c frames pieces n old
    → Ends old n new
    → Is c frames pieces n new
ended c frames pieces n old new i (closed s f k e) = subst (λ b. Is c frames pieces n b) (sym e) i
ended c frames pieces n old new i (awaits s left o h e) = left_as c frames pieces n old new i s left o
    (λ k. waits_more (connected_after c frames) s.incoming left h) e
ended c frames pieces n old new i (faulty s left o h e) =
    subst (λ b. Is c frames pieces n b) (sym e)
    (faulted c frames pieces n (changing n (with_incoming left) old)
    (left_as c frames pieces n old (changing n (with_incoming left) old) i s left o
    (λ k. fails (connected_after c frames) s.incoming left h) refl))

stopped : (full n : ℕ) (c : Bool) (frames : List Decided) (pieces : List ℕ) (old new : Server)
    → Is c frames pieces n old
    → (h : Stops full n old new)
    → Is c (frames ++ stopped_frames h) pieces n new
stopped full n c frames pieces old new i (at_frame e) =
    subst (λ l. Is c l pieces n new) (sym (append-nil frames)) (subst (λ b. Is c frames pieces n b) (sym e) i)
stopped full n c frames pieces old new i (in_step d s left o t e) =
    subst (λ l. Is c l pieces n new) (sym (append-nil frames))
    (left_as c frames pieces n old new i s (with_waiting d left) o
    (λ k. waits_again (connected_after c frames) s.incoming left d (subst (λ b. DecidesNext b s.incoming d left) k t))
    e)
stopped full n c frames pieces old new i (in_deals d mid t deals) =
    dealt c (frames ++ d ∷ []) pieces n (step full n d mid) new
    (one_step full n c frames pieces old mid d i t) deals
stopped full n c frames pieces old new i (at_fault s left o h e) =
    subst (λ l. Is c l pieces n new) (sym (append-nil frames))
    (left_as c frames pieces n old new i s left o (λ k. fails (connected_after c frames) s.incoming left h) e)
stopped full n c frames pieces old new i (at_end end ends deals) =
    subst (λ l. Is c l pieces n new) (sym (append-nil frames))
    (dealt c frames pieces n end new (ended c frames pieces n old end i ends) deals)

-- ---- a piece

fed_by : (c : Bool) (rest piece : List ℕ) (i : Incoming) (b : Bool) → i.decoder.failed ≡ b → HoldsIn c rest i
    → HoldsIn c (rest ++ piece) (cond b i (record i {
      decoder =
          record i.decoder { octets = i.decoder.octets ++ piece };
    }))
fed_by c rest piece i true e (lost w f) = lost w f
fed_by c rest piece i true e (held gap g w f o) = let z : true ≡ false = sym e ∙ f in cc
fed_by c rest piece i true e (waits fr x front w f spells a o) = let z : true ≡ false = sym e ∙ f in cc
fed_by c rest piece i false e (lost w f) = let z : true ≡ false = sym f ∙ e in cc
fed_by c rest piece i false e (held gap g w f o) =
    held gap g w f (ap (λ x. x ++ piece) o ∙ append_assoc gap i.decoder.octets piece)
fed_by c rest piece i false e (waits fr x front w f spells a o) =
    waits fr x front w f spells a (ap (λ l. l ++ piece) o ∙ append_assoc front i.decoder.octets piece)

next_by : (c : Bool) (rest piece : List ℕ) (s : Session) (b : Bool) → s.closed ≡ b → (s.closed ≡ true) ⊎ Holds c rest s
    → ((cond b s (record s { incoming = fed piece s.incoming })).closed ≡ true)
    ⊎ Holds c (rest ++ piece) (cond b s (record s {
      incoming =
          fed piece s.incoming;
    }))
next_by c rest piece s true e h = inl e
next_by c rest piece s false e h = elim h [
  | inl k ↦ let z : true ≡ false = sym k ∙ e in cc
  | inr k ↦ inr (record {
    server = k.server;
    incoming =
        fed_by c rest piece s.incoming s.incoming.decoder.failed refl k.incoming;
  })
]

number_if : (b : Bool) (s t : Session) → t.number ≡ s.number → (cond b s t).number ≡ s.number
number_if true s t e = refl
number_if false s t e = e

piece_fed : (c : Bool) (frames : List Decided) (pieces piece : List ℕ) (n : ℕ) (b : Server) → Is c frames pieces n b
    → Is c frames (pieces ++ piece) n (changing n (taking piece) b)
piece_fed c frames pieces piece n b i = record {
  session = taking piece i.session;
  found = find_with n (taking piece) b.sessions i.session (number_if i.session.closed i.session _ refl) i.found;
  state = record {
    text = i.state.text;
    rest = i.state.rest ++ piece;
    spells = i.state.spells;
    whole = ap (λ x. x ++ piece) i.state.whole ∙ append_assoc i.state.text i.state.rest piece;
    next = next_by (connected_after c frames) i.state.rest piece i.session i.session.closed refl i.state.next;
  };
}

-- ---- a call, and calls

-- what a call took comes after what the calls before it took
pub took : (full n : ℕ) (c : Bool) (frames : List Decided) (pieces : List ℕ) (old new : Server) (f : Fed)
    → Is c frames pieces n old
    → Took full n old f new
    → Is c (frames ++ f.frames) (pieces ++ f.piece) n new
took full n c frames pieces old new f i (whole count h e) =
    let ps = pieces ++ f.piece in
    let a = all_steps full n c frames h.frames ps (changing n (taking f.piece) old) h.handled
    (piece_fed c frames pieces f.piece n old i)
    h.handles in
    let b = dealt c (frames ++ h.frames) ps n h.ended new (ended c (frames ++ h.frames) ps n h.handled h.ended a h.ends)
    h.settles.0 in
    subst (λ l. Is c (frames ++ l) ps n new) (sym e) b
took full n c frames pieces old new f i (in_part h e) =
    let ps = pieces ++ f.piece in
    let a = all_steps full n c frames h.frames ps (changing n (taking f.piece) old) h.handled
    (piece_fed c frames pieces f.piece n old i)
    h.handles in
    let b = stopped full n c (frames ++ h.frames) ps h.handled new a h.stops in
    subst (λ l. Is c (frames ++ l) ps n new) (sym e)
    (subst (λ l. Is c l ps n new) (append_assoc frames h.frames (stopped_frames h.stops)) b)

untouched : (c : Bool) (frames : List Decided) (pieces : List ℕ) (n : ℕ) (old new : Server) → Is c frames pieces n old
    → Untouched n old new
    → Is c frames pieces n new
untouched c frames pieces n old new i h =
    let m : i.session ≡ h.before = same_session (session_of n old) i.session h.before i.found h.was in
    record {
      session = h.after;
      found = h.is;
      state = moved c frames pieces h.before h.after (subst (λ (x : Session). State c frames pieces x) m i.state)
          h.closed h.server
          h.incoming;
    }

in_turn : (full n : ℕ) (c : Bool) (frames : List Decided) (pieces : List ℕ) (old new : Server) (feeds : List Fed)
    → Is c frames pieces n old
    → FedInTurn full n old feeds new → AreFirst c (frames ++ flat_map (λ f. f.frames) feeds)
    (pieces ++ flat_map (λ f. f.piece) feeds)
in_turn full n c frames pieces old new [] i h =
    rw (append-nil frames, append-nil pieces) (record {
      front = i.state.text;
      rest = i.state.rest;
      spells = i.state.spells;
      whole =
          i.state.whole;
    })
in_turn full n c frames pieces old new (f ∷ feeds) i h =
    let a = took full n c frames pieces h.0 h.1.0 f (untouched c frames pieces n old h.0 i h.1.1.0) h.1.1.1 in
    let r = in_turn full n c (frames ++ f.frames) (pieces ++ f.piece) h.1.0 new feeds a h.1.1.2 in
    subst (λ p. AreFirst c (frames ++ (f.frames ++ flat_map (λ (x : Fed). x.frames) feeds)) p)
    (append_assoc pieces f.piece (flat_map (λ (x : Fed). x.piece) feeds))
    (subst (λ l. AreFirst c l ((pieces ++ f.piece) ++ flat_map (λ (x : Fed). x.piece) feeds))
    (append_assoc frames f.frames (flat_map (λ (x : Fed). x.frames) feeds)) r)

-- the frames that were handled are the first of all that a session was fed
pub handled_first : HandledAreFirst
handled_first full n old new feeds s h found e =
    in_turn full n s.server [] [] old new feeds (record {
      session = s;
      found = found;
      state = record {
        text = [];
        rest = [];
        spells = refl;
        whole = refl;
        next = inr (record {
          server = refl;
          incoming = subst (λ (j : Incoming). HoldsIn s.server [] j) (sym e)
              (nothing_before [] nothing_incoming s.server refl refl refl);
        });
      };
    }) h
