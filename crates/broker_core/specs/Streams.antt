-- The frames that are handled, and what their session was fed.
use Rattle.std.specs.Prelude.{◌≡◌, ◌⊎◌, ℕ, Bool, true, List, [], ◌∷◌, ◌++◌, Some, None}
use Rattle.std.specs.List.{flat_map}
use Rattle.base.specs.declared.limits.TheConstants.{MAX_BODY}
use Rattle.stomp_frame.specs.Frames.{Content}
use Rattle.stomp_frame.specs.Spelling.{SpellsAfterGap}
use Rattle.broker_core.specs.Feeding.{DecidesNext, HandlesAll, Feeds, FeedsPart, Stops, answer_of}
use Rattle.broker_core.specs.Feeding.{at_frame, in_step, in_deals, at_fault, at_end}
use Rattle.broker_core.specs.Serving.{Decided, Server, session_of, nothing_incoming}
use Rattle.broker_core.specs.declared.incoming.Incoming.{Incoming}
use Rattle.broker_core.specs.declared.session.Session.{Session}

-- frames are taken one after another from what a session was fed; it is connected behind the first
abbrev pub TakesAll : Bool → Incoming → List Decided → Incoming → Type 0
TakesAll connected old [] new = new ≡ old
TakesAll connected old (d ∷ frames) new =
    (mid : Incoming) × (DecidesNext connected old d mid × TakesAll true mid frames new)

-- whether a session is connected behind some frames
abbrev pub connected_after : Bool → List Decided → Bool
connected_after connected [] = connected
connected_after connected (d ∷ frames) = true

-- a text begins with a gap and a spelling of the frame that is decided so
pub record SpellsFirst (connected : Bool) (decided : Decided) (text rest : List ℕ) : Type 0 where
  pub frame : Content
  pub front : List ℕ
  pub spells : SpellsAfterGap MAX_BODY frame front
  pub answers : decided ≡ answer_of connected frame
  pub whole : text ≡ front ++ rest

-- a text is a gap and a spelling for each of these decided frames, in order
abbrev pub SpellsEach : Bool → List Decided → List ℕ → Type 0
SpellsEach connected [] text = text ≡ []
SpellsEach connected (d ∷ frames) text =
    (rest : List ℕ) × (SpellsFirst connected d text rest × SpellsEach true frames rest)

-- what is left of a session: it is closed, or this is what it was fed and has not handled, and whether it is connected
pub record Leaves (n : ℕ) (b : Server) (left : Incoming) (connected : Bool) : Type 0 where
  pub session : Session
  pub found : session_of n b ≡ Some session
  pub is_left : (session.closed ≡ true) ⊎ ((session.incoming ≡ left) × (session.server ≡ connected))

-- handled frames are taken one after another from what their session was fed
pub record WereTaken (n : ℕ) (s : Session) (frames : List Decided) (new : Server) : Type 0 where
  pub left : Incoming
  pub takes : TakesAll s.server s.incoming frames left
  pub leaves : Leaves n new left (connected_after s.server frames)

-- whatever the deals between them did
abbrev pub HandledAreTaken : Type 0
HandledAreTaken =
    (full n : ℕ) (old new : Server) (frames : List Decided) (s : Session) → HandlesAll full n old frames new
    → session_of n old ≡ Some s → WereTaken n s frames new

-- the octets of a session are spellings of some frames, one behind another, and what is left
pub record WereSpelled (connected : Bool) (old : Incoming) (frames : List Decided) (new : Incoming) : Type 0 where
  pub text : List ℕ
  pub spells : SpellsEach connected frames text
  pub octets : old.decoder.octets ≡ text ++ new.decoder.octets
  pub none_waits : new.waiting ≡ None

-- frames that were taken, with none waiting before, are spelled at the front of the octets
abbrev pub TakenAreSpelled : Type 0
TakenAreSpelled = (connected : Bool) (old new : Incoming) (frames : List Decided) → TakesAll connected old frames new
    → old.waiting ≡ None
    → WereSpelled connected old frames new

-- ---- several calls of `feed`

-- a piece that a session took at a call of `feed`, and the frames that had their step then
pub record Fed : Type 0 where
  pub piece : List ℕ
  pub frames : List Decided

-- the frame that had its step before memory was refused to the deals behind it, if one had
abbrev pub stopped_frames : {full n : ℕ} {old new : Server} → Stops full n old new → List Decided
stopped_frames (at_frame same) = []
stopped_frames (in_step decided s left is_open takes changed) = []
stopped_frames (in_deals decided taken takes deals) = decided ∷ []
stopped_frames (at_fault s left is_open meets changed) = []
stopped_frames (at_end ended ends deals) = []

-- a call of `feed` took its piece: it came to its end, or memory was refused to it
pub data Took (full n : ℕ) (old : Server) (f : Fed) (new : Server) : Type 0 where
  whole : (count : ℕ) → (h : Feeds full old n f.piece new count) → f.frames ≡ h.frames → Took full n old f new
  part : (h : FeedsPart full old n f.piece new) → f.frames ≡ h.frames ++ stopped_frames h.stops → Took full n old f new

-- whatever else happened, a session is still there, and has what it was fed
pub record Untouched (n : ℕ) (old new : Server) : Type 0 where
  pub before : Session
  pub after : Session
  pub was : session_of n old ≡ Some before
  pub is : session_of n new ≡ Some after
  pub closed : after.closed ≡ before.closed
  pub server : after.server ≡ before.server
  pub incoming : after.incoming ≡ before.incoming

-- these pieces were fed to a session in this order, whatever else happened between
abbrev pub FedInTurn : ℕ → ℕ → Server → List Fed → Server → Type 0
FedInTurn full n old [] new = Untouched n old new
FedInTurn full n old (f ∷ feeds) new = (from : Server) ×
    ((to : Server) × (Untouched n old from × Took full n from f to × FedInTurn full n to feeds new))

-- these frames are spelled at the front of a text, one behind another
pub record AreFirst (connected : Bool) (frames : List Decided) (text : List ℕ) : Type 0 where
  pub front : List ℕ
  pub rest : List ℕ
  pub spells : SpellsEach connected frames front
  pub whole : text ≡ front ++ rest

-- however its text was cut, the frames of a session that had their step are the first of all that it was fed, each once
-- and in order
abbrev pub HandledAreFirst : Type 0
HandledAreFirst = (full n : ℕ) (old new : Server) (feeds : List Fed) (s : Session) → FedInTurn full n old feeds new
    → session_of n old ≡
    Some s
    → s.incoming ≡ nothing_incoming → AreFirst s.server (flat_map (λ f. f.frames) feeds) (flat_map (λ f. f.piece) feeds)
