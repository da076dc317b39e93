-- What a client wrote over any calls.
use Rattle.std.specs.Prelude.{◌≡◌, ℕ, List, [], ◌++◌, Result, Ok, Err}
use Rattle.base.specs.declared.limits.TheConstants.{MAX_BODY}
use Rattle.stomp_frame.specs.Frames.{Content}
use Rattle.stomp_frame.specs.Streams.{AreFrames, canonical_texts}

-- The octets that were taken, and those still to be sent, are the canonical texts of these frames, one behind the
-- other.
pub record Wrote (frames : List Content) (gone out : List ℕ) : Type 0 where
  pub each : AreFrames MAX_BODY frames
  pub whole : gone ++ out ≡ canonical_texts frames

-- a call wrote these frames behind those that were written before
abbrev pub Adds : List Content → List ℕ → List ℕ → Type 0
Adds more old new = (frames : List Content) (gone : List ℕ) → Wrote frames gone old → Wrote (frames ++ more) gone new

-- the frames of a call: these where it is done, and else none
abbrev pub frames_if : {R E : Type 0} → Result R E → List Content → List Content
frames_if (Ok _) frames = frames
frames_if (Err _) frames = []

-- canonical texts of frames, one behind the other
pub record AreWhole (octets : List ℕ) : Type 0 where
  pub frames : List Content
  pub each : AreFrames MAX_BODY frames
  pub whole : octets ≡ canonical_texts frames
