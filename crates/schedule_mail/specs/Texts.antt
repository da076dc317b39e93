-- The octets of a SEND that is sent again, and what its session is told where it is refused.
use Rattle.std.specs.Prelude.{◌≡◌, ℕ, List, ◌∷◌, ◌++◌, codes, None}
use Rattle.stomp_frame.specs.declared.command.Command.TheVariants.{Send}
use Rattle.stomp_frame.specs.Frames.{Content, header, frame, canonical}
use Rattle.stomp_session.specs.Replies.{connected_frame, error_frame}
use Rattle.stomp_client.specs.Frames.{connect_frame}
use Rattle.broker_book.specs.declared.parts.Sent.{Sent}

-- the SEND of these parts: its destination, its own headers and its body
abbrev pub send_frame : Sent → Content
send_frame s = frame Send (header (codes "destination") s.destination ∷ s.headers) s.body

-- what is fed: CONNECT and the SEND
abbrev pub again_text : Sent → List ℕ
again_text s = canonical connect_frame ++ canonical (send_frame s)

-- what a session is told where its SEND is refused
abbrev pub told : ℕ → List ℕ → List ℕ
told number name = canonical connected_frame ++ canonical (error_frame number name None)

-- where the destination is full
abbrev pub told_full : List ℕ
told_full = told 32 (codes "QueueFull")

-- where no message number is left
abbrev pub told_used : List ℕ
told_used = told 36 (codes "TooMany")

-- the three texts
pub record AreTexts (sent : Sent) (asked full used : List ℕ) : Type 0 where
  pub asks : asked ≡ again_text sent
  pub is_full : full ≡ told_full
  pub is_used : used ≡ told_used
