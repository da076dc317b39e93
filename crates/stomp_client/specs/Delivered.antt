-- MESSAGEs as a server hands them out.
use Rattle.std.specs.Prelude.{◌≡◌, ℕ, Bool, true, ◌&&◌, is_some, List, codes}
use Rattle.stomp_frame.specs.declared.command.Command.TheVariants.{Message}
use Rattle.stomp_frame.specs.Frames.{Content, value_of}

-- whether a frame has a header of this name
abbrev pub has_header : List ℕ → Content → Bool
has_header name f = is_some (value_of name f.headers)

-- whether a MESSAGE has all headers that it needs: a client asks for answers, so `ack` is one of them
abbrev pub is_whole : Content → Bool
is_whole f = has_header (codes "destination") f && has_header (codes "message-id") f
    && has_header (codes "subscription") f && has_header (codes "ack") f

-- a MESSAGE with all headers that it needs, as `accept` tells it
pub record IsDelivered (f : Content) : Type 0 where
  pub command : f.command ≡ Message
  pub whole : is_whole f ≡ true
