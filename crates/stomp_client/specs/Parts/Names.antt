-- Names of the headers that a client writes.
use Rattle.std.specs.Prelude.{ℕ, Bool, ◌&&◌, not, nat_lt, nat_le, List, length, codes}
use Rattle.std.specs.Str.{bytes_eq}
use Rattle.stomp_frame.specs.Frames.{has}

-- a name of 1 to 128 octets without NUL, and not the one that tells a body's length
abbrev pub is_name : List ℕ → Bool
is_name name = nat_lt 0 (length name) && nat_le (length name) 128 && not (has 0 name)
    && not (bytes_eq name (codes "content-length"))
