-- The headers that a client's commands use.
use Rattle.std.specs.Prelude.{ℕ, Bool, false, ◌||◌, ◌==◌, not, nat_lt, is_none, List, [], ◌∷◌, filter, length, codes}
use Rattle.std.specs.Prelude.{Option, Some, None}
use Rattle.std.specs.Prelude.{unwrap_or}
use Rattle.std.specs.List.{list_any, slice_split}
use Rattle.std.specs.Str.{bytes_eq}
use Rattle.base.specs.declared.limits.TheConstants.{MAX_ECHOED}
use Rattle.stomp_frame.specs.declared.command.Command.{Command}
use Rattle.stomp_frame.specs.declared.command.Command.TheVariants.{Connect, Stomp, Send, Subscribe, Unsubscribe, Ack}
use Rattle.stomp_frame.specs.declared.command.Command.TheVariants.{Nack, Begin, Commit}
use Rattle.stomp_frame.specs.declared.command.Command.TheVariants.{Abort, Disconnect}
use Rattle.stomp_frame.specs.Frames.{Header, Content, value_of}

-- the headers that a command requires
abbrev pub required : Command → List (List ℕ)
required Connect = codes "accept-version" ∷ codes "host" ∷ []
required Stomp = codes "accept-version" ∷ codes "host" ∷ []
required Send = codes "destination" ∷ []
required Subscribe = codes "id" ∷ codes "destination" ∷ []
required Unsubscribe = codes "id" ∷ []
required Ack = codes "id" ∷ []
required Nack = codes "id" ∷ []
required Begin = codes "transaction" ∷ []
required Commit = codes "transaction" ∷ []
required Abort = codes "transaction" ∷ []
required _ = []

-- the headers whose values a server tells again, or may have to
abbrev pub echoed : Command → List (List ℕ)
echoed Send = codes "receipt" ∷ codes "transaction" ∷ []
echoed Subscribe = codes "receipt" ∷ codes "id" ∷ []
echoed Unsubscribe = codes "receipt" ∷ codes "id" ∷ []
echoed Ack = codes "receipt" ∷ codes "id" ∷ codes "transaction" ∷ []
echoed Nack = codes "receipt" ∷ codes "id" ∷ codes "transaction" ∷ []
echoed Begin = codes "receipt" ∷ codes "transaction" ∷ []
echoed Commit = codes "receipt" ∷ codes "transaction" ∷ []
echoed Abort = codes "receipt" ∷ codes "transaction" ∷ []
echoed Disconnect = codes "receipt" ∷ []
echoed _ = []

-- whether a frame has no header of a name
abbrev pub has_none : Content → List ℕ → Bool
has_none f name = is_none (value_of name f.headers)

-- whether a value has more octets than may be echoed
abbrev pub is_long : Option (List ℕ) → Bool
is_long None = false
is_long (Some value) = nat_lt MAX_ECHOED (length value)

-- whether a frame's first value of a name is so long
abbrev pub has_long : Content → List ℕ → Bool
has_long f name = is_long (value_of name f.headers)

-- the first value of a name; empty where there is none
abbrev pub text_of : Content → List ℕ → List ℕ
text_of f name = unwrap_or (value_of name f.headers) []

-- the headers of a SEND that a server uses or sets itself
abbrev pub is_used : Header → Bool
is_used h =
    bytes_eq h.name (codes "destination") || bytes_eq h.name (codes "transaction") || bytes_eq h.name (codes "receipt")
    || bytes_eq h.name (codes "message-id") || bytes_eq h.name (codes "subscription") || bytes_eq h.name (codes "ack")

-- the others, which its MESSAGEs take over
abbrev pub is_own : Header → Bool
is_own h = not (is_used h)

-- they, in order
abbrev pub own_headers : Content → List Header
own_headers f = filter is_own f.headers

-- whether one of the items between the commas of `accept-version` is 1.2
abbrev pub offers_version : List ℕ → Bool
offers_version versions = list_any (λ item. bytes_eq item (codes "1.2")) (slice_split (λ o. o == 44) versions)
