-- A MESSAGE of which nothing is escaped, part by part as it is written.
use Rattle.std.specs.Prelude.{ℕ, Bool, ◌&&◌, List, [], ◌++◌, codes, Option, Some, None}
use Rattle.std.specs.List.{list_all}
use Rattle.std.specs.Fmt.{decimal}
use Rattle.stomp_frame.specs.Frames.{Header}
use Rattle.stomp_frame.specs.Inner.Writing.{is_as_is}
use Rattle.stomp_session.specs.Replies.{Delivered}

-- whether nothing of a header is escaped
abbrev pub is_plain_header : Header → Bool
is_plain_header h = is_as_is h.name && is_as_is h.value

-- whether nothing of a delivery's texts is escaped
abbrev pub is_plain_message : Delivered → Bool
is_plain_message d = is_as_is d.destination && is_as_is d.subscription && list_all is_plain_header d.headers

-- the line of the delivery's number, behind an LF and without its own
abbrev pub ack_text : Option ℕ → List ℕ
ack_text None = []
ack_text (Some number) = codes "\nack:" ++ decimal number
