-- What was accepted: where it stands, and whether it is what was sent again.
use Rattle.std.specs.Prelude.{◌≡◌, ◌≢◌, ℕ, zero, suc, Bool, true, false, ◌&&◌, if◌then◌else◌, List, [], ◌∷◌, Option}
use Rattle.std.specs.Prelude.{Some, None}
use Rattle.std.specs.Prelude.{Result, Ok, Err, slice_get}
use Rattle.std.specs.Str.{bytes_eq}
use Rattle.stomp_frame.specs.Frames.{Header}
use Rattle.broker_book.specs.declared.parts.Accepted.{Accepted}
use Rattle.broker_book.specs.declared.parts.Sent.{Sent}
use Rattle.schedule_mail.specs.Texts.{told_full, told_used}
use Rattle.schedule_mail.specs.declared.repeat_fault.RepeatFault.{RepeatFault}
use Rattle.schedule_mail.specs.declared.repeat_fault.RepeatFault.TheVariants.{QueueFull, Memory, TooMany}

-- ---- places

-- what stands at a place, which counts from 1
abbrev pub at_place : {A : Type 0} → ℕ → List A → Option A
at_place zero xs = None
at_place (suc index) xs = slice_get xs index

-- what an accepted SEND brought, if there is one
abbrev pub sent_in : Option Accepted → Option Sent
sent_in None = None
sent_in (Some a) = Some a.sent

-- what the SEND at a place brought, if so many were accepted
abbrev pub sent_at : ℕ → List Accepted → Option Sent
sent_at place accepted = sent_in (at_place place accepted)

-- ---- what was accepted

-- whether both are one header
abbrev pub same_header : Header → Header → Bool
same_header a b = bytes_eq a.name b.name && bytes_eq a.value b.value

-- whether these are the same headers in the same order
abbrev pub same_headers : List Header → List Header → Bool
same_headers [] [] = true
same_headers (a ∷ one) (b ∷ other) = same_header a b && same_headers one other
same_headers _ _ = false

-- whether both brought the same
abbrev pub same_sent : Sent → Sent → Bool
same_sent a b = bytes_eq a.destination b.destination && (same_headers a.headers b.headers && bytes_eq a.body b.body)

-- the number of the message as which a SEND was accepted, where it alone was
abbrev pub again_of : Sent → List Accepted → Option ℕ
again_of sent (a ∷ []) = if same_sent a.sent sent then Some a.number else None
again_of sent _ = None

-- a SEND alone was accepted, as the message of this number
abbrev pub IsAgain : Sent → ℕ → List Accepted → Type 0
IsAgain sent number accepted = accepted ≡ record { number = number; sent = sent } ∷ []

-- What is answered: the new message's number where the SEND was accepted; else what its session was told, and for want
-- of memory neither.
abbrev pub TellsRepeat : Sent → List Accepted → List ℕ → Result (Option ℕ) RepeatFault → Type 0
TellsRepeat sent accepted out (Ok (Some number)) = IsAgain sent number accepted
TellsRepeat sent accepted out (Ok None) = ⊥
TellsRepeat sent accepted out (Err QueueFull) = ((m : ℕ) → IsAgain sent m accepted → ⊥) × (out ≡ told_full)
TellsRepeat sent accepted out (Err TooMany) = ((m : ℕ) → IsAgain sent m accepted → ⊥) × (out ≡ told_used)
TellsRepeat sent accepted out (Err Memory) = ((m : ℕ) → IsAgain sent m accepted → ⊥) × (out ≢ told_full)
    × (out ≢ told_used)
