-- Who uses a shared endpoint, and what of a journal is whose.
use Rattle.std.specs.Prelude.{ℕ, suc, ◌==◌, Bool, List, [], ◌∷◌, if◌then◌else◌}
use Rattle.base.specs.declared.limits.TheConstants.{SEATS}
use Rattle.activities.specs.declared.input.Input.{Input}
use Rattle.activities.specs.declared.input.Input.TheVariants.{FromSeat, FromEntity}
use Rattle.activities.specs.declared.input.JournalRow.{JournalRow}

-- a token of the service: a seat by its number, the Hand, or the Scout
pub data Token : Type 0 where
  the_seat : ℕ → Token
  the_hand : Token
  the_scout : Token

-- the number by which the lock knows it
abbrev pub number_of : Token → ℕ
number_of (the_seat n) = n
number_of the_hand = SEATS
number_of the_scout = suc SEATS

abbrev pub hand_number : ℕ
hand_number = number_of the_hand

abbrev pub scout_number : ℕ
scout_number = number_of the_scout

-- whether the token of this number takes in such inputs: a seat its commands, the Hand all letters
abbrev pub is_of : {C : Type 0} → ℕ → Input C → Bool
is_of n (FromSeat seat command) = seat == n
is_of n (FromEntity sender number message) = hand_number == n

-- a token's list: what a journal has of it, each row with its position; the first row's is given
abbrev pub rows_of : {C : Type 0} → ℕ → ℕ → List (JournalRow C) → List (ℕ × JournalRow C)
rows_of n pos [] = []
rows_of n pos (row ∷ rows) =
    if is_of n row.input then (pos, row) ∷ rows_of n (suc pos) rows else rows_of n (suc pos) rows
