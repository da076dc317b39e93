-- What takes back the answers of a transaction that is refused.
use Rattle.std.specs.Prelude.{◌≡◌, ℕ, Bool, true, false, not, ◌&&◌, ◌==◌, nat_le, if◌then◌else◌, List, [], ◌∷◌, filter}
use Rattle.std.specs.Prelude.{map}
use Rattle.std.specs.Prelude.{Option, Some}
use Rattle.std.specs.List.{list_any}
use Rattle.broker_book.specs.Books.{Fate, Ready, Out}
use Rattle.broker_index.specs.Index.{Kept}
use Rattle.broker_index.specs.Standing.{fate_of}
use Rattle.broker_queues.specs.declared.transactions.Logged.{Logged}
use Rattle.broker_queues.specs.Parts.Facts.{kept_at, notes}
use Rattle.broker_queues.specs.Parts.Fates.{passes, fated, fate_of_kept}
use Rattle.broker_index.specs.declared.places.Entry.{Entry}

-- whether a fate is out to anyone
abbrev pub is_out_fate : Fate → Bool
is_out_fate Ready = false
is_out_fate (Out session id number) = true

-- a message with the fate that it had, unless it is out or another
abbrev pub with_back : ℕ → Option Fate → Kept → Kept
with_back number fate k = if (number == k.number) && not (passes is_out_fate k.fate) then fated fate k else k

-- a message with its fate before what was noted
abbrev pub undone : List Logged → Kept → Kept
undone [] k = k
undone (e ∷ log) k = with_back e.number (fate_of e.standing) (undone log k)

-- whether a message is among what was noted
abbrev pub mentions : ℕ → List Logged → Bool
mentions number log = list_any (λ e. e.number == number) log

-- what was noted is so: these messages are out, as noted
abbrev pub AreTrue : List Kept → List Logged → Type 0
AreTrue kept [] = Unit {0}
AreTrue kept (e ∷ log) = (fate_of_kept (kept_at e.number kept) ≡ fate_of e.standing)
    × (passes is_out_fate (fate_of e.standing) ≡ true) × AreTrue kept log

-- each message among deliveries that passes a test was noted
abbrev pub AreAll : (Fate → Bool) → List Kept → List Entry → List Logged → Type 0
AreAll test kept entries log =
    (n : ℕ) (k : Kept) → kept_at n kept ≡ Some k → passes test k.fate ≡ true → notes n entries ≡ true
    → mentions n log ≡ true

-- the messages up to a number, with their fates before what was noted
abbrev pub before : ℕ → List Logged → List Kept → List Kept
before last log kept = filter (λ k. nat_le k.number last) (map (undone log) kept)
