-- What a filling passes over where the journal has new rows.
use Rattle.std.specs.Prelude.{◌≡◌, ◌≢◌, ℕ, ◌≤◌, List, [], Option, Some, None, IsSome, ⊤}
use Rattle.std.specs.declared.cmp.Ordering.TheVariants.{Less, Greater}
use Rattle.base.specs.Entity.{Entity}
use Rattle.base.specs.Order.{entity_cmp}
use Rattle.base.specs.declared.pair.Pair.{Pair}
use Rattle.activities.specs.declared.input.JournalRow.{JournalRow}
use Rattle.activities.specs.Journal.{part}
use Rattle.keep.specs.declared.change.LetterPlace.{LetterPlace}
use Rattle.keep.specs.Listing.{IsAfter}
use Rattle.keep.specs.Tables.{Messages}
use Rattle.relay.specs.Knowing.{IsUpto}

-- of what stands up to a place, that whose sender has none of these rows isn't above what was sent of its pair
abbrev pub SentBut : {C : Type 0} → List (JournalRow C) → (Pair → ℕ) → Messages → Option LetterPlace → Type 0
SentBut news marks messages reach =
    (x : LetterPlace) → IsUpto reach x → part x.pair.from news ≡ [] → IsSome (messages x.pair x.number)
    → x.number ≤ marks x.pair

-- an entity doesn't come before the sender of a place
abbrev pub IsFrom : Option LetterPlace → Entity → Type 0
IsFrom None e = ⊤
IsFrom (Some a) e = entity_cmp e a.pair.from ≢ Less

-- the first entity of these rows that doesn't come before the sender of a place, or there is none
abbrev pub IsFirstFrom : {C : Type 0} → List (JournalRow C) → Option LetterPlace → Option Entity → Type 0
IsFirstFrom news behind None = (f : Entity) → IsFrom behind f → part f news ≡ []
IsFirstFrom news behind (Some e) = (f : Entity) → IsFrom behind f → entity_cmp f e ≡ Less → part f news ≡ []

-- from the one place up to the other no sender has one of these rows
abbrev pub IsClear : {C : Type 0} → List (JournalRow C) → Option LetterPlace → LetterPlace → Type 0
IsClear news behind place = (f : Entity) → IsFrom behind f → entity_cmp f place.pair.from ≢ Greater → part f news ≡ []

-- the one place isn't behind the other, and what stands between them was sent
abbrev pub Skips : (Pair → ℕ) → Messages → (here next : Option LetterPlace) → Type 0
Skips marks messages here next = ((x : LetterPlace) → IsAfter next x → IsAfter here x)
    × ((x : LetterPlace) → IsAfter here x → IsUpto next x → IsSome (messages x.pair x.number) → x.number ≤ marks x.pair)
