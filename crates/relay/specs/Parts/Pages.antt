-- A filling, page by page.
use Rattle.std.specs.Prelude.{◌≡◌, ℕ, ◌+◌, ◌≤◌, ◌⊎◌, List, [], ◌∷◌, ◌++◌, length, Bool, true, false}
use Rattle.std.specs.Prelude.{Option, Some, None, Result, Ok, Err, ⊤}
use Rattle.stomp_client.specs.declared.session.Stage.TheVariants.{Connected}
use Rattle.base.specs.declared.pair.Pair.{Pair}
use Rattle.envelope.specs.declared.message.Letter.{Letter}
use Rattle.keep.specs.declared.change.LetterPlace.{LetterPlace}
use Rattle.keep.specs.Law.{Reads}
use Rattle.keep.specs.Listing.{AreFirst}
use Rattle.keep.specs.Seen.{Seen}
use Rattle.keep.specs.Tables.{Tables, Messages}
use Rattle.endpoint.specs.Calls.{Stays}
use Rattle.endpoint.specs.declared.fault.EndFault.{EndFault}
use Rattle.relay.specs.Filling.{SendState, due, unsent, SendsLetters}
use Rattle.relay.specs.Calls.{Gives}
use Rattle.relay.specs.declared.fault.RelayFault.{RelayFault}

-- Of some letters these are the first that are due, so many; they were sent, and what is due of the rest comes behind
-- them.
pub record IsFilling (limit : ℕ) (letters : List Letter) (old now : SendState) (count : ℕ) (rest : List Letter) : Type 0
  where
    pub done : List Letter
    pub whole : (k : ℕ) → due (count + k) old.marks letters ≡ done ++ due k now.marks rest
    pub number : count ≡ length done
    pub within : count ≤ limit
    pub sends : SendsLetters done old now
    pub stage : now.client.stage ≡ Connected

-- what is due first behind the one place makes, behind these letters, what was due first behind the other
abbrev pub GoesOn : (messages : Messages) → (old now : SendState) → (after next : Option LetterPlace) → List Letter → Type 0
GoesOn messages old now after next letters =
    (k : ℕ) (more : List Letter) → AreFirst (unsent now.marks messages) next k more
    → AreFirst (unsent old.marks messages) after (length letters + k) (letters ++ more)

-- how a page ends: no more is to be sent; or it goes on behind this place; or it stopped
abbrev pub EndsPage : (clean : Type 0) → Messages → (after next : Option LetterPlace) → (limit : ℕ) → (old new : SendState)
    → List Letter
    → Result (ℕ × Bool) RelayFault → Type 0
EndsPage clean messages after next limit old new letters (Ok (count, false)) =
    Gives clean (unsent old.marks messages) after limit letters new.client.receipts.last (Ok count)
EndsPage clean messages after next limit old new letters (Ok (count, true)) =
    (count ≡ length letters) × (clean → GoesOn messages old new after next letters)
EndsPage clean messages after next limit old new letters (Err fault) =
    Gives clean (unsent old.marks messages) after limit letters new.client.receipts.last (Err fault)

-- what is due of a page after a place was sent
pub record FillsPage (clean : Type 0) (messages : Messages) (after next : Option LetterPlace) (limit : ℕ)
    (old new : SendState)
    (result : Result (ℕ × Bool) RelayFault) : Type 0 where
  pub letters : List Letter
  pub sends : SendsLetters letters old new
  pub within : length letters ≤ limit
  pub ends : EndsPage clean messages after next limit old new letters result

-- the pages behind the one place begin behind this one: the same, or one of its pair up to which all was sent
abbrev pub Jumps : (Pair → ℕ) → Option LetterPlace → Option LetterPlace → Type 0
Jumps marks (Some here) (Some next) = (next.pair ≡ here.pair) × (here.number ≤ next.number)
    × ((next.number ≡ here.number) ⊎ (next.number ≡ marks here.pair))
Jumps marks (Some here) None = ⊥
Jumps marks None next = ⊥

-- and they are the pages behind the place itself, where there is no such place
abbrev pub StaysOrJumps : (Pair → ℕ) → Option LetterPlace → Option LetterPlace → Type 0
StaysOrJumps marks here next = (next ≡ here) ⊎ Jumps marks here next

-- none of these letters is above what was sent of its pair
abbrev pub AreSent : (Pair → ℕ) → List Letter → Type 0
AreSent marks [] = ⊤
AreSent marks (l ∷ ls) = (l.number ≤ marks l.pair) × AreSent marks ls

-- a store was read, or nothing was done
abbrev pub HasRead : {E S C : Type 0} → (E → Seen (Tables S C)) → (old now : E) → Type 0
HasRead seen old now =
    (now ≡ old) ⊎ (Reads seen old now {R = Unit {0}} {F = EndFault} (λ _ _. ⊤) (Ok tt) × Stays seen old now)

-- so far these letters were sent, and what is due behind that place comes next
pub record HasFilled (clean : Type 0) (messages : Messages) (limit : ℕ) (old now : SendState) (count : ℕ)
    (after : Option LetterPlace)
    : Type 0 where
  pub letters : List Letter
  pub sends : SendsLetters letters old now
  pub number : count ≡ length letters
  pub within : count ≤ limit
  pub stage : now.client.stage ≡ Connected
  pub goes_on : clean → GoesOn messages old now None after letters
