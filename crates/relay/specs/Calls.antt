-- What a relay's calls do.
use Rattle.std.specs.Prelude.{◌≡◌, ℕ, ◌+◌, ◌≤◌, ◌<◌, List, [], ◌∷◌, ◌++◌, length, Option, Some, None, Result, Ok, Err}
use Rattle.std.specs.Prelude.{⊤}
use Rattle.stomp_client.specs.declared.fault.ClientFault.TheVariants.{Closed}
use Rattle.stomp_client.specs.declared.session.Stage.{Stage}
use Rattle.stomp_client.specs.declared.session.Stage.TheVariants as stage
use Rattle.envelope.specs.declared.message.Letter.{Letter}
use Rattle.keep.specs.declared.change.LetterPlace.{LetterPlace}
use Rattle.keep.specs.Listing.{AreFirst}
use Rattle.keep.specs.Seen.{End, no_memory}
use Rattle.keep.specs.Tables.{Messages}
use Rattle.endpoint.specs.Faults.{end_cause}
use Rattle.endpoint.specs.declared.fault.EndFault.{EndFault}
use Rattle.relay.specs.Filling.{SendState, due, unsent, SendsLetters, StopsSending}
use Rattle.relay.specs.declared.fault.RelayFault.{RelayFault}
use Rattle.relay.specs.declared.fault.RelayFault.TheVariants.{Client, Endpoint}

-- what a relay answers without a look at any letter: before CONNECTED it sends none, and none after the end of the
-- session
abbrev pub idle_answer : Stage → Option (Result ℕ RelayFault)
idle_answer stage.Fresh = Some (Ok 0)
idle_answer stage.Connecting = Some (Ok 0)
idle_answer stage.Connected = None
idle_answer stage.Closed = Some (Err (Client Closed))

-- Of these letters those due are sent, up to the limit. Or a first part of them is, up to one that is due and can't be
-- sent.
abbrev pub FillsLetters : (limit : ℕ) → List Letter → (old new : SendState) → Result ℕ RelayFault → Type 0
FillsLetters limit letters old new (Ok count) = (count ≡ length (due limit old.marks letters))
    × SendsLetters (due limit old.marks letters) old new
FillsLetters limit letters old new (Err fault) =
    (count : ℕ) × (count < limit) × (length (due (count + 1) old.marks letters) ≡ count + 1)
    × SendsLetters (due count old.marks letters) old new × StopsSending new.client.receipts.last fault

-- why it stopped behind these letters: the store told, or the next one that is due couldn't be sent
abbrev pub StopsBehind : (clean : Type 0) → (messages : Messages) → (after : Option LetterPlace) → List Letter → (last : ℕ)
    → RelayFault → Type 0
StopsBehind clean messages after letters last (Endpoint fault) = ⊤
StopsBehind clean messages after letters last fault = StopsSending last fault
    × (clean → (l : Letter) × AreFirst messages after (length letters + 1) (letters ++ l ∷ []))

-- of these messages the first ones after a place were sent, up to the limit; or a first part of these, and why no more
abbrev pub Gives : (clean : Type 0) → (messages : Messages) → (after : Option LetterPlace) → (limit : ℕ) → List Letter
    → (last : ℕ)
    → Result ℕ RelayFault → Type 0
Gives clean messages after limit letters last (Ok count) =
    (count ≡ length letters) × (clean → AreFirst messages after limit letters)
Gives clean messages after limit letters last (Err fault) = (clean → AreFirst messages after (length letters) letters)
    × StopsBehind clean messages after letters last fault

-- Of all messages that stand in the outbox those that are due are sent, the first ones by pair and number, up to the
-- limit. `clean` is that no file is in doubt.
pub record Fills (clean : Type 0) (messages : Messages) (limit : ℕ) (old new : SendState) (result : Result ℕ RelayFault)
    : Type 0 where
  pub letters : List Letter
  pub sends : SendsLetters letters old new
  pub within : length letters ≤ limit
  pub gives : Gives clean (unsent old.marks messages) None limit letters new.client.receipts.last result

-- how a filling ends for the store: as a read that was done, or wasn't
abbrev pub store_end : {R : Type 0} → Result R RelayFault → End R EndFault
store_end (Ok r) = Ok r
store_end (Err (Endpoint fault)) = Err (end_cause fault)
store_end (Err _) = Err no_memory
