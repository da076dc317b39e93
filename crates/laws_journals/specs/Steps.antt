-- What may happen to three services and the envelopes between them, one step at a time.
use Rattle.std.specs.Prelude.{◌≡◌, ℕ, List, [], ◌∷◌, Contains}
use Rattle.std.specs.List.{AllByRecursion}
use Rattle.base.specs.declared.pair.Pair.{Pair}
use Rattle.envelope.specs.declared.message.Envelope.{Envelope}
use Rattle.envelope.specs.declared.message.Envelope.TheVariants.{Settle}
use Rattle.laws_journals.specs.Journals.{Journals, AreLawful}
use Rattle.laws_journals.specs.Envelopes.{IsAuthentic, SettledAreHandled, Raises}
use Rattle.laws_journals.specs.Growth.{AddsRowFrom}

-- the journals, what each sender marked settled, and every envelope that was ever sent
pub record Configuration : Type 0 where
  pub journals : Journals
  pub settled : Pair → ℕ
  pub sent : List Envelope

-- nothing has happened yet
abbrev pub start : Configuration
start = record { journals = record { orders = []; stocks = []; accounts = [] }; settled = λ pair. 0; sent = [] }

-- One step: a service writes a row, of a command or of a letter that was sent; a sender raises its mark, by a settle
-- that was sent; or a service sends what is authentic. What was sent may arrive never, late, many times and in any
-- order: nothing asks for a step. A call that failed took its step or took none.
pub data ConfigurationStep (old new : Configuration) : Type 0 where
  Writes : AddsRowFrom (Contains old.sent) old.journals new.journals → new.settled ≡ old.settled → new.sent ≡ old.sent
      → ConfigurationStep old new
  Marks : (pair : Pair) (count : ℕ) → Contains old.sent (Settle pair count) → Raises pair count old.settled new.settled
      → new.journals ≡ old.journals → new.sent ≡ old.sent → ConfigurationStep old new
  Sends : (envelope : Envelope) → IsAuthentic old.journals envelope → new ≡ record old { sent = envelope ∷ old.sent }
      → ConfigurationStep old new

-- one step after another leads through these to the last
abbrev pub IsConfigurationPath : Configuration → List Configuration → Configuration → Type 0
IsConfigurationPath old [] new = new ≡ old
IsConfigurationPath old (next ∷ path) new = ConfigurationStep old next × IsConfigurationPath next path new

-- some steps lead there, or none
abbrev pub Reaches : Configuration → Configuration → Type 0
Reaches old new = (path : List Configuration) × IsConfigurationPath old path new

-- each of these envelopes is authentic
abbrev pub AreAuthentic : Journals → List Envelope → Type 0
AreAuthentic js envelopes = AllByRecursion (IsAuthentic js) envelopes

-- the journals are lawful, marks are not ahead of handling, and all that was ever sent is authentic
pub record IsGoodConfiguration (x : Configuration) : Type 0 where
  pub lawful : AreLawful x.journals
  pub settled : SettledAreHandled x.journals x.settled
  pub authentic : AreAuthentic x.journals x.sent
