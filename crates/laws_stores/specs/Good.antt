-- What always holds of three services, in each combination of what a stop may leave of their stores.
use Rattle.std.specs.Prelude.{◌≡◌, ℕ, Some}
use Rattle.base.specs.declared.entity.Kind.{Kind}
use Rattle.base.specs.declared.entity.Kind.TheVariants.{Order, Stock, Account}
use Rattle.base.specs.declared.pair.Pair.{Pair}
use Rattle.envelope.specs.declared.message.Envelope.{Envelope}
use Rattle.envelope.specs.declared.message.Envelope.TheVariants.{Letter, Settle}
use Rattle.keep.specs.Tables.{Messages}
use Rattle.laws_journals.specs.Journals.{Journals, AreLawful}
use Rattle.laws_journals.specs.Envelopes.{IsAuthentic, SettledAreHandled}
use Rattle.laws_journals.specs.Agreement.{states_in, AreSound}
use Rattle.laws_stores.specs.Sight.{AllTables, Sight, MayLeave}

-- the journals of all three
abbrev pub journals_of : AllTables → Journals
journals_of t = record { orders = t.purchasing.journal; stocks = t.warehouse.journal; accounts = t.billing.journal }

-- what a service marks as settled, by the kind of its entities, which are the senders
abbrev pub settled_by : AllTables → Kind → Pair → ℕ
settled_by t Order = t.purchasing.settled
settled_by t Stock = t.warehouse.settled
settled_by t Account = t.billing.settled

-- what the sender of a pair marks as settled
abbrev pub settled_in : AllTables → Pair → ℕ
settled_in t pair = settled_by t pair.from.kind pair

-- the letters that a service holds, by the kind of its entities
abbrev pub letters_held_by : AllTables → Kind → Messages
letters_held_by t Order = t.purchasing.held
letters_held_by t Stock = t.warehouse.held
letters_held_by t Account = t.billing.held

-- a letter of this pair, number and message is held
abbrev pub IsHeldIn : Messages → Envelope → Type 0
IsHeldIn held (Letter l) = held l.pair l.number ≡ Some l.message
IsHeldIn held (Settle pair count) = ⊥

-- all letters that are held are authentic
abbrev pub HoldsAuthentic : AllTables → Type 0
HoldsAuthentic t = (kind : Kind) (e : Envelope) → IsHeldIn (letters_held_by t kind) e → IsAuthentic (journals_of t) e

-- The envelope is authentic, whatever a stop leaves: a letter is what its sender's journal sends under that number, and
-- a settle isn't ahead of what its receiver's journal handled.
abbrev pub IsGenuine : Sight → Envelope → Type 0
IsGenuine s e = (t : AllTables) → MayLeave s t → IsAuthentic (journals_of t) e

-- Whatever a stop leaves: the journals are lawful, what a sender marks as settled its receiver has handled, and a
-- letter that one service may hold is genuine.
pub record IsGood (s : Sight) : Type 0 where
  pub lawful : (t : AllTables) → MayLeave s t → AreLawful (journals_of t)
  pub settled : (t : AllTables) → MayLeave s t → SettledAreHandled (journals_of t) (settled_in t)
  pub held : (t : AllTables) → MayLeave s t → (kind : Kind) (e : Envelope) → IsHeldIn (letters_held_by t kind) e
      → IsGenuine s e

-- Whatever a stop leaves: the partners of each order agree, and of each stock and each account nothing is lost or used
-- twice.
abbrev pub AllAgree : Sight → Type 0
AllAgree s = (t : AllTables) → MayLeave s t → AreSound (states_in (journals_of t))
