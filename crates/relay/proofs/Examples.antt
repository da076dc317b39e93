-- Examples: what is due on a connection, and cursors that are right of an outbox and others that aren't.
use Rattle.std.proofs.Common.{◌≡◌, ◌≤◌, ℕ, zero, suc, ◌^◌, ◌-◌, [], ◌∷◌, Bool, true, false, Option, Some, None, Ok, Err}
use Rattle.std.proofs.Common.{refl, ap}
use Rattle.std.proofs.Common.{arith, inl, inr}
use Rattle.std.specs.Prelude.{IsSome, if◌then◌else◌}
use Rattle.base.specs.Entity.{Entity}
use Rattle.base.specs.Order.{same_entity, same_pair}
use Rattle.base.specs.declared.pair.Pair.{Pair}
use Rattle.stomp_client.specs.declared.fault.ClientFault.TheVariants as client
use Rattle.stomp_client.specs.declared.session.Stage.TheVariants as stage
use Rattle.envelope.specs.declared.fault.EnvelopeFault.TheVariants as envelope_fault
use Rattle.envelope.specs.declared.message.Letter.{Letter}
use Rattle.envelope.specs.declared.message.Message.TheVariants.{Cancel}
use Rattle.activities.specs.Numbered.{nth}
use Rattle.activities.proofs.Asking.{Asked}
use Rattle.keep.specs.declared.change.LetterPlace.{LetterPlace}
use Rattle.keep.specs.Seen.{no_memory, failed}
use Rattle.keep.specs.Tables.{Messages}
use Rattle.endpoint.specs.declared.fault.EndFault.TheVariants.{StoreFailed}
use Rattle.endpoint.specs.Deeds.{Kept}
use Rattle.endpoint.proofs.Examples.{bolts, acme, placing, from_order}
use Rattle.endpoint.proofs.CallExamples.{orders}
use Rattle.relay.specs.Calls.{idle_answer, store_end}
use Rattle.relay.specs.Filling.{marks_of, unsent, due, StopsSending}
use Rattle.relay.specs.Knowing.{IsUpto, AllSent, KnowsRows, Knows}
use Rattle.relay.specs.declared.fault.RelayFault.TheVariants as fault
use Rattle.relay.specs.declared.relay.Relay.{Relay}

-- ---- what is due

-- where number 1 of each pair was sent, those behind it are unsent
what_was_sent_is_left_out : (unsent (λ _. 1) (λ _ _. Some Cancel) (from_order bolts) 1 ≡ None)
    × (unsent (λ _. 1) (λ _ _. Some Cancel) (from_order bolts) 2 ≡ Some Cancel)
what_was_sent_is_left_out = (refl, refl)

abbrev letter : Entity → ℕ → Letter
letter receiver number = record { pair = from_order receiver; number = number; message = Cancel }

-- the first that are due up to the limit; a letter that stands twice is due once, and one that was sent isn't
letters_are_due_once : (due 2 (λ _. 0) (letter bolts 1 ∷ letter acme 1 ∷ letter acme 2 ∷ [])
    ≡ letter bolts 1 ∷ letter acme 1 ∷ [])
    × (due 9 (λ _. 0) (letter bolts 1 ∷ letter bolts 1 ∷ letter acme 1 ∷ []) ≡ letter bolts 1 ∷ letter acme 1 ∷ [])
    × (due 9 (λ _. 1) (letter bolts 1 ∷ letter acme 2 ∷ []) ≡ letter acme 2 ∷ [])
    × (due 0 (λ _. 0) (letter bolts 1 ∷ []) ≡ [])
unfolding same_entity same_pair
letters_are_due_once = (refl, refl, refl, refl)

-- before CONNECTED nothing is sent, and none after the end; only the last receipt number stops a relay that has memory
relays_are_idle : (idle_answer stage.Fresh ≡ Some (Ok 0)) × (idle_answer stage.Connected ≡ None)
    × (idle_answer stage.Closed ≡ Some (Err (fault.Client client.Closed)))
    × StopsSending (2 ^ 64 - 1) (fault.Client client.NumbersUsed)
    × (StopsSending 7 (fault.Client client.NumbersUsed) → ⊥)
    × StopsSending 7 (fault.Envelope envelope_fault.Memory)
    × (StopsSending (2 ^ 64 - 1) (fault.Client client.Memory) → ⊥)
    × (StopsSending 7 (fault.Endpoint StoreFailed) → ⊥)
    × (store_end {R = ℕ} (Err (fault.Endpoint StoreFailed)) ≡ Err failed)
    × (store_end {R = ℕ} (Err (fault.Client client.Closed)) ≡ Err no_memory)
relays_are_idle =
    (refl, refl, refl, refl, λ h. omega (arith, h), omega arith, λ h. omega (arith, h), λ h. h, refl, refl)

-- ---- what a cursor tells

abbrev at : Entity → ℕ → LetterPlace
at receiver number = record { pair = from_order receiver; number = number }

-- a place stands up to itself, and what comes before it does: a lower number, a receiver before in order; nothing
-- stands up to none
places_stand_up_to : IsUpto (Some (at bolts 2)) (at bolts 2) × IsUpto (Some (at bolts 2)) (at bolts 1)
    × IsUpto (Some (at bolts 2)) (at acme 7)
    × (IsUpto (Some (at bolts 2)) (at bolts 3) → ⊥) × (IsUpto (Some (at acme 7)) (at bolts 1) → ⊥)
    × (IsUpto None (at bolts 1) → ⊥)
places_stand_up_to = (inr refl, inl refl, inl refl, higher, behind, λ h. h)
  where
    higher : IsUpto (Some (at bolts 2)) (at bolts 3) → ⊥
    higher (inl before) = absurd (cc)
    higher (inr same) = let number : 3 ≡ 2 = ap (λ (x : LetterPlace). x.number) same in omega (arith, number)

    behind : IsUpto (Some (at acme 7)) (at bolts 1) → ⊥
    behind (inl before) = absurd (cc)
    behind (inr same) = let number : 1 ≡ 7 = ap (λ (x : LetterPlace). x.number) same in omega (arith, number)

-- messages of which one stands at each pair, with the number 1
abbrev ones : Messages
ones pair zero = None
ones pair (suc zero) = Some Cancel
ones pair (suc (suc n)) = None

ones_are_first : (p : Pair) (n : ℕ) → IsSome (ones p n) → n ≤ 1
ones_are_first p zero some = omega arith
ones_are_first p (suc zero) some = omega arith
ones_are_first p (suc (suc n)) some = let none : false ≡ true = some in absurd (cc)

-- they were sent where each mark is 1; where none is, no place that such a message stands up to is right, and no place
-- is always right
all_was_sent : AllSent (λ _. 1) ones (Some (at bolts 2)) × AllSent (λ _. 0) ones None
    × (AllSent (λ _. 0) ones (Some (at bolts 1)) → ⊥)
all_was_sent = (
  λ x upto some. ones_are_first x.pair x.number some,
  λ x upto some. absurd upto,
  λ h. let sent = h (at bolts 1) (inr refl) refl in omega (arith, sent),
)

-- ---- cursors

-- a relay that sent nothing
module _ (fresh : Relay) (nothing : (p : Pair) → marks_of fresh p ≡ 0) where
  -- with a cursor at a place behind so many rows
  abbrev cursor : Option LetterPlace → ℕ → Relay
  cursor behind rows = record fresh { behind = behind; rows = rows }

  -- with no place it is right of any messages; it isn't of rows that there aren't, nor with a place that an unsent
  -- message stands up to
  rows_are_known : KnowsRows (cursor None 1) 1 ones × KnowsRows (cursor None 1) 2 ones
      × (KnowsRows (cursor None 2) 1 ones → ⊥)
      × (KnowsRows (cursor (Some (at bolts 1)) 1) 1 ones → ⊥)
  rows_are_known = (
    (omega arith, λ x upto some. absurd upto),
    (omega arith, λ x upto some. absurd upto),
    λ h. let rows = h.0 in omega (arith, rows),
    λ h. let none =
        nothing (from_order bolts) in let sent = h.1 (at bolts 1) (inr refl) refl in omega (arith, none, sent),
  )

  -- what was kept after the order was placed, with nothing settled
  abbrev placed : Kept Asked
  placed = record { journal = placing ∷ []; settled = λ _. 0; held = λ _ _. None }

  -- no row sends nothing
  nothing_stands : (n : ℕ) (b : Bool) → IsSome (if b then nth [] n else None) → ⊥
  nothing_stands zero true some = let none : false ≡ true = some in absurd (cc)
  nothing_stands (suc n) true some = let none : false ≡ true = some in absurd (cc)
  nothing_stands n false some = let none : false ≡ true = some in absurd (cc)

  -- a cursor of no row tells nothing of the row that came later; one that had the row, and passed over its letter
  -- unsent, isn't right
  cursors_are_right_or_not : Knows orders (cursor None 1) placed × Knows orders (cursor (Some (at bolts 1)) 0) placed
      × (Knows orders (cursor (Some (at bolts 1)) 1) placed → ⊥)
      × (Knows orders (cursor None 2) placed → ⊥)
  unfolding same_entity
  cursors_are_right_or_not = (
    (omega arith, λ x upto some. absurd upto),
    (omega arith, λ x upto some. absurd (nothing_stands x.number _ some)),
    λ h. let none =
        nothing (from_order bolts) in let sent = h.1 (at bolts 1) (inr refl) refl in omega (arith, none, sent),
    λ h. let rows = h.0 in omega (arith, rows),
  )
