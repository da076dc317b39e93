-- Whose rows a journal has: a command of seat 0, and then two letters.
use Rattle.std.proofs.Common.{◌≡◌, List, [], ◌∷◌, refl}
use Rattle.base.specs.Entity.{Entity}
use Rattle.envelope.specs.declared.message.Message.TheVariants.{Tentative}
use Rattle.activities.specs.declared.input.Input.TheVariants.{FromSeat, FromEntity}
use Rattle.activities.specs.declared.input.JournalRow.{JournalRow}
use Rattle.shared_endpoint.specs.Token.{hand_number, scout_number, rows_of}

module _ {C : Type 0} (place : C) (o1 bolts acme : Entity) where
  -- the order is placed, and its partners hold what it asks
  abbrev pub placed : JournalRow C
  placed = record { entity = o1; input = FromSeat 0 place }

  abbrev pub held : Entity → JournalRow C
  held partner = record { entity = o1; input = FromEntity partner 1 Tentative }

  abbrev pub rows : List (JournalRow C)
  rows = placed ∷ held bolts ∷ held acme ∷ []

  -- the list of seat 0 is its one command, at position 1; those of the other seats are empty
  of_seat_0 : rows_of 0 1 rows ≡ (1, placed) ∷ []
  of_seat_0 = refl

  of_seat_1 : rows_of 1 1 rows ≡ []
  of_seat_1 = refl

  of_seat_15 : rows_of 15 1 rows ≡ []
  of_seat_15 = refl

  -- the Hand's is both letters, behind it; the Scout takes in nothing
  of_hand : rows_of hand_number 1 rows ≡ (2, held bolts) ∷ (3, held acme) ∷ []
  of_hand = refl

  of_scout : rows_of scout_number 1 rows ≡ []
  of_scout = refl
