-- The rows that are written for messages and for what entities took in are read as these.
use Rattle.std.proofs.Common.{◌≡◌, ◌<◌, ℕ, ℤ, pos, List, [], ◌∷◌, true, Some, None, refl, ap, ap₂, ◌∙◌}
use Rattle.std.proofs.Common.{arith}
use Rattle.std.specs.Prelude.{unwrap_or, nat_lt, option_map, option_and_then, if◌then◌else◌}
use Rattle.std.proofs.lemmas.Bool.Decides.{nat_tests}
use Rattle.sqlite.specs.declared.types.Value.TheVariants.{Null, Int, Text}
use Rattle.base.specs.Entity.{Entity, IsEntity, text_of}
use Rattle.base.specs.Number.{is_number}
use Rattle.envelope.specs.Bodies.{body_of, IsMessage}
use Rattle.envelope.specs.declared.message.Message.{Message}
use Rattle.envelope.specs.Reading.{read_entity, read_message, as_number}
use Rattle.envelope.proofs.Texts.{read_entity-text_of, read_message-body_of}
use Rattle.activities.specs.declared.input.Input.{Input}
use Rattle.activities.specs.declared.input.Input.TheVariants.{FromSeat, FromEntity}
use Rattle.activities.specs.declared.input.JournalRow.{JournalRow}
use Rattle.keep_sqlite.specs.Filing.{Filing}
use Rattle.keep_sqlite.specs.Tables.{message_in, entity_in, number_at, no_input, row_in}
use Rattle.sql_bodies.specs.Columns.{input_from}

-- a column with a message's body is read as that message
pub message_read : (m : Message) (b : List ℕ) → IsMessage m → b ≡ body_of m → message_in (Text b) ≡ m
message_read m b is e = rw (e, read_message-body_of m is) refl

entity_read : (e : Entity) (s : List ℕ) → IsEntity e → s ≡ text_of e → entity_in (Text s) ≡ e
entity_read e s is same = rw (same, read_entity-text_of e is) refl

module _ {S C : Type 0} (f : Filing S C) (e : Entity) (s : List ℕ) (known : IsEntity e) (name : s ≡ text_of e) where
  abbrev taken : Entity → Input C → JournalRow C
  taken x i = record { entity = x; input = i }

  known_row : (i j : Input C) → i ≡ j → taken (entity_in (Text s)) i ≡ taken e j
  known_row i j is = ap₂ taken (entity_read e s known name) is

  pub command_row : (seat : ℕ) (z : ℤ) (c : C) (b : List ℕ) → z ≡ pos seat → seat < 256 → f.command b ≡ Some c
      → (id : ℤ) → row_in f (Int id ∷ Null ∷ Text s ∷ Int z ∷ Null ∷ Null ∷ Text b ∷ [])
      ≡ record { entity = e; input = FromSeat seat c }
  command_row seat z c b at low is id =
      let small : nat_lt seat 256 ≡ true = grind (arith, nat_tests) in
      known_row _ (FromSeat seat c) (
      ap (λ x. unwrap_or (input_from f.command (number_at (Int x)) None None b) no_input) at
      ∙ ap (λ t. unwrap_or (option_and_then (λ n. option_map (FromSeat n) (f.command b)) (if t then Some seat else
      None)) no_input) small
      ∙ ap (λ o. unwrap_or (option_map (FromSeat seat) o) no_input) is)

  pub message_row : (from : Entity) (t : List ℕ) (n : ℕ) (z : ℤ) (m : Message) (b : List ℕ) → IsEntity from
      → t ≡ text_of from → z ≡ pos n → is_number n ≡ true → IsMessage m → b ≡ body_of m → (id : ℤ)
      → row_in f (Int id ∷ Null ∷ Text s ∷ Null ∷ Text t ∷ Int z ∷ Text b ∷ [])
      ≡ record { entity = e; input = FromEntity from n m }
  message_row from t n z m b there sender at number is body id =
      known_row _ (FromEntity from n m) (
      ap (λ x. unwrap_or (input_from f.command None (Some t) (number_at (Int x)) b) no_input) at
      ∙ ap (λ o. unwrap_or (option_and_then (λ y. option_and_then (λ k. option_map (FromEntity y k) (read_message
      b)) (as_number n)) o) no_input)
      (ap read_entity sender ∙ read_entity-text_of from there)
      ∙ ap (λ t. unwrap_or (option_and_then (λ k. option_map (FromEntity from k) (read_message b)) (if t then Some n
      else None)) no_input) number
      ∙ ap (λ o. unwrap_or (option_map (FromEntity from n) o) no_input) (ap read_message body
      ∙ read_message-body_of m is))
