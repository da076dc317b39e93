-- The columns of an input are read as that input, and what is read has these columns.
use Rattle.std.proofs.Common.{◌≡◌, ℕ, List, Option, Some, None, refl, sym, lt-ltb}
use Rattle.std.specs.Prelude.{nat_lt, option_map}
use Rattle.std.proofs.lemmas.Option.{cond_some, same_Some, option_and_then_some}
use Rattle.base.specs.Number.{is_number}
use Rattle.envelope.specs.Reading.{read_message}
use Rattle.envelope.proofs.Texts.{read_entity-is, read_entity-text_of, read_message-is, read_message-body_of}
use Rattle.envelope.proofs.Texts.{number_made}
use Rattle.activities.specs.declared.input.Input.{Input}
use Rattle.activities.specs.declared.input.Input.TheVariants.{FromSeat, FromEntity}
use Rattle.sql_bodies.specs.Columns.{Columns, columns_of, IsInput, read_input, input_from, command_from}
use Rattle.sql_bodies.specs.Columns.{message_from}
use Rattle.sql_bodies.specs.Reading.{IsExact}

module _ {C : Type 0} (written : C → List ℕ) (read : List ℕ → Option C) where
  pub input_reads_back : (is_command : C → Type 0) → ((c : C) → is_command c → read (written c) ≡ Some c)
      → (i : Input C) → IsInput is_command i → read_input read (columns_of written i) ≡ Some i
  input_reads_back is_command back (FromSeat seat c) is = rw (lt-ltb seat 256 is.0, back c is.1) refl
  input_reads_back is_command back (FromEntity e n m) is =
      rw (read_entity-text_of e is.0, sym (number_made (Some n) n (refl, is.1)), read_message-body_of m is.2) refl

map_some : {A B P : Type 0} (f : A → B) (o : Option A) (y : B) → option_map f o ≡ Some y
    → ((x : A) → o ≡ Some x → f x ≡ y → P) → P
map_some f None y e k = absurd cc
map_some f (Some x) y e k = k x refl (same_Some (f x) y e)

module _ {C : Type 0} (written : C → List ℕ) (read : List ℕ → Option C)
    (only : (text : List ℕ) (c : C) → read text ≡ Some c → written c ≡ text) where
  command_written : (seat : ℕ) (body : List ℕ) (i : Input C) → command_from read seat body ≡ Some i
      → columns_of written i ≡ record { seat = Some seat; sender = None; number = None; body = body }
  command_written seat body i e = option_and_then_some _ _ i e (λ s is_seat rest.
      let seats = cond_some (nat_lt seat 256) seat s is_seat in
      map_some (FromSeat s) (read body) i rest (λ c found is. rw (← is, seats.1, only body c found) refl))

  message_written : (sender : List ℕ) (number : ℕ) (body : List ℕ) (i : Input C)
      → message_from {C = C} sender number body ≡ Some i
      → columns_of written i ≡ record { seat = None; sender = Some sender; number = Some number; body = body }
  message_written sender number body i e = option_and_then_some _ _ i e (λ entity is_sender rest.
      option_and_then_some _ _ i rest (λ n is_number_ more.
      let numbers = cond_some (is_number number) number n is_number_ in
      map_some (FromEntity entity n) (read_message body) i more (λ m found is.
      rw (
        ← is,
        numbers.1,
        (read_entity-is sender entity is_sender).written,
        (read_message-is body m found).written,
      ) refl)))

  parts_written : (seat : Option ℕ) (sender : Option (List ℕ)) (number : Option ℕ) (body : List ℕ) (i : Input C)
      → input_from read seat sender number body ≡ Some i
      → columns_of written i ≡ record { seat = seat; sender = sender; number = number; body = body }
  parts_written (Some seat) None None body i e = command_written seat body i e
  parts_written None (Some sender) (Some number) body i e = message_written sender number body i e
  parts_written (Some seat) (Some sender) number body i e = absurd cc
  parts_written (Some seat) None (Some number) body i e = absurd cc
  parts_written None None number body i e = absurd cc
  parts_written None (Some sender) None body i e = absurd cc

  pub input_writes_back : (c : Columns) (i : Input C) → read_input read c ≡ Some i → columns_of written i ≡ c
  input_writes_back c i e = parts_written c.seat c.sender c.number c.body i e

-- inputs are exact where commands are
pub inputs_are_exact : {C : Type 0} (is_command : C → Type 0) (written : C → List ℕ) (read : List ℕ → Option C)
    → IsExact is_command written read → IsExact (IsInput is_command) (columns_of written) (read_input read)
inputs_are_exact is_command written read exact = record {
  back = input_reads_back written read is_command exact.back;
  only = input_writes_back written read exact.only;
}
