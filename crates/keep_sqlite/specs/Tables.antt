-- The tables that stand in the rows of a service's file. Each definition is total: a row that no call of a store writes
-- is read as something here, and the reads refuse it.
use Rattle.std.specs.Prelude.{ℕ, pos, negsuc, List, [], map, find, Option, Some, None, unwrap_or}
use Rattle.sqlite.specs.declared.types.Value.{Value}
use Rattle.sqlite.specs.declared.types.Value.TheVariants.{Null, Int, Real, Text, Blob}
use Rattle.sqlite_value.specs.Order.{Row, column, bytes}
use Rattle.sqlite_trees.specs.Tree.{Trees}
use Rattle.base.specs.Entity.{Entity, text_of, order_of}
use Rattle.base.specs.declared.pair.Pair.{Pair}
use Rattle.envelope.specs.declared.message.Message.{Message}
use Rattle.envelope.specs.declared.message.Message.TheVariants.{Cancel}
use Rattle.envelope.specs.Reading.{read_entity, read_message}
use Rattle.activities.specs.declared.input.Input.{Input}
use Rattle.activities.specs.declared.input.Input.TheVariants.{FromEntity}
use Rattle.activities.specs.declared.input.JournalRow.{JournalRow}
use Rattle.keep.specs.Tables.{Tables, Messages}
use Rattle.sql_bodies.specs.Columns.{input_from}
use Rattle.sql_rows.specs.Tables.{Key, has_key, pair_key, place_key}
use Rattle.keep_sqlite.specs.Filing.{Filing}

-- ---- values

abbrev pub number_in : Value → ℕ
number_in Null = 0
number_in (Int (pos n)) = n
number_in (Int (negsuc n)) = 0
number_in (Real x) = 0
number_in (Text t) = 0
number_in (Blob b) = 0

abbrev pub message_in : Value → Message
message_in v = unwrap_or (read_message (bytes v)) Cancel

abbrev pub entity_in : Value → Entity
entity_in v = unwrap_or (read_entity (bytes v)) (order_of [])

-- ---- the rows of a pair, and of a place

abbrev pub key_of : Pair → Key
key_of p = pair_key (text_of p.from) (text_of p.to)

abbrev pub key_at : Pair → ℕ → Key
key_at p n = place_key (text_of p.from) (text_of p.to) (pos n)

-- the number in a column of a row: 0 where there is no row
abbrev pub mark_in : ℕ → Option Row → ℕ
mark_in at None = 0
mark_in at (Some r) = number_in (column r at)

-- the marks in a column, by pair
abbrev pub marks_in : ℕ → List Row → Pair → ℕ
marks_in at rows p = mark_in at (find (has_key (key_of p)) rows)

abbrev pub letter_in : Option Row → Option Message
letter_in None = None
letter_in (Some r) = Some (message_in (column r 4))

-- the messages in a column of bodies, by pair and number
abbrev pub messages_in : List Row → Messages
messages_in rows p n = letter_in (find (has_key (key_at p n)) rows)

-- ---- the journal

abbrev pub number_at : Value → Option ℕ
number_at (Int (pos n)) = Some n
number_at _ = None

abbrev pub text_at : Value → Option (List ℕ)
text_at (Text t) = Some t
text_at _ = None

-- what a row tells that no call of a store writes
abbrev pub no_input : {C : Type 0} → Input C
no_input = FromEntity (order_of []) 0 Cancel

-- the input of these values: a seat, a sender, a number and a body
abbrev pub input_of : {C : Type 0} → (List ℕ → Option C) → Value → Value → Value → Value → Input C
input_of read seat sender number body =
    unwrap_or (input_from read (number_at seat) (text_at sender) (number_at number) (bytes body)) no_input

module _ {S C : Type 0} (filing : Filing S C) where
  -- the row of these values: an entity, and an input's
  abbrev pub row_of : Value → Value → Value → Value → Value → JournalRow C
  row_of entity seat sender number body = record {
    entity = entity_in entity;
    input = input_of filing.command seat sender number body;
  }

  abbrev pub row_in : Row → JournalRow C
  row_in r = row_of (column r 2) (column r 3) (column r 4) (column r 5) (column r 6)

  -- as `read_journal` shows it, behind its position
  abbrev pub shown_row : Row → JournalRow C
  shown_row r = row_of (column r 1) (column r 2) (column r 3) (column r 4) (column r 5)

  -- the tables in a file: journal, outbox, marks of what was sent, marks of what was handled, and what is held, by the
  -- places of their rows
  abbrev pub tables_of : Trees → Tables S C
  tables_of db = record {
    journal = map row_in (db 0);
    entity = filing.entity db;
    unsettled = messages_in (db 1);
    sent = marks_in 3 (db 3);
    settled = marks_in 4 (db 3);
    handled = marks_in 3 (db 5);
    held = messages_in (db 7);
  }
