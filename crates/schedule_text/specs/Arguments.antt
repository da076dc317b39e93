-- The arguments of an event: what single words are.
use Rattle.std.specs.Prelude.{ℕ, nat_eq, List, codes, drop, length, Option, Some, None, if◌then◌else◌}
use Rattle.std.specs.List.{starts_with}
use Rattle.std.specs.Option.{option_map}
use Rattle.std.specs.Str.{bytes_eq}
use Rattle.text.specs.Numerals.{number_of}
use Rattle.base.specs.Entity.{Entity, order_of, stock_of, account_of, is_key, prefix_of}
use Rattle.base.specs.declared.entity.Kind.TheVariants.{Order, Stock, Account}
use Rattle.schedule_text.specs.declared.event.ServiceName.{ServiceName}
use Rattle.schedule_text.specs.declared.event.ServiceName.TheVariants.{Purchasing, Warehouse, Billing}
use Rattle.schedule_text.specs.declared.event.ConnectionNumber.{ConnectionNumber}
use Rattle.schedule_text.specs.declared.event.ConnectionNumber.TheVariants.{Zero, One}
use Rattle.schedule_text.specs.declared.event.FailureLeaves.{FailureLeaves}
use Rattle.schedule_text.specs.declared.event.FailureLeaves.TheVariants.{Old, New}
use Rattle.stomp_wire.specs.declared.wire.Way.{Way}
use Rattle.stomp_wire.specs.declared.wire.Way.TheVariants.{Up, Down}
use Rattle.schedule_text.specs.Words.{◌>>=◌}
use Rattle.schedule_text.specs.Numbers.{seat_number, ordinal_number, rounds_number}

-- the seat that a word is
abbrev pub seat_of : List ℕ → Option ℕ
seat_of word = number_of word >>= seat_number

-- the place that a word is
abbrev pub ordinal_of : List ℕ → Option ℕ
ordinal_of word = number_of word >>= ordinal_number

-- the number of rounds that a word is
abbrev pub rounds_of : List ℕ → Option ℕ
rounds_of word = number_of word >>= rounds_number

-- the key that a word is
abbrev pub key_of : List ℕ → Option (List ℕ)
key_of word = if is_key word then Some word else None

-- the entity whose kind's prefix begins the word
abbrev pub named : (List ℕ → Entity) → List ℕ → List ℕ → Option Entity
named entity prefix word = option_map entity (key_of (drop (length prefix) word))

-- the entity that a word is
abbrev pub entity_of : List ℕ → Option Entity
entity_of word =
    if starts_with nat_eq word (prefix_of Order) then named order_of (prefix_of Order) word else
    if starts_with nat_eq word (prefix_of Stock) then named stock_of (prefix_of Stock) word else
    if starts_with nat_eq word (prefix_of Account) then named account_of (prefix_of Account) word else None

-- the service that a word is
abbrev pub service_of : List ℕ → Option ServiceName
service_of word =
    if bytes_eq word (codes "purchasing") then Some Purchasing else
    if bytes_eq word (codes "warehouse") then Some Warehouse else
    if bytes_eq word (codes "billing") then Some Billing else None

-- which of two connections a word is
abbrev pub connection_number : List ℕ → Option ConnectionNumber
connection_number word =
    if bytes_eq word (codes "0") then Some Zero else
    if bytes_eq word (codes "1") then Some One else None

-- the way that a word is
abbrev pub way_of : List ℕ → Option Way
way_of word =
    if bytes_eq word (codes "up") then Some Up else
    if bytes_eq word (codes "down") then Some Down else None

-- the tables that a word says a failure leaves
abbrev pub leaves_of : List ℕ → Option FailureLeaves
leaves_of word =
    if bytes_eq word (codes "old") then Some Old else
    if bytes_eq word (codes "new") then Some New else None
