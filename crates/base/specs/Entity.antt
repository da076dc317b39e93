-- Entities: a kind and a key, and the text that names one.
use Rattle.std.specs.Prelude.{◌≡◌, ◌≢◌, ℕ, Bool, true, false, ◌&&◌, ◌==◌, not, nat_lt, nat_le, List, ◌++◌, length}
use Rattle.std.specs.Prelude.{codes, Result, Ok, Err}
use Rattle.std.specs.List.{list_any}
use Rattle.std.specs.Str.{is_utf8}
use Rattle.base.specs.declared.limits.TheConstants.{MAX_KEY}
use Rattle.base.specs.declared.entity.Kind.{Kind}
use Rattle.base.specs.declared.entity.Kind.TheVariants.{Order, Stock, Account}
use Rattle.base.specs.declared.fault.EntityFault.{EntityFault}
use Rattle.base.specs.declared.fault.EntityFault.TheVariants.{BadKey, BadKind, Memory}

-- an entity as contracts see it: its kind and the octets of its key
pub record Entity : Type 0 where
  pub kind : Kind
  pub key : List ℕ

-- the order, the stock and the account of a key
abbrev pub order_of : List ℕ → Entity
order_of key = record { kind = Order; key = key }

abbrev pub stock_of : List ℕ → Entity
stock_of key = record { kind = Stock; key = key }

abbrev pub account_of : List ℕ → Entity
account_of key = record { kind = Account; key = key }

-- the word of a kind
abbrev pub word_of : Kind → List ℕ
word_of Order = codes "order"
word_of Stock = codes "stock"
word_of Account = codes "account"

-- what the texts of a kind begin with
abbrev pub prefix_of : Kind → List ℕ
prefix_of kind = word_of kind ++ codes "/"

-- an entity's text
abbrev pub text_of : Entity → List ℕ
text_of e = prefix_of e.kind ++ e.key

-- where messages to entities of a kind go
abbrev pub queue_of : Kind → List ℕ
queue_of Order = codes "/queue/purchasing"
queue_of Stock = codes "/queue/warehouse"
queue_of Account = codes "/queue/billing"

-- 1 to MAX_KEY octets of UTF-8, none of them NUL
abbrev pub is_key : List ℕ → Bool
is_key key = nat_lt 0 (length key) && nat_le (length key) MAX_KEY && not (list_any (λ o. o == 0) key) && is_utf8 key

-- what holds of every entity
abbrev pub IsEntity : Entity → Type 0
IsEntity e = is_key e.key ≡ true

-- what reading a text may answer: the entity that it names; or that it names none, for its key or for its kind; or want
-- of memory
abbrev pub IsReading : List ℕ → Result Entity EntityFault → Type 0
IsReading text (Ok e) = (text_of e ≡ text) × IsEntity e
IsReading text (Err BadKind) = (e : Entity) → text_of e ≢ text
IsReading text (Err BadKey) = (e : Entity) × (text_of e ≡ text) × (is_key e.key ≡ false)
IsReading text (Err Memory) = Unit {0}

-- what reading a key alone may answer: the text itself; or that it is none; or want of memory
abbrev pub IsKeyReading : List ℕ → Result (List ℕ) EntityFault → Type 0
IsKeyReading text (Ok key) = (key ≡ text) × (is_key text ≡ true)
IsKeyReading text (Err BadKey) = is_key text ≡ false
IsKeyReading text (Err BadKind) = ⊥
IsKeyReading text (Err Memory) = Unit {0}
