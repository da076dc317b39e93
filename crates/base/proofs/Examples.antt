-- Examples: what the definitions are for one order, one stock and one account.
use Rattle.std.proofs.Common.{◌≡◌, ◌∷◌, [], true, false, refl, arith}
use Rattle.std.specs.Prelude.{◌^◌, ◌+◌, codes, Ok, Err, replicate}
use Rattle.std.specs.Str.{is_utf8, chars}
use Rattle.std.specs.declared.cmp.Ordering.TheVariants.{Less, Greater}
use Rattle.base.specs.declared.entity.Kind.TheVariants.{Order, Stock, Account}
use Rattle.base.specs.declared.fault.EntityFault.TheVariants.{BadKey, BadKind, Memory}
use Rattle.base.specs.declared.limits.TheConstants.{MAX_NUMBER, SEATS, HELD_WINDOW}
use Rattle.base.specs.Entity.{order_of, stock_of, account_of, text_of, queue_of, is_key, IsReading, word_of, prefix_of}
use Rattle.base.specs.Number.{IsNumber, is_number}
use Rattle.base.specs.Order.{same_entity, same_pair, entity_cmp, pair_cmp}
use Rattle.base.specs.Fault.{entity_fault_number}

-- the text of an entity is the word of its kind, a slash and its key
an_order_has_a_text : text_of (order_of (codes "o1")) ≡ codes "order/o1"
an_order_has_a_text = refl

a_stock_has_a_text : text_of (stock_of (codes "bolts")) ≡ codes "stock/bolts"
a_stock_has_a_text = refl

an_account_has_a_text : text_of (account_of (codes "acme")) ≡ codes "account/acme"
an_account_has_a_text = refl

-- each service has a queue: purchasing has the orders, the warehouse the stocks, billing the accounts
queues_are_named : (queue_of Order ≡ codes "/queue/purchasing") × (queue_of Stock ≡ codes "/queue/warehouse")
    × (queue_of Account ≡ codes "/queue/billing")
queues_are_named = (refl, refl, refl)

-- a key has 1 to 64 octets, and no NUL among them; a slash may stand in it
keys_are_short : (is_key (codes "a/b") ≡ true) × (is_key [] ≡ false) × (is_key (replicate 64 97) ≡ true)
    × (is_key (replicate 65 97) ≡ false)
    × (is_key (97 ∷ 0 ∷ 98 ∷ []) ≡ false)
unfolding is_utf8 chars lib.Utf8.encode
keys_are_short = (refl, refl, refl, refl, refl)

-- a key is UTF-8: characters of two, three and four octets may stand in it
keys_are_utf8 : (is_key (195 ∷ 169 ∷ []) ≡ true) × (is_key (226 ∷ 130 ∷ 172 ∷ []) ≡ true)
    × (is_key (240 ∷ 159 ∷ 166 ∷ 128 ∷ []) ≡ true)
unfolding is_utf8 chars lib.Utf8.encode
keys_are_utf8 = (refl, refl, refl)

-- a beginning of a character alone is no key, nor is what may follow one, nor a character with an octet too many
no_half_characters : (is_key (195 ∷ []) ≡ false) × (is_key (97 ∷ 169 ∷ []) ≡ false)
    × (is_key (195 ∷ 169 ∷ 169 ∷ []) ≡ false)
unfolding is_utf8 chars lib.Utf8.encode
no_half_characters = (refl, refl, refl)

-- nor are a slash in two octets, a surrogate in three, and a number above the last character's in four
no_other_codes : (is_key (192 ∷ 175 ∷ []) ≡ false) × (is_key (237 ∷ 160 ∷ 128 ∷ []) ≡ false)
    × (is_key (244 ∷ 144 ∷ 128 ∷ 128 ∷ []) ≡ false)
unfolding is_utf8 chars lib.Utf8.encode
no_other_codes = (refl, refl, refl)

-- `order/o1` is read as the order of `o1`
a_text_is_read : IsReading (codes "order/o1") (Ok (order_of (codes "o1")))
unfolding is_utf8 chars lib.Utf8.encode
a_text_is_read = (refl, refl)

-- `order/` is the text of an order whose key is none
an_empty_key_is_bad : IsReading (codes "order/") (Err BadKey)
an_empty_key_is_bad = (order_of [], refl, refl)

-- an order and a stock with one key are two entities
kinds_are_told_apart : (same_entity (order_of (codes "x")) (order_of (codes "x")) ≡ true)
    × (same_entity (order_of (codes "x")) (stock_of (codes "x")) ≡ false)
unfolding same_entity
kinds_are_told_apart = (refl, refl)

-- entities stand in the order of their texts: account, order, stock, and of one kind by the octets of their keys
kinds_are_in_order : (entity_cmp (account_of (codes "z")) (order_of (codes "a")) ≡ Less)
    × (entity_cmp (order_of (codes "z")) (stock_of (codes "a")) ≡ Less)
kinds_are_in_order = (refl, refl)

-- `o10` comes before `o9`, `o` before `o1`, and capitals before small letters
keys_are_in_order : (entity_cmp (order_of (codes "o10")) (order_of (codes "o9")) ≡ Less)
    × (entity_cmp (order_of (codes "o")) (order_of (codes "o1")) ≡ Less)
    × (entity_cmp (order_of (codes "a")) (order_of (codes "B")) ≡ Greater)
keys_are_in_order = (refl, refl, refl)

-- pairs stand by their senders first, and by their receivers where the sender is one
pairs_are_in_order :
    (pair_cmp (record { from = order_of (codes "a"); to = stock_of (codes "z") })
    (record { from = order_of (codes "b"); to = account_of (codes "a") }) ≡ Less)
    × (pair_cmp (record { from = order_of (codes "a"); to = stock_of (codes "a") })
    (record { from = order_of (codes "a"); to = account_of (codes "a") }) ≡ Greater)
pairs_are_in_order = (refl, refl)

-- the way back is another pair
a_pair_has_a_direction : same_pair (record { from = order_of (codes "a"); to = stock_of (codes "a") })
    (record { from = stock_of (codes "a"); to = order_of (codes "a") })
    ≡ false
unfolding same_pair same_entity
a_pair_has_a_direction = refl

-- letters are numbered from 1 to 2^40
the_first_number : IsNumber 1
the_first_number = record { positive = omega arith; small = omega arith }

the_last_number : IsNumber (2 ^ 40)
the_last_number = record { positive = omega arith; small = omega arith }

-- and no others are
no_number_0 : IsNumber 0 → ⊥
no_number_0 h = let positive = h.positive in omega arith

no_number_above : IsNumber (2 ^ 40 + 1) → ⊥
no_number_above h = let small = h.small in omega arith

-- the limits that other layers count by
limits_are_set : (MAX_NUMBER ≡ 2 ^ 40) × (SEATS ≡ 16) × (HELD_WINDOW ≡ 256)
limits_are_set = (refl, refl, refl)

-- numbers are 1 to 2^40
numbers_are_tested : (is_number 0 ≡ false) × (is_number 1 ≡ true) × (is_number 1099511627776 ≡ true)
    × (is_number 1099511627777 ≡ false)
numbers_are_tested = (refl, refl, refl, refl)

-- kinds have words, with which their entities' texts begin
kinds_have_words : (word_of Order ≡ codes "order") × (word_of Stock ≡ codes "stock")
    × (word_of Account ≡ codes "account")
    × (prefix_of Stock ≡ codes "stock/")
kinds_have_words = (refl, refl, refl, refl)

-- faults are numbered
faults_are_numbered : (entity_fault_number BadKey ≡ 1) × (entity_fault_number BadKind ≡ 2)
    × (entity_fault_number Memory ≡ 3)
faults_are_numbered = (refl, refl, refl)
