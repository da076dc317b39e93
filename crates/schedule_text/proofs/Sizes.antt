-- How long the line of an event is.
use Rattle.std.proofs.Common.{◌≡◌, ◌⊎◌, ◌<◌, ◌≤◌, ◌+◌, ◌*◌, ◌^◌, ℕ, suc, List, [], ◌∷◌, length, drop, Bool, true, false}
use Rattle.std.proofs.Common.{◌||◌, cond, eqb}
use Rattle.std.proofs.Common.{nat_eq, ltb, leb, refl, sym, ap, subst, ◌∙◌, arith, Option, Some, None, inl, inr}
use Rattle.std.proofs.Common.{count_by}
use Rattle.std.specs.Prelude.{codes}
use Rattle.std.specs.List.{slice_split, onto_first, starts_with, list_all}
use Rattle.std.specs.Map.{lookup}
use Rattle.std.specs.Option.{option_map}
use Rattle.std.specs.Str.{bytes_eq, is_utf8}
use Rattle.std.specs.Cmp.Lexicographic.{same_text}
use Rattle.std.proofs.lemmas.Bool.{cases_Bool, ltb-true, leb-true}
use Rattle.std.proofs.lemmas.Option.{cond_some}
use Rattle.std.proofs.lemmas.Fmt.{length-decimal-le}
use Rattle.std.proofs.lemmas.List.{length-drop}
use Rattle.std.proofs.lemmas.List.Splits.{length-slice_split}
use Rattle.text.specs.Numerals.{number_of}
use Rattle.text.proofs.Digits.{both_true, number_only, number_small}
use Rattle.base.specs.Entity.{Entity, is_key, prefix_of, order_of, stock_of, account_of}
use Rattle.base.specs.declared.entity.Kind.TheVariants.{Order, Stock, Account}
use Rattle.base.specs.declared.pair.Pair.{Pair}
use Rattle.trade.specs.declared.commands.OrderCommand.{OrderCommand}
use Rattle.trade.specs.declared.commands.StockCommand.{StockCommand}
use Rattle.trade.specs.declared.commands.AccountCommand.{AccountCommand}
use Rattle.trade.specs.declared.items.Item.{Item}
use Rattle.schedule_text.specs.declared.event.SeatCommand.{SeatCommand}
use Rattle.schedule_text.specs.declared.event.Event.{Event}
use Rattle.schedule_text.specs.declared.event.Event.TheVariants as event
use Rattle.schedule_text.specs.declared.event.ConnectionName.{ConnectionName}
use Rattle.schedule_text.specs.declared.event.ConnectionNumber.{ConnectionNumber}
use Rattle.schedule_text.specs.declared.event.ConnectionNumber.TheVariants.{Zero, One}
use Rattle.schedule_text.specs.declared.event.FailureLeaves.{FailureLeaves}
use Rattle.schedule_text.specs.declared.event.FailureLeaves.TheVariants.{Old, New}
use Rattle.schedule_text.specs.declared.event.ServiceName.{ServiceName}
use Rattle.schedule_text.specs.declared.event.ServiceName.TheVariants.{Purchasing, Warehouse, Billing}
use Rattle.stomp_wire.specs.declared.wire.Way.{Way}
use Rattle.stomp_wire.specs.declared.wire.Way.TheVariants.{Up, Down}
use Rattle.schedule_text.specs.declared.verb.Verb.{Verb}
use Rattle.schedule_text.specs.declared.verb.Verb.TheVariants as verb
use Rattle.schedule_text.specs.Words.{◌>>=◌, meant_by, octet_then, unescaped, word_of, words_in, words_of}
use Rattle.schedule_text.specs.Numbers.{seat_number, ordinal_number, rounds_number}
use Rattle.schedule_text.specs.Arguments.{seat_of, ordinal_of, rounds_of, key_of, named, entity_of, service_of}
use Rattle.schedule_text.specs.Arguments.{connection_number}
use Rattle.schedule_text.specs.Arguments.{way_of, leaves_of}
use Rattle.schedule_text.specs.Commands.{item_of, pairs_of, placing_of, place_of, cancel_of, receive_of, limit_of}
use Rattle.schedule_text.specs.Verbs.{verbs, verb_of}
use Rattle.schedule_text.specs.Events.{alone, connection_of, fill_of, carry_of, fail_of, stopped_of, pair_of}
use Rattle.schedule_text.specs.Events.{agreement_of, event_by, event_of}
use Rattle.schedule_text.specs.Schedules.{Language, is_quiet, found_on}

-- ---- where a value comes from

pub bound : {A B : Type 0} (o : Option A) (f : A → Option B) (y : B) → (o >>= f) ≡ Some y → (x : A) × (o ≡ Some x)
    × (f x ≡ Some y)
bound None f y e = absurd cc
bound (Some x) f y e = (x, refl, e)

pub mapped : {A B : Type 0} (f : A → B) (o : Option A) (y : B) → option_map f o ≡ Some y → (x : A) × (o ≡ Some x)
    × (f x ≡ y)
mapped f None y e = absurd cc
mapped f (Some x) y e = (x, refl, cc)

chosen : {A : Type 0} (b : Bool) (x y : Option A) (v : A) → cond b x y ≡ Some v → ((b ≡ true) × (x ≡ Some v))
    ⊎ (y ≡ Some v)
chosen true x y v e = inl (refl, e)
chosen false x y v e = inr e

-- ---- words and their spellings

then_some : (first : Option ℕ) (rest : Option (List ℕ)) (word : List ℕ) → octet_then first rest ≡ Some word
    → (tail : List ℕ) × (rest ≡ Some tail) × (length word ≡ suc (length tail))
then_some None rest word e = absurd cc
then_some (Some o) None word e = absurd cc
then_some (Some o) (Some tail) word e = let same : o ∷ tail ≡ word = cc in (tail, refl, ap length (sym same))

-- an octet of a word is spelled by two at most
one_size : (b : Bool) (o : ℕ) (word : List ℕ) → cond b None (Some (o ∷ [])) ≡ Some word → 1 ≤ 2 * length word
one_size true o word e = absurd cc
one_size false o word e = let same : o ∷ [] ≡ word = cc in rw (← same) (omega arith)

two_size : (b : Bool) (o next : ℕ) (text word : List ℕ)
    → ((w : List ℕ) → unescaped text ≡ Some w → length text ≤ 2 * length w)
    → ((w : List ℕ) → unescaped (next ∷ text) ≡ Some w → length (next ∷ text) ≤ 2 * length w)
    → cond b (octet_then (meant_by next) (unescaped text)) (octet_then (Some o) (unescaped (next ∷ text))) ≡ Some word
    → length (o ∷ next ∷ text) ≤ 2 * length word
two_size true o next text word behind _ e =
    let t = then_some (meant_by next) (unescaped text) word e in
    let rest : length text ≤ 2 * length t.0 = behind t.0 t.1 in
    let long : length word ≡ suc (length t.0) = t.2 in
    omega arith
two_size false o next text word _ behind e =
    let t = then_some (Some o) (unescaped (next ∷ text)) word e in
    let rest : length (next ∷ text) ≤ 2 * length t.0 = behind t.0 t.1 in
    let long : length word ≡ suc (length t.0) = t.2 in
    omega arith

unescaped_size : (text word : List ℕ) → unescaped text ≡ Some word → length text ≤ 2 * length word
unescaped_size [] word e = omega arith
unescaped_size (o ∷ []) word e = one_size (eqb o 92) o word e
unescaped_size (o ∷ next ∷ text) word e =
    two_size (eqb o 92) o next text word (unescaped_size text) (unescaped_size (next ∷ text)) e

word_size : (part word : List ℕ) → word_of part ≡ Some word → length part ≤ 2 * length word
word_size [] word e = absurd cc
word_size (o ∷ os) word e = unescaped_size (o ∷ os) word e

-- ---- the parts of a line

-- the octets of parts, with one behind each
abbrev spaced : List (List ℕ) → ℕ
spaced [] = 0
spaced (part ∷ parts) = length part + 1 + spaced parts

-- what spelled words have at most, with one behind each
abbrev widest : List (List ℕ) → ℕ
widest [] = 0
widest (word ∷ words) = 2 * length word + 1 + widest words

front_size : (b : Bool) (o : ℕ) (parts : List (List ℕ)) (n : ℕ) → 0 < length parts → spaced parts ≡ n
    → spaced (cond b ([] ∷ parts) (onto_first o parts)) ≡ suc n
front_size true o parts n some is = omega arith
front_size false o [] n some is = absurd (omega arith)
front_size false o (part ∷ parts) n some is = omega arith

split_size : (line : List ℕ) → spaced (slice_split (λ o. eqb o 32) line) ≡ suc (length line)
split_size [] = refl
split_size (o ∷ os) =
    front_size (eqb o 32) o (slice_split (λ x. eqb x 32) os) (suc (length os))
    (omega (arith, length-slice_split (λ x. eqb x 32) os))
    (split_size os)

words_more : (part : List ℕ) (parts words : List (List ℕ))
    → ((ws : List (List ℕ)) → words_in parts ≡ Some ws → (spaced parts ≤ widest ws) × (length parts ≡ length ws))
    → words_in (part ∷ parts) ≡ Some words → (spaced (part ∷ parts) ≤ widest words)
    × (length (part ∷ parts) ≡ length words)
words_more part parts words behind e =
    let first = bound (word_of part) (λ word. option_map (λ ws. word ∷ ws) (words_in parts)) words e in
    let rest = mapped (λ ws. first.0 ∷ ws) (words_in parts) words first.2 in
    let one : length part ≤ 2 * length first.0 = word_size part first.0 first.1 in
    let many : (spaced parts ≤ widest rest.0) × (length parts ≡ length rest.0) = behind rest.0 rest.1 in
    rw (← rest.2) (omega (arith, one, many.0), omega (arith, many.1))

words_size : (parts words : List (List ℕ)) → words_in parts ≡ Some words → (spaced parts ≤ widest words)
    × (length parts ≡ length words)
words_size [] words e = let none : [] ≡ words = cc in rw (← none) (omega arith, refl)
words_size (part ∷ parts) words e = words_more part parts words (words_size parts) e

-- ---- the words of events

number_size : (word : List ℕ) (n : ℕ) → number_of word ≡ Some n → length word ≤ 20
number_size word n e =
    let small : n < 2 ^ 64 = number_small word n e in
    rw (← number_only word n e) (length-decimal-le 20 n (omega arith) (omega arith) small)

seat_size : (word : List ℕ) (seat : ℕ) → seat_of word ≡ Some seat → length word ≤ 20
seat_size word seat e = let number = bound (number_of word) seat_number seat e in number_size word number.0 number.1

is_key_size : (key : List ℕ) → is_key key ≡ true → length key ≤ 64
is_key_size key e = grind (arith, e)

key_size : (word key : List ℕ) → key_of word ≡ Some key → length word ≤ 64
key_size word key e = is_key_size word (cond_some _ _ _ e).0

named_size : (entity : List ℕ → Entity) (prefix word : List ℕ) (e : Entity) → length prefix ≤ 8
    → named entity prefix word ≡ Some e
    → length word ≤ 72
named_size entity prefix word e short is =
    let found = mapped entity (key_of (drop (length prefix) word)) e is in
    let key : length (drop (length prefix) word) ≤ 64 = key_size (drop (length prefix) word) found.0 found.1 in
    omega (arith, key, length-drop (length prefix) word)

-- one of three kinds, where there is one
of_three : {A : Type 0} (a b c : Bool) (x y z : Option A) (v : A) → cond a x (cond b y (cond c z None)) ≡ Some v
    → (x ≡ Some v)
    ⊎ (y ≡ Some v) ⊎ (z ≡ Some v)
of_three true b c x y z v e = inl e
of_three false true c x y z v e = inr (inl e)
of_three false false true x y z v e = inr (inr e)
of_three false false false x y z v e = absurd cc

entity_size : (word : List ℕ) (e : Entity) → entity_of word ≡ Some e → length word ≤ 72
entity_size word e is =
    elim (of_three (starts_with nat_eq word (prefix_of Order)) (starts_with nat_eq word (prefix_of Stock))
    (starts_with nat_eq word (prefix_of Account))
    (named order_of (prefix_of Order) word) (named stock_of (prefix_of Stock) word)
    (named account_of (prefix_of Account) word) e is) [
      | inl order ↦ named_size order_of (prefix_of Order) word e (omega arith) order
      | inr other ↦ elim other [
        | inl stock ↦ named_size stock_of (prefix_of Stock) word e (omega arith) stock
        | inr account ↦ named_size account_of (prefix_of Account) word e (omega arith) account
      ]
    ]

-- words that spell no more than so many octets, and are no more than so many
abbrev pub AreWithin : List (List ℕ) → ℕ → ℕ → Type 0
AreWithin words octets most = (widest words ≤ octets) × (length words ≤ most)

-- what stands behind the first word of a line can be: a seat, a key, eight stocks and how much of each, an account and
-- an amount
abbrev pub AreArguments : List (List ℕ) → Type 0
AreArguments words = AreWithin words 3060 36

item_size : (words : List (List ℕ)) (item : Item) → item_of words ≡ Some item → AreWithin words 170 2
item_size [] item e = absurd cc
item_size (stock ∷ []) item e = absurd cc
item_size (stock ∷ n ∷ []) item e =
    let first = bound (key_of stock) _ item e in
    let second = bound (number_of n) _ item first.2 in
    (omega (arith, key_size stock first.0 first.1, number_size n second.0 second.1), omega arith)
item_size (stock ∷ n ∷ more ∷ rest) item e = absurd cc

-- two words, of whatever is asked, spell 170 octets at most
pairs_size : (words : List (List ℕ)) (command : OrderCommand) → pairs_of words ≡ Some command
    → 2 * widest words ≤ 170 * length words
pairs_size [] command e = absurd cc
pairs_size (a ∷ []) command e = absurd cc
pairs_size (account ∷ amount ∷ []) command e =
    let first = bound (key_of account) _ command e in
    let second = bound (number_of amount) _ command first.2 in
    omega (arith, key_size account first.0 first.1, number_size amount second.0 second.1)
pairs_size (stock ∷ n ∷ other ∷ words) command e =
    let first = bound (item_of (stock ∷ n ∷ [])) _ command e in
    let second = bound (pairs_of (other ∷ words)) _ command first.2 in
    let pair : AreWithin (stock ∷ n ∷ []) 170 2 = item_size (stock ∷ n ∷ []) first.0 first.1 in
    omega (arith, pair.0, pairs_size (other ∷ words) second.0 second.1)

placing_size : (words : List (List ℕ)) (command : OrderCommand) → placing_of words ≡ Some command
    → AreWithin words 2890 34
placing_size words command e = elim (chosen (leb (length words) 34) (pairs_of words) None command e) [
  | inl found ↦ let few : length words ≤ 34 =
      leb-true _ _ found.0 in (omega (arith, few, pairs_size words command found.1), few)
  | inr none ↦ absurd cc
]

place_size : (words : List (List ℕ)) (asked : SeatCommand OrderCommand) → place_of words ≡ Some asked
    → AreArguments words
place_size [] asked e = absurd cc
place_size (seat ∷ []) asked e = absurd cc
place_size (seat ∷ key ∷ arguments) asked e =
    let first = bound (seat_of seat) _ asked e in
    let second = bound (key_of key) _ asked first.2 in
    let third = bound (placing_of arguments) _ asked second.2 in
    let rest : AreWithin arguments 2890 34 = placing_size arguments third.0 third.1 in
    (omega (arith, seat_size seat first.0 first.1, key_size key second.0 second.1, rest.0), omega (arith, rest.1))

cancel_size : (words : List (List ℕ)) (asked : SeatCommand OrderCommand) → cancel_of words ≡ Some asked
    → AreArguments words
cancel_size [] asked e = absurd cc
cancel_size (seat ∷ []) asked e = absurd cc
cancel_size (seat ∷ key ∷ []) asked e =
    let first = bound (seat_of seat) _ asked e in
    let second = bound (key_of key) _ asked first.2 in
    (omega (arith, seat_size seat first.0 first.1, key_size key second.0 second.1), omega arith)
cancel_size (seat ∷ key ∷ more ∷ rest) asked e = absurd cc

receive_size : (words : List (List ℕ)) (asked : SeatCommand StockCommand) → receive_of words ≡ Some asked
    → AreArguments words
receive_size [] asked e = absurd cc
receive_size (seat ∷ []) asked e = absurd cc
receive_size (seat ∷ key ∷ []) asked e = absurd cc
receive_size (seat ∷ key ∷ n ∷ []) asked e =
    let first = bound (seat_of seat) _ asked e in
    let second = bound (key_of key) _ asked first.2 in
    let third = bound (number_of n) _ asked second.2 in (
      omega (arith, seat_size seat first.0 first.1, key_size key second.0 second.1, number_size n third.0 third.1),
      omega arith,
    )
receive_size (seat ∷ key ∷ n ∷ more ∷ rest) asked e = absurd cc

limit_size : (words : List (List ℕ)) (asked : SeatCommand AccountCommand) → limit_of words ≡ Some asked
    → AreArguments words
limit_size [] asked e = absurd cc
limit_size (seat ∷ []) asked e = absurd cc
limit_size (seat ∷ key ∷ []) asked e = absurd cc
limit_size (seat ∷ key ∷ n ∷ []) asked e =
    let first = bound (seat_of seat) _ asked e in
    let second = bound (key_of key) _ asked first.2 in
    let third = bound (number_of n) _ asked second.2 in (
      omega (arith, seat_size seat first.0 first.1, key_size key second.0 second.1, number_size n third.0 third.1),
      omega arith,
    )
limit_size (seat ∷ key ∷ n ∷ more ∷ rest) asked e = absurd cc

-- ---- words that are names

-- a word that is this text
is_short : (word text : List ℕ) (most : ℕ) → bytes_eq word text ≡ true → length text ≤ most → length word ≤ most
is_short word text most same short = rw (same_text word text (sym same)) short

-- one of these words, where there is one
of_two_words : {A : Type 0} (a b : Bool) (x y v : A) → cond a (Some x) (cond b (Some y) None) ≡ Some v → (a ≡ true)
    ⊎ (b ≡ true)
of_two_words true b x y v e = inl refl
of_two_words false true x y v e = inr refl
of_two_words false false x y v e = absurd cc

of_three_words : {A : Type 0} (a b c : Bool) (x y z v : A)
    → cond a (Some x) (cond b (Some y) (cond c (Some z) None)) ≡ Some v
    → (a ≡ true) ⊎ (b ≡ true) ⊎ (c ≡ true)
of_three_words true b c x y z v e = inl refl
of_three_words false true c x y z v e = inr (inl refl)
of_three_words false false true x y z v e = inr (inr refl)
of_three_words false false false x y z v e = absurd cc

service_size : (word : List ℕ) (service : ServiceName) → service_of word ≡ Some service → length word ≤ 10
service_size word service e =
    elim (of_three_words (bytes_eq word (codes "purchasing")) (bytes_eq word (codes "warehouse"))
    (bytes_eq word (codes "billing"))
    Purchasing Warehouse Billing service e) [
      | inl first ↦ is_short word (codes "purchasing") 10 first (omega arith)
      | inr other ↦ elim other [
        | inl second ↦ is_short word (codes "warehouse") 10 second (omega arith)
        | inr third ↦ is_short word (codes "billing") 10 third (omega arith)
      ]
    ]

connection_number_size : (word : List ℕ) (number : ConnectionNumber) → connection_number word ≡ Some number
    → length word ≤ 1
connection_number_size word number e =
    elim (of_two_words (bytes_eq word (codes "0")) (bytes_eq word (codes "1")) Zero One number e) [
      | inl first ↦ is_short word (codes "0") 1 first (omega arith)
      | inr second ↦ is_short word (codes "1") 1 second (omega arith)
    ]

way_size : (word : List ℕ) (way : Way) → way_of word ≡ Some way → length word ≤ 4
way_size word way e = elim (of_two_words (bytes_eq word (codes "up")) (bytes_eq word (codes "down")) Up Down way e) [
  | inl first ↦ is_short word (codes "up") 4 first (omega arith)
  | inr second ↦ is_short word (codes "down") 4 second (omega arith)
]

leaves_size : (word : List ℕ) (leaves : FailureLeaves) → leaves_of word ≡ Some leaves → length word ≤ 3
leaves_size word leaves e =
    elim (of_two_words (bytes_eq word (codes "old")) (bytes_eq word (codes "new")) Old New leaves e) [
      | inl first ↦ is_short word (codes "old") 3 first (omega arith)
      | inr second ↦ is_short word (codes "new") 3 second (omega arith)
    ]

ordinal_size : (word : List ℕ) (place : ℕ) → ordinal_of word ≡ Some place → length word ≤ 72
ordinal_size word place e =
    let number = bound (number_of word) ordinal_number place e in omega (arith, number_size word number.0 number.1)

rounds_size : (word : List ℕ) (rounds : ℕ) → rounds_of word ≡ Some rounds → length word ≤ 72
rounds_size word rounds e =
    let number = bound (number_of word) rounds_number rounds e in omega (arith, number_size word number.0 number.1)

any_service_size : (word : List ℕ) (service : ServiceName) → service_of word ≡ Some service → length word ≤ 72
any_service_size word service e = omega (arith, service_size word service e)

stopped_size : (word : List ℕ) (it : Event) → stopped_of word ≡ Some it → length word ≤ 72
stopped_size word it e =
    elim (chosen (bytes_eq word (codes "broker")) (Some event.StopBroker) (option_map event.Stop (service_of word)) it
    e) [
      | inl broker ↦ is_short word (codes "broker") 72 broker.0 (omega arith)
      | inr other ↦ let found = mapped event.Stop (service_of word) it other in any_service_size word found.0 found.1
    ]

-- ---- arguments

alone_size : {A : Type 0} (meant : List ℕ → Option A)
    → ((word : List ℕ) (x : A) → meant word ≡ Some x → length word ≤ 72)
    → (words : List (List ℕ)) (x : A) → alone meant words ≡ Some x → AreArguments words
alone_size meant short [] x e = absurd cc
alone_size meant short (word ∷ []) x e = (omega (arith, short word x e), omega arith)
alone_size meant short (word ∷ more ∷ rest) x e = absurd cc

connection_size : (words : List (List ℕ)) (connection : ConnectionName) → connection_of words ≡ Some connection
    → AreWithin words 24 2
connection_size [] connection e = absurd cc
connection_size (service ∷ []) connection e = absurd cc
connection_size (service ∷ number ∷ []) connection e =
    let first = bound (service_of service) _ connection e in
    let second = bound (connection_number number) _ connection first.2 in
    (omega (arith, service_size service first.0 first.1, connection_number_size number second.0 second.1), omega arith)
connection_size (service ∷ number ∷ more ∷ rest) connection e = absurd cc

any_connection_size : (words : List (List ℕ)) (connection : ConnectionName) → connection_of words ≡ Some connection
    → AreArguments words
any_connection_size words connection e =
    let few : AreWithin words 24 2 = connection_size words connection e in (omega (arith, few.0), omega (arith, few.1))

fill_size : (words : List (List ℕ)) (event : Event) → fill_of words ≡ Some event → AreArguments words
fill_size [] event e = absurd cc
fill_size (service ∷ []) event e = absurd cc
fill_size (service ∷ number ∷ []) event e = absurd cc
fill_size (service ∷ number ∷ limit ∷ []) event e =
    let first = bound (connection_of (service ∷ number ∷ [])) _ event e in
    let second = bound (number_of limit) _ event first.2 in
    let few : AreWithin (service ∷ number ∷ []) 24 2 = connection_size (service ∷ number ∷ []) first.0 first.1 in
    (omega (arith, few.0, number_size limit second.0 second.1), omega arith)
fill_size (service ∷ number ∷ limit ∷ more ∷ rest) event e = absurd cc

carry_size : (words : List (List ℕ)) (event : Event) → carry_of words ≡ Some event → AreArguments words
carry_size [] event e = absurd cc
carry_size (service ∷ []) event e = absurd cc
carry_size (service ∷ number ∷ []) event e = absurd cc
carry_size (service ∷ number ∷ way ∷ []) event e = absurd cc
carry_size (service ∷ number ∷ way ∷ most ∷ []) event e =
    let first = bound (connection_of (service ∷ number ∷ [])) _ event e in
    let second = bound (way_of way) _ event first.2 in
    let third = bound (number_of most) _ event second.2 in
    let few : AreWithin (service ∷ number ∷ []) 24 2 = connection_size (service ∷ number ∷ []) first.0 first.1 in
    (omega (arith, few.0, way_size way second.0 second.1, number_size most third.0 third.1), omega arith)
carry_size (service ∷ number ∷ way ∷ most ∷ more ∷ rest) event e = absurd cc

fail_size : (words : List (List ℕ)) (event : Event) → fail_of words ≡ Some event → AreArguments words
fail_size [] event e = absurd cc
fail_size (service ∷ []) event e = absurd cc
fail_size (service ∷ n ∷ []) event e = absurd cc
fail_size (service ∷ n ∷ leaves ∷ []) event e =
    let first = bound (service_of service) _ event e in
    let second = bound (ordinal_of n) _ event first.2 in
    let third = bound (leaves_of leaves) _ event second.2 in (
      omega (
        arith,
        service_size service first.0 first.1,
        ordinal_size n second.0 second.1,
        leaves_size leaves third.0 third.1,
      ),
      omega arith,
    )
fail_size (service ∷ n ∷ leaves ∷ more ∷ rest) event e = absurd cc

pair_size : (words : List (List ℕ)) (pair : Pair) → pair_of words ≡ Some pair → AreArguments words
pair_size [] pair e = absurd cc
pair_size (from ∷ []) pair e = absurd cc
pair_size (from ∷ to ∷ []) pair e =
    let first = bound (entity_of from) _ pair e in
    let second = bound (entity_of to) _ pair first.2 in
    (omega (arith, entity_size from first.0 first.1, entity_size to second.0 second.1), omega arith)
pair_size (from ∷ to ∷ more ∷ rest) pair e = absurd cc

no_arguments : (words : List (List ℕ)) (event : Event) → agreement_of words ≡ Some event → AreWithin words 0 0
no_arguments [] event e = (omega arith, omega arith)
no_arguments (more ∷ rest) event e = absurd cc

-- what is made of arguments that are within the sizes
made_size : {A E : Type 0} (make : A → E) (found : Option A) (words : List (List ℕ)) (event : E)
    → ((x : A) → found ≡ Some x → AreArguments words) → option_map make found ≡ Some event → AreArguments words
made_size make found words event within e = let x = mapped make found event e in within x.0 x.1

arguments_size : (of : Verb) (words : List (List ℕ)) (event : Event) → event_by of words ≡ Some event
    → AreArguments words
arguments_size verb.Place words it e = made_size event.Order (place_of words) words it (place_size words) e
arguments_size verb.Cancel words it e = made_size event.Order (cancel_of words) words it (cancel_size words) e
arguments_size verb.Receive words it e = made_size event.Stock (receive_of words) words it (receive_size words) e
arguments_size verb.Limit words it e = made_size event.Account (limit_of words) words it (limit_size words) e
arguments_size verb.Open words it e = made_size event.Open (connection_of words) words it (any_connection_size words) e
arguments_size verb.Cut words it e = made_size event.Cut (connection_of words) words it (any_connection_size words) e
arguments_size verb.Fill words it e = fill_size words it e
arguments_size verb.Resend words it e =
    made_size event.Resend (connection_of words) words it (any_connection_size words) e
arguments_size verb.Carry words it e = carry_size words it e
arguments_size verb.Take words it e = made_size event.Take (connection_of words) words it (any_connection_size words) e
arguments_size verb.Drain words it e =
    made_size event.Drain (connection_of words) words it (any_connection_size words) e
arguments_size verb.Repeat words it e =
    made_size event.Repeat (alone ordinal_of words) words it (alone_size ordinal_of ordinal_size words) e
arguments_size verb.Fail words it e = fail_size words it e
arguments_size verb.Reopen words it e =
    made_size event.Reopen (alone service_of words) words it (alone_size service_of any_service_size words) e
arguments_size verb.Stop words it e = alone_size stopped_of stopped_size words it e
arguments_size verb.Pump words it e =
    made_size event.Pump (alone rounds_of words) words it (alone_size rounds_of rounds_size words) e
arguments_size verb.Show words it e =
    made_size event.Show (alone entity_of words) words it (alone_size entity_of entity_size words) e
arguments_size verb.Pair words it e = made_size event.Pair (pair_of words) words it (pair_size words) e
arguments_size verb.Frames words it e =
    made_size event.Frames (alone service_of words) words it (alone_size service_of any_service_size words) e
arguments_size verb.Journal words it e =
    made_size event.Journal (alone service_of words) words it (alone_size service_of any_service_size words) e
arguments_size verb.Agreement words it e =
    let none = no_arguments words it e in (omega (arith, none.0), omega (arith, none.1))

-- ---- whole events

-- the first of two, or the second
found_first : {A : Type 0} (b : Bool) (x : A) (y : Option A) (v : A) → cond b (Some x) y ≡ Some v
    → ((b ≡ true) × (x ≡ v)) ⊎ (y ≡ Some v)
found_first true x y v e = inl (refl, cc)
found_first false x y v e = inr e

-- a word of a table whose words have at most so many octets, by what they stand for
lookup_size : {V : Type 0} (most : V → ℕ) (word : List ℕ) (table : List (List ℕ × V)) (x : V)
    → list_all (λ entry. leb (length entry.0) (most entry.1)) table ≡ true
    → lookup (bytes_eq word) table ≡ Some x → length word ≤ most x
lookup_size most word [] x short e = absurd cc
lookup_size most word (entry ∷ table) x short e =
    let both = both_true (leb (length entry.0) (most entry.1)) (list_all (λ entry. leb (length entry.0) (most entry.1))
    table) short in
    elim (found_first (bytes_eq word entry.0) entry.1 (lookup (bytes_eq word) table) x e) [
      | inl here ↦ subst (λ v. length word ≤ most v) here.1 (is_short word entry.0 (most entry.1) here.0
          (leb-true _ _ both.0))
      | inr later ↦ lookup_size most word table x both.1 later
    ]

-- how many octets the word of a verb has at most
abbrev verb_most : Verb → ℕ
verb_most verb.Agreement = 9
verb_most _ = 7

-- each event of a language has few and short words
abbrev pub Fits : {E : Type 0} → Language E → Type 0
Fits {E} event_of = (words : List (List ℕ)) (it : E) → event_of words ≡ Some it → AreWithin words 3075 37

-- the word of a verb alone, or with its arguments
said_size : (of : Verb) (name : List ℕ) (arguments : List (List ℕ)) (it : Event) → length name ≤ verb_most of
    → event_by of arguments ≡ Some it → AreWithin (name ∷ arguments) 3075 37
said_size verb.Agreement name arguments it short e =
    let none : AreWithin arguments 0 0 = no_arguments arguments it e in
    (omega (arith, short, none.0), omega (arith, none.1))
said_size of name arguments it short e =
    let rest : AreArguments arguments = arguments_size of arguments it e in
    (omega (arith, short, rest.0), omega (arith, rest.1))

pub events_fit : Fits event_of
events_fit [] it e = absurd cc
events_fit (name ∷ arguments) it e =
    let found = bound (verb_of name) (λ of. event_by of arguments) it e in
    let short : length name ≤ verb_most found.0 = lookup_size verb_most name verbs found.0 refl found.1 in
    said_size found.0 name arguments it short found.2

-- the line of an event has at most so many octets, and so many words
line_size : {E : Type 0} (event_of : Language E) → Fits event_of → (line : List ℕ) (event : E)
    → (words_of line >>= event_of) ≡ Some event
    → (length line ≤ 3074) × (length (slice_split (λ o. eqb o 32) line) ≤ 37)
line_size event_of fits line event e =
    let words = bound (words_of line) event_of event e in
    let event_is : AreWithin words.0 3075 37 = fits words.0 event words.2 in
    let parts = words_size (slice_split (λ o. eqb o 32) line) words.0 words.1 in
    (omega (arith, split_size line, parts.0, event_is.0), omega (arith, parts.1, event_is.1))

none_of : {A : Type 0} (o : Option A) → ((x : A) → o ≡ Some x → ⊥) → o ≡ None
none_of None none = refl
none_of (Some x) none = absurd (none x refl)

above : (a b : ℕ) (p : Bool) → (ltb a b || p) ≡ true → (a < b) ⊎ (p ≡ true)
above a b p e = elim (cases_Bool (ltb a b)) [
  | inl over ↦ inl (ltb-true a b over)
  | inr within ↦ inr (sym (ap (λ t. t || p) within) ∙ e)
]

-- a line with more octets, or with as many spaces as an event may have words, has no event
pub no_event : {E : Type 0} (event_of : Language E) → Fits event_of → (line : List ℕ)
    → (ltb 3074 (length line) || leb 37 (count_by (λ o. eqb o 32) line)) ≡ true → (words_of line >>= event_of) ≡ None
no_event event_of fits line long =
    none_of (words_of line >>= event_of) (λ it is.
    let size = line_size event_of fits line it is in
    elim (above 3074 (length line) (leb 37 (count_by (λ o. eqb o 32) line)) long) [
      | inl octets ↦ omega (arith, size.0, octets)
      | inr spaces ↦ omega (arith, size.1, leb-true _ _ spaces, length-slice_split (λ o. eqb o 32) line)
    ])

-- what an event on a line is read from
event_words : {E : Type 0} (text quiet : Bool) (found : Option E) (it : E)
    → cond text (cond quiet (Some None) (option_map Some found)) None ≡ Some (Some it) → found ≡ Some it
event_words true true found it e = absurd cc
event_words true false None it e = absurd cc
event_words true false (Some x) it e = cc
event_words false quiet found it e = absurd cc

pub event_line_size : (line : List ℕ) (it : Event) → found_on event_of line ≡ Some (Some it)
    → (length line ≤ 3074) × (length (slice_split (λ o. eqb o 32) line) ≤ 37)
event_line_size line it is =
    line_size event_of events_fit line it (event_words (is_utf8 line) (is_quiet line) (words_of line >>= event_of) it
    is)
