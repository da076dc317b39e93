-- What is put at one end of a wire comes out at the other, in order.
use Rattle.std.proofs.Common.{◌≡◌, ℕ, List, [], ◌++◌, take, Option, Some, None, Result, Ok, Err, refl, sym}
use Rattle.std.proofs.Common.{append_assoc, arith, rules}
use Rattle.std.proofs.lemmas.Grind.{common_steps}
use Rattle.std.proofs.lemmas.List.{take-append-drop}
use Rattle.std.specs.Io.{StartsWith}
use Rattle.std.specs.Io.KnownBytes.{Appends, Consumes}
use Rattle.stomp_wire.specs.Link.{IsPut, IsTake, came}
use Rattle.stomp_wire.specs.Memory.{Queues, IsCarried}
use Rattle.stomp_wire.specs.Travel.{Travels, begins, puts, carries, takes, IsKept, added}
use Rattle.stomp_wire.specs.declared.fault.LinkFault.{LinkFault}

put_keeps : (put taken octets : List ℕ) (waiting later carried : Option (List ℕ)) (answer : Result ℕ LinkFault)
    → IsKept put taken waiting carried → IsPut octets waiting later answer
    → IsKept (put ++ added octets answer) taken later carried
put_keeps put taken octets None later carried answer kept is = absurd kept
put_keeps put taken octets (Some w) later None answer kept is = absurd kept
put_keeps put taken octets (Some w) None (Some c) (Ok n) kept is = is.1
put_keeps put taken octets (Some w) None (Some c) (Err fault) kept is = is
put_keeps put taken octets (Some w) (Some v) (Some c) (Ok n) kept is =
    rw (kept, is.1) (append_assoc (taken ++ c) w (take n octets))
put_keeps put taken octets (Some w) (Some v) (Some c) (Err fault) kept is = rw (kept, is) (search rules)

carry_keeps : (put taken moved : List ℕ) (waiting later carried arrived : Option (List ℕ))
    → IsKept put taken waiting carried
    → Consumes waiting later moved → Appends carried arrived moved → IsKept put taken later arrived
carry_keeps put taken moved None later carried arrived kept gone come = absurd kept
carry_keeps put taken moved (Some w) later None arrived kept gone come = absurd kept
carry_keeps put taken moved (Some w) None (Some c) arrived kept gone come = absurd gone
carry_keeps put taken moved (Some w) (Some v) (Some c) None kept gone come = absurd come
carry_keeps put taken moved (Some w) (Some v) (Some c) (Some d) kept gone come =
    rw (kept, gone, come) (grind (arith, common_steps))

take_keeps : (most : ℕ) (put taken before after : List ℕ) (waiting carried later : Option (List ℕ))
    (answer : Result ℕ LinkFault)
    → IsKept put taken waiting carried → IsTake most before after carried later answer
    → IsKept put (taken ++ came before after) waiting later
take_keeps most put taken before after None carried later answer kept is = absurd kept
take_keeps most put taken before after (Some w) None later answer kept is = absurd kept
take_keeps most put taken before after (Some w) (Some c) None (Ok n) kept is = absurd is.3
take_keeps most put taken before after (Some w) (Some c) None (Err fault) kept is = absurd is.1
take_keeps most put taken before after (Some w) (Some c) (Some d) (Ok n) kept is =
    rw (kept, is.3) (grind (arith, common_steps))
take_keeps most put taken before after (Some w) (Some c) (Some d) (Err fault) kept is =
    rw (kept, is.0, is.1) (grind (arith, common_steps))

-- what was put is what was taken, then what was carried, then what waits
pub travels_keep : (put taken : List ℕ) (waiting carried : Option (List ℕ)) → Travels put taken waiting carried
    → IsKept put taken waiting carried
travels_keep [] [] (Some []) (Some []) begins = refl
travels_keep _ _ _ _ (puts octets answer so_far is) = put_keeps _ _ octets _ _ _ answer (travels_keep _ _ _ _ so_far) is
travels_keep _ _ _ _ (carries moved so_far gone come) =
    carry_keeps _ _ moved _ _ _ _ (travels_keep _ _ _ _ so_far) gone come
travels_keep _ _ _ _ (takes most before after answer so_far is) =
    take_keeps most _ _ before after _ _ _ answer (travels_keep _ _ _ _ so_far) is

-- what was taken is a beginning of what was put
pub kept_begins : (put taken : List ℕ) (waiting carried : Option (List ℕ)) → IsKept put taken waiting carried
    → StartsWith put taken
kept_begins put taken None carried kept = absurd kept
kept_begins put taken (Some w) None kept = absurd kept
kept_begins put taken (Some w) (Some c) kept = rw kept (grind (arith, common_steps))

-- a carry is a step of a journey
pub carried_travels : (most : ℕ) (from to from' to' : Queues) (answer : Result ℕ LinkFault)
    → IsCarried most from to from' to' answer
    → (put taken : List ℕ) → Travels put taken (Some from.waiting) (Some to.carried)
    → Travels put taken (Some from'.waiting) (Some to'.carried)
carried_travels most from to from' to' (Ok n) is put taken so_far =
    let gone : from.waiting ≡ take n from.waiting ++ from'.waiting = rw is.1 (sym (take-append-drop n from.waiting)) in
    let come : to'.carried ≡ to.carried ++ take n from.waiting = rw is.2 refl in
    carries (take n from.waiting) so_far gone come
carried_travels most from to from' to' (Err fault) is put taken so_far = rw (is.1, is.2) so_far
