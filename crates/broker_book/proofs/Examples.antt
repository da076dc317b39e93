-- Examples: modes, names of subscriptions, what messages are counted as, and faults.
use Rattle.std.proofs.Common.{◌≡◌, [], ◌∷◌, true, false, refl}
use Rattle.std.specs.Prelude.{codes}
use Rattle.broker_book.specs.declared.fault.QueueFault.TheVariants.{NoSuchAck, QueueFull, Memory, TooMany}
use Rattle.stomp_frame.specs.Frames.{header}
use Rattle.broker_book.specs.declared.parts.Action.TheVariants.{Put, Ack, Nack}
use Rattle.broker_book.specs.declared.parts.Mode.TheVariants.{Auto, Client, Individual}
use Rattle.broker_book.specs.declared.parts.Sent.{Sent}
use Rattle.broker_book.specs.declared.parts.Subscription.{Subscription}
use Rattle.broker_book.specs.Books.{is_auto, reaches, is_named}
use Rattle.broker_book.specs.Faults.{queue_fault_number, queue_fault_name}
use Rattle.broker_book.specs.Sizes.{action_octets, held_octets, sent_octets}

-- in one mode alone a message that goes out is done
one_mode_wants_no_answer : (is_auto Auto ≡ true) × (is_auto Client ≡ false) × (is_auto Individual ≡ false)
one_mode_wants_no_answer = (refl, refl, refl)

-- an answer to 7 counts for 6 and 7 in mode `client`, but not for 8, and for 7 alone in mode `client-individual`
answers_reach : (reaches Client 7 6 ≡ true) × (reaches Client 7 7 ≡ true) × (reaches Client 7 8 ≡ false)
    × (reaches Individual 7 6 ≡ false) × (reaches Individual 7 7 ≡ true) × (reaches Individual 7 8 ≡ false)
answers_reach = (refl, refl, refl, refl, refl, refl)

abbrev listener : Subscription
listener = record { session = 1; id = codes "0"; destination = codes "/queue/a"; mode = Client }

-- a subscription is known by its session and its name, both of them
names_are_of_sessions : (is_named 1 (codes "0") listener ≡ true) × (is_named 2 (codes "0") listener ≡ false)
    × (is_named 1 (codes "1") listener ≡ false) × (is_named 1 [] listener ≡ false)
names_are_of_sessions = (refl, refl, refl, refl)

abbrev greeting : Sent
greeting = record { destination = codes "/queue/a"; headers = header (codes "k") (codes "v") ∷ []; body = codes "hi" }

-- a message is counted as 512 and its octets, and as 32 more where a transaction keeps it
octets_are_counted : (sent_octets greeting ≡ 524) × (action_octets (Put greeting) ≡ 556) × (action_octets (Ack 7) ≡ 32)
    × (action_octets (Nack 7) ≡ 32)
    × (held_octets [] ≡ 0)
octets_are_counted = (refl, refl, refl, refl, refl)

-- faults are numbered and named
faults_are_numbered : (queue_fault_number NoSuchAck ≡ 31) × (queue_fault_number QueueFull ≡ 32)
    × (queue_fault_number Memory ≡ 34)
    × (queue_fault_number TooMany ≡ 36)
faults_are_numbered = (refl, refl, refl, refl)

faults_are_named : (queue_fault_name NoSuchAck ≡ codes "NoSuchAck") × (queue_fault_name Memory ≡ codes "Memory")
faults_are_named = (refl, refl)
