-- Examples: octets on their way over a wire, and what a reader's answers mean.
use Rattle.std.proofs.Common.{◌≡◌, ℕ, zero, List, [], true, false, refl, arith}
use Rattle.std.specs.Prelude.{◌^◌, ◌-◌, codes, Some, Ok, Err}
use Rattle.std.specs.declared.io.ErrorKind.TheVariants.{WouldBlock, Interrupted, UnexpectedEof}
use Rattle.stomp_wire.specs.declared.fault.LinkFault.TheVariants.{Cut, Device, Memory}
use Rattle.stomp_wire.specs.Fault.{next_count, IsCounted, link_fault_number}
use Rattle.stomp_wire.specs.Memory.{Queues, QueuePuts, QueueTakes, IsCarried}
use Rattle.stomp_wire.specs.Travel.{Travels, begins, puts, carries, takes}
use Rattle.stomp_wire.specs.Stream.{is_passing, meaning_of_read, meaning_of_write, count_after}

-- an end of a wire with what waits to be carried and what was carried to it
abbrev queues : List ℕ → List ℕ → Queues
queues waiting carried = record { waiting = waiting; carried = carried }

-- a put adds behind what waits; a carry of at most 3 moves the front to the other end; a take of at most 2 leaves the
-- rest
octets_are_queued : (QueuePuts (queues (codes "ab") []) (codes "cd") (Ok 2) (queues (codes "abcd") []))
    × (IsCarried 3 (queues (codes "abcd") []) (queues [] (codes "x")) (queues (codes "d") []) (queues [] (codes "xabc"))
    (Ok 3))
    × (QueueTakes (queues [] (codes "xabc")) 2 (Ok (codes "xa")) (queues [] (codes "bc")))
octets_are_queued = ((refl, refl), (refl, refl, refl), (refl, refl))

-- a carry of more than waits moves what waits
a_carry_moves_what_waits : IsCarried 9 (queues (codes "ab") []) (queues [] []) (queues [] []) (queues [] (codes "ab"))
    (Ok 2)
a_carry_moves_what_waits = (refl, refl, refl)

-- where memory is refused nothing moves
no_memory_moves_nothing : IsCarried 3 (queues (codes "ab") []) (queues [] []) (queues (codes "ab") []) (queues [] [])
    (Err Memory)
no_memory_moves_nothing = (refl, refl, refl)

-- a cut is counted, want of memory isn't, and the count stays at 2^64 - 1
failures_are_counted : (IsCounted {T = ℕ} 4 5 (Err Cut)) × (IsCounted {T = ℕ} 4 4 (Err Memory)) × (next_count 4 ≡ 5)
    × (next_count (2 ^ 64 - 1) ≡ 2 ^ 64 - 1)
failures_are_counted = ((omega arith, omega arith), refl, refl, refl)

-- nothing read is the end of the input, but nothing written is none
ends_are_told : (meaning_of_read (Ok zero) ≡ Err Cut) × (meaning_of_read (Ok 7) ≡ Ok 7)
    × (meaning_of_write (Ok 0) ≡ Ok 0)
ends_are_told = (refl, refl, refl)

-- an error that says only that there is nothing now is no failure
passing_errors_are_two : (is_passing WouldBlock ≡ true) × (is_passing Interrupted ≡ true)
    × (is_passing UnexpectedEof ≡ false)
passing_errors_are_two = (refl, refl, refl)

-- the count after an answer
counts_follow_answers : (count_after 4 (Ok 0) ≡ 4) × (count_after 4 (Err Device) ≡ 5) × (count_after 4 (Err Memory) ≡ 4)
counts_follow_answers = (refl, refl, refl)

-- of three octets that were put, two were carried and one of them was taken
three_are_put : Travels (codes "abc") [] (Some (codes "abc")) (Some [])
three_are_put =
    puts {put = []} {taken = []} {waiting = Some []} {later = Some (codes "abc")} {carried = Some []} (codes "abc")
    (Ok 3) begins (omega arith, refl)

two_are_carried : Travels (codes "abc") [] (Some (codes "c")) (Some (codes "ab"))
two_are_carried = carries {put = codes "abc"} {taken = []} {waiting = Some (codes "abc")} {later = Some (codes "c")}
    {carried = Some []}
    {arrived = Some (codes "ab")}
    (codes "ab") three_are_put refl refl

one_is_taken : Travels (codes "abc") (codes "a") (Some (codes "c")) (Some (codes "b"))
one_is_taken = takes {put = codes "abc"} {taken = []} {waiting = Some (codes "c")} {carried = Some (codes "ab")}
    {later = Some (codes "b")}
    1 [] (codes "a") (Ok 1) two_are_carried
    (refl, refl, omega arith, refl)

-- faults are numbered
faults_are_numbered : (link_fault_number Cut ≡ 1) × (link_fault_number Device ≡ 2) × (link_fault_number Memory ≡ 3)
faults_are_numbered = (refl, refl, refl)
