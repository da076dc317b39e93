-- Examples: puts and takes over a stream, a pump of three octets, and what is on its way on a wire.
use Rattle.std.proofs.Common.{◌≡◌, ℕ, List, [], inl, inr, refl, arith}
use Rattle.std.specs.Prelude.{codes, Some, None, Result, Ok, Err}
use Rattle.stomp_wire.specs.declared.fault.LinkFault.{LinkFault}
use Rattle.stomp_wire.specs.declared.fault.LinkFault.TheVariants.{Cut, Device, Memory}
use Rattle.stomp_wire.specs.declared.pump.Gone.{Gone}
use Rattle.stomp_wire.specs.declared.stream.StreamLink.{StreamLink}
use Rattle.stomp_wire.specs.declared.wire.MemoryWire.{MemoryWire}
use Rattle.stomp_wire.specs.declared.wire.Way.TheVariants.{Up, Down}
use Rattle.stomp_wire.specs.Fault.{link_fault_name}
use Rattle.stomp_wire.specs.Link.{answer_of}
use Rattle.stomp_wire.specs.Pump.{Puts, no_put, one_more, IsEnd, IsPumped, IsPumpCounted}
use Rattle.stomp_wire.specs.Stream.{StreamPuts, StreamTakes}
use Rattle.stomp_wire.specs.Travel.{IsKept, begins, puts}
use Rattle.stomp_wire.specs.Wire.{TravelsOn, start_of, end_of}

-- ---- a stream

-- a link over a stream: what is left to read, what was written, and the count of failures; all octets are known
abbrev link : List ℕ → List ℕ → ℕ → StreamLink (List ℕ) (List ℕ)
link left written failures = record { reader = left; writer = written; failures = failures }

-- what may come of a put on such a link
abbrev Put : StreamLink (List ℕ) (List ℕ) → List ℕ → Result ℕ LinkFault → StreamLink (List ℕ) (List ℕ) → Type 0
Put = StreamPuts Some Some

-- and of a take
abbrev Take : StreamLink (List ℕ) (List ℕ) → ℕ → Result (List ℕ) LinkFault → StreamLink (List ℕ) (List ℕ) → Type 0
Take = StreamTakes Some Some

-- a writer may take two of three octets; where it fails it takes none, and the failure is counted
a_put_writes_a_beginning : (Put (link [] (codes "x") 0) (codes "abc") (Ok 2) (link [] (codes "xab") 0))
    × (Put (link [] (codes "x") 0) (codes "abc") (Err Device) (link [] (codes "x") 1))
a_put_writes_a_beginning = (((omega arith, refl), refl, refl), (refl, refl, refl, refl))

-- a put over a stream is never cut
a_put_is_never_cut : Put (link [] [] 0) (codes "abc") (Err Cut) (link [] [] 1) → ⊥
a_put_is_never_cut cut = let same : Cut ≡ Device = cut.0 in cc

-- a take of at most two leaves the rest; at the end of the input it's cut, and that is counted; where memory is refused
-- nothing changes
a_take_reads_the_front : (Take (link (codes "abc") [] 4) 2 (Ok (codes "ab")) (link (codes "c") [] 4))
    × (Take (link [] [] 4) 2 (Err Cut) (link [] [] 5))
    × (Take (link (codes "abc") [] 4) 2 (Err Device) (link (codes "abc") [] 5))
    × (Take (link (codes "abc") [] 4) 2 (Err Memory) (link (codes "abc") [] 4))
a_take_reads_the_front = ((omega arith, refl, refl, refl), (refl, refl, refl, refl), (refl, refl, refl), refl)

-- nothing is cut while there are octets to read
no_cut_before_the_end : Take (link (codes "abc") [] 4) 2 (Err Cut) (link (codes "abc") [] 5) → ⊥
no_cut_before_the_end cut = let gone : codes "abc" ≡ [] = cut.1 in cc

-- what a take says is the octets that the list grew by
answers_have_the_octets : (answer_of (codes "x") (codes "xab") (Ok 2) ≡ Ok (codes "ab"))
    × (answer_of (codes "x") (codes "x") (Err Cut) ≡ Err Cut)
answers_have_the_octets = (refl, refl)

-- ---- a pump

-- what became of a pump of three octets, on a link that had written none
abbrev Pumps : Gone → StreamLink (List ℕ) (List ℕ) → Type 0
Pumps gone after = IsPumped Put (codes "abc") (link [] [] 0) 0 after gone

-- a put of all three took two of them
two_are_out : Puts Put (codes "abc") (link [] [] 0) 0 (link [] (codes "ab") 0) 2
two_are_out = one_more {before = link [] [] 0} {after = link [] (codes "ab") 0} {count = 0} {n = 2} no_put
    ((omega arith, refl), refl, refl)
    (omega arith)

-- and a put of the third took that
three_are_out : Puts Put (codes "abc") (link [] [] 0) 0 (link [] (codes "abc") 0) 3
three_are_out =
    one_more {before = link [] (codes "ab") 0} {after = link [] (codes "abc") 0} {count = 2} {n = 1} two_are_out
    ((omega arith, refl), refl, refl) (omega arith)

-- then all are out, and it ends without another put
a_pump_ends_when_all_are_out : Pumps (record { count = 3; fault = None }) (link [] (codes "abc") 0)
a_pump_ends_when_all_are_out = record { last = link [] (codes "abc") 0; puts = three_are_out; ends = inl (refl, refl) }

-- or it ends with two out, where the put of the third takes none
a_pump_ends_at_a_put_of_none : Pumps (record { count = 2; fault = None }) (link [] (codes "ab") 0)
a_pump_ends_at_a_put_of_none = record {
  last = link [] (codes "ab") 0;
  puts = two_are_out;
  ends = inr (omega arith, ((omega arith, refl), refl, refl));
}

-- or where that put fails, which is counted
a_pump_ends_at_a_fault : Pumps (record { count = 2; fault = Some Device }) (link [] (codes "ab") 1)
a_pump_ends_at_a_fault =
    record { last = link [] (codes "ab") 0; puts = two_are_out; ends = (omega arith, (refl, refl, refl, refl)) }

-- with octets left it doesn't end at a put that took some
no_pump_ends_at_a_put_of_some : IsEnd Put (codes "c") (link [] (codes "ab") 0) (link [] (codes "abc") 0) None → ⊥
no_pump_ends_at_a_put_of_some ends = elim ends [
  | inl all ↦ let gone : codes "c" ≡ [] = all.0 in cc
  | inr none ↦ let same : codes "abc" ≡ codes "ab" = none.1.0.1 in cc
]

-- a pump that ends by itself or for want of memory counts nothing
pumps_are_counted : (IsPumpCounted 4 4 None) × (IsPumpCounted 4 4 (Some Memory)) × (IsPumpCounted 4 5 (Some Device))
pumps_are_counted = (refl, refl, (omega arith, omega arith))

-- the faults' names
faults_are_named : (link_fault_name Cut ≡ codes "Cut") × (link_fault_name Device ≡ codes "Device")
    × (link_fault_name Memory ≡ codes "Memory")
faults_are_named = (refl, refl, refl)

-- ---- a wire

-- a wire whose far end put `ok`, which nobody carried yet
abbrev answering : MemoryWire
answering = record { near = record { waiting = []; carried = [] }; far = record { waiting = codes "ok"; carried = [] } }

-- down leads from the far end to the near one
ways_have_ends : ((start_of Down answering).waiting ≡ codes "ok") × (start_of Up answering ≡ answering.near)
    × (end_of Down answering ≡ answering.near) × (end_of Up answering ≡ answering.far)
ways_have_ends = (refl, refl, refl, refl)

-- so on the way down `ok` was put and nothing was taken, and on the way up nothing was put
ways_are_apart : (TravelsOn Down (codes "ok") [] answering) × (TravelsOn Up [] [] answering)
ways_are_apart = (
  puts {put = []} {taken = []} {waiting = Some []} {later = Some (codes "ok")} {carried = Some []} (codes "ok")
      (Ok 2) begins (omega arith, refl),
  begins,
)

-- of what was put, the first was taken, the next was carried and the last waits; none may be lost on the way
nothing_is_lost : (IsKept (codes "abc") (codes "a") (Some (codes "c")) (Some (codes "b")))
    × (IsKept (codes "abc") (codes "a") (Some (codes "c")) (Some []) → ⊥)
nothing_is_lost = (refl, λ lost. let short : codes "abc" ≡ codes "ac" = lost in cc)
