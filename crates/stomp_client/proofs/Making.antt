-- A frame that is made header by header.
use Rattle.std.proofs.Common.{Ok, Err, refl, inl, inr}
use Rattle.std.specs.Prelude.{Option, Result}
use Rattle.stomp_frame.specs.declared.fault.FrameFault.{FrameFault}
use Rattle.stomp_frame.specs.FaultTable.{or_fault}
use Rattle.stomp_frame.specs.Frames.{Content}
use Rattle.stomp_client.specs.Frames.{IsMadeUnless}

-- where a step isn't made, what was to follow isn't either
pub stops : (one other : Option FrameFault) (f g : Content) (fault : FrameFault) → IsMadeUnless one f (Err fault)
    → IsMadeUnless (or_fault one other) g (Err fault)
stops one other f g fault (inl memory) = inl memory
stops one other f g fault (inr told) = inr (rw told refl)

-- where it is made, what follows decides
pub goes_on : (one other : Option FrameFault) (f g h : Content) (r : Result Content FrameFault)
    → IsMadeUnless one f (Ok g) → IsMadeUnless other h r
    → IsMadeUnless (or_fault one other) h r
goes_on one other f g h r made follows = rw made.0 follows
