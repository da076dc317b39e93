-- What one service may be told to do.
use Rattle.std.specs.Prelude.{ℕ}
use Rattle.stomp_wire.specs.declared.wire.Way.{Way}
use Rattle.schedule_text.specs.declared.event.ConnectionNumber.{ConnectionNumber}
use Rattle.schedule_text.specs.declared.event.FailureLeaves.{FailureLeaves}
use Rattle.schedule_text.specs.declared.event.SeatCommand.{SeatCommand}

-- an event of one service with commands C
pub data SiteEvent (C : Type 0) : Type 0 where
  -- takes in a seat's command
  Commits : SeatCommand C → SiteEvent C
  -- opens a connection, or cuts it
  Opens : ConnectionNumber → SiteEvent C
  Cuts : ConnectionNumber → SiteEvent C
  -- sends rows that weren't sent on a connection, at most so many; or makes all due again
  Fills : ConnectionNumber → (limit : ℕ) → SiteEvent C
  Resends : ConnectionNumber → SiteEvent C
  -- carries octets on a way, at most so many
  Carries : ConnectionNumber → Way → (most : ℕ) → SiteEvent C
  -- handles one frame that came, or the first held letter that is next
  Takes : ConnectionNumber → SiteEvent C
  Drains : ConnectionNumber → SiteEvent C
  -- lets a call of the store fail; opens the store anew; stops the service and starts it again
  Arms : (n : ℕ) → FailureLeaves → SiteEvent C
  Reopens : SiteEvent C
  Stops : SiteEvent C
