-- Where a message is.
use Rattle.std.specs.Prelude.{Option, Some, None}
use Rattle.broker_book.specs.Books.{Fate, Ready as ready, Out as out}
use Rattle.broker_index.specs.declared.standing.Standing.{Standing}
use Rattle.broker_index.specs.declared.standing.Standing.TheVariants.{Ready, Out, Gone}

-- the fate of a message, unless it is gone
abbrev pub fate_of : Standing → Option Fate
fate_of Ready = Some ready
fate_of (Out h) = Some (out h.session h.id h.ack)
fate_of Gone = None
