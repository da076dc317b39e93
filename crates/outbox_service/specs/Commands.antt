-- Which events are commands.
use Rattle.schedule_text.specs.declared.event.Event.{Event}
use Rattle.schedule_text.specs.declared.event.Event.TheVariants.{Order, Stock, Account}
use Rattle.service_program.specs.declared.business.LineFault.{LineFault}
use Rattle.service_program.specs.declared.business.LineFault.TheVariants.{NotMine, Unreadable}

-- why an event is no command of a service: it's one of another, or no command at all
abbrev pub fault_of : Event → LineFault
fault_of (Order asked) = NotMine
fault_of (Stock asked) = NotMine
fault_of (Account asked) = NotMine
fault_of event = Unreadable
