use Rattle.std.proofs.Common.{sym, ◌∙◌}
use Rattle.schedule_text.specs.Events.{event_of}
use Rattle.schedule_text.proofs.Sizes.{no_event, events_fit}
use Rattle.schedule_text.proofs.reading.read_said.Goals as goal

pub returns-then-exceeds_events : goal.returns-then-exceeds_events
returns-then-exceeds_events c =
    no_event event_of events_fit c.args.line.now (sym c.exceeds_events.ensures ∙ c.if-exceeds_events.true)
