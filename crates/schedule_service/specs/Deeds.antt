-- What a service's store may have of an event, as its outcome tells it.
use Rattle.std.specs.Prelude.{◌≡◌, ℕ, ◌≤◌, ◌⊎◌, Option, Some, None, Ok, Err}
use Rattle.stomp_frame.specs.Frames.{Content}
use Rattle.activities.specs.Service.{Service}
use Rattle.keep.specs.Failing.{through}
use Rattle.keep.specs.Seen.{Seen}
use Rattle.keep.specs.Tables.{Tables}
use Rattle.endpoint.specs.Calls.{StillMatches}
use Rattle.endpoint.specs.Deeds.{Kept, Deed, Nothing, TakesIn, Came, CommitMay}
use Rattle.endpoint.specs.Faults.{end_fault_number}
use Rattle.endpoint.specs.Matches.{AllMatch}
use Rattle.endpoint.specs.declared.fault.EndFault.{EndFault}
use Rattle.endpoint.specs.declared.fault.EndFault.TheVariants.{Business}
use Rattle.activities.specs.declared.input.JournalRow.{JournalRow}
use Rattle.schedule_mail.specs.Connecting.{TakesNext}
use Rattle.schedule_mail.specs.declared.connection.Connection.{Connection}
use Rattle.reception.specs.Deeds.{TakeMay}
use Rattle.reception.specs.Draining.{DrainsMay}
use Rattle.reception.specs.declared.fault.ReceptionFault.TheVariants.{End}
use Rattle.reception.specs.declared.taken.Taken.TheVariants as taken
use Rattle.schedule_text.specs.declared.event.ConnectionNumber.{ConnectionNumber}
use Rattle.schedule_text.specs.declared.outcome.Outcome.{Outcome}
use Rattle.schedule_text.specs.declared.outcome.Outcome.TheVariants.{Committed, Handled, Repeated, Held, Settled, Idle}
use Rattle.schedule_text.specs.declared.outcome.Outcome.TheVariants.{Drained, Refused}
use Rattle.schedule_text.specs.declared.outcome.Outcome.TheVariants.{NotDone}
use Rattle.schedule_service.specs.SiteSteps.{command_row}
use Rattle.schedule_service.specs.Channels.{channel_of}
use Rattle.schedule_service.specs.SiteEvents.{SiteEvent, Commits, Takes, Drains}
use Rattle.schedule_service.specs.declared.site_channel.SiteChannel.{SiteChannel}
use Rattle.schedule_service.specs.declared.site.Site.{Site}

-- the connections of a service by number, where they are open
abbrev pub Channels : Type 0
Channels = ConnectionNumber → Option SiteChannel

abbrev pub channels_of : {H K S C : Type 0} → Site H K S C → Channels
channels_of s number = channel_of number s

-- this frame is the next one that came on a connection
abbrev pub CameOn : Option SiteChannel → Content → Type 0
CameOn None f = ⊥
CameOn (Some l) f = (later : Connection) × TakesNext l.connection later (Ok (Some f))

module _ {S C : Type 0} (service : Service S C) where
  -- a command
  abbrev pub CommandMay : JournalRow C → Outcome → Kept C → Deed C → Type 0
  CommandMay row (Committed position) x d = CommitMay service row (Ok (record { pos = position })) x d
  CommandMay row (NotDone refusal) x d = CommitMay service row (Err (Business refusal)) x d
  CommandMay row (Refused n) x d = (d ≡ Nothing) ⊎ ((n ≡ 63) × (d ≡ TakesIn row))
  CommandMay row _ x d = ⊥

  -- a frame that came; where it was refused, nothing was done, or what its fault allows
  abbrev pub FrameMay : (Content → Type 0) → Outcome → Kept C → Deed C → Type 0
  FrameMay Came (Handled position) x d = (f : Content) × Came f × TakeMay service f (Ok (taken.Handled position)) x d
  FrameMay Came Repeated x d =
      (f : Content) × (number : ℕ) × Came f × TakeMay service f (Ok (taken.Repeated number)) x d
  FrameMay Came Held x d = (f : Content) × Came f × TakeMay service f (Ok taken.Held) x d
  FrameMay Came (Settled mark) x d = (f : Content) × Came f × TakeMay service f (Ok (taken.Settled mark)) x d
  FrameMay Came (Refused n) x d = (d ≡ Nothing)
      ⊎ ((f : Content) × (fault : EndFault) × Came f × (n ≡ end_fault_number fault)
      × TakeMay service f (Err (End fault)) x d)
  FrameMay Came (NotDone refusal) x d = (f : Content) × Came f × TakeMay service f (Err (End (Business refusal))) x d
  FrameMay Came _ x d = d ≡ Nothing

  -- held letters
  abbrev pub HeldMay : Outcome → Kept C → Deed C → Type 0
  HeldMay (Drained pair number) x d = DrainsMay service (Ok (Some (record { pair = pair; number = number }))) x d
  HeldMay Idle x d = DrainsMay service (Ok None) x d
  HeldMay (Refused n) x d = (d ≡ Nothing)
      ⊎ ((fault : EndFault) × (n ≡ end_fault_number fault) × DrainsMay service (Err (End fault)) x d)
  HeldMay (NotDone refusal) x d = DrainsMay service (Err (End (Business refusal))) x d
  HeldMay _ x d = ⊥

  -- each event: what isn't named here does nothing to the tables
  abbrev pub SiteMay : Channels → SiteEvent C → Outcome → Kept C → Deed C → Type 0
  SiteMay channels (Commits asked) outcome x d = CommandMay (command_row asked) outcome x d
  SiteMay channels (Takes number) outcome x d = FrameMay (CameOn (channels number)) outcome x d
  SiteMay channels (Drains number) outcome x d = HeldMay outcome x d
  SiteMay channels _ outcome x d = d ≡ Nothing

module _ {H K S C : Type 0} (seen : K → Seen (Tables S C)) (s t : Site H K S C) where
  -- doubt never falls
  abbrev pub DoubtStays : Type 0
  DoubtStays = (seen s.endpoint.keep).doubt ≤ (seen t.endpoint.keep).doubt

  module _ (service : Service S C) where
    -- all that a stop may leave matches its journal again
    abbrev pub Matches : Type 0
    Matches = StillMatches (through seen) s.endpoint t.endpoint service

    -- each content that there is then comes of one before, by a deed that is allowed there
    abbrev pub Goes : (Kept C → Deed C → Type 0) → Type 0
    Goes allowed = (seen t.endpoint.keep).doubt ≡ 0 → AllMatch service (seen s.endpoint.keep).may_leave
        → (u : Tables S C) → (seen t.endpoint.keep).may_leave u
        → ∥ Came service allowed (seen s.endpoint.keep).may_leave u ∥₁
