-- Examples: what a service's store may have of events, and what relays know of an outbox.
use Rattle.std.proofs.Common.{◌≡◌, ℕ, suc, [], ◌∷◌, length, Option, Some, None, true, false, refl, sym, ap, subst}
use Rattle.std.proofs.Common.{arith}
use Rattle.std.proofs.Common.{inl, inr}
use Rattle.std.proofs.Math.Logic.{∥∥₁_elim}
use Rattle.base.specs.Order.{same_entity, same_pair}
use Rattle.stomp_frame.specs.Frames.{Content}
use Rattle.envelope.specs.Reading.{read_frame}
use Rattle.envelope.specs.declared.message.Envelope.TheVariants.{Letter as OfLetter}
use Rattle.envelope.specs.declared.message.Letter.{Letter}
use Rattle.envelope.specs.declared.message.Message.TheVariants.{Tentative}
use Rattle.activities.specs.declared.handler.Refusal.TheVariants.{AlreadyPlaced}
use Rattle.activities.specs.declared.input.JournalRow.{JournalRow}
use Rattle.activities.proofs.Asking.{Asked}
use Rattle.keep.specs.Failing.{Failing}
use Rattle.keep.specs.Seen.{Seen}
use Rattle.keep.specs.Tables.{empty}
use Rattle.endpoint.specs.Arrivals.{row_of_letter}
use Rattle.endpoint.specs.Deeds.{Kept, kept, Deed, Did, Nothing, TakesIn, Holds, Settles}
use Rattle.endpoint.specs.Matches.{TablesMatchJournal}
use Rattle.endpoint.specs.declared.fault.EndFault.TheVariants.{StoreFailed}
use Rattle.endpoint.proofs.Examples.{o1, bolts, placing}
use Rattle.endpoint.proofs.CallExamples.{orders, OrderTables, before, after, before_matches}
use Rattle.schedule_mail.specs.Mails.{Mail}
use Rattle.schedule_mail.specs.declared.connection.Connection.{Connection}
use Rattle.relay.specs.declared.relay.Relay.{Relay}
use Rattle.schedule_text.specs.declared.event.ConnectionNumber.TheVariants.{Zero, One}
use Rattle.schedule_text.specs.declared.outcome.Outcome.{Outcome}
use Rattle.schedule_text.specs.declared.outcome.Outcome.TheVariants as told
use Rattle.schedule_service.specs.Cursors.{KnowsEach, AreRight, KeepsRight}
use Rattle.schedule_service.specs.Deeds.{channels_of, CameOn, CommandMay, FrameMay, HeldMay, SiteMay, DoubtStays}
use Rattle.schedule_service.specs.Deeds.{Matches, Goes}
use Rattle.schedule_service.specs.SiteEvents as event
use Rattle.schedule_service.specs.SiteEvents.{SiteEvent}
use Rattle.schedule_service.specs.declared.site_channel.SiteChannel.{SiteChannel}
use Rattle.schedule_service.specs.declared.site.Site.{Site}
use Rattle.schedule_service.proofs.StepExamples.{asked}

-- ---- what may be done

-- what was committed stands at its position; a store that failed may have the command or not, and no other fault has it
commands_may_do : CommandMay orders placing (told.Committed 1) (kept before) (TakesIn placing)
    × CommandMay orders placing (told.Refused 63) (kept before) (TakesIn placing)
    × CommandMay orders placing (told.Refused 63) (kept before) Nothing
    × CommandMay orders placing (told.Refused 64) (kept before) Nothing
    × CommandMay orders placing (told.NotDone AlreadyPlaced) (kept after) Nothing
    × (CommandMay orders placing (told.Committed 2) (kept before) (TakesIn placing) → ⊥)
    × (CommandMay orders placing (told.Refused 64) (kept before) (TakesIn placing) → ⊥)
    × (CommandMay orders placing (told.NotDone AlreadyPlaced) (kept before) Nothing → ⊥)
    × (CommandMay orders placing told.Opened (kept before) Nothing → ⊥)
unfolding same_entity same_pair
commands_may_do = (
  (refl, refl),
  inr (refl, refl),
  inl refl,
  inl refl,
  (refl, refl),
  λ h. let position = h.1 in omega (arith, position),
  no_memory,
  λ h. let refused = h.1 in absurd (cc),
  λ h. h,
)
  where
    no_memory : CommandMay orders placing (told.Refused 64) (kept before) (TakesIn placing) → ⊥
    no_memory (inl none) = absurd (cc)
    no_memory (inr failed) = let number = failed.0 in omega (arith, number)

-- the stock's letter to the order
abbrev letter : ℕ → Letter
letter number = record { pair = record { from = bolts; to = o1 }; number = number; message = Tentative }

abbrev answer : JournalRow Asked
answer = row_of_letter (letter 1)

-- a frame that carries the first letter
module _ (f : Content) (carries : read_frame f ≡ Some (OfLetter (letter 1))) where
  abbrev Is : Content → Type 0
  Is g = g ≡ f

  abbrev NoFrame : Content → Type 0
  NoFrame g = ⊥

  -- the letter is handled at the next position; nothing that came is no letter, and what isn't a letter or a settle
  -- does nothing
  frames_may_do : FrameMay orders Is (told.Handled 2) (kept after) (TakesIn answer)
      × FrameMay orders Is told.Connected (kept after) Nothing
      × FrameMay orders Is (told.Refused 44) (kept after) Nothing
      × (FrameMay orders Is (told.Handled 2) (kept after) Nothing → ⊥)
      × (FrameMay orders NoFrame (told.Handled 2) (kept after) (TakesIn answer) → ⊥)
      × (FrameMay orders Is told.Connected (kept after) (TakesIn answer) → ⊥)
  unfolding same_entity same_pair
  frames_may_do = (
    (f, refl, (letter 1, carries, (refl, refl))),
    refl,
    inl refl,
    λ h. let done = h.2.2.0 in absurd (cc),
    λ h. h.1,
    λ h. absurd (cc),
  )

  -- an event does what it is: a command is taken in, a frame that came is, and what changes no tables does nothing
  events_may_do : SiteMay orders (λ _. None) (event.Commits asked) (told.Committed 1) (kept before) (TakesIn placing)
      × SiteMay orders (λ _. None) (event.Takes Zero) told.Idle (kept before) Nothing
      × SiteMay orders (λ _. None) (event.Drains Zero) told.Idle (kept before) Nothing
      × SiteMay orders (λ _. None) (event.Fills Zero 64) (told.Sent 2) (kept before) Nothing
      × (SiteMay orders (λ _. None) (event.Takes Zero) told.Held (kept before) (Holds (letter 2)) → ⊥)
      × (SiteMay orders (λ _. None) (event.Fills Zero 64) (told.Committed 1) (kept before) (TakesIn placing) → ⊥)
  events_may_do = ((refl, refl), refl, (refl, λ p. refl), refl, λ h. h.1, λ h. absurd (cc))

-- where nothing is held nothing is next; a store that failed tells nothing, and none may be drained that isn't held
held_letters_may_do : HeldMay orders told.Idle (kept before) Nothing
    × HeldMay orders (told.Refused 63) (kept before) Nothing
    × (HeldMay orders told.Idle (kept before) (TakesIn answer) → ⊥)
    × (HeldMay orders (told.Drained (letter 1).pair 1) (kept before) (TakesIn answer) → ⊥)
    × (HeldMay orders told.Opened (kept before) Nothing → ⊥)
held_letters_may_do = (
  (refl, λ p. refl),
  inr (StoreFailed, refl, inl (tt, refl)),
  λ h. let none = h.0 in absurd (cc),
  λ h. let held = h.0.0 in absurd (cc),
  λ h. h,
)

-- ---- a service of orders, whose store has these tables, with files in doubt or not

abbrev Store : Type 0
Store = ℕ × OrderTables

abbrev seen : Store → Seen OrderTables
seen k = record { tables = k.1; may_leave = λ t. t ≡ k.1; failures = 0; usable = true; doubt = k.0; armed = None }

abbrev store : ℕ → OrderTables → Failing Store
store doubt tables = record { keep = (doubt, tables); armed = None; is_down = false; failures = 0 }

-- the journal's row without the order's state
abbrev lost_state : OrderTables
lost_state = record empty { journal = placing ∷ [] }

module _ (c : Connection) (relay : Relay) (f : Content) where
  -- a channel with a cursor of so many rows, on which a frame waits
  abbrev cursor : ℕ → Relay
  cursor rows = record relay { behind = None; rows = rows }

  abbrev waiting : Option Content → Connection
  waiting frame = record c { channel = record c.channel { waiting = frame } }

  abbrev channel : ℕ → SiteChannel
  channel rows = record { connection = waiting (Some f); relay = cursor rows }

  abbrev Service : Type 0
  Service = Site ℕ Store (Option Asked) Asked

  abbrev site : Failing Store → Option SiteChannel → Service
  site e l = record { endpoint = e; zero = l; one = None }

  -- each number has its own channel
  channels_are_of_a_site : (channels_of (site (store 0 before) (Some (channel 0))) Zero ≡ Some (channel 0))
      × (channels_of (site (store 0 before) (Some (channel 0))) One ≡ None)
      × (channels_of (site (store 0 before) (Some (channel 0))) One ≡ Some (channel 0) → ⊥)
  channels_are_of_a_site = (refl, refl, λ h. absurd (cc))

  -- the frame that waits came, and no longer one; on no connection none did
  frames_came : CameOn (Some (channel 0)) f × (CameOn None f → ⊥)
      × (CameOn (Some (channel 0)) (record f { body = 65 ∷ f.body }) → ⊥)
  frames_came = ((waiting None, ((refl, refl), refl)), λ h. h, longer)
    where
      body_of : Option Content → ℕ
      body_of None = 0
      body_of (Some g) = length g.body

      longer : CameOn (Some (channel 0)) (record f { body = 65 ∷ f.body }) → ⊥
      longer h = let same : Some (record f { body = 65 ∷ f.body }) ≡ Some f = let frame = h.1.0.0 in cc in
          let more : suc (length f.body) ≡ length f.body = ap body_of same in omega (arith, more)

  -- doubt may rise and never falls
  doubt_stays : DoubtStays seen (site (store 0 before) None) (site (store 1 before) None)
      × (DoubtStays seen (site (store 1 before) None) (site (store 0 before) None) → ⊥)
  doubt_stays = (omega arith, λ h. omega (arith, h))

  -- tables that matched match still; not where the state of an order was lost
  good : (t : OrderTables) → t ≡ before → TablesMatchJournal orders t
  good t left = subst (TablesMatchJournal orders) (sym left) before_matches

  tables_match : Matches seen (site (store 0 before) None) (site (store 0 before) None) orders
      × (Matches seen (site (store 0 before) None) (site (store 0 lost_state) None) orders → ⊥)
  unfolding same_entity
  tables_match = (λ clean matches. matches, λ h. let row = (h refl good lost_state refl).entities o1 in absurd (cc))

  -- where nothing is done the tables stay; where nothing may be done no row is taken in
  tables_go : Goes seen (site (store 0 before) None) (site (store 0 before) None) orders (λ x d. d ≡ Nothing)
      × (Goes seen (site (store 0 before) None) (site (store 0 after) None) orders (λ x d. d ≡ Nothing) → ⊥)
  tables_go = (
    λ clean matches u left. ∣ record { before = u; deed = Nothing; was = left; may = refl; did = refl } ∣₁,
    λ h. ∥∥₁_elim (h refl good after refl) (λ a b. absurd a) (λ came. none came.before came.deed came.was came.may
        came.did),
  )
    where
      none : (t : OrderTables) (d : Deed Asked) → t ≡ before → d ≡ Nothing → Did orders (kept t) d (kept after) → ⊥
      none t Nothing was may did = let rows : length t.journal ≡ 0 = ap (λ (x : OrderTables). length x.journal) was in
          let row : 1 ≡ length t.journal = ap (λ (k : Kept Asked). length k.journal) did in omega (arith, rows, row)
      none t (TakesIn row) was may did = absurd (cc)
      none t (Holds l) was may did = absurd (cc)
      none t (Settles p n) was may did = absurd (cc)

  -- ---- what relays know

  -- a cursor of no row is right of any tables, and one of a row isn't of an empty journal
  relays_know_each : KnowsEach orders (λ t. t ≡ before) (cursor 0) × (KnowsEach orders (λ t. t ≡ before) (cursor 1) → ⊥)
  relays_know_each =
      (λ t left. (omega arith, λ x upto some. absurd upto), λ h. let rows = (h before refl).0 in omega (arith, rows))

  -- so are those of open connections; where none is open there is nothing to be right
  cursors_are_right : AreRight seen orders (site (store 0 before) (Some (channel 0)))
      × AreRight seen orders (site (store 0 before) None)
      × (AreRight seen orders (site (store 0 before) (Some (channel 1))) → ⊥)
  cursors_are_right = ((relays_know_each.0, tt), (tt, tt), λ h. relays_know_each.1 h.0)

  -- where no connection is open behind an event, all cursors stay right
  cursors_stay : (e : SiteEvent Asked) (outcome : Outcome) (s : Service) (from to : Mail)
      → KeepsRight seen orders e outcome s from (site (store 0 before) None) to
  cursors_stay e outcome s from to = λ clean matches step goes right. (tt, tt)
