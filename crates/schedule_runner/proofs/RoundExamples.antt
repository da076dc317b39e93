-- Examples: the events of a pump, paths of steps, what a run appends, and what a service is told.
use Rattle.std.proofs.Common.{◌≡◌, ℕ, suc, List, [], ◌∷◌, length, Ok, Err, refl, ap, arith}
use Rattle.stomp_wire.specs.declared.wire.Way.TheVariants.{Up, Down}
use Rattle.trade.specs.declared.commands.OrderCommand.{OrderCommand}
use Rattle.schedule_text.specs.declared.event.ConnectionName.{ConnectionName}
use Rattle.schedule_text.specs.declared.event.ConnectionNumber.TheVariants.{Zero, One}
use Rattle.schedule_text.specs.declared.event.Event.{Event}
use Rattle.schedule_text.specs.declared.event.Event.TheVariants as event
use Rattle.schedule_text.specs.declared.event.ServiceName.TheVariants.{Purchasing, Warehouse, Billing}
use Rattle.schedule_text.specs.declared.event.FailureLeaves.TheVariants.{New}
use Rattle.schedule_text.specs.declared.outcome.Outcome.{Outcome}
use Rattle.schedule_text.specs.declared.outcome.Outcome.TheVariants.{Idle, Held, Pumped}
use Rattle.schedule_service.specs.SiteEvents.{Opens, Cuts, Fills, Resends, Carries, Takes, Drains, Arms, Reopens, Stops}
use Rattle.schedule_runner.specs.declared.acting.ServiceEvent.TheVariants as asked
use Rattle.schedule_runner.specs.Events.{asked_of}
use Rattle.schedule_runner.specs.Paths.{IsPath, Leads, Makes}
use Rattle.schedule_runner.specs.Rounds.{takes, connection_events, named, service_events, round_events, all_rounds}
use Rattle.schedule_runner.specs.Runs.{Ran}

-- ---- rounds

abbrev c : ConnectionName
c = named Warehouse One

-- two frames are taken by two events of that connection
frames_are_taken : (takes 2 c ≡ event.Take c ∷ event.Take c ∷ []) × (takes 0 c ≡ []) × (c.service ≡ Warehouse)
    × (c.number ≡ One)
    × (takes 2 c ≡ event.Take c ∷ [] → ⊥) × (named Warehouse One ≡ named Billing One → ⊥)
frames_are_taken = (
  refl,
  refl,
  refl,
  refl,
  λ h. let less : 2 ≡ 1 = ap length h in omega (arith, less),
  λ h. let service : Warehouse ≡ Billing = ap (λ (n : ConnectionName). n.service) h in absurd (cc),
)

-- three events and sixteen frames for a connection; two connections and a held letter for a service; three services for
-- a round
rounds_have_lengths : (length (connection_events c) ≡ 19) × (length (service_events Purchasing) ≡ 39)
    × (length round_events ≡ 117)
    × (length (all_rounds 2) ≡ 234) × (all_rounds 0 ≡ [])
    × (length (connection_events c) ≡ 16 → ⊥) × (length (service_events Purchasing) ≡ 38 → ⊥)
    × (length round_events ≡ 39 → ⊥)
    × (length (all_rounds 2) ≡ 117 → ⊥)
rounds_have_lengths = (
  refl,
  refl,
  refl,
  refl,
  refl,
  λ h. omega (arith, h),
  λ h. omega (arith, h),
  λ h. omega (arith, h),
  λ h. omega (arith, h),
)

-- the first and the last of some events
abbrev last_of : Event → List Event → Event
last_of e [] = e
last_of e (next ∷ events) = last_of next events

abbrev first_of : List Event → Event
first_of [] = event.StopBroker
first_of (e ∷ events) = e

-- a connection begins by sending and ends by taking; a service ends with a held letter; purchasing is the first and
-- billing the last
rounds_are_in_order : (first_of (connection_events c) ≡ event.Fill c 64)
    × (last_of event.StopBroker (connection_events c) ≡ event.Take c)
    × (last_of event.StopBroker (service_events Warehouse) ≡ event.Drain (named Warehouse Zero))
    × (first_of round_events ≡ event.Fill (named Purchasing Zero) 64)
    × (last_of event.StopBroker round_events ≡ event.Drain (named Billing Zero))
    × (first_of round_events ≡ event.Drain (named Purchasing Zero) → ⊥)
rounds_are_in_order = (refl, refl, refl, refl, refl, λ h. absurd (cc))

-- ---- what a service is told

-- each event is the one of its name, with its connection and its numbers
services_are_told : (asked_of {C = OrderCommand} (asked.Open One) ≡ Opens One)
    × (asked_of {C = OrderCommand} (asked.Cut One) ≡ Cuts One)
    × (asked_of {C = OrderCommand} (asked.Fill One 64) ≡ Fills One 64)
    × (asked_of {C = OrderCommand} (asked.Resend One) ≡ Resends One)
    × (asked_of {C = OrderCommand} (asked.Carry One Up 9) ≡ Carries One Up 9)
    × (asked_of {C = OrderCommand} (asked.Take One) ≡ Takes One)
    × (asked_of {C = OrderCommand} (asked.Drain One) ≡ Drains One)
    × (asked_of {C = OrderCommand} (asked.Fail 2 New) ≡ Arms 2 New)
    × (asked_of {C = OrderCommand} asked.Reopen ≡ Reopens) × (asked_of {C = OrderCommand} asked.Stop ≡ Stops)
    × (asked_of {C = OrderCommand} (asked.Open One) ≡ Opens Zero → ⊥)
    × (asked_of {C = OrderCommand} (asked.Cut One) ≡ Opens One → ⊥)
    × (asked_of {C = OrderCommand} (asked.Carry One Up 9) ≡ Carries One Down 9 → ⊥)
services_are_told = (
  refl,
  refl,
  refl,
  refl,
  refl,
  refl,
  refl,
  refl,
  refl,
  refl,
  λ h. absurd (cc),
  λ h. absurd (cc),
  λ h. absurd (cc),
)

-- ---- paths

-- a step that counts
abbrev Counts : Event → Outcome → ℕ → ℕ → Type 0
Counts e o a b = b ≡ suc a

-- two events are two steps, one outcome for each, and end where the second one does
steps_make_paths : IsPath Counts (event.Take c ∷ event.Drain c ∷ []) (Held ∷ Idle ∷ []) 3 5 × IsPath Counts [] [] 3 3
    × (IsPath Counts [] [] 3 4 → ⊥) × (IsPath Counts (event.Take c ∷ []) [] 3 3 → ⊥)
    × (IsPath Counts [] (Idle ∷ []) 3 3 → ⊥)
    × (IsPath Counts (event.Take c ∷ []) (Held ∷ []) 3 5 → ⊥)
steps_make_paths = ((4, refl, (5, refl, refl)), refl, λ h. omega (arith, h), λ h. h, λ h. h, longer)
  where
    longer : IsPath Counts (event.Take c ∷ []) (Held ∷ []) 3 5 → ⊥
    longer (next, step, end) = omega (arith, step, end)

-- with some outcomes or other
events_lead : Leads Counts (event.Take c ∷ []) 3 4 × (Leads Counts (event.Take c ∷ []) 3 3 → ⊥)
    × (Leads Counts [] 3 4 → ⊥)
events_lead = ((Held ∷ [], (4, refl, refl)), stays, moves)
  where
    stays : Leads Counts (event.Take c ∷ []) 3 3 → ⊥
    stays ([], path) = path
    stays (o ∷ [], (next, step, end)) = omega (arith, step, end)
    stays (o ∷ p ∷ outcomes, (next, step, end)) = end

    moves : Leads Counts [] 3 4 → ⊥
    moves ([], path) = omega (arith, path)
    moves (o ∷ outcomes, path) = path

-- a pump is its rounds and tells `Pumped`; another event is one step
events_make_steps : Makes Counts (event.Pump 0) Pumped 3 3 × Makes Counts (event.Take c) Held 3 4
    × (Makes Counts (event.Pump 0) Idle 3 3 → ⊥) × (Makes Counts (event.Take c) Held 3 3 → ⊥)
events_make_steps = ((refl, ([], refl)), refl, λ h. let told = h.0 in absurd (cc), λ h. omega (arith, h))

-- ---- runs

-- so many outcomes as events
abbrev Match : List Event → List Outcome → Type 0
Match events outcomes = length outcomes ≡ length events

abbrev two : List Event
two = event.Take c ∷ event.Drain c ∷ []

-- what was there stays, and behind it comes an outcome for each step; all steps were made where the answer is Ok
outcomes_are_appended : Ran {E = ℕ} Match two (Held ∷ []) (Held ∷ Held ∷ Idle ∷ []) (Ok tt)
    × Ran {E = ℕ} Match two (Held ∷ []) (Held ∷ Idle ∷ []) (Err 7)
    × (Ran {E = ℕ} Match two (Held ∷ []) (Held ∷ Idle ∷ []) (Ok tt) → ⊥)
    × (Ran {E = ℕ} Match two (Held ∷ []) (Idle ∷ Idle ∷ []) (Err 7) → ⊥)
outcomes_are_appended = (
  record { outcomes = Held ∷ Idle ∷ []; appended = refl; made = refl; all = refl },
  record { outcomes = Idle ∷ []; appended = refl; made = refl; all = tt },
  λ h. let count : 2 ≡ suc (length h.outcomes) = ap length h.appended in let all = h.all in omega (arith, count, all),
  λ h. let kept = h.appended in absurd (cc),
)
