-- Deals and actions are runs.
use Rattle.std.proofs.Common.{◌≡◌, ℕ, List, [], ◌∷◌, ◌++◌, map, refl, Result, Ok, Err}
use Rattle.broker_book.specs.declared.fault.QueueFault.{QueueFault}
use Rattle.broker_book.specs.declared.parts.Action.{Action}
use Rattle.broker_book.specs.declared.parts.Action.TheVariants.{Put, Ack, Nack}
use Rattle.broker_book.specs.Books.{Book}
use Rattle.broker_book.specs.Steps.{Handed, Deals, act_of, then_all, holder, apply_of}
use Rattle.broker_book.specs.Runs.{BookEvent, Puts, Hands, Acks, Nacks, BookStep, Run, ShowsAs, ShowAs, numbers_covered}

-- deals are a run of the book
pub deals_run : (old new : Book) (handed : List Handed) → Deals old handed new → Run old (map Hands handed) new
deals_run old new [] h = h
deals_run old new (d ∷ ds) h = (h.0, h.1, deals_run h.0 new ds h.2)

-- an action shows as an event
act_happens : (full session : ℕ) (old new : Book) (a : Action) → act_of full session old a ≡ Ok new
    → (e : BookEvent) × ShowsAs full session a e × BookStep old e new
act_happens full session old new (Put sent) h = (Puts full sent, refl, h)
act_happens full session old new (Ack number) h =
    let numbers = numbers_covered old number (holder old session number) in
    (Acks session number numbers, (numbers, refl), (h, refl))
act_happens full session old new (Nack number) h = (Nacks session number, refl, h)

-- behind a refusal nothing is done
none_behind : (full session : ℕ) (actions : List Action) (fault : QueueFault)
    → then_all full session actions (Err fault) ≡ Err fault
none_behind full session [] fault = refl
none_behind full session (a ∷ actions) fault = refl

-- events of these actions
abbrev Shown : ℕ → ℕ → Book → List Action → Book → Type 0
Shown full session old actions new = (events : List BookEvent) × ShowAs full session actions events × Run old events new

one_more : (full session : ℕ) (old new : Book) (a : Action) (actions : List Action) (r : Result Book QueueFault)
    → ((mid : Book) → then_all full session actions (Ok mid) ≡ Ok new → Shown full session mid actions new)
    → act_of full session old a ≡ r → then_all full session actions r ≡ Ok new
    → Shown full session old (a ∷ actions) new
one_more full session old new a actions (Ok mid) more is h =
    let first = act_happens full session old mid a is in
    let rest = more mid h in
    (first.0 ∷ rest.0, (first.0, rest.0, refl, first.1, rest.1), (mid, first.2, rest.2))
one_more full session old new a actions (Err fault) more is h =
    let e = none_behind full session actions fault in absurd cc

-- a session's actions, done together, are a run that shows each of them in order
pub actions_run : (full session : ℕ) (old new : Book) (actions : List Action)
    → apply_of full session old actions ≡ Ok new
    → (events : List BookEvent) × ShowAs full session actions events × Run old events new
actions_run full session old new [] h = let e : new ≡ old = cc in ([], refl, e)
actions_run full session old new (a ∷ actions) h =
    one_more full session old new a actions (act_of full session old a) (λ mid k. actions_run full session mid new
    actions k) refl h

-- a run and one after it are a run
pub runs_join : (old mid new : Book) (events more : List BookEvent) → Run old events mid → Run mid more new
    → Run old (events ++ more) new
runs_join old mid new [] more h k = rw h at k
runs_join old mid new (e ∷ events) more h k = (h.0, h.1, runs_join h.0 mid new events more h.2 k)
