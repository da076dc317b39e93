-- What a run of the book says of a broker's calls.
use Rattle.std.proofs.Common.{◌≡◌, ℕ, ◌+◌, ◌≤◌, Bool, true, false, cond, List, [], ◌∷◌, ◌++◌, map, refl, sym, ap, ◌∙◌}
use Rattle.std.proofs.Common.{subst, arith}
use Rattle.std.specs.Prelude.{count_by, ◌==◌, ◌&&◌}
use Rattle.std.specs.List.{AllByRecursion}
use Rattle.broker_book.specs.Books.{empty_book, is_auto}
use Rattle.broker_book.specs.Laws.{as_accepted, numbered}
use Rattle.broker_book.specs.Runs.{BookEvent, Puts, Hands, Acks, Nacks, Subscribes, Releases, Ends, Takes, ended_by}
use Rattle.broker_book.specs.Runs.{ended_in, handed_in}
use Rattle.broker_book.specs.Runs.{put_by}
use Rattle.broker_book.specs.Runs.{put_in}
use Rattle.broker_book.specs.Steps.{Handed}
use Rattle.broker_book.specs.declared.parts.Accepted.{Accepted}
use Rattle.broker_book.proofs.Counts.{count-cons, count-append}
use Rattle.broker_book.proofs.Kept.{messages_kept}
use Rattle.broker_book.proofs.Numbers.{each_accepted_once}
use Rattle.broker_book.proofs.Orderly.{books_orderly}
use Rattle.broker_core.specs.Calls.{empty}
use Rattle.broker_core.specs.Serving.{Server}
use Rattle.broker_book.specs.declared.parts.Sent.{Sent}
use Rattle.laws_broker.specs.Deeds.{AcceptedWereSent, BrokerDeed, Brings, brings, done_by, done_in}
use Rattle.laws_broker.specs.Lives.{BrokerCall, accepted_in, dealt_in, told_in}
use Rattle.laws_broker.specs.Runs.{Runs, hands_by, hands_in, acknowledged_by, acknowledged_in, brought, is_gone}
use Rattle.laws_broker.specs.Runs.{StandsIn}
use Rattle.laws_broker.specs.Runs.{BrokersAreOrderly, AcceptedAreToldOnce, MessagesWereAccepted, NoLifeLosesAny}
use Rattle.laws_broker.specs.Runs.{NoneOvertakes}
use Rattle.laws_broker.proofs.Overtaking.{none_overtake}
use Rattle.laws_broker.proofs.Running.{life_carries, life_runs}
use Rattle.broker_book.proofs.AsPut.{run_passes}
use Rattle.laws_broker.proofs.Standing.{numbered_stand}
use Rattle.laws_broker.proofs.Weights.{load}

-- ---- what was told

-- what is told and what will be are the SENDs that were put
all_told : (calls : List BrokerCall) (b : Server) (d : List Handed) (r : Runs empty.book (told_in calls) d b.book)
    → accepted_in calls b ≡ numbered 0 (put_in r.events)
all_told calls b d r =
    ap (λ (l : List Accepted). l ++ b.book.accepted) (sym r.told) ∙ (each_accepted_once r.events b.book r.run).0

pub told_once : AcceptedAreToldOnce
told_once full calls b h =
    let r = life_runs full empty b calls h in
    record {
      sent = put_in r.events;
      each = all_told calls b (dealt_in full empty calls b h) r;
      last_of = (each_accepted_once r.events b.book r.run).1;
    }

pub orderly : BrokersAreOrderly
orderly full calls b h = let r = life_runs full empty b calls h in books_orderly r.events b.book r.run

-- ---- what was handed out

handed_brought : (events : List BookEvent) → handed_in events ≡ map brought (hands_in events)
handed_brought [] = refl
handed_brought (Hands d ∷ events) = ap (λ l. brought d ∷ l) (handed_brought events)
handed_brought (Puts full sent ∷ events) = handed_brought events
handed_brought (Acks session number numbers ∷ events) = handed_brought events
handed_brought (Nacks session number ∷ events) = handed_brought events
handed_brought (Subscribes s ∷ events) = handed_brought events
handed_brought (Releases session id ∷ events) = handed_brought events
handed_brought (Ends session ∷ events) = handed_brought events
handed_brought (Takes accepted ∷ events) = handed_brought events

pub were_accepted : MessagesWereAccepted
were_accepted full calls b h =
    let dealt = dealt_in full empty calls b h in
    let r = life_runs full empty b calls h in
    let all = numbered 0 (put_in r.events) in
    let k = run_passes (StandsIn all) r.events empty_book b.book r.run tt (numbered_stand [] 0 (put_in r.events) refl)
    in
    let told = sym (all_told calls b dealt r) in (
      subst (λ l. AllByRecursion (StandsIn l) (map brought dealt)) told
          (subst (λ l. AllByRecursion (StandsIn all) l) (handed_brought r.events ∙ ap (λ l. map brought l) r.handed)
          k.1),
      subst (λ l. AllByRecursion (StandsIn l) (map as_accepted b.book.living)) told k.0,
    )

pub in_order : NoneOvertakes
in_order full calls b h before behind d e a stands =
    let dealt = dealt_in full empty calls b h in
    let r = life_runs full empty b calls h in
    none_overtake r.events b.book r.run before behind d (r.handed ∙ e) a
    (subst (λ l. StandsIn l a) (all_told calls b dealt r) stands)

-- ---- nothing is lost

-- how often a number stands in a list
abbrev stands : ℕ → List ℕ → ℕ
stands n numbers = count_by (λ (e : ℕ). e == n) numbers

one_gone : (n k : ℕ) (b : Bool) → stands n (cond b (k ∷ []) []) ≡ cond (b && (k == n)) 1 0
one_gone n k true = let e = count-cons (λ (x : ℕ). x == n) k [] in omega (arith, e)
one_gone n k false = refl

event_split : (n : ℕ) (e : BookEvent)
    → stands n (ended_by e) ≡ stands n (acknowledged_by e) + count_by (is_gone n) (hands_by e)
event_split n (Hands d) =
    let k = one_gone n d.number (is_auto d.to.mode) in
    let l = count-cons (is_gone n) d [] in
    omega (arith, k, l)
event_split n (Acks session number numbers) = omega arith
event_split n (Puts full sent) = refl
event_split n (Nacks session number) = refl
event_split n (Subscribes s) = refl
event_split n (Releases session id) = refl
event_split n (Ends session) = refl
event_split n (Takes accepted) = refl

-- what was ended was acknowledged, or went out in mode `auto`
all_split : (n : ℕ) (events : List BookEvent)
    → stands n (ended_in events) ≡ stands n (acknowledged_in events) + count_by (is_gone n) (hands_in events)
all_split n [] = refl
all_split n (e ∷ events) =
    let first = event_split n e in
    let rest = all_split n events in
    let all = count-append (λ (x : ℕ). x == n) (ended_by e) (ended_in events) in
    let acks = count-append (λ (x : ℕ). x == n) (acknowledged_by e) (acknowledged_in events) in
    let hands = count-append (is_gone n) (hands_by e) (hands_in events) in
    omega (arith, first, rest, all, acks, hands)

-- a new broker has no transactions
load_none : (p : BrokerDeed → Bool) → load p empty ≡ 0
load_none p = refl

pub loses_none : NoLifeLosesAny
loses_none full calls b h =
    let k = life_carries full empty b calls h in
    record {
      runs = k.runs;
      were_asked = λ p. let owed = k.owed p in let none = load_none p in omega (arith, owed, none);
      accounted = λ n.
          let kept = messages_kept k.runs.events b.book k.runs.run n in
          let split = all_split n k.runs.events in
          let dealt : count_by (is_gone n) (hands_in k.runs.events)
          ≡ count_by (is_gone n) (dealt_in full empty calls b h)
          = ap (λ l. count_by (is_gone n) l) k.runs.handed in
          omega (arith, kept, split, dealt);
    }

-- ---- each SEND is accepted at most once

numbered_count : (p : Sent → Bool) (last : ℕ) (ss : List Sent)
    → count_by (λ (a : Accepted). p a.sent) (numbered last ss) ≡ count_by p ss
numbered_count p last [] = refl
numbered_count p last (s ∷ ss) =
    let a = count-cons (λ (a : Accepted). p a.sent) (record { number = last + 1; sent = s }) (numbered (last + 1) ss) in
    let b = count-cons p s ss in
    let c = numbered_count p (last + 1) ss in
    omega (arith, a, b, c)

put_count : (p : Sent → Bool) (e : BookEvent) → count_by p (put_by e) ≤ count_by (brings p) (done_by e)
put_count p (Puts full sent) =
    let a = count-cons p sent [] in let b = count-cons (brings p) (Brings sent) [] in omega (arith, a, b)
put_count p (Hands d) = omega arith
put_count p (Acks session number numbers) = omega arith
put_count p (Nacks session number) = omega arith
put_count p (Subscribes s) = omega arith
put_count p (Releases session id) = omega arith
put_count p (Ends session) = omega arith
put_count p (Takes accepted) = omega arith

puts_count : (p : Sent → Bool) (events : List BookEvent)
    → count_by p (put_in events) ≤ count_by (brings p) (done_in events)
puts_count p [] = omega arith
puts_count p (e ∷ events) =
    let a = count-append p (put_by e) (put_in events) in
    let b = count-append (brings p) (done_by e) (done_in events) in
    let c = put_count p e in
    let d = puts_count p events in
    omega (arith, a, b, c, d)

pub were_sent : AcceptedWereSent
were_sent full calls b h p =
    let k = life_carries full empty b calls h in
    let each : count_by (λ (a : Accepted). p a.sent) (accepted_in calls b) ≡ count_by p (put_in k.runs.events)
    = ap (count_by (λ (a : Accepted). p a.sent)) (all_told calls b (dealt_in full empty calls b h) k.runs)
    ∙ numbered_count p 0 (put_in k.runs.events) in
    let put = puts_count p k.runs.events in
    let owed = k.owed (brings p) in
    let none = load_none (brings p) in
    omega (arith, each, put, owed, none)
