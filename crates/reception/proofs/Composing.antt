-- What two calls of an endpoint do, one after the other.
use Rattle.std.proofs.Common.{◌≡◌, ◌≤◌, ◌⊎◌, ◌+◌, ℕ, suc, inl, inr, Option, Some, None, Result, Ok, Err, ap, sym, subst}
use Rattle.std.proofs.Common.{◌∙◌, arith}
use Rattle.std.proofs.Common.{true, false}
use Rattle.std.specs.Prelude.{IsSome}
use Rattle.base.specs.declared.limits.TheConstants.{MAX_NUMBER}
use Rattle.base.specs.declared.entity.Kind.{Kind}
use Rattle.base.specs.declared.pair.Pair.{Pair}
use Rattle.stomp_frame.specs.Frames.{Content}
use Rattle.envelope.specs.Reading.{read_frame}
use Rattle.envelope.specs.declared.message.Envelope.TheVariants as envelope
use Rattle.envelope.specs.declared.message.Letter.{Letter}
use Rattle.activities.specs.Journal.{handled_of}
use Rattle.activities.specs.Service.{Service}
use Rattle.keep.specs.Law.{IsCall, IsCallCause, Reads}
use Rattle.keep.specs.Listing.{IsDrainable, next_held}
use Rattle.keep.specs.Seen.{Seen, IsSound}
use Rattle.keep.specs.Tables.{Tables}
use Rattle.endpoint.specs.Arrivals.{IngestMay, DrainMay, SettleMay}
use Rattle.endpoint.specs.Deeds.{Kept, kept, Deed}
use Rattle.endpoint.specs.Matches.{TablesMatchJournal}
use Rattle.endpoint.specs.Calls.{ComesBy, Stays, StillMatches, MayTurnAway, IsMine, OfLetter, OfSettle}
use Rattle.endpoint.specs.Faults.{end_cause, end_of}
use Rattle.endpoint.specs.declared.fault.EndFault.{EndFault}
use Rattle.endpoint.specs.declared.fault.EndFault.TheVariants.{NotMine, Business, TooEarly, StoreFailed, Memory}
use Rattle.endpoint.specs.declared.fault.EndFault.TheVariants.{Unusable, NumberLimit}
use Rattle.endpoint.specs.declared.fault.EndFault.TheVariants.{NotSent}
use Rattle.reception.specs.Deeds.{concerned, MayTurnBack, TakeMay, TellsOfUse}
use Rattle.reception.specs.Draining.{IsFirstHeld, DrainsMay}
use Rattle.reception.specs.Parts.Letters.{AnswerUse, PairMay}
use Rattle.reception.specs.Prepared.{ToldOfLetter, ToldOfSettle}
use Rattle.reception.specs.Replies.{settled_again}
use Rattle.endpoint.specs.declared.answer.Ingested.{Ingested}
use Rattle.endpoint.specs.declared.answer.Ingested.TheVariants as ingested
use Rattle.reception.specs.declared.taken.Drained.{Drained}
use Rattle.reception.specs.declared.fault.ReceptionFault.{ReceptionFault}
use Rattle.reception.specs.declared.fault.ReceptionFault.TheVariants.{Frame, Client, Envelope, End}
use Rattle.reception.specs.declared.taken.Taken.{Taken}
use Rattle.reception.specs.declared.taken.Taken.TheVariants.{Repeated}

module _ {E S C : Type 0} (seen : E → Seen (Tables S C)) (service : Service S C) where
  -- all that is left matches again after both
  pub matches_behind : (old between new : E) → StillMatches seen old between service
      → (seen between).doubt ≤ (seen new).doubt
      → StillMatches seen between new service → StillMatches seen old new service
  matches_behind old between new first doubt second clean good = second clean (first (omega (arith, doubt, clean)) good)

  -- what stays all match, matches still
  pub stays_match : (old new : E) → Stays seen old new → StillMatches seen old new service
  stays_match old new stays clean good t b = good t (stays clean t b)

-- ---- what is told of the store's use

module _ {E T : Type 0} (seen : E → Seen T) (kind : Kind) (f : Content) (old new : E) where
  -- an endpoint's fault at a letter, as it is told of the frame that carries it
  letter_turned : (l : Letter) → read_frame f ≡ Some (envelope.Letter l) → (fault : EndFault)
      → IsCallCause seen old new (MayTurnAway OfLetter old new kind l.pair.to) (end_cause fault)
      → IsCallCause seen old new (MayTurnBack kind f) (end_cause fault)
  letter_turned l carries Memory h = h
  letter_turned l carries StoreFailed h = h
  letter_turned l carries Unusable h = h
  letter_turned l carries NotMine h = (h.0, (l.pair.to, ap concerned carries, h.1.0))
  letter_turned l carries TooEarly h = (h.0, (l.pair.to, ap concerned carries, h.1.0))
  letter_turned l carries NumberLimit h = (h.0, (l.pair.to, ap concerned carries, h.1.0))
  letter_turned l carries (Business refusal) h = absurd h.1.1
  letter_turned l carries NotSent h = absurd h.1.1

  -- and at a settle
  settle_turned : (pair : Pair) (number : ℕ) → read_frame f ≡ Some (envelope.Settle pair number)
      → (fault : EndFault)
      → IsCallCause seen old new (MayTurnAway OfSettle old new kind pair.from) (end_cause fault)
      → IsCallCause seen old new (MayTurnBack kind f) (end_cause fault)
  settle_turned pair number carries Memory h = h
  settle_turned pair number carries StoreFailed h = h
  settle_turned pair number carries Unusable h = h
  settle_turned pair number carries NotMine h = (h.0, (pair.from, ap concerned carries, h.1.0))
  settle_turned pair number carries NotSent h = (h.0, (pair.from, ap concerned carries, h.1.0))
  settle_turned pair number carries TooEarly h = absurd h.1.1
  settle_turned pair number carries NumberLimit h = absurd h.1.1
  settle_turned pair number carries (Business refusal) h = absurd h.1.1

  -- an answer to a letter, whichever it is
  pub letter_answered : (l : Letter) → read_frame f ≡ Some (envelope.Letter l) → (r : Result Ingested EndFault)
      → IsCall seen old new (MayTurnAway OfLetter old new kind l.pair.to) (end_of r) → IsMine kind l.pair.to (end_of r)
      → AnswerUse seen kind f old new r
  letter_answered l carries (Ok ingested) call mine = (call, (l.pair.to, ap concerned carries, mine))
  letter_answered l carries (Err fault) call mine = letter_turned l carries fault call

  -- an answer to a settle, whichever it is
  pub settle_answered : (pair : Pair) (number : ℕ) → read_frame f ≡ Some (envelope.Settle pair number)
      → (r : Result ℕ EndFault)
      → IsCall seen old new (MayTurnAway OfSettle old new kind pair.from) (end_of r) → IsMine kind pair.from (end_of r)
      → AnswerUse seen kind f old new r
  settle_answered pair number carries (Ok mark) call mine = (call, (pair.from, ap concerned carries, mine))
  settle_answered pair number carries (Err fault) call mine = settle_turned pair number carries fault call

-- ---- a letter that is given to the endpoint

module _ {S C : Type 0} (service : Service S C) (f : Content) (l : Letter)
    (carries : read_frame f ≡ Some (envelope.Letter l))
    (x : Kept C) (d : Deed C) where
  -- what is done with it is what its frame allows, as it is told
  letter_may : (answer : Result Ingested EndFault) (r : Result Taken ReceptionFault) → ToldOfLetter l answer r
      → IngestMay service l answer x d → TakeMay service f r x d
  letter_may (Ok (ingested.Handled position)) r told h = subst (λ r. TakeMay service f r x d) (sym told) (l, carries, h)
  letter_may (Ok (ingested.Repeated handled)) (Ok taken) told h =
      let may : TakeMay service f (Ok (Repeated (settled_again l.number handled))) x d =
      (l, carries, (h.0, h.1, λ i. handled_of x.journal l.pair), ap (settled_again l.number) h.2) in
      subst (λ t. TakeMay service f (Ok t) x d) (sym told) may
  letter_may (Ok (ingested.Repeated handled)) (Err (Client fault)) told h = h.0
  letter_may (Ok (ingested.Repeated handled)) (Err (Envelope fault)) told h = h.0
  letter_may (Ok (ingested.Repeated handled)) (Err (Frame fault)) told h = absurd told
  letter_may (Ok (ingested.Repeated handled)) (Err (End fault)) told h = absurd told
  letter_may (Ok ingested.Held) r told h = subst (λ r. TakeMay service f r x d) (sym told) (l, carries, h)
  letter_may (Err fault) r told h = subst (λ r. TakeMay service f r x d) (sym told) (inl (l, carries, h))

-- and so it is of a settle
settle_may : {S C : Type 0} (service : Service S C) (f : Content) (pair : Pair) (number : ℕ)
    → read_frame f ≡ Some (envelope.Settle pair number) → (x : Kept C) (d : Deed C) (answer : Result ℕ EndFault)
    (r : Result Taken ReceptionFault) → ToldOfSettle answer r → SettleMay service pair number answer x d
    → TakeMay service f r x d
settle_may service f pair number carries x d (Ok mark) r told h =
    subst (λ r. TakeMay service f r x d) (sym told) (pair, number, carries, h)
settle_may service f pair number carries x d (Err fault) r told h =
    subst (λ r. TakeMay service f r x d) (sym told) (inr (pair, number, carries, h))

module _ {E S C : Type 0} (seen : E → Seen (Tables S C)) (old new : E) (service : Service S C) where
  -- a deed that was allowed is allowed where more are
  comes_more : (allowed may : Kept C → Deed C → Type 0) → ((x : Kept C) (d : Deed C) → allowed x d → may x d)
      → ComesBy seen old new service allowed → ComesBy seen old new service may
  comes_more allowed may more comes clean good t left = let c = comes clean good t left in
      record { before = c.before; deed = c.deed; was = c.was; may = more (kept c.before) c.deed c.may; did = c.did }

  pub letter_comes : (f : Content) (l : Letter) → read_frame f ≡ Some (envelope.Letter l)
      → (answer : Result Ingested EndFault)
      (r : Result Taken ReceptionFault) → ToldOfLetter l answer r
      → ComesBy seen old new service (IngestMay service l answer)
      → ComesBy seen old new service (TakeMay service f r)
  letter_comes f l carries answer r told = comes_more (IngestMay service l answer) (TakeMay service f r)
      (λ x d. letter_may service f l carries x d answer r told)

  pub settle_comes : (f : Content) (pair : Pair) (number : ℕ) → read_frame f ≡ Some (envelope.Settle pair number)
      → (answer : Result ℕ EndFault) (r : Result Taken ReceptionFault) → ToldOfSettle answer r
      → ComesBy seen old new service (SettleMay service pair number answer)
      → ComesBy seen old new service (TakeMay service f r)
  settle_comes f pair number carries answer r told =
      comes_more (SettleMay service pair number answer) (TakeMay service f r)
      (λ x d. settle_may service f pair number carries x d answer r told)

module _ {E T : Type 0} (seen : E → Seen T) (kind : Kind) (f : Content) (old new : E) where
  -- what is told of the store's use
  pub letter_use : (l : Letter) (answer : Result Ingested EndFault) (r : Result Taken ReceptionFault)
      → ToldOfLetter l answer r
      → AnswerUse seen kind f old new answer → TellsOfUse seen kind f old new r
  letter_use l (Ok (ingested.Handled position)) r told h = subst (TellsOfUse seen kind f old new) (sym told) h
  letter_use l (Ok (ingested.Repeated handled)) (Ok taken) told h =
      subst (λ t. TellsOfUse seen kind f old new (Ok t)) (sym told) h
  letter_use l (Ok (ingested.Repeated handled)) (Err (Client fault)) told h = inr h.0
  letter_use l (Ok (ingested.Repeated handled)) (Err (Envelope fault)) told h = inr h.0
  letter_use l (Ok (ingested.Repeated handled)) (Err (Frame fault)) told h = inr h.0
  letter_use l (Ok (ingested.Repeated handled)) (Err (End fault)) told h = absurd told
  letter_use l (Ok ingested.Held) r told h = subst (TellsOfUse seen kind f old new) (sym told) h
  letter_use l (Err fault) r told h = subst (TellsOfUse seen kind f old new) (sym told) h

  pub settle_use : (answer : Result ℕ EndFault) (r : Result Taken ReceptionFault) → ToldOfSettle answer r
      → AnswerUse seen kind f old new answer → TellsOfUse seen kind f old new r
  settle_use (Ok mark) r told h = subst (TellsOfUse seen kind f old new) (sym told) h
  settle_use (Err fault) r told h = subst (TellsOfUse seen kind f old new) (sym told) h

-- ---- a held letter behind the read that found its pair

module _ {S C : Type 0} (service : Service S C) (pair : Pair) (t : Tables S C) (match : TablesMatchJournal service t)
  where
    -- the pair that is found is the first by the journal
    first_held : IsDrainable (next_held t.held t.handled) (Some pair) → IsFirstHeld (kept t) (Some pair)
    first_held h = (
      subst (λ n. IsSome (t.held pair (n + 1))) (match.handled pair) h.0,
      λ q less. subst (λ n. t.held q (n + 1) ≡ None) (match.handled q) (h.1 q less),
    )

    -- so its next letter is there, and within the limit
    is_there : IsFirstHeld (kept t) (Some pair)
        → (t.held pair (suc (handled_of t.journal pair)) ≡ None) ⊎ (MAX_NUMBER ≤ handled_of t.journal pair) → ⊥
    is_there first (inl none) =
        let next : handled_of t.journal pair + 1 ≡ suc (handled_of t.journal pair) = omega arith in
        let nothing : false ≡ true = subst IsSome (ap (t.held pair) next ∙ none) first.0 in cc
    is_there first (inr many) = let within = (match.held pair (handled_of t.journal pair + 1) first.0).within in
        omega (arith, within, many)

    pair_drains : (r : Result (Option Drained) ReceptionFault) (d : Deed C) → IsFirstHeld (kept t) (Some pair)
        → PairMay service pair r (kept t) d → DrainsMay service r (kept t) d
    pair_drains (Ok (Some drained)) d first h = (
      subst (λ p. IsFirstHeld (kept t) (Some p)) (sym h.0) first,
      subst (λ p. DrainMay service p (Ok (Some drained.number)) (kept t) d) (sym h.0) h.1,
    )
    pair_drains (Ok None) d first h = absurd (is_there first h.1)
    pair_drains (Err (End fault)) d first h = inr (pair, first, h)
    pair_drains (Err (Frame fault)) d first h = h
    pair_drains (Err (Client fault)) d first h = h
    pair_drains (Err (Envelope fault)) d first h = h

module _ {E S C : Type 0} (seen : E → Seen (Tables S C)) (sound : (k : E) → IsSound (seen k)) (service : Service S C)
    (old mid new : E)
  where
    pub drains_found : (pair : Pair) (r : Result (Option Drained) ReceptionFault)
        → Reads seen old mid {R = Option Pair} {F = EndFault} (λ t. IsDrainable (next_held t.held t.handled))
        (Ok (Some pair))
        → Stays seen old mid → (seen mid).doubt ≤ (seen new).doubt
        → ComesBy seen mid new service (PairMay service pair r)
        → ComesBy seen old new service (DrainsMay service r)
    drains_found pair r read stays doubt comes clean good t left =
        let clean1 : (seen mid).doubt ≡ 0 = omega (arith, doubt, clean) in
        let match1 = stays_match seen service old mid stays clean1 good in
        let came = comes clean match1 t left in
        let told = read.clean clean1 in
        let is : came.before ≡ (seen old).tables =
        (sound mid).only_now clean1 read.call.1 came.before came.was ∙ told.1 in
        let match = match1 came.before came.was in
        let found = subst (λ (x : Tables S C). IsDrainable (next_held x.held x.handled) (Some pair)) (sym is) told.0 in
        record {
          before = came.before;
          deed = came.deed;
          was = stays clean1 came.before came.was;
          may = pair_drains service pair came.before match r came.deed (first_held service pair came.before match found)
              came.may;
          did = came.did;
        }
