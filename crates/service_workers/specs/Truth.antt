-- What the answers to a token tell of what its service has then kept.
use Rattle.std.specs.Prelude.{◌≡◌, ◌≢◌, ◌⊎◌, ℕ, ◌≤◌, ◌<◌, Bool, true, false, List, [], ◌∷◌, Option, Some, None, Result, Ok, Err, ⊤}
use Rattle.std.specs.List.{AllByRecursion}
use Rattle.std.specs.Global.{Vec}
use Rattle.base.specs.declared.pair.Pair.{Pair}
use Rattle.base.specs.declared.entity.Kind.{Kind}
use Rattle.stomp_frame.specs.Frames.{Content}
use Rattle.stomp_client.specs.Clients.{Client}
use Rattle.stomp_client.specs.declared.fault.ClientFault.TheVariants as client
use Rattle.envelope.specs.Reading.{read_frame}
use Rattle.envelope.specs.declared.fault.EnvelopeFault.TheVariants as envelope_fault
use Rattle.envelope.specs.declared.message.Letter.{Letter}
use Rattle.envelope.specs.declared.message.Envelope.{Envelope}
use Rattle.envelope.specs.declared.message.Envelope.TheVariants as envelope
use Rattle.activities.specs.Reaction.{Reactions}
use Rattle.activities.specs.Service.{Service}
use Rattle.keep.specs.Seen.{Seen}
use Rattle.keep.specs.Tables.{Tables}
use Rattle.endpoint.specs.Deeds.{Kept, kept}
use Rattle.endpoint.specs.declared.answer.Ingested.{Ingested}
use Rattle.endpoint.specs.declared.answer.Ingested.TheVariants as ingested
use Rattle.endpoint.specs.declared.fault.EndFault.{EndFault}
use Rattle.endpoint.specs.declared.fault.EndFault.TheVariants as end
use Rattle.group_commit.specs.declared.grouped.Grouped.{Grouped}
use Rattle.group_commit.specs.declared.grouped.Grouped.TheVariants as grouped
use Rattle.reception.specs.Answers.{Answers}
use Rattle.reception.specs.Prepared.{IsUnaskedFor, IsUnasked, ToldOfLetter, ToldOfSettle}
use Rattle.reception.specs.declared.fault.ReceptionFault.{ReceptionFault}
use Rattle.reception.specs.declared.fault.ReceptionFault.TheVariants as fault
use Rattle.reception.specs.declared.taken.Taken.{Taken}
use Rattle.reception.specs.declared.taken.Taken.TheVariants as taken
use Rattle.laws_stores.specs.Writing.{IsTrueIn}
use Rattle.told_lock.specs.declared.view.ToldToken.{ToldToken}
use Rattle.shared_endpoint.specs.Promises.{IsGood}
use Rattle.service_workers.specs.Tokens.{Progress, progress_of, HasArrived}
use Rattle.service_workers.specs.declared.worker.Answer.{Answer}
use Rattle.service_workers.specs.declared.worker.Answer.TheVariants as answer

module _ {E S C : Type 0} (seen : E → Seen (Tables S C)) (service : Service S C) where
  -- this holds of what the token has then seen, where that file isn't in doubt and the token was good before
  abbrev pub TokenLearns : (Kept C → Type 0) → (v w : ToldToken E) → Type 0
  TokenLearns P v w = (seen w.seen).doubt ≡ 0 → IsGood seen service v → P (kept (seen w.seen).tables)

  -- the same of what two keys know: each stands for this one token
  abbrev pub Learns : (Kept C → Type 0) → (vs ws : List (ToldToken E)) → Type 0
  Learns P (v ∷ []) (w ∷ []) = TokenLearns P v w
  Learns P _ _ = ⊥

  -- While the service is sound the token of this key is good, where the file that it has seen isn't in doubt; and this holds
  -- of what it has seen.
  abbrev pub Knows : (sound : Type 0) → (Kept C → Type 0) → (ws : List (ToldToken E)) → Type 0
  Knows sound P (w ∷ []) =
      sound → (seen w.seen).doubt ≡ 0 → IsGood seen service w × P (kept (seen w.seen).tables)
  Knows sound P _ = ⊥

  -- it is good
  abbrev pub IsGoodWhile : (sound : Type 0) → (ws : List (ToldToken E)) → Type 0
  IsGoodWhile sound = Knows sound (λ x. ⊤)

-- ---- what the Hand is told

-- whether a letter is handled, now or before
abbrev pub handles : Result Ingested EndFault → Bool
handles (Ok (ingested.Handled position)) = true
handles (Ok (ingested.Repeated number)) = true
handles _ = false

-- the envelope is for a service of another kind: the letter's receiver is, or whose letters are settled
abbrev pub IsForeign : Envelope → Progress → Type 0
IsForeign (envelope.Letter l) x = l.pair.to.kind ≢ x.mine
IsForeign (envelope.Settle p n) x = p.from.kind ≢ x.mine

-- it settles what the service hasn't sent
abbrev pub IsNotSent : Envelope → Progress → Type 0
IsNotSent (envelope.Letter l) x = ⊥
IsNotSent (envelope.Settle p n) x = x.sent p < n

-- why an envelope was refused that isn't taken at any other time
abbrev pub RefusedAs : EndFault → Envelope → Progress → Type 0
RefusedAs end.NotMine e x = IsForeign e x
RefusedAs end.NotSent e x = IsNotSent e x
RefusedAs _ e x = ⊤

-- A letter that is told as handled is, and so is its pair up to the number that is told; one that is told as held has
-- arrived.
abbrev pub IngestedBy : Letter → Result Ingested EndFault → Progress → Type 0
IngestedBy l (Ok (ingested.Handled position)) x = l.number ≤ x.handled l.pair
IngestedBy l (Ok (ingested.Repeated number)) x = (l.number ≤ x.handled l.pair) × (number ≤ x.handled l.pair)
IngestedBy l (Ok ingested.Held) x = HasArrived x l.pair l.number
IngestedBy l (Err fault) x = RefusedAs fault (envelope.Letter l) x

-- what was sent on a pair is settled up to the number that is told, and up to the one that came
abbrev pub NotedBy : Pair → ℕ → Result ℕ EndFault → Progress → Type 0
NotedBy p n (Ok mark) x = (n ≤ x.settled p) × (mark ≤ x.settled p)
NotedBy p n (Err fault) x = RefusedAs fault (envelope.Settle p n) x

-- the same of an envelope that was taken in with others
abbrev pub GroupedBy : Envelope → Grouped → Progress → Type 0
GroupedBy (envelope.Letter l) (grouped.Handled position) x = l.number ≤ x.handled l.pair
GroupedBy (envelope.Letter l) (grouped.Settled mark) x = ⊥
GroupedBy (envelope.Settle p n) (grouped.Handled position) x = ⊥
GroupedBy (envelope.Settle p n) (grouped.Settled mark) x = (n ≤ x.settled p) × (mark ≤ x.settled p)

-- of the first of these envelopes, one by one, as many as something is told of
abbrev pub AreGroupedBy : List Envelope → List Grouped → Progress → Type 0
AreGroupedBy es [] x = ⊤
AreGroupedBy [] (g ∷ gs) x = ⊥
AreGroupedBy (e ∷ es) (g ∷ gs) x = GroupedBy e g x × AreGroupedBy es gs x

-- the same by what a service has kept
abbrev pub IngestedIn : {S C : Type 0} → Service S C → Letter → Result Ingested EndFault → Kept C → Type 0
IngestedIn service l r x = IngestedBy l r (progress_of service x)

abbrev pub NotedIn : {S C : Type 0} → Service S C → Pair → ℕ → Result ℕ EndFault → Kept C → Type 0
NotedIn service p n r x = NotedBy p n r (progress_of service x)

abbrev pub GroupedIn : {S C : Type 0} → Service S C → List Envelope → Result (Vec Grouped) EndFault → Kept C → Type 0
GroupedIn service es (Ok told) x = AreGroupedBy es told.items (progress_of service x)
GroupedIn service es (Err fault) x = ⊤

abbrev pub OneGroupedIn : {S C : Type 0} → Service S C → Envelope → Grouped → Kept C → Type 0
OneGroupedIn service e g x = GroupedBy e g (progress_of service x)

abbrev pub AreGroupedIn : {S C : Type 0} → Service S C → List Envelope → List Grouped → Kept C → Type 0
AreGroupedIn service es gs x = AreGroupedBy es gs (progress_of service x)

-- so many are left of what is told of these envelopes, and it is this
abbrev pub IsLeftIn : {S C : Type 0} → Service S C → List Envelope → (count : ℕ) → List Grouped → Kept C → Type 0
IsLeftIn service es count gs x = 0 < count → AreGroupedIn service es gs x

-- it is told of the first of these envelopes, and what is left of those after it; or nothing is left
abbrev pub IsNextIn : {S C : Type 0} → Service S C → List Envelope → Option Grouped → (count : ℕ) → List Grouped → Kept C → Type 0
IsNextIn service es (Some g) count gs x = AreGroupedIn service es (g ∷ gs) x
IsNextIn service es None count gs x = count ≡ 0

-- the next letter of a pair was held, and is handled up to this number
abbrev pub DrainedIn : {S C : Type 0} → Service S C → Pair → Option ℕ → Kept C → Type 0
DrainedIn service p (Some number) x = number ≤ (progress_of service x).handled p
DrainedIn service p None x = ⊤

abbrev pub DrainToldIn : {S C : Type 0} → Service S C → Pair → Result (Option ℕ) EndFault → Kept C → Type 0
DrainToldIn service p (Ok drained) x = DrainedIn service p drained x
DrainToldIn service p (Err fault) x = ⊤

-- ---- what the worker answers

-- what is told of a letter is told of this envelope
abbrev pub OfLetter : Envelope → Result Ingested EndFault → Progress → Type 0
OfLetter (envelope.Letter l) r x = IngestedBy l r x
OfLetter (envelope.Settle p n) r x = ⊥

-- and what is told of a settle
abbrev pub OfSettle : Envelope → Result ℕ EndFault → Progress → Type 0
OfSettle (envelope.Letter l) r x = ⊥
OfSettle (envelope.Settle p n) r x = NotedBy p n r x

-- what is answered to an envelope is true
abbrev pub AnsweredBy : Envelope → Answer → Progress → Type 0
AnsweredBy e (answer.Letter r) x = OfLetter e r x
AnsweredBy e (answer.Settle r) x = OfSettle e r x
AnsweredBy e answer.Unasked x = ⊤

abbrev pub AnsweredIn : {S C : Type 0} → Service S C → Envelope → Answer → Kept C → Type 0
AnsweredIn service e a x = AnsweredBy e a (progress_of service x)

-- so is what is answered to what a MESSAGE carries
abbrev pub CarriedBy : Content → Answer → Progress → Type 0
CarriedBy f a x = (e : Envelope) → read_frame f ≡ Some e → AnsweredBy e a x

abbrev pub AnsweredTo : {S C : Type 0} → Service S C → Content → Answer → Kept C → Type 0
AnsweredTo service f a x = CarriedBy f a (progress_of service x)

-- ---- what is written

-- By what is told of a MESSAGE: the letter that it carries is handled where it's settled, and its pair as far as it is; it
-- has arrived where it's acknowledged; a settle that is acknowledged is noted; and what is refused for good was so.
abbrev pub RepliedBy : Content → Result Taken ReceptionFault → Progress → Type 0
RepliedBy f (Ok (taken.Handled position)) x =
    (l : Letter) → read_frame f ≡ Some (envelope.Letter l) → l.number ≤ x.handled l.pair
RepliedBy f (Ok (taken.Repeated number)) x =
    (l : Letter) → read_frame f ≡ Some (envelope.Letter l) → (l.number ≤ x.handled l.pair) × (number ≤ x.handled l.pair)
RepliedBy f (Ok taken.Held) x =
    (l : Letter) → read_frame f ≡ Some (envelope.Letter l) → HasArrived x l.pair l.number
RepliedBy f (Ok (taken.Settled mark)) x =
    (p : Pair) (n : ℕ) → read_frame f ≡ Some (envelope.Settle p n) → (n ≤ x.settled p) × (mark ≤ x.settled p)
RepliedBy f (Err (fault.End cause)) x = (e : Envelope) → read_frame f ≡ Some e → RefusedAs cause e x
RepliedBy f _ x = ⊤

-- the client writes what is told, or what was prepared doesn't go with the answer, and it writes nothing
abbrev pub Finishes : Kind → Content → (old new : Client ℕ) → Result Taken ReceptionFault → Type 0
Finishes kind f old new result =
    Answers kind f old new result ⊎ ((result ≡ Err (fault.Client client.Unexpected)) × (new ≡ old))

-- what is told needs nothing of the endpoint
abbrev pub NeedsNoAnswer : Result Taken ReceptionFault → Type 0
NeedsNoAnswer (Ok t) = IsUnaskedFor t
NeedsNoAnswer (Err f) = IsUnasked f

-- what is told is what the endpoint answered to what the MESSAGE carries
abbrev pub IsItsAnswer : Content → Answer → Result Taken ReceptionFault → Type 0
IsItsAnswer f (answer.Letter r) told = (l : Letter) × (read_frame f ≡ Some (envelope.Letter l)) × ToldOfLetter l r told
IsItsAnswer f (answer.Settle r) told =
    (p : Pair) × (n : ℕ) × (read_frame f ≡ Some (envelope.Settle p n)) × ToldOfSettle r told
IsItsAnswer f answer.Unasked told = ⊥

-- after these faults the frame was answered
abbrev pub is_answered : ReceptionFault → Bool
is_answered (fault.End end.StoreFailed) = false
is_answered (fault.End end.Unusable) = false
is_answered (fault.End _) = true
is_answered (fault.Envelope envelope_fault.BadEnvelope) = true
is_answered _ = false

-- ---- what the Scout is told

-- each letter is what the journal sends under its number
abbrev pub AreSentIn : {S C : Type 0} → Reactions S C → List Letter → Kept C → Type 0
AreSentIn reactions ls x = AllByRecursion (λ l. IsTrueIn reactions x.journal (envelope.Letter l)) ls

abbrev pub ListedIn : {S C : Type 0} → Reactions S C → Result (Vec Letter) EndFault → Kept C → Type 0
ListedIn reactions (Ok letters) x = AreSentIn reactions letters.items x
ListedIn reactions (Err fault) x = ⊤
