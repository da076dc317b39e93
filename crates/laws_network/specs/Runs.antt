-- What a list of deliveries does, and what follows of it.
use Rattle.std.specs.Prelude.{◌≡◌, ℕ, suc, ◌≤◌, List, [], ◌∷◌, None, Some, Ok, slice_get}
use Rattle.base.specs.declared.pair.Pair.{Pair}
use Rattle.envelope.specs.declared.message.Envelope.{Envelope}
use Rattle.envelope.specs.declared.message.Envelope.TheVariants as envelope
use Rattle.envelope.specs.declared.message.Letter.{Letter}
use Rattle.activities.specs.Journal.{handled_of}
use Rattle.activities.specs.Service.{Service}
use Rattle.keep.specs.Tables.{Tables}
use Rattle.outbox.specs.Rows.{unsettled_of}
use Rattle.endpoint.specs.Deeds.{kept}
use Rattle.endpoint.specs.declared.answer.Ingested.{Ingested}
use Rattle.laws_network.specs.declared.event.Delivery.{Delivery}
use Rattle.laws_network.specs.declared.event.Delivery.TheVariants.{Left, Right}
use Rattle.laws_network.specs.declared.event.Event.TheVariants.{Take}
use Rattle.laws_network.specs.declared.event.Outcome.{Outcome}
use Rattle.laws_network.specs.declared.event.Outcome.TheVariants.{Taken}
use Rattle.laws_network.specs.Fair.{IsFair, HandledAll}
use Rattle.laws_network.specs.Sides.{Sides, Contents, AreClean, AreMatching, Everywhere}
use Rattle.laws_network.specs.SideSteps.{SideStep}

module _ {S C T D : Type 0} (one : Service S C) (other : Service T D) where
  -- one side makes a step, and the other stays as it is
  abbrev pub Step : Delivery C D → Outcome → Sides S C T D → Sides S C T D → Type 0
  Step (Left event) outcome a b =
      SideStep one event outcome a.network.from_right a.network.from_left b.network.from_left (kept a.left)
      (kept b.left)
      × (b.right ≡ a.right) × (b.network.from_right ≡ a.network.from_right)
  Step (Right event) outcome a b =
      SideStep other event outcome a.network.from_left a.network.from_right b.network.from_right (kept a.right)
      (kept b.right)
      × (b.left ≡ a.left) × (b.network.from_left ≡ a.network.from_left)

  -- one step for each delivery, with its outcome, leads from the first sides to the last
  abbrev pub IsPath : List (Delivery C D) → List Outcome → Sides S C T D → Sides S C T D → Type 0
  IsPath [] [] a b = b ≡ a
  IsPath (delivery ∷ deliveries) (outcome ∷ outcomes) a b =
      (next : Sides S C T D) × Step delivery outcome a next × IsPath deliveries outcomes next b
  IsPath [] (_ ∷ _) a b = ⊥
  IsPath (_ ∷ _) [] a b = ⊥

  -- the sides now come of some that a stop might leave before, by such a path
  pub record Led (deliveries : List (Delivery C D)) (outcomes : List Outcome) (old : Contents S C T D)
      (now : Sides S C T D) : Type 0 where
    pub left : Tables S C
    pub right : Tables T D
    pub left_was : old.left.may_leave left
    pub right_was : old.right.may_leave right
    pub path : IsPath deliveries outcomes (record { left = left; right = right; network = old.network }) now

  -- so do all that a stop may leave now
  abbrev pub Runs : List (Delivery C D) → List Outcome → (old new : Contents S C T D) → Type 0
  Runs deliveries outcomes old new =
      AreClean new → AreMatching one other old → Everywhere new (λ z. ∥ Led deliveries outcomes old z ∥₁)

  -- where the sides were fair, they are
  abbrev pub StaysFair : (old new : Contents S C T D) → Type 0
  StaysFair old new =
      AreClean new → AreMatching one other old → Everywhere old (IsFair one other) → Everywhere new (IsFair one other)

  -- this letter of the other side arrived in one of these deliveries, and was taken
  abbrev pub IsTaken : ((i : ℕ) → Delivery C D) → List (Delivery C D) → List Outcome → List Envelope → Letter → Type 0
  IsTaken arrival deliveries outcomes sent letter =
      (k i : ℕ) × (answer : Ingested) × (slice_get deliveries k ≡ Some (arrival i))
      × (slice_get outcomes k ≡ Some (Taken (Ok answer))) × (slice_get sent i ≡ Some (envelope.Letter letter))

  -- each letter that a side sent on the pair, and that isn't settled, was taken by the other
  abbrev pub AllTakenRight : List (Delivery C D) → List Outcome → Sides S C T D → Pair → Type 0
  AllTakenRight deliveries outcomes z p = (letter : Letter) → letter.pair ≡ p
      → unsettled_of one.reactions z.left.journal z.left.settled p letter.number ≡ Some letter.message
      → IsTaken (λ i. Right (Take i)) deliveries outcomes z.network.from_left letter

  abbrev pub AllTakenLeft : List (Delivery C D) → List Outcome → Sides S C T D → Pair → Type 0
  AllTakenLeft deliveries outcomes z p = (letter : Letter) → letter.pair ≡ p
      → unsettled_of other.reactions z.right.journal z.right.settled p letter.number ≡ Some letter.message
      → IsTaken (λ i. Left (Take i)) deliveries outcomes z.network.from_right letter

  -- the next letter of the pair isn't held
  abbrev pub NoneWaits : {A B : Type 0} → Tables A B → Pair → Type 0
  NoneWaits t p = t.held p (suc (handled_of t.journal p)) ≡ None

  -- where each unsettled letter of a pair was taken, in whatever order, and the next one doesn't wait, all that was
  -- sent was handled
  abbrev pub TakenAreHandledIn : List (Delivery C D) → List Outcome → Sides S C T D → Type 0
  TakenAreHandledIn deliveries outcomes z = (p : Pair)
      → (AllTakenRight deliveries outcomes z p → NoneWaits z.right p
      → HandledAll one.reactions z.left.journal z.right.journal p)
      × (AllTakenLeft deliveries outcomes z p → NoneWaits z.left p
      → HandledAll other.reactions z.right.journal z.left.journal p)

  abbrev pub TakenAreHandled : List (Delivery C D) → List Outcome → (old new : Contents S C T D) → Type 0
  TakenAreHandled deliveries outcomes old new =
      AreClean new → AreMatching one other old → Everywhere old (IsFair one other)
      → Everywhere new (TakenAreHandledIn deliveries outcomes)

-- doubt never falls
abbrev pub DoubtStays : {S C T D : Type 0} → (old new : Contents S C T D) → Type 0
DoubtStays old new = (old.left.doubt ≤ new.left.doubt) × (old.right.doubt ≤ new.right.doubt)
