-- Two services among others, over any broker: what the two may do, and what the others may do.
use Rattle.std.specs.Prelude.{◌≡◌, ◌≢◌, ◌⊎◌, Bool, true, List, [], ◌∷◌, Contains}
use Rattle.base.specs.declared.entity.Kind.{Kind}
use Rattle.base.specs.declared.pair.Pair.{Pair}
use Rattle.envelope.specs.declared.message.Envelope.{Envelope}
use Rattle.envelope.specs.declared.message.Letter.{Letter}
use Rattle.activities.specs.Journal.{part}
use Rattle.activities.specs.Service.{Service}
use Rattle.keep.specs.Seen.{Seen}
use Rattle.keep.specs.Tables.{Tables, empty}
use Rattle.endpoint.specs.Matches.{AllMatch}
use Rattle.laws_services.specs.Services.{Traffic}
use Rattle.laws_services.specs.Steps.{ServiceStep}
use Rattle.laws_delivery.specs.Shown.{Shown, shown, pair_of, SaysNothing}

-- the stores of two services, all envelopes that any service ever wrote, and all letters that were taken
pub record Two (K L : Type 0) : Type 0 where
  pub left : K
  pub right : L
  pub traffic : Traffic

-- one of the two
pub data Side : Type 0 where
  Left : Side
  Right : Side

module _ {S C T D : Type 0} (one : Service S C) (other : Service T D) where
  -- the kind of the entities of one of the two
  abbrev pub kind_of : Side → Kind
  kind_of Left = one.kind
  kind_of Right = other.kind

  -- what the tables of one of the two show
  abbrev pub shown_by : Tables S C → Tables T D → Side → Shown
  shown_by x y Left = shown one x
  shown_by x y Right = shown other y

  -- the pair is asked about, and each of its ends is of the kind of one of the two
  abbrev pub IsBetween : (Pair → Bool) → Pair → Type 0
  IsBetween pairs p = (pairs p ≡ true) × ((p.from.kind ≡ one.kind) ⊎ (p.from.kind ≡ other.kind))
      × ((p.to.kind ≡ one.kind) ⊎ (p.to.kind ≡ other.kind))

  -- Others do something, whatever it is. Both stores stay as they are. Of the pairs between the two nothing new is written
  -- but settles up to 0, and nothing new is taken but letters with the number 0, which no service sends.
  pub record Elsewhere (pairs : Pair → Bool) {K L : Type 0} (a b : Two K L) : Type 0 where
    pub left : b.left ≡ a.left
    pub right : b.right ≡ a.right
    pub writes : (e : Envelope) → IsBetween pairs (pair_of e) → Contains b.traffic.written e
        → Contains a.traffic.written e ⊎ SaysNothing e
    pub takes : (l : Letter) → IsBetween pairs l.pair → Contains b.traffic.taken l
        → Contains a.traffic.taken l ⊎ (l.number ≡ 0)

module _ {K L S C T D : Type 0} (seen : K → Seen (Tables S C)) (other_seen : L → Seen (Tables T D)) (one : Service S C)
    (other : Service T D) (pairs : Pair → Bool) where
  -- one of the two makes a call and the other's store stays as it is, or others do something
  pub data StepAmong (a b : Two K L) : Type 0 where
    AtLeft : ServiceStep seen one a.left b.left a.traffic b.traffic → b.right ≡ a.right → StepAmong a b
    AtRight : ServiceStep other_seen other a.right b.right a.traffic b.traffic → b.left ≡ a.left → StepAmong a b
    AtOthers : Elsewhere one other pairs a b → StepAmong a b

  -- one step after another leads through this list to the last
  abbrev pub IsPathAmong : Two K L → List (Two K L) → Two K L → Type 0
  IsPathAmong a [] b = b ≡ a
  IsPathAmong a (next ∷ path) b = StepAmong a next × IsPathAmong next path b

  -- the two did nothing yet, whatever others did: their tables are empty, and of pairs between them nothing was written
  -- or taken
  pub record DidNothing (w : Two K L) : Type 0 where
    pub left : (t : Tables S C) → (seen w.left).may_leave t → t ≡ empty
    pub right : (t : Tables T D) → (other_seen w.right).may_leave t → t ≡ empty
    pub writes : (e : Envelope) → IsBetween one other pairs (pair_of e) → Contains w.traffic.written e → ⊥
    pub takes : (l : Letter) → IsBetween one other pairs l.pair → Contains w.traffic.taken l → ⊥

-- A third service, whose entities are of another kind, makes a call. No file of this service is in doubt, its tables match
-- their journal, and the stores of the two stay as they are.
pub record StepOfThird {E U V : Type 0} (seen : E → Seen (Tables U V)) (third : Service U V) {S C T D : Type 0}
    (one : Service S C) (other : Service T D) (old new : E) {K L : Type 0} (a b : Two K L) : Type 0 where
  pub step : ServiceStep seen third old new a.traffic b.traffic
  pub left : b.left ≡ a.left
  pub right : b.right ≡ a.right
  pub clean : (seen new).doubt ≡ 0
  pub matching : AllMatch third (seen old).may_leave
  pub not_one : third.kind ≢ one.kind
  pub not_other : third.kind ≢ other.kind

-- Another service makes a call. It may be of the kind of one of the two, if entities of a kind are spread over several
-- services: in its journal no entity of a pair between the two has a row, and it takes no letter of such a pair.
pub record StepOfStranger {E U V : Type 0} (seen : E → Seen (Tables U V)) (third : Service U V) {S C T D : Type 0}
    (one : Service S C) (other : Service T D) (pairs : Pair → Bool) (old new : E) {K L : Type 0} (a b : Two K L) : Type 0
  where
    pub step : ServiceStep seen third old new a.traffic b.traffic
    pub left : b.left ≡ a.left
    pub right : b.right ≡ a.right
    pub clean : (seen new).doubt ≡ 0
    pub matching : AllMatch third (seen old).may_leave
    pub no_rows : (t : Tables U V) → (seen new).may_leave t → (p : Pair) → IsBetween one other pairs p
        → (part p.from t.journal ≡ []) × (part p.to t.journal ≡ [])
    pub takes : (l : Letter) → IsBetween one other pairs l.pair → Contains b.traffic.taken l
        → Contains a.traffic.taken l ⊎ (l.number ≡ 0)
