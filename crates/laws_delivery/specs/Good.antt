-- What holds of two services after any steps, in each combination of the contents that a crash may leave of their stores.
use Rattle.std.specs.Prelude.{◌≡◌, ◌≢◌, Bool, List, Contains}
use Rattle.base.specs.declared.entity.Kind.{Kind}
use Rattle.base.specs.declared.pair.Pair.{Pair}
use Rattle.envelope.specs.declared.message.Envelope.{Envelope}
use Rattle.envelope.specs.declared.message.Letter.{Letter}
use Rattle.activities.specs.Journal.{IsLegal}
use Rattle.activities.specs.Service.{Service}
use Rattle.keep.specs.Seen.{Seen}
use Rattle.keep.specs.Tables.{Tables}
use Rattle.endpoint.specs.Matches.{AllMatch}
use Rattle.laws_services.specs.Services.{Traffic}
use Rattle.laws_delivery.specs.Shown.{Shown, pair_of, IsFromTo, Delivers, IsTrueOf, IsThere}
use Rattle.laws_delivery.specs.Shown.{AllTaken, HoldsNoNext, AllHandled}
use Rattle.laws_delivery.specs.Two.{Two, Side, kind_of, shown_by, IsPathAmong}

-- Letters are delivered from entities of the first kind to those of the second. Of their pairs all that was written is
-- true, and each letter that was taken was handled or is held.
pub record IsGoodFromTo (pairs : Pair → Bool) (traffic : Traffic) (from to : Kind) (sender receiver : Shown) : Type 0 where
  pub delivers : Delivers pairs from to sender receiver
  pub written : (e : Envelope) → IsFromTo pairs from to (pair_of e) → Contains traffic.written e
      → IsTrueOf sender receiver e
  pub taken : (l : Letter) → IsFromTo pairs from to l.pair → Contains traffic.taken l
      → IsThere receiver l.pair l.number

module _ {K L S C T D : Type 0} (seen : K → Seen (Tables S C)) (other_seen : L → Seen (Tables T D)) (one : Service S C)
    (other : Service T D) where
  -- it holds in each combination of the contents that a crash may leave of both
  abbrev pub Everywhere : Two K L → (Tables S C → Tables T D → Type 0) → Type 0
  Everywhere w P = (x : Tables S C) → (seen w.left).may_leave x → (y : Tables T D) → (other_seen w.right).may_leave y
      → P x y

  -- in each content the tables match their journal
  abbrev pub AreMatching : Two K L → Type 0
  AreMatching w = AllMatch one (seen w.left).may_leave × AllMatch other (other_seen w.right).may_leave

  -- no file of either is in doubt
  abbrev pub AreClean : Two K L → Type 0
  AreClean w = ((seen w.left).doubt ≡ 0) × ((other_seen w.right).doubt ≡ 0)

  -- both journals are legal
  abbrev pub AllLegal : Two K L → Type 0
  AllLegal w = Everywhere w (λ x y. IsLegal one.reactions one.kind x.journal
      × IsLegal other.reactions other.kind y.journal)

  module _ (pairs : Pair → Bool) where
    -- so it is from each of the two to each of them
    abbrev pub AreGood : Two K L → Type 0
    AreGood w = Everywhere w (λ x y. (from to : Side)
        → IsGoodFromTo pairs w.traffic (kind_of one other from) (kind_of one other to) (shown_by one other x y from)
        (shown_by one other x y to))

    -- Steps lead from the first to the last. The two are of different kinds, good at first, and their tables match their
    -- journals then; at last no file of them is in doubt.
    pub record IsRunAmong (first last : Two K L) : Type 0 where
      pub path : List (Two K L)
      pub steps : IsPathAmong seen other_seen one other pairs first path last
      pub apart : one.kind ≢ other.kind
      pub matching : AreMatching first
      pub good : AreGood first
      pub clean : AreClean last

    -- letters are delivered from each of the two to each of them
    abbrev pub AllDelivered : Two K L → Type 0
    AllDelivered w = Everywhere w (λ x y. (from to : Side)
        → Delivers pairs (kind_of one other from) (kind_of one other to) (shown_by one other x y from)
        (shown_by one other x y to))

    -- of each pair from one of the two to one of them: if each unsettled letter was taken, in any order, and the next one
    -- isn't held, all that was sent was handled
    abbrev pub TakenAreHandled : Two K L → Type 0
    TakenAreHandled w = Everywhere w (λ x y. (from to : Side) (p : Pair)
        → IsFromTo pairs (kind_of one other from) (kind_of one other to) p
        → AllTaken (Contains w.traffic.taken) (shown_by one other x y from) p
        → HoldsNoNext (shown_by one other x y to) p
        → AllHandled (shown_by one other x y from) (shown_by one other x y to) p)
