-- What contracts read of a shared endpoint and of its tokens.
use Rattle.std.specs.Prelude.{◌≡◌, ◌⊎◌, ℕ, suc, ◌<◌, List, [], ◌∷◌, ◌++◌, length, All, slice_index_or, true, Some}
use Rattle.crossbeam_channel.specs.Claims.{Pass}
use Rattle.base.specs.declared.limits.TheConstants.{SEATS}
use Rattle.activities.specs.Service.{Service}
use Rattle.keep.specs.Seen.{Seen}
use Rattle.keep.specs.Tables.{Tables}
use Rattle.marks.specs.declared.rule.Entry.{Entry}
use Rattle.marks.specs.declared.marks.MarkSeat.{MarkSeat}
use Rattle.marks.specs.Seats.{raised_by, read_by}
use Rattle.marks.specs.Seats as mark_seats
use Rattle.told_lock.specs.declared.lock.Lock.{Lock}
use Rattle.told_lock.specs.declared.view.Stage.TheVariants.{Open}
use Rattle.told_lock.specs.declared.view.ToldToken.{ToldToken}
use Rattle.told_lock.specs.declared.view.Known.{Known}
use Rattle.told_lock.specs.Keys.{knows, IsKeyOf, LockName, IsKeyAt}
use Rattle.told_lock.specs.Keys as lock_keys
use Rattle.told_lock.specs.Rule.{Every, IsTold, new_told}
use Rattle.shared_endpoint.specs.declared.shared.Shared.{Shared}
use Rattle.shared_endpoint.specs.declared.tokens.Seat.{Seat}
use Rattle.shared_endpoint.specs.declared.tokens.Hand.{Hand}
use Rattle.shared_endpoint.specs.declared.tokens.Scout.{Scout}
use Rattle.shared_endpoint.specs.declared.tokens.Witness.{Witness}
use Rattle.shared_endpoint.specs.Token.{number_of, the_hand, the_scout}
use Rattle.shared_endpoint.specs.History.{IsLater, Since, EverSince, EndsAs}

module _ {E : Type 0} where
  -- the tokens that a key stands for, by what they know
  abbrev pub told : Pass E (Known E) → List (ToldToken E)
  told key = (knows key).own

  -- the endpoints that were shown to a key, each as some token has seen it
  abbrev pub shown : Pass E (Known E) → List E
  shown key = (knows key).shown

  -- the key of one token, with this number, that holds nothing
  pub record IsToken {L : Type 0} (lock : Lock E L) (n : ℕ) (key : Pass E (Known E)) : Type 0 where
    pub at : IsKeyOf lock key
    pub stage : (knows key).stage ≡ Open
    pub one : ToldToken E
    pub own : told key ≡ one ∷ []
    pub number : one.number ≡ n

  -- the key of a witness: it stands for no token
  abbrev pub IsWitness : Pass E (Known E) → Type 0
  IsWitness key = ((knows key).stage ≡ Open) × (told key ≡ [])

  -- the key that makes tokens, and makes the n-th next; it holds this endpoint
  abbrev pub maker : ℕ → E → Known E
  maker n e = record { stage = Open; own = []; has = Some e; good = Some e; chief = true; next = n; shown = [] }

  -- a new token: all that it knows is this endpoint
  abbrev pub IsNew : ℕ → E → Pass E (Known E) → Type 0
  IsNew n e key = told key ≡ new_told n e ∷ []

module _ {H E S C : Type 0} where
  -- a seat's number, 0 to 15, and what it knows
  abbrev pub seat_number : Seat H E S C → ℕ
  seat_number seat = seat.number

  abbrev pub told_seat : Seat H E S C → List (ToldToken E)
  told_seat seat = told seat.key

  -- what the Hand and the Scout know
  abbrev pub told_hand : Hand H E S C → List (ToldToken E)
  told_hand hand = told hand.key

  abbrev pub told_scout : Scout H E S C → List (ToldToken E)
  told_scout scout = told scout.key

  -- the endpoints that were shown to the Hand and to the Scout, and those that a witness knows
  abbrev pub shown_hand : Hand H E S C → List E
  shown_hand hand = shown hand.key

  abbrev pub shown_scout : Scout H E S C → List E
  shown_scout scout = shown scout.key

  abbrev pub shown_witness : Witness H E S C → List E
  shown_witness witness = shown witness.key

  -- the lengths to which a seat and the Hand have raised the mark, and those that the Scout has read of it, in order
  abbrev pub marks_raised : Seat H E S C → List Entry
  marks_raised seat = raised_by seat.mark

  abbrev pub hand_raised : Hand H E S C → List Entry
  hand_raised hand = raised_by hand.mark

  abbrev pub marks_read : Scout H E S C → List Entry
  marks_read scout = read_by scout.mark

  -- what several seats know
  abbrev pub told_seats : List (Seat H E S C) → List (ToldToken E)
  told_seats [] = []
  told_seats (seat ∷ seats) = told_seat seat ++ told_seats seats

  -- what was shown to them
  abbrev pub shown_seats : List (Seat H E S C) → List E
  shown_seats [] = []
  shown_seats (seat ∷ seats) = shown seat.key ++ shown_seats seats

  -- the right to raise and read this service's mark
  abbrev pub IsMarkOf : Shared H E S C → MarkSeat → Type 0
  IsMarkOf shared mark = mark_seats.IsSeatOf shared.marks mark

  -- that has neither raised nor read it
  abbrev pub IsNewMarkOf : Shared H E S C → MarkSeat → Type 0
  IsNewMarkOf shared mark = IsMarkOf shared mark × (raised_by mark ≡ []) × (read_by mark ≡ [])

  -- they are tokens of this service
  abbrev pub IsSeatOf : Shared H E S C → Seat H E S C → Type 0
  IsSeatOf shared seat = IsToken shared.lock seat.number seat.key × (seat.number < SEATS) × IsMarkOf shared seat.mark

  abbrev pub IsHandOf : Shared H E S C → Hand H E S C → Type 0
  IsHandOf shared hand = IsToken shared.lock (number_of the_hand) hand.key × IsMarkOf shared hand.mark

  abbrev pub IsScoutOf : Shared H E S C → Scout H E S C → Type 0
  IsScoutOf shared scout = IsToken shared.lock (number_of the_scout) scout.key × IsMarkOf shared scout.mark

  -- a witness of this service
  abbrev pub IsWitnessOf : Shared H E S C → Witness H E S C → Type 0
  IsWitnessOf shared witness = IsKeyOf shared.lock witness.key × IsWitness witness.key

  -- The name of this service, and a witness of the service of a name. So a type that can't hold the service, such as one
  -- under another lock, knows of which its witness is.
  abbrev pub name_of : Shared H E S C → LockName E
  name_of shared = lock_keys.name_of shared.lock

  abbrev pub IsWitnessAt : LockName E → Witness H E S C → Type 0
  IsWitnessAt name witness = IsKeyAt name witness.key × IsWitness witness.key

  -- the seats of this service, 0 to 15, in order
  abbrev pub AreSeatsOf : Shared H E S C → List (Seat H E S C) → Type 0
  AreSeatsOf shared seats = (length seats ≡ SEATS)
      × ((i : ℕ) (d : Seat H E S C) → i < length seats
      → IsSeatOf shared (slice_index_or seats i d) × (seat_number (slice_index_or seats i d) ≡ i))

  -- they know this endpoint and no more, have neither raised nor read the mark, and nothing was shown to the Hand
  abbrev pub IsNewSeat : E → Seat H E S C → Type 0
  IsNewSeat e seat = IsNew seat.number e seat.key × (marks_raised seat ≡ [])

  abbrev pub AreNewSeats : E → List (Seat H E S C) → Type 0
  AreNewSeats e seats = All (IsNewSeat e) seats

  abbrev pub IsNewHand : E → Hand H E S C → Type 0
  IsNewHand e hand = IsNew (number_of the_hand) e hand.key × (hand_raised hand ≡ []) × (shown_hand hand ≡ [])

  abbrev pub IsNewScout : E → Scout H E S C → Type 0
  IsNewScout e scout = IsNew (number_of the_scout) e scout.key × (marks_read scout ≡ [])

-- ---- the end

-- P holds of one of these
abbrev pub Any : {X : Type 0} → (X → Type 0) → List X → Type 0
Any P [] = ⊥
Any P (x ∷ xs) = P x ⊎ Any P xs

-- What is so of an endpoint that comes out of the lock with these tokens: all are there, up to the Scout's number.
-- There is an endpoint that was good to the end, of which all holds that any token has seen or that was shown to one; and
-- the one that comes out is that, or what became of it where its store failed, and is later than all that tokens gave
-- back.
pub record Closes {E S C : Type 0} (seen : E → Seen (Tables S C)) (service : Service S C) (tokens : List (ToldToken E))
    (witnessed : List E) (e : E) : Type 0 where
  pub all : (n : ℕ) → n < suc (number_of the_scout) → Any (λ t. t.number ≡ n) tokens
  pub good : E
  pub ends : EndsAs seen service good e
  pub told : Every (IsTold (Since seen service) (IsLater seen) (EndsAs seen service) e good) tokens
  pub borne_out : Every (λ y. EverSince seen service y good) witnessed
