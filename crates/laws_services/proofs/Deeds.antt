-- What one service's step does to its tables and to the traffic.
use Rattle.std.proofs.Common.{◌≡◌, ◌⊎◌, inl, inr, List, [], ◌∷◌}
use Rattle.std.specs.Prelude.{Contains}
use Rattle.std.proofs.Math.Logic.{∥∥₁_map}
use Rattle.base.specs.Entity.{Entity}
use Rattle.envelope.specs.declared.message.Envelope.{Envelope}
use Rattle.envelope.specs.declared.message.Envelope.TheVariants as envelope
use Rattle.envelope.specs.declared.message.Letter.{Letter}
use Rattle.activities.specs.declared.input.Input.{Input}
use Rattle.activities.specs.declared.input.Input.TheVariants.{FromSeat, FromEntity}
use Rattle.activities.specs.Service.{Service}
use Rattle.activities.proofs.Sameness.{either}
use Rattle.keep.specs.Seen.{Seen}
use Rattle.keep.specs.Tables.{Tables}
use Rattle.endpoint.specs.Deeds.{Kept, kept, Deed, Nothing, TakesIn, Holds, Settles}
use Rattle.endpoint.specs.Matches.{AllMatch}
use Rattle.laws_journals.specs.Growth.{IsFrom}
use Rattle.laws_stores.specs.Deeds.{DeedIs}
use Rattle.laws_stores.specs.Good.{IsHeldIn}
use Rattle.laws_services.specs.Steps.{IsFounded, DidEach, CameByDeeds, TakesLetter, ServiceStep}
use Rattle.laws_services.specs.Services.{Traffic}
use Rattle.laws_services.proofs.Arriving.{IsReceived, some_received}

-- ---- what a deed takes in among some envelopes it takes in among more

module _ (P Q : Envelope → Type 0) (more : (e : Envelope) → P e → Q e) where
  from_more : {C : Type 0} (e : Entity) (input : Input C) → IsFrom P e input → IsFrom Q e input
  from_more e (FromSeat seat command) h = tt
  from_more e (FromEntity sender number message) h = more _ h

  pub deed_more : {C : Type 0} (d : Deed C) → DeedIs P d → DeedIs Q d
  deed_more Nothing h = tt
  deed_more (TakesIn row) h = from_more row.entity row.input h
  deed_more (Holds l) h = more (envelope.Letter l) h
  deed_more (Settles p n) h = more (envelope.Settle p n) h

-- what a deed takes in, holds or settles is known, or was held
abbrev pub Founded : {C : Type 0} → (Envelope → Type 0) → Kept C → Deed C → Type 0
Founded known x d = DeedIs (λ e. known e ⊎ IsHeldIn x.held e) d

module _ {S C : Type 0} (service : Service S C) where
  -- what is allowed so is allowed thus
  pub each_more : (allowed more : Kept C → Deed C → Type 0) → ((x : Kept C) (d : Deed C) → allowed x d → more x d)
      → (through : List (Tables S C)) (x y : Tables S C) → DidEach service allowed x through y
      → DidEach service more x through y
  each_more allowed more weaker [] x y did = did
  each_more allowed more weaker (next ∷ through) x y did = (
    (did.0.0, weaker (kept x) did.0.0 did.0.1, did.0.2),
    each_more allowed more weaker through next y did.1,
  )

module _ {E S C : Type 0} (seen : E → Seen (Tables S C)) (service : Service S C) (old new : E)
    (clean : (seen new).doubt ≡ 0)
    (match : AllMatch service (seen old).may_leave) (y : Tables S C) (may : (seen new).may_leave y) where
  -- a content comes of one before by deeds of what is known, or was held
  pub step_comes : (known : Envelope → Type 0) (from to : Traffic)
      → ((e : Envelope) → Contains from.written e → known e)
      → ServiceStep seen service old new from to
      → ∥ CameByDeeds service (Founded known) (seen old).may_leave y ∥₁
  step_comes known from to all step = ∥∥₁_map (step.does.comes clean match y may) (λ c. record {
    before = c.before;
    through = c.through;
    was = c.was;
    did = each_more service (IsFounded from.written) (Founded known)
        (λ x d founded. deed_more (λ e. Contains from.written e ⊎ IsHeldIn x.held e) (λ e. known e ⊎ IsHeldIn x.held e)
        (λ e h. either h (λ was. inl (all e was)) inr) d founded)
        c.through c.before y c.did;
  })

  -- a letter that was taken is received there
  pub step_takes : (l : Letter) → TakesLetter seen service l old new → ∥ IsReceived service (kept y) l ∥₁
  step_takes l takes = ∥∥₁_map (takes clean match y may) (λ c.
      some_received service l c.0.through c.0.before y c.0.did c.1 (match c.0.before c.0.was).legal.kinds)
