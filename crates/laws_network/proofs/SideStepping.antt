-- From what an endpoint's call tells to the step of its side.
use Rattle.std.proofs.Common.{◌≡◌, List, refl}
use Rattle.std.proofs.Math.Logic.{∥∥₁_map}
use Rattle.envelope.specs.declared.message.Envelope.{Envelope}
use Rattle.activities.specs.Service.{Service}
use Rattle.std.specs.Prelude.{⊤, Ok, Err}
use Rattle.keep.specs.Law.{IsCall}
use Rattle.keep.specs.Seen.{Seen, no_memory, failed, unusable, refused, End}
use Rattle.endpoint.specs.declared.fault.EndFault.{EndFault}
use Rattle.keep.specs.Tables.{Tables}
use Rattle.endpoint.specs.Calls.{ComesBy, Stays, Finds, StillMatches}
use Rattle.endpoint.specs.Deeds.{Kept, kept, Deed, Nothing}
use Rattle.endpoint.specs.Matches.{AllMatch}
use Rattle.laws_network.specs.declared.event.Event.{Event}
use Rattle.laws_network.specs.declared.event.Outcome.{Outcome}
use Rattle.laws_network.specs.SideSteps.{MayDo, MaySend, SideSteps}

module _ {E S C : Type 0} (seen : E → Seen (Tables S C)) (old new : E) (service : Service S C) (event : Event C)
    (outcome : Outcome)
    (arriving sent later : List Envelope) where
  -- a deed was done
  pub comes_steps : (allowed : Kept C → Deed C → Type 0)
      → ((x : Kept C) (d : Deed C) → allowed x d → MayDo service arriving event outcome x d)
      → ((x : Kept C) → MaySend service event outcome x sent later) → ComesBy seen old new service allowed
      → SideSteps seen old new service event outcome arriving sent later
  comes_steps allowed may sends comes clean good t b =
      let c = comes clean good t b in
      ∣ record {
        before = c.before;
        was = c.was;
        side = record { deed = c.deed; may = may (kept c.before) c.deed c.may; did = c.did; sends = sends (kept t) };
      } ∣₁

  -- nothing was done, and this is sent
  pub stays_steps : ((x : Kept C) → MayDo service arriving event outcome x Nothing)
      → ((seen new).doubt ≡ 0 → AllMatch service (seen old).may_leave → (t : Tables S C) → (seen new).may_leave t
      → MaySend service event outcome (kept t) sent later) → Stays seen old new
      → SideSteps seen old new service event outcome arriving sent later
  stays_steps may sends stays clean good t b = ∣ record {
    before = t;
    was = stays clean t b;
    side = record { deed = Nothing; may = may (kept t); did = refl; sends = sends clean good t b };
  } ∣₁

  -- the store was opened again
  pub finds_steps : ((x : Kept C) → MayDo service arriving event outcome x Nothing)
      → ((x : Kept C) → MaySend service event outcome x sent later) → Finds seen old new
      → SideSteps seen old new service event outcome arriving sent later
  finds_steps may sends finds clean good t b = ∥∥₁_map (finds clean t b) (λ was. record {
    before = t;
    was = was;
    side = record { deed = Nothing; may = may (kept t); did = refl; sends = sends (kept t) };
  })

  -- what stays all match, matches still
  pub stays_match : Stays seen old new → StillMatches seen old new service
  stays_match stays clean good t b = good t (stays clean t b)

-- what a call tells of its store's use for whatever reason it was refused
pub any_reason : {E T R : Type 0} (seen : E → Seen T) (old new : E) (May : EndFault → Type 0) (end : End R EndFault)
    → IsCall seen old new May end → IsCall seen old new (λ (_ : EndFault). ⊤) end
any_reason seen old new May (Ok r) h = h
any_reason seen old new May (Err no_memory) h = h
any_reason seen old new May (Err failed) h = h
any_reason seen old new May (Err unusable) h = h
any_reason seen old new May (Err (refused fault)) h = (h.0, tt)
