-- One side's step as a step of both.
use Rattle.std.proofs.Common.{List, [], ◌∷◌, refl}
use Rattle.std.proofs.Math.Logic.{∥∥₁_map}
use Rattle.envelope.specs.declared.message.Envelope.{Envelope}
use Rattle.activities.specs.Service.{Service}
use Rattle.keep.specs.Seen.{Seen}
use Rattle.keep.specs.Tables.{Tables}
use Rattle.laws_network.specs.declared.event.Delivery.TheVariants.{Left, Right}
use Rattle.laws_network.specs.declared.event.Event.{Event}
use Rattle.laws_network.specs.declared.event.Outcome.{Outcome}
use Rattle.laws_network.specs.declared.network.Network.{Network}
use Rattle.laws_network.specs.Runs.{Runs}
use Rattle.laws_network.specs.Sides.{contents}
use Rattle.laws_network.specs.SideSteps.{SideSteps}

module _ {E F S C T D : Type 0} (seen : E → Seen (Tables S C)) (other_seen : F → Seen (Tables T D)) (one : Service S C)
    (other : Service T D) (outcome : Outcome) (network : Network) where
  -- the left side acts
  pub left_runs : (old new : E) (at : F) (event : Event C) (later : List Envelope)
      → SideSteps seen old new one event outcome network.from_right network.from_left later
      → Runs one other (Left event ∷ []) (outcome ∷ []) (contents (seen old) (other_seen at) network)
      (contents (seen new) (other_seen at) (record network { from_left = later }))
  left_runs old new at event later steps clean good x y a b = ∥∥₁_map (steps clean.0 good.0 x a) (λ t. record {
    left = t.before;
    right = y;
    left_was = t.was;
    right_was = b;
    path = (record { left = x; right = y; network = record network { from_left = later } }, (t.side, refl, refl), refl);
  })

  -- the right side acts
  pub right_runs : (at : E) (old new : F) (event : Event D) (later : List Envelope)
      → SideSteps other_seen old new other event outcome network.from_left network.from_right later
      → Runs one other (Right event ∷ []) (outcome ∷ []) (contents (seen at) (other_seen old) network)
      (contents (seen at) (other_seen new) (record network { from_right = later }))
  right_runs at old new event later steps clean good x y a b = ∥∥₁_map (steps clean.1 good.1 y b) (λ t. record {
    left = x;
    right = t.before;
    left_was = a;
    right_was = t.was;
    path = (
      record { left = x; right = y; network = record network { from_right = later } },
      (t.side, refl, refl),
      refl,
    );
  })
