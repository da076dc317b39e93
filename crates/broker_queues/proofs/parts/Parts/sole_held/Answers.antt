use Rattle.std.proofs.Common.{◌≡◌, ◌∙◌, Some, ap, sym}
use Rattle.std.specs.Prelude.{slice_get}
use Rattle.broker_index.specs.Index.{places_at}
use Rattle.broker_queues.proofs.Alone.{first_holds, sole_is_held}
use Rattle.broker_queues.proofs.parts.Parts.sole_held.Goals as goal

pub returns : goal.returns
returns c =
    let places = places_at c.args.self.now.sessions c.args.session in
    let first : slice_get places 0 ≡ Some c.in-Some.place =
    ap (λ l. slice_get l 0) (sym c.get.ensures) ∙ c.in-Some.ensures in (
      first_holds c.args.self.now.messages c.args.self.now.subscribers c.args.ack places c.in-Some.place first
          (sole_is_held c.args.self.now.messages c.args.self.now.subscribers c.args.ack c.in-Some.place
          c.in-Some-sole_covered.entry (sym c.in-Some-sole_covered.ensures)),
      sym c.in-Some-sole_covered.ensures,
    )
