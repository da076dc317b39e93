use Rattle.std.proofs.Common.{◌<◌, ltb, sym, subst}
use Rattle.std.specs.Prelude.{All}
use Rattle.std.proofs.lemmas.Bool.{lt-ltb}
use Rattle.broker_index.specs.Index.{Kept}
use Rattle.broker_index.specs.Slots.{in_order}
use Rattle.broker_index.proofs.Touching.{list_all-from_All}
use Rattle.broker_index.proofs.messages.Messages.push.Goals as goal

pub put_value-requires-clause-below : goal.put_value-requires-clause-below
put_value-requires-clause-below c =
    list_all-from_All (λ (k : Kept). ltb k.number c.args.number) (λ (k : Kept). k.number < c.args.number)
    (λ k h. lt-ltb k.number c.args.number h)
    (in_order (λ (k : Kept). k.number) c.self.inside.slab.slots) (subst (All (λ (k : Kept). k.number < c.args.number))
    (sym c.self.view_is) c.requires)
