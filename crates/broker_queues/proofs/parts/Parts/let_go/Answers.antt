use Rattle.std.proofs.Common.{◌≡◌, ◌∙◌, ap, refl, sym}
use Rattle.broker_book.specs.declared.parts.Sent.{Sent}
use Rattle.broker_queues.specs.Parts.Held.{holding_of}
use Rattle.broker_queues.proofs.Restoring.{gone_changes}
use Rattle.broker_queues.proofs.parts.Parts.let_go.Goals as goal

pub returns : goal.returns
returns c =
    let name : c.get-2.result.now.destination ≡ c.in-Some.stored.now.sent.destination =
    ap (λ (s : Sent). s.destination) (c.get-2.ensures ∙ c.sent.ensures) in (
      c.in-Some.stored.now,
      sym c.in-Some.ensures,
      λ is ready. (
        gone_changes (holding_of c.args.self.now) _ c.args.number c.in-Some.stored.now c.get-2.result.now.destination is
            (sym c.in-Some.ensures) ready name c.count_fewer.ensures c.set.ensures refl refl refl refl refl,
        refl,
      ),
    )
