use Rattle.std.proofs.Common.{List, sym, ap, ◌∙◌, subst}
use Rattle.crossbeam_channel.specs.Claims.{IsSeatAt}
use Rattle.intake.specs.declared.rule.Known.{Known}
use Rattle.intake.specs.declared.slip.Slip.{Slip}
use Rattle.intake.specs.Counts.{IsCountOf}
use Rattle.intake.proofs.Moves.{takes}
use Rattle.intake.proofs.Slips.{counts}
use Rattle.intake.proofs.intake.IntakeWorker.take.Goals as goal

pub try_recv_as-requires-clause-channel : goal.try_recv_as-requires-clause-channel
try_recv_as-requires-clause-channel g c =
    subst (λ r. IsSeatAt r c.args.self.now.key) (sym c.args.self.now.one) c.args.self.now.mine.0

pub try_recv_as-requires-clause-rule : goal.try_recv_as-requires-clause-rule
try_recv_as-requires-clause-rule g c = (takes _ _ c.args.self.now.mine.2, λ items views _ _. tt)

pub invariant_of-self : goal.invariant_of-self
invariant_of-self g c =
    let rule = c.in-Ok.ensures.rule in
    record {
      one = c.args.self.now.one;
      mine = (
        subst (λ r. IsSeatAt r c.try_recv_as.new.pass) c.args.self.now.one c.try_recv_as.ensures.channel.0,
        ap (λ (k : Known g.row.M.Denot). k.own) rule ∙ c.args.self.now.mine.1,
        ap (λ (k : Known g.row.M.Denot). k.takes) rule ∙ c.args.self.now.mine.2,
      );
      counted = subst (λ (xs : List (Slip g.row.M.Denot)). IsCountOf xs c.with-self.result)
          (sym (ap (λ (k : Known g.row.M.Denot). k.got) rule))
          (counts _ _ _ _ c.args.self.now.counted c.with-self.ensures);
    }
