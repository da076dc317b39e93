use Rattle.std.proofs.Common.{◌≡◌, subst}
use Rattle.stomp_frame.specs.declared.command.Command.TheVariants.{Message}
use Rattle.service_workers.specs.Reads.{CameOver, IfFound}
use Rattle.service_workers.proofs.run.Run.take_frame.Goals as goal

pub new-arrival-requires : goal.new-arrival-requires
new-arrival-requires g c = record {
  message = subst (IfFound (λ f. f.command ≡ Message)) c.in-Message.is c.find-number.ensures.message;
  came = λ s. subst (IfFound (CameOver g.L.Link.put_gives g.L.Link.take_gives
      g.N.Naming.given (g.M.RunNaming.begun c.find-number.result.0))) c.in-Message.is (c.find-number.ensures.came s);
}
