use Rattle.service_program.specs.Lives.{HaveServed}
use Rattle.service_program.proofs.serving.keep_serving.Given as goal

abbrev pub invariant-loop : goal.invariant-loop
invariant-loop g l = HaveServed g.L.Link.put_gives g.L.Link.take_gives g.K.Keep.seen g.H.Handler.service g.N.Naming.sound
    g.N.Naming.given l.shared l.fn.tokens l.tokens
