use Rattle.service_workers.specs.Reads.{Came}
use Rattle.laws_lives.proofs.Living.{any_stands, came_with, good_lives, left_lives}
use Rattle.laws_lives.proofs.lives.closed_lives_are_lives.Goals as goal

pub returns-clause-good : goal.returns-clause-good
returns-clause-good g c = λ left conns life.
    good_lives g.L.Link.put_gives g.L.Link.take_gives g.K.Keep.seen g.H.Handler.service g.met.K.Keep.sound
    g.N.Naming.given g.N.Naming.found left conns life

pub returns-clause-left : goal.returns-clause-left
returns-clause-left g c = λ left conns life usable t may.
    left_lives g.L.Link.put_gives g.L.Link.take_gives g.K.Keep.seen g.H.Handler.service g.met.K.Keep.sound
    g.N.Naming.given g.N.Naming.found left conns life usable t may

pub returns-clause-failed : goal.returns-clause-failed
returns-clause-failed g c = λ left conns life t may.
    any_stands g.L.Link.put_gives g.L.Link.take_gives g.K.Keep.seen g.H.Handler.service g.met.K.Keep.sound
    g.N.Naming.given g.N.Naming.found left conns life t may

pub returns-clause-read : goal.returns-clause-read
returns-clause-read g c = λ left conns life e h.
    came_with (Came g.L.Link.put_gives g.L.Link.take_gives g.N.Naming.given) life.messages life.came e h
