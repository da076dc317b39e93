use Rattle.std.proofs.Common.{◌≡◌, ◌+◌, [], ◌∷◌, subst, arith}
use Rattle.stomp_wire.specs.declared.wire.Way.TheVariants.{Up, Down}
use Rattle.schedule_text.specs.declared.event.Event.TheVariants.{Fill, Carry, Take}
use Rattle.schedule_runner.specs.Passing.{PassesAll}
use Rattle.schedule_runner.specs.Rounds.{takes}
use Rattle.schedule_runner.proofs.Stepping.{passes_all, passes_nothing, passes_one, takes_more}
use Rattle.schedule_runner.proofs.world.World.pump_connection.Goals as goal

pub loop-taken-init : goal.loop-taken-init
loop-taken-init g c = passes_nothing g.KO.Keep.seen g.KS.Keep.seen g.KA.Keep.seen c.at-3.new.self

pub loop-taken-preserved : goal.loop-taken-preserved
loop-taken-preserved g c =
    takes_more g.KO.Keep.seen g.KS.Keep.seen g.KA.Keep.seen c.loop-taken.taken (c.loop-taken.taken + 1)
    c.args.name c.at-3.new.self
    c.loop-taken.self c.at-in-loop-taken.new.self (omega arith) c.loop-taken.invariant
    (passes_one g.KO.Keep.seen g.KS.Keep.seen g.KA.Keep.seen (Take c.args.name) c.at-in-loop-taken.result
    c.loop-taken.self
    c.at-in-loop-taken.new.self c.at-in-loop-taken.ensures)

pub returns : goal.returns
returns g c =
    let name = c.args.name in
    let all : c.loop-taken.taken ≡ 16 = omega arith in
    let taken = subst (λ n. PassesAll g.KO.Keep.seen g.KS.Keep.seen g.KA.Keep.seen (takes n name) c.at-3.new.self
    c.loop-taken.self) all
    c.loop-taken.invariant in
    passes_all g.KO.Keep.seen g.KS.Keep.seen g.KA.Keep.seen (Fill name 64 ∷ [])
    (Carry name Up 1048576 ∷ Carry name Down 1048576 ∷ takes 16 name)
    c.args.self.now c.at.new.self c.loop-taken.self
    (passes_one g.KO.Keep.seen g.KS.Keep.seen g.KA.Keep.seen (Fill name 64) c.at.result c.args.self.now c.at.new.self
    c.at.ensures)
    (passes_all g.KO.Keep.seen g.KS.Keep.seen g.KA.Keep.seen (Carry name Up 1048576 ∷ [])
    (Carry name Down 1048576 ∷ takes 16 name)
    c.at.new.self c.at-2.new.self c.loop-taken.self
    (passes_one g.KO.Keep.seen g.KS.Keep.seen g.KA.Keep.seen (Carry name Up 1048576) c.at-2.result c.at.new.self
    c.at-2.new.self
    c.at-2.ensures)
    (passes_all g.KO.Keep.seen g.KS.Keep.seen g.KA.Keep.seen (Carry name Down 1048576 ∷ []) (takes 16 name)
    c.at-2.new.self c.at-3.new.self c.loop-taken.self
    (passes_one g.KO.Keep.seen g.KS.Keep.seen g.KA.Keep.seen (Carry name Down 1048576) c.at-3.result c.at-2.new.self
    c.at-3.new.self
    c.at-3.ensures)
    taken))
