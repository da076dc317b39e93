use Rattle.std.proofs.Common.{[], ◌∷◌}
use Rattle.laws_network.specs.Sides.{contents}
use Rattle.laws_network.proofs.Delivering.{left_runs, right_runs}
use Rattle.laws_network.proofs.Paths.{runs_fair}
use Rattle.laws_network.proofs.both.deliver.Goals as goal

pub returns-in-Left-clause-runs : goal.returns-in-Left-clause-runs
returns-in-Left-clause-runs g c =
    rw c.in-Left.is (left_runs g.K.Keep.seen g.L.Keep.seen g.H.Handler.service g.G.Handler.service
    c.act.result c.args.network.now c.args.left.now c.act.new.own c.args.right.now c.in-Left.event c.act.new.post
    (rw c.as_slice.ensures at c.act.ensures.steps))

pub returns-in-Left-clause-fair : goal.returns-in-Left-clause-fair
returns-in-Left-clause-fair g c =
    runs_fair g.H.Handler.service g.G.Handler.service (c.args.delivery.now ∷ []) (c.act.result ∷ [])
    (contents (g.K.Keep.seen c.args.left.now) (g.L.Keep.seen c.args.right.now) c.args.network.now)
    (contents (g.K.Keep.seen c.act.new.own) (g.L.Keep.seen c.args.right.now)
    (record c.args.network.now { from_left = c.act.new.post }))
    (returns-in-Left-clause-runs g c)

pub returns-in-Right-clause-runs : goal.returns-in-Right-clause-runs
returns-in-Right-clause-runs g c =
    rw c.in-Right.is (right_runs g.K.Keep.seen g.L.Keep.seen g.H.Handler.service g.G.Handler.service
    c.act-in-Right.result c.args.network.now c.args.left.now c.args.right.now c.act-in-Right.new.own c.in-Right.event
    c.act-in-Right.new.post (rw c.as_slice-in-Right.ensures at c.act-in-Right.ensures.steps))

pub returns-in-Right-clause-fair : goal.returns-in-Right-clause-fair
returns-in-Right-clause-fair g c =
    runs_fair g.H.Handler.service g.G.Handler.service (c.args.delivery.now ∷ []) (c.act-in-Right.result ∷ [])
    (contents (g.K.Keep.seen c.args.left.now) (g.L.Keep.seen c.args.right.now) c.args.network.now)
    (contents (g.K.Keep.seen c.args.left.now) (g.L.Keep.seen c.act-in-Right.new.own)
    (record c.args.network.now { from_right = c.act-in-Right.new.post }))
    (returns-in-Right-clause-runs g c)
