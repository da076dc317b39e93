use Rattle.std.proofs.Common.{◌≡◌, ◌≤◌, arith}
use Rattle.std.specs.Prelude.{⊤}
use Rattle.endpoint.specs.Arrivals.{SettleMay}
use Rattle.endpoint.specs.Calls.{OfSettle}
use Rattle.endpoint.proofs.Doing.{read_then}
use Rattle.endpoint.proofs.receiving.settle.Goals as goal

pub returns : goal.returns
returns g c =
    let ahead = g.W.Window.ahead in let service =
    g.H.Handler.service in let p = c.args.pair.now in let n = c.args.number in let few =
    c.if-number-sent.false in
    read_then g.K.Keep.seen g.met.K.Keep.sound ahead service c.args.keep.now c.read_sent.new.keep c.raise_mark.new.keep
    OfSettle OfSettle
    (λ f h. h) (λ t. n ≤ t.sent p) (λ _. ⊤) (SettleMay service p n) (λ t s. s ≡ t.sent p) c.in_ok-sent.sent
    c.raise_mark.result
    (λ t good q gives. omega (arith, few, gives)) c.in_ok-sent.ensures c.raise_mark.ensures
