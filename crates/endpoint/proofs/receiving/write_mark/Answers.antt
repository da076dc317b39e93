use Rattle.std.proofs.Common.{◌<◌, ◌≤◌, Ok, Err, refl, inl}
use Rattle.endpoint.specs.Arrivals.{SettleMay}
use Rattle.endpoint.specs.Calls.{OfSettle}
use Rattle.endpoint.specs.Deeds.{Settles}
use Rattle.endpoint.proofs.Doing.{write_ends}
use Rattle.endpoint.proofs.Finishing.{mark_does, mark_placed}
use Rattle.endpoint.proofs.receiving.write_mark.Goals as goal

pub returns-in-Ok : goal.returns-in-Ok
returns-in-Ok g c =
    let ahead = g.W.Window.ahead in let service =
    g.H.Handler.service in let p = c.args.pair.now in let n = c.args.number in let cs =
    c.in_ok-changes.changes.items in
    rw c.get.ensures.value (write_ends g.K.Keep.seen g.met.K.Keep.sound ahead service c.args.keep.now
    c.apply_all.new.keep OfSettle
    (λ t. (t.settled p < n) × (n ≤ t.sent p)) (SettleMay service p n) (λ x. refl) (λ x. inl refl) cs (Settles p n) n
    (Ok c.in-Ok.field-0)
    c.requires.usable (mark_placed ahead service p n cs c.in_ok-changes.ensures)
    (mark_does ahead service p n c.requires.kind cs c.in_ok-changes.ensures) c.in-Ok.ensures)

pub returns-in-Err : goal.returns-in-Err
returns-in-Err g c =
    let ahead = g.W.Window.ahead in let service =
    g.H.Handler.service in let p = c.args.pair.now in let n = c.args.number in let cs =
    c.in_ok-changes.changes.items in
    write_ends g.K.Keep.seen g.met.K.Keep.sound ahead service c.args.keep.now c.apply_all.new.keep OfSettle
    (λ t. (t.settled p < n) × (n ≤ t.sent p)) (SettleMay service p n) (λ x. refl) (λ x. inl refl) cs (Settles p n) n
    (Err c.in-Err.fault)
    c.requires.usable (mark_placed ahead service p n cs c.in_ok-changes.ensures)
    (mark_does ahead service p n c.requires.kind cs c.in_ok-changes.ensures) c.in-Err.ensures
