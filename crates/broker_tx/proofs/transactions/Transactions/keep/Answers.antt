use Rattle.std.proofs.Common.{sym, ◌∙◌}
use Rattle.broker_tx.proofs.Places.{nowhere, somewhere, set_at, on_ok}
use Rattle.broker_tx.specs.Transactions.{is_transaction, with_action}
use Rattle.broker_tx.proofs.transactions.Transactions.keep.Goals as goal

pub returns-in-Some-clause-ok : goal.returns-in-Some-clause-ok
returns-in-Some-clause-ok c =
    let first =
    somewhere (is_transaction c.args.name.now) c.args.self.now c.in-Some.at (sym c.place.ensures ∙ c.in-Some.is) in
    on_ok c.keep_at.result c.keep_at.ensures.ok (λ w.
    (set_at (is_transaction c.args.name.now) c.args.self.now _ _ c.in-Some.at w.0 (with_action c.args.action) first
    c.self.view_is w.1
    w.2).0)

pub returns-in-None-clause-ok : goal.returns-in-None-clause-ok
returns-in-None-clause-ok c =
    sym ((nowhere (is_transaction c.args.name.now) c.args.self.now (sym c.place.ensures ∙ c.in-None.is)).stays
    (with_action c.args.action))
