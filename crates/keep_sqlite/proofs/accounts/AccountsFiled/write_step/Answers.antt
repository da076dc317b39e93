use Rattle.std.proofs.Common.{◌≡◌, ◌∙◌, Some, true, refl, ap, subst}
use Rattle.std.specs.Prelude.{is_some}
use Rattle.sqlite.specs.Held.{state}
use Rattle.base.specs.Entity.{Entity, account_of}
use Rattle.base.specs.declared.entity.Kind.TheVariants as kind
use Rattle.keep_sqlite.specs.Accounts.{accounts as filing}
use Rattle.keep_sqlite.proofs.Holders.{of_entity}
use Rattle.keep_sqlite.proofs.HolderSteps.{is_own}
use Rattle.keep_sqlite.proofs.accounts.AccountsFiled.write_step.Goals as goal

pub step_account-requires-clause-stands : goal.step_account-requires-clause-stands
step_account-requires-clause-stands g c clean =
    let db = (state g.S.Store c.args.tx.now.conn.now).now.trees in
    let of_kind : c.args.entity.now.kind ≡ kind.Account = cc in
    let own : c.args.entity.now ≡ account_of c.key.result.now = is_own _ _ c.args.entity.now of_kind c.key.ensures.key in
    subst (λ (e : Entity). is_some (filing.entity db e) ≡ true) own (c.requires.stands clean)

pub step_account-requires-clause-follows : goal.step_account-requires-clause-follows
step_account-requires-clause-follows g c clean before is =
    let db = (state g.S.Store c.args.tx.now.conn.now).now.trees in
    let of_kind : c.args.entity.now.kind ≡ kind.Account = cc in
    let own : c.args.entity.now ≡ account_of c.key.result.now = is_own _ _ c.args.entity.now of_kind c.key.ensures.key in
    c.requires.follows clean before (ap (filing.entity db) own ∙ is)

pub returns-in-Account-clause-ok : goal.returns-in-Account-clause-ok
returns-in-Account-clause-ok g c clean =
    let of_kind : c.args.entity.now.kind ≡ kind.Account = cc in
    of_entity filing kind.Account _ c.args.entity.now _ (Some c.args.row.now) c.step_account.result _ _ of_kind
    c.key.ensures.key refl (c.step_account.ensures.ok clean)
