use Rattle.std.proofs.Common.{◌≡◌, Some, None}
use Rattle.base.specs.declared.entity.Kind.TheVariants as kind
use Rattle.keep_sqlite.specs.Accounts.{accounts as filing}
use Rattle.keep_sqlite.proofs.Holders.{of_entity}
use Rattle.keep_sqlite.proofs.accounts.AccountsFiled.write_state.Goals as goal

pub returns-in-Account-Some-clause-ok : goal.returns-in-Account-Some-clause-ok
returns-in-Account-Some-clause-ok g c clean =
    let of_kind : c.args.entity.now.kind ≡ kind.Account = cc in
    let is : Some c.in-Account-Some.account ≡ c.args.row.now = cc in
    of_entity filing kind.Account _ c.args.entity.now _ c.args.row.now c.set_account.result _ _ of_kind
    c.key.ensures.key is (c.set_account.ensures.ok clean)

pub returns-in-Account-None-clause-ok : goal.returns-in-Account-None-clause-ok
returns-in-Account-None-clause-ok g c clean =
    let of_kind : c.args.entity.now.kind ≡ kind.Account = cc in
    let is : None ≡ c.args.row.now = cc in
    of_entity filing kind.Account _ c.args.entity.now _ c.args.row.now c.remove_account.result _ _ of_kind
    c.key-in-Account-None.ensures.key is (c.remove_account.ensures.ok clean)
