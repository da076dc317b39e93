use Rattle.sqlite.specs.Held.{state}
use Rattle.sqlite.specs.State.{HasCleanDisk}
use Rattle.base.specs.declared.entity.Kind.TheVariants as kind
use Rattle.trade.specs.Words.{account_line_word}
use Rattle.keep_sqlite.specs.Accounts.{accounts as filing, account_rows}
use Rattle.keep_sqlite.proofs.Clean.{clean_before}
use Rattle.keep_sqlite.proofs.Holders.{removes}
use Rattle.keep_sqlite.proofs.AccountsHeld.{accounts_held}
use Rattle.keep_sqlite.proofs.accounts.remove_account.Goals as goal

pub returns-clause-ok : goal.returns-clause-ok
returns-clause-ok g c clean =
    let old = state g.S.Store c.args.tx.now.conn.now in
    let mid = state g.S.Store c.take_account_lines.new.tx.conn.now in
    let new = state g.S.Store c.take_account.new.tx.conn.now in
    let between : HasCleanDisk mid = clean_before _ _ c.take_account.ensures.survives.clean clean in
    let early : HasCleanDisk old = clean_before _ _ c.take_account_lines.ensures.survives.clean between in
    removes filing account_rows kind.Account account_line_word accounts_held c.args.key.now c.args.count old mid new
    (c.requires.filed early) (c.requires.sound early) (c.in_ok-take_account_lines.ensures.ok between)
    (c.in_ok-take_account.ensures.ok clean)
