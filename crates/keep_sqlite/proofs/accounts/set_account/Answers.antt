use Rattle.std.proofs.Common.{refl}
use Rattle.sqlite.specs.Held.{state}
use Rattle.sqlite.specs.State.{HasCleanDisk}
use Rattle.base.specs.declared.entity.Kind.TheVariants as kind
use Rattle.trade.specs.Words.{account_line_word}
use Rattle.keep_sqlite.specs.Accounts.{accounts as filing, account_rows, account_cells}
use Rattle.keep_sqlite.proofs.Clean.{clean_before}
use Rattle.keep_sqlite.proofs.Holders.{sets}
use Rattle.keep_sqlite.proofs.AccountsHeld.{accounts_held}
use Rattle.keep_sqlite.proofs.accounts.set_account.Goals as goal

pub returns-clause-ok : goal.returns-clause-ok
returns-clause-ok g c clean =
    let old = state g.S.Store c.args.tx.now.conn.now in
    let cut = state g.S.Store c.take_account_lines.new.tx.conn.now in
    let head = state g.S.Store c.put_head.new.tx.conn.now in
    let new = state g.S.Store c.add_lines.new.tx.conn.now in
    let late : HasCleanDisk head = clean_before _ _ c.add_lines.ensures.survives.clean clean in
    let between : HasCleanDisk cut = clean_before _ _ c.put_head.ensures.survives.clean late in
    let early : HasCleanDisk old = clean_before _ _ c.take_account_lines.ensures.survives.clean between in
    let x = c.args.account.now in
    let items = rw c.lines.ensures at c.in_ok-lines.ensures.value in
    let lines = rw (c.as_slice.ensures.value, items) at c.in_ok-add_lines.ensures.ok clean in
    let rows = rw (c.as_slice.ensures.value, items) at c.in_ok-add_lines.ensures.rows in
    let sound = rw c.lines.ensures at c.to_vec.ensures.sound in
    sets filing account_rows kind.Account account_line_word accounts_held c.args.key.now
    (account_cells c.args.key.now x)
    x.lines x (λ id. refl) sound rows c.args.count old cut head new (c.requires.filed early) (c.requires.sound early)
    (c.in_ok-take_account_lines.ensures.ok between) (c.in_ok-put_head.ensures.ok late) lines
