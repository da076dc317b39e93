use Rattle.std.proofs.Common.{◌≡◌, [], ◌∷◌, None, filter, IfOk, subst, refl, IsTrue}
use Rattle.sqlite.specs.Effect.{Database}
use Rattle.sqlite.specs.Held.{state}
use Rattle.sqlite.specs.State.{HasCleanDisk}
use Rattle.sqlite_catalog.specs.Listing.{IsSound}
use Rattle.sqlite_value.specs.Order.{column}
use Rattle.sql_rows.specs.Tables.{AreInOrder, by_pair, by_text, has_key, text_key}
use Rattle.keep_sqlite.specs.Accounts.{account_rows, account_from}
use Rattle.keep_sqlite.proofs.Clean.{clean_before}
use Rattle.keep_sqlite.proofs.Holders.{show_line, state_shown}
use Rattle.keep_sqlite.proofs.AccountsHeld.{accounts_held}
use Rattle.keep_sqlite.proofs.accounts.find_account.Goals as goal

pub returns-clause-found : goal.returns-clause-found
returns-clause-found g c clean =
    let old = state g.S.Store c.args.conn.now in
    let mid = state g.S.Store c.read_account.new.conn in
    let key = c.args.key.now in
    let db = old.now.trees in
    let between : HasCleanDisk mid = clean_before _ _ c.read_account_lines.ensures.clean clean in
    let early : HasCleanDisk old = clean_before _ _ c.read_account.ensures.clean between in
    let ready = c.requires.ready early in
    let live : IsTrue mid.is_open = c.in_ok-heads.ensures.open between in
    let same = (c.read_account.ensures.stays between).now_is live in
    let lines = subst
    (λ (d : Database). AreInOrder by_pair None show_line (filter (has_key (text_key key)) (d.trees 11))
    c.in_ok-rows.rows.items)
    same (c.in_ok-rows.ensures.rows clean) in
    let unique = accounts_held.one_head db
    (subst (λ s. IsSound s db) ready.filed.is (c.schema.ensures.live ready.is_open).0) ready.filed.rising key in
    let told = state_shown account_rows (account_from 0) (λ x. column x 2 ∷ column x 3 ∷ column x 4 ∷ [])
    (λ r ls. refl) key (db 9) (db 11) unique by_text by_pair _ _ (c.in_ok-heads.ensures.rows between) lines in
    subst (λ state. IfOk c.account_in.result (λ found. found ≡ state)) told
    (rw (c.as_slice.ensures.value, c.as_slice-2.ensures.value) at c.account_in.ensures)
