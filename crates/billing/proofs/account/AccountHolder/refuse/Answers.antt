use Rattle.std.proofs.Common.{◌≡◌, None, sym, subst}
use Rattle.trade.specs.Accounts.{AccountState}
use Rattle.trade.specs.Lines.{line_of}
use Rattle.trade.proofs.Sound.{accounts_keep}
use Rattle.billing.specs.Parts.AccountView.{account_in}
use Rattle.billing.proofs.account.AccountHolder.refuse.Goals as goal

pub invariant_of-self-2 : goal.invariant_of-self-2
invariant_of-self-2 c =
    let none : line_of c.args.order c.self.inside.lines ≡ None =
    subst (λ (x : AccountState). line_of c.args.order x.lines ≡ None) (sym c.self.view_is) c.requires.new
    in
    rw c.in_ok-insert.ensures.ok
    (accounts_keep.refuses (account_in c.self.inside) c.args.order c.args.number c.requires.order none c.self.invariant)
