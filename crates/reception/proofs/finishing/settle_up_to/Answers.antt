use Rattle.std.proofs.Common.{◌+◌, ap, subst}
use Rattle.stomp_client.specs.Clients.{counting}
use Rattle.reception.specs.Replies.{settling, IsTextOf}
use Rattle.reception.proofs.Spelling.{whole_at, writes_at}
use Rattle.reception.proofs.finishing.settle_up_to.Goals as goal

pub write_transaction-requires-clause-text : goal.write_transaction-requires-clause-text
write_transaction-requires-clause-text c =
    whole_at (settling c.args.message.now (c.transactions-transaction.result + 1) c.args.pair.now c.args.number)
    c.in_ok-text.text.items
    c.deref.result.now c.deref.ensures.value c.in_ok-text.ensures.text

pub returns-clause-ok : goal.returns-clause-ok
returns-clause-ok c =
    let number = c.args.client.now.client.transactions + 1 in
    let text : IsTextOf (settling c.args.message.now number c.args.pair.now c.args.number) c.in_ok-text.text.items =
    subst (λ n. IsTextOf (settling c.args.message.now (n + 1) c.args.pair.now c.args.number) c.in_ok-text.text.items)
    c.transactions-transaction.ensures c.in_ok-text.ensures.text in
    writes_at (settling c.args.message.now number c.args.pair.now c.args.number) c.in_ok-text.text.items c.deref.result.now
    (counting c.args.client.now.client) (counting c.room.new.self.client) c.write_transaction.new.client.client
    c.deref.ensures.value text (ap counting c.room.ensures.same) c.write_transaction.ensures
