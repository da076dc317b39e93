use Rattle.sql_bodies.specs.Bodies.{order_body, order_data}
use Rattle.sql_bodies.specs.Reading.{read_order_command}
use Rattle.sql_bodies.proofs.Written.{written_as, reads_as, order_is_plain, order_text, order_reads_back}
use Rattle.sql_bodies.proofs.orders.order_text.Goals as goal

pub returns-clause-text : goal.returns-clause-text
returns-clause-text c =
    let value = c.in_ok-order_value in
    written_as order_body order_data c.args.command.now _ value.ensures.value (order_is_plain c.args.command.now)
    (order_text c.args.command.now) c.to_string.result c.to_string.ensures.text

pub returns-clause-reads : goal.returns-clause-reads
returns-clause-reads c =
    let value = c.in_ok-order_value in
    reads_as order_body read_order_command c.args.command.now
    (order_reads_back c.args.command.now value.ensures.command)
    c.to_string.result
    (written_as order_body order_data c.args.command.now _ value.ensures.value (order_is_plain c.args.command.now)
    (order_text c.args.command.now) c.to_string.result c.to_string.ensures.text)
