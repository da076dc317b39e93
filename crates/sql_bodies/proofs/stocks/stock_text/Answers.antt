use Rattle.sql_bodies.specs.Bodies.{stock_body, stock_data}
use Rattle.sql_bodies.specs.Reading.{read_stock_command}
use Rattle.sql_bodies.proofs.Written.{written_as, reads_as, stock_is_plain, stock_text, stock_reads_back}
use Rattle.sql_bodies.proofs.stocks.stock_text.Goals as goal

pub returns-clause-text : goal.returns-clause-text
returns-clause-text c =
    let value = c.in_ok-stock_value in
    written_as stock_body stock_data c.args.command.now _ value.ensures.value (stock_is_plain c.args.command.now)
    (stock_text c.args.command.now) c.to_string.result c.to_string.ensures.text

pub returns-clause-reads : goal.returns-clause-reads
returns-clause-reads c =
    let value = c.in_ok-stock_value in
    reads_as stock_body read_stock_command c.args.command.now
    (stock_reads_back c.args.command.now c.stock_value.ensures.command)
    c.to_string.result
    (written_as stock_body stock_data c.args.command.now _ value.ensures.value (stock_is_plain c.args.command.now)
    (stock_text c.args.command.now) c.to_string.result c.to_string.ensures.text)
