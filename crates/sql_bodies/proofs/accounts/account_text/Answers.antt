use Rattle.sql_bodies.specs.Bodies.{account_body, account_data}
use Rattle.sql_bodies.specs.Reading.{read_account_command}
use Rattle.sql_bodies.proofs.Written.{written_as, reads_as, account_is_plain, account_text, account_reads_back}
use Rattle.sql_bodies.proofs.accounts.account_text.Goals as goal

pub returns-clause-text : goal.returns-clause-text
returns-clause-text c =
    let value = c.in_ok-account_value in
    written_as account_body account_data c.args.command.now _ value.ensures.value (account_is_plain c.args.command.now)
    (account_text c.args.command.now) c.to_string.result c.to_string.ensures.text

pub returns-clause-reads : goal.returns-clause-reads
returns-clause-reads c =
    let value = c.in_ok-account_value in
    reads_as account_body read_account_command c.args.command.now
    (account_reads_back c.args.command.now c.account_value.ensures.command)
    c.to_string.result
    (written_as account_body account_data c.args.command.now _ value.ensures.value (account_is_plain c.args.command.now)
    (account_text c.args.command.now) c.to_string.result c.to_string.ensures.text)
