use Rattle.sql_bodies.specs.FirstVersion.{first_order_body, first_order_data}
use Rattle.sql_bodies.proofs.FirstVersion.{first_is_plain, first_text}
use Rattle.sql_bodies.proofs.Written.{written_as}
use Rattle.sql_bodies.proofs.first_version.first_order_text.Goals as goal

pub returns : goal.returns
returns c =
    let value = c.in_ok-first_order_value in
    written_as first_order_body first_order_data c.args.command.now _ value.ensures (first_is_plain c.args.command.now)
    (first_text c.args.command.now) c.to_string.result c.to_string.ensures.text
