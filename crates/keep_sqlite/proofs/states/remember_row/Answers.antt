use Rattle.std.proofs.Common.{◌≡◌, Some, rules}
use Rattle.last_states.specs.Known.{known_of}
use Rattle.last_states.proofs.Rows.{Knows-read}
use Rattle.keep_sqlite.proofs.states.remember_row.Goals as goal

pub returns-in-Ok : goal.returns-in-Ok
returns-in-Ok g c = λ rows is.
    let stands : rows c.args.entity.now ≡ Some c.in-Ok.state = search rules in
    Knows-read (known_of c.args.states.now) (known_of c.remember.new.self) rows c.args.entity.now c.in-Ok.state stands
    c.remember.ensures.known
