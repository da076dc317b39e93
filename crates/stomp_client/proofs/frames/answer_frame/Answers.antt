use Rattle.std.proofs.Common.{◌≡◌, Some, subst, sym, ap, ◌∙◌, codes}
use Rattle.std.specs.Option.{option_copied}
use Rattle.std.specs.List.{AllByRecursion}
use Rattle.stomp_frame.specs.declared.command.Command.{Command}
use Rattle.stomp_frame.specs.Frames.{IsOwn, value_of}
use Rattle.stomp_client.proofs.Headers.{id_unrefused}
use Rattle.stomp_client.proofs.frames.answer_frame.Goals as goal

pub push-requires : goal.push-requires
push-requires c =
    let headers = c.args.message.now.headers in
    let own = subst (λ (d : Command). AllByRecursion (IsOwn d) c.args.message.now.headers) c.requires.message.command
    c.holds.ensures.headers in
    let found : value_of (codes "ack") c.args.message.now.headers ≡ Some c.in-Some.id.now = sym c.get.ensures
    ∙ ap option_copied c.in-Some.is in
    rw c.new-frame.ensures (id_unrefused c.args.command c.in-Some.id.now c.args.message.now.headers c.requires.plain own
    found)
