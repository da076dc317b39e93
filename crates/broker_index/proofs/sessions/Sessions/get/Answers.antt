use Rattle.std.proofs.Common.{sym, ap, ◌∙◌}
use Rattle.broker_index.specs.Index.{places_at}
use Rattle.broker_index.proofs.Numbered.{items_of, list_in, lookup-listed}
use Rattle.broker_index.proofs.sessions.Sessions.get.Goals as goal

pub returns-in-Some : goal.returns-in-Some
returns-in-Some c =
    c.as_slice.ensures.value ∙ ap (list_in items_of) c.in-Some.ensures.value
    ∙ sym (lookup-listed items_of c.args.session c.self.inside.places.entries)
    ∙ ap (λ ss. places_at ss c.args.session) c.self.view_is

pub returns-in-None : goal.returns-in-None
returns-in-None c =
    ap (list_in items_of) c.in-None.ensures.value
    ∙ sym (lookup-listed items_of c.args.session c.self.inside.places.entries)
    ∙ ap (λ ss. places_at ss c.args.session) c.self.view_is
