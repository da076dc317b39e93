use Rattle.std.proofs.Common.{eqb, is_some, sym, ap, ◌∙◌}
use Rattle.std.specs.Map.{lookup}
use Rattle.broker_index.proofs.Numbered.{items_of, is_some-listed, none_from}
use Rattle.broker_index.proofs.sessions.Sessions.push.Goals as goal

pub push_more-requires : goal.push_more-requires
push_more-requires c =
    ap (λ ss. is_some (lookup (λ s. eqb c.args.session s) ss)) (sym c.self.view_is)
    ∙ is_some-listed items_of c.args.session c.self.inside.places.entries ∙ sym c.contains_key.ensures
    ∙ c.if-contains_key.true

pub push_first-requires : goal.push_first-requires
push_first-requires c =
    none_from _
    (ap (λ ss. is_some (lookup (λ s. eqb c.args.session s) ss)) (sym c.self.view_is)
    ∙ is_some-listed items_of c.args.session c.self.inside.places.entries ∙ sym c.contains_key.ensures
    ∙ c.if-contains_key.false)
