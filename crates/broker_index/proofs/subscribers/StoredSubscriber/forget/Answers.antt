use Rattle.std.proofs.Common.{◌≡◌, refl, rules}
use Rattle.std.proofs.lemmas.Fn.{filter_same}
use Rattle.broker_index.specs.Index.{entries_without}
use Rattle.broker_index.proofs.subscribers.StoredSubscriber.forget.Goals as goal

pub returns : goal.returns
returns c =
    let kept : c.retain.new.self.items ≡ entries_without c.args.number c.self.inside.entries.items = filter_same _ _ _
    (λ x b f' k. search rules) _ _ c.retain.ensures.filtered in
    rw (← c.self.view_is, kept) refl
