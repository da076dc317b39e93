use Rattle.std.proofs.Common.{◌≡◌, sym, subst, ◌∙◌, Less}
use Rattle.std.proofs.lemmas.Option.{IfSome_then}
use Rattle.base.specs.Order.{entity_cmp}
use Rattle.keep.specs.declared.change.LetterPlace.{LetterPlace}
use Rattle.relay.proofs.Passing.{clear_before}
use Rattle.relay.proofs.news.clear_place.Goals as goal

pub returns-in-Less : goal.returns-in-Less
returns-in-Less g c = IfSome_then c.copy_place.result c.copy_place.ensures (λ p is.
    clear_before c.args.news.now c.args.behind.now p c.in-Some.entity.now c.in-Some.ensures
    (subst (λ (x : LetterPlace). entity_cmp x.pair.from c.in-Some.entity.now ≡ Less) (sym is)
    (sym c.cmp.ensures ∙ c.in-Less.is)))

pub returns-in_default : goal.returns-in_default
returns-in_default g c = IfSome_then c.place_before.result c.place_before.ensures (λ p less.
    clear_before c.args.news.now c.args.behind.now p c.in-Some.entity.now c.in-Some.ensures less)
