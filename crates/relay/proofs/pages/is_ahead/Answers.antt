use Rattle.std.proofs.Common.{sym, subst, ◌∙◌, Option}
use Rattle.keep.specs.declared.change.LetterPlace.{LetterPlace}
use Rattle.keep.specs.Listing.{IsAfter}
use Rattle.keep.specs.Places.{place_cmp-total}
use Rattle.relay.proofs.pages.is_ahead.Goals as goal

pub returns-in-Less : goal.returns-in-Less
returns-in-Less c = λ e x later. subst (λ (b : Option LetterPlace). IsAfter b x) (sym c.in-Some.is)
    (place_cmp-total.trans c.in-Some.here c.args.place.now x (sym c.cmp.ensures ∙ c.in-Less.is) later)
