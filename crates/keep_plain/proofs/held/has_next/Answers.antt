use Rattle.std.proofs.Common.{◌≡◌, ◌+◌, List, Option, arith, ap, sym, subst, ◌∙◌, false}
use Rattle.std.specs.Prelude.{is_some, IfSome, IsSome}
use Rattle.std.specs.List.{slice_get}
use Rattle.std.specs.Ordering.{is_gt}
use Rattle.std.specs.BTreeMap.{get}
use Rattle.std.specs.BTreeMap.Range.{IsEntryInRange, IsLeBy}
use Rattle.std.specs.declared.ops.Bound.TheVariants.{Excluded, Unbounded}
use Rattle.envelope.specs.declared.message.Message.{Message}
use Rattle.keep.specs.declared.change.LetterPlace.{LetterPlace}
use Rattle.keep.specs.Places.{place_cmp, IsBefore}
use Rattle.keep_plain.specs.Slots.{filled}
use Rattle.keep_plain.proofs.Index.{behind_is, behind_none}
use Rattle.keep_plain.proofs.Upto.{before_same}
use Rattle.keep_plain.proofs.held.has_next.Goals as goal

pub returns-in_default : goal.returns-in_default
returns-in_default c =
    let x = c.args.place.now in
    sym (ap (λ o. is_some (filled o)) ((c.range.ensures.in_range tt).5 c.in_default.ensures.steps.0
    (record { pair = x.pair; number = x.number + 1 }) (before_same x.pair x.number (x.number + 1) (omega arith), tt)))

pub returns-then-is_behind : goal.returns-then-is_behind
returns-then-is_behind c =
    let x = c.args.place.now in
    let m = c.args.held.now in
    let range = c.range.ensures.in_range tt in
    let first = subst (λ (r : List (LetterPlace × Option Message)). IfSome (slice_get r 0)
    (IsEntryInRange place_cmp (Excluded x) Unbounded m))
    c.in-Some.ensures.steps range.1 in
    let least : (q : LetterPlace) → IsBefore x q → IsSome (get place_cmp m q)
    → is_gt (place_cmp c.in-Some.found.now q) ≡ false =
    λ q h some. subst (λ (r : List (LetterPlace × Option Message)). IfSome (slice_get r 0) (λ e. IsLeBy place_cmp e.0 q))
    c.in-Some.ensures.steps (range.2 q (h, tt) some) in
    c.is_some.ensures ∙ ap is_some (sym (behind_is m x c.in-Some.found.now c.in-Some.slot.now first.0.0 first.1 least
    (sym c.is_behind.ensures ∙ c.if-is_behind.true)))

pub returns-else-is_behind : goal.returns-else-is_behind
returns-else-is_behind c =
    let x = c.args.place.now in
    let m = c.args.held.now in
    let range = c.range.ensures.in_range tt in
    let first = subst (λ (r : List (LetterPlace × Option Message)). IfSome (slice_get r 0)
    (IsEntryInRange place_cmp (Excluded x) Unbounded m))
    c.in-Some.ensures.steps range.1 in
    let least : (q : LetterPlace) → IsBefore x q → IsSome (get place_cmp m q)
    → is_gt (place_cmp c.in-Some.found.now q) ≡ false =
    λ q h some. subst (λ (r : List (LetterPlace × Option Message)). IfSome (slice_get r 0) (λ e. IsLeBy place_cmp e.0 q))
    c.in-Some.ensures.steps (range.2 q (h, tt) some) in
    c.if-is_behind.false ∙ ap is_some (sym (behind_none m x c.in-Some.found.now c.in-Some.slot.now first.0.0 first.1
    least
    (sym c.is_behind.ensures ∙ c.if-is_behind.false)))
