-- What new rows of the journal tell of the outbox.
use Rattle.std.proofs.Common.{◌≡◌, ◌≢◌, inl, inr, ℕ, List}
use Rattle.std.proofs.Common.{Option, Some, None, Ordering, Less, Equal, Greater, refl, sym, ap, subst, ◌∙◌}
use Rattle.std.specs.Ordering.{ordering_then, nat_cmp}
use Rattle.std.specs.Cmp.{tied_itself}
use Rattle.base.specs.Entity.{Entity}
use Rattle.base.specs.Order.{entity_cmp, entity_cmp-total}
use Rattle.base.specs.declared.pair.Pair.{Pair}
use Rattle.activities.specs.declared.input.JournalRow.{JournalRow}
use Rattle.keep.specs.declared.change.LetterPlace.{LetterPlace}
use Rattle.keep.specs.Listing.{IsAfter}
use Rattle.keep.specs.Places.{place_cmp, place_cmp-total, IsBefore}
use Rattle.keep.specs.Tables.{Messages}
use Rattle.keep.proofs.Places.{never_self, never_both, place_cmp-Equal}
use Rattle.relay.specs.Knowing.{IsUpto}
use Rattle.relay.specs.Parts.News.{SentBut, IsFrom, IsFirstFrom, IsClear, Skips}

-- ---- senders and places

sender_less : (x y : LetterPlace) → entity_cmp x.pair.from y.pair.from ≡ Less → IsBefore x y
sender_less x y h =
    ap (λ o. ordering_then (ordering_then o (entity_cmp x.pair.to y.pair.to)) (nat_cmp x.number y.number)) h

sender_greater : (x y : LetterPlace) → entity_cmp x.pair.from y.pair.from ≡ Greater → place_cmp x y ≡ Greater
sender_greater x y h =
    ap (λ o. ordering_then (ordering_then o (entity_cmp x.pair.to y.pair.to)) (nat_cmp x.number y.number)) h

less_greater : Less ≡ Greater → ⊥
less_greater e = absurd cc

equal_greater : Equal ≡ Greater → ⊥
equal_greater e = absurd cc

never_self_entity : (f : Entity) → entity_cmp f f ≢ Greater
never_self_entity f e = equal_greater (sym (tied_itself entity_cmp-total f) ∙ e)

after_from : (behind : Option LetterPlace) (x : LetterPlace) → IsAfter behind x → IsFrom behind x.pair.from
after_from None x h = tt
after_from (Some a) x h = λ less. never_both a x h (sender_less x a less)

upto_from : (place x : LetterPlace) → IsUpto (Some place) x → entity_cmp x.pair.from place.pair.from ≢ Greater
upto_from place x (inl before) = λ e. less_greater (sym before ∙ sender_greater x place e)
upto_from place x (inr same) = λ e. never_self_entity place.pair.from
    (ap (λ (y : LetterPlace). entity_cmp y.pair.from place.pair.from) (sym same) ∙ e)

upto_upto : (place reach x : LetterPlace) → place_cmp place reach ≢ Greater → IsUpto (Some place) x → IsUpto (Some reach) x
upto_upto place reach x near up = by (place_cmp place reach) refl
  where
    by : (o : Ordering) → place_cmp place reach ≡ o → IsUpto (Some reach) x
    by Greater e = absurd (near e)
    by Equal e = subst (λ (y : LetterPlace). IsUpto (Some y) x) (place_cmp-Equal place reach e) up
    by Less e = elim up [
      | inl before ↦ inl (place_cmp-total.trans x place reach before e)
      | inr same ↦ inl (subst (λ (y : LetterPlace). IsBefore y reach) (sym same) e)
    ]

-- the cursor passes over what no new row's entity sent
pub passes : {C : Type 0} (news : List (JournalRow C)) (m : Pair → ℕ) (messages : Messages) (behind : Option LetterPlace)
    (place reach : LetterPlace)
    → SentBut news m messages (Some reach) → IsClear news behind place → place_cmp place reach ≢ Greater
    → ((x : LetterPlace) → IsAfter (Some place) x → IsAfter behind x) → Skips m messages behind (Some place)
passes news m messages behind place reach sent clear near ahead = (
  ahead,
  λ x late up some. sent x (upto_upto place reach x near up) (clear x.pair.from (after_from behind x late)
      (upto_from place x up)) some,
)

-- it stays
pub stays_put : (m : Pair → ℕ) (messages : Messages) (behind : Option LetterPlace) → Skips m messages behind behind
stays_put m messages None = (λ x h. h, λ x h up some. absurd up)
stays_put m messages (Some a) = (λ x h. h, λ x h up some. absurd (both a x h up))
  where
    both : (a x : LetterPlace) → IsBefore a x → IsUpto (Some a) x → ⊥
    both a x h (inl before) = never_both a x h before
    both a x h (inr same) = never_self a (subst (λ (y : LetterPlace). IsBefore a y) same h)

-- ---- the first entity

upto_less : (f p e : Entity) → entity_cmp f p ≢ Greater → entity_cmp p e ≡ Less → entity_cmp f e ≡ Less
upto_less f p e near less = by (entity_cmp f p) refl
  where
    by : (o : Ordering) → entity_cmp f p ≡ o → entity_cmp f e ≡ Less
    by Greater h = absurd (near h)
    by Equal h = entity_cmp-total.congr f p e h ∙ less
    by Less h = entity_cmp-total.trans f p e h less

pub clear_none : {C : Type 0} (news : List (JournalRow C)) (behind : Option LetterPlace) (place : LetterPlace)
    → IsFirstFrom news behind None
    → IsClear news behind place
clear_none news behind place none = λ f from near. none f from

-- a place before the first entity of the news is clear of what they sent
pub clear_before : {C : Type 0} (news : List (JournalRow C)) (behind : Option LetterPlace) (place : LetterPlace) (e : Entity)
    → IsFirstFrom news behind (Some e) → entity_cmp place.pair.from e ≡ Less → IsClear news behind place
clear_before news behind place e first less = λ f from near. first f from (upto_less f place.pair.from e near less)
