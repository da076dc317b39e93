-- Examples: slots and what stands in them, the marks of a pair, letters in order, and the pairs whose next letter is
-- held.
use Rattle.std.proofs.Common.{◌≡◌, ℕ, ◌+◌, List, [], ◌∷◌, Bool, true, false, cond, refl, sym, ap, ◌∙◌, arith}
use Rattle.std.specs.Prelude.{codes, Option, Some, None, is_some}
use Rattle.std.specs.Option.{unwrap_or}
use Rattle.std.specs.Ordering.{is_eq}
use Rattle.std.specs.Map.{lookup}
use Rattle.std.specs.BTreeMap.{BTreeMap}
use Rattle.std.specs.declared.ops.Bound.TheVariants.{Excluded, Unbounded}
use Rattle.base.specs.Entity.{Entity, order_of, stock_of}
use Rattle.base.specs.Order.{entity_cmp, pair_cmp, same_entity, same_pair}
use Rattle.base.specs.declared.pair.Pair.{Pair}
use Rattle.activities.specs.declared.input.JournalRow.{JournalRow}
use Rattle.envelope.specs.declared.message.Message.{Message}
use Rattle.envelope.specs.declared.message.Message.TheVariants.{Request, Confirm}
use Rattle.keep.specs.declared.change.LetterPlace.{LetterPlace}
use Rattle.keep.specs.declared.change.Change.TheVariants.{Journal, Handled}
use Rattle.keep.specs.Places.{place_cmp}
use Rattle.keep.specs.Tables.{Messages, set_message}
use Rattle.keep_plain.specs.Index.{IsIndexed}
use Rattle.keep_plain.specs.Slots.{filled, SameAt}
use Rattle.keep_plain.specs.Listed.{start_after, letter_in, letters_at, first_key}
use Rattle.keep_plain.specs.Maps.{mark_of, with_mark, tables_in}
use Rattle.keep_plain.specs.Memory.{in_memory}
use Rattle.keep_plain.specs.Ready.{IsReady}
use Rattle.keep_plain.specs.Upto.{EmptiesFrom}
use Rattle.keep_plain.specs.declared.maps.Maps.{Maps}
use Rattle.keep_plain.specs.declared.marks.Marks.{Marks}
use Rattle.keep_plain.specs.declared.marks.Mark.TheVariants as mark

abbrev o1 : Entity
o1 = order_of (codes "o1")

abbrev o2 : Entity
o2 = order_of (codes "o2")

abbrev bolts : Entity
bolts = stock_of (codes "bolts")

abbrev there : Pair
there = record { from = o1; to = bolts }

abbrev back : Pair
back = record { from = bolts; to = o1 }

abbrev place : Pair → ℕ → LetterPlace
place p n = record { pair = p; number = n }

-- ---- slots

-- an empty slot is as none
slots_are_filled : (filled {V = ℕ} None ≡ None) × (filled {V = ℕ} (Some None) ≡ None)
    × (filled {V = ℕ} (Some (Some 8)) ≡ Some 8)
slots_are_filled = (refl, refl, refl)

-- what rows have at an entity
abbrev row_in : List (Entity × Option ℕ) → Entity → Option ℕ
row_in es x = filled (lookup (λ y. is_eq (entity_cmp x y)) es)

-- of two slots the filled one is a row
rows_stand : (m : Maps ℕ ℕ) → m.rows.entries ≡ (o1, Some 8) ∷ (o2, None) ∷ [] → ((tables_in m).entity o1 ≡ Some 8)
    × ((tables_in m).entity o2 ≡ None) × ((tables_in m).entity bolts ≡ None)
rows_stand m e = (ap (λ es. row_in es o1) e, ap (λ es. row_in es o2) e, ap (λ es. row_in es bolts) e)

abbrev some_row : Option ℕ
some_row = Some 8

hidden : (b : Bool) → filled {V = ℕ} (cond b (Some None) None) ≡ None
hidden true = refl
hidden false = refl

-- an empty slot more changes no row; a filled one does
a_slot_changes_nothing : (old new : BTreeMap Entity (Option ℕ)) → old.entries ≡ [] → new.entries ≡ (o1, None) ∷ []
    → SameAt entity_cmp old new
a_slot_changes_nothing old new e f =
    λ q. ap (λ es. row_in es q) f ∙ hidden (is_eq (entity_cmp q o1)) ∙ sym (ap (λ es. row_in es q) e)

a_row_changes : (old new : BTreeMap Entity (Option ℕ)) → old.entries ≡ [] → new.entries ≡ (o1, Some 8) ∷ []
    → SameAt entity_cmp old new → ⊥
a_row_changes old new e f h =
    let z : some_row ≡ None = sym (ap (λ es. row_in es o1) f) ∙ h o1 ∙ ap (λ es. row_in es o1) e in cc

-- without slots a row of the journal may be added, and no mark be set
slots_are_needed : (m : Maps ℕ ℕ) (row : JournalRow ℕ) → m.arrivals.handled.entries ≡ [] → IsReady m (Journal 1 row)
    × (IsReady m (Handled there 1) → ⊥)
slots_are_needed m row e = (
  tt,
  λ h. let z : false ≡ true = sym (ap (λ es. is_some (lookup (λ y. is_eq (pair_cmp there y)) es)) e) ∙ h.0 in
      cc,
)

-- nothing fails in memory, and what is seen is what stands there
memory_never_fails : (m : Maps ℕ ℕ) → ((in_memory m).usable ≡ true) × ((in_memory m).doubt ≡ 0)
    × ((in_memory m).failures ≡ 0)
    × ((in_memory m).tables ≡ tables_in m)
memory_never_fails m = (refl, refl, refl, refl)

-- ---- marks

abbrev sent_two : Marks
sent_two = record { sent = 2; settled = 1 }

marks_are_set : (mark_of mark.Sent sent_two ≡ 2) × (mark_of mark.Settled sent_two ≡ 1)
    × (with_mark mark.Settled 2 sent_two ≡ record { sent = 2; settled = 2 })
marks_are_set = (refl, refl, refl)

-- ---- letters

abbrev slots : List (LetterPlace × Option Message)
slots = (place there 1, Some (Request 3)) ∷ (place there 2, None) ∷ (place there 3, Some Confirm) ∷ []

-- of three slots one is empty
letters_are_read : letters_at slots ≡ record { pair = there; number = 1; message = Request 3 }
    ∷ record { pair = there; number = 3; message = Confirm } ∷ []
letters_are_read = refl

a_letter_is_read : (letter_in (place there 1) None ≡ [])
    × (letter_in (place there 1) (Some Confirm) ≡ record { pair = there; number = 1; message = Confirm } ∷ [])
a_letter_is_read = (refl, refl)

-- a listing begins behind its place, or at the first of all
listings_start : (start_after (Some (place there 1)) ≡ Excluded (place there 1)) × (start_after None ≡ Unbounded)
listings_start = (refl, refl)

-- the first filled slot, behind an empty one; there may be none
abbrev pairs : List (Pair × Option (Unit {0}))
pairs = (there, None) ∷ (back, Some tt) ∷ []

the_first_is_found : (first_key pairs ≡ Some back) × (first_key slots ≡ Some (place there 1))
    × (first_key {V = ℕ} ((there, None) ∷ []) ≡ None)
the_first_is_found = (refl, refl, refl)

abbrev stands : {V : Type 0} → List (Pair × Option V) → Pair → Option V
stands es p = filled (lookup (λ y. is_eq (pair_cmp p y)) es)

-- where none was handled the first letter is next, so its pair is missed
indexes_are_whole : (handled : BTreeMap Pair (Option ℕ)) (held : BTreeMap LetterPlace (Option Message))
    (drainable : BTreeMap Pair (Option (Unit {0}))) → handled.entries ≡ [] → held.entries ≡ slots
    → drainable.entries ≡ []
    → IsIndexed handled held drainable → ⊥
indexes_are_whole handled held drainable e f g h =
    let z : false ≡ true = sym (ap (λ es. is_some (stands es there)) g) ∙ h there
    ∙ ap (λ es. is_some (filled (lookup (λ y. is_eq (place_cmp (place there
    (unwrap_or (stands handled.entries there) 0 + 1)) y)) es))) f
    ∙ ap (λ es. is_some (filled (lookup (λ y. is_eq (place_cmp (place there (unwrap_or (stands {V = ℕ} es there) 0 + 1))
    y)) slots))) e in
    cc

abbrev both : Messages
both = set_message there 1 (Some (Request 3)) (set_message there 2 (Some Confirm) (λ _ _. None))

-- a settle up to 1 leaves the second letter: with both gone it's none, and with both there
settles_are_exact : (EmptiesFrom there 0 1 both (λ _ _. None) → ⊥) × (EmptiesFrom there 0 1 both both → ⊥)
unfolding same_entity same_pair
settles_are_exact = (
  λ h. let z : None ≡ Some Confirm = h.above 2 (omega arith) in
      cc,
  λ h. let z : Some (Request 3) ≡ None = h.gone 1 (omega arith) (omega arith) in cc,
)
