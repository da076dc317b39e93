-- What stands in the rows of lines, and which lines they tell where the row of an order is set.
use Rattle.std.proofs.Common.{◌≡◌, inl, inr, ℕ, List, [], ◌∷◌, ◌++◌, drop, Bool, true, false, ◌&&◌, filter, refl, sym}
use Rattle.std.proofs.Common.{ap, ap₂, subst, ◌∙◌, Option, Some, None, true≢false}
use Rattle.std.specs.Prelude.{not, if◌then◌else◌, bytes_eq}
use Rattle.std.specs.Option.{option_map, option_and_then}
use Rattle.std.specs.Ordering.{is_eq}
use Rattle.std.proofs.lemmas.List.Sorted.{IsPermutation-filter_both}
use Rattle.std.proofs.lemmas.Map.Text.{is_eq-slice_cmp}
use Rattle.std.proofs.lemmas.Option.{same_Some}
use Rattle.std.proofs.lemmas.Slice.Eq.{bytes_eq-Decides}
use Rattle.sqlite.specs.declared.types.Value.{Value}
use Rattle.sqlite.specs.declared.types.Value.TheVariants.{Text}
use Rattle.sqlite_value.specs.Order.{Row, column, bytes, value_cmp}
use Rattle.sqlite_value.proofs.OrderLemmas.{value_cmp-Text}
use Rattle.sqlite_trees.specs.Tree.{Trees, IsTable}
use Rattle.sqlite_keyed.proofs.ListLemmas.{ascending-filter}
use Rattle.sqlite_schema.specs.declared.schema.Column.{Column}
use Rattle.sqlite_schema.specs.declared.schema.Constraint.TheVariants.{Datatype, NotNull}
use Rattle.sqlite_schema.specs.declared.schema.Schema.{Schema}
use Rattle.sqlite_schema.specs.declared.schema.Table.{Table}
use Rattle.sqlite_schema.specs.Rules.{are_typed, are_present}
use Rattle.sqlite_catalog.specs.Listing.{IsSound}
use Rattle.sqlite_rules.specs.Lists.{Has}
use Rattle.sqlite_rules.proofs.ListLemmas.{has_filtered, has_kept}
use Rattle.sqlite_rules.proofs.RuleLemmas.{keeps_at}
use Rattle.base.specs.Entity.{Entity, is_key, order_of}
use Rattle.base.specs.Order.{same_entity}
use Rattle.base.specs.declared.entity.Kind.TheVariants.{Order}
use Rattle.base.proofs.Entities.{same_entity-Decides}
use Rattle.envelope.specs.Reading.{as_number}
use Rattle.trade.specs.Following.{without}
use Rattle.trade.specs.Lines.{Line, with_line}
use Rattle.trade.specs.declared.line_phase.LinePhase.{LinePhase}
use Rattle.trade.proofs.LineLists.{lines_sound-none}
use Rattle.sql_bodies.specs.LineRows.{line_from, lines_with}
use Rattle.sql_bodies.proofs.LineRows.{lines_shuffled, of_order}
use Rattle.sql_rows.specs.Schema.{text}
use Rattle.sql_rows.specs.Tables.{has_key, text_key, pair_key, IsSet}
use Rattle.keep_sqlite.specs.Holders.{line_in, lines_in}
use Rattle.keep_sqlite.specs.Tables.{number_in}
use Rattle.keep_sqlite.proofs.Keys.{and_parts}
use Rattle.keep_sqlite.proofs.Lookup.{not_true}
use Rattle.keep_sqlite.proofs.Marks.{text_of_kind}
use Rattle.keep_sqlite.proofs.Passing.{same_rows}
use Rattle.keep_sqlite.proofs.StepLines.{none_without, rows_without}
use Rattle.keep_sqlite.proofs.Steps.{steps_more}

-- ---- the key of a line's order is a text

abbrev IsText : Value → Type 0
IsText v = (s : List ℕ) × (v ≡ Text s)

second_text : (first second : List ℕ) (more : List Column) (r : Row)
    → are_typed None 0 (text first ∷ text second ∷ more) (drop 1 r) ≡ true
    → are_present None 0 (text first ∷ text second ∷ more) r ≡ true → IsText (column r 2)
second_text first second more [] typed present = absurd (true≢false (sym present))
second_text first second more (id ∷ []) typed present = absurd (true≢false (sym present))
second_text first second more (id ∷ a ∷ []) typed present = absurd (true≢false (sym (and_parts _ _ present).1))
second_text first second more (id ∷ a ∷ b ∷ rest) typed present =
    text_of_kind b (and_parts _ _ (and_parts _ _ typed).1).0 (and_parts _ _ (and_parts _ _ present).1).0

-- of a table whose first two columns are texts
pub order_text : (schema : Schema) (db : Trees) (t : Table) (first second : List ℕ) (more : List Column)
    → t.key ≡ None → t.columns ≡ text first ∷ text second ∷ more → IsSound schema db → Has schema.tables t → (r : Row)
    → Has (db t.tree) r → (s : List ℕ) × (column r 2 ≡ Text s)
order_text schema db t first second more keyless columns sound listed r there =
    let typed = (and_parts _ _ (keeps_at Datatype schema db t r (sound.obeys.rules Datatype) listed there)).0 in
    let present = keeps_at NotNull schema db t r (sound.obeys.rules NotNull) listed there in
    second_text first second more r
    (subst (λ (key : Option ℕ). are_typed key 0 (text first ∷ text second ∷ more) (drop 1 r) ≡ true) keyless
    (subst (λ cs. are_typed t.key 0 cs (drop 1 r) ≡ true) columns typed))
    (subst (λ (key : Option ℕ). are_present key 0 (text first ∷ text second ∷ more) r ≡ true) keyless
    (subst (λ cs. are_present t.key 0 cs r ≡ true) columns present))

-- ---- which rows are those of an order

order_told : (phase : Option LinePhase) (key : List ℕ) (number : ℕ) (l : Line) → line_from phase key number ≡ Some l
    → l.order ≡ order_of key
order_told phase key number l e = by_parts (is_key key) phase (as_number number) e
  where
    by_parts : (t : Bool) (phase : Option LinePhase) (number : Option ℕ)
        → option_and_then (λ k. option_and_then (λ n. option_map
        (λ p. record { order = order_of k; n = n; phase = p }) phase) number) (if t then Some key else None) ≡ Some l
        → l.order ≡ order_of key
    by_parts false phase number e = absurd cc
    by_parts true phase None e = absurd cc
    by_parts true None (Some n) e = absurd cc
    by_parts true (Some p) (Some n) e = ap (λ (line : Line). line.order) (sym (same_Some _ l e))

same_tests : (a b : Bool) → (a ≡ true → b ≡ true) → (b ≡ true → a ≡ true) → a ≡ b
same_tests true b f g = sym (f refl)
same_tests false b f g = sym (not_true b (λ e. true≢false (sym (g e))))

and_true : (b : Bool) → (b && true) ≡ b
and_true true = refl
and_true false = refl

tells_order : (phase_in : List ℕ → Option LinePhase) (key : List ℕ) (o : Entity) (r : Row) (l : Line) → o.kind ≡ Order
    → has_key (text_key key) r ≡ true → (s : List ℕ) → column r 2 ≡ Text s → line_in phase_in r ≡ Some l
    → same_entity o l.order ≡ has_key (pair_key key o.key) r
tells_order phase_in key o r l kind of_key s is told =
    let order : l.order ≡ order_of s =
    order_told (phase_in (bytes (column r 4))) (bytes (column r 2)) (number_in (column r 3)) l told
    ∙ ap (λ (v : Value). order_of (bytes v)) is in
    let first : is_eq (value_cmp (column r 1) (Text key)) ≡ true = (and_parts _ _ of_key).0 in
    let second : is_eq (value_cmp (column r 2) (Text o.key)) ≡ bytes_eq s o.key =
    ap (λ (v : Value). is_eq (value_cmp v (Text o.key))) is ∙ ap is_eq (value_cmp-Text s o.key) ∙ is_eq-slice_cmp s o.key in
    let here : has_key (pair_key key o.key) r ≡ bytes_eq s o.key = rw (first, second) (and_true _) in
    same_tests (same_entity o l.order) (bytes_eq s o.key)
    (λ t. (bytes_eq-Decides s o.key).1 (sym (ap (λ (e : Entity). e.key) ((same_entity-Decides o l.order).0 t ∙ order))))
    (λ t.
    let key_is = (bytes_eq-Decides s o.key).0 t in
    let whole : o ≡ order_of s = λ i. record { kind = kind i; key = sym key_is i } in
    (same_entity-Decides o l.order).1 (whole ∙ sym order))
    ∙ sym here

pub of_pair : (s r : List ℕ) (x : Row) → has_key (pair_key s r) x ≡ true → has_key (text_key s) x ≡ true
of_pair s r x is =
    let first : is_eq (value_cmp (column x 1) (Text s)) ≡ true = (and_parts _ _ is).0 in
    rw first refl

-- ---- one row is set

not_not : (b : Bool) → b ≡ not (not b)
not_not true = refl
not_not false = refl

fails : (b : Bool) → not b ≡ true → b ≡ false
fails true h = absurd (true≢false (sym h))
fails false h = refl

passes : (b : Bool) → b ≡ false → not b ≡ true
passes true h = absurd (true≢false h)
passes false h = refl

module _ (p c : Row → Bool) (new : Row) (rows after : List Row) (before : IsTable rows) (now : IsTable after)
    (set : IsSet c new rows after) where
  abbrev others : List Row → List Row
  others rows = filter (λ r. not (c r)) (filter p rows)

  rising : (q : Row → Bool) (rows : List Row) → IsTable rows → IsTable (filter q (filter p rows))
  rising q rows up = ascending-filter _ q (filter p rows) (ascending-filter _ p rows up)

  -- what passes and isn't replaced is what passed
  others_stay : others after ≡ others rows
  others_stay = same_rows (others after) (others rows) (rising _ after now) (rising _ rows before)
      (λ r h.
      let a = has_filtered (λ q. not (c q)) (filter p after) r h in
      let b = has_filtered p after r a.0 in
      elim (set.each r b.0) [
        | inl same ↦ absurd (true≢false (sym set.passes ∙ ap c (sym same) ∙ fails (c r) a.1))
        | inr was ↦ has_kept _ (filter p rows) r (has_kept p rows r was.0 b.1) a.1
      ])
      (λ r h.
      let a = has_filtered (λ q. not (c q)) (filter p rows) r h in
      let b = has_filtered p rows r a.0 in
      has_kept _ (filter p after) r (has_kept p after r (set.kept r b.0 (fails (c r) a.1)) b.1) a.1)

  -- and the new row is the only one in the place of the others
  one_stands : p new ≡ true → filter c (filter p after) ≡ new ∷ []
  one_stands pass = same_rows (filter c (filter p after)) (new ∷ []) (rising c after now) (tt, tt)
      (λ r h.
      let a = has_filtered c (filter p after) r h in
      let b = has_filtered p after r a.0 in
      elim (set.each r b.0) [ inl same ↦ inl same | inr was ↦ absurd (true≢false (sym a.1 ∙ was.1)) ])
      (λ r h. elim h [
        | inl same ↦ subst (Has (filter c (filter p after))) (sym same)
            (has_kept c (filter p after) new (has_kept p after new set.here pass) set.passes)
        | inr none ↦ absurd none
      ])

-- where the row of an order is set, the lines of its key are those before, with this one in place of the order's
pub lines_put : (phase_in : List ℕ → Option LinePhase) (key : List ℕ) (l : Line) (new : Row) (rows after : List Row)
    → IsTable rows → IsTable after → ((r : Row) → Has rows r → (s : List ℕ) × (column r 2 ≡ Text s))
    → IsSet (has_key (pair_key key l.order.key)) new rows after → line_in phase_in new ≡ Some l → l.order.kind ≡ Order
    → (ls : List Line) → lines_in (line_in phase_in) (filter (has_key (text_key key)) rows) ≡ Some ls
    → lines_in (line_in phase_in) (filter (has_key (text_key key)) after) ≡ Some (with_line l (without l.order ls))
lines_put phase_in key l new rows after before now texts set new_told kind ls told =
    let p = has_key (text_key key) in
    let c = has_key (pair_key key l.order.key) in
    let n = λ (r : Row). not (c r) in
    let step = λ (r : Row) (some : List Line). lines_with (line_in phase_in r) some in
    let orders = λ (r : Row) (k : Line) (e : line_in phase_in r ≡ Some k). of_order (phase_in (bytes (column r 4)))
    (bytes (column r 2)) (number_in (column r 3)) k e in
    let left = rows_without (line_in phase_in) orders l.order c (filter p rows)
    (λ r k h e.
    let a = has_filtered p rows r h in
    let t = texts r a.0 in
    tells_order phase_in key l.order r k kind a.1 t.0 t.1 e) [] ls lines_sound-none told in
    let last : step new (without l.order ls) ≡ Some (with_line l (without l.order ls)) =
    ap (λ (x : Option Line). lines_with x (without l.order ls)) new_told ∙ rw (none_without l.order ls) refl in
    sym (lines_shuffled (line_in phase_in) orders (filter p after) _ []
    (IsPermutation-filter_both n c (λ r. not_not (c r)) (filter p after)))
    ∙ ap₂ (λ (xs ys : List Row). lines_in (line_in phase_in) (xs ++ ys)) (others_stay p c new rows after before now set)
    (one_stands p c new rows after before now set (of_pair key l.order.key new set.passes))
    ∙ steps_more step (filter n (filter p rows)) new []
    ∙ ap (option_and_then (step new)) left
    ∙ last
