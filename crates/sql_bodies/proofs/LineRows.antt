-- What is written of lines is read as these, and lines are put together alike from rows in any order.
use Rattle.std.proofs.Common.{◌≡◌, ◌⊎◌, inl, inr, ℕ, List, [], ◌∷◌, ◌++◌, Bool, true, false, Option, Some, None, refl}
use Rattle.std.proofs.Common.{sym}
use Rattle.std.proofs.Common.{ap, ◌∙◌, append_assoc, append-nil}
use Rattle.std.specs.Prelude.{map}
use Rattle.std.specs.Option.{option_map, option_and_then}
use Rattle.std.specs.Cmp.Lexicographic.{slice_cmp}
use Rattle.std.specs.List.{AllByRecursion}
use Rattle.std.specs.List.Sorted.{IsStrictlySortedBy, IsPermutation}
use Rattle.std.specs.Ordering.{nat_cmp, is_lt}
use Rattle.std.specs.declared.cmp.Ordering.{Ordering}
use Rattle.std.specs.declared.cmp.Ordering.TheVariants.{Less, Equal, Greater}
use Rattle.std.proofs.lemmas.Cmp.{nat_list_cmp_total}
use Rattle.std.proofs.lemmas.Option.{same_Some}
use Rattle.base.specs.Entity.{is_key, order_of}
use Rattle.base.specs.Number.{IsNumber}
use Rattle.base.specs.Order.{same_entity, same_entity-ties, entity_cmp}
use Rattle.base.specs.declared.entity.Kind.TheVariants.{Order}
use Rattle.activities.proofs.Sameness.{same_entity-comm, same_entity-tells}
use Rattle.trade.specs.Lines.{Line, line_of, is_before, with_line}
use Rattle.trade.specs.Sound.{AreLinesSound}
use Rattle.trade.specs.Words.{stock_line_word, account_line_word}
use Rattle.trade.specs.declared.line_phase.LinePhase.{LinePhase}
use Rattle.trade.proofs.LineLists.{line_of-with_same, line_of-with_other}
use Rattle.trade.proofs.Placing.{by_keys}
use Rattle.envelope.specs.Reading.{as_number}
use Rattle.sql_bodies.specs.Reading.{as_key}
use Rattle.sql_bodies.specs.LineRows.{line_from, stock_line_row, account_line_row, IsRow, lines_with}
use Rattle.sql_bodies.specs.Steps.{steps}
use Rattle.sql_bodies.specs.Words.{stock_phase_in, account_phase_in}
use Rattle.sql_bodies.proofs.Words.{stock_phase_back, account_phase_back, as_number_is}
use Rattle.sql_bodies.proofs.Steps.{steps_shuffled}

-- the line of an order, if it is of one
line_back : (l : Line) → l.order.kind ≡ Order → is_key l.order.key ≡ true → IsNumber l.n
    → line_from (Some l.phase) l.order.key l.n ≡ Some l
line_back l kind key number = rw (key, as_number_is l.n number, ← kind) refl

pub stock_line_back : (l : Line) → l.order.kind ≡ Order → is_key l.order.key ≡ true → IsNumber l.n
    → line_from (stock_phase_in (stock_line_word l.phase)) l.order.key l.n ≡ Some l
stock_line_back l kind key number =
    ap (λ phase. line_from phase l.order.key l.n) (stock_phase_back l.phase) ∙ line_back l kind key number

pub account_line_back : (l : Line) → l.order.kind ≡ Order → is_key l.order.key ≡ true → IsNumber l.n
    → line_from (account_phase_in (account_line_word l.phase)) l.order.key l.n ≡ Some l
account_line_back l kind key number =
    ap (λ phase. line_from phase l.order.key l.n) (account_phase_back l.phase) ∙ line_back l kind key number

-- ---- lines, one after the other

abbrev IsAfter : Line → Line → Type 0
IsAfter l k = slice_cmp nat_cmp k.order.key l.order.key ≡ Less

abbrev AreOrders : List Line → Type 0
AreOrders ls = AllByRecursion (λ l. l.order.kind ≡ Order) ls

cmp_less : (l k : Line) → l.order.kind ≡ Order → k.order.kind ≡ Order → IsAfter l k → entity_cmp k.order l.order ≡ Less
cmp_less l k a b after = by_keys k.order l.order b a ∙ after

not_before : (l k : Line) → IsAfter l k → is_before l.order k.order ≡ false
unfolding is_before
not_before l k after =
    let back : slice_cmp nat_cmp l.order.key k.order.key ≡ Greater =
    nat_list_cmp_total.antisymm l.order.key k.order.key ∙ rw after refl in
    rw back refl

apart : (l k : Line) → l.order.kind ≡ Order → k.order.kind ≡ Order → IsAfter l k → same_entity l.order k.order ≡ false
apart l k a b after =
    same_entity-comm l.order k.order ∙ same_entity-ties k.order l.order ∙ rw (cmp_less l k a b after) refl

-- a line behind all others is put at the end
put_last : (l : Line) (ls : List Line) → l.order.kind ≡ Order → AreOrders ls → AllByRecursion (IsAfter l) ls
    → with_line l ls ≡ ls ++ l ∷ []
put_last l [] a all after = refl
put_last l (k ∷ ks) a all after = rw (not_before l k after.0) (ap (λ xs. k ∷ xs) (put_last l ks a all.1 after.1))

has_none : (l : Line) (ls : List Line) → l.order.kind ≡ Order → AreOrders ls → AllByRecursion (IsAfter l) ls
    → line_of l.order ls ≡ None
has_none l [] a all after = refl
has_none l (k ∷ ks) a all after = rw (apart l k a all.0 after.0) (has_none l ks a all.1 after.1)

all_and : {A : Type 0} (P : A → Type 0) (xs : List A) (x : A) → AllByRecursion P xs → P x
    → AllByRecursion P (xs ++ x ∷ [])
all_and P [] x all is = (is, tt)
all_and P (y ∷ ys) x all is = (all.0, all_and P ys x all.1 is)

-- what comes after some lines and after one more
after_more : (ls acc : List Line) (l : Line) → AllByRecursion (λ k. AllByRecursion (IsAfter k) acc) ls
    → AllByRecursion (λ k. slice_cmp nat_cmp l.order.key k ≡ Less) (map (λ (k : Line). k.order.key) ls)
    → AllByRecursion (λ k. AllByRecursion (IsAfter k) (acc ++ l ∷ [])) ls
after_more [] acc l after up = tt
after_more (k ∷ ks) acc l after up = (all_and (IsAfter k) acc l after.0 up.0, after_more ks acc l after.1 up.1)

after_none : (ls : List Line) → AllByRecursion (λ k. AllByRecursion (IsAfter k) []) ls
after_none [] = tt
after_none (l ∷ ls) = (tt, after_none ls)

all_put : (ls acc : List Line) → AreOrders ls → AreOrders acc
    → IsStrictlySortedBy (slice_cmp nat_cmp) (map (λ (l : Line). l.order.key) ls)
    → AllByRecursion (λ k. AllByRecursion (IsAfter k) acc) ls
    → steps (λ l. lines_with (Some l)) ls acc ≡ Some (acc ++ ls)
unfolding IsStrictlySortedBy
all_put [] acc all before up after = ap Some (sym (append-nil acc))
all_put (l ∷ ls) acc all before up after = rw (
  has_none l acc all.0 before after.0,
  put_last l acc all.0 before after.0,
) (all_put ls (acc ++ l ∷ []) all.1 (all_and _ acc l before all.0) up.1 (after_more ls acc l after.1 up.0)
    ∙ ap Some (append_assoc acc (l ∷ []) ls))

-- sound lines are put together from themselves
lines_back : (ls : List Line) → AreLinesSound ls → steps (λ l. lines_with (Some l)) ls [] ≡ Some ls
lines_back ls sound = all_put ls [] sound.of_orders tt sound.in_order (after_none ls)

-- and from what is read of each, where each is read as itself
rows_back : (row : Line → Option Line) (ls acc : List Line) → AllByRecursion (λ l. row l ≡ Some l) ls
    → steps (λ l. lines_with (row l)) ls acc ≡ steps (λ l. lines_with (Some l)) ls acc
rows_back row [] acc all = refl
rows_back row (l ∷ ls) acc all = rw all.0 (after (lines_with (Some l) acc) (λ made. rows_back row ls made all.1))
  where
    after : (o : Option (List Line)) → ((made : List Line) → steps (λ l. lines_with (row l)) ls made
        ≡ steps (λ l. lines_with (Some l)) ls made)
        → option_and_then (steps (λ l. lines_with (row l)) ls) o
        ≡ option_and_then (steps (λ l. lines_with (Some l)) ls) o
    after None rest = refl
    after (Some made) rest = rest made

each_stock_line : (ls : List Line) → AreOrders ls → AllByRecursion IsRow ls
    → AllByRecursion (λ l. stock_line_row l ≡ Some l) ls
each_stock_line [] all rows = tt
each_stock_line (l ∷ ls) all rows = (stock_line_back l all.0 rows.0.0 rows.0.1, each_stock_line ls all.1 rows.1)

each_account_line : (ls : List Line) → AreOrders ls → AllByRecursion IsRow ls
    → AllByRecursion (λ l. account_line_row l ≡ Some l) ls
each_account_line [] all rows = tt
each_account_line (l ∷ ls) all rows = (account_line_back l all.0 rows.0.0 rows.0.1, each_account_line ls all.1 rows.1)

-- a stock's lines are read as they were written
pub stock_lines_back : (ls : List Line) → AreLinesSound ls → AllByRecursion IsRow ls
    → steps (λ l. lines_with (stock_line_row l)) ls [] ≡ Some ls
stock_lines_back ls sound rows =
    rows_back stock_line_row ls [] (each_stock_line ls sound.of_orders rows) ∙ lines_back ls sound

-- an account's lines are read as they were written
pub account_lines_back : (ls : List Line) → AreLinesSound ls → AllByRecursion IsRow ls
    → steps (λ l. lines_with (account_line_row l)) ls [] ≡ Some ls
account_lines_back ls sound rows =
    rows_back account_line_row ls [] (each_account_line ls sound.of_orders rows) ∙ lines_back ls sound

-- ---- which of two lines comes first

-- the first one's key comes first
abbrev Precedes : Line → Line → Type 0
Precedes a b = slice_cmp nat_cmp a.order.key b.order.key ≡ Less

before_is : (a b : Line) → Precedes a b → is_before a.order b.order ≡ true
unfolding is_before
before_is a b less = rw less refl

behind_is : (a b : Line) → Precedes a b → is_before b.order a.order ≡ false
unfolding is_before
behind_is a b less =
    let back : slice_cmp nat_cmp b.order.key a.order.key ≡ Greater =
    nat_list_cmp_total.antisymm b.order.key a.order.key ∙ rw less refl in
    rw back refl

-- where the test says so, it does
precedes : (a b : Line) → is_before a.order b.order ≡ true → Precedes a b
unfolding is_before
precedes a b is = by_case (slice_cmp nat_cmp a.order.key b.order.key) refl is
  where
    by_case : (c : Ordering) → slice_cmp nat_cmp a.order.key b.order.key ≡ c → is_lt c ≡ true → Precedes a b
    by_case Less e t = e
    by_case Equal e t = absurd cc
    by_case Greater e t = absurd cc

-- of two orders one comes first
one_precedes : (a b : Line) → a.order.kind ≡ Order → b.order.kind ≡ Order → same_entity a.order b.order ≡ false
    → Precedes a b ⊎ Precedes b a
one_precedes a b p q apart = by_case (slice_cmp nat_cmp a.order.key b.order.key) refl
  where
    by_case : (c : Ordering) → slice_cmp nat_cmp a.order.key b.order.key ≡ c → Precedes a b ⊎ Precedes b a
    by_case Less e = inl e
    by_case Equal e =
        let tied : same_entity a.order b.order ≡ true =
        same_entity-ties a.order b.order ∙ rw (by_keys a.order b.order p q, e) refl in
        absurd cc
    by_case Greater e = inr (nat_list_cmp_total.antisymm b.order.key a.order.key ∙ rw e refl)

-- ---- two lines

-- two lines are put in either order
with_two : (a b : Line) (ls : List Line) → Precedes a b
    → with_line b (with_line a ls) ≡ with_line a (with_line b ls)
with_two a b [] less = rw (behind_is a b less, before_is a b less) refl
with_two a b (k ∷ ks) less = by_case (is_before a.order k.order) (is_before b.order k.order) refl refl
    (with_two a b ks less)
  where
    by_case : (p q : Bool) → is_before a.order k.order ≡ p → is_before b.order k.order ≡ q
        → with_line b (with_line a ks) ≡ with_line a (with_line b ks)
        → with_line b (with_line a (k ∷ ks)) ≡ with_line a (with_line b (k ∷ ks))
    by_case true true e f rest = simp (e, f, behind_is a b less, before_is a b less)
    by_case true false e f rest = simp (e, f, behind_is a b less)
    by_case false true e f rest =
        let both = before_is a k (nat_list_cmp_total.trans a.order.key b.order.key k.order.key less (precedes b k f)) in
        absurd cc
    by_case false false e f rest = simp (e, f, rest)

-- of two orders
with_either : (a b : Line) (ls : List Line) → a.order.kind ≡ Order → b.order.kind ≡ Order
    → same_entity a.order b.order ≡ false → with_line b (with_line a ls) ≡ with_line a (with_line b ls)
with_either a b ls p q apart = elim (one_precedes a b p q apart) [
  | inl less ↦ with_two a b ls less
  | inr less ↦ sym (with_two b a ls less)
]

-- where the lines' orders are two
put_two : (a b : Line) (ls : List Line) → a.order.kind ≡ Order → b.order.kind ≡ Order
    → same_entity a.order b.order ≡ false → (found other : Option Line) → line_of a.order ls ≡ found
    → line_of b.order ls ≡ other
    → option_and_then (lines_with (Some b)) (lines_with (Some a) ls)
    ≡ option_and_then (lines_with (Some a)) (lines_with (Some b) ls)
put_two a b ls p q apart None None e f =
    let turned : same_entity b.order a.order ≡ false = same_entity-comm b.order a.order ∙ apart in
    rw (e, f, line_of-with_other b.order a ls turned, f, line_of-with_other a.order b ls apart, e)
    (ap Some (with_either a b ls p q apart))
put_two a b ls p q apart None (Some k) e f =
    let turned : same_entity b.order a.order ≡ false = same_entity-comm b.order a.order ∙ apart in
    rw (e, f, line_of-with_other b.order a ls turned, f) refl
put_two a b ls p q apart (Some k) None e f = rw (e, f, line_of-with_other a.order b ls apart, e) refl
put_two a b ls p q apart (Some k) (Some l) e f = rw (e, f) refl

-- where they are one
put_one : (a b : Line) (ls : List Line) → a.order ≡ b.order → (found : Option Line) → line_of a.order ls ≡ found
    → option_and_then (lines_with (Some b)) (lines_with (Some a) ls)
    ≡ option_and_then (lines_with (Some a)) (lines_with (Some b) ls)
put_one a b ls same None e =
    let none : line_of b.order ls ≡ None = ap (λ o. line_of o ls) (sym same) ∙ e in
    let second : line_of b.order (with_line a ls) ≡ Some a =
    ap (λ o. line_of o (with_line a ls)) (sym same) ∙ line_of-with_same a ls e in
    let first : line_of a.order (with_line b ls) ≡ Some b =
    ap (λ o. line_of o (with_line b ls)) same ∙ line_of-with_same b ls none in
    rw (e, none, second, first) refl
put_one a b ls same (Some k) e =
    let some : line_of b.order ls ≡ Some k = ap (λ o. line_of o ls) (sym same) ∙ e in
    rw (e, some) refl

-- ---- rows in any order

none_then : (o : Option (List Line)) → option_and_then (lines_with None) o ≡ None
none_then None = refl
none_then (Some ls) = refl

module _ {R : Type 0} (line : R → Option Line)
    (of_order : (r : R) (l : Line) → line r ≡ Some l → l.order.kind ≡ Order) where
  exchanged : (r s : R) (ls : List Line) → option_and_then (lines_with (line s)) (lines_with (line r) ls)
      ≡ option_and_then (lines_with (line r)) (lines_with (line s) ls)
  exchanged r s ls = by_case (line r) (line s) refl refl
    where
      by_case : (x y : Option Line) → line r ≡ x → line s ≡ y
          → option_and_then (lines_with y) (lines_with x ls) ≡ option_and_then (lines_with x) (lines_with y ls)
      by_case None None e f = refl
      by_case None (Some b) e f = sym (none_then (lines_with (Some b) ls))
      by_case (Some a) None e f = none_then (lines_with (Some a) ls)
      by_case (Some a) (Some b) e f = elim (same_entity-tells a.order b.order) [
        | inl same ↦ put_one a b ls same.1 (line_of a.order ls) refl
        | inr other ↦ put_two a b ls (of_order r a e) (of_order s b f) other.0 (line_of a.order ls)
            (line_of b.order ls) refl refl
      ]

  -- the lines are the same, in whatever order their rows come
  pub lines_shuffled : (xs ys : List R) (ls : List Line) → IsPermutation xs ys
      → steps (λ r. lines_with (line r)) ys ls ≡ steps (λ r. lines_with (line r)) xs ls
  lines_shuffled xs ys ls shuffled = steps_shuffled (λ r. lines_with (line r)) exchanged xs ys ls shuffled

-- what is read of a row is a line of an order
pub of_order : (phase : Option LinePhase) (key : List ℕ) (number : ℕ) (l : Line) → line_from phase key number ≡ Some l
    → l.order.kind ≡ Order
of_order phase key number l e = read_of (as_key key) phase (as_number number) l e
  where
    read_of : (key : Option (List ℕ)) (phase : Option LinePhase) (number : Option ℕ) (l : Line)
        → option_and_then (λ k. option_and_then (λ n. option_map
        (λ p. record { order = order_of k; n = n; phase = p }) phase) number) key ≡ Some l
        → l.order.kind ≡ Order
    read_of None phase number l e = absurd cc
    read_of (Some k) phase None l e = absurd cc
    read_of (Some k) None (Some n) l e = absurd cc
    read_of (Some k) (Some p) (Some n) l e = ap (λ (line : Line). line.order.kind) (sym (same_Some _ l e))
