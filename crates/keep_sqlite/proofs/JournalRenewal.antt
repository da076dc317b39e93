-- Why the journal's rows are read today as they were in version 1.
use Rattle.std.proofs.Common.{◌≡◌, ◌≢◌, ◌≤◌, ◌<◌, ℕ, ◌+◌, ◌-◌, pos, List, [], ◌∷◌, map, filter, take, drop, length}
use Rattle.std.proofs.Common.{slice_index_or, suc, ◌==◌, Bool, Option, Some, None, refl, sym, ap, ap₂, subst, ◌∙◌}
use Rattle.std.proofs.Common.{inl, inr, arith, Result, Ok, IfOk}
use Rattle.std.specs.Prelude.{IsOkAnd, IsTrue, nat_le, if◌then◌else◌, unwrap_or}
use Rattle.std.specs.List.{AllByRecursion, AllZip}
use Rattle.std.specs.Option.{option_and_then, option_map}
use Rattle.std.proofs.lemmas.Bool.{cases_Bool}
use Rattle.std.proofs.lemmas.Bool.Decides.{nat_tests}
use Rattle.std.proofs.lemmas.Slice.Zip.{AllZip-long}
use Rattle.sqlite.specs.declared.types.Value.TheVariants.{Null, Int, Text}
use Rattle.sqlite.specs.Effect.{Database, IsDatabase}
use Rattle.sqlite.specs.State.{State, HasCleanDisk, IsUnchanged, KeepsCommit, Survives}
use Rattle.sqlite_catalog.proofs.LayoutLemmas.{has_own_rowid, other_rowid}
use Rattle.sqlite_exec.proofs.AgreeLemmas.{zip_itself}
use Rattle.sqlite_rules.proofs.ListLemmas.{all_from}
use Rattle.sqlite_schema.specs.declared.schema.Table.{Table}
use Rattle.sqlite_trees.specs.Tree.{rowid}
use Rattle.sqlite_value.specs.Order.{Row, column, bytes}
use Rattle.activities.specs.declared.input.Input.TheVariants.{FromSeat}
use Rattle.sql_bodies.specs.Columns.{as_seat, input_from}
use Rattle.sql_bodies.specs.FirstVersion.{read_first_order_command}
use Rattle.sql_bodies.specs.Reading.{read_order_command}
use Rattle.sql_rows.specs.FirstVersion.{Rebodies, rebodied, with_body}
use Rattle.sql_rows.specs.Schema.{purchasing}
use Rattle.sql_rows.specs.Tables.{AreInOrder, Edits, IsRising, by_position, is_from, shown_entry}
use Rattle.trade.specs.declared.commands.OrderCommand.{OrderCommand}
use Rattle.keep_sqlite.specs.JournalRenewal.{IsBodyOfOne, IsBodyOfToday, IsRenewedAt, IsRenewedUpto, shown_input}
use Rattle.keep_sqlite.specs.Migration.{RenewsJournal, first_orders, first_row_in}
use Rattle.keep_sqlite.specs.Orders.{orders}
use Rattle.keep_sqlite.specs.Ready.{AreNumbered, AreRising}
use Rattle.keep_sqlite.specs.Tables.{entity_in, input_of, no_input, number_at, number_in, row_in, text_at}
use Rattle.keep_sqlite.proofs.AddedRows.{edits_keep}
use Rattle.keep_sqlite.proofs.Changes.{survives_quietly}
use Rattle.keep_sqlite.proofs.Frames.{IsLeft, rising_after}
use Rattle.keep_sqlite.proofs.Journals.{shows_from}
use Rattle.keep_sqlite.proofs.OwnTables.{edits_then}

-- ---- what is read of a row

module _ (p q : List ℕ → Option OrderCommand) where
  -- of a row with no seat, whatever is read of bodies
  no_seat : (sender : Option (List ℕ)) (number : Option ℕ) (body : List ℕ)
      → input_from p None sender number body ≡ input_from q None sender number body
  no_seat None None body = refl
  no_seat None (Some n) body = refl
  no_seat (Some s) None body = refl
  no_seat (Some s) (Some n) body = refl

  -- of a row with a seat, where the bodies are read as the same command
  by_seat : (seat : ℕ) (sender : Option (List ℕ)) (number : Option ℕ) (a b : List ℕ) → p a ≡ q b
      → input_from p (Some seat) sender number a ≡ input_from q (Some seat) sender number b
  by_seat seat None None a b same =
      ap (λ (c : Option OrderCommand). option_and_then (λ s. option_map (FromSeat s) c) (as_seat seat)) same
  by_seat seat None (Some n) a b same = refl
  by_seat seat (Some s) None a b same = refl
  by_seat seat (Some s) (Some n) a b same = refl

-- a message stays
pub message_stays : (x : Row) → column x 2 ≡ Null → IsBodyOfToday x None
message_stays x none =
    ap (λ v. input_of read_order_command v (column x 3) (column x 4) (column x 5)) none
    ∙ ap (λ i. unwrap_or i no_input) (no_seat read_order_command read_first_order_command (text_at (column x 3))
    (number_at (column x 4)) (bytes (column x 5)))
    ∙ sym (ap (λ v. input_of read_first_order_command v (column x 3) (column x 4) (column x 5)) none)

-- a body that is read as the command that the row's own was in version 1
pub command_renewed : (x : Row) (seat : ℕ) (text body : List ℕ) (command : OrderCommand)
    → column x 2 ≡ Int (pos seat) → column x 5 ≡ Text text → read_first_order_command text ≡ Some command
    → read_order_command body ≡ Some command → IsBodyOfToday x (Some body)
command_renewed x seat text body command sat told first now =
    ap (λ v. input_of read_order_command v (column x 3) (column x 4) (Text body)) sat
    ∙ ap (λ i. unwrap_or i no_input) (by_seat read_order_command read_first_order_command seat (text_at (column x 3))
    (number_at (column x 4)) body text (now ∙ sym first))
    ∙ sym (ap₂ (λ v b. input_of read_first_order_command v (column x 3) (column x 4) b) sat told)

-- where it is the row's own, this one stays
pub command_stays : (x : Row) (text body : List ℕ) → column x 5 ≡ Text text → body ≡ text
    → IsBodyOfToday x (Some body) → IsBodyOfToday x None
command_stays x text body told same h =
    ap (λ v. shown_input read_order_command x v) (told ∙ ap Text (sym same)) ∙ h

-- ---- the row at a position

-- an answer of one row
pub one_item : (items : List Row) (x : Row) → length items ≡ 1 → x ≡ slice_index_or items 0 x → items ≡ x ∷ []
one_item [] x one is = absurd (omega (arith, one))
one_item (y ∷ []) x one is = ap (λ r. r ∷ []) (sym is)
one_item (y ∷ z ∷ items) x one is = absurd (omega (arith, one))

-- what is told of an answer's one row
pub one_body : {V E F T : Type 0} (items_of : V → List Row) (bytes : T → List ℕ) (rows : V) (answer : Result V E)
    (x : Row) (result : Result (Option T) F) → answer ≡ Ok rows → items_of rows ≡ x ∷ []
    → IfOk result (λ b. IsBodyOfToday x (option_map bytes b))
    → IfOk result (λ b. IsOkAnd answer (λ v. IsBodyOfOne (items_of v) (option_map bytes b)))
one_body items_of bytes rows answer x result is one h =
    subst (λ a. IfOk result (λ b. IsOkAnd a (λ v. IsBodyOfOne (items_of v) (option_map bytes b)))) (sym is)
    (subst (λ l. IfOk result (λ b. IsBodyOfOne l (option_map bytes b))) (sym one) h)

-- and by what there is one
pub the_one : (items : List Row) (body : Option (List ℕ)) → IsBodyOfOne items body
    → (x : Row) × (items ≡ x ∷ []) × IsBodyOfToday x body
the_one [] body h = absurd h
the_one (x ∷ []) body h = (x, refl, h)
the_one (x ∷ y ∷ rows) body h = absurd h

one_place : (r : Row) (m n : ℕ) → rowid r ≡ Int (pos m) → rowid r ≡ Int (pos n) → m ≡ n
one_place r m n a b = ap number_in (sym a ∙ b)

none_at : (P : Row → Type 0) (n m : ℕ) (rows : List Row) → n < m → AreNumbered m rows
    → AllByRecursion (λ r. rowid r ≡ Int (pos n) → P r) rows
none_at P n m [] low h = tt
none_at P n m (r ∷ rows) low h = (
  λ is. absurd (let e = one_place r m n h.0 is in omega (arith, e, low)),
  none_at P n (m + 1) rows (omega (arith, low)) h.1,
)

-- all rows at a position are the one that is shown
only_at : (n m : ℕ) (x : Row) (rows : List Row) → AreNumbered m rows → m ≤ n
    → x ∷ [] ≡ map shown_entry (take 1 (drop (n - m) rows))
    → AllByRecursion (λ r. rowid r ≡ Int (pos n) → shown_entry r ≡ x) rows
only_at n m x [] h low is = tt
only_at n m x (r ∷ rows) h low is = elim (cases_Bool (nat_le n m)) [
  | inl upto ↦
      let le : n ≤ m = (let e = upto in grind (arith, nat_tests)) in
      let here : n - m ≡ 0 = omega (arith, le) in
      let first : x ∷ [] ≡ shown_entry r ∷ [] = is ∙ ap (λ k. map shown_entry (take 1 (drop k (r ∷ rows)))) here in (
        λ _. let e : x ≡ shown_entry r = cc in sym e,
        none_at (λ s. shown_entry s ≡ x) n (m + 1) rows (omega (arith, le)) h.1,
      )
  | inr behind ↦
      let lt : m < n = (let e = behind in grind (arith, nat_tests)) in
      let next : n - m ≡ suc (n - (m + 1)) = omega (arith, lt) in (
        λ here. absurd (let e = one_place r m n h.0 here in omega (arith, e, lt)),
        only_at n (m + 1) x rows h.1 (omega (arith, lt))
            (is ∙ ap (λ k. map shown_entry (take 1 (drop k (r ∷ rows)))) next),
      )
]

pub shown_there : (rows : List Row) → AreNumbered 1 rows → IsRising rows → (n : ℕ) (x : Row)
    → AreInOrder by_position (Some 1) shown_entry (filter (is_from (pos n)) rows) (x ∷ [])
    → AllByRecursion (λ r. rowid r ≡ Int (pos n) → shown_entry r ≡ x) rows
shown_there rows numbered rising n x a = elim (cases_Bool (nat_le 1 n)) [
  | inl some ↦ only_at n 1 x rows numbered (let e = some in let le : 1 ≤ n = grind (arith, nat_tests) in le)
      (shows_from rows numbered rising n 1 (x ∷ []) a)
  | inr none ↦ none_at (λ r. shown_entry r ≡ x) n 1 rows
      (let e = none in let lt : n < 1 = grind (arith, nat_tests) in lt) numbered
]

module _ (n : ℕ) (x : Row) where
  -- where no other body is needed
  stays_there : IsBodyOfToday x None → (r : Row) → (rowid r ≡ Int (pos n) → shown_entry r ≡ x) → IsRenewedAt n r r
  stays_there same r shown = record {
    place = refl;
    here = λ at. ap (λ i. record { entity = entity_in (column r 2); input = i })
        (subst (λ (y : Row). IsBodyOfToday y None) (sym (shown at)) same);
    elsewhere = λ other. refl;
  }

  pub all_stay : IsBodyOfToday x None → (rows : List Row)
      → AllByRecursion (λ r. rowid r ≡ Int (pos n) → shown_entry r ≡ x) rows → AllZip (IsRenewedAt n) rows rows
  all_stay same [] shown = tt
  all_stay same (r ∷ rows) shown = (stays_there same r shown.0, all_stay same rows shown.1)

  -- where another is set
  module _ (body : List ℕ) (same : IsBodyOfToday x (Some body)) where
    has_body : (r : Row) → rowid r ≡ Int (pos n) → shown_entry r ≡ x → IsRenewedAt n r (with_body body r)
    has_body r at shown = record {
      place = refl;
      here = λ _. ap (λ i. record { entity = entity_in (column r 2); input = i })
          (subst (λ (y : Row). IsBodyOfToday y (Some body)) (sym shown) same);
      elsewhere = λ other. absurd (other at);
    }

    keeps_body : (r : Row) → rowid r ≢ Int (pos n) → IsRenewedAt n r r
    keeps_body r other = record {
      place = refl;
      here = λ at. absurd (other at);
      elsewhere = λ _. refl;
    }

    body_set : (m : ℕ) (r : Row) → rowid r ≡ Int (pos m) → (rowid r ≡ Int (pos n) → shown_entry r ≡ x)
        → IsRenewedAt n r (rebodied (pos n) body r)
    body_set m r is shown = elim (cases_Bool (m == n)) [
      | inl here ↦
          let e : m ≡ n = (let h = here in grind (arith, nat_tests)) in
          let at : rowid r ≡ Int (pos n) = is ∙ ap (λ k. Int (pos k)) e in
          subst (λ (b : Bool). IsRenewedAt n r (if b then with_body body r else r)) (sym (has_own_rowid r n at))
          (has_body r at (shown at))
      | inr other ↦
          let apart : m ≢ n = λ e. let o = other in grind (arith, nat_tests) in
          subst (λ (b : Bool). IsRenewedAt n r (if b then with_body body r else r)) (sym (other_rowid r m n is apart))
          (keeps_body r (λ at. apart (one_place r m n is at)))
    ]

    pub all_set : (m : ℕ) (rows : List Row) → AreNumbered m rows
        → AllByRecursion (λ r. rowid r ≡ Int (pos n) → shown_entry r ≡ x) rows
        → AllZip (IsRenewedAt n) rows (map (rebodied (pos n) body) rows)
    all_set m [] h shown = tt
    all_set m (r ∷ rows) h shown = (body_set m r h.0 shown.0, all_set (m + 1) rows h.1 shown.1)

-- ---- one row in a transaction

-- where nothing is changed
pub nothing_edits : (tree : ℕ) (B : List Row → List Row → Type 0) (old new : State) → IsUnchanged old new
    → IsRising (old.now.trees tree) → IsDatabase old.now → IsTrue old.in_transaction
    → B (old.now.trees tree) (old.now.trees tree) → Edits tree B old new
nothing_edits tree B old new same rising sound inside is = record {
  rows = subst (λ (d : Database). B (old.now.trees tree) (d.trees tree)) (sym same.0.now_is) is;
  rising = subst (λ (d : Database). IsRising (d.trees tree)) (sym same.0.now_is) rising;
  others = subst (λ (d : Database). AllByRecursion (λ (t : Table). t.tree ≢ tree → d.trees t.tree ≡ old.now.trees t.tree)
      old.now.schema.tables) (sym same.0.now_is) (all_from _ old.now.schema.tables (λ t h other. refl));
  same_schema = ap (λ (d : Database). d.schema) same.0.now_is;
  sound = subst IsDatabase (sym same.0.now_is) sound;
  shown = record {
    was_open = same.0.was_open;
    is_open = same.0.is_open;
    now_is = refl;
    committed_is = same.0.committed_is;
    mode = same.0.mode ∙ inside;
  };
}

module _ (n : ℕ) (x : Row) (old mid : State) (same : IsUnchanged old mid) (rising : IsRising (old.now.trees 0))
    (numbered : AreNumbered 1 (old.now.trees 0)) (sound : IsDatabase old.now) (inside : IsTrue old.in_transaction)
    (shown : AreInOrder by_position (Some 1) shown_entry (filter (is_from (pos n)) (old.now.trees 0)) (x ∷ [])) where
  at_place : AllByRecursion (λ r. rowid r ≡ Int (pos n) → shown_entry r ≡ x) (old.now.trees 0)
  at_place = shown_there (old.now.trees 0) numbered rising n x shown

  pub row_stays : IsBodyOfToday x None → Edits 0 (AllZip (IsRenewedAt n)) old mid
  row_stays is = nothing_edits 0 (AllZip (IsRenewedAt n)) old mid same rising sound inside
      (all_stay n x is (old.now.trees 0) at_place)

  pub row_set : (new : State) (body : List ℕ) → IsBodyOfToday x (Some body)
      → Edits 0 (Rebodies (pos n) body) mid new → Edits 0 (AllZip (IsRenewedAt n)) old new
  row_set new body is h = edits_then 0 (λ rows after. after ≡ rows) (Rebodies (pos n) body) (AllZip (IsRenewedAt n))
      old mid new (nothing_edits 0 (λ rows after. after ≡ rows) old mid same rising sound inside refl) h
      (λ left set. subst (AllZip (IsRenewedAt n) (old.now.trees 0))
      (sym (set ∙ ap (map (rebodied (pos n) body)) left))
      (all_set n x body is 1 (old.now.trees 0) numbered at_place))

-- ---- row after row

zip_then : (P Q R : Row → Row → Type 0) → ((x y z : Row) → P x y → Q y z → R x z) → (xs ys zs : List Row)
    → AllZip P xs ys → AllZip Q ys zs → AllZip R xs zs
zip_then P Q R both [] [] [] a b = tt
zip_then P Q R both [] [] (z ∷ zs) a b = absurd b
zip_then P Q R both [] (y ∷ ys) zs a b = absurd a
zip_then P Q R both (x ∷ xs) [] zs a b = absurd a
zip_then P Q R both (x ∷ xs) (y ∷ ys) [] a b = absurd b
zip_then P Q R both (x ∷ xs) (y ∷ ys) (z ∷ zs) a b =
    (both x y z a.0 b.0, zip_then P Q R both xs ys zs a.1 b.1)

none_renewed : (r : Row) → IsRenewedUpto 0 r r
none_renewed r = record {
  place = refl;
  done = λ k low at. absurd (omega (arith, low));
  rest = λ k high at. refl;
}

one_more_renewed : (count : ℕ) (r s u : Row) → IsRenewedUpto count r s → IsRenewedAt (count + 1) s u
    → IsRenewedUpto (count + 1) r u
one_more_renewed count r s u some one = record {
  place = one.place ∙ some.place;
  done = λ k low at. elim (cases_Bool (nat_le count k)) [
    | inl behind ↦
        let le : count ≤ k = (let e = behind in grind (arith, nat_tests)) in
        let is : k ≡ count = omega (arith, le, low) in
        one.here (some.place ∙ at ∙ ap (λ m. Int (pos (m + 1))) is)
        ∙ ap (first_row_in first_orders) (some.rest k le at)
    | inr before ↦
        let less : k < count = (let e = before in grind (arith, nat_tests)) in
        ap (row_in orders) (one.elsewhere (λ here.
        let e = one_place s (k + 1) (count + 1) (some.place ∙ at) here in omega (arith, e, less)))
        ∙ some.done k less at
  ];
  rest = λ k high at.
      one.elsewhere (λ here. let e = one_place s (k + 1) (count + 1) (some.place ∙ at) here in omega (arith, e, high))
      ∙ some.rest k (omega (arith, high)) at;
}

-- to rewrite bodies leaves the positions as they are
pub still_numbered : (count m : ℕ) (rows after : List Row) → AllZip (IsRenewedUpto count) rows after
    → AreNumbered m rows → AreNumbered m after
still_numbered count m [] [] renewed h = tt
still_numbered count m [] (s ∷ after) renewed h = absurd renewed
still_numbered count m (r ∷ rows) [] renewed h = absurd renewed
still_numbered count m (r ∷ rows) (s ∷ after) renewed h =
    (renewed.0.place ∙ h.0, still_numbered count (m + 1) rows after renewed.1 h.1)

-- the rows of so many are written anew
pub record IsRenewing (count : ℕ) (old now : State) : Type 0 where
  pub survives : Survives old now (λ _. ⊥)
  pub done : HasCleanDisk now → Edits 0 (AllZip (IsRenewedUpto count)) old now

-- before the first row nothing is rewritten
pub renewing_starts : (s : State) → (HasCleanDisk s → IsRising (s.now.trees 0)) → (HasCleanDisk s → IsDatabase s.now)
    → (HasCleanDisk s → IsTrue s.is_open) → (HasCleanDisk s → IsTrue s.in_transaction) → IsRenewing 0 s s
renewing_starts s rising sound live inside = record {
  survives = record {
    clean = omega arith;
    shield = λ shielded. shielded;
    counts = omega arith;
    limit = refl;
    closes = λ clean lives. inl lives;
    crash = λ clean db may. inl may;
  };
  done = λ clean. record {
    rows = zip_itself (IsRenewedUpto 0) none_renewed (s.now.trees 0);
    rising = rising clean;
    others = all_from _ s.now.schema.tables (λ t h other. refl);
    same_schema = refl;
    sound = sound clean;
    shown = record {
      was_open = live clean;
      is_open = live clean;
      now_is = refl;
      committed_is = refl;
      mode = inside clean;
    };
  };
}

-- while rows are rewritten the last commit stays as it is
pub renewing_keeps : (count : ℕ) (old now : State) → IsRenewing count old now → HasCleanDisk now → KeepsCommit old now
renewing_keeps count old now way clean = edits_keep 0 (AllZip (IsRenewedUpto count)) old now (way.done clean)

-- one row rewritten after the first so many is one more
pub renewing_more : (count : ℕ) (old mid new : State) → IsRenewing count old mid → Survives mid new (λ _. ⊥)
    → (HasCleanDisk new → Edits 0 (AllZip (IsRenewedAt (count + 1))) mid new) → IsRenewing (count + 1) old new
renewing_more count old mid new way survives one = record {
  survives = survives_quietly old mid new way.survives survives;
  done = λ clean.
      let between : HasCleanDisk mid = (let c = survives.clean in omega (arith, c, clean)) in
      edits_then 0 (AllZip (IsRenewedUpto count)) (AllZip (IsRenewedAt (count + 1)))
      (AllZip (IsRenewedUpto (count + 1))) old mid new (way.done between) (one clean)
      (zip_then (IsRenewedUpto count) (IsRenewedAt (count + 1)) (IsRenewedUpto (count + 1)) (one_more_renewed count)
      (old.now.trees 0) (mid.now.trees 0) (new.now.trees 0));
}

-- ---- all rows

all_renewed : (count m : ℕ) (rows after : List Row) → AllZip (IsRenewedUpto count) rows after
    → AreNumbered (m + 1) rows → m + length rows ≤ count
    → map (row_in orders) after ≡ map (first_row_in first_orders) rows
all_renewed count m [] [] renewed h few = refl
all_renewed count m [] (s ∷ after) renewed h few = absurd renewed
all_renewed count m (r ∷ rows) [] renewed h few = absurd renewed
all_renewed count m (r ∷ rows) (s ∷ after) renewed h few = ap₂ (λ x xs. x ∷ xs)
    (renewed.0.done m (omega (arith, few)) h.0)
    (all_renewed count (m + 1) rows after renewed.1 h.1 (omega (arith, few)))

-- once as many rows are rewritten as there are, the journal is of today
pub journal_renewed : (count : ℕ) (old mid new : State) → old.now.schema ≡ purchasing
    → AreRising purchasing old.now.trees → IsDatabase old.now → IsTrue old.in_transaction → IsUnchanged old mid
    → count ≡ length (old.now.trees 0) → AreNumbered 1 (old.now.trees 0)
    → Edits 0 (AllZip (IsRenewedUpto count)) mid new → RenewsJournal count old new
journal_renewed count old mid new has rising sound inside same counted numbered renewed =
    let h : Edits 0 (AllZip (IsRenewedUpto count)) old new =
    edits_then 0 (λ rows after. after ≡ rows) (AllZip (IsRenewedUpto count)) (AllZip (IsRenewedUpto count)) old mid new
    (nothing_edits 0 (λ rows after. after ≡ rows) old mid same rising.0 sound inside refl) renewed
    (λ left some. subst (λ rows. AllZip (IsRenewedUpto count) rows (new.now.trees 0)) left some) in
    let left = subst (λ s. AllByRecursion (IsLeft 0 old.now.trees new.now.trees) s.tables) has h.others in
    let long = AllZip-long (IsRenewedUpto count) (old.now.trees 0) (new.now.trees 0) h.rows in
    record {
      journal = all_renewed count 0 (old.now.trees 0) (new.now.trees 0) h.rows numbered (omega (arith, counted));
      others = left;
      filed = record {
        is = h.same_schema ∙ has;
        rising = rising_after 0 old.now.trees new.now.trees h.rising purchasing.tables left rising;
        counted = counted ∙ sym long;
        numbered = still_numbered count 1 (old.now.trees 0) (new.now.trees 0) h.rows numbered;
      };
      sound = h.sound;
      shown = h.shown;
    }
