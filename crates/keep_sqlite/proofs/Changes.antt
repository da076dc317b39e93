-- What the writes make of the tables.
use Rattle.std.proofs.Common.{◌≡◌, ◌≢◌, ◌<◌, inl, inr, ℕ, ℤ, pos, List, [], ◌∷◌, true, false, ◌&&◌, ◌==◌}
use Rattle.std.proofs.Common.{cond, Some, None, Ok, Err, Result, IfOk, refl, sym, ap, subst, ◌∙◌}
use Rattle.std.proofs.Common.{true≢false, arith, map, length, ◌+◌, ◌++◌, fold, ◌+ℤ◌}
use Rattle.std.specs.Prelude.{nat_le}
use Rattle.std.specs.List.{AllByRecursion}
use Rattle.std.proofs.lemmas.Bool.{cases_Bool}
use Rattle.std.proofs.lemmas.Bool.Decides.{nat_tests}
use Rattle.sqlite_value.specs.Order.{Row}
use Rattle.sqlite_trees.specs.Tree.{rowid}
use Rattle.sqlite_catalog.specs.Listing.{IsSound}
use Rattle.sqlite.specs.Effect.{Database, IsDatabase}
use Rattle.sqlite.specs.State.{State, Survives, IsUnchanged, KeepsCommit}
use Rattle.sqlite.proofs.StateLemmas.{survives_then}
use Rattle.base.specs.Entity.{text_of}
use Rattle.base.specs.Order.{same_pair}
use Rattle.base.specs.declared.pair.Pair.{Pair}
use Rattle.base.proofs.Entities.{same_pair-Decides}
use Rattle.envelope.specs.declared.message.Message.{Message}
use Rattle.envelope.specs.declared.message.Letter.{Letter}
use Rattle.activities.specs.declared.input.JournalRow.{JournalRow}
use Rattle.keep.specs.Tables.{Tables, changed, changed_by, set_mark}
use Rattle.keep.specs.declared.change.Change.{Change}
use Rattle.keep.specs.declared.change.Change.TheVariants.{Handled, Held, NotHeld}
use Rattle.sql_rows.specs.Tables.{Cells, has_key, IsCut, Puts, Adds, Edits, place_cells}
use Rattle.sql_rows.specs.Tables.{letter_cells, marks_cells, is_upto, pair_key, place_key}
use Rattle.sqlite.specs.declared.types.Value.TheVariants.{Int, Text}
use Rattle.keep_sqlite.specs.Filing.{Filing}
use Rattle.sqlite_rules.specs.Edit.{id_in, next_rowid}
use Rattle.keep_sqlite.specs.Parts.{with_sent, with_settled, with_letter, without_letters, with_row}
use Rattle.keep_sqlite.specs.Tables.{tables_of, number_in, message_in, key_of, key_at, mark_in, marks_in, letter_in}
use Rattle.keep_sqlite.specs.Tables.{messages_in, row_in}
use Rattle.keep_sqlite.specs.Ready.{AreRising, AreNumbered, IsFiled, Makes, IsUnderWay}
use Rattle.keep_sqlite.proofs.Frames.{Frame, frame, IsLeft, rising_after}
use Rattle.keep_sqlite.proofs.Keys.{and_parts, one_pair, one_place, place_upto, upto_place, one_in_outbox}
use Rattle.keep_sqlite.proofs.Keys.{one_in_out_marks, one_in_in_marks, one_in_held}
use Rattle.keep_sqlite.proofs.Lookup.{IsOne, cut_gone, cut_apart, set_here, set_apart}

-- ---- lists with one more

pub map_behind : {X Y : Type 0} (f : X → Y) (xs : List X) (x : X) → map f (xs ++ x ∷ []) ≡ map f xs ++ f x ∷ []
map_behind f [] x = refl
map_behind f (y ∷ xs) x = ap (λ l. f y ∷ l) (map_behind f xs x)

length_behind : {X : Type 0} (xs : List X) (x : X) → length (xs ++ x ∷ []) ≡ length xs + 1
length_behind [] x = refl
length_behind (y ∷ xs) x = let e = length_behind xs x in omega (arith, e)

numbered_behind : (n : ℕ) (rows : List Row) (r : Row) → AreNumbered n rows → rowid r ≡ Int (pos (n + length rows))
    → AreNumbered n (rows ++ r ∷ [])
numbered_behind n [] r h is = (is ∙ ap (λ k. Int (pos k)) (omega arith), tt)
numbered_behind n (x ∷ rows) r h is =
    (h.0, numbered_behind (n + 1) rows r h.1 (is ∙ ap (λ k. Int (pos k)) (omega arith)))

-- the next rowid is the position behind the last
next_is : (n : ℕ) (rows : List Row) (from : ℤ) → from ≡ pos n → AreNumbered n rows
    → fold (λ _ r. id_in (rowid r) +ℤ pos 1) from rows ≡ pos (n + length rows)
next_is n [] from is h = is ∙ ap pos (omega arith)
next_is n (x ∷ rows) from is h =
    next_is (n + 1) rows (id_in (rowid x) +ℤ pos 1) (ap (λ v. id_in v +ℤ pos 1) h.0 ∙ ap pos (omega arith)) h.1
    ∙ ap pos (omega arith)

stays_mark : (p q : Pair) (marks : Pair → ℕ) → set_mark p (marks p) marks q ≡ marks q
stays_mark p q marks = elim (cases_Bool (same_pair p q)) [
  | inl same ↦ rw same (ap marks ((same_pair-Decides p q).0 same))
  | inr other ↦ rw other refl
]

-- ---- what is looked up

module _ (p q : Pair) (rows after : List Row) where
  -- marks, after a row of a pair is put
  pub marks_put : (at n : ℕ) (cells : Cells) → ((x : Pair) → IsOne (has_key (key_of x)) rows)
      → ((x : Pair) → IsOne (has_key (key_of x)) after) → ((id : ℤ) → mark_in at (Some (Int id ∷ cells)) ≡ n)
      → Puts (key_of p) cells rows after → marks_in at after q ≡ cond (same_pair p q) n (marks_in at rows q)
  marks_put at n cells one two is h =
      let new = Int h.0 ∷ cells in
      elim (cases_Bool (same_pair p q)) [
        | inl same ↦ rw same (
            let e : p ≡ q = (same_pair-Decides p q).0 same in
            ap (mark_in at) (set_here (has_key (key_of q)) (has_key (key_of p)) rows after new (two q) h.1
            (subst (λ (x : Pair). has_key (key_of x) new ≡ true) e h.1.passes)) ∙ is h.0)
        | inr other ↦ rw other (
            ap (mark_in at) (set_apart (has_key (key_of q)) (has_key (key_of p)) rows after new (one q) h.1
            (λ x a b. true≢false (sym ((same_pair-Decides p q).1 (one_pair x p q a b)) ∙ other))))
      ]

  module _ (n k : ℕ) (one : (x : Pair) (m : ℕ) → IsOne (has_key (key_at x m)) rows) where
    at_place : same_pair p q && n == k ≡ true → (p ≡ q) × (n ≡ k)
    at_place same =
        let both = and_parts (same_pair p q) (n == k) same in
        ((same_pair-Decides p q).0 both.0, let e = both.1 in grind (arith, nat_tests))

    apart : same_pair p q && n == k ≡ false → (x : Row) → has_key (key_at p n) x ≡ true
        → has_key (key_at q k) x ≡ true → ⊥
    apart other x a b =
        let e = one_place x p q n k a b in
        let yes : (same_pair p q && n == k) ≡ true =
        rw ((same_pair-Decides p q).1 e.0) (let m = e.1 in grind (arith, nat_tests)) in
        true≢false (sym yes ∙ other)

    -- messages, after the row of a place is taken away
    pub messages_cut : IsCut (has_key (key_at p n)) rows after
        → messages_in after q k ≡ cond (same_pair p q && n == k) None (messages_in rows q k)
    messages_cut h =
        elim (cases_Bool (same_pair p q && n == k)) [
          | inl same ↦ rw same (
              let e = at_place same in
              ap letter_in (cut_gone (has_key (key_at q k)) (has_key (key_at p n)) rows after h
              (λ x hit. subst (λ m. has_key (key_at p m) x ≡ true) (sym e.1)
              (subst (λ (y : Pair). has_key (key_at y k) x ≡ true) (sym e.0) hit))))
          | inr other ↦ rw other (
              ap letter_in (cut_apart (has_key (key_at q k)) (has_key (key_at p n)) rows after (one q k) h (apart
              other)))
        ]

    -- messages, after the row of a place is put
    pub messages_put : (m : Message) (cells : Cells) → ((x : Pair) (i : ℕ) → IsOne (has_key (key_at x i)) after)
        → ((id : ℤ) → letter_in (Some (Int id ∷ cells)) ≡ Some m) → Puts (key_at p n) cells rows after
        → messages_in after q k ≡ cond (same_pair p q && n == k) (Some m) (messages_in rows q k)
    messages_put m cells two is h =
        let new = Int h.0 ∷ cells in
        elim (cases_Bool (same_pair p q && n == k)) [
          | inl same ↦ rw same (
              let e = at_place same in
              ap letter_in (set_here (has_key (key_at q k)) (has_key (key_at p n)) rows after new (two q k) h.1
              (subst (λ i. has_key (key_at q i) new ≡ true) e.1
              (subst (λ (y : Pair). has_key (key_at y n) new ≡ true) e.0 h.1.passes))) ∙ is h.0)
          | inr other ↦ rw other (
              ap letter_in (set_apart (has_key (key_at q k)) (has_key (key_at p n)) rows after new (one q k) h.1
              (apart other)))
        ]

    -- messages, after those of a pair up to a number are taken away
    pub messages_upto : IsCut (is_upto (text_of p.from) (text_of p.to) (pos n)) rows after
        → messages_in after q k ≡ cond (same_pair p q && nat_le k n) None (messages_in rows q k)
    messages_upto h =
        elim (cases_Bool (same_pair p q && nat_le k n)) [
          | inl below ↦ rw below (
              let both = and_parts (same_pair p q) (nat_le k n) below in
              ap letter_in (cut_gone (has_key (key_at q k)) (is_upto (text_of p.from) (text_of p.to) (pos n)) rows
              after h
              (λ x hit. place_upto x p q n k ((same_pair-Decides p q).0 both.0) both.1 hit)))
          | inr other ↦ rw other (
              ap letter_in (cut_apart (has_key (key_at q k)) (is_upto (text_of p.from) (text_of p.to) (pos n)) rows
              after
              (one q k) h (λ x a b.
              let e = upto_place x p q n k a b in
              true≢false (sym (rw ((same_pair-Decides p q).1 e.0) e.1) ∙ other))))
        ]

-- ---- as changes of the tables

module _ {S C : Type 0} (f : Filing S C) (old new : State) (count : ℕ) (filed : IsFiled f.schema count old.now) where
  was_sound : IsDatabase old.now → IsSound f.schema old.now.trees
  was_sound was = subst (λ s. IsSound s old.now.trees) filed.is was

  module _ (was : IsDatabase old.now) where
    -- a write of one of the common tables but the journal
    made : (tree : ℕ) (B : List Row → List Row → Type 0) → tree < 9 → 0 ≢ tree → Edits tree B old new
        → (change : Tables S C → Tables S C)
        → (Frame f.schema tree old.now.trees new.now.trees → IsSound f.schema new.now.trees
        → AreRising f.schema new.now.trees → B (old.now.trees tree) (new.now.trees tree)
        → tables_of f new.now.trees ≡ change (tables_of f old.now.trees)) → Makes f change count old new
    made tree B low behind h change does =
        let is = h.same_schema ∙ filed.is in
        let left = subst (λ s. AllByRecursion (IsLeft tree old.now.trees new.now.trees) s.tables) filed.is h.others in
        let kept = frame f.schema f.is_service f.apart tree old.now.trees new.now.trees low left in
        let up = rising_after tree old.now.trees new.now.trees h.rising f.schema.tables left filed.rising in
        let journal = kept.journal behind in
        record {
          tables = does kept (subst (λ s. IsSound s new.now.trees) is h.sound) up h.rows;
          filed = record {
            is = is;
            rising = up;
            counted = subst (λ l. count ≡ Rattle.std.proofs.Common.length l) (sym journal) filed.counted;
            numbered = subst (AreNumbered 1) (sym journal) filed.numbered;
          };
          sound = h.sound;
          shown = h.shown;
        }

    pub handles : (p : Pair) (n : ℕ)
        → Edits 5 (Puts (key_of p) (place_cells (text_of p.from) (text_of p.to) (pos n))) old new
        → Makes f (changed_by (Handled p n)) count old new
    handles p n h = made 5 _ (omega arith) (λ e. omega (arith, e)) h _ (λ kept sound up rows i. record {
      journal = map (row_in f) (kept.journal (λ e. omega (arith, e)) i);
      entity = f.depends old.now.trees new.now.trees kept.own i;
      unsettled = messages_in (kept.outbox (λ e. omega (arith, e)) i);
      sent = marks_in 3 (kept.out_marks (λ e. omega (arith, e)) i);
      settled = marks_in 4 (kept.out_marks (λ e. omega (arith, e)) i);
      handled = λ q. marks_put p q (old.now.trees 5) (new.now.trees 5) 3 n
          (place_cells (text_of p.from) (text_of p.to) (pos n))
          (one_in_in_marks f.schema f.is_service old.now.trees (was_sound was) filed.rising)
          (one_in_in_marks f.schema f.is_service new.now.trees sound up) (λ id. refl) rows i;
      held = messages_in (kept.held (λ e. omega (arith, e)) i);
    })

    pub releases : (p : Pair) (n : ℕ) → Edits 7 (IsCut (has_key (key_at p n))) old new
        → Makes f (changed_by (NotHeld p n)) count old new
    releases p n h = made 7 _ (omega arith) (λ e. omega (arith, e)) h _ (λ kept sound up rows i. record {
      journal = map (row_in f) (kept.journal (λ e. omega (arith, e)) i);
      entity = f.depends old.now.trees new.now.trees kept.own i;
      unsettled = messages_in (kept.outbox (λ e. omega (arith, e)) i);
      sent = marks_in 3 (kept.out_marks (λ e. omega (arith, e)) i);
      settled = marks_in 4 (kept.out_marks (λ e. omega (arith, e)) i);
      handled = marks_in 3 (kept.in_marks (λ e. omega (arith, e)) i);
      held = λ q k. messages_cut p q (old.now.trees 7) (new.now.trees 7) n k
          (one_in_held f.schema f.is_service old.now.trees (was_sound was) filed.rising) rows i;
    })

    pub holds : (l : Letter) (b : List ℕ) → message_in (Text b) ≡ l.message
        → Edits 7 (Puts (key_at l.pair l.number) (letter_cells (text_of l.pair.from) (text_of l.pair.to) (pos
        l.number) b)) old new
        → Makes f (changed_by (Held l)) count old new
    holds l b is h = made 7 _ (omega arith) (λ e. omega (arith, e)) h _ (λ kept sound up rows i. record {
      journal = map (row_in f) (kept.journal (λ e. omega (arith, e)) i);
      entity = f.depends old.now.trees new.now.trees kept.own i;
      unsettled = messages_in (kept.outbox (λ e. omega (arith, e)) i);
      sent = marks_in 3 (kept.out_marks (λ e. omega (arith, e)) i);
      settled = marks_in 4 (kept.out_marks (λ e. omega (arith, e)) i);
      handled = marks_in 3 (kept.in_marks (λ e. omega (arith, e)) i);
      held = λ q k. messages_put l.pair q (old.now.trees 7) (new.now.trees 7) l.number k
          (one_in_held f.schema f.is_service old.now.trees (was_sound was) filed.rising) l.message
          (letter_cells (text_of l.pair.from) (text_of l.pair.to) (pos l.number) b)
          (one_in_held f.schema f.is_service new.now.trees sound up) (λ id. ap (λ m. Some m) is) rows i;
    })

    pub puts_letter : (l : Letter) (b : List ℕ) → message_in (Text b) ≡ l.message
        → Edits 1 (Puts (key_at l.pair l.number) (letter_cells (text_of l.pair.from) (text_of l.pair.to) (pos
        l.number) b)) old new
        → Makes f (with_letter l) count old new
    puts_letter l b is h = made 1 _ (omega arith) (λ e. omega (arith, e)) h _ (λ kept sound up rows i. record {
      journal = map (row_in f) (kept.journal (λ e. omega (arith, e)) i);
      entity = f.depends old.now.trees new.now.trees kept.own i;
      unsettled = λ q k. messages_put l.pair q (old.now.trees 1) (new.now.trees 1) l.number k
          (one_in_outbox f.schema f.is_service old.now.trees (was_sound was) filed.rising) l.message
          (letter_cells (text_of l.pair.from) (text_of l.pair.to) (pos l.number) b)
          (one_in_outbox f.schema f.is_service new.now.trees sound up) (λ id. ap (λ m. Some m) is) rows i;
      sent = marks_in 3 (kept.out_marks (λ e. omega (arith, e)) i);
      settled = marks_in 4 (kept.out_marks (λ e. omega (arith, e)) i);
      handled = marks_in 3 (kept.in_marks (λ e. omega (arith, e)) i);
      held = messages_in (kept.held (λ e. omega (arith, e)) i);
    })

    pub takes_letters : (p : Pair) (n : ℕ) → Edits 1 (IsCut (is_upto (text_of p.from) (text_of p.to) (pos n))) old new
        → Makes f (without_letters p n) count old new
    takes_letters p n h = made 1 _ (omega arith) (λ e. omega (arith, e)) h _ (λ kept sound up rows i. record {
      journal = map (row_in f) (kept.journal (λ e. omega (arith, e)) i);
      entity = f.depends old.now.trees new.now.trees kept.own i;
      unsettled = λ q k. messages_upto p q (old.now.trees 1) (new.now.trees 1) n k
          (one_in_outbox f.schema f.is_service old.now.trees (was_sound was) filed.rising) rows i;
      sent = marks_in 3 (kept.out_marks (λ e. omega (arith, e)) i);
      settled = marks_in 4 (kept.out_marks (λ e. omega (arith, e)) i);
      handled = marks_in 3 (kept.in_marks (λ e. omega (arith, e)) i);
      held = messages_in (kept.held (λ e. omega (arith, e)) i);
    })

    -- both marks of a pair are put, of which one is as it was
    puts_marks : (p : Pair) (a b : ℤ) (m n : ℕ) (change : Tables S C → Tables S C) → number_in (Int a) ≡ m
        → number_in (Int b) ≡ n
        → Edits 3 (Puts (key_of p) (marks_cells (text_of p.from) (text_of p.to) a b)) old new
        → change (tables_of f old.now.trees) ≡ record (tables_of f old.now.trees) {
          sent = set_mark p m (marks_in 3 (old.now.trees 3));
          settled = set_mark p n (marks_in 4 (old.now.trees 3));
        }
        → Makes f change count old new
    puts_marks p a b m n change first second h is = made 3 _ (omega arith) (λ e. omega (arith, e)) h change (λ kept
        sound up rows.
        let cells = marks_cells (text_of p.from) (text_of p.to) a b in
        let one = one_in_out_marks f.schema f.is_service old.now.trees (was_sound was) filed.rising in
        let two = one_in_out_marks f.schema f.is_service new.now.trees sound up in
        let did : tables_of f new.now.trees ≡ record (tables_of f old.now.trees) {
          sent = set_mark p m (marks_in 3 (old.now.trees 3));
          settled = set_mark p n (marks_in 4 (old.now.trees 3));
        } = λ i. record {
          journal = map (row_in f) (kept.journal (λ e. omega (arith, e)) i);
          entity = f.depends old.now.trees new.now.trees kept.own i;
          unsettled = messages_in (kept.outbox (λ e. omega (arith, e)) i);
          sent = λ q. marks_put p q (old.now.trees 3) (new.now.trees 3) 3 m cells one two (λ id. first) rows i;
          settled = λ q. marks_put p q (old.now.trees 3) (new.now.trees 3) 4 n cells one two (λ id. second) rows i;
          handled = marks_in 3 (kept.in_marks (λ e. omega (arith, e)) i);
          held = messages_in (kept.held (λ e. omega (arith, e)) i);
        } in
        did ∙ sym is)

    pub puts_sent : (p : Pair) (n : ℕ) (z : ℤ) → number_in (Int z) ≡ marks_in 4 (old.now.trees 3) p
        → Edits 3 (Puts (key_of p) (marks_cells (text_of p.from) (text_of p.to) (pos n) z)) old new
        → Makes f (with_sent p n) count old new
    puts_sent p n z is h = puts_marks p (pos n) z n (marks_in 4 (old.now.trees 3) p) (with_sent p n) refl is h
        (λ i. record (tables_of f old.now.trees) {
          sent = set_mark p n (marks_in 3 (old.now.trees 3));
          settled = λ q. sym (stays_mark p q (marks_in 4 (old.now.trees 3))) i;
        })

    pub puts_settled : (p : Pair) (n : ℕ) (z : ℤ) → number_in (Int z) ≡ marks_in 3 (old.now.trees 3) p
        → Edits 3 (Puts (key_of p) (marks_cells (text_of p.from) (text_of p.to) z (pos n))) old new
        → Makes f (with_settled p n) count old new
    puts_settled p n z is h = puts_marks p z (pos n) (marks_in 3 (old.now.trees 3) p) n (with_settled p n) is refl h
        (λ i. record (tables_of f old.now.trees) {
          sent = λ q. sym (stays_mark p q (marks_in 3 (old.now.trees 3))) i;
          settled = set_mark p n (marks_in 4 (old.now.trees 3));
        })

    -- a row is added to the journal
    pub adds : (cells : Cells) (row : JournalRow C) → ((id : ℤ) → row_in f (Int id ∷ cells) ≡ row)
        → Edits 0 (Adds cells) old new → Makes f (with_row row) (count + 1) old new
    adds cells row is h =
        let rows = old.now.trees 0 in
        let same = h.same_schema ∙ filed.is in
        let left = subst (λ s. AllByRecursion (IsLeft 0 old.now.trees new.now.trees) s.tables) filed.is h.others in
        let kept = frame f.schema f.is_service f.apart 0 old.now.trees new.now.trees (omega arith) left in
        let id = next_rowid rows in
        let at : id ≡ pos (1 + length rows) = next_is 1 rows (pos 1) refl filed.numbered in
        record {
          tables = λ i. record {
            journal = (ap (map (row_in f)) h.rows ∙ map_behind (row_in f) rows (Int id ∷ cells)
                ∙ ap (λ r. map (row_in f) rows ++ r ∷ []) (is id)) i;
            entity = f.depends old.now.trees new.now.trees kept.own i;
            unsettled = messages_in (kept.outbox (λ e. omega (arith, e)) i);
            sent = marks_in 3 (kept.out_marks (λ e. omega (arith, e)) i);
            settled = marks_in 4 (kept.out_marks (λ e. omega (arith, e)) i);
            handled = marks_in 3 (kept.in_marks (λ e. omega (arith, e)) i);
            held = messages_in (kept.held (λ e. omega (arith, e)) i);
          };
          filed = record {
            is = same;
            rising = rising_after 0 old.now.trees new.now.trees h.rising f.schema.tables left filed.rising;
            counted = ap (λ n. n + 1) filed.counted ∙ sym (ap length h.rows ∙ length_behind rows (Int id ∷ cells));
            numbered = subst (AreNumbered 1) (sym h.rows)
                (numbered_behind 1 rows (Int id ∷ cells) filed.numbered (ap Int at));
          };
          sound = h.sound;
          shown = h.shown;
        }

-- ---- where a write was made, with what was bound to its text

module _ {S C : Type 0} (f : Filing S C) (old new : State) (count : ℕ) (filed : IsFiled f.schema count old.now)
    (was : IsDatabase old.now) (p : Pair) (n : ℕ) (s t : List ℕ) (z : ℤ) (from : s ≡ text_of p.from)
    (to : t ≡ text_of p.to) (number : z ≡ pos n) where
  pub handles_bound : Edits 5 (Puts (pair_key s t) (place_cells s t z)) old new
      → Makes f (changed_by (Handled p n)) count old new
  handles_bound h = handles f old new count filed was p n (rw (from, to, number) at h)

  pub releases_bound : Edits 7 (IsCut (has_key (place_key s t z))) old new
      → Makes f (changed_by (NotHeld p n)) count old new
  releases_bound h = releases f old new count filed was p n (rw (from, to, number) at h)

  pub takes_letters_bound : Edits 1 (IsCut (is_upto s t z)) old new → Makes f (without_letters p n) count old new
  takes_letters_bound h = takes_letters f old new count filed was p n (rw (from, to, number) at h)

module _ {S C : Type 0} (f : Filing S C) (old new : State) (count : ℕ) (filed : IsFiled f.schema count old.now)
    (was : IsDatabase old.now) (l : Letter) (s t : List ℕ) (z : ℤ) (b : List ℕ) (from : s ≡ text_of l.pair.from)
    (to : t ≡ text_of l.pair.to) (number : z ≡ pos l.number) (is : message_in (Text b) ≡ l.message) where
  pub holds_bound : Edits 7 (Puts (place_key s t z) (letter_cells s t z b)) old new
      → Makes f (changed_by (Held l)) count old new
  holds_bound h = holds f old new count filed was l b is (rw (from, to, number) at h)

  pub puts_letter_bound : Edits 1 (Puts (place_key s t z) (letter_cells s t z b)) old new
      → Makes f (with_letter l) count old new
  puts_letter_bound h = puts_letter f old new count filed was l b is (rw (from, to, number) at h)

-- one more of the changes is made
pub one_more : {S C : Type 0} (f : Filing S C) (c : Change S C) (rest all : List (Change S C)) (m n : ℕ) (old mid
    new : State)
    → Makes f (changed_by c) n mid new → IsUnderWay f (c ∷ rest) all m old mid → IsUnderWay f rest all n old new
one_more f c rest all m n old mid new made way = record {
  left = ap (changed rest) made.tables ∙ way.left;
  filed = made.filed;
  sound = made.sound;
  shown = record {
    was_open = way.shown.was_open;
    is_open = made.shown.is_open;
    now_is = refl;
    committed_is = made.shown.committed_is ∙ way.shown.committed_is;
    mode = made.shown.mode;
  };
}

-- two steps that leave nothing new after a crash are one such step
pub survives_quietly : (a b c : State) → Survives a b (λ _. ⊥) → Survives b c (λ _. ⊥) → Survives a c (λ _. ⊥)
survives_quietly a b c p q = survives_then a b c _ _ (λ _. ⊥) (λ _ db none. none) (λ _ db none. none) p q

-- ---- two writes, and a read before a write

module _ {S C : Type 0} (f : Filing S C) (old mid new : State) where
  pub after_look : (change : Tables S C → Tables S C) (count : ℕ) → IsUnchanged old mid → Makes f change count mid new
      → Makes f change count old new
  after_look change count same made = record {
    tables = made.tables ∙ ap (λ (d : Database). change (tables_of f d.trees)) same.0.now_is;
    filed = made.filed;
    sound = made.sound;
    shown = record {
      was_open = same.0.was_open;
      is_open = made.shown.is_open;
      now_is = refl;
      committed_is = made.shown.committed_is ∙ same.0.committed_is;
      mode = made.shown.mode;
    };
  }

  pub both_made : {E : Type 0} (a b : Tables S C → Tables S C) (m : ℕ) (r : Result ℕ E) → Makes f a m old mid
      → IfOk r (λ n. Makes f b n mid new) → IfOk r (λ n. Makes f (λ t. b (a t)) n old new)
  both_made a b m (Ok n) first second = record {
    tables = second.tables ∙ ap b first.tables;
    filed = second.filed;
    sound = second.sound;
    shown = record {
      was_open = first.shown.was_open;
      is_open = second.shown.is_open;
      now_is = refl;
      committed_is = second.shown.committed_is ∙ first.shown.committed_is;
      mode = second.shown.mode;
    };
  }
  both_made a b m (Err e) first second = tt

  pub both_keep : KeepsCommit old mid → KeepsCommit mid new → KeepsCommit old new
  both_keep first second = record {
    was_open = λ live. first.was_open (second.was_open live);
    committed = λ live. second.committed live ∙ first.committed (second.was_open live);
  }

  module _ (count : ℕ) (filed : IsFiled f.schema count old.now) (was : IsDatabase old.now) (same : IsUnchanged old
      mid) (p : Pair) (n : ℕ)
      (s t : List ℕ) (from : s ≡ text_of p.from) (to : t ≡ text_of p.to) (z y : ℤ) (number : z ≡ pos n) where
    mid_filed : IsFiled f.schema count mid.now
    mid_filed = subst (IsFiled f.schema count) (sym same.0.now_is) filed

    mid_was : IsDatabase mid.now
    mid_was = subst IsDatabase (sym same.0.now_is) was

    pub sent_bound : number_in (Int y) ≡ marks_in 4 (old.now.trees 3) p
        → Edits 3 (Puts (pair_key s t) (marks_cells s t z y)) mid new
        → Makes f (with_sent p n) count old new
    sent_bound is h = after_look (with_sent p n) count same (puts_sent f mid new count mid_filed mid_was p n y
        (is ∙ ap (λ (d : Database). marks_in 4 (d.trees 3) p) (sym same.0.now_is)) (rw (from, to, number) at h))

    pub settled_bound : number_in (Int y) ≡ marks_in 3 (old.now.trees 3) p
        → Edits 3 (Puts (pair_key s t) (marks_cells s t y z)) mid new
        → Makes f (with_settled p n) count old new
    settled_bound is h = after_look (with_settled p n) count same (puts_settled f mid new count mid_filed mid_was p n y
        (is ∙ ap (λ (d : Database). marks_in 3 (d.trees 3) p) (sym same.0.now_is)) (rw (from, to, number) at h))
