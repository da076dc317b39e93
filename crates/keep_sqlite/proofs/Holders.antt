-- What the writes make of stocks and accounts, and what the reads tell of them.
use Rattle.std.proofs.Common.{◌≡◌, ℕ, ℤ, List, [], ◌∷◌, map, drop, filter, true, cond, slice_get}
use Rattle.std.proofs.Common.{Option, Some, None, Ordering, refl, sym, ap, ap₂, subst, ◌∙◌, inl, inr, arith, true≢false}
use Rattle.std.proofs.Common.{◌<◌, ◌+◌, ◌++◌, length, get_or, take, Result, IfOk}
use Rattle.std.specs.Prelude.{find, option_map}
use Rattle.std.specs.Option.{option_and_then}
use Rattle.std.proofs.lemmas.List.{take_more}
use Rattle.std.specs.List.{AllByRecursion}
use Rattle.std.proofs.lemmas.Bool.{cases_Bool}
use Rattle.sqlite.specs.declared.types.Value.TheVariants.{Int, Text}
use Rattle.sqlite_value.specs.Order.{Row, column, bytes}
use Rattle.sqlite_trees.specs.Tree.{Trees}
use Rattle.sqlite_catalog.specs.Listing.{IsSound}
use Rattle.sqlite_rules.specs.Lists.{Has}
use Rattle.sqlite.specs.Effect.{IsDatabase}
use Rattle.sqlite.specs.State.{State}
use Rattle.base.specs.Entity.{Entity}
use Rattle.base.specs.Order.{same_entity}
use Rattle.base.specs.declared.entity.Kind.{Kind}
use Rattle.base.proofs.Entities.{same_entity-Decides}
use Rattle.trade.specs.Lines.{Line}
use Rattle.trade.specs.Sound.{AreLinesSound}
use Rattle.trade.specs.declared.line_phase.LinePhase.{LinePhase}
use Rattle.keep.specs.Tables.{changed_by, set_entity}
use Rattle.keep.specs.declared.change.Change.TheVariants.{State as StateChange}
use Rattle.sql_bodies.specs.LineRows.{line_from, lines_with, IsRow}
use Rattle.sql_bodies.proofs.LineRows.{lines_shuffled, of_order}
use Rattle.sql_rows.specs.Tables.{Cells, has_key, text_key, IsRising, IsCut, Puts, Edits}
use Rattle.sql_rows.specs.Tables.{AreInOrder}
use Rattle.keep_sqlite.specs.AddedRows.{AreAdded}
use Rattle.keep_sqlite.specs.Filing.{Filing}
use Rattle.keep_sqlite.specs.Holders.{Holders, holder_in, state_in, lines_in, line_in, shown_line}
use Rattle.keep_sqlite.specs.Holders.{line_cells}
use Rattle.keep_sqlite.specs.Ready.{AreRising, IsFiled, Makes}
use Rattle.keep_sqlite.specs.Tables.{number_in}
use Rattle.keep_sqlite.proofs.AddedRows.{own_rows, other_rows}
use Rattle.keep_sqlite.proofs.Keys.{one_key}
use Rattle.keep_sqlite.proofs.Lookup.{IsOne, cut_gone, cut_apart, set_here, set_apart}
use Rattle.keep_sqlite.proofs.OwnTables.{AreApart, WritesOwn, heads_stay, lines_stay, own_first, own_then, makes_state}
use Rattle.keep_sqlite.proofs.Passing.{passing_apart}
use Rattle.keep_sqlite.proofs.Reading.{shown_row}
use Rattle.keep_sqlite.proofs.Steps.{steps_map, steps_more}

-- heads of the tree 9 and lines of the tree 11
pub record AreHeld {S C : Type 0} (f : Filing S C) (h : Holders S) (kind : Kind) (word : LinePhase → List ℕ) :
    Type 0 where
  pub tells : (db : Trees) → f.entity db ≡ (λ e. holder_in h e (db 9) (db 11))
  pub is : h.is_one kind ≡ true
  pub only : (k : Kind) → h.is_one k ≡ true → k ≡ kind
  pub back : (ls : List Line) → AreLinesSound ls → AllByRecursion IsRow ls
      → lines_in (λ (l : Line). line_from (h.phase_in (word l.phase)) l.order.key l.n) ls ≡ Some ls
  pub one_head : (db : Trees) → IsSound f.schema db → AreRising f.schema db → (k : List ℕ)
      → IsOne (has_key (text_key k)) (db 9)
  pub lines_rise : (db : Trees) → AreRising f.schema db → IsRising (db 11)
  pub order_text : (db : Trees) → IsSound f.schema db → (r : Row) → Has (db 11) r
      → (s : List ℕ) × (column r 2 ≡ Text s)
  pub apart : AreApart f.schema

-- ---- rows of lines

-- what the rows of lines tell is what is read of what was written
lines_tell : (phase_in : List ℕ → Option LinePhase) (word : LinePhase → List ℕ) (key : List ℕ) (ls : List Line)
    (rows : List Row) → map (drop 1) rows ≡ map (line_cells word key) ls
    → map (line_in phase_in) rows ≡ map (λ (l : Line). line_from (phase_in (word l.phase)) l.order.key l.n) ls
lines_tell phase_in word key [] [] is = refl
lines_tell phase_in word key [] (r ∷ rows) is = absurd (cc)
lines_tell phase_in word key (l ∷ ls) [] is = absurd (cc)
lines_tell phase_in word key (l ∷ ls) ([] ∷ rows) is = absurd (cc)
lines_tell phase_in word key (l ∷ ls) ((v ∷ cells) ∷ rows) is =
    let here : cells ≡ line_cells word key l = cc in
    ap₂ ◌∷◌ (ap (λ (c : Cells). line_in phase_in (v ∷ c)) here) (lines_tell phase_in word key ls rows (cc))

by_lines : {R : Type 0} (line : R → Option Line) (rows : List R)
    → lines_in line rows ≡ lines_in (λ (o : Option Line). o) (map line rows)
by_lines line rows = sym (steps_map line (λ o. lines_with o) rows [])

-- ---- entities

module _ {S C : Type 0} (f : Filing S C) (h : Holders S) (kind : Kind) (word : LinePhase → List ℕ)
    (held : AreHeld f h kind word) where
  abbrev pub of_key : List ℕ → List Row → List Row → Option S
  of_key k heads lines = state_in h.state (line_in h.phase_in) (find (has_key (text_key k)) heads)
      (filter (has_key (text_key k)) lines)

  module _ (key : List ℕ) where
    abbrev one : Entity
    one = record { kind = kind; key = key }

    -- the state of one is as it was set, and those of the others are as they were
    pub sets_row : (row : Option S) (heads lines heads_after lines_after : List Row)
        → of_key key heads_after lines_after ≡ row
        → ((k : List ℕ) → (key ≡ k → ⊥) → of_key k heads_after lines_after ≡ of_key k heads lines) → (x : Entity)
        → holder_in h x heads_after lines_after ≡ set_entity one row (λ e. holder_in h e heads lines) x
    sets_row row heads lines heads_after lines_after here apart x = elim (cases_Bool (same_entity one x)) [
      | inl same ↦ rw same (
          let e : one ≡ x = (same_entity-Decides one x).0 same in
          subst (λ y. holder_in h y heads_after lines_after ≡ row) e
          (ap (λ is. cond is (of_key key heads_after lines_after) None) held.is ∙ here))
      | inr other ↦ rw other (elim (cases_Bool (h.is_one x.kind)) [
        | inl is ↦ rw is (apart x.key (λ e.
            let same : one ≡ x = λ i. record { kind = sym (held.only x.kind is) i; key = e i } in
            true≢false (sym ((same_entity-Decides one x).1 same) ∙ other)))
        | inr isnt ↦ rw isnt refl
      ])
    ]

    pub made : (count : ℕ) (row : Option S) (old new : State)
        → WritesOwn f.schema count old new
        → ((x : Entity) → holder_in h x (new.now.trees 9) (new.now.trees 11)
        ≡ set_entity one row (λ e. holder_in h e (old.now.trees 9) (old.now.trees 11)) x)
        → Makes f (changed_by (StateChange one row)) count old new
    made count row old new writes sets = makes_state f count one row old new writes (λ x.
        ap (λ (rows : Entity → Option S). rows x) (held.tells new.now.trees) ∙ sets x
        ∙ ap (λ (rows : Entity → Option S). set_entity one row rows x) (sym (held.tells old.now.trees)))

    -- one is taken away: its lines, and then its head
    pub removes : (count : ℕ) (old mid new : State) → IsFiled f.schema count old.now → IsDatabase old.now
        → Edits 11 (IsCut (has_key (text_key key))) old mid → Edits 9 (IsCut (has_key (text_key key))) mid new
        → Makes f (changed_by (StateChange one None)) count old new
    removes count old mid new filed sound first second =
        let a = old.now.trees in let b = mid.now.trees in let c = new.now.trees in
        let half = own_first f count 11 _ old mid (omega arith) filed first in
        let rest = own_first f count 9 _ mid new (omega arith) half.filed second in
        let heads : b 9 ≡ a 9 = heads_stay held.apart _ old mid filed.is first in
        let lines : c 11 ≡ b 11 = lines_stay held.apart _ mid new half.filed.is second in
        let gone = subst (λ rows. IsCut (has_key (text_key key)) rows (c 9)) heads second.rows in
        let cut = subst (IsCut (has_key (text_key key)) (a 11)) (sym lines) first.rows in
        let unique = held.one_head a (subst (λ s. IsSound s a) filed.is sound) filed.rising in
        made count None old new (own_then f count old mid new half rest)
        (sets_row None (a 9) (a 11) (c 9) (c 11)
        (rw (cut_gone (has_key (text_key key)) (has_key (text_key key)) (a 9) (c 9) gone (λ x is. is)) refl)
        (λ k differs. ap₂ (state_in h.state (line_in h.phase_in))
        (cut_apart (has_key (text_key k)) (has_key (text_key key)) (a 9) (c 9) (unique k) gone
        (λ x u v. differs (one_key x key k u v)))
        (passing_apart (has_key (text_key k)) (a 11) (c 11) (has_key (text_key key))
        (held.lines_rise a filed.rising).ordered (held.lines_rise c rest.filed.rising).ordered cut
        (λ x u v. differs (one_key x key k u v)))))

    -- one is set: its lines are taken away, its head is put, and its lines are added
    pub sets : (cells : Cells) (ls : List Line) (s : S) → ((id : ℤ) → h.state (Int id ∷ cells) ls ≡ s)
        → AreLinesSound ls → AllByRecursion IsRow ls → (count : ℕ) (old cut head new : State)
        → IsFiled f.schema count old.now → IsDatabase old.now → Edits 11 (IsCut (has_key (text_key key))) old cut
        → Edits 9 (Puts (text_key key) cells) cut head
        → Edits 11 (AreAdded (map (line_cells word key) ls)) head new
        → Makes f (changed_by (StateChange one (Some s))) count old new
    sets cells ls s is lines_sound rows count old cut head new filed sound first second third =
        let a = old.now.trees in let b = cut.now.trees in let c = head.now.trees in let d = new.now.trees in
        let one_third = own_first f count 11 _ old cut (omega arith) filed first in
        let two_thirds = own_first f count 9 _ cut head (omega arith) one_third.filed second in
        let rest = own_first f count 11 _ head new (omega arith) two_thirds.filed third in
        let heads : b 9 ≡ a 9 = heads_stay held.apart _ old cut filed.is first in
        let lines : c 11 ≡ b 11 = lines_stay held.apart _ cut head one_third.filed.is second in
        let after : d 9 ≡ c 9 = heads_stay held.apart _ head new two_thirds.filed.is third in
        let put = subst (λ rows. Puts (text_key key) cells rows (d 9)) heads
        (subst (Puts (text_key key) cells (b 9)) (sym after) second.rows) in
        let added = subst (λ rows. AreAdded (map (line_cells word key) ls) rows (d 11)) lines third.rows in
        let unique = held.one_head a (subst (λ s. IsSound s a) filed.is sound) filed.rising in
        let still = held.one_head d (subst (λ s. IsSound s d) rest.filed.is rest.sound) rest.filed.rising in
        let before = held.lines_rise a filed.rising in
        let now = held.lines_rise b one_third.filed.rising in
        let row : Row = Int put.0 ∷ cells in
        let told : lines_in (line_in h.phase_in) added.added ≡ Some ls =
        by_lines (line_in h.phase_in) added.added
        ∙ ap (lines_in (λ (o : Option Line). o)) (lines_tell h.phase_in word key ls added.added added.cells)
        ∙ sym (by_lines (λ (l : Line). line_from (h.phase_in (word l.phase)) l.order.key l.n) ls)
        ∙ held.back ls lines_sound rows in
        made count (Some s) old new
        (own_then f count old cut new one_third (own_then f count cut head new two_thirds rest))
        (sets_row (Some s) (a 9) (a 11) (d 9) (d 11)
        (ap₂ (state_in h.state (line_in h.phase_in))
        (set_here (has_key (text_key key)) (has_key (text_key key)) (a 9) (d 9) row (still key) put.1 put.1.passes)
        (own_rows key (line_cells word key) (λ l. refl) ls (a 11) (b 11) (d 11) before now first.rows added)
        ∙ ap (option_map (h.state row)) told ∙ ap Some (is put.0))
        (λ k differs. ap₂ (state_in h.state (line_in h.phase_in))
        (set_apart (has_key (text_key k)) (has_key (text_key key)) (a 9) (d 9) row (unique k) put.1
        (λ x u v. differs (one_key x key k u v)))
        (other_rows key (line_cells word key) (λ l. refl) ls (a 11) (b 11) (d 11) before now first.rows added k
        differs)))

-- ---- what answers tell

-- as a SELECT shows a line
abbrev pub show_line : Row → Row
show_line r = column r 2 ∷ column r 3 ∷ column r 4 ∷ []

lines_shown : (phase_in : List ℕ → Option LinePhase) (cmp : Row → Row → Ordering) (rows items : List Row)
    → AreInOrder cmp None show_line rows items → lines_in (shown_line phase_in) items ≡ lines_in (line_in phase_in) rows
lines_shown phase_in cmp rows items a = ap (lines_in (shown_line phase_in)) a.shown
    ∙ steps_map show_line (λ r. lines_with (shown_line phase_in r)) a.all []
    ∙ lines_shuffled (line_in phase_in) (λ r l e. of_order (phase_in (bytes (column r 4))) (bytes (column r 2))
    (number_in (column r 3)) l e) rows a.all [] a.same

-- the state that both answers tell is the one that the tables tell
pub state_shown : {S : Type 0} (h : Holders S) (shown : Row → List Line → S) (show : Row → Row)
    → ((r : Row) (ls : List Line) → shown (show r) ls ≡ h.state r ls) → (key : List ℕ) (heads lines : List Row)
    → IsOne (has_key (text_key key)) heads → (by_head by_line : Row → Row → Ordering)
    (head_items line_items : List Row)
    → AreInOrder by_head None show (filter (has_key (text_key key)) heads) head_items
    → AreInOrder by_line None show_line (filter (has_key (text_key key)) lines) line_items
    → state_in shown (shown_line h.phase_in) (slice_get head_items 0) line_items
    ≡ state_in h.state (line_in h.phase_in) (find (has_key (text_key key)) heads)
    (filter (has_key (text_key key)) lines)
state_shown h shown show same key heads lines unique by_head by_line head_items line_items a b =
    elim (shown_row (has_key (text_key key)) heads unique by_head show head_items a) [
      | inl none ↦ rw (none.0, none.1) refl
      | inr some ↦ rw (some.2, some.3) (
          ap (option_map (shown (show some.0))) (lines_shown h.phase_in by_line _ line_items b)
          ∙ ap (λ (state : List Line → _). option_map state
          (lines_in (line_in h.phase_in) (filter (has_key (text_key key)) lines))) (λ i ls. same some.0 ls i))
    ]

-- one more line is read
pub one_more_line : (line : Row → Option Line) (rows : List Row) (at : ℕ) (row : Row) (some more : List Line)
    → at < length rows → row ≡ get_or rows at row → lines_in line (take at rows) ≡ Some some
    → lines_with (line row) some ≡ Some more → lines_in line (take (at + 1) rows) ≡ Some more
one_more_line line rows at row some more within is so_far told =
    ap (lines_in line) (take_more rows at row within ∙ ap (λ r. take at rows ++ r ∷ []) (sym is))
    ∙ steps_more (λ r. lines_with (line r)) (take at rows) row []
    ∙ ap (option_and_then (lines_with (line row))) so_far
    ∙ told

-- what is made of one is made of an entity of that kind and key
pub of_entity : {S C E : Type 0} (f : Filing S C) (kind : Kind) (key : List ℕ) (e : Entity) (row given : Option S)
    (r : Result ℕ E) (old new : State) → e.kind ≡ kind → key ≡ e.key → row ≡ given
    → IfOk r (λ n. Makes f (changed_by (StateChange (record { kind = kind; key = key }) row)) n old new)
    → IfOk r (λ n. Makes f (changed_by (StateChange e given)) n old new)
of_entity f kind key e row given r old new of_kind of_key is h = rw (← of_kind, of_key, is) at h
