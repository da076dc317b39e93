-- Rows of a key that stand in place of those that were cut.
use Rattle.std.proofs.Common.{◌≡◌, ℕ, List, [], ◌∷◌, ◌++◌, map, drop, filter, Bool, true, refl, sym, ap, ap₂, ◌∙◌}
use Rattle.std.proofs.Common.{inl, inr, append-nil, append_assoc, ◌<◌, ◌+◌, length, get_or, take, subst}
use Rattle.std.specs.Prelude.{IsTrue}
use Rattle.std.specs.Cmp.{tied_itself}
use Rattle.std.proofs.lemmas.List.{take_more}
use Rattle.std.proofs.lemmas.List.Elements.{filter-append}
use Rattle.sqlite.specs.declared.types.Value.TheVariants.{Int, Text}
use Rattle.sqlite.specs.Effect.{IsDatabase}
use Rattle.sqlite.specs.State.{State, KeepsCommit}
use Rattle.sqlite_value.specs.Order.{Row, column}
use Rattle.sqlite_value.proofs.OrderLemmas.{value_cmp_total}
use Rattle.sqlite_rules.specs.Edit.{next_rowid}
use Rattle.sqlite_rules.specs.Lists.{Has}
use Rattle.sqlite_rules.proofs.ListLemmas.{all_from}
use Rattle.sql_rows.specs.Tables.{Cells, has_key, text_key, IsRising, IsCut, Adds, Edits}
use Rattle.keep_sqlite.specs.AddedRows.{AreAdded}
use Rattle.keep_sqlite.proofs.Changes.{map_behind}
use Rattle.keep_sqlite.proofs.Keys.{one_key}
use Rattle.keep_sqlite.proofs.Lookup.{not_true}
use Rattle.keep_sqlite.proofs.OwnTables.{edits_then}
use Rattle.keep_sqlite.proofs.Passing.{none_pass, all_pass, passing_cut, passing_apart}

module _ {X : Type 0} (key : List ℕ) (cells : X → Cells) (keyed : (x : X) → column (cells x) 0 ≡ Text key) where
  -- a row of such cells is one of the key
  all_keyed : (xs : List X) (rows : List Row) → map (drop 1) rows ≡ map cells xs → (r : Row) → Has rows r
      → has_key (text_key key) r ≡ true
  all_keyed xs [] is r h = absurd h
  all_keyed [] (q ∷ rows) is r h = absurd (cc)
  all_keyed (x ∷ xs) ([] ∷ rows) is r h =
      absurd (let e : [] ≡ cells x = cc in
      let k = ap (λ (c : Cells). column c 0) e ∙ keyed x in cc)
  all_keyed (x ∷ xs) ((v ∷ c) ∷ rows) is r (inl same) =
      let here : c ≡ cells x = cc in
      let at : column r 1 ≡ Text key = ap (λ (y : Row). column y 1) same ∙ ap (λ (d : Cells). column d 0) here
      ∙ keyed x in
      rw (at, tied_itself value_cmp_total (Text key)) refl
  all_keyed (x ∷ xs) ((v ∷ c) ∷ rows) is r (inr later) =
      let rest : map (drop 1) rows ≡ map cells xs = cc in
      all_keyed xs rows rest r later

  module _ (xs : List X) (rows cut after : List Row) (before : IsRising rows) (now : IsRising cut)
      (gone : IsCut (has_key (text_key key)) rows cut) (new : AreAdded (map cells xs) cut after) where
    passing : (p : Row → Bool) → filter p after ≡ filter p cut ++ filter p new.added
    passing p = ap (filter p) new.behind ∙ filter-append p cut new.added

    pub own_rows : filter (has_key (text_key key)) after ≡ new.added
    own_rows = passing (has_key (text_key key)) ∙ ap₂ ◌++◌
        (passing_cut (has_key (text_key key)) rows cut (has_key (text_key key)) gone (λ x is. is))
        (all_pass (has_key (text_key key)) new.added (all_keyed xs new.added new.cells))

    pub other_rows : (other : List ℕ) → (key ≡ other → ⊥)
        → filter (has_key (text_key other)) after ≡ filter (has_key (text_key other)) rows
    other_rows other differs = passing (has_key (text_key other)) ∙ ap₂ ◌++◌
        (passing_apart (has_key (text_key other)) rows cut (has_key (text_key key)) before.ordered now.ordered gone
        (λ x a b. differs (one_key x key other a b)))
        (none_pass (has_key (text_key other)) new.added (λ x h. not_true _ (λ is.
        differs (one_key x key other (all_keyed xs new.added new.cells x h) is))))
        ∙ append-nil _

-- ---- one by one

pub edits_keep : (tree : ℕ) (B : List Row → List Row → Type 0) (old new : State) → Edits tree B old new
    → KeepsCommit old new
edits_keep tree B old new h = record { was_open = λ _. h.shown.was_open; committed = λ _. h.shown.committed_is }

-- none is added yet
pub none_added : (tree : ℕ) (old : State) → IsRising (old.now.trees tree) → IsDatabase old.now
    → IsTrue old.in_transaction → IsTrue old.is_open → Edits tree (AreAdded []) old old
none_added tree old rising sound inside live = record {
  rows = record { added = []; behind = sym (append-nil _); cells = refl };
  rising = rising;
  others = all_from _ old.now.schema.tables (λ t h other. refl);
  same_schema = refl;
  sound = sound;
  shown = record { was_open = live; is_open = live; now_is = refl; committed_is = refl; mode = inside };
}

-- one more is added
pub one_more_row : (all : List Cells) (cells : Cells) (rows mid after : List Row) → AreAdded all rows mid
    → Adds cells mid after → AreAdded (all ++ cells ∷ []) rows after
one_more_row all cells rows mid after some one = record {
  added = some.added ++ (Int (next_rowid mid) ∷ cells) ∷ [];
  behind = one ∙ ap (λ l. l ++ (Int (next_rowid mid) ∷ cells) ∷ []) some.behind ∙ append_assoc rows some.added _;
  cells = map_behind (drop 1) some.added (Int (next_rowid mid) ∷ cells) ∙ ap (λ l. l ++ cells ∷ []) some.cells;
}

-- and one of these
pub one_more_added : {X : Type 0} (cells : X → Cells) (xs : List X) (at : ℕ) (x : X) → at < length xs
    → x ≡ get_or xs at x → (tree : ℕ) (old mid new : State) → Edits tree (AreAdded (map cells (take at xs))) old mid
    → Edits tree (Adds (cells x)) mid new → Edits tree (AreAdded (map cells (take (at + 1) xs))) old new
one_more_added cells xs at x within is tree old mid new first second =
    let all : map cells (take at xs) ++ cells x ∷ [] ≡ map cells (take (at + 1) xs) =
    sym (map_behind cells (take at xs) x)
    ∙ ap (λ y. map cells (take at xs ++ y ∷ [])) is
    ∙ ap (map cells) (sym (take_more xs at x within)) in
    subst (λ l. Edits tree (AreAdded l) old new) all
    (edits_then tree _ _ _ old mid new first second
    (one_more_row (map cells (take at xs)) (cells x) (old.now.trees tree) (mid.now.trees tree) (new.now.trees tree)))
