-- What becomes of the orders of version 1.
use Rattle.std.proofs.Common.{◌≡◌, inl, inr, ℕ, List, [], ◌∷◌, ◌++◌, true, false, Option, Some, None, refl, sym, ap}
use Rattle.std.proofs.Common.{subst, ◌∙◌, map, length, take, drop, get_or, ◌<◌, ◌+◌, IsPermutation, arith}
use Rattle.std.specs.Prelude.{IsTrue, find, string_bytes}
use Rattle.std.specs.Ordering.{is_eq}
use Rattle.std.proofs.lemmas.Slice.Eq.{bytes_eq-Decides}
use Rattle.std.proofs.lemmas.Map.Text.{is_eq-slice_cmp}
use Rattle.std.proofs.lemmas.List.{take_more, drop-map, drop_more}
use Rattle.std.proofs.lemmas.List.Sorted.{Contains-permutation, IsPermutation-sym}
use Rattle.sqlite.specs.declared.types.Value.TheVariants.{Text}
use Rattle.sqlite_value.specs.Order.{Row, column, value_cmp}
use Rattle.sqlite_value.proofs.OrderLemmas.{value_cmp-Text}
use Rattle.sqlite_trees.specs.Tree.{Trees}
use Rattle.sqlite_catalog.specs.Change.{KeepsRows}
use Rattle.sqlite_catalog.specs.Listing.{IsSound}
use Rattle.sqlite.specs.Effect.{Database, IsDatabase}
use Rattle.sqlite.specs.State.{IsUnchanged, KeepsCommit, State, Survives}
use Rattle.sqlite_rules.specs.Lists.{Has}
use Rattle.sqlite_rules.proofs.ListLemmas.{has_found, has_contained, contains_had}
use Rattle.base.specs.Entity.{Entity, order_of}
use Rattle.base.specs.Order.{same_entity}
use Rattle.base.specs.declared.entity.Kind.{Kind}
use Rattle.base.specs.declared.entity.Kind.TheVariants as kind
use Rattle.base.proofs.Entities.{same_entity-Decides}
use Rattle.keep.specs.Tables.{Tables, changed, changed_by}
use Rattle.keep.specs.declared.change.Change.TheVariants.{State as StateChange}
use Rattle.trade.specs.Orders.{OrderState}
use Rattle.trade.specs.declared.commands.OrderCommand.{OrderCommand}
use Rattle.sql_rows.specs.FirstVersion.{IsReplaced, about_row, first_purchasing, orders as first_table}
use Rattle.sql_rows.specs.Schema.{common_tables, purchasing}
use Rattle.sql_rows.specs.declared.service.Service.TheVariants.{Purchasing}
use Rattle.sql_rows.specs.Tables.{has_key, text_key, AreInOrder, by_text, IsRising}
use Rattle.keep_sqlite.specs.Found.{IsAbout, TellsOf}
use Rattle.keep_sqlite.specs.Migration.{IsFirst, Renews, RenewsJournal, first_order_in, first_order_at, first_orders}
use Rattle.keep_sqlite.specs.Migration.{first_row_in, first_tables_of}
use Rattle.keep_sqlite.specs.OrderRenewal.{TellsOrder, AreTold, order_change}
use Rattle.keep_sqlite.specs.Orders.{order_at, orders, placed, no_order as no_heads}
use Rattle.keep_sqlite.specs.Ready.{AreRising, IsFiled, IsUnderWay, Makes}
use Rattle.keep_sqlite.specs.Tables.{marks_in, messages_in, tables_of}
use Rattle.keep_sqlite.specs.declared.order_renewal.KeyedOrder.{KeyedOrder}
use Rattle.keep_sqlite.proofs.Changes.{both_keep, one_more, survives_quietly}
use Rattle.keep_sqlite.proofs.Keys.{one_key, one_of_text}
use Rattle.keep_sqlite.proofs.Lookup.{IsOne, found_some, not_true}
use Rattle.keep_sqlite.proofs.NewFiles.{no_rows, one_row}

-- a row of version 1, as an answer shows it
abbrev pub shown_order : Row → Row
shown_order x =
    column x 1 ∷ column x 2 ∷ column x 3 ∷ column x 4 ∷ column x 5 ∷ column x 6 ∷ column x 7 ∷ column x 8 ∷ []

abbrev pub OrderTables : Type 0
OrderTables = Tables (Option OrderState) OrderCommand

-- the tables, where these orders were put
abbrev pub with_orders : List KeyedOrder → OrderTables → OrderTables
with_orders os t = changed (map order_change os) t

-- ---- what is put, and what is not

-- no table but that of states is changed
pub only_states : (os : List KeyedOrder) (t : OrderTables)
    → with_orders os t ≡ record t { entity = (with_orders os t).entity }
only_states [] t = refl
only_states (o ∷ os) t = only_states os (changed_by (order_change o) t)

-- an entity that none of them is has the state that it had
left_by : (o : KeyedOrder) (t : OrderTables) (e : Entity) → (order_of (string_bytes o.key) ≡ e → ⊥)
    → (changed_by (order_change o) t).entity e ≡ t.entity e
left_by o t e other =
    let differs : same_entity (order_of (string_bytes o.key)) e ≡ false =
    not_true _ (λ same. other ((same_entity-Decides (order_of (string_bytes o.key)) e).0 same)) in
    rw differs refl

no_order : (os : List KeyedOrder) (t : OrderTables) (e : Entity) → (e.kind ≡ kind.Order → ⊥)
    → (with_orders os t).entity e ≡ t.entity e
no_order [] t e other = refl
no_order (o ∷ os) t e other =
    no_order os (changed_by (order_change o) t) e other
    ∙ left_by o t e (λ same. other (sym (ap (λ (x : Entity). x.kind) same)))

-- a row has the key that its order has
has_own : (r : Row) (k : List ℕ) → column r 1 ≡ Text k → has_key (text_key k) r ≡ true
has_own r k is =
    let ties : is_eq (value_cmp (Text k) (Text k)) ≡ true =
    ap is_eq (value_cmp-Text k k) ∙ is_eq-slice_cmp k k ∙ (bytes_eq-Decides k k).1 refl in
    let here : is_eq (value_cmp (column r 1) (Text k)) ≡ true = ap (λ v. is_eq (value_cmp v (Text k))) is ∙ ties in
    rw here refl

-- where no row has a key, the order of that key has the state that it had
left_out : (rows : List Row) (os : List KeyedOrder) → AreTold (map shown_order rows) os → (k : List ℕ)
    → ((x : Row) → Has rows x → has_key (text_key k) x ≡ true → ⊥) → (t : OrderTables)
    → (with_orders os t).entity (order_of k) ≡ t.entity (order_of k)
left_out [] [] told k none t = refl
left_out [] (o ∷ os) told k none t = absurd told
left_out (r ∷ rows) [] told k none t = absurd told
left_out (r ∷ rows) (o ∷ os) told k none t =
    left_out rows os told.1 k (λ x h. none x (inr h)) (changed_by (order_change o) t)
    ∙ left_by o t (order_of k) (λ same. none r (inl refl)
    (subst (λ q. has_key (text_key q) r ≡ true) (ap (λ (x : Entity). x.key) same)
    (has_own r (string_bytes o.key) told.0.key)))

-- the order of a row is put, where its key is that of no other row behind it
put_last : (r : Row) (o : KeyedOrder) → TellsOrder (shown_order r) o → (k : List ℕ)
    → has_key (text_key k) r ≡ true → (t : OrderTables)
    → (changed_by (order_change o) t).entity (order_of k) ≡ placed (first_order_in (Some r))
put_last r o told k is t =
    let same : string_bytes o.key ≡ k = one_key r (string_bytes o.key) k (has_own r (string_bytes o.key) told.key) is in
    let here : same_entity (order_of (string_bytes o.key)) (order_of k) ≡ true =
    (same_entity-Decides (order_of (string_bytes o.key)) (order_of k)).1 (ap order_of same) in
    rw here (sym (ap placed told.order))

-- the order that a row tells is put, where its key has no other row
put_in : (rows : List Row) (os : List KeyedOrder) → AreTold (map shown_order rows) os → (k : List ℕ)
    → IsOne (has_key (text_key k)) rows → (x : Row) → Has rows x → has_key (text_key k) x ≡ true → (t : OrderTables)
    → (with_orders os t).entity (order_of k) ≡ placed (first_order_in (Some x))
put_in [] os told k one x h is t = absurd h
put_in (r ∷ rows) [] told k one x h is t = absurd told
put_in (r ∷ rows) (o ∷ os) told k one x h is t = go (find (has_key (text_key k)) rows) refl
    (λ y g hit. put_in rows os told.1 k (λ a b i j. one a b (inr i) (inr j)) y g hit (changed_by (order_change o) t))
  where
    go : (found : Option Row) → find (has_key (text_key k)) rows ≡ found
        → ((y : Row) → Has rows y → has_key (text_key k) y ≡ true
        → (with_orders os (changed_by (order_change o) t)).entity (order_of k) ≡ placed (first_order_in (Some y)))
        → (with_orders os (changed_by (order_change o) t)).entity (order_of k) ≡ placed (first_order_in (Some x))
    go (Some y) e behind =
        let f = has_found (has_key (text_key k)) rows y e in
        behind y f.0 f.1 ∙ ap (λ z. placed (first_order_in (Some z))) (one y x (inr f.0) h f.1 is)
    go None e behind =
        let none : (y : Row) → Has rows y → has_key (text_key k) y ≡ true → ⊥ =
        (λ y g hit. let s = found_some (has_key (text_key k)) rows y g hit in absurd (let z = sym s.1 ∙ e in cc)) in
        elim h [
          | inl same ↦ left_out rows os told.1 k none (changed_by (order_change o) t)
              ∙ put_last r o told.0 k (subst (λ z. has_key (text_key k) z ≡ true) same is) t
              ∙ ap (λ z. placed (first_order_in (Some z))) (sym same)
          | inr later ↦ absurd (none x later is)
        ]

-- ---- the table of version 1

-- where no entity had a state, each has the one that the rows of version 1 told, of which a key has one at most
module _ (rows all items : List Row) (os : List KeyedOrder) (same : IsPermutation rows all)
    (shown : items ≡ map shown_order all) (told : AreTold items os)
    (one : (k : List ℕ) → IsOne (has_key (text_key k)) rows) (t : OrderTables) (none : (e : Entity) → t.entity e ≡ None)
  where
    all_told : AreTold (map shown_order all) os
    all_told = subst (λ l. AreTold l os) shown told

    in_rows : (x : Row) → Has all x → Has rows x
    in_rows x h = has_contained rows x
        (Contains-permutation all rows x (IsPermutation-sym rows all same) (contains_had all x h))

    in_all : (x : Row) → Has rows x → Has all x
    in_all x h = has_contained all x (Contains-permutation rows all x same (contains_had rows x h))

    of_key : (k : List ℕ) (found : Option Row) → find (has_key (text_key k)) rows ≡ found
        → (with_orders os t).entity (order_of k) ≡ placed (first_order_in found)
    of_key k (Some x) e =
        let f = has_found (has_key (text_key k)) rows x e in
        put_in all os all_told k (λ a b h i. one k a b (in_rows a h) (in_rows b i)) x (in_all x f.0) f.1 t
    of_key k None e =
        left_out all os all_told k (λ x h hit.
        let s = found_some (has_key (text_key k)) rows x (in_rows x h) hit in absurd (let z = sym s.1 ∙ e in cc)) t
        ∙ none (order_of k)

    of_kind : (k : Kind) (key : List ℕ)
        → (with_orders os t).entity (record { kind = k; key = key }) ≡ placed (first_order_at k key rows)
    of_kind kind.Order key = of_key key (find (has_key (text_key key)) rows) refl
    of_kind kind.Stock key =
        let x : Entity = record { kind = kind.Stock; key = key } in
        no_order os t x (λ e. absurd cc) ∙ none x
    of_kind kind.Account key =
        let x : Entity = record { kind = kind.Account; key = key } in
        no_order os t x (λ e. absurd cc) ∙ none x

    pub as_it_was : (e : Entity) → (with_orders os t).entity e ≡ placed (first_order_at e.kind e.key rows)
    as_it_was e = of_kind e.kind e.key

-- the same of a database of version 1
module _ (db : Trees) (sound : IsSound first_purchasing db) (rising : IsRising (db 9)) where
  one_order : (k : List ℕ) → IsOne (has_key (text_key k)) (db 9)
  one_order = one_of_text first_purchasing db first_table sound (inr (inr (inr (inr (inr (inl refl)))))) refl refl
      rising

  pub orders_stay : (items : List Row) (os : List KeyedOrder) → AreInOrder by_text None shown_order (db 9) items
      → AreTold items os → (t : OrderTables) → ((e : Entity) → t.entity e ≡ None) → (e : Entity)
      → (with_orders os t).entity e ≡ first_orders.entity db e
  orders_stay items os a told t none e = as_it_was (db 9) a.all items os a.same a.shown told one_order t none e

-- ---- one by one

told_behind : (rows : List Row) (os : List KeyedOrder) (row : Row) (o : KeyedOrder) → AreTold rows os
    → TellsOrder row o → AreTold (rows ++ row ∷ []) (os ++ o ∷ [])
told_behind [] [] row o told one = (one, tt)
told_behind [] (x ∷ os) row o told one = absurd told
told_behind (r ∷ rows) [] row o told one = absurd told
told_behind (r ∷ rows) (x ∷ os) row o told one = (told.0, told_behind rows os row o told.1 one)

-- one more row is told
pub one_more_told : (rows : List Row) (at : ℕ) (row : Row) (os : List KeyedOrder) (o : KeyedOrder)
    (more : List KeyedOrder) → at < length rows → row ≡ get_or rows at row → AreTold (take at rows) os
    → TellsOrder row o → more ≡ os ++ o ∷ [] → AreTold (take (at + 1) rows) more
one_more_told rows at row os o more within is told one behind =
    let next : take (at + 1) rows ≡ take at rows ++ row ∷ [] =
    take_more rows at row within ∙ ap (λ r. take at rows ++ r ∷ []) (sym is) in
    subst (λ l. AreTold l more) (sym next)
    (subst (AreTold (take at rows ++ row ∷ [])) (sym behind) (told_behind (take at rows) os row o told one))

-- the next change is that of the next order
pub next_change : (os : List KeyedOrder) (at : ℕ) (o : KeyedOrder) → at < length os → o ≡ get_or os at o
    → drop at (map order_change os) ≡ order_change o ∷ drop (at + 1) (map order_change os)
next_change os at o within is =
    drop-map order_change at os
    ∙ ap (map order_change) (drop_more os at o within ∙ ap (λ x. x ∷ drop (at + 1) os) (sym is))
    ∙ ap (λ l. order_change o ∷ l) (sym (drop-map order_change (at + 1) os))

-- none is put yet
pub none_put : (os : List KeyedOrder) (count : ℕ) (s : State) → IsFiled purchasing count s.now → IsDatabase s.now
    → IsTrue s.in_transaction → IsTrue s.is_open
    → IsUnderWay orders (drop 0 (map order_change os)) (map order_change os) count s s
none_put os count s filed sound inside live = record {
  left = refl;
  filed = filed;
  sound = sound;
  shown = record { was_open = live; is_open = live; now_is = refl; committed_is = refl; mode = inside };
}

-- and one more order is put
pub one_more_put : (os : List KeyedOrder) (at : ℕ) (o : KeyedOrder) → at < length os → o ≡ get_or os at o
    → (key : List ℕ) → key ≡ string_bytes o.key → (m n : ℕ) (old mid new : State)
    → Makes orders (changed_by (StateChange (order_of key) (Some (Some o.order)))) n mid new
    → IsUnderWay orders (drop at (map order_change os)) (map order_change os) m old mid
    → IsUnderWay orders (drop (at + 1) (map order_change os)) (map order_change os) n old new
one_more_put os at o within is key same m n old mid new made way =
    let all = map order_change os in
    one_more orders (order_change o) (drop (at + 1) all) all m n old mid new
    (subst (λ k. Makes orders (changed_by (StateChange (order_of k) (Some (Some o.order)))) n mid new) same made)
    (subst (λ rest. IsUnderWay orders rest all m old mid) (next_change os at o within is) way)

-- ---- the whole

-- four calls keep the last commit, as each of them does
pub all_keep : (a b c d e : State) → KeepsCommit a b → KeepsCommit b c → KeepsCommit c d → KeepsCommit d e
    → KeepsCommit a e
all_keep a b c d e p q r s =
    both_keep orders a d e (both_keep orders a c d (both_keep orders a b c p q) r) s

-- four steps that leave nothing new after a crash are one such step
pub all_survive : (a b c d e : State) → Survives a b (λ _. ⊥) → Survives b c (λ _. ⊥) → Survives c d (λ _. ⊥)
    → Survives d e (λ _. ⊥) → Survives a e (λ _. ⊥)
all_survive a b c d e p q r s =
    survives_quietly a d e (survives_quietly a c d (survives_quietly a b c p q) r) s

module _ (old seen : State) (same : IsUnchanged old seen) (first : IsFirst Purchasing old.now)
    (was : IsDatabase old.now) where
  pub seen_schema : seen.now.schema ≡ first_purchasing
  seen_schema = ap (λ (d : Database). d.schema) same.0.now_is ∙ first.is

  module _ (empty : State) (replaced : IsReplaced seen empty) where
    common : KeepsRows common_tables old.now.trees empty.now.trees
    common = subst (λ (d : Database). KeepsRows common_tables d.trees empty.now.trees) same.0.now_is replaced.common

    as_before : (tree : ℕ) → empty.now.trees tree ≡ old.now.trees tree → IsRising (old.now.trees tree)
        → IsRising (empty.now.trees tree)
    as_before tree is rises = subst IsRising (sym is) rises

    -- what the journal's renewal asks of the rows
    pub empty_rises : AreRising purchasing empty.now.trees
    empty_rises = (
      as_before 0 common.0 first.rising.0,
      (
        as_before 1 common.1.0 first.rising.1.0,
        (
          as_before 3 common.1.1.0 first.rising.1.1.0,
          (
            as_before 5 common.1.1.1.0 first.rising.1.1.1.0,
            (
              as_before 7 common.1.1.1.1.0 first.rising.1.1.1.1.0,
              (no_rows _ replaced.heads, (no_rows _ replaced.lines, (one_row _ _ replaced.about, tt))),
            ),
          ),
        ),
      ),
    )

    module _ (count n : ℕ) (journal new : State) (renewed : RenewsJournal count empty journal) (items : List Row)
        (os : List KeyedOrder) (shown : AreInOrder by_text None shown_order (old.now.trees 9) items)
        (told : AreTold items os) (put : Makes orders (with_orders os) n journal new)
        (left : new.now.trees 14 ≡ journal.now.trees 14) where
      heads : journal.now.trees 9 ≡ []
      heads = renewed.others.1.1.1.1.1.0 (λ e. omega (arith, e)) ∙ replaced.heads

      -- no order stands there before they are put
      none : (e : Entity) → (tables_of orders journal.now.trees).entity e ≡ None
      none e =
          ap (λ rows. placed (order_at e.kind e.key rows (journal.now.trees 11))) heads
          ∙ ap placed (no_heads e.kind e.key (journal.now.trees 11))

      about_is : new.now.trees 14 ≡ about_row Purchasing ∷ []
      about_is = left ∙ renewed.others.1.1.1.1.1.1.1.0 (λ e. omega (arith, e)) ∙ replaced.about

      tells : TellsOf Purchasing (new.now.trees 14)
      tells =
          let told : IsAbout 2 Purchasing (about_row Purchasing) = record { version_is = refl; name = refl } in
          subst (TellsOf Purchasing) (sym about_is) told

      as_first : record (tables_of orders journal.now.trees) {
        entity = (with_orders os (tables_of orders journal.now.trees)).entity;
      } ≡ first_tables_of first_orders old.now.trees
      as_first = λ i. record {
        journal = (renewed.journal ∙ ap (map (first_row_in first_orders)) common.0) i;
        entity = λ e. orders_stay old.now.trees (subst (λ s. IsSound s old.now.trees) first.is was)
            first.rising.1.1.1.1.1.0 items os shown told (tables_of orders journal.now.trees) none e i;
        unsettled = messages_in ((renewed.others.1.0 (λ e. omega (arith, e)) ∙ common.1.0) i);
        sent = marks_in 3 ((renewed.others.1.1.0 (λ e. omega (arith, e)) ∙ common.1.1.0) i);
        settled = marks_in 4 ((renewed.others.1.1.0 (λ e. omega (arith, e)) ∙ common.1.1.0) i);
        handled = marks_in 3 ((renewed.others.1.1.1.0 (λ e. omega (arith, e)) ∙ common.1.1.1.0) i);
        held = messages_in ((renewed.others.1.1.1.1.0 (λ e. omega (arith, e)) ∙ common.1.1.1.1.0) i);
      }

      pub orders_renewed : Renews first_orders orders old new
      orders_renewed = record {
        schema = put.filed.is;
        tables = put.tables ∙ only_states os (tables_of orders journal.now.trees) ∙ as_first;
        about = tells;
        sound = put.sound;
        shown = record {
          was_open = same.0.was_open;
          is_open = put.shown.is_open;
          now_is = refl;
          committed_is = put.shown.committed_is ∙ renewed.shown.committed_is ∙ replaced.shown.committed_is
              ∙ same.0.committed_is;
          mode = put.shown.mode;
        };
      }
