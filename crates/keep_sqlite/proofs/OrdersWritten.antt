-- What the writes make of orders.
use Rattle.std.proofs.Common.{◌≡◌, ◌<◌, ◌+◌, ◌-◌, ℕ, suc, List, [], ◌∷◌, ◌++◌, map, drop, take, filter}
use Rattle.std.proofs.Common.{length, get_or, slice_get, true, false, cond, Option, Some, None, refl, sym, ap, ap₂}
use Rattle.std.proofs.Common.{subst, ◌∙◌, inl, inr, arith, true≢false, Result, IfOk}
use Rattle.std.specs.Prelude.{IsTrue}
use Rattle.std.specs.Option.{option_and_then}
use Rattle.std.specs.List.{AllByRecursion}
use Rattle.std.proofs.lemmas.Bool.{cases_Bool}
use Rattle.std.proofs.lemmas.List.{take_more, length-map, length-take-le}
use Rattle.std.proofs.lemmas.Option.{get_or_from_slice_get, slice_get_within}
use Rattle.sqlite.specs.declared.types.Value.TheVariants.{Int}
use Rattle.sqlite_value.specs.Order.{Row}
use Rattle.sqlite_catalog.specs.Listing.{IsSound}
use Rattle.sqlite_rules.proofs.ListLemmas.{all_more}
use Rattle.sqlite.specs.Effect.{Database, IsDatabase}
use Rattle.sqlite.specs.State.{State, HasCleanDisk, KeepsCommit, Survives}
use Rattle.base.specs.Entity.{Entity, order_of}
use Rattle.base.specs.Order.{same_entity}
use Rattle.base.specs.declared.entity.Kind.{Kind}
use Rattle.base.specs.declared.entity.Kind.TheVariants as kind
use Rattle.base.proofs.Entities.{same_entity-Decides}
use Rattle.trade.specs.Orders.{OrderState, Partner}
use Rattle.trade.specs.Sound.{IsOrderSound}
use Rattle.trade.specs.declared.status.Status.{Status}
use Rattle.keep.specs.Tables.{changed_by, set_entity}
use Rattle.keep.specs.declared.change.Change.TheVariants.{State as StateChange}
use Rattle.sql_bodies.specs.OrderRows.{in_line, placed_with, stocks_in, numbered, stock_row, IsStock, IsAccount}
use Rattle.sql_bodies.proofs.OrderRows.{order_back, are_split}
use Rattle.sql_bodies.specs.Steps.{steps}
use Rattle.sql_rows.specs.Schema.{purchasing, order_heads}
use Rattle.sql_rows.specs.Tables.{Cells, has_key, text_key, IsRising, IsCut, Puts, Adds, Edits}
use Rattle.keep_sqlite.specs.Orders.{line_at, stock_at, order_at, placed, orders, head_cells, line_cells, lines_cells}
use Rattle.keep_sqlite.specs.Orders.{IsNamed}
use Rattle.keep_sqlite.specs.AddedRows.{AreAdded}
use Rattle.keep_sqlite.specs.Ready.{IsFiled, Makes}
use Rattle.keep_sqlite.proofs.Changes.{map_behind, survives_quietly}
use Rattle.keep_sqlite.proofs.Frames.{IsLeft}
use Rattle.keep_sqlite.proofs.Keys.{one_key, one_of_text}
use Rattle.keep_sqlite.proofs.Lookup.{IsOne, not_true, cut_gone, cut_apart, set_here, set_apart}
use Rattle.keep_sqlite.proofs.Steps.{steps_map}
use Rattle.keep_sqlite.proofs.AddedRows.{own_rows, other_rows, none_added, one_more_row, edits_keep}
use Rattle.keep_sqlite.proofs.OwnTables.{AreApart, edits_then, heads_stay, lines_stay, own_first, own_then, makes_state}
use Rattle.keep_sqlite.proofs.Passing.{passing_apart}

-- ---- the lines that were added

abbrev told : Row → ℕ × Option Partner
told r = (line_at r, stock_at r)

abbrev written : ℕ × Partner → ℕ × Option Partner
written q = (q.0, stock_row q)

-- what a line's row tells is what is read of what was written of its stock
lines_tell : (key : List ℕ) (n : ℕ) (ps : List Partner) (rows : List Row)
    → map (drop 1) rows ≡ map (line_cells key) (numbered n ps)
    → map told rows ≡ map written (numbered n ps)
lines_tell key n [] [] is = refl
lines_tell key n [] (r ∷ rows) is = absurd (cc)
lines_tell key n (p ∷ ps) [] is = absurd (cc)
lines_tell key n (p ∷ ps) ([] ∷ rows) is = absurd (cc)
lines_tell key n (p ∷ ps) ((v ∷ cells) ∷ rows) is =
    let here : cells ≡ line_cells key (n, p) = cc in
    ap₂ (λ x xs. x ∷ xs) (ap (λ (c : Cells). told (v ∷ c)) here)
    (lines_tell key (suc n) ps rows (cc))

abbrev stocks_told : List (ℕ × Option Partner) → Option (List Partner)
stocks_told vs = stocks_in (λ (v : ℕ × Option Partner). v.0) (λ v. v.1) vs

by_values : {R : Type 0} (number : R → ℕ) (found : R → Option Partner) (pair : R → ℕ × Option Partner)
    → ((r : R) → pair r ≡ (number r, found r)) → (rows : List R)
    → stocks_in number found rows ≡ stocks_told (map pair rows)
by_values number found pair is rows =
    ap (λ step. option_and_then (in_line 1) (steps step rows []))
    (λ i r. placed_with (sym (is r) i).0 (sym (is r) i).1)
    ∙ ap (option_and_then (in_line 1))
    (sym (steps_map pair (λ (v : ℕ × Option Partner). placed_with v.0 v.1) rows []))

-- ---- what is looked up

-- the row of an order is as it was set, and those of the others are as they were
module _ (key : List ℕ) (row : Option (Option OrderState)) (heads lines heads_after lines_after : List Row) where
  of_kind : placed (order_at kind.Order key heads_after lines_after) ≡ row
      → ((other : List ℕ) → (key ≡ other → ⊥)
      → order_at kind.Order other heads_after lines_after ≡ order_at kind.Order other heads lines)
      → (k : Kind) (other : List ℕ)
      → placed (order_at k other heads_after lines_after)
      ≡ cond (same_entity (order_of key) (record { kind = k; key = other })) row (placed (order_at k other heads lines))
  of_kind here apart kind.Order other = elim (cases_Bool (same_entity (order_of key) (order_of other))) [
    | inl same ↦ rw same (
        let e : key ≡ other = ap (λ (x : Entity). x.key)
        ((same_entity-Decides (order_of key) (order_of other)).0 same) in
        subst (λ k. placed (order_at kind.Order k heads_after lines_after) ≡ row) e here)
    | inr differs ↦ rw differs (ap placed (apart other (λ e. true≢false
        (sym ((same_entity-Decides (order_of key) (order_of other)).1 (ap order_of e)) ∙ differs))))
  ]
  of_kind here apart kind.Stock other =
      let is : same_entity (order_of key) (record { kind = kind.Stock; key = other }) ≡ false = not_true _ (λ same.
      let e = ap (λ (x : Entity). x.kind) ((same_entity-Decides (order_of key) _).0 same) in cc) in
      rw is refl
  of_kind here apart kind.Account other =
      let is : same_entity (order_of key) (record { kind = kind.Account; key = other }) ≡ false = not_true _ (λ same.
      let e = ap (λ (x : Entity). x.kind) ((same_entity-Decides (order_of key) _).0 same) in cc) in
      rw is refl

  sets_row : placed (order_at kind.Order key heads_after lines_after) ≡ row
      → ((other : List ℕ) → (key ≡ other → ⊥)
      → order_at kind.Order other heads_after lines_after ≡ order_at kind.Order other heads lines)
      → (x : Entity) → placed (order_at x.kind x.key heads_after lines_after)
      ≡ set_entity (order_of key) row (λ e. placed (order_at e.kind e.key heads lines)) x
  sets_row here apart x = of_kind here apart x.kind x.key

module _ (key : List ℕ) (heads lines heads_after : List Row)
    (one : (k : List ℕ) → IsOne (has_key (text_key k)) heads) where
  same_key : (other : List ℕ) → (key ≡ other → ⊥) → (x : Row) → has_key (text_key key) x ≡ true
      → has_key (text_key other) x ≡ true → ⊥
  same_key other differs x a b = differs (one_key x key other a b)

  -- an order's lines are taken away, and its head is
  pub taken_away : (lines_after : List Row) → IsRising lines → IsRising lines_after
      → IsCut (has_key (text_key key)) lines lines_after → IsCut (has_key (text_key key)) heads heads_after
      → (x : Entity) → placed (order_at x.kind x.key heads_after lines_after)
      ≡ set_entity (order_of key) None (λ e. placed (order_at e.kind e.key heads lines)) x
  taken_away lines_after before after of_lines of_heads = sets_row key None heads lines heads_after lines_after
      (rw (cut_gone (has_key (text_key key)) (has_key (text_key key)) heads heads_after of_heads (λ x is. is)) refl)
      (λ other differs.
      let found = cut_apart (has_key (text_key other)) (has_key (text_key key)) heads heads_after (one other) of_heads
      (same_key other differs) in
      let left = passing_apart (has_key (text_key other)) lines lines_after (has_key (text_key key)) before.ordered
      after.ordered of_lines (same_key other differs) in
      rw (found, left) refl)

  -- an order's lines are taken away, its head is put, and lines are added
  module _ (cut lines_after : List Row) (before : IsRising lines) (after : IsRising cut)
      (two : (k : List ℕ) → IsOne (has_key (text_key k)) heads_after)
      (of_lines : IsCut (has_key (text_key key)) lines cut) (status : Status) (account : Partner)
      (of_heads : Puts (text_key key) (head_cells key status account) heads heads_after) (stocks : List Partner)
      (added : AreAdded (lines_cells key stocks) cut lines_after) where
    abbrev new : Row
    new = Int of_heads.0 ∷ head_cells key status account

    own_lines : filter (has_key (text_key key)) lines_after ≡ added.added
    own_lines = own_rows key (line_cells key) (λ q. refl) (numbered 1 stocks) lines cut lines_after before after
        of_lines added

    other_lines : (other : List ℕ) → (key ≡ other → ⊥)
        → filter (has_key (text_key other)) lines_after ≡ filter (has_key (text_key other)) lines
    other_lines = other_rows key (line_cells key) (λ q. refl) (numbered 1 stocks) lines cut lines_after before after
        of_lines added

    own_order : AllByRecursion IsStock stocks → IsAccount account
        → order_at kind.Order key heads_after lines_after
        ≡ Some (record { status = status; partners = stocks ++ account ∷ [] })
    own_order are is =
        let found = set_here (has_key (text_key key)) (has_key (text_key key)) heads heads_after new (two key)
        of_heads.1 of_heads.1.passes in
        let same : stocks_in line_at stock_at added.added ≡ stocks_in (λ q. q.0) stock_row (numbered 1 stocks) =
        by_values line_at stock_at told (λ r. refl) added.added
        ∙ ap stocks_told (lines_tell key 1 stocks added.added added.cells)
        ∙ sym (by_values (λ q. q.0) stock_row written (λ q. refl) (numbered 1 stocks)) in
        rw (found, own_lines, same) (order_back status stocks account are is)

    pub put_in_place : AllByRecursion IsStock stocks → IsAccount account
        → (x : Entity) → placed (order_at x.kind x.key heads_after lines_after)
        ≡ set_entity (order_of key) (Some (Some (record { status = status; partners = stocks ++ account ∷ [] })))
        (λ e. placed (order_at e.kind e.key heads lines)) x
    put_in_place are is = sets_row key _ heads lines heads_after lines_after (ap placed (own_order are is))
        (λ other differs.
        let found = set_apart (has_key (text_key other)) (has_key (text_key key)) heads heads_after new (one other)
        of_heads.1 (same_key other differs) in
        rw (found, other_lines other differs) refl)

-- ---- lines, one by one

-- the lines of so many partners are added
pub record IsAdding (key : List ℕ) (ps : List Partner) (at : ℕ) (old now : State) : Type 0 where
  pub named : AllByRecursion IsNamed (take at ps)
  pub survives : Survives old now (λ _. ⊥)
  pub done : HasCleanDisk now → Edits 11 (AreAdded (lines_cells key (take at ps))) old now

-- while lines are added the last commit stays as it is
pub adding_keeps : (key : List ℕ) (ps : List Partner) (at : ℕ) (old now : State) → IsAdding key ps at old now
    → HasCleanDisk now → KeepsCommit old now
adding_keeps key ps at old now way clean = edits_keep 11 _ old now (way.done clean)

numbered_more : (n : ℕ) (ps : List Partner) (p : Partner)
    → numbered n (ps ++ p ∷ []) ≡ numbered n ps ++ (n + length ps, p) ∷ []
numbered_more n [] p = ap (λ k. (k, p) ∷ []) (omega arith)
numbered_more n (q ∷ ps) p = ap (λ qs. (n, q) ∷ qs)
    (numbered_more (suc n) ps p ∙ ap (λ k. numbered (suc n) ps ++ (k, p) ∷ []) (omega arith))

module _ (key : List ℕ) (stocks : List Partner) (at : ℕ) (stock : Partner) (got : slice_get stocks at ≡ Some stock)
  where
    within : at < length stocks
    within = slice_get_within stocks at stock got

    is_there : stock ≡ get_or stocks at stock
    is_there = sym (get_or_from_slice_get stocks at stock stock got)

    one_more_line : lines_cells key (take at stocks) ++ line_cells key (at + 1, stock) ∷ []
        ≡ lines_cells key (take (at + 1) stocks)
    one_more_line =
        let long : length (take at stocks) ≡ at = (let w = within in length-take-le at stocks (omega (arith, w))) in
        sym (map_behind (line_cells key) (numbered 1 (take at stocks)) (at + 1, stock))
        ∙ ap (map (line_cells key)) (ap (λ k. numbered 1 (take at stocks) ++ (k, stock) ∷ []) (omega (arith, long))
        ∙ sym (numbered_more 1 (take at stocks) stock)
        ∙ ap (numbered 1) (ap (λ p. take at stocks ++ p ∷ []) is_there ∙ sym (take_more stocks at stock within)))

    -- one more line is added
    pub adding_more : (old mid new : State) → IsAdding key stocks at old mid → Survives mid new (λ _. ⊥) → IsNamed stock
        → (HasCleanDisk new → Edits 11 (Adds (line_cells key (at + 1, stock))) mid new)
        → IsAdding key stocks (at + 1) old new
    adding_more old mid new way survives named adds = record {
      named = all_more IsNamed stocks at stock within is_there way.named named;
      survives = survives_quietly old mid new way.survives survives;
      done = λ clean.
          let between : HasCleanDisk mid = (let c = survives.clean in omega (arith, c, clean)) in
          subst (λ cells. Edits 11 (AreAdded cells) old new) one_more_line
          (edits_then 11 _ _ _ old mid new (way.done between) (adds clean) (one_more_row _ _ _ _ _));
    }

-- ---- in a transaction

-- where nothing is done a crash leaves nothing new
pub survives_itself : (s : State) → Survives s s (λ _. ⊥)
survives_itself s = record {
  clean = omega arith;
  shield = λ shielded. shielded;
  counts = omega arith;
  limit = refl;
  closes = λ clean live. inl live;
  crash = λ clean db may. inl may;
}

-- before the first line nothing is added
pub adding_starts : (key : List ℕ) (ps : List Partner) (s : State) → (HasCleanDisk s → IsRising (s.now.trees 11))
    → (HasCleanDisk s → IsDatabase s.now) → (HasCleanDisk s → IsTrue s.is_open)
    → (HasCleanDisk s → IsTrue s.in_transaction) → IsAdding key ps 0 s s
adding_starts key ps s rising sound live inside = record {
  named = tt;
  survives = survives_itself s;
  done = λ clean. none_added 11 s (rising clean) (sound clean) (inside clean) (live clean);
}

orders_apart : AreApart purchasing
orders_apart = record {
  heads_left = λ old new left. left.1.1.1.1.1.0 (λ e. omega (arith, e));
  lines_left = λ old new left. left.1.1.1.1.1.1.0 (λ e. omega (arith, e));
}

-- a write of heads or of lines leaves the table that tells whose tables they are
about_left : (tree : ℕ) (B : List Row → List Row → Type 0) (old new : State) → old.now.schema ≡ purchasing
    → (14 ≡ tree → ⊥) → Edits tree B old new → new.now.trees 14 ≡ old.now.trees 14
about_left tree B old new has other h =
    let left = subst (λ s. AllByRecursion (IsLeft tree old.now.trees new.now.trees) s.tables) has h.others in
    left.1.1.1.1.1.1.1.0 other

-- the writes of an order leave the table `about` as it is
pub about_stays : (A B C : List Row → List Row → Type 0) (old a b new : State) → old.now.schema ≡ purchasing
    → Edits 11 A old a → Edits 9 B a b → Edits 11 C b new → new.now.trees 14 ≡ old.now.trees 14
about_stays A B C old a b new has lines head more =
    let second = lines.same_schema ∙ has in
    about_left 11 C b new (head.same_schema ∙ second) (λ e. omega (arith, e)) more
    ∙ about_left 9 B a b second (λ e. omega (arith, e)) head
    ∙ about_left 11 A old a has (λ e. omega (arith, e)) lines

-- an order's key has one head at most
pub one_head : (count : ℕ) (db : Database) → IsFiled purchasing count db → IsDatabase db → (k : List ℕ)
    → IsOne (has_key (text_key k)) (db.trees 9)
one_head count db filed was k = one_of_text purchasing db.trees order_heads
    (subst (λ s. IsSound s db.trees) filed.is was) (inr (inr (inr (inr (inr (inl refl)))))) refl refl
    filed.rising.1.1.1.1.1.0 k

module _ (count : ℕ) (key : List ℕ) (old : State) (filed : IsFiled purchasing count old.now) (was : IsDatabase old.now)
  where
    pub order_taken : (mid new : State) → Edits 11 (IsCut (has_key (text_key key))) old mid
        → Edits 9 (IsCut (has_key (text_key key))) mid new
        → Makes orders (changed_by (StateChange (order_of key) None)) count old new
    order_taken mid new lines heads =
        let first = own_first orders count 11 _ old mid (omega arith) filed lines in
        let second = own_first orders count 9 _ mid new (omega arith) first.filed heads in
        makes_state orders count (order_of key) None old new (own_then orders count old mid new first second) (λ x.
        ap (λ l. placed (order_at x.kind x.key (new.now.trees 9) l))
        (lines_stay orders_apart _ mid new first.filed.is heads)
        ∙ taken_away key (old.now.trees 9) (old.now.trees 11) (new.now.trees 9) (one_head count old.now filed was)
        (mid.now.trees 11) filed.rising.1.1.1.1.1.1.0 lines.rising lines.rows
        (subst (λ l. IsCut (has_key (text_key key)) l (new.now.trees 9))
        (heads_stay orders_apart _ old mid filed.is lines) heads.rows) x)

    order_put : (a b new : State) (status : Status) (account : Partner) (stocks : List Partner)
        → Edits 11 (IsCut (has_key (text_key key))) old a
        → Edits 9 (Puts (text_key key) (head_cells key status account)) a b
        → Edits 11 (AreAdded (lines_cells key stocks)) b new → AllByRecursion IsStock stocks → IsAccount account
        → Makes orders (changed_by (StateChange (order_of key)
        (Some (Some (record { status = status; partners = stocks ++ account ∷ [] }))))) count old new
    order_put a b new status account stocks lines head more are is =
        let first = own_first orders count 11 _ old a (omega arith) filed lines in
        let second = own_first orders count 9 _ a b (omega arith) first.filed head in
        let third = own_first orders count 11 _ b new (omega arith) second.filed more in
        makes_state orders count (order_of key) _ old new
        (own_then orders count old a new first (own_then orders count a b new second third)) (λ x.
        ap (λ l. placed (order_at x.kind x.key l (new.now.trees 11)))
        (heads_stay orders_apart _ b new second.filed.is more)
        ∙ put_in_place key (old.now.trees 9) (old.now.trees 11) (b.now.trees 9) (one_head count old.now filed was)
        (a.now.trees 11) (new.now.trees 11) filed.rising.1.1.1.1.1.1.0 lines.rising
        (one_head count b.now second.filed second.sound) lines.rows status account
        (subst (λ l. Puts (text_key key) (head_cells key status account) l (b.now.trees 9))
        (heads_stay orders_apart _ old a filed.is lines) head.rows) stocks
        (subst (λ l. AreAdded (lines_cells key stocks) l (new.now.trees 11))
        (lines_stay orders_apart _ a b first.filed.is head) more.rows) are is x)

-- ---- the order that is put

named_stocks : (ps : List Partner) → AllByRecursion (λ (p : Partner). p.entity.kind ≡ kind.Stock) ps
    → AllByRecursion IsNamed ps → AllByRecursion IsStock ps
named_stocks [] kinds named = tt
named_stocks (p ∷ ps) kinds named = ((kinds.0, named.0.0, named.0.1), named_stocks ps kinds.1 named.1)

-- what stands at an index of a sound order's partners, where all before it are its stocks
record IsAccountAt (n : ℕ) (ps : List Partner) (account : Partner) : Type 0 where
  pub whole : ps ≡ take n ps ++ account ∷ []
  pub stocks : AllByRecursion IsNamed (take n ps) → AllByRecursion IsStock (take n ps)
  pub account_kind : account.entity.kind ≡ kind.Account

account_at : (o : OrderState) (n : ℕ) (account : Partner) → IsOrderSound (Some o) → n ≡ length o.partners - 1
    → slice_get o.partners n ≡ Some account → IsAccountAt n o.partners account
account_at o n account sound is got =
    let ps = o.partners in
    let entity_of = λ (p : Partner). p.entity in
    let some : 1 < length (map entity_of ps) = sound.some in
    let long : length (map entity_of ps) ≡ length ps = length-map ps entity_of in
    let split = are_split n ps account (omega (arith, is, some, long)) sound.in_order in
    let here : get_or ps n account ≡ account = get_or_from_slice_get ps n account account got in
    record {
      whole = split.whole ∙ ap (λ p. take n ps ++ p ∷ []) here;
      stocks = named_stocks (take n ps) split.stocks;
      account_kind = ap (λ (p : Partner). p.entity.kind) (sym here) ∙ split.account;
    }

module _ (count : ℕ) (key : List ℕ) (old : State) (filed : IsFiled purchasing count old.now) (was : IsDatabase old.now)
  where
    pub order_made : (a b new : State) (o : OrderState) (n : ℕ) (status : Status) (account : Partner)
        → IsOrderSound (Some o) → status ≡ o.status → n ≡ length o.partners - 1 → slice_get o.partners n ≡ Some account
        → IsNamed account → AllByRecursion IsNamed (take n o.partners)
        → Edits 11 (IsCut (has_key (text_key key))) old a
        → Edits 9 (Puts (text_key key) (head_cells key status account)) a b
        → Edits 11 (AreAdded (lines_cells key (take n o.partners))) b new
        → Makes orders (changed_by (StateChange (order_of key) (Some (Some o)))) count old new
    order_made a b new o n status account sound same is got named known lines head more =
        let at = account_at o n account sound is got in
        let whole : record { status = status; partners = take n o.partners ++ account ∷ [] } ≡ o =
        ap₂ (λ s ps. record { status = s; partners = ps }) same (sym at.whole) in
        subst (λ (x : OrderState). Makes orders (changed_by (StateChange (order_of key) (Some (Some x)))) count old new)
        whole
        (order_put count key old filed was a b new status account (take n o.partners) lines head more (at.stocks known)
        (at.account_kind, named.0, named.1))

-- what was made of an order, as its entity was given
pub as_given : {E : Type 0} (r : Result ℕ E) (old new : State) (k : Kind) (key : List ℕ) (e : Entity)
    (row : Option (Option OrderState)) → k ≡ e.kind → k ≡ kind.Order → key ≡ e.key
    → IfOk r (λ n. Makes orders (changed_by (StateChange (order_of key) row)) n old new)
    → IfOk r (λ n. Makes orders (changed_by (StateChange e row)) n old new)
as_given r old new k key e row has is named made =
    let one : order_of key ≡ e = ap₂ (λ x s. record { kind = x; key = s }) (sym is ∙ has) named in
    subst (λ (x : Entity). IfOk r (λ n. Makes orders (changed_by (StateChange x row)) n old new)) one made
