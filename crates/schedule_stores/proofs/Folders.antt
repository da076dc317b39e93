-- Files are found to hold what they hold.
use Rattle.std.proofs.Common.{◌≡◌, true, List, [], ◌∷◌, None, refl, sym, ap, subst, ◌∙◌, inl, inr}
use Rattle.std.specs.List.{AllZip}
use Rattle.sqlite.specs.Files.{IsNothing}
use Rattle.sqlite_catalog.specs.Listing.{IsSound, IsTableRow}
use Rattle.sqlite_trees.specs.Tree.{Trees}
use Rattle.sqlite_wal.specs.Recovery.{Image}
use Rattle.base.specs.declared.limits.TheConstants.{HELD_WINDOW}
use Rattle.keep.specs.Seen as store
use Rattle.keep.specs.Seen.{Seen}
use Rattle.keep.specs.Tables.{Tables, empty}
use Rattle.endpoint.proofs.Opening.{empty-matches}
use Rattle.keep_sqlite.specs.Filing.{Filing}
use Rattle.keep_sqlite.specs.Found.{AreIn, IsFoundIn}
use Rattle.keep_sqlite.proofs.Blanks.{nothing_found as found_empty}
use Rattle.laws_stores.proofs.Beginning.{empty_holds, empty_lawful, empty_marks}
use Rattle.laws_stores.specs.Sight.{AllTables, Sight, OrderTables, StockTables, AccountTables, all_empty}
use Rattle.laws_stores.specs.Sight.{orders_service, stocks_service, accounts_service}
use Rattle.programs.specs.GoodTables.{AreGood}
use Rattle.sql_rows.specs.Schema.{no_tables, schema_of}
use Rattle.sql_rows.specs.declared.service.Service.{Service}
use Rattle.sql_rows.specs.declared.service.Service.TheVariants.{Purchasing, Warehouse, Billing}
use Rattle.keep_sqlite.specs.Accounts.{accounts}
use Rattle.keep_sqlite.specs.Orders.{orders}
use Rattle.keep_sqlite.specs.Stocks.{stocks}
use Rattle.schedule_io.specs.Opened.{AreOpened}
use Rattle.keep_sqlite.specs.Migration.{FirstFiling, as_today, first_orders}
use Rattle.schedule_program.specs.Files.{IsOpenedWith, AreFoundIn, IsHeldIn, AreHeldIn, IsTakenOverIn, AreTakenOverIn}

none_and_some : {A B : Type 0} (R : A → B → Type 0) (xs : List A) (y : B) (ys : List B) → AllZip R xs []
    → AllZip R xs (y ∷ ys) → ⊥
none_and_some R [] y ys none some = some
none_and_some R (x ∷ xs) y ys none some = none

-- a list of objects that lists the tables of a service isn't one that lists none
not_both : (service : Service) (db : Trees) → IsSound (schema_of service) db → IsSound no_tables db → ⊥
not_both Purchasing db some none = none_and_some IsTableRow _ _ _ none.lists.listed.tables some.lists.listed.tables
not_both Warehouse db some none = none_and_some IsTableRow _ _ _ none.lists.listed.tables some.lists.listed.tables
not_both Billing db some none = none_and_some IsTableRow _ _ _ none.lists.listed.tables some.lists.listed.tables

module _ {S C : Type 0} (filing : Filing S C) where
  own_or_none : (db : Trees) → IsSound filing.schema db → IsSound no_tables db → ⊥
  own_or_none db some none = not_both filing.is_service.service db
      (subst (λ s. IsSound s db) filing.is_service.is some) none

  same_in : (db : Trees) (t u : Tables S C) → AreIn filing db t → AreIn filing db u → u ≡ t
  same_in db t u (inl x) (inl y) = y.1 ∙ sym x.1
  same_in db t u (inl x) (inr y) = absurd (own_or_none db x.0 y.0)
  same_in db t u (inr x) (inl y) = absurd (own_or_none db y.0 x.0)
  same_in db t u (inr x) (inr y) = y.1 ∙ sym x.1

  found_is : (image : Image) (t u : Tables S C) → IsHeldIn filing image t → IsFoundIn filing image u → u ≡ t
  found_is image t u (inl held) found = same_in held.db t u held.tables
      (subst (λ db. AreIn filing db u) (found.holds held.db held.holds) found.tables)
  found_is image t u (inr new) found = found_empty filing image u new.0 found ∙ sym new.1

joined : (a b : AllTables) → a.purchasing ≡ b.purchasing → a.warehouse ≡ b.warehouse → a.billing ≡ b.billing → a ≡ b
joined a b one two three =
    ap (λ p. record { purchasing = p; warehouse = a.warehouse; billing = a.billing }) one
    ∙ ap (λ w. record { purchasing = b.purchasing; warehouse = w; billing = a.billing }) two
    ∙ ap (λ x. record { purchasing = b.purchasing; warehouse = b.warehouse; billing = x }) three

-- three files are found to hold what they hold
pub all_found : (p w b : Image) (left : AllTables) → AreHeldIn p w b left → (t : AllTables) → AreFoundIn p w b t
    → t ≡ left
all_found p w b left held t found = joined t left
    (found_is orders p left.purchasing t.purchasing held.orders found.orders)
    (found_is stocks w left.warehouse t.warehouse held.stocks found.stocks)
    (found_is accounts b left.billing t.billing held.accounts found.accounts)

-- a file that was taken over holds the tables that its rows told before
held_from : {S C : Type 0} (first : FirstFiling S C) (filing : Filing S C) (image : Image) (t : Tables S C)
    → IsTakenOverIn first filing image t → IsHeldIn filing image t
held_from first filing image t taken = inl (record {
  db = taken.db;
  holds = taken.holds;
  tables = inl (taken.renewed.sound, sym taken.told ∙ sym taken.renewed.tables, taken.renewed.about);
})

pub all_taken_over : (p w b : Image) (t : AllTables) → AreTakenOverIn p w b t → AreHeldIn p w b t
all_taken_over p w b t taken = record {
  orders = held_from first_orders orders p t.purchasing taken.orders;
  stocks = held_from (as_today stocks) stocks w t.warehouse taken.stocks;
  accounts = held_from (as_today accounts) accounts b t.billing taken.accounts;
}

-- three files that hold nothing yet hold empty tables
pub new_held : (p w b : Image) → IsNothing p → IsNothing w → IsNothing b → AreHeldIn p w b all_empty
new_held p w b one two three =
    record { orders = inr (one, refl); stocks = inr (two, refl); accounts = inr (three, refl) }

-- of three stores that were opened with such tables a stop leaves no others
pub all_opened : (P : OrderTables → Type 0) (Q : StockTables → Type 0) (R : AccountTables → Type 0)
    (Found : AllTables → Type 0)
    → ((t : AllTables) → P t.purchasing → Q t.warehouse → R t.billing → Found t) → (s : Sight)
    → IsOpenedWith P s.purchasing → IsOpenedWith Q s.warehouse → IsOpenedWith R s.billing → AreOpened Found s
all_opened P Q R Found all s one two three = record {
  new = record { purchasing = one.opened; warehouse = two.opened; billing = three.opened };
  found = λ clean t may. all t
      (subst P (sym (one.sound.only_now clean.0 one.opened.usable t.purchasing may.purchasing)) (one.found clean.0))
      (subst Q (sym (two.sound.only_now clean.1 two.opened.usable t.warehouse may.warehouse)) (two.found clean.1))
      (subst R (sym (three.sound.only_now clean.2 three.opened.usable t.billing may.billing)) (three.found clean.2));
}

pub nothing_found : (t : AllTables) → t.purchasing ≡ empty → t.warehouse ≡ empty → t.billing ≡ empty → t ≡ all_empty
nothing_found t one two three = joined t all_empty one two three

-- of a store that was opened, and is sound
pub opened_with : {K T : Type 0} (Has : T → Type 0) (seen : K → Seen T) (k : K) → (seen k).usable ≡ true
    → (seen k).failures ≡ 0 → (seen k).armed ≡ None → store.IsSound (seen k) → ((seen k).doubt ≡ 0 → Has (seen k).tables)
    → IsOpenedWith Has (seen k)
opened_with Has seen k usable failures armed sound found =
    record { opened = record { usable = usable; failures = failures; armed = armed }; sound = sound; found = found }

-- empty tables are good
pub empty_is_good : AreGood all_empty
empty_is_good = record {
  purchasing = empty-matches HELD_WINDOW orders_service;
  warehouse = empty-matches HELD_WINDOW stocks_service;
  billing = empty-matches HELD_WINDOW accounts_service;
  lawful = empty_lawful;
  settled = empty_marks;
  held = empty_holds;
}
