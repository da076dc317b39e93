-- What the text that gives a row of the journal another body means and does.
use Rattle.std.proofs.Common.{◌≡◌, ℕ, ℤ, List, [], ◌∷◌, codes, drop, Bool, true, false, true≢false, ◌&&◌, Result, OnOk}
use Rattle.std.proofs.Common.{refl, sym, subst, ◌∙◌}
use Rattle.std.specs.List.{AllByRecursion, list_all}
use Rattle.sqlite.specs.declared.types.Value.{Value}
use Rattle.sqlite.specs.declared.types.Value.TheVariants.{Null, Int, Real, Text, Blob}
use Rattle.sqlite.specs.declared.error.Error.{Error}
use Rattle.sqlite.specs.Cast.{cast, cast_row}
use Rattle.sqlite.specs.Command.TheVariants.{Update}
use Rattle.sqlite.specs.Effect.{IsDatabase}
use Rattle.sqlite.specs.Kind.TheVariants as kind
use Rattle.sqlite.specs.Listing.{understood}
use Rattle.sqlite.specs.Order.{Row}
use Rattle.sqlite.specs.Schema.{Schema}
use Rattle.sqlite.specs.State.{State, ExecutesInside}
use Rattle.sqlite.specs.Table.{Table}
use Rattle.sqlite.specs.Tree.{Trees}
use Rattle.sqlite_rules.proofs.ListLemmas.{all_has}
use Rattle.sqlite_rules.proofs.TableLemmas.{int_is}
use Rattle.sqlite_rules.specs.Edit.{id_in}
use Rattle.sqlite_rules.specs.Lists.{Has}
use Rattle.sqlite_schema.specs.Rules.{is_of, passes, are_typed}
use Rattle.sqlite_schema.specs.declared.schema.Constraint.TheVariants.{Datatype}
use Rattle.sqlite_sql.specs.Term.{Term, lit, col, holds}
use Rattle.sqlite_tied.specs.Compute.{everything}
use Rattle.sqlite_trees.specs.Tree.{rowid, has_rowid}
use Rattle.sqlite_trees.specs.View.{is_int}
use Rattle.sqlite_value.specs.Order.{column}
use Rattle.sql_rows.specs.declared.service.Service.{Service}
use Rattle.sql_rows.specs.declared.service.Service.TheVariants.{Purchasing, Warehouse, Billing}
use Rattle.sql_rows.specs.FirstVersion.{Rebodies, with_body}
use Rattle.sql_rows.specs.Schema.{IsService, journal, schema_of}
use Rattle.sql_rows.specs.Tables.{Edits, IsRising}
use Rattle.sql_rows.proofs.Edits.{updated}
use Rattle.sql_rows.proofs.JournalRows.{journal_there}
use Rattle.sql_rows.proofs.Queries.{eq, every, rows_of}
use Rattle.sql_rows.proofs.Services.{common_first, idle}
use Rattle.sql_rows.proofs.Steps.{Says}
use Rattle.sql_rows.proofs.Tests.{and_true, cast_int, cast_null, eq_test}
use Rattle.sql_rows.proofs.Updating.{alone_at}

abbrev pub update_body : List ℕ
update_body = codes "UPDATE journal SET body = ?2 WHERE pos = ?1"

abbrev at_terms : List Term
at_terms = eq (col 1 0) (col 0 0) ∷ []

-- the old rowid, and then the new row
abbrev body_terms : List Term
body_terms = col 1 0 ∷ col 1 0 ∷ lit Null ∷ col 1 2 ∷ col 1 3 ∷ col 1 4 ∷ col 1 5 ∷ col 0 1 ∷ []

update_body_says : (service : Service) → Says (schema_of service) update_body
    (Update 0 (record { lets = []; body = rows_of 0 at_terms body_terms [] every }))
unfolding understood everything
update_body_says Purchasing = (refl, (refl, refl))
update_body_says Warehouse = (refl, (refl, refl))
update_body_says Billing = (refl, (refl, refl))

at_test : (position : ℤ) (body : List ℕ) (x : Row)
    → list_all (holds ((Int position ∷ Text body ∷ []) ∷ x ∷ [])) at_terms ≡ has_rowid position x
at_test position body x = and_true _ ∙ eq_test (column x 0) (Int position) tt

-- ---- what a column takes isn't converted

cast_integer : (v : Value) → is_of kind.Integer v ≡ true → cast kind.Integer v ≡ v
cast_integer Null h = cast_null
cast_integer (Int n) h = cast_int n
cast_integer (Real x) h = absurd (true≢false (sym h))
cast_integer (Text t) h = absurd (true≢false (sym h))
cast_integer (Blob b) h = absurd (true≢false (sym h))

cast_text : (v : Value) → is_of kind.Text v ≡ true → cast kind.Text v ≡ v
cast_text Null h = refl
cast_text (Int n) h = absurd (true≢false (sym h))
cast_text (Real x) h = absurd (true≢false (sym h))
cast_text (Text t) h = refl
cast_text (Blob b) h = absurd (true≢false (sym h))

one_of : (a b : Bool) → (a && b) ≡ true → a ≡ true
one_of true b h = refl
one_of false b h = h

other_of : (a b : Bool) → (a && b) ≡ true → b ≡ true
other_of true b h = h
other_of false b h = absurd (true≢false (sym h))

-- the values that the journal's columns take, where NULL stands for what a row lacks
record AreTaken (r : Row) : Type 0 where
  entity : is_of kind.Text (column r 2) ≡ true
  seat : is_of kind.Integer (column r 3) ≡ true
  sender : is_of kind.Text (column r 4) ≡ true
  number : is_of kind.Integer (column r 5) ≡ true

taken : (r : Row) → are_typed journal.key 0 journal.columns (drop 1 r) ≡ true → AreTaken r
taken [] h = record { entity = refl; seat = refl; sender = refl; number = refl }
taken (a ∷ []) h = record { entity = refl; seat = refl; sender = refl; number = refl }
taken (a ∷ b ∷ []) h = record { entity = refl; seat = refl; sender = refl; number = refl }
taken (a ∷ b ∷ c ∷ []) h = record { entity = one_of _ _ (other_of _ _ h); seat = refl; sender = refl; number = refl }
taken (a ∷ b ∷ c ∷ d ∷ []) h =
    let more = other_of _ _ (other_of _ _ h) in
    record { entity = one_of _ _ (other_of _ _ h); seat = one_of _ _ more; sender = refl; number = refl }
taken (a ∷ b ∷ c ∷ d ∷ e ∷ []) h =
    let more = other_of _ _ (other_of _ _ h) in
    record {
      entity = one_of _ _ (other_of _ _ h);
      seat = one_of _ _ more;
      sender = one_of _ _ (other_of _ _ more);
      number = refl;
    }
taken (a ∷ b ∷ c ∷ d ∷ e ∷ f ∷ rest) h =
    let more = other_of _ _ (other_of _ _ h) in
    record {
      entity = one_of _ _ (other_of _ _ h);
      seat = one_of _ _ more;
      sender = one_of _ _ (other_of _ _ more);
      number = one_of _ _ (other_of _ _ (other_of _ _ more));
    }

stays_cast : (body : List ℕ) (r : Row) → is_int (rowid r) ≡ true
    → are_typed journal.key 0 journal.columns (drop 1 r) ≡ true
    → cast_row journal (with_body body r) ≡ with_body body r
stays_cast body r int typed =
    let it = taken r typed in
    let id : cast kind.Integer (column r 0) ≡ column r 0 = subst (λ v. cast kind.Integer v ≡ v)
    (sym (int_is (rowid r) int)) (cast_int (id_in (rowid r))) in
    rw (
      id,
      cast_null,
      cast_text (column r 2) it.entity,
      cast_integer (column r 3) it.seat,
      cast_text (column r 4) it.sender,
      cast_integer (column r 5) it.number,
    ) refl

-- each row of the journal of a sound database has what its columns take
typed_in : (schema : Schema) (it : IsService schema) (db : Trees)
    → IsDatabase (record { schema = schema; trees = db }) → (r : Row) → Has (db 0) r
    → are_typed journal.key 0 journal.columns (drop 1 r) ≡ true
typed_in schema it db sound r h =
    let each = subst (λ (ts : List Table). AllByRecursion (λ t. AllByRecursion
    (λ row. passes Datatype schema db t row ≡ true) (db t.tree)) ts) (common_first schema it)
    (sound.obeys.rules Datatype) in
    one_of _ _ (all_has (λ row. passes Datatype schema db journal row ≡ true) (db 0) r each.0 h)

-- the write changes the body of the row at a position, and nothing else
pub rebodies : (position : ℤ) (body : List ℕ) (old new : State) (result : Result ℕ Error) → IsService old.now.schema
    → IsRising (old.now.trees 0) → IsDatabase old.now
    → ExecutesInside 0 update_body (Int position ∷ Text body ∷ []) old new result
    → OnOk result (Edits 0 (Rebodies position body) old new)
rebodies position body old new result it rising sound h =
    updated (schema_of it.service) 0 journal (journal_there it.service) (idle it.service 0) old new it.is rising
    at_terms body_terms (has_rowid position) (with_body body) (Int position ∷ Text body ∷ []) (at_test position body) refl
    (λ r. refl) (λ r. refl)
    (λ r there. stays_cast body r (all_has (λ x. is_int (rowid x) ≡ true) (old.now.trees 0) r rising.numbered there)
    (typed_in old.now.schema it old.now.trees sound r there))
    (λ found same. alone_at position (old.now.trees 0) found rising.ordered same) update_body
    (update_body_says it.service) result h
