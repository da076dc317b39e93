-- The queries that the texts mean.
use Rattle.std.proofs.Common.{◌≡◌, ℕ, pos, negsuc, List, [], ◌∷◌, map, false, None}
use Rattle.sqlite.specs.Query.{Query, inner, end}
use Rattle.sqlite.specs.Listing.{reads_listing}
use Rattle.sqlite.specs.Schema.{Schema}
use Rattle.sqlite.specs.Command.TheVariants.{Select}
use Rattle.sqlite.specs.declared.types.Value.TheVariants.{Int}
use Rattle.sqlite_sql.specs.Term.{Term, lit, col, op2}
use Rattle.sqlite_sql.specs.declared.ops.BinaryOp.TheVariants.{Compare}
use Rattle.sqlite_sql.specs.declared.ops.CompareOp.TheVariants.{Eq}
use Rattle.sqlite_value.specs.declared.keys.Collation.TheVariants.{Binary}
use Rattle.sql_rows.specs.Tables.{up}
use Rattle.sql_rows.proofs.Steps.{Says}

abbrev pub eq : Term → Term → Term
eq a b = op2 (Compare Eq Binary) a b

-- the row's first column, its first two or three, are the first parameters
abbrev pub text_terms : List Term
text_terms = eq (col 1 1) (col 0 0) ∷ []

abbrev pub pair_terms : List Term
pair_terms = eq (col 1 1) (col 0 0) ∷ eq (col 1 2) (col 0 1) ∷ []

abbrev pub place_terms : List Term
place_terms = eq (col 1 1) (col 0 0) ∷ eq (col 1 2) (col 0 1) ∷ eq (col 1 3) (col 0 2) ∷ []

-- no limit
abbrev pub every : Term
every = lit (Int (negsuc 0))

-- the rows of a table that pass, in order of these columns
abbrev pub rows_of : ℕ → List Term → List Term → List Term → Term → Query
rows_of tree filter project order limit = record {
  from = inner tree end;
  filter = filter;
  group = None;
  project = project;
  distinct = false;
  collations = [];
  order = map (λ t. (t, up)) order;
  limit = limit;
  offset = lit (Int (pos 0));
}

-- the rowids of those that pass
abbrev pub ids : ℕ → List Term → Query
ids tree filter = rows_of tree filter (col 1 0 ∷ []) [] every

-- the text asks for what the query shows, and not for the list of tables
abbrev pub Asks : Schema → List ℕ → Query → List (List ℕ) → Type 0
Asks schema sql q names = Says schema sql (Select (record { lets = []; body = q }) names)
    × (reads_listing schema sql ≡ false)
