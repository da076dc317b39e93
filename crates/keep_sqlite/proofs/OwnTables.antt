-- What writes of a service's own tables leave of all others.
use Rattle.std.proofs.Common.{◌≡◌, ◌≤◌, ℕ, List, [], ◌∷◌, length, true, Option, sym, subst, ◌∙◌, arith, refl}
use Rattle.std.specs.Prelude.{map}
use Rattle.std.specs.List.{AllByRecursion}
use Rattle.sqlite_value.specs.Order.{Row}
use Rattle.sqlite_trees.specs.Tree.{Trees}
use Rattle.sqlite_schema.specs.declared.schema.Schema.{Schema}
use Rattle.sqlite_schema.specs.declared.schema.Table.{Table}
use Rattle.sqlite.specs.Effect.{IsDatabase}
use Rattle.sqlite.specs.State.{State, Shows}
use Rattle.base.specs.Entity.{Entity}
use Rattle.keep.specs.Tables.{changed_by, set_entity}
use Rattle.keep.specs.declared.change.Change.TheVariants.{State as StateChange}
use Rattle.sql_rows.specs.Schema.{common_tables}
use Rattle.sql_rows.specs.Tables.{Edits}
use Rattle.keep_sqlite.specs.Filing.{Filing}
use Rattle.keep_sqlite.specs.Tables.{marks_in, messages_in, row_in}
use Rattle.keep_sqlite.specs.Ready.{AreNumbered, IsFiled, Makes}
use Rattle.keep_sqlite.proofs.Frames.{IsLeft, common_first, rising_after}

-- inside a transaction the rows of the common tables stay, and the file is one of this schema, whose journal has so
-- many rows
pub record WritesOwn (schema : Schema) (count : ℕ) (old new : State) : Type 0 where
  pub common : AllByRecursion (λ (t : Table). new.now.trees t.tree ≡ old.now.trees t.tree) common_tables
  pub filed : IsFiled schema count new.now
  pub sound : IsDatabase new.now
  pub shown : Shows old new new.now old.committed true

-- one transaction shows what the other does
pub shows_then : (old mid new : State) → Shows old mid mid.now old.committed true
    → Shows mid new new.now mid.committed true → Shows old new new.now old.committed true
shows_then old mid new first second = record {
  was_open = first.was_open;
  is_open = second.is_open;
  now_is = refl;
  committed_is = second.committed_is ∙ first.committed_is;
  mode = second.mode;
}

-- two writes of one table
pub edits_then : (tree : ℕ) (A B C : List Row → List Row → Type 0) (old mid new : State) → Edits tree A old mid
    → Edits tree B mid new
    → (A (old.now.trees tree) (mid.now.trees tree) → B (mid.now.trees tree) (new.now.trees tree)
    → C (old.now.trees tree) (new.now.trees tree)) → Edits tree C old new
edits_then tree A B C old mid new first second both = record {
  rows = both first.rows second.rows;
  rising = second.rising;
  others = left_twice old.now.schema.tables first.others
      (subst (λ s. AllByRecursion (IsLeft tree mid.now.trees new.now.trees) s.tables) first.same_schema second.others);
  same_schema = second.same_schema ∙ first.same_schema;
  sound = second.sound;
  shown = shows_then old mid new first.shown second.shown;
}
  where
    left_twice : (ts : List Table) → AllByRecursion (IsLeft tree old.now.trees mid.now.trees) ts
        → AllByRecursion (IsLeft tree mid.now.trees new.now.trees) ts
        → AllByRecursion (IsLeft tree old.now.trees new.now.trees) ts
    left_twice [] a b = tt
    left_twice (t ∷ ts) a b = (λ other. b.0 other ∙ a.0 other, left_twice ts a.1 b.1)

-- heads of the tree 9 and lines of the tree 11, of which a write leaves one alone
pub record AreApart (schema : Schema) : Type 0 where
  pub heads_left : (old new : Trees) → AllByRecursion (IsLeft 11 old new) schema.tables → new 9 ≡ old 9
  pub lines_left : (old new : Trees) → AllByRecursion (IsLeft 9 old new) schema.tables → new 11 ≡ old 11

module _ {schema : Schema} (apart : AreApart schema) (B : List Row → List Row → Type 0) (old new : State)
    (has : old.now.schema ≡ schema) where
  pub heads_stay : Edits 11 B old new → new.now.trees 9 ≡ old.now.trees 9
  heads_stay h = apart.heads_left old.now.trees new.now.trees
      (subst (λ s. AllByRecursion (IsLeft 11 old.now.trees new.now.trees) s.tables) has h.others)

  pub lines_stay : Edits 9 B old new → new.now.trees 11 ≡ old.now.trees 11
  lines_stay h = apart.lines_left old.now.trees new.now.trees
      (subst (λ s. AllByRecursion (IsLeft 9 old.now.trees new.now.trees) s.tables) has h.others)

module _ {S C : Type 0} (f : Filing S C) (count : ℕ) where
  -- a write of an own table
  pub own_first : (tree : ℕ) (B : List Row → List Row → Type 0) (old new : State) → 9 ≤ tree
      → IsFiled f.schema count old.now → Edits tree B old new → WritesOwn f.schema count old new
  own_first tree B old new own filed h =
      let left = subst (λ s. AllByRecursion (IsLeft tree old.now.trees new.now.trees) s.tables) filed.is h.others in
      let each = subst (AllByRecursion (IsLeft tree old.now.trees new.now.trees)) (common_first f.schema f.is_service)
      left in
      let journal = each.0 (λ e. omega (arith, e, own)) in
      record {
        common = (
          journal,
          (
            each.1.0 (λ e. omega (arith, e, own)),
            (
              each.1.1.0 (λ e. omega (arith, e, own)),
              (each.1.1.1.0 (λ e. omega (arith, e, own)), (each.1.1.1.1.0 (λ e. omega (arith, e, own)), tt)),
            ),
          ),
        );
        filed = record {
          is = h.same_schema ∙ filed.is;
          rising = rising_after tree old.now.trees new.now.trees h.rising f.schema.tables left filed.rising;
          counted = subst (λ l. count ≡ length l) (sym journal) filed.counted;
          numbered = subst (AreNumbered 1) (sym journal) filed.numbered;
        };
        sound = h.sound;
        shown = h.shown;
      }

  -- two of them
  pub own_then : (old mid new : State) → WritesOwn f.schema count old mid → WritesOwn f.schema count mid new
      → WritesOwn f.schema count old new
  own_then old mid new first second = record {
    common = (
      second.common.0 ∙ first.common.0,
      (
        second.common.1.0 ∙ first.common.1.0,
        (
          second.common.1.1.0 ∙ first.common.1.1.0,
          (
            second.common.1.1.1.0 ∙ first.common.1.1.1.0,
            (second.common.1.1.1.1.0 ∙ first.common.1.1.1.1.0, tt),
          ),
        ),
      ),
    );
    filed = second.filed;
    sound = second.sound;
    shown = shows_then old mid new first.shown second.shown;
  }

  -- together they set the row of an entity
  pub makes_state : (e : Entity) (row : Option S) (old new : State) → WritesOwn f.schema count old new
      → ((x : Entity) → f.entity new.now.trees x ≡ set_entity e row (f.entity old.now.trees) x)
      → Makes f (changed_by (StateChange e row)) count old new
  makes_state e row old new h rows = record {
    tables = λ i. record {
      journal = map (row_in f) (h.common.0 i);
      entity = λ x. rows x i;
      unsettled = messages_in (h.common.1.0 i);
      sent = marks_in 3 (h.common.1.1.0 i);
      settled = marks_in 4 (h.common.1.1.0 i);
      handled = marks_in 3 (h.common.1.1.1.0 i);
      held = messages_in (h.common.1.1.1.1.0 i);
    };
    filed = h.filed;
    sound = h.sound;
    shown = h.shown;
  }
