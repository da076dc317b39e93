-- What is read of the matches of words.
use Rattle.std.proofs.Common.{◌≡◌, Bool, true, false, Option, Some, None, refl, sym, ap, ◌∙◌}
use Rattle.std.specs.Prelude.{codes, option_map, unwrap_or, []}
use Rattle.std.specs.Borrow.{Bor}
use Rattle.std.specs.Str.{bytes_eq}
use Rattle.std.proofs.lemmas.Slice.Eq.{bytes_eq-Decides}
use Rattle.clap.proofs.WalkLemmas.{first_value-rows}
use Rattle.clap.specs.Matches.{first_value}
use Rattle.clap.specs.Walk.{rows_of}
use Rattle.clap.specs.Words.{Text, first_of}
use Rattle.clap.specs.declared.parser.matches.Found.{Found}
use Rattle.command_line.specs.Matches.{IsFlag}
use Rattle.schedule_io.specs.declared.choice.StoreChoice.TheVariants.{Plain, Sqlite, Files}
use Rattle.schedule_io.specs.Asked.{IsAskedFor}

module _ (f : Found) (keep dir : Option (Bor Text))
    (keeps : option_map (λ s. s.now) keep ≡ first_value f (codes "keep")) where
  -- the value that was read is the first of the matches
  first_is : (id : Text) (read : Option (Bor Text)) (value : Option Text)
      → option_map (λ s. s.now) read ≡ first_value f id → option_map (λ s. s.now) read ≡ value
      → first_of id (rows_of f) ≡ value
  first_is id read value told is = sym (first_value-rows f id) ∙ sym told ∙ is

  sqlite_is : (name : Bor Text) → keep ≡ Some name → true ≡ bytes_eq name.now (codes "sqlite")
      → first_of (codes "keep") (rows_of f) ≡ Some (codes "sqlite")
  sqlite_is name is same = first_is (codes "keep") keep (Some (codes "sqlite")) keeps
      (ap (option_map (λ s. s.now)) is ∙ ap (λ t. Some t) ((bytes_eq-Decides name.now (codes "sqlite")).0 (sym same)))

  -- `sqlite` with a folder, or without one
  pub asks_for_files : (name folder : Bor Text) (migrate : Bool) → keep ≡ Some name
      → true ≡ bytes_eq name.now (codes "sqlite")
      → option_map (λ s. s.now) dir ≡ first_value f (codes "dir") → dir ≡ Some folder
      → IsFlag (codes "migrate") (rows_of f) migrate → IsAskedFor (rows_of f) (Files folder migrate)
  asks_for_files name folder migrate is same dirs has flag =
      (sqlite_is name is same, first_is (codes "dir") dir _ dirs (ap (option_map (λ s. s.now)) has), flag)

  pub asks_for_memory : (name : Bor Text) → keep ≡ Some name → true ≡ bytes_eq name.now (codes "sqlite")
      → option_map (λ s. s.now) dir ≡ first_value f (codes "dir") → dir ≡ None → IsAskedFor (rows_of f) Sqlite
  asks_for_memory name is same dirs has =
      (sqlite_is name is same, first_is (codes "dir") dir _ dirs (ap (option_map (λ s. s.now)) has))

module _ (f : Found) (keep : Option (Bor Text))
    (keeps : option_map (λ s. s.now) keep ≡ first_value f (codes "keep")) where
  pub other_name : (name : Bor Text) → keep ≡ Some name → false ≡ bytes_eq name.now (codes "sqlite")
      → IsAskedFor (rows_of f) Plain
  other_name name is other asked =
      let same : Some name.now ≡ Some (codes "sqlite") =
      sym (ap (option_map (λ s. s.now)) is) ∙ keeps ∙ first_value-rows f (codes "keep") ∙ asked in
      let equal : true ≡ bytes_eq name.now (codes "sqlite") =
      sym ((bytes_eq-Decides name.now (codes "sqlite")).1 (ap (λ o. unwrap_or o []) same)) in
      let no = other ∙ sym equal in absurd (cc)

  pub no_name : ((name : Bor Text) → keep ≡ Some name → ⊥) → IsAskedFor (rows_of f) Plain
  no_name none asked = go keep refl (keeps ∙ first_value-rows f (codes "keep") ∙ asked)
    where
      go : (read : Option (Bor Text)) → keep ≡ read → option_map (λ s. s.now) keep ≡ Some (codes "sqlite") → ⊥
      go (Some name) is h = none name is
      go None is h = let no = sym (ap (option_map (λ s. s.now)) is) ∙ h in absurd (cc)
