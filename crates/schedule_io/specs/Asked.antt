-- Which stores the words of the command line ask for.
use Rattle.std.specs.Prelude.{◌≡◌, List, [], ◌∷◌, map, codes, Some, None, Result, IfOk, IfErr, true}
use Rattle.std.specs.Borrow.{Bor}
use Rattle.clap.specs.Simple.{matches_of}
use Rattle.clap.specs.Words.{App, FailsBy, Row, Rule, Text, fault_of, first_of, kind_of, new_app, new_rule, takes, with_rule}
use Rattle.clap.specs.declared.builder.ArgAction.TheVariants.{Set, SetTrue}
use Rattle.clap.specs.declared.builder.value_parser.ValueParser.TheVariants as parser
use Rattle.clap.specs.declared.error.Error.{Error}
use Rattle.clap.specs.declared.error.kind.ErrorKind.TheVariants.{OutOfMemory}
use Rattle.command_line.specs.Matches.{IsFlag}
use Rattle.command_line.specs.Usage.{with_version}
use Rattle.schedule_io.specs.declared.choice.StoreChoice.{StoreChoice}
use Rattle.schedule_io.specs.declared.choice.StoreChoice.TheVariants.{Plain, Sqlite, Files}

-- the words that may stand behind `--keep`, by reference
abbrev pub AreKeeps : Bor (List (Bor Text)) → Type 0
AreKeeps keeps = map (λ name. name.now) keeps.now ≡ codes "plain" ∷ codes "sqlite" ∷ []

-- one of these behind `--keep`, and `plain` where it isn't there
abbrev pub keep : Bor (List (Bor Text)) → Rule
keep keeps = record (new_rule (codes "keep")) {
  long = Some (codes "keep");
  action = Some Set;
  value_names = 1;
  defaults = codes "plain" ∷ [];
  parser = Some (parser.Names keeps);
}

-- a path after `--dir`, which isn't empty
abbrev pub dir : Rule
dir = record (new_rule (codes "dir")) {
  long = Some (codes "dir");
  action = Some Set;
  value_names = 1;
  parser = Some parser.NonEmptyString;
}

-- `--migrate` alone
abbrev pub migrate : Rule
migrate = record (new_rule (codes "migrate")) { long = Some (codes "migrate"); action = Some SetTrue }

-- the command line takes the program's name, `--keep`, `--dir`, `--migrate`, `--help` and `--version`
abbrev pub command_line : Bor (List (Bor Text)) → App
command_line keeps =
    with_rule (with_rule (with_rule (with_version (new_app (codes "outbox-schedule"))) (keep keeps)) dir) migrate

-- The matches of the words ask for these stores: the folder isn't looked at with `plain`.
abbrev pub IsAskedFor : List Row → StoreChoice → Type 0
IsAskedFor rows Plain = first_of (codes "keep") rows ≡ Some (codes "sqlite") → ⊥
IsAskedFor rows Sqlite = (first_of (codes "keep") rows ≡ Some (codes "sqlite")) × (first_of (codes "dir") rows ≡ None)
IsAskedFor rows (Files folder migrate) =
    (first_of (codes "keep") rows ≡ Some (codes "sqlite")) × (first_of (codes "dir") rows ≡ Some folder.now)
    × IsFlag (codes "migrate") rows migrate

-- what reading the words answers: the stores that they ask for, or a fault that they have, or that memory was refused
pub record IsReadAs (keeps : Bor (List (Bor Text))) (words : List Text) (r : Result StoreChoice Error) : Type 0 where
  pub taken : IfErr r (λ e. takes (command_line keeps) words ≡ true → kind_of e ≡ OutOfMemory)
  pub fails : FailsBy (fault_of (command_line keeps) words) r
  pub asked : IfOk r (IsAskedFor (matches_of (command_line keeps) words))
