use Rattle.std.specs.Prelude.{codes}
use Rattle.clap.specs.Words.{found_of}
use Rattle.command_line.proofs.Matches.{flag_is}
use Rattle.schedule_io.proofs.Matches.{asks_for_files, asks_for_memory, other_name, no_name}
use Rattle.schedule_io.proofs.words.chosen_by.Goals.{in_default-via-in-Some+else-eq, in_default-via-in_default}
use Rattle.schedule_io.proofs.words.chosen_by.Goals as goal

pub returns-in-Some-get_str : goal.returns-in-Some-get_str
returns-in-Some-get_str c =
    let found = found_of c.args.matches.now in
    asks_for_files found c.get_str.result c.get_str-in-Some.result c.get_str.ensures c.in-Some.name
    c.in-Some-get_str.folder c.get_flag.result c.in-Some.is c.if-eq.ensures c.get_str-in-Some.ensures c.in-Some-get_str.is
    (flag_is found (codes "migrate") c.get_flag.result c.get_flag.ensures.value c.get_flag.ensures.other)

pub returns-in-None : goal.returns-in-None
returns-in-None c =
    asks_for_memory (found_of c.args.matches.now) c.get_str.result c.get_str-in-Some.result c.get_str.ensures
    c.in-Some.name c.in-Some.is c.if-eq.ensures c.get_str-in-Some.ensures c.in-None.is

pub returns-in_default : goal.returns-in_default
returns-in_default c = elim c.in_default.branch [
  | in_default-via-in-Some+else-eq w ↦
      other_name (found_of c.args.matches.now) c.get_str.result c.get_str.ensures w.in-Some.name w.in-Some.is
      w.if-eq.ensures
  | in_default-via-in_default w ↦ no_name (found_of c.args.matches.now) c.get_str.result c.get_str.ensures w.in_default.not-Some
]
