-- What the words of the command line may be.
use Rattle.std.specs.Prelude.{true, codes, Some, pos, [], ◌∷◌}
use Rattle.clap.specs.Words.{App, Rule, new_app, new_rule, with_rule}
use Rattle.clap.specs.declared.builder.ArgAction.TheVariants.{Set, SetTrue}
use Rattle.clap.specs.declared.builder.value_parser.ValueParser.TheVariants as parser
use Rattle.command_line.specs.Usage.{with_version}

-- a number from 0 to 65,535 behind `--port`, without which there is nothing to do
abbrev pub port : Rule
port = record (new_rule (codes "port")) {
  long = Some (codes "port");
  action = Some Set;
  value_names = 1;
  parser = Some (parser.Signed (pos 0) (pos 65535));
  required = true;
}

-- an address behind `--listen`, and 127.0.0.1 where it isn't there
abbrev pub listen : Rule
listen = record (new_rule (codes "listen")) {
  long = Some (codes "listen");
  action = Some Set;
  value_names = 1;
  defaults = codes "127.0.0.1" ∷ [];
}

-- `--until-input-ends` alone
abbrev pub until_input_ends : Rule
until_input_ends = record (new_rule (codes "until-input-ends")) {
  long = Some (codes "until-input-ends");
  action = Some SetTrue;
}

-- a word behind `--log`, and error where it isn't there
abbrev pub log : Rule
log = record (new_rule (codes "log")) {
  long = Some (codes "log");
  action = Some Set;
  value_names = 1;
  defaults = codes "error" ∷ [];
}

-- seconds behind `--figures`
abbrev pub figures : Rule
figures = record (new_rule (codes "figures")) {
  long = Some (codes "figures");
  action = Some Set;
  value_names = 1;
  parser = Some (parser.Signed (pos 0) (pos 65535));
}

-- seconds behind `--idle`
abbrev pub idle : Rule
idle = record (new_rule (codes "idle")) {
  long = Some (codes "idle");
  action = Some Set;
  value_names = 1;
  parser = Some (parser.Signed (pos 0) (pos 65535));
}

-- octets behind `--memory`
abbrev pub memory : Rule
memory = record (new_rule (codes "memory")) {
  long = Some (codes "memory");
  action = Some Set;
  value_names = 1;
  parser = Some (parser.Unsigned 0 18446744073709551615);
}

-- the program's name, where it listens and when it ends, `--help` and `--version`
abbrev pub plain_command_line : App
plain_command_line =
    with_rule (with_rule (with_rule (with_version (new_app (codes "outbox-broker"))) port) listen) until_input_ends

-- the command line takes these, what is told, how long a connection may be silent, and how much may be held
abbrev pub command_line : App
command_line = with_rule (with_rule (with_rule (with_rule plain_command_line log) figures) idle) memory
