use Rattle.std.proofs.Common.{◌∙◌, ap}
use Rattle.std.specs.Prelude.{codes, unwrap_or}
use Rattle.clap.specs.Words.{found_of}
use Rattle.command_line.proofs.Matches.{flag_is, text_is}
use Rattle.outbox_broker.proofs.words.settings_of.Goals as goal

pub returns : goal.returns
returns c =
    let found = found_of c.args.matches.now in
    record {
      port = c.unwrap_or-port.ensures ∙ ap (λ o. unwrap_or o 0) c.number_of.ensures;
      address = ap (λ s. s.now) c.unwrap_or-address.ensures
          ∙ text_is found (codes "listen") c.get_str.result _ c.get_str.ensures;
      until_input_ends =
          let flag = c.get_flag-until_input_ends in
          flag_is found (codes "until-input-ends") flag.result flag.ensures.value flag.ensures.other;
      log = ap (λ s. s.now) c.unwrap_or-log.ensures ∙ text_is found (codes "log") c.get_str-2.result _ c.get_str-2.ensures;
      figures = c.seconds_of-figures.ensures;
      idle = c.seconds_of-idle.ensures;
      memory = c.octets_of-memory.ensures;
    }
