-- texts for help leave what is taken as it was
use Rattle.std.proofs.Common.{◌≡◌, true, false, Some, None, [], ◌∷◌, ap, ap₂, ◌∙◌}
use Rattle.std.specs.Prelude.{codes, pos}
use Rattle.clap.specs.Words.{Rule, rule_of, with_rule}
use Rattle.clap.specs.Simple.{app_of_fields}
use Rattle.clap.specs.declared.builder.ArgAction.TheVariants.{Set, SetTrue}
use Rattle.clap.specs.declared.builder.arg.Arg.{Arg}
use Rattle.clap.specs.declared.builder.value_parser.ValueParser.TheVariants as parser
use Rattle.command_line.specs.Usage.{with_version}
use Rattle.outbox_broker.specs.Usage.{port, listen, until_input_ends}
use Rattle.outbox_broker.proofs.words.make_command.Goals as goal

pub returns : goal.returns
returns c =
    let given = c.value_parser-port.ensures.given in
    let parser_is : c.value_parser-port.result.value_parser ≡ Some (parser.Signed (pos 0) (pos 65535)) =
    given.1 ∙ ap (λ p. Some p) (given.2 ∙ c.value_parser.ensures) in
    let base_is : rule_of c.help.result ≡ record port { parser = None } = ap rule_of c.help.ensures
    ∙ ap rule_of c.value_name.ensures ∙ ap (λ (r : Rule). record r { value_names = 1 }) (ap rule_of c.action.ensures
    ∙ ap (λ (r : Rule). record r { action = Some Set }) (ap rule_of c.required.ensures
    ∙ ap (λ (r : Rule). record r { required = true }) (ap rule_of c.long.ensures
    ∙ ap (λ (r : Rule). record r { long = Some (codes "port") }) c.new.ensures.rule))) in
    let port_is : rule_of c.value_parser-port.result ≡ port = ap rule_of c.value_parser-port.ensures.others
    ∙ ap (λ (r : Rule). record r { parser = c.value_parser-port.result.value_parser }) base_is
    ∙ ap (λ p. record port { parser = p }) parser_is in
    let listen_is : rule_of c.help-listen.result ≡ listen = ap rule_of c.help-listen.ensures
    ∙ ap rule_of c.default_value.ensures ∙ ap (λ (r : Rule). record r { defaults = codes "127.0.0.1" ∷ [] })
    (ap rule_of c.value_name-2.ensures
    ∙ ap (λ (r : Rule). record r { value_names = 1 }) (ap rule_of c.action-2.ensures
    ∙ ap (λ (r : Rule). record r { action = Some Set }) (ap rule_of c.long-2.ensures
    ∙ ap (λ (r : Rule). record r { long = Some (codes "listen") }) c.new-2.ensures.rule))) in
    let until_is : rule_of c.help-until_input_ends.result ≡ until_input_ends = ap rule_of c.help-until_input_ends.ensures
    ∙ ap rule_of c.action-3.ensures ∙ ap (λ (r : Rule). record r { action = Some SetTrue }) (ap rule_of c.long-3.ensures
    ∙ ap (λ (r : Rule). record r { long = Some (codes "until-input-ends") }) c.new-3.ensures.rule) in
    let plain_is = ap app_of_fields c.after_help.ensures ∙ ap app_of_fields c.override_usage.ensures
    ∙ ap app_of_fields c.about.ensures ∙ ap app_of_fields c.version.ensures ∙ ap with_version c.new-4.ensures.app in
    let global = λ (a : Arg). a.global in
    let port_local : c.value_parser-port.result.global ≡ false = ap global c.value_parser-port.ensures.others
    ∙ ap global c.help.ensures ∙ ap global c.value_name.ensures ∙ ap global c.action.ensures
    ∙ ap global c.required.ensures ∙ ap global c.long.ensures ∙ c.new.ensures.optional.1 in
    let listen_local : c.help-listen.result.global ≡ false = ap global c.help-listen.ensures
    ∙ ap global c.default_value.ensures ∙ ap global c.value_name-2.ensures ∙ ap global c.action-2.ensures
    ∙ ap global c.long-2.ensures ∙ c.new-2.ensures.optional.1 in
    let until_local : c.help-until_input_ends.result.global ≡ false = ap global c.help-until_input_ends.ensures
    ∙ ap global c.action-3.ensures ∙ ap global c.long-3.ensures ∙ c.new-3.ensures.optional.1 in
    c.add_options.ensures (c.in_ok-command.ensures.shape until_local
    ∙ ap₂ with_rule (c.in_ok-arg-2.ensures.shape listen_local
    ∙ ap₂ with_rule (c.in_ok-arg.ensures.shape port_local ∙ ap₂ with_rule plain_is port_is) listen_is) until_is)
