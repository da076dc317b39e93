-- texts for help leave what is taken as it was
use Rattle.std.proofs.Common.{◌≡◌, false, Some, None, [], ◌∷◌, ap, ap₂, ◌∙◌}
use Rattle.std.specs.Prelude.{codes, pos}
use Rattle.clap.specs.Words.{Rule, rule_of, with_rule}
use Rattle.clap.specs.declared.builder.ArgAction.TheVariants.{Set}
use Rattle.clap.specs.declared.builder.arg.Arg.{Arg}
use Rattle.clap.specs.declared.builder.value_parser.ValueParser.TheVariants as parser
use Rattle.outbox_broker.specs.Usage.{log, figures, idle, memory}
use Rattle.outbox_broker.proofs.words.add_options.Goals as goal

pub returns : goal.returns
returns c = λ plain.
    let global = λ (a : Arg). a.global in
    let log_is : rule_of c.help-log.result ≡ log = ap rule_of c.help-log.ensures
    ∙ ap rule_of c.default_value.ensures ∙ ap (λ (r : Rule). record r { defaults = codes "error" ∷ [] })
    (ap rule_of c.value_name.ensures
    ∙ ap (λ (r : Rule). record r { value_names = 1 }) (ap rule_of c.action.ensures
    ∙ ap (λ (r : Rule). record r { action = Some Set }) (ap rule_of c.long.ensures
    ∙ ap (λ (r : Rule). record r { long = Some (codes "log") }) c.new.ensures.rule))) in
    let log_local : c.help-log.result.global ≡ false = ap global c.help-log.ensures
    ∙ ap global c.default_value.ensures ∙ ap global c.value_name.ensures ∙ ap global c.action.ensures
    ∙ ap global c.long.ensures ∙ c.new.ensures.optional.1 in
    let given-figures = c.value_parser-figures.ensures.given in
    let parser-figures : c.value_parser-figures.result.value_parser ≡ Some (parser.Signed (pos 0) (pos 65535)) =
    given-figures.1 ∙ ap (λ p. Some p) (given-figures.2 ∙ c.value_parser.ensures) in
    let base-figures : rule_of c.help.result ≡ record figures { parser = None } = ap rule_of c.help.ensures
    ∙ ap rule_of c.value_name-2.ensures ∙ ap (λ (r : Rule). record r { value_names = 1 }) (ap rule_of c.action-2.ensures
    ∙ ap (λ (r : Rule). record r { action = Some Set }) (ap rule_of c.long-2.ensures
    ∙ ap (λ (r : Rule). record r { long = Some (codes "figures") }) c.new-2.ensures.rule)) in
    let figures_is : rule_of c.value_parser-figures.result ≡ figures = ap rule_of c.value_parser-figures.ensures.others
    ∙ ap (λ (r : Rule). record r { parser = c.value_parser-figures.result.value_parser }) base-figures
    ∙ ap (λ p. record figures { parser = p }) parser-figures in
    let figures_local : c.value_parser-figures.result.global ≡ false = ap global c.value_parser-figures.ensures.others
    ∙ ap global c.help.ensures ∙ ap global c.value_name-2.ensures ∙ ap global c.action-2.ensures
    ∙ ap global c.long-2.ensures ∙ c.new-2.ensures.optional.1 in
    let given-idle = c.value_parser-idle.ensures.given in
    let parser-idle : c.value_parser-idle.result.value_parser ≡ Some (parser.Signed (pos 0) (pos 65535)) =
    given-idle.1 ∙ ap (λ p. Some p) (given-idle.2 ∙ c.value_parser-2.ensures) in
    let base-idle : rule_of c.help-2.result ≡ record idle { parser = None } = ap rule_of c.help-2.ensures
    ∙ ap rule_of c.value_name-3.ensures ∙ ap (λ (r : Rule). record r { value_names = 1 }) (ap rule_of c.action-3.ensures
    ∙ ap (λ (r : Rule). record r { action = Some Set }) (ap rule_of c.long-3.ensures
    ∙ ap (λ (r : Rule). record r { long = Some (codes "idle") }) c.new-3.ensures.rule)) in
    let idle_is : rule_of c.value_parser-idle.result ≡ idle = ap rule_of c.value_parser-idle.ensures.others
    ∙ ap (λ (r : Rule). record r { parser = c.value_parser-idle.result.value_parser }) base-idle
    ∙ ap (λ p. record idle { parser = p }) parser-idle in
    let idle_local : c.value_parser-idle.result.global ≡ false = ap global c.value_parser-idle.ensures.others
    ∙ ap global c.help-2.ensures ∙ ap global c.value_name-3.ensures ∙ ap global c.action-3.ensures
    ∙ ap global c.long-3.ensures ∙ c.new-3.ensures.optional.1 in
    let given-memory = c.value_parser-memory.ensures.given in
    let parser-memory : c.value_parser-memory.result.value_parser ≡ Some (parser.Unsigned 0 18446744073709551615) =
    given-memory.1 ∙ ap (λ p. Some p) (given-memory.2 ∙ c.value_parser-3.ensures) in
    let base-memory : rule_of c.help-3.result ≡ record memory { parser = None } = ap rule_of c.help-3.ensures
    ∙ ap rule_of c.value_name-4.ensures ∙ ap (λ (r : Rule). record r { value_names = 1 }) (ap rule_of c.action-4.ensures
    ∙ ap (λ (r : Rule). record r { action = Some Set }) (ap rule_of c.long-4.ensures
    ∙ ap (λ (r : Rule). record r { long = Some (codes "memory") }) c.new-4.ensures.rule)) in
    let memory_is : rule_of c.value_parser-memory.result ≡ memory = ap rule_of c.value_parser-memory.ensures.others
    ∙ ap (λ (r : Rule). record r { parser = c.value_parser-memory.result.value_parser }) base-memory
    ∙ ap (λ p. record memory { parser = p }) parser-memory in
    let memory_local : c.value_parser-memory.result.global ≡ false = ap global c.value_parser-memory.ensures.others
    ∙ ap global c.help-3.ensures ∙ ap global c.value_name-4.ensures ∙ ap global c.action-4.ensures
    ∙ ap global c.long-4.ensures ∙ c.new-4.ensures.optional.1 in
    c.in_ok-command.ensures.shape memory_local
    ∙ ap₂ with_rule (c.in_ok-arg-3.ensures.shape idle_local
    ∙ ap₂ with_rule (c.in_ok-arg-2.ensures.shape figures_local
    ∙ ap₂ with_rule (c.in_ok-arg.ensures.shape log_local ∙ ap₂ with_rule plain log_is) figures_is) idle_is) memory_is
