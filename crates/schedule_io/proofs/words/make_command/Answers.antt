-- texts for help leave what is taken as it was
use Rattle.std.proofs.Common.{◌≡◌, false, Some, None, [], ◌∷◌, ap, ap₂, ◌∙◌, rules}
use Rattle.std.specs.Prelude.{codes}
use Rattle.clap.specs.Words.{Rule, rule_of, with_rule}
use Rattle.clap.specs.Simple.{app_of_fields}
use Rattle.clap.specs.declared.builder.ArgAction.TheVariants.{Set}
use Rattle.clap.specs.declared.builder.arg.Arg.{Arg}
use Rattle.clap.specs.declared.builder.value_parser.ValueParser.TheVariants as parser
use Rattle.command_line.specs.Usage.{with_version}
use Rattle.schedule_io.specs.Asked.{keep, dir, migrate}
use Rattle.schedule_io.proofs.words.make_command.Goals as goal

pub returns : goal.returns
returns c =
    let given = c.value_parser-keep.ensures.given in
    let parser_is : c.value_parser-keep.result.value_parser ≡ Some (parser.Names c.args.keeps) =
    given.1 ∙ ap (λ p. Some p) given.2 in
    let named_is : rule_of c.value_name.result ≡ record (keep c.args.keeps) { parser = None; defaults = [] } =
    ap rule_of c.value_name.ensures ∙ ap (λ (r : Rule). record r { value_names = 1 }) (ap rule_of c.action.ensures
    ∙ ap (λ (r : Rule). record r { action = Some Set }) (ap rule_of c.long.ensures
    ∙ ap (λ (r : Rule). record r { long = Some (codes "keep") }) c.new.ensures.rule)) in
    let base_is : rule_of c.help.result ≡ record (keep c.args.keeps) { parser = None } =
    ap rule_of c.help.ensures ∙ ap rule_of c.default_value.ensures
    ∙ ap (λ (r : Rule). record r { defaults = codes "plain" ∷ [] }) named_is in
    let keep_is : rule_of c.value_parser-keep.result ≡ keep c.args.keeps = ap rule_of c.value_parser-keep.ensures.others
    ∙ ap (λ (r : Rule). record r { parser = c.value_parser-keep.result.value_parser }) base_is
    ∙ ap (λ p. record (keep c.args.keeps) { parser = p }) parser_is in
    let folder = c.value_parser-dir.ensures.given in
    let not_empty : c.value_parser-dir.result.value_parser ≡ Some parser.NonEmptyString =
    folder.1 ∙ ap (λ p. Some p) folder.2 in
    let path_is : rule_of c.help-2.result ≡ record dir { parser = None } = ap rule_of c.help-2.ensures
    ∙ ap rule_of c.value_name-2.ensures ∙ ap (λ (r : Rule). record r { value_names = 1 }) (ap rule_of c.action-2.ensures
    ∙ ap (λ (r : Rule). record r { action = Some Set }) (ap rule_of c.long-2.ensures
    ∙ ap (λ (r : Rule). record r { long = Some (codes "dir") }) c.new-2.ensures.rule)) in
    let dir_is : rule_of c.value_parser-dir.result ≡ dir = ap rule_of c.value_parser-dir.ensures.others
    ∙ ap (λ (r : Rule). record r { parser = c.value_parser-dir.result.value_parser }) path_is
    ∙ ap (λ p. record dir { parser = p }) not_empty in
    let migrate_is : rule_of c.help-migrate.result ≡ migrate = search rules in
    let plain_is = ap app_of_fields c.after_help.ensures ∙ ap app_of_fields c.override_usage.ensures
    ∙ ap app_of_fields c.about.ensures ∙ ap app_of_fields c.version.ensures ∙ ap with_version c.new-4.ensures.app in
    let global = λ (a : Arg). a.global in
    let keep_local : c.value_parser-keep.result.global ≡ false = ap global c.value_parser-keep.ensures.others
    ∙ ap global c.help.ensures ∙ ap global c.default_value.ensures ∙ ap global c.value_name.ensures
    ∙ ap global c.action.ensures ∙ ap global c.long.ensures ∙ c.new.ensures.optional.1 in
    let dir_local : c.value_parser-dir.result.global ≡ false = ap global c.value_parser-dir.ensures.others
    ∙ ap global c.help-2.ensures ∙ ap global c.value_name-2.ensures ∙ ap global c.action-2.ensures
    ∙ ap global c.long-2.ensures ∙ c.new-2.ensures.optional.1 in
    let migrate_local : c.help-migrate.result.global ≡ false = search rules in
    c.in_ok-command.ensures.shape migrate_local
    ∙ ap₂ with_rule (c.in_ok-arg-2.ensures.shape dir_local
    ∙ ap₂ with_rule (c.in_ok-arg.ensures.shape keep_local ∙ ap₂ with_rule plain_is keep_is) dir_is) migrate_is
