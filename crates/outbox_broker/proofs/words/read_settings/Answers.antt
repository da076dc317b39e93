use Rattle.std.proofs.Common.{◌≡◌, true, [], sym, subst, refl}
use Rattle.std.specs.Prelude.{map}
use Rattle.clap.specs.Simple.{is_simple, matches_of}
use Rattle.clap.specs.Words.{App, HasKind, fault_of, found_of, is_simple_and_free, rows_of, takes}
use Rattle.outbox_broker.specs.Asked.{AreSettings}
use Rattle.outbox_broker.specs.Usage.{command_line}
use Rattle.outbox_broker.proofs.words.read_settings.Goals as goal

-- the command is one of those whose faults are known
is_known : is_simple_and_free command_line ≡ true
is_known = refl

pub returns-in-Err-clause-takes : goal.returns-in-Err-clause-takes
returns-in-Err-clause-takes g c = λ taken.
    c.in-Err.ensures.passes (subst (λ (app : App). takes app (map g.S.AsStr.text c.args.words.now) ≡ true)
    (sym c.in_ok-command.ensures) taken)

pub returns-in-Err-clause-fails : goal.returns-in-Err-clause-fails
returns-in-Err-clause-fails g c =
    let same = c.in_ok-command.ensures in
    subst (λ (app : App). HasKind (fault_of app (map g.S.AsStr.text c.args.words.now)) c.in-Err.error) same
    (c.in-Err.ensures.kinds (subst (λ (app : App). is_simple_and_free app ≡ true) (sym same) is_known))

pub returns-in-Ok-clause-fails : goal.returns-in-Ok-clause-fails
returns-in-Ok-clause-fails g c =
    let same = c.in_ok-command.ensures in
    subst (λ (app : App). fault_of app (map g.S.AsStr.text c.args.words.now) ≡ []) same
    (c.in-Ok.ensures.kinds (subst (λ (app : App). is_simple_and_free app ≡ true) (sym same) is_known))

pub returns-in-Ok-clause-asked : goal.returns-in-Ok-clause-asked
returns-in-Ok-clause-asked g c =
    let words = map g.S.AsStr.text c.args.words.now in
    let simple : is_simple command_line ≡ true → rows_of (found_of c.in-Ok.matches) ≡ matches_of command_line words =
    subst (λ (app : App). is_simple app ≡ true → rows_of (found_of c.in-Ok.matches) ≡ matches_of app words)
    c.in_ok-command.ensures (λ simple. (c.in-Ok.ensures.matches simple).0) in
    subst (λ rows. AreSettings rows c.settings_of.result) (simple refl) c.settings_of.ensures
