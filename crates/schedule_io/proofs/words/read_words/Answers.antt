use Rattle.std.proofs.Common.{◌≡◌, true, [], inl, sym, subst, refl}
use Rattle.std.specs.Prelude.{map}
use Rattle.clap.specs.Simple.{matches_of, is_simple}
use Rattle.clap.specs.Words.{App, HasKind, fault_of, found_of, is_simple_and_free, rows_of, takes}
use Rattle.std.proofs.lemmas.Result.{err_from_is_err_and}
use Rattle.schedule_io.specs.Asked.{IsAskedFor, IsReadAs}
use Rattle.schedule_io.proofs.words.read_words.Goals as goal

pub returns-in_err-command : goal.returns-in_err-command
returns-in_err-command g c =
    let words = map g.T.AsStr.text c.args.words.now in
    let p = err_from_is_err_and c.from_residual.result c.from_residual.ensures.1 in
    subst (IsReadAs c.args.keeps words) (sym p.1) (record { taken = λ _. p.2; fails = inl p.2; asked = tt })

pub returns-in-Ok : goal.returns-in-Ok
returns-in-Ok g c =
    let words = map g.T.AsStr.text c.args.words.now in
    let same = c.in_ok-command.ensures in
    let given = c.in-Ok.ensures in
    record {
      taken = tt;
      fails = subst (λ (app : App). fault_of app words ≡ []) same
          (given.kinds (subst (λ (app : App). is_simple_and_free app ≡ true) (sym same) refl));
      asked = subst (λ rows. IsAskedFor rows c.chosen_by.result)
          ((subst (λ (app : App). is_simple app ≡ true → rows_of (found_of c.in-Ok.matches) ≡ matches_of app words) same
          (λ simple. (given.matches simple).0)) refl) c.chosen_by.ensures;
    }

pub returns-in-Err : goal.returns-in-Err
returns-in-Err g c =
    let words = map g.T.AsStr.text c.args.words.now in
    let same = c.in_ok-command.ensures in
    let given = c.in-Err.ensures in
    record {
      taken = λ taken. given.passes (subst (λ (app : App). takes app words ≡ true) (sym same) taken);
      fails = subst (λ (app : App). HasKind (fault_of app words) c.in-Err.error) same
          (given.kinds (subst (λ (app : App). is_simple_and_free app ≡ true) (sym same) refl));
      asked = tt;
    }
