use Rattle.std.proofs.Common.{Some, None, lit<, arith}
use Rattle.std.proofs.lemmas.Grind.{common_steps}
use Rattle.std.proofs.lemmas.Str.Pattern.{split_once_first}
use Rattle.test_script.proofs.words.first_word.Goals as goal

pub returns-in-Some : goal.returns-in-Some
returns-in-Some c =
    let parts =
    split_once_first 32 c.args.line.now (Some (c.in-Some.word, c.in-Some.rest)) c.in-Some.ensures.cases (lit< tt) in
    record { word = parts.1; rest = parts.2 }

pub returns-in-None-clause-word : goal.returns-in-None-clause-word
returns-in-None-clause-word c =
    let whole =
    split_once_first 32 c.args.line.now None c.in-None.ensures.cases (lit< tt) in grind (arith, common_steps, whole)

pub returns-in-None-clause-rest : goal.returns-in-None-clause-rest
returns-in-None-clause-rest c =
    let whole =
    split_once_first 32 c.args.line.now None c.in-None.ensures.cases (lit< tt) in grind (arith, common_steps, whole)
