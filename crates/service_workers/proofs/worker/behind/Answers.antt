use Rattle.std.proofs.Common.{◌∙◌, arith}
use Rattle.std.proofs.lemmas.Bool.Decides.{nat_tests}
use Rattle.service_workers.proofs.Batching.{behind_drop, behind_none}
use Rattle.service_workers.proofs.worker.behind.Goals as goal

pub returns-then-is_empty : goal.returns-then-is_empty
returns-then-is_empty c = let test = c.is_empty.ensures in let is = c.if-is_empty.true in
    behind_none c.args.envelopes.now (grind (arith, nat_tests, test, is))

pub returns : goal.returns
returns c = c.split_at.ensures.back ∙ behind_drop c.args.envelopes.now
