use Rattle.std.proofs.Common.{◌≡◌, ◌∙◌, ◌-◌, ◌++◌, List, [], ap, take}
use Rattle.broker_queues.specs.declared.transactions.Logged.{Logged}
use Rattle.broker_queues.proofs.parts.Parts.put_back_all.Goals as goal

pub loop-logged-init : goal.loop-logged-init
loop-logged-init c start b last = (b, last)

pub loop-logged-preserved : goal.loop-logged-preserved
loop-logged-preserved c start b last =
    let now = c.loop-logged.invariant start b last in
    c.put_back.ensures start c.pop.new.self.items (rw c.in-Some.ensures.items at now.0) now.1

pub returns : goal.returns
returns c start b last =
    let now = c.loop-logged.invariant start b last in
    let rest : c.pop.new.self.items ≡ [] =
    c.in_default.ensures.rest ∙ ap (λ n. take (n - 1) c.loop-logged.log.items) c.in_default.ensures.cases.0 in
    let none : c.loop-logged.log.items ≡ [] = c.in_default.ensures.items ∙ ap (λ (l : List Logged). l ++ []) rest in
    rw none at now
