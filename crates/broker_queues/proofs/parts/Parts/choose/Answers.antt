use Rattle.std.proofs.Common.{◌∙◌, List, ℕ, Some, ◌+◌, sym, ap, subst, arith}
use Rattle.std.specs.Prelude.{remove}
use Rattle.broker_queues.specs.Parts.Held.{holding_of}
use Rattle.broker_queues.specs.Parts.Queues.{awake_in}
use Rattle.broker_queues.proofs.Choosing.{Choosing, chooses_behind, chooses_found, chooses_left, chosen}
use Rattle.broker_queues.proofs.parts.Parts.choose.Goals as goal

pub loop-index-preserved-then-is_behind : goal.loop-index-preserved-then-is_behind
loop-index-preserved-then-is_behind c = (
  c.loop-index.invariant.0,
  λ is. chooses_behind (holding_of c.args.self.now) (holding_of c.loop-index.self) c.loop-index.index
      c.loop-index.self.active.names.items c.loop-index.best (c.loop-index.invariant.1 is) (omega arith)
      (sym c.is_behind.ensures ∙ c.if-is_behind.true),
)

pub loop-index-preserved-in-Some : goal.loop-index-preserved-in-Some
loop-index-preserved-in-Some c =
    let same = ap (λ a. a.names.items) c.in-Some.ensures.active in (
      ap (λ a. a.all) c.in-Some.ensures.active ∙ c.loop-index.invariant.0,
      λ is. (let i = c.loop-index.invariant.1 is in
          let P : List (List ℕ) → Type 0 = λ names. Choosing (holding_of c.args.self.now) (holding_of c.look.new.self)
          (c.loop-index.index + 1) names (Some c.earlier.result) in
          subst P (sym same) (chooses_found (holding_of c.args.self.now) (holding_of c.loop-index.self)
          c.loop-index.index
          c.loop-index.self.active.names.items c.loop-index.best i (omega arith) (holding_of c.look.new.self)
          c.in-Some.pick
          c.earlier.result (c.in-Some.ensures.looks i.rests.sound) c.earlier.ensures)),
    )

pub loop-index-preserved : goal.loop-index-preserved
loop-index-preserved c =
    let same = ap (λ a. a.names.items) c.in_default.ensures.active in (
      c.sleep.ensures.all ∙ ap (λ a. a.all) c.in_default.ensures.active ∙ c.loop-index.invariant.0,
      λ is. (
          let i = c.loop-index.invariant.1 is in
          chooses_left (holding_of c.args.self.now) (holding_of c.loop-index.self) c.loop-index.index
          c.loop-index.self.active.names.items c.loop-index.best i (omega arith) (holding_of c.look.new.self)
          c.look.new.self.active.all
          c.sleep.new.self.all c.sleep.new.self.names.items (c.in_default.ensures.looks i.rests.sound)
          (ap (λ names. awake_in c.look.new.self.active.all names) same) c.sleep.ensures.all
          (c.sleep.ensures.names ∙ ap (λ names. remove names c.loop-index.index) same)),
    )

pub returns : goal.returns
returns c is all =
    let i = c.loop-index.invariant.1 is in (
      i.rests,
      chosen (holding_of c.args.self.now) (holding_of c.loop-index.self) c.loop-index.index
          c.loop-index.self.active.names.items
          c.loop-index.best i (ap (λ b. awake_in b c.loop-index.self.active.names.items)
          (c.loop-index.invariant.0 ∙ all)) (omega arith),
    )
