use Rattle.std.proofs.Common.{arith, ◌∙◌}
use Rattle.relay.specs.Filling.{send_state}
use Rattle.relay.proofs.Letters.{at_limit, at_end, skip, send, stopped, is_so, is_not, letter_at, none_left}
use Rattle.relay.proofs.relay.Relay.fill_letters.Goals as goal

pub returns-then-count-limit-clause-fills : goal.returns-then-count-limit-clause-fills
returns-then-count-limit-clause-fills c =
    at_limit c.args.limit c.args.letters.now (send_state c.args.self.now c.args.client.now)
    (send_state c.loop-letter.self c.loop-letter.client) c.loop-letter.count _ c.loop-letter.invariant.0
    c.if-count-limit.true

pub returns-clause-fills : goal.returns-clause-fills
returns-clause-fills c =
    at_end c.args.limit c.args.letters.now (send_state c.args.self.now c.args.client.now)
    (send_state c.loop-letter.self c.loop-letter.client) c.loop-letter.count _ c.loop-letter.invariant.0
    (none_left c.args.letters.now c.loop-letter.letter-index c.loop-letter-test.false)

pub loop-letter-preserved-then-find-get : goal.loop-letter-preserved-then-find-get
loop-letter-preserved-then-find-get c = (
  skip c.args.limit c.args.letters.now (send_state c.args.self.now c.args.client.now)
      (send_state c.loop-letter.self c.loop-letter.client) c.loop-letter.count c.letter-item.result _ _
      (letter_at c.args.letters.now c.loop-letter.letter-index c.letter-item.result c.loop-letter-test.true
      c.letter-item.is)
      c.loop-letter.invariant.0
      (is_not c.find.result c.get.result _ _ c.find.ensures c.get.ensures.value c.if-find-get.true),
  c.loop-letter.invariant.1,
  c.loop-letter.invariant.2,
)

pub loop-letter-preserved : goal.loop-letter-preserved
loop-letter-preserved c =
    let f = c.loop-letter.invariant.0 in
    let within = f.within in (
      send c.args.limit c.args.letters.now (send_state c.args.self.now c.args.client.now)
          (send_state c.loop-letter.self c.loop-letter.client) c.loop-letter.count c.letter-item.result _ _
          (letter_at c.args.letters.now c.loop-letter.letter-index c.letter-item.result c.loop-letter-test.true
          c.letter-item.is) f
          (omega (arith, within, c.if-count-limit.false))
          (is_so c.find.result c.get.result _ _ c.find.ensures c.get.ensures.value c.if-find-get.false)
          (send_state c.send_letter.new.self c.send_letter.new.client) c.in-Ok.ensures.sends,
      c.in-Ok.ensures.behind ∙ c.loop-letter.invariant.1,
      c.in-Ok.ensures.rows ∙ c.loop-letter.invariant.2,
    )

pub returns-in-Err-clause-fills : goal.returns-in-Err-clause-fills
returns-in-Err-clause-fills c =
    let f = c.loop-letter.invariant.0 in
    let within = f.within in
    stopped c.args.limit c.args.letters.now (send_state c.args.self.now c.args.client.now)
    (send_state c.loop-letter.self c.loop-letter.client) c.loop-letter.count c.letter-item.result _ _
    (letter_at c.args.letters.now c.loop-letter.letter-index c.letter-item.result c.loop-letter-test.true
    c.letter-item.is) f
    c.in-Err.fault (omega (arith, within, c.if-count-limit.false))
    (is_so c.find.result c.get.result _ _ c.find.ensures c.get.ensures.value c.if-find-get.false)
    (send_state c.send_letter.new.self c.send_letter.new.client) c.in-Err.ensures.same c.in-Err.ensures.fault
