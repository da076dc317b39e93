use Rattle.std.proofs.Common.{subst, sym}
use Rattle.shared_endpoint.specs.Keys.{told_hand}
use Rattle.service_workers.specs.Lives.{TakesWhatCame}
use Rattle.service_workers.specs.Truth.{IsGoodWhile}
use Rattle.service_workers.proofs.Lives.{both_came, nothing_came}
use Rattle.service_program.proofs.serving.keep_serving.Goals as goal

pub loop-init : goal.loop-init
loop-init g c =
    let given = c.requires.tokens in
    let same = sym c.none-conns.ensures.knows in (
      (
        record { hand = c.none-conns.ensures.hand; scout = given.0.scout },
        record {
          hand = subst (IsGoodWhile g.K.Keep.seen g.H.Handler.service g.N.Naming.sound) same given.1.hand;
          scout = given.1.scout;
        },
      ),
      subst (TakesWhatCame g.L.Link.put_gives g.L.Link.take_gives g.K.Keep.seen g.H.Handler.service g.N.Naming.sound
          g.N.Naming.given (told_hand c.args.tokens.hand)) same
          (nothing_came g.L.Link.put_gives g.L.Link.take_gives g.K.Keep.seen g.H.Handler.service g.N.Naming.sound
          g.N.Naming.given (told_hand c.args.tokens.hand) _ given.0.hand.0.own),
    )

pub loop-preserved : goal.loop-preserved
loop-preserved g c = (
  c.run_turn-turned.ensures.served.0,
  both_came g.L.Link.put_gives g.L.Link.take_gives g.K.Keep.seen g.H.Handler.service g.N.Naming.sound g.N.Naming.given
      (told_hand c.args.tokens.hand) (told_hand c.loop.tokens.hand) (told_hand c.run_turn-turned.result.0.hand)
      c.loop.invariant.1 c.run_turn-turned.ensures.served.1,
)
