use Rattle.std.proofs.Common.{◌++◌, ◌∙◌, subst, sym}
use Rattle.shared_endpoint.specs.Keys.{Closes, told_hand, told_scout, told_seats, shown_hand, shown_scout, shown_seats}
use Rattle.shared_endpoint.specs.Keys.{shown_witness}
use Rattle.service_workers.specs.Conns.{values_of}
use Rattle.service_workers.specs.Lives.{HasTakenWhatCame}
use Rattle.service_workers.proofs.Lives.{life_stands, one_among}
use Rattle.service_workers.proofs.life.close_life.Goals as goal

pub returns : goal.returns
returns g c =
    let tokens = (told_scout c.args.scout ++ told_hand c.learn.new.self) ++ told_seats c.args.seats in
    let hand = c.learn.ensures.hand.0.0 in
    record {
      noted = c.into_parts-conns.ensures.noted;
      stands = λ s z. life_stands g.L.Link.put_gives g.L.Link.take_gives g.K.Keep.seen g.H.Handler.service g.N.Naming.sound
          g.N.Naming.given g.N.Naming.found c.close.result
          tokens (shown_scout c.args.scout) (shown_hand c.args.hand) (shown_witness c.into_parts-conns.result.1)
          (shown_seats c.args.seats) hand.one (values_of c.into_parts-conns.result.0.items) s
          (subst (λ es. Closes g.K.Keep.seen g.H.Handler.service tokens
          ((shown_scout c.args.scout ++ es) ++ shown_seats c.args.seats) c.close.result) c.learn.ensures.shown c.close.ensures)
          z c.into_parts-conns.ensures.witness.1 (c.into_parts-conns.ensures.spoken s) hand.number
          (one_among (told_scout c.args.scout) (told_hand c.learn.new.self) (told_seats c.args.seats) hand.one hand.own)
          (subst (HasTakenWhatCame g.L.Link.put_gives g.L.Link.take_gives g.K.Keep.seen g.H.Handler.service g.N.Naming.sound
          g.N.Naming.given g.N.Naming.found) (sym c.learn.ensures.knows ∙ hand.own) c.requires.took);
    }
