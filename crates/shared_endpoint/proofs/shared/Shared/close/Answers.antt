use Rattle.std.proofs.Common.{arith, ◌++◌, sym, ap, ◌∙◌, subst}
use Rattle.told_lock.specs.Keys.{knows}
use Rattle.shared_endpoint.specs.Keys.{told_hand, told_seats, shown_hand, shown_seats, Closes}
use Rattle.shared_endpoint.proofs.Closing.{closes, all_keys, all_there}
use Rattle.shared_endpoint.proofs.shared.Shared.close.Goals as goal

pub all_in-requires : goal.all_in-requires
all_in-requires g c =
    let took = c.take-boxed.ensures.took in
    let one = c.take_in.ensures.both in (
      omega arith,
      (
        c.take_in.ensures.key,
        (
          all_keys c.args.self c.args.seats c.requires.seats,
          (
            ap (λ v. v.stage) one ∙ ap (λ v. v.stage) took.is,
            (c.take-boxed.result, ap (λ v. v.has) one ∙ ap (λ v. v.has) took.is),
          ),
        ),
      ),
    )

pub returns : goal.returns
returns g c =
    let took = c.take-boxed.ensures.took in
    let one = c.take_in.ensures.both in
    let all = c.all_in.ensures in
    subst (Closes g.K.Keep.seen g.H.Handler.service _ _) (sym c.into_inner.ensures)
    (closes g.K.Keep.seen g.H.Handler.service (knows c.all_in.new.key) c.take-boxed.result _ _ c.compare.ensures.sums
    (all.holds.1 ∙ ap (λ v. v.has) one ∙ ap (λ v. v.has) took.is)
    (all.own ∙ ap (λ ts. ts ++ told_seats c.args.seats)
    (ap (λ v. v.own) one ∙ ap (λ v. v.own ++ told_hand c.args.hand) took.is))
    (all.shown ∙ ap (λ es. es ++ shown_seats c.args.seats)
    (ap (λ v. v.shown) one ∙ ap (λ v. v.shown ++ shown_hand c.args.hand) took.is))
    (all_there c.args.self c.args.seats c.args.hand c.args.scout c.requires.seats c.requires.hand c.requires.scout))
