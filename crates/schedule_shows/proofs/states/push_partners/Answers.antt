use Rattle.std.proofs.Common.{◌++◌, ◌<◌, length, take, sym, ap, ◌∙◌, append_assoc, arith}
use Rattle.std.specs.List.{flat_map}
use Rattle.schedule_shows.specs.Printed.{shown_partner}
use Rattle.schedule_shows.proofs.Pieces.{partners_more}
use Rattle.schedule_shows.proofs.states.push_partners.Goals as goal

pub loop-at-preserved : goal.loop-at-preserved
loop-at-preserved c =
    let partners = c.args.order.now.partners in
    let within : c.loop-at.at < length partners = omega (arith, c.partner_count-at-end.ensures) in
    let more = partners_more partners c.loop-at.at c.in-Some.partner.now within (sym c.in-Some.ensures) in
    c.in_ok-push_partner.ensures
    ∙ ap (λ t. t ++ shown_partner c.in-Some.partner.now) c.loop-at.invariant
    ∙ append_assoc c.args.line.now.items (flat_map shown_partner (take c.loop-at.at partners))
    (shown_partner c.in-Some.partner.now)
    ∙ ap (λ t. c.args.line.now.items ++ t) (sym more)
