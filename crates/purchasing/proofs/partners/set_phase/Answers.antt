use Rattle.std.proofs.Common.{◌≡◌, get_or, set, take, true, false, ap, sym, ◌∙◌, subst, add-one}
use Rattle.std.proofs.lemmas.List.{take_all}
use Rattle.base.specs.Order.{same_entity}
use Rattle.trade.specs.Orders.{Partner}
use Rattle.purchasing.specs.Parts.Partners.{names, stands_in}
use Rattle.purchasing.proofs.Lists.{with_phase-at, with_phase-none, not_before}
use Rattle.purchasing.proofs.partners.set_phase.Goals as goal

pub returns-then-is : goal.returns-then-is
returns-then-is c =
    let at = c.loop-index.index in
    let ps = c.args.partners.now in
    let same = c.loop-index.invariant.same in
    let b = c.index-partners-index.result in
    let d = c.index-partners-index-then-is.result in
    let found : same_entity c.args.sender.now (get_or ps at b).entity ≡ true =
    subst (λ (p : Partner). same_entity c.args.sender.now p.entity ≡ true) (ap (λ qs. get_or qs at b) same)
    (sym c.is.ensures ∙ c.if-is.true) in
    let item = ap (λ qs. get_or qs at d) same in
    let new = c.set_phase.ensures ∙ ap (λ (p : Partner). record p { phase = c.args.phase }) item in
    ap (λ qs. set qs at c.set_phase.new.self) same ∙ ap (λ p. set ps at p) new
    ∙ sym (with_phase-at c.args.sender.now c.args.phase ps at b d c.loop-index.invariant.before c.loop-index-test.true
    found)

pub loop-index-preserved : goal.loop-index-preserved
loop-index-preserved c =
    let at = c.loop-index.index in
    let ps = c.args.partners.now in
    let same = c.loop-index.invariant.same in
    let b = c.index-partners-index.result in
    let other : same_entity c.args.sender.now (get_or ps at b).entity ≡ false =
    subst (λ (p : Partner). same_entity c.args.sender.now p.entity ≡ false) (ap (λ qs. get_or qs at b) same)
    (sym c.is.ensures ∙ c.if-is.false) in
    record {
      same = same;
      before = rw add-one (not_before c.args.sender.now ps at b c.loop-index.invariant.before c.loop-index-test.true
          other);
    }

pub returns : goal.returns
returns c =
    let ps = c.args.partners.now in
    let none : stands_in c.args.sender.now (names ps) ≡ false =
    subst (λ qs. stands_in c.args.sender.now (names qs) ≡ false) (take_all c.loop-index.index ps
    c.loop-index-test.false)
    c.loop-index.invariant.before in
    c.loop-index.invariant.same ∙ sym (with_phase-none c.args.sender.now c.args.phase ps none)
