use Rattle.std.proofs.Common.{refl, sym, ap, inl, inr, arith, ◌∙◌}
use Rattle.slab.proofs.SlabLemmas.{Contains-cons, Contains-cons_cases, Contains-entries}
use Rattle.broker_index.proofs.keyed.search_key.Goals as goal

pub loop-key-init : goal.loop-key-init
loop-key-init g c =
    let left = c.into_iter-key-iterator.ensures.into_iter_gives ∙ c.iter-key-items.ensures.rest in (
      tt,
      tt,
      λ key v found same. rw left ((Contains-entries c.args.slab.now key v).1 found),
      λ key v there. (Contains-entries c.args.slab.now key v).0 (rw left at there),
    )

pub loop-key-preserved : goal.loop-key-preserved
loop-key-preserved g c =
    let at = c.in-Some.ensures.steps in (
      tt,
      tt,
      λ key v found is. elim (Contains-cons_cases _ _ _ (rw at at (c.loop-key.invariant.2 key v found is))) [
        | inl same ↦ absurd (c.if-key_number-number.false (c.key_number.ensures ∙ ap (λ e. g.T.Keyed.number_of e.1) same
            ∙ is))
        | inr rest ↦ rest
      ],
      λ key v there. c.loop-key.invariant.3 key v (rw at (Contains-cons _ _ _ there)),
    )

pub returns-then-key_number-number-clause-found : goal.returns-then-key_number-number-clause-found
returns-then-key_number-number-clause-found g c =
    let at = c.in-Some.ensures.steps in (
      c.in-Some.value.now,
      c.loop-key.invariant.3 c.in-Some.key c.in-Some.value.now (rw at (0, omega arith, refl)),
      sym c.key_number.ensures ∙ c.if-key_number-number.true,
    )
