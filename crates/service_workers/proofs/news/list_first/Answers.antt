use Rattle.std.proofs.Common.{◌≡◌, ◌++◌, ◌∷◌, [], ◌∙◌, ap, append_assoc, sym}
use Rattle.std.specs.Vec.Iter.{into_iter_items}
use Rattle.service_workers.proofs.news.list_first.Goals as goal

pub loop-letter-preserved : goal.loop-letter-preserved
loop-letter-preserved c =
    let at = c.loop-letter in
    let steps : into_iter_items at.letter-iterator ≡ c.in-Some.letter ∷ into_iter_items c.next.new.self =
    c.in-Some.ensures.steps.0 in
    record {
      listed = c.in_ok-push.ensures.items ∙ (ap (λ xs. xs ++ c.in-Some.letter ∷ []) at.invariant.listed
          ∙ append_assoc c.args.list.now.items at.yielded (c.in-Some.letter ∷ []));
      read = append_assoc at.yielded (c.in-Some.letter ∷ []) _ ∙ (ap (λ xs. at.yielded ++ xs) (sym steps) ∙ at.invariant.read);
    }

pub returns-in-Some-end_at : goal.returns-in-Some-end_at
returns-in-Some-end_at c = let at = c.loop-letter in
    (at.yielded, at.invariant.listed, (into_iter_items at.letter-iterator, at.invariant.read))

pub returns-in_err-push : goal.returns-in_err-push
returns-in_err-push c = let at = c.loop-letter in
    (at.yielded, c.in_err-push.ensures.items ∙ at.invariant.listed, (into_iter_items at.letter-iterator, at.invariant.read))

pub returns : goal.returns
returns c = let at = c.loop-letter in
    (at.yielded, at.invariant.listed, (into_iter_items at.letter-iterator, at.invariant.read))
