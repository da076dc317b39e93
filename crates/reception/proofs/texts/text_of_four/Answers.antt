use Rattle.std.proofs.Common.{[], ◌∷◌}
use Rattle.reception.proofs.Spelling.{no_text}
use Rattle.reception.proofs.texts.text_of_four.Goals as goal

pub returns : goal.returns
returns c =
    let a = c.args in
    c.in_ok-add-4.ensures (a.first.now ∷ a.second.now ∷ a.third.now ∷ [])
    (c.in_ok-add-3.ensures (a.first.now ∷ a.second.now ∷ [])
    (c.in_ok-add-2.ensures (a.first.now ∷ [])
    (c.in_ok-add.ensures [] (rw c.new-text.ensures.items no_text))))
