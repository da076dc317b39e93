-- Examples: what a life may take in and mark as settled, and that three services may live.
use Rattle.std.proofs.Common.{◌≡◌, [], ◌∷◌, refl, ap, arith, inl, inr}
use Rattle.std.proofs.lemmas.List.Elements.{Contains-push_cases}
use Rattle.base.specs.Order.{same_entity, same_pair}
use Rattle.envelope.specs.declared.message.Envelope.TheVariants.{Letter, Settle}
use Rattle.trade.specs.declared.commands.StockCommand.{StockCommand}
use Rattle.activities.specs.declared.input.JournalRow.{JournalRow}
use Rattle.activities.proofs.Sameness.{either}
use Rattle.endpoint.specs.Arrivals.{row_of_letter}
use Rattle.laws_stores.specs.Sight.{all_empty, orders_service, stocks_service, accounts_service}
use Rattle.laws_services.specs.Lives.{TakeIn, AreSettledBy, Post, WasThere, HaveLived}
use Rattle.laws_services.proofs.Examples.{pair, first, early, idle, holding, has_none, number_in}
use Rattle.laws_services.proofs.Living.{new_has_lived, none_is_there}

-- nothing was read or written; the first letter was read; the early one was
abbrev no_post : Post
no_post = record { read = []; written = [] }

abbrev read_first : Post
read_first = record { read = Letter first ∷ []; written = [] }

abbrev read_early : Post
read_early = record { read = Letter early ∷ []; written = [] }

-- the rows that take these letters in
abbrev first_row : JournalRow StockCommand
first_row = row_of_letter first

abbrev early_row : JournalRow StockCommand
early_row = row_of_letter early

-- a letter is taken in that was read or was held when the life began; but none that was neither, or where another was read
some_rows_are_taken_in : TakeIn (WasThere read_first idle) (first_row ∷ [])
    × TakeIn (WasThere no_post holding) (early_row ∷ [])
    × (TakeIn (WasThere no_post idle) (first_row ∷ []) → ⊥)
    × (TakeIn (WasThere read_early idle) (first_row ∷ []) → ⊥)
unfolding same_entity same_pair
some_rows_are_taken_in = (
  (inl (0, omega arith, refl), tt),
  (inr refl, tt),
  λ h. either h.0 (has_none (Letter first)) (λ held. absurd (cc)),
  λ h. either h.0
      (λ was. either (Contains-push_cases [] (Letter early) (Letter first) was)
      (has_none (Letter first))
      (λ same. let numbers : 2 ≡ 1 = ap number_in same in omega (arith, numbers)))
      (λ held. absurd (cc)),
)

-- a mark is set as far as a settle that was read, and no further
some_marks_are_set : AreSettledBy (Settle pair 2 ∷ []) pair 2 × AreSettledBy (Settle pair 2 ∷ []) pair 1
    × (AreSettledBy (Settle pair 2 ∷ []) pair 3 → ⊥)
some_marks_are_set = (
  (2, (0, omega arith, refl), omega arith),
  (2, (0, omega arith, refl), omega arith),
  λ h. either (Contains-push_cases [] (Settle pair 2) (Settle pair h.0) h.1)
      (has_none (Settle pair h.0))
      (λ same. let number : 2 ≡ h.0 = ap number_in same in let upto = h.2 in omega (arith, number, upto)),
)

-- three services that did nothing have lived
new_services_have_lived : HaveLived all_empty
new_services_have_lived = record {
  orders = no_post;
  stocks = no_post;
  accounts = no_post;
  purchasing = new_has_lived orders_service;
  warehouse = new_has_lived stocks_service;
  billing = new_has_lived accounts_service;
  handed_on = λ e h. absurd (none_is_there e h);
}
