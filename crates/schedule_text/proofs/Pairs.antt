-- Pairs of words that are read one after another.
use Rattle.std.proofs.Common.{◌≡◌, ◌<◌, ℕ, List, [], ◌∷◌, ◌++◌, refl, sym, ap, ◌∙◌, arith, Option, Some, None, length}
use Rattle.std.proofs.Common.{take, drop}
use Rattle.std.proofs.Common.{append_assoc}
use Rattle.std.specs.Option.{option_map}
use Rattle.trade.specs.declared.commands.OrderCommand.{OrderCommand}
use Rattle.trade.specs.declared.commands.OrderCommand.TheVariants.{Place, CancelOrder}
use Rattle.trade.specs.declared.items.Item.{Item}
use Rattle.schedule_text.specs.Commands.{item_of, asked_first, pairs_of}
use Rattle.schedule_text.specs.Words.{◌>>=◌}

-- what is asked for behind items, and one before that
one_behind : (items : List Item) (i : Item) (found : Option OrderCommand)
    → option_map (asked_first items) (found >>= λ others. Some (asked_first (i ∷ []) others))
    ≡ option_map (asked_first (items ++ i ∷ [])) found
one_behind items i None = refl
one_behind items i (Some (Place others account amount)) =
    ap (λ is. Some (Place is account amount)) (sym (append_assoc items (i ∷ []) others))
one_behind items i (Some CancelOrder) = refl

-- a pair before others
pair_first : (words : List (List ℕ)) → 2 < length words
    → pairs_of words ≡ (item_of (take 2 words) >>= λ i. pairs_of (drop 2 words) >>= λ others. Some
    (asked_first (i ∷ []) others))
pair_first [] many = absurd (omega (arith, many))
pair_first (stock ∷ []) many = absurd (omega (arith, many))
pair_first (stock ∷ n ∷ []) many = absurd (omega (arith, many))
pair_first (stock ∷ n ∷ other ∷ words) many = refl

-- a pair more is read
pub pairs_go_on : (items : List Item) (rest : List (List ℕ)) (i : Item) (whole : Option OrderCommand) → 2 < length rest
    → item_of (take 2 rest) ≡ Some i → option_map (asked_first items) (pairs_of rest) ≡ whole
    → option_map (asked_first (items ++ i ∷ [])) (pairs_of (drop 2 rest)) ≡ whole
pairs_go_on items rest i whole many read told =
    sym (one_behind items i (pairs_of (drop 2 rest)))
    ∙ ap (λ found. option_map (asked_first items) (found >>= λ i. pairs_of (drop 2 rest) >>= λ others. Some
    (asked_first (i ∷ []) others)))
    (sym read)
    ∙ ap (option_map (asked_first items)) (sym (pair_first rest many)) ∙ told
