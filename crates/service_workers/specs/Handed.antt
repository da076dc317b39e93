-- What is so of the two tokens of a run.
use Rattle.activities.specs.Service.{Service}
use Rattle.keep.specs.Seen.{Seen}
use Rattle.keep.specs.Tables.{Tables}
use Rattle.shared_endpoint.specs.Keys.{IsHandOf, IsScoutOf, told_hand, told_scout}
use Rattle.shared_endpoint.specs.Token.{hand_number, scout_number}
use Rattle.shared_endpoint.specs.declared.shared.Shared.{Shared}
use Rattle.service_workers.specs.Tokens.{GoesOn}
use Rattle.service_workers.specs.Truth.{IsGoodWhile}
use Rattle.service_workers.specs.declared.handed.Tokens.{Tokens}

-- they are tokens of this service
pub record AreTokensOf {H E S C : Type 0} (shared : Shared H E S C) (tokens : Tokens H E S C) : Type 0 where
  pub hand : IsHandOf shared tokens.hand
  pub scout : IsScoutOf shared tokens.scout

module _ {H E S C : Type 0} (seen : E → Seen (Tables S C)) (service : Service S C) where
  -- while the service is sound both are good
  pub record AreGoodWhile (sound : Type 0) (tokens : Tokens H E S C) : Type 0 where
    pub hand : IsGoodWhile seen service sound (told_hand tokens.hand)
    pub scout : IsGoodWhile seen service sound (told_scout tokens.scout)

  -- each has seen no less than before
  pub record BothGoOn (before after : Tokens H E S C) : Type 0 where
    pub hand : GoesOn seen service hand_number (told_hand before.hand) (told_hand after.hand)
    pub scout : GoesOn seen service scout_number (told_scout before.scout) (told_scout after.scout)
