-- What a service processes while it lives, and how its life ends.
use Rattle.std.specs.Prelude.{◌≡◌, ℕ, true, List, [], ◌∷◌, Option, Some, Result}
use Rattle.stomp_wire.specs.declared.fault.LinkFault.{LinkFault}
use Rattle.stomp_frame.specs.Frames.{Content}
use Rattle.activities.specs.Service.{Service}
use Rattle.keep.specs.Seen.{Seen}
use Rattle.keep.specs.Tables.{Tables}
use Rattle.endpoint.specs.Deeds.{kept}
use Rattle.endpoint.specs.Matches.{AllMatch}
use Rattle.told_lock.specs.Rule.{Every, new_told}
use Rattle.told_lock.specs.declared.view.ToldToken.{ToldToken}
use Rattle.shared_endpoint.specs.History.{EverSince, EndsAs}
use Rattle.shared_endpoint.specs.Keys.{told_hand}
use Rattle.shared_endpoint.specs.Promises.{IsGood}
use Rattle.shared_endpoint.specs.Token.{hand_number}
use Rattle.service_workers.specs.Reads.{Came}
use Rattle.service_workers.specs.Taking.{CarriedAmong, Takes, TakesFrom}
use Rattle.service_workers.specs.Tokens.{GoesOn}
use Rattle.service_workers.specs.Written.{HasWrittenIf, StandsBy}
use Rattle.service_workers.specs.declared.conn.Conn.{Conn}
use Rattle.service_workers.specs.declared.handed.Tokens.{Tokens}

module _ {L : Type 0} (put_gives : L → List ℕ → Result ℕ LinkFault → L → Type 0)
    (take_gives : L → ℕ → Result (List ℕ) LinkFault → L → Type 0) {E S C : Type 0} (seen : E → Seen (Tables S C))
    (service : Service S C) where
  -- The Hand, earlier and later: what it has seen has grown. Each letter that was handled meanwhile or is held then, and each
  -- settle that was marked, is carried by one of these MESSAGEs, or the letter was held before. While the service is sound, each
  -- MESSAGE came on a connection that was given.
  pub record TakesWhatCame (sound : Type 0) (given : L → Type 0) (vs ws : List (ToldToken E)) : Type 0 where
    pub goes_on : GoesOn seen service hand_number vs ws
    pub messages : List Content
    pub came : sound → Every (Came put_gives take_gives given) messages
    pub took : Takes seen service (CarriedAmong messages) vs ws

  -- from the tokens before a run to those after it their Hand processed what came
  abbrev pub HandTakes : {H : Type 0} → (sound : Type 0) → (given : L → Type 0) → (before after : Tokens H E S C) → Type 0
  HandTakes sound given before after = TakesWhatCame sound given (told_hand before.hand) (told_hand after.hand)

  -- The service's life began with this endpoint, which was good while the service is sound. Since then the Hand has
  -- processed what came.
  pub record HasTakenWhatCame (sound : Type 0) (given : L → Type 0) (found : Option E) (ws : List (ToldToken E)) : Type 0 where
    pub first : E
    pub is_found : found ≡ Some first
    pub good : sound → IsGood seen service (new_told hand_number first)
    pub since : TakesWhatCame sound given (new_told hand_number first ∷ []) ws

  -- How a service's life ends that began with this endpoint, which was usable, and whose connections were these at their ends.
  -- No file is in doubt. An endpoint was good to the end, and what is left is that endpoint, or what became of it where its store
  -- failed. Its tables match their journal, which begins with the journal that was found, and all that the connections have
  -- written stands by them. Each letter and settle that they have more than the tables that were found is carried by one of these
  -- MESSAGEs, which came on a connection that was given, or the letter was held.
  pub record LifeStands (given : L → Type 0) (found : Option E) (left : E) (conns : List (Option (Conn L))) : Type 0 where
    pub first : E
    pub is_found : found ≡ Some first
    pub usable : (seen first).usable ≡ true
    pub good : E
    pub ends : EndsAs seen service good left
    pub clean : (seen left).doubt ≡ 0
    pub since : EverSince seen service first good
    pub matches : AllMatch service (seen good).may_leave
    pub stand : Every (HasWrittenIf put_gives take_gives (StandsBy service (seen good).tables)) conns
    pub messages : List Content
    pub came : Every (Came put_gives take_gives given) messages
    pub took : TakesFrom (CarriedAmong messages) (kept (seen first).tables) (kept (seen good).tables)
