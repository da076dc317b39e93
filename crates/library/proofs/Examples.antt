-- Examples: what a title does with commands and messages, and askers that aren't this one.
use Rattle.std.proofs.Common.{◌≡◌, [], ◌∷◌, true, false, refl}
use Rattle.std.specs.Prelude.{codes, Ok, Err, List}
use Rattle.base.specs.Entity.{Entity, order_of}
use Rattle.base.specs.Order.{same_entity}
use Rattle.base.specs.declared.limits.TheConstants.{MAX_NUMBER}
use Rattle.envelope.specs.declared.message.Message.TheVariants.{Request, Tentative, Refused, Confirm, Cancel}
use Rattle.activities.specs.declared.handler.Refusal.TheVariants.{Own}
use Rattle.activities.specs.declared.input.Input.TheVariants.{FromSeat, FromEntity}
use Rattle.activities.specs.OwnRefusals.{own}
use Rattle.activities.specs.Reaction.{reply, state, sent}
use Rattle.library.specs.declared.title.Asker.{Asker}
use Rattle.library.specs.declared.title.TitleCommand.TheVariants.{Add, Remove}
use Rattle.library.specs.Titles.{TitleState, has_aside, aside_for, without, on_title_command, on_title_message, title_reactions}

abbrev o1 : Entity
o1 = order_of (codes "o1")

abbrev o2 : Entity
o2 = order_of (codes "o2")

abbrev o3 : Entity
o3 = order_of (codes "o3")

-- two copies for the first order, and one for the second
abbrev two_ask : List Asker
two_ask = record { who = o1; copies = 2 } ∷ record { who = o2; copies = 1 } ∷ []

-- four copies, three of which are set aside
abbrev asked_for : TitleState
asked_for = record { here = 4; aside = 3; askers = two_ask }

-- eight orders have one copy each of nine
abbrev eight_ask : List Asker
eight_ask =
    record { who = order_of (codes "a"); copies = 1 } ∷ record { who = order_of (codes "b"); copies = 1 }
    ∷ record { who = order_of (codes "c"); copies = 1 } ∷ record { who = order_of (codes "d"); copies = 1 }
    ∷ record { who = order_of (codes "e"); copies = 1 } ∷ record { who = order_of (codes "f"); copies = 1 }
    ∷ record { who = order_of (codes "g"); copies = 1 } ∷ record { who = order_of (codes "h"); copies = 1 } ∷ []

-- each asker has its own copies, and goes alone
askers_are_told_apart : (has_aside two_ask o2 ≡ true) × (has_aside two_ask o3 ≡ false) × (aside_for two_ask o1 ≡ 2)
    × (aside_for two_ask o2 ≡ 1) × (aside_for two_ask o3 ≡ 0)
    × (without two_ask o1 ≡ record { who = o2; copies = 1 } ∷ [])
    × (without two_ask o2 ≡ record { who = o1; copies = 2 } ∷ []) × (without two_ask o3 ≡ two_ask)
unfolding same_entity
askers_are_told_apart = (refl, refl, refl, refl, refl, refl, refl, refl)

-- the last copy on the shelf can be removed, and no more; copies are added as long as they can be counted
a_librarian_asks :
    (on_title_command asked_for (Remove 1) ≡ Ok (record { here = 3; aside = 3; askers = two_ask }, []))
    × (on_title_command asked_for (Remove 2) ≡ Err (Own (own 75)))
    × (on_title_command asked_for (Add 6) ≡ Ok (record { here = 10; aside = 3; askers = two_ask }, []))
    × (on_title_command (record { here = MAX_NUMBER; aside = 0; askers = [] }) (Add 1) ≡ Err (Own (own 76)))
a_librarian_asks = (refl, refl, refl, refl)

-- the last copy on the shelf is set aside for a third order, and no more; nor anything for one that has some, nor for
-- a ninth order
an_order_asks : (on_title_message asked_for o3 (Request 1) ≡ (
  record {
    here = 4;
    aside = 4;
    askers = record { who = o1; copies = 2 } ∷ record { who = o2; copies = 1 } ∷ record { who = o3; copies = 1 } ∷ [];
  },
  reply o3 Tentative,
))
    × (on_title_message asked_for o3 (Request 2) ≡ (asked_for, reply o3 Refused))
    × (on_title_message asked_for o1 (Request 1) ≡ (asked_for, reply o1 Refused))
    × (on_title_message (record { here = 9; aside = 8; askers = eight_ask }) o1 (Request 1) ≡ (
      record { here = 9; aside = 8; askers = eight_ask },
      reply o1 Refused,
    ))
unfolding same_entity
an_order_asks = (refl, refl, refl, refl)

-- an order takes its copies or gives them back; one that has none changes nothing, nor does an answer
copies_are_taken :
    (on_title_message asked_for o1 Confirm ≡ (record { here = 2; aside = 1; askers = record { who = o2; copies = 1 } ∷ [] }, []))
    × (on_title_message asked_for o1 Cancel ≡ (record { here = 4; aside = 1; askers = record { who = o2; copies = 1 } ∷ [] }, []))
    × (on_title_message asked_for o3 Confirm ≡ (asked_for, []))
    × (on_title_message asked_for o3 Cancel ≡ (asked_for, []))
    × (on_title_message asked_for o1 Tentative ≡ (asked_for, []))
unfolding same_entity
copies_are_taken = (refl, refl, refl, refl, refl)

-- from the beginning on: three copies come, an order asks for two and takes them
two_of_three_go :
    (state title_reactions (FromSeat 0 (Add 3) ∷ FromEntity o1 1 (Request 2) ∷ FromEntity o1 2 Confirm ∷ [])
    ≡ record { here = 1; aside = 0; askers = [] })
    × (sent title_reactions (FromSeat 0 (Add 3) ∷ FromEntity o1 1 (Request 2) ∷ FromEntity o1 2 Confirm ∷ []) o1
    ≡ Tentative ∷ [])
unfolding same_entity
two_of_three_go = (refl, refl)
