-- What always holds of two sides, whatever the network does.
use Rattle.std.specs.Prelude.{◌≡◌, ℕ, ◌≤◌, List, Some}
use Rattle.base.specs.declared.pair.Pair.{Pair}
use Rattle.envelope.specs.declared.message.Message.{Message}
use Rattle.activities.specs.declared.input.JournalRow.{JournalRow}
use Rattle.activities.specs.Journal.{sent_of, letters_of, handled_of}
use Rattle.activities.specs.Numbered.{numbered, nth, IsPrefixOf}
use Rattle.activities.specs.Reaction.{Reactions}
use Rattle.activities.specs.Service.{Service}
use Rattle.endpoint.specs.Deeds.{Kept, kept}
use Rattle.laws_network.specs.Envelopes.{AreAuthentic}
use Rattle.laws_network.specs.Sides.{Sides}

-- One side follows the other: of each pair it has handled a beginning of what the other's journal sends, once each and
-- in its order; what it holds the other sends under that number; and what the other marks as settled it has handled.
pub record Follows {S C D : Type 0} (reactions : Reactions S C) (sender : Kept C) (receiver : Kept D) : Type 0 where
  pub handled : (p : Pair) → IsPrefixOf (letters_of receiver.journal p) (numbered 0
      (sent_of reactions sender.journal p))
  pub held : (p : Pair) (n : ℕ) (m : Message) → receiver.held p n ≡ Some m
      → nth (sent_of reactions sender.journal p) n ≡ Some m
  pub settled : (p : Pair) → sender.settled p ≤ handled_of receiver.journal p

-- of this pair the receiver has handled all that the sender's journal sends
abbrev pub HandledAll : {S C D : Type 0} → Reactions S C → (sender : List (JournalRow C))
    → (receiver : List (JournalRow D)) → Pair → Type 0
HandledAll reactions sender receiver p = letters_of receiver p ≡ numbered 0 (sent_of reactions sender p)

-- each side follows the other, and all that they ever sent is authentic
pub record IsFair {S C T D : Type 0} (one : Service S C) (other : Service T D) (z : Sides S C T D) : Type 0 where
  pub right : Follows one.reactions (kept z.left) (kept z.right)
  pub left : Follows other.reactions (kept z.right) (kept z.left)
  pub from_left : AreAuthentic one.reactions z.left.journal z.network.from_left
  pub from_right : AreAuthentic other.reactions z.right.journal z.network.from_right
