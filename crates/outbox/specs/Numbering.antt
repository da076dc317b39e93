-- How what an entity sends becomes letters, with the next numbers of each pair.
use Rattle.std.specs.Prelude.{ℕ, ◌+◌, ◌≤◌, ◌<◌, List, length, map, take}
use Rattle.std.specs.List.{enumerate_from}
use Rattle.base.specs.Entity.{Entity}
use Rattle.base.specs.declared.limits.TheConstants.{MAX_NUMBER}
use Rattle.base.specs.declared.pair.Pair.{Pair}
use Rattle.envelope.specs.declared.message.Letter.{Letter}
use Rattle.activities.specs.declared.outs.Out.{Out}
use Rattle.activities.specs.Reaction.{messages_to}
use Rattle.keep.specs.declared.change.Change.{Change}
use Rattle.keep.specs.declared.change.Change.TheVariants.{Sent}

-- the pair of a sender and a receiver
abbrev pub pair_between : Entity → Entity → Pair
pair_between sender receiver = record { from = sender; to = receiver }

-- where so many were sent on each pair, the numbers of what an entity sends now are within the limit
abbrev pub NumbersFit : (Pair → ℕ) → Entity → List Out → Type 0
NumbersFit sent e outs =
    (r : Entity) → 0 < length (messages_to r outs) → sent (pair_between e r) + length (messages_to r outs) ≤ MAX_NUMBER

-- one of them is above it
abbrev pub NumbersPass : (Pair → ℕ) → Entity → List Out → Type 0
NumbersPass sent e outs = (r : Entity) × (0 < length (messages_to r outs))
    × (MAX_NUMBER < sent (pair_between e r) + length (messages_to r outs))

-- The letter of a message that an entity sends, where so many were sent on each pair and it sends `before` first: its
-- number is one more than what went to its receiver so far.
abbrev pub letter_to : (Pair → ℕ) → Entity → List Out → Out → Letter
letter_to sent e before o = record {
  pair = pair_between e o.receiver;
  number = sent (pair_between e o.receiver) + length (messages_to o.receiver before) + 1;
  message = o.message;
}

-- the changes that put what it sends into the outbox: for each message, in order, its letter where it sends those
-- before it first
abbrev pub numbering : {S C : Type 0} → (Pair → ℕ) → Entity → List Out → List (Change S C)
numbering sent e outs = map (λ at. Sent (letter_to sent e (take at.0 outs) at.1)) (enumerate_from 0 outs)
