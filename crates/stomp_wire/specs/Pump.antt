-- The puts of a pump, call by call.
use Rattle.std.specs.Prelude.{◌≡◌, ◌⊎◌, ℕ, ◌+◌, ◌<◌, List, [], length, drop, Option, Some, None, Result, Ok, Err}
use Rattle.stomp_wire.specs.Fault.{IsCounted}
use Rattle.stomp_wire.specs.declared.fault.LinkFault.{LinkFault}
use Rattle.stomp_wire.specs.declared.pump.Gone.{Gone}

-- Puts one after another, each of all that was left of the octets, and each took some of them. They begin at the link
-- `first`, when `gone` octets were out, and end at a link and the number of octets that are out then.
pub data Puts {L : Type 0} (put_gives : L → List ℕ → Result ℕ LinkFault → L → Type 0) (octets : List ℕ) (first : L)
    (gone : ℕ) : L → ℕ
    → Type 0 where
  no_put : Puts put_gives octets first gone first gone
  one_more : {before after : L} {count n : ℕ} → Puts put_gives octets first gone before count
      → put_gives before (drop count octets) (Ok n) after → 0 < n → Puts put_gives octets first gone after (count + n)

-- how a pump ends: nothing is left, and nothing more is put; or something is, and its put answered 0 or the fault
abbrev pub IsEnd : {L : Type 0} → (L → List ℕ → Result ℕ LinkFault → L → Type 0) → (rest : List ℕ) → (last after : L)
    → Option LinkFault
    → Type 0
IsEnd put_gives rest last after None =
    ((rest ≡ []) × (after ≡ last)) ⊎ ((0 < length rest) × put_gives last rest (Ok 0) after)
IsEnd put_gives rest last after (Some fault) = (0 < length rest) × put_gives last rest (Err fault) after

-- a whole pump: its puts, and then its end
pub record IsPumped {L : Type 0} (put_gives : L → List ℕ → Result ℕ LinkFault → L → Type 0) (octets : List ℕ)
    (first : L) (gone : ℕ)
    (after : L) (result : Gone) : Type 0 where
  pub last : L
  pub puts : Puts put_gives octets first gone last result.count
  pub ends : IsEnd put_gives (drop result.count octets) last after result.fault

-- a failure was counted where the fault is `Cut` or `Device`, and else none
abbrev pub IsPumpCounted : (before after : ℕ) → Option LinkFault → Type 0
IsPumpCounted before after None = after ≡ before
IsPumpCounted before after (Some fault) = IsCounted {T = ℕ} before after (Err fault)
