-- What the pass of a reader, and that of the worker, is for.
use Rattle.std.specs.Prelude.{◌≡◌, ℕ, [], ◌∷◌, true}
use Rattle.crossbeam_channel.specs.Claims.{Pass, view, IsSeatAt}
use Rattle.crossbeam_channel.specs.declared.flavors.array.Rows.{Rows}
use Rattle.crossbeam_channel.specs.declared.flavors.array.Key.{Key}
use Rattle.crossbeam_channel.specs.declared.flavors.array.Doing.{Doing}
use Rattle.atomic_table.specs.declared.badge.Badge.{Badge}
use Rattle.intake.specs.declared.slip.Slip.{Slip}
use Rattle.intake.specs.declared.rule.Known.{Known}
use Rattle.intake.specs.Rule.{first_of}

module _ {M Q N L A : Type 0} (ring : Rows (Badge (Key (Slip M))) (Doing (Slip M) (Known M)) Q N (Key (Slip M)) L A) where
  -- it has one reader, with this number
  abbrev pub IsReaderPass : ℕ → Pass (Slip M) (Known M) → Type 0
  IsReaderPass n p = IsSeatAt ring p × ((view p).own ≡ first_of (view p).own ∷ []) × ((first_of (view p).own).reader ≡ n)

  -- it has no reader, and takes
  abbrev pub IsWorkerPass : Pass (Slip M) (Known M) → Type 0
  IsWorkerPass p = IsSeatAt ring p × ((view p).own ≡ []) × ((view p).takes ≡ true)
