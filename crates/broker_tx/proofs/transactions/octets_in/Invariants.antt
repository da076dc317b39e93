use Rattle.std.proofs.Common.{◌≡◌, ◌%◌, ◌^◌, take}
use Rattle.std.specs.List.{sum_by}
use Rattle.broker_tx.specs.Sizes.{transaction_octets}
use Rattle.broker_tx.proofs.transactions.octets_in.Given as goal

abbrev pub invariant-loop-open : goal.invariant-loop-open
invariant-loop-open l = l.octets ≡ sum_by transaction_octets (take l.open-index l.items) % 2 ^ 64
