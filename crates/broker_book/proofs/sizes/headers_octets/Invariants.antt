use Rattle.std.proofs.Common.{◌≡◌, ◌%◌, ◌^◌, take}
use Rattle.std.specs.List.{sum_by}
use Rattle.broker_book.specs.Sizes.{header_octets}
use Rattle.broker_book.proofs.sizes.headers_octets.Given as goal

abbrev pub invariant-loop-header : goal.invariant-loop-header
invariant-loop-header l = l.octets ≡ sum_by header_octets (take l.header-index l.headers) % 2 ^ 64
