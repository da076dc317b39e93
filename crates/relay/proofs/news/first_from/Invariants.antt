use Rattle.std.proofs.Common.{take}
use Rattle.relay.proofs.Firsts.{Best}
use Rattle.relay.proofs.news.first_from.Given as goal

abbrev pub invariant-loop-row : goal.invariant-loop-row
invariant-loop-row g l = Best (λ e. e.now) (take l.row-index l.news) l.behind l.first
