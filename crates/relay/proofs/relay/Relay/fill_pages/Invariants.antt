use Rattle.std.proofs.Common.{◌≡◌, ◌≤◌}
use Rattle.base.specs.declared.pair.Pair.{Pair}
use Rattle.relay.specs.Filling.{marks_of, send_state}
use Rattle.relay.specs.Knowing.{AllSent}
use Rattle.relay.specs.Parts.Pages.{HasRead, HasFilled}
use Rattle.relay.specs.Parts.News.{SentBut}
use Rattle.relay.proofs.relay.Relay.fill_pages.Given as goal

abbrev pub invariant-loop-page : goal.invariant-loop-page
invariant-loop-page g l = HasRead g.K.Keep.seen l.fn.endpoint l.endpoint
    × HasFilled (((g.K.Keep.seen l.endpoint).doubt ≡ 0)
    × AllSent (marks_of l.fn.self) (g.K.Keep.seen l.fn.endpoint).tables.unsettled l.fn.self.behind
    × SentBut l.fn.news (marks_of l.fn.self) (g.K.Keep.seen l.fn.endpoint).tables.unsettled l.fn.reach)
    (g.K.Keep.seen l.fn.endpoint).tables.unsettled l.fn.limit
    (send_state l.fn.self l.fn.client) (send_state l.self l.client) l.count l.self.behind
    × ((g.K.Keep.seen l.endpoint).doubt ≡ 0
    → AllSent (marks_of l.fn.self) (g.K.Keep.seen l.fn.endpoint).tables.unsettled l.fn.self.behind
    → SentBut l.fn.news (marks_of l.fn.self) (g.K.Keep.seen l.fn.endpoint).tables.unsettled l.fn.reach
    → AllSent (marks_of l.self) (g.K.Keep.seen l.fn.endpoint).tables.unsettled l.self.behind)
    × (l.self.rows ≡ l.fn.self.rows)
    × ((p : Pair) → marks_of l.fn.self p ≤ marks_of l.self p)
