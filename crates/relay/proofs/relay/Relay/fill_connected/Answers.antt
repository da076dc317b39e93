use Rattle.std.proofs.Common.{◌∙◌, ap, refl, arith}
use Rattle.relay.specs.declared.relay.Relay.{Relay}
use Rattle.relay.specs.Filling.{marks_of}
use Rattle.relay.proofs.Knowing.{known_still}
use Rattle.relay.proofs.Beginning.{none_upto, same_but, known_or_none, fills_there, fills_to, known_last, was_behind}
use Rattle.relay.proofs.Paging.{earlier, none_sent, same_connection, read_again, stays_again, same_tables, rise_on}
use Rattle.relay.proofs.Paging.{rises_with}
use Rattle.relay.proofs.relay.Relay.fill_connected.Goals as goal

pub returns-in-Err-clause-fills : goal.returns-in-Err-clause-fills
returns-in-Err-clause-fills g c = none_sent _ _ _ _ c.in-Err.fault

pub returns-clause-read : goal.returns-clause-read
returns-clause-read g c =
    read_again g.K.Keep.seen c.args.endpoint.now c.read_news.new.endpoint c.fill_pages-sent.new.endpoint _ _
    c.in-Ok-read_news.ensures.read c.fill_pages-sent.ensures.read

pub returns-clause-stays : goal.returns-clause-stays
returns-clause-stays g c =
    stays_again g.K.Keep.seen c.args.endpoint.now c.read_news.new.endpoint c.fill_pages-sent.new.endpoint
    c.in-Ok-read_news.ensures.read c.fill_pages-sent.ensures.read.doubt c.fill_pages-sent.ensures.stays

pub returns-in-Err-read_news-clause-fills : goal.returns-in-Err-read_news-clause-fills
returns-in-Err-read_news-clause-fills g c =
    fills_to refl (same_connection c.args.self.now c.read_news.new.self c.args.client.now
    c.in-Err-read_news.ensures.marks)
    (none_sent _ _ _ _ c.in-Err-read_news.fault)

pub returns-in-Err-read_news-clause-knows : goal.returns-in-Err-read_news-clause-knows
returns-in-Err-read_news-clause-knows g c clean known =
    known_still g.K.Keep.seen g.met.K.Keep.sound g.H.Handler.service c.args.endpoint.now c.read_news.new.endpoint
    c.args.self.now
    c.read_news.new.self clean c.in-Err-read_news.ensures.stays known c.in-Err-read_news.ensures.rows
    (ap (λ (r : Relay). r.behind) c.in-Err-read_news.ensures.err)
    (rises_with c.args.self.now c.read_news.new.self c.in-Err-read_news.ensures.marks (λ p. omega arith))

pub returns-clause-fills : goal.returns-clause-fills
returns-clause-fills g c =
    let d1 = c.in-Ok-read_news.ensures.doubt in
    let d2 = c.fill_pages-sent.ensures.read.doubt in
    let had = c.in-Ok-read_news.ensures.read in
    fills_to (same_connection c.args.self.now c.begin-reach.new.self c.args.client.now
    (c.begin-reach.ensures.marks ∙ c.in-Ok-read_news.ensures.marks))
    (same_connection c.fill_pages-sent.new.self c.stay_at.new.self c.fill_pages-sent.new.client c.stay_at.ensures.marks)
    (fills_there _ _ (λ clean. (
      clean.0,
      none_upto _ _ _ c.begin-reach.ensures.behind,
      same_but c.in-Ok-read_news.news.items c.deref.result.now c.args.self.now c.begin-reach.new.self _ _
          c.read_news.new.self.behind
          c.begin-reach.result c.deref.ensures.value (c.begin-reach.ensures.marks ∙ c.in-Ok-read_news.ensures.marks)
          (same_tables g.K.Keep.seen c.args.endpoint.now c.read_news.new.endpoint c.fill_pages-sent.new.endpoint had d2
          clean.0)
          c.begin-reach.ensures.reach
          (known_or_none c.in-Ok-read_news.news.items (marks_of c.args.self.now) _ c.read_news.new.self.behind
          c.args.self.now.behind c.in-Ok-read_news.ensures.behind
          (c.in-Ok-read_news.ensures.news (earlier _ _ d2 clean.0) c.in-Ok.ensures.0
          (c.in-Ok.ensures.1 (earlier _ _ d1 (earlier _ _ d2 clean.0)))) clean.1),
    )) _ _
    (λ clean. same_tables g.K.Keep.seen c.args.endpoint.now c.read_news.new.endpoint c.fill_pages-sent.new.endpoint had
    d2 clean.0)
    _ _ _ _ c.fill_pages-sent.ensures.fills)

pub returns-clause-knows : goal.returns-clause-knows
returns-clause-knows g c clean known =
    let d1 = c.in-Ok-read_news.ensures.doubt in
    let d2 = c.fill_pages-sent.ensures.read.doubt in
    let had = c.in-Ok-read_news.ensures.read in
    let mid = earlier _ _ d2 clean in
    let clean0 = earlier _ _ d1 mid in
    let long = c.in-Ok.ensures.1 clean0 in
    let same = same_tables g.K.Keep.seen c.args.endpoint.now c.read_news.new.endpoint c.fill_pages-sent.new.endpoint had
    d2 clean in
    let marks = c.begin-reach.ensures.marks ∙ c.in-Ok-read_news.ensures.marks in
    known_last g.K.Keep.seen g.met.K.Keep.sound g.H.Handler.service c.args.endpoint.now c.fill_pages-sent.new.endpoint
    c.args.self.now
    c.stay_at.new.self clean
    (stays_again g.K.Keep.seen c.args.endpoint.now c.read_news.new.endpoint c.fill_pages-sent.new.endpoint had d2
    c.fill_pages-sent.ensures.stays) known c.fill_pages-sent.new.self c.in-Ok.rows c.read_news.new.self.rows
    c.begin-reach.result _
    c.in-Ok.ensures.0 clean0 long (c.fill_pages-sent.ensures.rows ∙ c.begin-reach.ensures.rows) c.stay_at.ensures.marks
    same
    (c.fill_pages-sent.ensures.sent clean (none_upto _ _ _ c.begin-reach.ensures.behind)
    (same_but c.in-Ok-read_news.news.items c.deref.result.now c.args.self.now c.begin-reach.new.self _ _
    c.read_news.new.self.behind
    c.begin-reach.result c.deref.ensures.value marks same c.begin-reach.ensures.reach
    (c.in-Ok-read_news.ensures.news mid c.in-Ok.ensures.0 long known)))
    c.in-Ok-read_news.ensures.rows (was_behind c.begin-reach.ensures.reach c.in-Ok-read_news.ensures.behind)
    (rise_on c.args.self.now c.args.self.now c.begin-reach.new.self c.fill_pages-sent.new.self (λ p. omega arith) marks
    c.fill_pages-sent.ensures.rises)
    c.stay_at.ensures.cursor
