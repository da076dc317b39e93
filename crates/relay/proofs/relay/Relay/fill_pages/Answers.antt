use Rattle.std.proofs.Common.{ℕ, Ok, Bool, ◌∙◌, inl, inr, refl, arith}
use Rattle.std.specs.Prelude.{⊤}
use Rattle.relay.specs.Filling.{marks_of, send_state}
use Rattle.relay.proofs.Paging.{one_page_more, last_page, stopped_page, earlier, same_tables, read_again, stays_again}
use Rattle.relay.proofs.Paging.{some_read, sent_on}
use Rattle.relay.specs.Calls.{store_end}
use Rattle.std.proofs.Common.{Err}
use Rattle.relay.proofs.Paging.{same_end, none_filled, passed_filled, passed_sent, risen_but, rise_on}
use Rattle.relay.proofs.relay.Relay.fill_pages.Goals as goal

pub returns-in-Err-clause-fills : goal.returns-in-Err-clause-fills
returns-in-Err-clause-fills g c =
    let had = c.loop-page.invariant.0 in
    let d = c.in-Err.ensures.read.doubt in
    stopped_page _ c.args.limit (send_state c.args.self.now c.args.client.now) _ _ _ _
    (send_state c.pass_over.new.self c.loop-page.client)
    (send_state c.fill_page.new.self c.fill_page.new.client) c.loop-page.count c.pass_over.new.self.behind
    c.fill_page.new.self.behind
    (passed_filled _ _ _ _ c.loop-page.self c.pass_over.new.self
    c.loop-page.client c.loop-page.count c.loop-page.invariant.1 c.pass_over.ensures.marks
    (λ clean. c.pass_over.ensures.skips _ (risen_but _ _ _ _ _ c.loop-page.invariant.4 clean.2)))
    (λ clean. (earlier _ _ d clean.0, clean.1, clean.2)) (λ clean. clean.0)
    (λ clean. same_tables g.K.Keep.seen c.args.endpoint.now c.loop-page.endpoint c.fill_page.new.endpoint had d clean.0)
    c.in-Err.fault c.in-Err.ensures.fills

pub returns-in-Err-clause-sent : goal.returns-in-Err-clause-sent
returns-in-Err-clause-sent g c clean start but =
    let had = c.loop-page.invariant.0 in
    let d = c.in-Err.ensures.read.doubt in
    sent_on (marks_of c.pass_over.new.self) (marks_of c.fill_page.new.self) c.pass_over.new.self.behind
    c.fill_page.new.self.behind _ _
    (same_tables g.K.Keep.seen c.args.endpoint.now c.loop-page.endpoint c.fill_page.new.endpoint had d clean)
    (c.in-Err.ensures.sent clean) (passed_sent _ c.loop-page.self c.pass_over.new.self c.pass_over.ensures.marks
    (c.pass_over.ensures.skips _ (risen_but _ _ _ _ _ c.loop-page.invariant.4 but))
    (c.loop-page.invariant.2 (earlier _ _ d clean) start but))

pub loop-page-preserved : goal.loop-page-preserved
loop-page-preserved g c =
    let had = c.loop-page.invariant.0 in
    let d = c.in-Ok.ensures.read.doubt in (
      inr (
        read_again g.K.Keep.seen c.args.endpoint.now c.loop-page.endpoint c.fill_page.new.endpoint (Unit {0}) (Ok tt)
            had
            (some_read g.K.Keep.seen c.loop-page.endpoint c.fill_page.new.endpoint (ℕ × Bool) (Unit {0}) (λ _ _. ⊤)
            c.in-Ok.done tt c.in-Ok.ensures.read),
        stays_again g.K.Keep.seen c.args.endpoint.now c.loop-page.endpoint c.fill_page.new.endpoint had d
            c.in-Ok.ensures.stays,
      ),
      one_page_more _ c.args.limit (send_state c.args.self.now c.args.client.now) _ _ _ _
          (send_state c.pass_over.new.self c.loop-page.client)
          (send_state c.fill_page.new.self c.fill_page.new.client) c.loop-page.count c.pass_over.new.self.behind
          c.fill_page.new.self.behind (passed_filled _ _ _ _ c.loop-page.self c.pass_over.new.self
          c.loop-page.client c.loop-page.count c.loop-page.invariant.1 c.pass_over.ensures.marks
          (λ clean. c.pass_over.ensures.skips _ (risen_but _ _ _ _ _ c.loop-page.invariant.4 clean.2)))
          (λ clean. (earlier _ _ d clean.0, clean.1, clean.2)) (λ clean. clean.0)
          (λ clean. same_tables g.K.Keep.seen c.args.endpoint.now c.loop-page.endpoint c.fill_page.new.endpoint had d
          clean.0)
          c.in-Ok.done.0 c.in-Ok.done.1 c.if-not-more.false c.in-Ok.ensures.fills,
      λ clean start but.
          sent_on (marks_of c.pass_over.new.self) (marks_of c.fill_page.new.self) c.pass_over.new.self.behind
          c.fill_page.new.self.behind _ _
          (same_tables g.K.Keep.seen c.args.endpoint.now c.loop-page.endpoint c.fill_page.new.endpoint had d clean)
          (c.in-Ok.ensures.sent clean) (passed_sent _ c.loop-page.self c.pass_over.new.self c.pass_over.ensures.marks
          (c.pass_over.ensures.skips _ (risen_but _ _ _ _ _ c.loop-page.invariant.4 but))
          (c.loop-page.invariant.2 (earlier _ _ d clean) start but)),
      c.in-Ok.ensures.rows ∙ c.pass_over.ensures.rows ∙ c.loop-page.invariant.3,
      rise_on c.args.self.now c.loop-page.self c.pass_over.new.self c.fill_page.new.self c.loop-page.invariant.4
          c.pass_over.ensures.marks c.in-Ok.ensures.rises,
    )

pub returns-in-Err-fill_page-clause-fills : goal.returns-in-Err-fill_page-clause-fills
returns-in-Err-fill_page-clause-fills g c =
    let had = c.loop-page.invariant.0 in
    let d = c.in-Err-fill_page.ensures.read.doubt in
    stopped_page _ c.args.limit (send_state c.args.self.now c.args.client.now) _ _ _ _
    (send_state c.loop-page.self c.loop-page.client)
    (send_state c.fill_page-2.new.self c.fill_page-2.new.client) c.loop-page.count c.loop-page.self.behind
    c.fill_page-2.new.self.behind c.loop-page.invariant.1 (λ clean. (earlier _ _ d clean.0, clean.1, clean.2))
    (λ clean. clean.0)
    (λ clean. same_tables g.K.Keep.seen c.args.endpoint.now c.loop-page.endpoint c.fill_page-2.new.endpoint had d
    clean.0)
    c.in-Err-fill_page.fault c.in-Err-fill_page.ensures.fills

pub returns-in-Err-fill_page-clause-sent : goal.returns-in-Err-fill_page-clause-sent
returns-in-Err-fill_page-clause-sent g c clean start but =
    let had = c.loop-page.invariant.0 in
    let d = c.in-Err-fill_page.ensures.read.doubt in
    sent_on (marks_of c.loop-page.self) (marks_of c.fill_page-2.new.self) c.loop-page.self.behind
    c.fill_page-2.new.self.behind _ _
    (same_tables g.K.Keep.seen c.args.endpoint.now c.loop-page.endpoint c.fill_page-2.new.endpoint had d clean)
    (c.in-Err-fill_page.ensures.sent clean) (c.loop-page.invariant.2 (earlier _ _ d clean) start but)

pub returns-clause-fills : goal.returns-clause-fills
returns-clause-fills g c =
    let had = c.loop-page.invariant.0 in
    let d = c.in-Ok-fill_page.ensures.read.doubt in
    last_page _ c.args.limit (send_state c.args.self.now c.args.client.now) _ _ _ _
    (send_state c.loop-page.self c.loop-page.client)
    (send_state c.fill_page-2.new.self c.fill_page-2.new.client) c.loop-page.count c.loop-page.self.behind
    c.fill_page-2.new.self.behind c.loop-page.invariant.1 (λ clean. (earlier _ _ d clean.0, clean.1, clean.2))
    (λ clean. clean.0)
    (λ clean. same_tables g.K.Keep.seen c.args.endpoint.now c.loop-page.endpoint c.fill_page-2.new.endpoint had d
    clean.0)
    c.in-Ok-fill_page.done.0 c.in-Ok-fill_page.done.1 (c.in-Ok-fill_page.ensures.whole (omega arith))
    c.in-Ok-fill_page.ensures.fills

pub returns-clause-sent : goal.returns-clause-sent
returns-clause-sent g c clean start but =
    let had = c.loop-page.invariant.0 in
    let d = c.in-Ok-fill_page.ensures.read.doubt in
    sent_on (marks_of c.loop-page.self) (marks_of c.fill_page-2.new.self) c.loop-page.self.behind
    c.fill_page-2.new.self.behind _ _
    (same_tables g.K.Keep.seen c.args.endpoint.now c.loop-page.endpoint c.fill_page-2.new.endpoint had d clean)
    (c.in-Ok-fill_page.ensures.sent clean) (c.loop-page.invariant.2 (earlier _ _ d clean) start but)

pub loop-page-init : goal.loop-page-init
loop-page-init g c = (
  inl refl,
  none_filled _ c.args.limit (send_state c.args.self.now c.args.client.now) _ c.args.self.now.behind (λ clean. clean.1)
      c.requires,
  λ clean start but. start,
  refl,
  λ p. omega arith,
)

pub returns-then-not-more-clause-fills : goal.returns-then-not-more-clause-fills
returns-then-not-more-clause-fills g c =
    let had = c.loop-page.invariant.0 in
    let d = c.in-Ok.ensures.read.doubt in
    last_page _ c.args.limit (send_state c.args.self.now c.args.client.now) _ _ _ _
    (send_state c.pass_over.new.self c.loop-page.client)
    (send_state c.fill_page.new.self c.fill_page.new.client) c.loop-page.count c.pass_over.new.self.behind
    c.fill_page.new.self.behind
    (passed_filled _ _ _ _ c.loop-page.self c.pass_over.new.self
    c.loop-page.client c.loop-page.count c.loop-page.invariant.1 c.pass_over.ensures.marks
    (λ clean. c.pass_over.ensures.skips _ (risen_but _ _ _ _ _ c.loop-page.invariant.4 clean.2)))
    (λ clean. (earlier _ _ d clean.0, clean.1, clean.2)) (λ clean. clean.0)
    (λ clean. same_tables g.K.Keep.seen c.args.endpoint.now c.loop-page.endpoint c.fill_page.new.endpoint had d clean.0)
    c.in-Ok.done.0 c.in-Ok.done.1 c.if-not-more.true c.in-Ok.ensures.fills

pub returns-then-not-more-clause-sent : goal.returns-then-not-more-clause-sent
returns-then-not-more-clause-sent g c clean start but =
    let had = c.loop-page.invariant.0 in
    let d = c.in-Ok.ensures.read.doubt in
    sent_on (marks_of c.pass_over.new.self) (marks_of c.fill_page.new.self) c.pass_over.new.self.behind
    c.fill_page.new.self.behind _ _
    (same_tables g.K.Keep.seen c.args.endpoint.now c.loop-page.endpoint c.fill_page.new.endpoint had d clean)
    (c.in-Ok.ensures.sent clean) (passed_sent _ c.loop-page.self c.pass_over.new.self c.pass_over.ensures.marks
    (c.pass_over.ensures.skips _ (risen_but _ _ _ _ _ c.loop-page.invariant.4 but))
    (c.loop-page.invariant.2 (earlier _ _ d clean) start but))

pub returns-in-Err-clause-rises : goal.returns-in-Err-clause-rises
returns-in-Err-clause-rises g c = rise_on c.args.self.now c.loop-page.self c.pass_over.new.self c.fill_page.new.self
    c.loop-page.invariant.4 c.pass_over.ensures.marks c.in-Err.ensures.rises

pub returns-then-not-more-clause-rises : goal.returns-then-not-more-clause-rises
returns-then-not-more-clause-rises g c =
    rise_on c.args.self.now c.loop-page.self c.pass_over.new.self c.fill_page.new.self
    c.loop-page.invariant.4 c.pass_over.ensures.marks c.in-Ok.ensures.rises

pub returns-in-Err-fill_page-clause-rises : goal.returns-in-Err-fill_page-clause-rises
returns-in-Err-fill_page-clause-rises g c =
    rise_on c.args.self.now c.loop-page.self c.loop-page.self c.fill_page-2.new.self
    c.loop-page.invariant.4 refl c.in-Err-fill_page.ensures.rises

pub returns-clause-rises : goal.returns-clause-rises
returns-clause-rises g c = rise_on c.args.self.now c.loop-page.self c.loop-page.self c.fill_page-2.new.self
    c.loop-page.invariant.4 refl c.in-Ok-fill_page.ensures.rises

pub returns-then-not-more-clause-read : goal.returns-then-not-more-clause-read
returns-then-not-more-clause-read g c =
    read_again g.K.Keep.seen c.args.endpoint.now c.loop-page.endpoint c.fill_page.new.endpoint ℕ
    (Ok 0) c.loop-page.invariant.0
    (some_read g.K.Keep.seen c.loop-page.endpoint c.fill_page.new.endpoint (ℕ × Bool) ℕ (λ _ _. ⊤) c.in-Ok.done 0
    c.in-Ok.ensures.read)

pub returns-clause-read : goal.returns-clause-read
returns-clause-read g c = read_again g.K.Keep.seen c.args.endpoint.now c.loop-page.endpoint c.fill_page-2.new.endpoint ℕ
    (Ok 0) c.loop-page.invariant.0
    (some_read g.K.Keep.seen c.loop-page.endpoint c.fill_page-2.new.endpoint (ℕ × Bool) ℕ (λ _ _. ⊤)
    c.in-Ok-fill_page.done 0
    c.in-Ok-fill_page.ensures.read)

pub returns-in-Err-fill_page-clause-read : goal.returns-in-Err-fill_page-clause-read
returns-in-Err-fill_page-clause-read g c =
    read_again g.K.Keep.seen c.args.endpoint.now c.loop-page.endpoint c.fill_page-2.new.endpoint ℕ
    (store_end (Err c.in-Err-fill_page.fault)) c.loop-page.invariant.0
    (same_end g.K.Keep.seen c.loop-page.endpoint c.fill_page-2.new.endpoint (ℕ × Bool) ℕ c.in-Err-fill_page.fault
    c.in-Err-fill_page.ensures.read)

pub returns-in-Err-clause-read : goal.returns-in-Err-clause-read
returns-in-Err-clause-read g c =
    read_again g.K.Keep.seen c.args.endpoint.now c.loop-page.endpoint c.fill_page.new.endpoint ℕ
    (store_end (Err c.in-Err.fault)) c.loop-page.invariant.0
    (same_end g.K.Keep.seen c.loop-page.endpoint c.fill_page.new.endpoint (ℕ × Bool) ℕ c.in-Err.fault
    c.in-Err.ensures.read)
