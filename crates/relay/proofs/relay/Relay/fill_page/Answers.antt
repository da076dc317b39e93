use Rattle.std.proofs.Common.{arith, subst, Option, Err, Ok}
use Rattle.std.proofs.lemmas.Result.{err_from_is_err_and}
use Rattle.keep.specs.declared.change.LetterPlace.{LetterPlace}
use Rattle.keep.specs.Pages.{place_behind}
use Rattle.relay.specs.Filling.{marks_of, send_state}
use Rattle.relay.specs.Parts.Pages.{StaysOrJumps}
use Rattle.relay.proofs.Paging.{page_unread_of, filling_rises, rises_with}
use Rattle.relay.proofs.Paging.{page_full, page_short, page_more, page_stopped, page_moved, same_connection, goes_part}
use Rattle.relay.proofs.Paging.{goes_whole}
use Rattle.relay.proofs.relay.Relay.fill_page.Goals as goal

pub returns-in-Err-clause-fills : goal.returns-in-Err-clause-fills
returns-in-Err-clause-fills g c =
    page_moved (same_connection c.fill_letters.new.self c.go_behind_sent.new.self c.fill_letters.new.client
    c.go_behind_sent.ensures.marks)
    (page_stopped _ _ c.args.self.now.behind c.go_behind_sent.new.self.behind c.args.page c.args.limit
    c.in_ok-rows.rows.items
    (send_state c.args.self.now c.args.client.now) (send_state c.fill_letters.new.self c.fill_letters.new.client)
    (λ clean. (c.in_ok-rows.ensures.read.clean clean).0) c.in-Err.fault (rw c.deref.ensures.value at
    c.in-Err.ensures.fills))

pub returns-in-Err-clause-sent : goal.returns-in-Err-clause-sent
returns-in-Err-clause-sent g c clean sent =
    goes_part _ c.args.page c.args.limit c.in_ok-rows.rows.items c.args.self.now c.fill_letters.new.self
    c.go_behind_sent.new.self
    c.args.client.now c.fill_letters.new.client c.in-Err.ensures.behind (c.in_ok-rows.ensures.read.clean clean).0 sent
    (Err c.in-Err.fault)
    (rw c.deref.ensures.value at c.in-Err.ensures.fills) c.go_behind_sent.ensures.sent

pub returns-then-sent-limit-clause-fills : goal.returns-then-sent-limit-clause-fills
returns-then-sent-limit-clause-fills g c =
    page_moved (same_connection c.fill_letters.new.self c.go_behind_sent-then-sent-limit.new.self
    c.fill_letters.new.client
    c.go_behind_sent-then-sent-limit.ensures.marks)
    (page_full _ _ c.args.self.now.behind c.go_behind_sent-then-sent-limit.new.self.behind c.args.page c.args.limit
    c.in_ok-rows.rows.items
    (send_state c.args.self.now c.args.client.now) (send_state c.fill_letters.new.self c.fill_letters.new.client)
    (λ clean. (c.in_ok-rows.ensures.read.clean clean).0) c.in-Ok.sent (rw c.deref.ensures.value at
    c.in-Ok.ensures.fills)
    c.if-sent-limit.true)

pub returns-then-sent-limit-clause-sent : goal.returns-then-sent-limit-clause-sent
returns-then-sent-limit-clause-sent g c clean sent =
    goes_part _ c.args.page c.args.limit c.in_ok-rows.rows.items c.args.self.now c.fill_letters.new.self
    c.go_behind_sent-then-sent-limit.new.self
    c.args.client.now c.fill_letters.new.client c.in-Ok.ensures.behind (c.in_ok-rows.ensures.read.clean clean).0 sent
    (Ok c.in-Ok.sent)
    (rw c.deref.ensures.value at c.in-Ok.ensures.fills) c.go_behind_sent-then-sent-limit.ensures.sent

pub returns-then-len-page-clause-fills : goal.returns-then-len-page-clause-fills
returns-then-len-page-clause-fills g c =
    page_moved (same_connection c.fill_letters.new.self c.go_behind.new.self c.fill_letters.new.client
    c.go_behind.ensures.marks)
    (page_short _ _ c.args.self.now.behind c.go_behind.new.self.behind c.args.page c.args.limit c.in_ok-rows.rows.items
    (send_state c.args.self.now c.args.client.now) (send_state c.fill_letters.new.self c.fill_letters.new.client)
    (λ clean. (c.in_ok-rows.ensures.read.clean clean).0) c.in-Ok.sent (rw c.deref.ensures.value at
    c.in-Ok.ensures.fills)
    c.if-sent-limit.false (omega (arith, c.len.ensures, c.if-len-page.true)))

pub returns-then-len-page-clause-sent : goal.returns-then-len-page-clause-sent
returns-then-len-page-clause-sent g c clean sent =
    goes_whole _ c.args.page c.args.limit c.in_ok-rows.rows.items c.args.self.now c.fill_letters.new.self
    c.go_behind.new.self
    c.args.client.now c.fill_letters.new.client c.in-Ok.ensures.behind (c.in_ok-rows.ensures.read.clean clean).0 sent
    c.in-Ok.sent
    (rw c.deref.ensures.value at c.in-Ok.ensures.fills) c.if-sent-limit.false c.go_behind.ensures.behind
    c.go_behind.ensures.marks

pub returns-clause-fills : goal.returns-clause-fills
returns-clause-fills g c =
    page_moved (same_connection c.fill_letters.new.self c.go_behind-2.new.self c.fill_letters.new.client
    c.go_behind-2.ensures.marks)
    (page_more _ _ c.args.self.now.behind c.go_behind-2.new.self.behind c.args.page c.args.limit c.in_ok-rows.rows.items
    (send_state c.args.self.now c.args.client.now) (send_state c.fill_letters.new.self c.fill_letters.new.client)
    (λ clean. (c.in_ok-rows.ensures.read.clean clean).0) c.in-Ok.sent (rw c.deref.ensures.value at
    c.in-Ok.ensures.fills)
    c.if-sent-limit.false
    (subst (λ (x : Option LetterPlace). StaysOrJumps (marks_of c.fill_letters.new.self)
    (place_behind x c.in_ok-rows.rows.items)
    c.go_behind-2.new.self.behind) c.in-Ok.ensures.behind c.go_behind-2.ensures.behind))

pub returns-clause-sent : goal.returns-clause-sent
returns-clause-sent g c clean sent =
    goes_whole _ c.args.page c.args.limit c.in_ok-rows.rows.items c.args.self.now c.fill_letters.new.self
    c.go_behind-2.new.self
    c.args.client.now c.fill_letters.new.client c.in-Ok.ensures.behind (c.in_ok-rows.ensures.read.clean clean).0 sent
    c.in-Ok.sent
    (rw c.deref.ensures.value at c.in-Ok.ensures.fills) c.if-sent-limit.false c.go_behind-2.ensures.behind
    c.go_behind-2.ensures.marks

pub returns-in_err-rows-clause-fills : goal.returns-in_err-rows-clause-fills
returns-in_err-rows-clause-fills g c =
    let p = err_from_is_err_and c.from_residual.result c.from_residual.ensures.1 in
    page_unread_of _ _ c.args.self.now.behind c.args.self.now.behind c.args.limit
    (send_state c.args.self.now c.args.client.now) _
    c.from_residual.result p.0 p.1 p.2

pub returns-in-Err-clause-rises : goal.returns-in-Err-clause-rises
returns-in-Err-clause-rises g c =
    rises_with c.fill_letters.new.self c.go_behind_sent.new.self c.go_behind_sent.ensures.marks
    (filling_rises c.args.limit c.in_ok-rows.rows.items (send_state c.args.self.now c.args.client.now)
    (send_state c.fill_letters.new.self c.fill_letters.new.client) (Err c.in-Err.fault)
    (rw c.deref.ensures.value at c.in-Err.ensures.fills))

pub returns-then-sent-limit-clause-rises : goal.returns-then-sent-limit-clause-rises
returns-then-sent-limit-clause-rises g c =
    rises_with c.fill_letters.new.self c.go_behind_sent-then-sent-limit.new.self
    c.go_behind_sent-then-sent-limit.ensures.marks
    (filling_rises c.args.limit c.in_ok-rows.rows.items (send_state c.args.self.now c.args.client.now)
    (send_state c.fill_letters.new.self c.fill_letters.new.client) (Ok c.in-Ok.sent)
    (rw c.deref.ensures.value at c.in-Ok.ensures.fills))

pub returns-then-len-page-clause-rises : goal.returns-then-len-page-clause-rises
returns-then-len-page-clause-rises g c =
    rises_with c.fill_letters.new.self c.go_behind.new.self c.go_behind.ensures.marks
    (filling_rises c.args.limit c.in_ok-rows.rows.items (send_state c.args.self.now c.args.client.now)
    (send_state c.fill_letters.new.self c.fill_letters.new.client) (Ok c.in-Ok.sent)
    (rw c.deref.ensures.value at c.in-Ok.ensures.fills))

pub returns-clause-rises : goal.returns-clause-rises
returns-clause-rises g c =
    rises_with c.fill_letters.new.self c.go_behind-2.new.self c.go_behind-2.ensures.marks
    (filling_rises c.args.limit c.in_ok-rows.rows.items (send_state c.args.self.now c.args.client.now)
    (send_state c.fill_letters.new.self c.fill_letters.new.client) (Ok c.in-Ok.sent)
    (rw c.deref.ensures.value at c.in-Ok.ensures.fills))
