-- the first changes of a command are none
use Rattle.std.proofs.Common.{◌≡◌, arith, sym, subst}
use Rattle.keep.specs.Tables.{changed}
use Rattle.activities.proofs.Journals.{command_row}
use Rattle.endpoint.specs.Calls.{MayRefuse, IsCommit, CommitsWithin, KeepsTables}
use Rattle.endpoint.specs.Parts.Handling.{SetNoRow}
use Rattle.endpoint.proofs.Commands.{command-prepares}
use Rattle.endpoint.proofs.Kept.{commit-matches}
use Rattle.endpoint.proofs.Links.{commit_comes}
use Rattle.endpoint.proofs.Refusals.{keeps_tables}
use Rattle.endpoint.proofs.endpoint.WindowedEndpoint.commit.Goals as goal

pub handle-requires-clause-rows : goal.handle-requires-clause-rows
handle-requires-clause-rows g c = subst SetNoRow (sym c.new-changes.ensures.items) tt

pub returns-clause-commit : goal.returns-clause-commit
returns-clause-commit g c =
    let seen = g.K.Keep.seen in
    let keep = c.self.inside.keep in
    let row = command_row c.args.entity.now c.args.seat c.args.command in
    let h = c.handle.ensures in
    let above = h.doubt in
    subst (λ k. CommitsWithin seen k c.handle.new.keep g.W.Window.ahead g.H.Handler.service row c.handle.result)
    c.self.view_is (record {
      call = h.call;
      doubt = h.doubt;
      clean = λ clean good.
          let clean0 : (seen keep).doubt ≡ 0 = omega (arith, clean, above) in
          let matches =
          good (seen keep).tables ((g.met.K.Keep.sound keep).stays clean0 (sym c.if-not-usable.ensures)) in
          subst (λ cs. IsCommit g.W.Window.ahead g.H.Handler.service (seen keep).tables row
          (changed cs (seen keep).tables).held
          (seen c.handle.new.keep).tables (seen c.handle.new.keep).may_leave c.handle.result)
          c.new-changes.ensures.items
          ((h.clean clean).1 good (command-prepares g.W.Window.ahead g.H.Handler.service (seen keep).tables
          c.args.entity.now c.args.seat
          c.args.command
          c.new-changes.result.items matches c.requires c.new-changes.ensures.items));
    })

pub returns-clause-comes : goal.returns-clause-comes
returns-clause-comes g c = λ clean good.
    let seen = g.K.Keep.seen in
    let row = command_row c.args.entity.now c.args.seat c.args.command in
    let told : CommitsWithin seen c.args.self.now c.handle.new.keep g.W.Window.ahead g.H.Handler.service row
    c.handle.result =
    returns-clause-commit g c in
    let above = told.doubt in
    commit_comes seen c.args.self.now c.handle.new.keep (g.met.K.Keep.sound c.args.self.now)
    (g.met.K.Keep.sound c.handle.new.keep) g.W.Window.ahead g.H.Handler.service (omega (arith, clean, above)) clean
    c.args.entity.now c.args.seat c.args.command c.handle.result told.call (told.clean clean good)

pub returns-clause-matches : goal.returns-clause-matches
returns-clause-matches g c = λ clean good.
    let seen = g.K.Keep.seen in
    let row = command_row c.args.entity.now c.args.seat c.args.command in
    let told : CommitsWithin seen c.args.self.now c.handle.new.keep g.W.Window.ahead g.H.Handler.service row
    c.handle.result =
    returns-clause-commit g c in
    let above = told.doubt in
    commit-matches seen g.W.Window.ahead g.H.Handler.service c.args.self.now c.handle.new.keep row
    (seen c.args.self.now).tables.held
    (g.met.K.Keep.sound c.args.self.now) (g.met.K.Keep.sound c.handle.new.keep) (omega (arith, clean, above)) clean good
    c.handle.result
    told.call (told.clean clean good)

pub returns-clause-unchanged : goal.returns-clause-unchanged
returns-clause-unchanged g c =
    let seen = g.K.Keep.seen in
    let keep = c.self.inside.keep in
    let new = c.handle.new.keep in
    let row = command_row c.args.entity.now c.args.seat c.args.command in
    let h = c.handle.ensures in
    subst (λ k. KeepsTables seen k new c.handle.result) c.self.view_is
    (keeps_tables seen keep new (g.met.K.Keep.sound keep) (g.met.K.Keep.sound new)
    (MayRefuse keep new g.H.Handler.service.kind row) c.handle.result h.call.0 h.doubt (λ clean. (h.clean clean).0))
