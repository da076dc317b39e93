use Rattle.std.proofs.Common.{◌≡◌, Some, None, refl, length}
use Rattle.std.specs.Prelude.{slice_get}
use Rattle.std.proofs.lemmas.Option.{slice_get_read, slice_get_past}
use Rattle.envelope.specs.declared.message.Envelope.TheVariants.{Letter, Settle}
use Rattle.endpoint.specs.Arrivals.{IngestMay, SettleMay}
use Rattle.laws_network.specs.declared.event.Event.TheVariants.{Take}
use Rattle.laws_network.specs.declared.event.Outcome.TheVariants.{Taken, Settled, Missing}
use Rattle.laws_network.proofs.SideStepping.{comes_steps, stays_steps}
use Rattle.laws_network.proofs.side.take.Goals as goal

pub returns-in-Some-Letter-clause-steps : goal.returns-in-Some-Letter-clause-steps
returns-in-Some-Letter-clause-steps g c = λ sent.
    let arriving = c.args.arriving.now in
    let found = c.in-Some-Letter.ensures.lookup in
    let read : slice_get arriving c.args.index ≡ Some c.in-Some-Letter.field-0.now =
    slice_get_read arriving (length arriving) c.args.index c.in-Some-Letter.field-0.now refl found.3.0 found.1 in
    let at : slice_get arriving c.args.index ≡ Some (Letter c.in-Some-Letter.letter) =
    cc (read, c.in-Some-Letter.field-0-is) in
    comes_steps g.K.Keep.seen c.args.own.now c.ingest.new.self g.H.Handler.service (Take c.args.index)
    (Taken c.ingest.result) arriving
    sent sent (IngestMay g.H.Handler.service c.in-Some-Letter.letter c.ingest.result)
    (λ x d may. (c.in-Some-Letter.letter, at, may))
    (λ x. refl) c.ingest.ensures.comes

pub returns-in-Some-Settle-clause-steps : goal.returns-in-Some-Settle-clause-steps
returns-in-Some-Settle-clause-steps g c = λ sent.
    let arriving = c.args.arriving.now in
    let found = c.in-Some-Settle.ensures.lookup in
    let read : slice_get arriving c.args.index ≡ Some c.in-Some-Settle.field-0.now =
    slice_get_read arriving (length arriving) c.args.index c.in-Some-Settle.field-0.now refl found.3.0 found.1 in
    let at : slice_get arriving c.args.index ≡ Some (Settle c.in-Some-Settle.pair c.in-Some-Settle.number) =
    cc (read, c.in-Some-Settle.field-0-is) in
    comes_steps g.K.Keep.seen c.args.own.now c.settle.new.self g.H.Handler.service (Take c.args.index)
    (Settled c.settle.result) arriving
    sent sent (SettleMay g.H.Handler.service c.in-Some-Settle.pair c.in-Some-Settle.number c.settle.result)
    (λ x d may. (c.in-Some-Settle.pair, c.in-Some-Settle.number, at, may)) (λ x. refl) c.settle.ensures.comes

pub returns-in-None-clause-steps : goal.returns-in-None-clause-steps
returns-in-None-clause-steps g c = λ sent.
    let arriving = c.args.arriving.now in
    let at : slice_get arriving c.args.index ≡ None = slice_get_past arriving c.args.index c.in-None.ensures.lookup.3 in
    stays_steps g.K.Keep.seen c.args.own.now c.args.own.now g.H.Handler.service (Take c.args.index) Missing arriving
    sent sent
    (λ x. (at, refl)) (λ clean good t b. refl) (λ clean t b. b)
