use denote.Param.Send.{sendable}
use Rattle.std.proofs.Crossing as std
use Rattle.shared_endpoint.proofs.shared.Shared.TheSendSync as shared_laws
use Rattle.service_workers.proofs.Crossing.{reader_send, run_line_send}
use Rattle.service_workers.proofs.service.fn.run_threads.scope.Goals as goal

pub begin_reading-requires-send-F : goal.begin_reading-requires-send-F
begin_reading-requires-send-F g c κs within =
    let sk = c.requires.store.0 in let sl = c.requires.store.1 in
    let sg = c.requires.shared.0 in let sr = c.requires.shared.1 in
    search (run_line_send, reader_send, shared_laws.the_sync, std.crosses, sendable) depth 60 fits 20000

pub begin_reading-requires-2-send-F : goal.begin_reading-requires-2-send-F
begin_reading-requires-2-send-F g c κs within =
    let sk = c.requires.store.0 in let sl = c.requires.store.1 in
    let sg = c.requires.shared.0 in let sr = c.requires.shared.1 in
    search (run_line_send, reader_send, shared_laws.the_sync, std.crosses, sendable) depth 60 fits 20000
