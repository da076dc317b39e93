use denote.Param.Send.{sendable}
use Rattle.std.proofs.Crossing as std
use Rattle.shared_endpoint.proofs.shared.Shared.TheSendSync as shared_laws
use Rattle.shared_endpoint.proofs.tokens.Scout.TheSendSync as scout_laws
use Rattle.service_workers.proofs.Crossing.{run_line_send}
use Rattle.service_workers.proofs.service.run_last.Goals as goal

pub spawn_with-begun-requires-send-F : goal.spawn_with-begun-requires-send-F
spawn_with-begun-requires-send-F g c κs within =
    let sk = c.type_bounds.send-K in let sl = c.type_bounds.send-L in
    let sg = c.type_bounds.sync-G in let sr = c.type_bounds.sync-R in
    search (run_line_send, scout_laws.the_send, shared_laws.the_sync, std.crosses, sendable) depth 60 fits 20000
