use denote.Param.Send.{sendable}
use Rattle.std.proofs.Crossing as std
use Rattle.shared_endpoint.proofs.shared.Shared.TheSendSync as shared_laws
use Rattle.service_workers.proofs.Crossing.{past_send}
use Rattle.service_workers.proofs.handed.Tokens.TheSendSync as tokens_laws
use Rattle.service_program.proofs.sockets.Site.TheSendSync as site_laws
use Rattle.service_program.proofs.running.fn.run_threads.scope.Goals as goal

pub spawn_with-begun-requires-send-F : goal.spawn_with-begun-requires-send-F
spawn_with-begun-requires-send-F g c κs within =
    let sk = c.requires.sent.3 in let sl = c.requires.sent.4 in let sr = c.requires.shared in
    search (past_send, tokens_laws.the_send, site_laws.the_send, shared_laws.the_sync, std.crosses, sendable) depth 60 fits 20000
