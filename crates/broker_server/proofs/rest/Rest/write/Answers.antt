use Rattle.broker_server.proofs.Turning.{behind, written_rest}
use Rattle.broker_server.proofs.rest.Rest.write.Goals as goal

pub returns : goal.returns
returns g c = written_rest _ c.self.inside.octets.items _ c.self.inside.from _ _ _ _ c.self.view_is
    (behind c.deref.result.now _ _ c.deref.ensures.value) c.in_ok-count.ensures
