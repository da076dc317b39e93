use Rattle.std.proofs.Common.{◌≡◌, Some, subst, sym}
use Rattle.shared_endpoint.specs.Keys.{Any, shown_witness}
use Rattle.shared_endpoint.proofs.Closing.{any_left}
use Rattle.shared_endpoint.proofs.Witnessing.{witness_at}
use Rattle.service_workers.specs.Written.{HasSpokenIf}
use Rattle.service_workers.proofs.Written.{noted_more}
use Rattle.service_workers.proofs.past.Past.note.Goals as goal

pub invariant_of-self-2 : goal.invariant_of-self-2
invariant_of-self-2 g c = (
  witness_at c.args.shared.now g.N.Naming.lock c.requires.at c.learn.new.self c.learn.ensures.witness,
  subst (Any (λ e. g.N.Naming.found ≡ Some e)) (sym c.learn.ensures.shown)
      (any_left (λ e. g.N.Naming.found ≡ Some e) (shown_witness c.self.inside.witness) (shown_witness c.take_last-last.result.1)
      c.self.invariant.1),
  λ s.
      let P = HasSpokenIf g.L.Link.put_gives g.L.Link.take_gives g.K.Keep.seen g.H.Handler.service
      (shown_witness c.take_last-last.result.1) in
      let last = c.take_last-last.result.0 in
      let spoken : P last.value = c.take_last-last.ensures.spoken s in
      noted_more g.L.Link.put_gives g.L.Link.take_gives g.K.Keep.seen g.H.Handler.service
      (shown_witness c.self.inside.witness) (shown_witness c.take_last-last.result.1) (shown_witness c.learn.new.self)
      c.self.inside.was.items c.reserve.new.self.items c.push_reserved.new.self.items last
      c.learn.ensures.shown c.push_reserved.ensures.items c.reserve.ensures.items (c.self.invariant.2 s) spoken,
)
