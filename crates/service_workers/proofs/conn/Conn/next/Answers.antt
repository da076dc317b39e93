use Rattle.std.proofs.Common.{[], ap, refl, ◌∙◌, Ok}
use Rattle.service_workers.specs.Written.{IsOfSession}
use Rattle.service_workers.proofs.Reading.{finds_after, finds_none, is_frame, next_gives, next_waits}
use Rattle.service_workers.proofs.Speaking.{next_says_nothing}
use Rattle.service_workers.proofs.Written.{none_of, writes_nothing}
use Rattle.service_workers.proofs.conn.Conn.next.Goals as goal

pub returns-in-Err : goal.returns-in-Err
returns-in-Err g c = record {
  writes = none_of g.L.Link.put_gives g.L.Link.take_gives (IsOfSession c.args.kind) c.args.self.now _
      (writes_nothing g.L.Link.put_gives g.L.Link.take_gives c.args.self.now _ refl refl
      (next_says_nothing c.args.self.now.channel c.next.new.self c.next.result c.next.ensures.gives));
  finds = (
    [],
    next_waits g.L.Link.put_gives g.L.Link.take_gives c.args.self.now _ c.next.result (ap is_frame c.in-Err.is) refl refl
        c.next.ensures.gives,
  );
}

pub returns-in-Ok-None : goal.returns-in-Ok-None
returns-in-Ok-None g c = record {
  writes = none_of g.L.Link.put_gives g.L.Link.take_gives (IsOfSession c.args.kind) c.args.self.now _
      (writes_nothing g.L.Link.put_gives g.L.Link.take_gives c.args.self.now _ refl refl
      (next_says_nothing c.args.self.now.channel c.next.new.self c.next.result c.next.ensures.gives));
  finds = (
    [],
    tt,
    next_waits g.L.Link.put_gives g.L.Link.take_gives c.args.self.now _ c.next.result (ap is_frame (c.in-Ok-None.is ∙ ap
        Ok c.in-Ok-None.field-0-is)) refl refl c.next.ensures.gives,
  );
}

pub returns-in-Err-Memory : goal.returns-in-Err-Memory
returns-in-Err-Memory g c = record {
  writes = none_of g.L.Link.put_gives g.L.Link.take_gives (IsOfSession c.args.kind) c.args.self.now _
      (writes_nothing g.L.Link.put_gives g.L.Link.take_gives c.args.self.now _ refl refl
      (next_says_nothing c.args.self.now.channel c.next.new.self c.next.result c.next.ensures.gives));
  finds = (
    [],
    tt,
    next_waits g.L.Link.put_gives g.L.Link.take_gives c.args.self.now _ c.next.result (ap is_frame c.in-Err-Memory.is)
        refl refl c.next.ensures.gives,
  );
}

pub returns-in-Ok-Some-clause-finds : goal.returns-in-Ok-Some-clause-finds
returns-in-Ok-Some-clause-finds g c = finds_after g.L.Link.put_gives g.L.Link.take_gives c.take.result c.args.self.now _ c.take.new.self
    (next_gives g.L.Link.put_gives g.L.Link.take_gives c.args.self.now _ c.in-Ok-Some.frame c.next.result
    (c.in-Ok-Some.is ∙ ap Ok c.in-Ok-Some.field-0-is) refl refl c.next.ensures.gives)
    c.take.ensures.finds

pub returns-then-self-clause-finds : goal.returns-then-self-clause-finds
returns-then-self-clause-finds g c = finds_none g.L.Link.put_gives g.L.Link.take_gives c.subscribe.result c.args.self.now _
    c.subscribe.ensures.finds
