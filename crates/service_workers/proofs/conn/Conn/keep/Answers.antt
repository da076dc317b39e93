use Rattle.std.proofs.Common.{◌≡◌, true, false, ap, refl, ◌∙◌, Option, Some, None, is_some}
use Rattle.std.specs.Prelude.{unwrap_or}
use Rattle.stomp_frame.specs.Frames.{Content}
use Rattle.channel.specs.declared.channel.Channel.{Channel}
use Rattle.service_workers.proofs.Reading.{taken_back}
use Rattle.service_workers.proofs.conn.Conn.keep.Goals as goal

where_none : (f : Content) (o : Option Content) → is_some o ≡ false → Some f ≡ Some (unwrap_or o f)
where_none f None none = refl
where_none f (Some g) none = absurd (let k : true ≡ false = none in cc)

where_one : (f : Content) (o : Option Content) → is_some o ≡ true → o ≡ Some (unwrap_or o f)
where_one f (Some g) one = refl
where_one f None one = absurd (let k : false ≡ true = one in cc)

pub returns-then-is_none-clause-back : goal.returns-then-is_none-clause-back
returns-then-is_none-clause-back g c = taken_back g.L.Link.put_gives g.L.Link.take_gives c.args.frame c.args.self.now _ refl refl
    (ap (λ (ch : Channel). ch.decoder) c.put_back.ensures)
    (ap (λ (ch : Channel). ch.waiting) c.put_back.ensures ∙ where_none c.args.frame c.args.self.now.channel.waiting c.if-is_none.ensures)

pub returns-else-is_none-clause-back : goal.returns-else-is_none-clause-back
returns-else-is_none-clause-back g c = taken_back g.L.Link.put_gives g.L.Link.take_gives c.args.frame c.args.self.now _ refl refl refl
    (where_one c.args.frame c.args.self.now.channel.waiting c.if-is_none.ensures)
