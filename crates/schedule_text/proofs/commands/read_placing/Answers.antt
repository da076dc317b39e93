use Rattle.std.proofs.Common.{◌≡◌, ◌<◌, length, take, Some}
use Rattle.schedule_text.specs.Commands.{item_of}
use Rattle.schedule_text.proofs.Pairs.{pairs_go_on}
use Rattle.schedule_text.proofs.commands.read_placing.Goals as goal

pub loop-rest-preserved : goal.loop-rest-preserved
loop-rest-preserved c =
    let many : 2 < length c.loop-rest.rest.now = c.loop-rest-test.true in
    let read : item_of (take 2 c.loop-rest.rest.now) ≡ Some c.in_ok-read_item.field-0 =
    rw (← c.split_at.ensures.front) c.in_ok-read_item.ensures in
    rw (c.in_ok-push.ensures.items, c.split_at.ensures.back)
    (pairs_go_on c.loop-rest.items.items c.loop-rest.rest.now c.in_ok-read_item.field-0 _ many read
    c.loop-rest.invariant)
