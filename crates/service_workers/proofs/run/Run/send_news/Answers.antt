use Rattle.std.proofs.Common.{subst, sym}
use Rattle.std.specs.Prelude.{not}
use Rattle.base.specs.declared.entity.Kind.TheVariants.{Order, Stock}
use Rattle.shared_endpoint.specs.Keys.{told_scout}
use Rattle.service_workers.specs.Counts.{is_to}
use Rattle.service_workers.specs.Truth.{AreSentIn, Knows}
use Rattle.service_workers.proofs.Parting.{some_known}
use Rattle.service_workers.proofs.run.Run.send_news.Goals as goal

pub send_news_to-requires-clause-told : goal.send_news_to-requires-clause-told
send_news_to-requires-clause-told g c =
    some_known g.K.Keep.seen g.H.Handler.service g.N.Naming.sound (is_to Order) c.in-Some-read_news.news.letters.items _
    c.in-Ok.ensures.own _ c.in-Some-read_news.ensures.told

pub send_news_to-requires-2-clause-told : goal.send_news_to-requires-2-clause-told
send_news_to-requires-2-clause-told g c =
    let others = some_known g.K.Keep.seen g.H.Handler.service g.N.Naming.sound (λ l. not (is_to Order l))
    c.in-Some-read_news.news.letters.items c.in-Ok.others.items c.in-Ok.ensures.others (told_scout c.read_news.new.scout)
    c.in-Some-read_news.ensures.told in
    subst (Knows g.K.Keep.seen g.H.Handler.service g.N.Naming.sound
    (AreSentIn g.H.Handler.service.reactions c.in-Ok-part.stock.items)) (sym c.send_news_to.ensures.knows)
    (some_known g.K.Keep.seen g.H.Handler.service g.N.Naming.sound (is_to Stock) c.in-Ok.others.items _
    c.in-Ok-part.ensures.own _ others)

pub send_news_to-requires-3-clause-told : goal.send_news_to-requires-3-clause-told
send_news_to-requires-3-clause-told g c =
    let others = some_known g.K.Keep.seen g.H.Handler.service g.N.Naming.sound (λ l. not (is_to Order l))
    c.in-Some-read_news.news.letters.items c.in-Ok.others.items c.in-Ok.ensures.others (told_scout c.read_news.new.scout)
    c.in-Some-read_news.ensures.told in
    let knows = Knows g.K.Keep.seen g.H.Handler.service g.N.Naming.sound
    (AreSentIn g.H.Handler.service.reactions c.in-Ok-part.account.items) in
    subst knows (sym c.send_news_to-2.ensures.knows) (subst knows (sym c.send_news_to.ensures.knows)
    (some_known g.K.Keep.seen g.H.Handler.service g.N.Naming.sound (λ l. not (is_to Stock l)) c.in-Ok.others.items _
    c.in-Ok-part.ensures.others _ others))
