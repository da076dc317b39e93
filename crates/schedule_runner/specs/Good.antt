-- When three services and the mail between them are good, and that they stay so.
use Rattle.envelope.specs.declared.message.Envelope.{Envelope}
use Rattle.keep.specs.Seen.{Seen}
use Rattle.laws_stores.specs.Good.{IsGenuine, IsGood, AllAgree}
use Rattle.laws_stores.specs.Sight.{OrderTables, StockTables, AccountTables, AreClean, AreMatching}
use Rattle.laws_stores.specs.Sight.{orders_service, stocks_service, accounts_service}
use Rattle.laws_events.specs.Three.{Genuine}
use Rattle.schedule_service.specs.Cursors.{AreRight}
use Rattle.schedule_runner.specs.Sight.{sight}
use Rattle.schedule_runner.specs.declared.world.World.{World}

-- All envelopes on their way have this property: in what a client wrote and what was carried, in the broker's sessions,
-- queues and open transactions, and among all SENDs that were ever accepted.
abbrev pub MailIs : {KO KS KA : Type 0} → (Envelope → Type 0) → World KO KS KA → Type 0
MailIs ok w = Genuine ok w.purchasing w.warehouse w.billing w.mail

module _ {KO KS KA : Type 0} (orders : KO → Seen OrderTables) (stocks : KS → Seen StockTables)
    (accounts : KA → Seen AccountTables) where
  -- what each relay knows of its service's outbox is right
  abbrev pub AllRight : World KO KS KA → Type 0
  AllRight w = AreRight orders orders_service w.purchasing × AreRight stocks stocks_service w.warehouse
      × AreRight accounts accounts_service w.billing

  -- the services are good, each envelope on its way is genuine, and the relays leave out no row
  pub record IsGoodWorld (w : World KO KS KA) : Type 0 where
    pub services : IsGood (sight orders stocks accounts w)
    pub mail : MailIs (IsGenuine (sight orders stocks accounts w)) w
    pub right : AllRight w

  module _ (old new : World KO KS KA) where
    -- where no file is in doubt now, the tables matched and the world was good, it is good
    abbrev pub StaysGood : Type 0
    StaysGood = AreClean (sight orders stocks accounts new) → AreMatching (sight orders stocks accounts old)
        → IsGoodWorld old → IsGoodWorld new

    -- and so its services agree
    abbrev pub Agrees : Type 0
    Agrees = AreClean (sight orders stocks accounts new) → AreMatching (sight orders stocks accounts old)
        → IsGoodWorld old → AllAgree (sight orders stocks accounts new)
