-- A service whose open connections bring and take away good frames alone.
use Rattle.std.specs.Prelude.{◌≡◌, ◌⊎◌, ℕ, ◌≤◌, ◌<◌, List, Option, Some, None, ⊤}
use Rattle.envelope.specs.declared.message.Envelope.{Envelope}
use Rattle.schedule_mail.specs.Mails.{Mail}
use Rattle.schedule_mail.specs.declared.connection.Connection.{Connection}
use Rattle.laws_mail.specs.Passing.{AreOf, GoodConnection, GoodMail}
use Rattle.schedule_service.specs.declared.site_channel.SiteChannel.{SiteChannel}
use Rattle.schedule_service.specs.declared.site.Site.{Site}

-- ---- sessions

-- the session of an open connection
abbrev pub IsOf : ℕ → Option SiteChannel → Type 0
IsOf n None = ⊥
IsOf n (Some l) = l.connection.session ≡ n

-- the session of one of a service's open connections
abbrev pub HasSession : {H K S C : Type 0} → Site H K S C → ℕ → Type 0
HasSession s n = IsOf n s.zero ⊎ IsOf n s.one

-- two services have no session in common
abbrev pub AreApart : {H K S C H' K' S' C' : Type 0} → Site H K S C → Site H' K' S' C' → Type 0
AreApart s t = (n : ℕ) → HasSession s n → HasSession t n → ⊥

-- ---- connections

module _ (ok : Envelope → Type 0) (up down : ℕ → List ℕ) where
  -- the texts of a connection are those of its session, which was opened; what waits is good
  pub record IsLinked (c : Connection) (o : Mail) : Type 0 where
    pub texts : AreOf c up down
    pub good : GoodConnection ok c
    pub opened : c.session ≤ o.broker.opened

  -- the same of a connection where it is open
  abbrev pub ChannelSits : Option SiteChannel → Mail → Type 0
  ChannelSits None o = ⊤
  ChannelSits (Some l) o = IsLinked l.connection o

  -- the same of both connections of a service, and they have no session in common
  pub record Sits {H K S C : Type 0} (s : Site H K S C) (o : Mail) : Type 0 where
    pub zero : ChannelSits s.zero o
    pub one : ChannelSits s.one o
    pub apart : (n : ℕ) → IsOf n s.zero → IsOf n s.one → ⊥

-- What an event of a service leaves: texts with which all is good again. Those of sessions that aren't the service's
-- are as they were, and a session that the service has then it had before, or it is a new one.
pub record Passes {H K S C : Type 0} (ok : Envelope → Type 0) (up down : ℕ → List ℕ) (s : Site H K S C) (from : Mail)
    (t : Site H K S C)
    (to : Mail) : Type 0 where
  pub rising : ℕ → List ℕ
  pub falling : ℕ → List ℕ
  pub mail : GoodMail ok rising falling to
  pub sits : Sits ok rising falling t to
  pub opened : from.broker.opened ≤ to.broker.opened
  pub others : (n : ℕ) → n ≤ from.broker.opened → (HasSession s n → ⊥) → (rising n ≡ up n) × (falling n ≡ down n)
  pub own : (n : ℕ) → HasSession t n → HasSession s n ⊎ (from.broker.opened < n)
