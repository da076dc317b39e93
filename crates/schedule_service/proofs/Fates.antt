-- A connection that was taken out and put in again.
use Rattle.std.proofs.Common.{◌≡◌, Option, Some, None, refl, sym, subst}
use Rattle.schedule_mail.specs.Mails.{Mail}
use Rattle.schedule_text.specs.declared.event.ConnectionNumber.{ConnectionNumber}
use Rattle.schedule_text.specs.declared.event.ConnectionNumber.TheVariants.{Zero, One}
use Rattle.schedule_text.specs.declared.outcome.Outcome.{Outcome}
use Rattle.schedule_text.specs.declared.outcome.Outcome.TheVariants.{Closed}
use Rattle.schedule_service.specs.SiteSteps.{IfOpen}
use Rattle.schedule_service.specs.Channels.{channel_of, with_channel, Meets, TakesChannel}
use Rattle.schedule_service.specs.declared.fate.ChannelFate.{ChannelFate}
use Rattle.schedule_service.specs.declared.fate.ChannelFate.TheVariants.{Stays, IsCut, BothAreCut}
use Rattle.schedule_service.specs.declared.site_channel.SiteChannel.{SiteChannel}
use Rattle.schedule_service.specs.declared.site.Site.{Site}

module _ {H K S C : Type 0} where
  -- the last of two changes counts
  pub with_again : (number : ConnectionNumber) (l k : Option SiteChannel) (s : Site H K S C)
      → with_channel number l (with_channel number k s) ≡ with_channel number l s
  with_again Zero l k s = refl
  with_again One l k s = refl

  -- a connection that is put back was never away
  pub with_back : (number : ConnectionNumber) (l : Option SiteChannel) (s : Site H K S C) → channel_of number s ≡ l
      → with_channel number l s ≡ s
  with_back Zero l s e = λ i. record s { zero = sym e i }
  with_back One l s e = λ i. record s { one = sym e i }

  -- its fate is that of one that was in its place
  pub meets_again : (fate : ChannelFate) (number : ConnectionNumber) (l : SiteChannel) (k : Option SiteChannel)
      (s : Site H K S C) (from : Mail)
      (t : Site H K S C) (to : Mail) → Meets fate number l (with_channel number k s) from t to
      → Meets fate number l s from t to
  meets_again Stays Zero l k s from t to h = h
  meets_again Stays One l k s from t to h = h
  meets_again IsCut Zero l k s from t to h = h
  meets_again IsCut One l k s from t to h = h
  meets_again BothAreCut Zero l k s from t to h = h
  meets_again BothAreCut One l k s from t to h = h

  -- an event of a connection that isn't open
  pub if_closed : (o : Option SiteChannel) (s : Site H K S C) (from : Mail) (t : Site H K S C) (to : Mail)
      (Does : SiteChannel → Type 0)
      → o ≡ None → t ≡ s → to ≡ from → IfOpen o Closed s from t to Does
  if_closed None s from t to Does e same kept = (refl, (same, kept))
  if_closed (Some l) s from t to Does e same kept = let z : Some l ≡ None = e in cc

  -- and of one that is
  pub if_open : (o : Option SiteChannel) (l : SiteChannel) (outcome : Outcome) (s : Site H K S C) (from : Mail)
      (t : Site H K S C) (to : Mail)
      (Does : SiteChannel → Type 0) → o ≡ Some l → Does l → IfOpen o outcome s from t to Does
  if_open None l outcome s from t to Does e d = let z : None ≡ Some l = e in cc
  if_open (Some k) l outcome s from t to Does e d = let same : l ≡ k = cc in subst Does same d

  -- a connection that was taken out was open, and nothing else changed
  pub took_open : (number : ConnectionNumber) (s t : Site H K S C) (r : Option SiteChannel) (l : SiteChannel)
      → r ≡ Some l
      → TakesChannel number s t r
      → TakesChannel number s t (Some l)
  took_open number s t r l e h = subst (TakesChannel number s t) e h

  pub took_none : (number : ConnectionNumber) (s t : Site H K S C) (r : Option SiteChannel) → r ≡ None
      → TakesChannel number s t r
      → TakesChannel number s t None
  took_none number s t r e h = subst (TakesChannel number s t) e h

  -- what was done behind that was done by the event
  pub does_open : (number : ConnectionNumber) (outcome : Outcome) (s between : Site H K S C) (from : Mail)
      (t : Site H K S C)
      (to : Mail) (r : Option SiteChannel) (l : SiteChannel) (Does : Site H K S C → SiteChannel → Type 0)
      → (Does (with_channel number None s) l → Does s l) → r ≡ Some l → TakesChannel number s between r → Does between l
      → IfOpen (channel_of number s) outcome s from t to (Does s)
  does_open number outcome s between from t to r l Does again e takes d =
      let took = took_open number s between r l e takes in
      if_open (channel_of number s) l outcome s from t to (Does s) took.0 (again (subst (λ x. Does x l) took.1 d))
