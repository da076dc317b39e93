-- Connections that are cut.
use Rattle.std.proofs.Common.{◌≡◌, ℕ, List, Option, Some, None, Result, Ok, Err, refl, sym, subst}
use Rattle.envelope.specs.declared.message.Envelope.{Envelope}
use Rattle.endpoint.specs.declared.fault.EndFault.{EndFault}
use Rattle.endpoint.specs.declared.fault.EndFault.TheVariants.{NotMine, Business, TooEarly, StoreFailed, Memory}
use Rattle.endpoint.specs.declared.fault.EndFault.TheVariants.{Unusable, NumberLimit}
use Rattle.endpoint.specs.declared.fault.EndFault.TheVariants.{NotSent}
use Rattle.schedule_mail.specs.Mails.{Mail}
use Rattle.laws_mail.specs.Passing.{GoodMail}
use Rattle.schedule_text.specs.declared.event.ConnectionNumber.{ConnectionNumber}
use Rattle.schedule_text.specs.declared.event.ConnectionNumber.TheVariants.{Zero, One}
use Rattle.schedule_service.specs.Channels.{channel_of, with_channel, MailAfterCut, Same, CutsBoth, After, AfterFault}
use Rattle.schedule_service.specs.Channels.{Meets, MeetsAlone}
use Rattle.schedule_service.specs.declared.fate.ChannelFate.{ChannelFate}
use Rattle.schedule_service.specs.declared.fate.ChannelFate.TheVariants.{Stays, IsCut, BothAreCut}
use Rattle.schedule_service.specs.declared.site_channel.SiteChannel.{SiteChannel}
use Rattle.schedule_service.specs.declared.site.Site.{Site}
use Rattle.laws_events.specs.Sitting.{Sits, Passes}
use Rattle.laws_events.proofs.Sitting.{again, closed, cut_off, stayed}

module _ {H K S C : Type 0} where
  -- what was put at a number is found there
  pub found_with : (number : ConnectionNumber) (l : Option SiteChannel) (s : Site H K S C)
      → channel_of number (with_channel number l s) ≡ l
  found_with Zero l s = refl
  found_with One l s = refl

  -- the last of two changes counts
  pub with_again : (number : ConnectionNumber) (l k : Option SiteChannel) (s : Site H K S C)
      → with_channel number l (with_channel number k s) ≡ with_channel number l s
  with_again Zero l k s = refl
  with_again One l k s = refl

module _ {H K S C : Type 0} (ok : Envelope → Type 0) where
  module _ (up down : ℕ → List ℕ) where
    -- nothing changes
    pub same_passes : (s : Site H K S C) (from : Mail) (t : Site H K S C) (to : Mail) → Same s from t to
        → Sits ok up down s from
        → GoodMail ok up down from → Passes ok up down s from t to
    same_passes s from t to same h mail = subst (λ x. Passes ok up down s from x to) (sym same.0)
        (subst (λ o. Passes ok up down s from s o) (sym same.1) (stayed ok up down s from h mail))

    -- a connection is cut, where it is open
    leaves_of : (number : ConnectionNumber) (s : Site H K S C) (from to : Mail) (o : Option SiteChannel)
        → channel_of number s ≡ o
        → MailAfterCut o from to → Sits ok up down s from → GoodMail ok up down from
        → Passes ok up down s from (with_channel number None s) to
    leaves_of number s from to None is leaves h mail =
        subst (λ o. Passes ok up down s from (with_channel number None s) o) (sym leaves)
        (closed ok up down number s from h mail)
    leaves_of number s from to (Some l) is leaves h mail =
        cut_off ok up down number s l is l.connection from to leaves.0 refl leaves.1 h mail

  pub leaves_pass : (up down : ℕ → List ℕ) (number : ConnectionNumber) (s : Site H K S C) (from to : Mail)
      → MailAfterCut (channel_of number s) from to → Sits ok up down s from → GoodMail ok up down from
      → Passes ok up down s from (with_channel number None s) to
  leaves_pass up down number s from to leaves h mail =
      leaves_of up down number s from to (channel_of number s) refl leaves h mail

  -- both are
  pub cuts_pass : (up down : ℕ → List ℕ) (s : Site H K S C) (from : Mail) (t : Site H K S C) (to : Mail)
      → CutsBoth s from t to
      → Sits ok up down s from → GoodMail ok up down from → Passes ok up down s from t to
  cuts_pass up down s from t to cuts h mail =
      let first = leaves_pass up down Zero s from cuts.between cuts.zero h mail in
      let mid : Site H K S C = with_channel Zero None s in
      let second = leaves_pass first.rising first.falling One mid cuts.between to cuts.one first.sits first.mail in
      subst (λ x. Passes ok up down s from x to) (sym cuts.site)
      (again ok up down s mid (with_channel One None mid) from cuts.between to first second)

  -- behind a fault of the endpoint
  fault_passes : (up down : ℕ → List ℕ) (fault : EndFault) (s : Site H K S C) (from : Mail) (t : Site H K S C)
      (to : Mail)
      → AfterFault fault s from t to → Sits ok up down s from → GoodMail ok up down from
      → Passes ok up down s from t to
  fault_passes up down StoreFailed s from t to after h mail = cuts_pass up down s from t to after h mail
  fault_passes up down NotMine s from t to after h mail = same_passes up down s from t to after h mail
  fault_passes up down (Business refusal) s from t to after h mail = same_passes up down s from t to after h mail
  fault_passes up down TooEarly s from t to after h mail = same_passes up down s from t to after h mail
  fault_passes up down Memory s from t to after h mail = same_passes up down s from t to after h mail
  fault_passes up down Unusable s from t to after h mail = same_passes up down s from t to after h mail
  fault_passes up down NumberLimit s from t to after h mail = same_passes up down s from t to after h mail
  fault_passes up down NotSent s from t to after h mail = same_passes up down s from t to after h mail

  pub after_passes : {R : Type 0} (up down : ℕ → List ℕ) (r : Result R EndFault) (s : Site H K S C) (from : Mail)
      (t : Site H K S C)
      (to : Mail) → After r s from t to → Sits ok up down s from → GoodMail ok up down from
      → Passes ok up down s from t to
  after_passes up down (Ok done) s from t to after h mail = same_passes up down s from t to after h mail
  after_passes up down (Err fault) s from t to after h mail = fault_passes up down fault s from t to after h mail

  -- ---- the fate of an open connection, which changed before

  pub meets_pass : (up down : ℕ → List ℕ) (fate : ChannelFate) (number : ConnectionNumber) (l : SiteChannel)
      (s : Site H K S C)
      (from between : Mail) (t : Site H K S C) (to : Mail) → Meets fate number l s between t to
      → Passes ok up down s from (with_channel number (Some l) s) between
      → Passes ok up down s from t to
  meets_pass up down Stays number l s from between t to meets p =
      again ok up down s (with_channel number (Some l) s) t from between to p
      (same_passes p.rising p.falling (with_channel number (Some l) s) between t to meets p.sits p.mail)
  meets_pass up down IsCut number l s from between t to meets p =
      let mid : Site H K S C = with_channel number (Some l) s in
      let cut = leaves_of p.rising p.falling number mid between to (Some l) (found_with number (Some l) s) meets.0
      p.sits p.mail in
      subst (λ x. Passes ok up down s from x to) (sym meets.1)
      (subst (λ x. Passes ok up down s from x to) (with_again number None (Some l) s)
      (again ok up down s mid (with_channel number None mid) from between to p cut))
  meets_pass up down BothAreCut number l s from between t to meets p =
      again ok up down s (with_channel number (Some l) s) t from between to p
      (cuts_pass p.rising p.falling (with_channel number (Some l) s) between t to meets p.sits p.mail)

  -- and where it isn't open
  pub alone_passes : (up down : ℕ → List ℕ) (fate : ChannelFate) (s : Site H K S C) (from : Mail) (t : Site H K S C)
      (to : Mail)
      → MeetsAlone fate s from t to → Sits ok up down s from → GoodMail ok up down from
      → Passes ok up down s from t to
  alone_passes up down Stays s from t to meets h mail = same_passes up down s from t to meets h mail
  alone_passes up down IsCut s from t to meets h mail = same_passes up down s from t to meets h mail
  alone_passes up down BothAreCut s from t to meets h mail = cuts_pass up down s from t to meets h mail
