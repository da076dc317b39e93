-- Three services over one broker, between which only good frames are on their way.
use Rattle.std.specs.Prelude.{ℕ, List}
use Rattle.envelope.specs.declared.message.Envelope.{Envelope}
use Rattle.schedule_mail.specs.Mails.{Mail}
use Rattle.laws_mail.specs.Passing.{GoodMail}
use Rattle.laws_events.specs.Sitting.{Sits, AreApart}
use Rattle.schedule_service.specs.declared.site.Site.{Site}

-- All that is on its way among three services, and all that their broker keeps or ever accepted, is some of these
-- envelopes or none.
pub record Genuine {H K S C H' K' S' C' H'' K'' S'' C'' : Type 0} (ok : Envelope → Type 0) (a : Site H K S C)
    (b : Site H' K' S' C')
    (c : Site H'' K'' S'' C'') (o : Mail) : Type 0 where
  pub up : ℕ → List ℕ
  pub down : ℕ → List ℕ
  pub mail : GoodMail ok up down o
  pub first : Sits ok up down a o
  pub second : Sits ok up down b o
  pub third : Sits ok up down c o
  pub first_second : AreApart a b
  pub second_third : AreApart b c
  pub third_first : AreApart c a
