-- The mail with other texts on their way.
use Rattle.std.proofs.Common.{◌≡◌, ℕ, ◌<◌, List, [], sym, ◌∙◌}
use Rattle.envelope.specs.declared.message.Envelope.{Envelope}
use Rattle.schedule_mail.specs.Mails.{Mail}
use Rattle.schedule_mail.specs.declared.connection.Connection.{Connection}
use Rattle.laws_mail.specs.Passing.{GoodMail, GoodWith, at, coming, going}
use Rattle.laws_mail.proofs.Texts.{at_each, retold, retold_at, same_down, same_up}

-- nothing is on its way to or from these numbers
abbrev pub AreEmpty : (up down : ℕ → List ℕ) → ℕ → Type 0
AreEmpty up down last = (n : ℕ) → last < n → (up n ≡ []) × (down n ≡ [])

pub above_at : (up down : ℕ → List ℕ) (n : ℕ) (rise fall : List ℕ) (last : ℕ) → AreEmpty up down last
    → (last < n → rise ≡ [])
    → (last < n → fall ≡ []) → AreEmpty (at n rise up) (at n fall down) last
above_at up down n rise fall last h u d m lt = (
  at_each (λ i text. last < i → text ≡ []) n rise up u (λ i e k. (h i k).0) m lt,
  at_each (λ i text. last < i → text ≡ []) n fall down d (λ i e k. (h i k).1) m lt,
)

module _ (ok : Envelope → Type 0) (up down : ℕ → List ℕ) where
  -- the texts are pointwise the same
  pub same_texts : (up' down' : ℕ → List ℕ) (o : Mail) → ((n : ℕ) → up' n ≡ up n) → ((n : ℕ) → down' n ≡ down n)
      → GoodMail ok up down o → GoodMail ok up' down' o
  same_texts up' down' o u d h = record {
    server = retold ok up up' down down' o.broker (λ n. same_up ok (up n) (up' n) (u n))
        (λ n. same_down ok (down n) (down' n) (d n)) h.server;
    earlier = h.earlier;
    above = λ n lt. (u n ∙ (h.above n lt).0, d n ∙ (h.above n lt).1);
  }

  -- at one number they are what they are
  pub unchanged : (n : ℕ) (rise fall : List ℕ) (o : Mail) → up n ≡ rise → down n ≡ fall → GoodMail ok up down o
      → GoodMail ok (at n rise up) (at n fall down) o
  unchanged n rise fall o u d h = record {
    server = retold_at ok up down n rise fall o.broker (same_up ok (up n) rise (sym u))
        (same_down ok (down n) fall (sym d)) h.server;
    earlier = h.earlier;
    above = above_at up down n rise fall o.broker.opened h.above (λ lt. sym u ∙ (h.above n lt).0)
        (λ lt. sym d ∙ (h.above n lt).1);
  }

  -- the texts of one number are those of a connection
  pub mail_with : (n : ℕ) (rise fall : List ℕ) (c : Connection) (o : Mail) → c.session ≡ n → going c ≡ rise
      → coming c ≡ fall
      → GoodMail ok (at n rise up) (at n fall down) o → GoodWith ok c up down o
  mail_with n rise fall c o s u d h = rw (s, u, d) h
