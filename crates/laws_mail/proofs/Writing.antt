-- What a client writes is on its way.
use Rattle.std.proofs.Common.{◌≡◌, ℕ, ◌<◌, ◌≤◌, List, [], ◌∷◌, ◌++◌, take, drop, refl, sym, ap, ◌∙◌, subst, append_assoc, arith}
use Rattle.std.specs.List.{AllByRecursion, flat_map}
use Rattle.std.proofs.lemmas.List.{append_cancel_left, take-append-drop}
use Rattle.std.proofs.lemmas.List.Concat.{flat_map-append}
use Rattle.base.specs.declared.limits.TheConstants.{MAX_BODY}
use Rattle.stomp_frame.specs.Decoding.{Held}
use Rattle.stomp_frame.specs.Frames.{Content, IsFrame, canonical}
use Rattle.stomp_frame.specs.Streams.{AreFrames, canonical_texts}
use Rattle.stomp_session.proofs.Owning.{all_append}
use Rattle.stomp_client.specs.Written.{Adds, Wrote}
use Rattle.laws_broker.proofs.Lists.{all_split}
use Rattle.envelope.specs.declared.message.Envelope.{Envelope}
use Rattle.schedule_mail.specs.Mails.{Mail}
use Rattle.schedule_mail.specs.declared.connection.Connection.{Connection}
use Rattle.laws_mail.specs.Passing.{AreOf, GoodFrame, GoodMail, GoodWith, HasWritten, Spelled, at, coming, going}
use Rattle.laws_mail.proofs.Spelling.{spelled_all}
use Rattle.laws_mail.proofs.Texts.{retold_at, same_down}
use Rattle.laws_mail.proofs.Placing.{above_at, mail_with, unchanged}

-- ---- what was written are frames

wrote_more : (frames more : List Content) (gone out : List ℕ) → AreFrames MAX_BODY more → Wrote frames gone out
    → Wrote (frames ++ more) gone (out ++ canonical_texts more)
wrote_more frames more gone out are h = record {
  each = all_append (IsFrame MAX_BODY) frames more h.each are;
  whole = sym (append_assoc gone out (canonical_texts more)) ∙ ap (λ l. l ++ canonical_texts more) h.whole
      ∙ sym (flat_map-append canonical frames more);
}

-- good frames are frames
all_fit : (ok : Envelope → Type 0) (frames : List Content) → AllByRecursion (GoodFrame ok) frames → AreFrames MAX_BODY frames
all_fit ok [] each = tt
all_fit ok (f ∷ frames) each = (each.0.fits, all_fit ok frames each.1)

pub more_written : (ok : Envelope → Type 0) (out : List ℕ) (frames : List Content) → AllByRecursion (GoodFrame ok) frames
    → HasWritten ok out
    → HasWritten ok (out ++ canonical_texts frames)
more_written ok out frames each h = record {
  frames = h.frames ++ frames;
  each = all_append (GoodFrame ok) h.frames frames h.each each;
  gone = h.gone;
  wrote = wrote_more h.frames frames h.gone out (all_fit ok frames each) h.wrote;
}

-- octets were carried
pub less_written : (ok : Envelope → Type 0) (out : List ℕ) (count : ℕ) → HasWritten ok out → HasWritten ok (drop count out)
less_written ok out count h = record {
  frames = h.frames;
  each = h.each;
  gone = h.gone ++ take count out;
  wrote = record {
    each = h.wrote.each;
    whole = append_assoc h.gone (take count out) (drop count out) ∙ ap (λ l. h.gone ++ l) (take-append-drop count out)
        ∙ h.wrote.whole;
  };
}

-- behind what was written, exactly these frames
pub adds_written : (ok : Envelope → Type 0) (old new : List ℕ) (more : List Content) → Adds more old new → HasWritten ok old
    → (new ≡ old ++ canonical_texts more) × AreFrames MAX_BODY more
adds_written ok old new more adds h =
    let w = adds h.frames h.gone h.wrote in
    let text : h.gone ++ new ≡ h.gone ++ (old ++ canonical_texts more) =
    w.whole ∙ flat_map-append canonical h.frames more ∙ ap (λ l. l ++ canonical_texts more) (sym h.wrote.whole)
    ∙ append_assoc h.gone old (canonical_texts more) in (
      append_cancel_left h.gone new (old ++ canonical_texts more) text,
      (all_split (IsFrame MAX_BODY) h.frames more w.each).1,
    )

-- ---- good frames were written

module _ (ok : Envelope → Type 0) (up down : ℕ → List ℕ) where
  not_above : (P : Type 0) (n m : ℕ) → n ≤ m → m < n → P
  not_above P n m le lt = absurd (omega (arith, le, lt))

  -- the octets on their way to a session that was opened are more
  more_at : (n : ℕ) (fall : List ℕ) (frames : List Content) (o : Mail) → n ≤ o.broker.opened → down n ≡ fall
      → AllByRecursion (GoodFrame ok) frames → GoodMail ok up down o
      → GoodMail ok (at n (up n ++ canonical_texts frames) up) (at n fall down) o
  more_at n fall frames o there low all h = record {
    server = retold_at ok up down n (up n ++ canonical_texts frames) fall o.broker
        (λ held k. subst (Spelled ok) (append_assoc held (up n) (canonical_texts frames))
        (spelled_all ok (held ++ up n) frames k all))
        (same_down ok (down n) fall (sym low)) h.server;
    earlier = h.earlier;
    above = above_at up down n (up n ++ canonical_texts frames) fall o.broker.opened h.above
        (λ lt. not_above _ n o.broker.opened there lt)
        (λ lt. not_above _ n o.broker.opened there lt);
  }

  -- a client wrote them
  pub client_written_good : (old new : Connection) (frames : List Content) (o : Mail) → old.session ≤ o.broker.opened
      → new.session ≡ old.session → new.channel.decoder ≡ old.channel.decoder
      → new.channel.client.client.out ≡ old.channel.client.client.out ++ canonical_texts frames
      → AllByRecursion (GoodFrame ok) frames → AreOf old up down
      → GoodMail ok up down o → GoodWith ok new up down o
  client_written_good old new frames o there session decoder out all are h =
      mail_with ok up down old.session (up old.session ++ canonical_texts frames) (coming old) new o session
      (out ∙ ap (λ l. l ++ canonical_texts frames) (sym are.0)) (ap (λ (d : Held). d.octets) decoder)
      (more_at old.session (coming old) frames o there are.1 all h)

  -- it wrote nothing
  pub client_same_good : (old new : Connection) (o : Mail) → new.session ≡ old.session
      → new.channel.decoder ≡ old.channel.decoder
      → new.channel.client.client.out ≡ old.channel.client.client.out → AreOf old up down → GoodMail ok up down o
      → GoodWith ok new up down o
  client_same_good old new o session decoder out are h =
      mail_with ok up down old.session (going old) (coming old) new o session out
      (ap (λ (d : Held). d.octets) decoder)
      (unchanged ok up down old.session (going old) (coming old) o are.0 are.1 h)

  pub written_good : (n : ℕ) (frames : List Content) (o : Mail) → n ≤ o.broker.opened
      → AllByRecursion (GoodFrame ok) frames
      → GoodMail ok up down o → GoodMail ok (at n (up n ++ canonical_texts frames) up) (at n (down n) down) o
  written_good n frames o there all h = more_at n (down n) frames o there refl all h
