-- One connection of a service changes, and all else stays.
use Rattle.std.proofs.Common.{◌≡◌, ◌⊎◌, inl, inr, ℕ, ◌+◌, ◌≤◌, ◌<◌, List, [], Option, Some, None, Ok, refl, sym, ap}
use Rattle.std.proofs.Common.{subst, ◌∙◌, arith}
use Rattle.std.specs.Prelude.{if◌then◌else◌, Result}
use Rattle.std.proofs.lemmas.Bool.{eq-eqb, ne_eqb}
use Rattle.activities.proofs.Sameness.{either}
use Rattle.envelope.specs.declared.message.Envelope.{Envelope}
use Rattle.keep.specs.Failing.{Failing}
use Rattle.schedule_mail.specs.Connecting.{Cuts, Opens}
use Rattle.schedule_mail.specs.Mails.{Mail}
use Rattle.schedule_mail.specs.declared.connection.Connection.{Connection}
use Rattle.laws_mail.specs.Passing.{GoodConnection, GoodMail, GoodWith, at, coming, going}
use Rattle.laws_mail.proofs.Mails.{cut_good, opened_connection, opened_good}
use Rattle.laws_mail.proofs.Rising.{cut_opened, opened_number}
use Rattle.relay.specs.declared.relay.Relay.{Relay}
use Rattle.schedule_text.specs.declared.event.ConnectionNumber.{ConnectionNumber}
use Rattle.schedule_text.specs.declared.event.ConnectionNumber.TheVariants.{Zero, One}
use Rattle.laws_events.specs.Sitting.{IsOf, HasSession, IsLinked, ChannelSits, Sits, Passes}
use Rattle.schedule_service.specs.SiteSteps.{with_store}
use Rattle.schedule_service.specs.Channels.{channel_of, with_channel}
use Rattle.schedule_service.specs.declared.site_channel.SiteChannel.{SiteChannel}
use Rattle.schedule_service.specs.declared.site.Site.{Site}

-- ---- the text at one number

pub at_of : (n m : ℕ) (text : List ℕ) (on : ℕ → List ℕ) → n ≡ m → at n text on m ≡ text
at_of n m text on e = ap (λ b. if b then text else on m) (eq-eqb n m e)

pub at_other : (n m : ℕ) (text : List ℕ) (on : ℕ → List ℕ) → (n ≡ m → ⊥) → at n text on m ≡ on m
at_other n m text on h = ap (λ b. if b then text else on m) (ne_eqb n m h)

-- ---- what stays

module _ (ok : Envelope → Type 0) (up down up' down' : ℕ → List ℕ) (from to : Mail)
    (rise : from.broker.opened ≤ to.broker.opened) where
  -- a connection whose texts are the same
  pub channel_stays : (l : Option SiteChannel) → ((m : ℕ) → IsOf m l → (up' m ≡ up m) × (down' m ≡ down m))
      → ChannelSits ok up down l from
      → ChannelSits ok up' down' l to
  channel_stays None same h = tt
  channel_stays (Some l) same h =
      let e = same l.connection.session refl in
      let known = h.opened in
      record { texts = (e.0 ∙ h.texts.0, e.1 ∙ h.texts.1); good = h.good; opened = omega (arith, known, rise) }

  -- a service whose texts are
  pub sits_stay : {H K S C : Type 0} (s : Site H K S C)
      → ((m : ℕ) → HasSession s m → (up' m ≡ up m) × (down' m ≡ down m))
      → Sits ok up down s from → Sits ok up' down' s to
  sits_stay s same h = record {
    zero = channel_stays s.zero (λ m is. same m (inl is)) h.zero;
    one = channel_stays s.one (λ m is. same m (inr is)) h.one;
    apart = h.apart;
  }

-- ---- one connection changes

-- the connection of the other number
abbrev pub other_channel : {H K S C : Type 0} → ConnectionNumber → Site H K S C → Option SiteChannel
other_channel Zero s = s.one
other_channel One s = s.zero

module _ {H K S C : Type 0} (ok : Envelope → Type 0) (up down : ℕ → List ℕ) (s : Site H K S C) (from to : Mail)
    (n : ℕ)
    (going coming : List ℕ) (o : Option SiteChannel) (only : (m : ℕ) → IsOf m o → m ≡ n)
    (new : ChannelSits ok (at n going up) (at n coming down) o to) (rise : from.broker.opened ≤ to.broker.opened) where
  stays_beside : (l : Option SiteChannel) → (IsOf n l → ⊥) → ChannelSits ok up down l from
      → ChannelSits ok (at n going up) (at n coming down) l to
  stays_beside l beside h = channel_stays ok up down (at n going up) (at n coming down) from to rise l
      (λ m is. let no : n ≡ m → ⊥ = λ e. beside (subst (λ i. IsOf i l) (sym e) is) in
      (at_other n m going up no, at_other n m coming down no)) h

  replaced_sits : (number : ConnectionNumber) → (IsOf n (other_channel number s) → ⊥) → Sits ok up down s from
      → Sits ok (at n going up)
      (at n coming down) (with_channel number o s) to
  replaced_sits Zero beside h = record {
    zero = new;
    one = stays_beside s.one beside h.one;
    apart = λ m a b. beside (subst (λ i. IsOf i s.one) (only m a) b);
  }
  replaced_sits One beside h = record {
    zero = stays_beside s.zero beside h.zero;
    one = new;
    apart = λ m a b. beside (subst (λ i. IsOf i s.zero) (only m b) a);
  }

  replaced_own : (number : ConnectionNumber) → HasSession s n ⊎ (from.broker.opened < n) → (m : ℕ)
      → HasSession (with_channel number o s) m
      → HasSession s m ⊎ (from.broker.opened < m)
  replaced_own Zero mine m has = either has
      (λ is. subst (λ i. HasSession s i ⊎ (from.broker.opened < i)) (sym (only m is)) mine) (λ is. inl (inr is))
  replaced_own One mine m has = either has
      (λ is. inl (inl is)) (λ is. subst (λ i. HasSession s i ⊎ (from.broker.opened < i)) (sym (only m is)) mine)

  -- one connection is another, or isn't open; its session was the service's own, or is a new one
  pub replaced : (number : ConnectionNumber) → (IsOf n (other_channel number s) → ⊥) → HasSession s n
      ⊎ (from.broker.opened < n)
      → Sits ok up down s from → GoodMail ok (at n going up) (at n coming down) to
      → Passes ok up down s from (with_channel number o s) to
  replaced number beside mine h mail = record {
    rising = at n going up;
    falling = at n coming down;
    mail = mail;
    sits = replaced_sits number beside h;
    opened = rise;
    others = λ m known not.
        let no : n ≡ m → ⊥ =
        λ e. either mine (λ has. not (subst (HasSession s) e has)) (λ more. omega (arith, e, more, known)) in
        (at_other n m going up no, at_other n m coming down no);
    own = replaced_own number mine;
  }

module _ {H K S C : Type 0} (ok : Envelope → Type 0) (up down : ℕ → List ℕ) (number : ConnectionNumber)
    (s : Site H K S C) (l : SiteChannel)
    (is : channel_of number s ≡ Some l) where
  -- an open connection's session is its own
  open_apart : (number : ConnectionNumber) → channel_of number s ≡ Some l → (from : Mail) → Sits ok up down s from
      → (n : ℕ)
      → n ≡ l.connection.session → IsOf n (other_channel number s) → ⊥
  open_apart Zero is from h n e other = h.apart n (subst (IsOf n) (sym is) (sym e)) other
  open_apart One is from h n e other = h.apart n other (subst (IsOf n) (sym is) (sym e))

  open_own : (number : ConnectionNumber) → channel_of number s ≡ Some l → (n : ℕ) → n ≡ l.connection.session
      → HasSession s n
  open_own Zero is n e = inl (subst (IsOf n) (sym is) (sym e))
  open_own One is n e = inr (subst (IsOf n) (sym is) (sym e))

  linked_at : (number : ConnectionNumber) → channel_of number s ≡ Some l → (from : Mail) → Sits ok up down s from
      → IsLinked ok up down l.connection from
  linked_at Zero is from h = subst (λ o. ChannelSits ok up down o from) is h.zero
  linked_at One is from h = subst (λ o. ChannelSits ok up down o from) is h.one

  -- what is known of an open connection
  pub linked : (from : Mail) → Sits ok up down s from → IsLinked ok up down l.connection from
  linked from h = linked_at number is from h

  -- an open connection has other texts, and its session is the same
  pub moved : (k : SiteChannel) (from to : Mail) → k.connection.session ≡ l.connection.session
      → GoodConnection ok k.connection
      → to.broker.opened ≡ from.broker.opened → Sits ok up down s from → GoodWith ok k.connection up down to
      → Passes ok up down s from (with_channel number (Some k) s) to
  moved k from to same good rise h mail =
      let n : ℕ = k.connection.session in
      let known = (linked from h).opened in
      replaced ok up down s from to n (going k.connection) (coming k.connection) (Some k) (λ m e. sym e)
      (record {
        texts = (at_of n n (going k.connection) up refl, at_of n n (coming k.connection) down refl);
        good = good;
        opened = omega (arith, same, rise, known);
      })
      (omega (arith, rise)) number (open_apart number is from h n same) (inl (open_own number is n same)) h mail

  -- it is cut
  pub cut_off : {E : Type 0} (c : Connection) (from to : Mail) (r : Result (Unit {0}) E)
      → c.session ≡ l.connection.session
      → Cuts c from to r → Sits ok up down s from → GoodMail ok up down from
      → Passes ok up down s from (with_channel number None s) to
  cut_off c from to r same cuts h mail =
      let rise = cut_opened c from to r cuts in
      replaced ok up down s from to c.session [] [] None (λ m e. absurd e) tt (omega (arith, rise)) number
      (open_apart number is from h c.session same) (inl (open_own number is c.session same)) h
      (cut_good ok up down c from to r cuts mail)

module _ {H K S C : Type 0} (ok : Envelope → Type 0) (up down : ℕ → List ℕ) (s : Site H K S C) (from to : Mail) where
  old_session : (l : Option SiteChannel) (n : ℕ) → ChannelSits ok up down l from → from.broker.opened < n → IsOf n l → ⊥
  old_session None n h more is = is
  old_session (Some l) n h more is = let known = h.opened in omega (arith, known, more, is)

  old_beside : (number : ConnectionNumber) (n : ℕ) → Sits ok up down s from → from.broker.opened < n
      → IsOf n (other_channel number s) → ⊥
  old_beside Zero n h more = old_session s.one n h.one more
  old_beside One n h more = old_session s.zero n h.zero more

  -- a connection is opened
  pub opened_channel : (number : ConnectionNumber) (c : Connection) (relay : Relay) → Opens from to (Ok c)
      → Sits ok up down s from
      → GoodMail ok up down from → Passes ok up down s from (with_channel number
      (Some (record { connection = c; relay = relay })) s) to
  opened_channel number c relay opens h mail =
      let numbers = opened_number from c to opens in
      let number' : c.session ≡ from.broker.opened + 1 = numbers.0 in
      let risen : to.broker.opened ≡ from.broker.opened + 1 = numbers.1 in
      let more : from.broker.opened < c.session = omega (arith, number') in
      replaced ok up down s from to c.session (going c) (coming c) (Some (record { connection = c; relay = relay }))
      (λ m e. sym e)
      (record {
        texts = (at_of c.session c.session (going c) up refl, at_of c.session c.session (coming c) down refl);
        good = opened_connection ok from c to opens;
        opened = omega (arith, number', risen);
      })
      (omega (arith, risen)) number (old_beside number c.session h more) (inr more) h
      (opened_good ok up down from c to opens mail)

-- ---- nothing changes, or one change comes behind another

module _ {H K S C : Type 0} (ok : Envelope → Type 0) (up down : ℕ → List ℕ) where
  -- nothing of the connections and the mail
  pub stayed : (s : Site H K S C) (o : Mail) → Sits ok up down s o → GoodMail ok up down o
      → Passes ok up down s o s o
  stayed s o h mail = record {
    rising = up;
    falling = down;
    mail = mail;
    sits = h;
    opened = omega arith;
    others = λ m known not. (refl, refl);
    own = λ m has. inl has;
  }

  -- a connection that isn't open
  pub closed : (number : ConnectionNumber) (s : Site H K S C) (o : Mail) → Sits ok up down s o
      → GoodMail ok up down o
      → Passes ok up down s o (with_channel number None s) o
  closed Zero s o h mail = record {
    rising = up;
    falling = down;
    mail = mail;
    sits = record { zero = tt; one = h.one; apart = λ m a b. a };
    opened = omega arith;
    others = λ m known not. (refl, refl);
    own = λ m has. either has (λ a. absurd a) (λ b. inl (inr b));
  }
  closed One s o h mail = record {
    rising = up;
    falling = down;
    mail = mail;
    sits = record { zero = h.zero; one = tt; apart = λ m a b. b };
    opened = omega arith;
    others = λ m known not. (refl, refl);
    own = λ m has. either has (λ a. inl (inl a)) (λ b. absurd b);
  }

  -- of the store nothing is said
  pub sits_any_store : (e : Failing K) (s : Site H K S C) (o : Mail) → Sits ok up down s o
      → Sits ok up down (with_store e s) o
  sits_any_store e s o h = record { zero = h.zero; one = h.one; apart = h.apart }

  pub passes_any_store : (e : Failing K) (s t : Site H K S C) (from to : Mail)
      → Passes ok up down (with_store e s) from t to
      → Passes ok up down s from t to
  passes_any_store e s t from to p = record {
    rising = p.rising;
    falling = p.falling;
    mail = p.mail;
    sits = p.sits;
    opened = p.opened;
    others = p.others;
    own = p.own;
  }

  -- one behind the other
  pub again : (s m t : Site H K S C) (from between to : Mail) → (p : Passes ok up down s from m between)
      → Passes ok p.rising p.falling m between t to → Passes ok up down s from t to
  again s m t from between to p q =
      let first = p.opened in
      let second = q.opened in
      record {
        rising = q.rising;
        falling = q.falling;
        mail = q.mail;
        sits = q.sits;
        opened = omega (arith, first, second);
        others = λ n known not.
            let old = p.others n known not in
            let new = q.others n (omega (arith, first, known))
            (λ has. either (p.own n has) not (λ more. omega (arith, more, known))) in
            (new.0 ∙ old.0, new.1 ∙ old.1);
        own = λ n has. either (q.own n has) (p.own n) (λ more. inr (omega (arith, first, more)));
      }
