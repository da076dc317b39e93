-- Three services over one broker, of which one acts.
use Rattle.std.proofs.Common.{◌≡◌, ℕ, ◌≤◌, List, [], Option, Some, None, Result, Ok, refl, sym, ap, subst, arith}
use Rattle.stomp_frame.specs.Frames.{Content}
use Rattle.envelope.specs.Reading.{read_frame}
use Rattle.envelope.specs.declared.message.Envelope.{Envelope}
use Rattle.activities.specs.Service.{Service}
use Rattle.activities.proofs.Sameness.{either}
use Rattle.keep.specs.Failing.{Failing}
use Rattle.keep.specs.Seen.{Seen, IsSound}
use Rattle.keep.specs.Tables.{Tables}
use Rattle.endpoint.specs.Matches.{AllMatch}
use Rattle.endpoint.specs.declared.fault.EndFault.{EndFault}
use Rattle.schedule_mail.specs.Mails.{Mail, new_mail, restarted}
use Rattle.schedule_mail.specs.Repeating.{Repeats}
use Rattle.schedule_mail.specs.declared.repeat_fault.RepeatFault.{RepeatFault}
use Rattle.laws_mail.specs.Passing.{GoodFrame, GoodMail}
use Rattle.schedule_text.specs.declared.event.ConnectionNumber.{ConnectionNumber}
use Rattle.schedule_text.specs.declared.outcome.Outcome.{Outcome}
use Rattle.laws_events.specs.Sitting.{IsOf, HasSession, AreApart, ChannelSits, Sits, Passes}
use Rattle.laws_events.specs.Three.{Genuine}
use Rattle.laws_events.specs.Writing.{IsTrue}
use Rattle.laws_events.proofs.Cutting.{after_passes, cuts_pass}
use Rattle.laws_events.proofs.Events.{event_passes}
use Rattle.laws_mail.proofs.Frames.{message_ok}
use Rattle.laws_mail.proofs.More.{mail_more, connection_more}
use Rattle.laws_mail.proofs.Mails.{new_mail_good, next_good, restarted_good}
use Rattle.laws_mail.proofs.Repeating.{repeated_good}
use Rattle.laws_mail.proofs.Rising.{repeated_opened}
use Rattle.laws_events.proofs.Sitting.{linked, passes_any_store, sits_any_store, sits_stay}
use Rattle.schedule_service.specs.Cursors.{AreRight}
use Rattle.schedule_service.specs.Deeds.{CameOn, channels_of}
use Rattle.schedule_service.specs.SiteSteps.{SiteStep, with_store}
use Rattle.schedule_service.specs.Channels.{After, CutsBoth, channel_of}
use Rattle.schedule_service.specs.SiteEvents.{SiteEvent}
use Rattle.schedule_service.specs.declared.site_channel.SiteChannel.{SiteChannel}
use Rattle.schedule_service.specs.declared.site.Site.{Site}

-- ---- one service beside others

module _ {H K S C H' K' S' C' : Type 0} (ok : Envelope → Type 0) (up down : ℕ → List ℕ) (s t : Site H K S C)
    (x : Site H' K' S' C')
    (from to : Mail) (p : Passes ok up down s from t to) (sits : Sits ok up down x from) where
  channel_known : (l : Option SiteChannel) (n : ℕ) → ChannelSits ok up down l from → IsOf n l → n ≤ from.broker.opened
  channel_known None n h is = absurd is
  channel_known (Some l) n h is = let known = h.opened in omega (arith, known, is)

  known : (n : ℕ) → HasSession x n → n ≤ from.broker.opened
  known n has = either has (channel_known x.zero n sits.zero) (channel_known x.one n sits.one)

  -- one that acts leaves another as it is
  other_sits : AreApart s x → Sits ok p.rising p.falling x to
  other_sits apart = sits_stay ok up down p.rising p.falling from to p.opened x
      (λ n has. p.others n (known n has) (λ mine. apart n mine has)) sits

  -- and takes none of its sessions
  other_apart : AreApart s x → AreApart t x
  other_apart apart n mine has = either (p.own n mine)
      (λ old. apart n old has)
      (λ more. let low = known n has in omega (arith, low, more))

apart_turned : {H K S C H' K' S' C' : Type 0} (s : Site H K S C) (x : Site H' K' S' C') → AreApart s x → AreApart x s
apart_turned s x apart n a b = apart n b a

-- a service of which both connections are closed
closed_channel : (l : Option SiteChannel) (n : ℕ) → l ≡ None → IsOf n l → ⊥
closed_channel l n none is = subst (IsOf n) none is

module _ {H K S C : Type 0} (s : Site H K S C) (zero : s.zero ≡ None) (one : s.one ≡ None) where
  closed_session : (n : ℕ) → HasSession s n → ⊥
  closed_session n has = either has (closed_channel s.zero n zero) (closed_channel s.one n one)

  closed_sits : (ok : Envelope → Type 0) (up down : ℕ → List ℕ) (o : Mail) → Sits ok up down s o
  closed_sits ok up down o = record {
    zero = subst (λ l. ChannelSits ok up down l o) (sym zero) tt;
    one = subst (λ l. ChannelSits ok up down l o) (sym one) tt;
    apart = λ n a b. closed_channel s.zero n zero a;
  }

module _ (ok more : Envelope → Type 0) (grows : (e : Envelope) → ok e → more e) where
  channel_more : (up down : ℕ → List ℕ) (l : Option SiteChannel) (o : Mail) → ChannelSits ok up down l o
      → ChannelSits more up down l o
  channel_more up down None o h = tt
  channel_more up down (Some l) o h = record {
    texts = h.texts;
    good = connection_more ok more grows l.connection h.good;
    opened =
        h.opened;
  }

  sits_more : {H K S C : Type 0} (up down : ℕ → List ℕ) (s : Site H K S C) (o : Mail) → Sits ok up down s o
      → Sits more up down s o
  sits_more up down s o h = record {
    zero = channel_more up down s.zero o h.zero;
    one = channel_more up down s.one o h.one;
    apart =
        h.apart;
  }

-- what comes on a connection of a service is good
came_good : {H K S C : Type 0} (ok : Envelope → Type 0) (up down : ℕ → List ℕ) (a : Site H K S C) (o : Mail)
    → Sits ok up down a o
    → GoodMail ok up down o → (number : ConnectionNumber) (f : Content) (l : Option SiteChannel)
    → channel_of number a ≡ l → CameOn l f
    → GoodFrame ok f
came_good ok up down a o h mail number f None is came = absurd came
came_good ok up down a o h mail number f (Some l) is came =
    let here = linked ok up down number a l is o h in
    (next_good ok up down l.connection came.0 o (Ok (Some f)) came.1 here.texts here.good mail).0

module _ {H K S C H' K' S' C' H'' K'' S'' C'' : Type 0} where
  pub rotated : (ok : Envelope → Type 0) (a : Site H K S C) (b : Site H' K' S' C') (c : Site H'' K'' S'' C'')
      (o : Mail)
      → Genuine ok a b c o → Genuine ok b c a o
  rotated ok a b c o h = record {
    up = h.up;
    down = h.down;
    mail = h.mail;
    first = h.second;
    second = h.third;
    third = h.first;
    first_second = h.second_third;
    second_third = h.third_first;
    third_first = h.first_second;
  }

  -- where no connection is open
  all_closed : (ok : Envelope → Type 0) (a : Site H K S C) (b : Site H' K' S' C') (c : Site H'' K'' S'' C'')
      → a.zero ≡ None → a.one ≡ None
      → b.zero ≡ None → b.one ≡ None → c.zero ≡ None → c.one ≡ None → (o : Mail) → GoodMail ok (λ _. []) (λ _. []) o
      → Genuine ok a b c o
  all_closed ok a b c az ao bz bo cz co o mail = record {
    up = λ _. [];
    down = λ _. [];
    mail = mail;
    first = closed_sits a az ao ok (λ _. []) (λ _. []) o;
    second = closed_sits b bz bo ok (λ _. []) (λ _. []) o;
    third = closed_sits c cz co ok (λ _. []) (λ _. []) o;
    first_second = λ n x y. closed_session a az ao n x;
    second_third = λ n x y. closed_session b bz bo n x;
    third_first = λ n x y. closed_session c cz co n x;
  }

  -- in the beginning
  pub start_genuine : (ok : Envelope → Type 0) (a : Site H K S C) (b : Site H' K' S' C') (c : Site H'' K'' S'' C'')
      → a.zero ≡ None
      → a.one ≡ None → b.zero ≡ None → b.one ≡ None → c.zero ≡ None → c.one ≡ None → Genuine ok a b c new_mail
  start_genuine ok a b c az ao bz bo cz co = all_closed ok a b c az ao bz bo cz co new_mail (new_mail_good ok)

  -- what is genuine among some envelopes is among more
  pub genuine_more : (ok more : Envelope → Type 0) → ((e : Envelope) → ok e → more e)
      → (a : Site H K S C) (b : Site H' K' S' C')
      (c : Site H'' K'' S'' C'') (o : Mail) → Genuine ok a b c o → Genuine more a b c o
  genuine_more ok more grows a b c o h = record {
    up = h.up;
    down = h.down;
    mail = mail_more ok more grows h.up h.down o h.mail;
    first = sits_more ok more grows h.up h.down a o h.first;
    second = sits_more ok more grows h.up h.down b o h.second;
    third = sits_more ok more grows h.up h.down c o h.third;
    first_second = h.first_second;
    second_third = h.second_third;
    third_first = h.third_first;
  }

  -- the first of three acts
  pub first_passes : (ok : Envelope → Type 0) (a t : Site H K S C) (b : Site H' K' S' C') (c : Site H'' K'' S'' C'')
      (from to : Mail)
      → (h : Genuine ok a b c from) → Passes ok h.up h.down a from t to → Genuine ok t b c to
  first_passes ok a t b c from to h p = record {
    up = p.rising;
    down = p.falling;
    mail = p.mail;
    first = p.sits;
    second = other_sits ok h.up h.down a t b from to p h.second h.first_second;
    third = other_sits ok h.up h.down a t c from to p h.third (apart_turned c a h.third_first);
    first_second = other_apart ok h.up h.down a t b from to p h.second h.first_second;
    second_third = h.second_third;
    third_first =
        apart_turned t c (other_apart ok h.up h.down a t c from to p h.third (apart_turned c a h.third_first));
  }

  pub first_keeps : (ok : Envelope → Type 0) (a t : Site H K S C) (b : Site H' K' S' C') (c : Site H'' K'' S'' C'')
      (from to : Mail)
      (seen : K → Seen (Tables S C)) → ((k : K) → IsSound (seen k))
      → (service : Service S C) (what : SiteEvent C) (outcome : Outcome)
      → (seen t.endpoint.keep).doubt ≡ 0 → AllMatch service (seen a.endpoint.keep).may_leave → AreRight seen service a
      → ((e : Envelope) → IsTrue service (seen t.endpoint.keep).may_leave e → ok e)
      → SiteStep seen service what outcome a from t to
      → Genuine ok a b c from → Genuine ok t b c to
  first_keeps ok a t b c from to seen sound service what outcome clean match right true_ok step h =
      first_passes ok a t b c from to h
      (event_passes ok seen sound service outcome a from t to clean match right true_ok h.up h.down h.first h.mail
      what step)

  -- a read of a store, which may have failed
  pub first_after : {R : Type 0} (ok : Envelope → Type 0) (a t : Site H K S C) (b : Site H' K' S' C')
      (c : Site H'' K'' S'' C'')
      (from to : Mail) (e : Failing K) (r : Result R EndFault) → After r (record a { endpoint = e }) from t to
      → Genuine ok a b c from
      → Genuine ok t b c to
  first_after ok a t b c from to e r after h = first_passes ok a t b c from to h
      (passes_any_store ok h.up h.down e a t from to
      (after_passes ok h.up h.down r (with_store e a) from t to after (sits_any_store ok h.up h.down e a from h.first)
      h.mail))

  pub first_cut : (ok : Envelope → Type 0) (a t : Site H K S C) (b : Site H' K' S' C') (c : Site H'' K'' S'' C'')
      (from to : Mail)
      → CutsBoth a from t to → Genuine ok a b c from → Genuine ok t b c to
  first_cut ok a t b c from to cuts h =
      first_passes ok a t b c from to h (cuts_pass ok h.up h.down a from t to cuts h.first h.mail)

  -- an accepted SEND is sent again
  pub repeated_keeps : (ok : Envelope → Type 0) (a : Site H K S C) (b : Site H' K' S' C') (c : Site H'' K'' S'' C'')
      (place : ℕ)
      (from to : Mail) (r : Result (Option ℕ) RepeatFault) → Repeats place from to r → Genuine ok a b c from
      → Genuine ok a b c to
  repeated_keeps ok a b c place from to r repeats h =
      let rise = repeated_opened place from to r repeats in
      record {
        up = h.up;
        down = h.down;
        mail = repeated_good ok h.up h.down place from to r repeats h.mail;
        first = sits_stay ok h.up h.down h.up h.down from to rise a (λ n has. (refl, refl)) h.first;
        second = sits_stay ok h.up h.down h.up h.down from to rise b (λ n has. (refl, refl)) h.second;
        third = sits_stay ok h.up h.down h.up h.down from to rise c (λ n has. (refl, refl)) h.third;
        first_second = h.first_second;
        second_third = h.second_third;
        third_first = h.third_first;
      }

  -- ---- what is taken

  pub first_came : (ok : Envelope → Type 0) (a : Site H K S C) (b : Site H' K' S' C') (c : Site H'' K'' S'' C'')
      (o : Mail)
      → Genuine ok a b c o → (number : ConnectionNumber) (f : Content) → CameOn (channels_of a number) f
      → (e : Envelope)
      → read_frame f ≡ Some e → ok e
  first_came ok a b c o h number f came e read =
      message_ok ok f e (came_good ok h.up h.down a o h.first h.mail number f (channel_of number a) refl came) read

-- ---- the second and the third of three

module _ {H K S C H' K' S' C' H'' K'' S'' C'' : Type 0} (ok : Envelope → Type 0) (a : Site H K S C)
    (b : Site H' K' S' C')
    (c : Site H'' K'' S'' C'') where
  pub second_keeps : (t : Site H' K' S' C') (from to : Mail) (seen : K' → Seen (Tables S' C'))
      → ((k : K') → IsSound (seen k))
      → (service : Service S' C') (what : SiteEvent C') (outcome : Outcome) → (seen t.endpoint.keep).doubt ≡ 0
      → AllMatch service (seen b.endpoint.keep).may_leave → AreRight seen service b
      → ((e : Envelope) → IsTrue service (seen t.endpoint.keep).may_leave e → ok e)
      → SiteStep seen service what outcome b from t to → Genuine ok a b c from → Genuine ok a t c to
  second_keeps t from to seen sound service what outcome clean match right true_ok step h =
      rotated ok c a t to (rotated ok t c a to
      (first_keeps ok b t c a from to seen sound service what outcome clean match right true_ok step
      (rotated ok a b c from h)))

  pub third_keeps : (t : Site H'' K'' S'' C'') (from to : Mail) (seen : K'' → Seen (Tables S'' C''))
      → ((k : K'') → IsSound (seen k))
      → (service : Service S'' C'') (what : SiteEvent C'') (outcome : Outcome) → (seen t.endpoint.keep).doubt ≡ 0
      → AllMatch service (seen c.endpoint.keep).may_leave → AreRight seen service c
      → ((e : Envelope) → IsTrue service (seen t.endpoint.keep).may_leave e → ok e)
      → SiteStep seen service what outcome c from t to → Genuine ok a b c from → Genuine ok a b t to
  third_keeps t from to seen sound service what outcome clean match right true_ok step h =
      rotated ok t a b to
      (first_keeps ok c t a b from to seen sound service what outcome clean match right true_ok step
      (rotated ok b c a from (rotated ok a b c from h)))

  pub second_after : {R : Type 0} (t : Site H' K' S' C') (from to : Mail) (e : Failing K') (r : Result R EndFault)
      → After r (record b { endpoint = e }) from t to → Genuine ok a b c from → Genuine ok a t c to
  second_after t from to e r after h =
      rotated ok c a t to (rotated ok t c a to (first_after ok b t c a from to e r after (rotated ok a b c from h)))

  pub third_after : {R : Type 0} (t : Site H'' K'' S'' C'') (from to : Mail) (e : Failing K'') (r : Result R EndFault)
      → After r (record c { endpoint = e }) from t to → Genuine ok a b c from → Genuine ok a b t to
  third_after t from to e r after h =
      rotated ok t a b to (first_after ok c t a b from to e r after (rotated ok b c a from (rotated ok a b c from h)))

  second_cut : (t : Site H' K' S' C') (from to : Mail) → CutsBoth b from t to → Genuine ok a b c from
      → Genuine ok a t c to
  second_cut t from to cuts h =
      rotated ok c a t to (rotated ok t c a to (first_cut ok b t c a from to cuts (rotated ok a b c from h)))

  third_cut : (t : Site H'' K'' S'' C'') (from to : Mail) → CutsBoth c from t to → Genuine ok a b c from
      → Genuine ok a b t to
  third_cut t from to cuts h =
      rotated ok t a b to (first_cut ok c t a b from to cuts (rotated ok b c a from (rotated ok a b c from h)))

  pub second_came : (o : Mail) → Genuine ok a b c o → (number : ConnectionNumber) (f : Content)
      → CameOn (channels_of b number) f
      → (e : Envelope) → read_frame f ≡ Some e → ok e
  second_came o h number f came e read = first_came ok b c a o (rotated ok a b c o h) number f came e read

  pub third_came : (o : Mail) → Genuine ok a b c o → (number : ConnectionNumber) (f : Content)
      → CameOn (channels_of c number) f
      → (e : Envelope) → read_frame f ≡ Some e → ok e
  third_came o h number f came e read =
      first_came ok c a b o (rotated ok b c a o (rotated ok a b c o h)) number f came e read

module _ {H K S C H' K' S' C' H'' K'' S'' C'' : Type 0} (ok : Envelope → Type 0) (a t : Site H K S C)
    (b u : Site H' K' S' C')
    (c v : Site H'' K'' S'' C'') (from one two to : Mail) (first : CutsBoth a from t one)
    (second : CutsBoth b one u two)
    (third : CutsBoth c two v to) (h : Genuine ok a b c from) where
  -- all connections are cut
  pub cut_all : Genuine ok t u v to
  cut_all =
      third_cut ok t u c v two to third (second_cut ok t b c u one two second (first_cut ok a t b c from one first h))

  -- and a new broker begins
  pub restarted_keeps : Genuine ok t u v (restarted to)
  restarted_keeps =
      let all = cut_all in
      all_closed ok t u v (ap (λ (s : Site H K S C). s.zero) first.site) (ap (λ (s : Site H K S C). s.one) first.site)
      (ap (λ (s : Site H' K' S' C'). s.zero) second.site) (ap (λ (s : Site H' K' S' C'). s.one) second.site)
      (ap (λ (s : Site H'' K'' S'' C''). s.zero) third.site) (ap (λ (s : Site H'' K'' S'' C''). s.one) third.site)
      (restarted to)
      (restarted_good ok all.up all.down to all.mail)
