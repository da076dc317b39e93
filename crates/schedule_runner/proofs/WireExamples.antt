-- Examples: a world with a letter on the wire that is good, and the same where nobody sent that letter.
use Rattle.std.proofs.Common.{◌≡◌, ◌∙◌, ℕ, ◌+◌, ◌≤◌, ◌<◌, [], ◌∷◌, ◌++◌, length, Some, None, Bool, true, false}
use Rattle.std.proofs.Common.{refl, sym, subst, append-nil, decimal, arith}
use Rattle.std.proofs.lemmas.Bool.{ltb-true}
use Rattle.std.specs.Fmt.{digits}
use Rattle.std.specs.List.{find}
use Rattle.std.specs.Prelude.{codes, nat_lt}
use Rattle.std.specs.Str.{is_utf8, chars}
use Rattle.base.specs.Order.{same_entity}
use Rattle.base.specs.declared.limits.TheConstants.{MAX_BODY}
use Rattle.stomp_frame.specs.Calls.{nothing_held}
use Rattle.stomp_frame.specs.Commands.{body_limit}
use Rattle.stomp_frame.specs.Frames.{Content, IsFrame, canonical, escape, header, line_of}
use Rattle.stomp_frame.specs.Streams.{canonical_texts}
use Rattle.stomp_frame.specs.declared.command.Command.TheVariants.{Send}
use Rattle.stomp_frame.proofs.Canonical.{canon_spells}
use Rattle.stomp_session.proofs.Owning.{echo_owned, owned, told_number, utf8}
use Rattle.stomp_client.specs.Clients.{new_client, receipted}
use Rattle.stomp_client.specs.Frames.{with_receipt}
use Rattle.stomp_client.specs.declared.session.Stage.TheVariants as stage
use Rattle.envelope.specs.Written.{IsEnvelope, content_of, headers_of, send_of}
use Rattle.envelope.specs.declared.message.Envelope.{Envelope}
use Rattle.envelope.specs.declared.message.Envelope.TheVariants.{Letter as OfLetter}
use Rattle.envelope.specs.declared.message.Letter.{Letter}
use Rattle.envelope.specs.declared.message.Message.TheVariants.{Request}
use Rattle.envelope.proofs.Envelopes.{read_envelope-written}
use Rattle.activities.proofs.Sameness.{either}
use Rattle.keep.specs.Tables.{empty}
use Rattle.endpoint.proofs.Examples.{acme, from_order}
use Rattle.laws_journals.specs.Envelopes.{IsAuthentic}
use Rattle.laws_stores.specs.Good.{IsGenuine, journals_of}
use Rattle.laws_stores.specs.Sight.{OrderTables}
use Rattle.laws_stores.proofs.Placed.{before, after}
use Rattle.broker_core.specs.Calls.{empty as no_session, new_session}
use Rattle.broker_core.specs.Serving.{is_session}
use Rattle.broker_core.specs.declared.session.Session.{Session}
use Rattle.relay.specs.declared.relay.Relay.{Relay}
use Rattle.schedule_mail.specs.Mails.{Mail}
use Rattle.laws_mail.specs.Passing.{GoodFrame, GoodMail, GoodSession, Spelled, at}
use Rattle.laws_mail.proofs.Frames.{read_envelope-behind, send_receipted_good}
use Rattle.laws_mail.proofs.Spelling.{first_good, nothing_spelled}
use Rattle.laws_mail.proofs.Writing.{written_good}
use Rattle.laws_events.specs.Three.{Genuine}
use Rattle.schedule_service.specs.declared.site_channel.SiteChannel.{SiteChannel}
use Rattle.schedule_runner.specs.Good.{IsGoodWorld}
use Rattle.schedule_runner.specs.Sight.{sight}
use Rattle.schedule_runner.proofs.GoodExamples.{worlds_are_good}
use Rattle.schedule_runner.proofs.PathExamples.{seen, TheWorld, world, tables}

-- ---- the letter

-- what the order asks the account, under this number; 1 is the number under which it was sent
abbrev request : ℕ → Letter
request number = record { pair = from_order acme; number = number; message = Request 500 }

-- the SEND of it with its receipt
abbrev written : ℕ → Content
written number = with_receipt 1 (send_of (OfLetter (request number)))

it_is_an_envelope : (number : ℕ) → 1 ≤ number → number ≤ 2 → IsEnvelope (OfLetter (request number))
unfolding is_utf8 chars lib.Utf8.encode
it_is_an_envelope number low high = record {
  numbered = record {
    from = refl;
    to = refl;
    number = record { positive = omega (arith, low); small = omega (arith, high) };
  };
  message = record { positive = omega arith; small = omega arith };
}

most : (m n : ℕ) → nat_lt m (n + 1) ≡ true → m ≤ n
most m n h = let less : m < n + 1 = ltb-true m (n + 1) h in omega (arith, less)

it_is_a_frame : (number : ℕ) → number ≤ 2 → IsFrame MAX_BODY (written number)
unfolding digits
it_is_a_frame number high = record {
  headers = (
    owned Send (codes "destination") (codes "/queue/billing")
        (record { good = refl; ascii = refl; own = refl; utf8 = utf8 (codes "/queue/billing") refl; short = omega arith }),
    (
      owned Send (codes "kind") (codes "message")
          (record { good = refl; ascii = refl; own = refl; utf8 = utf8 (codes "message") refl; short = omega arith }),
      (
        owned Send (codes "from") (codes "order/o1")
            (record { good = refl; ascii = refl; own = refl; utf8 = utf8 (codes "order/o1") refl; short = omega arith }),
        (
          owned Send (codes "to") (codes "account/acme")
              (record { good = refl; ascii = refl; own = refl; utf8 = utf8 (codes "account/acme") refl; short = omega arith }),
          (
            echo_owned Send (codes "number") (decimal number) refl refl refl refl (omega arith)
                (told_number number (omega (arith, high))),
            (
              echo_owned Send (codes "receipt") (decimal 1) refl refl refl refl (omega arith)
                  (told_number 1 (omega arith)),
              tt,
            ),
          ),
        ),
      ),
    ),
  );
  count = omega arith;
  body = most (length (written number).body) (body_limit MAX_BODY Send) refl;
}

-- ---- a broker with one session

-- it is connected, and all that was written on it was taken
abbrev session : ℕ → Session
session n = record (new_session n) { server = true }

abbrev served : Mail
served = record { broker = record no_session { sessions = session 1 ∷ []; opened = 1 }; earlier = [] }

its_own : (m n : ℕ) (s : Session) (b : Bool) → is_session m (session n) ≡ b → find (is_session m) (session n ∷ []) ≡ Some s
    → session n ≡ s
its_own m n s true is found = let z : Some (session n) ≡ Some s = rw is at found in cc
its_own m n s false is found = let z : None ≡ Some s = rw is at found in absurd (cc)

it_is_open : 1 ≤ served.broker.opened
it_is_open = let one : 1 ≤ 1 = omega arith in one

module _ (any : TheWorld) (relay : Relay) where
  -- ---- worlds with that letter on the wire

  -- connection 0 of purchasing, whose session began: its client wrote the letter, and no octet of that was carried
  abbrev channel : ℕ → SiteChannel
  channel number = record {
    connection = record {
      session = 1;
      channel = record {
        client = record {
          client = receipted (send_of (OfLetter (request number))) number (record new_client { stage = stage.Connected });
          room = 0;
        };
        decoder = nothing_held;
        waiting = None;
      };
    };
    relay = record relay { behind = None; rows = 0 };
  }

  -- the broker has accepted nothing yet
  abbrev wired : OrderTables → ℕ → TheWorld
  wired purchasing number = record (world any purchasing empty) {
    purchasing = record (world any purchasing empty).purchasing { zero = Some (channel number) };
    mail = served;
  }

  -- what may be on its way, by the tables of purchasing
  abbrev Sent : OrderTables → Envelope → Type 0
  Sent purchasing = IsGenuine (sight seen seen seen (world any purchasing empty))

  -- ---- the letter was sent

  it_was_sent : Sent after (OfLetter (request 1))
  unfolding same_entity
  it_was_sent t may = subst (λ (x : OrderTables). IsAuthentic (journals_of (record t { purchasing = x })) (OfLetter (request 1)))
      (sym may.purchasing) refl

  served_good : (ok : Envelope → Type 0) → GoodMail ok (λ _. []) (λ _. []) served
  served_good ok = record {
    server = record {
      book = record { living = tt; subscriptions = tt; accepted = tt };
      sessions = λ m s found. subst (GoodSession ok [] []) (its_own m 1 s (is_session m (session 1)) refl found) quiet;
      gone = λ m none. nothing_spelled ok;
    };
    earlier = tt;
    above = λ m more. (refl, refl);
  }
    where
      quiet : GoodSession ok [] [] (session 1)
      quiet = record {
        waits = tt;
        comes = λ _ _. nothing_spelled ok;
        transactions = tt;
        goes = nothing_spelled ok;
      }

  it_is_good : GoodFrame (Sent after) (written 1)
  it_is_good = send_receipted_good (Sent after) (OfLetter (request 1)) 1 (it_is_an_envelope 1 (omega arith) (omega arith))
      it_was_sent
      (it_is_a_frame 1 (omega arith))

  on_its_way : Genuine (Sent after) (wired after 1).purchasing (wired after 1).warehouse (wired after 1).billing served
  on_its_way = record {
    up = at 1 (canonical_texts (written 1 ∷ [])) (λ _. []);
    down = at 1 [] (λ _. []);
    mail = written_good (Sent after) (λ _. []) (λ _. []) 1 (written 1 ∷ []) served it_is_open (it_is_good, tt)
        (served_good (Sent after));
    first = record {
      zero = record {
        texts = (append-nil (canonical (written 1)), refl);
        good = record {
          waits = tt;
          wrote = record {
            frames = written 1 ∷ [];
            each = (it_is_good, tt);
            gone = [];
            wrote = record { each = (it_is_a_frame 1 (omega arith), tt); whole = sym (append-nil (canonical (written 1))) };
          };
        };
        opened = it_is_open;
      };
      one = tt;
      apart = λ n mine other. other;
    };
    second = record { zero = tt; one = tt; apart = λ n mine other. other };
    third = record { zero = tt; one = tt; apart = λ n mine other. other };
    first_second = λ n mine has. either has (λ x. x) (λ x. x);
    second_third = λ n mine has. either has (λ x. x) (λ x. x);
    third_first = λ n mine has. either mine (λ x. x) (λ x. x);
  }

  -- purchasing placed the order, and its client has written the request to the account, which the broker hasn't yet
  a_letter_on_the_wire_is_good : IsGoodWorld seen seen seen (wired after 1)
      × ((channel 1).connection.channel.client.client.out ≡ codes
      "SEND\ncontent-length:24\ndestination:/queue/billing\nkind:message\nfrom:order/o1\nto:account/acme\n"
      ++ codes "number:1\nreceipt:1\n\n{\"n\":500,\"op\":\"request\"}\0")
  unfolding canonical line_of escape digits
  a_letter_on_the_wire_is_good = (
    record {
      services = (worlds_are_good any).1.services;
      mail = on_its_way;
      right = (((λ t left. (omega arith, λ x upto some. absurd upto)), tt), (tt, tt), (tt, tt));
    },
    refl,
  )

  -- ---- it wasn't

  module _ (purchasing : OrderTables) (number : ℕ) (low : 1 ≤ number) (high : number ≤ 2) where
    carried : IsGoodWorld seen seen seen (wired purchasing number) → Sent purchasing (OfLetter (request number))
    carried h =
        let fits = it_is_a_frame number high in
        let text = canonical (written number) in
        let comes = (h.mail.mail.server.sessions 1 (session 1) refl).comes refl refl in
        let first = first_good (Sent purchasing) (written number) text [] text
        (subst (Spelled (Sent purchasing)) h.mail.first.zero.texts.0 comes)
        (0, canon_spells MAX_BODY (omega arith) (written number) fits) (sym (append-nil text)) in
        let is = it_is_an_envelope number low high in
        first.0.means refl (OfLetter (request number))
        (read_envelope-behind (headers_of (OfLetter (request number))) (header (codes "receipt") (decimal 1) ∷ [])
        (content_of (OfLetter (request number))) (refl, tt)
        ∙ read_envelope-written (OfLetter (request number)) is)

  -- the same letter under a number that purchasing never used; and the same one where the order was never placed
  letters_that_nobody_sent_are_not_good : (IsGoodWorld seen seen seen (wired after 2) → ⊥)
      × (IsGoodWorld seen seen seen (wired before 1) → ⊥)
  unfolding same_entity
  letters_that_nobody_sent_are_not_good = (
    λ h. unsent (carried after 2 (omega arith) (omega arith) h),
    λ h. unplaced (carried before 1 (omega arith) (omega arith) h),
  )
    where
      unsent : Sent after (OfLetter (request 2)) → ⊥
      unsent h = let sent =
          h (tables any after) (record { purchasing = refl; warehouse = refl; billing = refl }) in absurd (cc)

      unplaced : Sent before (OfLetter (request 1)) → ⊥
      unplaced h = let sent =
          h (tables any before) (record { purchasing = refl; warehouse = refl; billing = refl }) in absurd (cc)
