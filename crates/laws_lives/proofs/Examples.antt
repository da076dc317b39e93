-- Examples: which frames write an envelope, and that there is a life.
use Rattle.std.proofs.Common.{◌≡◌, ℕ, List, [], ◌∷◌, ◌++◌, Some, None, true, inl, inr, refl, sym, ap, ◌∙◌, append-nil, arith}
use Rattle.std.specs.Prelude.{Result, option_to_list}
use Rattle.base.specs.declared.pair.Pair.{Pair}
use Rattle.stomp_wire.specs.declared.fault.LinkFault.{LinkFault}
use Rattle.stomp_frame.specs.Frames.{Content}
use Rattle.stomp_frame.specs.declared.command.Command.TheVariants.{Ack, Message}
use Rattle.stomp_client.specs.Frames.{connect_frame, with_receipt}
use Rattle.envelope.specs.Written.{IsEnvelope, send_of, headers_of, content_of}
use Rattle.envelope.specs.declared.message.Envelope.{Envelope}
use Rattle.envelope.specs.declared.message.Envelope.TheVariants.{Settle}
use Rattle.activities.specs.Service.{Service}
use Rattle.keep.specs.Seen.{Seen}
use Rattle.keep.specs.Tables.{Tables}
use Rattle.endpoint.specs.Matches.{AllMatch}
use Rattle.reception.specs.Replies.{answer, settling}
use Rattle.service_workers.specs.Lives.{LifeStands}
use Rattle.laws_lives.specs.Posts.{sent_in, envelopes_sent, post_of}
use Rattle.laws_lives.proofs.Sending.{read_again}

-- A connection asks for a session, sends a letter, and settles another in the transaction of its ACK: two envelopes.
two_are_sent : (e : Envelope) (p : Pair) (n receipt transaction : ℕ) (message : Content) → IsEnvelope e
    → IsEnvelope (Settle p n)
    → envelopes_sent (connect_frame ∷ with_receipt receipt (send_of e) ∷ settling message transaction p n)
    ≡ e ∷ Settle p n ∷ []
two_are_sent e p n receipt transaction message one two =
    ap (λ found. option_to_list found ++ envelopes_sent (settling message transaction p n)) (read_again e _ one)
    ∙ ap (λ found. e ∷ (option_to_list found ++ [])) (read_again (Settle p n) _ two)

-- an ACK sends none, nor does a MESSAGE, whatever it carries
none_is_sent : (message : Content) (e : Envelope)
    → (envelopes_sent (answer Ack message) ≡ [])
    × (sent_in (record { command = Message; headers = headers_of e; body = content_of e }) ≡ None)
none_is_sent message e = (refl, refl)

module _ {L : Type 0} (put_gives : L → List ℕ → Result ℕ LinkFault → L → Type 0)
    (take_gives : L → ℕ → Result (List ℕ) LinkFault → L → Type 0) {E S C : Type 0} (seen : E → Seen (Tables S C))
    (service : Service S C) (given : L → Type 0) (e : E) (is : (seen e).usable ≡ true) (z : (seen e).doubt ≡ 0)
    (matches : AllMatch service (seen e).may_leave) where
  -- a life with no connections that did nothing
  abbrev idle : LifeStands put_gives take_gives seen service given (Some e) e []
  idle = record {
    first = e;
    is_found = refl;
    usable = is;
    good = e;
    ends = inl refl;
    clean = z;
    since = record {
      usable = λ u. u;
      doubt = omega arith;
      clean = λ zero all. (all, (([], append-nil (seen e).tables.journal), λ p. omega arith));
    };
    matches = matches;
    stand = tt;
    messages = [];
    came = tt;
    took = record {
      rows = [];
      goes_on = sym (append-nil (seen e).tables.journal);
      took = tt;
      holds = λ e held. inr held;
      marks = λ p. inl refl;
    };
  }

  -- it read and wrote nothing
  nothing_was_read : post_of idle ≡ record { read = []; written = [] }
  nothing_was_read = refl
