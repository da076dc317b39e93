-- Texts on their way, one with an envelope and one without.
use Rattle.std.proofs.Common.{◌≡◌, [], codes, decimal, refl, sym, arith, append-nil}
use Rattle.base.specs.Entity.{account_of, order_of}
use Rattle.base.specs.declared.limits.TheConstants.{MAX_BODY}
use Rattle.stomp_frame.specs.Frames.{IsFrame, canonical}
use Rattle.stomp_frame.specs.declared.command.Command.TheVariants.{Send}
use Rattle.stomp_frame.proofs.Canonical.{canon_spells}
use Rattle.stomp_session.proofs.Owning.{echo_owned, owned, told_number, utf8}
use Rattle.stomp_client.specs.Frames.{connect_frame}
use Rattle.envelope.specs.Written.{IsEnvelope, send_of}
use Rattle.envelope.specs.declared.message.Envelope.{Envelope}
use Rattle.envelope.specs.declared.message.Envelope.TheVariants.{Settle}
use Rattle.envelope.proofs.Envelopes.{read_envelope-written}
use Rattle.laws_mail.specs.Passing.{Spelled}
use Rattle.laws_mail.proofs.Frames.{connect_good, send_good}
use Rattle.laws_mail.proofs.Spelling.{first_good, nothing_spelled, spelled_more}

-- no envelope passes
abbrev none : Envelope → Type 0
none e = ⊥

-- CONNECT is on its way, and no envelope
connect_carries_nothing : Spelled none (canonical connect_frame)
connect_carries_nothing = spelled_more none [] connect_frame (nothing_spelled none) (connect_good none)

-- order/1 has handled what account/1 sent up to number 7
abbrev settled : Envelope
settled = Settle (record { from = account_of (codes "1"); to = order_of (codes "1") }) 7

settled_is_an_envelope : IsEnvelope settled
settled_is_an_envelope = record {
  numbered = record {
    from = rw (utf8 (codes "1") refl) refl;
    to = rw (utf8 (codes "1") refl) refl;
    number = record { positive = omega arith; small = omega arith };
  };
  message = tt;
}

settled_is_a_frame : IsFrame MAX_BODY (send_of settled)
settled_is_a_frame = record {
  headers = (
    owned Send (codes "destination") (codes "/queue/billing")
        (record {
          good = refl;
          ascii = refl;
          own = refl;
          utf8 = utf8 (codes "/queue/billing") refl;
          short = omega arith;
        }),
    (
      owned Send (codes "kind") (codes "settle")
          (record { good = refl; ascii = refl; own = refl; utf8 = utf8 (codes "settle") refl; short = omega arith }),
      (
        owned Send (codes "from") (codes "account/1")
            (record {
              good = refl;
              ascii = refl;
              own = refl;
              utf8 = utf8 (codes "account/1") refl;
              short = omega arith;
            }),
        (
          owned Send (codes "to") (codes "order/1")
              (record {
                good = refl;
                ascii = refl;
                own = refl;
                utf8 = utf8 (codes "order/1") refl;
                short = omega arith;
              }),
          (
            echo_owned Send (codes "number") (decimal 7) refl refl refl refl (omega arith)
                (told_number 7 (omega arith)),
            tt,
          ),
        ),
      ),
    ),
  );
  count = omega arith;
  body = omega arith;
}

-- its SEND is on its way where it passes
settle_passes : Spelled (λ e. e ≡ settled) (canonical (send_of settled))
settle_passes = spelled_more (λ e. e ≡ settled) [] (send_of settled) (nothing_spelled (λ e. e ≡ settled))
    (send_good (λ e. e ≡ settled) settled settled_is_an_envelope refl settled_is_a_frame)

-- and never where none passes
settle_is_seen : Spelled none (canonical (send_of settled)) → ⊥
settle_is_seen h =
    (first_good none (send_of settled) (canonical (send_of settled)) [] (canonical (send_of settled)) h
    (0, canon_spells MAX_BODY (omega arith) (send_of settled) settled_is_a_frame)
    (sym (append-nil (canonical (send_of settled))))).0.means
    refl settled (read_envelope-written settled settled_is_an_envelope)
