-- What a server writes are frames.
use Rattle.std.proofs.Common.{◌≡◌, ℕ, ◌≤◌, Bool, true, false, cond, List, [], ◌∷◌, length, codes, decimal, Option, Some}
use Rattle.std.proofs.Common.{None, refl, arith}
use Rattle.std.specs.Prelude.{◌==◌}
use Rattle.std.specs.List.{AllByRecursion}
use Rattle.std.proofs.lemmas.List.{length-append}
use Rattle.base.specs.declared.limits.TheConstants.{MAX_BODY}
use Rattle.stomp_frame.specs.declared.command.Command.{Command}
use Rattle.stomp_frame.specs.declared.command.Command.TheVariants.{Connected, Message, Receipt, Error}
use Rattle.stomp_frame.specs.Frames.{header, is_bad, IsFrame, IsOwn}
use Rattle.stomp_session.specs.Replies.{IsEchoed, IsEchoedIfAny, IsGiven, IsGivenIfAny, IsTold, Delivered}
use Rattle.stomp_session.specs.Replies.{connected_frame, receipt_frame, receipt_headers, version_headers, error_message}
use Rattle.stomp_session.specs.Replies.{error_frame}
use Rattle.stomp_session.specs.Replies.{ack_headers, leading_headers, message_frame}
use Rattle.stomp_session.proofs.Owning.{owned, echo_owned, utf8, told_number, told_message, all_append}

-- ---- CONNECTED and RECEIPT

heart_beat_owned : IsOwn Connected (header (codes "heart-beat") (codes "0,0"))
heart_beat_owned = owned Connected (codes "heart-beat") (codes "0,0") (record {
  good = refl;
  ascii = refl;
  own = refl;
  utf8 = utf8 (codes "0,0") refl;
  short = omega arith;
})

version_owned : (c : Command) → is_bad c (header (codes "version") (codes "1.2")) ≡ false
    → IsOwn c (header (codes "version") (codes "1.2"))
version_owned c good = owned c (codes "version") (codes "1.2") (record {
  good = good;
  ascii = refl;
  own = refl;
  utf8 = utf8 (codes "1.2") refl;
  short = omega arith;
})

-- CONNECTED is a frame
pub connected_is_a_frame : IsFrame MAX_BODY connected_frame
connected_is_a_frame = record {
  headers = (version_owned Connected refl, (heart_beat_owned, tt));
  count = omega arith;
  body = omega arith;
}

-- a RECEIPT of what may be echoed is a frame
pub receipt_is_a_frame : (receipt : List ℕ) → IsEchoed receipt → IsFrame MAX_BODY (receipt_frame receipt)
receipt_is_a_frame receipt echoed = record {
  headers = (echo_owned Receipt (codes "receipt-id") receipt refl refl refl refl (omega arith) echoed, tt);
  count = omega arith;
  body = omega arith;
}

-- ---- ERROR

versions_owned : (asked : Bool) → AllByRecursion (IsOwn Error) (cond asked (header (codes "version") (codes "1.2") ∷ [])
    [])
versions_owned true = (version_owned Error refl, tt)
versions_owned false = tt

versions_few : (asked : Bool) → length (cond asked (header (codes "version") (codes "1.2") ∷ []) []) ≤ 1
versions_few true = omega arith
versions_few false = omega arith

receipts_owned : (receipt : Option (List ℕ)) → IsEchoedIfAny receipt
    → AllByRecursion (IsOwn Error) (receipt_headers receipt)
receipts_owned None echoed = tt
receipts_owned (Some receipt) echoed =
    (echo_owned Error (codes "receipt-id") receipt refl refl refl refl (omega arith) echoed, tt)

receipts_few : (receipt : Option (List ℕ)) → length (receipt_headers receipt) ≤ 1
receipts_few None = omega arith
receipts_few (Some receipt) = omega arith

message_owned : (number : ℕ) (name : List ℕ) → IsGiven number → IsEchoed name
    → IsOwn Error (header (codes "message") (error_message number name))
message_owned number name small named =
    let message = told_message number name small named in
    owned Error (codes "message") (error_message number name) (record {
      good = rw message.plain refl;
      ascii = refl;
      own = refl;
      utf8 = message.utf8;
      short = omega (arith, message.short);
    })

-- an ERROR of a fault is a frame, with a receipt or without
pub error_is_a_frame : (number : ℕ) (name : List ℕ) (receipt : Option (List ℕ)) → IsGiven number → IsEchoed name
    → IsEchoedIfAny receipt
    → IsFrame MAX_BODY (error_frame number name receipt)
error_is_a_frame number name receipt small named echoed =
    let lines = header (codes "message") (error_message number name) ∷ receipt_headers receipt in
    record {
      headers = all_append (IsOwn Error) (version_headers number) lines (versions_owned (number == 23))
          (message_owned number name small named, receipts_owned receipt echoed);
      count = omega (
        arith,
        length-append (version_headers number) lines,
        versions_few (number == 23),
        receipts_few receipt,
      );
      body = omega arith;
    }

-- ---- MESSAGE

acks_owned : (ack : Option ℕ) → IsGivenIfAny ack → AllByRecursion (IsOwn Message) (ack_headers ack)
acks_owned None given = tt
acks_owned (Some number) given =
    (echo_owned Message (codes "ack") (decimal number) refl refl refl refl (omega arith) (told_number number given), tt)

acks_few : (ack : Option ℕ) → length (ack_headers ack) ≤ 1
acks_few None = omega arith
acks_few (Some number) = omega arith

leading_owned : (d : Delivered) → IsTold d → AllByRecursion (IsOwn Message) (leading_headers d)
leading_owned d told =
    let number = echo_owned Message (codes "message-id") (decimal d.number) refl refl refl refl (omega arith)
    (told_number d.number told.number) in
    let subscription =
    echo_owned Message (codes "subscription") d.subscription refl refl refl refl (omega arith) told.subscription in
    (told.carried.destination, (number, (subscription, acks_owned d.ack told.ack)))

-- a MESSAGE of a delivery is a frame
pub message_is_a_frame : (d : Delivered) → IsTold d → IsFrame MAX_BODY (message_frame d)
message_is_a_frame d told = record {
  headers = all_append (IsOwn Message) (leading_headers d) d.headers (leading_owned d told) told.carried.headers;
  count = omega (arith, length-append (leading_headers d) d.headers, acks_few d.ack, told.carried.count);
  body = told.carried.body;
}
