-- Example: a client asks to connect, and reads CONNECTED.
use Rattle.std.proofs.Common.{ℕ, false, List, [], ◌∷◌, ◌++◌, length, take, Some, Ok, refl, sym, subst, arith}
use Rattle.std.proofs.lemmas.List.{append-nil, take_all}
use Rattle.base.specs.declared.limits.TheConstants.{MAX_BODY}
use Rattle.receipts.specs.Books.{new_book}
use Rattle.stomp_frame.specs.Calls.{DecoderCall as Reading, Fed, Gave, nothing_held}
use Rattle.stomp_frame.specs.Frames.{canonical}
use Rattle.stomp_frame.proofs.Canonical.{canon_spells}
use Rattle.stomp_wire.specs.Travel.{Travels, begins, puts, carries, takes}
use Rattle.stomp_session.specs.Replies.{connected_frame}
use Rattle.stomp_session.proofs.Framing.{connected_is_a_frame}
use Rattle.stomp_client.specs.Clients.{Client, connected}
use Rattle.stomp_client.specs.Frames.{connect_frame}
use Rattle.stomp_client.specs.declared.event.ClientEvent.TheVariants as event
use Rattle.stomp_client.specs.declared.session.Stage.TheVariants as stage
use Rattle.laws_broker.specs.Carried.{IsFed}
use Rattle.laws_broker.specs.Conversations.{Comes}
use Rattle.laws_broker.specs.Lifetime.{IsServed, Went, connects, reads}
use Rattle.laws_broker.specs.Lives.{account}
use Rattle.laws_broker.proofs.ConnectExamples.{a_client_is_connected, calls, connect_is_a_frame, sent}

-- ---- over a wire

-- so many octets as it has, which is the text
abbrev all_of : List ℕ → List ℕ
all_of text = take (length text) text

just_put : (text : List ℕ) → Travels (all_of text) [] (Some (all_of text)) (Some [])
just_put text = puts text (Ok (length text)) begins (omega arith, refl)

put_and_carried : (text : List ℕ) → Travels (all_of text) [] (Some []) (Some (all_of text))
put_and_carried text =
    carries {waiting = Some (all_of text)} {later = Some []} {carried = Some []} {arrived = Some (all_of text)}
    (all_of text) (just_put text) (sym (append-nil (all_of text))) refl

all_but_cut : (text : List ℕ) → Travels (all_of text) (all_of text) (Some []) (Some [])
all_but_cut text = takes {carried = Some (all_of text)} {later =
    Some []} (length (all_of text)) [] (all_of text) (Ok (length (all_of text))) (put_and_carried text)
    (refl, refl, omega arith, sym (append-nil (all_of text)))

-- a text is put, carried and taken
all_travels : (text : List ℕ) → Travels text text (Some []) (Some [])
all_travels text = subst (λ (t : List ℕ). Travels t t (Some []) (Some [])) (take_all (length text) text (omega arith))
    (all_but_cut text)

-- ---- both ways

connect_comes : IsFed calls 1 (connect_frame ∷ [])
connect_comes = record {
  gone = canonical connect_frame ++ [];
  out = [];
  waiting = [];
  carried = [];
  wrote = record { each = (connect_is_a_frame, tt); whole = append-nil (canonical connect_frame ++ []) };
  travels = all_travels (canonical connect_frame ++ []);
}

-- a decoder is fed all, and gives the frame
abbrev reading : List Reading
reading = Fed (canonical connected_frame ++ []) ∷ Gave connected_frame ∷ []

connected_comes : Comes (account 1 calls) [] [] (connected_frame ∷ []) nothing_held
connected_comes = record {
  received = canonical connected_frame ++ [];
  reading = reading;
  travels = all_travels (canonical connected_frame ++ []);
  happened = (
    record { octets = canonical connected_frame ++ []; failed = false },
    (refl, refl, refl),
    (
      nothing_held,
      (
        refl,
        refl,
        canonical connected_frame,
        (0, canon_spells MAX_BODY (omega arith) connected_frame connected_is_a_frame),
        refl,
      ),
      refl,
    ),
  );
  fed = append-nil (canonical connected_frame ++ []);
  given = refl;
}

the_client_is_served : IsServed (connect_frame ∷ []) (connected_frame ∷ [])
the_client_is_served = record {
  full = 16;
  calls = calls;
  broker = sent;
  number = 1;
  waiting = [];
  carried = [];
  held = nothing_held;
  lives = a_client_is_connected;
  fed = connect_comes;
  comes = connected_comes;
}

-- ---- the client

-- CONNECT is written
abbrev asking : Client ℕ
asking = record { stage = stage.Connecting; out = []; receipts = new_book; transactions = 0 }

-- it reads CONNECTED, and is connected
it_is_connected : Went ℕ (connect_frame ∷ []) (connected_frame ∷ []) new_book stage.Connected
it_is_connected = reads (connect_frame ∷ []) [] new_book stage.Connecting connected_frame asking (connected asking)
    (Ok event.Connected)
    connects the_client_is_served refl refl (refl, (refl, refl))
