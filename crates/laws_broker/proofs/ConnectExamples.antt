-- Example: a session is opened, its CONNECT is fed, and CONNECTED is taken.
use Rattle.std.proofs.Common.{◌≡◌, true, false, List, [], ◌∷◌, length, take, codes, Ok, refl, sym, arith}
use Rattle.std.proofs.lemmas.List.{append-nil, take_all}
use Rattle.base.specs.declared.limits.TheConstants.{MAX_BODY}
use Rattle.stomp_frame.specs.declared.command.Command.TheVariants.{Connect}
use Rattle.stomp_frame.specs.Frames.{IsFrame, canonical}
use Rattle.stomp_frame.proofs.Canonical.{canon_spells}
use Rattle.stomp_frame.proofs.FrameFound.{no_fault_yet, no_frame_yet}
use Rattle.stomp_frame.proofs.Streaming.{gap_wants_more}
use Rattle.stomp_session.proofs.Owning.{owned, utf8}
use Rattle.stomp_session.specs.Replies.{connected_frame}
use Rattle.stomp_client.specs.Frames.{connect_frame}
use Rattle.broker_core.specs.Calls.{OpensSession, empty, new_session, with_new_session, without_first}
use Rattle.broker_core.specs.Feeding.{Dealing, Ends, Feeds as IsFed, Handles, TakesDecided as AreTaken, answer_of}
use Rattle.broker_core.specs.Feeding.{awaits, read, taking}
use Rattle.broker_core.specs.Feeding.{with_incoming}
use Rattle.broker_core.specs.Serving.{Decided, Server, changing, nothing_incoming, step}
use Rattle.broker_core.specs.declared.session.Session.{Session}
use Rattle.laws_broker.specs.Lives.{BrokerCall, Opened, FedTo, TakenFrom, Lives, handled_in}

pub connect_is_a_frame : IsFrame MAX_BODY connect_frame
connect_is_a_frame = record {
  headers = (
    owned Connect (codes "accept-version") (codes "1.2")
        (record { good = refl; ascii = refl; own = refl; utf8 = utf8 (codes "1.2") refl; short = omega arith }),
    (
      owned Connect (codes "host") (codes "outbox")
          (record { good = refl; ascii = refl; own = refl; utf8 = utf8 (codes "outbox") refl; short = omega arith }),
      tt,
    ),
  );
  count = omega arith;
  body = omega arith;
}

-- ---- one state after another

-- what CONNECT asks
abbrev pub asks : Decided
asks = answer_of false connect_frame

-- the first session
abbrev pub opened : Server
opened = with_new_session empty

-- it is fed CONNECT
abbrev pub fed : Server
fed = changing 1 (taking (canonical connect_frame)) opened

-- the frame is taken
abbrev pub taken : Server
taken = changing 1 (with_incoming nothing_incoming) fed

-- and has its step
abbrev pub stepped : Server
stepped = step 16 1 asks taken

-- the session then
abbrev pub connected : Session
connected = record {
  number = 1;
  server = true;
  closed = false;
  fresh = true;
  incoming = nothing_incoming;
  transactions = [];
  out = canonical connected_frame;
}

-- its octets are taken
abbrev pub sent : Server
sent = changing 1 (without_first (length (canonical connected_frame))) stepped

-- ---- the calls

connect_is_taken : AreTaken fed 1 asks taken
connect_is_taken = record {
  session = taking (canonical connect_frame) (new_session 1);
  left = nothing_incoming;
  is_open = record { found = refl; is_open = refl };
  takes = read connect_frame (canonical connect_frame) refl refl
      (0, canon_spells MAX_BODY (omega arith) connect_frame connect_is_a_frame)
      (sym (append-nil (canonical connect_frame)))
      refl refl refl;
  changed = refl;
}

nothing_is_dealt : Dealing stepped stepped
nothing_is_dealt = record { handed = []; deals = refl; taken = refl }

connect_is_handled : Handles 16 1 fed asks stepped
connect_is_handled = record { taken = taken; takes = connect_is_taken; settles = (nothing_is_dealt, refl) }

nothing_is_left : Ends stepped 1 stepped
nothing_is_left = awaits connected nothing_incoming (record { found = refl; is_open = refl })
    (record {
      none_waits = refl;
      sound = refl;
      no_frame = no_frame_yet MAX_BODY [] (gap_wants_more MAX_BODY [] (0, refl));
      no_fault = no_fault_yet MAX_BODY [] (gap_wants_more MAX_BODY [] (0, refl));
      gap = [];
      is_gap = (0, refl);
      octets = refl;
      still_sound = refl;
      still_none = refl;
    }) refl

connect_is_fed : IsFed 16 opened 1 (canonical connect_frame) stepped 1
connect_is_fed = record {
  frames = asks ∷ [];
  handled = stepped;
  ended = stepped;
  there = refl;
  handles = (stepped, connect_is_handled, refl);
  counted = refl;
  ends = nothing_is_left;
  settles = (nothing_is_dealt, refl);
}

abbrev pub calls : List BrokerCall
calls = Opened (Ok 1) ∷ FedTo 1 (record { piece = canonical connect_frame; frames = asks ∷ [] }) (Ok 1)
    ∷ TakenFrom 1 (canonical connected_frame) ∷ []

first_opens : OpensSession empty 1 opened
first_opens = record { next = refl; unused = refl; changed = refl; found = refl }

-- all of its octets
all_taken : canonical connected_frame ≡ take (length (canonical connected_frame)) (canonical connected_frame)
all_taken = sym (take_all (length (canonical connected_frame)) (canonical connected_frame) (omega arith))

pub a_client_is_connected : Lives 16 empty calls sent
unfolding connect_is_fed
a_client_is_connected = (
  opened,
  first_opens,
  (stepped, (connect_is_fed, refl), (sent, (length (canonical connected_frame), omega arith, all_taken, refl), refl)),
)

connect_alone_is_handled : handled_in 1 calls ≡ asks ∷ []
connect_alone_is_handled = refl
