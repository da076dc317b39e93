-- Where more envelopes may be on their way, what was good stays so.
use Rattle.std.proofs.Common.{◌≡◌, ℕ, List, ◌++◌, Option, Some, None, Ok, Err}
use Rattle.stomp_frame.specs.Frames.{Content}
use Rattle.stomp_session.specs.declared.request.Request.{Request}
use Rattle.stomp_session.specs.declared.request.Request.TheVariants.{Connect, Send, Subscribe, Unsubscribe, Ack, Nack}
use Rattle.stomp_session.specs.declared.request.Request.TheVariants.{Begin, Commit, Abort}
use Rattle.stomp_session.specs.declared.request.Request.TheVariants.{Disconnect}
use Rattle.broker_book.specs.Books.{Book}
use Rattle.broker_book.specs.declared.parts.Action.{Action}
use Rattle.broker_book.specs.declared.parts.Action.TheVariants.{Put, Ack as AckOf, Nack as NackOf}
use Rattle.broker_book.specs.declared.parts.Sent.{Sent}
use Rattle.broker_core.specs.Serving.{Decided, Server}
use Rattle.broker_core.specs.declared.session.Session.{Session}
use Rattle.laws_broker.specs.Fitting.{AcceptedFits, ActionFits, MessageFits, SentFits, TransactionFits}
use Rattle.laws_broker.proofs.Lists.{all_weaker}
use Rattle.broker_tx.specs.Transactions.{Transaction}
use Rattle.envelope.specs.declared.message.Envelope.{Envelope}
use Rattle.schedule_mail.specs.Mails.{Mail}
use Rattle.schedule_mail.specs.declared.connection.Connection.{Connection}
use Rattle.laws_mail.specs.Passing.{Brought, GoodBook, GoodConnection, GoodDecided, GoodFrame, GoodNext, GoodMail}
use Rattle.laws_mail.specs.Passing.{GoodRequest, GoodServer, HasWritten}
use Rattle.laws_mail.specs.Passing.{GoodSession, GoodWaiting, Spelled}

module _ (ok more : Envelope → Type 0) (k : (e : Envelope) → ok e → more e) where
  -- ---- frames

  pub frame_more : (f : Content) → GoodFrame ok f → GoodFrame more f
  frame_more f h = record { fits = h.fits; means = λ c e r. k e (h.means c e r) }

  pub text_more : (text : List ℕ) → Spelled ok text → Spelled more text
  text_more text h = record {
    frames = h.frames;
    each = all_weaker (GoodFrame ok) (GoodFrame more) h.frames frame_more h.each;
    spelled = h.spelled;
  }

  -- ---- what a broker keeps

  sent_more : (s : Sent) → SentFits (Brought ok) s → SentFits (Brought more) s
  sent_more s h = record { carried = h.carried; brought = λ e r. k e (h.brought e r) }

  book_more : (b : Book) → GoodBook ok b → GoodBook more b
  book_more b h = record {
    living = all_weaker (MessageFits (Brought ok)) (MessageFits (Brought more)) b.living
        (λ m g. record { sent = sent_more m.sent g.sent; number = g.number }) h.living;
    subscriptions = h.subscriptions;
    accepted = all_weaker (AcceptedFits (Brought ok)) (AcceptedFits (Brought more)) b.accepted
        (λ a g. sent_more a.sent g) h.accepted;
  }

  action_more : (a : Action) → ActionFits (Brought ok) a → ActionFits (Brought more) a
  action_more (Put s) h = sent_more s h
  action_more (AckOf n) h = tt
  action_more (NackOf n) h = tt

  transaction_more : (t : Transaction) → TransactionFits (Brought ok) t → TransactionFits (Brought more) t
  transaction_more t h = all_weaker (ActionFits (Brought ok)) (ActionFits (Brought more)) t.actions action_more h

  -- ---- sessions

  request_more : (q : Request) → GoodRequest ok q → GoodRequest more q
  request_more (Connect c) h = h
  request_more (Send s) h = (h.0, λ e r. k e (h.1 e r))
  request_more (Subscribe s) h = h
  request_more (Unsubscribe u) h = h
  request_more (Ack a) h = h
  request_more (Nack a) h = h
  request_more (Begin d) h = h
  request_more (Commit d) h = h
  request_more (Abort d) h = h
  request_more (Disconnect d) h = h

  decided_more : (d : Decided) → GoodDecided ok d → GoodDecided more d
  decided_more (Ok q) h = request_more q h
  decided_more (Err r) h = h

  waiting_more : (o : Option Decided) → GoodWaiting ok o → GoodWaiting more o
  waiting_more None h = tt
  waiting_more (Some d) h = decided_more d h

  session_more : (up down : List ℕ) (s : Session) → GoodSession ok up down s → GoodSession more up down s
  session_more up down s h = record {
    waits = waiting_more s.incoming.waiting h.waits;
    comes = λ a b. text_more (s.incoming.decoder.octets ++ up) (h.comes a b);
    transactions =
        all_weaker (TransactionFits (Brought ok)) (TransactionFits (Brought more)) s.transactions transaction_more
        h.transactions;
    goes = text_more (down ++ s.out) h.goes;
  }

  server_more : (up down : ℕ → List ℕ) (b : Server) → GoodServer ok up down b → GoodServer more up down b
  server_more up down b h = record {
    book = book_more b.book h.book;
    sessions = λ n s e. session_more (up n) (down n) s (h.sessions n s e);
    gone = λ n e. text_more (down n) (h.gone n e);
  }

  -- ---- the mail and its connections

  pub mail_more : (up down : ℕ → List ℕ) (o : Mail) → GoodMail ok up down o → GoodMail more up down o
  mail_more up down o h = record {
    server = server_more up down o.broker h.server;
    earlier = all_weaker (AcceptedFits (Brought ok)) (AcceptedFits (Brought more)) o.earlier (λ a g. sent_more a.sent g)
        h.earlier;
    above = h.above;
  }

  next_more : (o : Option Content) → GoodNext ok o → GoodNext more o
  next_more None h = tt
  next_more (Some f) h = frame_more f h

  written_more : (out : List ℕ) → HasWritten ok out → HasWritten more out
  written_more out h = record {
    frames = h.frames;
    each = all_weaker (GoodFrame ok) (GoodFrame more) h.frames frame_more h.each;
    gone = h.gone;
    wrote = h.wrote;
  }

  pub connection_more : (c : Connection) → GoodConnection ok c → GoodConnection more c
  connection_more c h = record {
    waits = next_more c.channel.waiting h.waits;
    wrote = written_more c.channel.client.client.out h.wrote;
  }
