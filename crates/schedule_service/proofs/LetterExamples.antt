-- Examples: a letter and a settle that came are taken: what they do to the journal and to the outbox, and what is
-- written for them.
use Rattle.std.proofs.Common.{◌≡◌, ◌∙◌, ℕ, List, [], ◌∷◌, ◌++◌, length, Option, Some, None, Result, Ok, Err, true, refl}
use Rattle.std.proofs.Common.{sym, ap, subst}
use Rattle.std.proofs.Common.{arith}
use Rattle.std.specs.Fmt.{digits}
use Rattle.std.specs.Prelude.{codes}
use Rattle.std.specs.Str.{is_utf8, chars}
use Rattle.base.specs.Order.{same_entity, same_pair}
use Rattle.base.specs.Entity.{Entity}
use Rattle.base.specs.declared.entity.Kind.{Kind}
use Rattle.base.specs.declared.entity.Kind.TheVariants.{Order, Stock}
use Rattle.base.specs.declared.limits.TheConstants.{MAX_BODY}
use Rattle.stomp_frame.specs.Frames.{Content, frame, header, canonical, escape, line_of}
use Rattle.stomp_frame.specs.Streams.{AreFrames}
use Rattle.stomp_frame.specs.declared.command.Command.TheVariants as command
use Rattle.stomp_client.specs.Clients.{ClientWithRoom, new_client}
use Rattle.stomp_client.specs.declared.session.Stage.TheVariants as stage
use Rattle.envelope.specs.Reading.{read_envelope, read_frame}
use Rattle.envelope.specs.declared.message.Envelope.TheVariants as envelope
use Rattle.envelope.specs.declared.message.Letter.{Letter}
use Rattle.envelope.specs.declared.message.Message.TheVariants.{Tentative}
use Rattle.activities.specs.declared.handler.Refusal.{Refusal}
use Rattle.activities.specs.declared.input.JournalRow.{JournalRow}
use Rattle.activities.specs.declared.outs.Out.{Out}
use Rattle.activities.proofs.Asking.{Asked, asking_reactions}
use Rattle.keep.specs.Failing.{through}
use Rattle.keep.specs.Tables.{changed}
use Rattle.keep.specs.declared.change.Change.TheVariants as change
use Rattle.endpoint.specs.Calls.{ComesBy}
use Rattle.endpoint.specs.Answers.{Takes, sent_counts}
use Rattle.endpoint.specs.Arrivals.{row_of_letter}
use Rattle.endpoint.specs.Deeds.{Kept, kept, Deed, Did, TakesIn, Settles}
use Rattle.endpoint.proofs.Examples.{o1, bolts, from_order, placing}
use Rattle.endpoint.proofs.CallExamples.{orders, OrderTables, after, taken_in}
use Rattle.schedule_mail.specs.Mails.{new_mail}
use Rattle.outbox.specs.Numbering.{NumbersFit}
use Rattle.reception.specs.Deeds.{TakeMay, IsOurs, IsAnothers, concerned}
use Rattle.reception.specs.Replies.{answer, settling}
use Rattle.reception.specs.declared.fault.ReceptionFault.{ReceptionFault}
use Rattle.reception.specs.declared.taken.Taken.{Taken}
use Rattle.reception.specs.declared.taken.Taken.TheVariants as taken
use Rattle.relay.specs.declared.relay.Relay.{Relay}
use Rattle.schedule_text.specs.declared.event.ConnectionNumber.TheVariants.{Zero}
use Rattle.schedule_text.specs.declared.outcome.Outcome.TheVariants as told
use Rattle.schedule_service.specs.SiteSteps.{TakesFrame}
use Rattle.schedule_service.specs.Outcomes.{reception_told, taken_told}
use Rattle.schedule_service.specs.declared.site_channel.SiteChannel.{SiteChannel}
use Rattle.schedule_service.proofs.FrameExamples.{reception_is_refusal, client, channel}
use Rattle.schedule_service.proofs.Framing.{framed}
use Rattle.schedule_service.proofs.WorkExamples.{no_refusal, seen, store, site, only}

-- the kind of an entity that is there
abbrev kind_of : Option Entity → Kind
kind_of (Some e) = e.kind
kind_of None = Order

module _ (relay : Relay) where
  abbrev connected : SiteChannel
  connected = channel relay (client stage.Connected []) []

  -- ---- a settle

  -- the stock has handled the first letter of the order
  abbrev settle : Content
  settle = frame command.Message
      (header (codes "destination") (codes "/queue/purchasing") ∷ header (codes "message-id") (codes "77")
      ∷ header (codes "subscription") (codes "0") ∷ header (codes "ack") (codes "12") ∷ header (codes "kind")
      (codes "settle")
      ∷ header (codes "from") (codes "order/o1") ∷ header (codes "to") (codes "stock/bolts") ∷ header (codes "number")
      (codes "1") ∷ [])
      []

  it_is_read : read_frame settle ≡ Some (envelope.Settle (from_order bolts) 1)
  unfolding read_envelope digits is_utf8 chars lib.Utf8.encode
  it_is_read = refl

  acknowledging : AreFrames MAX_BODY (answer command.Ack settle)
  unfolding line_of escape is_utf8 chars lib.Utf8.encode
  acknowledging = (framed _ refl, tt)

  -- the tables with its mark
  abbrev settled : OrderTables
  settled = changed (change.Settled (from_order bolts) 1 ∷ []) after

  abbrev Marks : OrderTables → Type 0
  Marks t = TakesFrame seen orders Zero connected settle (told.Settled 1) (site (store true after) (Some connected))
      new_mail
      (site (store true t) (Some (channel relay (client stage.Connected (codes "ACK\nid:12\n\n\0")) []))) new_mail

  -- the outbox has the mark that is told, and the frame is acknowledged; the mark doesn't stay as it was
  the_letter_is_settled : Marks settled × (Marks after → ⊥)
  unfolding canonical line_of escape same_entity same_pair
  the_letter_is_settled = (
    record {
      result = Ok (taken.Settled 1);
      client = client stage.Connected (codes "ACK\nid:12\n\n\0");
      answers = (
        from_order bolts,
        1,
        ((refl, (refl, record { command = refl; whole = refl }, refl)), it_is_read),
        record { each = acknowledging; all = refl },
      );
      comes = λ clean good t was. record {
        before = after;
        deed = Settles (from_order bolts) 1;
        was = refl;
        may = (from_order bolts, 1, it_is_read, (refl, refl));
        did = subst (λ (x : OrderTables). Did orders (kept after) (Settles (from_order bolts) 1) (kept x)) (sym was)
            (refl, omega arith, refl);
      };
      used = ((refl, refl, refl, refl), ((from_order bolts).from, ap concerned it_is_read, refl));
      tells = refl;
      meets = (refl, refl);
    },
    λ h. unmarked h.result h.tells h.comes,
  )
    where
      stays : (m : ℕ) (t : OrderTables) (d : Deed Asked) → t ≡ after
          → TakeMay orders settle (Ok (taken.Settled m)) (kept t) d
          → Did orders (kept t) d (kept after) → ⊥
      stays m t d was (pair, number, read, done) did =
          let same : Some (envelope.Settle pair number) ≡ Some (envelope.Settle (from_order bolts) 1) =
          sym read ∙ it_is_read in
          let marks = done.0 in
          let deed : d ≡ Settles (from_order bolts) 1 = cc in
          let now = subst (λ (x : OrderTables). Did orders (kept x) (Settles (from_order bolts) 1) (kept after)) was
          (subst (λ e. Did orders (kept t) e (kept after)) deed did) in
          let mark : 0 ≡ 1 = ap (λ (k : Kept Asked). k.settled (from_order bolts)) now.2 in omega (arith, mark)

      unmarked : (r : Result Taken ReceptionFault) → told.Settled 1 ≡ taken_told r
          → ComesBy (through seen) (store true after) (store true after) orders (TakeMay orders settle r) → ⊥
      unmarked (Ok (taken.Settled m)) tells comes = let came = comes refl (only after taken_in.matches) after refl in
          stays m came.before came.deed came.was came.may came.did
      unmarked (Ok _) tells comes = absurd (cc)
      unmarked (Err e) tells comes = no_refusal (told.Settled 1) (reception_told e) refl (reception_is_refusal e) tells

  -- ---- a letter

  -- the stock answers the order, in its first letter to it
  abbrev letter : Letter
  letter = record { pair = record { from = bolts; to = o1 }; number = 1; message = Tentative }

  abbrev brings : Content
  brings = frame command.Message
      (header (codes "destination") (codes "/queue/purchasing") ∷ header (codes "message-id") (codes "76")
      ∷ header (codes "subscription") (codes "0") ∷ header (codes "ack") (codes "11") ∷ header (codes "kind")
      (codes "message")
      ∷ header (codes "from") (codes "stock/bolts") ∷ header (codes "to") (codes "order/o1") ∷ header (codes "number")
      (codes "1") ∷ [])
      (codes "{\"op\":\"tentative\"}")

  it_is_brought : read_frame brings ≡ Some (envelope.Letter letter)
  unfolding read_envelope digits is_utf8 chars lib.Utf8.encode
  it_is_brought = refl

  -- the letter and the settle concern the order, so that purchasing never tells that they are another's; for the
  -- warehouse they are
  both_concern_the_order : IsOurs Order brings × IsOurs Order settle × (IsAnothers Order brings → ⊥)
      × (IsAnothers Order settle → ⊥)
      × IsAnothers Stock brings × (IsOurs Stock brings → ⊥)
  both_concern_the_order = (
    (o1, ap concerned it_is_brought, refl),
    (o1, ap concerned it_is_read, refl),
    λ h. h.2 (sym (ap kind_of h.1) ∙ ap (λ e. kind_of (concerned e)) it_is_brought),
    λ h. h.2 (sym (ap kind_of h.1) ∙ ap (λ e. kind_of (concerned e)) it_is_read),
    (o1, ap concerned it_is_brought, λ e. absurd (cc)),
    λ h. let e : Order ≡ Stock =
        sym (ap (λ e. kind_of (concerned e)) it_is_brought) ∙ ap kind_of h.1 ∙ h.2 in absurd (cc),
  )

  -- nothing is sent for it, so that no number is too large
  none_sent : (outs : List Out) → [] ≡ outs → NumbersFit (sent_counts asking_reactions (placing ∷ [])) o1 outs
  none_sent [] none r some = omega (arith, some)
  none_sent (out ∷ outs) none r some = absurd (cc)

  abbrev outs_of : Result (Option Asked × List Out) Refusal → List Out
  outs_of (Ok done) = done.1
  outs_of (Err refusal) = []

  -- the journal takes it in
  abbrev row : JournalRow Asked
  row = row_of_letter letter

  it_may_follow : Takes asking_reactions Order (placing ∷ []) row (placing ∷ row ∷ [])
  unfolding same_entity same_pair
  it_may_follow = record {
    follows = record { of_kind = refl; seated = tt; accepted = refl; next = refl };
    room = omega arith;
    fits = λ done is. none_sent done.1 (ap outs_of is);
    appended = refl;
  }

  -- the tables with its row and its mark, and it isn't held
  abbrev answered : OrderTables
  answered = changed (change.NotHeld letter.pair 1 ∷ change.Handled letter.pair 1 ∷ change.Journal 2 row ∷ []) after

  -- in one transaction the frame is acknowledged and the letter settled
  abbrev replies : List ℕ
  replies = codes "BEGIN\ntransaction:1\n\n\0ACK\nid:11\ntransaction:1\n\n\0"
      ++ codes "SEND\ncontent-length:0\ndestination:/queue/warehouse\nkind:settle\n"
      ++ codes "from:stock/bolts\nto:order/o1\nnumber:1\n"
      ++ codes "transaction:1\n\n\0"
      ++ codes "COMMIT\ntransaction:1\n\n\0"

  they_are_frames : AreFrames MAX_BODY (settling brings 1 letter.pair 1)
  unfolding line_of escape digits is_utf8 chars lib.Utf8.encode
  they_are_frames = (framed _ refl, (framed _ refl, (framed _ refl, (framed _ refl, tt))))

  abbrev settling_client : ClientWithRoom ℕ
  settling_client =
      record { client = record new_client { stage = stage.Connected; out = replies; transactions = 1 }; room = 0 }

  abbrev Handles : OrderTables → Type 0
  Handles t = TakesFrame seen orders Zero connected brings (told.Handled 2) (site (store true after) (Some connected))
      new_mail
      (site (store true t) (Some (channel relay settling_client []))) new_mail

  -- the letter is the journal's second row, and is settled; it isn't told as handled where it isn't there
  the_letter_is_handled : Handles answered × (Handles after → ⊥)
  unfolding canonical line_of escape digits same_entity same_pair
  the_letter_is_handled = (
    record {
      result = Ok (taken.Handled 2);
      client = settling_client;
      answers = (
        letter,
        ((refl, (refl, record { command = refl; whole = refl }, refl)), it_is_brought),
        record { each = they_are_frames; all = refl },
      );
      comes = λ clean good t was. record {
        before = after;
        deed = TakesIn row;
        was = refl;
        may = (letter, it_is_brought, (refl, refl));
        did = subst (λ (x : OrderTables). Did orders (kept after) (TakesIn row) (kept x)) (sym was)
            (it_may_follow, refl, refl);
      };
      used = ((refl, refl, refl, refl), (letter.pair.to, ap concerned it_is_brought, refl));
      tells = refl;
      meets = (refl, refl);
    },
    λ h. unhandled h.result h.tells h.comes,
  )
    where
      not_there : (r : JournalRow Asked) (t : OrderTables) (d : Deed Asked) → t ≡ after → d ≡ TakesIn r
          → Did orders (kept t) d (kept after) → ⊥
      not_there r t d was deed did =
          let now = subst (λ (x : OrderTables). Did orders (kept x) (TakesIn r) (kept after)) was
          (subst (λ e. Did orders (kept t) e (kept after)) deed did) in
          let more : 1 ≡ 2 = ap length now.0.appended in omega (arith, more)

      unhandled : (r : Result Taken ReceptionFault) → told.Handled 2 ≡ taken_told r
          → ComesBy (through seen) (store true after) (store true after) orders (TakeMay orders brings r) → ⊥
      unhandled (Ok (taken.Handled n)) tells comes = let came = comes refl (only after taken_in.matches) after refl in
          not_there (row_of_letter came.may.0) came.before came.deed came.was came.may.2.0 came.did
      unhandled (Ok _) tells comes = absurd (cc)
      unhandled (Err e) tells comes = no_refusal (told.Handled 2) (reception_told e) refl (reception_is_refusal e) tells
