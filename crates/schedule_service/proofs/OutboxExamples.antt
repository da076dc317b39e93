-- Examples: the first letter of an outbox is sent on a connection.
use Rattle.std.proofs.Common.{◌≡◌, ◌∙◌, ℕ, List, [], ◌∷◌, ◌++◌, length, Option, Some, None, Result, Ok, Err, Bool, true}
use Rattle.std.proofs.Common.{false, refl, sym}
use Rattle.std.proofs.Common.{ap, subst, append_assoc, Ordering, Less, Equal, Greater, arith}
use Rattle.std.specs.Fmt.{digits}
use Rattle.std.specs.Ordering.{is_eq}
use Rattle.std.specs.Prelude.{codes, nat_lt, if◌then◌else◌}
use Rattle.std.specs.Str.{is_utf8, chars}
use Rattle.base.specs.Order.{same_entity, same_pair}
use Rattle.base.specs.declared.limits.TheConstants.{MAX_BODY}
use Rattle.base.specs.declared.pair.Pair.{Pair}
use Rattle.stomp_frame.specs.Frames.{Content, IsFrame, canonical, escape, line_of}
use Rattle.stomp_client.specs.Clients.{ClientWithRoom, receipted}
use Rattle.stomp_client.specs.Frames.{with_receipt}
use Rattle.stomp_client.specs.Written.{Adds}
use Rattle.stomp_client.specs.declared.session.Stage.TheVariants as stage
use Rattle.envelope.specs.Written.{IsEnvelope, send_of}
use Rattle.envelope.specs.declared.message.Envelope.TheVariants as envelope
use Rattle.envelope.specs.declared.message.Letter.{Letter}
use Rattle.envelope.specs.declared.message.Message.{Message}
use Rattle.envelope.specs.declared.message.Message.TheVariants.{Request}
use Rattle.keep.specs.Listing.{IsNext, AreFirst, place_of}
use Rattle.keep.specs.Places.{IsBefore, same_place, place_cmp, same_place-ties}
use Rattle.keep.specs.Tables.{set_mark}
use Rattle.keep.specs.declared.change.LetterPlace.{LetterPlace}
use Rattle.keep.proofs.Places.{never_self, place_cmp-Equal}
use Rattle.endpoint.proofs.Examples.{acme, bolts, from_order}
use Rattle.endpoint.proofs.CallExamples.{orders, after, taken_in}
use Rattle.schedule_mail.specs.Mails.{new_mail}
use Rattle.reception.proofs.Spelling.{text_behind}
use Rattle.relay.specs.Calls.{Fills}
use Rattle.relay.specs.Filling.{SendState, marks_of, unsent, SendsLetters}
use Rattle.relay.specs.Knowing.{KnowsAll}
use Rattle.relay.specs.declared.fault.RelayFault.{RelayFault}
use Rattle.relay.specs.declared.fault.RelayFault.TheVariants as relay_fault
use Rattle.relay.specs.declared.relay.Relay.{Relay}
use Rattle.schedule_text.specs.declared.event.ConnectionNumber.TheVariants.{Zero}
use Rattle.schedule_text.specs.declared.outcome.Outcome.TheVariants as told
use Rattle.schedule_service.specs.Channels.{sending, Meets}
use Rattle.schedule_service.specs.SiteSteps.{SendsRows}
use Rattle.schedule_service.specs.Outcomes.{fill_told, fill_fate}
use Rattle.schedule_service.specs.declared.site_channel.SiteChannel.{SiteChannel}
use Rattle.schedule_service.proofs.FrameExamples.{client, channel}
use Rattle.schedule_service.proofs.Framing.{framed}
use Rattle.schedule_service.proofs.WorkExamples.{no_fault, seen, store, Service, site, only}

-- ---- the first letter that is due

-- the order's letter to the account, which stands before that to the stock
abbrev letter : Letter
letter = record { pair = from_order acme; number = 1; message = Request 500 }

abbrev at : Pair → LetterPlace
at p = record { pair = p; number = 1 }

equal : (o : Ordering) → is_eq o ≡ true → o ≡ Equal
equal Equal same = refl
equal Less same = absurd (cc)
equal Greater same = absurd (cc)

here : (a x : LetterPlace) → same_place a x ≡ true → a ≡ x
here a x same = place_cmp-Equal a x (equal (place_cmp a x) (sym (same_place-ties a x) ∙ same))

neither : (a b : Bool) (m n : Option Message) → (a ≡ true → ⊥) → (b ≡ true → ⊥)
    → (if a then m else if b then n else None) ≡ None
neither true b m n first second = absurd (first refl)
neither false true m n first second = absurd (second refl)
neither false false m n first second = refl

none_before : (x : LetterPlace) → IsBefore x (place_of letter) → after.unsettled x.pair x.number ≡ None
unfolding same_entity same_pair
none_before x before = neither (same_place (at (from_order acme)) x) (same_place (at (from_order bolts)) x)
    (Some (Request 500))
    (Some (Request 3))
    (λ same. never_self (place_of letter) (subst (λ y. IsBefore y (place_of letter))
    (sym (here (at (from_order acme)) x same)) before))
    (λ same. let less = subst (λ y. IsBefore y (place_of letter)) (sym (here (at (from_order bolts)) x same)) before
    in absurd (cc))

none_if : (b : Bool) (m : Option Message) → m ≡ None → (if b then m else None) ≡ None
none_if true m none = none
none_if false m none = refl

-- what is written of it
abbrev written : Content
written = with_receipt 1 (send_of (envelope.Letter letter))

it_is_an_envelope : IsEnvelope (envelope.Letter letter)
unfolding is_utf8 chars lib.Utf8.encode
it_is_an_envelope = record {
  numbered = record { from = refl; to = refl; number = record { positive = omega arith; small = omega arith } };
  message = record { positive = omega arith; small = omega arith };
}

it_is_a_frame : IsFrame MAX_BODY written
unfolding line_of escape digits is_utf8 chars lib.Utf8.encode
it_is_a_frame = framed _ refl

it_adds : Adds (written ∷ []) [] (canonical written)
it_adds frames gone wrote =
    let text =
    text_behind frames written (gone ++ []) (record { each = wrote.each; whole = wrote.whole }) it_is_a_frame in
    record { each = text.each; whole = sym (append_assoc gone [] (canonical written)) ∙ text.whole }

-- ---- sending

-- a relay that sent nothing, and one that sent that letter; neither has a cursor
module _ (before sent : Relay) (nothing : (p : Pair) → marks_of before p ≡ 0)
    (raised : ◌≡◌ {A = Pair → ℕ} (marks_of sent) (set_mark (from_order acme) 1 (marks_of before))) where
  abbrev from_start : Relay → Relay
  from_start r = record r { behind = None; rows = 0 }

  -- a client that has nothing to send, and one that has written the letter with its first receipt
  abbrev idle : ClientWithRoom ℕ
  idle = client stage.Connected []

  abbrev busy : ClientWithRoom ℕ
  busy = record idle { client = receipted (send_of (envelope.Letter letter)) 1 idle.client }

  abbrev on : Relay → ClientWithRoom ℕ → SiteChannel
  on r k = channel (from_start r) k []

  abbrev Sends : ℕ → SiteChannel → Type 0
  Sends n l = SendsRows seen orders Zero 1 (on before idle) (told.Sent n)
      (site (store true after) (Some (on before idle))) new_mail
      (site (store true after) (Some l)) new_mail

  it_is_first : IsNext (unsent (marks_of before) after.unsettled) None letter
  unfolding same_entity same_pair
  it_is_first = record {
    stands = ap (λ n. if nat_lt n 1 then Some (Request 500) else None) (nothing (from_order acme));
    later = tt;
    first = λ x later earlier. none_if (nat_lt (marks_of before x.pair) x.number) (after.unsettled x.pair x.number)
        (none_before x earlier);
  }

  abbrev made : (Pair → ℕ) → SendState
  made marks = record { marks = marks; client = busy.client }

  knows : (r : Relay) → KnowsAll orders (from_start r) (λ t. t ≡ after)
  knows r = (only after taken_in.matches, λ t was. (omega arith, λ x upto some. absurd upto))

  it_is_sent : Sends 1 (on sent busy)
  it_is_sent = record {
    result = Ok 1;
    later = on sent busy;
    idle = tt;
    reads = λ connected. record { call = (refl, refl, refl, refl); doubt = omega arith; clean = λ clean. (tt, refl) };
    keeps = λ clean t kept. kept;
    unused = λ unusable. absurd (cc);
    fills = λ connected. record {
      letters = letter ∷ [];
      sends = record { each = (it_is_an_envelope, tt); all = ap made raised; wrote = it_adds };
      within = omega arith;
      gives = (refl, λ clean. (it_is_first, tt));
    };
    knows = λ clean known. knows sent;
    rest = refl;
    tells = refl;
    meets = (refl, refl);
  }

  abbrev receipts_of : Option SiteChannel → ℕ
  receipts_of None = 0
  receipts_of (Some l) = l.connection.channel.client.client.receipts.last

  abbrev Filled : SiteChannel → Result ℕ RelayFault → Type 0
  Filled later r =
      Fills (((seen (true, after)).doubt ≡ 0) × KnowsAll orders (from_start before) (λ t. t ≡ after)) after.unsettled 1
      (sending (on before idle)) (sending later) r

  -- the letter is written and its mark raised; where it is due it isn't told that none was sent, and none is told that
  -- wasn't written
  letters_are_sent : Sends 1 (on sent busy)
      × (busy.client.out ≡ codes
      "SEND\ncontent-length:24\ndestination:/queue/billing\nkind:message\nfrom:order/o1\nto:account/acme\n"
      ++ codes "number:1\nreceipt:1\n\n{\"n\":500,\"op\":\"request\"}\0")
      × (Sends 0 (on before idle) → ⊥) × (Sends 1 (on sent idle) → ⊥)
  unfolding canonical line_of escape digits
  letters_are_sent = (
    it_is_sent,
    refl,
    λ h. none_sent h.result h.later h.tells (h.fills refl),
    λ h. unwritten h.result h.later h.tells (h.fills refl) h.meets,
  )
    where
      no_letters : (letters : List Letter) → 0 ≡ length letters
          → AreFirst (unsent (marks_of before) after.unsettled) None 1 letters → ⊥
      no_letters [] zero first =
          let some : Some (Request 500) ≡ None = sym it_is_first.stands ∙ first (place_of letter) tt in absurd (cc)
      no_letters (l ∷ ls) zero first = omega (arith, zero)

      none_sent : (r : Result ℕ RelayFault) (later : SiteChannel) → told.Sent 0 ≡ fill_told r → Filled later r → ⊥
      none_sent (Ok n) later tells fills =
          let none : 0 ≡ n = cc in no_letters fills.letters (none ∙ fills.gives.0) (fills.gives.1 (refl, knows before))
      none_sent (Err (relay_fault.Endpoint f)) later tells fills = no_fault (told.Sent 0) refl f tells
      none_sent (Err _) later tells fills = absurd (cc)

      one_receipt : (letters : List Letter) (later : SiteChannel) → 1 ≡ length letters
          → SendsLetters letters (sending (on before idle)) (sending later)
          → 0 ≡ later.connection.channel.client.client.receipts.last → ⊥
      one_receipt [] later one sends same = omega (arith, one)
      one_receipt (x ∷ []) later one sends same =
          let next = ap (λ (c : SendState). c.client.receipts.last) sends.all in omega (arith, same, next)
      one_receipt (x ∷ y ∷ ls) later one sends same = omega (arith, one)

      unwritten : (r : Result ℕ RelayFault) (later : SiteChannel) → told.Sent 1 ≡ fill_told r → Filled later r
          → Meets (fill_fate r) Zero later (site (store true after) (Some (on before idle))) new_mail
          (site (store true after) (Some (on sent idle))) new_mail → ⊥
      unwritten (Ok n) later tells fills meets = let one : 1 ≡ n = cc in
          one_receipt fills.letters later (one ∙ fills.gives.0) fills.sends
          (ap (λ (x : Service). receipts_of x.zero) meets.0)
      unwritten (Err (relay_fault.Endpoint f)) later tells fills meets = no_fault (told.Sent 1) refl f tells
      unwritten (Err _) later tells fills meets = absurd (cc)
