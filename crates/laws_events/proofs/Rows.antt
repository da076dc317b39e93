-- The rows of an outbox that are sent are good.
use Rattle.std.proofs.Common.{◌≡◌, ℕ, zero, suc, ◌+◌, Bool, true, false, List, [], ◌∷◌, length, Option, Some, None}
use Rattle.std.proofs.Common.{Result, Ok, Err}
use Rattle.std.proofs.Common.{refl, sym, ap, subst, arith}
use Rattle.std.specs.Prelude.{IfSome, nat_lt, if◌then◌else◌}
use Rattle.std.specs.List.{AllByRecursion}
use Rattle.std.proofs.lemmas.Bool.{cases_Bool}
use Rattle.base.specs.declared.limits.TheConstants.{MAX_BODY}
use Rattle.base.specs.declared.pair.Pair.{Pair}
use Rattle.stomp_frame.specs.Streams.{AreFrames}
use Rattle.stomp_client.specs.declared.session.Stage.{Stage}
use Rattle.stomp_client.specs.declared.session.Stage.TheVariants as stage
use Rattle.envelope.specs.Written.{IsEnvelope}
use Rattle.envelope.specs.declared.message.Envelope.{Envelope}
use Rattle.envelope.specs.declared.message.Envelope.TheVariants as envelope
use Rattle.envelope.specs.declared.message.Letter.{Letter}
use Rattle.envelope.specs.declared.message.Message.{Message}
use Rattle.activities.specs.Service.{Service}
use Rattle.activities.proofs.Sameness.{either}
use Rattle.keep.specs.declared.change.LetterPlace.{LetterPlace}
use Rattle.keep.specs.Failing.{through}
use Rattle.keep.specs.Listing.{AreFirst, place_of}
use Rattle.keep.specs.Seen.{Seen, IsSound}
use Rattle.keep.specs.Tables.{Tables, Messages}
use Rattle.endpoint.specs.Matches.{AllMatch}
use Rattle.schedule_mail.specs.Mails.{Mail}
use Rattle.laws_mail.specs.Passing.{GoodFrame, HasWritten}
use Rattle.relay.specs.Calls.{Fills, Gives, idle_answer}
use Rattle.relay.specs.Filling.{SendState, sends_of, unsent, with_sent}
use Rattle.relay.specs.Knowing.{KnowsAll}
use Rattle.relay.specs.declared.fault.RelayFault.{RelayFault}
use Rattle.schedule_text.specs.declared.event.ConnectionNumber.{ConnectionNumber}
use Rattle.schedule_text.specs.declared.outcome.Outcome.{Outcome}
use Rattle.laws_events.specs.Writing.{IsTrue}
use Rattle.laws_stores.proofs.Writing.{outbox_true}
use Rattle.laws_mail.proofs.Frames.{send_receipted_good}
use Rattle.laws_mail.proofs.Writing.{adds_written}
use Rattle.laws_events.proofs.Replying.{WritesGood, writes_none}
use Rattle.laws_events.proofs.Telling.{inner_usable}
use Rattle.schedule_service.proofs.Cursors.{channel_has}
use Rattle.schedule_service.specs.SiteSteps.{SendsRows}
use Rattle.schedule_service.specs.Cursors.{AreRight, KnowsEach}
use Rattle.schedule_service.specs.Channels.{channel_of, sending}
use Rattle.schedule_service.specs.declared.site_channel.SiteChannel.{SiteChannel}
use Rattle.schedule_service.specs.declared.site.Site.{Site}

-- ---- what stands in an outbox

none_is_some : (m : Message) → None ≡ Some m → ⊥
none_is_some m e = cc

unsent_stands : (messages : Messages) (p : Pair) (n : ℕ) (m : Message) (b : Bool)
    → (if b then messages p n else None) ≡ Some m
    → messages p n ≡ Some m
unsent_stands messages p n m true h = h
unsent_stands messages p n m false h = absurd (none_is_some m h)

-- each of these letters stands among these messages
abbrev Stand : Messages → List Letter → Type 0
Stand messages ls = AllByRecursion (λ l. messages l.pair l.number ≡ Some l.message) ls

first_stand : (marks : Pair → ℕ) (messages : Messages) (after : Option LetterPlace) (n : ℕ) (ls : List Letter)
    → AreFirst (unsent marks messages) after n ls → Stand messages ls
first_stand marks messages after n [] are = tt
first_stand marks messages after zero (l ∷ ls) are = absurd are
first_stand marks messages after (suc n) (l ∷ ls) are = (
  unsent_stands messages l.pair l.number l.message (nat_lt (marks l.pair) l.number) are.0.stands,
  first_stand marks messages (Some (place_of l)) n ls are.1,
)

given_stand : (clean : Type 0) (marks : Pair → ℕ) (messages : Messages) (limit : ℕ) (ls : List Letter) (last : ℕ)
    (r : Result ℕ RelayFault)
    → Gives clean (unsent marks messages) None limit ls last r → clean → Stand messages ls
given_stand clean marks messages limit ls last (Ok count) gives c = first_stand marks messages None limit ls (gives.1 c)
given_stand clean marks messages limit ls last (Err fault) gives c =
    first_stand marks messages None (length ls) ls (gives.0 c)

module _ (ok : Envelope → Type 0) where
  -- ---- their SENDs

  sends_good : (messages : Messages) → ((l : Letter) → messages l.pair l.number ≡ Some l.message
      → ok (envelope.Letter l))
      → (c : SendState) (ls : List Letter) → AllByRecursion (λ l. IsEnvelope (envelope.Letter l)) ls → Stand messages ls
      → AreFrames MAX_BODY (sends_of c ls) → AllByRecursion (GoodFrame ok) (sends_of c ls)
  sends_good messages good c [] are stand frames = tt
  sends_good messages good c (l ∷ ls) are stand frames = (
    send_receipted_good ok (envelope.Letter l) (c.client.receipts.last + 1) are.0 (good l stand.0) frames.0,
    sends_good messages good (with_sent c l) ls are.1 stand.1 frames.1,
  )

  filled_good : (clean : Type 0) (messages : Messages) (limit : ℕ) (old new : SendState) (r : Result ℕ RelayFault)
      → Fills clean messages limit old new r → clean
      → ((l : Letter) → messages l.pair l.number ≡ Some l.message → ok (envelope.Letter l))
      → HasWritten ok old.client.out → WritesGood ok old.client new.client
  filled_good clean messages limit old new r fills c good written =
      let added = adds_written ok old.client.out new.client.out (sends_of old fills.letters) fills.sends.wrote
      written in
      record {
        frames = sends_of old fills.letters;
        each = sends_good messages good old fills.letters fills.sends.each
            (given_stand clean old.marks messages limit fills.letters new.client.receipts.last r fills.gives c)
            added.1;
        out = added.0;
      }

  -- where the session isn't connected none was sent
  idle_good : (here : Stage) (old new : SendState) (r : Result ℕ RelayFault) (A : Type 0) → IfSome (idle_answer here)
      (λ answer. (r ≡ answer) × A × (new ≡ old)) → (here ≡ stage.Connected → WritesGood ok old.client new.client)
      → WritesGood ok old.client new.client
  idle_good stage.Fresh old new r A idle connected =
      writes_none ok old.client new.client (ap (λ (x : SendState). x.client.out) idle.2)
  idle_good stage.Connecting old new r A idle connected =
      writes_none ok old.client new.client (ap (λ (x : SendState). x.client.out) idle.2)
  idle_good stage.Closed old new r A idle connected =
      writes_none ok old.client new.client (ap (λ (x : SendState). x.client.out) idle.2)
  idle_good stage.Connected old new r A idle connected = connected refl

  module _ {H K S C : Type 0} (seen : K → Seen (Tables S C)) (sound : (k : K) → IsSound (seen k))
      (service : Service S C)
      (s : Site H K S C) (from : Mail) (t : Site H K S C) (to : Mail) (clean : (seen t.endpoint.keep).doubt ≡ 0)
      (match : AllMatch service (seen s.endpoint.keep).may_leave) (right : AreRight seen service s)
      (true_ok : (e : Envelope) → IsTrue service (seen t.endpoint.keep).may_leave e → ok e) where
    module _ (number : ConnectionNumber) (limit : ℕ) (l : SiteChannel) (is : channel_of number s ≡ Some l)
        (outcome : Outcome)
        (sends : SendsRows seen service number limit l outcome s from t to) where
      -- a row that stands is true of each content
      row_ok : l.connection.channel.client.client.stage ≡ stage.Connected → (through seen s.endpoint).usable ≡ true
          → (row : Letter)
          → (seen s.endpoint.keep).tables.unsettled row.pair row.number ≡ Some row.message → ok (envelope.Letter row)
      row_ok up usable row stands = true_ok (envelope.Letter row) (λ u may.
          let least = (sends.reads up).doubt in
          let before : (seen s.endpoint.keep).doubt ≡ 0 = omega (arith, least, clean) in
          let old = sends.keeps clean u may in
          let same : u ≡ (seen s.endpoint.keep).tables =
          (sound s.endpoint.keep).only_now before (inner_usable _ _ usable) u old in
          outbox_true service u (match u old) row
          (subst (λ (x : Tables S C). x.unsettled row.pair row.number ≡ Some row.message) (sym same) stands))

      -- whatever is sent of an outbox is good
      pub rows_good : HasWritten ok l.connection.channel.client.client.out
          → WritesGood ok l.connection.channel.client.client sends.later.connection.channel.client.client
      rows_good written =
          idle_good l.connection.channel.client.client.stage (sending l) (sending sends.later) sends.result
          (t.endpoint ≡ s.endpoint) sends.idle
          (λ up. either (cases_Bool (through seen s.endpoint).usable)
          (λ usable. filled_good (((seen t.endpoint.keep).doubt ≡ 0)
          × KnowsAll service l.relay (seen s.endpoint.keep).may_leave)
          (seen s.endpoint.keep).tables.unsettled limit (sending l) (sending sends.later) sends.result (sends.fills up)
          (clean, (match, channel_has (KnowsEach service (seen s.endpoint.keep).may_leave) number s l is right))
          (row_ok up usable) written)
          (λ down. writes_none ok l.connection.channel.client.client sends.later.connection.channel.client.client
          (ap (λ (x : SendState). x.client.out) (sends.unused down))))
