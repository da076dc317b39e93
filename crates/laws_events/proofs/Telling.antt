-- What a client settles was handled.
use Rattle.std.proofs.Common.{◌≡◌, ℕ, suc, ◌≤◌, Bool, true, false, [], Option, Some, None, Result, Ok, Err}
use Rattle.std.proofs.Common.{refl, sym, ap, subst, arith}
use Rattle.std.specs.Prelude.{◌&&◌, IsSome, nat_lt, nat_le, if◌then◌else◌}
use Rattle.std.proofs.lemmas.Bool.{ltb-true, leb-true}
use Rattle.base.specs.Number.{IsNumber, is_number}
use Rattle.base.specs.declared.limits.TheConstants.{MAX_NUMBER}
use Rattle.envelope.proofs.Finding.{both}
use Rattle.stomp_frame.specs.Frames.{Content}
use Rattle.stomp_client.specs.Clients.{Client}
use Rattle.stomp_client.specs.declared.session.Stage.{Stage}
use Rattle.stomp_client.specs.declared.session.Stage.TheVariants as stage
use Rattle.envelope.specs.Reading.{read_frame}
use Rattle.envelope.specs.declared.message.Envelope.{Envelope}
use Rattle.envelope.specs.declared.message.Envelope.TheVariants as envelope
use Rattle.envelope.specs.declared.message.Letter.{Letter}
use Rattle.activities.specs.Journal.{handled_of}
use Rattle.activities.specs.Service.{Service}
use Rattle.keep.specs.Failing.{Failing, through}
use Rattle.keep.specs.Seen.{Seen, IsSound}
use Rattle.keep.specs.Tables.{Tables}
use Rattle.endpoint.specs.Calls.{ComesBy}
use Rattle.endpoint.specs.Deeds.{kept}
use Rattle.endpoint.specs.Matches.{AllMatch}
use Rattle.reception.specs.Deeds.{TakeMay, TellsOfUse}
use Rattle.reception.specs.Draining.{DrainsMay, TellsOfDraining, DrainWrites, settle_after}
use Rattle.reception.specs.Replies.{Writes}
use Rattle.reception.specs.declared.fault.ReceptionFault.{ReceptionFault}
use Rattle.reception.specs.declared.taken.Drained.{Drained}
use Rattle.reception.specs.declared.taken.Taken.{Taken}
use Rattle.reception.specs.declared.taken.Taken.TheVariants.{Connected, Receipt, Handled, Repeated, Held, Settled}
use Rattle.reception.specs.declared.taken.Taken.TheVariants.{Error}
use Rattle.laws_events.specs.Writing.{IsTrue}
use Rattle.laws_stores.proofs.Writing.{handled_true, repeated_true, drained_true}
use Rattle.laws_events.proofs.Replying.{MaySettle, WritesGood, letter_written, writes_none, writes_these}
use Rattle.laws_events.proofs.Settling.{settle_good}

one_letter : (o : Option Envelope) (l k : Letter) → o ≡ Some (envelope.Letter l) → o ≡ Some (envelope.Letter k) → l ≡ k
one_letter o l k a b = cc

-- ---- how far a letter that came again is settled

again_low : (n handled : ℕ) (b : Bool) → n ≤ handled → (if b then handled else n) ≤ handled
again_low n handled true low = omega arith
again_low n handled false low = low

again_number : (n handled : ℕ) (b : Bool) → is_number handled ≡ b → IsNumber n → IsNumber (if b then handled else n)
again_number n handled true e is =
    let parts = both (nat_lt 0 handled) (nat_le handled MAX_NUMBER) e in
    record { positive = ltb-true 0 handled parts.0; small = leb-true handled MAX_NUMBER parts.1 }
again_number n handled false e is = is

-- ---- a store that may fail on purpose is usable only where the store is

pub inner_usable : (a b : Bool) → (a && b) ≡ true → b ≡ true
inner_usable true b e = e
inner_usable false b e = let z : false ≡ true = e in cc

module _ {K S C : Type 0} (ok : Envelope → Type 0) (seen : K → Seen (Tables S C)) (sound : (k : K) → IsSound (seen k))
    (service : Service S C) (old new : Failing K) (clean : (seen new.keep).doubt ≡ 0)
    (match : AllMatch service (seen old.keep).may_leave)
    (true_ok : (e : Envelope) → IsTrue service (seen new.keep).may_leave e → ok e) where
  -- what a store that was used leaves is its tables
  stands : (through seen new).usable ≡ true → (seen new.keep).may_leave (seen new.keep).tables
  stands usable = (sound new.keep).stays clean (inner_usable _ _ usable)

  handled_ok : (f : Content) (position : ℕ)
      → ComesBy (through seen) old new service (TakeMay service f (Ok (Handled position)))
      → (l : Letter) → read_frame f ≡ Some (envelope.Letter l) → ok (envelope.Settle l.pair l.number)
  handled_ok f position comes l read = true_ok (envelope.Settle l.pair l.number) (λ u may.
      let c = comes clean match u may in
      let same : c.may.0 ≡ l = one_letter (read_frame f) c.may.0 l c.may.1 read in
      let here = handled_true service (kept c.before) (kept u) c.deed c.did c.may.0 position c.may.2 in
      subst (λ (x : Letter). x.number ≤ handled_of u.journal x.pair) same here)

  again_ok : (f : Content) (number : ℕ)
      → ComesBy (through seen) old new service (TakeMay service f (Ok (Repeated number))) → (l : Letter)
      → read_frame f ≡ Some (envelope.Letter l) → ok (envelope.Settle l.pair number)
  again_ok f number comes l read = true_ok (envelope.Settle l.pair number) (λ u may.
      let c = comes clean match u may in
      let rows = (kept c.before).journal in
      let same : c.may.0 ≡ l = one_letter (read_frame f) c.may.0 l c.may.1 read in
      let low = again_low c.may.0.number (handled_of rows c.may.0.pair) (is_number (handled_of rows c.may.0.pair))
      c.may.2.1 in
      let there : number ≤ handled_of rows c.may.0.pair =
      subst (λ k. k ≤ handled_of rows c.may.0.pair) (sym c.may.3) low in
      repeated_true service (kept c.before) (kept u) c.deed c.did l.pair number
      (subst (λ (x : Letter). number ≤ handled_of rows x.pair) same there))

  again_is : (f : Content) (number : ℕ)
      → ComesBy (through seen) old new service (TakeMay service f (Ok (Repeated number)))
      → (through seen new).usable ≡ true → IsNumber number
  again_is f number comes usable =
      let c = comes clean match (seen new.keep).tables (stands usable) in
      let handled = handled_of (kept c.before).journal c.may.0.pair in
      subst IsNumber (sym c.may.3)
      (again_number c.may.0.number handled (is_number handled) refl (letter_written f c.may.0 c.may.1).numbered.number)

  -- what is settled behind a frame
  pub settles_ok : (f : Content) (r : Result Taken ReceptionFault)
      → ComesBy (through seen) old new service (TakeMay service f r)
      → TellsOfUse (through seen) service.kind f old new r → MaySettle ok f r
  settles_ok f (Ok (Handled position)) comes used = handled_ok f position comes
  settles_ok f (Ok (Repeated number)) comes used =
      λ l read. (again_is f number comes used.0.1, again_ok f number comes l read)
  settles_ok f (Ok Connected) comes used = tt
  settles_ok f (Ok (Receipt number)) comes used = tt
  settles_ok f (Ok Held) comes used = tt
  settles_ok f (Ok (Settled mark)) comes used = tt
  settles_ok f (Ok (Error text)) comes used = tt
  settles_ok f (Err fault) comes used = tt

  -- ---- a held letter that was handled

  module _ (drained : Drained) (comes : ComesBy (through seen) old new service (DrainsMay service (Ok (Some drained))))
    where
      drained_ok : ok (envelope.Settle drained.pair drained.number)
      drained_ok = true_ok (envelope.Settle drained.pair drained.number) (λ u may.
          let c = comes clean match u may in
          drained_true service (kept c.before) (kept u) c.deed c.did drained.pair drained.number c.may.1)

      drained_is : (through seen new).usable ≡ true → IsNumber drained.number
      drained_is usable =
          let c = comes clean match (seen new.keep).tables (stands usable) in
          let next : drained.number ≡ suc (handled_of c.before.journal drained.pair) = c.may.1.0 in
          let held = (match c.before c.was).held drained.pair (suc (handled_of c.before.journal drained.pair))
          (subst IsSome (sym c.may.1.1.1) refl) in
          let within = held.within in
          record { positive = omega (arith, next); small = omega (arith, next, within) }

      drained_good : (at : Stage) (was now : Client ℕ) → Writes (settle_after at drained) was now
          → (through seen new).usable ≡ true
          → WritesGood ok was now
      drained_good stage.Connected was now writes usable =
          writes_these ok (settle_after stage.Connected drained) was now
          (settle_good ok drained.pair drained.number (drained_is usable) drained_ok writes.each.0, tt) writes
      drained_good stage.Fresh was now writes usable = writes_these ok [] was now tt writes
      drained_good stage.Connecting was now writes usable = writes_these ok [] was now tt writes
      drained_good stage.Closed was now writes usable = writes_these ok [] was now tt writes

  -- what is written then
  pub drains_good : (r : Result (Option Drained) ReceptionFault) (was now : Client ℕ) → DrainWrites was now r
      → ComesBy (through seen) old new service (DrainsMay service r) → TellsOfDraining (through seen) old new r
      → WritesGood ok was now
  drains_good (Ok (Some drained)) was now writes comes used = drained_good drained comes was.stage was now writes used.1
  drains_good (Ok None) was now writes comes used = writes_none ok was now (ap (λ (c : Client ℕ). c.out) writes)
  drains_good (Err fault) was now writes comes used = writes_none ok was now (ap (λ (c : Client ℕ). c.out) writes.1)
