-- Examples: what is read of a service and shown.
use Rattle.std.proofs.Common.{◌≡◌, ℕ, [], ◌∷◌, length, Option, None, Result, Ok, Err, Bool, true, false, refl, ap}
use Rattle.std.proofs.Common.{arith}
use Rattle.std.specs.Prelude.{codes}
use Rattle.std.specs.Global.{Vec}
use Rattle.trade.specs.declared.commands.OrderCommand.{OrderCommand}
use Rattle.activities.specs.declared.handler.Refusal.TheVariants.{NotOpen}
use Rattle.trade.specs.Orders.{OrderState}
use Rattle.endpoint.specs.declared.fault.EndFault.{EndFault}
use Rattle.endpoint.specs.declared.fault.EndFault.TheVariants.{Business, StoreFailed, Unusable}
use Rattle.endpoint.proofs.Examples.{o1, bolts, from_order}
use Rattle.keep.specs.Failing.{through}
use Rattle.keep.specs.Law.{Reads}
use Rattle.endpoint.specs.Faults.{end_of}
use Rattle.keep.specs.Seen.{Seen}
use Rattle.keep.specs.Tables.{empty}
use Rattle.laws_stores.specs.Sight.{OrderTables}
use Rattle.schedule_mail.specs.Mails.{new_mail}
use Rattle.schedule_shows.specs.Printed.{shown_or_none, shown_order, shown_order_command, journal_lines, frame_lines}
use Rattle.schedule_text.specs.declared.outcome.Outcome.TheVariants as told
use Rattle.schedule_service.specs.declared.site.Site.{Site}
use Rattle.schedule_runner.specs.declared.looking.Listing.TheVariants.{Frames, Journal}
use Rattle.schedule_runner.specs.declared.looking.Mark.TheVariants.{Sent, Settled, Handled}
use Rattle.schedule_runner.specs.Looks.{most, mark_of, IsRow, AreListed, read_told, shown_told, ReadsSite, StoreStays}
use Rattle.schedule_runner.specs.Shows.{MayShow}
use Rattle.laws_stores.proofs.Placed.{placing}

-- ---- marks

-- tables with 5 letters sent, 4 settled and 3 handled of each pair, and the row of a journal
abbrev marked : OrderTables
marked = record empty { sent = λ _. 5; settled = λ _. 4; handled = λ _. 3; journal = placing ∷ [] }

-- each mark is its own; the limit of one read is the last number of 64 bits
marks_are_read : (mark_of Sent marked (from_order bolts) ≡ 5) × (mark_of Settled marked (from_order bolts) ≡ 4)
    × (mark_of Handled marked (from_order bolts) ≡ 3) × (most ≡ 18446744073709551615)
    × (mark_of Sent marked (from_order bolts) ≡ 4 → ⊥) × (mark_of Handled marked (from_order bolts) ≡ 5 → ⊥)
    × (most ≡ 18446744073709551616 → ⊥)
marks_are_read = (refl, refl, refl, refl, λ h. omega (arith, h), λ h. omega (arith, h), λ h. omega (arith, h))

-- ---- rows and lists

-- an order that isn't there is shown as none; another line isn't its row
rows_are_shown : IsRow (shown_or_none shown_order) o1 marked (codes "order/o1 none\n")
    × (IsRow (shown_or_none shown_order) o1 marked (codes "none\n") → ⊥)
    × (IsRow (shown_or_none shown_order) o1 marked [] → ⊥)
rows_are_shown = (refl, λ h. absurd (cc), λ h. absurd (cc))

-- the journal's rows are listed, and of an outbox without letters none; a journal without rows has no line
lists_are_shown : AreListed shown_order_command Journal marked (journal_lines shown_order_command (placing ∷ []))
    × AreListed shown_order_command Frames marked (frame_lines [])
    × (AreListed shown_order_command Journal (record marked { journal = [] }) (10 ∷ []) → ⊥)
lists_are_shown = (refl, ([], λ x after. refl, refl), λ h. let longer : 1 ≡ 0 = ap length h in omega (arith, longer))

-- ---- what is told

-- what was read is passed on, and a fault by its outcome
reads_are_told : (read_told {R = ℕ} (Ok 7) ≡ Ok 7) × (read_told {R = ℕ} (Err StoreFailed) ≡ Err (told.Refused 63))
    × (read_told {R = ℕ} (Err (Business NotOpen)) ≡ Err (told.NotDone NotOpen))
    × (read_told {R = ℕ} (Err StoreFailed) ≡ Ok 63 → ⊥)
    × (read_told {R = ℕ} (Err (Business NotOpen)) ≡ Err (told.Refused 61) → ⊥)
reads_are_told = (refl, refl, refl, λ h. absurd (cc), λ h. absurd (cc))

-- lines are shown as they are, and an outcome is that
shows_are_told : (lines : Vec ℕ) → (shown_told (Ok lines) ≡ told.Shown lines)
    × (shown_told (Err (told.Refused 63)) ≡ told.Refused 63)
    × (shown_told (Ok lines) ≡ told.Absent → ⊥) × (shown_told (Err (told.Refused 63)) ≡ told.Shown lines → ⊥)
shows_are_told lines = (refl, refl, λ h. absurd (cc), λ h. absurd (cc))

-- this line is shown and no other, or memory was refused; no other outcome shows it
lines_may_be_shown : (lines : Vec ℕ) → MayShow lines.items (told.Shown lines) × MayShow lines.items (told.Refused 64)
    × (MayShow (10 ∷ lines.items) (told.Shown lines) → ⊥) × (MayShow lines.items (told.Refused 63) → ⊥)
    × (MayShow lines.items told.Idle → ⊥)
lines_may_be_shown lines = (refl, refl, longer, λ h. omega (arith, h), λ h. h)
  where
    longer : MayShow (10 ∷ lines.items) (told.Shown lines) → ⊥
    longer h = let more : length lines.items ≡ length (10 ∷ lines.items) = ap length h in omega (arith, more)

-- ---- a service that is read

-- a store that is usable or not, with files in doubt or not
abbrev Store : Type 0
Store = Bool × ℕ

abbrev seen : Store → Seen OrderTables
seen k = record { tables = marked; may_leave = λ t. t ≡ marked; failures = 0; usable = k.0; doubt = k.1; armed = None }

abbrev gives : OrderTables → ℕ → Type 0
gives t n = n ≡ length t.journal

module _ {H : Type 0} where
  abbrev site : Store → Site H Store (Option OrderState) OrderCommand
  site k = record {
    endpoint = record { keep = k; armed = None; is_down = false; failures = 0 };
    zero = None;
    one = None;
  }

  -- the journal's one row is counted; a store that isn't usable tells that; another number isn't told of it
  services_are_read : ReadsSite {H = H} seen gives (Ok 1) (site (true, 0)) new_mail (site (true, 0)) new_mail
      × ReadsSite {H = H} seen gives (Err (told.Refused 65)) (site (false, 0)) new_mail (site (false, 0)) new_mail
      × (ReadsSite {H = H} seen gives (Ok 2) (site (true, 0)) new_mail (site (true, 0)) new_mail → ⊥)
      × (ReadsSite {H = H} seen gives (Ok 1) (site (false, 0)) new_mail (site (false, 0)) new_mail → ⊥)
  services_are_read = (
    record {
      answer = Ok 1;
      reads = record { call = (refl, refl, refl, refl); doubt = omega arith; clean = λ clean. (refl, refl) };
      tells = refl;
      after = (refl, refl);
    },
    record {
      answer = Err Unusable;
      reads = record { call = (refl, refl); doubt = omega arith; clean = λ clean. tt };
      tells = refl;
      after = (refl, refl);
    },
    λ h. two h.answer h.tells h.reads,
    λ h. unusable h.answer h.tells h.reads,
  )
    where
      two : (r : Result ℕ EndFault) → Ok 2 ≡ read_told r
          → Reads (through seen) (site (true, 0)).endpoint (site (true, 0)).endpoint gives (end_of r) → ⊥
      two (Ok n) tells reads = let is : n ≡ 2 = cc in let one = (reads.clean refl).0 in omega (arith, is, one)
      two (Err fault) tells reads = absurd (cc)

      unusable : (r : Result ℕ EndFault) → Ok 1 ≡ read_told r
          → Reads (through seen) (site (false, 0)).endpoint (site (false, 0)).endpoint gives (end_of r) → ⊥
      unusable (Ok n) tells reads = let usable = reads.call.0 in absurd (cc)
      unusable (Err fault) tells reads = absurd (cc)

  -- doubt may rise and never falls
  stores_stay : StoreStays {H = H} seen (site (true, 0)) (site (true, 1))
      × (StoreStays {H = H} seen (site (true, 1)) (site (true, 0)) → ⊥)
  stores_stay = (
    record { doubt = omega arith; stays = λ clean t left. left },
    λ h. let doubt = h.doubt in omega (arith, doubt),
  )
