-- What stocks and accounts do alike: they hold what orders ask for, with a line for each order that asked, until it is
-- finished or freed.
use Rattle.std.specs.Prelude.{◌≡◌, ◌≢◌, ℕ, Bool, ◌&&◌, is_none, List, [], ◌++◌, Option, Some, None, Result, Ok, Err}
use Rattle.std.specs.Prelude.{if◌then◌else◌}
use Rattle.std.specs.declared.alloc.AllocError.{AllocError}
use Rattle.base.specs.Entity.{Entity}
use Rattle.envelope.specs.declared.message.Message.{Message}
use Rattle.envelope.specs.declared.message.Message.TheVariants.{Request, Tentative, Refused, Confirm, Cancel}
use Rattle.activities.specs.declared.handler.Refusal.{Refusal}
use Rattle.activities.specs.declared.outs.Out.{Out}
use Rattle.trade.specs.declared.line_phase.LinePhase.{LinePhase}
use Rattle.trade.specs.declared.line_phase.LinePhase.TheVariants.{Held, Done, Released}
use Rattle.trade.specs.Lines.{Line, is_order, line_of, with_line, with_line_phase, same_phase}
use Rattle.activities.specs.Reaction.{reply}

-- how states hold for orders: their lines, whether so much more fits, and what a state is where so much more is held,
-- where so much of what is held is finished, where it is free again, and with other lines
pub record Holding (S : Type 0) : Type 0 where
  pub lines : S → List Line
  pub with_lines : S → List Line → S
  pub fits : S → ℕ → Bool
  pub hold : S → ℕ → S
  pub finish : S → ℕ → S
  pub free : S → ℕ → S

-- so much is held for an order
abbrev pub held_for : {S : Type 0} → Holding S → S → Entity → ℕ → S
held_for h x order n = h.with_lines (h.hold x n) (with_line (record { order = order; n = n; phase = Held }) (h.lines x))

-- so much is refused to an order
abbrev pub refused_to : {S : Type 0} → Holding S → S → Entity → ℕ → S
refused_to h x order n =
    h.with_lines x (with_line (record { order = order; n = n; phase = LinePhase.Refused }) (h.lines x))

-- so much that is held for an order is finished
abbrev pub finished_for : {S : Type 0} → Holding S → S → Entity → ℕ → S
finished_for h x order n = h.with_lines (h.finish x n) (with_line_phase order Done (h.lines x))

-- so much that is held for an order is free again
abbrev pub freed_for : {S : Type 0} → Holding S → S → Entity → ℕ → S
freed_for h x order n = h.with_lines (h.free x n) (with_line_phase order Released (h.lines x))

-- how much a line holds, where it holds something
abbrev pub held_by : Option Line → Option ℕ
held_by None = None
held_by (Some l) = if same_phase Held l.phase then Some l.n else None

-- an order without a line asks: so much is held, or refused where it doesn't fit
abbrev pub on_request : {S : Type 0} → Holding S → S → Entity → ℕ → S × List Out
on_request h x s n = if h.fits x n then (held_for h x s n, reply s Tentative) else (refused_to h x s n, reply s Refused)

-- what is held goes one way; where nothing is held, nothing changes
abbrev pub on_held : {S : Type 0} → Option ℕ → (ℕ → S) → S → S × List Out
on_held None becomes x = (x, [])
on_held (Some n) becomes x = (becomes n, [])

-- a request counts from an order without a line, a confirm and a cancel go to the sender's line; anything else changes
-- nothing
abbrev pub on_line_message : {S : Type 0} → Holding S → S → Entity → Message → S × List Out
on_line_message h x s (Request n) =
    if is_order s.kind && is_none (line_of s (h.lines x)) then on_request h x s n else (x, [])
on_line_message h x s Confirm = on_held (held_by (line_of s (h.lines x))) (finished_for h x s) x
on_line_message h x s Cancel = on_held (held_by (line_of s (h.lines x))) (freed_for h x s) x
on_line_message h x s m = (x, [])

-- the reaction changes the lines; a refusal doesn't
abbrev pub ChangesLines : {S : Type 0} → Holding S → S → Result (S × List Out) Refusal → Type 0
ChangesLines h old (Ok done) = h.lines done.0 ≢ h.lines old
ChangesLines h old (Err refusal) = ⊥

-- the state is the one after a message, and what that sends is behind the outs; or memory was refused for the lines that
-- the message changes, and all is as before
abbrev pub IsTaken : {S : Type 0} → Holding S → S × List Out → S → List Out → S → List Out → Result Unit AllocError
    → Type 0
IsTaken h does old before new outs (Ok _) = (new ≡ does.0) × (outs ≡ before ++ does.1)
IsTaken h does old before new outs (Err _) = (new ≡ old) × (outs ≡ before) × ChangesLines h old (Ok does)
