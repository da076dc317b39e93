-- What holds of all states that hold for orders: it does after a message where it does after each of the four changes
-- of lines.
use Rattle.std.proofs.Common.{◌≡◌, ℕ, ◌+◌, List, Bool, true, false, refl, arith, sym, ◌∙◌, Option, Some, None}
use Rattle.std.specs.Prelude.{◌≢◌, if◌then◌else◌, ◌&&◌, is_none}
use Rattle.base.specs.Entity.{Entity}
use Rattle.base.specs.declared.entity.Kind.{Kind}
use Rattle.base.specs.declared.entity.Kind.TheVariants.{Order, Stock, Account}
use Rattle.envelope.specs.declared.message.Message.{Message}
use Rattle.envelope.specs.declared.message.Message.TheVariants.{Request, Tentative, Refused, Confirm, Cancel}
use Rattle.trade.specs.declared.line_phase.LinePhase.{LinePhase}
use Rattle.trade.specs.declared.line_phase.LinePhase.TheVariants.{Held, Done, Released}
use Rattle.trade.specs.Holding.{Holding, held_for, refused_to, finished_for, freed_for, held_by, on_request, on_held}
use Rattle.trade.specs.Holding.{on_line_message}
use Rattle.trade.specs.Lines.{Line, is_order, same_phase, line_of, with_line, with_line_phase, share_of, total}
use Rattle.trade.proofs.LineLists.{sum_by-with_phase, line_of-with_same, line_of-with_phase_same}

-- holding, refusing, finishing and freeing keep what holds of a state
pub record KeepsHolding {S : Type 0} (h : Holding S) (P : S → Type 0) : Type 0 where
  pub holds : (x : S) (s : Entity) (n : ℕ) → s.kind ≡ Order → line_of s (h.lines x) ≡ None → h.fits x n ≡ true → P x
      → P (held_for h x s n)
  pub refuses : (x : S) (s : Entity) (n : ℕ) → s.kind ≡ Order → line_of s (h.lines x) ≡ None → P x
      → P (refused_to h x s n)
  pub finishes : (x : S) (s : Entity) (n : ℕ) → held_by (line_of s (h.lines x)) ≡ Some n → P x
      → P (finished_for h x s n)
  pub frees : (x : S) (s : Entity) (n : ℕ) → held_by (line_of s (h.lines x)) ≡ Some n → P x → P (freed_for h x s n)

pub order_is : (k : Kind) → is_order k ≡ true → k ≡ Order
order_is Order h = refl
order_is Stock h = absurd (cc)
order_is Account h = absurd (cc)

pub none_is : {A : Type 0} (l : Option A) → is_none l ≡ true → l ≡ None
none_is None h = refl
none_is (Some l) h = absurd (cc)

request_kept : {S : Type 0} (h : Holding S) (P : S → Type 0) → KeepsHolding h P → (x : S) (s : Entity) (n : ℕ)
    → s.kind ≡ Order
    → line_of s (h.lines x) ≡ None → P x → P (on_request h x s n).0
request_kept h P keeps x s n kind none was = by_case (h.fits x n) refl
  where
    by_case : (t : Bool) → h.fits x n ≡ t → P (on_request h x s n).0
    by_case true e = rw e (keeps.holds x s n kind none e was)
    by_case false e = rw e (keeps.refuses x s n kind none was)

pub held_kept : {S : Type 0} (P : S → Type 0) (held : Option ℕ) (becomes : ℕ → S) (x : S)
    → ((n : ℕ) → held ≡ Some n → P (becomes n)) → P x
    → P (on_held held becomes x).0
held_kept P None becomes x keeps was = was
held_kept P (Some n) becomes x keeps was = keeps n refl

pub message_kept : {S : Type 0} (h : Holding S) (P : S → Type 0) → KeepsHolding h P → (x : S) (s : Entity) (m : Message)
    → P x
    → P (on_line_message h x s m).0
message_kept h P keeps x s (Request n) was = by_case (is_order s.kind && is_none (line_of s (h.lines x))) refl
  where
    by_case : (t : Bool) → (is_order s.kind && is_none (line_of s (h.lines x))) ≡ t
        → P (on_line_message h x s (Request n)).0
    by_case true e =
        let none : is_none (line_of s (h.lines x)) ≡ true = grind arith in
        let kind : is_order s.kind ≡ true = grind arith in
        rw e (request_kept h P keeps x s n (order_is s.kind kind) (none_is (line_of s (h.lines x)) none) was)
    by_case false e = rw e was
message_kept h P keeps x s Confirm was =
    held_kept P (held_by (line_of s (h.lines x))) (finished_for h x s) x (λ n at. keeps.finishes x s n at was) was
message_kept h P keeps x s Cancel was =
    held_kept P (held_by (line_of s (h.lines x))) (freed_for h x s) x (λ n at. keeps.frees x s n at was) was
message_kept h P keeps x s Tentative was = was
message_kept h P keeps x s Refused was = was

-- ---- the totals

-- how the totals change with a line that held so much, and no longer does
pub record Left (p : LinePhase) (o : Entity) (n : ℕ) (ls : List Line) : Type 0 where
  pub held : total Held (with_line_phase o p ls) + n ≡ total Held ls
  pub done : total Done (with_line_phase o p ls) ≡ total Done ls + (if same_phase Done p then n else 0)

is_held : (p : LinePhase) → same_phase Held p ≡ true → p ≡ Held
is_held Held h = refl
is_held LinePhase.Refused h = absurd (cc)
is_held Done h = absurd (cc)
is_held Released h = absurd (cc)

left_from : (p : LinePhase) (o : Entity) (l : Line) (ls : List Line) → line_of o ls ≡ Some l
    → same_phase Held l.phase ≡ true
    → same_phase Held p ≡ false → Left p o l.n ls
left_from p o l ls at held none =
    let h = sum_by-with_phase (share_of Held) p o l ls at in
    let d = sum_by-with_phase (share_of Done) p o l ls at in
    let is : l.phase ≡ Held = is_held l.phase held in
    let a : share_of Held l ≡ l.n = rw held in
    let b : share_of Done l ≡ 0 = rw is in
    let no_more : share_of Held (record l { phase = p }) ≡ 0 = rw none in
    record { held = omega arith; done = omega arith }

pub left : (p : LinePhase) (o : Entity) (n : ℕ) (ls : List Line) → held_by (line_of o ls) ≡ Some n
    → same_phase Held p ≡ false → Left p o n ls
left p o n ls held none = by_line (line_of o ls) refl held
  where
    by_phase : (l : Line) (t : Bool) → same_phase Held l.phase ≡ t → line_of o ls ≡ Some l
        → (if t then Some l.n else None) ≡ Some n
        → Left p o n ls
    by_phase l true e at is = let same : l.n ≡ n = cc in rw (← same) (left_from p o l ls at e none)
    by_phase l false e at is = absurd (cc)

    by_line : (l : Option Line) → line_of o ls ≡ l → held_by l ≡ Some n → Left p o n ls
    by_line None at is = absurd (cc)
    by_line (Some l) at is = by_phase l (same_phase Held l.phase) refl at is

-- ---- which lines change

-- one more line, for an order that had none
pub line_changes : (l : Line) (ls : List Line) → line_of l.order ls ≡ None → with_line l ls ≢ ls
line_changes l ls none same = let some = line_of-with_same l ls none in let still = rw same at some in cc

-- what was held no longer is
pub phase_changes : (p : LinePhase) (o : Entity) (n : ℕ) (ls : List Line) → held_by (line_of o ls) ≡ Some n
    → same_phase Held p ≡ false → with_line_phase o p ls ≢ ls
phase_changes p o n ls held none same = by_line (line_of o ls) refl held
  where
    by_line : (l : Option Line) → line_of o ls ≡ l → held_by l ≡ Some n → ⊥
    by_line None at is = cc
    by_line (Some l) at is =
        let there : line_of o ls ≡ Some (record l { phase = p }) = rw same at (line_of-with_phase_same o p l ls at) in
        let still = rw there at held in
        let no_more : held_by (Some (record l { phase = p })) ≡ None = rw none refl in
        cc

-- the lines that a state is given are its lines
abbrev pub IsGiven : {S : Type 0} → Holding S → Type 0
IsGiven {S} h = (x : S) (ls : List Line) → h.lines (h.with_lines x ls) ≡ ls

-- a request of an order without a line changes the lines
pub request_changes : {S : Type 0} (h : Holding S) → IsGiven h → (x : S) (o : Entity) (n : ℕ)
    → line_of o (h.lines x) ≡ None
    → h.lines (on_request h x o n).0 ≢ h.lines x
request_changes h given x o n none same = by_case (h.fits x n) refl
  where
    by_case : (t : Bool) → h.fits x n ≡ t → ⊥
    by_case true e = line_changes _ _ none (sym (given _ _) ∙ rw e at same)
    by_case false e = line_changes _ _ none (sym (given _ _) ∙ rw e at same)

-- to finish what is held changes the lines
pub finish_changes : {S : Type 0} (h : Holding S) → IsGiven h → (x : S) (o : Entity) (n : ℕ)
    → held_by (line_of o (h.lines x)) ≡ Some n
    → h.lines (finished_for h x o n) ≢ h.lines x
finish_changes h given x o n held same = phase_changes Done o n (h.lines x) held refl (sym (given _ _) ∙ same)

-- to free what is held changes the lines
pub free_changes : {S : Type 0} (h : Holding S) → IsGiven h → (x : S) (o : Entity) (n : ℕ)
    → held_by (line_of o (h.lines x)) ≡ Some n
    → h.lines (freed_for h x o n) ≢ h.lines x
free_changes h given x o n held same = phase_changes Released o n (h.lines x) held refl (sym (given _ _) ∙ same)
