-- What a message changes of the lines of a stock or an account: those of its sender alone.
use Rattle.std.proofs.Common.{◌≡◌, ℕ, List, [], ◌∷◌, Bool, true, false, refl, ap, sym, ◌∙◌, arith, Option, Some, None}
use Rattle.std.specs.Prelude.{map, ◌&&◌, ◌||◌, ◌==◌, ◌+◌, nat_lt, is_none, Result, Ok, Err}
use Rattle.std.specs.Cmp.Lexicographic.{slice_cmp}
use Rattle.std.specs.List.{AllByRecursion}
use Rattle.std.specs.List.Sorted.{IsStrictlySortedBy}
use Rattle.std.specs.Ordering.{nat_cmp}
use Rattle.std.specs.declared.cmp.Ordering.TheVariants.{Less, Greater}
use Rattle.std.proofs.lemmas.Cmp.{nat_list_cmp_total}
use Rattle.base.specs.Entity.{Entity}
use Rattle.base.specs.Order.{same_entity}
use Rattle.envelope.specs.declared.message.Message.{Message}
use Rattle.envelope.specs.declared.message.Message.TheVariants.{Request, Tentative, Refused, Confirm, Cancel}
use Rattle.activities.specs.declared.input.Input.{Input}
use Rattle.activities.specs.declared.input.Input.TheVariants.{FromSeat, FromEntity}
use Rattle.activities.specs.declared.outs.Out.{Out}
use Rattle.activities.specs.declared.handler.Refusal.{Refusal}
use Rattle.activities.specs.declared.handler.Refusal.TheVariants.{OutOfRange, BelowUse}
use Rattle.activities.specs.Reaction.{react}
use Rattle.activities.specs.Rows.{sender_of}
use Rattle.activities.proofs.Sameness.{either, same_entity-tells}
use Rattle.trade.specs.declared.commands.StockCommand.{StockCommand}
use Rattle.trade.specs.declared.commands.StockCommand.TheVariants.{Receive}
use Rattle.trade.specs.declared.commands.AccountCommand.{AccountCommand}
use Rattle.trade.specs.declared.commands.AccountCommand.TheVariants.{SetLimit}
use Rattle.trade.specs.declared.line_phase.LinePhase.{LinePhase}
use Rattle.trade.specs.declared.line_phase.LinePhase.TheVariants.{Held, Done, Released}
use Rattle.trade.specs.Accounts.{AccountState, account_reactions, account_holding}
use Rattle.trade.specs.Following.{without, put_line, LinesFollow}
use Rattle.trade.specs.Holding.{Holding, held_by, finished_for, freed_for, on_request, on_line_message}
use Rattle.trade.specs.Lines.{Line, is_order, line_of, is_before, with_line, with_line_phase}
use Rattle.trade.specs.Sound.{AreLinesSound, HasOneLineEach}
use Rattle.trade.specs.Stocks.{StockState, stock_reactions, stock_holding}
use Rattle.trade.proofs.Holdings.{IsGiven, held_kept, none_is}
use Rattle.trade.proofs.LineLists.{line_of-with_same, line_of-with_phase_same, lines_sound-with_phase}

-- ---- a line is taken out and put back

-- an order without a line
without-none : (o : Entity) (ls : List Line) → line_of o ls ≡ None → without o ls ≡ ls
without-none o [] h = refl
without-none o (l ∷ ls) h = by_case (same_entity o l.order) refl (without-none o ls)
  where
    by_case : (t : Bool) → same_entity o l.order ≡ t → (line_of o ls ≡ None → without o ls ≡ ls)
        → without o (l ∷ ls) ≡ l ∷ ls
    by_case true e rest = let some : line_of o (l ∷ ls) ≡ Some l = rw e refl in absurd (cc)
    by_case false e rest = rw e (ap (λ ks. l ∷ ks) (rest (rw e at h)))

-- another phase doesn't count for a line that is taken out
without-phase : (o : Entity) (p : LinePhase) (ls : List Line) → without o (with_line_phase o p ls) ≡ without o ls
without-phase o p [] = refl
without-phase o p (l ∷ ls) = by_case (same_entity o l.order) refl (without-phase o p ls)
  where
    by_case : (t : Bool) → same_entity o l.order ≡ t → without o (with_line_phase o p ls) ≡ without o ls
        → without o (with_line_phase o p (l ∷ ls)) ≡ without o (l ∷ ls)
    by_case true e rest = rw (e, e) refl
    by_case false e rest = rw (e, e) (ap (λ ks. l ∷ ks) rest)

same_is : (a b : Entity) → same_entity a b ≡ true → a ≡ b
same_is a b e = either (same_entity-tells a b) (λ h. h.1) (λ h. absurd (cc))

-- the line of an order is for it
line_of-order : (o : Entity) (ls : List Line) (l : Line) → line_of o ls ≡ Some l → l.order ≡ o
line_of-order o [] l h = absurd (cc)
line_of-order o (k ∷ ks) l h = by_case (same_entity o k.order) refl (line_of-order o ks l)
  where
    by_case : (t : Bool) → same_entity o k.order ≡ t → (line_of o ks ≡ Some l → l.order ≡ o) → l.order ≡ o
    by_case true e rest =
        let there : Some k ≡ Some l = rw e at h in
        let is : k ≡ l = cc in
        rw (← is) (sym (same_is o k.order e))
    by_case false e rest = rest (rw e at h)

abbrev key : Line → List ℕ
key l = l.order.key

abbrev AllBehind : List ℕ → List Line → Type 0
AllBehind a ls = AllByRecursion (λ k. slice_cmp nat_cmp a k ≡ Less) (map key ls)

-- before lines that are all behind it, a line comes first
with_line-first : (l : Line) (ls : List Line) → AllBehind (key l) ls → with_line l ls ≡ l ∷ ls
unfolding is_before
with_line-first l [] h = refl
with_line-first l (k ∷ ks) h = rw h.0 refl

-- what is before all lines is before that of an order
line_of-behind : (a : List ℕ) (o : Entity) (ls : List Line) (l : Line) → line_of o ls ≡ Some l → AllBehind a ls
    → slice_cmp nat_cmp a o.key ≡ Less
line_of-behind a o [] l h all = absurd (cc)
line_of-behind a o (k ∷ ks) l h all = by_case (same_entity o k.order) refl (λ at. line_of-behind a o ks l at all.1)
  where
    by_case : (t : Bool) → same_entity o k.order ≡ t → (line_of o ks ≡ Some l → slice_cmp nat_cmp a o.key ≡ Less)
        → slice_cmp nat_cmp a o.key ≡ Less
    by_case true e rest = rw (same_is o k.order e) all.0
    by_case false e rest = rest (rw e at h)

not_before : (a b : Entity) → slice_cmp nat_cmp b.key a.key ≡ Less → is_before a b ≡ false
unfolding is_before
not_before a b h =
    let back : slice_cmp nat_cmp a.key b.key ≡ Greater = nat_list_cmp_total.antisymm a.key b.key ∙ rw h refl in
    rw back refl

-- lines in order, one an order: a line that is taken out goes back to its place
put_back : (o : Entity) (l : Line) (ls : List Line) → HasOneLineEach ls
    → IsStrictlySortedBy (slice_cmp nat_cmp) (map key ls) → line_of o ls ≡ Some l
    → with_line l (without o ls) ≡ ls
unfolding IsStrictlySortedBy
put_back o l [] one sorted h = absurd (cc)
put_back o l (k ∷ ks) one sorted h = by_case (same_entity o k.order) refl (put_back o l ks one.1 sorted.1)
  where
    by_case : (t : Bool) → same_entity o k.order ≡ t → (line_of o ks ≡ Some l → with_line l (without o ks) ≡ ks)
        → with_line l (without o (k ∷ ks)) ≡ k ∷ ks
    by_case true e rest =
        let there : Some k ≡ Some l = rw e at h in
        let is : k ≡ l = cc in
        let none : line_of o ks ≡ None = rw (same_is o k.order e) one.0 in
        rw (e, without-none o ks none, ← is) (with_line-first k ks sorted.0)
    by_case false e rest =
        let there : line_of o ks ≡ Some l = rw e at h in
        let later : is_before l.order k.order ≡ false = rw (line_of-order o ks l there)
        (not_before o k.order (line_of-behind (key k) o ks l there sorted.0)) in
        rw (e, later) (ap (λ ls. k ∷ ls) (rest there))

-- ---- what follows lines

follows-line : (s : Entity) (old new : List Line) (l : Line) → AreLinesSound new → without s new ≡ without s old
    → line_of s new ≡ Some l → new ≡ put_line (line_of s new) old
follows-line s old new l sound same at =
    let back : with_line l (without s new) ≡ new = put_back s l new sound.one_each sound.in_order at in
    let out : without l.order old ≡ without s new = ap (λ o. without o old) (line_of-order s new l at) ∙ sym same in
    rw (at, out) (sym back)

-- the lines as they were
follows-same : (s : Entity) (ls : List Line) → LinesFollow (Some s) ls ls
follows-same s ls sound = by_line (line_of s ls) refl
  where
    by_line : (l : Option Line) → line_of s ls ≡ l → ls ≡ put_line (line_of s ls) ls
    by_line None at = rw at refl
    by_line (Some l) at = follows-line s ls ls l sound refl at

-- one more, for an order that had none
follows-with : (l : Line) (ls : List Line) → line_of l.order ls ≡ None → LinesFollow (Some l.order) ls (with_line l ls)
follows-with l ls none sound = rw (line_of-with_same l ls none, without-none l.order ls none) refl

-- another phase for what was held
follows-phase : (p : LinePhase) (s : Entity) (n : ℕ) (ls : List Line) → held_by (line_of s ls) ≡ Some n
    → LinesFollow (Some s) ls (with_line_phase s p ls)
follows-phase p s n ls held sound = by_line (line_of s ls) refl held
  where
    by_line : (l : Option Line) → line_of s ls ≡ l → held_by l ≡ Some n
        → with_line_phase s p ls ≡ put_line (line_of s (with_line_phase s p ls)) ls
    by_line None at is = absurd (cc)
    by_line (Some l) at is = follows-line s ls (with_line_phase s p ls) (record l { phase = p })
        (lines_sound-with_phase s p ls sound) (without-phase s p ls) (line_of-with_phase_same s p l ls at)

-- ---- what follows states

request_follows : {S : Type 0} (h : Holding S) → IsGiven h → (x : S) (s : Entity) (n : ℕ)
    → line_of s (h.lines x) ≡ None
    → LinesFollow (Some s) (h.lines x) (h.lines (on_request h x s n).0)
request_follows h given x s n none = by_case (h.fits x n) refl
  where
    by_case : (t : Bool) → h.fits x n ≡ t → LinesFollow (Some s) (h.lines x) (h.lines (on_request h x s n).0)
    by_case true e = rw (e, given _ _)
        (follows-with (record { order = s; n = n; phase = Held }) (h.lines x) none)
    by_case false e = rw (e, given _ _)
        (follows-with (record { order = s; n = n; phase = LinePhase.Refused }) (h.lines x) none)

-- of all that hold for orders, whose lines are those that they are given
pub message_follows : {S : Type 0} (h : Holding S) → IsGiven h → (x : S) (s : Entity) (m : Message)
    → LinesFollow (Some s) (h.lines x) (h.lines (on_line_message h x s m).0)
message_follows h given x s (Request n) = by_case (is_order s.kind && is_none (line_of s (h.lines x))) refl
  where
    by_case : (t : Bool) → (is_order s.kind && is_none (line_of s (h.lines x))) ≡ t
        → LinesFollow (Some s) (h.lines x) (h.lines (on_line_message h x s (Request n)).0)
    by_case true e =
        let none : is_none (line_of s (h.lines x)) ≡ true = grind arith in
        rw e (request_follows h given x s n (none_is (line_of s (h.lines x)) none))
    by_case false e = rw e (follows-same s (h.lines x))
message_follows h given x s Confirm =
    held_kept (λ y. LinesFollow (Some s) (h.lines x) (h.lines y)) (held_by (line_of s (h.lines x))) (finished_for h x s) x
    (λ n at. rw (given _ _) (follows-phase Done s n (h.lines x) at))
    (follows-same s (h.lines x))
message_follows h given x s Cancel =
    held_kept (λ y. LinesFollow (Some s) (h.lines x) (h.lines y)) (held_by (line_of s (h.lines x))) (freed_for h x s) x
    (λ n at. rw (given _ _) (follows-phase Released s n (h.lines x) at))
    (follows-same s (h.lines x))
message_follows h given x s Tentative = follows-same s (h.lines x)
message_follows h given x s Refused = follows-same s (h.lines x)

lines_of : {S : Type 0} (lines : S → List Line) (made done : S × List Out)
    → ◌≡◌ {A = Result (S × List Out) Refusal} (Ok made) (Ok done) → lines done.0 ≡ lines made.0
lines_of lines made done is = let same : made ≡ done = cc in rw (← same) refl

-- stocks
pub stocks_follow : (old : StockState) (input : Input StockCommand) (done : StockState × List Out)
    → react stock_reactions old input ≡ Ok done → LinesFollow (sender_of input) old.lines done.0.lines
stocks_follow old (FromSeat seat (Receive n)) done is =
    by_case (n == 0 || nat_lt 1099511627776 (old.received + n)) refl
  where
    by_case : (t : Bool) → (n == 0 || nat_lt 1099511627776 (old.received + n)) ≡ t → done.0.lines ≡ old.lines
    by_case true e = let none : Err OutOfRange ≡ Ok done = rw e at is in absurd (cc)
    by_case false e = lines_of (λ x. x.lines) _ done (rw e at is)
stocks_follow old (FromEntity s number m) done is =
    let same : on_line_message stock_holding old s m ≡ done = cc in
    rw (← same) (message_follows stock_holding (λ x ls. refl) old s m)

-- accounts
pub accounts_follow : (old : AccountState) (input : Input AccountCommand) (done : AccountState × List Out)
    → react account_reactions old input ≡ Ok done → LinesFollow (sender_of input) old.lines done.0.lines
accounts_follow old (FromSeat seat (SetLimit n)) done is =
    by_case (nat_lt 1099511627776 n) (nat_lt n (old.billed + old.held)) refl refl
  where
    by_case : (t u : Bool) → nat_lt 1099511627776 n ≡ t → nat_lt n (old.billed + old.held) ≡ u
        → done.0.lines ≡ old.lines
    by_case true u e f = let none : Err OutOfRange ≡ Ok done = rw e at is in absurd (cc)
    by_case false true e f = let none : Err BelowUse ≡ Ok done = rw (e, f) at is in absurd (cc)
    by_case false false e f = lines_of (λ x. x.lines) _ done (rw (e, f) at is)
accounts_follow old (FromEntity s number m) done is =
    let same : on_line_message account_holding old s m ≡ done = cc in
    rw (← same) (message_follows account_holding (λ x ls. refl) old s m)
