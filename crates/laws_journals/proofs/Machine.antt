-- A machine of actions, by which the examples compute: what each does is a step, or nothing.
use Rattle.std.proofs.Common.{◌≡◌, ℕ, zero, suc, ◌≤◌, List, [], ◌∷◌, ◌++◌, Bool, true, false, ◌⊎◌, ◌≢◌, refl, ap, arith}
use Rattle.std.proofs.Common.{inl, inr, Option}
use Rattle.std.proofs.Common.{Some, None, Result, Ok, Err, length}
use Rattle.std.specs.Prelude.{Contains, slice_get, max, ◌==◌, nat_le, nat_lt, if◌then◌else◌}
use Rattle.std.proofs.lemmas.Bool.Decides.{nat_tests}
use Rattle.base.specs.Entity.{Entity, order_of, stock_of, account_of}
use Rattle.base.specs.Order.{same_pair}
use Rattle.base.specs.declared.entity.Kind.{Kind}
use Rattle.base.specs.declared.entity.Kind.TheVariants.{Order, Stock, Account}
use Rattle.base.specs.declared.limits.TheConstants.{SEATS}
use Rattle.base.specs.declared.pair.Pair.{Pair}
use Rattle.base.proofs.Entities.{same_pair-Decides}
use Rattle.envelope.specs.declared.message.Message.{Message}
use Rattle.envelope.specs.declared.message.Letter.{Letter as LetterOf}
use Rattle.envelope.specs.declared.message.Envelope.{Envelope}
use Rattle.envelope.specs.declared.message.Envelope.TheVariants.{Letter, Settle}
use Rattle.trade.specs.declared.commands.OrderCommand.{OrderCommand}
use Rattle.trade.specs.declared.commands.StockCommand.{StockCommand}
use Rattle.trade.specs.declared.commands.AccountCommand.{AccountCommand}
use Rattle.activities.specs.declared.handler.Refusal.{Refusal}
use Rattle.activities.specs.declared.input.Input.TheVariants.{FromSeat, FromEntity}
use Rattle.activities.specs.declared.input.JournalRow.{JournalRow}
use Rattle.activities.specs.declared.outs.Out.{Out}
use Rattle.activities.specs.Reaction.{Reactions, react}
use Rattle.activities.specs.Journal.{state_of}
use Rattle.activities.specs.Follow.{MayFollow}
use Rattle.activities.specs.Numbered.{nth}
use Rattle.trade.specs.Orders.{order_reactions}
use Rattle.trade.specs.Stocks.{stock_reactions}
use Rattle.trade.specs.Accounts.{account_reactions}
use Rattle.activities.proofs.Sameness.{either}
use Rattle.activities.proofs.Journals.{command_row}
use Rattle.laws_journals.specs.Journals.{Journals, sent_in, letters_by, handled_in}
use Rattle.laws_journals.specs.Envelopes.{Raises}
use Rattle.laws_journals.specs.Growth.{AddsRowFrom, AddsOrder, AddsStock, AddsAccount}
use Rattle.laws_journals.specs.Steps.{Configuration, ConfigurationStep, Writes, Marks, Sends, Reaches}

-- a seat's command to an entity, an envelope that a service sends (again), or one that arrives, told by its place among
-- those that were sent, where the newest is 0
pub data Action : Type 0 where
  ToOrder : (key : List ℕ) → (seat : ℕ) → OrderCommand → Action
  ToStock : (key : List ℕ) → (seat : ℕ) → StockCommand → Action
  ToAccount : (key : List ℕ) → (seat : ℕ) → AccountCommand → Action
  SendsLetter : Pair → (number : ℕ) → Action
  SendsSettle : Pair → Action
  Arrives : (which : ℕ) → Action

-- the rows with one more, unless it is refused
abbrev pub unless_refused : {S C : Type 0} → Result (S × List Out) Refusal → List (JournalRow C) → JournalRow C
    → List (JournalRow C)
unless_refused (Ok done) rows row = rows ++ row ∷ []
unless_refused (Err refusal) rows row = rows

-- a journal after a command, from one of the seats 0 to 15
abbrev pub with_command : {S C : Type 0} → Reactions S C → Entity → ℕ → C → List (JournalRow C) → List (JournalRow C)
with_command t e seat command rows =
    if nat_lt seat SEATS
    then unless_refused (react t (state_of t rows e) (FromSeat seat command)) rows
    (record { entity = e; input = FromSeat seat command })
    else rows

-- the journals after a receiver of this kind took a letter in
abbrev pub with_letter : Journals → Kind → LetterOf → Journals
with_letter js Order l = record js
    { orders = js.orders ++ record { entity = l.pair.to; input = FromEntity l.pair.from l.number l.message } ∷ [] }
with_letter js Stock l = record js
    { stocks = js.stocks ++ record { entity = l.pair.to; input = FromEntity l.pair.from l.number l.message } ∷ [] }
with_letter js Account l = record js
    { accounts = js.accounts ++ record { entity = l.pair.to; input = FromEntity l.pair.from l.number l.message } ∷ [] }

-- the marks with one pair's at least this
abbrev pub with_mark : Pair → ℕ → (Pair → ℕ) → Pair → ℕ
with_mark of count settled pair = if same_pair pair of then max (settled pair) count else settled pair

-- An envelope arrives: a letter is handled if it is the next of its pair, a settle is taken if so much was sent. A
-- letter that comes too early changes nothing, and may arrive again, as one that was held does when its turn comes.
abbrev pub arrives : Configuration → Option Envelope → Configuration
arrives w None = w
arrives w (Some (Letter l)) = if l.number == suc
    (handled_in w.journals l.pair) then record w { journals = with_letter w.journals l.pair.to.kind l } else w
arrives w (Some (Settle pair count)) =
    if nat_le count (length (sent_in w.journals pair)) then record w { settled = with_mark pair count w.settled } else w

-- a letter with this number is sent, if there is such a message
abbrev pub sends : Configuration → Pair → ℕ → Option Message → Configuration
sends w pair number None = w
sends w pair number (Some m) =
    record w { sent = Letter (record { pair = pair; number = number; message = m }) ∷ w.sent }

-- the configuration after one action
abbrev pub act : Configuration → Action → Configuration
act w (ToOrder key seat c) = record w
    { journals = record w.journals { orders = with_command order_reactions (order_of key) seat c w.journals.orders } }
act w (ToStock key seat c) = record w
    { journals = record w.journals { stocks = with_command stock_reactions (stock_of key) seat c w.journals.stocks } }
act w (ToAccount key seat c) = record w {
  journals = record w.journals {
    accounts =
        with_command account_reactions (account_of key) seat c w.journals.accounts;
  };
}
act w (SendsLetter pair number) = sends w pair number (nth (sent_in w.journals pair) number)
act w (SendsSettle pair) = record w { sent = Settle pair (handled_in w.journals pair) ∷ w.sent }
act w (Arrives which) = arrives w (slice_get w.sent which)

-- a whole schedule
abbrev pub act_all : List Action → Configuration → Configuration
act_all [] w = w
act_all (a ∷ actions) w = act_all actions (act w a)

-- ---- commands

-- a command changes nothing, or adds a row that may follow
abbrev Commanded : {S C : Type 0} → Reactions S C → Kind → List (JournalRow C) → JournalRow C → List (JournalRow C)
    → Type 0
Commanded t kind rows row later = (later ≡ rows) ⊎ (MayFollow t kind rows row × (later ≡ rows ++ row ∷ []))

answered : {S C : Type 0} (t : Reactions S C) (kind : Kind) (e : Entity) (seat : ℕ) (c : C) (rows : List (JournalRow C))
    (answer : Result (S × List Out) Refusal)
    → e.kind ≡ kind → nat_lt seat 16 ≡ true → react t (state_of t rows e) (FromSeat seat c) ≡ answer
    → Commanded t kind rows (command_row e seat c) (unless_refused answer rows (command_row e seat c))
answered t kind e seat c rows (Err refusal) k seated is = inl refl
answered t kind e seat c rows (Ok done) k seated is =
    inr (record { of_kind = k; seated = grind (arith, nat_tests); accepted = rw is refl; next = tt }, refl)

commanded : {S C : Type 0} (t : Reactions S C) (kind : Kind) (e : Entity) (seat : ℕ) (c : C)
    (rows : List (JournalRow C))
    → e.kind ≡ kind → Commanded t kind rows (command_row e seat c) (with_command t e seat c rows)
commanded t kind e seat c rows k = by_case (nat_lt seat 16) refl
  where
    by_case : (b : Bool) → nat_lt seat 16 ≡ b
        → Commanded t kind rows (command_row e seat c) (with_command t e seat c rows)
    by_case true seated = rw seated (answered t kind e seat c rows _ k seated refl)
    by_case false seated = rw seated (inl refl)

-- ---- each action is a step, or nothing

-- nothing is changed, or a step is made
abbrev StepsOrRests : Configuration → Configuration → Type 0
StepsOrRests old new = (new ≡ old) ⊎ ConfigurationStep old new

-- the next letter of its pair adds a row, if it is known
letter_adds : (known : Envelope → Type 0) (js : Journals) (k : Kind) (l : LetterOf) → l.pair.to.kind ≡ k
    → known (Letter l)
    → l.number ≡ suc (length (letters_by js k l.pair)) → AddsRowFrom known js (with_letter js k l)
letter_adds known js Order l k from next =
    AddsOrder _ (record { of_kind = k; seated = tt; accepted = refl; next = next }) from refl
letter_adds known js Stock l k from next =
    AddsStock _ (record { of_kind = k; seated = tt; accepted = refl; next = next }) from refl
letter_adds known js Account l k from next =
    AddsAccount _ (record { of_kind = k; seated = tt; accepted = refl; next = next }) from refl

letter_does : (w : Configuration) (l : LetterOf) → Contains w.sent (Letter l)
    → StepsOrRests w (arrives w (Some (Letter l)))
letter_does w l there = by_case (l.number == suc (handled_in w.journals l.pair)) refl
  where
    by_case : (b : Bool) → (l.number == suc (handled_in w.journals l.pair)) ≡ b
        → StepsOrRests w (arrives w (Some (Letter l)))
    by_case true e =
        let next : l.number ≡ suc (handled_in w.journals l.pair) = grind (arith, nat_tests) in
        rw e (inr (Writes (letter_adds (Contains w.sent) w.journals l.pair.to.kind l refl there next) refl refl))
    by_case false e = rw e (inl refl)

pub mark_raises : (pair : Pair) (count : ℕ) (settled : Pair → ℕ)
    → Raises pair count settled (with_mark pair count settled)
mark_raises pair count settled = record {
  own = let same : same_pair pair pair ≡ true = (same_pair-Decides pair pair).1 refl in rw same refl;
  others = λ other apart. by_case other apart (same_pair other pair) refl;
}
  where
    by_case : (other : Pair) → other ≢ pair → (b : Bool) → same_pair other pair ≡ b
        → with_mark pair count settled other ≡ settled other
    by_case other apart true e = absurd (apart ((same_pair-Decides other pair).0 e))
    by_case other apart false e = rw e refl

settle_does : (w : Configuration) (pair : Pair) (count : ℕ) → Contains w.sent (Settle pair count)
    → StepsOrRests w (arrives w (Some (Settle pair count)))
settle_does w pair count there = by_case (nat_le count (length (sent_in w.journals pair)))
  where
    by_case : (b : Bool) → StepsOrRests w (if b then record w { settled = with_mark pair count w.settled } else w)
    by_case true = inr (Marks pair count there (mark_raises pair count w.settled) refl refl)
    by_case false = inl refl

there : (es : List Envelope) (k : ℕ) (e : Envelope) → slice_get es k ≡ Some e → Contains es e
there [] k e at = absurd (grind arith)
there (x ∷ es) zero e at = (0, omega arith, cc)
there (x ∷ es) (suc k) e at = let rest = there es k e at in (suc rest.0, omega arith, rest.2)

arrives_does : (w : Configuration) (e : Option Envelope) → ((x : Envelope) → e ≡ Some x → Contains w.sent x)
    → StepsOrRests w (arrives w e)
arrives_does w None at = inl refl
arrives_does w (Some (Letter l)) at = letter_does w l (at _ refl)
arrives_does w (Some (Settle pair count)) at = settle_does w pair count (at _ refl)

sends_does : (w : Configuration) (pair : Pair) (number : ℕ) (m : Option Message)
    → nth (sent_in w.journals pair) number ≡ m
    → StepsOrRests w (sends w pair number m)
sends_does w pair number None at = inl refl
sends_does w pair number (Some m) at = inr (Sends _ at refl)

act_does : (w : Configuration) (a : Action) → StepsOrRests w (act w a)
act_does w (ToOrder key seat c) = either (commanded order_reactions Order (order_of key) seat c w.journals.orders refl)
    (λ e. inl (ap (λ rows. record w { journals = record w.journals { orders = rows } }) e))
    (λ e. inr (Writes (AddsOrder _ e.0 tt (rw e.1 refl)) refl refl))
act_does w (ToStock key seat c) = either (commanded stock_reactions Stock (stock_of key) seat c w.journals.stocks refl)
    (λ e. inl (ap (λ rows. record w { journals = record w.journals { stocks = rows } }) e))
    (λ e. inr (Writes (AddsStock _ e.0 tt (rw e.1 refl)) refl refl))
act_does w (ToAccount key seat c) =
    either (commanded account_reactions Account (account_of key) seat c w.journals.accounts refl)
    (λ e. inl (ap (λ rows. record w { journals = record w.journals { accounts = rows } }) e))
    (λ e. inr (Writes (AddsAccount _ e.0 tt (rw e.1 refl)) refl refl))
act_does w (SendsLetter pair number) = sends_does w pair number _ refl
act_does w (SendsSettle pair) = let so_far : handled_in w.journals pair ≤ handled_in w.journals pair = omega arith in
    inr (Sends _ so_far refl)
act_does w (Arrives which) = arrives_does w (slice_get w.sent which) (λ x at. there w.sent which x at)

-- so steps lead wherever actions do
pub acts_reach : (actions : List Action) (w : Configuration) → Reaches w (act_all actions w)
acts_reach [] w = ([], refl)
acts_reach (a ∷ actions) w = either (act_does w a)
    (λ same. rw same (acts_reach actions w))
    (λ step. let rest = acts_reach actions (act w a) in (act w a ∷ rest.0, (step, rest.1)))
