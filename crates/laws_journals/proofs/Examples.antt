-- Examples: rows that a service adds, what the laws deny, and steps.
use Rattle.std.proofs.Common.{◌≡◌, ℕ, List, [], ◌∷◌, length, take, refl, ap, arith, inl, inr, Option, Some}
use Rattle.std.specs.Prelude.{codes, Contains, map, if◌then◌else◌}
use Rattle.base.specs.Entity.{Entity}
use Rattle.base.specs.Order.{same_entity, same_pair}
use Rattle.base.specs.declared.entity.Kind.TheVariants.{Stock, Account}
use Rattle.envelope.specs.declared.message.Envelope.{Envelope}
use Rattle.envelope.specs.declared.message.Envelope.TheVariants.{Letter, Settle}
use Rattle.envelope.specs.declared.message.Message.{Message}
use Rattle.envelope.specs.declared.message.Message.TheVariants.{Request, Tentative, Confirm, Cancel}
use Rattle.trade.specs.declared.commands.OrderCommand.{OrderCommand}
use Rattle.trade.specs.declared.commands.OrderCommand.TheVariants.{Place}
use Rattle.trade.specs.declared.commands.AccountCommand.{AccountCommand}
use Rattle.trade.specs.declared.commands.StockCommand.{StockCommand}
use Rattle.trade.specs.declared.commands.StockCommand.TheVariants.{Receive}
use Rattle.trade.specs.declared.commands.AccountCommand.TheVariants.{SetLimit}
use Rattle.activities.specs.declared.input.Input.{Input}
use Rattle.activities.specs.declared.input.Input.TheVariants.{FromSeat, FromEntity}
use Rattle.activities.specs.declared.input.JournalRow.{JournalRow}
use Rattle.activities.specs.declared.phase.Phase.{Phase}
use Rattle.trade.specs.declared.status.Status.{Status}
use Rattle.trade.specs.declared.status.Status.TheVariants.{Confirmed, Cancelled}
use Rattle.trade.specs.Items.{item}
use Rattle.trade.specs.Lines.{Line, is_before}
use Rattle.trade.specs.Orders.{OrderState}
use Rattle.laws_journals.specs.Agreement.{states_in, line_at, IsAskedFor, HasRefused, PartnersAgree}
use Rattle.laws_journals.specs.Agreement.{RefusedAreLeftAlone}
use Rattle.laws_journals.specs.Envelopes.{IsAuthentic, SettledAreHandled, Raises}
use Rattle.laws_journals.specs.Growth.{IsFrom, AddsRow, AddsOrder, AddsStock, AddsAccount}
use Rattle.laws_journals.specs.Journals.{Journals, HandlesPrefixes, handled_in}
use Rattle.laws_journals.specs.Steps.{start, ConfigurationStep, Writes, Sends, IsConfigurationPath, IsGoodConfiguration}
use Rattle.laws_journals.proofs.Agreement.{partners_agree}
use Rattle.laws_journals.proofs.ConfirmedExamples.{order, stock, account, from_to, schedule, after_first, order_at}
use Rattle.laws_journals.proofs.Machine.{ToStock, act, acts_reach, arrives, with_mark, mark_raises}
use Rattle.laws_journals.proofs.Steps.{start_good, reached_good}

-- ---- rows

-- a seat's command adds a row, and so does the first letter, at a stock and at an account; an order takes an answer in
a_command_adds_a_row : AddsRow (after_first 2).journals (after_first 3).journals
a_command_adds_a_row = AddsOrder _ (record { of_kind = refl; seated = omega arith; accepted = refl; next = tt }) tt refl

a_request_adds_a_row : AddsRow (after_first 4).journals (after_first 5).journals
unfolding same_entity same_pair
a_request_adds_a_row = AddsStock _ (record { of_kind = refl; seated = tt; accepted = refl; next = refl }) refl refl

another_request_adds_a_row : AddsRow (after_first 6).journals (after_first 7).journals
unfolding same_entity same_pair is_before
another_request_adds_a_row =
    AddsAccount _ (record { of_kind = refl; seated = tt; accepted = refl; next = refl }) refl refl

an_answer_adds_a_row : AddsRow (after_first 8).journals (after_first 9).journals
unfolding same_entity same_pair is_before
an_answer_adds_a_row = AddsOrder _ (record { of_kind = refl; seated = tt; accepted = refl; next = refl }) refl refl

-- there is no seat 16, and what it asks for changes nothing
a_wrong_seat_adds_nothing : (act start (ToStock (codes "bolts") 16 (Receive 10))).journals ≡ start.journals
a_wrong_seat_adds_nothing = refl

-- a letter is taken in where it is known, and not where nothing was sent
abbrev request : Input StockCommand
request = FromEntity order 1 (Request 3)

a_letter_is_known : IsFrom (Contains (Letter (record { pair = from_to order stock; number = 1; message = Request 3 }) ∷
    [])) stock request
    × (IsFrom (Contains []) stock request → ⊥)
a_letter_is_known = ((0, omega arith, refl), λ h. let none = h.1 in omega arith)

-- ---- envelopes and marks

abbrev letter : Entity → Entity → ℕ → Message → Envelope
letter sender receiver number message =
    Letter (record { pair = from_to sender receiver; number = number; message = message })

-- the order has asked the stock, in its letter 1; it has sent no letter 0 and no letter 2, and nothing else under the
-- number 1
a_request_is_authentic : IsAuthentic (after_first 3).journals (letter order stock 1 (Request 3))
unfolding same_entity
a_request_is_authentic = refl

others_are_not_authentic :
    (IsAuthentic (after_first 3).journals (letter order stock 0 (Request 3)) → ⊥)
    × (IsAuthentic (after_first 3).journals (letter order stock 2 (Request 3)) → ⊥)
    × (IsAuthentic (after_first 3).journals (letter order stock 1 Cancel) → ⊥)
    × (IsAuthentic (after_first 3).journals (letter order account 1 (Request 3)) → ⊥)
unfolding same_entity
others_are_not_authentic = (λ h. absurd (cc), λ h. absurd (cc), λ h. absurd (cc), λ h. absurd (cc))

-- nothing was handled yet: a settle that says so is true, and one ahead of that isn't, though so much was sent
a_settle_is_not_ahead : IsAuthentic (after_first 3).journals (Settle (from_to order stock) 0)
    × (IsAuthentic (after_first 3).journals (Settle (from_to order stock) 1) → ⊥)
unfolding same_entity
a_settle_is_not_ahead = (omega arith, λ h. omega arith)

a_mark_is_not_ahead : SettledAreHandled (after_first 3).journals (λ pair. 1) → ⊥
unfolding same_entity
a_mark_is_not_ahead h = let l = h (from_to order stock) in omega arith

-- a settle of more than was sent is not taken
a_wrong_settle_marks_nothing : (arrives start (Some (Settle (from_to order stock) 1))).settled (from_to order stock) ≡ 0
a_wrong_settle_marks_nothing = refl

-- ---- journals that don't fit each other

-- the rows of one entity
abbrev rows_of : {C : Type 0} → Entity → List (Input C) → List (JournalRow C)
rows_of e inputs = map (λ input. record { entity = e; input = input }) inputs

-- the stock was asked by an order that nobody placed
abbrev unasked : Journals
unasked = record {
  orders = [];
  stocks = rows_of stock (FromSeat 0 (Receive 10) ∷ FromEntity order 1 (Request 3) ∷ []);
  accounts = [];
}

nobody_asked : HandlesPrefixes unasked → ⊥
unfolding same_entity
nobody_asked h = let l = h (from_to order stock) in absurd (cc)

-- an order of 3 bolts and 500 was placed, ten bolts came in and the limit is so much; and what else each has taken in
abbrev with_inputs : List (Input OrderCommand) → List (Input StockCommand) → ℕ → List (Input AccountCommand) → Journals
with_inputs of_order of_stock limit of_account = record {
  orders = rows_of order (FromSeat 0 (Place (item (codes "bolts") 3 ∷ []) (codes "acme") 500) ∷ of_order);
  stocks = rows_of stock (FromSeat 0 (Receive 10) ∷ of_stock);
  accounts = rows_of account (FromSeat 0 (SetLimit limit) ∷ of_account);
}

-- the stock has shipped, and the account has refused or released
abbrev apart : ℕ → Journals
apart limit = with_inputs [] (FromEntity order 1 (Request 3) ∷ FromEntity order 2 Confirm ∷ []) limit
    (FromEntity order 1 (Request 500) ∷ FromEntity order 2 Cancel ∷ [])

-- the stock has shipped, and the account hasn't been asked
abbrev shipped_early : Journals
shipped_early = with_inputs [] (FromEntity order 1 (Request 3) ∷ FromEntity order 2 Confirm ∷ []) 500 []

-- the order is confirmed by answers that the stock never gave
abbrev unheld : Journals
unheld = with_inputs (FromEntity stock 1 Tentative ∷ FromEntity account 1 Tentative ∷ []) [] 500
    (FromEntity order 1 (Request 500) ∷ [])

-- the stock holds 4 in place of 3
abbrev too_many : Journals
too_many = with_inputs [] (FromEntity order 1 (Request 4) ∷ []) 500 []

-- the order o1 as purchasing has it, and its line at each entity
abbrev seen : Journals → Option OrderState
seen js = (states_in js).orders order

abbrev lines : Journals → Entity → Option Line
lines js = line_at (states_in js) order

-- Its partners don't agree where the stock has a line though nobody placed it, has shipped and the account has refused
-- or released, has shipped though it's open, has no line though it's confirmed, or holds another number.
others_disagree : (PartnersAgree (seen unasked) (lines unasked) → ⊥)
    × (PartnersAgree (seen (apart 499)) (lines (apart 499)) → ⊥)
    × (PartnersAgree (seen (apart 500)) (lines (apart 500)) → ⊥)
    × (PartnersAgree (seen shipped_early) (lines shipped_early) → ⊥)
    × (PartnersAgree (seen unheld) (lines unheld) → ⊥)
    × (PartnersAgree (seen too_many) (lines too_many) → ⊥)
unfolding same_entity
others_disagree = (
  λ h. let none = h.nowhere_else stock (λ no. no) in absurd (cc),
  λ h. h.one_way stock account (inl refl) (inr (inl refl)) refl (inr refl),
  λ h. h.one_way stock account (inl refl) (inr (inl refl)) refl (inl refl),
  λ h. let early : Status.Open ≡ Confirmed = h.only_confirmed stock refl in absurd (cc),
  λ h. h.confirmed refl stock (inl refl),
  λ h. not_four (h.as_asked stock),
)
  where
    not_four : IsAskedFor stock 4
        (record { entity = stock; n = 3; phase = Phase.Requested } ∷ record
        { entity = account; n = 500; phase = Phase.Requested } ∷ []) → ⊥
    not_four (inl e) = let n = e.1 in omega arith
    not_four (inr (inl e)) = let n = e.1 in omega arith
    not_four (inr (inr e)) = e

-- ---- journals that fit each other: those of the order that comes to be confirmed

good_after : (count : ℕ) → IsGoodConfiguration (after_first count)
good_after count = reached_good start (after_first count) (acts_reach (take count schedule) start) start_good

-- the order has sent a request to each of its partners; the stock has handled its own, and the account has handled
-- nothing yet
beginnings_are_handled : HandlesPrefixes (after_first 5).journals
beginnings_are_handled = (good_after 5).lawful.prefixes

-- the stock is known to have handled two letters, and has handled two
marks_are_of_what_was_handled : SettledAreHandled (after_first 18).journals (after_first 18).settled
    × ((after_first 18).settled (from_to order stock) ≡ 2)
    × (handled_in (after_first 18).journals (from_to order stock) ≡ 2)
unfolding same_entity same_pair is_before
marks_are_of_what_was_handled = ((good_after 18).settled, refl, refl)

-- the stock has shipped, and the account holds what it was asked for: it will bill, and can't release or refuse
shipped_and_held : PartnersAgree (seen (after_first 14).journals) (lines (after_first 14).journals)
shipped_and_held = partners_agree (after_first 14).journals (good_after 14).lawful.prefixes order refl

-- an order that knows that its account refused has told its stock to cancel; it may not have told the account too
the_refused_is_left_alone : RefusedAreLeftAlone (order_at Cancelled Phase.Cancelled Phase.Refused)
    (λ p. if same_entity p stock then Cancel ∷ [] else [])
    × (RefusedAreLeftAlone (order_at Cancelled Phase.Cancelled Phase.Refused) (λ p. Cancel ∷ []) → ⊥)
unfolding same_entity
the_refused_is_left_alone = (alone, λ h. h account (inr (inl (refl, refl))) (0, omega arith, refl))
  where
    alone : (p : Entity) → HasRefused (order_at Cancelled Phase.Cancelled Phase.Refused) p
        → Contains (if same_entity p stock then Cancel ∷ [] else []) Cancel → ⊥
    alone p (inl e) told = let phases = e.1 in absurd (cc)
    alone p (inr (inl e)) told = let none : Contains [] Cancel = rw e.0 at told in let short = none.1 in omega arith
    alone p (inr (inr e)) told = e

-- ---- steps

-- a mark rises, and an older settle leaves it; none is taken back, and no other pair's is raised
a_mark_is_raised :
    Raises (from_to order stock) 2 (λ pair. 1) (with_mark (from_to order stock) 2 (λ pair. 1))
    × Raises (from_to order stock) 1 (λ pair. 2) (λ pair. 2)
    × (Raises (from_to order stock) 1 (λ pair. 2) (λ pair. 1) → ⊥)
    × (Raises (from_to order stock) 2 (λ pair. 1) (λ pair. 2) → ⊥)
a_mark_is_raised = (
  mark_raises (from_to order stock) 2 (λ pair. 1),
  record { own = refl; others = λ other apart. refl },
  λ h. let own = h.own in omega arith,
  λ h. let other = h.others (from_to order account) (λ same. let kinds : Account ≡ Stock =
      ap (λ pair. pair.to.kind) same in absurd (cc)) in
      omega arith,
)

-- a command is a step from the beginning on; nothing is reached without one
a_command_is_a_step : ConfigurationStep start (after_first 1) × (IsConfigurationPath start [] (after_first 1) → ⊥)
    × IsConfigurationPath start (after_first 1 ∷ []) (after_first 1)
a_command_is_a_step =
    (commanded, (λ h. let none : 1 ≡ 0 = ap (λ x. length x.journals.stocks) h in omega arith), (commanded, refl))
  where
    commanded : ConfigurationStep start (after_first 1)
    commanded = Writes (AddsStock _ (record { of_kind = refl; seated = omega arith; accepted = refl; next = tt }) tt
        refl) refl refl

-- an order that was placed may ask, and nothing may be said in its name before
only_the_authentic_is_sent :
    ConfigurationStep (after_first 3) (after_first 4)
    × (IsAuthentic (after_first 2).journals (letter order stock 1 (Request 3)) → ⊥)
unfolding same_entity
only_the_authentic_is_sent = (Sends (letter order stock 1 (Request 3)) refl refl, λ h. absurd (cc))

-- a mark ahead of the handling isn't good, nor is an envelope that nobody sent, nor are journals that don't fit each
-- other
others_are_not_good :
    (IsGoodConfiguration (record { journals = (after_first 1).journals; settled = λ pair. 1; sent = [] }) → ⊥)
    × (IsGoodConfiguration (record {
      journals = (after_first 1).journals;
      settled = λ pair. 0;
      sent = letter order stock 1 (Request 3) ∷ [];
    }) → ⊥)
    × (IsGoodConfiguration (record { journals = unasked; settled = λ pair. 0; sent = [] }) → ⊥)
unfolding same_entity
others_are_not_good = (
  λ h. let ahead = h.settled (from_to order stock) in omega arith,
  λ h. let sent = h.authentic.0 in absurd (cc),
  λ h. nobody_asked h.lawful.prefixes,
)
