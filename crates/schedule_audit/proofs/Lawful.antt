-- Where the journals are lawful the partners agree: from what is said of states to what is read of rows.
use Rattle.std.proofs.Common.{◌≡◌, inl, inr, List, [], ◌∷◌, Bool, true, ◌&&◌, ◌||◌, map, Some, None, refl}
use Rattle.std.proofs.Common.{◌∙◌, ap}
use Rattle.std.specs.Prelude.{Option, not, is_none}
use Rattle.std.specs.List.{list_all}
use Rattle.std.specs.Option.{option_map}
use Rattle.base.specs.Entity.{Entity}
use Rattle.base.specs.declared.entity.Kind.{Kind}
use Rattle.base.specs.declared.entity.Kind.TheVariants.{Order, Stock, Account}
use Rattle.activities.specs.declared.input.Input.{Input}
use Rattle.activities.specs.declared.input.JournalRow.{JournalRow}
use Rattle.trade.specs.declared.commands.OrderCommand.{OrderCommand}
use Rattle.trade.specs.declared.commands.StockCommand.{StockCommand}
use Rattle.trade.specs.declared.commands.AccountCommand.{AccountCommand}
use Rattle.trade.specs.declared.line_phase.LinePhase.{LinePhase}
use Rattle.trade.specs.declared.line_phase.LinePhase.TheVariants.{Held, Refused, Done, Released}
use Rattle.trade.specs.declared.status.Status.{Status}
use Rattle.trade.specs.declared.status.Status.TheVariants.{Open, Confirmed, Cancelled}
use Rattle.activities.specs.Journal.{part}
use Rattle.trade.specs.Lines.{Line, is_order}
use Rattle.trade.specs.Orders.{OrderState, Partner, order_reactions}
use Rattle.trade.specs.Stocks.{stock_reactions}
use Rattle.trade.specs.Accounts.{account_reactions}
use Rattle.activities.specs.Reaction.{state}
use Rattle.activities.specs.Rows.{row_after, row_for}
use Rattle.laws_journals.specs.Agreement.{states_in, line_by, line_at, IsShippedOrBilled, IsHeldOrDone, IsAmong}
use Rattle.laws_journals.specs.Agreement.{PartnersAgree, AreSound}
use Rattle.laws_stores.specs.Good.{journals_of}
use Rattle.laws_stores.specs.Sight.{AllTables, orders_service, stocks_service, accounts_service}
use Rattle.endpoint.specs.Matches.{TablesMatchJournal}
use Rattle.schedule_audit.specs.Agree.{phase_in, stock_lines, account_lines, phase_by, fits, all_fit}
use Rattle.schedule_audit.specs.Agree.{order_agrees, row_agrees, partners_agree}

-- ---- rows and states

lines_of_stock : (inputs : List (Input StockCommand))
    → stock_lines (row_after stocks_service inputs) ≡ (state stock_reactions inputs).lines
lines_of_stock [] = refl
lines_of_stock (input ∷ inputs) = refl

lines_of_account : (inputs : List (Input AccountCommand))
    → account_lines (row_after accounts_service inputs) ≡ (state account_reactions inputs).lines
lines_of_account [] = refl
lines_of_account (input ∷ inputs) = refl

-- ---- lines that fit

held_fits : (l : Option Line) → IsHeldOrDone l → fits Confirmed (option_map (λ (k : Line). k.phase) l) ≡ true
held_fits None h = absurd h
held_fits (Some l) (inl e) = rw e refl
held_fits (Some l) (inr e) = rw e refl

undone_fits : (s : Status) (p : LinePhase) → (s ≡ Confirmed → ⊥) → (p ≡ Done → ⊥) → fits s (Some p) ≡ true
undone_fits Confirmed p other undone = absurd (other refl)
undone_fits s Done other undone = absurd (undone refl)
undone_fits Open Held other undone = refl
undone_fits Open Refused other undone = refl
undone_fits Open Released other undone = refl
undone_fits Cancelled Held other undone = refl
undone_fits Cancelled Refused other undone = refl
undone_fits Cancelled Released other undone = refl

line_fits : (s : Status) (l : Option Line) → (s ≡ Confirmed → IsHeldOrDone l) → (IsShippedOrBilled l → s ≡ Confirmed)
    → fits s (option_map (λ (k : Line). k.phase) l) ≡ true
line_fits Confirmed l held only = held_fits l (held refl)
line_fits Open None held only = refl
line_fits Open (Some l) held only =
    undone_fits Open l.phase (λ e. cc) (λ done. let e : Open ≡ Confirmed = only done in absurd (cc))
line_fits Cancelled None held only = refl
line_fits Cancelled (Some l) held only =
    undone_fits Cancelled l.phase (λ e. cc) (λ done. let e : Cancelled ≡ Confirmed = only done in absurd (cc))

each_partner : (test : Option LinePhase → Bool) (phase : Partner → Option LinePhase) (ps : List Partner)
    → ((p : Partner) → IsAmong p.entity ps → test (phase p) ≡ true) → list_all test (map phase ps) ≡ true
each_partner test phase [] each = refl
each_partner test phase (p ∷ ps) each = ap (λ b. b && list_all test (map phase ps)) (each p (inl refl))
    ∙ each_partner test phase ps (λ q among. each q (inr among))

-- ---- all of them

every : {A : Type 0} (p : A → Bool) (xs : List A) → ((x : A) → p x ≡ true) → list_all p xs ≡ true
every p [] each = refl
every p (x ∷ xs) each = ap (λ b. b && list_all p xs) (each x) ∙ every p xs each

module _ (t : AllTables) (orders : TablesMatchJournal orders_service t.purchasing)
    (stocks : TablesMatchJournal stocks_service t.warehouse)
    (accounts : TablesMatchJournal accounts_service t.billing) (sound : AreSound (states_in (journals_of t))) where
  -- what is read of a partner is its line's phase
  phase_is : (order : Entity) (kind : Kind) (at : Entity)
      → phase_by t.warehouse t.billing order kind at ≡ option_map (λ (k : Line). k.phase)
      (line_by (states_in (journals_of t)) order kind at)
  phase_is order Order at = refl
  phase_is order Stock at = ap (λ row. phase_in order (stock_lines row)) (stocks.entities at)
      ∙ ap (phase_in order) (lines_of_stock (part at t.warehouse.journal))
  phase_is order Account at = ap (λ row. phase_in order (account_lines row)) (accounts.entities at)
      ∙ ap (phase_in order) (lines_of_account (part at t.billing.journal))

  all_lines_fit : (order : Entity) (o : OrderState) → PartnersAgree (Some o) (line_at (states_in (journals_of t)) order)
      → all_fit t.warehouse t.billing order o.status o.partners ≡ true
  all_lines_fit order o agree = each_partner (fits o.status)
      (λ (k : Partner). phase_by t.warehouse t.billing order k.entity.kind k.entity) o.partners
      (λ p among. ap (fits o.status) (phase_is order p.entity.kind p.entity)
      ∙ line_fits o.status (line_at (states_in (journals_of t)) order p.entity)
      (λ is. agree.confirmed is p.entity among) (agree.only_confirmed p.entity))

  by_state : (order : Entity) (s : Option OrderState) → PartnersAgree s (line_at (states_in (journals_of t)) order)
      → order_agrees t.warehouse t.billing order (row_for is_none s) ≡ true
  by_state order None agree = refl
  by_state order (Some o) agree = all_lines_fit order o agree

  -- by what an order took in
  by_inputs : (order : Entity) (inputs : List (Input OrderCommand))
      → PartnersAgree (state order_reactions inputs) (line_at (states_in (journals_of t)) order)
      → order_agrees t.warehouse t.billing order (row_after orders_service inputs) ≡ true
  by_inputs order [] agree = refl
  by_inputs order (input ∷ inputs) agree = by_state order (state order_reactions (input ∷ inputs)) agree

  by_kind : (e : Entity) (kind : Kind) → e.kind ≡ kind
      → (not (is_order kind) || order_agrees t.warehouse t.billing e (t.purchasing.entity e)) ≡ true
  by_kind e Order is = ap (order_agrees t.warehouse t.billing e) (orders.entities e)
      ∙ by_inputs e (part e t.purchasing.journal) (sound.agree e is)
  by_kind e Stock is = refl
  by_kind e Account is = refl

  of_row : (row : JournalRow OrderCommand) → row_agrees t.purchasing t.warehouse t.billing row ≡ true
  of_row row = by_kind row.entity row.entity.kind refl

  pub all_agree : partners_agree t.purchasing t.warehouse t.billing ≡ true
  all_agree = every (row_agrees t.purchasing t.warehouse t.billing) t.purchasing.journal of_row
