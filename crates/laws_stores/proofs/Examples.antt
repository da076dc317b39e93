-- Examples: tables of three services, what a stop may leave of them, what is true of that and what isn't, and deeds.
use Rattle.std.proofs.Common.{◌≡◌, ◌∙◌, ◌⊎◌, ℕ, zero, suc, [], ◌∷◌, ◌&&◌, ◌==◌, Bool, true, false, length, Option, Some}
use Rattle.std.proofs.Common.{None}
use Rattle.std.proofs.Common.{refl, sym, ap, subst, arith, inl, inr}
use Rattle.std.proofs.Math.Logic.{∥∥₁_elim}
use Rattle.std.specs.Prelude.{nat_lt, ⊤, if◌then◌else◌}
use Rattle.base.specs.Entity.{Entity}
use Rattle.base.specs.Order.{same_entity, same_pair}
use Rattle.base.specs.declared.entity.Kind.TheVariants.{Order, Stock, Account}
use Rattle.base.specs.declared.pair.Pair.{Pair}
use Rattle.envelope.specs.declared.message.Envelope.{Envelope}
use Rattle.envelope.specs.declared.message.Envelope.TheVariants.{Letter, Settle}
use Rattle.envelope.specs.declared.message.Letter as letter
use Rattle.envelope.specs.declared.message.Message.{Message}
use Rattle.envelope.specs.declared.message.Message.TheVariants.{Request, Tentative, Confirm, Cancel}
use Rattle.trade.specs.declared.commands.StockCommand.{StockCommand}
use Rattle.trade.specs.declared.commands.StockCommand.TheVariants.{Receive}
use Rattle.trade.specs.declared.commands.AccountCommand.TheVariants.{SetLimit}
use Rattle.activities.specs.declared.input.Input.TheVariants.{FromSeat, FromEntity}
use Rattle.activities.specs.declared.input.JournalRow.{JournalRow}
use Rattle.trade.specs.Lines.{is_before}
use Rattle.activities.specs.Numbered.{nth}
use Rattle.trade.specs.Orders.{order_reactions}
use Rattle.activities.specs.Service.{Service}
use Rattle.activities.proofs.Legal.{legal-none}
use Rattle.laws_journals.specs.Agreement.{states_in, AreSound}
use Rattle.laws_journals.specs.Envelopes.{IsAuthentic}
use Rattle.laws_journals.specs.Steps.{start}
use Rattle.laws_journals.proofs.Agreement.{sound}
use Rattle.laws_journals.proofs.ConfirmedExamples.{schedule}
use Rattle.laws_journals.proofs.Machine.{act_all, acts_reach}
use Rattle.laws_journals.proofs.Steps.{reached_good, start_good}
use Rattle.keep.specs.Seen.{Seen}
use Rattle.keep.specs.Tables.{empty, set_message}
use Rattle.endpoint.specs.Deeds.{Kept, kept, Did, Deed, Nothing, TakesIn, Holds, Settles}
use Rattle.endpoint.specs.Matches.{AllMatch, TablesMatchJournal}
use Rattle.endpoint.proofs.Examples.{o1, bolts, acme}
use Rattle.laws_stores.specs.Deeds.{DeedIs, FoundedDeed, DeedOfOne, OfPurchasing, OfWarehouse, OfBilling, ComesOf}
use Rattle.laws_stores.specs.Good.{journals_of, settled_by, settled_in, letters_held_by, IsHeldIn, HoldsAuthentic}
use Rattle.laws_stores.specs.Good.{IsGenuine}
use Rattle.laws_stores.specs.Good.{IsGood, AllAgree}
use Rattle.laws_stores.specs.Sight.{AllTables, Sight, MayLeave, AreClean, AreMatching, OrderTables, StockTables}
use Rattle.laws_stores.specs.Sight.{AccountTables, all_empty}
use Rattle.laws_stores.specs.Sight.{orders_service, stocks_service, accounts_service}
use Rattle.laws_stores.specs.Writing.{IsTrueIn}
use Rattle.laws_stores.proofs.Beginning.{empty_good}
use Rattle.laws_stores.proofs.Doing.{both_same}
use Rattle.laws_stores.proofs.Placed.{placing, before, after, before_matches, taken_in}

-- the pair of an order and its stock, or another
abbrev from_to : Entity → Entity → Pair
from_to sender receiver = record { from = sender; to = receiver }

-- the letter by which the order asks the stock, and one with other content
abbrev request : letter.Letter
request = record { pair = from_to o1 bolts; number = 1; message = Request 3 }

abbrev forged : letter.Letter
forged = record request { message = Request 4 }

-- ---- tables

-- purchasing placed the order, and nobody has handled its letters; warehouse holds a letter or not
abbrev orders_placed : OrderTables
orders_placed = record empty { journal = placing ∷ [] }

abbrev stocks_hold : letter.Letter → StockTables
stocks_hold l = record empty { held = set_message l.pair l.number (Some l.message) (λ _ _. None) }

abbrev tables : OrderTables → StockTables → AllTables
tables purchasing warehouse = record { purchasing = purchasing; warehouse = warehouse; billing = empty }

-- what is marked as settled is that of the service whose entity sends, and what is held that of the service that is
-- named
abbrev marked : AllTables
marked = record {
  purchasing = record empty { settled = λ _. 1 };
  warehouse = record (stocks_hold request) { settled = λ _. 2 };
  billing = record empty { settled = λ _. 3 };
}

each_service_has_its_own : (settled_by marked Order (from_to bolts o1) ≡ 1)
    × (settled_by marked Account (from_to bolts o1) ≡ 3)
    × (settled_in marked (from_to o1 bolts) ≡ 1) × (settled_in marked (from_to bolts o1) ≡ 2)
    × (settled_in marked (from_to acme o1) ≡ 3)
    × (letters_held_by marked Stock (from_to o1 bolts) 1 ≡ Some (Request 3))
    × (letters_held_by marked Order (from_to o1 bolts) 1 ≡ None)
    × (letters_held_by marked Account (from_to o1 bolts) 1 ≡ None)
unfolding same_entity same_pair
each_service_has_its_own = (refl, refl, refl, refl, refl, refl, refl, refl)

-- a letter is held with its number and its message, and a settle never is
a_letter_is_held : IsHeldIn (stocks_hold request).held (Letter request)
    × (IsHeldIn (stocks_hold request).held (Letter forged) → ⊥)
    × (IsHeldIn (stocks_hold request).held (Letter (record request { number = 2 })) → ⊥)
    × (IsHeldIn (stocks_hold request).held (Letter (record request { pair = from_to o1 acme })) → ⊥)
    × (IsHeldIn (stocks_hold request).held (Settle (from_to o1 bolts) 0) → ⊥)
unfolding same_entity same_pair
a_letter_is_held = (refl, λ h. absurd (cc), λ h. absurd (cc), λ h. absurd (cc), λ h. h)

-- a letter that is put is all that is held
abbrev parts : letter.Letter → letter.Letter
parts l = record { pair = l.pair; number = l.number; message = l.message }

put : (l m : letter.Letter) (b : Bool) → (same_pair l.pair m.pair && l.number == m.number) ≡ b
    → (if b then Some l.message else None) ≡ Some m.message → l ≡ m
put l m true e h = let there = both_same l.pair m.pair l.number m.number (same_pair l.pair m.pair) refl e in
    let pairs = there.0 in let numbers = there.1 in let messages : l.message ≡ m.message = cc in
    let same : parts l ≡ parts m = cc in same
put l m false e h = absurd (cc)

-- the letter that the order sent is authentic where it is held
sent_letters_are_held : HoldsAuthentic (tables orders_placed (stocks_hold request))
unfolding same_entity
sent_letters_are_held Order (Letter l) h = absurd (cc)
sent_letters_are_held Account (Letter l) h = absurd (cc)
sent_letters_are_held Stock (Letter l) h =
    subst (λ x. IsAuthentic (journals_of (tables orders_placed (stocks_hold request))) (Letter x))
    (put request l _ refl h) refl
sent_letters_are_held kind (Settle p n) h = absurd h

-- a held letter isn't authentic where nobody sent it, or where something else was sent
forged_letters_are_held : (HoldsAuthentic (tables empty (stocks_hold request)) → ⊥)
    × (HoldsAuthentic (tables orders_placed (stocks_hold forged)) → ⊥)
unfolding same_entity same_pair
forged_letters_are_held = (
  λ h. let sent = h Stock (Letter request) refl in absurd (cc),
  λ h. let sent = h Stock (Letter forged) refl in absurd (cc),
)

-- ---- what a stop may leave

-- a store that has these tables, and one that failed, of which a stop leaves these or those
abbrev only : {T : Type 0} → T → Seen T
only t = record { tables = t; may_leave = λ x. x ≡ t; failures = 0; usable = true; doubt = 0; armed = None }

abbrev either : {T : Type 0} → T → T → Seen T
either t u =
    record { tables = t; may_leave = λ x. (x ≡ t) ⊎ (x ≡ u); failures = 1; usable = false; doubt = 0; armed = None }

abbrev sees : Seen OrderTables → Seen StockTables → Sight
sees purchasing warehouse = record { purchasing = purchasing; warehouse = warehouse; billing = only empty }

-- of each service one content of its own: where two stores failed, the old of one and the new of the other too; no
-- content of no service
each_leaves_its_own : MayLeave (sees (only orders_placed) (only empty)) (tables orders_placed empty)
    × MayLeave (sees (either empty orders_placed) (either empty (stocks_hold request)))
    (tables empty (stocks_hold request))
    × MayLeave (sees (either empty orders_placed) (either empty (stocks_hold request))) (tables orders_placed empty)
    × (MayLeave (sees (only orders_placed) (only empty)) all_empty → ⊥)
    × (MayLeave (sees (either empty orders_placed) (only empty)) (tables orders_placed
    (record empty { settled = λ _. 1 })) → ⊥)
each_leaves_its_own = (
  record { purchasing = refl; warehouse = refl; billing = refl },
  record { purchasing = inl refl; warehouse = inr refl; billing = refl },
  record { purchasing = inr refl; warehouse = inl refl; billing = refl },
  λ h. let short : 0 ≡ 1 = ap (λ (t : OrderTables). length t.journal) h.purchasing in omega (arith, short),
  λ h. let mark : 1 ≡ 0 = ap (λ (t : StockTables). t.settled (from_to bolts o1)) h.warehouse in omega (arith, mark),
)

-- one file in doubt is enough, of any service
no_file_is_in_doubt : AreClean (sees (only empty) (only empty))
    × (AreClean (sees (record (only empty) { doubt = 1 }) (only empty)) → ⊥)
    × (AreClean (sees (only empty) (record (only empty) { doubt = 1 })) → ⊥)
    × (AreClean (record (sees (only empty) (only empty)) { billing = record (only empty) { doubt = 1 } }) → ⊥)
no_file_is_in_doubt = (
  (refl, refl, refl),
  λ h. let none = h.0 in omega (arith, none),
  λ h. let none = h.1 in omega (arith, none),
  λ h. let none = h.2 in omega (arith, none),
)

-- those of a service that did nothing match
no_message : (n : ℕ) → nth [] n ≡ None
no_message zero = refl
no_message (suc n) = refl

if_none : (b : Bool) (m : Option Message) → m ≡ None → None ≡ (if b then m else None)
if_none true m h = sym h
if_none false m h = refl

empty_matches : {S C : Type 0} (service : Service S C) → TablesMatchJournal {S = S} {C = C} service empty
empty_matches service = record {
  legal = legal-none service.reactions service.kind;
  entities = λ e. refl;
  sent = λ p. refl;
  numbers = λ p. omega arith;
  settled = λ p. omega arith;
  unsettled = λ p n. if_none (nat_lt 0 n) (nth [] n) (no_message n);
  handled = λ p. refl;
  held = λ p n some. let no : false ≡ true = some in cc;
}

-- a journal's row without the order's state beside it doesn't match
a_row_alone_does_not_match : TablesMatchJournal orders_service orders_placed → ⊥
unfolding same_entity
a_row_alone_does_not_match h = let row = h.entities o1 in absurd (cc)

-- a placed order's tables match where its state and its letters stand beside the journal's row, and not with the row
-- alone, also where only a stop leaves that
the_tables_match : AreMatching (sees (either before after) (only empty))
    × (AreMatching (sees (only orders_placed) (only empty)) → ⊥)
    × (AreMatching (sees (either after orders_placed) (only empty)) → ⊥)
unfolding same_entity
the_tables_match = (
  (
    before_or_after,
    λ t here. subst (TablesMatchJournal stocks_service) (sym here) (empty_matches stocks_service),
    λ t here. subst (TablesMatchJournal accounts_service) (sym here) (empty_matches accounts_service),
  ),
  λ h. let row = (h.0 orders_placed refl).entities o1 in absurd (cc),
  λ h. let row = (h.0 orders_placed (inr refl)).entities o1 in absurd (cc),
)
  where
    before_or_after : AllMatch orders_service (λ t. (t ≡ before) ⊎ (t ≡ after))
    before_or_after t (inl old) = subst (TablesMatchJournal orders_service) (sym old) before_matches
    before_or_after t (inr new) = subst (TablesMatchJournal orders_service) (sym new) taken_in.matches

-- ---- what is true of them

-- what the order sent is genuine; it isn't while the failed store may have lost the order, nor is what warehouse holds
-- in its name
sent_letters_are_genuine : IsGenuine (sees (only orders_placed) (only empty)) (Letter request)
    × (IsGenuine (sees (only orders_placed) (only empty)) (Letter forged) → ⊥)
    × (IsGenuine (sees (either orders_placed empty) (only empty)) (Letter request) → ⊥)
    × (IsGenuine (sees (only empty) (only (stocks_hold request))) (Letter request) → ⊥)
unfolding same_entity
sent_letters_are_genuine = (
  λ t may. subst (λ (x : OrderTables). IsAuthentic (journals_of (record t { purchasing = x })) (Letter request))
      (sym may.purchasing) refl,
  λ h. let sent =
      h (tables orders_placed empty) (record { purchasing = refl; warehouse = refl; billing = refl }) in absurd (cc),
  λ h. let sent = h all_empty (record { purchasing = inr refl; warehouse = refl; billing = refl }) in absurd (cc),
  λ h. let sent = h (tables empty (stocks_hold request)) (record {
    purchasing = refl;
    warehouse = refl;
    billing = refl;
  }) in absurd (cc),
)

-- a settle is genuine up to what was handled, and that is nothing yet
settles_are_genuine : IsGenuine (sees (only orders_placed) (only empty)) (Settle (from_to o1 bolts) 0)
    × (IsGenuine (sees (only orders_placed) (only empty)) (Settle (from_to o1 bolts) 1) → ⊥)
settles_are_genuine = (
  λ t may. omega arith,
  λ h. let ahead = h (tables orders_placed empty) (record { purchasing = refl; warehouse = refl; billing = refl })
      in omega (arith, ahead),
)

abbrev tables_of : AllTables → AllTables
tables_of t = record { purchasing = t.purchasing; warehouse = t.warehouse; billing = t.billing }

-- services that did nothing are good; they aren't with a mark ahead of the handling, with a letter held that nobody
-- sent, or where the stock handled a letter that nobody sent, also if only a stop may leave it
abbrev handled_unsent : StockTables
handled_unsent = record empty {
  journal = record { entity = bolts; input = FromSeat 0 (Receive 10) } ∷ record
      { entity = bolts; input = FromEntity o1 1 (Request 3) }
      ∷ [];
}

others_are_not_good : IsGood (sees (only empty) (only empty))
    × (IsGood (sees (only (record orders_placed { settled = λ _. 1 })) (only empty)) → ⊥)
    × (IsGood (sees (only empty) (only (stocks_hold request))) → ⊥)
    × (IsGood (sees (only empty) (either empty handled_unsent)) → ⊥)
unfolding same_entity same_pair
others_are_not_good = (
  empty_good _ (λ t may. let one = may.purchasing in let two = may.warehouse in let three = may.billing in
      let same : tables_of t ≡ tables_of all_empty = cc in same),
  λ h. let ahead = h.settled (tables (record orders_placed { settled = λ _. 1 }) empty)
      (record { purchasing = refl; warehouse = refl; billing = refl }) (from_to o1 bolts) in omega (arith, ahead),
  λ h. let sent =
      h.held (tables empty (stocks_hold request)) (record { purchasing = refl; warehouse = refl; billing = refl }) Stock
      (Letter request) refl (tables empty (stocks_hold request)) (record {
        purchasing = refl;
        warehouse = refl;
        billing = refl;
      }) in
      absurd (cc),
  λ h. let lost = (h.lawful (tables empty handled_unsent)
      (record { purchasing = refl; warehouse = inr refl; billing = refl })).prefixes (from_to o1 bolts) in absurd (cc),
)

-- ---- partners that agree

-- the order was confirmed, and the account has billed it; the stock shipped it or released it
abbrev confirmed : OrderTables
confirmed = record empty {
  journal = placing ∷ record { entity = o1; input = FromEntity bolts 1 Tentative }
      ∷ record { entity = o1; input = FromEntity acme 1 Tentative } ∷ [];
}

abbrev stocks_told : Message → StockTables
stocks_told message = record empty {
  journal = record { entity = bolts; input = FromSeat 0 (Receive 10) } ∷ record
      { entity = bolts; input = FromEntity o1 1 (Request 3) }
      ∷ record { entity = bolts; input = FromEntity o1 2 message } ∷ [];
}

abbrev billed : AccountTables
billed = record empty {
  journal = record { entity = acme; input = FromSeat 0 (SetLimit 500) } ∷ record
      { entity = acme; input = FromEntity o1 1 (Request 500) }
      ∷ record { entity = acme; input = FromEntity o1 2 Confirm } ∷ [];
}

abbrev at_end : StockTables → AllTables
at_end warehouse = record { purchasing = confirmed; warehouse = warehouse; billing = billed }

-- where the stock shipped, these are the journals of the schedule by which an order comes to be confirmed, and so all
-- agree
it_was_reached : journals_of (at_end (stocks_told Confirm)) ≡ (act_all schedule start).journals
unfolding same_entity same_pair is_before
it_was_reached = refl

all_agree_at_the_end : AllAgree (record {
  purchasing = only confirmed;
  warehouse = only (stocks_told Confirm);
  billing = only billed;
})
all_agree_at_the_end t may = let one = may.purchasing in let two = may.warehouse in let three = may.billing in
    let same : tables_of t ≡ tables_of (at_end (stocks_told Confirm)) = cc in
    subst (λ js. AreSound (states_in js)) (sym (ap journals_of same ∙ it_was_reached))
    (sound (act_all schedule start).journals
    (reached_good start (act_all schedule start) (acts_reach schedule start) start_good).lawful.prefixes)

-- billed and released don't agree, also where the tables now do and only a stop may leave these
released_and_billed : (AllAgree (record {
  purchasing = only confirmed;
  warehouse = only (stocks_told Cancel);
  billing = only billed;
}) → ⊥)
    × (AllAgree (record {
      purchasing = only confirmed;
      warehouse = either (stocks_told Confirm) (stocks_told Cancel);
      billing = only billed;
    }) → ⊥)
unfolding same_entity
released_and_billed = (
  λ h. apart (h (at_end (stocks_told Cancel)) (record { purchasing = refl; warehouse = refl; billing = refl })),
  λ h. apart (h (at_end (stocks_told Cancel)) (record { purchasing = refl; warehouse = inr refl; billing = refl })),
)
  where
    apart : AreSound (states_in (journals_of (at_end (stocks_told Cancel)))) → ⊥
    apart all = (all.agree o1 refl).one_way acme bolts (inr (inl refl)) (inl refl) refl (inl refl)

-- ---- writing and deeds

-- what a service writes of its own journal: the letter that it sends, and no settle ahead of what was handled in it
a_service_writes_what_is_true : IsTrueIn order_reactions (placing ∷ []) (Letter request)
    × (IsTrueIn order_reactions (placing ∷ []) (Letter forged) → ⊥)
    × (IsTrueIn order_reactions [] (Letter request) → ⊥)
    × IsTrueIn order_reactions confirmed.journal (Settle (from_to bolts o1) 1)
    × (IsTrueIn order_reactions confirmed.journal (Settle (from_to bolts o1) 2) → ⊥)
    × (IsTrueIn order_reactions confirmed.journal (Settle (from_to o1 bolts) 1) → ⊥)
unfolding same_entity
a_service_writes_what_is_true =
    (refl, λ h. absurd (cc), λ h. absurd (cc), omega arith, λ h. omega (arith, h), λ h. omega (arith, h))

-- a row of a command needs nothing; one of a letter, a letter that is held and a settle need to be known, here as what
-- the placed order makes authentic
abbrev asked : JournalRow StockCommand
asked = record { entity = bolts; input = FromEntity o1 1 (Request 3) }

abbrev received : JournalRow StockCommand
received = record { entity = bolts; input = FromSeat 0 (Receive 10) }

abbrev Known : Envelope → Type 0
Known e = IsAuthentic (journals_of (tables orders_placed empty)) e

deeds_are_founded : DeedIs {C = StockCommand} (λ e. ⊥) Nothing × DeedIs (λ e. ⊥) (TakesIn received)
    × DeedIs Known (TakesIn asked) × DeedIs {C = StockCommand} Known (Holds request)
    × (DeedIs (λ e. ⊥) (TakesIn asked) → ⊥)
    × (DeedIs {C = StockCommand} Known (Holds forged) → ⊥)
    × (DeedIs {C = StockCommand} Known (Settles (from_to o1 bolts) 1) → ⊥)
unfolding same_entity
deeds_are_founded = (tt, tt, refl, refl, λ h. h, λ h. absurd (cc), λ h. omega (arith, h))

-- ten bolts come in, by a seat's command
abbrev stocked : StockTables
stocked = record empty { journal = received ∷ [] }

abbrev no_stocks : StockTables
no_stocks = empty

bolts_come_in : FoundedDeed stocks_service (λ e. ⊥) empty stocked
bolts_come_in = record {
  deed = TakesIn received;
  founded = tt;
  did = (
    record {
      follows = record { of_kind = refl; seated = omega arith; accepted = refl; next = tt };
      room = omega arith;
      fits = λ done is. λ receiver. grind arith;
      appended = refl;
    },
    refl,
    refl,
  );
}

-- no deed takes back what was done
nothing_is_taken_back : FoundedDeed stocks_service (λ e. ⊤) stocked no_stocks → ⊥
nothing_is_taken_back moves = back moves.deed moves.did
  where
    back : (deed : Deed StockCommand) → Did stocks_service (kept stocked) deed (kept no_stocks) → ⊥
    back Nothing did = let none : 0 ≡ 1 = ap (λ (k : Kept StockCommand). length k.journal) did in omega (arith, none)
    back (TakesIn row) did = let none : 0 ≡ 2 = ap length did.0.appended in omega (arith, none)
    back (Holds l) did =
        let none : 0 ≡ 1 = ap (λ (k : Kept StockCommand). length k.journal) did.2 in omega (arith, none)
    back (Settles p n) did =
        let none : 0 ≡ 1 = ap (λ (k : Kept StockCommand). length k.journal) did.2 in omega (arith, none)

-- one service turns, and the other two stay; two don't in one deed
one_service_acts : DeedOfOne (λ e. ⊥) all_empty (tables empty stocked)
    × (DeedOfOne (λ e. ⊤) all_empty (tables orders_placed stocked) → ⊥)
one_service_acts = (OfWarehouse bolts_come_in refl refl, two)
  where
    two : DeedOfOne (λ e. ⊤) all_empty (tables orders_placed stocked) → ⊥
    two (OfPurchasing moves warehouse billing) =
        let more : 1 ≡ 0 = ap (λ (t : StockTables). length t.journal) warehouse in omega (arith, more)
    two (OfWarehouse moves purchasing billing) =
        let more : 1 ≡ 0 = ap (λ (t : OrderTables). length t.journal) purchasing in omega (arith, more)
    two (OfBilling moves purchasing warehouse) =
        let more : 1 ≡ 0 = ap (λ (t : OrderTables). length t.journal) purchasing in omega (arith, more)

-- where warehouse's store failed while the bolts came in, each content that it may leave comes of the empty one
contents_come_of_deeds : ComesOf (DeedOfOne (λ e. ⊥)) (sees (only empty) (only empty))
    (sees (only empty) (either empty stocked))
contents_come_of_deeds y may =
    ∣ (
      all_empty,
      record { purchasing = refl; warehouse = refl; billing = refl },
      OfWarehouse (moved y.warehouse may.warehouse) may.purchasing may.billing,
    ) ∣₁
  where
    moved : (t : StockTables) → (t ≡ empty) ⊎ (t ≡ stocked) → FoundedDeed stocks_service (λ e. ⊥) empty t
    moved t (inl old) = record { deed = Nothing; founded = tt; did = ap kept old }
    moved t (inr new) = subst (FoundedDeed stocks_service (λ e. ⊥) empty) (sym new) bolts_come_in

-- tables that lost what a store has kept come of nothing
lost_rows_come_of_nothing : ComesOf (DeedOfOne (λ e. ⊤)) (sees (only empty) (only stocked))
    (sees (only empty) (only empty))
    → ⊥
lost_rows_come_of_nothing h =
    ∥∥₁_elim (h all_empty (record { purchasing = refl; warehouse = refl; billing = refl })) (λ a b. absurd a)
    (λ led. lost led.0 led.1 led.2)
  where
    lost : (x : AllTables) → MayLeave (sees (only empty) (only stocked)) x → DeedOfOne (λ e. ⊤) x all_empty → ⊥
    lost x was (OfPurchasing moves warehouse billing) =
        let same : empty ≡ stocked = warehouse ∙ was.warehouse in
        let none : 0 ≡ 1 = ap (λ (t : StockTables). length t.journal) same in omega (arith, none)
    lost x was (OfWarehouse moves purchasing billing) =
        nothing_is_taken_back (subst (λ t. FoundedDeed stocks_service (λ e. ⊤) t empty) was.warehouse moves)
    lost x was (OfBilling moves purchasing warehouse) =
        let same : empty ≡ stocked = warehouse ∙ was.warehouse in
        let none : 0 ≡ 1 = ap (λ (t : StockTables). length t.journal) same in omega (arith, none)
