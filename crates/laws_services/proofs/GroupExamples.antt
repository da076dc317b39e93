-- Examples: a group of two letters is one step, behind which both are taken, and a settle of each may be written.
use Rattle.std.proofs.Common.{◌≡◌, ℕ, zero, suc, ◌+◌, ◌≤◌, ◌<◌, List, [], ◌∷◌, ◌++◌, false, Ok, refl, sym}
use Rattle.std.proofs.Common.{◌∙◌, ap, subst, arith, inl, inr, length}
use Rattle.std.specs.Prelude.{Contains, None, codes, slice_get, slice_index_or, ⊤}
use Rattle.std.specs.Global.{Vec}
use Rattle.std.proofs.lemmas.List.Elements.{Contains-push_cases}
use Rattle.base.specs.Entity.{Entity, stock_of}
use Rattle.base.specs.Order.{same_entity, same_pair}
use Rattle.base.specs.declared.entity.Kind.TheVariants.{Stock}
use Rattle.base.specs.declared.limits.TheConstants.{HELD_WINDOW, MAX_NUMBER}
use Rattle.base.specs.declared.pair.Pair.{Pair}
use Rattle.envelope.specs.declared.message.Envelope.{Envelope}
use Rattle.envelope.specs.declared.message.Envelope.TheVariants.{Letter, Settle}
use Rattle.envelope.specs.declared.message.Letter as letter
use Rattle.envelope.specs.declared.message.Message.TheVariants.{Request, Refused}
use Rattle.trade.specs.Stocks.{StockState, stock_reactions}
use Rattle.activities.specs.Reaction.{messages_to}
use Rattle.activities.specs.Rows.{row_for, state_for}
use Rattle.activities.specs.declared.outs.Out.{Out}
use Rattle.activities.proofs.Sameness.{either}
use Rattle.keep.specs.Seen.{IsSound}
use Rattle.keep.specs.Tables.{changed, set_message}
use Rattle.keep.specs.declared.change.Change.TheVariants.{Journal, State}
use Rattle.outbox.specs.Numbering.{numbering, NumbersFit}
use Rattle.endpoint.specs.Arrivals.{row_of_letter}
use Rattle.endpoint.specs.Matches.{TablesMatchJournal}
use Rattle.endpoint.specs.Calls.{IsCommit}
use Rattle.endpoint.specs.Deeds.{TakesIn}
use Rattle.endpoint.proofs.Arriving.{letter_changes, letter_prepares}
use Rattle.endpoint.proofs.Examples.{o1}
use Rattle.endpoint.proofs.Exits.{on_write_ok}
use Rattle.endpoint.proofs.Opening.{empty-matches}
use Rattle.group_commit.specs.Group.{TakesOne, TakesEach, Groups}
use Rattle.group_commit.specs.declared.grouped.Grouped.{Grouped}
use Rattle.group_commit.specs.declared.grouped.Grouped.TheVariants as grouped
use Rattle.laws_stores.specs.Sight.{StockTables, stocks_service}
use Rattle.laws_services.specs.Services.{Traffic}
use Rattle.laws_services.specs.Steps.{TakesLetter, MayWrite, StepOfOne, AtWarehouse}
use Rattle.laws_services.proofs.Examples.{first, idle, services}
use Rattle.laws_services.proofs.Living.{only}
use Rattle.laws_services.proofs.Grouping.{group_does, group_takes, group_handled}

only_sound : {T : Type 0} (t : T) → IsSound (only t)
only_sound t = record { only_now = λ clean usable x is. is; stays = λ clean usable. refl; leaves = λ clean. ∣ (t, refl) ∣₁ }

-- a letter of the same order to another stock
abbrev other : letter.Letter
other = record { pair = record { from = o1; to = stock_of (codes "nuts") }; number = 1; message = Request 2 }

abbrev both : List Envelope
both = Letter first ∷ Letter other ∷ []

-- ---- a stock of which nothing is there takes in a letter

abbrev answer : letter.Letter → StockState × List Out
answer l = stock_reactions.on_message stock_reactions.opening l.pair.from l.message

abbrev behind : letter.Letter → (position : ℕ) → StockTables → StockTables
behind l position t = changed ((letter_changes l ++ numbering t.sent l.pair.to (answer l).1)
    ++ State l.pair.to (row_for (λ _. false) (answer l).0) ∷ Journal position (row_of_letter l) ∷ []) t

module _ (l : letter.Letter) (position : ℕ) (t : StockTables) (match : TablesMatchJournal stocks_service t)
    (mine : l.pair.to.kind ≡ Stock) (next : l.number ≡ t.handled l.pair + 1)
    (opening : stock_reactions.opening ≡ state_for stock_reactions.opening (t.entity l.pair.to))
    (placed : position ≡ length t.journal + 1) (room : length t.journal < MAX_NUMBER)
    (fits : NumbersFit t.sent l.pair.to (answer l).1) where
  commits : IsCommit HELD_WINDOW stocks_service t (row_of_letter l) (set_message l.pair l.number None t.held)
      (behind l position t) (λ _. ⊤)
      (Ok (record { pos = position }))
  commits = on_write_ok HELD_WINDOW stocks_service (λ s none. absurd (cc)) t t (row_of_letter l) match mine room refl
      stock_reactions.opening opening (set_message l.pair l.number None t.held) (answer l) refl position placed
      (letter_changes l) (letter_prepares HELD_WINDOW stocks_service t l match next (letter_changes l) refl) refl
      (answer l).1 refl (letter_changes l ++ numbering t.sent l.pair.to (answer l).1) refl t refl fits
      (behind l position t) (λ _. ⊤) position refl refl

  takes_letter : TakesOne stocks_service (Letter l) (grouped.Handled position) t (behind l position t)
  takes_letter = record {
    deed = TakesIn (row_of_letter l);
    may = (refl, placed ∙ omega arith);
    did = (commits.1.takes, commits.1.settled, commits.1.held);
    matches = commits.1.matches;
  }

-- its answer is one message, and few were sent
one_to : (r : Entity) (o : Out) → length (messages_to r (o ∷ [])) ≤ 1
one_to r o = grind arith

-- ---- both together

abbrev between : StockTables
between = behind first 1 idle

abbrev taken : StockTables
taken = behind other 2 between

takes_first : TakesOne stocks_service (Letter first) (grouped.Handled 1) idle between
unfolding same_entity same_pair
takes_first = takes_letter first 1 idle (empty-matches HELD_WINDOW stocks_service) refl refl refl
    refl (omega arith)
    (λ r some. let one = one_to r (record { receiver = o1; message = Refused }) in omega (arith, one))

few_sent : (p : Pair) → between.sent p ≤ 1
few_sent p = grind arith

takes_other : TakesOne stocks_service (Letter other) (grouped.Handled 2) between taken
unfolding same_entity same_pair
takes_other = takes_letter other 2 between takes_first.matches refl refl refl
    refl (omega arith)
    (λ r some. let one = one_to r (record { receiver = o1; message = Refused }) in
    let few = few_sent (record { from = other.pair.to; to = r }) in omega (arith, one, few))

it_groups : (told : Vec Grouped) → told.items ≡ grouped.Handled 1 ∷ grouped.Handled 2 ∷ []
    → Groups only idle taken stocks_service both (Ok told)
it_groups told is = record {
  call = (refl, refl, refl, refl);
  doubt = omega arith;
  clean = λ clean match. subst (λ gs. TakesEach stocks_service both gs idle taken) (sym is)
      (between, takes_first, (taken, takes_other, refl));
}

-- ---- a step: behind it both are taken, and a settle of each is written

abbrev asked : Traffic
asked = record { written = both; taken = [] }

abbrev handled : Traffic
handled = record {
  written = Letter first ∷ Letter other ∷ Settle first.pair 1 ∷ Settle other.pair 1 ∷ [];
  taken = first ∷ other ∷ [];
}

both_written : (k : ℕ) (d : Envelope) → k < 2 → Contains both (slice_index_or both k d)
both_written zero d less = (0, omega arith, refl)
both_written (suc zero) d less = (1, omega arith, refl)
both_written (suc (suc k)) d less = absurd (omega (arith, less))

a_group_is_a_step : (told : Vec Grouped) → told.items ≡ grouped.Handled 1 ∷ grouped.Handled 2 ∷ []
    → StepOfOne only only only (services idle asked) (services taken handled)
a_group_is_a_step told is = let groups = it_groups told is in AtWarehouse (record {
  does = group_does only only_sound stocks_service idle taken both both (Ok told) groups
      (λ clean match t same. subst (TablesMatchJournal stocks_service) (sym same) takes_other.matches) both_written;
  writes = λ e was. either (Contains-push_cases (Letter first ∷ Letter other ∷ Settle first.pair 1 ∷ [])
      (Settle other.pair 1) e was)
      (λ more. either (Contains-push_cases both (Settle first.pair 1) e more)
      inl
      (λ same. inr (subst (MayWrite only stocks_service idle taken) same
      (group_handled only only_sound stocks_service idle taken both told 0 first 1 groups refl
      (ap (λ gs. slice_get gs 0) is)))))
      (λ same. inr (subst (MayWrite only stocks_service idle taken) same
      (group_handled only only_sound stocks_service idle taken both told 1 other 2 groups refl
      (ap (λ gs. slice_get gs 1) is))));
  takes = λ l was. either (Contains-push_cases (first ∷ []) other l was)
      (λ more. either (Contains-push_cases [] first l more)
      inl
      (λ same. inr (subst (λ k. TakesLetter only stocks_service k idle taken) same
      (group_takes only only_sound stocks_service idle taken both told 0 first (grouped.Handled 1) groups refl
      (ap (λ gs. slice_get gs 0) is)))))
      (λ same. inr (subst (λ k. TakesLetter only stocks_service k idle taken) same
      (group_takes only only_sound stocks_service idle taken both told 1 other (grouped.Handled 2) groups refl
      (ap (λ gs. slice_get gs 1) is))));
}) refl refl
