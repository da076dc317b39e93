-- Examples: what is shown of a world in which an order was placed.
use Rattle.std.proofs.Common.{◌≡◌, ◌∙◌, ℕ, [], length, get_or, None, Result, Ok, Err, refl, sym, ap, subst, arith}
use Rattle.std.specs.Fmt.{digits}
use Rattle.std.specs.Prelude.{codes}
use Rattle.std.specs.Global.{Vec}
use Rattle.base.specs.Order.{same_entity, same_pair}
use Rattle.base.specs.declared.entity.Kind.TheVariants.{Order, Stock, Account}
use Rattle.endpoint.specs.declared.fault.EndFault.{EndFault}
use Rattle.endpoint.specs.declared.fault.EndFault.TheVariants.{NotMine, Business, TooEarly, StoreFailed, Memory}
use Rattle.endpoint.specs.declared.fault.EndFault.TheVariants.{Unusable, NumberLimit}
use Rattle.endpoint.specs.declared.fault.EndFault.TheVariants.{NotSent}
use Rattle.endpoint.specs.Faults.{end_of}
use Rattle.endpoint.proofs.Examples.{o1, bolts, acme, from_order}
use Rattle.keep.specs.Failing.{through}
use Rattle.keep.specs.Law.{Reads}
use Rattle.keep.specs.Tables.{Tables, empty}
use Rattle.laws_stores.specs.Sight.{OrderTables, StockTables, AccountTables}
use Rattle.schedule_mail.specs.Mails.{Mail, new_mail}
use Rattle.schedule_text.specs.declared.event.Event.TheVariants as event
use Rattle.schedule_text.specs.declared.event.ServiceName.TheVariants.{Purchasing, Warehouse, Billing}
use Rattle.schedule_text.specs.declared.outcome.Outcome.{Outcome}
use Rattle.schedule_text.specs.declared.outcome.Outcome.TheVariants as told
use Rattle.schedule_shows.specs.Printed.{shown_or_none, shown_order, shown_order_command, shown_stock_command}
use Rattle.schedule_shows.specs.Printed.{pair_line}
use Rattle.schedule_service.specs.Outcomes.{fault_told}
use Rattle.schedule_service.specs.declared.site.Site.{Site}
use Rattle.schedule_runner.specs.declared.looking.Listing.TheVariants.{Frames, Journal}
use Rattle.schedule_runner.specs.declared.looking.Mark.TheVariants.{Sent, Settled, Handled}
use Rattle.schedule_runner.specs.Looks.{mark_of, IsRow, AreListed, read_told, shown_told, ReadsSite}
use Rattle.schedule_runner.specs.Shows.{TellsReading, TellsPair, Behind, Returns, RowOf, ListOf, MarkOf, ShowsPair}
use Rattle.schedule_runner.specs.Shows.{ReadsHandled, ReadsSettled, ReadsPair}
use Rattle.schedule_runner.specs.declared.looking.PairTables.{PairTables}
use Rattle.schedule_runner.specs.Steps.{WorldStep}
use Rattle.schedule_runner.proofs.PathExamples.{seen, store, TheWorld, world}
use Rattle.laws_stores.proofs.Placed.{before, after}

-- so many letters were sent, of which none is settled and none handled
abbrev first : ℕ → PairTables
first n = record { sent = n; settled = 0; handled = 0 }

-- how many were sent, where that was read, and 0 where it wasn't
abbrev sent_in : Result PairTables Outcome → ℕ
sent_in (Ok tables) = tables.sent
sent_in (Err told) = 0

not_ok : (tables : PairTables) (o : Outcome) → Ok tables ≡ Err o → ⊥
not_ok tables o same = absurd (cc)

-- the number of a refusal
abbrev number_of : Outcome → ℕ
number_of (told.Refused n) = n
number_of _ = 0

-- what is told of a read that wasn't done, and a refusal with 0 where it was
abbrev fault_in : Result PairTables Outcome → Outcome
fault_in (Ok tables) = told.Refused 0
fault_in (Err o) = o

-- a service of no connection whose store has these tables
module _ {H S C : Type 0} where
  abbrev site : Tables S C → Site H (Tables S C) S C
  site t = record { endpoint = store t; zero = None; one = None }

  -- what the tables give is read, and nothing else
  reads : {R : Type 0} (gives : Tables S C → R → Type 0) (r : R) (t : Tables S C) → gives t r
      → ReadsSite {H = H} seen gives (Ok r) (site t) new_mail (site t) new_mail
  reads gives r t given = record {
    answer = Ok r;
    reads = record { call = (refl, refl, refl, refl); doubt = omega arith; clean = λ clean. (given, refl) };
    tells = refl;
    after = (refl, refl);
  }

  no_memory : {R : Type 0} (gives : Tables S C → R → Type 0) (t : Tables S C)
      → ReadsSite {H = H} seen gives (Err (told.Refused 64)) (site t) new_mail (site t) new_mail
  no_memory gives t = record {
    answer = Err Memory;
    reads = record { call = (refl, refl, refl, refl); doubt = omega arith; clean = λ clean. refl };
    tells = refl;
    after = (refl, refl);
  }

  not_read : {R : Type 0} (gives : Tables S C → R → Type 0) (r : R) (t : Tables S C) → (gives t r → ⊥)
      → ReadsSite {H = H} seen gives (Ok r) (site t) new_mail (site t) new_mail → ⊥
  not_read {R} gives r t other h = by_answer h.answer h.tells h.reads
    where
      by_answer : (a : Result R EndFault) → Ok r ≡ read_told a
          → Reads (through seen) (store t) (store t) gives (end_of a) → ⊥
      by_answer (Ok x) tells reads = let is : x ≡ r = cc in other (subst (gives t) is (reads.clean refl).0)
      by_answer (Err fault) tells reads = absurd (cc)

  -- what was read the tables give
  read_is : {R : Type 0} (gives : Tables S C → R → Type 0) (r : R) (t : Tables S C) (u : Site H (Tables S C) S C)
      (to : Mail)
      → ReadsSite {H = H} seen gives (Ok r) (site t) new_mail u to → gives t r
  read_is {R} gives r t u to h = by_answer h.answer h.tells h.reads
    where
      by_answer : (a : Result R EndFault) → Ok r ≡ read_told a
          → Reads (through seen) (store t) u.endpoint gives (end_of a) → gives t r
      by_answer (Ok x) tells reads = let is : x ≡ r = cc in subst (gives t) is (reads.clean refl).0
      by_answer (Err fault) tells reads = absurd (cc)

-- no fault shows lines
not_shown : (lines : Vec ℕ) (f : EndFault) → told.Shown lines ≡ fault_told f → ⊥
not_shown lines NotMine h = absurd (cc)
not_shown lines (Business refusal) h = absurd (cc)
not_shown lines TooEarly h = absurd (cc)
not_shown lines StoreFailed h = absurd (cc)
not_shown lines Memory h = absurd (cc)
not_shown lines Unusable h = absurd (cc)
not_shown lines NumberLimit h = absurd (cc)
not_shown lines NotSent h = absurd (cc)

not_read_shows : {H R S C : Type 0} (gives : Tables S C → R → Type 0) (o : Outcome) (s t : Site H (Tables S C) S C)
    (from to : Mail)
    (lines : Vec ℕ) → ReadsSite seen gives (Err o) s from t to → told.Shown lines ≡ o → ⊥
not_read_shows {R} gives o s t from to lines h shown = by_answer h.answer h.tells
  where
    by_answer : (a : Result R EndFault) → Err o ≡ read_told a → ⊥
    by_answer (Ok r) same = absurd (cc)
    by_answer (Err f) same = let fault : o ≡ fault_told f = cc in not_shown lines f (shown ∙ fault)

module _ (any : TheWorld) where
  -- the order was placed; and the world before that
  abbrev w : TheWorld
  w = world any after empty

  abbrev earlier : TheWorld
  earlier = world any before empty

  -- ---- marks

  -- purchasing sent one letter to the stock, and nothing of it is settled; warehouse has handled none; no other number
  -- is read
  marks_are_read : MarkOf seen seen seen Order Sent (from_order bolts) (Ok 1) w w
      × MarkOf seen seen seen Order Settled (from_order bolts) (Ok 0) w w
      × MarkOf seen seen seen Stock Handled (from_order bolts) (Ok 0) w w
      × MarkOf seen seen seen Account Handled (from_order acme) (Ok 0) w w
      × MarkOf seen seen seen Order Sent (from_order bolts) (Err (told.Refused 64)) w w
      × (MarkOf seen seen seen Order Sent (from_order bolts) (Ok 2) w w → ⊥)
      × (MarkOf seen seen seen Stock Handled (from_order bolts) (Ok 1) w w → ⊥)
  unfolding same_entity same_pair
  marks_are_read = (
    (reads _ 1 after refl, refl, refl),
    (reads _ 0 after refl, refl, refl),
    (reads _ 0 empty refl, refl, refl),
    (reads _ 0 empty refl, refl, refl),
    (no_memory _ after, refl, refl),
    λ h. not_read (λ t n. n ≡ mark_of Sent t (from_order bolts)) 2 after (λ e. omega (arith, e)) h.0,
    λ h. not_read (λ t n. n ≡ mark_of Handled t (from_order bolts)) 1 empty (λ e. omega (arith, e)) h.0,
  )

  -- after a mark comes what is to come; where it wasn't read its fault alone is told
  faults_end_it : Behind {KO = OrderTables} {KS = StockTables} {KA = AccountTables} (Ok 1) (λ n. Returns (first n))
      (Ok (first 1)) w w
      × Behind (Err (told.Refused 63)) (λ n. Returns (first n)) (Err (told.Refused 63)) w w
      × (Behind (Err (told.Refused 63)) (λ n. Returns (first n)) (Err (told.Refused 64)) w w → ⊥)
      × (Behind (Err (told.Refused 63)) (λ n. Returns (first n)) (Err (told.Refused 63)) w earlier → ⊥)
      × (Behind (Err (told.Refused 63)) (λ n. Returns (first n)) (Ok (first 1)) w w → ⊥)
  faults_end_it = (
    (refl, refl),
    (refl, refl),
    λ h. let number : 64 ≡ 63 = ap (λ r. number_of (fault_in r)) h.0 in omega (arith, number),
    λ h. other_world h.1,
    λ h. let number : 0 ≡ 63 = ap (λ r. number_of (fault_in r)) h.0 in omega (arith, number),
  )
    where
      other_world : earlier ≡ w → ⊥
      other_world h =
          let row : 0 ≡ 1 = ap (λ (v : TheWorld). length v.purchasing.endpoint.keep.journal) h in omega (arith, row)

  -- ---- lines

  -- what the tables have of a pair is shown in its line, and in no other; a fault is told as it is
  module _ (line : Vec ℕ) (is : line.items ≡ codes "pair order/o1 stock/bolts sent 1 settled 0 handled 0\n") where
    lines_are_shown : TellsPair (from_order bolts) (Ok (first 1)) (told.Shown line)
        × TellsPair (from_order bolts) (Ok (first 1)) (told.Refused 64)
        × TellsPair (from_order bolts) (Err (told.Refused 63)) (told.Refused 63)
        × (TellsPair (from_order bolts) (Ok (first 1)) (told.Refused 63) → ⊥)
        × (TellsPair (from_order bolts) (Ok (first 2)) (told.Shown line) → ⊥)
        × (TellsPair (from_order bolts) (Err (told.Refused 63)) (told.Refused 64) → ⊥)
    unfolding digits same_entity same_pair
    lines_are_shown = (
      is,
      refl,
      refl,
      λ h. omega (arith, h),
      λ h. let digit : 49 ≡ 50 = ap (λ l. get_or l 31 0) (sym is ∙ h) in omega (arith, digit),
      λ h. let number : 64 ≡ 63 = ap number_of h in omega (arith, number),
    )

  -- the row of the placed order is shown, and it isn't shown as one that wasn't placed; a stock that did nothing has no
  -- row
  abbrev Gives : OrderTables → Vec ℕ → Type 0
  Gives t lines = IsRow (shown_or_none shown_order) o1 t lines.items

  module _ (line none unknown : Vec ℕ)
      (is : line.items ≡ codes "order/o1 open stock/bolts 3 requested account/acme 500 requested\n")
      (isnt : none.items ≡ codes "order/o1 none\n") (nothing : unknown.items ≡ codes "stock/bolts none\n") where
    the_order_is_shown : RowOf seen seen seen Order o1 (Ok line) w w
        × TellsReading (RowOf seen seen seen Order o1) (told.Shown line) w w
        × WorldStep seen seen seen (event.Show o1) (told.Shown line) w w
        × RowOf seen seen seen Order o1 (Ok none) earlier earlier
        × RowOf seen seen seen Stock bolts (Ok unknown) w w
        × (RowOf seen seen seen Order o1 (Ok none) w w → ⊥)
        × (TellsReading (RowOf seen seen seen Order o1) (told.Shown none) w w → ⊥)
    unfolding digits same_entity
    the_order_is_shown = (
      (reads _ line after is, refl, refl),
      (Ok line, (reads _ line after is, refl, refl), refl),
      (Ok line, (reads _ line after is, refl, refl), refl),
      (reads _ none before isnt, refl, refl),
      (reads _ unknown empty nothing, refl, refl),
      λ h. lost none isnt h.0,
      λ h. not_told h.0 h.1 h.2,
    )
      where
        differ : codes "order/o1 none\n" ≡ codes "order/o1 open stock/bolts 3 requested account/acme 500 requested\n"
            → ⊥
        differ h = let shorter : 14 ≡ 65 = ap length h in omega (arith, shorter)

        lost : (v : Vec ℕ) → v.items ≡ codes "order/o1 none\n"
            → ReadsSite seen Gives (Ok v) w.purchasing new_mail w.purchasing new_mail → ⊥
        lost v says h = not_read Gives v after (λ given. differ (sym says ∙ given)) h

        not_told : (r : Result (Vec ℕ) Outcome) → RowOf seen seen seen Order o1 r w w → told.Shown none ≡ shown_told r
            → ⊥
        not_told (Ok v) h tells = let same : none ≡ v = cc in
            lost v (subst (λ (x : Vec ℕ). x.items ≡ codes "order/o1 none\n") same isnt) h.0
        not_told (Err o) h tells = of_fault h.0.answer h.0.tells
          where
            of_fault : (a : Result (Vec ℕ) EndFault) → Err o ≡ read_told a → ⊥
            of_fault (Ok v) same = absurd (cc)
            of_fault (Err f) same = let fault : o ≡ fault_told f = cc in not_shown none f (tells ∙ fault)

  -- ---- lists

  -- purchasing's journal has the command, and warehouse's none; warehouse has nothing to send; the command isn't left
  -- out
  module _ (row nothing : Vec ℕ) (is : row.items ≡ codes "1 order/o1 seat 0 place bolts 3 acme 500\n")
      (isnt : nothing.items ≡ []) where
    the_journal_is_shown : ListOf seen seen seen Purchasing Journal (Ok row) w w
        × ListOf seen seen seen Warehouse Journal (Ok nothing) w w
        × ListOf seen seen seen Billing Frames (Ok nothing) w w
        × WorldStep seen seen seen (event.Journal Purchasing) (told.Shown row) w w
        × (ListOf seen seen seen Purchasing Journal (Ok nothing) w w → ⊥)
        × (ListOf seen seen seen Warehouse Journal (Ok row) w w → ⊥)
    unfolding digits same_entity
    the_journal_is_shown = (
      (reads _ row after is, refl, refl),
      (reads _ nothing empty isnt, refl, refl),
      (reads _ nothing empty ([], λ x later. refl, isnt), refl, refl),
      (Ok row, (reads _ row after is, refl, refl), refl),
      λ h. not_read (λ t (lines : Vec ℕ). AreListed shown_order_command Journal t lines.items) nothing after
          (λ given. let none : 0 ≡ 41 = ap length (sym isnt ∙ given) in omega (arith, none)) h.0,
      λ h. not_read (λ t (lines : Vec ℕ). AreListed shown_stock_command Journal t lines.items) row empty
          (λ given. let none : 41 ≡ 0 = ap length (sym is ∙ given) in omega (arith, none)) h.0,
    )

  -- ---- a pair

  -- one letter was sent, of which none is settled and none handled: it is read of two services, and shown in one line
  the_pair_is_read : ReadsPair seen seen seen (from_order bolts) (Ok (first 1)) w w
      × ReadsPair seen seen seen (from_order bolts) (Err (told.Refused 64)) w w
  unfolding same_entity same_pair
  the_pair_is_read = (
    (
      Ok 1,
      w,
      (reads _ 1 after refl, refl, refl),
      (Ok 0, w, (reads _ 0 after refl, refl, refl), (Ok 0, w, (reads _ 0 empty refl, refl, refl), (refl, refl))),
    ),
    (Err (told.Refused 64), w, (no_memory _ after, refl, refl), (refl, refl)),
  )

  module _ (line : Vec ℕ) (is : line.items ≡ codes "pair order/o1 stock/bolts sent 1 settled 0 handled 0\n") where
    the_pair_is_shown : ShowsPair seen seen seen (from_order bolts) (told.Shown line) w w
        × ShowsPair seen seen seen (from_order bolts) (told.Refused 64) w w
    unfolding digits same_entity same_pair
    the_pair_is_shown = (
      (Ok (first 1), the_pair_is_read.0, is),
      (Err (told.Refused 64), the_pair_is_read.1, refl),
    )

  -- two letters are not read, whatever is read after their mark, and no line is shown that tells of two
  sent_is : (n : ℕ) (mid : TheWorld) → MarkOf seen seen seen Order Sent (from_order bolts) (Ok n) w mid → n ≡ 1
  unfolding same_entity same_pair
  sent_is n mid mark =
      read_is (λ t x. x ≡ mark_of Sent t (from_order bolts)) n after mid.purchasing mid.mail mark.0

  by_handled : (n m : ℕ) (tables : PairTables) (a : TheWorld)
      → ReadsHandled seen seen seen (from_order bolts) n m (Ok tables) a w → tables.sent ≡ n
  by_handled n m tables a (Ok k, mid, mark, behind) = ap sent_in behind.0
  by_handled n m tables a (Err o, mid, mark, behind) = absurd (not_ok tables o behind.0)

  by_settled : (n : ℕ) (tables : PairTables) (a : TheWorld)
      → ReadsSettled seen seen seen (from_order bolts) n (Ok tables) a w → tables.sent ≡ n
  by_settled n tables a (Ok m, mid, mark, behind) = by_handled n m tables mid behind
  by_settled n tables a (Err o, mid, mark, behind) = absurd (not_ok tables o behind.0)

  no_other_pair_is_read : (tables : PairTables) → ReadsPair seen seen seen (from_order bolts) (Ok tables) w w
      → tables.sent ≡ 1
  no_other_pair_is_read tables (Ok n, mid, mark, behind) = by_settled n tables mid behind ∙ sent_is n mid mark
  no_other_pair_is_read tables (Err o, mid, mark, behind) = absurd (not_ok tables o behind.0)

  handled_fault : (n m : ℕ) (o : Outcome) (line : Vec ℕ) (a : TheWorld)
      → ReadsHandled seen seen seen (from_order bolts) n m (Err o) a w → told.Shown line ≡ o → ⊥
  handled_fault n m o line a (Ok k, mid, mark, behind) shown = not_ok _ o (sym behind.0)
  handled_fault n m o line a (Err f, mid, mark, behind) shown =
      not_read_shows _ f a.warehouse mid.warehouse a.mail mid.mail line mark.0 (shown ∙ ap fault_in behind.0)

  settled_fault : (n : ℕ) (o : Outcome) (line : Vec ℕ) (a : TheWorld)
      → ReadsSettled seen seen seen (from_order bolts) n (Err o) a w → told.Shown line ≡ o → ⊥
  settled_fault n o line a (Ok m, mid, mark, behind) shown = handled_fault n m o line mid behind shown
  settled_fault n o line a (Err f, mid, mark, behind) shown =
      not_read_shows _ f a.purchasing mid.purchasing a.mail mid.mail line mark.0 (shown ∙ ap fault_in behind.0)

  -- no fault of a read shows a line
  pair_fault : (o : Outcome) (line : Vec ℕ) → ReadsPair seen seen seen (from_order bolts) (Err o) w w
      → told.Shown line ≡ o → ⊥
  pair_fault o line (Ok n, mid, mark, behind) shown = settled_fault n o line mid behind shown
  pair_fault o line (Err f, mid, mark, behind) shown =
      not_read_shows _ f w.purchasing mid.purchasing w.mail mid.mail line mark.0 (shown ∙ ap fault_in behind.0)

  module _ (line : Vec ℕ) (is : line.items ≡ codes "pair order/o1 stock/bolts sent 2 settled 0 handled 0\n") where
    no_other_pair_is_shown : ShowsPair seen seen seen (from_order bolts) (told.Shown line) w w → ⊥
    unfolding digits same_entity same_pair
    no_other_pair_is_shown = by_pair
      where
        differ : (m k : ℕ) → line.items ≡ pair_line (from_order bolts) 1 m k → ⊥
        differ m k same = let digit : 50 ≡ 49 = ap (λ l. get_or l 31 0) (sym is ∙ same) in omega (arith, digit)

        by_pair : ShowsPair seen seen seen (from_order bolts) (told.Shown line) w w → ⊥
        by_pair (Ok tables, read, shows) = differ tables.settled tables.handled (subst (λ n. line.items
            ≡ pair_line (from_order bolts) n tables.settled tables.handled) (no_other_pair_is_read tables read) shows)
        by_pair (Err o, read, shows) = pair_fault o line read shows
