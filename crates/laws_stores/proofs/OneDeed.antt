-- What one deed among three services does to their journals, marks and held letters.
use Rattle.std.proofs.Common.{◌≡◌, ℕ, List, [], ◌∷◌, ◌++◌, ◌⊎◌, ap, inl, inr, subst}
use Rattle.std.specs.Prelude.{max}
use Rattle.base.specs.declared.entity.Kind.{Kind}
use Rattle.base.specs.declared.entity.Kind.TheVariants.{Order, Stock, Account}
use Rattle.base.specs.declared.pair.Pair.{Pair}
use Rattle.envelope.specs.declared.message.Envelope.{Envelope}
use Rattle.envelope.specs.declared.message.Envelope.TheVariants.{Letter, Settle}
use Rattle.activities.specs.declared.input.JournalRow.{JournalRow}
use Rattle.activities.specs.Follow.{MayFollow}
use Rattle.activities.specs.Service.{Service}
use Rattle.activities.proofs.Sameness.{either}
use Rattle.laws_journals.specs.Growth.{IsFrom, AddsRowFrom, AddsOrder, AddsStock, AddsAccount}
use Rattle.laws_journals.proofs.Growth.{adds-known}
use Rattle.keep.specs.Tables.{Tables}
use Rattle.endpoint.specs.Deeds.{Kept, kept, Deed, Nothing, TakesIn, Holds, Settles, Did}
use Rattle.laws_stores.specs.Deeds.{DeedIs, FoundedDeed, DeedOfOne, OfPurchasing, OfWarehouse, OfBilling}
use Rattle.laws_stores.specs.Good.{journals_of, settled_by, letters_held_by, IsHeldIn}
use Rattle.laws_stores.specs.Sight.{AllTables, orders_service, stocks_service, accounts_service}
use Rattle.laws_stores.proofs.Doing.{did_settled, did_held}

-- ---- one service

-- what is known, or is held in these tables
abbrev Founds : {S C : Type 0} → (Envelope → Type 0) → Tables S C → Envelope → Type 0
Founds known t e = known e ⊎ IsHeldIn t.held e

-- a mark stays, or is raised to a number that has this property
abbrev Raises : (Envelope → Type 0) → Pair → (old new : ℕ) → Type 0
Raises P p old new = (new ≡ old) ⊎ ((n : ℕ) × (new ≡ max old n) × P (Settle p n))

module _ {S C : Type 0} (s : Service S C) where
  -- the journal stays, or has one row more, which may follow
  abbrev Continues : (Envelope → Type 0) → (journal later : List (JournalRow C)) → Type 0
  Continues P journal later = (later ≡ journal) ⊎ ((row : JournalRow C) × MayFollow s.reactions s.kind journal row
      × IsFrom P row.entity row.input × (later ≡ journal ++ row ∷ []))

  did_journal : (P : Envelope → Type 0) (x y : Kept C) (d : Deed C) → Did s x d y → DeedIs P d
      → Continues P x.journal y.journal
  did_journal P x y Nothing did a = inl (ap (λ (k : Kept _). k.journal) did)
  did_journal P x y (TakesIn row) did a = inr (row, did.0.follows, a, did.0.appended)
  did_journal P x y (Holds l) did a = inl (ap (λ (k : Kept _). k.journal) did.2)
  did_journal P x y (Settles p n) did a = inl (ap (λ (k : Kept _). k.journal) did.2)

  module _ (known P : Envelope → Type 0) (x y : Tables S C) (m : FoundedDeed s known x y) where
    journal_by_deed : Continues (Founds known x) x.journal y.journal
    journal_by_deed = did_journal (Founds known x) (kept x) (kept y) m.deed m.did m.founded

    -- where what is known and what is held has a property, marks are raised to what has it alone, and so is what is
    -- held then
    mark_by_deed : ((e : Envelope) → Founds known x e → P e) → (p : Pair) → Raises P p (x.settled p) (y.settled p)
    mark_by_deed all p = either (did_settled s (Founds known x) (kept x) (kept y) m.deed m.did m.founded p)
        inl
        (λ up. inr (up.0, up.1, all (Settle p up.0) up.2))

    held_by_deed : (e : Envelope) → IsHeldIn y.held e → Founds known x e
    held_by_deed (Letter l) h =
        either (did_held s (Founds known x) (kept x) (kept y) m.deed m.did m.founded l.pair l.number l.message h)
        inr
        (λ f. f)
    held_by_deed (Settle p n) h = absurd h

-- ---- three services

module _ (known P : Envelope → Type 0) (x y : AllTables) (all : (e : Envelope) → known e → P e)
    (held : (kind : Kind) (e : Envelope) → IsHeldIn (letters_held_by x kind) e → P e) where
  founds_all : (kind : Kind) (e : Envelope) → known e ⊎ IsHeldIn (letters_held_by x kind) e → P e
  founds_all kind e h = either h (all e) (held kind e)

  -- the journals stay, or one service wrote a row
  pub one_journals : DeedOfOne known x y → (journals_of y ≡ journals_of x)
      ⊎ AddsRowFrom P (journals_of x) (journals_of y)
  one_journals (OfPurchasing m w b) = either (journal_by_deed orders_service known P x.purchasing y.purchasing m)
      (λ same. inl (λ i. record { orders = same i; stocks = (w i).journal; accounts = (b i).journal }))
      (λ more. inr (adds-known (Founds known x.purchasing) P (journals_of x) (journals_of y) (founds_all Order)
      (AddsOrder more.0 more.1 more.2 (λ i. record {
        orders = more.3 i;
        stocks = (w i).journal;
        accounts = (b i).journal;
      }))))
  one_journals (OfWarehouse m p b) = either (journal_by_deed stocks_service known P x.warehouse y.warehouse m)
      (λ same. inl (λ i. record { orders = (p i).journal; stocks = same i; accounts = (b i).journal }))
      (λ more. inr (adds-known (Founds known x.warehouse) P (journals_of x) (journals_of y) (founds_all Stock)
      (AddsStock more.0 more.1 more.2 (λ i. record {
        orders = (p i).journal;
        stocks = more.3 i;
        accounts = (b i).journal;
      }))))
  one_journals (OfBilling m p w) = either (journal_by_deed accounts_service known P x.billing y.billing m)
      (λ same. inl (λ i. record { orders = (p i).journal; stocks = (w i).journal; accounts = same i }))
      (λ more. inr (adds-known (Founds known x.billing) P (journals_of x) (journals_of y) (founds_all Account)
      (AddsAccount more.0 more.1 more.2 (λ i. record {
        orders = (p i).journal;
        stocks = (w i).journal;
        accounts = more.3 i;
      }))))

  -- a mark stays, or is raised to a number that has the property
  pub one_marks : DeedOfOne known x y → (kind : Kind) (p : Pair)
      → Raises P p (settled_by x kind p) (settled_by y kind p)
  one_marks (OfPurchasing m w b) Order p =
      mark_by_deed orders_service known P x.purchasing y.purchasing m (founds_all Order) p
  one_marks (OfPurchasing m w b) Stock p = inl (λ i. (w i).settled p)
  one_marks (OfPurchasing m w b) Account p = inl (λ i. (b i).settled p)
  one_marks (OfWarehouse m o b) Order p = inl (λ i. (o i).settled p)
  one_marks (OfWarehouse m o b) Stock p =
      mark_by_deed stocks_service known P x.warehouse y.warehouse m (founds_all Stock) p
  one_marks (OfWarehouse m o b) Account p = inl (λ i. (b i).settled p)
  one_marks (OfBilling m o w) Order p = inl (λ i. (o i).settled p)
  one_marks (OfBilling m o w) Stock p = inl (λ i. (w i).settled p)
  one_marks (OfBilling m o w) Account p =
      mark_by_deed accounts_service known P x.billing y.billing m (founds_all Account) p

  -- what is held in tables that stayed has the property
  still_held : (kind : Kind) (e : Envelope) → letters_held_by y kind ≡ letters_held_by x kind
      → IsHeldIn (letters_held_by y kind) e → P e
  still_held kind e same h = held kind e (subst (λ letters. IsHeldIn letters e) same h)

  -- and so has all that is held then
  pub one_held : DeedOfOne known x y → (kind : Kind) (e : Envelope) → IsHeldIn (letters_held_by y kind) e → P e
  one_held (OfPurchasing m w b) Order e h =
      founds_all Order e (held_by_deed orders_service known P x.purchasing y.purchasing m e h)
  one_held (OfPurchasing m w b) Stock e h = still_held Stock e (λ i. (w i).held) h
  one_held (OfPurchasing m w b) Account e h = still_held Account e (λ i. (b i).held) h
  one_held (OfWarehouse m o b) Order e h = still_held Order e (λ i. (o i).held) h
  one_held (OfWarehouse m o b) Stock e h =
      founds_all Stock e (held_by_deed stocks_service known P x.warehouse y.warehouse m e h)
  one_held (OfWarehouse m o b) Account e h = still_held Account e (λ i. (b i).held) h
  one_held (OfBilling m o w) Order e h = still_held Order e (λ i. (o i).held) h
  one_held (OfBilling m o w) Stock e h = still_held Stock e (λ i. (w i).held) h
  one_held (OfBilling m o w) Account e h =
      founds_all Account e (held_by_deed accounts_service known P x.billing y.billing m e h)
