-- Whole lives of programs: what a service read, wrote and kept in each. Nothing is said of an order of calls, so that
-- lives of several services may overlap.
use Rattle.std.specs.Prelude.{◌≡◌, ◌⊎◌, ℕ, ◌≤◌, List, ◌++◌, Contains}
use Rattle.std.specs.List.{AllByRecursion}
use Rattle.base.specs.declared.pair.Pair.{Pair}
use Rattle.envelope.specs.declared.message.Envelope.{Envelope}
use Rattle.envelope.specs.declared.message.Envelope.TheVariants.{Settle}
use Rattle.activities.specs.Service.{Service}
use Rattle.activities.specs.declared.input.JournalRow.{JournalRow}
use Rattle.keep.specs.Tables.{Tables}
use Rattle.endpoint.specs.Matches.{TablesMatchJournal}
use Rattle.laws_journals.specs.Growth.{IsFrom}
use Rattle.laws_stores.specs.Good.{IsHeldIn}
use Rattle.laws_stores.specs.Sight.{AllTables, orders_service, stocks_service, accounts_service}
use Rattle.laws_stores.specs.Writing.{IsTrueIn}

-- each letter that these rows take in is one of these envelopes
abbrev pub TakeIn : {C : Type 0} → (Envelope → Type 0) → List (JournalRow C) → Type 0
TakeIn known rows = AllByRecursion (λ row. IsFrom known row.entity row.input) rows

-- among these envelopes is a settle of the pair up to this number, or further
abbrev pub AreSettledBy : List Envelope → Pair → ℕ → Type 0
AreSettledBy read p mark = (n : ℕ) × Contains read (Settle p n) × (mark ≤ n)

-- the envelopes that a service read and those that it wrote
pub record Post : Type 0 where
  pub read : List Envelope
  pub written : List Envelope

-- those of two lives, one after the other
abbrev pub both_lives : Post → Post → Post
both_lives earlier later = record {
  read = earlier.read ++ later.read;
  written = earlier.written ++ later.written;
}

-- what a life may take in: what it read, and letters that were held when it began
abbrev pub WasThere : {S C : Type 0} → Post → Tables S C → Envelope → Type 0
WasThere post found e = Contains post.read e ⊎ IsHeldIn found.held e

module _ {S C : Type 0} (service : Service S C) where
  -- A service up to now, by a content that a stop may leave of it: its tables match their journal; all that it took in,
  -- holds or marks as settled was read; and all that was written is true by its journal.
  pub record HasLived (post : Post) (t : Tables S C) : Type 0 where
    pub matches : TablesMatchJournal service t
    pub took : TakeIn (Contains post.read) t.journal
    pub holds : (e : Envelope) → IsHeldIn t.held e → Contains post.read e
    pub marks : (p : Pair) → (t.settled p ≡ 0) ⊎ AreSettledBy post.read p (t.settled p)
    pub wrote : (e : Envelope) → Contains post.written e → IsTrueIn service.reactions t.journal e

  -- One life, from the content that it found to one that a stop may leave at its end. The journal goes on, and matches;
  -- what the life took in, held or marked as settled it had read, or a letter was held; and all that it wrote is true.
  pub record Lives (post : Post) (found t : Tables S C) : Type 0 where
    pub matches : TablesMatchJournal service t
    pub rows : List (JournalRow C)
    pub goes_on : t.journal ≡ found.journal ++ rows
    pub took : TakeIn (WasThere post found) rows
    pub holds : (e : Envelope) → IsHeldIn t.held e → WasThere post found e
    pub marks : (p : Pair) → (t.settled p ≡ found.settled p) ⊎ AreSettledBy post.read p (t.settled p)
    pub wrote : (e : Envelope) → Contains post.written e → IsTrueIn service.reactions t.journal e

-- Three services up to now, over a broker that handed on only what they wrote: what one of them read, one of them wrote,
-- whichever and whenever.
pub record HaveLived (t : AllTables) : Type 0 where
  pub orders : Post
  pub stocks : Post
  pub accounts : Post
  pub purchasing : HasLived orders_service orders t.purchasing
  pub warehouse : HasLived stocks_service stocks t.warehouse
  pub billing : HasLived accounts_service accounts t.billing
  pub handed_on : (e : Envelope) → Contains (orders.read ++ stocks.read ++ accounts.read) e
      → Contains (orders.written ++ stocks.written ++ accounts.written) e
