-- What the calls tell of journals, lists, marks and failures: it all follows from `Turn` and `Closes`.
use Rattle.std.specs.Prelude.{◌≡◌, ◌≢◌, ◌⊎◌, ℕ, suc, true, false, List, [], ◌∷◌, ◌++◌, length, map, Option}
use Rattle.std.specs.Prelude.{Some, ◌≤◌, ◌-◌, take, drop}
use Rattle.std.specs.Prelude.{Result, Ok, Err, ⊤}
use Rattle.std.specs.Global.{Vec}
use Rattle.base.specs.Entity.{Entity}
use Rattle.base.specs.declared.limits.TheConstants.{HELD_WINDOW}
use Rattle.base.specs.declared.pair.Pair.{Pair}
use Rattle.envelope.specs.declared.message.Envelope.{Envelope}
use Rattle.envelope.specs.declared.message.Envelope.TheVariants as envelope
use Rattle.envelope.specs.declared.message.Letter.{Letter}
use Rattle.activities.specs.Journal.{handled_of}
use Rattle.activities.specs.Rows.{row_of}
use Rattle.activities.specs.Service.{Service}
use Rattle.activities.specs.declared.input.JournalRow.{JournalRow}
use Rattle.keep.specs.Law.{MoreFailures, Reads}
use Rattle.keep.specs.Listing.{AreFirst}
use Rattle.keep.specs.Seen.{Seen}
use Rattle.keep.specs.Tables.{Tables}
use Rattle.keep.specs.declared.change.LetterPlace.{LetterPlace}
use Rattle.outbox.specs.Rows.{unsettled_of}
use Rattle.endpoint.specs.declared.answer.Committed.{Committed}
use Rattle.endpoint.specs.declared.answer.Ingested.{Ingested}
use Rattle.endpoint.specs.declared.fault.EndFault.{EndFault}
use Rattle.endpoint.specs.declared.fault.EndFault.TheVariants.{NotMine, StoreFailed, Unusable}
use Rattle.endpoint.specs.Answers.{CommitAt}
use Rattle.endpoint.specs.Arrivals.{IngestMay, DrainMay, SettleMay, row_of_letter}
use Rattle.endpoint.specs.Calls.{Commits, DoesDeed, OfLetter, OfHeldLetter, OfSettle, Views, Counts}
use Rattle.endpoint.specs.Deeds.{Kept, kept, Deed, Nothing, TakesIn, Holds, Settles, Did}
use Rattle.endpoint.specs.Faults.{end_of}
use Rattle.endpoint.specs.Matches.{TablesMatchJournal, AllMatch}
use Rattle.group_commit.specs.Group.{Groups, TakesEach}
use Rattle.group_commit.specs.declared.grouped.Grouped.{Grouped}
use Rattle.group_commit.specs.declared.grouped.Grouped.TheVariants as grouped
use Rattle.told_lock.specs.declared.view.ToldToken.{ToldToken}
use Rattle.told_lock.specs.Rule.{Every}
use Rattle.shared_endpoint.specs.Token.{hand_number, is_of, rows_of}
use Rattle.shared_endpoint.specs.History.{fault_in, tells, Stands, Grows, AreOneCalls, DidAll, IsLater, Passes, Turn}
use Rattle.shared_endpoint.specs.History.{BearsOut}
use Rattle.shared_endpoint.specs.Keys.{Any, Closes}

-- ---- answers at one journal

-- a list and one row more, where a commit took it in
abbrev pub list_committed : {C : Type 0} → List (ℕ × JournalRow C) → JournalRow C → Result Committed EndFault
    → List (ℕ × JournalRow C)
list_committed list row (Ok c) = list ++ (c.pos, row) ∷ []
list_committed list row (Err fault) = list

-- a list behind a deed, with the row that this takes in behind so many rows of the journal
abbrev pub list_after : {C : Type 0} → List (ℕ × JournalRow C) → ℕ → Deed C → List (ℕ × JournalRow C)
list_after list rows Nothing = list
list_after list rows (TakesIn row) = list ++ (suc rows, row) ∷ []
list_after list rows (Holds l) = list
list_after list rows (Settles p k) = list

-- a list behind a group, with the row of each letter that was handled, at the position that is told of it
abbrev pub list_grouped : {C : Type 0} → List (ℕ × JournalRow C) → List Envelope → List Grouped
    → List (ℕ × JournalRow C)
list_grouped list (envelope.Letter l ∷ es) (grouped.Handled position ∷ gs) =
    list_grouped (list ++ (position, row_of_letter l) ∷ []) es gs
list_grouped list (envelope.Settle p n ∷ es) (grouped.Settled mark ∷ gs) = list_grouped list es gs
list_grouped list _ _ = list

-- the rows of a list, without their positions
abbrev pub listed : {C : Type 0} → List (ℕ × JournalRow C) → List (JournalRow C)
listed list = map (λ item. item.1) list

module _ {S C : Type 0} (service : Service S C) where
  -- a commit of a token: the answer, what comes of its list, and that no mark and no held letter is another
  pub record CommitsAt (n : ℕ) (row : JournalRow C) (result : Result Committed EndFault) (t u : Tables S C) : Type 0
    where
      pub answer : CommitAt service.reactions service.kind t.journal row result u.journal
      pub list : rows_of n 1 u.journal ≡ list_committed (rows_of n 1 t.journal) row result
      pub settled : u.settled ≡ t.settled
      pub held : u.held ≡ t.held

  -- a deed that the answer may have leads from what was kept to what is, and so does the token's list
  pub record DoesAt (n : ℕ) (may : Kept C → Deed C → Type 0) (t u : Tables S C) : Type 0 where
    pub deed : Deed C
    pub allowed : may (kept t) deed
    pub did : Did service (kept t) deed (kept u)
    pub list : rows_of n 1 u.journal ≡ list_after (rows_of n 1 t.journal) (length t.journal) deed

  -- A group of the Hand: its envelopes are taken in one after another, as one thread takes in each, and the Hand's list
  -- has the row of each letter more.
  abbrev pub GroupsAt : List Envelope → Result (Vec Grouped) EndFault → (t u : Tables S C) → Type 0
  GroupsAt es (Ok told) t u = TakesEach service es told.items t u
      × (rows_of hand_number 1 u.journal ≡ list_grouped (rows_of hand_number 1 t.journal) es told.items)
  GroupsAt es (Err _) t u = ⊥

  -- a view: the entity's row by the journal
  abbrev pub ViewsAt : Entity → Result (Option S) EndFault → (t u : Tables S C) → Type 0
  ViewsAt e (Ok row) t u = (e.kind ≡ service.kind) × (row ≡ row_of service t.journal e) × (u ≡ t)
  ViewsAt e (Err NotMine) t u = (e.kind ≢ service.kind) × (u ≡ t)
  ViewsAt e (Err _) t u = ⊥

  -- how many letters of a pair were handled: the journal tells it, and so does the Hand's list
  abbrev pub HandledAt : Pair → Result ℕ EndFault → (t u : Tables S C) → Type 0
  HandledAt p (Ok n) t u = (n ≡ handled_of t.journal p) × (n ≡ handled_of (listed (rows_of hand_number 1 t.journal)) p)
      × (u ≡ t)
  HandledAt p (Err _) t u = ⊥

  -- the first unsettled letters after a place, by what the journal sends above these marks
  abbrev pub UnsettledAt : Option LetterPlace → ℕ → Result (Vec Letter) EndFault → (t u : Tables S C) → Type 0
  UnsettledAt after limit (Ok letters) t u =
      AreFirst (unsettled_of service.reactions t.journal t.settled) after limit letters.items
      × (u ≡ t)
  UnsettledAt after limit (Err _) t u = ⊥

  -- the rows of the journal from a position on, as many as this or all of them
  abbrev pub JournalAt : ℕ → ℕ → Result (Vec (JournalRow C)) EndFault → (t u : Tables S C) → Type 0
  JournalAt from limit (Ok rows) t u = (rows.items ≡ take limit (drop (from - 1) t.journal)) × (u ≡ t)
  JournalAt from limit (Err _) t u = ⊥

  -- how many rows the journal has
  abbrev pub LengthAt : Result ℕ EndFault → (t u : Tables S C) → Type 0
  LengthAt (Ok n) t u = (n ≡ length t.journal) × (u ≡ t)
  LengthAt (Err _) t u = ⊥

-- ---- calls of tokens

module _ {E S C : Type 0} (seen : E → Seen (Tables S C)) (service : Service S C) where
  -- What the token has seen is usable, and its tables match their journal. A new token of such an endpoint is good, and
  -- its calls leave it so.
  pub record IsGood (t : ToldToken E) : Type 0 where
    pub usable : (seen t.seen).usable ≡ true
    pub matches : AllMatch service (seen t.seen).may_leave

  -- Tables of which all holds that the token of this number has seen. They match their journal, which is legal, begins
  -- with the journal that the token has seen, and has exactly its list of that; no settled mark is below one that it
  -- has seen, and the Hand's marks and held letters are those.
  pub record Continues (n : ℕ) (v : ToldToken E) (t : Tables S C) : Type 0 where
    pub matches : TablesMatchJournal service t
    pub stands : Stands n (kept (seen v.seen).tables) (kept t)

  -- A call of a good token whose answer tells of the journal, where no file is in doubt: it's answered as one thread is
  -- at such tables, and the token has then seen what that left.
  abbrev pub IsOneThreads : {R : Type 0} → ℕ → (E → E → Type 0) → Result R EndFault
      → (Tables S C → Tables S C → Type 0) → Type 0
  IsOneThreads n Call result Answer = (v w : ToldToken E) → Turn seen service n v w Call (fault_in result)
      → tells (fault_in result) ≡ true → IsGood v → (seen w.last).doubt ≡ 0
      → (t : Tables S C) × Continues n v t × Answer t (seen w.seen).tables

  abbrev pub CommitsAreOneThreads : Type 0
  CommitsAreOneThreads = (n : ℕ) (row : JournalRow C) (result : Result Committed EndFault)
      → is_of n row.input ≡ true
      → IsOneThreads n (λ d e. Commits seen d e service row result) result (CommitsAt service n row result)

  abbrev pub ViewsAreOneThreads : Type 0
  ViewsAreOneThreads = (n : ℕ) (e : Entity) (result : Result (Option S) EndFault)
      → IsOneThreads n (λ a b. Views seen a b service.kind e result) result (ViewsAt service e result)

  abbrev pub IngestsAreOneThreads : Type 0
  IngestsAreOneThreads = (l : Letter) (result : Result Ingested EndFault)
      → IsOneThreads hand_number
      (λ d e. DoesDeed seen d e HELD_WINDOW service OfLetter l.pair.to (IngestMay service l) result) result
      (DoesAt service hand_number (IngestMay service l result))

  abbrev pub DrainsAreOneThreads : Type 0
  DrainsAreOneThreads = (p : Pair) (result : Result (Option ℕ) EndFault)
      → IsOneThreads hand_number
      (λ d e. DoesDeed seen d e HELD_WINDOW service OfHeldLetter p.to (DrainMay service p) result) result
      (DoesAt service hand_number (DrainMay service p result))

  abbrev pub SettlesAreOneThreads : Type 0
  SettlesAreOneThreads = (p : Pair) (number : ℕ) (result : Result ℕ EndFault)
      → IsOneThreads hand_number
      (λ d e. DoesDeed seen d e HELD_WINDOW service OfSettle p.from (SettleMay service p number) result) result
      (DoesAt service hand_number (SettleMay service p number result))

  abbrev pub GroupsAreOneThreads : Type 0
  GroupsAreOneThreads = (es : List Envelope) (result : Result (Vec Grouped) EndFault)
      → IsOneThreads hand_number (λ d e. Groups seen d e service es result) result (GroupsAt service es result)

  abbrev pub HandledIsTheLists : Type 0
  HandledIsTheLists = (p : Pair) (result : Result ℕ EndFault)
      → IsOneThreads hand_number (λ d e. Reads seen d e (λ t n. n ≡ t.handled p) (end_of result)) result
      (HandledAt service p result)

  abbrev pub UnsettledAreAboveMarks : Type 0
  UnsettledAreAboveMarks = (n : ℕ) (after : Option LetterPlace) (limit : ℕ) (result : Result (Vec Letter) EndFault)
      → IsOneThreads n
      (λ d e. Reads seen d e (λ t letters. AreFirst t.unsettled after limit letters.items) (end_of result)) result
      (UnsettledAt service after limit result)

  abbrev pub JournalsAreOneThreads : Type 0
  JournalsAreOneThreads = (n : ℕ) (from limit : ℕ) (result : Result (Vec (JournalRow C)) EndFault)
      → IsOneThreads n
      (λ d e. Reads seen d e (λ t rows. rows.items ≡ take limit (drop (from - 1) t.journal)) (end_of result)) result
      (JournalAt service from limit result)

  abbrev pub LengthsAreOneThreads : Type 0
  LengthsAreOneThreads = (n : ℕ) (result : Result ℕ EndFault)
      → IsOneThreads n (λ d e. (e ≡ d) × Counts seen d (λ t. length t.journal) result) result (LengthAt service result)

  -- ---- failures, of any call

  -- The store failed, or had failed before: that's told only where a failure was counted since the lock was opened,
  -- which the token has then seen, or where the endpoint wasn't usable then.
  abbrev pub FailuresAreCounted : Type 0
  FailuresAreCounted = (n : ℕ) (v w : ToldToken E) (taken : E) (fault : EndFault)
      → Passes seen service n v w taken (Some fault)
      → (fault ≡ StoreFailed) ⊎ (fault ≡ Unusable) → (seen v.found).usable ≡ true
      → MoreFailures (seen v.found).failures (seen w.last).failures

  -- behind such an answer the token gets `Unusable` and no other
  abbrev pub FailuresAreForGood : Type 0
  FailuresAreForGood = (n : ℕ) (v w : ToldToken E) (taken : E) (fault : Option EndFault)
      → Passes seen service n v w taken fault
      → ((fault ≡ Some StoreFailed) ⊎ (fault ≡ Some Unusable) → (seen w.last).usable ≡ false)
      × ((seen v.last).usable ≡ false → fault ≡ Some Unusable)

  -- What is known in the end after a call of this token that met the store's failure: it was the last that the store did.
  -- It was made at an endpoint that had exactly the token's list, and what may be found then is what it left there.
  pub record WasTheLast (n : ℕ) (v : ToldToken E) (Call : E → E → Type 0) (e : E) : Type 0 where
    pub taken : E
    pub matches : AllMatch service (seen taken).may_leave
    pub continues : Continues n v (seen taken).tables
    pub call : Call taken e

  -- the call of a good token met the store's failure, and in the end there is this endpoint, where no file is in doubt
  pub record MetTheFailure (n : ℕ) (v w : ToldToken E) (Call : E → E → Type 0) (e : E) : Type 0 where
    pub turn : Turn seen service n v w Call (Some StoreFailed)
    pub good : IsGood v
    pub later : IsLater seen w.last e
    pub clean : (seen e).doubt ≡ 0

  abbrev pub IsTheLast : ℕ → (E → E → Type 0) → Type 0
  IsTheLast n Call = (v w : ToldToken E) (e : E) → MetTheFailure n v w Call e → WasTheLast n v Call e

  -- So it is of a commit of any token, and of each call by which the Hand processes letters and settles.
  abbrev pub FailedCallsAreTheLast : Type 0
  FailedCallsAreTheLast = ((n : ℕ) (row : JournalRow C) → IsTheLast n (λ d f. Commits seen d f service row (Err StoreFailed)))
      × ((l : Letter) → IsTheLast hand_number
      (λ d f. DoesDeed seen d f HELD_WINDOW service OfLetter l.pair.to (IngestMay service l) (Err StoreFailed)))
      × ((p : Pair) → IsTheLast hand_number
      (λ d f. DoesDeed seen d f HELD_WINDOW service OfHeldLetter p.to (DrainMay service p) (Err StoreFailed)))
      × ((p : Pair) (number : ℕ) → IsTheLast hand_number
      (λ d f. DoesDeed seen d f HELD_WINDOW service OfSettle p.from (SettleMay service p number) (Err StoreFailed)))
      × ((es : List Envelope) → IsTheLast hand_number (λ d f. Groups seen d f service es (Err StoreFailed)))

  -- So a commit that met it is found once at most: of the token there is the list that it had, or that with this row.
  abbrev pub FailedCommitsAreFoundOnce : Type 0
  FailedCommitsAreFoundOnce = (n : ℕ) (row : JournalRow C) (v w : ToldToken E) (e : E) → is_of n row.input ≡ true
      → MetTheFailure n v w (λ d f. Commits seen d f service row (Err StoreFailed)) e
      → (t : Tables S C) → (seen e).may_leave t
      → (rows_of n 1 t.journal ≡ rows_of n 1 (seen v.seen).tables.journal)
      ⊎ ((pos : ℕ) × (rows_of n 1 t.journal ≡ rows_of n 1 (seen v.seen).tables.journal ++ (pos, row) ∷ []))

  -- a good token stays good
  abbrev pub TokensStayGood : Type 0
  TokensStayGood = (n : ℕ) (v w : ToldToken E) (taken : E) (fault : Option EndFault) → Passes seen service n v w taken fault
      → (seen w.last).doubt ≡ 0 → IsGood v → IsGood w

  -- ---- witnesses

  -- P was so of the tables of one of these endpoints, which matched their journal
  abbrev pub WasSo : (Tables S C → Type 0) → List E → Type 0
  WasSo P witnessed = Any (λ y. AllMatch service (seen y).may_leave × P (seen y).tables) witnessed

  -- what was so of each endpoint that is witnessed still is so of these tables: they have grown since
  abbrev pub AreBorneOut : List E → Tables S C → Type 0
  AreBorneOut witnessed t = Every (λ y. AllMatch service (seen y).may_leave → Grows (seen y).tables t) witnessed

  -- A call that bears out what was shown to its token, and whose answer tells of the journal, where no file is in doubt:
  -- the tables that the token has then seen have grown since each of these.
  abbrev pub WitnessesAreBorneOut : Type 0
  WitnessesAreBorneOut = (n : ℕ) (witnessed : List E) (v w : ToldToken E) (taken : E) (fault : Option EndFault)
      → Passes seen service n v w taken fault → BearsOut seen service witnessed w
      → tells fault ≡ true → (seen w.last).doubt ≡ 0 → AreBorneOut witnessed (seen w.seen).tables

  -- ---- the end

  -- each row of a journal, with its position, stands in the list of one of the tokens
  abbrev pub AllListed : List (ToldToken E) → ℕ → List (JournalRow C) → Type 0
  AllListed tokens pos [] = ⊤
  AllListed tokens pos (row ∷ rows) =
      Any (λ k. Any (λ item. item ≡ (pos, row)) (rows_of k.number 1 (seen k.seen).tables.journal)) tokens
      × AllListed tokens (suc pos) rows

  -- What may be found of the endpoint: these tables, or where its store failed those with what one call does more: one
  -- row taken in, one letter held, or one mark raised; or several of these one after another, all of them the Hand's.
  pub record IsLeft (before : Tables S C) (e : E) (t : Tables S C) : Type 0 where
    pub matches : TablesMatchJournal service t
    pub deeds : List (Deed C)
    pub one_call : AreOneCalls deeds
    pub did : DidAll service (kept before) deeds (kept t)
    pub none : (seen e).usable ≡ true → deeds ≡ []

  -- One history of all: tables that match their journal, of which all holds that any token has seen, so that each list
  -- stands in it, and all that was shown to one; it has no other rows; and no more failures were seen by any than are
  -- counted.
  pub record IsOneHistory (tokens : List (ToldToken E)) (witnessed : List E) (e : E) : Type 0 where
    pub tables : Tables S C
    pub continues : Every (λ k. Continues k.number k tables) tokens
    pub borne_out : AreBorneOut witnessed tables
    pub no_others : AllListed tokens 1 tables.journal
    pub failures : Every (λ k. (seen k.last).failures ≤ (seen e).failures) tokens
    pub left : (t : Tables S C) → (seen e).may_leave t → IsLeft tables e t

  abbrev pub ClosesToOneHistory : Type 0
  ClosesToOneHistory = (tokens : List (ToldToken E)) (witnessed : List E) (e : E)
      → Closes seen service tokens witnessed e → Every IsGood tokens → (seen e).doubt ≡ 0
      → IsOneHistory tokens witnessed e
