-- What a group does to a service: it's as if its envelopes were taken in one after another.
use Rattle.std.specs.Prelude.{◌≡◌, List, [], ◌∷◌, Result, Ok, Err}
use Rattle.std.specs.Global.{Vec}
use Rattle.envelope.specs.declared.message.Envelope.{Envelope}
use Rattle.envelope.specs.declared.message.Envelope.TheVariants as envelope
use Rattle.activities.specs.Service.{Service}
use Rattle.keep.specs.Law.{Never, IsCall, Tells}
use Rattle.keep.specs.Seen.{Seen}
use Rattle.keep.specs.Tables.{Tables}
use Rattle.endpoint.specs.Arrivals.{IngestMay, SettleMay}
use Rattle.endpoint.specs.Deeds.{Kept, kept, Deed, Did}
use Rattle.endpoint.specs.Faults.{end_of}
use Rattle.endpoint.specs.Matches.{TablesMatchJournal, AllMatch}
use Rattle.endpoint.specs.declared.answer.Ingested.TheVariants as ingested
use Rattle.endpoint.specs.declared.fault.EndFault.{EndFault}
use Rattle.endpoint.specs.declared.fault.EndFault.TheVariants.{StoreFailed}
use Rattle.group_commit.specs.declared.grouped.Grouped.{Grouped}
use Rattle.group_commit.specs.declared.grouped.Grouped.TheVariants as grouped

module _ {S C : Type 0} (service : Service S C) where
  -- the deed that is told of an envelope, as the endpoint tells it of one that is taken in alone
  abbrev pub GroupedMay : Envelope → Grouped → Kept C → Deed C → Type 0
  GroupedMay (envelope.Letter l) (grouped.Handled position) x d =
      IngestMay service l (Ok (ingested.Handled position)) x d
  GroupedMay (envelope.Letter l) (grouped.Settled mark) x d = ⊥
  GroupedMay (envelope.Settle p n) (grouped.Handled position) x d = ⊥
  GroupedMay (envelope.Settle p n) (grouped.Settled mark) x d = SettleMay service p n (Ok mark) x d

  -- an envelope, with what is told of it, leads from these tables to those, which match their journal
  pub record TakesOne (e : Envelope) (g : Grouped) (t u : Tables S C) : Type 0 where
    pub deed : Deed C
    pub may : GroupedMay e g (kept t) deed
    pub did : Did service (kept t) deed (kept u)
    pub matches : TablesMatchJournal service u

  -- the first of these envelopes, as many as something is told of, do so one after another
  abbrev pub TakesEach : List Envelope → List Grouped → Tables S C → Tables S C → Type 0
  TakesEach es [] t u = u ≡ t
  TakesEach [] (g ∷ gs) t u = ⊥
  TakesEach (e ∷ es) (g ∷ gs) t u =
      (between : Tables S C) × TakesOne e g t between × TakesEach es gs between u

  -- What a group does to the tables. Where the store failed, each content that a stop may leave comes of a first part of
  -- the envelopes; with an error else no table changes.
  abbrev pub IsGroup : List Envelope → (old now : Tables S C) → (Tables S C → Type 0) → Result (Vec Grouped) EndFault
      → Type 0
  IsGroup es old now may_leave (Ok told) = TakesEach es told.items old now
  IsGroup es old now may_leave (Err StoreFailed) =
      (t : Tables S C) → may_leave t → (gs : List Grouped) × TakesEach es gs old t
  IsGroup es old now may_leave (Err _) = now ≡ old

-- a group, where all that a stop might leave matches its journal
abbrev pub Groups : {E S C : Type 0} → (E → Seen (Tables S C)) → E → E → Service S C → List Envelope
    → Result (Vec Grouped) EndFault
    → Type 0
Groups seen old new service es result = Tells seen old new (IsCall seen old new Never (end_of result))
    (AllMatch service (seen old).may_leave
    → IsGroup service es (seen old).tables (seen new).tables (seen new).may_leave result)
