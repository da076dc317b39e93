-- From what is told of a group to the step that it is.
use Rattle.std.proofs.Common.{◌≡◌, ℕ, zero, suc, ◌≤◌, List, [], ◌∷◌, Some, Result, Ok, Err, refl, sym, ◌∙◌, subst}
use Rattle.std.proofs.Common.{◌⊎◌, inl, inr, arith}
use Rattle.std.specs.Prelude.{All, Contains, slice_get, ⊤}
use Rattle.std.specs.Global.{Vec}
use Rattle.base.specs.declared.pair.Pair.{Pair}
use Rattle.envelope.specs.declared.message.Envelope.{Envelope}
use Rattle.envelope.specs.declared.message.Envelope.TheVariants as envelope
use Rattle.envelope.specs.declared.message.Letter.{Letter}
use Rattle.activities.specs.Journal.{handled_of}
use Rattle.activities.specs.Service.{Service}
use Rattle.keep.specs.Seen.{Seen, IsSound}
use Rattle.keep.specs.Tables.{Tables}
use Rattle.endpoint.specs.Arrivals.{IngestMay}
use Rattle.endpoint.specs.Calls.{StillMatches}
use Rattle.endpoint.specs.Deeds.{Kept, kept, Deed}
use Rattle.endpoint.specs.Matches.{AllMatch}
use Rattle.endpoint.specs.declared.answer.Ingested.{Ingested}
use Rattle.endpoint.specs.declared.answer.Ingested.TheVariants as ingested
use Rattle.endpoint.specs.declared.fault.EndFault.{EndFault}
use Rattle.endpoint.specs.declared.fault.EndFault.TheVariants.{NotMine, Business, TooEarly, StoreFailed, Memory}
use Rattle.endpoint.specs.declared.fault.EndFault.TheVariants.{Unusable, NumberLimit, NotSent}
use Rattle.group_commit.specs.Group.{GroupedMay, TakesEach, Groups}
use Rattle.group_commit.specs.declared.grouped.Grouped.{Grouped}
use Rattle.group_commit.specs.declared.grouped.Grouped.TheVariants as grouped
use Rattle.laws_stores.specs.Good.{IsHeldIn}
use Rattle.laws_stores.proofs.Doing.{did_handled}
use Rattle.laws_stores.proofs.Founded.{ingest_is, settle_is}
use Rattle.laws_stores.proofs.Writing.{handled_true}
use Rattle.laws_services.specs.Steps.{IsFounded, DidEach, DidSome, Does, TakesLetter, MayWrite}

module _ {S C : Type 0} (service : Service S C) where
  -- ---- the deeds of a group

  -- what is told of a letter says that it was handled
  letter_may : (l : Letter) (g : Grouped) (x : Kept C) (d : Deed C) → GroupedMay service (envelope.Letter l) g x d
      → (answer : Ingested) × IngestMay service l (Ok answer) x d
  letter_may l (grouped.Handled position) x d may = (ingested.Handled position, may)
  letter_may l (grouped.Settled mark) x d may = absurd may

  grouped_founded : (written : List Envelope) (e : Envelope) (g : Grouped) (x : Kept C) (d : Deed C)
      → Contains written e → GroupedMay service e g x d
      → IsFounded written x d
  grouped_founded written (envelope.Letter l) (grouped.Handled position) x d was may =
      ingest_is service (λ f. Contains written f ⊎ IsHeldIn x.held f) l (inl was) (Ok (ingested.Handled position)) x d may
  grouped_founded written (envelope.Letter l) (grouped.Settled mark) x d was may = absurd may
  grouped_founded written (envelope.Settle p n) (grouped.Handled position) x d was may = absurd may
  grouped_founded written (envelope.Settle p n) (grouped.Settled mark) x d was may =
      settle_is service (λ f. Contains written f ⊎ IsHeldIn x.held f) p n (inl was) (Ok mark) x d may

  -- the contents that a group leads through
  abbrev through : (es : List Envelope) (gs : List Grouped) (t u : Tables S C) → TakesEach service es gs t u
      → List (Tables S C)
  through es [] t u h = []
  through [] (g ∷ gs) t u h = absurd h
  through (e ∷ es) (g ∷ gs) t u h = h.0 ∷ through es gs h.0 u h.2

  each_founded : (written : List Envelope) (es : List Envelope) (gs : List Grouped) (t u : Tables S C)
      → All (Contains written) es → (h : TakesEach service es gs t u)
      → DidEach service (IsFounded written) t (through es gs t u h) u
  each_founded written es [] t u all h = h
  each_founded written [] (g ∷ gs) t u all h = absurd h
  each_founded written (e ∷ es) (g ∷ gs) t u all h = (
    (h.1.deed, grouped_founded written e g (kept t) h.1.deed (all 0 e (omega arith)) h.1.may, h.1.did),
    each_founded written es gs h.0 u (λ k d less. all (suc k) d (omega (arith, less))) h.2,
  )

  each_any : (es : List Envelope) (gs : List Grouped) (t u : Tables S C) (h : TakesEach service es gs t u)
      → DidEach service (λ _ _. ⊤) t (through es gs t u h) u
  each_any es [] t u h = h
  each_any [] (g ∷ gs) t u h = absurd h
  each_any (e ∷ es) (g ∷ gs) t u h = ((h.1.deed, tt, h.1.did), each_any es gs h.0 u h.2)

  -- one of them is that of a letter of which something is told
  some_takes : (l : Letter) (es : List Envelope) (gs : List Grouped) (t u : Tables S C)
      (h : TakesEach service es gs t u) (i : ℕ) (g : Grouped)
      → slice_get es i ≡ Some (envelope.Letter l) → slice_get gs i ≡ Some g
      → DidSome service (λ x d. (answer : Ingested) × IngestMay service l (Ok answer) x d) t (through es gs t u h)
  some_takes l es [] t u h i g given told = absurd (cc)
  some_takes l [] (k ∷ gs) t u h i g given told = absurd h
  some_takes l (e ∷ es) (k ∷ gs) t u h zero g given told =
      let same : e ≡ envelope.Letter l = cc in
      inl (
        h.1.deed,
        letter_may l k (kept t) h.1.deed
            (subst (λ f. GroupedMay service f k (kept t) h.1.deed) same h.1.may),
        h.1.did,
      )
  some_takes l (e ∷ es) (k ∷ gs) t u h (suc i) g given told = inr (some_takes l es gs h.0 u h.2 i g given told)

  -- what was handled is no fewer behind a group
  each_handled : (es : List Envelope) (gs : List Grouped) (t u : Tables S C) → TakesEach service es gs t u → (p : Pair)
      → handled_of t.journal p ≤ handled_of u.journal p
  each_handled es [] t u h p =
      subst (λ (v : Tables S C). handled_of t.journal p ≤ handled_of v.journal p) (sym h) (omega arith)
  each_handled [] (g ∷ gs) t u h p = absurd h
  each_handled (e ∷ es) (g ∷ gs) t u h p =
      let here = did_handled service (kept t) (kept h.0) h.1.deed h.1.did p in
      let later = each_handled es gs h.0 u h.2 p in
      omega (arith, here, later)

  letter_handled : (l : Letter) (position : ℕ) (es : List Envelope) (gs : List Grouped) (t u : Tables S C)
      → TakesEach service es gs t u
      → (i : ℕ) → slice_get es i ≡ Some (envelope.Letter l) → slice_get gs i ≡ Some (grouped.Handled position)
      → l.number ≤ handled_of u.journal l.pair
  letter_handled l position es [] t u h i given told = absurd (cc)
  letter_handled l position [] (k ∷ gs) t u h i given told = absurd h
  letter_handled l position (e ∷ es) (k ∷ gs) t u h zero given told =
      let same : e ≡ envelope.Letter l = cc in
      let answer : k ≡ grouped.Handled position = cc in
      let may = subst (λ j. GroupedMay service (envelope.Letter l) j (kept t) h.1.deed) answer
      (subst (λ f. GroupedMay service f k (kept t) h.1.deed) same h.1.may) in
      let here = handled_true service (kept t) (kept h.0) h.1.deed h.1.did l position may in
      let later = each_handled es gs h.0 u h.2 l.pair in
      omega (arith, here, later)
  letter_handled l position (e ∷ es) (k ∷ gs) t u h (suc i) given told =
      letter_handled l position es gs h.0 u h.2 i given told

module _ {E S C : Type 0} (seen : E → Seen (Tables S C)) (sound : (k : E) → IsSound (seen k)) (service : Service S C)
    (old new : E) (es : List Envelope) where
  -- ---- each content comes of a first part of the envelopes

  abbrev Taken : Tables S C → Type 0
  Taken t = (x : Tables S C) × (seen old).may_leave x × ((gs : List Grouped) × TakesEach service es gs x t)

  module _ (result : Result (Vec Grouped) EndFault) (h : Groups seen old new service es result)
      (clean : (seen new).doubt ≡ 0) where
    clean_before : (seen old).doubt ≡ 0
    clean_before = let least = h.doubt in omega (arith, least, clean)

  -- of the tables before the call
  ok_takes : (told : Vec Grouped) → Groups seen old new service es (Ok told) → (seen new).doubt ≡ 0
      → AllMatch service (seen old).may_leave
      → (t : Tables S C) → (seen new).may_leave t
      → (seen old).may_leave (seen old).tables × TakesEach service es told.items (seen old).tables t
  ok_takes told h clean match t l = (
    (sound old).stays (clean_before (Ok told) h clean) h.call.0,
    subst (λ u. TakesEach service es told.items (seen old).tables u) (sym ((sound new).only_now clean h.call.1 t l))
        (h.clean clean match),
  )

  takes : (result : Result (Vec Grouped) EndFault) → Groups seen old new service es result → (seen new).doubt ≡ 0
      → AllMatch service (seen old).may_leave
      → (t : Tables S C) → (seen new).may_leave t → Taken t
  takes (Ok told) h clean match t l =
      let one = ok_takes told h clean match t l in ((seen old).tables, one.0, (told.items, one.1))
  takes (Err StoreFailed) h clean match t l = (
    (seen old).tables,
    (sound old).stays (clean_before (Err StoreFailed) h clean) h.call.0,
    h.clean clean match t l,
  )
  takes (Err Memory) h clean match t l = (
    (seen old).tables,
    (sound old).stays (clean_before (Err Memory) h clean) h.call.0,
    ([], (sound new).only_now clean h.call.1 t l ∙ h.clean clean match),
  )
  takes (Err Unusable) h clean match t l = (t, subst (λ k. (seen k).may_leave t) h.call.1 l, ([], refl))
  takes (Err NotMine) h clean match t l = absurd h.call.1
  takes (Err (Business why)) h clean match t l = absurd h.call.1
  takes (Err TooEarly) h clean match t l = absurd h.call.1
  takes (Err NumberLimit) h clean match t l = absurd h.call.1
  takes (Err NotSent) h clean match t l = absurd h.call.1

  -- ---- so a group is a step

  pub group_does : (written : List Envelope) (result : Result (Vec Grouped) EndFault)
      → Groups seen old new service es result → StillMatches seen old new service → All (Contains written) es
      → Does seen service (IsFounded written) old new
  group_does written result h matches all = record {
    doubt = h.doubt;
    comes = λ clean match t l. let c = takes result h clean match t l in
        ∣ record {
          before = c.0;
          through = through service es c.2.0 c.0 t c.2.1;
          was = c.1;
          did = each_founded service written es c.2.0 c.0 t all c.2.1;
        } ∣₁;
    matches = matches;
  }

  pub group_takes : (told : Vec Grouped) (i : ℕ) (l : Letter) (g : Grouped)
      → Groups seen old new service es (Ok told) → slice_get es i ≡ Some (envelope.Letter l)
      → slice_get told.items i ≡ Some g
      → TakesLetter seen service l old new
  group_takes told i letter g h given is clean match t l =
      let c = ok_takes told h clean match t l in
      ∣ (
        record {
          before = (seen old).tables;
          through = through service es told.items (seen old).tables t c.1;
          was = c.0;
          did = each_any service es told.items (seen old).tables t c.1;
        },
        some_takes service letter es told.items (seen old).tables t c.1 i g given is,
      ) ∣₁

  pub group_handled : (told : Vec Grouped) (i : ℕ) (l : Letter) (position : ℕ)
      → Groups seen old new service es (Ok told) → slice_get es i ≡ Some (envelope.Letter l)
      → slice_get told.items i ≡ Some (grouped.Handled position)
      → MayWrite seen service old new (envelope.Settle l.pair l.number)
  group_handled told i letter position h given is clean match t l =
      let c = ok_takes told h clean match t l in
      letter_handled service letter position es told.items (seen old).tables t c.1 i given is
