-- Steps one after another, none of which is in the store yet.
use Rattle.std.proofs.Common.{◌≡◌, ℕ, ◌+◌, ◌<◌, List, [], ◌∷◌, ◌++◌, length, get_or, Option, Some, Result}
use Rattle.std.proofs.Common.{Bool, Ok, Err, refl, sym, ap, ◌∙◌, subst, arith, true, length-append}
use Rattle.std.specs.Prelude.{⊤}
use Rattle.base.specs.Entity.{Entity}
use Rattle.envelope.specs.declared.message.Envelope.{Envelope}
use Rattle.envelope.specs.declared.message.Envelope.TheVariants as envelope
use Rattle.activities.specs.Service.{Service}
use Rattle.keep.specs.Law.{Reads}
use Rattle.keep.specs.Seen.{Seen, keep_end}
use Rattle.keep.specs.Steps.{AreSteps}
use Rattle.keep.specs.Tables.{Tables, changed, ArePlaced}
use Rattle.keep.specs.declared.change.Change.{Change}
use Rattle.keep.specs.declared.fault.KeepFault.{KeepFault}
use Rattle.keep.specs.declared.fault.KeepFault.TheVariants.{Failed, Memory, WrongFile}
use Rattle.endpoint.specs.Matches.{TablesMatchJournal}
use Rattle.endpoint.specs.Deeds.{Kept, kept, Did}
use Rattle.group_commit.specs.Group.{TakesOne, TakesEach}
use Rattle.group_commit.specs.Parts.Planning.{IsStep, IsGathered, ended, rows_behind}
use Rattle.group_commit.specs.declared.group.Group.{Group}
use Rattle.group_commit.specs.declared.grouped.Grouped.{Grouped}
use Rattle.group_commit.specs.declared.grouped.Grouped.TheVariants as grouped
use Rattle.group_commit.specs.declared.planning.PlannedStep.{PlannedStep}
use Rattle.group_commit.proofs.Appending.{changed-append, placed-append}
use Rattle.group_commit.proofs.Following.{steps-append}
use Rattle.group_commit.proofs.Reading.{reads_nothing, reads_then, read_gives, read_refused, read_fails}

module _ {S C : Type 0} (service : Service S C) where
  -- one more behind the others
  takes-more : (es : List Envelope) (gs : List Grouped) (t u v : Tables S C) (e : Envelope) (g : Grouped)
      → TakesEach service es gs t u → length gs < length es → e ≡ get_or es (length gs) e → TakesOne service e g u v
      → TakesEach service es (gs ++ g ∷ []) t v
  takes-more [] gs t u v e g each below is one = absurd (omega (arith, below))
  takes-more (x ∷ es) [] t u v e g each below is one =
      let P : Envelope → Tables S C → Type 0 = λ y w. TakesOne service y g w v in
      (v, subst (λ w. P x w) each (subst (λ y. P y u) is one), refl)
  takes-more (x ∷ es) (y ∷ gs) t u v e g each below is one =
      (each.0, each.1, takes-more es gs each.0 u v e g each.2 (omega (arith, below)) is one)

  -- how long the journal is behind a step
  rows-more : (e : Envelope) (g : Grouped) (t u : Tables S C) (rows : ℕ) → TakesOne service e g t u
      → rows ≡ length t.journal
      → rows_behind rows g ≡ length u.journal
  rows-more (envelope.Letter l) (grouped.Handled position) t u rows one is =
      let did = subst (λ d. Did service (kept t) d (kept u)) one.may.0 one.did in
      let long = ap length did.0.appended ∙ length-append t.journal _ in
      let at = one.may.1 in
      omega (arith, long, at)
  rows-more (envelope.Letter l) (grouped.Settled mark) t u rows one is = absurd one.may
  rows-more (envelope.Settle p n) (grouped.Handled position) t u rows one is = absurd one.may
  rows-more (envelope.Settle p n) (grouped.Settled mark) t u rows one is =
      let did = subst (λ d. Did service (kept t) d (kept u)) one.may.0 one.did in
      is ∙ ap (λ (x : Kept C). length x.journal) (sym did.2)

  -- the first of these envelopes, each told of, lead from these tables to those that the changes make
  pub record AreTaken (es : List Envelope) (group : Group S C) (rows : ℕ) (t : Tables S C) : Type 0 where
    pub each : TakesEach service es group.told.items t (changed group.changes.items t)
    pub placed : ArePlaced group.changes.items t
    pub matches : TablesMatchJournal service (changed group.changes.items t)
    pub long : rows ≡ length (changed group.changes.items t).journal

  taken-more : (Follows : Option Entity → S → S → Type 0) (es : List Envelope) (group later : Group S C) (rows : ℕ)
      (t : Tables S C) (e : Envelope) (step : PlannedStep S C)
      → AreTaken es group rows t
      → length group.told.items < length es → e ≡ get_or es (length group.told.items) e
      → IsStep service Follows group.changes.items rows e t (Some step)
      → later.changes.items ≡ group.changes.items ++ step.changes.items
      → later.told.items ≡ group.told.items ++ step.told ∷ []
      → AreTaken es later (rows_behind rows step.told) t
  taken-more Follows es group later rows t e step were below is planned changes told =
      let u : Tables S C = changed group.changes.items t in
      let v : Tables S C = changed step.changes.items u in
      let it = planned.0 were.matches were.long in
      let to : changed later.changes.items t ≡ v =
      ap (λ (cs : List (Change S C)). changed cs t) changes ∙ changed-append group.changes.items step.changes.items t in
      let each = takes-more es group.told.items t u v e step.told were.each below is it.0 in
      record {
        each = subst (λ (w : Tables S C). TakesEach service es later.told.items t w) (sym to)
            (subst (λ (gs : List Grouped). TakesEach service es gs t v) (sym told) each);
        placed = subst (λ (cs : List (Change S C)). ArePlaced cs t) (sym changes)
            (placed-append group.changes.items step.changes.items t were.placed it.1);
        matches = subst (TablesMatchJournal service) (sym to) it.0.matches;
        long = rows-more e step.told u v rows it.0 were.long ∙ ap (λ (w : Tables S C). length w.journal) (sym to);
      }

module _ {E S C : Type 0} (seen : E → Seen (Tables S C)) (service : Service S C)
    (Follows : Option Entity → S → S → Type 0) (old : E) (es : List Envelope) where
  abbrev Nothing : Tables S C → Bool → Type 0
  Nothing t r = ⊤

  -- the store was read, whatever was found
  abbrev pub WasRead : E → E → Type 0
  WasRead k new = Reads seen k new {R = Bool} {F = KeepFault} Nothing (Ok true)

  -- what was gathered so far, where the store was read and nothing else
  pub record IsSoFar (k : E) (group : Group S C) (rows at : ℕ) : Type 0 where
    pub read : WasRead old k
    pub told : length group.told.items ≡ at
    pub taken : (seen k).doubt ≡ 0 → TablesMatchJournal service (seen old).tables
        → AreTaken service es group rows (seen old).tables
    pub steps : (seen k).doubt ≡ 0 → AreSteps Follows group.changes.items (seen old).tables

  abbrev Goal : Tables S C → Group S C → Type 0
  Goal = IsGathered service Follows es

  abbrev Gathered : E → Result (Group S C) KeepFault → Type 0
  Gathered k result = Reads seen old k Goal (keep_end result)

  -- nothing was read yet
  pub first : (group : Group S C) (rows : ℕ) → (seen old).usable ≡ true → group.changes.items ≡ []
      → group.told.items ≡ [] → ((seen old).doubt ≡ 0 → rows ≡ length (seen old).tables.journal)
      → IsSoFar old group rows 0
  first group rows up changes told long =
      let same : changed group.changes.items (seen old).tables ≡ (seen old).tables =
      ap (λ (cs : List (Change S C)). changed cs (seen old).tables) changes in
      record {
        read = reads_nothing seen old Nothing true up (λ t. tt);
        told = ap length told;
        taken = λ clean good. record {
          each = subst (λ (gs : List Grouped). TakesEach service es gs (seen old).tables
              (changed group.changes.items (seen old).tables)) (sym told) same;
          placed = subst (λ (cs : List (Change S C)). ArePlaced cs (seen old).tables) (sym changes) tt;
          matches = subst (TablesMatchJournal service) (sym same) good;
          long = long clean ∙ ap (λ (t : Tables S C). length t.journal) (sym same);
        };
        steps = λ clean. subst (λ (cs : List (Change S C)). AreSteps Follows cs (seen old).tables) (sym changes) tt;
      }

  module _ (k : E) (group : Group S C) (rows at : ℕ) (so : IsSoFar k group rows at) where
    pub gathered : Gathered k (Ok group)
    gathered = record {
      call = so.read.call;
      doubt = so.read.doubt;
      clean = λ clean. (
        ((λ good. let it = so.taken clean good in (it.each, it.placed)), so.steps clean),
        (so.read.clean clean).1,
      );
    }

    module _ (new : E) (e : Envelope) where
      abbrev step_of : Tables S C → Option (PlannedStep S C) → Type 0
      step_of = IsStep service Follows group.changes.items rows e

      both : WasRead k new → WasRead old new
      both r = reads_then seen old k new Nothing true Nothing Nothing (Ok true) (λ t u a b. tt) so.read r

      -- what was gathered is answered where no more is taken in
      same_then : WasRead k new → Gathered new (Ok group)
      same_then r = let d = r.doubt in let whole = both r in record {
        call = whole.call;
        doubt = whole.doubt;
        clean = λ clean. (
          (
            (λ good. let it = so.taken (omega (arith, clean, d)) good in (it.each, it.placed)),
            so.steps (omega (arith, clean, d)),
          ),
          (whole.clean clean).1,
        );
      }

      was_read : (found : Option (PlannedStep S C)) → Reads seen k new {R = Option (PlannedStep S C)} {F = KeepFault} step_of (Ok found)
          → WasRead k new
      was_read found r = read_gives seen k new step_of found Nothing true (λ t a. tt) r

      pub last_step : (found : Option (PlannedStep S C))
          → Reads seen k new {R = Option (PlannedStep S C)} {F = KeepFault} step_of (Ok found)
          → Gathered new (Ok group)
      last_step found r = same_then (was_read found r)

      pub ended_step : (fault : KeepFault) → Reads seen k new step_of (keep_end {R = Option (PlannedStep S C)} (Err fault))
          → Gathered new (ended group fault)
      ended_step Memory r = same_then (record { call = r.call; doubt = r.doubt; clean = λ clean. (tt, r.clean clean) })
      ended_step Failed r = reads_then seen old k new Nothing true Goal Goal (Err Failed) (λ t x a b. b) so.read
          (read_fails seen k new step_of Goal Failed r)
      ended_step WrongFile r = absurd r.call.1

      pub lost_step : (found : Option (PlannedStep S C))
          → Reads seen k new {R = Option (PlannedStep S C)} {F = KeepFault} step_of (Ok found)
          → Gathered new (Err Memory)
      lost_step found r = read_refused seen old new Nothing true Goal (both (was_read found r))

      pub more_so_far : (found : Option (PlannedStep S C)) (step : PlannedStep S C) (later : Group S C) (behind : ℕ) → found ≡ Some step
          → at < length es → e ≡ get_or es at e
          → Reads seen k new {R = Option (PlannedStep S C)} {F = KeepFault} step_of (Ok found)
          → behind ≡ rows_behind rows step.told
          → later.changes.items ≡ group.changes.items ++ step.changes.items
          → later.told.items ≡ group.told.items ++ step.told ∷ []
          → IsSoFar new later behind (at + 1)
      more_so_far found step later behind one below is r rows_are changes told =
          let d = r.doubt in
          let count = so.told in
          let long = ap length told ∙ length-append group.told.items (step.told ∷ []) in
          let clean0 : (seen new).doubt ≡ 0 → (seen k).doubt ≡ 0 = λ clean. omega (arith, clean, d) in
          let planned : (seen new).doubt ≡ 0 → step_of (seen old).tables (Some step) = λ clean.
          subst (step_of (seen old).tables) one
          (subst (λ (t : Tables S C). step_of t found) (so.read.clean (clean0 clean)).1 (r.clean clean).0) in
          record {
            read = both (was_read found r);
            told = omega (arith, long, count);
            taken = λ clean good.
                subst (λ n. AreTaken service es later n (seen old).tables) (sym rows_are)
                (taken-more service Follows es group later rows (seen old).tables e step (so.taken (clean0 clean) good)
                (omega (arith, below, count)) (is ∙ ap (λ n. get_or es n e) (sym count)) (planned clean) changes told);
            steps = λ clean.
                let it = (planned clean).1 in
                subst (λ (cs : List (Change S C)). AreSteps Follows cs (seen old).tables) (sym changes)
                (steps-append Follows group.changes.items step.changes.items (seen old).tables (so.steps (clean0 clean))
                it.1 it.0);
          }
