-- What a token knows of a service, and what others' calls leave of that as it is.
use Rattle.std.specs.Prelude.{◌≡◌, ◌⊎◌, ℕ, ◌≤◌, Bool, true, false, List, [], ◌∷◌, Option, Some, None, Result, Ok, Err}
use Rattle.std.specs.Prelude.{if◌then◌else◌, length, ⊤}
use Rattle.base.specs.declared.pair.Pair.{Pair}
use Rattle.activities.specs.Numbered.{IsPrefixOf}
use Rattle.activities.specs.Service.{Service}
use Rattle.keep.specs.Law.{MoreFailures, IsServed, HasFailed, IsRefusedUnusable}
use Rattle.keep.specs.Seen.{Seen}
use Rattle.keep.specs.Tables.{Tables}
use Rattle.endpoint.specs.declared.fault.EndFault.{EndFault}
use Rattle.endpoint.specs.declared.fault.EndFault.TheVariants.{StoreFailed, Memory, Unusable}
use Rattle.endpoint.specs.Calls.{StillMatches}
use Rattle.endpoint.specs.Deeds.{Kept, kept, Deed, Nothing, TakesIn, Holds, Settles, Did}
use Rattle.endpoint.specs.Matches.{AllMatch}
use Rattle.told_lock.specs.declared.view.ToldToken.{ToldToken}
use Rattle.told_lock.specs.declared.view.Known.{Known}
use Rattle.told_lock.specs.Rule.{Every, MaySee, MayStay, saw, counted}
use Rattle.shared_endpoint.specs.Token.{hand_number, is_of, rows_of}

-- ---- answers

-- the fault of an answer, if it is one
abbrev pub fault_in : {R : Type 0} → Result R EndFault → Option EndFault
fault_in (Ok r) = None
fault_in (Err fault) = Some fault

-- An answer tells of the journal, and the token has then seen it; only where the store failed, had failed before, or
-- memory was refused, it doesn't.
abbrev pub tells : Option EndFault → Bool
tells (Some StoreFailed) = false
tells (Some Memory) = false
tells (Some Unusable) = false
tells _ = true

-- ---- what of one endpoint holds of another

-- What the token of this number knows of `x` still holds of `y`: the journal has gone on, with no row of the token's;
-- no settled mark is lower; and for the Hand no mark and no held letter is another.
pub record Stands {C : Type 0} (n : ℕ) (x y : Kept C) : Type 0 where
  pub begins : IsPrefixOf x.journal y.journal
  pub rows : rows_of n 1 y.journal ≡ rows_of n 1 x.journal
  pub marks : (p : Pair) → x.settled p ≤ y.settled p
  pub held : n ≡ hand_number → (y.settled ≡ x.settled) × (y.held ≡ x.held)

-- tables that have grown: the journal begins with the one before, and no settled mark is lower
abbrev pub Grows : {S C : Type 0} → (t u : Tables S C) → Type 0
Grows t u = IsPrefixOf t.journal u.journal × ((p : Pair) → t.settled p ≤ u.settled p)

-- deeds of the token of this number: a seat takes in commands, the Hand does all else
abbrev pub IsDeedOf : {C : Type 0} → ℕ → Deed C → Type 0
IsDeedOf n Nothing = ⊤
IsDeedOf n (TakesIn row) = is_of n row.input ≡ true
IsDeedOf n (Holds l) = n ≡ hand_number
IsDeedOf n (Settles p k) = n ≡ hand_number

-- what one call does: one deed at most, or where it takes in a group, several of the Hand's
abbrev pub AreOneCalls : {C : Type 0} → List (Deed C) → Type 0
AreOneCalls deeds = (length deeds ≤ 1) ⊎ Every (IsDeedOf hand_number) deeds

module _ {S C : Type 0} (service : Service S C) where
  -- these deeds lead, one after another, from what was kept to this
  abbrev pub DidAll : Kept C → List (Deed C) → Kept C → Type 0
  DidAll x [] y = y ≡ x
  DidAll x (deed ∷ deeds) y = (between : Kept C) × Did service x deed between × DidAll between deeds y

  -- a content after a call comes of one before it, by deeds one after another that one call may do, and that are
  -- allowed
  pub record CameAll (Allowed : List (Deed C) → Type 0) (old : Tables S C → Type 0) (now : Tables S C) : Type 0 where
    pub before : Tables S C
    pub deeds : List (Deed C)
    pub was : old before
    pub one_call : AreOneCalls deeds
    pub may : Allowed deeds
    pub did : DidAll (kept before) deeds (kept now)

  -- each content that there is then comes so of one before
  abbrev pub AllCame : (List (Deed C) → Type 0) → (old new : Tables S C → Type 0) → Type 0
  AllCame Allowed old new = (t : Tables S C) → new t → CameAll Allowed old t

-- what a token knows that gave this back: it has seen it, or what it has seen stays
abbrev pub given : {E : Type 0} → Bool → E → ToldToken E → ToldToken E
given true e t = saw e t
given false e t = counted e t

module _ {E S C : Type 0} (seen : E → Seen (Tables S C)) where
  -- One endpoint later than another: doubt and failures never fall; one that failed stays as it is; and where it
  -- failed meanwhile, a failure was counted.
  pub record IsLater (a b : E) : Type 0 where
    pub doubt : (seen a).doubt ≤ (seen b).doubt
    pub failures : (seen a).failures ≤ (seen b).failures
    pub dead : (seen a).usable ≡ false → b ≡ a
    pub fell : (seen a).usable ≡ true → (seen b).usable ≡ false → MoreFailures (seen a).failures (seen b).failures

  -- how a call used the endpoint, by the fault that it answered: it failed there, had failed before, or was served
  abbrev pub IsUsed : (d e : E) → Option EndFault → Type 0
  IsUsed d e (Some StoreFailed) = HasFailed seen d e
  IsUsed d e (Some Unusable) = IsRefusedUnusable seen d e
  IsUsed d e _ = IsServed seen d e

  module _ (service : Service S C) where
    -- What a token knew of one endpoint still holds of the other: it's usable where that was; and while no file is in
    -- doubt its tables match their journal where that one's did, and what the token knew of them stands.
    pub record Since (n : ℕ) (a b : E) : Type 0 where
      pub usable : (seen a).usable ≡ true → (seen b).usable ≡ true
      pub doubt : (seen a).doubt ≤ (seen b).doubt
      pub clean : (seen b).doubt ≡ 0 → AllMatch service (seen a).may_leave
          → AllMatch service (seen b).may_leave × Stands n (kept (seen a).tables) (kept (seen b).tables)

    -- What a witness knew of one endpoint still holds of the other, whoever used it meanwhile: it's usable where that was;
    -- and while no file is in doubt its tables match their journal where that one's did, and have grown.
    pub record EverSince (a b : E) : Type 0 where
      pub usable : (seen a).usable ≡ true → (seen b).usable ≡ true
      pub doubt : (seen a).doubt ≤ (seen b).doubt
      pub clean : (seen b).doubt ≡ 0 → AllMatch service (seen a).may_leave
          → AllMatch service (seen b).may_leave × Grows (seen a).tables (seen b).tables

    -- an endpoint that failed: a stop leaves what it was, but for what one call does
    pub record Broke (good e : E) : Type 0 where
      pub was : (seen good).usable ≡ true
      pub now : (seen e).usable ≡ false
      pub doubt : (seen good).doubt ≤ (seen e).doubt
      pub clean : (seen e).doubt ≡ 0 → AllMatch service (seen good).may_leave
          → AllMatch service (seen e).may_leave
          × AllCame service (λ deeds. ⊤) (seen good).may_leave (seen e).may_leave

    -- the endpoint is the good one, or that which failed
    abbrev pub EndsAs : E → E → Type 0
    EndsAs good e = (e ≡ good) ⊎ Broke good e

    -- ---- one call

    -- A token's call at the endpoint `taken`, that ended so: what the token knew, by its number, and what it knows
    -- then.
    pub record Passes (n : ℕ) (v w : ToldToken E) (taken : E) (fault : Option EndFault) : Type 0 where
      -- the endpoint is later than what the token gave back last, and than what it found
      pub later : IsLater v.last taken
      pub found : IsLater v.found taken
      -- where it's usable, all that the token has seen holds of it
      pub since : (seen taken).usable ≡ true → Since n v.seen taken
      -- the call used it so; and its tables match their journal again
      pub used : IsUsed taken w.last fault
      pub next : IsLater taken w.last
      pub matches : StillMatches seen taken w.last service
      -- where it's usable then, what any witness knew of it before still holds
      pub grows : (seen w.last).usable ≡ true → EverSince taken w.last
      -- the token gave it back, and has seen it where the answer tells of the journal
      pub seen_is : w.seen ≡ (if tells fault then w.last else v.seen)
      pub found_is : w.found ≡ v.found
      pub number : w.number ≡ n

    -- A token's call: at some endpoint that passed it did what it does for one thread.
    pub record Turn (n : ℕ) (v w : ToldToken E) (Call : E → E → Type 0) (fault : Option EndFault) : Type 0 where
      pub taken : E
      pub passes : Passes n v w taken fault
      pub call : Call taken w.last

    -- the same of what two keys know: each stands for this one token
    abbrev pub Turns : ℕ → (v w : List (ToldToken E)) → (E → E → Type 0) → Option EndFault → Type 0
    Turns n (v ∷ []) (w ∷ []) Call fault = Turn n v w Call fault
    Turns n _ _ Call fault = ⊥

    -- All that was shown is so of the endpoint that a token's call gave back, where that is usable.
    abbrev pub BearsOut : List E → ToldToken E → Type 0
    BearsOut shown w = (seen w.last).usable ≡ true → Every (λ y. EverSince y w.last) shown

    -- ---- between taking and giving back

    -- one call of a token: its deeds are the token's, and there are none where it was served and its answer doesn't tell
    pub record Steps (n : ℕ) (d e : E) (fault : Option EndFault) : Type 0 where
      pub doubt : (seen d).doubt ≤ (seen e).doubt
      pub used : IsUsed d e fault
      pub deeds : (seen e).doubt ≡ 0 → AllMatch service (seen d).may_leave
          → AllCame service
          (λ deeds. Every (IsDeedOf n) deeds × (tells fault ≡ false → (seen e).usable ≡ true → deeds ≡ []))
          (seen d).may_leave (seen e).may_leave
      pub matches : StillMatches seen d e service

    -- the endpoint may be given back
    abbrev pub Gives : Known E → E → Bool → Type 0
    Gives v e told = (told ≡ true → MaySee Since IsLater EndsAs v e)
        × (told ≡ false → MayStay Since IsLater EndsAs v e)
