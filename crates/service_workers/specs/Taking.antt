-- What calls of the Hand process: of all that is kept after them, known envelopes are the cause, or what was held before.
use Rattle.std.specs.Prelude.{◌≡◌, ◌⊎◌, ℕ, ◌≤◌, List, [], ◌∷◌, ◌++◌, Some, Contains, option_to_list, true}
use Rattle.std.specs.List.{AllByRecursion}
use Rattle.base.specs.declared.pair.Pair.{Pair}
use Rattle.stomp_frame.specs.Frames.{Content}
use Rattle.envelope.specs.Reading.{read_frame}
use Rattle.envelope.specs.declared.message.Envelope.{Envelope}
use Rattle.envelope.specs.declared.message.Envelope.TheVariants as envelope
use Rattle.envelope.specs.declared.message.Letter.{Letter}
use Rattle.activities.specs.Service.{Service}
use Rattle.activities.specs.declared.input.JournalRow.{JournalRow}
use Rattle.keep.specs.Seen.{Seen}
use Rattle.keep.specs.Tables.{Tables}
use Rattle.endpoint.specs.Deeds.{Kept, kept}
use Rattle.laws_journals.specs.Growth.{IsFrom}
use Rattle.laws_stores.specs.Good.{IsHeldIn}
use Rattle.told_lock.specs.declared.view.ToldToken.{ToldToken}
use Rattle.shared_endpoint.specs.Keys.{Any, Closes}
use Rattle.shared_endpoint.specs.Promises.{IsGood, IsOneHistory}
use Rattle.shared_endpoint.specs.Token.{hand_number}

-- ---- what is known

-- one envelope: this one, this letter, or this settle
abbrev pub Only : Envelope → Envelope → Type 0
Only e f = f ≡ e

abbrev pub OnlyLetter : Letter → Envelope → Type 0
OnlyLetter l = Only (envelope.Letter l)

abbrev pub OnlySettle : Pair → ℕ → Envelope → Type 0
OnlySettle p n = Only (envelope.Settle p n)

-- none
abbrev pub NoEnvelope : Envelope → Type 0
NoEnvelope e = ⊥

-- what a MESSAGE carries; that or one of these envelopes; and what one of these MESSAGEs carries
abbrev pub CarriedIn : Content → Envelope → Type 0
CarriedIn message e = read_frame message ≡ Some e

abbrev pub CarriedOrIn : Content → List Envelope → Envelope → Type 0
CarriedOrIn message es e = CarriedIn message e ⊎ Contains es e

abbrev pub CarriedAmong : List Content → Envelope → Type 0
CarriedAmong messages e = Any (λ m. CarriedIn m e) messages

-- the envelopes that these carry, in order
abbrev pub envelopes_in : List Content → List Envelope
envelopes_in [] = []
envelopes_in (message ∷ messages) = option_to_list (read_frame message) ++ envelopes_in messages

-- ---- what is processed

-- each letter that these rows handle is one of these envelopes
abbrev pub TakeIn : {C : Type 0} → (Envelope → Type 0) → List (JournalRow C) → Type 0
TakeIn known rows = AllByRecursion (λ row. IsFrom known row.entity row.input) rows

-- an envelope that is known, or a letter that was held
abbrev pub WasThere : {C : Type 0} → (Envelope → Type 0) → Kept C → Envelope → Type 0
WasThere known x e = known e ⊎ IsHeldIn x.held e

-- a settle of the pair is known, up to this number or further
abbrev pub IsSettledBy : (Envelope → Type 0) → Pair → ℕ → Type 0
IsSettledBy known p mark = (n : ℕ) × known (envelope.Settle p n) × (mark ≤ n)

-- What was kept, earlier and later. The journal continues with these rows: each letter that they handle is known or was held,
-- and so is each that is held then; and each settled mark is the earlier one, or a settle so far is known.
pub record TakesFrom {C : Type 0} (known : Envelope → Type 0) (x y : Kept C) : Type 0 where
  pub rows : List (JournalRow C)
  pub goes_on : y.journal ≡ x.journal ++ rows
  pub took : TakeIn (WasThere known x) rows
  pub holds : (e : Envelope) → IsHeldIn y.held e → WasThere known x e
  pub marks : (p : Pair) → (y.settled p ≡ x.settled p) ⊎ IsSettledBy known p (y.settled p)

module _ {E S C : Type 0} (seen : E → Seen (Tables S C)) (service : Service S C) where
  -- so it is of what the token has seen, where that file isn't in doubt and the token was good before
  abbrev pub TokenTakes : (Envelope → Type 0) → (v w : ToldToken E) → Type 0
  TokenTakes known v w = (seen w.seen).doubt ≡ 0 → IsGood seen service v
      → TakesFrom known (kept (seen v.seen).tables) (kept (seen w.seen).tables)

  -- so it is of what two keys know, each of which stands for this one token
  abbrev pub Takes : (Envelope → Type 0) → (vs ws : List (ToldToken E)) → Type 0
  Takes known (v ∷ []) (w ∷ []) = TokenTakes known v w
  Takes known _ _ = ⊥

  -- so it is of each content that a stop may leave of the endpoint that the token returned
  abbrev pub TokenLeaves : (Envelope → Type 0) → (v w : ToldToken E) → Type 0
  TokenLeaves known v w = (seen w.last).doubt ≡ 0 → IsGood seen service v → (t : Tables S C)
      → (seen w.last).may_leave t → TakesFrom known (kept (seen v.seen).tables) (kept t)

  abbrev pub Leaves : (Envelope → Type 0) → (vs ws : List (ToldToken E)) → Type 0
  Leaves known (v ∷ []) (w ∷ []) = TokenLeaves known v w
  Leaves known _ _ = ⊥

  -- In the end, of one history of all tokens: since the Hand had seen so much, only what these MESSAGEs carried, or what was held,
  -- has come into the tables; and so it is of each content that a stop may leave of an endpoint that is still usable.
  abbrev pub TakingStands : Type 0
  TakingStands = (messages : List Content) (v w : ToldToken E) (tokens : List (ToldToken E)) (witnessed : List E) (e : E)
      → TokenTakes (CarriedAmong messages) v w → IsGood seen service v → w.number ≡ hand_number
      → Any (λ k. k ≡ w) tokens → Closes seen service tokens witnessed e → (seen e).doubt ≡ 0
      → (history : IsOneHistory seen service tokens witnessed e)
      → TakesFrom (Contains (envelopes_in messages)) (kept (seen v.seen).tables) (kept history.tables)
      × ((seen e).usable ≡ true → (t : Tables S C) → (seen e).may_leave t
      → TakesFrom (Contains (envelopes_in messages)) (kept (seen v.seen).tables) (kept t))
