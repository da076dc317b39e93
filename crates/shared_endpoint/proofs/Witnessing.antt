-- What witnesses know, and what bears it out.
use Rattle.std.proofs.Common.{◌≡◌, ℕ, List, [], ◌∷◌, ◌++◌, Bool, inl, inr, sym, ap, ◌∙◌, subst}
use Rattle.std.specs.Prelude.{if◌then◌else◌}
use Rattle.crossbeam_channel.specs.Claims.{Pass}
use Rattle.activities.specs.Service.{Service}
use Rattle.keep.specs.Seen.{Seen}
use Rattle.keep.specs.Tables.{Tables}
use Rattle.endpoint.specs.Matches.{AllMatch}
use Rattle.told_lock.specs.declared.lock.Lock.{Lock}
use Rattle.told_lock.specs.declared.view.ToldToken.{ToldToken}
use Rattle.told_lock.specs.declared.view.Known.{Known}
use Rattle.told_lock.specs.Keys.{knows, IsKeyOf, LockName}
use Rattle.told_lock.specs.Rule.{seen_by, shown_of}
use Rattle.told_lock.proofs.Names.{key_at, key_of}
use Rattle.told_lock.proofs.Views.{every_map}
use Rattle.shared_endpoint.specs.declared.shared.Shared.{Shared}
use Rattle.shared_endpoint.specs.declared.tokens.Witness.{Witness}
use Rattle.shared_endpoint.specs.History.{Grows, EverSince}
use Rattle.shared_endpoint.specs.Keys.{IsToken, IsWitnessOf, IsWitnessAt, name_of}
use Rattle.shared_endpoint.specs.Promises.{IsGood, WasSo, AreBorneOut, WitnessesAreBorneOut}
use Rattle.shared_endpoint.proofs.Steps.{used_served}
use Rattle.shared_endpoint.proofs.Closing.{any_left, any_right}

-- ---- keys

module _ {E L : Type 0} (lock : Lock E L) where
  -- a token that made a witness, and one that learned one
  pub token_shows : (n : ℕ) (p p' : Pass E (Known E)) → IsToken lock n p → IsKeyOf lock p' → knows p' ≡ knows p
      → IsToken lock n p'
  token_shows n p p' t at same = record {
    at = at;
    stage = ap (λ (k : Known E). k.stage) same ∙ t.stage;
    one = t.one;
    own = ap (λ (k : Known E). k.own) same ∙ t.own;
    number = t.number;
  }

  pub token_learns : (n : ℕ) (p p' other : Pass E (Known E)) → IsToken lock n p → IsKeyOf lock p'
      → knows p' ≡ shown_of (knows p) (knows other)
      → IsToken lock n p'
  token_learns n p p' other t at gave = record {
    at = at;
    stage = ap (λ (k : Known E). k.stage) gave ∙ t.stage;
    one = t.one;
    own = ap (λ (k : Known E). k.own) gave ∙ t.own;
    number = t.number;
  }

module _ {H E S C : Type 0} (shared : Shared H E S C) (name : LockName E) (is : name_of shared ≡ name) where
  -- a witness of this service is one of the service of its name; and the other way, where any key of it is at hand
  pub witness_at : (witness : Witness H E S C) → IsWitnessOf shared witness → IsWitnessAt name witness
  witness_at witness w = (key_at shared.lock name is witness.key w.0, w.1)

  pub witness_of_name : (other : Pass E (Known E)) (witness : Witness H E S C) → IsKeyOf shared.lock other
      → IsWitnessAt name witness → IsWitnessOf shared witness
  witness_of_name other witness at w = (key_of shared.lock name is other witness.key at w.0, w.1)

-- ---- what is borne out

module _ {E S C : Type 0} (seen : E → Seen (Tables S C)) (service : Service S C) where
  pub witnesses : WitnessesAreBorneOut seen service
  witnesses n witnessed v w taken fault p bears told clean =
      let served = used_served seen taken w.last fault told p.used in
      let saw : w.seen ≡ w.last = p.seen_is ∙ ap (λ (b : Bool). if b then w.last else v.seen) told in
      subst (λ (e : E). AreBorneOut seen service witnessed (seen e).tables) (sym saw)
      (every_map (λ y. EverSince seen service y w.last)
      (λ y. AllMatch service (seen y).may_leave → Grows (seen y).tables (seen w.last).tables) witnessed
      (λ y h m. (h.clean clean m).1) (bears served.1))

  -- what was so of tables that are witnessed is so of those that bear them out, where it stays so as tables grow
  pub was_so : (P : Tables S C → Type 0) → ((t u : Tables S C) → Grows t u → P t → P u) → (witnessed : List E)
      (t : Tables S C) → AreBorneOut seen service witnessed t → WasSo seen service P witnessed
      → P t
  was_so P stays [] t borne was = absurd was
  was_so P stays (y ∷ ys) t borne (inl h) = stays (seen y).tables t (borne.0 h.0) h.1
  was_so P stays (y ∷ ys) t borne (inr h) = was_so P stays ys t borne.1 h

  -- a good token's witness knows what is so of the tables that it has seen
  pub was_seen : (P : Tables S C → Type 0) (own : List (ToldToken E)) (t : ToldToken E) (others : List E) → own ≡ t ∷ []
      → IsGood seen service t → P (seen t.seen).tables
      → WasSo seen service P (seen_by own ++ others)
  was_seen P own t others is good h = subst (λ (ts : List (ToldToken E)). WasSo seen service P (seen_by ts ++ others))
      (sym is) (inl (good.matches, h))

  -- a witness that learns another knows what each of both knew
  pub was_before : (P : Tables S C → Type 0) (xs ys : List E) → WasSo seen service P xs
      → WasSo seen service P (xs ++ ys)
  was_before P xs ys h = any_left (λ y. AllMatch service (seen y).may_leave × P (seen y).tables) xs ys h

  pub was_learned : (P : Tables S C → Type 0) (xs ys : List E) → WasSo seen service P ys
      → WasSo seen service P (xs ++ ys)
  was_learned P xs ys h = any_right (λ y. AllMatch service (seen y).may_leave × P (seen y).tables) xs ys h
