-- What a service processes while it lives, and how its life ends.
use Rattle.std.proofs.Common.{◌≡◌, ◌⊎◌, ℕ, ◌≤◌, Bool, false, List, [], ◌∷◌, ◌++◌, Option, Some, refl, sym, ap, ◌∙◌, subst}
use Rattle.std.proofs.Common.{inl, inr}
use Rattle.std.proofs.Math.Arith.{le-zero}
use Rattle.std.specs.Prelude.{Result, unwrap_or}
use Rattle.stomp_wire.specs.declared.fault.LinkFault.{LinkFault}
use Rattle.activities.specs.Service.{Service}
use Rattle.keep.specs.Seen.{Seen}
use Rattle.keep.specs.Tables.{Tables}
use Rattle.endpoint.specs.Deeds.{kept}
use Rattle.told_lock.specs.Rule.{Every, IsTold, new_told}
use Rattle.told_lock.specs.declared.view.ToldToken.{ToldToken}
use Rattle.told_lock.proofs.Views.{every_both, every_map}
use Rattle.shared_endpoint.specs.History.{EndsAs, EverSince, IsLater, Since, Stands}
use Rattle.shared_endpoint.specs.Keys.{Any, Closes}
use Rattle.shared_endpoint.specs.Promises.{IsGood}
use Rattle.shared_endpoint.specs.Token.{hand_number}
use Rattle.shared_endpoint.proofs.Closing.{any_left, any_right}
use Rattle.service_workers.specs.Lives.{TakesWhatCame, HasTakenWhatCame, LifeStands}
use Rattle.service_workers.specs.Reads.{Came}
use Rattle.service_workers.specs.Taking.{CarriedAmong, NoEnvelope, Takes, TakesFrom}
use Rattle.service_workers.specs.Tokens.{GoesOn, WasUsable}
use Rattle.service_workers.specs.Written.{HasSpokenIf, HasWrittenIf, MightSpeak, StandsBy}
use Rattle.service_workers.specs.declared.conn.Conn.{Conn}
use Rattle.service_workers.proofs.Further.{on_join, on_same}
use Rattle.service_workers.proofs.Lasting.{every_left, every_right, no_doubt, one_of_these, stands_in, written_as_if}
use Rattle.service_workers.proofs.Taking.{among_left, among_right, both_take, by_standing, nothing_takes, so_takes, takes_join}

-- the token of a key is among all that come together in the end
pub one_among : {E : Type 0} (xs ys zs : List (ToldToken E)) (w : ToldToken E) → ys ≡ w ∷ [] → Any (λ k. k ≡ w) ((xs ++ ys) ++ zs)
one_among xs ys zs w is = any_left (λ k. k ≡ w) (xs ++ ys) zs
    (any_right (λ k. k ≡ w) xs ys (subst (Any (λ k. k ≡ w)) (sym is) (inl refl)))

-- the store was usable, or two connections are no more: so it is of those that go on, for a key that knows the same
pub still_usable : {E T : Type 0} (seen : E → Seen T) (vs ws : List (ToldToken E)) (a b c d : Bool) → ws ≡ vs
    → (a ≡ false → c ≡ false) → (b ≡ false → d ≡ false)
    → WasUsable seen vs ⊎ ((a ≡ false) × (b ≡ false))
    → WasUsable seen ws ⊎ ((c ≡ false) × (d ≡ false))
still_usable seen vs ws a b c d same zero one (inl usable) = inl (subst (WasUsable seen) (sym same) usable)
still_usable seen vs ws a b c d same zero one (inr none) = inr (zero none.0, one none.1)

module _ {L : Type 0} (put_gives : L → List ℕ → Result ℕ LinkFault → L → Type 0)
    (take_gives : L → ℕ → Result (List ℕ) LinkFault → L → Type 0) {E S C : Type 0} (seen : E → Seen (Tables S C))
    (service : Service S C) (sound : Type 0) (given : L → Type 0) where
  -- by calls to which nothing was given
  pub none_came : (vs ws : List (ToldToken E)) → GoesOn seen service hand_number vs ws → Takes seen service NoEnvelope vs ws
      → TakesWhatCame put_gives take_gives seen service sound given vs ws
  none_came vs ws on takes = record {
    goes_on = on;
    messages = [];
    came = λ s. tt;
    took = so_takes seen service NoEnvelope (CarriedAmong []) (λ e none. none) vs ws takes;
  }

  -- by no call
  pub nothing_came : (vs : List (ToldToken E)) (v : ToldToken E) → vs ≡ v ∷ []
      → TakesWhatCame put_gives take_gives seen service sound given vs vs
  nothing_came vs v is = record {
    goes_on = on_same seen service hand_number vs v is;
    messages = [];
    came = λ s. tt;
    took = nothing_takes seen service (CarriedAmong []) vs vs v is refl;
  }

  -- two calls, one after the other
  pub both_came : (us vs ws : List (ToldToken E)) → TakesWhatCame put_gives take_gives seen service sound given us vs
      → TakesWhatCame put_gives take_gives seen service sound given vs ws
      → TakesWhatCame put_gives take_gives seen service sound given us ws
  both_came us vs ws a b = record {
    goes_on = on_join seen service hand_number us vs ws a.goes_on b.goes_on;
    messages = a.messages ++ b.messages;
    came = λ s. every_both (Came put_gives take_gives given) a.messages b.messages (a.came s) (b.came s);
    took = both_take seen service hand_number (CarriedAmong (a.messages ++ b.messages)) us vs ws a.goes_on b.goes_on
        (so_takes seen service (CarriedAmong a.messages) (CarriedAmong (a.messages ++ b.messages))
        (among_left a.messages b.messages) us vs a.took)
        (so_takes seen service (CarriedAmong b.messages) (CarriedAmong (a.messages ++ b.messages))
        (among_right a.messages b.messages) vs ws b.took);
  }

  -- what the Hand has processed since the life began, where the endpoint was good to the end
  taken_till : (found good : E) (w : ToldToken E) → IsGood seen service (new_told hand_number found)
      → w.number ≡ hand_number → (seen good).doubt ≡ 0 → Since seen service w.number w.seen good
      → (t : TakesWhatCame put_gives take_gives seen service sound given (new_told hand_number found ∷ []) (w ∷ []))
      → TakesFrom (CarriedAmong t.messages) (kept (seen found).tables) (kept (seen good).tables)
  taken_till found good w whole is z since t =
      let clean = le-zero (subst (λ n. (seen w.seen).doubt ≤ n) z since.doubt) in
      takes_join (CarriedAmong t.messages) (kept (seen found).tables) (kept (seen w.seen).tables) (kept (seen good).tables)
      (t.took clean whole)
      (by_standing (CarriedAmong t.messages) (kept (seen w.seen).tables) (kept (seen good).tables)
      (subst (λ m. Stands m (kept (seen w.seen).tables) (kept (seen good).tables)) is
      (since.clean z (t.goes_on.good clean whole).matches).1))

  -- how a life ends, by what the Hand has learned of its connections and has processed
  pub life_stands : (found : Option E) (e : E) (tokens : List (ToldToken E)) (scout hand known seats : List E) (w : ToldToken E)
      (conns : List (Option (Conn L))) → sound
      → Closes seen service tokens ((scout ++ (hand ++ known)) ++ seats) e → (seen e).doubt ≡ 0
      → Any (λ x. found ≡ Some x) known
      → Every (HasSpokenIf put_gives take_gives seen service known) conns
      → w.number ≡ hand_number → Any (λ k. k ≡ w) tokens
      → HasTakenWhatCame put_gives take_gives seen service sound given found (w ∷ [])
      → LifeStands put_gives take_gives seen service given found e conns
  life_stands found e tokens scout hand known seats w conns s closes z among spoken number is taken =
      let z' = no_doubt seen service closes.good e closes.ends z in
      let since = every_right (λ y. EverSince seen service y closes.good) hand known
      (every_right (λ y. EverSince seen service y closes.good) scout (hand ++ known)
      (every_left (λ y. EverSince seen service y closes.good) (scout ++ (hand ++ known)) seats closes.borne_out)) in
      let one = one_of_these (λ x. found ≡ Some x) (λ y. EverSince seen service y closes.good) known among since in
      let P = IsTold (Since seen service) (IsLater seen) (EndsAs seen service) e closes.good in
      let last = one_of_these (λ k. k ≡ w) P tokens is closes.told in
      let told : P w = subst P last.1 last.2 in
      let ever : EverSince seen service taken.first closes.good
      = subst (λ x. EverSince seen service x closes.good) (ap (λ o. unwrap_or o one.0) (sym one.1 ∙ taken.is_found)) one.2 in
      record {
        first = taken.first;
        is_found = taken.is_found;
        usable = (taken.good s).usable;
        good = closes.good;
        ends = closes.ends;
        clean = z;
        since = ever;
        matches = (ever.clean z' (taken.good s).matches).0;
        stand = every_map (HasSpokenIf put_gives take_gives seen service known)
            (HasWrittenIf put_gives take_gives (StandsBy service (seen closes.good).tables)) conns
            (written_as_if put_gives take_gives (MightSpeak seen service known)
            (StandsBy service (seen closes.good).tables)
            (stands_in put_gives take_gives seen service closes.good known z' since))
            spoken;
        messages = taken.since.messages;
        came = taken.since.came s;
        took = taken_till taken.first closes.good w (taken.good s) number z' told.since taken.since;
      }
