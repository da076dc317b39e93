-- All tokens, as they are made and as they come back.
use Rattle.std.proofs.Common.{◌≡◌, ◌⊎◌, ℕ, zero, suc, ◌+◌, ◌<◌, List, [], ◌∷◌, ◌++◌, length, Some, inl, inr, ⊎_elim}
use Rattle.std.proofs.Common.{refl, sym, ◌∙◌, subst, arith}
use Rattle.std.specs.Prelude.{slice_index_or, ⊤}
use Rattle.base.specs.declared.limits.TheConstants.{SEATS}
use Rattle.activities.specs.Service.{Service}
use Rattle.keep.specs.Seen.{Seen}
use Rattle.keep.specs.Tables.{Tables}
use Rattle.crossbeam_channel.specs.Claims.{Pass}
use Rattle.told_lock.specs.declared.lock.Lock.{Lock}
use Rattle.told_lock.specs.declared.view.ToldToken.{ToldToken}
use Rattle.told_lock.specs.declared.view.Known.{Known}
use Rattle.told_lock.specs.Keys.{IsKeyOf}
use Rattle.told_lock.specs.Rule.{Every, IsTold, Sums}
use Rattle.shared_endpoint.specs.declared.shared.Shared.{Shared}
use Rattle.shared_endpoint.specs.declared.tokens.Seat.{Seat}
use Rattle.shared_endpoint.specs.declared.tokens.Hand.{Hand}
use Rattle.shared_endpoint.specs.declared.tokens.Scout.{Scout}
use Rattle.shared_endpoint.specs.Token.{hand_number, scout_number}
use Rattle.shared_endpoint.specs.History.{IsLater, Since, EverSince, EndsAs}
use Rattle.shared_endpoint.specs.Keys.{Any, told, IsSeatOf, IsHandOf, IsScoutOf, AreSeatsOf, IsNewSeat}
use Rattle.shared_endpoint.specs.Keys.{AreNewSeats}
use Rattle.shared_endpoint.specs.Keys.{seat_number, told_seat, told_seats, told_hand, told_scout, Closes}

pub any_left : {X : Type 0} (P : X → Type 0) (xs ys : List X) → Any P xs → Any P (xs ++ ys)
any_left P [] ys h = absurd h
any_left P (x ∷ xs) ys (inl h) = inl h
any_left P (x ∷ xs) ys (inr h) = inr (any_left P xs ys h)

pub any_right : {X : Type 0} (P : X → Type 0) (xs ys : List X) → Any P ys → Any P (xs ++ ys)
any_right P [] ys h = h
any_right P (x ∷ xs) ys h = inr (any_right P xs ys h)

module _ {E : Type 0} where
  has_number : (n m : ℕ) (key : Pass E (Known E)) (one : ToldToken E) → told key ≡ one ∷ [] → one.number ≡ m → m ≡ n
      → Any (λ t. t.number ≡ n) (told key)
  has_number n m key one own number same =
      subst (Any (λ (t : ToldToken E). t.number ≡ n)) (sym own) (inl (number ∙ same))

module _ {H E S C : Type 0} where
  -- seats with the numbers n, n + 1, .. that know this endpoint
  abbrev pub AreFrom : Shared H E S C → E → ℕ → List (Seat H E S C) → Type 0
  AreFrom shared e n [] = ⊤
  AreFrom shared e n (s ∷ ss) =
      (IsSeatOf shared s × IsNewSeat e s) × ((seat_number s ≡ n) × AreFrom shared e (suc n) ss)

  each_from : (shared : Shared H E S C) (e : E) (n : ℕ) (seats : List (Seat H E S C)) → AreFrom shared e n seats
      → (i : ℕ) (d : Seat H E S C) → i < length seats
      → (IsSeatOf shared (slice_index_or seats i d) × IsNewSeat e (slice_index_or seats i d))
      × (seat_number (slice_index_or seats i d) ≡ n + i)
  each_from shared e n [] h i d lt = absurd (omega arith)
  each_from shared e n (s ∷ ss) h zero d lt = (h.0, h.1.0 ∙ omega arith)
  each_from shared e n (s ∷ ss) h (suc i) d lt =
      let rest = each_from shared e (suc n) ss h.1.1 i d (omega arith) in
      (rest.0, rest.1 ∙ omega arith)

  pub seats_from : (shared : Shared H E S C) (e : E) (seats : List (Seat H E S C)) → length seats ≡ SEATS
      → AreFrom shared e 0 seats → AreSeatsOf shared seats × AreNewSeats e seats
  seats_from shared e seats count h = (
    (count, λ i d lt. let one = each_from shared e 0 seats h i d lt in (one.0.0, one.1 ∙ omega arith)),
    λ i d lt. (each_from shared e 0 seats h i d lt).0.1,
  )

  every_key : {L : Type 0} (lock : Lock E L) (seats : List (Seat H E S C))
      → ((i : ℕ) (d : Seat H E S C) → i < length seats → IsKeyOf lock (slice_index_or seats i d).key)
      → Every (λ s. IsKeyOf lock s.key) seats
  every_key lock [] h = tt
  every_key lock (s ∷ ss) h = (h 0 s (omega arith), every_key lock ss (λ i d lt. h (suc i) d (omega arith)))

  pub all_keys : (shared : Shared H E S C) (seats : List (Seat H E S C)) → AreSeatsOf shared seats
      → Every (λ s. IsKeyOf shared.lock s.key) seats
  all_keys shared seats are = every_key shared.lock seats (λ i d lt. (are.1 i d lt).0.0.at)

  -- a token of each number is there
  any_seat : (n i : ℕ) (seats : List (Seat H E S C)) → i < length seats
      → ((d : Seat H E S C) → Any (λ t. t.number ≡ n) (told_seat (slice_index_or seats i d)))
      → Any (λ t. t.number ≡ n) (told_seats seats)
  any_seat n i [] lt h = absurd (omega arith)
  any_seat n zero (s ∷ ss) lt h = any_left (λ t. t.number ≡ n) (told_seat s) (told_seats ss) (h s)
  any_seat n (suc i) (s ∷ ss) lt h =
      any_right (λ t. t.number ≡ n) (told_seat s) (told_seats ss) (any_seat n i ss (omega arith) h)

  pub all_there : (shared : Shared H E S C) (seats : List (Seat H E S C)) (hand : Hand H E S C) (scout : Scout H E S C)
      → AreSeatsOf shared seats → IsHandOf shared hand → IsScoutOf shared scout → (n : ℕ) → n < suc scout_number
      → Any (λ t. t.number ≡ n) ((told_scout scout ++ told_hand hand) ++ told_seats seats)
  all_there shared seats hand scout are is_hand is_scout n below = ⊎_elim
      (λ lt. any_right P (told_scout scout ++ told_hand hand) (told_seats seats)
      (any_seat n n seats (omega (arith, are.0)) (λ d.
      let is = are.1 n d (omega (arith, are.0)) in
      has_number n n (slice_index_or seats n d).key is.0.0.one is.0.0.own (is.0.0.number ∙ is.1) refl)))
      (λ rest. any_left P (told_scout scout ++ told_hand hand) (told_seats seats) (⊎_elim
      (λ e. any_right P (told_scout scout) (told_hand hand)
      (has_number n hand_number hand.key is_hand.0.one is_hand.0.own is_hand.0.number (sym e)))
      (λ e. any_left P (told_scout scout) (told_hand hand)
      (has_number n scout_number scout.key is_scout.0.one is_scout.0.own is_scout.0.number (sym e)))
      rest))
      (which n below)
    where
      P : ToldToken E → Type 0
      P t = t.number ≡ n

      which : (n : ℕ) → n < suc scout_number → (n < SEATS) ⊎ ((n ≡ hand_number) ⊎ (n ≡ scout_number))
      which n lt = grind arith

module _ {E S C : Type 0} where
  -- all tokens are back
  pub closes : (seen : E → Seen (Tables S C)) (service : Service S C) (v : Known E) (e : E) (tokens : List (ToldToken E))
      (witnessed : List E)
      → Sums (Since seen service) (IsLater seen) (EndsAs seen service) (EverSince seen service) v → v.has ≡ Some e
      → v.own ≡ tokens → v.shown ≡ witnessed → ((n : ℕ) → n < suc scout_number → Any (λ t. t.number ≡ n) tokens)
      → Closes seen service tokens witnessed e
  closes seen service v e tokens witnessed sums has own shown all =
      let h = sums e has in
      record {
        all = all;
        good = h.0;
        ends = h.1;
        told = subst (Every (IsTold (Since seen service) (IsLater seen) (EndsAs seen service) e h.0)) own h.2;
        borne_out = subst (Every (λ y. EverSince seen service y h.0)) shown h.3;
      }
