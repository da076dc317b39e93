-- A step leaves two services good.
use Rattle.std.proofs.Common.{Bool, ◌≡◌, ◌≢◌, ℕ, List, [], ◌∷◌, sym, ◌∙◌, subst, arith}
use Rattle.std.specs.Prelude.{Contains}
use Rattle.std.proofs.Math.Logic.{∥∥₁_elim}
use Rattle.base.specs.declared.entity.Kind.{Kind}
use Rattle.base.specs.declared.pair.Pair.{Pair}
use Rattle.envelope.specs.declared.message.Envelope.{Envelope}
use Rattle.envelope.specs.declared.message.Envelope.TheVariants as envelope
use Rattle.envelope.specs.declared.message.Letter.{Letter}
use Rattle.activities.specs.Journal.{AreOf}
use Rattle.activities.specs.Service.{Service}
use Rattle.activities.proofs.Sameness.{either}
use Rattle.keep.specs.Seen.{Seen}
use Rattle.keep.specs.Tables.{Tables}
use Rattle.endpoint.specs.Deeds.{kept}
use Rattle.endpoint.specs.Matches.{AllMatch}
use Rattle.laws_stores.specs.Writing.{IsTrueIn}
use Rattle.laws_stores.proofs.Writing.{sender-kind, receiver-kind}
use Rattle.laws_services.specs.Services.{Traffic}
use Rattle.laws_services.specs.Steps.{IsFounded, DidEach, ServiceStep}
use Rattle.laws_services.proofs.Arriving.{IsReceived}
use Rattle.laws_services.proofs.Deeds.{step_takes}
use Rattle.laws_delivery.specs.Good.{IsGoodFromTo}
use Rattle.laws_delivery.specs.Shown.{Shown, shown, pair_of, IsFromTo, IsTrueOf, IsThere}
use Rattle.laws_delivery.proofs.Moving.{Moves, deed_moves, same_moves, good_later}
use Rattle.laws_delivery.proofs.Propositions.{good-prop, there-prop}

-- ---- a side is the service that acts, or the other one, which stays as it is

pub data Acting : Type 0 where
  Acts : Acting
  Rests : Acting

module _ {S C : Type 0} (s : Service S C) (rest : Shown) (kind : Kind) where
  abbrev pub kind_at : Acting → Kind
  kind_at Acts = s.kind
  kind_at Rests = kind

  abbrev pub shown_at : Tables S C → Acting → Shown
  shown_at x Acts = shown s x
  shown_at x Rests = rest

module _ {S C : Type 0} (s : Service S C) (rest : Shown) (kind : Kind) (pairs : Pair → Bool) (apart : s.kind ≢ kind)
    (from to : Acting) where
  abbrev GoodAt : Traffic → Tables S C → Type 0
  GoodAt traffic x = IsGoodFromTo pairs traffic (kind_at s rest kind from) (kind_at s rest kind to)
      (shown_at s rest kind x from) (shown_at s rest kind x to)

  abbrev Between : Envelope → Type 0
  Between e = IsFromTo pairs (kind_at s rest kind from) (kind_at s rest kind to) (pair_of e)

  moves : (traffic : Traffic) (side : Acting) (x y : Tables S C)
      → DidEach s (IsFounded traffic.written) x (y ∷ []) y
      → Moves (Contains traffic.written) (shown_at s rest kind x side) (shown_at s rest kind y side)
  moves traffic Acts x y did = deed_moves s (Contains traffic.written) x y did.0.0 did.0.1 did.0.2
  moves traffic Rests x y did = same_moves (Contains traffic.written) rest

  -- its deeds, one after another
  through_good : (traffic : Traffic) (through : List (Tables S C)) (x y : Tables S C)
      → DidEach s (IsFounded traffic.written) x through y
      → GoodAt traffic x → GoodAt traffic y
  through_good traffic [] x y did h = subst (GoodAt traffic) (sym did) h
  through_good traffic (next ∷ through) x y did h = through_good traffic through next y did.1
      (good_later pairs traffic (kind_at s rest kind from) (kind_at s rest kind to)
      (shown_at s rest kind x from) (shown_at s rest kind next from) (shown_at s rest kind x to)
      (shown_at s rest kind next to)
      (moves traffic from x next (did.0, λ i. next)) (moves traffic to x next (did.0, λ i. next)) h)

module _ {S C : Type 0} (s : Service S C) (rest : Shown) (kind : Kind) (pairs : Pair → Bool)
    (apart : s.kind ≢ kind) where
  -- what it may write is true
  true_letter : (from to : Acting) (x : Tables S C) → AreOf s.kind x.journal → (l : Letter)
      → IsFromTo pairs (kind_at s rest kind from) (kind_at s rest kind to) l.pair
      → IsTrueIn s.reactions x.journal (envelope.Letter l)
      → IsTrueOf (shown_at s rest kind x from) (shown_at s rest kind x to) (envelope.Letter l)
  true_letter Acts to x kinds l of h = h
  true_letter Rests to x kinds l of h = absurd
      (apart (sym (sender-kind s.reactions s.kind x.journal l.pair l.number l.message kinds h) ∙ of.0))

  true_settle : (from to : Acting) (x : Tables S C) → AreOf s.kind x.journal → (e : Envelope) → (p : _) (n : ℕ)
      → IsFromTo pairs (kind_at s rest kind from) (kind_at s rest kind to) p
      → IsTrueIn s.reactions x.journal (envelope.Settle p n)
      → IsTrueOf (shown_at s rest kind x from) (shown_at s rest kind x to) (envelope.Settle p n)
  true_settle from Acts x kinds e p n of h = h
  true_settle from Rests x kinds e p n of h = either (receiver-kind s.kind x.journal p kinds)
      (λ none. omega (arith, none, h))
      (λ same. absurd (apart (sym same ∙ of.1)))

  is_true : (from to : Acting) (x : Tables S C) → AreOf s.kind x.journal → (e : Envelope)
      → IsFromTo pairs (kind_at s rest kind from) (kind_at s rest kind to) (pair_of e)
      → IsTrueIn s.reactions x.journal e
      → IsTrueOf (shown_at s rest kind x from) (shown_at s rest kind x to) e
  is_true from to x kinds (envelope.Letter l) of h = true_letter from to x kinds l of h
  is_true from to x kinds (envelope.Settle p n) of h = true_settle from to x kinds (envelope.Settle p n) p n of h

  -- what it took is there
  is_there : (from to : Acting) (x : Tables S C) (l : Letter)
      → IsFromTo pairs (kind_at s rest kind from) (kind_at s rest kind to) l.pair
      → IsReceived s (kept x) l → IsThere (shown_at s rest kind x to) l.pair l.number
  is_there from Acts x l of h = h.0
  is_there from Rests x l of h = either h.1
      (λ none. λ later. absurd (omega (arith, none, later)))
      (λ same. absurd (apart (sym same ∙ of.1)))

-- ---- one call

module _ {E S C : Type 0} (seen : E → Seen (Tables S C)) (s : Service S C) (old new : E) (from to : Traffic)
    (step : ServiceStep seen s old new from to) (clean : (seen new).doubt ≡ 0)
    (match : AllMatch s (seen old).may_leave) (rest : Shown) (kind : Kind) (pairs : Pair → Bool)
    (apart : s.kind ≢ kind) (a b : Acting)
    (was : (x : Tables S C) → (seen old).may_leave x
    → IsGoodFromTo pairs from (kind_at s rest kind a) (kind_at s rest kind b)
    (shown_at s rest kind x a) (shown_at s rest kind x b)) where
  matches : AllMatch s (seen new).may_leave
  matches = step.does.matches clean match

  before : (y : Tables S C) → (seen new).may_leave y
      → IsGoodFromTo pairs from (kind_at s rest kind a) (kind_at s rest kind b)
      (shown_at s rest kind y a) (shown_at s rest kind y b)
  before y may = ∥∥₁_elim (step.does.comes clean match y may)
      (good-prop pairs from (kind_at s rest kind a) (kind_at s rest kind b) (shown_at s rest kind y a)
      (shown_at s rest kind y b))
      (λ c. through_good s rest kind pairs apart a b from c.through c.before y c.did (was c.before c.was))

  pub call_good : (y : Tables S C) → (seen new).may_leave y → IsGoodFromTo pairs to (kind_at s rest kind a)
      (kind_at s rest kind b) (shown_at s rest kind y a) (shown_at s rest kind y b)
  call_good y may = let h = before y may in record {
    delivers = h.delivers;
    written = λ e of there. either (step.writes e there)
        (h.written e of)
        (λ writes. is_true s rest kind pairs apart a b y (matches y may).legal.kinds e of (writes clean match y may));
    taken = λ l of there. either (step.takes l there)
        (h.taken l of)
        (λ takes. ∥∥₁_elim (step_takes seen s old new clean match y may l takes)
        (there-prop (shown_at s rest kind y b) l.pair l.number)
        (is_there s rest kind pairs apart a b y l of));
  }
