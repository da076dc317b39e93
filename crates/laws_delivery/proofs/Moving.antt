-- What one deed changes of what its service shows, and that letters stay delivered by it.
use Rattle.std.proofs.Common.{Bool, ◌≡◌, ℕ, suc, ◌≤◌, ◌⊎◌, inl, refl, arith, length, Some}
use Rattle.std.specs.Prelude.{max, Contains}
use Rattle.base.specs.declared.entity.Kind.{Kind}
use Rattle.base.specs.declared.pair.Pair.{Pair}
use Rattle.envelope.specs.declared.message.Message.{Message}
use Rattle.envelope.specs.declared.message.Envelope.{Envelope}
use Rattle.envelope.specs.declared.message.Envelope.TheVariants as envelope
use Rattle.activities.specs.Numbered.{nth, IsPrefixOf}
use Rattle.activities.specs.Service.{Service}
use Rattle.activities.proofs.Prefixes.{prefix-same, prefix_trans, numbered-prefix, numbered_prefix-next, nth-prefix}
use Rattle.activities.proofs.Sameness.{either}
use Rattle.keep.specs.Tables.{Tables}
use Rattle.endpoint.specs.Deeds.{kept, Deed, Did}
use Rattle.laws_network.proofs.Arriving.{did_arrived}
use Rattle.laws_stores.specs.Deeds.{DeedIs}
use Rattle.laws_stores.specs.Good.{IsHeldIn}
use Rattle.laws_stores.proofs.Doing.{did_sent, did_handled, did_letters, did_settled, did_held, HandlesNext}
use Rattle.laws_services.specs.Services.{Traffic}
use Rattle.laws_delivery.specs.Good.{IsGoodFromTo}
use Rattle.laws_delivery.specs.Shown.{Shown, shown, pair_of, IsFromTo, Delivers, IsTrueOf, IsThere}

-- what is known, or is held there
abbrev pub Founds : (Envelope → Type 0) → Shown → Envelope → Type 0
Founds known f e = known e ⊎ IsHeldIn f.held e

-- what a service shows before a deed and after it, or while others do something
pub record Moves (known : Envelope → Type 0) (f g : Shown) : Type 0 where
  pub sent : (p : Pair) → IsPrefixOf (f.sent p) (g.sent p)
  pub handled : (p : Pair) → length (f.letters p) ≤ length (g.letters p)
  pub letters : (p : Pair) → HandlesNext (Founds known f) p (f.letters p) (g.letters p)
  pub held : (p : Pair) (n : ℕ) (m : Message) → g.held p n ≡ Some m → (f.held p n ≡ Some m)
      ⊎ Founds known f (envelope.Letter (record { pair = p; number = n; message = m }))
  pub settled : (p : Pair) → (g.settled p ≡ f.settled p)
      ⊎ ((n : ℕ) × (g.settled p ≡ max (f.settled p) n) × Founds known f (envelope.Settle p n))
  pub there : (p : Pair) (n : ℕ) → IsThere f p n → IsThere g p n

pub deed_moves : {S C : Type 0} (s : Service S C) (known : Envelope → Type 0) (x y : Tables S C) (d : Deed C)
    → DeedIs (λ e. known e ⊎ IsHeldIn x.held e) d → Did s (kept x) d (kept y) → Moves known (shown s x) (shown s y)
deed_moves s known x y d is did = record {
  sent = did_sent s (kept x) (kept y) d did;
  handled = did_handled s (kept x) (kept y) d did;
  letters = did_letters s (λ e. known e ⊎ IsHeldIn x.held e) (kept x) (kept y) d did is;
  held = did_held s (λ e. known e ⊎ IsHeldIn x.held e) (kept x) (kept y) d did is;
  settled = did_settled s (λ e. known e ⊎ IsHeldIn x.held e) (kept x) (kept y) d did is;
  there = did_arrived s (kept x) (kept y) d did;
}

pub same_moves : (known : Envelope → Type 0) (f : Shown) → Moves known f f
same_moves known f = record {
  sent = λ p. prefix-same (f.sent p) (f.sent p) refl;
  handled = λ p. omega arith;
  letters = λ p. inl refl;
  held = λ p n m h. inl h;
  settled = λ p. inl refl;
  there = λ p n h. h;
}

-- ---- what is true stays true, what is there stays there, and what is delivered stays so

module _ (known : Envelope → Type 0) (f f' t t' : Shown) (sends : Moves known f f') (gets : Moves known t t') where
  pub true_later : (e : Envelope) → IsTrueOf f t e → IsTrueOf f' t' e
  true_later (envelope.Letter l) h = nth-prefix l.number l.message _ _ (sends.sent l.pair) h
  true_later (envelope.Settle p n) h = let more = gets.handled p in omega (arith, h, more)

  module _ (pairs : Pair → Bool) (from to : Kind)
      (all : (e : Envelope) → IsFromTo pairs from to (pair_of e) → known e → IsTrueOf f t e)
      (was : Delivers pairs from to f t) where
    -- a letter that is known, or is held by its receiver, was sent
    founded : (p : Pair) → IsFromTo pairs from to p → (n : ℕ) (m : Message)
        → Founds known t (envelope.Letter (record { pair = p; number = n; message = m }))
        → nth (f.sent p) n ≡ Some m
    founded p of n m h = either h
        (all (envelope.Letter (record { pair = p; number = n; message = m })) of)
        (was.held p of n m)

    pub delivers_later : Delivers pairs from to f' t'
    delivers_later = record {
      handled = λ p of. prefix_trans _ _ _
          (either (gets.letters p)
          (λ e. rw e (was.handled p of))
          (λ e. rw e.1 (numbered_prefix-next (t.letters p) (f.sent p) e.0 (was.handled p of)
          (founded p of (suc (length (t.letters p))) e.0 e.2))))
          (numbered-prefix 0 _ _ (sends.sent p));
      held = λ p of n m h. nth-prefix n m _ _ (sends.sent p)
          (either (gets.held p n m h) (was.held p of n m) (founded p of n m));
      settled = λ p of.
          let old = was.settled p of in
          let more = gets.handled p in
          either (sends.settled p)
          (λ same. omega (arith, old, more, same))
          (λ up.
          let to = up.1 in
          let most : up.0 ≤ length (t.letters p) = either up.2 (all (envelope.Settle p up.0) of) (λ no. absurd no) in
          omega (arith, old, more, to, most));
    }

-- so two services stay good, as to what was written and taken before
pub good_later : (pairs : Pair → Bool) (traffic : Traffic) (from to : Kind) (f f' t t' : Shown)
    → Moves (Contains traffic.written) f f' → Moves (Contains traffic.written) t t'
    → IsGoodFromTo pairs traffic from to f t → IsGoodFromTo pairs traffic from to f' t'
good_later pairs traffic from to f f' t t' sends gets was = record {
  delivers = delivers_later (Contains traffic.written) f f' t t' sends gets pairs from to was.written was.delivers;
  written = λ e of h. true_later (Contains traffic.written) f f' t t' sends gets e (was.written e of h);
  taken = λ l of h. gets.there l.pair l.number (was.taken l of h);
}
