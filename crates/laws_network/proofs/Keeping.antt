-- One side's step keeps both following each other, and all that was ever sent authentic.
use Rattle.std.proofs.Common.{◌≡◌, ℕ, zero, suc, ◌≤◌, List, [], ◌∷◌, ◌++◌, ◌⊎◌, refl, arith, sym, inl, inr}
use Rattle.std.proofs.Common.{Some, None, Ok, subst}
use Rattle.std.specs.Prelude.{map, slice_get}
use Rattle.base.specs.declared.pair.Pair.{Pair}
use Rattle.envelope.specs.declared.message.Envelope.{Envelope}
use Rattle.envelope.specs.declared.message.Envelope.TheVariants as envelope
use Rattle.envelope.specs.declared.message.Letter.{Letter}
use Rattle.activities.specs.Journal.{sent_of, letters_of, handled_of}
use Rattle.activities.specs.Numbered.{IsPrefixOf}
use Rattle.activities.specs.Reaction.{Reactions}
use Rattle.activities.specs.Service.{Service}
use Rattle.activities.proofs.Prefixes.{prefix-same, prefix_trans, numbered-prefix, numbered_prefix-next, nth-prefix}
use Rattle.activities.proofs.Sameness.{either}
use Rattle.keep.specs.Listing.{AreFirst}
use Rattle.outbox.specs.Rows.{unsettled_of}
use Rattle.endpoint.specs.Deeds.{Kept, Deed, Did}
use Rattle.laws_network.specs.declared.event.Event.{Event}
use Rattle.laws_network.specs.declared.event.Event.TheVariants.{Send, Tell}
use Rattle.laws_network.specs.declared.event.Outcome.{Outcome}
use Rattle.laws_network.specs.declared.event.Outcome.TheVariants.{Sent, Told}
use Rattle.laws_network.specs.Envelopes.{AreAuthentic}
use Rattle.laws_network.specs.Fair.{Follows}
use Rattle.laws_network.specs.SideSteps.{MaySend, SideStep}
use Rattle.laws_stores.specs.Deeds.{DeedIs}
use Rattle.laws_stores.specs.Writing.{IsTrueIn}
use Rattle.laws_stores.proofs.Doing.{did_sent, did_handled, did_letters, did_settled, did_held}
use Rattle.laws_stores.proofs.Writing.{listed_stands, unsettled_true}
use Rattle.laws_network.proofs.Founded.{may_do_is}

-- ---- the side that acts, as a sender and as a receiver; its partner keeps `z`

module _ {S C T D : Type 0} (s : Service S C) (partner : Reactions T D) (x y : Kept C) (z : Kept D) (d : Deed C)
    (did : Did s x d y)
    (is : DeedIs (IsTrueIn partner z.journal) d) where
  pub partner_follows : Follows s.reactions x z → Follows s.reactions y z
  partner_follows f = record {
    handled = λ p. prefix_trans _ _ _ (f.handled p) (numbered-prefix 0 _ _ (did_sent s x y d did p));
    held = λ p n m h. nth-prefix n m _ _ (did_sent s x y d did p) (f.held p n m h);
    settled = λ p. let old = f.settled p in either (did_settled s (IsTrueIn partner z.journal) x y d did is p)
        (λ same. omega (arith, old, same))
        (λ up. let to = up.1 in let most = up.2 in omega (arith, old, to, most));
  }

  pub follows_partner : Follows partner z x → Follows partner z y
  follows_partner f = record {
    handled = λ p. either (did_letters s (IsTrueIn partner z.journal) x y d did is p)
        (λ e. rw e (f.handled p))
        (λ e. rw e.1 (numbered_prefix-next (letters_of x.journal p) (sent_of partner z.journal p) e.0 (f.handled p)
        e.2));
    held = λ p n m h. either (did_held s (IsTrueIn partner z.journal) x y d did is p n m h) (λ old. f.held p n m old)
        (λ new. new);
    settled = λ p. let old = f.settled p in let more = did_handled s x y d did p in omega (arith, old, more);
  }

-- what was authentic stays so
authentic-later : {S C : Type 0} (s : Service S C) (x y : Kept C) (d : Deed C) → Did s x d y → (e : Envelope)
    → IsTrueIn s.reactions x.journal e → IsTrueIn s.reactions y.journal e
authentic-later s x y d did (envelope.Letter l) h = nth-prefix l.number l.message _ _ (did_sent s x y d did l.pair) h
authentic-later s x y d did (envelope.Settle p n) h = let more = did_handled s x y d did p in omega (arith, h, more)

-- ---- what a side sends

get_append : {A : Type 0} (xs ys : List A) (i : ℕ) (e : A) → slice_get (xs ++ ys) i ≡ Some e
    → (slice_get xs i ≡ Some e) ⊎ ((j : ℕ) × (slice_get ys j ≡ Some e))
get_append [] ys i e h = inr (i, h)
get_append (x ∷ xs) ys zero e h = inl h
get_append (x ∷ xs) ys (suc i) e h = get_append xs ys i e h

get_map : (ls : List Letter) (i : ℕ) (e : Envelope) → slice_get (map envelope.Letter ls) i ≡ Some e
    → (l : Letter) × (e ≡ envelope.Letter l) × (slice_get ls i ≡ Some l)
get_map [] i e h = absurd (cc)
get_map (l ∷ ls) zero e h = (l, cc, refl)
get_map (l ∷ ls) (suc i) e h = get_map ls i e h

module _ {S C : Type 0} (s : Service S C) (y : Kept C) where
  abbrev Authentic : List Envelope → Type 0
  Authentic sent = AreAuthentic s.reactions y.journal sent

  with_more : (sent more : List Envelope) → Authentic sent → Authentic more → Authentic (sent ++ more)
  with_more sent more h new i e at = either (get_append sent more i e at) (λ old. h i e old) (λ j. new j.0 e j.1)

  letters_authentic : (limit : ℕ) (ls : List Letter)
      → AreFirst (unsettled_of s.reactions y.journal y.settled) None limit ls
      → Authentic (map envelope.Letter ls)
  letters_authentic limit ls first i e at =
      let l = get_map ls i e at in
      subst (IsTrueIn s.reactions y.journal) (sym l.1)
      (unsettled_true s.reactions y.journal y.settled l.0
      (listed_stands (unsettled_of s.reactions y.journal y.settled) None limit ls first i l.0 l.2))

  told_authentic : (p : Pair) (n : ℕ) → n ≡ handled_of y.journal p → Authentic (envelope.Settle p n ∷ [])
  told_authentic p n is zero e at =
      let same : envelope.Settle p n ≡ e = cc in
      let most : n ≤ handled_of y.journal p = omega (arith, is) in
      subst (IsTrueIn s.reactions y.journal) same most
  told_authentic p n is (suc i) e at = absurd (cc)

  same_authentic : (sent later : List Envelope) → Authentic sent → later ≡ sent → Authentic later
  same_authentic sent later h same = subst Authentic (sym same) h

  pub sends_authentic : (event : Event C) (outcome : Outcome) (sent later : List Envelope) → Authentic sent
      → MaySend s event outcome y sent later → Authentic later
  sends_authentic (Send limit) (Sent (Ok n)) sent later h m =
      subst Authentic (sym m.3) (with_more sent (map envelope.Letter m.0) h (letters_authentic limit m.0 m.1))
  sends_authentic (Tell p) (Told (Ok n)) sent later h m =
      subst Authentic (sym m.1) (with_more sent (envelope.Settle p n ∷ []) h (told_authentic p n m.0))
  sends_authentic _ _ sent later h m = same_authentic sent later h m

  -- nothing that was sent is taken back
  pub sends_grow : (event : Event C) (outcome : Outcome) (sent later : List Envelope)
      → MaySend s event outcome y sent later
      → IsPrefixOf sent later
  sends_grow (Send limit) (Sent (Ok n)) sent later m = (map envelope.Letter m.0, sym m.3)
  sends_grow (Tell p) (Told (Ok n)) sent later m = (envelope.Settle p n ∷ [], sym m.1)
  sends_grow _ _ sent later m = prefix-same sent later (sym m)

-- ---- a step

module _ {S C T D : Type 0} (s : Service S C) (partner : Reactions T D) (event : Event C) (outcome : Outcome)
    (arriving sent later : List Envelope) (x y : Kept C) (z : Kept D)
    (arrives : AreAuthentic partner z.journal arriving) (follows : Follows partner z x)
    (side : SideStep s event outcome arriving sent later x y) where
  founded : DeedIs (IsTrueIn partner z.journal) side.deed
  founded = may_do_is s (IsTrueIn partner z.journal) arriving arrives event outcome x side.deed
      (λ p n m h. follows.held p n m h)
      side.may

  pub side_right : Follows s.reactions x z → Follows s.reactions y z
  side_right = partner_follows s partner x y z side.deed side.did founded

  pub side_left : Follows partner z y
  side_left = follows_partner s partner x y z side.deed side.did founded follows

  pub side_authentic : AreAuthentic s.reactions x.journal sent → AreAuthentic s.reactions y.journal later
  side_authentic h = sends_authentic s y event outcome sent later
      (λ i e at. authentic-later s x y side.deed side.did e (h i e at)) side.sends
