-- Changes that don't concern an entity leave what is read of it.
use Rattle.std.proofs.Common.{◌≡◌, ℕ, ◌+◌, ◌≤◌, Bool, true, false, true≢false, List, [], ◌∷◌, ◌||◌, ◌&&◌, length, map}
use Rattle.std.proofs.Common.{refl, sym, ap, ◌∙◌, subst}
use Rattle.std.specs.Prelude.{if◌then◌else◌, take}
use Rattle.std.specs.List.{list_any, enumerate_from}
use Rattle.base.specs.Entity.{Entity}
use Rattle.base.specs.Order.{same_entity, same_pair}
use Rattle.base.specs.declared.limits.TheConstants.{MAX_NUMBER}
use Rattle.base.specs.declared.pair.Pair.{Pair}
use Rattle.activities.specs.Reaction.{messages_to}
use Rattle.activities.specs.declared.outs.Out.{Out}
use Rattle.activities.proofs.Sameness.{same_pair-parts}
use Rattle.keep.specs.declared.change.Change.{Change}
use Rattle.keep.specs.declared.change.Change.TheVariants.{Journal, State, Sent, Settled, Handled, Held, NotHeld}
use Rattle.keep.specs.Tables.{Tables, changed, changed_by}
use Rattle.outbox.specs.Numbering.{pair_between, letter_to, numbering, NumbersFit}
use Rattle.group_commit.specs.Parts.Planning.{touches}

-- what is read of an entity is the same of both
pub record ReadsSame {S C : Type 0} (e : Entity) (t u : Tables S C) : Type 0 where
  pub entity : u.entity e ≡ t.entity e
  pub sent : (r : Entity) → u.sent (pair_between e r) ≡ t.sent (pair_between e r)
  pub settled : (r : Entity) → u.settled (pair_between e r) ≡ t.settled (pair_between e r)
  pub handled : (s : Entity) → u.handled (pair_between s e) ≡ t.handled (pair_between s e)

none_of_two : (a b : Bool) → (a || b) ≡ false → (a ≡ false) × (b ≡ false)
none_of_two false b h = (refl, h)
none_of_two true b h = absurd (true≢false h)

other_from : (p : Pair) (e r : Entity) → same_entity p.from e ≡ false → same_pair p (pair_between e r) ≡ false
other_from p e r h = same_pair-parts p (pair_between e r) ∙ ap (λ b. b && same_entity p.to r) h

other_to : (p : Pair) (s e : Entity) → same_entity p.to e ≡ false → same_pair p (pair_between s e) ≡ false
other_to p s e h = same_pair-parts p (pair_between s e) ∙ ap (λ b. same_entity p.from s && b) h
    ∙ never (same_entity p.from s)
  where
    never : (b : Bool) → (b && false) ≡ false
    never true = refl
    never false = refl

module _ {S C : Type 0} (e : Entity) where
  one_spares : (c : Change S C) (t : Tables S C) → touches e c ≡ false → ReadsSame e t (changed_by c t)
  one_spares (Journal position row) t h =
      record { entity = refl; sent = λ r. refl; settled = λ r. refl; handled = λ s. refl }
  one_spares (State x row) t h = record {
    entity = ap (λ b. if b then row else t.entity e) h;
    sent = λ r. refl;
    settled = λ r. refl;
    handled = λ s. refl;
  }
  one_spares (Sent l) t h = record {
    entity = refl;
    sent = λ r. ap (λ b. if b then l.number else t.sent (pair_between e r)) (other_from l.pair e r h);
    settled = λ r. refl;
    handled = λ s. refl;
  }
  one_spares (Settled p n) t h = record {
    entity = refl;
    sent = λ r. refl;
    settled = λ r. ap (λ b. if b then n else t.settled (pair_between e r)) (other_from p e r h);
    handled = λ s. refl;
  }
  one_spares (Handled p n) t h = record {
    entity = refl;
    sent = λ r. refl;
    settled = λ r. refl;
    handled = λ s. ap (λ b. if b then n else t.handled (pair_between s e)) (other_to p s e h);
  }
  one_spares (Held l) t h =
      record { entity = refl; sent = λ r. refl; settled = λ r. refl; handled = λ s. refl }
  one_spares (NotHeld p n) t h =
      record { entity = refl; sent = λ r. refl; settled = λ r. refl; handled = λ s. refl }

  pub spares : (cs : List (Change S C)) (t : Tables S C) → list_any (touches e) cs ≡ false
      → ReadsSame e t (changed cs t)
  spares [] t h = record { entity = refl; sent = λ r. refl; settled = λ r. refl; handled = λ s. refl }
  spares (c ∷ cs) t h =
      let two = none_of_two (touches e c) (list_any (touches e) cs) h in
      let first = one_spares c t two.0 in
      let rest = spares cs (changed_by c t) two.1 in
      record {
        entity = rest.entity ∙ first.entity;
        sent = λ r. rest.sent r ∙ first.sent r;
        settled = λ r. rest.settled r ∙ first.settled r;
        handled = λ s. rest.handled s ∙ first.handled s;
      }

-- ---- what it sends has the same numbers then

map_same : {A B : Type 0} (f g : A → B) → ((x : A) → f x ≡ g x) → (xs : List A) → map f xs ≡ map g xs
map_same f g e [] = refl
map_same f g e (x ∷ xs) = ap (λ y. y ∷ map f xs) (e x) ∙ ap (λ ys. g x ∷ ys) (map_same f g e xs)

module _ (before after : Pair → ℕ) (e : Entity)
    (same : (r : Entity) → after (pair_between e r) ≡ before (pair_between e r)) where
  pub numbering-same : {S C : Type 0} (outs : List Out) → numbering {S = S} {C = C} before e outs ≡ numbering after e outs
  numbering-same {S} {C} outs = map_same one two letters (enumerate_from 0 outs)
    where
      one : ℕ × Out → Change S C
      one at = Sent (letter_to before e (take at.0 outs) at.1)

      two : ℕ × Out → Change S C
      two at = Sent (letter_to after e (take at.0 outs) at.1)

      letter : List Out → Out → ℕ → Change S C
      letter passed o k = Sent (record {
        pair = pair_between e o.receiver;
        number = k + length (messages_to o.receiver passed) + 1;
        message = o.message;
      })

      letters : (at : ℕ × Out) → one at ≡ two at
      letters at = ap (letter (take at.0 outs) at.1) (sym (same at.1.receiver))

  pub fits-same : (outs : List Out) → NumbersFit before e outs → NumbersFit after e outs
  fits-same outs fits = λ r some.
      let P : ℕ → Type 0 = λ k. k + length (messages_to r outs) ≤ MAX_NUMBER in
      subst P (sym (same r)) (fits r some)
