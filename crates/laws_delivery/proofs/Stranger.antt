-- A call of a service does nothing between the two, if in its journal no entity of a pair between them has a row.
use Rattle.std.proofs.Common.{Bool, ◌≡◌, ℕ, zero, suc, inl, inr, ap, subst, arith, [], Some, length}
use Rattle.std.proofs.Math.Logic.{∥∥₁_elim}
use Rattle.std.proofs.Props.{props}
use Rattle.base.specs.declared.pair.Pair.{Pair}
use Rattle.envelope.specs.declared.message.Message.{Message}
use Rattle.envelope.specs.declared.message.Envelope.{Envelope}
use Rattle.envelope.specs.declared.message.Envelope.TheVariants as envelope
use Rattle.activities.specs.Journal.{handled_of}
use Rattle.activities.specs.Numbered.{nth}
use Rattle.activities.specs.Reaction.{sent, letters_from}
use Rattle.activities.specs.Service.{Service}
use Rattle.activities.proofs.Sameness.{either}
use Rattle.keep.specs.Seen.{Seen, IsSound}
use Rattle.keep.specs.Tables.{Tables}
use Rattle.laws_services.specs.Steps.{MayWrite}
use Rattle.laws_delivery.specs.Shown.{pair_of, SaysNothing}
use Rattle.laws_delivery.specs.Two.{Two, IsBetween, Elsewhere, StepOfStranger}

none-prop : IsProp ⊥
none-prop = hlevel props

number-prop : (n : ℕ) → IsProp (n ≡ 0)
number-prop n = hlevel props

none_there : (n : ℕ) (m : Message) → nth [] n ≡ Some m → ⊥
none_there zero m h = cc
none_there (suc n) m h = cc

module _ {E U V S C T D K L : Type 0} (seen : E → Seen (Tables U V)) (third : Service U V) (one : Service S C)
    (other : Service T D) (pairs : Pair → Bool) (old new : E) (a b : Two K L) (sound : IsSound (seen new))
    (h : StepOfStranger seen third one other pairs old new a b) where
  nothing_new : (e : Envelope) → IsBetween one other pairs (pair_of e) → MayWrite seen third old new e → SaysNothing e
  nothing_new (envelope.Letter l) theirs may = ∥∥₁_elim (sound.leaves h.clean) none-prop (λ t.
      none_there l.number l.message
      (subst (λ inputs. nth (sent third.reactions inputs l.pair.to) l.number ≡ Some l.message)
      (h.no_rows t.0 t.1 l.pair theirs).0
      (may h.clean h.matching t.0 t.1)))
  nothing_new (envelope.Settle p n) theirs may = ∥∥₁_elim (sound.leaves h.clean) (number-prop n) (λ t.
      let low = may h.clean h.matching t.0 t.1 in
      let none : handled_of t.0.journal p ≡ 0 =
      ap (λ inputs. length (letters_from p.from inputs)) (h.no_rows t.0 t.1 p theirs).1 in
      omega (arith, low, none))

  pub stranger_elsewhere : Elsewhere one other pairs a b
  stranger_elsewhere = record {
    left = h.left;
    right = h.right;
    writes = λ e theirs there. either (h.step.writes e there) inl (λ may. inr (nothing_new e theirs may));
    takes = h.takes;
  }
