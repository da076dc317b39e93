-- A call of a third service does nothing between the two.
use Rattle.std.proofs.Common.{Bool, ◌≡◌, ◌⊎◌, ℕ, inl, inr, sym, ◌∙◌, arith}
use Rattle.std.proofs.Math.Logic.{∥∥₁_elim}
use Rattle.std.proofs.Props.{props}
use Rattle.base.specs.declared.entity.Kind.{Kind}
use Rattle.base.specs.declared.pair.Pair.{Pair}
use Rattle.envelope.specs.declared.message.Envelope.{Envelope}
use Rattle.envelope.specs.declared.message.Envelope.TheVariants as envelope
use Rattle.envelope.specs.declared.message.Letter.{Letter}
use Rattle.activities.specs.Service.{Service}
use Rattle.activities.proofs.Sameness.{either}
use Rattle.keep.specs.Seen.{Seen, IsSound}
use Rattle.keep.specs.Tables.{Tables}
use Rattle.endpoint.specs.Matches.{AllMatch}
use Rattle.laws_stores.proofs.Writing.{sender-kind, receiver-kind}
use Rattle.laws_services.specs.Steps.{MayWrite, TakesLetter}
use Rattle.laws_services.proofs.Deeds.{step_takes}
use Rattle.laws_delivery.specs.Shown.{pair_of, SaysNothing}
use Rattle.laws_delivery.specs.Two.{Two, IsBetween, Elsewhere, StepOfThird}

no-prop : IsProp ⊥
no-prop = hlevel props

zero-prop : (n : ℕ) → IsProp (n ≡ 0)
zero-prop n = hlevel props

module _ {E U V S C T D K L : Type 0} (seen : E → Seen (Tables U V)) (third : Service U V) (one : Service S C)
    (other : Service T D) (pairs : Pair → Bool) (old new : E) (a b : Two K L) (sound : IsSound (seen new))
    (h : StepOfThird seen third one other old new a b) where
  not_theirs : (k : Kind) → k ≡ third.kind → (k ≡ one.kind) ⊎ (k ≡ other.kind) → ⊥
  not_theirs k is theirs = either theirs (λ same. h.not_one (sym is ∙ same)) (λ same. h.not_other (sym is ∙ same))

  matches : AllMatch third (seen new).may_leave
  matches = h.step.does.matches h.clean h.matching

  nothing_new : (e : Envelope) → IsBetween one other pairs (pair_of e) → MayWrite seen third old new e → SaysNothing e
  nothing_new (envelope.Letter l) theirs may = ∥∥₁_elim (sound.leaves h.clean) no-prop (λ t.
      not_theirs l.pair.from.kind
      (sender-kind third.reactions third.kind t.0.journal l.pair l.number l.message (matches t.0 t.1).legal.kinds
      (may h.clean h.matching t.0 t.1))
      theirs.1)
  nothing_new (envelope.Settle p n) theirs may = ∥∥₁_elim (sound.leaves h.clean) (zero-prop n) (λ t.
      let low = may h.clean h.matching t.0 t.1 in
      either (receiver-kind third.kind t.0.journal p (matches t.0 t.1).legal.kinds)
      (λ none. omega (arith, low, none))
      (λ same. absurd (not_theirs p.to.kind same theirs.2)))

  nothing_taken : (l : Letter) → IsBetween one other pairs l.pair → TakesLetter seen third l old new → l.number ≡ 0
  nothing_taken l theirs takes = ∥∥₁_elim (sound.leaves h.clean) (zero-prop l.number) (λ t.
      ∥∥₁_elim (step_takes seen third old new h.clean h.matching t.0 t.1 l takes) (zero-prop l.number) (λ r.
      either r.1 (λ none. none) (λ same. absurd (not_theirs l.pair.to.kind same theirs.2))))

  pub third_elsewhere : Elsewhere one other pairs a b
  third_elsewhere = record {
    left = h.left;
    right = h.right;
    writes = λ e theirs there. either (h.step.writes e there) inl (λ may. inr (nothing_new e theirs may));
    takes = λ l theirs there. either (h.step.takes l there) inl (λ may. inr (nothing_taken l theirs may));
  }
