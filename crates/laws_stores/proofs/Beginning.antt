-- Services that did nothing yet are good.
use Rattle.std.proofs.Common.{◌≡◌, arith, refl, subst, sym}
use Rattle.base.specs.declared.entity.Kind.{Kind}
use Rattle.base.specs.declared.entity.Kind.TheVariants.{Order, Stock, Account}
use Rattle.base.specs.declared.pair.Pair.{Pair}
use Rattle.envelope.specs.declared.message.Envelope.{Envelope}
use Rattle.envelope.specs.declared.message.Envelope.TheVariants.{Letter, Settle}
use Rattle.laws_journals.specs.Journals.{AreLawful}
use Rattle.laws_journals.specs.Envelopes.{SettledAreHandled}
use Rattle.laws_journals.proofs.Steps.{start_good}
use Rattle.laws_stores.specs.Good.{journals_of, settled_by, settled_in, letters_held_by, IsHeldIn, HoldsAuthentic}
use Rattle.laws_stores.specs.Good.{IsGood}
use Rattle.laws_stores.specs.Sight.{AllTables, Sight, MayLeave, all_empty}

empty_settled : (kind : Kind) (p : Pair) → settled_by all_empty kind p ≡ 0
empty_settled Order p = refl
empty_settled Stock p = refl
empty_settled Account p = refl

pub empty_marks : SettledAreHandled (journals_of all_empty) (settled_in all_empty)
empty_marks p = let none = empty_settled p.from.kind p in omega (arith, none)

empty_held : (kind : Kind) (e : Envelope) → IsHeldIn (letters_held_by all_empty kind) e → ⊥
empty_held Order (Letter l) h = cc
empty_held Stock (Letter l) h = cc
empty_held Account (Letter l) h = cc
empty_held kind (Settle p n) h = h

pub empty_lawful : AreLawful (journals_of all_empty)
empty_lawful = start_good.lawful

pub empty_holds : HoldsAuthentic all_empty
empty_holds kind e h = absurd (empty_held kind e h)

pub empty_good : (s : Sight) → ((t : AllTables) → MayLeave s t → t ≡ all_empty) → IsGood s
empty_good s only = record {
  lawful = λ t may. subst (λ u. AreLawful (journals_of u)) (sym (only t may)) empty_lawful;
  settled = λ t may. subst (λ u. SettledAreHandled (journals_of u) (settled_in u)) (sym (only t may)) empty_marks;
  held = λ t may kind e h. absurd (empty_held kind e (subst (λ u. IsHeldIn (letters_held_by u kind) e) (only t may) h));
}
