use Rattle.laws_journals.specs.Envelopes.{IsAuthentic}
use Rattle.laws_stores.specs.Good.{journals_of}
use Rattle.laws_stores.proofs.Keeping.{one_lawful, one_settled, one_holds, one_authentic}
use Rattle.laws_stores.proofs.laws.a_deed_keeps_the_laws.Goals as goal

pub returns-clause-lawful : goal.returns-clause-lawful
returns-clause-lawful c = λ x y one held. one_lawful (IsAuthentic (journals_of x)) x y one (λ e known. known) held

pub returns-clause-settled : goal.returns-clause-settled
returns-clause-settled c = λ x y one held. one_settled (IsAuthentic (journals_of x)) x y one (λ e known. known) held

pub returns-clause-held : goal.returns-clause-held
returns-clause-held c = λ x y one held. one_holds (IsAuthentic (journals_of x)) x y one (λ e known. known) held

pub returns-clause-authentic : goal.returns-clause-authentic
returns-clause-authentic c =
    λ x y e one held. one_authentic (IsAuthentic (journals_of x)) x y one (λ f known. known) held e
