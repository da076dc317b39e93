use Rattle.laws_journals.proofs.Agreement.{sound}
use Rattle.laws_stores.specs.Good.{journals_of}
use Rattle.laws_stores.proofs.laws.lawful_tables_agree.Goals as goal

pub returns : goal.returns
returns c = λ t lawful. sound (journals_of t) lawful.prefixes
