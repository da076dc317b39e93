use Rattle.text.proofs.Digits.{number_read, number_only, number_small}
use Rattle.text.proofs.laws.a_number_has_one_numeral.Goals as goal

pub returns-clause-read : goal.returns-clause-read
returns-clause-read c = number_read

pub returns-clause-only : goal.returns-clause-only
returns-clause-only c = λ text number read. (number_small text number read, number_only text number read)
