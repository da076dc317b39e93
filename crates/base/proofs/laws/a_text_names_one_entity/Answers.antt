use Rattle.base.proofs.Entities.{text_of-injective}
use Rattle.base.proofs.laws.a_text_names_one_entity.Goals as goal

pub returns : goal.returns
returns c = text_of-injective
