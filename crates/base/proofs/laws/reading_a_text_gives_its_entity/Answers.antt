use Rattle.base.proofs.Entities.{read_back}
use Rattle.base.proofs.laws.reading_a_text_gives_its_entity.Goals as goal

pub returns : goal.returns
returns c = read_back
