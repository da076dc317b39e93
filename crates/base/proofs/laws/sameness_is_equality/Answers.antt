use Rattle.base.proofs.Entities.{same_entity-Decides, same_pair-Decides}
use Rattle.base.proofs.laws.sameness_is_equality.Goals as goal

pub returns : goal.returns
returns c = record { entities = same_entity-Decides; pairs = same_pair-Decides }
