use Rattle.schedule_audit.proofs.Lawful.{all_agree}
use Rattle.schedule_audit.proofs.laws.lawful_services_agree.Goals as goal

pub returns : goal.returns
returns c =
    λ t orders stocks accounts lawful. all_agree t orders stocks accounts (c.lawful_tables_agree.ensures t lawful)
