use Rattle.text.proofs.VehicleTexts.{granted_by_texts}
use Rattle.text.proofs.vehicle_key.vehicle_key_from_numbers.Goals as goal

pub returns-clause-texts : goal.returns-clause-texts
returns-clause-texts c = granted_by_texts c.args.first c.args.second _ _ c.ok_or.ensures.value c.from_numbers.ensures.answer
