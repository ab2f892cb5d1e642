use Rattle.opl_value.proofs.Rising as law
use Rattle.opl_value.proofs.laws.rising_places_are_one.Goals as goal

pub returns : goal.returns
returns c = law.rising_places_are_one
