use Rattle.opl_value.proofs.Rising as law
use Rattle.opl_value.proofs.laws.different_values_rise.Goals as goal

pub returns : goal.returns
returns c = record { rising = law.different_values_rise; once = law.rising_places_stand_once }
