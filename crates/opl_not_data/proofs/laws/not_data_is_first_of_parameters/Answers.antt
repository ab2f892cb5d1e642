use Rattle.opl_not_data.proofs.First.{not_data_is_first_of_parameters}
use Rattle.opl_not_data.proofs.laws.not_data_is_first_of_parameters.Goals as goal

pub returns : goal.returns
returns c = not_data_is_first_of_parameters
