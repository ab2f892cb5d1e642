use Rattle.opl_token.proofs.Bounds.{places_rise}
use Rattle.opl_token.proofs.laws.places_rise.Goals as goal

pub returns : goal.returns
returns c = places_rise
