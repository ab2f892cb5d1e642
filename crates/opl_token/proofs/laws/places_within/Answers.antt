use Rattle.opl_token.proofs.Bounds.{places_within}
use Rattle.opl_token.proofs.laws.places_within.Goals as goal

pub returns : goal.returns
returns c = places_within
