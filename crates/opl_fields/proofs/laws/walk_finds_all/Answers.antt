use Rattle.opl_fields.proofs.Models.{walk_finds_all}
use Rattle.opl_fields.proofs.laws.walk_finds_all.Goals as goal

pub returns : goal.returns
returns c = walk_finds_all
