use Rattle.opl_token.proofs.Unique.{one_scan}
use Rattle.opl_token.proofs.laws.one_scan.Goals as goal

pub returns : goal.returns
returns c = one_scan
