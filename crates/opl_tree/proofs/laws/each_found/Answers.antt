use Rattle.opl_tree.proofs.Keywords.{keyword_of-text}
use Rattle.opl_tree.proofs.laws.each_found.Goals as goal

pub returns : goal.returns
returns c = keyword_of-text
