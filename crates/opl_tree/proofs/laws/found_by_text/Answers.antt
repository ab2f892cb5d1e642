use Rattle.opl_tree.proofs.Keywords.{text_of-keyword}
use Rattle.opl_tree.proofs.laws.found_by_text.Goals as goal

pub returns : goal.returns
returns c = text_of-keyword
