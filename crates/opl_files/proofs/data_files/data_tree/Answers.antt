use Rattle.opl_files.proofs.DataLemmas.{syntax-stops}
use Rattle.opl_data.specs.Marks.{marks_file}
use Rattle.opl_files.proofs.data_files.data_tree.Goals as goal

pub returns-in-Err-Syntax : goal.returns-in-Err-Syntax
returns-in-Err-Syntax c =
    syntax-stops marks_file c.args.file c.args.tokens.now _ c.in-Err-Syntax.at _ _ c.as_slice.ensures c.in-Err-Syntax.field-0-is c.in-Err-Syntax.ensures c.refused.ensures
