use Rattle.std.proofs.Common.{arith}
use Rattle.opl_declaration_types.proofs.Declared.{declarations}
use Rattle.opl_declaration_types.proofs.declaration.decl.Goals as goal

pub returns-in-Data : goal.returns-in-Data
returns-in-Data c = grind (arith, declarations)

pub returns-in-Range : goal.returns-in-Range
returns-in-Range c = grind (arith, declarations)

pub returns-in-Enumeration : goal.returns-in-Enumeration
returns-in-Enumeration c = grind (arith, declarations)

pub returns-in-Structure : goal.returns-in-Structure
returns-in-Structure c = grind (arith, declarations)

pub returns-in-Variable : goal.returns-in-Variable
returns-in-Variable c = grind (arith, declarations)

pub returns-in-Activity : goal.returns-in-Activity
returns-in-Activity c = grind (arith, declarations)

pub returns-in-Unary : goal.returns-in-Unary
returns-in-Unary c = grind (arith, declarations)

pub returns-in-Discrete : goal.returns-in-Discrete
returns-in-Discrete c = grind (arith, declarations)

pub returns-in-Schedule : goal.returns-in-Schedule
returns-in-Schedule c = grind (arith, declarations)
