use Rattle.std.proofs.Common.{arith}
use Rattle.std.proofs.lemmas.Grind.{common_steps}
use Rattle.opl_grammar.specs.Declarations.{data_decl}
use Rattle.opl_grammar_declaration.proofs.declaration.data_decl.Goals as goal

-- src/declaration.rt:84:1
pub returns-in_err-kind : goal.returns-in_err-kind
unfolding data_decl
returns-in_err-kind g c = grind (arith, common_steps)

-- src/declaration.rt:84:1
pub returns-in_err-named : goal.returns-in_err-named
unfolding data_decl
returns-in_err-named g c = grind (arith, common_steps)

-- src/declaration.rt:84:1
pub returns-in_err-parts : goal.returns-in_err-parts
unfolding data_decl
returns-in_err-parts g c = grind (arith, common_steps)

-- src/declaration.rt:84:1
pub returns-in_err-parts-2 : goal.returns-in_err-parts-2
unfolding data_decl
returns-in_err-parts-2 g c = grind (arith, common_steps)

-- src/declaration.rt:84:1
pub returns-in_err-parts-3 : goal.returns-in_err-parts-3
unfolding data_decl
returns-in_err-parts-3 g c = grind (arith, common_steps)

-- src/declaration.rt:84:1
pub returns-in_err-kind-2 : goal.returns-in_err-kind-2
unfolding data_decl
returns-in_err-kind-2 g c = grind (arith, common_steps)

-- src/declaration.rt:84:1
pub returns : goal.returns
unfolding data_decl
returns g c = grind (arith, common_steps)
