-- Each name that is used in a model with types has exactly one visible declaration.
use Rattle.std.proofs.Common.{◌≡◌, true, List, Option, None, Some, Ok}
use Rattle.opl_tree.specs.declared.instruction.InstrTree.{InstrTree}
use Rattle.opl_tree.specs.declared.instruction.InstrTree.TheVariants as instrs
use Rattle.opl_tree.specs.declared.search.SearchTree.{SearchTree}
use Rattle.opl_type_rules.specs.Types.{Sort, is_number}
use Rattle.opl_type_rules.specs.Scope.{and_then, Scope, empty_scope}
use Rattle.opl_type_rules.specs.Forms.{form_expr}
use Rattle.opl_type_rules.specs.Expressions.{used, typing}
use Rattle.opl_type_rules.specs.Expressions.Need.{nothing}
use Rattle.opl_declaration_types.specs.Declarations.{all_decls}
use Rattle.opl_item_types.specs.Items.{block, search, instr}
use Rattle.opl_model_types.specs.Models.{model}
use Rattle.opl_model_types.specs.Laws.{IsDeclaredOnce, InstrDeclared, SearchDeclared, ModelIsDeclared}
use Rattle.opl_model_types.proofs.Once.{went, ok-and}
use Rattle.opl_model_types.proofs.DeclsOnce.{decls_declare_once}
use Rattle.opl_model_types.proofs.NamesInDecls.{used-names, decls-names}
use Rattle.opl_model_types.proofs.NamesInItems.{names-block}
use Rattle.opl_model_types.proofs.NamesInSearch.{names-search_block}

instr-names : (t : InstrTree) (sc : Scope) (ks : List Sort) → IsDeclaredOnce sc → instr t sc ≡ Ok ks → InstrDeclared sc t
instr-names (instrs.Solve at t) sc ks once h = names-block t sc ks once h
instr-names (instrs.Optimize at optimum objective t) sc ks once h =
    let w = went (and_then (typing sc (form_expr objective)) (used nothing is_number)) _ ks h in
    let x = went (block t sc) _ ks w.2 in
    (used-names sc (form_expr objective) (used nothing is_number) _ ks once h, names-block t sc x.0 once x.1)

search-names : (t : Option SearchTree) (sc : Scope) (ks : List Sort) → IsDeclaredOnce sc → search t sc ≡ Ok ks → SearchDeclared sc t
search-names None sc ks once h = tt
search-names (Some t) sc ks once h = names-search_block t.block (record sc { is_search = true }) ks once h

none-once : IsDeclaredOnce empty_scope
none-once j k d e h g same = absurd (cc)

pub model_is_declared : ModelIsDeclared
unfolding model
model_is_declared t ks h =
    let w = went (all_decls 0 empty_scope t.decls) _ ks h in
    let x = went (instr t.instr w.0.scope) _ ks w.2 in
    let y = went (search t.search w.0.scope) _ ks x.2 in
    let once : IsDeclaredOnce w.0.scope = decls_declare_once t.decls w.0 w.1 in (
      decls-names t.decls 0 empty_scope w.0 none-once w.1,
      ok-and (all_decls 0 empty_scope t.decls) w.0 (λ o. InstrDeclared o.scope t.instr × SearchDeclared o.scope t.search) w.1
          (instr-names t.instr w.0.scope x.0 once x.1, search-names t.search w.0.scope y.0 once y.1),
    )
