-- The laws, from what is shown of declarations, items and statements.
use Rattle.std.proofs.Common.{true, ◌++◌, [], Some, None, refl, sym, subst}
use Rattle.opl_tree.specs.declared.instruction.InstrTree.TheVariants as instrs
use Rattle.opl_type_rules.specs.Types.{is_number}
use Rattle.opl_type_rules.specs.Scope.{and_then, Scope, empty_scope}
use Rattle.opl_type_rules.specs.Forms.{form_expr}
use Rattle.opl_type_rules.specs.Expressions.{used, kinds, typing}
use Rattle.opl_type_rules.specs.Expressions.Need.{nothing}
use Rattle.opl_declaration_types.specs.Declarations.{all_decls}
use Rattle.opl_item_types.specs.Items.{instr, search, block}
use Rattle.opl_model_types.specs.Models.{model}
use Rattle.opl_typed.proofs.Steps.{went}
use Rattle.opl_typed_model.specs.Parts.{IsInstr, IsSearch}
use Rattle.opl_typed_model.specs.Laws.{DeclsSound, DeclsComplete, InstrSound, InstrComplete, SearchSound, SearchComplete, ModelSound, ModelComplete}
use Rattle.opl_typed_model.proofs.Places.{stands-sound, stands-complete}
use Rattle.opl_typed_model.proofs.Decls.{decl-sound, decl-complete, decls-sound, decls-complete, step}
use Rattle.opl_typed_model.proofs.Items.{agrees-block, agrees-search}

pub decls_sound : DeclsSound
decls_sound k sc d o h = decl-sound k sc d o h

pub decls_complete : DeclsComplete
decls_complete k sc d there h = decl-complete k sc d there h

pub instr_sound : InstrSound
instr_sound sc (instrs.Solve at t) ks h = (agrees-block t).sound sc ks h
instr_sound sc (instrs.Optimize at optimum objective t) ks h =
    let w = went (and_then (typing sc (form_expr objective)) (used nothing is_number)) _ ks h in
    let x = went (block t sc) _ ks w.2 in
    (stands-sound sc nothing is_number (form_expr objective) w.0 w.1, (agrees-block t).sound sc x.0 x.1)

pub instr_complete : InstrComplete
instr_complete sc (instrs.Solve at t) h = (agrees-block t).complete sc h
instr_complete sc (instrs.Optimize at optimum objective t) h =
    let k = stands-complete sc nothing is_number (form_expr objective) h.0 in
    let r = (agrees-block t).complete sc h.1 in
    (kinds k.node ++ r.0, step (and_then (typing sc (form_expr objective)) (used nothing is_number)) _ k.node _ k.given (step (block t sc) _ r.0 _ r.1 refl))

pub search_sound : SearchSound
search_sound sc None ks h = tt
search_sound sc (Some t) ks h = (agrees-search t.block).sound (record sc { is_search = true }) ks h

pub search_complete : SearchComplete
search_complete sc None h = ([], refl)
search_complete sc (Some t) h = (agrees-search t.block).complete (record sc { is_search = true }) h

pub model_sound : ModelSound
unfolding model
model_sound t ks h =
    let o = went (all_decls 0 empty_scope t.decls) _ ks h in
    let i = went (instr t.instr o.0.scope) _ ks o.2 in
    let s = went (search t.search o.0.scope) _ ks i.2 in
    (o.0.scope, decls-sound t.decls 0 empty_scope o.0 o.1, instr_sound o.0.scope t.instr i.0 i.1, search_sound o.0.scope t.search s.0 s.1)

pub model_complete : ModelComplete
unfolding model
model_complete t h =
    let o = decls-complete t.decls 0 empty_scope h.0 h.1 in
    let i = instr_complete o.0.scope t.instr (subst (λ (s : Scope). IsInstr s t.instr) (sym o.2) h.2) in
    let s = search_complete o.0.scope t.search (subst (λ (s : Scope). IsSearch s t.search) (sym o.2) h.3) in
    (o.0.kinds ++ (i.0 ++ s.0), step (all_decls 0 empty_scope t.decls) _ o.0 _ o.1 (step (instr t.instr o.0.scope) _ i.0 _ i.1 (step (search t.search o.0.scope) _ s.0 _ s.1 refl)))
