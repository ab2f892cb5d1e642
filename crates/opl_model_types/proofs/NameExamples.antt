-- What the law of names says of a small model, and which models have names that it rules out.
use Rattle.std.proofs.Common.{◌≡◌, ℕ, Bool, false, true, List, [], ◌∷◌, ◌++◌, Option, None, Some, Ok, Err, refl, ap, ◌∙◌, sym, subst}
use Rattle.std.specs.Prelude.{codes, IsOkAnd}
use Rattle.opl_tree.specs.declared.declaration.DeclTree.{DeclTree}
use Rattle.opl_tree.specs.declared.declaration.DeclTree.TheVariants as decls
use Rattle.opl_tree.specs.declared.declaration.InitialTree.TheVariants as initials
use Rattle.opl_tree.specs.declared.declaration.TypeTree.TheVariants as type_trees
use Rattle.opl_tree.specs.declared.declaration.VariableTypeTree.TheVariants as types
use Rattle.opl_tree.specs.declared.expression.AddTree.{AddTree}
use Rattle.opl_tree.specs.declared.expression.ExprTree.{ExprTree}
use Rattle.opl_tree.specs.declared.expression.AndTree.{AndTree}
use Rattle.opl_tree.specs.declared.expression.CompareTree.{CompareTree}
use Rattle.opl_tree.specs.declared.expression.GroupTree.{GroupTree}
use Rattle.opl_tree.specs.declared.expression.ImpTree.{ImpTree}
use Rattle.opl_tree.specs.declared.expression.OrTree.{OrTree}
use Rattle.opl_tree.specs.declared.expression.PostTree.{PostTree}
use Rattle.opl_tree.specs.declared.expression.SetTree.{SetTree}
use Rattle.opl_tree.specs.declared.expression.NameTree.{NameTree}
use Rattle.opl_tree.specs.declared.expression.ParamsTree.{ParamsTree}
use Rattle.opl_tree.specs.declared.expression.PatternTree.TheVariants as patterns
use Rattle.opl_tree.specs.declared.expression.Relation.TheVariants as relations
use Rattle.opl_tree.specs.declared.expression.NegTree.TheVariants as negs
use Rattle.opl_tree.specs.declared.expression.CompareTree.TheVariants as compares
use Rattle.opl_tree.specs.declared.expression.MulTree.TheVariants as muls
use Rattle.opl_tree.specs.declared.expression.SignTree.TheVariants as signs
use Rattle.opl_tree.specs.declared.expression.PrimTree.TheVariants as prims
use Rattle.opl_tree.specs.declared.expression.CompareTree.TheViews.{roll-ExprTree, roll-ImpTree, roll-OrTree, roll-AndTree, roll-AddTree, roll-PostTree, roll-SetTree, roll-GroupTree, roll-ParamsTree}
use Rattle.opl_tree.specs.declared.expression.CompareTree.TheFolds.{fold-roll-AddTree, fold-roll-AndTree, fold-roll-ExprTree, fold-roll-GroupTree, fold-roll-ImpTree, fold-roll-OrTree, fold-roll-ParamsTree, fold-roll-PostTree, fold-roll-SetTree}
use Rattle.opl_tree.specs.declared.instruction.BlockTree.{BlockTree}
use Rattle.opl_tree.specs.declared.instruction.InstrTree.TheVariants as instrs
use Rattle.opl_tree.specs.declared.instruction.ItemTree.{ItemTree}
use Rattle.opl_tree.specs.declared.instruction.RequiresTree.{RequiresTree}
use Rattle.opl_tree.specs.declared.instruction.ItemTree.TheVariants as item_trees
use Rattle.opl_tree.specs.declared.instruction.ItemsTree.TheVariants as item_lists
use Rattle.opl_tree.specs.declared.instruction.ItemTree.TheFolds.{fold-roll-ItemTree, fold-roll-ItemsTree, fold-roll-BlockTree}
use Rattle.opl_tree.specs.declared.instruction.ItemTree.TheViews.{roll-BlockTree}
use Rattle.opl_tree.specs.declared.model.ModelTree.{ModelTree}
use Rattle.opl_tree.specs.declared.search.LabelOp.{LabelOp}
use Rattle.opl_tree.specs.declared.search.LabelOp.TheVariants as label_ops
use Rattle.opl_tree.specs.declared.search.SearchTree.{SearchTree}
use Rattle.opl_tree.specs.declared.search.StatementTree.{StatementTree}
use Rattle.opl_tree.specs.declared.search.StatementTree.TheFolds.{fold-roll-StatementTree, fold-roll-StatementsTree, fold-roll-SearchBlockTree}
use Rattle.opl_tree.specs.declared.search.StatementTree.TheVariants as statement_trees
use Rattle.opl_tree.specs.declared.search.StatementTree.TheViews.{roll-SearchBlockTree}
use Rattle.opl_tree.specs.declared.search.StatementsTree.TheVariants as statement_lists
use Rattle.opl_type_rules.specs.declared.fault.TypeFault.TheVariants.{Duplicate}
use Rattle.opl_type_rules.specs.Types.Sort.{int, bool, index}
use Rattle.opl_type_rules.specs.Scope.{Checked, ◌>>=◌, Text, Entry, Thing, Scope, empty_scope, declared, lookup, fresh, all_fresh}
use Rattle.opl_type_rules.specs.Scope.Thing.{range, value}
use Rattle.opl_type_rules.specs.Forms.{Group, Params, SetForm, groups_of, form_add, form_and, form_expr, form_group, form_imp, form_mul, form_neg, form_or, form_params, form_post, form_prim, form_set}
use Rattle.opl_type_rules.specs.Forms.Form.{named, related}
use Rattle.opl_type_rules.specs.Forms.Groups.{no_groups, more_groups}
use Rattle.opl_type_rules.specs.Forms.Params.{all_of}
use Rattle.opl_type_rules.specs.Forms.SetForm.{whole}
use Rattle.opl_type_rules.specs.Expressions.{Opened, settled, typing, typed_set, open_groups, open_params}
use Rattle.opl_type_rules.specs.Expressions.Need.{data_alone}
use Rattle.opl_declaration_types.specs.Declarations.{decl, all_decls}
use Rattle.opl_item_types.specs.Items.{each, item, items, block}
use Rattle.opl_model_types.specs.Models.{model}
use Rattle.opl_model_types.specs.Uses.{requires_uses, item_uses, items_uses, block_uses, statement_uses, statements_uses, search_uses}
use Rattle.opl_model_types.specs.Uses.Uses.{no_uses, expression, both, behind}
use Rattle.opl_model_types.specs.Laws.{Declared, EachDeclared, HasKinds, DeclsDeclared, UsesDeclared, BlockDeclared, SearchDeclared, ModelDeclared}
use Rattle.opl_model_types.proofs.NamesInModels.{model_is_declared}
use Rattle.opl_declaration_types.proofs.Declared.{written_type-Int}
use Rattle.opl_item_types.proofs.Items.{item-ForAll, item-Constraint, items-Several}
use Rattle.opl_type_rules.proofs.Forms.{form_mul-Product, form_sign-Postfix, form_prim-Named, form_neg-Compare, form_compare-Related}

abbrev the : Text → NameTree
the text = record { at = 0; text = text }

-- ---- the forms of the trees in the models

-- a name
abbrev post_of : Text → PostTree
post_of text = roll-PostTree (record { at = 0; prim = prims.Named (the text); suffixes = [] })

abbrev add_of : Text → AddTree
add_of text = roll-AddTree (record { at = 0; first = muls.Product 0 (signs.Postfix (post_of text)) [] None; rest = [] })

form_post_of : (text : Text) → form_post (post_of text) ≡ named (the text)
unfolding form_post form_prim
form_post_of text = rw fold-roll-PostTree (form_prim-Named (the text))

form_add_of : (text : Text) → form_add (add_of text) ≡ named (the text)
unfolding form_add form_mul
form_add_of text = rw fold-roll-AddTree (form_mul-Product 0 (signs.Postfix (post_of text)) [] None ∙ form_sign-Postfix (post_of text) ∙ form_post_of text)

-- `A < B`
abbrev compare_of : Text → Text → CompareTree
compare_of a b = compares.Related 0 (add_of a) relations.Less (add_of b)

abbrev and_of : Text → Text → AndTree
and_of a b = roll-AndTree (record { at = 0; first = negs.Compare (compare_of a b); rest = [] })

abbrev or_of : Text → Text → OrTree
or_of a b = roll-OrTree (record { at = 0; first = and_of a b; rest = [] })

abbrev imp_of : Text → Text → ImpTree
imp_of a b = roll-ImpTree (record { at = 0; premise = or_of a b; conclusion = None })

abbrev less : Text → Text → ExprTree
less a b = roll-ExprTree (record { at = 0; first = imp_of a b; rest = [] })

form_and_of : (a b : Text) → form_and (and_of a b) ≡ related 0 (named (the a)) relations.Less (named (the b))
unfolding form_and form_neg
form_and_of a b =
    rw fold-roll-AndTree (form_neg-Compare (compare_of a b) ∙ form_compare-Related 0 (add_of a) relations.Less (add_of b)
    ∙ ap (λ f. related 0 f relations.Less (form_add (add_of b))) (form_add_of a) ∙ ap (related 0 (named (the a)) relations.Less) (form_add_of b))

form_or_of : (a b : Text) → form_or (or_of a b) ≡ related 0 (named (the a)) relations.Less (named (the b))
unfolding form_or form_and
form_or_of a b = rw fold-roll-OrTree (form_and_of a b)

form_imp_of : (a b : Text) → form_imp (imp_of a b) ≡ related 0 (named (the a)) relations.Less (named (the b))
unfolding form_imp form_or
form_imp_of a b = rw fold-roll-ImpTree (form_or_of a b)

form_less : (a b : Text) → form_expr (less a b) ≡ related 0 (named (the a)) relations.Less (named (the b))
unfolding form_expr form_imp
form_less a b = rw fold-roll-ExprTree (form_imp_of a b)

-- `I in R`
abbrev set_of : Text → SetTree
set_of r = roll-SetTree (record { at = 0; low = add_of r; high = None })

abbrev group_of : Text → Text → GroupTree
group_of i r = roll-GroupTree (record { at = 0; is_ordered = false; first = patterns.Single (the i); rest = []; set = set_of r })

abbrev params_of : Text → Text → ParamsTree
params_of i r = roll-ParamsTree (record { at = 0; first = group_of i r; rest = []; condition = None })

abbrev over : Text → Text → Params
over i r = all_of (more_groups (patterns.Single (the i) ∷ []) (whole (named (the r))) no_groups)

form_set_of : (r : Text) → form_set (set_of r) ≡ whole (named (the r))
unfolding form_set form_add
form_set_of r = rw fold-roll-SetTree (ap whole (form_add_of r))

form_group_of : (i r : Text) → form_group (group_of i r) ≡ record { patterns = patterns.Single (the i) ∷ []; over = whole (named (the r)) }
unfolding form_group form_set
form_group_of i r = rw fold-roll-GroupTree (ap (λ (s : SetForm). record { patterns = patterns.Single (the i) ∷ []; over = s }) (form_set_of r))

form_params_of : (i r : Text) → form_params (params_of i r) ≡ over i r
unfolding form_params form_group
form_params_of i r = rw fold-roll-ParamsTree (ap (λ (g : Group). all_of (groups_of (g ∷ []))) (form_group_of i r))

-- ---- `int k = ...; range R k..k; solve {forall (i in R) i < k};`

abbrev k_tree : DeclTree
k_tree = decls.Data (record { at = 0; kind = type_trees.Int 0; name = the (codes "k"); dims = None; initial = initials.External 0 })

abbrev range_tree : DeclTree
range_tree = decls.Range (record { at = 0; name = the (codes "R"); low = add_of (codes "k"); high = add_of (codes "k") })

abbrev decl_trees : List DeclTree
decl_trees = k_tree ∷ range_tree ∷ []

abbrev loop : ItemTree
loop = item_trees.ForAll 0 (params_of (codes "i") (codes "R")) (item_trees.Constraint (less (codes "i") (codes "k")))

abbrev block_of : ItemTree → BlockTree
block_of t = roll-BlockTree (record { at = 0; items = item_lists.Several 0 t [] false })

abbrev model_of : List DeclTree → ItemTree → ModelTree
model_of ds t = record { at = 0; decls = ds; instr = instrs.Solve 0 (block_of t); search = None }

-- what the range sees, what the item sees, and what stands behind its parameter
abbrev with_k : Scope
with_k = declared (codes "k") (value int) empty_scope

abbrev outer : Scope
outer = declared (codes "R") range with_k

abbrev inner : Scope
inner = declared (codes "i") (value int) outer

k_opens : decl 0 empty_scope k_tree ≡ Ok (record { scope = with_k; kinds = [] })
unfolding decl fresh lookup declared
k_opens = rw written_type-Int refl

decls_open : all_decls 0 empty_scope decl_trees ≡ Ok (record { scope = outer; kinds = int ∷ int ∷ [] })
unfolding decl fresh lookup declared typing settled
decls_open = rw (written_type-Int, form_add_of) refl

item_only : (t : ItemTree) (sc : Scope) → block (block_of t) sc ≡ each (item t ∷ []) sc
unfolding item items block
item_only t sc = rw fold-roll-BlockTree (items-Several 0 t [] false sc)

loop_is : (sc : Scope) → item loop sc ≡ (open_params data_alone sc (over (codes "i") (codes "R")) >>= (λ o. item (item_trees.Constraint (less (codes "i") (codes "k"))) o.scope >>= (λ rest. Ok (o.kinds ++ rest))))
loop_is sc = rw (item-ForAll, form_params_of) refl

params_open : open_params data_alone outer (over (codes "i") (codes "R")) ≡ Ok (record { scope = inner; kinds = index int ∷ [] })
unfolding open_params open_groups typed_set typing fresh all_fresh lookup declared settled
params_open = refl

body_typed : item (item_trees.Constraint (less (codes "i") (codes "k"))) inner ≡ Ok (bool ∷ int ∷ int ∷ [])
unfolding typing lookup declared settled
body_typed = item-Constraint (less (codes "i") (codes "k")) inner ∙ rw form_less refl

loop_typed : item loop outer ≡ Ok (index int ∷ bool ∷ int ∷ int ∷ [])
loop_typed = loop_is outer ∙ rw (params_open, body_typed) refl

block_typed : block (block_of loop) outer ≡ Ok (index int ∷ bool ∷ int ∷ int ∷ [])
block_typed = item_only loop outer ∙ rw loop_typed refl

has_kinds : HasKinds (model_of decl_trees loop) (int ∷ int ∷ index int ∷ bool ∷ int ∷ int ∷ [])
unfolding model
has_kinds = rw (decls_open, block_typed) refl

-- ---- what it uses

item_uses-Constraint : (t : ExprTree) → item_uses (item_trees.Constraint t) ≡ expression (form_expr t)
unfolding item_uses items_uses block_uses
item_uses-Constraint t = ap item_uses (sym (item_trees.rolls-Constraint t)) ∙ rw fold-roll-ItemTree refl

item_uses-ForAll : (at : ℕ) (params : ParamsTree) (body : ItemTree) → item_uses (item_trees.ForAll at params body) ≡ behind data_alone (form_params params) (item_uses body)
unfolding item_uses items_uses block_uses
item_uses-ForAll at params body = ap item_uses (sym (item_trees.rolls-ForAll at params body)) ∙ rw fold-roll-ItemTree refl

item_uses-Requires : (t : RequiresTree) → item_uses (item_trees.Requires t) ≡ requires_uses t
unfolding item_uses items_uses block_uses
item_uses-Requires t = ap item_uses (sym (item_trees.rolls-Requires t)) ∙ rw fold-roll-ItemTree refl

uses_only : (t : ItemTree) → block_uses (block_of t) ≡ both (item_uses t) no_uses
unfolding item_uses items_uses block_uses
uses_only t = rw fold-roll-BlockTree (ap items_uses (sym (item_lists.rolls-Several 0 t [] false)) ∙ rw fold-roll-ItemsTree refl)

uses_less : (a b : Text) → block_uses (block_of (item_trees.Constraint (less a b))) ≡ both (expression (related 0 (named (the a)) relations.Less (named (the b)))) no_uses
uses_less a b = uses_only (item_trees.Constraint (less a b)) ∙ rw (item_uses-Constraint, form_less) refl

uses_loop : block_uses (block_of loop) ≡ both (behind data_alone (over (codes "i") (codes "R")) (expression (related 0 (named (the (codes "i"))) relations.Less (named (the (codes "k")))))) no_uses
uses_loop = uses_only loop ∙ rw (item_uses-ForAll, item_uses-Constraint, form_params_of, form_less) refl

-- each name has exactly one visible declaration where it is used
record Found : Type 0 where
  k_in_range : Declared with_k (codes "k")
  range_in_item : Declared outer (codes "R")
  i_in_body : Declared inner (codes "i")
  k_in_body : Declared inner (codes "k")

is-and : {A : Type 0} (c : Checked A) (a : A) (P : A → Type 0) → c ≡ Ok a → IsOkAnd c P → P a
is-and c a P h p = subst (λ d. IsOkAnd d P) h p

comes_to : ModelDeclared (model_of decl_trees loop) → Found
comes_to d =
    let ends = (is-and (decl 0 empty_scope k_tree) (record { scope = with_k; kinds = [] }) (λ o. DeclsDeclared 1 o.scope (range_tree ∷ [])) k_opens d.0.1).0 in
    let instr = (is-and (all_decls 0 empty_scope decl_trees) (record { scope = outer; kinds = int ∷ int ∷ [] }) (λ o. BlockDeclared o.scope (block_of loop) × Unit {0}) decls_open d.1).0 in
    let names = (subst (UsesDeclared outer) uses_loop instr).0 in
    let body = is-and (open_params data_alone outer (over (codes "i") (codes "R"))) (record { scope = inner; kinds = index int ∷ [] })
    (λ o. EachDeclared o.scope (related 0 (named (the (codes "i"))) relations.Less (named (the (codes "k"))))) params_open names.1 in
    record { k_in_range = subst (EachDeclared with_k) (form_add_of (codes "k")) ends.0; range_in_item = names.0.0; i_in_body = body.0; k_in_body = body.1 }

found : Found
found = comes_to (model_is_declared (model_of decl_trees loop) (int ∷ int ∷ index int ∷ bool ∷ int ∷ int ∷ []) has_kinds)

-- ---- what it rules out

nothing_declared : (is_search : Bool) (name : Text) → Declared (record empty_scope { is_search = is_search }) name → ⊥
nothing_declared is_search name d = let e : ◌≡◌ {A = Option Entry} None (Some d.entry) = d.stands in cc

-- of two declarations of one name, neither is the only one
none_of_two : (name : Text) (a b : Thing) (sc : Scope) → Declared (declared name a (declared name b sc)) name → ⊥
unfolding declared
none_of_two name a b sc d =
    let first : ◌≡◌ {A = ℕ} 0 d.place = d.only 0 (record { name = name; thing = a }) refl refl in
    let second : ◌≡◌ {A = ℕ} 1 d.place = d.only 1 (record { name = name; thing = b }) refl refl in
    cc

-- `int k = ...; int k = ...; ..`
k_again : decl 1 with_k k_tree ≡ Err (Duplicate 0)
unfolding decl fresh lookup declared
k_again = rw written_type-Int refl

declared_twice : (t : ItemTree) → ModelDeclared (model_of (k_tree ∷ k_tree ∷ []) t) → ⊥
declared_twice t d =
    let second = is-and (decl 0 empty_scope k_tree) (record { scope = with_k; kinds = [] }) (λ o. DeclsDeclared 1 o.scope (k_tree ∷ [])) k_opens d.0.1 in
    subst (λ (c : Checked Opened). IsOkAnd c (λ o. DeclsDeclared 2 o.scope [])) k_again second.1

-- `solve {k < k};`
unknown_name : ModelDeclared (model_of [] (item_trees.Constraint (less (codes "k") (codes "k")))) → ⊥
unknown_name d =
    let block_names : UsesDeclared empty_scope (block_uses (block_of (item_trees.Constraint (less (codes "k") (codes "k"))))) = d.1.0 in
    nothing_declared false (codes "k") (subst (UsesDeclared empty_scope) (uses_less (codes "k") (codes "k")) block_names).0.0

-- `var F x; ..`
unknown_type : (t : ItemTree) → ModelDeclared (model_of (decls.Variable (record { at = 0; kind = types.Named (the (codes "F")); name = the (codes "x"); dims = None; bounds = None }) ∷ []) t) → ⊥
unknown_type t d = nothing_declared false (codes "F") d.0.0.0.declared

-- `solve {A requires u};`
unknown_resource : (a : PostTree) → ModelDeclared (model_of [] (item_trees.Requires (record { at = 0; activity = a; demand = None; resource = the (codes "u"); subscripts = None }))) → ⊥
unknown_resource a d =
    let t : RequiresTree = record { at = 0; activity = a; demand = None; resource = the (codes "u"); subscripts = None } in
    let block_names : UsesDeclared empty_scope (block_uses (block_of (item_trees.Requires t))) = d.1.0 in
    nothing_declared false (codes "u") (subst (UsesDeclared empty_scope) (uses_only (item_trees.Requires t) ∙ ap (λ u. both u no_uses) (item_uses-Requires t)) block_names).0.1.1.0

-- `search {generate(x)};`
statement_of : StatementTree → SearchTree
statement_of t = record { at = 0; block = roll-SearchBlockTree (record { at = 0; statements = statement_lists.Several 0 t [] false }) }

uses_label : (at : ℕ) (op : LabelOp) (t : PostTree) → search_uses (statement_of (statement_trees.Label at op t)).block ≡ both (expression (form_post t)) no_uses
unfolding statement_of statement_uses statements_uses search_uses
uses_label at op t =
    rw fold-roll-SearchBlockTree (ap statements_uses (sym (statement_lists.rolls-Several 0 (statement_trees.Label at op t) [] false)) ∙ rw fold-roll-StatementsTree (ap (λ u. both u no_uses) (ap statement_uses (sym (statement_trees.rolls-Label at op t)) ∙ rw fold-roll-StatementTree refl)))

unknown_label : SearchDeclared empty_scope (Some (statement_of (statement_trees.Label 0 label_ops.Generate (post_of (codes "x"))))) → ⊥
unknown_label d =
    nothing_declared true (codes "x") (subst (EachDeclared (record empty_scope { is_search = true })) (form_post_of (codes "x")) (subst (UsesDeclared (record empty_scope { is_search = true })) (uses_label 0 label_ops.Generate (post_of (codes "x"))) d).0)
