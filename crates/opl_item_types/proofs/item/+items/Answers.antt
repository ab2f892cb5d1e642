use Rattle.std.proofs.Common.{List, Ok, ap, arith, map, refl, sym, ℕ, ◌++◌, ◌∙◌, ◌≡◌}
use Rattle.std.proofs.lemmas.Result.{err_from_is_err_and}
use Rattle.opl_expression_types.specs.Values.{opened_in}
use Rattle.opl_item_types.proofs.Items.{block_kinds, each_item, err-same, for_all-adds, front-within, fronts, if-adds, item-ForAll, item_kinds, items_kinds, several-adds, sorts-behind}
use Rattle.opl_item_types.specs.Items.{item}
use Rattle.opl_tree.specs.declared.expression.ParamsTree.{ParamsTree}
use Rattle.opl_tree.specs.declared.instruction.ItemTree.{ItemTree}
use Rattle.opl_type_rules.specs.Expressions.{Opened, open_params}
use Rattle.opl_type_rules.specs.Expressions.Need.{data_alone}
use Rattle.opl_type_rules.specs.Forms.{form_params}
use Rattle.opl_type_rules.specs.Scope.{Scope, and_then}
use Rattle.opl_type_rules.specs.Steps.{front}
use Rattle.opl_type_rules.specs.Types.{Sort, sort}
use Rattle.opl_type_rules.specs.Values.{within}
use Rattle.opl_tree.specs.declared.instruction.ItemTree.TheVariants as trees
use Rattle.opl_item_types.proofs.item.+items.Goals as goal

for_all-same : (t : ItemTree) (at : ℕ) (params : ParamsTree) (body one : ItemTree) (sc inner : Scope) (ks ms : List Sort) (o : Opened) → t ≡ trees.ForAll at params body →
    open_params data_alone sc (form_params params) ≡ Ok o → ms ≡ ks ++ o.kinds → one ≡ body → inner ≡ o.scope → front ks (item t sc) ≡ front ms (item one inner)
for_all-same t at params body one sc inner ks ms o is h same this there =
    ap (λ x. front ks (item x sc)) is ∙ ap (front ks) (item-ForAll at params body sc)
    ∙ front-within ks (open_params data_alone sc (form_params params)) (item body)
    ∙ ap (λ c. and_then c (λ opened. front (ks ++ opened.kinds) (item body opened.scope))) h ∙ ap (λ ns. front ns (item body o.scope)) (sym same)
    ∙ ap (λ x. front ms (item x o.scope)) (sym this) ∙ ap (λ x. front ms (item one x)) (sym there)

pub item-returns-in_err-item-in-ForAll : goal.item-returns-in_err-item-in-ForAll
item-returns-in_err-item-in-ForAll t c =
    let opened = c.in_ok-opened-in-ForAll.opened in
    let appended : c.append.new.front ≡ c.args.kinds.now ++ opened.kinds = cc (c.in_ok-append-in-ForAll.ensures) in
    let body : c.get.result.now ≡ c.in-ForAll.body = cc (c.get.ensures) in
    let same = for_all-same c.args.t.now c.in-ForAll.field-0 c.in-ForAll.params c.in-ForAll.body c.get.result.now (within c.args.model.now c.args.locals.now)
    (within c.args.model.now opened.locals) (map sort c.args.kinds.now) (map sort c.append.new.front) (opened_in c.args.model.now opened) c.in-ForAll.is c.in_ok-opened-in-ForAll.ensures
    (sorts-behind c.args.kinds.now opened.kinds c.append.new.front appended) body refl in
    let p = err_from_is_err_and c.from_residual-in_err-item-in-ForAll.result c.from_residual-in_err-item-in-ForAll.ensures.1 in
    rw (p.1, p.2)
    (err-same (front (map sort c.args.kinds.now) (item c.args.t.now (within c.args.model.now c.args.locals.now)))
    (front (map sort c.append.new.front) (item c.get.result.now (within c.args.model.now opened.locals)))
    c.in_err-item-in-ForAll.field-0.0 same c.in_err-item-in-ForAll.ensures)

pub item-returns-in_ok-item-in-ForAll : goal.item-returns-in_ok-item-in-ForAll
item-returns-in_ok-item-in-ForAll t c =
    let opened = c.in_ok-opened-in-ForAll.opened in
    let appended : c.append.new.front ≡ c.args.kinds.now ++ opened.kinds = cc (c.in_ok-append-in-ForAll.ensures) in
    for_all-adds c.args.t.now c.in-ForAll.field-0 c.in-ForAll.params c.in-ForAll.body (within c.args.model.now c.args.locals.now) (map sort c.args.kinds.now) (map sort c.append.new.front)
    (map sort c.item.new.kinds) (opened_in c.args.model.now opened) c.in-ForAll.is c.in_ok-opened-in-ForAll.ensures (sorts-behind c.args.kinds.now opened.kinds c.append.new.front appended)
    (cc (c.in_ok-item-in-ForAll.ensures, c.get.ensures))

pub item-returns-in_ok-if_written-in-If : goal.item-returns-in_ok-if_written-in-If
item-returns-in_ok-if_written-in-If t c =
    if-adds c.args.t.now c.in-If.field-0 c.in-If.test c.in-If.holds c.in-If.fails (within c.args.model.now c.args.locals.now) (map sort c.args.kinds.now) (map sort c.condition.new.kinds)
    (map sort c.items.new.kinds) (map sort c.if_written.new.kinds) c.in-If.is c.in_ok-condition-in-If.ensures c.in_ok-items-in-If.ensures c.in_ok-if_written-in-If.ensures

pub items-returns-in_ok-others-in-Several : goal.items-returns-in_ok-others-in-Several
items-returns-in_ok-others-in-Several t c =
    several-adds c.args.t.now c.in-Several.field-0 c.in-Several.first c.in-Several.rest c.in-Several.field-3 (within c.args.model.now c.args.locals.now) (map sort c.args.kinds.now)
    (map sort c.item.new.kinds) (map sort c.others.new.kinds) c.in-Several.is (cc (c.in_ok-item-in-Several.ensures, c.get.ensures)) (cc (c.in_ok-others-in-Several.ensures, c.as_slice.ensures))

pub item-returns-in-Block : goal.item-returns-in-Block
item-returns-in-Block t c = grind (arith, item_kinds)

pub item-returns-in_err-opened-in-ForAll : goal.item-returns-in_err-opened-in-ForAll
item-returns-in_err-opened-in-ForAll t c = grind (arith, item_kinds)

pub item-returns-in_err-condition-in-If : goal.item-returns-in_err-condition-in-If
item-returns-in_err-condition-in-If t c = grind (arith, item_kinds)

pub item-returns-in_err-items-in-If : goal.item-returns-in_err-items-in-If
item-returns-in_err-items-in-If t c = grind (arith, item_kinds)

pub item-returns-in_err-if_written-in-If : goal.item-returns-in_err-if_written-in-If
item-returns-in_err-if_written-in-If t c = grind (arith, item_kinds)

pub item-returns-in-Precedes : goal.item-returns-in-Precedes
item-returns-in-Precedes t c = grind (arith, item_kinds)

pub item-returns-in-Requires : goal.item-returns-in-Requires
item-returns-in-Requires t c = grind (arith, item_kinds)

pub item-returns-in-Constraint : goal.item-returns-in-Constraint
item-returns-in-Constraint t c = grind (arith, item_kinds)

pub if_written-returns-in-None : goal.if_written-returns-in-None
if_written-returns-in-None t c = grind (arith, fronts)

pub if_written-returns-in-Some : goal.if_written-returns-in-Some
if_written-returns-in-Some t c = grind (arith, fronts)

pub items-returns-in-Empty : goal.items-returns-in-Empty
items-returns-in-Empty t c = grind (arith, items_kinds)

pub items-returns-in_err-item-in-Several : goal.items-returns-in_err-item-in-Several
items-returns-in_err-item-in-Several t c = grind (arith, items_kinds)

pub items-returns-in_err-others-in-Several : goal.items-returns-in_err-others-in-Several
items-returns-in_err-others-in-Several t c = grind (arith, items_kinds)

pub block-returns : goal.block-returns
block-returns t c = grind (arith, block_kinds)
