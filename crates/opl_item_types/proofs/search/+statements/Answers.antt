use Rattle.std.proofs.Common.{[], ap, arith, map, refl, ◌++◌, ◌∷◌, ◌≡◌}
use Rattle.std.proofs.lemmas.Result.{err_from_is_err_and}
use Rattle.opl_expression_types.specs.Values.{opened_in}
use Rattle.opl_item_types.proofs.Items.{branch-adds, branch-same, each_statement, each_statements, err-same, fronts, search_block_kinds, sorts-behind, statement_if-adds, statement_kinds, statements-adds, statements_kinds, try-adds, while-adds}
use Rattle.opl_item_types.specs.Items.{each, order, statement}
use Rattle.opl_type_rules.specs.Steps.{front}
use Rattle.opl_type_rules.specs.Types.{sort}
use Rattle.opl_type_rules.specs.Values.{within}
use Rattle.opl_item_types.proofs.search.+statements.Goals as goal

pub statement-returns-in_ok-alternatives-in-Try : goal.statement-returns-in_ok-alternatives-in-Try
statement-returns-in_ok-alternatives-in-Try t c =
    try-adds c.args.t.now c.in-Try.field-0 c.in-Try.first c.in-Try.second c.in-Try.others (within c.args.model.now c.args.locals.now) (map sort c.args.kinds.now) (map sort c.statements.new.kinds)
    (map sort c.statements-in-Try.new.kinds) (map sort c.alternatives.new.kinds) c.in-Try.is c.in_ok-statements-in-Try.ensures c.in_ok-statements-in-Try-2.ensures
    (cc (c.in_ok-alternatives-in-Try.ensures, c.as_slice.ensures))

pub statement-returns-in_ok-ordered-in-Branch : goal.statement-returns-in_ok-ordered-in-Branch
statement-returns-in_ok-ordered-in-Branch t c =
    let opened = c.in_ok-opened-in-Branch.opened in
    let appended : c.append.new.front ≡ c.args.kinds.now ++ opened.kinds = cc (c.in_ok-append-in-Branch.ensures) in
    branch-adds c.args.t.now c.in-Branch.field-0 c.in-Branch.field-1 c.in-Branch.params c.in-Branch.body (within c.args.model.now c.args.locals.now) (map sort c.args.kinds.now)
    (map sort c.append.new.front) (map sort c.ordered.new.kinds) (opened_in c.args.model.now opened) c.in-Branch.is c.in_ok-opened-in-Branch.ensures
    (sorts-behind c.args.kinds.now opened.kinds c.append.new.front appended) (cc (c.in_ok-ordered-in-Branch.ensures, c.get.ensures))

pub statement-returns-in_err-ordered-in-Branch : goal.statement-returns-in_err-ordered-in-Branch
statement-returns-in_err-ordered-in-Branch t c =
    let opened = c.in_ok-opened-in-Branch.opened in
    let appended : c.append.new.front ≡ c.args.kinds.now ++ opened.kinds = cc (c.in_ok-append-in-Branch.ensures) in
    let body : c.get.result.now ≡ c.in-Branch.body = cc (c.get.ensures) in
    let same = branch-same c.args.t.now c.in-Branch.field-0 c.in-Branch.field-1 c.in-Branch.params c.in-Branch.body c.get.result.now (within c.args.model.now c.args.locals.now)
    (within c.args.model.now opened.locals) (map sort c.args.kinds.now) (map sort c.append.new.front) (opened_in c.args.model.now opened) c.in-Branch.is c.in_ok-opened-in-Branch.ensures
    (sorts-behind c.args.kinds.now opened.kinds c.append.new.front appended) body refl in
    let p = err_from_is_err_and c.from_residual-in_err-ordered-in-Branch.result c.from_residual-in_err-ordered-in-Branch.ensures.1 in
    rw (p.1, p.2)
    (err-same (front (map sort c.args.kinds.now) (statement c.args.t.now (within c.args.model.now c.args.locals.now)))
    (front (map sort c.append.new.front) (each (order c.in-Branch.params.order ∷ statement c.get.result.now ∷ []) (within c.args.model.now opened.locals)))
    c.in_err-ordered-in-Branch.field-0.0 same c.in_err-ordered-in-Branch.ensures)

pub statement-returns-in_ok-statement-in-While : goal.statement-returns-in_ok-statement-in-While
statement-returns-in_ok-statement-in-While t c =
    while-adds c.args.t.now c.in-While.field-0 c.in-While.test c.in-While.body (within c.args.model.now c.args.locals.now) (map sort c.args.kinds.now) (map sort c.condition.new.kinds)
    (map sort c.statement-in-While.new.kinds) c.in-While.is c.in_ok-condition-in-While.ensures (cc (c.in_ok-statement-in-While.ensures, c.get-in-While.ensures))

pub statement-returns-in_ok-if_written-in-If : goal.statement-returns-in_ok-if_written-in-If
statement-returns-in_ok-if_written-in-If t c =
    statement_if-adds c.args.t.now c.in-If.field-0 c.in-If.test c.in-If.holds c.in-If.fails (within c.args.model.now c.args.locals.now) (map sort c.args.kinds.now) (map sort c.condition-in-If.new.kinds)
    (map sort c.statements-in-If.new.kinds) (map sort c.if_written.new.kinds) c.in-If.is c.in_ok-condition-in-If.ensures c.in_ok-statements-in-If.ensures c.in_ok-if_written-in-If.ensures

pub statements-returns-in_ok-others-in-Several : goal.statements-returns-in_ok-others-in-Several
statements-returns-in_ok-others-in-Several t c =
    statements-adds c.args.t.now c.in-Several.field-0 c.in-Several.first c.in-Several.rest c.in-Several.field-3 (within c.args.model.now c.args.locals.now) (map sort c.args.kinds.now)
    (map sort c.statement.new.kinds) (map sort c.others.new.kinds) c.in-Several.is (cc (c.in_ok-statement-in-Several.ensures, c.get.ensures)) (cc (c.in_ok-others-in-Several.ensures, c.as_slice.ensures))

pub statement-returns-in-Block : goal.statement-returns-in-Block
statement-returns-in-Block t c = grind (arith, statement_kinds)

pub statement-returns-in_err-statements-in-Try : goal.statement-returns-in_err-statements-in-Try
statement-returns-in_err-statements-in-Try t c = grind (arith, statement_kinds)

pub statement-returns-in_err-statements-in-Try-2 : goal.statement-returns-in_err-statements-in-Try-2
statement-returns-in_err-statements-in-Try-2 t c = grind (arith, statement_kinds)

pub statement-returns-in_err-alternatives-in-Try : goal.statement-returns-in_err-alternatives-in-Try
statement-returns-in_err-alternatives-in-Try t c = grind (arith, statement_kinds)

pub statement-returns-in_err-opened-in-Branch : goal.statement-returns-in_err-opened-in-Branch
statement-returns-in_err-opened-in-Branch t c = grind (arith, statement_kinds)

pub statement-returns-in-Once : goal.statement-returns-in-Once
statement-returns-in-Once t c = grind (arith, statement_kinds)

pub statement-returns-in_err-condition-in-While : goal.statement-returns-in_err-condition-in-While
statement-returns-in_err-condition-in-While t c = grind (arith, statement_kinds)

pub statement-returns-in_err-statement-in-While : goal.statement-returns-in_err-statement-in-While
statement-returns-in_err-statement-in-While t c = grind (arith, statement_kinds)

pub statement-returns-in_err-condition-in-If : goal.statement-returns-in_err-condition-in-If
statement-returns-in_err-condition-in-If t c = grind (arith, statement_kinds)

pub statement-returns-in_err-statements-in-If : goal.statement-returns-in_err-statements-in-If
statement-returns-in_err-statements-in-If t c = grind (arith, statement_kinds)

pub statement-returns-in_err-if_written-in-If : goal.statement-returns-in_err-if_written-in-If
statement-returns-in_err-if_written-in-If t c = grind (arith, statement_kinds)

pub statement-returns-in-Label : goal.statement-returns-in-Label
statement-returns-in-Label t c = grind (arith, statement_kinds)

pub statement-returns-in-Precedes : goal.statement-returns-in-Precedes
statement-returns-in-Precedes t c = grind (arith, statement_kinds)

pub statement-returns-in-Constraint : goal.statement-returns-in-Constraint
statement-returns-in-Constraint t c = grind (arith, statement_kinds)

pub if_written-returns-in-None : goal.if_written-returns-in-None
if_written-returns-in-None t c = grind (arith, fronts)

pub if_written-returns-in-Some : goal.if_written-returns-in-Some
if_written-returns-in-Some t c = grind (arith, fronts)

pub statements-returns-in-Empty : goal.statements-returns-in-Empty
statements-returns-in-Empty t c = grind (arith, statements_kinds)

pub statements-returns-in_err-statement-in-Several : goal.statements-returns-in_err-statement-in-Several
statements-returns-in_err-statement-in-Several t c = grind (arith, statements_kinds)

pub statements-returns-in_err-others-in-Several : goal.statements-returns-in_err-others-in-Several
statements-returns-in_err-others-in-Several t c = grind (arith, statements_kinds)

pub search_block-returns : goal.search_block-returns
search_block-returns t c = grind (arith, search_block_kinds)
