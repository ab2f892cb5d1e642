-- The types in each item and each statement, one layer at a time.
use Rattle.std.proofs.Common.{◌≡◌, ℕ, Bool, List, [], ◌∷◌, ◌++◌, map, Option, None, Some, Result, Ok, Err, refl, ap, ◌∙◌, sym, subst, append_assoc}
use Rattle.std.specs.Option.{option_map}
use Rattle.opl_tree.specs.declared.expression.ExprTree.{ExprTree}
use Rattle.opl_tree.specs.declared.expression.ParamsTree.{ParamsTree}
use Rattle.opl_tree.specs.declared.expression.PostTree.{PostTree}
use Rattle.opl_tree.specs.declared.instruction.BlockTree.{BlockTree}
use Rattle.opl_tree.specs.declared.instruction.InstrTree.{InstrTree}
use Rattle.opl_tree.specs.declared.instruction.InstrTree.TheVariants as instrs
use Rattle.opl_tree.specs.declared.instruction.Optimum.{Optimum}
use Rattle.opl_tree.specs.declared.instruction.ItemTree.{ItemTree}
use Rattle.opl_tree.specs.declared.instruction.ItemsTree.{ItemsTree}
use Rattle.opl_tree.specs.declared.instruction.RequiresTree.{RequiresTree}
use Rattle.opl_tree.specs.declared.instruction.ItemTree.TheVariants as trees
use Rattle.opl_tree.specs.declared.instruction.ItemsTree.TheVariants as lists
use Rattle.opl_tree.specs.declared.instruction.ItemTree.TheViews.{out-BlockTree, roll-BlockTree, roll-out-BlockTree}
use Rattle.opl_tree.specs.declared.instruction.ItemTree.TheFolds.{fold-roll-ItemTree, fold-roll-ItemsTree, fold-roll-BlockTree}
use Rattle.opl_tree.specs.declared.search.BranchOp.{BranchOp}
use Rattle.opl_tree.specs.declared.search.LabelOp.{LabelOp}
use Rattle.opl_tree.specs.declared.search.OrderTree.{OrderTree}
use Rattle.opl_tree.specs.declared.search.OrderedParamsTree.{OrderedParamsTree}
use Rattle.opl_tree.specs.declared.search.SearchBlockTree.{SearchBlockTree}
use Rattle.opl_tree.specs.declared.search.StatementTree.{StatementTree}
use Rattle.opl_tree.specs.declared.search.StatementsTree.{StatementsTree}
use Rattle.opl_tree.specs.declared.search.StatementTree.TheVariants as statement_trees
use Rattle.opl_tree.specs.declared.search.StatementsTree.TheVariants as statement_lists
use Rattle.opl_tree.specs.declared.search.StatementTree.TheViews.{out-SearchBlockTree, roll-SearchBlockTree, roll-out-SearchBlockTree}
use Rattle.opl_tree.specs.declared.search.StatementTree.TheFolds.{fold-roll-StatementTree, fold-roll-StatementsTree, fold-roll-SearchBlockTree}
use Rattle.opl_type_rules.specs.declared.names.Local.{Local}
use Rattle.opl_type_rules.specs.declared.names.Names.{Names}
use Rattle.opl_type_rules.specs.declared.fault.TypeFault.{TypeFault}
use Rattle.opl_type_rules.specs.declared.kind.Ty.{Ty}
use Rattle.opl_item_types.specs.Resources.{objective}
use Rattle.opl_type_rules.specs.Types.{Sort, sort, is_number}
use Rattle.opl_type_rules.specs.Scope.{Checked, and_then, Scope}
use Rattle.opl_type_rules.specs.Forms.{form_expr, form_params}
use Rattle.opl_type_rules.specs.Expressions.{Node, Need, Opened, kinds, used, typing, open_params}
use Rattle.opl_type_rules.specs.Expressions.Need.{nothing, data_alone, data_or_questions}
use Rattle.opl_item_types.specs.Items.{Looked, each, if_written, within, condition, precedes, requires, label, order, item, items, block, instr, statement, statements, search_block}
use Rattle.opl_type_rules.specs.Steps.{front}
use Rattle.opl_type_rules.specs.Values.{Gives, scope_of, within as scope_within}

-- ---- one after the other

append_nil : (ks : List Sort) → ks ++ [] ≡ ks
append_nil [] = refl
append_nil (k ∷ ks) = ap (λ ms. k ∷ ms) (append_nil ks)

pub front-none : (ks : List Sort) → front ks (Ok []) ≡ Ok ks
front-none ks = ap (λ ms. Ok ms) (append_nil ks)

-- what stands behind is behind all types before it
pub front-then : (ks : List Sort) (c d : Checked (List Sort)) →
    front ks (and_then c (λ a. and_then d (λ b. Ok (a ++ b)))) ≡ and_then (front ks c) (λ ms. front ms d)
front-then ks (Ok a) (Ok b) = ap (λ ms. Ok ms) (sym (append_assoc ks a b))
front-then ks (Ok a) (Err e) = refl
front-then ks (Err e) d = refl

behind-parameters : (ks ms : List Sort) (c : Checked (List Sort)) → front ks (and_then c (λ rest. Ok (ms ++ rest))) ≡ front (ks ++ ms) c
behind-parameters ks ms (Ok a) = ap (λ ns. Ok ns) (sym (append_assoc ks ms a))
behind-parameters ks ms (Err e) = refl

-- one more item, and one more statement, behind those before
more : (ks ms : List Sort) (c d : Checked (List Sort)) → front ks c ≡ Ok ms → front ks (and_then c (λ a. and_then d (λ b. Ok (a ++ b)))) ≡ front ms d
more ks ms c d h = front-then ks c d ∙ ap (λ x. and_then x (λ ns. front ns d)) h

pub item-more : (ks ms : List Sort) (t : ItemTree) (ts : List ItemTree) (sc : Scope) → front ks (item t sc) ≡ Ok ms →
    front ks (each (map item (t ∷ ts)) sc) ≡ front ms (each (map item ts) sc)
item-more ks ms t ts sc h = more ks ms (item t sc) (each (map item ts) sc) h

pub statement-more : (ks ms : List Sort) (t : StatementTree) (ts : List StatementTree) (sc : Scope) → front ks (statement t sc) ≡ Ok ms →
    front ks (each (map statement (t ∷ ts)) sc) ≡ front ms (each (map statement ts) sc)
statement-more ks ms t ts sc h = more ks ms (statement t sc) (each (map statement ts) sc) h

pub statements-more : (ks ms : List Sort) (t : StatementsTree) (ts : List StatementsTree) (sc : Scope) → front ks (statements t sc) ≡ Ok ms →
    front ks (each (map statements (t ∷ ts)) sc) ≡ front ms (each (map statements ts) sc)
statements-more ks ms t ts sc h = more ks ms (statements t sc) (each (map statements ts) sc) h

last-one : (ks : List Sort) (c : Checked (List Sort)) → front ks (and_then c (λ a. Ok (a ++ []))) ≡ front ks c
last-one ks (Ok a) = ap (λ ms. Ok (ks ++ ms)) (append_nil a)
last-one ks (Err e) = refl

map_append : (xs ys : List Ty) → map sort (xs ++ ys) ≡ map sort xs ++ map sort ys
map_append [] ys = refl
map_append (x ∷ xs) ys = ap (λ ss. sort x ∷ ss) (map_append xs ys)

pub sorts-behind : (xs ys zs : List Ty) → zs ≡ xs ++ ys → map sort zs ≡ map sort xs ++ map sort ys
sorts-behind xs ys zs h = ap (map sort) h ∙ map_append xs ys

-- behind what parameters have
pub front-within : (ks : List Sort) (c : Checked Opened) (inner : Looked) →
    front ks (and_then c (λ o. and_then (inner o.scope) (λ rest. Ok (o.kinds ++ rest)))) ≡ and_then c (λ o. front (ks ++ o.kinds) (inner o.scope))
front-within ks (Ok o) inner = behind-parameters ks o.kinds (inner o.scope)
front-within ks (Err e) inner = refl

opened-then : (need : Need) (params : ParamsTree) (inner : Looked) (sc : Scope) (ks ms : List Sort) (o : Opened) → open_params need sc (form_params params) ≡ Ok o → ms ≡ ks ++ o.kinds →
    front ks (within need params inner sc) ≡ front ms (inner o.scope)
opened-then need params inner sc ks ms o h same =
    front-within ks (open_params need sc (form_params params)) inner ∙ ap (λ c. and_then c (λ o. front (ks ++ o.kinds) (inner o.scope))) h ∙ ap (λ ns. front ns (inner o.scope)) (sym same)

objective-then : (ks : List Sort) (c : Checked Node) (d : Checked (List Sort)) →
    front ks (and_then c (λ n. and_then d (λ rest. Ok (kinds n ++ rest)))) ≡ and_then (front ks (and_then c (λ n. Ok (kinds n)))) (λ ms. front ms d)
objective-then ks (Ok n) d = behind-parameters ks (kinds n) d
objective-then ks (Err e) d = refl

-- two and three, one after the other
then-last : (f g : Looked) (sc : Scope) (ks ms : List Sort) → front ks (f sc) ≡ Ok ms → front ks (each (f ∷ g ∷ []) sc) ≡ front ms (g sc)
then-last f g sc ks ms h = more ks ms (f sc) (each (g ∷ []) sc) h ∙ last-one ms (g sc)

then-then-last : (f g l : Looked) (sc : Scope) (ks ms ns : List Sort) → front ks (f sc) ≡ Ok ms → front ms (g sc) ≡ Ok ns → front ks (each (f ∷ g ∷ l ∷ []) sc) ≡ front ns (l sc)
then-then-last f g l sc ks ms ns h i = more ks ms (f sc) (each (g ∷ l ∷ []) sc) h ∙ then-last g l sc ms ns i

-- outside of parameters
pub within-none : (n : Names) → scope_within n [] ≡ scope_of n
unfolding scope_within
within-none n = refl

pub within-no : (n : Names) (ls : List Local) → ls ≡ [] → scope_within n ls ≡ scope_of n
within-no n ls h = ap (scope_within n) h ∙ within-none n

pub ruleset fronts = (front-then, front-none, append_assoc)

pub ruleset each_item = (item-more, front-none)

pub ruleset each_statement = (statement-more, front-none)

pub ruleset each_statements = (statements-more, front-none)

pub ruleset outside = (within-none, within-no, front-then, front-none)

-- ---- items

item-Block-of : (inner : BlockTree) → item (trees.Block inner) ≡ block inner
unfolding item items block
item-Block-of inner = ap item (sym (trees.rolls-Block inner)) ∙ rw fold-roll-ItemTree refl

pub item-Block : (inner : BlockTree) (sc : Scope) → item (trees.Block inner) sc ≡ block inner sc
item-Block inner sc = ap (λ l. l sc) (item-Block-of inner)

item-ForAll-of : (at : ℕ) (params : ParamsTree) (body : ItemTree) → item (trees.ForAll at params body) ≡ within data_alone params (item body)
unfolding item items block
item-ForAll-of at params body = ap item (sym (trees.rolls-ForAll at params body)) ∙ rw fold-roll-ItemTree refl

pub item-ForAll : (at : ℕ) (params : ParamsTree) (body : ItemTree) (sc : Scope) → item (trees.ForAll at params body) sc ≡ within data_alone params (item body) sc
item-ForAll at params body sc = ap (λ l. l sc) (item-ForAll-of at params body)

item-If-of : (at : ℕ) (test : ExprTree) (holds : ItemsTree) (fails : Option ItemsTree) →
    item (trees.If at test holds fails) ≡ each (condition data_alone test ∷ items holds ∷ if_written (option_map items fails) ∷ [])
unfolding item items block
item-If-of at test holds None = ap item (sym (trees.rolls-If at test holds None)) ∙ rw fold-roll-ItemTree refl
item-If-of at test holds (Some fails) = ap item (sym (trees.rolls-If at test holds (Some fails))) ∙ rw fold-roll-ItemTree refl

pub item-If : (at : ℕ) (test : ExprTree) (holds : ItemsTree) (fails : Option ItemsTree) (sc : Scope) →
    item (trees.If at test holds fails) sc ≡ each (condition data_alone test ∷ items holds ∷ if_written (option_map items fails) ∷ []) sc
item-If at test holds fails sc = ap (λ l. l sc) (item-If-of at test holds fails)

item-Precedes-of : (at : ℕ) (first second : PostTree) → item (trees.Precedes at first second) ≡ precedes at first second
unfolding item items block
item-Precedes-of at first second = ap item (sym (trees.rolls-Precedes at first second)) ∙ rw fold-roll-ItemTree refl

pub item-Precedes : (at : ℕ) (first second : PostTree) (sc : Scope) → item (trees.Precedes at first second) sc ≡ precedes at first second sc
item-Precedes at first second sc = ap (λ l. l sc) (item-Precedes-of at first second)

item-Requires-of : (t : RequiresTree) → item (trees.Requires t) ≡ requires t
unfolding item items block
item-Requires-of t = ap item (sym (trees.rolls-Requires t)) ∙ rw fold-roll-ItemTree refl

pub item-Requires : (t : RequiresTree) (sc : Scope) → item (trees.Requires t) sc ≡ requires t sc
item-Requires t sc = ap (λ l. l sc) (item-Requires-of t)

item-Constraint-of : (t : ExprTree) → item (trees.Constraint t) ≡ condition nothing t
unfolding item items block
item-Constraint-of t = ap item (sym (trees.rolls-Constraint t)) ∙ rw fold-roll-ItemTree refl

pub item-Constraint : (t : ExprTree) (sc : Scope) → item (trees.Constraint t) sc ≡ condition nothing t sc
item-Constraint t sc = ap (λ l. l sc) (item-Constraint-of t)

items-Empty-of : (at : ℕ) → items (lists.Empty at) ≡ each []
unfolding item items block
items-Empty-of at = ap items (sym (lists.rolls-Empty at)) ∙ rw fold-roll-ItemsTree refl

pub items-Empty : (at : ℕ) (sc : Scope) → items (lists.Empty at) sc ≡ Ok []
items-Empty at sc = ap (λ l. l sc) (items-Empty-of at)

items-Several-of : (at : ℕ) (first : ItemTree) (rest : List ItemTree) (is_closed : Bool) → items (lists.Several at first rest is_closed) ≡ each (item first ∷ map item rest)
unfolding item items block
items-Several-of at first rest is_closed = ap items (sym (lists.rolls-Several at first rest is_closed)) ∙ rw fold-roll-ItemsTree refl

pub items-Several : (at : ℕ) (first : ItemTree) (rest : List ItemTree) (is_closed : Bool) (sc : Scope) →
    items (lists.Several at first rest is_closed) sc ≡ and_then (item first sc) (λ a. and_then (each (map item rest) sc) (λ b. Ok (a ++ b)))
items-Several at first rest is_closed sc = ap (λ l. l sc) (items-Several-of at first rest is_closed)

block-of : (at : ℕ) (inner : ItemsTree) → block (roll-BlockTree (record { at = at; items = inner })) ≡ items inner
unfolding item items block
block-of at inner = rw fold-roll-BlockTree refl

pub block-is : (t : BlockTree) (sc : Scope) → block t sc ≡ items (out-BlockTree t).items sc
block-is t sc = ap (λ l. l sc) (ap block (sym (roll-out-BlockTree t)) ∙ block-of (out-BlockTree t).at (out-BlockTree t).items)

-- what an item adds, once its parts are known
pub for_all-adds : (t : ItemTree) (at : ℕ) (params : ParamsTree) (body : ItemTree) (sc : Scope) (ks ms ns : List Sort) (o : Opened) → t ≡ trees.ForAll at params body →
    open_params data_alone sc (form_params params) ≡ Ok o → ms ≡ ks ++ o.kinds → front ms (item body o.scope) ≡ Ok ns → front ks (item t sc) ≡ Ok ns
for_all-adds t at params body sc ks ms ns o is h same g =
    ap (λ x. front ks (item x sc)) is ∙ ap (front ks) (item-ForAll at params body sc) ∙ opened-then data_alone params (item body) sc ks ms o h same ∙ g

pub if-adds : (t : ItemTree) (at : ℕ) (test : ExprTree) (holds : ItemsTree) (fails : Option ItemsTree) (sc : Scope) (ks ms ns os : List Sort) → t ≡ trees.If at test holds fails →
    front ks (condition data_alone test sc) ≡ Ok ms → front ms (items holds sc) ≡ Ok ns → front ns (if_written (option_map items fails) sc) ≡ Ok os → front ks (item t sc) ≡ Ok os
if-adds t at test holds fails sc ks ms ns os is h i g =
    ap (λ x. front ks (item x sc)) is ∙ ap (front ks) (item-If at test holds fails sc) ∙ then-then-last (condition data_alone test) (items holds) (if_written (option_map items fails)) sc ks ms ns h i ∙ g

pub several-adds : (t : ItemsTree) (at : ℕ) (first : ItemTree) (rest : List ItemTree) (is_closed : Bool) (sc : Scope) (ks ms ns : List Sort) → t ≡ lists.Several at first rest is_closed →
    front ks (item first sc) ≡ Ok ms → front ms (each (map item rest) sc) ≡ Ok ns → front ks (items t sc) ≡ Ok ns
several-adds t at first rest is_closed sc ks ms ns is h g =
    ap (λ x. front ks (items x sc)) is ∙ ap (front ks) (items-Several at first rest is_closed sc) ∙ more ks ms (item first sc) (each (map item rest) sc) h ∙ g

pub optimize-adds : (t : InstrTree) (at : ℕ) (optimum : Optimum) (goal : ExprTree) (inner : BlockTree) (sc : Scope) (ks ms ns : List Sort) → t ≡ instrs.Optimize at optimum goal inner →
    front ks (objective goal sc) ≡ Ok ms → front ms (block inner sc) ≡ Ok ns → front ks (instr t sc) ≡ Ok ns
optimize-adds t at optimum goal inner sc ks ms ns is h g =
    ap (λ x. front ks (instr x sc)) is ∙ objective-then ks (and_then (typing sc (form_expr goal)) (used nothing is_number)) (block inner sc) ∙ ap (λ c. and_then c (λ os. front os (block inner sc))) h ∙ g

pub ruleset item_kinds = (item-Block, item-ForAll, item-If, item-Precedes, item-Requires, item-Constraint, front-then, front-none, front-within)

pub ruleset items_kinds = (items-Empty, items-Several, front-then, front-none)

pub ruleset block_kinds = (block-is)

-- ---- statements

statement-Block-of : (inner : SearchBlockTree) → statement (statement_trees.Block inner) ≡ search_block inner
unfolding statement statements search_block
statement-Block-of inner = ap statement (sym (statement_trees.rolls-Block inner)) ∙ rw fold-roll-StatementTree refl

pub statement-Block : (inner : SearchBlockTree) (sc : Scope) → statement (statement_trees.Block inner) sc ≡ search_block inner sc
statement-Block inner sc = ap (λ l. l sc) (statement-Block-of inner)

statement-Try-of : (at : ℕ) (first second : StatementsTree) (others : List StatementsTree) →
    statement (statement_trees.Try at first second others) ≡ each (statements first ∷ statements second ∷ map statements others)
unfolding statement statements search_block
statement-Try-of at first second others = ap statement (sym (statement_trees.rolls-Try at first second others)) ∙ rw fold-roll-StatementTree refl

pub statement-Try : (at : ℕ) (first second : StatementsTree) (others : List StatementsTree) (sc : Scope) →
    statement (statement_trees.Try at first second others) sc ≡ each (statements first ∷ statements second ∷ map statements others) sc
statement-Try at first second others sc = ap (λ l. l sc) (statement-Try-of at first second others)

statement-Branch-of : (at : ℕ) (op : BranchOp) (params : OrderedParamsTree) (body : StatementTree) →
    statement (statement_trees.Branch at op params body) ≡ within data_or_questions params.params (each (order params.order ∷ statement body ∷ []))
unfolding statement statements search_block
statement-Branch-of at op params body = ap statement (sym (statement_trees.rolls-Branch at op params body)) ∙ rw fold-roll-StatementTree refl

pub statement-Branch : (at : ℕ) (op : BranchOp) (params : OrderedParamsTree) (body : StatementTree) (sc : Scope) →
    statement (statement_trees.Branch at op params body) sc ≡ within data_or_questions params.params (each (order params.order ∷ statement body ∷ [])) sc
statement-Branch at op params body sc = ap (λ l. l sc) (statement-Branch-of at op params body)

statement-Once-of : (at : ℕ) (body : StatementTree) → statement (statement_trees.Once at body) ≡ statement body
unfolding statement statements search_block
statement-Once-of at body = ap statement (sym (statement_trees.rolls-Once at body)) ∙ rw fold-roll-StatementTree refl

pub statement-Once : (at : ℕ) (body : StatementTree) (sc : Scope) → statement (statement_trees.Once at body) sc ≡ statement body sc
statement-Once at body sc = ap (λ l. l sc) (statement-Once-of at body)

statement-While-of : (at : ℕ) (test : ExprTree) (body : StatementTree) →
    statement (statement_trees.While at test body) ≡ each (condition data_or_questions test ∷ statement body ∷ [])
unfolding statement statements search_block
statement-While-of at test body = ap statement (sym (statement_trees.rolls-While at test body)) ∙ rw fold-roll-StatementTree refl

pub statement-While : (at : ℕ) (test : ExprTree) (body : StatementTree) (sc : Scope) →
    statement (statement_trees.While at test body) sc ≡ each (condition data_or_questions test ∷ statement body ∷ []) sc
statement-While at test body sc = ap (λ l. l sc) (statement-While-of at test body)

statement-If-of : (at : ℕ) (test : ExprTree) (holds : StatementsTree) (fails : Option StatementsTree) →
    statement (statement_trees.If at test holds fails) ≡ each (condition data_or_questions test ∷ statements holds ∷ if_written (option_map statements fails) ∷ [])
unfolding statement statements search_block
statement-If-of at test holds None = ap statement (sym (statement_trees.rolls-If at test holds None)) ∙ rw fold-roll-StatementTree refl
statement-If-of at test holds (Some fails) = ap statement (sym (statement_trees.rolls-If at test holds (Some fails))) ∙ rw fold-roll-StatementTree refl

pub statement-If : (at : ℕ) (test : ExprTree) (holds : StatementsTree) (fails : Option StatementsTree) (sc : Scope) →
    statement (statement_trees.If at test holds fails) sc ≡ each (condition data_or_questions test ∷ statements holds ∷ if_written (option_map statements fails) ∷ []) sc
statement-If at test holds fails sc = ap (λ l. l sc) (statement-If-of at test holds fails)

statement-Label-of : (at : ℕ) (op : LabelOp) (t : PostTree) → statement (statement_trees.Label at op t) ≡ label at op t
unfolding statement statements search_block
statement-Label-of at op t = ap statement (sym (statement_trees.rolls-Label at op t)) ∙ rw fold-roll-StatementTree refl

pub statement-Label : (at : ℕ) (op : LabelOp) (t : PostTree) (sc : Scope) → statement (statement_trees.Label at op t) sc ≡ label at op t sc
statement-Label at op t sc = ap (λ l. l sc) (statement-Label-of at op t)

statement-Precedes-of : (at : ℕ) (first second : PostTree) → statement (statement_trees.Precedes at first second) ≡ precedes at first second
unfolding statement statements search_block
statement-Precedes-of at first second = ap statement (sym (statement_trees.rolls-Precedes at first second)) ∙ rw fold-roll-StatementTree refl

pub statement-Precedes : (at : ℕ) (first second : PostTree) (sc : Scope) → statement (statement_trees.Precedes at first second) sc ≡ precedes at first second sc
statement-Precedes at first second sc = ap (λ l. l sc) (statement-Precedes-of at first second)

statement-Constraint-of : (t : ExprTree) → statement (statement_trees.Constraint t) ≡ condition nothing t
unfolding statement statements search_block
statement-Constraint-of t = ap statement (sym (statement_trees.rolls-Constraint t)) ∙ rw fold-roll-StatementTree refl

pub statement-Constraint : (t : ExprTree) (sc : Scope) → statement (statement_trees.Constraint t) sc ≡ condition nothing t sc
statement-Constraint t sc = ap (λ l. l sc) (statement-Constraint-of t)

statements-Empty-of : (at : ℕ) → statements (statement_lists.Empty at) ≡ each []
unfolding statement statements search_block
statements-Empty-of at = ap statements (sym (statement_lists.rolls-Empty at)) ∙ rw fold-roll-StatementsTree refl

pub statements-Empty : (at : ℕ) (sc : Scope) → statements (statement_lists.Empty at) sc ≡ Ok []
statements-Empty at sc = ap (λ l. l sc) (statements-Empty-of at)

statements-Several-of : (at : ℕ) (first : StatementTree) (rest : List StatementTree) (is_closed : Bool) → statements (statement_lists.Several at first rest is_closed) ≡ each (statement first ∷ map statement rest)
unfolding statement statements search_block
statements-Several-of at first rest is_closed = ap statements (sym (statement_lists.rolls-Several at first rest is_closed)) ∙ rw fold-roll-StatementsTree refl

pub statements-Several : (at : ℕ) (first : StatementTree) (rest : List StatementTree) (is_closed : Bool) (sc : Scope) →
    statements (statement_lists.Several at first rest is_closed) sc ≡ and_then (statement first sc) (λ a. and_then (each (map statement rest) sc) (λ b. Ok (a ++ b)))
statements-Several at first rest is_closed sc = ap (λ l. l sc) (statements-Several-of at first rest is_closed)

search_block-of : (at : ℕ) (inner : StatementsTree) → search_block (roll-SearchBlockTree (record { at = at; statements = inner })) ≡ statements inner
unfolding statement statements search_block
search_block-of at inner = rw fold-roll-SearchBlockTree refl

pub search_block-is : (t : SearchBlockTree) (sc : Scope) → search_block t sc ≡ statements (out-SearchBlockTree t).statements sc
search_block-is t sc = ap (λ l. l sc) (ap search_block (sym (roll-out-SearchBlockTree t)) ∙ search_block-of (out-SearchBlockTree t).at (out-SearchBlockTree t).statements)

-- what a statement adds, once its parts are known
pub try-adds : (t : StatementTree) (at : ℕ) (first second : StatementsTree) (others : List StatementsTree) (sc : Scope) (ks ms ns os : List Sort) → t ≡ statement_trees.Try at first second others →
    front ks (statements first sc) ≡ Ok ms → front ms (statements second sc) ≡ Ok ns → front ns (each (map statements others) sc) ≡ Ok os → front ks (statement t sc) ≡ Ok os
try-adds t at first second others sc ks ms ns os is h i g =
    ap (λ x. front ks (statement x sc)) is ∙ ap (front ks) (statement-Try at first second others sc) ∙ more ks ms (statements first sc) (each (statements second ∷ map statements others) sc) h
    ∙ more ms ns (statements second sc) (each (map statements others) sc) i ∙ g

pub branch-adds : (t : StatementTree) (at : ℕ) (op : BranchOp) (params : OrderedParamsTree) (body : StatementTree) (sc : Scope) (ks ms ns : List Sort) (o : Opened) → t ≡ statement_trees.Branch at op params body →
    open_params data_or_questions sc (form_params params.params) ≡ Ok o → ms ≡ ks ++ o.kinds → front ms (each (order params.order ∷ statement body ∷ []) o.scope) ≡ Ok ns → front ks (statement t sc) ≡ Ok ns
branch-adds t at op params body sc ks ms ns o is h same g =
    ap (λ x. front ks (statement x sc)) is ∙ ap (front ks) (statement-Branch at op params body sc)
    ∙ opened-then data_or_questions params.params (each (order params.order ∷ statement body ∷ [])) sc ks ms o h same ∙ g

-- a fault behind those before
pub err-same : (c d : Checked (List Sort)) (e : TypeFault) → c ≡ d → Gives {A = List Sort} {B = List Sort} (λ ms. ms) d (Err e) → Gives {A = List Sort} {B = List Sort} (λ ms. ms) c (Err e)
err-same c d e same h = subst (λ (x : Checked (List Sort)). Gives {A = List Sort} {B = List Sort} (λ ms. ms) x (Err e)) (sym same) h

pub branch-same : (t : StatementTree) (at : ℕ) (op : BranchOp) (params : OrderedParamsTree) (body one : StatementTree) (sc inner : Scope) (ks ms : List Sort) (o : Opened) → t ≡ statement_trees.Branch at op params body →
    open_params data_or_questions sc (form_params params.params) ≡ Ok o → ms ≡ ks ++ o.kinds → one ≡ body → inner ≡ o.scope →
    front ks (statement t sc) ≡ front ms (each (order params.order ∷ statement one ∷ []) inner)
branch-same t at op params body one sc inner ks ms o is h same this there =
    ap (λ x. front ks (statement x sc)) is ∙ ap (front ks) (statement-Branch at op params body sc)
    ∙ opened-then data_or_questions params.params (each (order params.order ∷ statement body ∷ [])) sc ks ms o h same
    ∙ ap (λ x. front ms (each (order params.order ∷ statement x ∷ []) o.scope)) (sym this) ∙ ap (λ x. front ms (each (order params.order ∷ statement one ∷ []) x)) (sym there)

pub ordered-adds : (t : Option OrderTree) (body : StatementTree) (sc : Scope) (ks ms ns : List Sort) → front ks (order t sc) ≡ Ok ms → front ms (statement body sc) ≡ Ok ns →
    front ks (each (order t ∷ statement body ∷ []) sc) ≡ Ok ns
ordered-adds t body sc ks ms ns h g = then-last (order t) (statement body) sc ks ms h ∙ g

pub while-adds : (t : StatementTree) (at : ℕ) (test : ExprTree) (body : StatementTree) (sc : Scope) (ks ms ns : List Sort) → t ≡ statement_trees.While at test body →
    front ks (condition data_or_questions test sc) ≡ Ok ms → front ms (statement body sc) ≡ Ok ns → front ks (statement t sc) ≡ Ok ns
while-adds t at test body sc ks ms ns is h g =
    ap (λ x. front ks (statement x sc)) is ∙ ap (front ks) (statement-While at test body sc) ∙ then-last (condition data_or_questions test) (statement body) sc ks ms h ∙ g

pub statement_if-adds : (t : StatementTree) (at : ℕ) (test : ExprTree) (holds : StatementsTree) (fails : Option StatementsTree) (sc : Scope) (ks ms ns os : List Sort) → t ≡ statement_trees.If at test holds fails →
    front ks (condition data_or_questions test sc) ≡ Ok ms → front ms (statements holds sc) ≡ Ok ns → front ns (if_written (option_map statements fails) sc) ≡ Ok os → front ks (statement t sc) ≡ Ok os
statement_if-adds t at test holds fails sc ks ms ns os is h i g =
    ap (λ x. front ks (statement x sc)) is ∙ ap (front ks) (statement-If at test holds fails sc)
    ∙ then-then-last (condition data_or_questions test) (statements holds) (if_written (option_map statements fails)) sc ks ms ns h i ∙ g

pub statements-adds : (t : StatementsTree) (at : ℕ) (first : StatementTree) (rest : List StatementTree) (is_closed : Bool) (sc : Scope) (ks ms ns : List Sort) → t ≡ statement_lists.Several at first rest is_closed →
    front ks (statement first sc) ≡ Ok ms → front ms (each (map statement rest) sc) ≡ Ok ns → front ks (statements t sc) ≡ Ok ns
statements-adds t at first rest is_closed sc ks ms ns is h g =
    ap (λ x. front ks (statements x sc)) is ∙ ap (front ks) (statements-Several at first rest is_closed sc) ∙ more ks ms (statement first sc) (each (map statement rest) sc) h ∙ g

pub ruleset statement_kinds = (statement-Block, statement-Try, statement-Branch, statement-Once, statement-While, statement-If, statement-Label, statement-Precedes, statement-Constraint, front-then, front-none, front-within)

pub ruleset statements_kinds = (statements-Empty, statements-Several, front-then, front-none)

pub ruleset search_block_kinds = (search_block-is)
