-- Want of memory is no fault at which the instances of a model stop.
use Rattle.std.proofs.Common.{◌≡◌, Bool, true, false, cond, List, [], ◌∷◌, ◌++◌, map, Option, None, Some, Ok, Err, sym, subst}
use Rattle.std.specs.List.{flat_map}
use Rattle.opl_tree.specs.declared.instruction.BlockTree.{BlockTree}
use Rattle.opl_tree.specs.declared.instruction.InstrTree.{InstrTree}
use Rattle.opl_tree.specs.declared.instruction.InstrTree.TheVariants as instrs
use Rattle.opl_tree.specs.declared.instruction.ItemTree.{ItemTree}
use Rattle.opl_tree.specs.declared.instruction.ItemTree.TheFolds.{fold-ItemTree, fold-ItemsTree, fold-roll-ItemTree, fold-roll-ItemsTree, fold-roll-BlockTree, ind-BlockTree, map-ItemTree, map-ItemsTree, map-BlockTree}
use Rattle.opl_tree.specs.declared.instruction.ItemTree.TheOpen.{ItemTree-F, ItemsTree-F, BlockTree-F}
use Rattle.opl_tree.specs.declared.instruction.ItemTree.TheViews.{roll-ItemTree, roll-ItemsTree, roll-BlockTree}
use Rattle.opl_tree.specs.declared.instruction.ItemsTree.{ItemsTree}
use Rattle.opl_term.specs.declared.term.ParamsTerm.{ParamsTerm}
use Rattle.opl_term.specs.declared.term.Term.{Term}
use Rattle.opl_term.specs.Terms.{expr_term, params_term}
use Rattle.opl_eval.specs.Evaluation.{Environment, Found, Group, choices, declaration_of, elements, eval, group_meaning, is_true, with_parameters}
use Rattle.opl_eval.proofs.NoMemory.{GroupsReal, IsReal, Real, real_eval, real_groups_meaning}
use Rattle.opl_draft.specs.Choices.{branched, or_stop, under_groups, where_true}
use Rattle.opl_draft.specs.Instances as instancing
use Rattle.opl_draft.specs.Instances.{Instance, Instances, block_instances, instances}
use Rattle.opl_draft.specs.Instances.Instance.{posted, stopped}

abbrev pub IsGoing : Instance → Type 0
IsGoing (posted at t ps) = Unit {0}
IsGoing (stopped fault) = IsReal fault

abbrev pub AreGoing : List Instance → Type 0
AreGoing [] = Unit {0}
AreGoing (i ∷ is) = IsGoing i × AreGoing is

abbrev Go : Instances → Type 0
Go f = (env : Environment) → AreGoing (f env)

append-going : (is js : List Instance) → AreGoing is → AreGoing js → AreGoing (is ++ js)
append-going [] js h g = g
append-going (i ∷ is) js h g = (h.0, append-going is js h.1 g)

flat-going : {A : Type 0} (f : A → List Instance) (xs : List A) → ((x : A) → AreGoing (f x)) → AreGoing (flat_map f xs)
flat-going f [] h = tt
flat-going f (x ∷ xs) h = append-going (f x) (flat_map f xs) (h x) (flat-going f xs h)

or-going : {A : Type 0} (r : Found A) (next : A → List Instance) → Real r → ((a : A) → AreGoing (next a)) → AreGoing (or_stop stopped r next)
unfolding Real
or-going (Ok a) next h g = g a
or-going (Err fault) next h g = (h, tt)

cond-going : (b : Bool) (is js : List Instance) → AreGoing is → AreGoing js → AreGoing (cond b is js)
cond-going true is js h g = h
cond-going false is js h g = g

branched-going : (c : Term) (holds fails : Instances) → Go holds → Go fails → Go (branched stopped c holds fails)
branched-going c holds fails h g env =
    or-going (eval c env) (λ v. cond (is_true v) (holds env) (fails env)) (real_eval c env) (λ v. cond-going (is_true v) (holds env) (fails env) (h env) (g env))

where-going : (c : Option Term) (inner : Instances) → Go inner → Go (where_true stopped c inner)
where-going None inner h env = h env
where-going (Some c) inner h env = branched-going c inner (λ env. []) h (λ env. tt) env

groups-going : (gs : List Group) (inner : Instances) → GroupsReal gs → Go inner → Go (under_groups stopped gs inner)
groups-going [] inner h g env = g env
groups-going (p ∷ ps) inner h g env =
    or-going (p.over.value env) (λ v. flat_map (λ qs. under_groups stopped ps inner (with_parameters qs env)) (choices p (elements (declaration_of (p.over.item env)) v))) (h.0 env)
    (λ v. flat-going (λ qs. under_groups stopped ps inner (with_parameters qs env)) (choices p (elements (declaration_of (p.over.item env)) v)) (λ qs. groups-going ps inner h.1 g (with_parameters qs env)))

-- ---- items

unfoldable item_instances : ItemTree → Instances
item_instances = fold-ItemTree Instances Instances Instances instancing.item_layer instancing.items_layer instancing.block_layer

unfoldable items_instances : ItemsTree → Instances
items_instances = fold-ItemsTree Instances Instances Instances instancing.item_layer instancing.items_layer instancing.block_layer

abbrev InItem : Type 0
InItem = (t : ItemTree) × Go (item_instances t)

abbrev InItems : Type 0
InItems = (t : ItemsTree) × Go (items_instances t)

abbrev InBlock : Type 0
InBlock = (t : BlockTree) × Go (block_instances t)

abbrev item_inner : ItemTree-F InItem InItems InBlock → ItemTree-F ItemTree ItemsTree BlockTree
item_inner = map-ItemTree InItem InItems InBlock ItemTree ItemsTree BlockTree (λ e. e.0) (λ e. e.0) (λ e. e.0)

abbrev items_inner : ItemsTree-F InItem InItems InBlock → ItemsTree-F ItemTree ItemsTree BlockTree
items_inner = map-ItemsTree InItem InItems InBlock ItemTree ItemsTree BlockTree (λ e. e.0) (λ e. e.0) (λ e. e.0)

abbrev block_inner : BlockTree-F InItem InItems InBlock → BlockTree-F ItemTree ItemsTree BlockTree
block_inner = map-BlockTree InItem InItems InBlock ItemTree ItemsTree BlockTree (λ e. e.0) (λ e. e.0) (λ e. e.0)

abbrev item_of : ItemTree-F ItemTree ItemsTree BlockTree → Instances
item_of x = instancing.item_layer (map-ItemTree ItemTree ItemsTree BlockTree Instances Instances Instances item_instances items_instances block_instances x)

abbrev items_of : ItemsTree-F ItemTree ItemsTree BlockTree → Instances
items_of x = instancing.items_layer (map-ItemsTree ItemTree ItemsTree BlockTree Instances Instances Instances item_instances items_instances block_instances x)

abbrev block_of : BlockTree-F ItemTree ItemsTree BlockTree → Instances
block_of x = instancing.block_layer (map-BlockTree ItemTree ItemsTree BlockTree Instances Instances Instances item_instances items_instances block_instances x)

item-roll : (x : ItemTree-F ItemTree ItemsTree BlockTree) → item_instances (roll-ItemTree x) ≡ item_of x
unfolding item_instances items_instances block_instances
item-roll x = fold-roll-ItemTree Instances Instances Instances instancing.item_layer instancing.items_layer instancing.block_layer x

items-roll : (x : ItemsTree-F ItemTree ItemsTree BlockTree) → items_instances (roll-ItemsTree x) ≡ items_of x
unfolding item_instances items_instances block_instances
items-roll x = fold-roll-ItemsTree Instances Instances Instances instancing.item_layer instancing.items_layer instancing.block_layer x

block-roll : (x : BlockTree-F ItemTree ItemsTree BlockTree) → block_instances (roll-BlockTree x) ≡ block_of x
unfolding item_instances items_instances block_instances
block-roll x = fold-roll-BlockTree Instances Instances Instances instancing.item_layer instancing.items_layer instancing.block_layer x

item-goes : (y : ItemTree-F InItem InItems InBlock) → Go (item_of (item_inner y))
item-goes (ItemTree-F.Block inner) env = inner.1 env
item-goes (ItemTree-F.ForAll at params body) env =
    let p : ParamsTerm = params_term params in
    groups-going (map group_meaning p.groups) (where_true stopped p.condition (item_instances body.0)) (real_groups_meaning p.groups) (where-going p.condition (item_instances body.0) body.1) env
item-goes (ItemTree-F.If at condition holds None) env = branched-going (expr_term condition) (items_instances holds.0) instancing.nothing holds.1 (λ env. tt) env
item-goes (ItemTree-F.If at condition holds (Some fails)) env = branched-going (expr_term condition) (items_instances holds.0) (items_instances fails.0) holds.1 fails.1 env
item-goes (ItemTree-F.Precedes at first second) env = tt
item-goes (ItemTree-F.Requires t) env = tt
item-goes (ItemTree-F.Constraint t) env = (tt, tt)

several-go : (es : List InItem) → Go (instancing.in_turn (map item_instances (map (λ e. e.0) es)))
several-go [] env = tt
several-go (e ∷ es) env = append-going (item_instances e.0 env) (flat_map (λ i. i env) (map item_instances (map (λ e. e.0) es))) (e.1 env) (several-go es env)

items-go : (y : ItemsTree-F InItem InItems InBlock) → Go (items_of (items_inner y))
items-go (ItemsTree-F.Empty at) env = tt
items-go (ItemsTree-F.Several at first rest is_closed) env = several-go (first ∷ rest) env

block-goes : (y : BlockTree-F InItem InItems InBlock) → Go (block_of (block_inner y))
block-goes y env = y.items.1 env

blocks-go : (t : BlockTree) → Go (block_instances t)
blocks-go = ind-BlockTree (λ t. Go (item_instances t)) (λ t. Go (items_instances t)) (λ t. Go (block_instances t))
    (λ x y is. subst Go (sym (item-roll x)) (subst (λ z. Go (item_of z)) is (item-goes y)))
    (λ x y is. subst Go (sym (items-roll x)) (subst (λ z. Go (items_of z)) is (items-go y)))
    (λ x y is. subst Go (sym (block-roll x)) (subst (λ z. Go (block_of z)) is (block-goes y)))

pub instances-go : (t : InstrTree) (env : Environment) → AreGoing (instances t env)
instances-go (instrs.Solve at block) env = blocks-go block env
instances-go (instrs.Optimize at optimum objective block) env = blocks-go block env
