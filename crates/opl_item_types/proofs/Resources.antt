-- What may be required is the same inside parameters as outside of them, and a parameter is no resource.
use Rattle.std.proofs.Common.{◌≡◌, Bool, false, List, [], ◌∷◌, Option, None, Some, Ok, refl, ap, ◌∙◌, sym}
use Rattle.std.specs.Prelude.{◌&&◌}
use Rattle.std.specs.List.{list_all}
use Rattle.opl_tree.specs.declared.expression.AddTree.{AddTree}
use Rattle.opl_tree.specs.declared.expression.NameTree.{NameTree}
use Rattle.opl_tree.specs.declared.expression.SubscriptsTree.{SubscriptsTree}
use Rattle.opl_tree.specs.declared.instruction.RequiresTree.{RequiresTree}
use Rattle.opl_type_rules.specs.declared.kind.Ty.{Ty}
use Rattle.opl_type_rules.specs.declared.names.Local.{Local}
use Rattle.opl_type_rules.specs.declared.names.Names.{Names}
use Rattle.opl_type_rules.specs.Types.{Sort, Sorts, sort, fits}
use Rattle.opl_type_rules.specs.Types.Sort.{int, bool, enumeration, structure, row, set, empty_set, array, activity, unary, discrete, index, struct_name, anything}
use Rattle.opl_type_rules.specs.Types.Sorts.{no_sorts, more_sorts}
use Rattle.opl_type_rules.specs.Scope.{Text, Thing, Scope, lookup, declared, fields, field_sorts}
use Rattle.opl_type_rules.specs.Scope.Thing.{range, enum_type, enum_name, struct_type, value, variable, activities, resource}
use Rattle.opl_type_rules.specs.Expressions.{Node, is_data, subscripts_fit}
use Rattle.opl_item_types.specs.Items.{known, is_demanded, is_resource, is_resource_of}
use Rattle.opl_item_types.specs.Resources.{or_range}
use Rattle.opl_type_rules.specs.Values.{with_locals, scope_of, within, local_or}
use Rattle.opl_type_rules.proofs.Lookup.{visible-within, outside-within}

-- ---- parameters add no struct

sorts-declared : (name : Text) (s : Sort) (sc : Scope) → field_sorts (declared name (value s) sc) ≡ field_sorts sc
unfolding declared fields field_sorts
sorts-declared name s sc = refl

sorts-locals : (ls : List Local) (sc : Scope) → field_sorts (with_locals ls sc) ≡ field_sorts sc
sorts-locals [] sc = refl
sorts-locals (l ∷ ls) sc = sorts-locals ls (declared l.name (value (sort l.ty)) sc) ∙ sorts-declared l.name (sort l.ty) sc

sorts-within : (n : Names) (ls : List Local) → field_sorts (within n ls) ≡ field_sorts (scope_of n)
unfolding within
sorts-within n ls = sorts-locals ls (scope_of n)

-- ---- so subscripts fit alike

fit-alike : (a b : Scope) → field_sorts a ≡ field_sorts b → (wants : Sorts) (ns : List Node) → subscripts_fit a wants ns ≡ subscripts_fit b wants ns
fit-alike a b e no_sorts [] = refl
fit-alike a b e no_sorts (n ∷ ns) = refl
fit-alike a b e (more_sorts w ws) [] = refl
fit-alike a b e (more_sorts w ws) (n ∷ ns) =
    ap (λ f. fits f w n.sort && subscripts_fit a ws ns) e ∙ ap (λ x. fits (field_sorts b) w n.sort && x) (fit-alike a b e ws ns)

of-alike : (a b : Scope) → field_sorts a ≡ field_sorts b → (demand : Option AddTree) (t : Option SubscriptsTree) (ns : List Node) (s : Sort) →
    is_resource_of a demand t ns s ≡ is_resource_of b demand t ns s
of-alike a b e demand None ns s = refl
of-alike a b e demand (Some t) ns (array indices s) = ap (λ x. x && (list_all is_data ns && is_demanded demand s)) (fit-alike a b e indices ns)
of-alike a b e demand (Some t) ns int = refl
of-alike a b e demand (Some t) ns bool = refl
of-alike a b e demand (Some t) ns (enumeration k) = refl
of-alike a b e demand (Some t) ns (structure k) = refl
of-alike a b e demand (Some t) ns (row parts) = refl
of-alike a b e demand (Some t) ns (set element) = refl
of-alike a b e demand (Some t) ns empty_set = refl
of-alike a b e demand (Some t) ns activity = refl
of-alike a b e demand (Some t) ns unary = refl
of-alike a b e demand (Some t) ns discrete = refl
of-alike a b e demand (Some t) ns (index element) = refl
of-alike a b e demand (Some t) ns struct_name = refl
of-alike a b e demand (Some t) ns anything = refl

resource-alike : (a b : Scope) → field_sorts a ≡ field_sorts b → (t : RequiresTree) (ns : List Node) (thing : Thing) → is_resource a t ns thing ≡ is_resource b t ns thing
resource-alike a b e t ns (resource s) = of-alike a b e t.demand t.subscripts ns s
resource-alike a b e t ns range = refl
resource-alike a b e t ns (enum_type k) = refl
resource-alike a b e t ns (enum_name k) = refl
resource-alike a b e t ns (struct_type k fs) = refl
resource-alike a b e t ns (value s) = refl
resource-alike a b e t ns (variable s) = refl
resource-alike a b e t ns (activities s) = refl

-- ---- what is found

pub parameter-known : (n : Names) (ls : List Local) (name : NameTree) (ty : Ty) → Some ty ≡ local_or None name.text ls →
    known name (lookup (within n ls) name.text) ≡ Ok (or_range (lookup (within n ls) name.text))
parameter-known n ls name ty h =
    let e = visible-within n ls name.text ty (sym h) in
    ap (known name) e ∙ sym (ap (λ o. Ok (or_range o)) e)

pub thing-known : (n : Names) (ls : List Local) (name : NameTree) (thing : Thing) → None ≡ local_or None name.text ls → Some thing ≡ lookup (scope_of n) name.text →
    known name (lookup (within n ls) name.text) ≡ Ok (or_range (lookup (within n ls) name.text))
thing-known n ls name thing h found =
    let e : lookup (within n ls) name.text ≡ Some thing = outside-within n ls name.text (sym h) ∙ sym found in
    ap (known name) e ∙ sym (ap (λ o. Ok (or_range o)) e)

pub parameter-required : (n : Names) (ls : List Local) (t : RequiresTree) (ns : List Node) (ty : Ty) → Some ty ≡ local_or None t.resource.text ls →
    false ≡ is_resource (within n ls) t ns (or_range (lookup (within n ls) t.resource.text))
parameter-required n ls t ns ty h = sym (ap (λ o. is_resource (within n ls) t ns (or_range o)) (visible-within n ls t.resource.text ty (sym h)))

pub thing-required : (n : Names) (ls : List Local) (t : RequiresTree) (ns : List Node) (thing : Thing) (is_right : Bool) →
    None ≡ local_or None t.resource.text ls → Some thing ≡ lookup (scope_of n) t.resource.text → is_right ≡ is_resource (scope_of n) t ns thing →
    is_right ≡ is_resource (within n ls) t ns (or_range (lookup (within n ls) t.resource.text))
thing-required n ls t ns thing is_right h found right =
    let e : lookup (within n ls) t.resource.text ≡ Some thing = outside-within n ls t.resource.text (sym h) ∙ sym found in
    right ∙ sym (resource-alike (within n ls) (scope_of n) (sorts-within n ls) t ns thing) ∙ sym (ap (λ o. is_resource (within n ls) t ns (or_range o)) e)

pub none-required : (n : Names) (ls : List Local) (t : RequiresTree) (ns : List Node) → None ≡ local_or None t.resource.text ls → None ≡ lookup (scope_of n) t.resource.text →
    false ≡ is_resource (within n ls) t ns (or_range (lookup (within n ls) t.resource.text))
none-required n ls t ns h found =
    sym (ap (λ o. is_resource (within n ls) t ns (or_range o)) (outside-within n ls t.resource.text (sym h) ∙ sym found))

-- a name that is found, and what may be required
pub ruleset names_known = (parameter-known, thing-known, outside-within)

pub ruleset names_required = (parameter-required, thing-required, none-required)
