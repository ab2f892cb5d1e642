-- Declarations have names that nothing visible has, each once.
use Rattle.std.proofs.Common.{◌≡◌, ℕ, not, List, [], ◌∷◌, ◌++◌, length, Option, None, Some, Ok, refl, ap, ◌∙◌, sym, subst, arith}
use Rattle.opl_tree.specs.declared.declaration.DeclTree.{DeclTree}
use Rattle.opl_tree.specs.declared.declaration.DeclTree.TheVariants as decls
use Rattle.opl_tree.specs.declared.declaration.DimTree.{DimTree}
use Rattle.opl_tree.specs.declared.declaration.DimsTree.{DimsTree}
use Rattle.opl_tree.specs.declared.declaration.ScheduleEnd.{ScheduleEnd}
use Rattle.opl_tree.specs.declared.declaration.ScheduleEnd.TheVariants as ends
use Rattle.opl_tree.specs.declared.expression.NameTree.{NameTree}
use Rattle.opl_type_rules.specs.declared.fault.TypeFault.TheVariants.{Duplicate, Mismatch}
use Rattle.opl_type_rules.specs.Types.{Sort, is_set}
use Rattle.opl_type_rules.specs.Types.Sort.{anything, activity, unary, discrete}
use Rattle.opl_type_rules.specs.Scope.{Checked, and_then, unless, Scope, Thing, empty_scope, declared, fresh, all_fresh, with_values}
use Rattle.opl_type_rules.specs.Scope.Thing.{range, value, enum_type, enum_name, struct_type, variable, activities, resource}
use Rattle.opl_type_rules.specs.Forms.{form_set}
use Rattle.opl_type_rules.specs.Expressions.{Opened, kinds_in, or_anything, typed_set}
use Rattle.opl_type_rules.specs.Expressions.Need.{data_alone}
use Rattle.opl_expression_types.specs.Numbers.{number_kinds, maybe_number}
use Rattle.opl_declaration_types.specs.Declarations.{Dimensions, no_dimensions, fresh_in, with_dimension, dimensions, all_dims, Shape, shape, shaped, written_type, initial_kinds, cell_indices, makes, enum_names, with_names, field_list, variable_type, bounds_kinds, is_decidable, is_given, given, next, decl, all_decls}
use Rattle.opl_model_types.specs.Laws.{IsDeclaredOnce, DeclsDeclareOnce, DimsDeclareOnce}
use Rattle.opl_model_types.proofs.Once.{Once, names_of, pushed, names-declared, names-values, fresh-once, all_fresh-once, unit-ok, went, same_scope, same_opened, declared_once, once_declared}

same_dimensions : (a b : Dimensions) → ◌≡◌ {A = Checked Dimensions} (Ok a) (Ok b) → a ≡ b
same_dimensions a b h = cc

same_shape : (a b : Shape) → ◌≡◌ {A = Checked Shape} (Ok a) (Ok b) → a ≡ b
same_shape a b h = cc

-- ---- dimensions

-- their names can be taken behind those before, and each has a type
record Named (before : Scope) (d : Dimensions) : Type 0 where
  once : Once (pushed d.names (names_of before))
  even : length d.names ≡ length d.named

dim-named : (name : Option NameTree) (before more : Scope) (s : Sort) (ks : List Sort) (rest : Dimensions) → fresh_in before name ≡ Ok more → Once (names_of before) →
    (Once (names_of more) → Named more rest) → Named before (with_dimension name s ks rest)
dim-named None before more s ks rest h once below =
    let same : before ≡ more = same_scope before more h in
    let inner = below (subst (λ (sc : Scope). Once (names_of sc)) same once) in
    record { once = subst (λ (sc : Scope). Once (pushed rest.names (names_of sc))) (sym same) inner.once; even = inner.even }
dim-named (Some name) before more s ks rest h once below =
    let w = went (fresh before name) (λ u. Ok (declared name.text (value anything) before)) more h in
    let same : names_of more ≡ name.text ∷ names_of before = ap names_of (sym (same_scope (declared name.text (value anything) before) more w.2)) ∙ names-declared name.text (value anything) before in
    let inner = below (subst Once (sym same) (fresh-once before name (unit-ok _ w.0 w.1) once)) in
    record { once = subst (λ ts. Once (pushed rest.names ts)) same inner.once; even = (let e = inner.even in omega arith) }

same-named : (before : Scope) (a d : Dimensions) → ◌≡◌ {A = Checked Dimensions} (Ok a) (Ok d) → Named before a → Named before d
same-named before a d h = subst (Named before) (same_dimensions a d h)

dims-named : (ds : List DimTree) (sc before : Scope) (d : Dimensions) → dimensions sc before ds ≡ Ok d → Once (names_of before) → Named before d
dims-named [] sc before d h once = subst (Named before) (same_dimensions no_dimensions d h) (record { once = once; even = refl })
dims-named (x ∷ xs) sc before d h once =
    let w = went (fresh_in before x.name) (λ more. and_then (typed_set data_alone is_set sc (form_set x.set)) (λ over. and_then (dimensions sc more xs) (λ rest. Ok (with_dimension x.name (or_anything over.element) (kinds_in over.nodes) rest)))) d h in
    let y = went (typed_set data_alone is_set sc (form_set x.set)) (λ over. and_then (dimensions sc w.0 xs) (λ rest. Ok (with_dimension x.name (or_anything over.element) (kinds_in over.nodes) rest))) d w.2 in
    let z = went (dimensions sc w.0 xs) (λ rest. Ok (with_dimension x.name (or_anything y.0.element) (kinds_in y.0.nodes) rest)) d y.2 in
    same-named before (with_dimension x.name (or_anything y.0.element) (kinds_in y.0.nodes) z.0) d z.2
    (dim-named x.name before w.0 (or_anything y.0.element) (kinds_in y.0.nodes) z.0 w.1 once (λ o. dims-named xs sc w.0 z.0 z.1 o))

shape-once : (sc : Scope) (dims : Option DimsTree) (s : Shape) → shape sc dims ≡ Ok s → Once (names_of sc) → Once (names_of s.inner)
shape-once sc dims s h once =
    let w = went (dimensions sc sc (all_dims dims)) (λ d. Ok (record { dims = d; inner = with_values d.names d.named sc })) s h in
    let named = dims-named (all_dims dims) sc sc w.0 w.1 once in
    let inner : Once (names_of (with_values w.0.names w.0.named sc)) = subst Once (sym (names-values w.0.names w.0.named sc named.even)) named.once in
    subst (λ (x : Shape). Once (names_of x.inner)) (same_shape (record { dims = w.0; inner = with_values w.0.names w.0.named sc }) s w.2) inner

pub dims_declare_once : DimsDeclareOnce
dims_declare_once sc dims s h e = declared_once s.inner (shape-once sc dims s e (once_declared sc h))

-- ---- declarations

record Keeps (sc : Scope) (c : Checked Opened) : Type 0 where
  kept : (o : Opened) → c ≡ Ok o → Once (names_of sc) → Once (names_of o.scope)

after : {A : Type 0} (sc : Scope) (c : Checked A) (f : A → Checked Opened) → ((a : A) → c ≡ Ok a → Keeps sc (f a)) → Keeps sc (and_then c f)
after sc c f h = record { kept = λ o e once. let w = went c f o e in (h w.0 w.1).kept o w.2 once }

made : (sc : Scope) (name : NameTree) (thing : Thing) (ks : List Sort) → fresh sc name ≡ Ok tt → Keeps sc (makes sc name thing ks)
made sc name thing ks f = record {
  kept = λ o e once.
      subst (λ (x : Opened). Once (names_of x.scope)) (same_opened (record { scope = declared name.text thing sc; kinds = ks }) o e) (subst Once (sym (names-declared name.text thing sc)) (fresh-once sc name f once));
}

names-enum : (k : ℕ) (ns : List NameTree) (sc : Scope) → names_of (with_names k ns sc) ≡ pushed ns (names_of sc)
names-enum k [] sc = refl
names-enum k (n ∷ ns) sc = names-enum k ns (declared n.text (enum_name k) sc) ∙ ap (pushed ns) (names-declared n.text (enum_name k) sc)

enum-made : (k : ℕ) (sc : Scope) (name : NameTree) (ns : List NameTree) → all_fresh sc (name ∷ ns) ≡ Ok tt →
    Keeps sc (Ok (record { scope = with_names k ns (declared name.text (enum_type k) sc); kinds = [] }))
enum-made k sc name ns f = record {
  kept = λ o e once.
      subst (λ (x : Opened). Once (names_of x.scope)) (same_opened (record { scope = with_names k ns (declared name.text (enum_type k) sc); kinds = [] }) o e)
      (subst Once (sym (names-enum k ns (declared name.text (enum_type k) sc) ∙ ap (pushed ns) (names-declared name.text (enum_type k) sc))) (all_fresh-once (name ∷ ns) sc f once));
}

given-names : (end : ScheduleEnd) (sc : Scope) → names_of (given end sc) ≡ names_of sc
given-names ends.Origin sc = refl
given-names ends.Horizon sc = refl

given-made : (end : ScheduleEnd) (sc : Scope) (ks : List Sort) → Keeps sc (Ok (record { scope = given end sc; kinds = ks }))
given-made end sc ks = record {
  kept = λ o e once. subst (λ (x : Opened). Once (names_of x.scope)) (same_opened (record { scope = given end sc; kinds = ks }) o e) (subst Once (sym (given-names end sc)) once);
}

decl-keeps : (k : ℕ) (sc : Scope) (d : DeclTree) → Keeps sc (decl k sc d)
unfolding decl
decl-keeps k sc (decls.Data t) =
    after sc (written_type t.kind sc) _ (λ s _. after sc (fresh sc t.name) _ (λ u f. after sc (shape sc t.dims) _ (λ d _.
    after sc (initial_kinds d.inner s (cell_indices d.dims) t.initial) _ (λ ks _. made sc t.name (value (shaped d.dims.indices s)) (d.dims.kinds ++ ks) (unit-ok (fresh sc t.name) u f)))))
decl-keeps k sc (decls.Range t) =
    after sc (fresh sc t.name) _ (λ u f. after sc (number_kinds sc t.low) _ (λ low _. after sc (number_kinds sc t.high) _ (λ high _.
    made sc t.name range (low ++ high) (unit-ok (fresh sc t.name) u f))))
decl-keeps k sc (decls.Enumeration t) =
    after sc (all_fresh sc (t.name ∷ enum_names t.names)) _ (λ u f. enum-made k sc t.name (enum_names t.names) (unit-ok (all_fresh sc (t.name ∷ enum_names t.names)) u f))
decl-keeps k sc (decls.Structure t) =
    after sc (fresh sc t.name) _ (λ u f. after sc (field_list sc empty_scope (t.first ∷ t.rest)) _ (λ fs _. made sc t.name (struct_type k fs) [] (unit-ok (fresh sc t.name) u f)))
decl-keeps k sc (decls.Variable t) =
    after sc (variable_type sc t.kind) _ (λ s _. after sc (fresh sc t.name) _ (λ u f. after sc (shape sc t.dims) _ (λ d _. after sc (bounds_kinds d.inner t.bounds) _ (λ ks _.
    after sc (unless (is_decidable t.kind t.bounds s) (Mismatch t.at)) _ (λ v _. made sc t.name (variable (shaped d.dims.indices s)) (d.dims.kinds ++ ks) (unit-ok (fresh sc t.name) u f))))))
decl-keeps k sc (decls.Activity t) =
    after sc (fresh sc t.name) _ (λ u f. after sc (shape sc t.dims) _ (λ d _. after sc (number_kinds d.inner t.shortest) _ (λ short _. after sc (maybe_number d.inner t.longest) _ (λ long _.
    made sc t.name (activities (shaped d.dims.indices activity)) (d.dims.kinds ++ (short ++ long)) (unit-ok (fresh sc t.name) u f)))))
decl-keeps k sc (decls.Unary t) =
    after sc (fresh sc t.name) _ (λ u f. after sc (shape sc t.dims) _ (λ d _. made sc t.name (resource (shaped d.dims.indices unary)) d.dims.kinds (unit-ok (fresh sc t.name) u f)))
decl-keeps k sc (decls.Discrete t) =
    after sc (fresh sc t.name) _ (λ u f. after sc (shape sc t.dims) _ (λ d _. after sc (number_kinds d.inner t.capacity) _ (λ ks _.
    made sc t.name (resource (shaped d.dims.indices discrete)) (d.dims.kinds ++ ks) (unit-ok (fresh sc t.name) u f))))
decl-keeps k sc (decls.Schedule t) =
    after sc (number_kinds sc t.value) _ (λ ks _. after sc (unless (not (is_given t.end sc)) (Duplicate t.at)) _ (λ v _. given-made t.end sc ks))

-- a declaration keeps each visible name's declaration the only one
pub decl-once : (k : ℕ) (sc : Scope) (d : DeclTree) (o : Opened) → IsDeclaredOnce sc → decl k sc d ≡ Ok o → IsDeclaredOnce o.scope
decl-once k sc d o once h = declared_once o.scope ((decl-keeps k sc d).kept o h (once_declared sc once))

decls-once : (ds : List DeclTree) (k : ℕ) (sc : Scope) (o : Opened) → all_decls k sc ds ≡ Ok o → Once (names_of sc) → Once (names_of o.scope)
decls-once [] k sc o h once = subst (λ (x : Opened). Once (names_of x.scope)) (same_opened (record { scope = sc; kinds = [] }) o h) once
decls-once (d ∷ ds) k sc o h once =
    let w = went (decl k sc d) (λ first. and_then (all_decls (next k) first.scope ds) (λ rest. Ok (record { scope = rest.scope; kinds = first.kinds ++ rest.kinds }))) o h in
    let x = went (all_decls (next k) w.0.scope ds) (λ rest. Ok (record { scope = rest.scope; kinds = w.0.kinds ++ rest.kinds })) o w.2 in
    let inner : Once (names_of w.0.scope) = (decl-keeps k sc d).kept w.0 w.1 once in
    subst (λ (s : Scope). Once (names_of s)) (ap (λ (v : Opened). v.scope) (same_opened (record { scope = x.0.scope; kinds = w.0.kinds ++ x.0.kinds }) o x.2)) (decls-once ds (next k) w.0.scope x.0 x.1 inner)

pub decls_declare_once : DeclsDeclareOnce
decls_declare_once ds o h = declared_once o.scope (decls-once ds 0 empty_scope o h tt)
