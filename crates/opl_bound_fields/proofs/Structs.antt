-- The structs that a scope knows are those that were declared.
use Rattle.std.proofs.Common.{◌≡◌, ℕ, ◌+◌, Bool, true, false, cond, List, [], ◌∷◌, map, Some, refl, sym, ap, subst, ◌∙◌}
use Rattle.std.specs.Prelude.{bytes_eq, nat_eq}
use Rattle.std.specs.List.{slice_get}
use Rattle.opl_tree.specs.declared.declaration.DeclTree.{DeclTree}
use Rattle.opl_tree.specs.declared.declaration.DeclTree.TheVariants as decls
use Rattle.opl_tree.specs.declared.declaration.FieldTree.{FieldTree}
use Rattle.opl_tree.specs.declared.declaration.ScheduleEnd.{ScheduleEnd}
use Rattle.opl_tree.specs.declared.declaration.ScheduleEnd.TheVariants as ends
use Rattle.opl_tree.specs.declared.expression.NameTree.{NameTree}
use Rattle.opl_tree.specs.declared.expression.PatternTree.{PatternTree}
use Rattle.opl_tree.specs.declared.expression.PatternTree.TheVariants as patterns
use Rattle.opl_type_rules.specs.Types.{Sort}
use Rattle.opl_type_rules.specs.Scope.{Field, Scope, Text, Thing, declared, field_sort, fields, with_values}
use Rattle.opl_type_rules.specs.Scope.Thing.{range, enum_type, enum_name, struct_type, value, variable, activities, resource}
use Rattle.opl_type_rules.specs.Forms.{Groups, Params}
use Rattle.opl_type_rules.specs.Forms.Groups.{no_groups, more_groups}
use Rattle.opl_type_rules.specs.Forms.Params.{all_of, those_of}
use Rattle.opl_type_rules.specs.Expressions.Need.{data_alone}
use Rattle.opl_declaration_types.specs.Declarations.{enum_names, given as with_end, with_names}
use Rattle.opl_typed.specs.Relation.{AllName, GroupsOpen, Names, Opens}
use Rattle.opl_typed_model.specs.Declares.{Declares, HaveFields}
use Rattle.opl_typed_values.specs.Positions.{place_from}
use Rattle.opl_bound_values.proofs.KnownTypes.{same-number}
use Rattle.opl_fields.specs.Structs.{field_name, field_names, names_of, position, position_from}

-- ---- scopes in which no struct is new

plain-stays : (sc : Scope) (name : Text) (thing : Thing) → ((k : ℕ) (fs : List Field) → thing ≡ struct_type k fs → ⊥) → fields (declared name thing sc) ≡ fields sc
unfolding fields declared
plain-stays sc name range h = refl
plain-stays sc name (enum_type k) h = refl
plain-stays sc name (enum_name k) h = refl
plain-stays sc name (struct_type k fs) h = absurd (h k fs refl)
plain-stays sc name (value s) h = refl
plain-stays sc name (variable s) h = refl
plain-stays sc name (activities s) h = refl
plain-stays sc name (resource s) h = refl

values-stay : (ns : List NameTree) (ss : List Sort) (sc : Scope) → fields (with_values ns ss sc) ≡ fields sc
values-stay [] ss sc = refl
values-stay (n ∷ ns) [] sc = refl
values-stay (n ∷ ns) (s ∷ ss) sc = values-stay ns ss (declared n.text (value s) sc) ∙ plain-stays sc n.text (value s) (λ k fs e. cc)

pattern-stays : (p : PatternTree) (sc inner : Scope) (s : Sort) → Names sc s p inner → fields inner ≡ fields sc
pattern-stays (patterns.Single name) sc inner s n = ap fields n ∙ plain-stays sc name.text (value s) (λ k fs e. cc)
pattern-stays (patterns.Record at first rest) sc inner s n = ap fields n.2 ∙ values-stay (first ∷ rest) n.0 sc

pub patterns-stay : (ps : List PatternTree) (sc inner : Scope) (s : Sort) → AllName sc s ps inner → fields inner ≡ fields sc
patterns-stay [] sc inner s n = ap fields n
patterns-stay (p ∷ ps) sc inner s n = patterns-stay ps n.0 inner s n.2 ∙ pattern-stays p sc n.0 s n.1

groups-stay : (gs : Groups) (sc inner : Scope) → GroupsOpen sc gs inner → fields inner ≡ fields sc
groups-stay no_groups sc inner o = ap fields o
groups-stay (more_groups ps over others) sc inner o = groups-stay others o.1 inner o.5 ∙ patterns-stay ps sc o.1 o.0 o.4

pub params-stay : (p : Params) (sc inner : Scope) → Opens data_alone sc p inner → fields inner ≡ fields sc
params-stay (all_of gs) sc inner o = groups-stay gs sc inner o
params-stay (those_of gs c) sc inner o = groups-stay gs sc inner o.1

names-stay : (k : ℕ) (ns : List NameTree) (sc : Scope) → fields (with_names k ns sc) ≡ fields sc
names-stay k [] sc = refl
names-stay k (n ∷ ns) sc = names-stay k ns (declared n.text (enum_name k) sc) ∙ plain-stays sc n.text (enum_name k) (λ l fs e. cc)

ends-stay : (e : ScheduleEnd) (sc : Scope) → fields (with_end e sc) ≡ fields sc
unfolding fields
ends-stay ends.Origin sc = refl
ends-stay ends.Horizon sc = refl

pub dims-stay : (ns : List NameTree) (ss : List Sort) (sc inner : Scope) → inner ≡ with_values ns ss sc → fields inner ≡ fields sc
dims-stay ns ss sc inner e = ap fields e ∙ values-stay ns ss sc

-- ---- structs and their declarations

-- a struct with a field has the names of the fields of its declaration
abbrev pub StructsAre : List DeclTree → Scope → Type 0
StructsAre ds sc = (k : ℕ) (name : Text) (s : Sort) → field_sort name (fields sc k) ≡ Some s → field_names ds k ≡ map (λ (f : Field). f.name) (fields sc k)

pub same-structs : (ds : List DeclTree) (sc inner : Scope) → fields inner ≡ fields sc → StructsAre ds sc → StructsAre ds inner
same-structs ds sc inner e h = subst (λ (g : ℕ → List Field). (k : ℕ) (name : Text) (s : Sort) → field_sort name (g k) ≡ Some s → field_names ds k ≡ map (λ (f : Field). f.name) (g k)) (sym e) h

same-place : (name : Text) (p : ℕ) (fs : List Field) → position_from p name (map (λ (f : Field). f.name) fs) ≡ place_from p name fs
same-place name p [] = refl
same-place name p (f ∷ fs) = ap (cond (bytes_eq name f.name) (Some p)) (same-place name (p + 1) fs)

place-sort : (name : Text) (p q : ℕ) (fs : List Field) → place_from p name fs ≡ Some q → (s : Sort) × (field_sort name fs ≡ Some s)
place-sort name p q [] e = absurd (cc)
place-sort name p q (f ∷ fs) e = by (bytes_eq name f.name) e (λ d. place-sort name (p + 1) q fs d)
  where
    by : (b : Bool) → cond b (Some p) (place_from (p + 1) name fs) ≡ Some q → (place_from (p + 1) name fs ≡ Some q → (s : Sort) × (field_sort name fs ≡ Some s)) → (s : Sort) × (cond b (Some f.sort) (field_sort name fs) ≡ Some s)
    by true d more = (f.sort, refl)
    by false d more = more d

-- so the place of a field is its position
pub place-is : (ds : List DeclTree) (sc : Scope) (k : ℕ) (name : Text) (p : ℕ) → StructsAre ds sc → place_from 0 name (fields sc k) ≡ Some p → position ds k name ≡ Some p
unfolding position
place-is ds sc k name p h e =
    let s = place-sort name 0 p (fields sc k) e in
    ap (position_from 0 name) (h k name s.0 s.1) ∙ same-place name 0 (fields sc k) ∙ e

-- ---- one more declaration

names-of-fields : (sc : Scope) (ts : List FieldTree) (fs : List Field) → HaveFields sc ts fs → map (λ (f : Field). f.name) fs ≡ map field_name ts
names-of-fields sc [] fs h = ap (map (λ (f : Field). f.name)) h
names-of-fields sc (t ∷ ts) fs h = ap (map (λ (f : Field). f.name)) h.4 ∙ ap (λ (ns : List Text). t.name.text ∷ ns) (names-of-fields sc ts h.1 h.3)

struct-fields : (sc : Scope) (name : Text) (k : ℕ) (fs : List Field) (j : ℕ) → fields (declared name (struct_type k fs) sc) j ≡ cond (nat_eq j k) fs (fields sc j)
unfolding fields declared
struct-fields sc name k fs j = refl

pub decl-structs : (ds : List DeclTree) (k : ℕ) (sc : Scope) (t : DeclTree) (behind : Scope) → slice_get ds k ≡ Some t → StructsAre ds sc → Declares k sc t behind → StructsAre ds behind
unfolding field_names
decl-structs ds k sc (decls.Data t) behind at h d = same-structs ds sc behind (ap fields d.7 ∙ plain-stays sc t.name.text _ (λ l fs e. cc)) h
decl-structs ds k sc (decls.Range t) behind at h d = same-structs ds sc behind (ap fields d.3 ∙ plain-stays sc t.name.text range (λ l fs e. cc)) h
decl-structs ds k sc (decls.Enumeration t) behind at h d = same-structs ds sc behind (ap fields d.1 ∙ names-stay k (enum_names t.names) (declared t.name.text (enum_type k) sc) ∙ plain-stays sc t.name.text (enum_type k) (λ l fs e. cc)) h
decl-structs ds k sc (decls.Variable t) behind at h d = same-structs ds sc behind (ap fields d.6 ∙ plain-stays sc t.name.text _ (λ l fs e. cc)) h
decl-structs ds k sc (decls.Activity t) behind at h d = same-structs ds sc behind (ap fields d.6 ∙ plain-stays sc t.name.text _ (λ l fs e. cc)) h
decl-structs ds k sc (decls.Unary t) behind at h d = same-structs ds sc behind (ap fields d.4 ∙ plain-stays sc t.name.text _ (λ l fs e. cc)) h
decl-structs ds k sc (decls.Discrete t) behind at h d = same-structs ds sc behind (ap fields d.5 ∙ plain-stays sc t.name.text _ (λ l fs e. cc)) h
decl-structs ds k sc (decls.Schedule t) behind at h d = same-structs ds sc behind (ap fields d.2 ∙ ends-stay t.end sc) h
decl-structs ds k sc (decls.Structure t) behind at h d = subst (StructsAre ds) (sym d.4) here
  where
    own : field_names ds k ≡ map (λ (f : Field). f.name) d.0
    own = ap names_of at ∙ sym (names-of-fields sc (t.first ∷ t.rest) d.0 d.3)

    by : (b : Bool) (j : ℕ) (name : Text) (s : Sort) → nat_eq j k ≡ b → field_sort name (cond b d.0 (fields sc j)) ≡ Some s → field_names ds j ≡ map (λ (f : Field). f.name) (cond b d.0 (fields sc j))
    by true j name s e g = ap (field_names ds) (same-number j k e) ∙ own
    by false j name s e g = h j name s g

    here : StructsAre ds (declared t.name.text (struct_type k d.0) sc)
    here j name s g =
        let x = struct-fields sc t.name.text k d.0 j in
        by (nat_eq j k) j name s refl (sym (ap (field_sort name) x) ∙ g) ∙ sym (ap (map (λ (f : Field). f.name)) x)
