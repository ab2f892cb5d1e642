-- The structs that declarations make visible have the fields that stand at the declarations with their numbers.
use Rattle.std.proofs.Common.{◌≡◌, ℕ, suc, ◌+◌, ◌^◌, ◌<◌, Bool, true, false, cond, not, List, [], ◌∷◌, ◌++◌, map, length, Some, Ok, refl, ap, sym, subst, ◌∙◌, append_assoc, length-append, arith}
use Rattle.std.specs.Prelude.{nat_eq}
use Rattle.std.proofs.lemmas.Bool.{eqb-true}
use Rattle.std.specs.List.{slice_get}
use Rattle.std.specs.Str.{bytes_eq}
use Rattle.opl_tree.specs.declared.declaration.DeclTree.{DeclTree}
use Rattle.opl_tree.specs.declared.declaration.DeclTree.TheVariants as decls
use Rattle.opl_tree.specs.declared.declaration.FieldTree.{FieldTree}
use Rattle.opl_tree.specs.declared.declaration.ScheduleEnd.{ScheduleEnd}
use Rattle.opl_tree.specs.declared.declaration.ScheduleEnd.TheVariants as ends
use Rattle.opl_tree.specs.declared.expression.NameTree.{NameTree}
use Rattle.opl_type_rules.specs.declared.fault.TypeFault.TheVariants.{Duplicate, Mismatch}
use Rattle.opl_type_rules.specs.Types.{Sort}
use Rattle.opl_type_rules.specs.Types.Sort.{anything}
use Rattle.opl_type_rules.specs.Scope.{Scope, Thing, Field, Entry, declared, fresh, all_fresh, empty_scope, fields_or, fields_among, fields, field_sort}
use Rattle.opl_type_rules.specs.Scope.Thing.{enum_type, enum_name, struct_type, value}
use Rattle.opl_type_rules.specs.Expressions.{Opened}
use Rattle.opl_model_types.specs.Declarations.{shape, written_type, cell_indices, initial_kinds, number_kinds, maybe_number, bounds_kinds, variable_type, is_decidable, field_list, enum_names, with_names, is_given, given, decl, next, all_decls}
use Rattle.opl_fields.specs.Structs.{field_name, names_of, field_names, position_from, position}
use Rattle.opl_fields.specs.Laws.{FieldsHavePositions}
use Rattle.opl_fields.proofs.Taken.{went, unless-then, same}

abbrev name_of : Field → List ℕ
name_of f = f.name

-- ---- a field that typing finds among fields has a position among their names

sorted-by : (v : Bool) (b : ℕ) (name : List ℕ) (f : Field) (fs : List Field) (s : Sort) → ((field_sort name fs ≡ Some s) → (p : ℕ) × (position_from (b + 1) name (map name_of fs) ≡ Some p)) →
    cond v (Some f.sort) (field_sort name fs) ≡ Some s → (p : ℕ) × (cond v (Some b) (position_from (b + 1) name (map name_of fs)) ≡ Some p)
sorted-by true b name f fs s below h = (b, refl)
sorted-by false b name f fs s below h = below h

sorted : (fs : List Field) (b : ℕ) (name : List ℕ) (s : Sort) → field_sort name fs ≡ Some s → (p : ℕ) × (position_from b name (map name_of fs) ≡ Some p)
sorted [] b name s h = absurd (cc)
sorted (f ∷ fs) b name s h = sorted-by (bytes_eq name f.name) b name f fs s (sorted fs (b + 1) name s) h

module _ (ds : List DeclTree) where
  -- a struct has the fields of the declaration with its number
  abbrev Right : Thing → Type 0
  Right (struct_type l fs) = map name_of fs ≡ field_names ds l
  Right thing = Unit {0}

  abbrev AllRight : List Entry → Type 0
  AllRight [] = Unit {0}
  AllRight (e ∷ es) = Right e.thing × AllRight es

  found-by : (v : Bool) (k l : ℕ) (name : List ℕ) (s : Sort) (fs others : List Field) → nat_eq k l ≡ v → map name_of fs ≡ field_names ds l →
      (field_sort name others ≡ Some s → (p : ℕ) × (position ds k name ≡ Some p)) → field_sort name (cond v fs others) ≡ Some s → (p : ℕ) × (position ds k name ≡ Some p)
  unfolding position
  found-by true k l name s fs others e right below h =
      let w = sorted fs 0 name s h in
      let is : map name_of fs ≡ field_names ds k = right ∙ ap (field_names ds) (sym (eqb-true k l e)) in
      (w.0, ap (position_from 0 name) (sym is) ∙ w.1)
  found-by false k l name s fs others e right below h = below h

  found-in : (t : Thing) (k : ℕ) (name : List ℕ) (s : Sort) (others : List Field) → Right t →
      (field_sort name others ≡ Some s → (p : ℕ) × (position ds k name ≡ Some p)) → field_sort name (fields_or others k t) ≡ Some s → (p : ℕ) × (position ds k name ≡ Some p)
  found-in (struct_type l fs) k name s others right below h = found-by (nat_eq k l) k l name s fs others refl right below h
  found-in t k name s others right below h = below h

  found-among : (es : List Entry) (k : ℕ) (name : List ℕ) (s : Sort) → AllRight es → field_sort name (fields_among k es) ≡ Some s → (p : ℕ) × (position ds k name ≡ Some p)
  found-among [] k name s right h = absurd (cc)
  found-among (e ∷ es) k name s right h = found-in e.thing k name s (fields_among k es) right.0 (found-among es k name s right.1) h

  -- ---- what a declaration adds

  named-right : (k : ℕ) (ns : List NameTree) (sc : Scope) → AllRight sc.entries → AllRight (with_names k ns sc).entries
  unfolding declared
  named-right k [] sc right = right
  named-right k (n ∷ ns) sc right = named-right k ns (declared n.text (enum_name k) sc) (tt, right)

  given-right : (end : ScheduleEnd) (sc : Scope) → AllRight sc.entries → AllRight (given end sc).entries
  given-right ends.Origin sc right = right
  given-right ends.Horizon sc right = right

  listed-names : (ts : List FieldTree) (sc taken : Scope) (fs : List Field) → field_list sc taken ts ≡ Ok fs → map name_of fs ≡ map field_name ts
  listed-names [] sc taken fs h = ap (map name_of) (sym (same [] fs h))
  listed-names (t ∷ ts) sc taken fs h =
      let w = went (written_type t.kind sc) _ fs h in
      let x = went (fresh taken t.name) _ fs w.2 in
      let y = went (field_list sc (declared t.name.text (value anything) taken) ts) _ fs x.2 in
      ap (map name_of) (sym (same _ fs y.2)) ∙ ap (λ ns. t.name.text ∷ ns) (listed-names ts sc (declared t.name.text (value anything) taken) y.0 y.1)

  decl-right : (t : DeclTree) (k : ℕ) (sc : Scope) (o : Opened) → slice_get ds k ≡ Some t → AllRight sc.entries → decl k sc t ≡ Ok o → AllRight o.scope.entries
  unfolding decl declared field_names
  decl-right (decls.Data t) k sc o at right h =
      let v = went (written_type t.kind sc) _ o h in
      let w = went (fresh sc t.name) _ o v.2 in
      let x = went (shape sc t.dims) _ o w.2 in
      let y = went (initial_kinds x.0.inner v.0 (cell_indices x.0.dims) t.initial) _ o x.2 in
      subst (λ o. AllRight o.scope.entries) (same _ o y.2) (tt, right)
  decl-right (decls.Range t) k sc o at right h =
      let w = went (fresh sc t.name) _ o h in
      let x = went (number_kinds sc t.low) _ o w.2 in
      let y = went (number_kinds sc t.high) _ o x.2 in
      subst (λ o. AllRight o.scope.entries) (same _ o y.2) (tt, right)
  decl-right (decls.Enumeration t) k sc o at right h =
      let w = went (all_fresh sc (t.name ∷ enum_names t.names)) _ o h in
      subst (λ o. AllRight o.scope.entries) (same _ o w.2) (named-right k (enum_names t.names) (declared t.name.text (enum_type k) sc) (tt, right))
  decl-right (decls.Structure t) k sc o at right h =
      let w = went (fresh sc t.name) _ o h in
      let x = went (field_list sc empty_scope (t.first ∷ t.rest)) _ o w.2 in
      subst (λ o. AllRight o.scope.entries) (same _ o x.2) (listed-names (t.first ∷ t.rest) sc empty_scope x.0 x.1 ∙ ap names_of (sym at), right)
  decl-right (decls.Variable t) k sc o at right h =
      let v = went (variable_type sc t.kind) _ o h in
      let w = went (fresh sc t.name) _ o v.2 in
      let x = went (shape sc t.dims) _ o w.2 in
      let y = went (bounds_kinds x.0.inner t.bounds) _ o x.2 in
      let z = unless-then (is_decidable t.kind t.bounds v.0) (Mismatch t.at) _ o y.2 in
      subst (λ o. AllRight o.scope.entries) (same _ o z) (tt, right)
  decl-right (decls.Activity t) k sc o at right h =
      let w = went (fresh sc t.name) _ o h in
      let x = went (shape sc t.dims) _ o w.2 in
      let y = went (number_kinds x.0.inner t.shortest) _ o x.2 in
      let z = went (maybe_number x.0.inner t.longest) _ o y.2 in
      subst (λ o. AllRight o.scope.entries) (same _ o z.2) (tt, right)
  decl-right (decls.Unary t) k sc o at right h =
      let w = went (fresh sc t.name) _ o h in
      let x = went (shape sc t.dims) _ o w.2 in
      subst (λ o. AllRight o.scope.entries) (same _ o x.2) (tt, right)
  decl-right (decls.Discrete t) k sc o at right h =
      let w = went (fresh sc t.name) _ o h in
      let x = went (shape sc t.dims) _ o w.2 in
      let y = went (number_kinds x.0.inner t.capacity) _ o x.2 in
      subst (λ o. AllRight o.scope.entries) (same _ o y.2) (tt, right)
  decl-right (decls.Schedule t) k sc o at right h =
      let w = went (number_kinds sc t.value) _ o h in
      let x = unless-then (not (is_given t.end sc)) (Duplicate t.at) _ o w.2 in
      subst (λ o. AllRight o.scope.entries) (same _ o x) (given-right t.end sc right)

  -- ---- all declarations

  stands-behind : (pre : List DeclTree) (t : DeclTree) (ts : List DeclTree) → slice_get (pre ++ (t ∷ ts)) (length pre) ≡ Some t
  stands-behind [] t ts = refl
  stands-behind (d ∷ pre) t ts = stands-behind pre t ts

  decls-right : (ts pre : List DeclTree) (k : ℕ) (sc : Scope) (o : Opened) → ds ≡ pre ++ ts → k ≡ length pre → length ds < 2 ^ 32 → AllRight sc.entries → all_decls k sc ts ≡ Ok o → AllRight o.scope.entries
  decls-right [] pre k sc o e n small right h = subst (λ o. AllRight o.scope.entries) (same _ o h) right
  decls-right (t ∷ ts) pre k sc o e n small right h =
      let w = went (decl k sc t) _ o h in
      let x = went (all_decls (next k) w.0.scope ts) _ o w.2 in
      let at : slice_get ds k ≡ Some t = ap (λ xs. slice_get xs k) e ∙ ap (slice_get (pre ++ (t ∷ ts))) n ∙ stands-behind pre t ts in
      let len : length ds ≡ length pre + suc (length ts) = ap length e ∙ length-append pre (t ∷ ts) in
      let one_more : length (pre ++ (t ∷ [])) ≡ length pre + 1 = length-append pre (t ∷ []) in
      let n' : next k ≡ length (pre ++ (t ∷ [])) = omega arith in
      subst (λ o. AllRight o.scope.entries) (same _ o x.2)
      (decls-right ts (pre ++ (t ∷ [])) (next k) w.0.scope x.0 (e ∙ sym (append_assoc pre (t ∷ []) ts)) n' small (decl-right t k sc w.0 at right w.1) x.1)

pub fields_have_positions : FieldsHavePositions
unfolding fields
fields_have_positions ds o small h k name s found = found-among ds o.scope.entries k name s (decls-right ds ds [] 0 empty_scope o refl refl small tt h) found
