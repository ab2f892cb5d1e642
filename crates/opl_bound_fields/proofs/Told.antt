-- Positions that are told of each field that is found suit expressions and declarations.
use Rattle.std.proofs.Common.{◌≡◌, ◌<◌, ◌^◌, ℕ, suc, ◌+◌, List, [], ◌∷◌, ◌++◌, length, map, Option, None, Some, refl, sym, ap, subst, ◌∙◌, arith, append_assoc, length-append}
use Rattle.std.specs.List.{slice_get}
use Rattle.opl_tree.specs.declared.declaration.DataDeclTree.{DataDeclTree}
use Rattle.opl_tree.specs.declared.declaration.DeclTree.{DeclTree}
use Rattle.opl_tree.specs.declared.declaration.DeclTree.TheVariants as decls
use Rattle.opl_tree.specs.declared.declaration.DimTree.{DimTree}
use Rattle.opl_tree.specs.declared.declaration.DimsTree.{DimsTree}
use Rattle.opl_tree.specs.declared.declaration.InitialTree.{InitialTree}
use Rattle.opl_tree.specs.declared.declaration.InitialTree.TheVariants as initials
use Rattle.opl_tree.specs.declared.expression.NameTree.{NameTree}
use Rattle.opl_tree.specs.declared.expression.PatternTree.{PatternTree}
use Rattle.opl_type_rules.specs.Types.{Sort, is_set}
use Rattle.opl_type_rules.specs.Types.Sort.{structure}
use Rattle.opl_type_rules.specs.Scope.{Scope, empty_scope, fields}
use Rattle.opl_type_rules.specs.Forms.{Form, Forms, Pairs, SetForm, Groups, Params, form_add, form_set}
use Rattle.opl_type_rules.specs.Forms.Form.{bracket, field, tuple, listed, described, cells, keyed_cells}
use Rattle.opl_type_rules.specs.Forms.Forms.{no_forms, more_forms}
use Rattle.opl_type_rules.specs.Forms.Pairs.{no_pairs, more_pairs}
use Rattle.opl_type_rules.specs.Forms.SetForm.{whole, between}
use Rattle.opl_type_rules.specs.Forms.Groups.{no_groups, more_groups}
use Rattle.opl_type_rules.specs.Forms.Params.{all_of, those_of}
use Rattle.opl_type_rules.specs.Expressions.{any_type, bind_patterns, open_params, or_anything, typed_set, typing}
use Rattle.opl_type_rules.specs.Expressions.Need.{data_alone, nothing}
use Rattle.opl_declaration_types.specs.Declarations.{all_dims, decl, next, shape}
use Rattle.opl_typed.specs.Relation.{AllName, HasType, IsSetOf, Opens, Typed}
use Rattle.opl_typed.proofs.Lawful.{complete, params_complete, sets_complete}
use Rattle.opl_typed.proofs.Names.{have-patterns}
use Rattle.opl_typed.proofs.Steps.{was_used}
use Rattle.opl_typed_model.specs.Declares.{dim_names, named_sorts}
use Rattle.opl_typed_model.proofs.Decls.{decl-complete, shape-complete}
use Rattle.opl_typed_values.specs.Positions.{AllStand, FieldsStand, GroupsStand, PairsStand, ParamsStand, SetStands, place_from}
use Rattle.opl_fields.specs.declared.place.FieldPlace.{FieldPlace}
use Rattle.opl_fields.specs.Fields.{record_of}
use Rattle.opl_fields.specs.Structs.{position}
use Rattle.opl_fields.specs.Typed.{field_of, field_of_record, form_fields, groups_fields, pairs_fields, params_fields, parts_fields, placed, scope_behind, scope_bound, scope_or, set_fields}
use Rattle.opl_fields.specs.Whole.{in_decl, in_decls, in_dim, in_dims, in_initial, in_turn, model_fields, scope_inside}
use Rattle.opl_bound_values.specs.Suits.{AllSuit, DeclSuits, DimsStand, InitialStands, ItemSuits}
use Rattle.opl_bound_values.proofs.Bound.{bound_values_fit}
use Rattle.opl_bound_fields.specs.Laws.{ModelValuesFit, PositionsSuit, Tells}
use Rattle.opl_bound_fields.proofs.Structs.{StructsAre, decl-structs, dims-stay, params-stay, patterns-stay, place-is, same-structs}

module _ (ds : List DeclTree) (P : ℕ → ℕ) where
  abbrev Tell : List FieldPlace → Type 0
  Tell fs = Tells P fs

  first-told : (xs ys : List FieldPlace) → Tell (xs ++ ys) → Tell xs
  first-told [] ys t = tt
  first-told (x ∷ xs) ys t = (t.0, first-told xs ys t.1)

  last-told : (xs ys : List FieldPlace) → Tell (xs ++ ys) → Tell ys
  last-told [] ys t = t
  last-told (x ∷ xs) ys t = last-told xs ys t.1

  -- ---- expressions

  field-told : (sc : Scope) (f : Form) (name : NameTree) (a : Typed) (k p : ℕ) → StructsAre ds sc → HasType sc f a → a.sort ≡ structure k → place_from 0 name.text (fields sc k) ≡ Some p → Tell (field_of ds name (typing sc f)) → P name.at ≡ p
  field-told sc f name a k p h y b g t =
      let c = complete sc f nothing any_type a (y, tt, refl) in
      let w = was_used (typing sc f) nothing any_type c.0 c.1 in
      let s : c.0.sort ≡ structure k = ap (λ (x : Typed). x.sort) c.2 ∙ b in
      let e : field_of ds name (typing sc f) ≡ placed name.at (Some p) = ap (field_of ds name) w.0 ∙ ap (λ (x : Sort). field_of_record ds name (record_of x)) s ∙ ap (placed name.at) (place-is ds sc k name.text p h g) in
      (subst Tell e t).0

  bound-is : (sc behind : Scope) (ps : List PatternTree) (over : SetForm) (s : Sort) → IsSetOf sc over s → AllName sc s ps behind → scope_bound sc ps (typed_set data_alone is_set sc over) ≡ behind
  bound-is sc behind ps over s y n =
      let r = sets_complete sc over s y in
      ap (scope_bound sc ps) r.1 ∙ ap (λ (o : Option Sort). scope_or sc (bind_patterns sc (or_anything o) ps)) r.2 ∙ ap (scope_or sc) (have-patterns ps sc s behind n)

  opened-is : (sc inner : Scope) (p : Params) → Opens data_alone sc p inner → scope_behind sc (open_params data_alone sc p) ≡ inner
  opened-is sc inner p o = let c = params_complete data_alone sc p inner o in ap (scope_behind sc) c.1 ∙ c.2

  mutual
    unfolding form_fields parts_fields pairs_fields set_fields groups_fields params_fields

    form-told : (f : Form) (sc : Scope) → StructsAre ds sc → Tell (form_fields ds sc f) → FieldsStand P sc f
    form-told (bracket at f) sc h t = form-told f sc h t
    form-told (field at f name) sc h t =
        (form-told f sc h (first-told (form_fields ds sc f) (field_of ds name (typing sc f)) t), λ a k p y b g. field-told sc f name a k p h y b g (last-told (form_fields ds sc f) (field_of ds name (typing sc f)) t))
    form-told (tuple at fs) sc h t = parts-told fs sc h t
    form-told (listed at fs) sc h t = parts-told fs sc h t
    form-told (described at f p) sc h t =
        let inside = form_fields ds (scope_behind sc (open_params data_alone sc p)) f in (
          params-told p sc h (last-told inside (params_fields ds sc p) t),
          λ inner o. form-told f inner (same-structs ds sc inner (params-stay p sc inner o) h) (subst (λ (x : Scope). Tell (form_fields ds x f)) (opened-is sc inner p o) (first-told inside (params_fields ds sc p) t)),
        )
    form-told (cells at fs) sc h t = parts-told fs sc h t
    form-told (keyed_cells at ps) sc h t = pairs-told ps sc h t
    form-told f sc h t = tt

    parts-told : (fs : Forms) (sc : Scope) → StructsAre ds sc → Tell (parts_fields ds sc fs) → AllStand P sc fs
    parts-told no_forms sc h t = tt
    parts-told (more_forms f fs) sc h t = (form-told f sc h (first-told (form_fields ds sc f) (parts_fields ds sc fs) t), parts-told fs sc h (last-told (form_fields ds sc f) (parts_fields ds sc fs) t))

    pairs-told : (ps : Pairs) (sc : Scope) → StructsAre ds sc → Tell (pairs_fields ds sc ps) → PairsStand P sc ps
    pairs-told no_pairs sc h t = tt
    pairs-told (more_pairs key cell others) sc h t =
        let r = last-told (form_fields ds sc key) (form_fields ds sc cell ++ pairs_fields ds sc others) t in
        (form-told cell sc h (first-told (form_fields ds sc cell) (pairs_fields ds sc others) r), pairs-told others sc h (last-told (form_fields ds sc cell) (pairs_fields ds sc others) r))

    set-told : (over : SetForm) (sc : Scope) → StructsAre ds sc → Tell (set_fields ds sc over) → SetStands P sc over
    set-told (whole f) sc h t = form-told f sc h t
    set-told (between low high) sc h t = tt

    groups-told : (gs : Groups) (sc : Scope) → StructsAre ds sc → Tell (groups_fields ds sc gs) → GroupsStand P sc gs
    groups-told no_groups sc h t = tt
    groups-told (more_groups ps over others) sc h t =
        let inside = groups_fields ds (scope_bound sc ps (typed_set data_alone is_set sc over)) others in (
          set-told over sc h (first-told (set_fields ds sc over) inside t),
          λ s behind y n. groups-told others behind (same-structs ds sc behind (patterns-stay ps sc behind s n) h) (subst (λ (x : Scope). Tell (groups_fields ds x others)) (bound-is sc behind ps over s y n) (last-told (set_fields ds sc over) inside t)),
        )

    params-told : (p : Params) (sc : Scope) → StructsAre ds sc → Tell (params_fields ds sc p) → ParamsStand P sc p
    params-told (all_of gs) sc h t = groups-told gs sc h t
    params-told (those_of gs condition) sc h t = groups-told gs sc h (first-told (groups_fields ds sc gs) _ t)

  -- ---- declarations

  dim-list-told : (ts : List DimTree) (sc : Scope) → StructsAre ds sc → Tell (in_turn (map (in_dim ds) ts) sc) → DimsStand P sc ts
  dim-list-told [] sc h t = tt
  dim-list-told (d ∷ ts) sc h t =
      (set-told (form_set d.set) sc h (first-told (set_fields ds sc (form_set d.set)) (in_turn (map (in_dim ds) ts) sc) t), dim-list-told ts sc h (last-told (set_fields ds sc (form_set d.set)) (in_turn (map (in_dim ds) ts) sc) t))

  dims-told : (dims : Option DimsTree) (sc : Scope) → StructsAre ds sc → Tell (in_dims ds dims sc) → DimsStand P sc (all_dims dims)
  dims-told None sc h t = tt
  dims-told (Some dims) sc h t = dim-list-told (dims.first ∷ dims.rest) sc h t

  initial-told : (i : InitialTree) (sc : Scope) → StructsAre ds sc → Tell (in_initial ds i sc) → InitialStands P sc i
  initial-told (initials.External at) sc h t = tt
  initial-told (initials.Written e) sc h t = form-told (form_add e) sc h t

  item-told : (t : DataDeclTree) (sc : Scope) → StructsAre ds sc → Tell (in_decl ds (decls.Data t) sc) → ItemSuits P [] sc t
  item-told t sc h told =
      let inside = in_initial ds t.initial (scope_inside ds sc (shape sc t.dims)) in (
        dims-told t.dims sc h (first-told (in_dims ds t.dims sc) inside told),
        (λ is inner d.
            let c = shape-complete sc t.dims is inner d in
            initial-told t.initial inner (same-structs ds sc inner (dims-stay (dim_names (all_dims t.dims)) (named_sorts (all_dims t.dims) is) sc inner d.2) h)
            (subst (λ (x : Scope). Tell (in_initial ds t.initial x)) (ap (scope_inside ds sc) c.given ∙ c.inside) (last-told (in_dims ds t.dims sc) inside told))),
        λ g. absurd (cc),
      )

  decl-told : (t : DeclTree) (sc : Scope) → StructsAre ds sc → Tell (in_decl ds t sc) → DeclSuits P [] sc t
  decl-told (decls.Data t) sc h told = item-told t sc h told
  decl-told t sc h told = tt

  stands-behind : (pre : List DeclTree) (t : DeclTree) (ts : List DeclTree) → slice_get (pre ++ t ∷ ts) (length pre) ≡ Some t
  stands-behind [] t ts = refl
  stands-behind (d ∷ pre) t ts = stands-behind pre t ts

  all-told : (ts pre : List DeclTree) (k : ℕ) (sc : Scope) → ds ≡ pre ++ ts → k ≡ length pre → length ds < 2 ^ 32 → StructsAre ds sc → Tell (in_decls ds k ts sc) → AllSuit P [] k sc ts
  all-told [] pre k sc e n small h told = tt
  all-told (t ∷ ts) pre k sc e n small h told =
      let inside = in_decls ds (next k) ts (scope_behind sc (decl k sc t)) in
      let at : slice_get ds k ≡ Some t = ap (λ xs. slice_get xs k) e ∙ ap (slice_get (pre ++ t ∷ ts)) n ∙ stands-behind pre t ts in
      let len : length ds ≡ length pre + suc (length ts) = ap length e ∙ length-append pre (t ∷ ts) in
      let more : length (pre ++ t ∷ []) ≡ length pre + 1 = length-append pre (t ∷ []) in
      let m : next k ≡ length (pre ++ t ∷ []) = omega (arith, n, small, len, more) in (
        decl-told t sc h (first-told (in_decl ds t sc) inside told),
        λ behind d.
            let c = decl-complete k sc t behind d in
            all-told ts (pre ++ t ∷ []) (next k) behind (e ∙ sym (append_assoc pre (t ∷ []) ts)) m small (decl-structs ds k sc t behind at h d)
            (subst (λ (x : Scope). Tell (in_decls ds (next k) ts x)) (ap (scope_behind sc) c.1 ∙ c.2) (last-told (in_decl ds t sc) inside told)),
      )

-- ---- the laws

no-structs : (ds : List DeclTree) → StructsAre ds empty_scope
unfolding fields
no-structs ds k name s e = absurd (cc)

pub positions_suit : PositionsSuit
positions_suit position ds small told = all-told ds position ds [] 0 empty_scope refl refl small (no-structs ds) told

pub model_values_fit : ModelValuesFit
unfolding model_fields
model_values_fit position t files final small m told b =
    bound_values_fit position t.decls m.0 files [] final small m.1 (positions_suit position t.decls small (first-told t.decls position (in_decls t.decls 0 t.decls empty_scope) _ told)) b
