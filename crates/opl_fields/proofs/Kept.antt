-- Parameters keep the structs that are visible, and a field of a record that typing accepts is told.
use Rattle.std.proofs.Common.{◌≡◌, ℕ, List, [], ◌∷◌, ◌++◌, map, length, Option, None, Some, Ok, refl, ap, sym, subst, ◌∙◌}
use Rattle.std.specs.Prelude.{nat_eq}
use Rattle.std.specs.List.{flat_map}
use Rattle.opl_tree.specs.declared.expression.NameTree.{NameTree}
use Rattle.opl_tree.specs.declared.expression.PatternTree.{PatternTree}
use Rattle.opl_tree.specs.declared.expression.PatternTree.TheVariants as patterns
use Rattle.opl_type_rules.specs.declared.fault.TypeFault.TheVariants.{Mismatch}
use Rattle.opl_type_rules.specs.Types.{Sort, Sorts, sort_list, is_set, is_truth}
use Rattle.opl_type_rules.specs.Types.Sort.{anything}
use Rattle.opl_type_rules.specs.Scope.{Scope, and_then, declared, with_values, all_fresh, fields, field_sort, parts_in}
use Rattle.opl_type_rules.specs.Scope.Thing.{value}
use Rattle.opl_type_rules.specs.Forms.{Groups, Params}
use Rattle.opl_type_rules.specs.Forms.Groups.{no_groups, more_groups}
use Rattle.opl_type_rules.specs.Forms.Params.{all_of, those_of}
use Rattle.opl_type_rules.specs.Expressions.{Node, Need, Opened, part, used, known_field, field_node, pattern_names, bind_parts, bind_record, bind_pattern, bind_patterns, or_anything, typing, typed_set, open_groups, open_params}
use Rattle.opl_type_rules.specs.Expressions.Need.{data_alone}
use Rattle.opl_fields.specs.Fields.{record_of}
use Rattle.opl_fields.specs.Typed.{placed, field_of_record, field_of, form_fields}
use Rattle.opl_fields.specs.Laws.{FieldsAreTold, ParametersKeepPositions}
use Rattle.opl_fields.proofs.Taken.{went, unless-then, same, part-is}

-- ---- the same structs

abbrev Same : Scope → Scope → Type 0
Same sc inner = (k : ℕ) → fields inner k ≡ fields sc k

values-same : (ns : List NameTree) (ss : List Sort) (sc : Scope) → Same sc (with_values ns ss sc)
unfolding fields declared
values-same [] ss sc k = refl
values-same (n ∷ ns) [] sc k = refl
values-same (n ∷ ns) (s ∷ ss) sc k = values-same ns ss (declared n.text (value s) sc) k

parts-same : (sc : Scope) (at : ℕ) (ns : List NameTree) (o : Option Sorts) (inner : Scope) → bind_parts sc at ns o ≡ Ok inner → Same sc inner
parts-same sc at ns None inner h = absurd (cc)
parts-same sc at ns (Some ss) inner h =
    let w = unless-then (nat_eq (length ns) (length (sort_list ss))) (Mismatch at) _ inner h in
    subst (λ i. Same sc i) (same _ inner w) (values-same ns (sort_list ss) sc)

record-same : (sc : Scope) (at : ℕ) (ns : List NameTree) (s : Sort) (inner : Scope) → bind_record sc at ns s ≡ Ok inner → Same sc inner
record-same sc at ns anything inner h = subst (λ i. Same sc i) (same _ inner h) (values-same ns (map (λ n. anything) ns) sc)
record-same sc at ns s inner h = parts-same sc at ns (parts_in sc s) inner h

pattern-same : (sc : Scope) (s : Sort) (p : PatternTree) (inner : Scope) → bind_pattern sc s p ≡ Ok inner → Same sc inner
pattern-same sc s (patterns.Single name) inner h = subst (λ i. Same sc i) (same _ inner h) (values-same (name ∷ []) (s ∷ []) sc)
pattern-same sc s (patterns.Record at first rest) inner h = record-same sc at (first ∷ rest) s inner h

patterns-same : (ps : List PatternTree) (sc : Scope) (s : Sort) (inner : Scope) → bind_patterns sc s ps ≡ Ok inner → Same sc inner
patterns-same [] sc s inner h = subst (λ i. Same sc i) (same _ inner h) (λ k. refl)
patterns-same (p ∷ ps) sc s inner h =
    let w = went (bind_pattern sc s p) _ inner h in
    λ k. patterns-same ps w.0 s inner w.2 k ∙ pattern-same sc s p w.0 w.1 k

groups-same : (gs : Groups) (sc : Scope) (o : Opened) → open_groups sc gs ≡ Ok o → Same sc o.scope
unfolding typing open_groups
groups-same no_groups sc o h = subst (λ o. Same sc o.scope) (same _ o h) (λ k. refl)
groups-same (more_groups ps over others) sc o h =
    let v = went (all_fresh sc (flat_map pattern_names ps)) _ o h in
    let w = went (typed_set data_alone is_set sc over) _ o v.2 in
    let x = went (bind_patterns sc (or_anything w.0.element) ps) _ o w.2 in
    let y = went (open_groups x.0 others) _ o x.2 in
    subst (λ o. Same sc o.scope) (same _ o y.2) (λ k. groups-same others x.0 y.0 y.1 k ∙ patterns-same ps sc (or_anything w.0.element) x.0 x.1 k)

params-same : (p : Params) (need : Need) (sc : Scope) (o : Opened) → open_params need sc p ≡ Ok o → Same sc o.scope
unfolding typing open_params
params-same (all_of groups) need sc o h = groups-same groups sc o h
params-same (those_of groups condition) need sc o h =
    let w = went (open_groups sc groups) _ o h in
    let x = went (and_then (typing w.0.scope condition) (used need is_truth)) _ o w.2 in
    subst (λ o. Same sc o.scope) (same _ o x.2) (groups-same groups sc w.0 w.1)

pub parameters_keep_positions : ParametersKeepPositions
parameters_keep_positions ds need sc p o have h k name s found = have k name s (ap (field_sort name) (sym (params-same p need sc o h k)) ∙ found)

-- ---- a field that typing accepts

known-some : (at : ℕ) (base : Node) (name : NameTree) (o : Option Sort) (n : Node) → known_field at base name o ≡ Ok n → (s : Sort) × (o ≡ Some s)
known-some at base name None n h = absurd (cc)
known-some at base name (Some s) n h = (s, refl)

pub fields_are_told : FieldsAreTold
unfolding typing form_fields
fields_are_told ds sc at f name base n k have h is g =
    let w = went (and_then (typing sc f) part) _ n g in
    let e : w.0 ≡ base = same w.0 base (sym (part-is _ w.0 w.1) ∙ h) in
    let known_there : known_field at w.0 name (field_sort name.text (fields sc k)) ≡ Ok n = ap (field_node sc at w.0 name) (sym (ap (λ m. m.sort) e ∙ is)) ∙ w.2 in
    let s = known-some at w.0 name (field_sort name.text (fields sc k)) n known_there in
    let p = have k name.text s.0 s.1 in (
      p.0,
      p.1,
      ap (λ c. form_fields ds sc f ++ field_of ds name c) h
          ∙ ap (λ t. form_fields ds sc f ++ field_of_record ds name (record_of t)) is
          ∙ ap (λ q. form_fields ds sc f ++ placed name.at q) p.1,
    )
