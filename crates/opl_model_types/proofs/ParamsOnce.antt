-- Parameters have names that nothing visible has, each once.
use Rattle.std.proofs.Common.{◌≡◌, ℕ, List, [], ◌∷◌, ◌++◌, map, length, Option, None, Some, Ok, refl, ap, ◌∙◌, sym, subst, arith}
use Rattle.std.specs.Prelude.{nat_eq}
use Rattle.std.specs.List.{flat_map}
use Rattle.std.proofs.lemmas.Bool.{eqb-true}
use Rattle.opl_tree.specs.declared.expression.NameTree.{NameTree}
use Rattle.opl_tree.specs.declared.expression.PatternTree.{PatternTree}
use Rattle.opl_tree.specs.declared.expression.PatternTree.TheVariants as patterns
use Rattle.opl_type_rules.specs.declared.fault.TypeFault.TheVariants.{Mismatch}
use Rattle.opl_type_rules.specs.Types.{Sort, Sorts, sort_list, is_set, is_truth}
use Rattle.opl_type_rules.specs.Types.Sort.{anything}
use Rattle.opl_type_rules.specs.Scope.{Checked, and_then, unless, Scope, declared, all_fresh, with_values, parts_in}
use Rattle.opl_type_rules.specs.Scope.Thing.{value}
use Rattle.opl_type_rules.specs.Forms.{SetForm, Groups, Params}
use Rattle.opl_type_rules.specs.Forms.Groups.{no_groups, more_groups}
use Rattle.opl_type_rules.specs.Forms.Params.{all_of, those_of}
use Rattle.opl_type_rules.specs.Expressions.{Need, Opened, kinds, kinds_in, used, or_anything, pattern_names, bind_parts, bind_record, bind_pattern, bind_patterns, typing, typed_set, open_groups, open_params}
use Rattle.opl_type_rules.specs.Expressions.Need.{data_alone}
use Rattle.opl_model_types.specs.Laws.{ParamsDeclareOnce}
use Rattle.opl_model_types.proofs.Once.{Once, names_of, pushed, pushed-more, names-declared, names-values, all_fresh-once, unless-ok, unit-ok, went, same_scope, same_opened, declared_once, once_declared}

anything-length : (ns : List NameTree) → length ns ≡ length (map (λ (n : NameTree). anything) ns)
anything-length [] = refl
anything-length (n ∷ ns) = let e : length ns ≡ length (map (λ (n : NameTree). anything) ns) = anything-length ns in omega arith

-- ---- patterns

parts-names : (sc : Scope) (at : ℕ) (names : List NameTree) (found : Option Sorts) (inner : Scope) → bind_parts sc at names found ≡ Ok inner → names_of inner ≡ pushed names (names_of sc)
parts-names sc at names None inner h = absurd (cc)
parts-names sc at names (Some ss) inner h =
    let w = went (unless (nat_eq (length names) (length (sort_list ss))) (Mismatch at)) (λ u. Ok (with_values names (sort_list ss) sc)) inner h in
    let same : length names ≡ length (sort_list ss) = eqb-true (length names) (length (sort_list ss)) (unless-ok (nat_eq (length names) (length (sort_list ss))) (Mismatch at) (unit-ok _ w.0 w.1)) in
    ap names_of (sym (same_scope (with_values names (sort_list ss) sc) inner w.2)) ∙ names-values names (sort_list ss) sc same

record-names : (sc : Scope) (at : ℕ) (names : List NameTree) (s : Sort) (inner : Scope) → bind_record sc at names s ≡ Ok inner → names_of inner ≡ pushed names (names_of sc)
record-names sc at names anything inner h =
    ap names_of (sym (same_scope (with_values names (map (λ n. anything) names) sc) inner h)) ∙ names-values names (map (λ n. anything) names) sc (anything-length names)
record-names sc at names s inner h = parts-names sc at names (parts_in sc s) inner h

pattern-binds : (sc : Scope) (s : Sort) (p : PatternTree) (inner : Scope) → bind_pattern sc s p ≡ Ok inner → names_of inner ≡ pushed (pattern_names p) (names_of sc)
pattern-binds sc s (patterns.Single name) inner h = ap names_of (sym (same_scope (declared name.text (value s) sc) inner h)) ∙ names-declared name.text (value s) sc
pattern-binds sc s (patterns.Record at first rest) inner h = record-names sc at (first ∷ rest) s inner h

pub patterns-bind : (ps : List PatternTree) (sc : Scope) (s : Sort) (inner : Scope) → bind_patterns sc s ps ≡ Ok inner → names_of inner ≡ pushed (flat_map pattern_names ps) (names_of sc)
patterns-bind [] sc s inner h = ap names_of (sym (same_scope sc inner h))
patterns-bind (p ∷ ps) sc s inner h =
    let w = went (bind_pattern sc s p) (λ mid. bind_patterns mid s ps) inner h in
    patterns-bind ps w.0 s inner w.2 ∙ ap (pushed (flat_map pattern_names ps)) (pattern-binds sc s p w.0 w.1) ∙ sym (pushed-more (pattern_names p) (flat_map pattern_names ps) (names_of sc))

-- ---- groups

groups-none : (sc : Scope) (o : Opened) → open_groups sc no_groups ≡ Ok o → sc ≡ o.scope
unfolding open_groups
groups-none sc o h = ap (λ (x : Opened). x.scope) (same_opened (record { scope = sc; kinds = [] }) o h)

last-scope : (opened : Opened) (ks : List Sort) (o : Opened) → ◌≡◌ {A = Checked Opened} (Ok (record { scope = opened.scope; kinds = ks })) (Ok o) → opened.scope ≡ o.scope
last-scope opened ks o h = ap (λ (v : Opened). v.scope) (same_opened (record { scope = opened.scope; kinds = ks }) o h)

groups-more : (sc : Scope) (ps : List PatternTree) (over : SetForm) (others : Groups) (o : Opened) → open_groups sc (more_groups ps over others) ≡ Ok o →
    (inner : Scope) × (opened : Opened) × (all_fresh sc (flat_map pattern_names ps) ≡ Ok tt) × (names_of inner ≡ pushed (flat_map pattern_names ps) (names_of sc)) × (open_groups inner others ≡ Ok opened) × (opened.scope ≡ o.scope)
unfolding open_groups
groups-more sc ps over others o h =
    let w = went (all_fresh sc (flat_map pattern_names ps)) (λ u. and_then (typed_set data_alone is_set sc over) (λ range. and_then (bind_patterns sc (or_anything range.element) ps) (λ inner. and_then (open_groups inner others) (λ opened. Ok (record { scope = opened.scope; kinds = kinds_in range.nodes ++ opened.kinds }))))) o h in
    let x = went (typed_set data_alone is_set sc over) (λ range. and_then (bind_patterns sc (or_anything range.element) ps) (λ inner. and_then (open_groups inner others) (λ opened. Ok (record { scope = opened.scope; kinds = kinds_in range.nodes ++ opened.kinds })))) o w.2 in
    let y = went (bind_patterns sc (or_anything x.0.element) ps) (λ inner. and_then (open_groups inner others) (λ opened. Ok (record { scope = opened.scope; kinds = kinds_in x.0.nodes ++ opened.kinds }))) o x.2 in
    let z = went (open_groups y.0 others) (λ opened. Ok (record { scope = opened.scope; kinds = kinds_in x.0.nodes ++ opened.kinds })) o y.2 in
    (y.0, z.0, unit-ok _ w.0 w.1, patterns-bind ps sc (or_anything x.0.element) y.0 y.1, z.1, last-scope z.0 (kinds_in x.0.nodes ++ z.0.kinds) o z.2)

pub groups-once : (gs : Groups) (sc : Scope) (o : Opened) → open_groups sc gs ≡ Ok o → Once (names_of sc) → Once (names_of o.scope)
groups-once no_groups sc o h once = subst (λ (s : Scope). Once (names_of s)) (groups-none sc o h) once
groups-once (more_groups ps over others) sc o h once =
    let w = groups-more sc ps over others o h in
    let inner : Once (names_of w.0) = subst Once (sym w.3) (all_fresh-once (flat_map pattern_names ps) sc w.2 once) in
    subst (λ (s : Scope). Once (names_of s)) w.5 (groups-once others w.0 w.1 w.4 inner)

-- ---- parameters

pub params-once : (need : Need) (sc : Scope) (p : Params) (o : Opened) → open_params need sc p ≡ Ok o → Once (names_of sc) → Once (names_of o.scope)
unfolding open_params
params-once need sc (all_of groups) o h once = groups-once groups sc o h once
params-once need sc (those_of groups condition) o h once =
    let w = went (open_groups sc groups) (λ opened. and_then (and_then (typing opened.scope condition) (used need is_truth)) (λ n. Ok (record { scope = opened.scope; kinds = opened.kinds ++ kinds n }))) o h in
    let x = went (and_then (typing w.0.scope condition) (used need is_truth)) (λ n. Ok (record { scope = w.0.scope; kinds = w.0.kinds ++ kinds n })) o w.2 in
    subst (λ (s : Scope). Once (names_of s)) (last-scope w.0 (w.0.kinds ++ kinds x.0) o x.2) (groups-once groups sc w.0 w.1 once)

pub params_declare_once : ParamsDeclareOnce
params_declare_once need sc p o h e = declared_once o.scope (params-once need sc p o e (once_declared sc h))
