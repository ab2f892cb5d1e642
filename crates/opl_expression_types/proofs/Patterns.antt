-- The names that patterns make visible, one after the other.
use Rattle.std.proofs.Common.{◌≡◌, ◌≢◌, ℕ, ◌+◌, ◌<◌, suc, Bool, true, false, List, [], ◌∷◌, ◌++◌, map, length, get_or, drop, Option, None, Some, Result, Ok, Err, subst, refl, ap, ◌∙◌, sym, arith}
use Rattle.std.proofs.lemmas.Grind.{flat_map-append}
use Rattle.std.proofs.lemmas.Bool.Decides.{nat_tests}
use Rattle.std.proofs.lemmas.List.{append_assoc, length-map, at_drop_more}
use Rattle.std.specs.List.{flat_map}
use Rattle.std.specs.Option.{option_map}
use Rattle.std.specs.Prelude.{nat_eq}
use Rattle.opl_tree.specs.declared.expression.ParamsTree.{ParamsTree}
use Rattle.opl_tree.specs.declared.expression.GroupStep.{GroupStep}
use Rattle.opl_tree.specs.declared.expression.PatternTree.{PatternTree}
use Rattle.opl_tree.specs.declared.expression.CompareTree.TheViews.{out-ParamsTree}
use Rattle.opl_tree.specs.declared.expression.NameTree.{NameTree}
use Rattle.opl_type_rules.specs.declared.fault.TypeFault.{TypeFault}
use Rattle.opl_type_rules.specs.declared.fault.TypeFault.TheVariants.{Unknown, Duplicate, Mismatch, NotData, OutOfMemory}
use Rattle.opl_type_rules.specs.declared.kind.Ty.{Ty}
use Rattle.opl_type_rules.specs.declared.names.Local.{Local}
use Rattle.opl_type_rules.specs.declared.names.Names.{Names}
use Rattle.opl_type_rules.specs.Types.{Sort, sort, sorts_of, sort_list}
use Rattle.opl_type_rules.specs.Types.Sort.{anything}
use Rattle.opl_type_rules.specs.Forms.{Form, Group, groups_of, params_form, form_expr, form_group, form_group_step, form_params}
use Rattle.opl_type_rules.specs.Scope.{Checked, Scope, Text, ◌>>◌, and_then, unless, declared, fresh, all_fresh, with_values, fields, field_sorts}
use Rattle.opl_type_rules.specs.Expressions.{pattern_names, names_in, names_of_params, bind_parts}
use Rattle.opl_type_rules.specs.Scope.Thing.{value}
use Rattle.opl_type_rules.specs.Steps.{taken, unknown, group_names}
use Rattle.opl_type_rules.specs.Values.{Gives, with_locals, scope_of, within}
use Rattle.opl_type_rules.proofs.Forms.{form_params-is}
use Rattle.opl_type_rules.proofs.Steps.{all_fresh-taken}

-- one more parameter is visible before the others
with-last : (ls : List Local) (l : Local) (sc : Scope) → with_locals (ls ++ l ∷ []) sc ≡ declared l.name (value (sort l.ty)) (with_locals ls sc)
with-last [] l sc = refl
with-last (x ∷ xs) l sc = with-last xs l (declared x.name (value (sort x.ty)) sc)

pub within-added : (n : Names) (ls : List Local) (l : Local) → within n (ls ++ l ∷ []) ≡ declared l.name (value (sort l.ty)) (within n ls)
unfolding within
within-added n ls l = with-last ls l (scope_of n)

-- one more of those that are declared together
pub within-beside : (n : Names) (ls ms : List Local) (l : Local) → within n (ls ++ (ms ++ l ∷ [])) ≡ declared l.name (value (sort l.ty)) (within n (ls ++ ms))
within-beside n ls ms l = ap (within n) (sym (append_assoc ls ms (l ∷ []))) ∙ within-added n (ls ++ ms) l

-- ---- names that are taken

taken-step : (c : Checked (Unit {0})) (f : Scope → Checked Scope) (d e : Checked Scope) → e ≡ and_then d f → (c >> e) ≡ and_then (c >> d) f
taken-step (Ok u) f d e h = h
taken-step (Err t) f d e h = refl

taken-append : (sc : Scope) (ms ns : List NameTree) → taken sc (ms ++ ns) ≡ and_then (taken sc ms) (λ s. taken s ns)
taken-append sc [] ns = refl
taken-append sc (m ∷ ms) ns = taken-step (fresh sc m) (λ s. taken s ns) (taken (declared m.text (value anything) sc) ms) (taken (declared m.text (value anything) sc) (ms ++ ns)) (taken-append (declared m.text (value anything) sc) ms ns)

pub taken-next : (sc s : Scope) (n : NameTree) (ns : List NameTree) → taken sc (n ∷ []) ≡ Ok s → taken sc (n ∷ ns) ≡ taken s ns
taken-next sc s n ns h = taken-append sc (n ∷ []) ns ∙ ap (λ c. and_then c (λ x. taken x ns)) h

pub taken-not : (sc : Scope) (e : TypeFault) (n : NameTree) (ns : List NameTree) → taken sc (n ∷ []) ≡ Err e → taken sc (n ∷ ns) ≡ Err e
taken-not sc e n ns h = taken-append sc (n ∷ []) ns ∙ ap (λ c. and_then c (λ x. taken x ns)) h

pub taken-more : (sc s : Scope) (ms ns : List NameTree) → taken sc ms ≡ Ok s → taken sc (ms ++ ns) ≡ taken s ns
taken-more sc s ms ns h = taken-append sc ms ns ∙ ap (λ c. and_then c (λ x. taken x ns)) h

pub taken-fails : (sc : Scope) (e : TypeFault) (ms ns : List NameTree) → taken sc ms ≡ Err e → taken sc (ms ++ ns) ≡ Err e
taken-fails sc e ms ns h = taken-append sc ms ns ∙ ap (λ c. and_then c (λ x. taken x ns)) h

-- one pattern more
patterns-turn : (F : List NameTree → Checked Scope) (ps : List PatternTree) (i : ℕ) (p : PatternTree) → i < length ps → p ≡ get_or ps i p →
    F (flat_map pattern_names (drop i ps)) ≡ F (pattern_names p ++ flat_map pattern_names (drop (i + 1) ps))
patterns-turn F ps i p h e =
    at_drop_more (λ d. F (flat_map pattern_names d)) ps i p h ∙ ap (λ q. F (pattern_names q ++ flat_map pattern_names (drop (i + 1) ps))) (sym e)

pub patterns-next : (sc s : Scope) (ps : List PatternTree) (i : ℕ) (p : PatternTree) → i < length ps → p ≡ get_or ps i p → taken sc (pattern_names p) ≡ Ok s →
    taken sc (flat_map pattern_names (drop i ps)) ≡ taken s (flat_map pattern_names (drop (i + 1) ps))
patterns-next sc s ps i p h e t = patterns-turn (taken sc) ps i p h e ∙ taken-more sc s (pattern_names p) (flat_map pattern_names (drop (i + 1) ps)) t

pub patterns-stop : (sc : Scope) (f : TypeFault) (ps : List PatternTree) (i : ℕ) (p : PatternTree) → i < length ps → p ≡ get_or ps i p → taken sc (pattern_names p) ≡ Err f →
    taken sc (flat_map pattern_names (drop i ps)) ≡ Err f
patterns-stop sc f ps i p h e t = patterns-turn (taken sc) ps i p h e ∙ taken-fails sc f (pattern_names p) (flat_map pattern_names (drop (i + 1) ps)) t

fault-at : {A B C D : Type 0} (r : B → A) (s : D → C) (c : Checked A) (d : Checked C) (e : TypeFault) → ((f : TypeFault) → c ≡ Err f → d ≡ Err f) → Gives r c (Err e) → Gives s d (Err e)
fault-at r s c d OutOfMemory h g = tt
fault-at r s c d (Unknown at) h g = h (Unknown at) g
fault-at r s c d (Duplicate at) h g = h (Duplicate at) g
fault-at r s c d (Mismatch at) h g = h (Mismatch at) g
fault-at r s c d (NotData at) h g = h (NotData at) g

-- a fault of a part is that of the whole
pub fault-of : {A B C D : Type 0} (r : B → A) (s : D → C) (c : Checked A) (d : Checked C) (result : Result D TypeFault) (e : TypeFault) →
    ((f : TypeFault) → c ≡ Err f → d ≡ Err f) → Gives r c (Err e) → result ≡ Err e → Gives s d result
fault-of r s c d result e h g q = subst (λ x. Gives s d x) (sym q) (fault-at r s c d e h g)

-- ---- what may be anything

pub unknown-one : (n : NameTree) (ns : List NameTree) (sc : Scope) → unknown (n ∷ ns) sc ≡ unknown ns (declared n.text (value anything) sc)
unknown-one n ns sc = refl

pub unknown-append : (ms ns : List NameTree) (sc : Scope) → unknown (ms ++ ns) sc ≡ unknown ns (unknown ms sc)
unknown-append [] ns sc = refl
unknown-append (m ∷ ms) ns sc = unknown-append ms ns (declared m.text (value anything) sc)

pub unknown-next : (sc s : Scope) (ps : List PatternTree) (i : ℕ) (p : PatternTree) → i < length ps → p ≡ get_or ps i p → s ≡ unknown (pattern_names p) sc →
    unknown (flat_map pattern_names (drop i ps)) sc ≡ unknown (flat_map pattern_names (drop (i + 1) ps)) s
unknown-next sc s ps i p h e u =
    at_drop_more (λ d. unknown (flat_map pattern_names d) sc) ps i p h
    ∙ ap (λ q. unknown (pattern_names q ++ flat_map pattern_names (drop (i + 1) ps)) sc) (sym e)
    ∙ unknown-append (pattern_names p) (flat_map pattern_names (drop (i + 1) ps)) sc
    ∙ ap (unknown (flat_map pattern_names (drop (i + 1) ps))) (sym u)

-- one group more
pub groups-next : (sc s : Scope) (ts : List GroupStep) (i : ℕ) (t : GroupStep) → i < length ts → t ≡ get_or ts i t → s ≡ unknown (group_names (form_group_step t)) sc →
    unknown (flat_map group_names (map form_group_step (drop i ts))) sc ≡ unknown (flat_map group_names (map form_group_step (drop (i + 1) ts))) s
groups-next sc s ts i t h e u =
    at_drop_more (λ d. unknown (flat_map group_names (map form_group_step d)) sc) ts i t h
    ∙ ap (λ q. unknown (group_names (form_group_step q) ++ flat_map group_names (map form_group_step (drop (i + 1) ts))) sc) (sym e)
    ∙ unknown-append (group_names (form_group_step t)) (flat_map group_names (map form_group_step (drop (i + 1) ts))) sc
    ∙ ap (unknown (flat_map group_names (map form_group_step (drop (i + 1) ts)))) (sym u)

-- one name more
pub values-next : (m : Names) (ns : List NameTree) (i : ℕ) (n : NameTree) (tys : List Ty) (ty : Ty) (rest : List Ty) (ls new : List Local) → i < length ns → n ≡ get_or ns i n → tys ≡ ty ∷ rest →
    new ≡ ls ++ record { name = n.text; ty = ty } ∷ [] → with_values (drop i ns) (map sort tys) (within m ls) ≡ with_values (drop (i + 1) ns) (map sort rest) (within m new)
values-next m ns i n tys ty rest ls new h e q a =
    at_drop_more (λ d. with_values d (map sort tys) (within m ls)) ns i n h
    ∙ ap (λ x. with_values (x ∷ drop (i + 1) ns) (map sort tys) (within m ls)) (sym e)
    ∙ ap (λ ts. with_values (n ∷ drop (i + 1) ns) (map sort ts) (within m ls)) q
    ∙ ap (with_values (drop (i + 1) ns) (map sort rest)) (sym (ap (within m) a ∙ within-added m ls (record { name = n.text; ty = ty })))

names_in-groups : (gs : List Group) → names_in (groups_of gs) ≡ flat_map group_names gs
names_in-groups [] = refl
names_in-groups (g ∷ gs) = ap (λ ns. group_names g ++ ns) (names_in-groups gs)

names-form : (gs : List Group) (c : Option Form) → names_of_params (params_form (groups_of gs) c) ≡ flat_map group_names gs
names-form gs None = names_in-groups gs
names-form gs (Some f) = names_in-groups gs

names-params : (t : ParamsTree) → names_of_params (form_params t) ≡ group_names (form_group (out-ParamsTree t).first) ++ flat_map group_names (map form_group_step (out-ParamsTree t).rest)
names-params t = ap names_of_params (form_params-is t) ∙ names-form (form_group (out-ParamsTree t).first ∷ map form_group_step (out-ParamsTree t).rest) (option_map form_expr (out-ParamsTree t).condition)

pub params-unknown : (t : ParamsTree) (sc : Scope) →
    with_values (names_of_params (form_params t)) (map (λ n. anything) (names_of_params (form_params t))) sc
    ≡ unknown (flat_map group_names (map form_group_step (out-ParamsTree t).rest)) (unknown (group_names (form_group (out-ParamsTree t).first)) sc)
params-unknown t sc =
    ap (λ ns. unknown ns sc) (names-params t)
    ∙ unknown-append (group_names (form_group (out-ParamsTree t).first)) (flat_map group_names (map form_group_step (out-ParamsTree t).rest)) sc

-- ---- the parts of a record

listed-sorts : (tys : List Ty) → sort_list (sorts_of (map sort tys)) ≡ map sort tys
listed-sorts [] = refl
listed-sorts (t ∷ ts) = ap (λ ss. sort t ∷ ss) (listed-sorts ts)

bound-if : (sc : Scope) (at : ℕ) (names : List NameTree) (tys : List Ty) (b : Bool) → nat_eq (length names) (length tys) ≡ b →
    bind_parts sc at names (Some (sorts_of (map sort tys))) ≡ (unless b (Mismatch at) >> Ok (with_values names (map sort tys) sc))
bound-if sc at names tys b h =
    ap (λ ss. unless (nat_eq (length names) (length ss)) (Mismatch at) >> Ok (with_values names ss sc)) (listed-sorts tys)
    ∙ ap (λ n. unless (nat_eq (length names) n) (Mismatch at) >> Ok (with_values names (map sort tys) sc)) (length-map tys sort)
    ∙ ap (λ x. unless x (Mismatch at) >> Ok (with_values names (map sort tys) sc)) h

eq-self : (n : ℕ) → nat_eq n n ≡ true
eq-self n = grind (arith, nat_tests)

eq-zero : (n : ℕ) → nat_eq (suc n) 0 ≡ false
eq-zero n = grind (arith, nat_tests)

eq-not : (a b : ℕ) → a ≢ b → nat_eq b a ≡ false
eq-not a b h = grind (arith, nat_tests)

eq-succ : (a b : ℕ) → nat_eq (suc a) (suc b) ≡ nat_eq a b
eq-succ a b = grind (arith, nat_tests)

pub bound-none : (sc : Scope) (at : ℕ) (first : NameTree) (rest : List NameTree) (tys : List Ty) → tys ≡ [] →
    bind_parts sc at (first ∷ rest) (Some (sorts_of (map sort tys))) ≡ Err (Mismatch at)
bound-none sc at first rest tys h = bound-if sc at (first ∷ rest) tys false (ap (λ ts. nat_eq (length (first ∷ rest)) (length ts)) h ∙ eq-zero (length rest))

pub bound-other : (sc : Scope) (at : ℕ) (first : NameTree) (rest : List NameTree) (tys : List Ty) (t : Ty) (ts : List Ty) → tys ≡ t ∷ ts → length ts ≢ length rest →
    bind_parts sc at (first ∷ rest) (Some (sorts_of (map sort tys))) ≡ Err (Mismatch at)
bound-other sc at first rest tys t ts h d =
    bound-if sc at (first ∷ rest) tys false (ap (λ xs. nat_eq (length (first ∷ rest)) (length xs)) h ∙ eq-succ (length rest) (length ts) ∙ eq-not (length ts) (length rest) d)

pub bound-all : (sc : Scope) (at : ℕ) (first : NameTree) (rest : List NameTree) (tys : List Ty) (t : Ty) (ts : List Ty) → tys ≡ t ∷ ts → length ts ≡ length rest →
    bind_parts sc at (first ∷ rest) (Some (sorts_of (map sort tys))) ≡ Ok (with_values rest (map sort ts) (declared first.text (value (sort t)) sc))
bound-all sc at first rest tys t ts h d =
    bound-if sc at (first ∷ rest) tys true (ap (λ xs. nat_eq (length (first ∷ rest)) (length xs)) h ∙ eq-succ (length rest) (length ts) ∙ ap (nat_eq (length rest)) d ∙ eq-self (length rest))
    ∙ ap (λ xs. Ok (with_values (first ∷ rest) (map sort xs) sc)) h

-- a struct's fields are not hidden by parameters
fields-value : (name : Text) (s : Sort) (k : ℕ) (sc : Scope) → fields (declared name (value s) sc) k ≡ fields sc k
unfolding fields declared
fields-value name s k sc = refl

fields-within : (k : ℕ) (ls : List Local) (sc : Scope) → fields (with_locals ls sc) k ≡ fields sc k
fields-within k [] sc = refl
fields-within k (l ∷ ls) sc = fields-within k ls (declared l.name (value (sort l.ty)) sc) ∙ fields-value l.name (sort l.ty) k sc

pub field_sorts-within : (n : Names) (ls : List Local) (k : ℕ) → field_sorts (within n ls) k ≡ field_sorts (scope_of n) k
unfolding field_sorts within
field_sorts-within n ls k = ap (λ fs. sorts_of (map (λ f. f.sort) fs)) (fields-within k ls (scope_of n))

-- ---- names that are declared together

fresh-after : (sc : Scope) (ns : List NameTree) (c : Checked Scope) → taken sc ns ≡ c → all_fresh sc ns ≡ (c >> Ok tt)
fresh-after sc ns c h = all_fresh-taken sc ns ∙ ap (λ x. x >> Ok tt) h

pub fresh-all : (sc s : Scope) (ns : List NameTree) → taken sc ns ≡ Ok s → all_fresh sc ns ≡ Ok tt
fresh-all sc s ns h = fresh-after sc ns (Ok s) h

pub fresh-not : (sc : Scope) (e : TypeFault) (ns : List NameTree) → taken sc ns ≡ Err e → all_fresh sc ns ≡ Err e
fresh-not sc e ns h = fresh-after sc ns (Err e) h

pub ruleset names_added = (within-added)

pub ruleset names_beside = (within-beside)

pub ruleset names_taken = (taken-next, taken-not, taken-more, taken-fails, fresh-all, fresh-not)

pub ruleset names_unknown = (unknown-append, flat_map-append)

pub ruleset params_unknown = (params-unknown)

pub ruleset parts_bound = (within-added, bound-none, bound-other, bound-all)

pub ruleset patterns_bound = (within-added, field_sorts-within)
