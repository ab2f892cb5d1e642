-- The expression for each key, key by key.
use Rattle.std.proofs.Common.{◌≡◌, ◌≤◌, ℕ, List, [], ◌∷◌, ◌++◌, length, map, take, Option, None, Some, Ok, Err, refl, ap, sym, ◌∙◌, append_assoc}
use Rattle.std.proofs.lemmas.List.{append-nil, take-map, take_all}
use Rattle.opl_tree.specs.declared.declaration.DimTree.{DimTree}
use Rattle.opl_tree.specs.declared.expression.NameTree.{NameTree}
use Rattle.opl_value.specs.declared.value.Value.{Value}
use Rattle.opl_eval.specs.declared.environment.Environment as code
use Rattle.opl_eval.specs.declared.environment.Parameter as parameters
use Rattle.opl_eval.specs.Evaluation.{Environment, Parameter, with_parameters}
use Rattle.opl_eval.specs.Visible.{parameter_of, within}
use Rattle.opl_eval.proofs.Loops.{within-more}
use Rattle.opl_given.specs.declared.axis.Axis as axis_values
use Rattle.opl_given.specs.declared.elements.Elements.{Elements}
use Rattle.opl_given.specs.declared.form.Form.{Form}
use Rattle.opl_given.specs.Arrays.{Axis, values_of}
use Rattle.opl_given.specs.Elements.{left}
use Rattle.opl_given.specs.Faults.{Bound, then}
use Rattle.opl_given.specs.Readings.{axis_of}
use Rattle.opl_given.specs.Turns.{named}
use Rattle.opl_bind.specs.declared.key_walk.Turn.{Turn}
use Rattle.opl_bind.specs.EachKey.{cell_at, over_keys, sets_for, with_names}
use Rattle.opl_bind.specs.Keys.{beginning, chosen, keys, keys_over, named_all}
use Rattle.opl_bind.specs.Written.{Fit, each_cell, over, with_name}

then-same : {A B : Type 0} (b : Bound A) (f g : A → Bound B) → ((a : A) → f a ≡ g a) → then b f ≡ then b g
then-same (Ok a) f g h = h a
then-same (Err e) f g h = refl

then-Ok : {A : Type 0} (b : Bound A) → then b Ok ≡ b
then-Ok (Ok a) = refl
then-Ok (Err e) = refl

then-then : {A B C : Type 0} (b : Bound A) (f : A → Bound B) (g : B → Bound C) → then (then b f) g ≡ then b (λ a. then (f a) g)
then-then (Ok a) f g = refl
then-then (Err e) f g = refl

over_keys-append : (next : List Value → List Value → Bound (List Value)) (before : List Value) (ks ls : List (List Value)) → over_keys next before (ks ++ ls) ≡ then (over_keys next before ks) (λ more. over_keys next more ls)
over_keys-append next before [] ls = refl
over_keys-append next before (k ∷ ks) ls =
    then-same (next k before) _ _ (λ more. over_keys-append next more ks ls) ∙ sym (then-then (next k before) (λ more. over_keys next more ks) (λ more. over_keys next more ls))

over_keys-map : (next : List Value → List Value → Bound (List Value)) (v : Value) (before : List Value) (ks : List (List Value)) → over_keys next before (map (λ key. v ∷ key) ks) ≡ over_keys (λ key. next (v ∷ key)) before ks
over_keys-map next v before [] = refl
over_keys-map next v before (k ∷ ks) = then-same (next (v ∷ k) before) _ _ (λ more. over_keys-map next v more ks)

-- the keys that begin with one value after another
over-beginning : (inner : Value → List Value → Bound (List Value)) (next : List Value → List Value → Bound (List Value)) (ks : List (List Value)) → ((v : Value) (before : List Value) → inner v before ≡ over_keys (λ key. next (v ∷ key)) before ks) →
    (before vs : List Value) → over inner before vs ≡ over_keys next before (beginning vs ks)
over-beginning inner next ks h before [] = refl
over-beginning inner next ks h before (v ∷ vs) =
    ap (λ r. then r (λ more. over inner more vs)) (h v before ∙ sym (over_keys-map next v before ks))
    ∙ then-same (over_keys next before (map (λ key. v ∷ key) ks)) _ _ (λ more. over-beginning inner next ks h more vs)
    ∙ sym (over_keys-append next before (map (λ key. v ∷ key) ks) (beginning vs ks))

one_key : (fit : Fit) (form : Form) (env : Environment) (before : List Value) → then (fit form env) (λ v. Ok (before ++ v ∷ [])) ≡ then (then (fit form env) (λ v. Ok (before ++ v ∷ []))) (λ more. Ok more)
one_key fit form env before = sym (then-Ok (then (fit form env) (λ v. Ok (before ++ v ∷ []))))

-- dimension after dimension as key after key
pub each_cell-keys : (fit : Fit) (form : Form) (ts : List DimTree) (axes : List Axis) (env : Environment) (before : List Value) → each_cell fit form ts axes env before ≡ over_keys (cell_at fit form ts env) before (keys (sets_for ts axes))
each_cell-keys fit form [] axes env before = one_key fit form env before
each_cell-keys fit form (t ∷ ts) [] env before = one_key fit form env before
each_cell-keys fit form (t ∷ ts) (axis ∷ axes) env before =
    over-beginning (λ v more. each_cell fit form ts axes (with_name t.name v env) more) (cell_at fit form (t ∷ ts) env) (keys (sets_for ts axes)) (λ v more. each_cell-keys fit form ts axes (with_name t.name v env) more) before (values_of axis)

-- ---- the loop over keys

pub keys-start : (fit : Fit) (form : Form) (ts : List DimTree) (axes among : List Axis) (env : Environment) (sets : List Elements) (n : ℕ) (start : List (List Value)) (before : List Value) →
    n ≡ length ts → among ≡ take n axes → map left sets ≡ map values_of among → start ≡ keys_over sets → before ≡ [] → each_cell fit form ts axes env [] ≡ over_keys (cell_at fit form ts env) before start
keys-start fit form ts axes among env sets n start before size first same h none =
    each_cell-keys fit form ts axes env []
    ∙ ap (over_keys (cell_at fit form ts env) []) (sym (h ∙ ap keys (same ∙ ap (map values_of) (first ∙ ap (λ k. take k axes) size))))
    ∙ ap (λ b. over_keys (cell_at fit form ts env) b start) (sym none)

-- ---- names, one behind the other

none_named : (ts : List DimTree) → named_all ts [] ≡ []
none_named [] = refl
none_named (t ∷ ts) = refl

-- all names are given their elements
pub names-end : (base all : List Parameter) (ts : List DimTree) (key : List Turn) → base ≡ all ++ named_all ts (chosen key) → key ≡ [] → all ≡ base
names-end base all ts key h e = sym (h ∙ ap (λ k. all ++ named_all ts (chosen k)) e ∙ ap (λ ns. all ++ ns) (none_named ts) ∙ append-nil all)

no_names : (env : Environment) → with_parameters [] env ≡ env
no_names env = λ i. record { items = env.items; parameters = append-nil env.parameters i; position = env.position }

one_name : (name : Option NameTree) (v : Value) (more : List Parameter) (env : Environment) → with_parameters (named name v ++ more) env ≡ with_parameters more (with_name name v env)
one_name (Some name) v more env = λ i. record { items = env.items; parameters = sym (append_assoc env.parameters (record { name = name.text; value = v } ∷ []) more) i; position = env.position }
one_name None v more env = refl

with_names-are : (ts : List DimTree) (vs : List Value) (env : Environment) → with_parameters (named_all ts vs) env ≡ with_names ts vs env
with_names-are [] vs env = no_names env
with_names-are (t ∷ ts) [] env = no_names env
with_names-are (t ∷ ts) (v ∷ vs) env = one_name t.name v (named_all ts vs) env ∙ with_names-are ts vs (with_name t.name v env)

-- the environment with the names of dimensions
pub within-names : (env : code.Environment) (ps qs : List parameters.Parameter) (ts : List DimTree) (vs : List Value) → map parameter_of qs ≡ map parameter_of ps ++ named_all ts vs → within env qs ≡ with_names ts vs (within env ps)
within-names env ps qs ts vs h = within-more env ps qs (named_all ts vs) h ∙ with_names-are ts vs (within env ps)

-- ---- the axes of dimensions

pub axes-first : (n : ℕ) (axes : List axis_values.Axis) → map axis_of (take n axes) ≡ take n (map axis_of axes)
axes-first n axes = sym (take-map axis_of n axes)

pub axes-all : (n : ℕ) (axes : List Axis) → length axes ≤ n → take n axes ≡ axes
axes-all n axes h = take_all n axes h

pub ruleset first_axes = (axes-first, axes-all)
