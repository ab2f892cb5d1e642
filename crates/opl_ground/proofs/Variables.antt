-- Arrays of decision variables have one variable for each key, and the values of their index sets differ.
use Rattle.std.proofs.Common.{◌≡◌, ℕ, suc, pos, ◌+◌, ◌*◌, List, [], ◌∷◌, ◌++◌, length, map, Option, None, Some, Ok, Err, refl, sym, ap, subst, ◌∙◌, arith, length-append}
use Rattle.std.specs.List.{All}
use Rattle.std.proofs.Math.Nat.{suc-mul}
use Rattle.std.proofs.lemmas.List.Elements.{All-append, All-cons, All-nil}
use Rattle.opl_tree.specs.declared.declaration.DeclTree.{DeclTree}
use Rattle.opl_tree.specs.declared.declaration.DeclTree.TheVariants as decls
use Rattle.opl_tree.specs.declared.declaration.DimTree.{DimTree}
use Rattle.opl_tree.specs.declared.declaration.DimsTree.{DimsTree}
use Rattle.opl_tree.specs.declared.declaration.VariableTree.{VariableTree}
use Rattle.opl_term.specs.Terms.{set_term}
use Rattle.opl_value.specs.declared.value.Dimension.{Dimension}
use Rattle.opl_value.specs.declared.value.Dimension.TheOpen.{Value-F}
use Rattle.opl_value.specs.declared.value.Dimension.TheVariants as dimensions
use Rattle.opl_value.specs.declared.value.Dimension.TheViews.{out-Value}
use Rattle.opl_value.specs.declared.value.IndexSpace.{IndexSpace}
use Rattle.opl_value.specs.declared.value.Value.{Value}
use Rattle.opl_value.specs.Laws.{AllDiffer}
use Rattle.opl_value.specs.Places.{AreDifferent, dimension_values, elements, lists, space_of}
use Rattle.opl_value.specs.Sets.{first_occurrences}
use Rattle.opl_value.proofs.Places.{dimensions-space_of, values-Whole}
use Rattle.opl_value.proofs.Rising.{values-listed_dimension}
use Rattle.opl_value.proofs.Sets.{sets_differ}
use Rattle.opl_eval.specs.Evaluation.{Environment}
use Rattle.opl_given.specs.Arrays.{Axis}
use Rattle.opl_given.specs.Axes.{axis_layer, axis_of_set, names_from}
use Rattle.opl_given.specs.Faults as giving
use Rattle.opl_given.specs.Faults.{Bound}
use Rattle.opl_bind.specs.Dimensions.{axes_in, axis_in, dims_of, set_in as set_of, space_in}
use Rattle.opl_meaning.specs.declared.variable.DeclaredSet.{DeclaredSet}
use Rattle.opl_meaning.specs.declared.variable.VariableItem.{VariableItem}
use Rattle.opl_meaning.specs.Faults.{Made, found, then}
use Rattle.opl_meaning.specs.Variables.{each_set, few_variables, item_in, item_over, item_with, over, set_in, sets_of, spaced, totals_of, values_of, variables_in, with_decl, with_name}
use Rattle.opl_meaning.proofs.VariableLaws.{few-made, ok_same, went}
use Rattle.opl_ground.specs.Declared.{IsLaidOut}
use Rattle.opl_ground.specs.Variables.{VariablesAreLaidOut}
use Rattle.opl_ground.proofs.Arrays.{between-differ}

-- ---- what is bound one after another

record Bounds {A B : Type 0} (a : Bound A) (next : A → Bound B) (y : B) : Type 0 where
  pub value : A
  pub is : a ≡ Ok value
  pub more : next value ≡ Ok y

bounds : {A B : Type 0} (a : Bound A) (next : A → Bound B) (y : B) → giving.then a next ≡ Ok y → Bounds a next y
bounds (Ok x) next y h = record { value = x; is = refl; more = h }
bounds (Err e) next y h = cc

bound_same : {A : Type 0} (x y : A) → ◌≡◌ {A = Bound A} (Ok x) (Ok y) → x ≡ y
bound_same x y h = cc

pub spaced-made : {A : Type 0} (b : Bound A) (x : A) → spaced b ≡ Ok x → b ≡ Ok x
spaced-made (Ok a) x h = ap Ok (ok_same a x h)
spaced-made (Err e) x h = cc

pub zero-plus : (n : ℕ) → 0 + n ≡ n
zero-plus n = omega arith

-- ---- index sets

abbrev Differs : Axis → Type 0
Differs a = AreDifferent (dimension_values a.dimension)

nothing-differs : AreDifferent (dimension_values (dimensions.Whole (pos 1) (pos 0)))
nothing-differs = subst AreDifferent (sym (values-Whole (pos 1) (pos 0))) (between-differ (pos 1) (pos 0))

layer-differs : (declaration : ℕ) (x : Value-F Dimension Value IndexSpace) → Differs (axis_layer declaration x)
layer-differs declaration (Value-F.Set vs) = subst AreDifferent (sym (values-listed_dimension (first_occurrences vs))) (sets_differ vs)
layer-differs declaration (Value-F.Range low high) = subst AreDifferent (sym (values-Whole low high)) (between-differ low high)
layer-differs declaration (Value-F.Names names) = subst AreDifferent (sym (values-listed_dimension (first_occurrences (names_from declaration 0 names)))) (sets_differ (names_from declaration 0 names))
layer-differs declaration (Value-F.Int n) = nothing-differs
layer-differs declaration (Value-F.Bool b) = nothing-differs
layer-differs declaration (Value-F.Enum d p) = nothing-differs
layer-differs declaration (Value-F.Record parts) = nothing-differs
layer-differs declaration (Value-F.Array space cells) = nothing-differs

set-differs : (declaration : ℕ) (set : Value) → Differs (axis_of_set declaration set)
unfolding axis_of_set
set-differs declaration set = layer-differs declaration (out-Value set)

axis-differs : (env : Environment) (t : DimTree) (a : Axis) → axis_in env t ≡ Ok a → Differs a
unfolding axis_in
axis-differs env t a h =
    let w = bounds (set_of env (set_term t.set)) (λ set. Ok (axis_of_set set.declaration set.value)) a h in
    subst Differs (bound_same (axis_of_set w.value.declaration w.value.value) a w.more) (set-differs w.value.declaration w.value.value)

-- as many index sets as dimensions, whose values differ
abbrev Axes : ℕ → List Axis → Type 0
Axes n axes = (length axes ≡ n) × All Differs axes

one-more : (n m : ℕ) → n + suc m ≡ (n + 1) + m
one-more n m = omega arith

axes-differ : (env : Environment) (before : List Axis) (ts : List DimTree) (axes : List Axis) → All Differs before → axes_in env before ts ≡ Ok axes → Axes (length before + length ts) axes
axes-differ env before [] axes b h =
    let e = bound_same before axes h in
    (ap length (sym e) ∙ sym (plus-nothing (length before)), subst (All Differs) e b)
  where
    plus-nothing : (n : ℕ) → n + 0 ≡ n
    plus-nothing n = omega arith
axes-differ env before (t ∷ ts) axes b h =
    let w = bounds (axis_in env t) (λ axis. axes_in env (before ++ axis ∷ []) ts) axes h in
    let a = axes-differ env (before ++ w.value ∷ []) ts axes (All-append Differs before (w.value ∷ []) b (All-cons Differs w.value [] (axis-differs env t w.value w.is) (All-nil Differs))) w.more in
    (a.0 ∙ ap (λ n. n + length ts) (length-append before (w.value ∷ [])) ∙ sym (one-more (length before) (length ts)), a.1)

-- a space of so many dimensions, whose values differ
abbrev pub Spaces : ℕ → IndexSpace → Type 0
Spaces n space = (length (lists space) ≡ n) × AllDiffer (lists space)

length-lists : (axes : List Axis) → length (map dimension_values (map (λ a. a.dimension) axes)) ≡ length axes
length-lists [] = refl
length-lists (a ∷ axes) = ap (λ n. suc n) (length-lists axes)

lists-differ : (axes : List Axis) → All Differs axes → AllDiffer (map dimension_values (map (λ a. a.dimension) axes))
lists-differ [] h = tt
lists-differ (a ∷ axes) h = (h 0 a (omega arith), lists-differ axes (λ k d l. h (suc k) d (omega (arith, l))))

pub spaces : (env : Environment) (dims : DimsTree) (space : IndexSpace) → space_in env dims ≡ Ok space → Spaces (length (dims_of dims)) space
unfolding space_in
spaces env dims space h =
    let w = bounds (axes_in env [] (dims_of dims)) (λ axes. Ok (space_of (map (λ a. a.dimension) axes))) space h in
    let a = axes-differ env [] (dims_of dims) w.value (All-nil Differs) w.is in
    let ds : List Dimension = map (λ a. a.dimension) w.value in
    subst (Spaces (length (dims_of dims))) (bound_same (space_of ds) space w.more) (
      ap (λ d. length (map dimension_values d)) (dimensions-space_of ds) ∙ length-lists w.value ∙ a.0 ∙ zero-plus (length (dims_of dims)),
      subst (λ d. AllDiffer (map dimension_values d)) (sym (dimensions-space_of ds)) (lists-differ w.value a.1),
    )

-- ---- declared sets

times-more : (a m n : ℕ) → (a + n) + m * n ≡ a + (suc m) * n
times-more a m n = omega (arith, suc-mul m n)

times-nothing : (a n : ℕ) → a ≡ a + 0 * n
times-nothing a n = omega arith

over-length : {A : Type 0} (next : Value → List A → Made (List A)) (n : ℕ) → ((v : Value) (more last : List A) → next v more ≡ Ok last → length last ≡ length more + n) →
    (before : List A) (vs : List Value) (made : List A) → over next before vs ≡ Ok made → length made ≡ length before + length vs * n
over-length next n each before [] made h = ap length (sym (ok_same before made h)) ∙ times-nothing (length before) n
over-length next n each before (v ∷ vs) made h =
    let w = went (next v before) (λ more. over next more vs) made h in
    over-length next n each w.value vs made w.more ∙ ap (λ m. m + length vs * n) (each v before w.value w.is) ∙ times-more (length before) (length vs) n

last-length : (t : VariableTree) (values : ℕ) (env : Environment) (before made : List DeclaredSet) → then (set_in t values env) (λ set. Ok (before ++ set ∷ [])) ≡ Ok made → length made ≡ length before + 1
last-length t values env before made h =
    let w = went (set_in t values env) (λ set. Ok (before ++ set ∷ [])) made h in
    ap length (sym (ok_same (before ++ w.value ∷ []) made w.more)) ∙ length-append before (w.value ∷ [])

pub sets-length : (t : VariableTree) (earlier : ℕ) (ds : List DimTree) (vss : List (List Value)) (env : Environment) (before made : List DeclaredSet) → length vss ≡ length ds →
    each_set t earlier ds vss env before ≡ Ok made → length made ≡ length before + elements vss
sets-length t earlier [] [] env before made l h = last-length t (earlier + values_of before) env before made h
sets-length t earlier [] (vs ∷ vss) env before made l h = absurd (omega (arith, l))
sets-length t earlier (d ∷ ds) [] env before made l h = absurd (omega (arith, l))
sets-length t earlier (d ∷ ds) (vs ∷ vss) env before made l h =
    over-length (λ v more. each_set t earlier ds vss (with_name d.name v env) more) (elements vss)
    (λ v more last e. sets-length t earlier ds vss (with_name d.name v env) more last (omega (arith, l)) e) before vs made h

-- ---- declarations

laid : (env : Environment) (before : List VariableItem) (t : VariableTree) (dims : Option DimsTree) (v : VariableItem) → item_over env (totals_of before) t dims ≡ Ok v → IsLaidOut v
laid env before t None v h =
    let made : Made VariableItem = then (set_in t (values_of (sets_of before)) env) (λ set. Ok (item_with t env None (set ∷ []))) in
    let w = went (set_in t (values_of (sets_of before)) env) (λ set. Ok (item_with t env None (set ∷ []))) v (few-made t.at (length (sets_of before)) 1 made v h).1 in
    subst IsLaidOut (ok_same (item_with t env None (w.value ∷ [])) v w.more) tt
laid env before t (Some dims) v h =
    let each : IndexSpace → Made (List DeclaredSet) = λ space. each_set t (values_of (sets_of before)) (dims.first ∷ dims.rest) (lists space) env [] in
    let w = went (spaced (space_in env dims)) (λ space. few_variables t.at (length (sets_of before)) (elements (lists space)) (found (item_with t env (Some space)) (each space))) v h in
    let u = went (each w.value) (λ sets. Ok (item_with t env (Some w.value) sets)) v (few-made t.at (length (sets_of before)) (elements (lists w.value)) (found (item_with t env (Some w.value)) (each w.value)) v w.more).1 in
    let s = spaces env dims w.value (spaced-made (space_in env dims) w.value w.is) in
    subst IsLaidOut (ok_same (item_with t env (Some w.value) u.value) v u.more) (s.1, sets-length t (values_of (sets_of before)) (dims.first ∷ dims.rest) (lists w.value) env [] u.value s.0 u.is ∙ zero-plus (elements (lists w.value)))

laid-in : (env : Environment) (before : List VariableItem) (t : VariableTree) (v : VariableItem) → item_in env (totals_of before) t ≡ Ok v → IsLaidOut v
unfolding item_in
laid-in env before t v h = laid env before t t.dims v h

decl-laid : (env : Environment) (before : List VariableItem) (t : DeclTree) (more : List VariableItem) → All IsLaidOut before → with_decl env before t ≡ Ok more → All IsLaidOut more
decl-laid env before (decls.Variable t) more b h =
    let w = went (item_in env (totals_of before) t) (λ v. Ok (before ++ v ∷ [])) more h in
    subst (All IsLaidOut) (ok_same (before ++ w.value ∷ []) more w.more)
    (All-append IsLaidOut before (w.value ∷ []) b (All-cons IsLaidOut w.value [] (laid-in env before t w.value w.is) (All-nil IsLaidOut)))
decl-laid env before t more b h = subst (All IsLaidOut) (ok_same before more h) b

all-laid : (env : Environment) (before : List VariableItem) (ts : List DeclTree) (items : List VariableItem) → All IsLaidOut before → variables_in env before ts ≡ Ok items → All IsLaidOut items
unfolding variables_in
all-laid env before [] items b h = subst (All IsLaidOut) (ok_same before items h) b
all-laid env before (t ∷ ts) items b h =
    let w = went (with_decl env before t) (λ more. variables_in env more ts) items h in
    all-laid env w.value ts items (decl-laid env before t w.value b w.is) w.more

pub variables_are_laid_out : VariablesAreLaidOut
variables_are_laid_out env ts items h = all-laid env [] ts items (All-nil IsLaidOut) h
