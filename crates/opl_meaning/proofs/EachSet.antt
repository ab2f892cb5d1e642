-- The declared set for each key, key by key.
use Rattle.std.proofs.Common.{◌≡◌, ◌≤◌, ℕ, ◌+◌, List, [], ◌∷◌, ◌++◌, length, map, take, Option, None, Some, Ok, Err, refl, ap, sym, ◌∙◌}
use Rattle.std.specs.Option.{option_map}
use Rattle.std.proofs.lemmas.List.{take-map, take_all}
use Rattle.opl_tree.specs.declared.declaration.BoundsTree.{BoundsTree}
use Rattle.opl_tree.specs.declared.declaration.DimTree.{DimTree}
use Rattle.opl_tree.specs.declared.declaration.VariableTree.{VariableTree}
use Rattle.opl_tree.specs.declared.declaration.VariableTypeTree.{VariableTypeTree}
use Rattle.opl_tree.specs.declared.expression.NameTree.{NameTree}
use Rattle.opl_value.specs.declared.value.Dimension.{Dimension}
use Rattle.opl_value.specs.declared.value.Value.{Value}
use Rattle.opl_value.specs.Places.{dimension_values}
use Rattle.opl_eval.specs.Evaluation.{Environment}
use Rattle.opl_given.specs.declared.elements.Elements.{Elements}
use Rattle.opl_given.specs.Elements.{left}
use Rattle.opl_bind.specs.EachKey.{with_names}
use Rattle.opl_bind.specs.Keys.{beginning, keys, keys_over}
use Rattle.opl_bind.specs.Written as written
use Rattle.opl_meaning.specs.declared.ends.EndTerms.{EndTerms}
use Rattle.opl_meaning.specs.declared.variable.DeclaredSet.{DeclaredSet}
use Rattle.opl_meaning.specs.EachSet.{ends_by, over_keys, set_at, set_by, terms_of}
use Rattle.opl_meaning.specs.Faults.{Made, then}
use Rattle.opl_meaning.specs.Variables.{each_set, ends_in, limited_set, over, set_in, values_of, with_name}

-- ---- ends

ends_by-terms : (env : Environment) (kind : VariableTypeTree) (bounds : Option BoundsTree) → ends_by env kind (option_map terms_of bounds) ≡ ends_in env kind bounds
ends_by-terms env kind None = refl
ends_by-terms env kind (Some bounds) = refl

-- a declared set by the expressions of its ends
pub set_by-terms : (t : VariableTree) (ends : Option EndTerms) (before : ℕ) (env : Environment) → ends ≡ option_map terms_of t.bounds → set_in t before env ≡ set_by t ends before env
set_by-terms t ends before env h = sym (ap (λ e. then (ends_by env t.kind e) (limited_set t.at before)) h ∙ ap (λ e. then e (limited_set t.at before)) (ends_by-terms env t.kind t.bounds))

-- ---- keys

then-same : {A B : Type 0} (b : Made A) (f g : A → Made B) → ((a : A) → f a ≡ g a) → then b f ≡ then b g
then-same (Ok a) f g h = h a
then-same (Err e) f g h = refl

then-Ok : {A : Type 0} (b : Made A) → then b Ok ≡ b
then-Ok (Ok a) = refl
then-Ok (Err e) = refl

then-then : {A B C : Type 0} (b : Made A) (f : A → Made B) (g : B → Made C) → then (then b f) g ≡ then b (λ a. then (f a) g)
then-then (Ok a) f g = refl
then-then (Err e) f g = refl

over_keys-append : {A : Type 0} (next : List Value → List A → Made (List A)) (before : List A) (ks ls : List (List Value)) → over_keys next before (ks ++ ls) ≡ then (over_keys next before ks) (λ more. over_keys next more ls)
over_keys-append next before [] ls = refl
over_keys-append next before (k ∷ ks) ls =
    then-same (next k before) _ _ (λ more. over_keys-append next more ks ls) ∙ sym (then-then (next k before) (λ more. over_keys next more ks) (λ more. over_keys next more ls))

over_keys-map : {A : Type 0} (next : List Value → List A → Made (List A)) (v : Value) (before : List A) (ks : List (List Value)) → over_keys next before (map (λ key. v ∷ key) ks) ≡ over_keys (λ key. next (v ∷ key)) before ks
over_keys-map next v before [] = refl
over_keys-map next v before (k ∷ ks) = then-same (next (v ∷ k) before) _ _ (λ more. over_keys-map next v more ks)

-- the keys that begin with one value after another
over-beginning : {A : Type 0} (inner : Value → List A → Made (List A)) (next : List Value → List A → Made (List A)) (ks : List (List Value)) → ((v : Value) (before : List A) → inner v before ≡ over_keys (λ key. next (v ∷ key)) before ks) →
    (before : List A) (vs : List Value) → over inner before vs ≡ over_keys next before (beginning vs ks)
over-beginning inner next ks h before [] = refl
over-beginning inner next ks h before (v ∷ vs) =
    ap (λ r. then r (λ more. over inner more vs)) (h v before ∙ sym (over_keys-map next v before ks))
    ∙ then-same (over_keys next before (map (λ key. v ∷ key) ks)) _ _ (λ more. over-beginning inner next ks h more vs)
    ∙ sym (over_keys-append next before (map (λ key. v ∷ key) ks) (beginning vs ks))

one_key : (t : VariableTree) (values : ℕ) (env : Environment) (before : List DeclaredSet) → then (set_in t values env) (λ s. Ok (before ++ s ∷ [])) ≡ then (then (set_in t values env) (λ s. Ok (before ++ s ∷ []))) (λ more. Ok more)
one_key t values env before = sym (then-Ok (then (set_in t values env) (λ s. Ok (before ++ s ∷ []))))

same_name : (name : Option NameTree) (v : Value) (env : Environment) → with_name name v env ≡ written.with_name name v env
same_name (Some name) v env = refl
same_name None v env = refl

-- dimension after dimension as key after key
each_set-keys : (t : VariableTree) (earlier : ℕ) (ds : List DimTree) (sets : List (List Value)) (env : Environment) (before : List DeclaredSet) →
    each_set t earlier ds sets env before ≡ over_keys (set_at (set_in t) earlier ds env) before (keys (take (length ds) sets))
each_set-keys t earlier [] sets env before = one_key t (earlier + values_of before) env before
each_set-keys t earlier (d ∷ ds) [] env before = one_key t (earlier + values_of before) env before
each_set-keys t earlier (d ∷ ds) (vs ∷ sets) env before =
    over-beginning (λ v more. each_set t earlier ds sets (with_name d.name v env) more) (set_at (set_in t) earlier (d ∷ ds) env) (keys (take (length ds) sets))
    (λ v more. each_set-keys t earlier ds sets (with_name d.name v env) more ∙ ap (λ e. over_keys (set_at (set_in t) earlier ds e) more (keys (take (length ds) sets))) (same_name d.name v env)) before vs

pub keys-start : (t : VariableTree) (earlier : ℕ) (ds : List DimTree) (values among : List (List Value)) (env : Environment) (ends : Option EndTerms) (sets : List Elements) (n : ℕ) (start : List (List Value)) (before : List DeclaredSet) →
    ends ≡ option_map terms_of t.bounds → n ≡ length ds → among ≡ take n values → map left sets ≡ among → start ≡ keys_over sets → before ≡ [] → each_set t earlier ds values env [] ≡ over_keys (set_at (set_by t ends) earlier ds env) before start
keys-start t earlier ds values among env ends sets n start before by size first same h none =
    each_set-keys t earlier ds values env []
    ∙ (λ i. over_keys (set_at (λ count e. set_by-terms t ends count e by i) earlier ds env) [] (keys (take (length ds) values)))
    ∙ ap (over_keys (set_at (set_by t ends) earlier ds env) []) (sym (h ∙ ap keys (same ∙ first ∙ ap (λ k. take k values) size)))
    ∙ ap (λ b. over_keys (set_at (set_by t ends) earlier ds env) b start) (sym none)

-- one key more
pub next-set : (t : VariableTree) (ends : Option EndTerms) (earlier values : ℕ) (ds : List DimTree) (env : Environment) (sets more : List DeclaredSet) (set : DeclaredSet) (before rest : List (List Value)) (key : List Value) (made : Made (List DeclaredSet)) →
    made ≡ over_keys (set_at (set_by t ends) earlier ds env) sets before → before ≡ key ∷ rest → values ≡ earlier + values_of sets → set_by t ends values (with_names ds key env) ≡ Ok set → more ≡ sets ++ set ∷ [] →
    made ≡ over_keys (set_at (set_by t ends) earlier ds env) more rest
next-set t ends earlier values ds env sets more set before rest key made h b v s p =
    h
    ∙ ap (over_keys (set_at (set_by t ends) earlier ds env) sets) b
    ∙ ap (λ r. then (then r (λ x. Ok (sets ++ x ∷ []))) (λ xs. over_keys (set_at (set_by t ends) earlier ds env) xs rest)) (ap (λ n. set_by t ends n (with_names ds key env)) (sym v) ∙ s)
    ∙ ap (λ xs. over_keys (set_at (set_by t ends) earlier ds env) xs rest) (sym p)

-- ---- the index sets of dimensions

pub dimensions-first : (n : ℕ) (ds : List Dimension) → map dimension_values (take n ds) ≡ take n (map dimension_values ds)
dimensions-first n ds = sym (take-map dimension_values n ds)

pub dimensions-all : (n : ℕ) (values : List (List Value)) → length values ≤ n → take n values ≡ values
dimensions-all n values h = take_all n values h

pub ruleset first_dimensions = (dimensions-first, dimensions-all)
