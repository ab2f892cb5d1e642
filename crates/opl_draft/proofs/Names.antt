-- What names stand for under an assignment.
use Rattle.std.proofs.Common.{◌≡◌, ℕ, zero, suc, ◌+◌, ◌≤◌, ◌<◌, ℤ, pos, Bool, true, false, cond, List, [], ◌∷◌, ◌++◌, drop, length, map, take, Option, None, Some, Ok, refl, sym, ap, subst, ◌∙◌, arith}
use Rattle.std.specs.Prelude.{bytes_eq, slice_index_or}
use Rattle.std.specs.List.{All, flat_map}
use Rattle.std.proofs.lemmas.Bool.{or_parts}
use Rattle.std.proofs.lemmas.List.{drop-drop, length-append}
use Rattle.std.proofs.lemmas.List.Elements.{All-head, All-tail}
use Rattle.opl_value.specs.declared.value.IndexSpace.{IndexSpace}
use Rattle.opl_value.specs.declared.value.Value.{Value}
use Rattle.opl_value.specs.declared.value.Value.TheVariants as values
use Rattle.opl_value.specs.declared.value.Dimension.TheOpen.{Value-F}
use Rattle.opl_value.specs.declared.value.Dimension.TheViews.{out-Value}
use Rattle.opl_value.specs.Places.{lists, place_of}
use Rattle.opl_eval.specs.Compare.{all_different}
use Rattle.opl_eval.specs.Evaluation.{Environment, Item, Parameter, at_place, declared, different_layer, element, element_layer, item_named, latest_or, parameter_or, unhidden, value_named, visible, with_parameters}
use Rattle.opl_meaning.specs.declared.variable.Kind.{Kind}
use Rattle.opl_meaning.specs.declared.variable.Kind.TheVariants.{Number, Enumeration}
use Rattle.opl_meaning.specs.declared.variable.VariableItem.{VariableItem}
use Rattle.opl_meaning.specs.Assigned.{first_of, item_value, position_of, value_of, with_variables}
use Rattle.opl_meaning.specs.Laws.{HasOneSet}
use Rattle.opl_meaning.specs.Runs.{Names, Text, is_among}
use Rattle.opl_meaning.proofs.Stays.{Agree}
use Rattle.opl_meaning.proofs.VariableValues.{latest-added, variables-agree}
use Rattle.opl_draft.specs.Drafts.{Cells, are_different, array_at, chosen, draft_value, variable_values}
use Rattle.opl_draft.specs.Laws.{AreDeclared, Fits}
use Rattle.opl_draft.specs.Numbers.{Entry, Numbered, array_or, arrays_of, cells_layer, cells_or, data_cells, data_entries, entries, variable_cells, variable_entries, variable_named, variable_or}
use Rattle.opl_draft.specs.Unrolled.{is_plain_variable, named_array, named_cells, named_draft, plain_draft}
use Rattle.opl_draft.proofs.Arrays.{array-named}

-- the environment with one declaration's variables
abbrev with_one : VariableItem → List ℤ → Environment → Environment
with_one v ns env = declared v.name (item_value v.kind v.space (take (length v.sets) ns)) 0 env

pub after-with : (items : List VariableItem) (ns : List ℤ) (ps : List Parameter) (env : Environment) → with_variables items ns (with_parameters ps env) ≡ with_parameters ps (with_variables items ns env)
unfolding with_variables
after-with [] ns ps env = refl
after-with (v ∷ vs) ns ps env = after-with vs (drop (length v.sets) ns) ps (with_one v ns env)

-- ---- variables by name

-- no variables have a name that is not among theirs
unnamed : (items : List VariableItem) (before : Option Numbered) (name : Text) (number : ℕ) → is_among (map (λ v. v.name) items) name ≡ false → variable_or before name number items ≡ before
unnamed [] before name number h = refl
unnamed (v ∷ vs) before name number h =
    let p = or_parts (bytes_eq name v.name) (is_among (map (λ v. v.name) vs) name) h in
    unnamed vs (cond (bytes_eq name v.name) (Some (record { item = v; first = number })) before) name (number + length v.sets) p.1
    ∙ ap (λ b. cond b (Some (record { item = v; first = number })) before) p.0

-- what is true of these and of those before is true of what is found
either-found : (P : Numbered → Type 0) (b : Bool) (here : Numbered) (before : Option Numbered) → P here → ((w : Numbered) → before ≡ Some w → P w) →
    (w : Numbered) → cond b (Some here) before ≡ Some w → P w
either-found P true here before h k w e = subst P (inner here w e) h
  where
    inner : (x y : Numbered) → Some x ≡ Some y → x ≡ y
    inner x y e = cc
either-found P false here before h k w e = k w e

more : (a number n : ℕ) → a ≤ number → a ≤ number + n
more a number n h = omega (arith, h)

-- the numbers of the variables found are those of an assignment
found-fits : (items : List VariableItem) (before : Option Numbered) (name : Text) (number : ℕ) → ((w : Numbered) → before ≡ Some w → w.first + length w.item.sets ≤ number) →
    (w : Numbered) → variable_or before name number items ≡ Some w → w.first + length w.item.sets ≤ number + length (flat_map (λ v. v.sets) items)
found-fits [] before name number h w e = more (w.first + length w.item.sets) number 0 (h w e)
found-fits (v ∷ vs) before name number h w e =
    let here : Numbered = record { item = v; first = number } in
    total (w.first + length w.item.sets) number (length v.sets) (length (flat_map (λ v. v.sets) vs)) (length (flat_map (λ v. v.sets) (v ∷ vs)))
    (found-fits vs (cond (bytes_eq name v.name) (Some here) before) name (number + length v.sets)
    (either-found (λ w. w.first + length w.item.sets ≤ number + length v.sets) (bytes_eq name v.name) here before (same (number + length v.sets)) (λ w e. more (w.first + length w.item.sets) number (length v.sets) (h w e))) w e)
    (length-append v.sets (flat_map (λ v. v.sets) vs))
  where
    same : (n : ℕ) → n ≤ n
    same n = omega arith

    total : (a number m n all : ℕ) → a ≤ number + m + n → all ≡ m + n → a ≤ number + all
    total a number m n all h e = omega (arith, h, e)

found-single : (items : List VariableItem) (before : Option Numbered) (name : Text) (number : ℕ) → All HasOneSet items → ((w : Numbered) → before ≡ Some w → HasOneSet w.item) →
    (w : Numbered) → variable_or before name number items ≡ Some w → HasOneSet w.item
found-single [] before name number single h w e = h w e
found-single (v ∷ vs) before name number single h w e =
    let here : Numbered = record { item = v; first = number } in
    found-single vs (cond (bytes_eq name v.name) (Some here) before) name (number + length v.sets) (All-tail HasOneSet v vs single)
    (either-found (λ w. HasOneSet w.item) (bytes_eq name v.name) here before (All-head HasOneSet v vs single) h) w e

take-more : (n first : ℕ) (xs : List ℤ) → first < length xs → take (suc n) (drop first xs) ≡ slice_index_or xs first (pos 0) ∷ take n (drop (suc first) xs)
take-more n first [] h = absurd (omega (arith, h))
take-more n zero (x ∷ xs) h = refl
take-more n (suc first) (x ∷ xs) h = take-more n first xs (omega (arith, h))

-- ---- elements by name

-- the elements of variables, else of an item of data
abbrev item_cells : Option Numbered → Option Item → Option Cells
item_cells (Some v) i = variable_cells v.item v.first v.item.space
item_cells None (Some i) = data_cells i.name i.value
item_cells None None = None

data-latest : (before : Option Item) (name : Text) (is : List Item) (es : List Entry) → cells_or (item_cells None before) name (data_entries is ++ es) ≡ cells_or (item_cells None (latest_or before name is)) name es
data-latest before name [] es = refl
data-latest before name (i ∷ is) es =
    ap (λ c. cells_or c name (data_entries is ++ es)) (by (bytes_eq name i.name)) ∙ data-latest (cond (bytes_eq name i.name) (Some i) before) name is es
  where
    by : (b : Bool) → cond b (data_cells i.name i.value) (item_cells None before) ≡ item_cells None (cond b (Some i) before)
    by true = refl
    by false = refl

variables-latest : (before : Option Numbered) (i : Option Item) (name : Text) (number : ℕ) (items : List VariableItem) →
    cells_or (item_cells before i) name (variable_entries number items) ≡ item_cells (variable_or before name number items) i
variables-latest before i name number [] = refl
variables-latest before i name number (v ∷ vs) =
    ap (λ c. cells_or c name (variable_entries (number + length v.sets) vs)) (by (bytes_eq name v.name))
    ∙ variables-latest (cond (bytes_eq name v.name) (Some (record { item = v; first = number })) before) i name (number + length v.sets) vs
  where
    by : (b : Bool) → cond b (variable_cells v number v.space) (item_cells before i) ≡ item_cells (cond b (Some (record { item = v; first = number })) before) i
    by true = refl
    by false = refl

cells-latest : (env : Environment) (items : List VariableItem) (name : Text) → cells_or None name (entries env.items items) ≡ item_cells (variable_named name items) (latest_or None name env.items)
cells-latest env items name = data-latest None name env.items (variable_entries 0 items) ∙ variables-latest None (latest_or None name env.items) name 0 items

module _ (ns : List ℤ) where
  -- the item of numbered variables
  abbrev pub item_under : Numbered → Item
  item_under v = record { name = v.item.name; value = item_value v.item.kind v.item.space (take (length v.item.sets) (drop v.first ns)); declaration = 0 }

  abbrev pub later : Option Numbered → Option Item → Option Item
  later None i = i
  later (Some v) i = Some (item_under v)

  later-cond : (b : Bool) (v : Numbered) (before : Option Numbered) (i : Option Item) → cond b (Some (item_under v)) (later before i) ≡ later (cond b (Some v) before) i
  later-cond true v before i = refl
  later-cond false v before i = refl

  latest-from : (items : List VariableItem) (number : ℕ) (env : Environment) (name : Text) (before : Option Numbered) (i : Option Item) → latest_or None name env.items ≡ later before i →
      latest_or None name (with_variables items (drop number ns) env).items ≡ later (variable_or before name number items) i
  unfolding with_variables
  latest-from [] number env name before i h = h
  latest-from (v ∷ vs) number env name before i h =
      let here : Numbered = record { item = v; first = number } in
      ap (λ xs. latest_or None name (with_variables vs xs (with_one v (drop number ns) env)).items) (drop-drop (length v.sets) number ns)
      ∙ latest-from vs (number + length v.sets) (with_one v (drop number ns) env) name (cond (bytes_eq name v.name) (Some here) before) i
      (latest-added None name env.items (item_under here) ∙ ap (cond (bytes_eq name v.name) (Some (item_under here))) h ∙ later-cond (bytes_eq name v.name) here before i)

  pub latest-is : (items : List VariableItem) (env : Environment) (name : Text) → latest_or None name (with_variables items ns env).items ≡ later (variable_named name items) (latest_or None name env.items)
  latest-is items env name = latest-from items 0 env name None (latest_or None name env.items) refl

  first-is : (n : ℕ) (xs : List ℤ) → first_of (take 1 (drop n xs)) ≡ slice_index_or xs n (pos 0)
  first-is zero [] = refl
  first-is zero (x ∷ xs) = refl
  first-is (suc n) [] = refl
  first-is (suc n) (x ∷ xs) = first-is n xs

  value-is : (items : List VariableItem) (env : Environment) (name : Text) → value_named name (with_variables items ns env) ≡ visible (parameter_or None name env.parameters) (later (variable_named name items) (latest_or None name env.items))
  unfolding value_named
  value-is items env name = λ i. visible (parameter_or None name ((variables-agree items ns env).parameters i)) (latest-is items env name i)

  named-is : (items : List VariableItem) (env : Environment) (name : Text) → item_named name (with_variables items ns env) ≡ unhidden (parameter_or None name env.parameters) (later (variable_named name items) (latest_or None name env.items))
  unfolding item_named
  named-is items env name = λ i. unhidden (parameter_or None name ((variables-agree items ns env).parameters i)) (latest-is items env name i)

  module _ (items : List VariableItem) (arrays : List Cells) where
    plain-by : (at : ℕ) (p : Option Value) (x : Option Numbered) (i : Option Item) → ((v : Numbered) → x ≡ Some v → v.item.space ≡ None → length v.item.sets ≡ 1) → is_plain_variable x ≡ true →
        draft_value arrays ns (named_draft at p x) ≡ Ok (visible p (later x i))
    plain-by at (Some u) x i one h = refl
    plain-by at None None i one h = absurd (cc)
    plain-by at None (Some v) i one h = by v.item.space refl h
      where
        by : (s : Option IndexSpace) → v.item.space ≡ s → is_plain_variable (Some v) ≡ true → draft_value arrays ns (plain_draft at v.item v.first v.item.space) ≡ Ok (item_value v.item.kind v.item.space (take (length v.item.sets) (drop v.first ns)))
        by None e h =
            ap (λ s. draft_value arrays ns (plain_draft at v.item v.first s)) e
            ∙ ap (λ z. Ok (value_of v.item.kind z)) (sym (first-is v.first ns) ∙ ap (λ n. first_of (take n (drop v.first ns))) (sym (one v refl e)))
            ∙ ap (λ s. Ok (item_value v.item.kind s (take (length v.item.sets) (drop v.first ns)))) (sym e)
        by (Some space) e h = absurd (no (subst (λ s. is_plain_variable (Some (record { item = record { name = v.item.name; kind = v.item.kind; space = s; sets = v.item.sets }; first = v.first })) ≡ true) e h))
          where
            no : false ≡ true → ⊥
            no e = cc

    -- ---- arrays

    taken-is : (kind : Kind) (n first : ℕ) → first + n ≤ length ns → map (value_of kind) (take n (drop first ns)) ≡ variable_values arrays ns kind first n
    taken-is kind zero first h = refl
    taken-is kind (suc n) first h =
        ap (map (value_of kind)) (take-more n first ns (omega (arith, h)))
        ∙ ap (λ vs. value_of kind (slice_index_or ns first (pos 0)) ∷ vs) (taken-is kind n (suc first) (omega (arith, h)))

    kind-different : (kind : Kind) (z : ℤ) → different_layer (out-Value (value_of kind z)) ≡ true
    kind-different Number z = ap different_layer (values.outs-Int z)
    kind-different (Enumeration d) z = ap different_layer (values.outs-Enum d (position_of z))

    layer-different : {A : Type 0} (name : Text) (v : Value-F A Value IndexSpace) → are_different arrays ns (cells_layer name v) ≡ different_layer v
    layer-different name (Value-F.Array space cells) = refl
    layer-different name (Value-F.Int n) = refl
    layer-different name (Value-F.Bool b) = refl
    layer-different name (Value-F.Enum d p) = refl
    layer-different name (Value-F.Record vs) = refl
    layer-different name (Value-F.Set vs) = refl
    layer-different name (Value-F.Range l h) = refl
    layer-different name (Value-F.Names ns) = refl

    cells-by : (p : Option Value) (x : Option Numbered) (i : Option Item) → ((v : Numbered) → x ≡ Some v → v.first + length v.item.sets ≤ length ns) →
        are_different arrays ns (named_cells p (item_cells x i)) ≡ different_layer (out-Value (visible p (later x i)))
    cells-by (Some u) x i fits = layer-different [] (out-Value u)
    cells-by None None None fits = sym (ap different_layer (values.outs-Int (pos 0)))
    cells-by None None (Some i) fits = layer-different i.name (out-Value i.value)
    cells-by None (Some v) i fits = by v.item.space
      where
        by : (s : Option IndexSpace) → are_different arrays ns (variable_cells v.item v.first s) ≡ different_layer (out-Value (item_value v.item.kind s (take (length v.item.sets) (drop v.first ns))))
        by None = sym (kind-different v.item.kind (first_of (take (length v.item.sets) (drop v.first ns))))
        by (Some space) = ap all_different (sym (taken-is v.item.kind (length v.item.sets) v.first (fits v refl))) ∙ sym (ap different_layer (values.outs-Array space (map (value_of v.item.kind) (take (length v.item.sets) (drop v.first ns)))))

    layer-element : {A : Type 0} (name : Text) (v : Value-F A Value IndexSpace) (at : ℕ) (key : List Value) → chosen arrays ns at (cells_layer name v) key ≡ element_layer at key v
    layer-element name (Value-F.Array space cells) at key = refl
    layer-element name (Value-F.Int n) at key = refl
    layer-element name (Value-F.Bool b) at key = refl
    layer-element name (Value-F.Enum d p) at key = refl
    layer-element name (Value-F.Record vs) at key = refl
    layer-element name (Value-F.Set vs) at key = refl
    layer-element name (Value-F.Range l h) at key = refl
    layer-element name (Value-F.Names ns) at key = refl

    kind-element : (kind : Kind) (z : ℤ) (at : ℕ) (key : List Value) → element_layer at key (out-Value (value_of kind z)) ≡ Ok (values.Int (pos 0))
    kind-element Number z at key = ap (element_layer at key) (values.outs-Int z)
    kind-element (Enumeration d) z at key = ap (element_layer at key) (values.outs-Enum d (position_of z))

    array-by : (p : Option Value) (k : Option ℕ) (x : Option Numbered) (i : Option Item) (at : ℕ) (key : List Value) → ((v : Numbered) → x ≡ Some v → v.first + length v.item.sets ≤ length ns) → array_at arrays ns k ≡ item_cells x i →
        chosen arrays ns at (array_at arrays ns (named_array p k)) key ≡ element at key (unhidden p (later x i))
    array-by (Some u) k x i at key fits h = refl
    array-by None k x i at key fits h = ap (λ a. chosen arrays ns at a key) h ∙ by x i fits
      where
        by : (x : Option Numbered) (i : Option Item) → ((v : Numbered) → x ≡ Some v → v.first + length v.item.sets ≤ length ns) → chosen arrays ns at (item_cells x i) key ≡ element at key (later x i)
        by None None fits = refl
        by None (Some i) fits = layer-element i.name (out-Value i.value) at key
        by (Some v) i fits = spaced v.item.space
          where
            spaced : (s : Option IndexSpace) → chosen arrays ns at (variable_cells v.item v.first s) key ≡ element_layer at key (out-Value (item_value v.item.kind s (take (length v.item.sets) (drop v.first ns))))
            spaced None = sym (kind-element v.item.kind (first_of (take (length v.item.sets) (drop v.first ns))) at key)
            spaced (Some space) =
                ap (λ vs. at_place at vs (place_of (lists space) key)) (sym (taken-is v.item.kind (length v.item.sets) v.first (fits v refl)))
                ∙ sym (ap (element_layer at key) (values.outs-Array space (map (value_of v.item.kind) (take (length v.item.sets) (drop v.first ns)))))

-- ---- what each name means

module _ (items : List VariableItem) (names : Names) (ns : List ℤ) (declares : AreDeclared items names) where
  -- the environment with the variables agrees with the one before on all names but theirs
  pub names-agree : (env : Environment) → Agree names.all (with_variables items ns env) env
  names-agree env = record {
    parameters = (variables-agree items ns env).parameters;
    position = (variables-agree items ns env).position;
    items = λ name h. latest-is ns items env name ∙ ap (λ x. later ns x (latest_or None name env.items)) (unnamed items None name 0 (ap (λ all. is_among all name) (sym declares.named) ∙ h));
  }

  pub plain-means : (arrays : List Cells) (at : ℕ) (name : Text) (env : Environment) → is_plain_variable (variable_named name items) ≡ true →
      draft_value arrays ns (named_draft at (parameter_or None name env.parameters) (variable_named name items)) ≡ Ok (value_named name (with_variables items ns env))
  plain-means arrays at name env h =
      plain-by ns items arrays at (parameter_or None name env.parameters) (variable_named name items) (latest_or None name env.items) (found-single items None name 0 declares.single (λ w e. absurd (cc))) h
      ∙ ap (λ v. Ok v) (sym (value-is ns items env name))

  module _ (fits : Fits items ns) where
    within : (name : Text) (v : Numbered) → variable_named name items ≡ Some v → v.first + length v.item.sets ≤ length ns
    within name v e = under (v.first + length v.item.sets) (length ns) (length (flat_map (λ v. v.sets) items)) (found-fits items None name 0 (λ w e. absurd (cc)) v e) fits
      where
        under : (a n m : ℕ) → a ≤ 0 + m → n ≡ m → a ≤ n
        under a n m h e = omega (arith, h, e)

    pub cells-mean : (arrays : List Cells) (name : Text) (env : Environment) →
        are_different arrays ns (named_cells (parameter_or None name env.parameters) (cells_or None name (entries env.items items))) ≡ different_layer (out-Value (value_named name (with_variables items ns env)))
    cells-mean arrays name env =
        ap (λ c. are_different arrays ns (named_cells (parameter_or None name env.parameters) c)) (cells-latest env items name)
        ∙ cells-by ns items arrays (parameter_or None name env.parameters) (variable_named name items) (latest_or None name env.items) (within name)
        ∙ ap (λ v. different_layer (out-Value v)) (sym (value-is ns items env name))

    pub array-means : (name : Text) (env : Environment) (at : ℕ) (key : List Value) →
        chosen (arrays_of (entries env.items items)) ns at (array_at (arrays_of (entries env.items items)) ns (named_array (parameter_or None name env.parameters) (array_or None 0 name (entries env.items items)))) key
        ≡ element at key (item_named name (with_variables items ns env))
    array-means name env at key =
        array-by ns items (arrays_of (entries env.items items)) (parameter_or None name env.parameters) (array_or None 0 name (entries env.items items)) (variable_named name items) (latest_or None name env.items) at key (within name)
        (array-named ns name (entries env.items items) ∙ cells-latest env items name)
        ∙ ap (element at key) (sym (named-is ns items env name))
