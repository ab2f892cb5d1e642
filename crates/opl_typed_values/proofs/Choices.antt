-- Parameters: under each choice of theirs the visible names have values of their types.
use Rattle.std.proofs.Common.{◌≡◌, ℕ, Bool, true, false, cond, List, [], ◌∷◌, ◌++◌, length, map, Option, None, Some, Ok, refl, sym, ap, subst, ◌∙◌, append_assoc, append-nil}
use Rattle.std.specs.Prelude.{bytes_eq}
use Rattle.std.specs.List.{AllByRecursion, flat_map}
use Rattle.opl_tree.specs.declared.expression.NameTree.{NameTree}
use Rattle.opl_tree.specs.declared.expression.PatternTree.{PatternTree}
use Rattle.opl_tree.specs.declared.expression.PatternTree.TheVariants as patterns
use Rattle.opl_term.specs.Terms.{pattern_of, text_of}
use Rattle.opl_type_rules.specs.Types.{Sort, Sorts, is_storable, sorts_of}
use Rattle.opl_type_rules.specs.Types.Sort.{int, bool, enumeration, structure, row, set, empty_set, array, index, anything}
use Rattle.opl_type_rules.specs.Types.Sorts.{no_sorts}
use Rattle.opl_type_rules.specs.Scope as scope
use Rattle.opl_type_rules.specs.Scope.{Scope, Text, Thing, field_sorts, is_decided, lookup, parts_in, sort_of, with_values}
use Rattle.opl_type_rules.specs.Scope.Thing.{value}
use Rattle.opl_typed.specs.Relation.{AllName, HasParts, Names}
use Rattle.opl_value.specs.declared.value.Value.{Value}
use Rattle.opl_eval.specs.Evaluation.{Environment, Found, Item, Parameter, bound, bound_parts, elements, gathered, in_order, independent, item_named, latest_or, parameter_or, parts, unhidden, value_named, visible, with_parameters}
use Rattle.opl_typed_values.specs.OfSort.{AllHaveSort, HasSort, HaveSorts, IsArrayOf, a_name, a_number, a_record, a_row, a_set, a_truth, are_plain, is_of_data, more_have, no_elements, none_has}
use Rattle.opl_typed_values.specs.Visible.{AreOfTheirSorts}
use Rattle.opl_typed_values.proofs.Fields.{parts-of}
use Rattle.opl_typed_values.proofs.Fitting.{first-has, none-have, some_same}
use Rattle.opl_typed_values.proofs.Outside.{same_ok, went}

-- ---- scopes and environments

found-behind : (sc : Scope) (name text : Text) (thing : Thing) → lookup (scope.declared text thing sc) name ≡ cond (bytes_eq name text) (Some thing) (lookup sc name)
unfolding lookup scope.declared
found-behind sc name text thing = refl

-- a name of a value says nothing of structs
pub fields-stay : (sc : Scope) (text : Text) (s : Sort) → field_sorts (scope.declared text (value s) sc) ≡ field_sorts sc
unfolding field_sorts scope.fields scope.declared
fields-stay sc text s = refl

abbrev with_one : Text → Value → Environment → Environment
with_one name v env = with_parameters (record { name = name; value = v } ∷ []) env

last-counts : (before : Option Value) (name : Text) (ps : List Parameter) (p : Parameter) → parameter_or before name (ps ++ p ∷ []) ≡ cond (bytes_eq name p.name) (Some p.value) (parameter_or before name ps)
last-counts before name [] p = refl
last-counts before name (q ∷ qs) p = last-counts (cond (bytes_eq name q.name) (Some q.value) before) name qs p

visible-by : (b : Bool) (v : Value) (o : Option Value) (i : Option Item) → visible (cond b (Some v) o) i ≡ cond b v (visible o i)
visible-by true v o i = refl
visible-by false v o i = refl

unhidden-by : (b : Bool) (v : Value) (o : Option Value) (i : Option Item) → unhidden (cond b (Some v) o) i ≡ cond b None (unhidden o i)
unhidden-by true v o i = refl
unhidden-by false v o i = refl

value-behind : (env : Environment) (name text : Text) (v : Value) → value_named name (with_one text v env) ≡ cond (bytes_eq name text) v (value_named name env)
unfolding value_named
value-behind env name text v =
    ap (λ o. visible o (latest_or None name env.items)) (last-counts None name env.parameters (record { name = text; value = v })) ∙ visible-by (bytes_eq name text) v (parameter_or None name env.parameters) (latest_or None name env.items)

item-behind : (env : Environment) (name text : Text) (v : Value) → item_named name (with_one text v env) ≡ cond (bytes_eq name text) None (item_named name env)
unfolding item_named
item-behind env name text v =
    ap (λ o. unhidden o (latest_or None name env.items)) (last-counts None name env.parameters (record { name = text; value = v })) ∙ unhidden-by (bytes_eq name text) v (parameter_or None name env.parameters) (latest_or None name env.items)

-- the value of a declared name is that of its item
unhidden-value : (o : Option Value) (j : Option Item) (i : Item) → unhidden o j ≡ Some i → visible o j ≡ i.value
unhidden-value (Some v) j i e = absurd (cc)
unhidden-value None (Some j) i e = ap (λ (x : Item). x.value) (some_same j i e)
unhidden-value None None i e = absurd (cc)

pub item-value : (env : Environment) (name : Text) (i : Item) → item_named name env ≡ Some i → value_named name env ≡ i.value
unfolding item_named value_named
item-value env name i e = unhidden-value (parameter_or None name env.parameters) (latest_or None name env.items) i e

with-none : (env : Environment) → with_parameters [] env ≡ env
with-none env = ap (λ ps. record { items = env.items; parameters = ps; position = env.position }) (append-nil env.parameters)

with-more : (env : Environment) (ps qs : List Parameter) → with_parameters (ps ++ qs) env ≡ with_parameters qs (with_parameters ps env)
with-more env ps qs = ap (λ rs. record { items = env.items; parameters = rs; position = env.position }) (sym (append_assoc env.parameters ps qs))

texts-are : (names : List NameTree) → map text_of names ≡ map (λ (n : NameTree). n.text) names
unfolding text_of
texts-are [] = refl
texts-are (n ∷ ns) = ap (λ (ts : List Text). n.text ∷ ts) (texts-are ns)

-- a pattern's names
pattern-single : (name : NameTree) (v : Value) → bound (pattern_of (patterns.Single name)) v ≡ record { name = name.text; value = v } ∷ []
unfolding pattern_of text_of
pattern-single name v = refl

pattern-parts : (at : ℕ) (first : NameTree) (rest : List NameTree) (v : Value) → bound (pattern_of (patterns.Record at first rest)) v ≡ bound_parts (map (λ (n : NameTree). n.text) (first ∷ rest)) (parts v)
unfolding pattern_of
pattern-parts at first rest v = ap (λ ts. bound_parts ts (parts v)) (texts-are (first ∷ rest))

-- ---- what has a value

module _ (fields : ℕ → Sorts) (names : ℕ → ℕ) where
  pub has-storable : (s : Sort) (v : Value) → HasSort fields names s v → is_storable s ≡ true
  has-storable _ _ (a_number n) = refl
  has-storable _ _ (a_truth b) = refl
  has-storable _ _ (a_name k p l) = refl
  has-storable _ _ (a_record k vs h) = refl
  has-storable _ _ (a_row ss vs h) = refl
  has-storable _ _ (a_set s vs h d) = refl
  has-storable _ _ no_elements = refl

storable-of-data : (s : Sort) → is_storable s ≡ true → is_of_data s ≡ true
storable-of-data int h = refl
storable-of-data bool h = refl
storable-of-data (enumeration k) h = refl
storable-of-data (structure k) h = refl
storable-of-data (row ss) h = refl
storable-of-data (set s) h = refl
storable-of-data empty_set h = refl
storable-of-data anything h = refl
storable-of-data s h = absurd (cc)

no-storable-array : (s : Sort) (indices : Sorts) (e : Sort) → is_storable s ≡ true → s ≡ array indices e → ⊥
no-storable-array s indices e h k = absurd (let m = sym (ap is_storable k) ∙ h in cc)

no-storable-index : (s e : Sort) → is_storable s ≡ true → s ≡ index e → ⊥
no-storable-index s e h k = absurd (let m = sym (ap is_storable k) ∙ h in cc)

-- ---- one more parameter

module _ (names : ℕ → ℕ) where
  abbrev Of : Scope → Environment → Type 0
  Of sc env = AreOfTheirSorts names sc env

  -- a name that was found is the new one or one of those before
  behind-by : (sc : Scope) (name text : Text) (s : Sort) (thing : Thing) (P : Type 0) → lookup (scope.declared text (value s) sc) name ≡ Some thing →
      (bytes_eq name text ≡ true → thing ≡ value s → P) → (bytes_eq name text ≡ false → lookup sc name ≡ Some thing → P) → P
  behind-by sc name text s thing P e new old = by (bytes_eq name text) refl (sym (found-behind sc name text (value s)) ∙ e)
    where
      by : (b : Bool) → bytes_eq name text ≡ b → cond b (Some (value s)) (lookup sc name) ≡ Some thing → P
      by true k d = new k (sym (some_same (value s) thing d))
      by false k d = old k d

  pub one-more : (sc : Scope) (env : Environment) (text : Text) (s : Sort) (v : Value) → Of sc env → HasSort (field_sorts sc) names s v → Of (scope.declared text (value s) sc) (with_one text v env)
  one-more sc env text s v of h = record { values = values-are; arrays = arrays-are; indices = indices-are; kinds = kinds-are; structs = λ k. ap (λ f. are_plain (f k)) (fields-stay sc text s) ∙ of.structs k }
    where
      storable : is_storable s ≡ true
      storable = has-storable (field_sorts sc) names s v h

      back : (x : Sort) (w : Value) → HasSort (field_sorts sc) names x w → HasSort (field_sorts (scope.declared text (value s) sc)) names x w
      back x w d = subst (λ f. HasSort f names x w) (sym (fields-stay sc text s)) d

      values-are : (name : Text) (thing : Thing) → lookup (scope.declared text (value s) sc) name ≡ Some thing → is_decided thing ≡ false → is_storable (sort_of thing) ≡ true →
          HasSort (field_sorts (scope.declared text (value s) sc)) names (sort_of thing) (value_named name (with_one text v env))
      values-are name thing e d st =
          behind-by sc name text s thing (HasSort (field_sorts (scope.declared text (value s) sc)) names (sort_of thing) (value_named name (with_one text v env))) e
          (λ b t. subst (λ (x : Thing). HasSort (field_sorts (scope.declared text (value s) sc)) names (sort_of x) (value_named name (with_one text v env))) (sym t)
          (subst (HasSort (field_sorts (scope.declared text (value s) sc)) names s) (sym (value-behind env name text v ∙ ap (λ c. cond c v (value_named name env)) b)) (back s v h)))
          (λ b t. subst (HasSort (field_sorts (scope.declared text (value s) sc)) names (sort_of thing)) (sym (value-behind env name text v ∙ ap (λ c. cond c v (value_named name env)) b)) (back (sort_of thing) (value_named name env) (of.values name thing t d st)))

      arrays-are : (name : Text) (thing : Thing) (is : Sorts) (x : Sort) → lookup (scope.declared text (value s) sc) name ≡ Some thing → is_decided thing ≡ false → sort_of thing ≡ array is x → is_storable x ≡ true →
          (i : Item) × (item_named name (with_one text v env) ≡ Some i) × IsArrayOf (field_sorts (scope.declared text (value s) sc)) names x i.value
      arrays-are name thing is x e d k st =
          behind-by sc name text s thing ((i : Item) × (item_named name (with_one text v env) ≡ Some i) × IsArrayOf (field_sorts (scope.declared text (value s) sc)) names x i.value) e
          (λ b t. absurd (no-storable-array s is x storable (sym (ap sort_of t) ∙ k)))
          (λ b t. let r = of.arrays name thing is x t d k st in
          (r.0, item-behind env name text v ∙ ap (λ c. cond c None (item_named name env)) b ∙ r.1, subst (λ f. IsArrayOf f names x r.0.value) (sym (fields-stay sc text s)) r.2))

      indices-are : (name : Text) (thing : Thing) (x : Sort) → lookup (scope.declared text (value s) sc) name ≡ Some thing → is_decided thing ≡ false → sort_of thing ≡ index x →
          (i : Item) × (item_named name (with_one text v env) ≡ Some i) × AllHaveSort (field_sorts (scope.declared text (value s) sc)) names x (elements i.declaration i.value)
      indices-are name thing x e d k =
          behind-by sc name text s thing ((i : Item) × (item_named name (with_one text v env) ≡ Some i) × AllHaveSort (field_sorts (scope.declared text (value s) sc)) names x (elements i.declaration i.value)) e
          (λ b t. absurd (no-storable-index s x storable (sym (ap sort_of t) ∙ k)))
          (λ b t. let r = of.indices name thing x t d k in
          (r.0, item-behind env name text v ∙ ap (λ c. cond c None (item_named name env)) b ∙ r.1, subst (λ f. AllHaveSort f names x (elements r.0.declaration r.0.value)) (sym (fields-stay sc text s)) r.2))

      kinds-are : (name : Text) (thing : Thing) → lookup (scope.declared text (value s) sc) name ≡ Some thing → is_decided thing ≡ false → is_of_data (sort_of thing) ≡ true
      kinds-are name thing e d =
          behind-by sc name text s thing (is_of_data (sort_of thing) ≡ true) e (λ b t. ap (λ (x : Thing). is_of_data (sort_of x)) t ∙ storable-of-data s storable) (λ b t. of.kinds name thing t d)

  -- ---- patterns

  -- what is known behind names: their values are of their types, and structs are as before
  abbrev Behind : Scope → Scope → Environment → Type 0
  Behind sc inner env = Of inner env × (field_sorts inner ≡ field_sorts sc)

  many-more : (ns : List NameTree) (ss : List Sort) (sc : Scope) (env : Environment) (vs : List Value) → Of sc env → HaveSorts (field_sorts sc) names (sorts_of ss) vs →
      Behind sc (with_values ns ss sc) (with_parameters (bound_parts (map (λ (n : NameTree). n.text) ns) vs) env)
  many-more [] ss sc env vs of h = (subst (Of sc) (sym (with-none env)) of, refl)
  many-more (n ∷ ns) [] sc env vs of h = (subst (Of sc) (sym (ap (λ ws. with_parameters (bound_parts (map (λ (m : NameTree). m.text) (n ∷ ns)) ws) env) (none-have-parts vs h) ∙ with-none env)) of, refl)
    where
      none-have-parts : (ws : List Value) → HaveSorts (field_sorts sc) names no_sorts ws → ws ≡ []
      none-have-parts ws k = none-have (field_sorts sc) names no_sorts ws k refl
  many-more (n ∷ ns) (s ∷ ss) sc env vs of h =
      let f = first-has (field_sorts sc) names (sorts_of (s ∷ ss)) vs s (sorts_of ss) h refl in
      let o = one-more sc env n.text s f.0 of f.3 in
      let k = fields-stay sc n.text s in
      let r = many-more ns ss (scope.declared n.text (value s) sc) (with_one n.text f.0 env) f.1 o (subst (λ g. HaveSorts g names (sorts_of ss) f.1) (sym k) f.4) in
      let e : with_parameters (bound_parts (map (λ (m : NameTree). m.text) (n ∷ ns)) vs) env ≡ with_parameters (bound_parts (map (λ (m : NameTree). m.text) ns) f.1) (with_one n.text f.0 env) =
      ap (λ ws. with_parameters (bound_parts (map (λ (m : NameTree). m.text) (n ∷ ns)) ws) env) f.2 ∙ with-more env (record { name = n.text; value = f.0 } ∷ []) (bound_parts (map (λ (m : NameTree). m.text) ns) f.1) in
      (subst (Of (with_values ns ss (scope.declared n.text (value s) sc))) (sym e) r.0, r.1 ∙ k)

  -- the parts of a record have the types of the names
  parts-have : (sc : Scope) (s : Sort) (v : Value) (k : ℕ) (ps : List Sort) → HasSort (field_sorts sc) names s v → HasParts sc s k ps → HaveSorts (field_sorts sc) names (sorts_of ps) (parts v)
  parts-have sc _ _ k ps (a_number n) p = absurd (let e = p.1 in cc)
  parts-have sc _ _ k ps (a_truth b) p = absurd (let e = p.1 in cc)
  parts-have sc _ _ k ps (a_name d q l) p = absurd (let e = p.1 in cc)
  parts-have sc _ _ k ps (a_record d vs h) p =
      subst (λ ws. HaveSorts (field_sorts sc) names (sorts_of ps) ws) (sym (parts-of (field_sorts sc) names vs)) (subst (λ (ss : Sorts). HaveSorts (field_sorts sc) names ss vs) (some_same (field_sorts sc d) (sorts_of ps) p.1) h)
  parts-have sc _ _ k ps (a_row ss vs h) p =
      subst (λ ws. HaveSorts (field_sorts sc) names (sorts_of ps) ws) (sym (parts-of (field_sorts sc) names vs)) (subst (λ (xs : Sorts). HaveSorts (field_sorts sc) names xs vs) (some_same ss (sorts_of ps) p.1) h)
  parts-have sc _ _ k ps (a_set s vs h d) p = absurd (let e = p.1 in cc)
  parts-have sc _ _ k ps no_elements p = absurd (let e = p.1 in cc)

  pattern-binds : (p : PatternTree) (sc : Scope) (env : Environment) (s : Sort) (v : Value) (inner : Scope) → Names sc s p inner → Of sc env → HasSort (field_sorts sc) names s v →
      Behind sc inner (with_parameters (bound (pattern_of p) v) env)
  pattern-binds (patterns.Single name) sc env s v inner n of h =
      subst (λ (x : Scope). Behind sc x (with_parameters (bound (pattern_of (patterns.Single name)) v) env)) (sym n)
      (subst (λ ps. Of (scope.declared name.text (value s) sc) (with_parameters ps env)) (sym (pattern-single name v)) (one-more sc env name.text s v of h), fields-stay sc name.text s)
  pattern-binds (patterns.Record at first rest) sc env s v inner n of h =
      subst (λ (x : Scope). Behind sc x (with_parameters (bound (pattern_of (patterns.Record at first rest)) v) env)) (sym n.2)
      (let m = many-more (first ∷ rest) n.0 sc env (parts v) of (parts-have sc s v (length (first ∷ rest)) n.0 h n.1) in
      (subst (λ ps. Of (with_values (first ∷ rest) n.0 sc) (with_parameters ps env)) (sym (pattern-parts at first rest v)) m.0, m.1))

  -- ---- choices

  abbrev EachChoice : Scope → Scope → Environment → List (List Parameter) → Type 0
  EachChoice sc inner env cs = AllByRecursion (λ c. Behind sc inner (with_parameters c env)) cs

  behind-first : (sc behind inner : Scope) (env : Environment) (first : List Parameter) → field_sorts behind ≡ field_sorts sc → (cs : List (List Parameter)) → EachChoice behind inner (with_parameters first env) cs →
      EachChoice sc inner env (map (λ later. first ++ later) cs)
  behind-first sc behind inner env first k [] h = tt
  behind-first sc behind inner env first k (c ∷ cs) h = ((subst (Of inner) (sym (with-more env first c)) h.0.0, h.0.1 ∙ k), behind-first sc behind inner env first k cs h.1)

  both-choices : (sc inner : Scope) (env : Environment) (cs ds : List (List Parameter)) → EachChoice sc inner env cs → EachChoice sc inner env ds → EachChoice sc inner env (cs ++ ds)
  both-choices sc inner env [] ds h k = k
  both-choices sc inner env (c ∷ cs) ds h k = (h.0, both-choices sc inner env cs ds h.1 k)

  no-pattern : (sc inner : Scope) (env : Environment) → inner ≡ sc → Of sc env → EachChoice sc inner env ([] ∷ [])
  no-pattern sc inner env n of = (subst (λ (x : Scope). Behind sc x (with_parameters [] env)) (sym n) (subst (Of sc) (sym (with-none env)) of, refl), tt)

  pub independent-choices : (ps : List PatternTree) (sc : Scope) (env : Environment) (s : Sort) (inner : Scope) (vs : List Value) → AllName sc s ps inner → Of sc env → AllHaveSort (field_sorts sc) names s vs →
      EachChoice sc inner env (independent (map pattern_of ps) vs)
  independent-choices [] sc env s inner vs n of h = no-pattern sc inner env n of
  independent-choices (p ∷ ps) sc env s inner vs n of h = each vs h (λ env2 o2 h2. independent-choices ps n.0 env2 s inner vs n.2 o2 h2)
    where
      each : (ws : List Value) → AllHaveSort (field_sorts sc) names s ws →
          ((env2 : Environment) → Of n.0 env2 → AllHaveSort (field_sorts n.0) names s vs → EachChoice n.0 inner env2 (independent (map pattern_of ps) vs)) →
          EachChoice sc inner env (flat_map (λ v. map (λ later. bound (pattern_of p) v ++ later) (independent (map pattern_of ps) vs)) ws)
      each _ (none_has _) more = tt
      each _ (more_have _ w ws d ds) more =
          let b = pattern-binds p sc env s w n.0 n.1 of d in
          let r = more (with_parameters (bound (pattern_of p) w) env) b.0 (subst (λ f. AllHaveSort f names s vs) (sym b.1) h) in
          both-choices sc inner env (map (λ later. bound (pattern_of p) w ++ later) (independent (map pattern_of ps) vs)) _ (behind-first sc n.0 inner env (bound (pattern_of p) w) b.1 (independent (map pattern_of ps) vs) r) (each ws ds more)

  pub ordered-choices : (ps : List PatternTree) (sc : Scope) (env : Environment) (s : Sort) (inner : Scope) (vs : List Value) → AllName sc s ps inner → Of sc env → AllHaveSort (field_sorts sc) names s vs →
      EachChoice sc inner env (in_order (map pattern_of ps) vs)
  ordered-choices [] sc env s inner vs n of h = no-pattern sc inner env n of
  ordered-choices (p ∷ ps) sc env s inner _ n of (none_has _) = tt
  ordered-choices (p ∷ ps) sc env s inner _ n of (more_have _ v vs d ds) =
      let b = pattern-binds p sc env s v n.0 n.1 of d in
      let r = ordered-choices ps n.0 (with_parameters (bound (pattern_of p) v) env) s inner vs n.2 b.0 (subst (λ f. AllHaveSort f names s vs) (sym b.1) ds) in
      both-choices sc inner env (map (λ later. bound (pattern_of p) v ++ later) (in_order (map pattern_of ps) vs)) (in_order (map pattern_of (p ∷ ps)) vs)
      (behind-first sc n.0 inner env (bound (pattern_of p) v) b.1 (in_order (map pattern_of ps) vs) r) (ordered-choices (p ∷ ps) sc env s inner vs n of ds)

-- ---- what is found under all choices

module _ (fields : ℕ → Sorts) (names : ℕ → ℕ) (s : Sort) where
  appended-have : (vs ws : List Value) → AllHaveSort fields names s vs → AllHaveSort fields names s ws → AllHaveSort fields names s (vs ++ ws)
  appended-have _ ws (none_has _) k = k
  appended-have _ ws (more_have _ v vs d ds) k = more_have s v (vs ++ ws) d (appended-have vs ws ds k)

  pub gathered-have : (make : List Parameter → Found (List Value)) (cs : List (List Parameter)) → AllByRecursion (λ c. (ws : List Value) → make c ≡ Ok ws → AllHaveSort fields names s ws) cs → (vs : List Value) →
      gathered (map make cs) ≡ Ok vs → AllHaveSort fields names s vs
  gathered-have make [] h vs e = subst (AllHaveSort fields names s) (same_ok [] vs e) (none_has s)
  gathered-have make (c ∷ cs) h vs e =
      let w = went (make c) _ vs e in
      let x = went (gathered (map make cs)) (λ ys. Ok (w.0 ++ ys)) vs w.2 in
      subst (AllHaveSort fields names s) (same_ok (w.0 ++ x.0) vs x.2) (appended-have w.0 x.0 (h.0 w.0 w.1) (gathered-have make cs h.1 x.0 x.1))
