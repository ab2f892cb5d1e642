-- The elements of another array, by their keys.
use Rattle.std.proofs.Common.{◌≡◌, ◌⊎◌, inl, inr, ℕ, ℤ, ◌+◌, ◌*◌, Bool, true, cond, List, [], ◌∷◌, length, map, nat_eq, Result, Ok, Err, sym, ap, subst, ◌∙◌}
use Rattle.std.specs.List.{flat_map}
use Rattle.opl_value.specs.declared.value.Value.{Value}
use Rattle.opl_value.specs.declared.value.Value.TheVariants as values
use Rattle.opl_value.specs.declared.value.IndexSpace.{IndexSpace}
use Rattle.opl_value.specs.declared.value.Dimension.TheViews.{out-Value}
use Rattle.opl_value.specs.Places.{lists, value_at}
use Rattle.opl_given.specs.declared.fault.BindFault.{BindFault}
use Rattle.opl_given.specs.declared.fault.BindFault.TheVariants.{Shape}
use Rattle.opl_given.specs.declared.form.Form.{Form}
use Rattle.opl_given.specs.Arrays.{Axis, values_of}
use Rattle.opl_given.specs.Faults.{Bound, Does, Gives, then}
use Rattle.opl_given.specs.Forms.{Known}
use Rattle.opl_bind.specs.Written.{further, matched, places_among, taken_layer, tested}
use Rattle.opl_bind.proofs.WrittenLayers.{written-at, written-meaning}

-- ---- one more dimension

pub further-found : (wrong : BindFault) (before : List ℕ) (d o : List Value) (size : ℕ) (ps qs : List ℕ) → nat_eq (length d) (length o) ≡ true → size ≡ length o → matched wrong o [] d ≡ Ok ps → qs ≡ ps
    → further wrong before d o ≡ Ok (flat_map (λ n. map (λ p. n * size + p) qs) before)
further-found wrong before d o size ps qs same e m q =
    ap (λ b. cond b (then (matched wrong o [] d) (λ xs. Ok (flat_map (λ n. map (λ p. n * length o + p) xs) before))) (Err wrong)) same
    ∙ ap (λ r. then r (λ xs. Ok (flat_map (λ n. map (λ p. n * length o + p) xs) before))) m
    ∙ ap (λ xs. Ok (flat_map (λ n. map (λ p. n * length o + p) xs) before)) (sym q)
    ∙ ap (λ k. Ok (flat_map (λ n. map (λ p. n * k + p) qs) before)) (sym e)

-- what is found, and what only memory can stop
pub gives_done : {A B : Type 0} (reading : B → A) (b : Bound A) (a : A) (r : Result B BindFault) → b ≡ Ok a → Does (λ x. reading x ≡ a) r → Gives reading b r
gives_done reading b a (Ok x) h g = h ∙ ap (λ y. Ok y) (sym g)
gives_done reading b a (Err e) h g = subst (λ f. Gives reading b (Err f)) (sym g) tt

-- ---- what is an array, and what is none

pub taken-Int : (known : Known) (at : ℕ) (form : Form) (axes : List Axis) (n : ℤ) → taken_layer known at form axes (out-Value (values.Int n)) ≡ Err (Shape 0 at)
taken-Int known at form axes n = ap (taken_layer known at form axes) (values.outs-Int n)

pub taken-Bool : (known : Known) (at : ℕ) (form : Form) (axes : List Axis) (b : Bool) → taken_layer known at form axes (out-Value (values.Bool b)) ≡ Err (Shape 0 at)
taken-Bool known at form axes b = ap (taken_layer known at form axes) (values.outs-Bool b)

pub taken-Enum : (known : Known) (at : ℕ) (form : Form) (axes : List Axis) (d p : ℕ) → taken_layer known at form axes (out-Value (values.Enum d p)) ≡ Err (Shape 0 at)
taken-Enum known at form axes d p = ap (taken_layer known at form axes) (values.outs-Enum d p)

pub taken-Record : (known : Known) (at : ℕ) (form : Form) (axes : List Axis) (vs : List Value) → taken_layer known at form axes (out-Value (values.Record vs)) ≡ Err (Shape 0 at)
taken-Record known at form axes vs = ap (taken_layer known at form axes) (values.outs-Record vs)

pub taken-Set : (known : Known) (at : ℕ) (form : Form) (axes : List Axis) (vs : List Value) → taken_layer known at form axes (out-Value (values.Set vs)) ≡ Err (Shape 0 at)
taken-Set known at form axes vs = ap (taken_layer known at form axes) (values.outs-Set vs)

pub taken-Range : (known : Known) (at : ℕ) (form : Form) (axes : List Axis) (l h : ℤ) → taken_layer known at form axes (out-Value (values.Range l h)) ≡ Err (Shape 0 at)
taken-Range known at form axes l h = ap (taken_layer known at form axes) (values.outs-Range l h)

pub taken-Names : (known : Known) (at : ℕ) (form : Form) (axes : List Axis) (ns : List (List ℕ)) → taken_layer known at form axes (out-Value (values.Names ns)) ≡ Err (Shape 0 at)
taken-Names known at form axes ns = ap (taken_layer known at form axes) (values.outs-Names ns)

pub taken-Array : (known : Known) (at : ℕ) (form : Form) (axes : List Axis) (space : IndexSpace) (vs : List Value) → taken_layer known at form axes (out-Value (values.Array space vs)) ≡ then (places_among (Shape 0 at) (0 ∷ []) (map values_of axes) (lists space)) (λ places. tested known at form (map (value_at vs) places))
taken-Array known at form axes space vs = ap (taken_layer known at form axes) (values.outs-Array space vs)

-- a value of any other form than an array
abbrev IsNoArray : Value → Type 0
IsNoArray v = ((n : ℤ) × (v ≡ values.Int n)) ⊎ (((b : Bool) × (v ≡ values.Bool b)) ⊎ (((d : ℕ) × (p : ℕ) × (v ≡ values.Enum d p)) ⊎ (((vs : List Value) × (v ≡ values.Record vs)) ⊎ (((vs : List Value) × (v ≡ values.Set vs)) ⊎ (((l : ℤ) × (h : ℤ) × (v ≡ values.Range l h)) ⊎ (((ns : List (List ℕ)) × (v ≡ values.Names ns))))))))

-- it is refused
pub taken-none : (known : Known) (at : ℕ) (form : Form) (axes : List Axis) (v : Value) → IsNoArray v → taken_layer known at form axes (out-Value v) ≡ Err (Shape 0 at)
taken-none known at form axes v (inl h) = ap (λ w. taken_layer known at form axes (out-Value w)) h.1 ∙ taken-Int known at form axes h.0
taken-none known at form axes v (inr (inl h)) = ap (λ w. taken_layer known at form axes (out-Value w)) h.1 ∙ taken-Bool known at form axes h.0
taken-none known at form axes v (inr (inr (inl h))) = ap (λ w. taken_layer known at form axes (out-Value w)) h.2 ∙ taken-Enum known at form axes h.0 h.1
taken-none known at form axes v (inr (inr (inr (inl h)))) = ap (λ w. taken_layer known at form axes (out-Value w)) h.1 ∙ taken-Record known at form axes h.0
taken-none known at form axes v (inr (inr (inr (inr (inl h))))) = ap (λ w. taken_layer known at form axes (out-Value w)) h.1 ∙ taken-Set known at form axes h.0
taken-none known at form axes v (inr (inr (inr (inr (inr (inl h)))))) = ap (λ w. taken_layer known at form axes (out-Value w)) h.2 ∙ taken-Range known at form axes h.0 h.1
taken-none known at form axes v (inr (inr (inr (inr (inr (inr h)))))) = ap (λ w. taken_layer known at form axes (out-Value w)) h.1 ∙ taken-Names known at form axes h.0

pub ruleset arrays_taken = (taken-Int, taken-Bool, taken-Enum, taken-Record, taken-Set, taken-Range, taken-Names, taken-Array)

pub ruleset written_whole = (written-meaning, written-at)
