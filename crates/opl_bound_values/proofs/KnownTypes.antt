-- What the declarations say of types, as values and in typing.
use Rattle.std.proofs.Common.{◌≡◌, ◌<◌, ℕ, zero, suc, ◌+◌, Bool, true, false, cond, List, [], ◌∷◌, ◌++◌, length, Option, None, Some, refl, sym, ap, subst, ◌∙◌, arith}
use Rattle.std.specs.Prelude.{bytes_eq, nat_eq}
use Rattle.std.specs.List.{slice_get}
use Rattle.std.proofs.lemmas.Bool.Decides.{nat_tests}
use Rattle.opl_tree.specs.declared.declaration.TypeTree.{TypeTree}
use Rattle.opl_tree.specs.declared.declaration.TypeTree.TheOpen.{TypeTree-F}
use Rattle.opl_tree.specs.declared.declaration.TypeTree.TheFolds.{fold-roll-TypeTree, ind-TypeTree, map-TypeTree}
use Rattle.opl_tree.specs.declared.declaration.TypeTree.TheViews.{roll-TypeTree}
use Rattle.opl_type_rules.specs.Types.{Sort}
use Rattle.opl_type_rules.specs.Scope.{Scope, Text, lookup, type_of}
use Rattle.opl_typed_model.specs.Declares.{IsType, Written, written, written_layer}
use Rattle.opl_given.specs.declared.form.Form.{Form}
use Rattle.opl_given.specs.declared.form.Form.TheVariants as forms
use Rattle.opl_given.specs.Forms.{Known, fields_of, form_at, form_named, form_of, names_of, or_none, or_nothing, type_layer, with_declaration, with_type}
use Rattle.opl_given.specs.Names.{latest, position}
use Rattle.opl_fit.specs.Typed.{IsFormOf, of_numbers, of_sets}
use Rattle.opl_bound_values.proofs.Moves.{Below}

-- ---- what is known behind one more declaration

-- numbers that are told apart
pub same-number : (m n : ℕ) → nat_eq m n ≡ true → m ≡ n
same-number m n h = grind (arith, nat_tests, h)

pub other-number : (m n : ℕ) → m < n → nat_eq m n ≡ false
other-number m n l = by (nat_eq m n) refl
  where
    by : (b : Bool) → nat_eq m n ≡ b → b ≡ false
    by true k = absurd (let e = same-number m n k in omega (arith, l, e))
    by false k = refl

more-number : (j : ℕ) → nat_eq (suc j) 0 ≡ false
more-number j = by (nat_eq (suc j) 0) refl
  where
    by : (b : Bool) → nat_eq (suc j) 0 ≡ b → b ≡ false
    by true k = absurd (let e = same-number (suc j) 0 k in omega (arith, e))
    by false k = refl

suc-number : (m n : ℕ) → nat_eq (suc m) (suc n) ≡ nat_eq m n
suc-number m n = grind (arith, nat_tests)

pub get-behind : {A : Type 0} (xs : List (List A)) (x : List A) (j : ℕ) → or_none (slice_get (xs ++ x ∷ []) j) ≡ cond (nat_eq j (length xs)) x (or_none (slice_get xs j))
get-behind [] x zero = refl
get-behind [] x (suc j) = sym (ap (λ b. cond b x []) (more-number j))
get-behind (y ∷ ys) x zero = sym (ap (λ b. cond b x y) (other-number 0 (suc (length ys)) (omega arith)))
get-behind (y ∷ ys) x (suc j) = get-behind ys x j ∙ sym (ap (λ b. cond b x (or_none (slice_get ys j))) (suc-number j (length ys)))

pub get-nothing : {A : Type 0} (xs : List (List A)) (j : ℕ) → or_none (slice_get (xs ++ [] ∷ []) j) ≡ or_none (slice_get xs j)
get-nothing [] zero = refl
get-nothing [] (suc j) = refl
get-nothing (y ∷ ys) zero = refl
get-nothing (y ∷ ys) (suc j) = get-nothing ys j

pub names-behind : (known : Known) (ns : List Text) (fs : List Form) (j : ℕ) → names_of (with_declaration ns fs known) j ≡ cond (nat_eq j (length known.enumerations)) ns (names_of known j)
unfolding names_of with_declaration
names-behind known ns fs j = get-behind known.enumerations ns j

pub names-same : (known : Known) (fs : List Form) (j : ℕ) → names_of (with_declaration [] fs known) j ≡ names_of known j
unfolding names_of with_declaration
names-same known fs j = get-nothing known.enumerations j

pub fields-behind : (known : Known) (ns : List Text) (fs : List Form) (j : ℕ) → fields_of (with_declaration ns fs known) j ≡ cond (nat_eq j (length known.fields)) fs (fields_of known j)
unfolding fields_of with_declaration
fields-behind known ns fs j = get-behind known.fields fs j

pub fields-same : (known : Known) (ns : List Text) (j : ℕ) → fields_of (with_declaration ns [] known) j ≡ fields_of known j
unfolding fields_of with_declaration
fields-same known ns j = get-nothing known.fields j

pub form-same : (known : Known) (ns : List Text) (fs : List Form) (name : Text) → form_named (with_declaration ns fs known) name ≡ form_named known name
unfolding form_named with_declaration
form-same known ns fs name = refl

-- a type that is named leaves names of enumerations and fields as they are
pub names-typed : (known : Known) (name : Text) (form : Form) (j : ℕ) → names_of (with_type name form known) j ≡ names_of known j
unfolding names_of with_type
names-typed known name form j = refl

pub fields-typed : (known : Known) (name : Text) (form : Form) (j : ℕ) → fields_of (with_type name form known) j ≡ fields_of known j
unfolding fields_of with_type
fields-typed known name form j = refl

latest-behind : (before : Option ℕ) (i : ℕ) (name text : Text) (ns : List Text) → latest before i name (ns ++ text ∷ []) ≡ cond (bytes_eq name text) (Some (i + length ns)) (latest before i name ns)
latest-behind before i name text [] = ap (λ (n : ℕ). cond (bytes_eq name text) (Some n) before) (omega arith)
latest-behind before i name text (n ∷ ns) =
    latest-behind (cond (bytes_eq name n) (Some i) before) (i + 1) name text ns
    ∙ ap (λ (m : ℕ). cond (bytes_eq name text) (Some m) (latest (cond (bytes_eq name n) (Some i) before) (i + 1) name ns)) (omega arith)

abbrev Within : ℕ → Option ℕ → Type 0
Within n None = Unit {0}
Within n (Some p) = p < n

latest-within : (before : Option ℕ) (i : ℕ) (name : Text) (ns : List Text) → Within i before → Within (i + length ns) (latest before i name ns)
latest-within before i name [] h = widened before i (i + 0) h (omega arith)
  where
    widened : (o : Option ℕ) (m n : ℕ) → Within m o → m ≡ n → Within n o
    widened o m n k e = subst (λ (x : ℕ). Within x o) e k
latest-within before i name (n ∷ ns) h =
    subst (λ (x : ℕ). Within x (latest (cond (bytes_eq name n) (Some i) before) (i + 1) name ns)) (omega arith) (latest-within (cond (bytes_eq name n) (Some i) before) (i + 1) name ns (by (bytes_eq name n) before h))
  where
    grown : (o : Option ℕ) → Within i o → Within (i + 1) o
    grown None k = tt
    grown (Some p) k = omega (arith, k)

    by : (b : Bool) (o : Option ℕ) → Within i o → Within (i + 1) (cond b (Some i) o)
    by true o k = omega arith
    by false o k = grown o k

get-other : {A : Type 0} (xs : List A) (x : A) (p : ℕ) → p < length xs → slice_get (xs ++ x ∷ []) p ≡ slice_get xs p
get-other [] x p l = absurd (omega (arith, l))
get-other (y ∷ ys) x zero l = refl
get-other (y ∷ ys) x (suc p) l = get-other ys x p (omega (arith, l))

get-last : {A : Type 0} (xs : List A) (x : A) → slice_get (xs ++ x ∷ []) (length xs) ≡ Some x
get-last [] x = refl
get-last (y ∷ ys) x = get-last ys x

form-at-by : (fs : List Form) (form : Form) (b : Bool) (n : ℕ) (o : Option ℕ) → n ≡ length fs → Within (length fs) o → form_at (fs ++ form ∷ []) (cond b (Some n) o) ≡ cond b form (form_at fs o)
form-at-by fs form true n o e w = ap or_nothing (ap (slice_get (fs ++ form ∷ [])) e ∙ get-last fs form)
form-at-by fs form false n None e w = refl
form-at-by fs form false n (Some p) e w = ap or_nothing (get-other fs form p w)

pub form-typed : (known : Known) (text : Text) (form : Form) (name : Text) → length known.names ≡ length known.forms → form_named (with_type text form known) name ≡ cond (bytes_eq name text) form (form_named known name)
unfolding form_named with_type
form-typed known text form name e =
    ap (form_at (known.forms ++ form ∷ [])) (latest-behind None 0 name text known.names)
    ∙ form-at-by known.forms form (bytes_eq name text) (0 + length known.names) (position name known.names) (omega (arith, e)) (subst (λ (n : ℕ). Within n (position name known.names)) (omega (arith, e)) (latest-within None 0 name known.names tt))

-- ---- types

-- each type has the form that is known of it, and names declarations below k
abbrev pub TypesAgree : ℕ → Scope → Known → Type 0
TypesAgree k sc known = (name : Text) (s : Sort) → type_of (lookup sc name) ≡ Some s → IsFormOf (form_named known name) s × Below k s

abbrev OfType : ℕ → Scope → Known → (Known → Form) → Written → Type 0
OfType k sc known form w = (s : Sort) → IsType sc w s → IsFormOf (form known) s × Below k s

abbrev Inner : ℕ → Scope → Known → Type 0
Inner k sc known = (t : TypeTree) × OfType k sc known (form_of t) (written t)

form-roll : (x : TypeTree-F TypeTree) → form_of (roll-TypeTree x) ≡ type_layer (map-TypeTree TypeTree (Known → Form) form_of x)
unfolding form_of
form-roll x = fold-roll-TypeTree (Known → Form) type_layer x

written-roll : (x : TypeTree-F TypeTree) → written (roll-TypeTree x) ≡ written_layer (map-TypeTree TypeTree Written written x)
unfolding written
written-roll x = fold-roll-TypeTree Written written_layer x

layer-types : (k : ℕ) (sc : Scope) (known : Known) → TypesAgree k sc known → (y : TypeTree-F (Inner k sc known)) →
    OfType k sc known (type_layer (map-TypeTree TypeTree (Known → Form) form_of (map-TypeTree (Inner k sc known) TypeTree (λ e. e.0) y))) (written_layer (map-TypeTree TypeTree Written written (map-TypeTree (Inner k sc known) TypeTree (λ e. e.0) y)))
layer-types k sc known agree (TypeTree-F.Int at) s h = (subst (IsFormOf forms.Int) (sym h) of_numbers, subst (Below k) (sym h) tt)
layer-types k sc known agree (TypeTree-F.Named name) s h = agree name.text s h
layer-types k sc known agree (TypeTree-F.Set at e) s h =
    let r = e.1 h.0 h.1 in (subst (IsFormOf (forms.Set (form_of e.0 known))) (sym h.2) (of_sets (form_of e.0 known) h.0 r.0), subst (Below k) (sym h.2) r.1)

pub type-form : (k : ℕ) (sc : Scope) (known : Known) → TypesAgree k sc known → (t : TypeTree) → OfType k sc known (form_of t) (written t)
type-form k sc known agree = ind-TypeTree (λ t. OfType k sc known (form_of t) (written t)) (λ x y is.
    subst (λ (f : Known → Form). OfType k sc known f (written (roll-TypeTree x))) (sym (form-roll x))
    (subst (λ (w : Written). OfType k sc known (type_layer (map-TypeTree TypeTree (Known → Form) form_of x)) w) (sym (written-roll x))
    (subst (λ (z : TypeTree-F TypeTree). OfType k sc known (type_layer (map-TypeTree TypeTree (Known → Form) form_of z)) (written_layer (map-TypeTree TypeTree Written written z))) is (layer-types k sc known agree y))))
