-- Values that are assigned have the form of a type that takes numbers.
use Rattle.std.proofs.Common.{◌≡◌, ◌⊎◌, inl, inr, ◌&&◌, ℕ, zero, suc, ℤ, pos, Bool, true, false, true≢false, cond, List, [], ◌∷◌, length, map, set, Option, None, Some, Ok, Err, refl, sym, ap, subst, ◌∙◌, arith}
use Rattle.std.specs.Prelude.{bytes_eq, int_le}
use Rattle.std.specs.List.{AllByRecursion, list_all}
use Rattle.std.proofs.lemmas.List.{length-set}
use Rattle.opl_value.specs.declared.value.Value.{Value}
use Rattle.opl_value.specs.declared.value.Value.TheVariants as values
use Rattle.opl_value.specs.Places.{place_of, value_at}
use Rattle.opl_given.specs.declared.assigned.Override.{Override}
use Rattle.opl_given.specs.declared.fault.BindFault.TheVariants as faults
use Rattle.opl_given.specs.declared.form.Form.{Form}
use Rattle.opl_given.specs.Assigned.{all_assigned, assigned, is_assigned, is_within, overridden, placed}
use Rattle.opl_given.specs.Faults.{then}
use Rattle.opl_given.specs.Forms.{Known}
use Rattle.opl_given.specs.Given.{GivenValue}
use Rattle.opl_given.specs.Items.{given_or_assigned, single_value}
use Rattle.opl_given.specs.Names.{Text}
use Rattle.opl_given.proofs.CellLaws.{passed, same_ok, went_first}
use Rattle.opl_given.proofs.Numbers.{within-Range-Int}
use Rattle.opl_fit.specs.Fits.{Fits, whole, within}
use Rattle.opl_fit.specs.Laws.{TakesNumbers}
use Rattle.opl_fit.proofs.Given.{and_left, and_right, at_most, value-reads}

-- a value of this form, or a number
abbrev pub FitsOrNumber : Known → Form → Value → Type 0
FitsOrNumber known form v = Fits known form v ⊎ ((n : ℤ) × (v ≡ values.Int n))

set-all : (P : Value → Type 0) (vs : List Value) (p : ℕ) (x : Value) → AllByRecursion P vs → P x → AllByRecursion P (set vs p x)
set-all P [] p x h k = tt
set-all P (v ∷ vs) zero x h k = (k, h.1)
set-all P (v ∷ vs) (suc p) x h k = (h.0, set-all P vs p x h.1 k)

-- this holds of as many cells as there were
abbrev Kept : (Value → Type 0) → List Value → List Value → Type 0
Kept P cells more = AllByRecursion P more × (length more ≡ length cells)

module _ (P : Value → Type 0) (numbers : (n : ℤ) → P (values.Int n)) where
  kept-placed : (name : Text) (cells more : List Value) (p : Option ℕ) (n : ℤ) → AllByRecursion P cells → placed name cells p n ≡ Ok more → Kept P cells more
  kept-placed name cells more None n h e = absurd (cc)
  kept-placed name cells more (Some p) n h e =
      subst (Kept P cells) (same_ok (set cells p (values.Int n)) more e) (set-all P cells p (values.Int n) h (numbers n), length-set cells p (values.Int n))

  kept-assigned : (name : Text) (ls : List (List Value)) (cells more : List Value) (os : List Override) → AllByRecursion P cells → all_assigned name ls cells os ≡ Ok more → Kept P cells more
  kept-assigned name ls cells more [] h e = subst (Kept P cells) (same_ok cells more e) (h, refl)
  kept-assigned name ls cells more (o ∷ os) h e = by (bytes_eq name o.name) (λ cs k g. kept-assigned name ls cs more os k g) e
    where
      by : (b : Bool) → ((cs : List Value) → AllByRecursion P cs → all_assigned name ls cs os ≡ Ok more → Kept P cs more) →
          cond b (then (assigned name ls cells o) (λ m. all_assigned name ls m os)) (all_assigned name ls cells os) ≡ Ok more → Kept P cells more
      by true inner g =
          let w = went_first (assigned name ls cells o) (λ m. all_assigned name ls m os) more g in
          let p = kept-placed name cells w.0 (place_of ls (map values.Int o.index)) o.value h w.1 in
          let r = inner w.0 p.0 w.2 in
          (r.0, r.1 ∙ p.1)
      by false inner g = inner cells h g

-- ---- within the ends of a type that takes numbers

number-fits : (known : Known) (form : Form) (n : ℤ) → TakesNumbers form → is_within form (values.Int n) ≡ true → Fits known form (values.Int n)
number-fits known form n (inl e) h = subst (λ f. Fits known f (values.Int n)) (sym e) (whole n)
number-fits known form n (inr r) h =
    let t : int_le r.0 n && int_le n r.1 ≡ true = sym (within-Range-Int r.0 r.1 n) ∙ sym (ap (λ f. is_within f (values.Int n)) r.2) ∙ h in
    subst (λ f. Fits known f (values.Int n)) (sym r.2)
    (within r.0 r.1 n (at_most r.0 n (and_left (int_le r.0 n) (int_le n r.1) t)) (at_most n r.1 (and_right (int_le r.0 n) (int_le n r.1) t)))

one-fits : (known : Known) (form : Form) (v : Value) → TakesNumbers form → FitsOrNumber known form v → is_within form v ≡ true → Fits known form v
one-fits known form v t (inl f) h = f
one-fits known form v t (inr n) h = subst (Fits known form) (sym n.1) (number-fits known form n.0 t (sym (ap (is_within form) n.1) ∙ h))

all-within : (known : Known) (form : Form) (vs : List Value) → TakesNumbers form → AllByRecursion (FitsOrNumber known form) vs → list_all (is_within form) vs ≡ true → AllByRecursion (Fits known form) vs
all-within known form [] t q h = tt
all-within known form (v ∷ vs) t q h =
    (one-fits known form v t q.0 (and_left (is_within form v) (list_all (is_within form) vs) h), all-within known form vs t q.1 (and_right (is_within form v) (list_all (is_within form) vs) h))

-- the cells of an item after the assignments
pub overridden-fits : (known : Known) (name : Text) (form : Form) (ls : List (List Value)) (cells more : List Value) (os : List Override) →
    (is_assigned name os ≡ true → TakesNumbers form) → AllByRecursion (FitsOrNumber known form) cells → (is_assigned name os ≡ false → AllByRecursion (Fits known form) cells) →
    overridden name form ls cells os ≡ Ok more → Kept (Fits known form) cells more
unfolding overridden
overridden-fits known name form ls cells more os takes all plain h = by (is_assigned name os) refl h
  where
    by : (b : Bool) → is_assigned name os ≡ b → cond b (then (all_assigned name ls cells os) (λ m. cond (list_all (is_within form) m) (Ok m) (Err (faults.Override name)))) (Ok cells) ≡ Ok more → Kept (Fits known form) cells more
    by true e g =
        let w = went_first (all_assigned name ls cells os) (λ m. cond (list_all (is_within form) m) (Ok m) (Err (faults.Override name))) more g in
        let k = kept-assigned (FitsOrNumber known form) (λ n. inr (n, refl)) name ls cells w.0 os all w.1 in
        let p = passed (list_all (is_within form) w.0) (Ok w.0) (faults.Override name) more w.2 in
        subst (Kept (Fits known form) cells) (same_ok w.0 more p.1) (all-within known form w.0 (takes e) k.0 p.0, k.1)
    by false e g = subst (Kept (Fits known form) cells) (same_ok cells more g) (plain e, refl)

-- ---- items without dimensions

sources : (known : Known) (form : Form) (name : Text) (os : List Override) (g : Option GivenValue) (v : Value) → given_or_assigned known form name os g ≡ Ok v →
    FitsOrNumber known form v × (is_assigned name os ≡ false → Fits known form v)
sources known form name os (Some g) v h = let f = value-reads known g.file g.value form v h in (inl f, λ e. f)
sources known form name os None v h =
    let p = passed (is_assigned name os) (Ok (values.Int (pos 0))) (faults.Missing name) v h in
    (inr (pos 0, sym (same_ok (values.Int (pos 0)) v p.1)), λ e. absurd (true≢false (sym p.0 ∙ e)))

first-holds : (P : Value → Type 0) (vs : List Value) → AllByRecursion P vs → length vs ≡ 1 → P (value_at vs 0)
first-holds P [] h l = absurd (omega arith)
first-holds P (v ∷ vs) h l = h.0

pub single-fits : (known : Known) (form : Form) (name : Text) (os : List Override) (g : Option GivenValue) (v : Value) → (is_assigned name os ≡ true → TakesNumbers form) →
    single_value known form name os g ≡ Ok v → Fits known form v
single-fits known form name os g v takes h =
    let w = went_first (given_or_assigned known form name os g) (λ u. then (overridden name form [] (u ∷ []) os) (λ cells. Ok (value_at cells 0))) v h in
    let s = sources known form name os g w.0 w.1 in
    let o = went_first (overridden name form [] (w.0 ∷ []) os) (λ cells. Ok (value_at cells 0)) v w.2 in
    let k = overridden-fits known name form [] (w.0 ∷ []) o.0 os takes (s.0, tt) (λ e. (s.1 e, tt)) o.1 in
    subst (Fits known form) (same_ok (value_at o.0 0) v o.2) (first-holds (Fits known form) o.0 k.0 (k.1 ∙ omega arith))

pub fits-or-number : (known : Known) (form : Form) (vs : List Value) → AllByRecursion (Fits known form) vs → AllByRecursion (FitsOrNumber known form) vs
fits-or-number known form [] h = tt
fits-or-number known form (v ∷ vs) h = (inl h.0, fits-or-number known form vs h.1)
