-- What a ground part is worth, as a number, in the order of values, and as a condition.
use Rattle.std.proofs.Common.{◌≡◌, ℕ, ℤ, pos, negsuc, ◌*ℤ◌, Bool, true, false, not, List, [], Option, None, Some, refl, sym, ap, ◌∙◌, arith}
use Rattle.std.specs.Ordering.{int_eq}
use Rattle.std.proofs.lemmas.Bool.Decides.{Decides-int_eq}
use Rattle.std.proofs.lemmas.Int.{ints}
use Rattle.opl_value.specs.declared.value.Value.{Value}
use Rattle.opl_value.specs.declared.value.Value.TheVariants as values
use Rattle.opl_eval.specs.Compare as compare
use Rattle.opl_eval.specs.Compare.{number_layer, rank, rank_layer}
use Rattle.opl_eval.specs.Evaluation.{is_true, truth_layer}
use Rattle.opl_meaning.specs.Assigned.{position_of}
use Rattle.opl_draft.specs.Drafts.{Cells}
use Rattle.opl_expr.specs.declared.forms.Cons.{Cons}
use Rattle.opl_expr.specs.declared.forms.Cons.TheVariants as C
use Rattle.opl_expr.specs.declared.forms.Expr.{Expr}
use Rattle.opl_expr.specs.declared.forms.Expr.TheVariants as E
use Rattle.opl_expr.specs.declared.forms.Op.TheVariants.{Ne}
use Rattle.opl_expr.specs.Forms.{Term, Fact, term, fact, product}
use Rattle.opl_expr.specs.Holds.{bit, value, holds, relates}
use Rattle.opl_expr.specs.Options.{lift1, lift}
use Rattle.opl_expr.proofs.Plain.{term_Const, term_Mul, term_Truth, fact_Cmp, fact_Fixed}
use Rattle.opl_form.specs.Worth.{Worth, hold, plain, val}
use Rattle.opl_form.specs.Parts.{Form, as_condition, as_number, nothing, ranked, tables}
use Rattle.opl_form.specs.Parts.Form.{known, number, name, condition, truth}

-- ---- values

pub number-Int : (n : ℤ) → compare.number (values.Int n) ≡ n
number-Int n = ap number_layer (values.outs-Int n)

pub number-Bool : (b : Bool) → compare.number (values.Bool b) ≡ bit b
number-Bool b = ap number_layer (values.outs-Bool b)

pub number-Enum : (d p : ℕ) → compare.number (values.Enum d p) ≡ pos 0
number-Enum d p = ap number_layer (values.outs-Enum d p)

pub rank-Int : (n : ℤ) → rank (values.Int n) ≡ n
rank-Int n = ap rank_layer (values.outs-Int n)

pub rank-Bool : (b : Bool) → rank (values.Bool b) ≡ bit b
rank-Bool b = ap rank_layer (values.outs-Bool b)

pub rank-Enum : (d p : ℕ) → rank (values.Enum d p) ≡ pos p
rank-Enum d p = ap rank_layer (values.outs-Enum d p)

pub true-Int : (n : ℤ) → is_true (values.Int n) ≡ false
true-Int n = ap truth_layer (values.outs-Int n)

pub true-Bool : (b : Bool) → is_true (values.Bool b) ≡ b
true-Bool b = ap truth_layer (values.outs-Bool b)

pub true-Enum : (d p : ℕ) → is_true (values.Enum d p) ≡ false
true-Enum d p = ap truth_layer (values.outs-Enum d p)

-- ---- results that may be missing

pub lift-twice : {A B C : Type 0} (f : A → B) (g : B → C) (h : A → C) → ((x : A) → g (f x) ≡ h x) → (r : Option A) → lift1 g (lift1 f r) ≡ lift1 h r
lift-twice f g h is None = refl
lift-twice f g h is (Some x) = ap (λ y. Some y) (is x)

pub lift-same : {A : Type 0} (f : A → A) → ((x : A) → f x ≡ x) → (r : Option A) → lift1 f r ≡ r
lift-same f is None = refl
lift-same f is (Some x) = ap (λ y. Some y) (is x)

zero-times : (v : ℤ) → (pos 0) *ℤ v ≡ pos 0
zero-times (pos n) = omega (arith, ints)
zero-times (negsuc n) = omega (arith, ints)

eq-self : (v : ℤ) → int_eq v v ≡ true
eq-self v = (Decides-int_eq v v).1 refl

module _ (arrays : List Cells) (ns : List ℤ) where
  pub val-Const : (k : ℤ) → val arrays ns (E.Const k) ≡ Some k
  val-Const k = ap (value ns) (term_Const (tables arrays) [] k)

  pub val-Truth : (c : Cons) → val arrays ns (E.Truth c) ≡ lift1 bit (hold arrays ns c)
  val-Truth c = ap (value ns) (term_Truth (tables arrays) [] c)

  pub val-nothing : (e : Expr) → val arrays ns (E.Mul (E.Const (pos 0)) e) ≡ lift1 (λ v. (pos 0) *ℤ v) (val arrays ns e)
  val-nothing e = ap (value ns) (term_Mul (tables arrays) [] (E.Const (pos 0)) e ∙ ap (λ t. product t (plain arrays e)) (term_Const (tables arrays) [] (pos 0)))

  pub as_number-worth : (r : Option Value) (g : Form) → Worth arrays ns r g → lift1 compare.number r ≡ val arrays ns (as_number g)
  as_number-worth r (known v) h = ap (lift1 compare.number) h ∙ sym (val-Const (compare.number v))
  as_number-worth r (number e) h = ap (lift1 compare.number) h ∙ lift-twice values.Int compare.number (λ n. n) number-Int (val arrays ns e) ∙ lift-same (λ n. n) (λ n. refl) (val arrays ns e)
  as_number-worth r (name d e) h =
      ap (lift1 compare.number) h.0 ∙ lift-twice (λ n. values.Enum d (position_of n)) compare.number (λ v. pos 0 *ℤ v) (λ n. number-Enum d (position_of n) ∙ sym (zero-times n)) (val arrays ns e)
      ∙ sym (val-nothing e)
  as_number-worth r (condition c) h = ap (lift1 compare.number) h ∙ lift-twice values.Bool compare.number bit number-Bool (hold arrays ns c) ∙ sym (val-Truth c)
  as_number-worth r (truth c) h = ap (lift1 compare.number) h ∙ lift-twice values.Bool compare.number bit number-Bool (hold arrays ns c) ∙ sym (val-Truth c)

  rank-name : (d : ℕ) (o : Option ℤ) → ((n : ℤ) → o ≡ Some n → n ≡ pos (position_of n)) → lift1 rank (lift1 (λ n. values.Enum d (position_of n)) o) ≡ o
  rank-name d None h = refl
  rank-name d (Some n) h = ap (λ m. Some m) (rank-Enum d (position_of n) ∙ sym (h n refl))

  pub rank-worth : (r : Option Value) (g : Form) → Worth arrays ns r g → lift1 rank r ≡ val arrays ns (ranked g)
  rank-worth r (known v) h = ap (lift1 rank) h ∙ sym (val-Const (rank v))
  rank-worth r (number e) h = ap (lift1 rank) h ∙ lift-twice values.Int rank (λ n. n) rank-Int (val arrays ns e) ∙ lift-same (λ n. n) (λ n. refl) (val arrays ns e)
  rank-worth r (name d e) h = ap (lift1 rank) h.0 ∙ rank-name d (val arrays ns e) h.1
  rank-worth r (condition c) h = ap (lift1 rank) h ∙ lift-twice values.Bool rank bit rank-Bool (hold arrays ns c) ∙ sym (val-Truth c)
  rank-worth r (truth c) h = ap (lift1 rank) h ∙ lift-twice values.Bool rank bit rank-Bool (hold arrays ns c) ∙ sym (val-Truth c)

  never : (o : Option ℤ) → lift1 (λ n. false) o ≡ lift1 not (lift (relates Rattle.opl_expr.specs.Forms.Relation.equal) (lift1 (λ v. pos 0 *ℤ v) o) (lift1 (λ v. pos 0 *ℤ v) o))
  never None = refl
  never (Some n) = ap (λ b. Some (not b)) (sym (eq-self (pos 0 *ℤ n)))

  hold-Ne : (e : Expr) → hold arrays ns (C.Cmp Ne (nothing e) (nothing e)) ≡ lift1 not (lift (relates Rattle.opl_expr.specs.Forms.Relation.equal) (lift1 (λ v. pos 0 *ℤ v) (val arrays ns e)) (lift1 (λ v. pos 0 *ℤ v) (val arrays ns e)))
  hold-Ne e = ap (holds ns) (fact_Cmp (tables arrays) [] Ne (nothing e) (nothing e)) ∙ (λ i. lift1 not (lift (relates Rattle.opl_expr.specs.Forms.Relation.equal) (val-nothing e i) (val-nothing e i)))

  pub truth-worth : (r : Option Value) (g : Form) → Worth arrays ns r g → lift1 is_true r ≡ hold arrays ns (as_condition g)
  truth-worth r (known v) h = ap (lift1 is_true) h ∙ sym (ap (holds ns) (fact_Fixed (tables arrays) [] (is_true v)))
  truth-worth r (number e) h = ap (lift1 is_true) h ∙ lift-twice values.Int is_true (λ n. false) true-Int (val arrays ns e) ∙ never (val arrays ns e) ∙ sym (hold-Ne e)
  truth-worth r (name d e) h = ap (lift1 is_true) h.0 ∙ lift-twice (λ n. values.Enum d (position_of n)) is_true (λ n. false) (λ n. true-Enum d (position_of n)) (val arrays ns e) ∙ never (val arrays ns e) ∙ sym (hold-Ne e)
  truth-worth r (condition c) h = ap (lift1 is_true) h ∙ lift-twice values.Bool is_true (λ b. b) true-Bool (hold arrays ns c) ∙ lift-same (λ b. b) (λ b. refl) (hold arrays ns c)
  truth-worth r (truth c) h = ap (lift1 is_true) h ∙ lift-twice values.Bool is_true (λ b. b) true-Bool (hold arrays ns c) ∙ lift-same (λ b. b) (λ b. refl) (hold arrays ns c)
