-- The plain data of forms whose questions are answered.
use Rattle.std.proofs.Common.{◌≡◌, ℕ, Bool, true, false, refl, List, [], ◌∷◌, ◌++◌, map, ℤ, ap, sym, ◌∙◌}
use Rattle.std.specs.Prelude.{Option, Some, None, slice_get}
use Rattle.opl_domain.specs.Family.{Family}
use Rattle.opl_expr.specs.declared.forms.Ask.{Ask}
use Rattle.opl_expr.specs.declared.forms.Op.{Op}
use Rattle.opl_expr.specs.declared.forms.Op.TheVariants.{Eq, Ne, Lt, Le, Gt, Ge}
use Rattle.opl_expr.specs.declared.forms.Expr.{Expr}
use Rattle.opl_expr.specs.declared.forms.Expr.TheVariants as E
use Rattle.opl_expr.specs.declared.forms.Cons.{Cons}
use Rattle.opl_expr.specs.declared.forms.Cons.TheVariants as C
use Rattle.opl_expr.specs.declared.tables.Table.{Table}
use Rattle.opl_expr.specs.declared.tables.Resource.{Resource}
use Rattle.opl_expr.specs.declared.tables.Use.{Use}
use Rattle.opl_expr.specs.Forms.{Term, Terms, Fact, terms_of, facts_of, constant_value, product, compared, demand_at, capacity_at, term, fact}
use Rattle.opl_expr.specs.Forms.Facts.{no_facts, more_facts}
use Rattle.opl_expr.specs.Forms.Relation.{equal, at_most}
use Rattle.opl_expr.proofs.Plain.{term_Const, term_Var, term_Sum, term_Neg, term_Mul, term_Div, term_Rem, term_Abs, term_Min, term_Max, term_At, term_Truth, term_Ask, fact_Fixed, fact_Cmp, fact_And, fact_Or, fact_Imp, fact_Iff, fact_Not, fact_AllDifferent, fact_Capacity, fact_Bound}
use Rattle.opl_expr.proofs.Parts.{product_cases}
use Rattle.opl_trace.specs.Answers.{answer, answered_term, answered_terms, answered, all_answered, is_single}
use Rattle.opl_choices.specs.Answered.{is_some_number, is_swapped}
use Rattle.std.proofs.Common.{subst, length, pos, ◌≤◌}
use Rattle.std.specs.Prelude.{nat_eq}
use Rattle.opl_domain.specs.Span.{hull_of}
use Rattle.opl_domain.specs.Family.{set_of, hull, IsLeast, IsGreatest}
use Rattle.opl_domain.proofs.Sets.{set_of-past, hull_made, first_is_least, last_is_greatest}
use Rattle.opl_domain.specs.Family.{IsFamily, member}
use Rattle.std.proofs.Common.{◌<◌, ◌-◌, get_or, arith}
use Rattle.opl_expr.specs.declared.forms.Ask.TheVariants.{Size, Least, Greatest}

-- ---- lists

terms_answered : {X : Type 0} (F : Family) (f : X → Term) (xs : List X) → terms_of (map (λ x. answered_term F (f x)) xs) ≡ answered_terms F (terms_of (map f xs))
terms_answered F f [] = refl
terms_answered F f (x ∷ xs) = ap (Terms.more_terms (answered_term F (f x))) (terms_answered F f xs)

facts_answered : {X : Type 0} (F : Family) (f : X → Fact) (xs : List X) → facts_of (map (λ x. answered F (f x)) xs) ≡ all_answered F (facts_of (map f xs))
facts_answered F f [] = refl
facts_answered F f (x ∷ xs) = ap (more_facts (answered F (f x))) (facts_answered F f xs)

compared_answered : (F : Family) (op : Op) (s t : Term) → compared op (answered_term F s) (answered_term F t) ≡ answered F (compared op s t)
compared_answered F Eq s t = refl
compared_answered F Ne s t = refl
compared_answered F Lt s t = refl
compared_answered F Le s t = refl
compared_answered F Gt s t = refl
compared_answered F Ge s t = refl

-- ---- capacities, which ask nothing

demands_answered : (F : Family) (t : ℤ) (uses : List Use) → answered_terms F (terms_of (map (demand_at t) uses)) ≡ terms_of (map (demand_at t) uses)
demands_answered F t [] = refl
demands_answered F t (u ∷ uses) = ap (Terms.more_terms (demand_at t u)) (demands_answered F t uses)

capacity_answered : (F : Family) (o : Option Resource) (t : ℤ) → answered F (capacity_at o t) ≡ capacity_at o t
capacity_answered F None t = refl
capacity_answered F (Some r) t = ap (λ ts. Fact.cmp at_most (Term.sum ts) (Term.const r.capacity)) (demands_answered F t r.uses)

-- ---- products

product_no_number : (s t : Term) → is_some_number (constant_value (product s t)) ≡ false
product_no_number = product_cases (λ s t p. is_some_number (constant_value p) ≡ false) (λ k t. refl) (λ s k. refl) (λ s t. refl)

pub swapped_is : (o p : Option ℤ) → (is_some_number o ≡ true → false ≡ is_swapped o p) × (is_some_number o ≡ false → is_some_number p ≡ is_swapped o p)
swapped_is None None = (λ e. cc, λ e. refl)
swapped_is None (Some k) = (λ e. cc, λ e. refl)
swapped_is (Some j) p = (λ e. refl, λ e. cc)

-- a number is its own answer
number_is : (t : Term) → is_some_number (constant_value t) ≡ true → (k : ℤ) × (t ≡ Term.const k)
number_is (Term.const k) e = (k, refl)
number_is (Term.var x) e = cc
number_is (Term.sum ts) e = cc
number_is (Term.neg s) e = cc
number_is (Term.scale k s) e = cc
number_is (Term.mul r s) e = cc
number_is (Term.div r s) e = cc
number_is (Term.rem r s) e = cc
number_is (Term.abs s) e = cc
number_is (Term.least ts) e = cc
number_is (Term.greatest ts) e = cc
number_is (Term.at table ts) e = cc
number_is (Term.truth c) e = cc
number_is (Term.asked ask x) e = cc

none_is : (o : Option ℤ) → is_some_number o ≡ false → o ≡ None
none_is None e = refl
none_is (Some k) e = cc

swapped_at : (F : Family) (s t : Term) (o p : Option ℤ) → constant_value s ≡ o → constant_value t ≡ p → is_swapped o p ≡ true → product (answered_term F t) (answered_term F s) ≡ answered_term F (product s t)
swapped_at F s t None None e f h = cc
swapped_at F s t None (Some k) e f h =
    let n = number_is t (ap is_some_number f) in
    let a : product (answered_term F (Term.const n.0)) (answered_term F s) ≡ answered_term F (product s (Term.const n.0)) = rw e refl in
    subst (λ r. product (answered_term F r) (answered_term F s) ≡ answered_term F (product s r)) (sym n.1) a
swapped_at F s t (Some j) None e f h = cc
swapped_at F s t (Some j) (Some k) e f h = cc

kept_at : (F : Family) (s t : Term) (o p : Option ℤ) → constant_value s ≡ o → constant_value t ≡ p → is_swapped o p ≡ false → product (answered_term F s) (answered_term F t) ≡ answered_term F (product s t)
kept_at F s t None None e f h = rw (e, f) refl
kept_at F s t None (Some k) e f h = cc
kept_at F s t (Some j) p e f h =
    let n = number_is s (ap is_some_number e) in
    subst (λ r. product (answered_term F r) (answered_term F t) ≡ answered_term F (product r t)) (sym n.1) refl

-- where the second factor alone is a number, it comes before the answer of the other
pub swapped_answered : (F : Family) (s t : Term) → is_swapped (constant_value s) (constant_value t) ≡ true → product (answered_term F t) (answered_term F s) ≡ answered_term F (product s t)
swapped_answered F s t h = swapped_at F s t (constant_value s) (constant_value t) refl refl h

-- else the factors stay in their order
pub kept_answered : (F : Family) (s t : Term) → is_swapped (constant_value s) (constant_value t) ≡ false → product (answered_term F s) (answered_term F t) ≡ answered_term F (product s t)
kept_answered F s t h = kept_at F s t (constant_value s) (constant_value t) refl refl h

-- ---- forms

zero_low : (hull_of []).low ≡ pos 0
unfolding hull_of
zero_low = refl

zero_high : (hull_of []).high ≡ pos 0
unfolding hull_of
zero_high = refl

module _ (tables : List Table) (resources : List Resource) (F : Family) where
  abbrev tm : Expr → Term
  tm e = term tables resources e

  abbrev ft : Cons → Fact
  ft c = fact tables resources c

  -- what was read and answered is the answer of the part
  pub part : (a g s : Expr) → g ≡ a → tm s ≡ answered_term F (tm g) → tm s ≡ answered_term F (tm a)
  part a g s i k = k ∙ ap (λ z. answered_term F (tm z)) i

  pub fact_part : (a g s : Cons) → g ≡ a → ft s ≡ answered F (ft g) → ft s ≡ answered F (ft a)
  fact_part a g s i k = k ∙ ap (λ z. answered F (ft z)) i

  -- what is boxed is the answer where what stands in the box is
  pub boxed : (e q r : Expr) → r ≡ q → tm q ≡ answered_term F (tm e) → tm r ≡ answered_term F (tm e)
  boxed e q r l p = ap tm l ∙ p

  pub fact_boxed : (c q r : Cons) → r ≡ q → ft q ≡ answered F (ft c) → ft r ≡ answered F (ft c)
  fact_boxed c q r l p = ap ft l ∙ p

  pub parts : (es gs rs : List Expr) → gs ≡ es → map tm rs ≡ map (λ e. answered_term F (tm e)) gs → terms_of (map tm rs) ≡ answered_terms F (terms_of (map tm es))
  parts es gs rs i k = ap terms_of k ∙ ap (λ zs. terms_of (map (λ e. answered_term F (tm e)) zs)) i ∙ terms_answered F tm es

  pub fact_parts : (cs gs rs : List Cons) → gs ≡ cs → map ft rs ≡ map (λ c. answered F (ft c)) gs → facts_of (map ft rs) ≡ all_answered F (facts_of (map ft cs))
  fact_parts cs gs rs i k = ap facts_of k ∙ ap (λ zs. facts_of (map (λ c. answered F (ft c)) zs)) i ∙ facts_answered F ft cs

  pub made_Const : (e : Expr) (k j : ℤ) → e ≡ E.Const k → j ≡ k → tm (E.Const j) ≡ answered_term F (tm e)
  made_Const e k j i l = ap (λ v. tm (E.Const v)) l ∙ term_Const tables resources k ∙ sym (ap (answered_term F) (ap tm i ∙ term_Const tables resources k))

  pub made_Var : (e : Expr) (x : ℕ) → e ≡ E.Var x → tm (E.Var x) ≡ answered_term F (tm e)
  made_Var e x i = term_Var tables resources x ∙ sym (ap (answered_term F) (ap tm i ∙ term_Var tables resources x))

  pub made_Ask : (e : Expr) (ask : Ask) (x : ℕ) (v : ℤ) → e ≡ E.Ask ask x → v ≡ answer F ask x → tm (E.Const v) ≡ answered_term F (tm e)
  made_Ask e ask x v i l = term_Const tables resources v ∙ ap Term.const l ∙ sym (ap (answered_term F) (ap tm i ∙ term_Ask tables resources ask x))

  pub made_Neg : (e a r : Expr) → e ≡ E.Neg a → tm r ≡ answered_term F (tm a) → tm (E.Neg r) ≡ answered_term F (tm e)
  made_Neg e a r i p = term_Neg tables resources r ∙ ap Term.neg p ∙ sym (ap (answered_term F) (ap tm i ∙ term_Neg tables resources a))

  pub made_Abs : (e a r : Expr) → e ≡ E.Abs a → tm r ≡ answered_term F (tm a) → tm (E.Abs r) ≡ answered_term F (tm e)
  made_Abs e a r i p = term_Abs tables resources r ∙ ap Term.abs p ∙ sym (ap (answered_term F) (ap tm i ∙ term_Abs tables resources a))

  pub made_Truth : (e : Expr) (a r : Cons) → e ≡ E.Truth a → ft r ≡ answered F (ft a) → tm (E.Truth r) ≡ answered_term F (tm e)
  made_Truth e a r i p = term_Truth tables resources r ∙ ap Term.truth p ∙ sym (ap (answered_term F) (ap tm i ∙ term_Truth tables resources a))

  pub made_Div : (e a b r s : Expr) → e ≡ E.Div a b → tm r ≡ answered_term F (tm a) → tm s ≡ answered_term F (tm b) → tm (E.Div r s) ≡ answered_term F (tm e)
  made_Div e a b r s i p q =
      term_Div tables resources r s ∙ ap (λ u. Term.div u (tm s)) p ∙ ap (Term.div (answered_term F (tm a))) q ∙ sym (ap (answered_term F) (ap tm i ∙ term_Div tables resources a b))

  pub made_Rem : (e a b r s : Expr) → e ≡ E.Rem a b → tm r ≡ answered_term F (tm a) → tm s ≡ answered_term F (tm b) → tm (E.Rem r s) ≡ answered_term F (tm e)
  made_Rem e a b r s i p q =
      term_Rem tables resources r s ∙ ap (λ u. Term.rem u (tm s)) p ∙ ap (Term.rem (answered_term F (tm a))) q ∙ sym (ap (answered_term F) (ap tm i ∙ term_Rem tables resources a b))

  pub made_Mul : (e a b g h r : Expr) → e ≡ E.Mul a b → g ≡ a → h ≡ b → tm r ≡ answered_term F (product (tm g) (tm h)) → tm r ≡ answered_term F (tm e)
  made_Mul e a b g h r i j k p =
      p ∙ ap (λ z. answered_term F (product (tm z) (tm h))) j ∙ ap (λ z. answered_term F (product (tm a) (tm z))) k ∙ sym (ap (answered_term F) (ap tm i ∙ term_Mul tables resources a b))

  pub made_Sum : (e : Expr) (es rs : List Expr) → e ≡ E.Sum es → terms_of (map tm rs) ≡ answered_terms F (terms_of (map tm es)) → tm (E.Sum rs) ≡ answered_term F (tm e)
  made_Sum e es rs i p = term_Sum tables resources rs ∙ ap Term.sum p ∙ sym (ap (answered_term F) (ap tm i ∙ term_Sum tables resources es))

  pub made_Min : (e : Expr) (es rs : List Expr) → e ≡ E.Min es → terms_of (map tm rs) ≡ answered_terms F (terms_of (map tm es)) → tm (E.Min rs) ≡ answered_term F (tm e)
  made_Min e es rs i p = term_Min tables resources rs ∙ ap Term.least p ∙ sym (ap (answered_term F) (ap tm i ∙ term_Min tables resources es))

  pub made_Max : (e : Expr) (es rs : List Expr) → e ≡ E.Max es → terms_of (map tm rs) ≡ answered_terms F (terms_of (map tm es)) → tm (E.Max rs) ≡ answered_term F (tm e)
  made_Max e es rs i p = term_Max tables resources rs ∙ ap Term.greatest p ∙ sym (ap (answered_term F) (ap tm i ∙ term_Max tables resources es))

  pub made_At : (e : Expr) (t : ℕ) (es rs : List Expr) → e ≡ E.At t es → terms_of (map tm rs) ≡ answered_terms F (terms_of (map tm es)) → tm (E.At t rs) ≡ answered_term F (tm e)
  made_At e t es rs i p = term_At tables resources t rs ∙ ap (Term.at (slice_get tables t)) p ∙ sym (ap (answered_term F) (ap tm i ∙ term_At tables resources t es))

  pub made_Fixed : (c : Cons) (b : Bool) → c ≡ C.Fixed b → ft (C.Fixed b) ≡ answered F (ft c)
  made_Fixed c b i = fact_Fixed tables resources b ∙ sym (ap (answered F) (ap ft i ∙ fact_Fixed tables resources b))

  pub made_Cmp : (c : Cons) (op : Op) (a b r s : Expr) → c ≡ C.Cmp op a b → tm r ≡ answered_term F (tm a) → tm s ≡ answered_term F (tm b) → ft (C.Cmp op r s) ≡ answered F (ft c)
  made_Cmp c op a b r s i p q =
      fact_Cmp tables resources op r s ∙ ap (λ u. compared op u (tm s)) p ∙ ap (compared op (answered_term F (tm a))) q ∙ compared_answered F op (tm a) (tm b)
      ∙ sym (ap (answered F) (ap ft i ∙ fact_Cmp tables resources op a b))

  pub made_And : (c : Cons) (cs rs : List Cons) → c ≡ C.And cs → facts_of (map ft rs) ≡ all_answered F (facts_of (map ft cs)) → ft (C.And rs) ≡ answered F (ft c)
  made_And c cs rs i p = fact_And tables resources rs ∙ ap Fact.and p ∙ sym (ap (answered F) (ap ft i ∙ fact_And tables resources cs))

  pub made_Or : (c : Cons) (cs rs : List Cons) → c ≡ C.Or cs → facts_of (map ft rs) ≡ all_answered F (facts_of (map ft cs)) → ft (C.Or rs) ≡ answered F (ft c)
  made_Or c cs rs i p = fact_Or tables resources rs ∙ ap Fact.or p ∙ sym (ap (answered F) (ap ft i ∙ fact_Or tables resources cs))

  pub made_Imp : (c a b r s : Cons) → c ≡ C.Imp a b → ft r ≡ answered F (ft a) → ft s ≡ answered F (ft b) → ft (C.Imp r s) ≡ answered F (ft c)
  made_Imp c a b r s i p q =
      fact_Imp tables resources r s ∙ ap (λ u. Fact.or (more_facts (Fact.not u) (more_facts (ft s) no_facts))) p
      ∙ ap (λ u. Fact.or (more_facts (Fact.not (answered F (ft a))) (more_facts u no_facts))) q ∙ sym (ap (answered F) (ap ft i ∙ fact_Imp tables resources a b))

  pub made_Iff : (c a b r s : Cons) → c ≡ C.Iff a b → ft r ≡ answered F (ft a) → ft s ≡ answered F (ft b) → ft (C.Iff r s) ≡ answered F (ft c)
  made_Iff c a b r s i p q =
      fact_Iff tables resources r s ∙ ap (λ u. Fact.iff u (ft s)) p ∙ ap (Fact.iff (answered F (ft a))) q ∙ sym (ap (answered F) (ap ft i ∙ fact_Iff tables resources a b))

  pub made_Not : (c a r : Cons) → c ≡ C.Not a → ft r ≡ answered F (ft a) → ft (C.Not r) ≡ answered F (ft c)
  made_Not c a r i p = fact_Not tables resources r ∙ ap Fact.not p ∙ sym (ap (answered F) (ap ft i ∙ fact_Not tables resources a))

  pub made_AllDifferent : (c : Cons) (es gs rs : List Expr) → c ≡ C.AllDifferent es → gs ≡ es → map tm rs ≡ map (λ e. answered_term F (tm e)) gs → ft (C.AllDifferent rs) ≡ answered F (ft c)
  made_AllDifferent c es gs rs i j p =
      fact_AllDifferent tables resources rs
      ∙ ap Fact.different (parts es gs rs j p)
      ∙ sym (ap (answered F) (ap ft i ∙ fact_AllDifferent tables resources es))

  pub made_Capacity : (c : Cons) (r : ℕ) (t u : ℤ) → c ≡ C.Capacity r t → u ≡ t → ft (C.Capacity r u) ≡ answered F (ft c)
  made_Capacity c r t u i j =
      ap (λ v. ft (C.Capacity r v)) j ∙ fact_Capacity tables resources r t ∙ sym (capacity_answered F (slice_get resources r) t) ∙ sym (ap (answered F) (ap ft i ∙ fact_Capacity tables resources r t))

  pub made_Bound : (c : Cons) (x : ℕ) (b : Bool) → c ≡ C.Bound x → b ≡ is_single F x → ft (C.Fixed b) ≡ answered F (ft c)
  made_Bound c x b i j = fact_Fixed tables resources b ∙ ap Fact.fixed j ∙ sym (ap (answered F) (ap ft i ∙ fact_Bound tables resources x))

  -- ---- products

  pub made_swapped : (a b first second : Expr) → is_swapped (constant_value (tm a)) (constant_value (tm b)) ≡ true → tm first ≡ answered_term F (tm a) → tm second ≡ answered_term F (tm b) → tm (E.Mul second first) ≡ answered_term F (product (tm a) (tm b))
  made_swapped a b first second h i j =
      term_Mul tables resources second first ∙ ap (λ z. product z (tm first)) j ∙ ap (product (answered_term F (tm b))) i ∙ swapped_answered F (tm a) (tm b) h

  pub made_kept : (a b first second : Expr) → is_swapped (constant_value (tm a)) (constant_value (tm b)) ≡ false → tm first ≡ answered_term F (tm a) → tm second ≡ answered_term F (tm b) → tm (E.Mul first second) ≡ answered_term F (product (tm a) (tm b))
  made_kept a b first second h i j =
      term_Mul tables resources first second ∙ ap (λ z. product z (tm second)) i ∙ ap (product (answered_term F (tm a))) j ∙ kept_answered F (tm a) (tm b) h

some_member : (v : ℤ) (xs : List ℤ) → member v xs ≡ true → 0 < length xs
some_member v [] e = cc
some_member v (w ∷ xs) e = omega arith

-- the set of a variable has values
pub some_values : (F : Family) (x : ℕ) → IsFamily F → x < length F → 0 < length (set_of F x)
some_values F x f h = let v = f.full x h in some_member v.0 (set_of F x) v.1

module _ (F : Family) where
  -- ---- questions

  pub no_variable : (ask : Ask) (x : ℕ) → length F ≤ x → pos 0 ≡ answer F ask x
  unfolding hull
  no_variable Size x h = sym (ap (λ vs. pos (length vs)) (set_of-past F x h))
  no_variable Least x h = sym (ap (λ vs. (hull_of vs).low) (set_of-past F x h) ∙ zero_low)
  no_variable Greatest x h = sym (ap (λ vs. (hull_of vs).high) (set_of-past F x h) ∙ zero_high)

  pub least_answer : (ask : Ask) (x : ℕ) (v : ℤ) → IsFamily F → x < length F → ask ≡ Least → IsLeast (set_of F x) v → v ≡ answer F ask x
  least_answer ask x v f h e l =
      let n = some_values F x f h in
      sym (ap (λ a. answer F a x) e ∙ ap (λ s. s.low) (hull_made F x v (get_or (set_of F x) (length (set_of F x) - 1) (pos 0)) l (last_is_greatest (set_of F x) (f.rising x) n)))

  pub greatest_answer : (ask : Ask) (x : ℕ) (v : ℤ) → IsFamily F → x < length F → ask ≡ Greatest → IsGreatest (set_of F x) v → v ≡ answer F ask x
  greatest_answer ask x v f h e g =
      let n = some_values F x f h in
      sym (ap (λ a. answer F a x) e ∙ ap (λ s. s.high) (hull_made F x (get_or (set_of F x) 0 (pos 0)) v (first_is_least (set_of F x) (f.rising x) n) g))

  pub no_single : (x : ℕ) → length F ≤ x → false ≡ is_single F x
  no_single x h = sym (ap (λ vs. nat_eq (length vs) 1) (set_of-past F x h))

module _ (tables : List Table) (resources : List Resource) where
  abbrev tmr : Expr → Term
  tmr e = term tables resources e

  -- ---- numbers

  pub number_Const : (e : Expr) (k : ℤ) → e ≡ E.Const k → true ≡ is_some_number (constant_value (tmr e))
  number_Const e k i = sym (ap (λ u. is_some_number (constant_value u)) (ap tmr i ∙ term_Const tables resources k))

  pub number_Var : (e : Expr) (x : ℕ) → e ≡ E.Var x → false ≡ is_some_number (constant_value (tmr e))
  number_Var e x i = sym (ap (λ u. is_some_number (constant_value u)) (ap tmr i ∙ term_Var tables resources x))

  pub number_Sum : (e : Expr) (es : List Expr) → e ≡ E.Sum es → false ≡ is_some_number (constant_value (tmr e))
  number_Sum e es i = sym (ap (λ u. is_some_number (constant_value u)) (ap tmr i ∙ term_Sum tables resources es))

  pub number_Neg : (e : Expr) (a : Expr) → e ≡ E.Neg a → false ≡ is_some_number (constant_value (tmr e))
  number_Neg e a i = sym (ap (λ u. is_some_number (constant_value u)) (ap tmr i ∙ term_Neg tables resources a))

  pub number_Mul : (e : Expr) (a b : Expr) → e ≡ E.Mul a b → false ≡ is_some_number (constant_value (tmr e))
  number_Mul e a b i = sym (ap (λ u. is_some_number (constant_value u)) (ap tmr i ∙ term_Mul tables resources a b) ∙ product_no_number (tmr a) (tmr b))

  pub number_Div : (e : Expr) (a b : Expr) → e ≡ E.Div a b → false ≡ is_some_number (constant_value (tmr e))
  number_Div e a b i = sym (ap (λ u. is_some_number (constant_value u)) (ap tmr i ∙ term_Div tables resources a b))

  pub number_Rem : (e : Expr) (a b : Expr) → e ≡ E.Rem a b → false ≡ is_some_number (constant_value (tmr e))
  number_Rem e a b i = sym (ap (λ u. is_some_number (constant_value u)) (ap tmr i ∙ term_Rem tables resources a b))

  pub number_Abs : (e : Expr) (a : Expr) → e ≡ E.Abs a → false ≡ is_some_number (constant_value (tmr e))
  number_Abs e a i = sym (ap (λ u. is_some_number (constant_value u)) (ap tmr i ∙ term_Abs tables resources a))

  pub number_Min : (e : Expr) (es : List Expr) → e ≡ E.Min es → false ≡ is_some_number (constant_value (tmr e))
  number_Min e es i = sym (ap (λ u. is_some_number (constant_value u)) (ap tmr i ∙ term_Min tables resources es))

  pub number_Max : (e : Expr) (es : List Expr) → e ≡ E.Max es → false ≡ is_some_number (constant_value (tmr e))
  number_Max e es i = sym (ap (λ u. is_some_number (constant_value u)) (ap tmr i ∙ term_Max tables resources es))

  pub number_At : (e : Expr) (t : ℕ) (es : List Expr) → e ≡ E.At t es → false ≡ is_some_number (constant_value (tmr e))
  number_At e t es i = sym (ap (λ u. is_some_number (constant_value u)) (ap tmr i ∙ term_At tables resources t es))

  pub number_Truth : (e : Expr) (c : Cons) → e ≡ E.Truth c → false ≡ is_some_number (constant_value (tmr e))
  number_Truth e c i = sym (ap (λ u. is_some_number (constant_value u)) (ap tmr i ∙ term_Truth tables resources c))

  pub number_Ask : (e : Expr) (ask : Ask) (x : ℕ) → e ≡ E.Ask ask x → false ≡ is_some_number (constant_value (tmr e))
  number_Ask e ask x i = sym (ap (λ u. is_some_number (constant_value u)) (ap tmr i ∙ term_Ask tables resources ask x))
