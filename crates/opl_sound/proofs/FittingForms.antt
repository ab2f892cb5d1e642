-- Whether expressions and constraints fit, form by form, as the code sees it.
use Rattle.std.proofs.Common.{◌≡◌, ◌∙◌, ℕ, suc, max, Bool, true, false, ◌&&◌, ◌||◌, refl, List, [], ◌∷◌, map, ℤ, ap, sym, arith}
use Rattle.std.specs.Prelude.{nat_le, not, slice_get}
use Rattle.std.specs.List.{list_all}
use Rattle.std.proofs.Math.Bool.{and-true}
use Rattle.std.proofs.lemmas.Bool.{leb-true, le-leb, lt-leb, and_from, and_parts}
use Rattle.opl_expr.specs.declared.forms.Ask.{Ask}
use Rattle.opl_expr.specs.declared.forms.Op.{Op}
use Rattle.opl_expr.specs.declared.forms.Expr.{Expr}
use Rattle.opl_expr.specs.declared.forms.Expr.TheVariants as E
use Rattle.opl_expr.specs.declared.forms.Cons.{Cons}
use Rattle.opl_expr.specs.declared.forms.Cons.TheVariants as C
use Rattle.opl_expr.specs.declared.forms.Cons.TheOpen.{Expr-F, Cons-F}
use Rattle.opl_expr.specs.declared.forms.Cons.TheFolds.{fold-roll-Expr, fold-roll-Cons, map-Expr, map-Cons}
use Rattle.opl_expr.specs.declared.forms.Cons.TheViews.{roll-Expr, roll-Cons, out-Expr, out-Cons, roll-out-Expr, roll-out-Cons}
use Rattle.opl_expr.specs.declared.tables.Table.{Table}
use Rattle.opl_expr.specs.declared.tables.Resource.{Resource}
use Rattle.opl_trace.specs.GroundCores.{expr_parts, cons_parts, deepest, expr_depth, cons_depth, has_constants, is_time_of, expr_may_stand, cons_may_stand, expr_stands, cons_stands, expr_fits, cons_fits}
use Rattle.opl_trace.proofs.SweepLaws.{same_tests}

-- ---- depths

le_suc : (m n : ℕ) → nat_le (suc m) (suc n) ≡ nat_le m n
le_suc m n = same_tests (nat_le (suc m) (suc n)) (nat_le m n) (λ e. let h = leb-true (suc m) (suc n) e in le-leb m n (omega (arith, h))) (λ e. let h = leb-true m n e in le-leb (suc m) (suc n) (omega (arith, h)))

le_zero : (n : ℕ) → nat_le 0 n ≡ true
le_zero n = le-leb 0 n (omega arith)

le_max : (a m n : ℕ) → nat_le (max a m) n ≡ (nat_le a n && nat_le m n)
le_max a m n = same_tests (nat_le (max a m) n) (nat_le a n && nat_le m n)
    (λ e. let h = leb-true (max a m) n e in and_from (nat_le a n) (nat_le m n) (le-leb a n (omega (arith, h))) (le-leb m n (omega (arith, h))))
    (λ e. let r = and_parts (nat_le a n) (nat_le m n) e in let h = leb-true a n r.0 in let i = leb-true m n r.1 in le-leb (max a m) n (omega (arith, h, i)))

too_deep : (n m : ℕ) → n ≡ 0 → nat_le (suc m) n ≡ false
too_deep n m h = lt-leb (suc m) n (omega (arith, h))

both_same : {A B C : Type 0} (f : A → B → C) (a c : A) (b d : B) → a ≡ c → b ≡ d → f a b ≡ f c d
both_same f a c b d e g = rw (e, g) refl

swap_middle : (a m s r : Bool) → ((a && m) && (s && r)) ≡ ((a && s) && (m && r))
swap_middle true true s r = elim s as (λ s. (s && r) ≡ (s && r)) [ true ↦ refl | false ↦ refl ]
swap_middle true false true r = refl
swap_middle true false false r = refl
swap_middle false m s r = refl

swap_here : (l here a : Bool) → (l && (here && a)) ≡ (here && (l && a))
swap_here true here a = refl
swap_here false true a = refl
swap_here false false a = refl

module _ {X : Type 0} (d : X → ℕ) (s : X → Bool) (n : ℕ) where
  all_within : (xs : List X) → (nat_le (deepest (map d xs)) n && list_all (λ b. b) (map s xs)) ≡ list_all (λ x. nat_le (d x) n && s x) xs
  all_within [] = rw (le_zero n) refl
  all_within (x ∷ xs) = rw (le_max (d x) (deepest (map d xs)) n) (swap_middle (nat_le (d x) n) (nat_le (deepest (map d xs)) n) (s x) (list_all (λ b. b) (map s xs)) ∙ ap (λ b. (nat_le (d x) n && s x) && b) (all_within xs))

  parts_fit : (here : Bool) (xs : List X) → (nat_le (suc (deepest (map d xs))) (suc n) && (here && list_all (λ b. b) (map s xs))) ≡ (here && list_all (λ x. nat_le (d x) n && s x) xs)
  parts_fit here xs = rw (le_suc (deepest (map d xs)) n) (swap_here (nat_le (deepest (map d xs)) n) here (list_all (λ b. b) (map s xs)) ∙ ap (λ b. here && b) (all_within xs))

-- ---- forms

depth_is : (d : Expr-F Cons Expr) → expr_depth (roll-Expr d) ≡ suc (deepest (expr_parts (map-Expr Cons Expr ℕ ℕ cons_depth expr_depth d)))
unfolding expr_depth cons_depth
depth_is d = fold-roll-Expr ℕ ℕ (λ c. suc (deepest (cons_parts c))) (λ e. suc (deepest (expr_parts e))) d

cons_depth_is : (d : Cons-F Cons Expr) → cons_depth (roll-Cons d) ≡ suc (deepest (cons_parts (map-Cons Cons Expr ℕ ℕ cons_depth expr_depth d)))
unfolding expr_depth cons_depth
cons_depth_is d = fold-roll-Cons ℕ ℕ (λ c. suc (deepest (cons_parts c))) (λ e. suc (deepest (expr_parts e))) d

module _ (tables : List Table) (resources : List Resource) (decides : Bool) where
  abbrev expr_here : Expr-F Bool Bool → Bool
  expr_here e = expr_may_stand tables resources decides e && list_all (λ b. b) (expr_parts e)

  abbrev cons_here : Cons-F Bool Bool → Bool
  cons_here c = cons_may_stand tables resources decides c && list_all (λ b. b) (cons_parts c)

  stands_is : (d : Expr-F Cons Expr) → expr_stands tables resources decides (roll-Expr d) ≡ expr_here (map-Expr Cons Expr Bool Bool (cons_stands tables resources decides) (expr_stands tables resources decides) d)
  unfolding cons_stands expr_stands
  stands_is d = fold-roll-Expr Bool Bool cons_here expr_here d

  cons_stands_is : (d : Cons-F Cons Expr) → cons_stands tables resources decides (roll-Cons d) ≡ cons_here (map-Cons Cons Expr Bool Bool (cons_stands tables resources decides) (expr_stands tables resources decides) d)
  unfolding cons_stands expr_stands
  cons_stands_is d = fold-roll-Cons Bool Bool cons_here expr_here d

  pub no_depth : (n : ℕ) (e : Expr) → n ≡ 0 → expr_fits tables resources decides n e ≡ false
  no_depth n e h = ap (λ z. expr_fits tables resources decides n z) (sym (roll-out-Expr e)) ∙ ap (λ m. nat_le m n && expr_stands tables resources decides (roll-Expr (out-Expr e))) (depth_is (out-Expr e))
      ∙ ap (λ b. b && expr_stands tables resources decides (roll-Expr (out-Expr e))) (too_deep n (deepest (expr_parts (map-Expr Cons Expr ℕ ℕ cons_depth expr_depth (out-Expr e)))) h)

  pub no_cons_depth : (n : ℕ) (c : Cons) → n ≡ 0 → cons_fits tables resources decides n c ≡ false
  no_cons_depth n c h = ap (λ z. cons_fits tables resources decides n z) (sym (roll-out-Cons c)) ∙ ap (λ m. nat_le m n && cons_stands tables resources decides (roll-Cons (out-Cons c))) (cons_depth_is (out-Cons c))
      ∙ ap (λ b. b && cons_stands tables resources decides (roll-Cons (out-Cons c))) (too_deep n (deepest (cons_parts (map-Cons Cons Expr ℕ ℕ cons_depth expr_depth (out-Cons c)))) h)

  layer : (n : ℕ) (d : Expr-F Cons Expr) → expr_fits tables resources decides (suc n) (roll-Expr d)
      ≡ (nat_le (suc (deepest (expr_parts (map-Expr Cons Expr ℕ ℕ cons_depth expr_depth d)))) (suc n) && expr_here (map-Expr Cons Expr Bool Bool (cons_stands tables resources decides) (expr_stands tables resources decides) d))
  layer n d = both_same (λ m b. nat_le m (suc n) && b) (expr_depth (roll-Expr d)) (suc (deepest (expr_parts (map-Expr Cons Expr ℕ ℕ cons_depth expr_depth d)))) (expr_stands tables resources decides (roll-Expr d)) (expr_here (map-Expr Cons Expr Bool Bool (cons_stands tables resources decides) (expr_stands tables resources decides) d)) (depth_is d) (stands_is d)

  cons_layer : (n : ℕ) (d : Cons-F Cons Expr) → cons_fits tables resources decides (suc n) (roll-Cons d)
      ≡ (nat_le (suc (deepest (cons_parts (map-Cons Cons Expr ℕ ℕ cons_depth expr_depth d)))) (suc n) && cons_here (map-Cons Cons Expr Bool Bool (cons_stands tables resources decides) (expr_stands tables resources decides) d))
  cons_layer n d = both_same (λ m b. nat_le m (suc n) && b) (cons_depth (roll-Cons d)) (suc (deepest (cons_parts (map-Cons Cons Expr ℕ ℕ cons_depth expr_depth d)))) (cons_stands tables resources decides (roll-Cons d)) (cons_here (map-Cons Cons Expr Bool Bool (cons_stands tables resources decides) (expr_stands tables resources decides) d)) (cons_depth_is d) (cons_stands_is d)

  parts_of : (n : ℕ) (here : Bool) (es : List Expr) → (nat_le (suc (deepest (map expr_depth es))) (suc n) && (here && list_all (λ b. b) (map (expr_stands tables resources decides) es))) ≡ (here && list_all (expr_fits tables resources decides n) es)
  parts_of n here es = parts_fit expr_depth (expr_stands tables resources decides) n here es

  cons_parts_of : (n : ℕ) (here : Bool) (cs : List Cons) → (nat_le (suc (deepest (map cons_depth cs))) (suc n) && (here && list_all (λ b. b) (map (cons_stands tables resources decides) cs))) ≡ (here && list_all (cons_fits tables resources decides n) cs)
  cons_parts_of n here cs = parts_fit cons_depth (cons_stands tables resources decides) n here cs

  pub fits_Const : (n : ℕ) (k : ℤ) → expr_fits tables resources decides (suc n) (E.Const k) ≡ (true)
  fits_Const n k = ap (expr_fits tables resources decides (suc n)) (sym (E.rolls-Const k)) ∙ layer n (Expr-F.Const k) ∙ parts_of n true []

  pub fits_Var : (n : ℕ) (x : ℕ) → expr_fits tables resources decides (suc n) (E.Var x) ≡ (not decides)
  fits_Var n x = ap (expr_fits tables resources decides (suc n)) (sym (E.rolls-Var x)) ∙ layer n (Expr-F.Var x) ∙ parts_of n (not decides) [] ∙ and-true (not decides)

  pub fits_Sum : (n : ℕ) (es : List Expr) → expr_fits tables resources decides (suc n) (E.Sum es) ≡ (list_all (expr_fits tables resources decides n) es)
  fits_Sum n es = ap (expr_fits tables resources decides (suc n)) (sym (E.rolls-Sum es)) ∙ layer n (Expr-F.Sum es) ∙ parts_of n true es

  pub fits_Neg : (n : ℕ) (a : Expr) → expr_fits tables resources decides (suc n) (E.Neg a) ≡ (expr_fits tables resources decides n a)
  fits_Neg n a = ap (expr_fits tables resources decides (suc n)) (sym (E.rolls-Neg a)) ∙ layer n (Expr-F.Neg a) ∙ parts_of n true (a ∷ []) ∙ and-true (expr_fits tables resources decides n a)

  pub fits_Mul : (n : ℕ) (a b : Expr) → expr_fits tables resources decides (suc n) (E.Mul a b) ≡ (expr_fits tables resources decides n a && expr_fits tables resources decides n b)
  fits_Mul n a b = ap (expr_fits tables resources decides (suc n)) (sym (E.rolls-Mul a b)) ∙ layer n (Expr-F.Mul a b) ∙ parts_of n true (a ∷ b ∷ []) ∙ ap (λ b. expr_fits tables resources decides n a && b) (and-true (expr_fits tables resources decides n b))

  pub fits_Div : (n : ℕ) (a b : Expr) → expr_fits tables resources decides (suc n) (E.Div a b) ≡ (expr_fits tables resources decides n a && expr_fits tables resources decides n b)
  fits_Div n a b = ap (expr_fits tables resources decides (suc n)) (sym (E.rolls-Div a b)) ∙ layer n (Expr-F.Div a b) ∙ parts_of n true (a ∷ b ∷ []) ∙ ap (λ b. expr_fits tables resources decides n a && b) (and-true (expr_fits tables resources decides n b))

  pub fits_Rem : (n : ℕ) (a b : Expr) → expr_fits tables resources decides (suc n) (E.Rem a b) ≡ (expr_fits tables resources decides n a && expr_fits tables resources decides n b)
  fits_Rem n a b = ap (expr_fits tables resources decides (suc n)) (sym (E.rolls-Rem a b)) ∙ layer n (Expr-F.Rem a b) ∙ parts_of n true (a ∷ b ∷ []) ∙ ap (λ b. expr_fits tables resources decides n a && b) (and-true (expr_fits tables resources decides n b))

  pub fits_Abs : (n : ℕ) (a : Expr) → expr_fits tables resources decides (suc n) (E.Abs a) ≡ (expr_fits tables resources decides n a)
  fits_Abs n a = ap (expr_fits tables resources decides (suc n)) (sym (E.rolls-Abs a)) ∙ layer n (Expr-F.Abs a) ∙ parts_of n true (a ∷ []) ∙ and-true (expr_fits tables resources decides n a)

  pub fits_Min : (n : ℕ) (es : List Expr) → expr_fits tables resources decides (suc n) (E.Min es) ≡ (list_all (expr_fits tables resources decides n) es)
  fits_Min n es = ap (expr_fits tables resources decides (suc n)) (sym (E.rolls-Min es)) ∙ layer n (Expr-F.Min es) ∙ parts_of n true es

  pub fits_Max : (n : ℕ) (es : List Expr) → expr_fits tables resources decides (suc n) (E.Max es) ≡ (list_all (expr_fits tables resources decides n) es)
  fits_Max n es = ap (expr_fits tables resources decides (suc n)) (sym (E.rolls-Max es)) ∙ layer n (Expr-F.Max es) ∙ parts_of n true es

  pub fits_At : (n : ℕ) (t : ℕ) (es : List Expr) → expr_fits tables resources decides (suc n) (E.At t es) ≡ ((not decides || has_constants (slice_get tables t)) && list_all (expr_fits tables resources decides n) es)
  fits_At n t es = ap (expr_fits tables resources decides (suc n)) (sym (E.rolls-At t es)) ∙ layer n (Expr-F.At t es) ∙ parts_of n (not decides || has_constants (slice_get tables t)) es

  pub fits_Truth : (n : ℕ) (c : Cons) → expr_fits tables resources decides (suc n) (E.Truth c) ≡ (cons_fits tables resources decides n c)
  fits_Truth n c = ap (expr_fits tables resources decides (suc n)) (sym (E.rolls-Truth c)) ∙ layer n (Expr-F.Truth c) ∙ cons_parts_of n true (c ∷ []) ∙ and-true (cons_fits tables resources decides n c)

  pub fits_Ask : (n : ℕ) (ask : Ask) (x : ℕ) → expr_fits tables resources decides (suc n) (E.Ask ask x) ≡ (true)
  fits_Ask n ask x = ap (expr_fits tables resources decides (suc n)) (sym (E.rolls-Ask ask x)) ∙ layer n (Expr-F.Ask ask x) ∙ parts_of n true []

  pub fits_Fixed : (n : ℕ) (b : Bool) → cons_fits tables resources decides (suc n) (C.Fixed b) ≡ (true)
  fits_Fixed n b = ap (cons_fits tables resources decides (suc n)) (sym (C.rolls-Fixed b)) ∙ cons_layer n (Cons-F.Fixed b) ∙ parts_of n true []

  pub fits_Cmp : (n : ℕ) (op : Op) (a b : Expr) → cons_fits tables resources decides (suc n) (C.Cmp op a b) ≡ (expr_fits tables resources decides n a && expr_fits tables resources decides n b)
  fits_Cmp n op a b = ap (cons_fits tables resources decides (suc n)) (sym (C.rolls-Cmp op a b)) ∙ cons_layer n (Cons-F.Cmp op a b) ∙ parts_of n true (a ∷ b ∷ []) ∙ ap (λ b. expr_fits tables resources decides n a && b) (and-true (expr_fits tables resources decides n b))

  pub fits_And : (n : ℕ) (cs : List Cons) → cons_fits tables resources decides (suc n) (C.And cs) ≡ (list_all (cons_fits tables resources decides n) cs)
  fits_And n cs = ap (cons_fits tables resources decides (suc n)) (sym (C.rolls-And cs)) ∙ cons_layer n (Cons-F.And cs) ∙ cons_parts_of n true cs

  pub fits_Or : (n : ℕ) (cs : List Cons) → cons_fits tables resources decides (suc n) (C.Or cs) ≡ (list_all (cons_fits tables resources decides n) cs)
  fits_Or n cs = ap (cons_fits tables resources decides (suc n)) (sym (C.rolls-Or cs)) ∙ cons_layer n (Cons-F.Or cs) ∙ cons_parts_of n true cs

  pub fits_Imp : (n : ℕ) (a b : Cons) → cons_fits tables resources decides (suc n) (C.Imp a b) ≡ (cons_fits tables resources decides n a && cons_fits tables resources decides n b)
  fits_Imp n a b = ap (cons_fits tables resources decides (suc n)) (sym (C.rolls-Imp a b)) ∙ cons_layer n (Cons-F.Imp a b) ∙ cons_parts_of n true (a ∷ b ∷ []) ∙ ap (λ b. cons_fits tables resources decides n a && b) (and-true (cons_fits tables resources decides n b))

  pub fits_Iff : (n : ℕ) (a b : Cons) → cons_fits tables resources decides (suc n) (C.Iff a b) ≡ (cons_fits tables resources decides n a && cons_fits tables resources decides n b)
  fits_Iff n a b = ap (cons_fits tables resources decides (suc n)) (sym (C.rolls-Iff a b)) ∙ cons_layer n (Cons-F.Iff a b) ∙ cons_parts_of n true (a ∷ b ∷ []) ∙ ap (λ b. cons_fits tables resources decides n a && b) (and-true (cons_fits tables resources decides n b))

  pub fits_Not : (n : ℕ) (a : Cons) → cons_fits tables resources decides (suc n) (C.Not a) ≡ (cons_fits tables resources decides n a)
  fits_Not n a = ap (cons_fits tables resources decides (suc n)) (sym (C.rolls-Not a)) ∙ cons_layer n (Cons-F.Not a) ∙ cons_parts_of n true (a ∷ []) ∙ and-true (cons_fits tables resources decides n a)

  pub fits_AllDifferent : (n : ℕ) (es : List Expr) → cons_fits tables resources decides (suc n) (C.AllDifferent es) ≡ (list_all (expr_fits tables resources decides n) es)
  fits_AllDifferent n es = ap (cons_fits tables resources decides (suc n)) (sym (C.rolls-AllDifferent es)) ∙ cons_layer n (Cons-F.AllDifferent es) ∙ parts_of n true es

  pub fits_Capacity : (n : ℕ) (r : ℕ) (t : ℤ) → cons_fits tables resources decides (suc n) (C.Capacity r t) ≡ ((not decides && is_time_of (slice_get resources r) t))
  fits_Capacity n r t = ap (cons_fits tables resources decides (suc n)) (sym (C.rolls-Capacity r t)) ∙ cons_layer n (Cons-F.Capacity r t) ∙ parts_of n (not decides && is_time_of (slice_get resources r) t) [] ∙ and-true (not decides && is_time_of (slice_get resources r) t)

  pub fits_Bound : (n : ℕ) (x : ℕ) → cons_fits tables resources decides (suc n) (C.Bound x) ≡ (true)
  fits_Bound n x = ap (cons_fits tables resources decides (suc n)) (sym (C.rolls-Bound x)) ∙ cons_layer n (Cons-F.Bound x) ∙ parts_of n true []

pub ruleset expressions = (fits_Const, fits_Var, fits_Sum, fits_Neg, fits_Mul, fits_Div, fits_Rem, fits_Abs, fits_Min, fits_Max, fits_At, fits_Truth, fits_Ask)

pub ruleset constraints = (fits_Fixed, fits_Cmp, fits_And, fits_Or, fits_Imp, fits_Iff, fits_Not, fits_AllDifferent, fits_Capacity, fits_Bound)
