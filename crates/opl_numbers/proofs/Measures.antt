-- The measures of nodes, by those of their parts.
use Rattle.std.proofs.Common.{◌≡◌, ℕ, suc, ◌+◌, ◌*◌, max, ℤ, pos, true, false, List, [], ◌∷◌, map, Option, Some, None, is_some, refl, sym, ap, ◌∙◌, arith}
use Rattle.std.specs.Prelude.{unsigned_abs}
use Rattle.opl_expr.specs.declared.forms.Cons.{Cons}
use Rattle.opl_expr.specs.declared.forms.Expr.{Expr}
use Rattle.opl_expr.specs.declared.forms.Expr.TheVariants as E
use Rattle.opl_expr.specs.declared.forms.Cons.TheOpen.{Expr-F}
use Rattle.opl_expr.specs.declared.forms.Cons.TheFolds.{fold-roll-Expr, map-Expr}
use Rattle.opl_expr.specs.declared.forms.Cons.TheViews.{roll-Expr}
use Rattle.opl_expr.specs.Forms.{Term, constant_value, product_by, term, terms_of}
use Rattle.opl_expr.specs.Sound.{greatest_magnitude, sum_magnitude, term_magnitude}
use Rattle.opl_expr.proofs.Plain.{term_Abs, term_Const, term_Div, term_Max, term_Min, term_Mul, term_Neg, term_Rem, term_Sum}
use Rattle.opl_form.specs.Parts.{nothing, tables}
use Rattle.opl_form.specs.Measures.{cons_depth, cons_nodes, depth, depth_of, expr_depth, expr_nodes, greatest, nodes, nodes_of, total}
use Rattle.opl_nodes.specs.declared.context.Context.{Context}
use Rattle.opl_nodes.specs.Contexts.{arrays, sets}
use Rattle.opl_nodes.specs.Pieces.{magnitude}
use Rattle.opl_numbers.specs.Numbers.{is_constant}

-- ---- depth

depth-layer : (d : Expr-F Cons Expr) → depth (roll-Expr d) ≡ expr_depth (map-Expr Cons Expr ℕ ℕ depth_of depth d)
unfolding depth depth_of
depth-layer d = fold-roll-Expr ℕ ℕ cons_depth expr_depth d

pub depth-Const : (k : ℤ) → depth (E.Const k) ≡ 1
depth-Const k = ap depth (sym (E.rolls-Const k)) ∙ depth-layer (Expr-F.Const k)

pub depth-Sum : (es : List Expr) → depth (E.Sum es) ≡ suc (greatest (map depth es))
depth-Sum es = ap depth (sym (E.rolls-Sum es)) ∙ depth-layer (Expr-F.Sum es)

pub depth-Neg : (a : Expr) → depth (E.Neg a) ≡ suc (depth a)
depth-Neg a = ap depth (sym (E.rolls-Neg a)) ∙ depth-layer (Expr-F.Neg a)

pub depth-Mul : (a b : Expr) → depth (E.Mul a b) ≡ suc (max (depth a) (depth b))
depth-Mul a b = ap depth (sym (E.rolls-Mul a b)) ∙ depth-layer (Expr-F.Mul a b)

pub depth-Div : (a b : Expr) → depth (E.Div a b) ≡ suc (max (depth a) (depth b))
depth-Div a b = ap depth (sym (E.rolls-Div a b)) ∙ depth-layer (Expr-F.Div a b)

pub depth-Rem : (a b : Expr) → depth (E.Rem a b) ≡ suc (max (depth a) (depth b))
depth-Rem a b = ap depth (sym (E.rolls-Rem a b)) ∙ depth-layer (Expr-F.Rem a b)

pub depth-Abs : (a : Expr) → depth (E.Abs a) ≡ suc (depth a)
depth-Abs a = ap depth (sym (E.rolls-Abs a)) ∙ depth-layer (Expr-F.Abs a)

pub depth-Min : (es : List Expr) → depth (E.Min es) ≡ suc (greatest (map depth es))
depth-Min es = ap depth (sym (E.rolls-Min es)) ∙ depth-layer (Expr-F.Min es)

pub depth-Max : (es : List Expr) → depth (E.Max es) ≡ suc (greatest (map depth es))
depth-Max es = ap depth (sym (E.rolls-Max es)) ∙ depth-layer (Expr-F.Max es)

pub depth-Truth : (d : Cons) → depth (E.Truth d) ≡ suc (depth_of d)
depth-Truth d = ap depth (sym (E.rolls-Truth d)) ∙ depth-layer (Expr-F.Truth d)

pub depth-nothing : (a : Expr) → depth (nothing a) ≡ suc (max 1 (depth a))
depth-nothing a = depth-Mul (E.Const (pos 0)) a ∙ ap (λ n. suc (max n (depth a))) (depth-Const (pos 0))

-- ---- nodes

nodes-layer : (d : Expr-F Cons Expr) → nodes (roll-Expr d) ≡ expr_nodes (map-Expr Cons Expr ℕ ℕ nodes_of nodes d)
unfolding nodes nodes_of
nodes-layer d = fold-roll-Expr ℕ ℕ cons_nodes expr_nodes d

pub nodes-Const : (k : ℤ) → nodes (E.Const k) ≡ 1
nodes-Const k = ap nodes (sym (E.rolls-Const k)) ∙ nodes-layer (Expr-F.Const k)

pub nodes-Sum : (es : List Expr) → nodes (E.Sum es) ≡ suc (total (map nodes es))
nodes-Sum es = ap nodes (sym (E.rolls-Sum es)) ∙ nodes-layer (Expr-F.Sum es)

pub nodes-Neg : (a : Expr) → nodes (E.Neg a) ≡ suc (nodes a)
nodes-Neg a = ap nodes (sym (E.rolls-Neg a)) ∙ nodes-layer (Expr-F.Neg a)

pub nodes-Mul : (a b : Expr) → nodes (E.Mul a b) ≡ suc (nodes a + nodes b)
nodes-Mul a b = ap nodes (sym (E.rolls-Mul a b)) ∙ nodes-layer (Expr-F.Mul a b)

pub nodes-Div : (a b : Expr) → nodes (E.Div a b) ≡ suc (nodes a + nodes b)
nodes-Div a b = ap nodes (sym (E.rolls-Div a b)) ∙ nodes-layer (Expr-F.Div a b)

pub nodes-Rem : (a b : Expr) → nodes (E.Rem a b) ≡ suc (nodes a + nodes b)
nodes-Rem a b = ap nodes (sym (E.rolls-Rem a b)) ∙ nodes-layer (Expr-F.Rem a b)

pub nodes-Abs : (a : Expr) → nodes (E.Abs a) ≡ suc (nodes a)
nodes-Abs a = ap nodes (sym (E.rolls-Abs a)) ∙ nodes-layer (Expr-F.Abs a)

pub nodes-Min : (es : List Expr) → nodes (E.Min es) ≡ suc (total (map nodes es))
nodes-Min es = ap nodes (sym (E.rolls-Min es)) ∙ nodes-layer (Expr-F.Min es)

pub nodes-Max : (es : List Expr) → nodes (E.Max es) ≡ suc (total (map nodes es))
nodes-Max es = ap nodes (sym (E.rolls-Max es)) ∙ nodes-layer (Expr-F.Max es)

pub nodes-Truth : (d : Cons) → nodes (E.Truth d) ≡ suc (nodes_of d)
nodes-Truth d = ap nodes (sym (E.rolls-Truth d)) ∙ nodes-layer (Expr-F.Truth d)

pub nodes-nothing : (a : Expr) → nodes (nothing a) ≡ suc (suc (nodes a))
nodes-nothing a = nodes-Mul (E.Const (pos 0)) a ∙ ap (λ n. suc (n + nodes a)) (nodes-Const (pos 0)) ∙ more (nodes a)
  where
    more : (n : ℕ) → suc (1 + n) ≡ suc (suc n)
    more n = omega arith

-- ---- magnitudes

-- a product by a number that is written down, and any other
scaled-left : (sets : List (ℤ × ℤ)) (o p : Option ℤ) (s t : Term) → constant_value s ≡ o → is_some o ≡ true → term_magnitude sets (product_by o p s t) ≡ term_magnitude sets s * term_magnitude sets t
scaled-left sets None p s t e h = cc
scaled-left sets (Some k) p (Term.const j) t e h = let same : j ≡ k = cc in ap (λ j. unsigned_abs j * term_magnitude sets t) (sym same)
scaled-left sets (Some k) p (Term.var x) t e h = cc
scaled-left sets (Some k) p (Term.sum ts) t e h = cc
scaled-left sets (Some k) p (Term.neg s) t e h = cc
scaled-left sets (Some k) p (Term.scale j s) t e h = cc
scaled-left sets (Some k) p (Term.mul r s) t e h = cc
scaled-left sets (Some k) p (Term.div r s) t e h = cc
scaled-left sets (Some k) p (Term.rem r s) t e h = cc
scaled-left sets (Some k) p (Term.abs s) t e h = cc
scaled-left sets (Some k) p (Term.least ts) t e h = cc
scaled-left sets (Some k) p (Term.greatest ts) t e h = cc
scaled-left sets (Some k) p (Term.at table ts) t e h = cc
scaled-left sets (Some k) p (Term.truth d) t e h = cc
scaled-left sets (Some k) p (Term.asked ask x) t e h = cc

scaled-right : (sets : List (ℤ × ℤ)) (o p : Option ℤ) (s t : Term) → is_some o ≡ false → constant_value t ≡ p → is_some p ≡ true → term_magnitude sets (product_by o p s t) ≡ term_magnitude sets s * term_magnitude sets t
scaled-right sets (Some k) p s t f e h = cc
scaled-right sets None p s t f e h = by p t e h
  where
    times : (a b : ℕ) → a * b ≡ b * a
    times a b = omega arith

    by : (p : Option ℤ) (t : Term) → constant_value t ≡ p → is_some p ≡ true → term_magnitude sets (product_by None p s t) ≡ term_magnitude sets s * term_magnitude sets t
    by None t e h = cc
    by (Some k) (Term.const j) e h = let same : j ≡ k = cc in ap (λ j. unsigned_abs j * term_magnitude sets s) (sym same) ∙ times (unsigned_abs j) (term_magnitude sets s)
    by (Some k) (Term.var x) e h = cc
    by (Some k) (Term.sum ts) e h = cc
    by (Some k) (Term.neg s) e h = cc
    by (Some k) (Term.scale j s) e h = cc
    by (Some k) (Term.mul r s) e h = cc
    by (Some k) (Term.div r s) e h = cc
    by (Some k) (Term.rem r s) e h = cc
    by (Some k) (Term.abs s) e h = cc
    by (Some k) (Term.least ts) e h = cc
    by (Some k) (Term.greatest ts) e h = cc
    by (Some k) (Term.at table ts) e h = cc
    by (Some k) (Term.truth d) e h = cc
    by (Some k) (Term.asked ask x) e h = cc

scaled-none : (sets : List (ℤ × ℤ)) (o p : Option ℤ) (s t : Term) → is_some o ≡ false → is_some p ≡ false → term_magnitude sets (product_by o p s t) ≡ max 1 (term_magnitude sets s * term_magnitude sets t)
scaled-none sets (Some k) p s t f h = cc
scaled-none sets None (Some k) s t f h = cc
scaled-none sets None None s t f h = refl

no-times : (n : ℕ) → unsigned_abs (pos 0) * n ≡ 0
no-times n = omega arith

module _ (c : Context) where
  pub magnitude-Neg : (a : Expr) → magnitude c (E.Neg a) ≡ magnitude c a
  unfolding magnitude
  magnitude-Neg a = ap (term_magnitude (sets c)) (term_Neg (tables (arrays c)) [] a)

  pub magnitude-Abs : (a : Expr) → magnitude c (E.Abs a) ≡ max 1 (magnitude c a)
  unfolding magnitude
  magnitude-Abs a = ap (term_magnitude (sets c)) (term_Abs (tables (arrays c)) [] a)

  pub magnitude-Div : (a b : Expr) → magnitude c (E.Div a b) ≡ max 1 (magnitude c a)
  unfolding magnitude
  magnitude-Div a b = ap (term_magnitude (sets c)) (term_Div (tables (arrays c)) [] a b)

  pub magnitude-Rem : (a b : Expr) → magnitude c (E.Rem a b) ≡ max 1 (magnitude c a)
  unfolding magnitude
  magnitude-Rem a b = ap (term_magnitude (sets c)) (term_Rem (tables (arrays c)) [] a b)

  pub magnitude-left : (a b : Expr) → is_constant c a ≡ true → magnitude c (E.Mul a b) ≡ magnitude c a * magnitude c b
  unfolding magnitude
  magnitude-left a b h =
      let s : Term = term (tables (arrays c)) [] a in
      let t : Term = term (tables (arrays c)) [] b in
      ap (term_magnitude (sets c)) (term_Mul (tables (arrays c)) [] a b) ∙ scaled-left (sets c) (constant_value s) (constant_value t) s t refl h

  pub magnitude-right : (a b : Expr) → is_constant c a ≡ false → is_constant c b ≡ true → magnitude c (E.Mul a b) ≡ magnitude c a * magnitude c b
  unfolding magnitude
  magnitude-right a b h k =
      let s : Term = term (tables (arrays c)) [] a in
      let t : Term = term (tables (arrays c)) [] b in
      ap (term_magnitude (sets c)) (term_Mul (tables (arrays c)) [] a b) ∙ scaled-right (sets c) (constant_value s) (constant_value t) s t h refl k

  pub magnitude-Mul : (a b : Expr) → is_constant c a ≡ false → is_constant c b ≡ false → magnitude c (E.Mul a b) ≡ max 1 (magnitude c a * magnitude c b)
  unfolding magnitude
  magnitude-Mul a b h k =
      let s : Term = term (tables (arrays c)) [] a in
      let t : Term = term (tables (arrays c)) [] b in
      ap (term_magnitude (sets c)) (term_Mul (tables (arrays c)) [] a b) ∙ scaled-none (sets c) (constant_value s) (constant_value t) s t h k

  pub magnitude-nothing : (a : Expr) → magnitude c (nothing a) ≡ 0
  unfolding magnitude
  magnitude-nothing a =
      let s : Term = term (tables (arrays c)) [] (E.Const (pos 0)) in
      let t : Term = term (tables (arrays c)) [] a in
      ap (term_magnitude (sets c)) (term_Mul (tables (arrays c)) [] (E.Const (pos 0)) a)
      ∙ ap (λ s. term_magnitude (sets c) (product_by (constant_value s) (constant_value t) s t)) (term_Const (tables (arrays c)) [] (pos 0))
      ∙ no-times (term_magnitude (sets c) t)

  sum-total : (es : List Expr) → sum_magnitude (sets c) (terms_of (map (term (tables (arrays c)) []) es)) ≡ total (map (magnitude c) es)
  unfolding magnitude
  sum-total [] = refl
  sum-total (e ∷ es) = ap (λ n. magnitude c e + n) (sum-total es)

  greatest-all : (es : List Expr) → greatest_magnitude (sets c) (terms_of (map (term (tables (arrays c)) []) es)) ≡ greatest (map (magnitude c) es)
  unfolding magnitude
  greatest-all [] = refl
  greatest-all (e ∷ es) = ap (λ n. max (magnitude c e) n) (greatest-all es)

  pub magnitude-Sum : (es : List Expr) → magnitude c (E.Sum es) ≡ total (map (magnitude c) es)
  unfolding magnitude
  magnitude-Sum es = ap (term_magnitude (sets c)) (term_Sum (tables (arrays c)) [] es) ∙ sum-total es

  pub magnitude-Min : (es : List Expr) → magnitude c (E.Min es) ≡ max 1 (greatest (map (magnitude c) es))
  unfolding magnitude
  magnitude-Min es = ap (term_magnitude (sets c)) (term_Min (tables (arrays c)) [] es) ∙ ap (λ n. max 1 n) (greatest-all es)

  pub magnitude-Max : (es : List Expr) → magnitude c (E.Max es) ≡ max 1 (greatest (map (magnitude c) es))
  unfolding magnitude
  magnitude-Max es = ap (term_magnitude (sets c)) (term_Max (tables (arrays c)) [] es) ∙ ap (λ n. max 1 n) (greatest-all es)
