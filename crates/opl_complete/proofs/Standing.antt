-- Which forms ask for no capacity of a resource, by their parts.
use Rattle.std.proofs.Common.{◌≡◌, ℕ, ℤ, pos, Bool, true, false, ◌&&◌, List, [], ◌∷◌, map, refl, sym, ap, ◌∙◌}
use Rattle.std.specs.List.{list_all}
use Rattle.opl_eval.specs.Compare as compare
use Rattle.opl_eval.specs.Compare.{rank}
use Rattle.opl_eval.specs.Evaluation.{is_true}
use Rattle.opl_expr.specs.declared.forms.Cons.{Cons}
use Rattle.opl_expr.specs.declared.forms.Cons.TheVariants as C
use Rattle.opl_expr.specs.declared.forms.Cons.TheOpen.{Expr-F, Cons-F}
use Rattle.opl_expr.specs.declared.forms.Cons.TheFolds.{fold-roll-Expr, fold-roll-Cons, map-Expr, map-Cons}
use Rattle.opl_expr.specs.declared.forms.Cons.TheViews.{roll-Expr, roll-Cons}
use Rattle.opl_expr.specs.declared.forms.Expr.{Expr}
use Rattle.opl_expr.specs.declared.forms.Expr.TheVariants as E
use Rattle.opl_expr.specs.declared.forms.Op.{Op}
use Rattle.opl_expr.specs.declared.forms.Op.TheVariants.{Ne}
use Rattle.opl_expr.specs.declared.tables.Table.{Table}
use Rattle.opl_form.specs.Parts.{Form, as_condition, as_number, nothing, ranked}
use Rattle.opl_form.specs.Parts.Form.{known, number, name, condition, truth}
use Rattle.opl_trace.specs.GroundCores.{cons_may_stand, cons_parts, cons_stands, expr_may_stand, expr_parts, expr_stands}

both : (a b : Bool) → a ≡ true → b ≡ true → (a && b) ≡ true
both a b h k = cc

one : (a : Bool) → a ≡ true → (a && true) ≡ true
one a h = cc

pub two : (a b : Bool) → a ≡ true → b ≡ true → (a && (b && true)) ≡ true
two a b h k = both a (b && true) h (one b k)

module _ (tables : List Table) where
  abbrev pub plain : Expr → Bool
  plain e = expr_stands tables [] false e

  abbrev pub plain_cons : Cons → Bool
  plain_cons c = cons_stands tables [] false c

  abbrev pub all : List Bool → Bool
  all bs = list_all (λ b. b) bs

  -- ---- expressions and constraints by their parts

  abbrev expr_layer : Expr-F Bool Bool → Bool
  expr_layer x = expr_may_stand tables [] false x && all (expr_parts x)

  abbrev cons_layer : Cons-F Bool Bool → Bool
  cons_layer x = cons_may_stand tables [] false x && all (cons_parts x)

  expr-is : (x : Expr-F Cons Expr) → plain (roll-Expr x) ≡ expr_layer (map-Expr Cons Expr Bool Bool plain_cons plain x)
  unfolding expr_stands cons_stands
  expr-is x = fold-roll-Expr Bool Bool cons_layer expr_layer x

  cons-is : (x : Cons-F Cons Expr) → plain_cons (roll-Cons x) ≡ cons_layer (map-Cons Cons Expr Bool Bool plain_cons plain x)
  unfolding expr_stands cons_stands
  cons-is x = fold-roll-Cons Bool Bool cons_layer expr_layer x

  pub plain-Const : (k : ℤ) → plain (E.Const k) ≡ true
  plain-Const k = ap plain (sym (E.rolls-Const k)) ∙ expr-is (Expr-F.Const k)

  pub plain-Var : (x : ℕ) → plain (E.Var x) ≡ true
  plain-Var x = ap plain (sym (E.rolls-Var x)) ∙ expr-is (Expr-F.Var x)

  pub plain-Sum : (es : List Expr) → plain (E.Sum es) ≡ all (map plain es)
  plain-Sum es = ap plain (sym (E.rolls-Sum es)) ∙ expr-is (Expr-F.Sum es)

  pub plain-Neg : (e : Expr) → plain e ≡ true → plain (E.Neg e) ≡ true
  plain-Neg e h = ap plain (sym (E.rolls-Neg e)) ∙ (expr-is (Expr-F.Neg e) ∙ one (plain e) h)

  pub plain-Mul : (e f : Expr) → plain e ≡ true → plain f ≡ true → plain (E.Mul e f) ≡ true
  plain-Mul e f h k = ap plain (sym (E.rolls-Mul e f)) ∙ (expr-is (Expr-F.Mul e f) ∙ two (plain e) (plain f) h k)

  pub plain-Div : (e f : Expr) → plain e ≡ true → plain f ≡ true → plain (E.Div e f) ≡ true
  plain-Div e f h k = ap plain (sym (E.rolls-Div e f)) ∙ (expr-is (Expr-F.Div e f) ∙ two (plain e) (plain f) h k)

  pub plain-Rem : (e f : Expr) → plain e ≡ true → plain f ≡ true → plain (E.Rem e f) ≡ true
  plain-Rem e f h k = ap plain (sym (E.rolls-Rem e f)) ∙ (expr-is (Expr-F.Rem e f) ∙ two (plain e) (plain f) h k)

  pub plain-Abs : (e : Expr) → plain e ≡ true → plain (E.Abs e) ≡ true
  plain-Abs e h = ap plain (sym (E.rolls-Abs e)) ∙ (expr-is (Expr-F.Abs e) ∙ one (plain e) h)

  pub plain-Min : (es : List Expr) → plain (E.Min es) ≡ all (map plain es)
  plain-Min es = ap plain (sym (E.rolls-Min es)) ∙ expr-is (Expr-F.Min es)

  pub plain-Max : (es : List Expr) → plain (E.Max es) ≡ all (map plain es)
  plain-Max es = ap plain (sym (E.rolls-Max es)) ∙ expr-is (Expr-F.Max es)

  pub plain-At : (t : ℕ) (es : List Expr) → plain (E.At t es) ≡ all (map plain es)
  plain-At t es = ap plain (sym (E.rolls-At t es)) ∙ expr-is (Expr-F.At t es)

  pub plain-Truth : (c : Cons) → plain_cons c ≡ true → plain (E.Truth c) ≡ true
  plain-Truth c h = ap plain (sym (E.rolls-Truth c)) ∙ (expr-is (Expr-F.Truth c) ∙ one (plain_cons c) h)

  pub plain-Fixed : (b : Bool) → plain_cons (C.Fixed b) ≡ true
  plain-Fixed b = ap plain_cons (sym (C.rolls-Fixed b)) ∙ cons-is (Cons-F.Fixed b)

  pub plain-Cmp : (op : Op) (e f : Expr) → plain e ≡ true → plain f ≡ true → plain_cons (C.Cmp op e f) ≡ true
  plain-Cmp op e f h k = ap plain_cons (sym (C.rolls-Cmp op e f)) ∙ (cons-is (Cons-F.Cmp op e f) ∙ two (plain e) (plain f) h k)

  pub plain-And : (cs : List Cons) → plain_cons (C.And cs) ≡ all (map plain_cons cs)
  plain-And cs = ap plain_cons (sym (C.rolls-And cs)) ∙ cons-is (Cons-F.And cs)

  pub plain-Or : (cs : List Cons) → plain_cons (C.Or cs) ≡ all (map plain_cons cs)
  plain-Or cs = ap plain_cons (sym (C.rolls-Or cs)) ∙ cons-is (Cons-F.Or cs)

  pub plain-Imp : (c d : Cons) → plain_cons c ≡ true → plain_cons d ≡ true → plain_cons (C.Imp c d) ≡ true
  plain-Imp c d h k = ap plain_cons (sym (C.rolls-Imp c d)) ∙ (cons-is (Cons-F.Imp c d) ∙ two (plain_cons c) (plain_cons d) h k)

  pub plain-Iff : (c d : Cons) → plain_cons c ≡ true → plain_cons d ≡ true → plain_cons (C.Iff c d) ≡ true
  plain-Iff c d h k = ap plain_cons (sym (C.rolls-Iff c d)) ∙ (cons-is (Cons-F.Iff c d) ∙ two (plain_cons c) (plain_cons d) h k)

  pub plain-Not : (c : Cons) → plain_cons c ≡ true → plain_cons (C.Not c) ≡ true
  plain-Not c h = ap plain_cons (sym (C.rolls-Not c)) ∙ (cons-is (Cons-F.Not c) ∙ one (plain_cons c) h)

  pub plain-AllDifferent : (es : List Expr) → plain_cons (C.AllDifferent es) ≡ all (map plain es)
  plain-AllDifferent es = ap plain_cons (sym (C.rolls-AllDifferent es)) ∙ cons-is (Cons-F.AllDifferent es)

  -- ---- parts

  -- a part that asks for no capacity
  abbrev pub Stands : Form → Type 0
  Stands (known v) = Unit {0}
  Stands (number e) = plain e ≡ true
  Stands (name d e) = plain e ≡ true
  Stands (condition c) = plain_cons c ≡ true
  Stands (truth c) = plain_cons c ≡ true

  abbrev pub AllStand : List Form → Type 0
  AllStand [] = Unit {0}
  AllStand (g ∷ gs) = Stands g × AllStand gs

  nothing-stands : (e : Expr) → plain e ≡ true → plain (nothing e) ≡ true
  nothing-stands e h = plain-Mul (E.Const (pos 0)) e (plain-Const (pos 0)) h

  pub as_number-stands : (g : Form) → Stands g → plain (as_number g) ≡ true
  as_number-stands (known v) h = plain-Const (compare.number v)
  as_number-stands (number e) h = h
  as_number-stands (name d e) h = nothing-stands e h
  as_number-stands (condition c) h = plain-Truth c h
  as_number-stands (truth c) h = plain-Truth c h

  pub ranked-stands : (g : Form) → Stands g → plain (ranked g) ≡ true
  ranked-stands (known v) h = plain-Const (rank v)
  ranked-stands (number e) h = h
  ranked-stands (name d e) h = h
  ranked-stands (condition c) h = plain-Truth c h
  ranked-stands (truth c) h = plain-Truth c h

  pub nothing-compared : (op : Op) (e : Expr) → plain e ≡ true → plain_cons (C.Cmp op (nothing e) (nothing e)) ≡ true
  nothing-compared op e h = plain-Cmp op (nothing e) (nothing e) (nothing-stands e h) (nothing-stands e h)

  pub as_condition-stands : (g : Form) → Stands g → plain_cons (as_condition g) ≡ true
  as_condition-stands (known v) h = plain-Fixed (is_true v)
  as_condition-stands (number e) h = nothing-compared Ne e h
  as_condition-stands (name d e) h = nothing-compared Ne e h
  as_condition-stands (condition c) h = h
  as_condition-stands (truth c) h = h

  pub numbers-stand : (gs : List Form) → AllStand gs → all (map plain (map as_number gs)) ≡ true
  numbers-stand [] h = refl
  numbers-stand (g ∷ gs) h = both (plain (as_number g)) (all (map plain (map as_number gs))) (as_number-stands g h.0) (numbers-stand gs h.1)

  pub ranks-stand : (gs : List Form) → AllStand gs → all (map plain (map ranked gs)) ≡ true
  ranks-stand [] h = refl
  ranks-stand (g ∷ gs) h = both (plain (ranked g)) (all (map plain (map ranked gs))) (ranked-stands g h.0) (ranks-stand gs h.1)

  pub conditions-stand : (gs : List Form) → AllStand gs → all (map plain_cons (map as_condition gs)) ≡ true
  conditions-stand [] h = refl
  conditions-stand (g ∷ gs) h = both (plain_cons (as_condition g)) (all (map plain_cons (map as_condition gs))) (as_condition-stands g h.0) (conditions-stand gs h.1)
