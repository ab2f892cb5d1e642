-- The order of two activities, as the program writes it.
use Rattle.std.proofs.Common.{◌≡◌, ℕ, suc, ◌+◌, List, [], ◌∷◌, ◌++◌, ap, ◌∙◌, arith}
use Rattle.opl_expr.specs.declared.forms.Op.TheVariants.{Le}
use Rattle.opl_expr.specs.declared.forms.Expr.{Expr}
use Rattle.opl_expr.specs.declared.forms.Expr.TheVariants as E
use Rattle.opl_expr.specs.declared.forms.Cons.TheVariants as C
use Rattle.opl_expr.specs.declared.tables.Table.{Table}
use Rattle.opl_expr.specs.declared.tables.Resource.{Resource}
use Rattle.opl_expr.specs.Forms.{Term, term, fact, terms_of, compared, plus}
use Rattle.opl_expr.proofs.Plain.{term_Var, term_Sum, fact_Cmp}
use Rattle.opl_trace.specs.Answers.{precedes}

pub order_made : (tables : List Table) (resources : List Resource) (x y : ℕ) (p q : List Expr) (l r : Expr) → p ≡ E.Var x ∷ [] → q ≡ p ++ E.Var (x + 1) ∷ [] → l ≡ E.Sum q → r ≡ E.Var y → fact tables resources (C.Cmp Le l r) ≡ precedes x y
order_made tables resources x y p q l r i j k m =
    let n : x + 1 ≡ suc x = omega arith in
    let s : term tables resources l ≡ plus (Term.var x) (Term.var (suc x)) =
    ap (term tables resources) (k ∙ ap E.Sum (j ∙ ap (λ es. es ++ E.Var (x + 1) ∷ []) i)) ∙ term_Sum tables resources (E.Var x ∷ E.Var (x + 1) ∷ [])
    ∙ ap (λ t. Term.sum (terms_of (t ∷ term tables resources (E.Var (x + 1)) ∷ []))) (term_Var tables resources x)
    ∙ ap (λ t. Term.sum (terms_of (Term.var x ∷ t ∷ []))) (term_Var tables resources (x + 1)) ∙ ap (λ z. plus (Term.var x) (Term.var z)) n in
    fact_Cmp tables resources Le l r ∙ ap (λ t. compared Le t (term tables resources r)) s
    ∙ ap (λ t. compared Le (plus (Term.var x) (Term.var (suc x))) t) (ap (term tables resources) m ∙ term_Var tables resources y)
