-- Which expressions are the cells of an array, by their trees.
use Rattle.std.proofs.Common.{◌≡◌, ℕ, List, [], ◌∷◌, ◌++◌, map, Option, None, Some, refl, ap, ◌∙◌, sym}
use Rattle.std.specs.Option.{option_map}
use Rattle.opl_tree.specs.declared.expression.CallOp.{CallOp}
use Rattle.opl_tree.specs.declared.expression.CallOp.TheVariants as calls
use Rattle.opl_tree.specs.declared.expression.AddTree.{AddTree}
use Rattle.opl_tree.specs.declared.expression.AddStep.{AddStep}
use Rattle.opl_tree.specs.declared.expression.LastStep.{LastStep}
use Rattle.opl_tree.specs.declared.expression.MulStep.{MulStep}
use Rattle.opl_tree.specs.declared.expression.MulTree.{MulTree}
use Rattle.opl_tree.specs.declared.expression.MulTree.TheVariants as muls
use Rattle.opl_tree.specs.declared.expression.OpenTree.{OpenTree}
use Rattle.opl_tree.specs.declared.expression.PostTree.{PostTree}
use Rattle.opl_tree.specs.declared.expression.SignTree.{SignTree}
use Rattle.opl_tree.specs.declared.expression.SuffixTree.{SuffixTree}
use Rattle.opl_tree.specs.declared.expression.CompareTree.TheViews.{out-AddTree, out-PostTree}
use Rattle.opl_expression_types.specs.Cells.{Held, held, alone, alone_or}
use Rattle.opl_expression_types.specs.Cells.Held.{other}
use Rattle.opl_type_rules.specs.Forms.{Form, Suffix, with_suffix, with_suffixes, chain, call, or_none, form_add, form_add_step, form_last_step, form_mul, form_mul_step, form_open, form_post, form_prim, form_sign, form_suffix}
use Rattle.opl_type_rules.specs.Forms.Form.{arithmetic}
use Rattle.opl_type_rules.specs.Forms.Suffix.{subscripts, field_of}
use Rattle.opl_type_rules.proofs.Forms.{form_add-is, form_mul-Opened, form_mul-Product, form_post-is}

held-suffix : (at : ℕ) (f : Form) (s : Suffix) → held (with_suffix at f s) ≡ other
held-suffix at f (subscripts es) = refl
held-suffix at f (field_of name) = refl

held-more : (at : ℕ) (f : Form) (ss : List Suffix) → held f ≡ other → held (with_suffixes at f ss) ≡ other
held-more at f [] h = h
held-more at f (s ∷ ss) h = held-more at (with_suffix at f s) ss (held-suffix at f s)

-- an expression with a suffix is no array of cells
held-suffixes : (at : ℕ) (f : Form) (ss : List SuffixTree) → held (with_suffixes at f (map form_suffix ss)) ≡ alone f ss
held-suffixes at f [] = refl
held-suffixes at f (s ∷ ss) = held-more at (with_suffix at f (form_suffix s)) (map form_suffix ss) (held-suffix at f (form_suffix s))

pub post-held : (t : PostTree) → held (form_post t) ≡ alone (form_prim (out-PostTree t).prim) (out-PostTree t).suffixes
post-held t = ap held (form_post-is t) ∙ held-suffixes (out-PostTree t).at (form_prim (out-PostTree t).prim) (out-PostTree t).suffixes

pub held-call : (op : CallOp) (at : ℕ) (f : Form) → held (call op at f) ≡ other
held-call calls.Absolute at f = refl
held-call calls.Cardinality at f = refl

-- nor is a chain of two or more operands
held-chain : (at : ℕ) (f : Form) (xs : List AddStep) → held (chain (arithmetic at) f (map form_add_step xs)) ≡ alone f xs
held-chain at f [] = refl
held-chain at f (x ∷ xs) = refl

pub add-held : (t : AddTree) → held (form_add t) ≡ alone (form_mul (out-AddTree t).first) (out-AddTree t).rest
add-held t = ap held (form_add-is t) ∙ held-chain (out-AddTree t).at (form_mul (out-AddTree t).first) (out-AddTree t).rest

held-product : (at : ℕ) (f : Form) (steps : List MulStep) (last : Option LastStep) → held (chain (arithmetic at) f (map form_mul_step steps ++ or_none (option_map form_last_step last))) ≡ alone_or f steps last
held-product at f [] None = refl
held-product at f [] (Some last) = refl
held-product at f (x ∷ xs) None = refl
held-product at f (x ∷ xs) (Some last) = refl

pub mul-held : (at : ℕ) (head : SignTree) (steps : List MulStep) (last : Option LastStep) → held (form_mul (muls.Product at head steps last)) ≡ alone_or (form_sign head) steps last
mul-held at head steps last = ap held (form_mul-Product at head steps last) ∙ held-product at (form_sign head) steps last

pub mul-at : (t : MulTree) (at : ℕ) (head : SignTree) (steps : List MulStep) (last : Option LastStep) (h : Held) (given : List MulStep) →
    t ≡ muls.Product at head steps last → given ≡ steps → h ≡ alone_or (form_sign head) given last → h ≡ held (form_mul t)
mul-at t at head steps last h given e f g =
    g ∙ ap (λ ss. alone_or (form_sign head) ss last) f ∙ sym (mul-held at head steps last) ∙ ap (λ u. held (form_mul u)) (sym e)

pub mul-opened : (inner : OpenTree) → held (form_mul (muls.Opened inner)) ≡ held (form_open inner)
mul-opened inner = ap held (form_mul-Opened inner)

pub ruleset posts = (post-held)

pub ruleset calls_held = (held-call)

pub ruleset adds = (add-held)

pub ruleset muls_held = (mul-opened)
