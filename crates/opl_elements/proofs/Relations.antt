-- Comparisons of two parts.
use Rattle.std.proofs.Common.{◌≡◌, ℕ, ◌+◌, ◌^◌, ◌<◌, ◌≤◌, Bool, true, false, List, [], ◌∷◌, Some, None, Ok, Err, refl, sym, ap, ◌∙◌}
use Rattle.opl_tree.specs.declared.expression.Relation.{Relation}
use Rattle.opl_tree.specs.declared.expression.Relation.TheVariants.{Equal, NotEqual, Less, LessOrEqual, Greater, GreaterOrEqual}
use Rattle.opl_value.specs.declared.value.Value.TheVariants as values
use Rattle.opl_value.specs.Places.{value_at}
use Rattle.opl_eval.specs.Compare as compare
use Rattle.opl_expr.specs.declared.forms.Cons.TheVariants as C
use Rattle.opl_expr.specs.declared.forms.Expr.{Expr}
use Rattle.opl_expr.specs.declared.forms.Op.{Op}
use Rattle.opl_expr.specs.declared.forms.Op.TheVariants.{Eq, Ne}
use Rattle.opl_form.specs.Parts.{Form, alike, all_known, ranked, sort_of}
use Rattle.opl_form.specs.Nodes.{Made, by_kind, compared, condition_node, known_node, op_of, sized}
use Rattle.opl_form.specs.Nodes.Fault.{large}
use Rattle.opl_nodes.specs.declared.context.Context.{Context}
use Rattle.opl_nodes.specs.declared.part.Part.{Part}
use Rattle.opl_nodes.specs.Contexts.{arrays, sets}
use Rattle.opl_nodes.specs.Pieces.{IsPart, form, magnitude}
use Rattle.opl_nodes.proofs.Tests.{sized-large, sized-small}
use Rattle.opl_elements.specs.Comparisons.{apart, live_comparison, related, unlike}
use Rattle.opl_elements.proofs.Folded.{folded-known, folded-live}

-- ---- kinds

pub by_kind-unlike : (b : Bool) (r : Relation) (op : Op) (e f : Expr) → unlike b r ≡ Some op → by_kind b (op_of r) e f ≡ apart op e f
by_kind-unlike true r op e f h = absurd (cc)
by_kind-unlike false Equal op e f h = let k : Ne ≡ op = cc in ap (λ op. apart op e f) k
by_kind-unlike false NotEqual op e f h = let k : Eq ≡ op = cc in ap (λ op. apart op e f) k
by_kind-unlike false Less op e f h = absurd (cc)
by_kind-unlike false LessOrEqual op e f h = absurd (cc)
by_kind-unlike false Greater op e f h = absurd (cc)
by_kind-unlike false GreaterOrEqual op e f h = absurd (cc)

pub by_kind-alike : (b : Bool) (r : Relation) (e f : Expr) → unlike b r ≡ None → by_kind b (op_of r) e f ≡ C.Cmp (op_of r) e f
by_kind-alike true r e f h = refl
by_kind-alike false Equal e f h = absurd (cc)
by_kind-alike false NotEqual e f h = absurd (cc)
by_kind-alike false Less e f h = refl
by_kind-alike false LessOrEqual e f h = refl
by_kind-alike false Greater e f h = refl
by_kind-alike false GreaterOrEqual e f h = refl

-- ---- whole comparisons

module _ (c : Context) (at n : ℕ) (r : Relation) (g h : Form) where
  abbrev holds : List Rattle.opl_value.specs.declared.value.Value.Value → Bool
  holds vs = compare.relates r (value_at vs 0) (value_at vs 1)

  pub compared-known : (b : Bool) → related r g h ≡ Some b → compared (sets c) (arrays c) c.item at n r g h ≡ known_node c.item n (values.Bool b)
  unfolding magnitude
  compared-known b k = folded-known c.item n (all_known (g ∷ h ∷ [])) holds (live_comparison c at n r g h) b k

  pub compared-live : related r g h ≡ None → compared (sets c) (arrays c) c.item at n r g h ≡ live_comparison c at n r g h
  unfolding magnitude
  compared-live k = folded-live c.item n (all_known (g ∷ h ∷ [])) holds (λ vs. Ok (values.Bool (holds vs))) (live_comparison c at n r g h) k

module _ (c : Context) (at n : ℕ) (r : Relation) (p q : Part) (i : IsPart c p) (j : IsPart c q) where
  abbrev node : Made Form
  node = condition_node c.item n (by_kind (alike (sort_of (form p)) (sort_of (form q))) (op_of r) (ranked (form p)) (ranked (form q)))

  sizes : p.size + q.size ≡ magnitude c (ranked (form p)) + magnitude c (ranked (form q))
  sizes = λ k. i.size k + j.size k

  pub live-large : 2 ^ 127 ≤ p.size + q.size → live_comparison c at n r (form p) (form q) ≡ Err (large at)
  live-large k = ap (λ m. sized at m node) (sym sizes) ∙ sized-large at (p.size + q.size) node k

  pub live-small : p.size + q.size < 2 ^ 127 → live_comparison c at n r (form p) (form q) ≡ node
  live-small k = ap (λ m. sized at m node) (sym sizes) ∙ sized-small at (p.size + q.size) node k
