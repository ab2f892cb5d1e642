-- No form that is made asks for the capacity of a resource.
use Rattle.std.proofs.Common.{◌≡◌, ℕ, zero, suc, ◌+◌, ◌^◌, ℤ, pos, Bool, true, false, cond, ◌&&◌, nat_lt, nat_le, length, unsigned_abs, List, [], ◌∷◌, ◌++◌, map, Option, None, Some, Ok, Err, refl, subst, ◌∙◌}
use Rattle.std.specs.List.{list_all}
use Rattle.opl_tree.specs.declared.expression.AggregateOp.{AggregateOp}
use Rattle.opl_tree.specs.declared.expression.AggregateOp.TheVariants.{Sum, Product, Min, Max}
use Rattle.opl_tree.specs.declared.expression.Relation.{Relation}
use Rattle.opl_value.specs.declared.value.Value.{Value}
use Rattle.opl_value.specs.declared.value.Value.TheVariants as values
use Rattle.opl_value.specs.Places.{place_of, value_at}
use Rattle.opl_eval.specs.declared.fault.EvalFault.TheVariants.{DivByZero, OutOfIndex}
use Rattle.opl_eval.specs.Compare.{rank}
use Rattle.opl_eval.specs.Evaluation.{Found}
use Rattle.opl_meaning.specs.declared.variable.Kind.{Kind}
use Rattle.opl_meaning.specs.declared.variable.Kind.TheVariants.{Number, Enumeration}
use Rattle.opl_draft.specs.Drafts.{Cells, Draft, Drafts, Leaves, Sign, Steps}
use Rattle.opl_draft.specs.Drafts.Drafts.{no_drafts, more_drafts}
use Rattle.opl_draft.specs.Drafts.Leaves.{listed, numbered}
use Rattle.opl_draft.specs.Drafts.Sign.{plus, minus, times, quotient, remainder}
use Rattle.opl_draft.specs.Drafts.Steps.{no_steps, more_steps}
use Rattle.opl_draft.specs.Instances.{Condition}
use Rattle.opl_expr.specs.declared.forms.Cons.{Cons}
use Rattle.opl_expr.specs.declared.forms.Cons.TheVariants as C
use Rattle.opl_expr.specs.declared.forms.Expr.{Expr}
use Rattle.opl_expr.specs.declared.forms.Expr.TheVariants as E
use Rattle.opl_expr.specs.declared.forms.Op.{Op}
use Rattle.opl_expr.specs.declared.forms.Op.TheVariants.{Eq, Ne, Lt, Le, Gt, Ge}
use Rattle.opl_form.specs.Parts.{Form, Sort, alike, all_known, are_indices, as_condition, as_number, leaves, nothing, ranked, sort_of, subscripts_fit, tables, variables}
use Rattle.opl_form.specs.Parts.Form.{known, number, name, condition, truth}
use Rattle.opl_form.specs.Parts.Sort.{whole, named, other}
use Rattle.opl_form.specs.Measures.{depth, depth_of, nodes, nodes_of, part_nodes}
use Rattle.opl_form.specs.Nodes as making
use Rattle.opl_form.specs.Nodes.{Made, Parts, absolute, aggregated, all_differ, are_alike, as_operand, by_kind, by_sign, chain_of, chained, compared, condition_node, counted, different, divided, element_at, element_node, element_sort, evaluated, folded, greatest_of, implied, indexed, is_zero, known_node, least, left_over, looked_up, multiplied, negated, next, number_node, number_part, op_of, operand, opposite, parts_nodes, placed, product, product_from, size, sized, stepped, summed, truth_part, two_greatest, unless_zero, value_node, variable_sort, with_indices}
use Rattle.opl_form.specs.Made.{array_of, made, made_all, made_first, made_operands, made_same, made_steps, place, places}
use Rattle.opl_form.specs.Forms.{form, forms}
use Rattle.opl_optimum.specs.Goals.{goal_form}
use Rattle.opl_optimum.proofs.GoalLaws.{alone, goal-made}
use Rattle.opl_complete.proofs.Standing.{AllStand, Stands, as_condition-stands, as_number-stands, conditions-stand, nothing-compared, numbers-stand, plain, plain-Abs, plain-AllDifferent, plain-And, plain-At, plain-Cmp, plain-Div, plain-Iff, plain-Imp, plain-Max, plain-Min, plain-Mul, plain-Neg, plain-Not, plain-Or, plain-Rem, plain-Sum, plain-Var, plain_cons, ranked-stands, ranks-stand, two}

-- what is made, if there is no fault, is as it should be
abbrev pub Keeps : {A : Type 0} → (A → Type 0) → Made A → Type 0
Keeps P (Ok a) = P a
Keeps P (Err fault) = Unit {0}

keeps-cond : {A : Type 0} (P : A → Type 0) (b : Bool) (r s : Made A) → Keeps P r → Keeps P s → Keeps P (cond b r s)
keeps-cond P true r s h k = h
keeps-cond P false r s h k = k

keeps-next : {A B : Type 0} (P : A → Type 0) (Q : B → Type 0) (r : Made A) (f : A → Made B) → Keeps P r → ((a : A) → P a → Keeps Q (f a)) → Keeps Q (next r f)
keeps-next P Q (Ok a) f h k = k a h
keeps-next P Q (Err fault) f h k = tt

keeps-sized : {A : Type 0} (P : A → Type 0) (at m : ℕ) (r : Made A) → Keeps P r → Keeps P (sized at m r)
keeps-sized P at m r h = keeps-cond P (nat_lt m (2 ^ 127)) r (Err (making.Fault.large at)) h tt

keeps-counted : (P : Form → Type 0) (item n depth more : ℕ) (g : Form) → P g → Keeps P (counted item n depth more g)
keeps-counted P item n depth more g h =
    keeps-cond P (nat_le depth 2048) (cond (nat_le (n + more) 4194304) (Ok g) (Err (making.Fault.many item))) (Err (making.Fault.deep item))
    (keeps-cond P (nat_le (n + more) 4194304) (Ok g) (Err (making.Fault.many item)) h tt) tt

module _ (sets : List (ℤ × ℤ)) (arrays : List Cells) (item : ℕ) where
  abbrev Good : Form → Type 0
  Good g = Stands (tables arrays) g

  abbrev Goods : List Form → Type 0
  Goods gs = AllStand (tables arrays) gs

  abbrev Keep : Made Form → Type 0
  Keep r = Keeps Good r

  abbrev GoodParts : Parts → Type 0
  GoodParts ps = Good ps.0 × Goods ps.1

  -- ---- nodes

  known-keeps : (n : ℕ) (v : Value) → Keep (known_node item n v)
  known-keeps n v = keeps-counted Good item n 1 1 (known v) tt

  evaluated-keeps : (n : ℕ) (r : Found Value) → Keep (evaluated item n r)
  evaluated-keeps n (Ok v) = known-keeps n v
  evaluated-keeps n (Err fault) = tt

  folded-keeps : (n : ℕ) (o : Option (List Value)) (come : List Value → Found Value) (node : Made Form) → Keep node → Keep (folded item n o come node)
  folded-keeps n None come node h = h
  folded-keeps n (Some vs) come node h = evaluated-keeps n (come vs)

  value-keeps : (at n : ℕ) (v : Value) → Keep (value_node item at n v)
  value-keeps at n v = keeps-sized Good at (unsigned_abs (rank v)) (known_node item n v) (known-keeps n v)

  number-keeps : (at n : ℕ) (e : Expr) → plain (tables arrays) e ≡ true → Keep (number_node sets arrays item at n e)
  number-keeps at n e h = keeps-sized Good at (size sets arrays e) (counted item n (depth e) (nodes e) (number e)) (keeps-counted Good item n (depth e) (nodes e) (number e) h)

  condition-keeps : (n : ℕ) (c : Cons) → plain_cons (tables arrays) c ≡ true → Keep (condition_node item n c)
  condition-keeps n c h = keeps-counted Good item n (depth_of c) (nodes_of c) (condition c) h

  -- ---- truths

  one_holds-keeps : (n : ℕ) (gs : List Form) → Goods gs → Keep (making.one_holds item n gs)
  one_holds-keeps n gs h =
      folded-keeps n (all_known gs) _ (condition_node item n (C.Or (map as_condition gs)))
      (condition-keeps n (C.Or (map as_condition gs)) (plain-Or (tables arrays) (map as_condition gs) ∙ conditions-stand (tables arrays) gs h))

  all_hold-keeps : (n : ℕ) (gs : List Form) → Goods gs → Keep (making.all_hold item n gs)
  all_hold-keeps n gs h =
      folded-keeps n (all_known gs) _ (condition_node item n (C.And (map as_condition gs)))
      (condition-keeps n (C.And (map as_condition gs)) (plain-And (tables arrays) (map as_condition gs) ∙ conditions-stand (tables arrays) gs h))

  implied-keeps : (n : ℕ) (g h : Form) → Good g → Good h → Keep (implied item n g h)
  implied-keeps n g h a b =
      folded-keeps n (all_known (g ∷ h ∷ [])) _ (condition_node item n (C.Imp (as_condition g) (as_condition h)))
      (condition-keeps n (C.Imp (as_condition g) (as_condition h)) (plain-Imp (tables arrays) (as_condition g) (as_condition h) (as_condition-stands (tables arrays) g a) (as_condition-stands (tables arrays) h b)))

  same-keeps : (n : ℕ) (g h : Form) → Good g → Good h → Keep (making.same item n g h)
  same-keeps n g h a b =
      folded-keeps n (all_known (g ∷ h ∷ [])) _ (condition_node item n (C.Iff (as_condition g) (as_condition h)))
      (condition-keeps n (C.Iff (as_condition g) (as_condition h)) (plain-Iff (tables arrays) (as_condition g) (as_condition h) (as_condition-stands (tables arrays) g a) (as_condition-stands (tables arrays) h b)))

  opposite-keeps : (n : ℕ) (g : Form) → Good g → Keep (opposite item n g)
  opposite-keeps n g a =
      folded-keeps n (all_known (g ∷ [])) _ (condition_node item n (C.Not (as_condition g)))
      (condition-keeps n (C.Not (as_condition g)) (plain-Not (tables arrays) (as_condition g) (as_condition-stands (tables arrays) g a)))

  pub truth_part-keeps : (n : ℕ) (g : Form) → Good g → Keep (truth_part item n g)
  truth_part-keeps n (known v) h = tt
  truth_part-keeps n (condition c) h = h
  truth_part-keeps n (number e) h = condition-keeps n (as_condition (number e)) (as_condition-stands (tables arrays) (number e) h)
  truth_part-keeps n (name d e) h = condition-keeps n (as_condition (name d e)) (as_condition-stands (tables arrays) (name d e) h)
  truth_part-keeps n (truth c) h = condition-keeps n (as_condition (truth c)) (as_condition-stands (tables arrays) (truth c) h)

  operand-keeps : (at n : ℕ) (g : Form) → Good g → Keep (operand item at n g)
  operand-keeps at n (known v) h = h
  operand-keeps at n (number e) h = h
  operand-keeps at n (name d e) h = h
  operand-keeps at n (truth c) h = h
  operand-keeps at n (condition c) h =
      keeps-sized Good at 1 (counted item n (suc (depth_of c)) (suc (nodes_of c)) (truth c)) (keeps-counted Good item n (suc (depth_of c)) (suc (nodes_of c)) (truth c) h)

  as_operand-keeps : (at n : ℕ) (r : Made Form) → Keep r → Keep (as_operand item at n r)
  as_operand-keeps at n r h = keeps-next Good Good r (λ g. operand item at n g) h (λ g k. operand-keeps at n g k)

  -- ---- numbers

  number_part-keeps : (at n : ℕ) (g : Form) → Good g → Keep (number_part sets arrays item at n g)
  number_part-keeps at n (known v) h = tt
  number_part-keeps at n (number e) h = h
  number_part-keeps at n (name d e) h = number-keeps at n (as_number (name d e)) (as_number-stands (tables arrays) (name d e) h)
  number_part-keeps at n (condition c) h = number-keeps at n (as_number (condition c)) (as_number-stands (tables arrays) (condition c) h)
  number_part-keeps at n (truth c) h = number-keeps at n (as_number (truth c)) (as_number-stands (tables arrays) (truth c) h)

  sum-keeps : (at n : ℕ) (gs : List Form) → Goods gs → Keep (number_node sets arrays item at n (E.Sum (map as_number gs)))
  sum-keeps at n gs h = number-keeps at n (E.Sum (map as_number gs)) (plain-Sum (tables arrays) (map as_number gs) ∙ numbers-stand (tables arrays) gs h)

  summed-keeps : (at n : ℕ) (gs : List Form) → Goods gs → Keep (summed sets arrays item at n gs)
  summed-keeps at n gs h = folded-keeps n (all_known gs) _ (number_node sets arrays item at n (E.Sum (map as_number gs))) (sum-keeps at n gs h)

  chained-keeps : (at n : ℕ) (g : Form) (hs : List Form) → Good g → Goods hs → Keep (chained sets arrays item at n g hs)
  chained-keeps at n g [] a b = number_part-keeps at n g a
  chained-keeps at n g (h ∷ hs) a b = folded-keeps n (all_known (g ∷ h ∷ hs)) (chain_of at) (number_node sets arrays item at n (E.Sum (map as_number (g ∷ h ∷ hs)))) (sum-keeps at n (g ∷ h ∷ hs) (a, b))

  negated-keeps : (at n : ℕ) (g : Form) → Good g → Keep (negated sets arrays item at n g)
  negated-keeps at n g h =
      folded-keeps n (all_known (g ∷ [])) _ (number_node sets arrays item at n (E.Neg (as_number g)))
      (number-keeps at n (E.Neg (as_number g)) (plain-Neg (tables arrays) (as_number g) (as_number-stands (tables arrays) g h)))

  absolute-keeps : (at n : ℕ) (g : Form) → Good g → Keep (absolute sets arrays item at n g)
  absolute-keeps at n g h =
      folded-keeps n (all_known (g ∷ [])) _ (number_node sets arrays item at n (E.Abs (as_number g)))
      (number-keeps at n (E.Abs (as_number g)) (plain-Abs (tables arrays) (as_number g) (as_number-stands (tables arrays) g h)))

  multiplied-keeps : (at n : ℕ) (g h : Form) → Good g → Good h → Keep (multiplied sets arrays item at n g h)
  multiplied-keeps at n g h a b =
      folded-keeps n (all_known (g ∷ h ∷ [])) _ (number_node sets arrays item at n (E.Mul (as_number g) (as_number h)))
      (number-keeps at n (E.Mul (as_number g) (as_number h)) (plain-Mul (tables arrays) (as_number g) (as_number h) (as_number-stands (tables arrays) g a) (as_number-stands (tables arrays) h b)))

  unless-keeps : (at : ℕ) (g : Form) (r : Made Form) → Keep r → Keep (unless_zero at g r)
  unless-keeps at g r h = keeps-cond Good (is_zero g) (Err (making.Fault.eval (DivByZero at))) r tt h

  divided-keeps : (at n : ℕ) (g h : Form) → Good g → Good h → Keep (divided sets arrays item at n g h)
  divided-keeps at n g h a b =
      unless-keeps at h _
      (folded-keeps n (all_known (g ∷ h ∷ [])) _ (number_node sets arrays item at n (E.Div (as_number g) (as_number h)))
      (number-keeps at n (E.Div (as_number g) (as_number h)) (plain-Div (tables arrays) (as_number g) (as_number h) (as_number-stands (tables arrays) g a) (as_number-stands (tables arrays) h b))))

  left_over-keeps : (at n : ℕ) (g h : Form) → Good g → Good h → Keep (left_over sets arrays item at n g h)
  left_over-keeps at n g h a b =
      unless-keeps at h _
      (folded-keeps n (all_known (g ∷ h ∷ [])) _ (number_node sets arrays item at n (E.Rem (as_number g) (as_number h)))
      (number-keeps at n (E.Rem (as_number g) (as_number h)) (plain-Rem (tables arrays) (as_number g) (as_number h) (as_number-stands (tables arrays) g a) (as_number-stands (tables arrays) h b))))

  from-keeps : (at n : ℕ) (g : Form) (hs : List Form) → Good g → Goods hs → Keep (product_from sets arrays item at n g hs)
  from-keeps at n g [] a b = number_part-keeps at n g a
  from-keeps at n g (h ∷ hs) a b = keeps-next Good Good (multiplied sets arrays item at n g h) (λ k. product_from sets arrays item at n k hs) (multiplied-keeps at n g h a b.0) (λ k c. from-keeps at n k hs c b.1)

  product-keeps : (at n : ℕ) (gs : List Form) → Goods gs → Keep (product sets arrays item at n gs)
  product-keeps at n [] h = known-keeps n (values.Int (pos 1))
  product-keeps at n (g ∷ gs) h = from-keeps at n g gs h.0 h.1

  least-keeps : (at n : ℕ) (gs : List Form) → Goods gs → Keep (least sets arrays item at n gs)
  least-keeps at n [] h = tt
  least-keeps at n (g ∷ gs) h =
      folded-keeps n (all_known (g ∷ gs)) _ (number_node sets arrays item at n (E.Min (map as_number (g ∷ gs))))
      (number-keeps at n (E.Min (map as_number (g ∷ gs))) (plain-Min (tables arrays) (map as_number (g ∷ gs)) ∙ numbers-stand (tables arrays) (g ∷ gs) h))

  greatest-keeps : (at n : ℕ) (gs : List Form) → Goods gs → Keep (greatest_of sets arrays item at n gs)
  greatest-keeps at n [] h = tt
  greatest-keeps at n (g ∷ gs) h =
      folded-keeps n (all_known (g ∷ gs)) _ (number_node sets arrays item at n (E.Max (map as_number (g ∷ gs))))
      (number-keeps at n (E.Max (map as_number (g ∷ gs))) (plain-Max (tables arrays) (map as_number (g ∷ gs)) ∙ numbers-stand (tables arrays) (g ∷ gs) h))

  aggregated-keeps : (op : AggregateOp) (at n : ℕ) (gs : List Form) → Goods gs → Keep (aggregated sets arrays item op at n gs)
  aggregated-keeps Sum at n gs h = summed-keeps at n gs h
  aggregated-keeps Product at n gs h = product-keeps at n gs h
  aggregated-keeps Min at n gs h = least-keeps at n gs h
  aggregated-keeps Max at n gs h = greatest-keeps at n gs h

  -- ---- steps of chains

  goods-last : (hs : List Form) (g : Form) → Goods hs → Good g → Goods (hs ++ g ∷ [])
  goods-last [] g a b = (b, tt)
  goods-last (h ∷ hs) g a b = (a.0, goods-last hs g a.1 b)

  by_sign-keeps : (sign : Sign) (at n : ℕ) (g h : Form) → Good g → Good h → Keep (by_sign sets arrays item sign at n g h)
  by_sign-keeps quotient at n g h a b = divided-keeps at n g h a b
  by_sign-keeps remainder at n g h a b = left_over-keeps at n g h a b
  by_sign-keeps plus at n g h a b = multiplied-keeps at n g h a b
  by_sign-keeps minus at n g h a b = multiplied-keeps at n g h a b
  by_sign-keeps times at n g h a b = multiplied-keeps at n g h a b

  joined-keeps : (sign : Sign) (at n : ℕ) (ps : Parts) (g : Form) → GoodParts ps → Good g →
      Keeps GoodParts (next (chained sets arrays item at n ps.0 ps.1) (λ a. next (by_sign sets arrays item sign at n a g) (λ h. Ok (h, []))))
  joined-keeps sign at n ps g a b =
      keeps-next Good GoodParts (chained sets arrays item at n ps.0 ps.1) (λ a. next (by_sign sets arrays item sign at n a g) (λ h. Ok (h, []))) (chained-keeps at n ps.0 ps.1 a.0 a.1)
      (λ k c. keeps-next Good GoodParts (by_sign sets arrays item sign at n k g) (λ h. Ok (h, [])) (by_sign-keeps sign at n k g c b) (λ h d. (d, tt)))

  stepped-keeps : (sign : Sign) (at own n : ℕ) (ps : Parts) (g : Form) → GoodParts ps → Good g → Keeps GoodParts (stepped sets arrays item sign at own n ps g)
  stepped-keeps plus at own n ps g a b = (a.0, goods-last ps.1 g a.1 b)
  stepped-keeps minus at own n ps g a b =
      keeps-next Good GoodParts (negated sets arrays item own (n + parts_nodes ps) g) (λ h. Ok (ps.0, ps.1 ++ h ∷ [])) (negated-keeps own (n + parts_nodes ps) g b) (λ h c. (a.0, goods-last ps.1 h a.1 c))
  stepped-keeps times at own n ps g a b = joined-keeps times at n ps g a b
  stepped-keeps quotient at own n ps g a b = joined-keeps quotient at n ps g a b
  stepped-keeps remainder at own n ps g a b = joined-keeps remainder at n ps g a b

  -- ---- comparisons

  apart : (op : Op) (e f : Expr) → plain (tables arrays) e ≡ true → plain (tables arrays) f ≡ true → plain_cons (tables arrays) (C.And (C.Cmp op (nothing e) (nothing e) ∷ C.Cmp op (nothing f) (nothing f) ∷ [])) ≡ true
  apart op e f a b =
      let c : Cons = C.Cmp op (nothing e) (nothing e) in
      let d : Cons = C.Cmp op (nothing f) (nothing f) in
      plain-And (tables arrays) (c ∷ d ∷ []) ∙ two (plain_cons (tables arrays) c) (plain_cons (tables arrays) d) (nothing-compared (tables arrays) op e a) (nothing-compared (tables arrays) op f b)

  by_kind-plain : (b : Bool) (op : Op) (e f : Expr) → plain (tables arrays) e ≡ true → plain (tables arrays) f ≡ true → plain_cons (tables arrays) (by_kind b op e f) ≡ true
  by_kind-plain true op e f h k = plain-Cmp (tables arrays) op e f h k
  by_kind-plain false Eq e f h k = apart Ne e f h k
  by_kind-plain false Ne e f h k = apart Eq e f h k
  by_kind-plain false Lt e f h k = plain-Cmp (tables arrays) Lt e f h k
  by_kind-plain false Le e f h k = plain-Cmp (tables arrays) Le e f h k
  by_kind-plain false Gt e f h k = plain-Cmp (tables arrays) Gt e f h k
  by_kind-plain false Ge e f h k = plain-Cmp (tables arrays) Ge e f h k

  compared-keeps : (at n : ℕ) (r : Relation) (g h : Form) → Good g → Good h → Keep (compared sets arrays item at n r g h)
  compared-keeps at n r g h a b =
      let c : Cons = by_kind (alike (sort_of g) (sort_of h)) (op_of r) (ranked g) (ranked h) in
      folded-keeps n (all_known (g ∷ h ∷ [])) _ (sized at (size sets arrays (ranked g) + size sets arrays (ranked h)) (condition_node item n c))
      (keeps-sized Good at (size sets arrays (ranked g) + size sets arrays (ranked h)) (condition_node item n c)
      (condition-keeps n c (by_kind-plain (alike (sort_of g) (sort_of h)) (op_of r) (ranked g) (ranked h) (ranked-stands (tables arrays) g a) (ranked-stands (tables arrays) h b))))

  -- ---- arrays

  element-keeps : (s : Sort) (at n : ℕ) (e : Expr) → plain (tables arrays) e ≡ true → Keep (element_node sets arrays item s at n e)
  element-keeps whole at n e h = number-keeps at n e h
  element-keeps (named d) at n e h = keeps-sized Good at (size sets arrays e) (counted item n (depth e) (nodes e) (name d e)) (keeps-counted Good item n (depth e) (nodes e) (name d e) h)
  element-keeps other at n e h = tt

  variable-keeps : (s : Sort) (at n x : ℕ) → Keep (element_node sets arrays item s at n (E.Var x))
  variable-keeps s at n x = element-keeps s at n (E.Var x) (plain-Var (tables arrays) x)

  variables-stand : (kind : Kind) (x n : ℕ) → Goods (variables kind x n)
  variables-stand kind x zero = tt
  variables-stand Number x (suc n) = (plain-Var (tables arrays) x, variables-stand Number (suc x) n)
  variables-stand (Enumeration d) x (suc n) = (plain-Var (tables arrays) x, variables-stand (Enumeration d) (suc x) n)

  values-stand : (vs : List Value) → Goods (map known vs)
  values-stand [] = tt
  values-stand (v ∷ vs) = (tt, values-stand vs)

  leaves-stand : (ls : Leaves) → Goods (leaves ls)
  leaves-stand (listed vs) = values-stand vs
  leaves-stand (numbered kind x n) = variables-stand kind x n

  differ-keeps : (at n : ℕ) (gs : List Form) → Goods gs → Keep (all_differ sets arrays item at n gs)
  differ-keeps at n gs h =
      folded-keeps n (all_known gs) _ (sized at (two_greatest (map (λ g. size sets arrays (ranked g)) gs)) (condition_node item n (C.AllDifferent (map ranked gs))))
      (keeps-sized Good at (two_greatest (map (λ g. size sets arrays (ranked g)) gs)) (condition_node item n (C.AllDifferent (map ranked gs)))
      (condition-keeps n (C.AllDifferent (map ranked gs)) (plain-AllDifferent (tables arrays) (map ranked gs) ∙ ranks-stand (tables arrays) gs h)))

  different-keeps : (at n : ℕ) (a : Option Cells) → Keep (different sets arrays item at n a)
  different-keeps at n None = known-keeps n (values.Bool true)
  different-keeps at n (Some a) = keeps-cond Good (are_alike sets a.leaves) (all_differ sets arrays item at n (leaves a.leaves)) (Err (making.Fault.eval (OutOfIndex at))) (differ-keeps at n (leaves a.leaves) (leaves-stand a.leaves)) tt

  indices-keep : (ds : List (List Value)) (ats : List ℕ) (gs : List Form) (r : Made Form) → Keep r → Keep (with_indices sets arrays item ds ats gs r)
  indices-keep [] ats gs r h = h
  indices-keep (d ∷ ds) [] gs r h = h
  indices-keep (d ∷ ds) (at ∷ ats) [] r h = h
  indices-keep (d ∷ ds) (at ∷ ats) (g ∷ gs) r h = keeps-sized Good at _ (with_indices sets arrays item ds ats gs r) (indices-keep ds ats gs r h)

  place-keeps : (at n : ℕ) (ls : Leaves) (p : ℕ) → Keep (element_at sets arrays item at n ls p)
  place-keeps at n (listed vs) p = value-keeps at n (value_at vs p)
  place-keeps at n (numbered kind x count) p =
      keeps-cond Good (nat_lt p count) (element_node sets arrays item (variable_sort sets kind (x + p)) at n (E.Var (x + p))) (Err (making.Fault.eval (OutOfIndex at))) (variable-keeps (variable_sort sets kind (x + p)) at n (x + p)) tt

  placed-keeps : (at n : ℕ) (ls : Leaves) (p : Option ℕ) → Keep (placed sets arrays item at n ls p)
  placed-keeps at n ls None = tt
  placed-keeps at n ls (Some p) = place-keeps at n ls p

  looked_up-keeps : (at n : ℕ) (o : Option (List Value)) (k : ℕ) (a : Cells) (ats : List ℕ) (gs : List Form) → Goods gs → Keep (looked_up sets arrays item at n o k a ats gs)
  looked_up-keeps at n (Some key) k a ats gs h = placed-keeps at n a.leaves (place_of a.dims key)
  looked_up-keeps at n None k a ats gs h =
      let node : Made Form = element_node sets arrays item (element_sort sets a.leaves) at n (E.At k (map ranked gs)) in
      keeps-cond Good (are_indices a.dims gs && subscripts_fit a.dims gs) (with_indices sets arrays item a.dims ats gs node) (Err (making.Fault.eval (OutOfIndex at)))
      (indices-keep a.dims ats gs node (element-keeps (element_sort sets a.leaves) at n (E.At k (map ranked gs)) (plain-At (tables arrays) k (map ranked gs) ∙ ranks-stand (tables arrays) gs h))) tt

  indexed-keeps : (at n : ℕ) (k : Option ℕ) (a : Option Cells) (ats : List ℕ) (gs : List Form) → Goods gs → Keep (indexed sets arrays item at n k a ats gs)
  indexed-keeps at n None a ats gs h = tt
  indexed-keeps at n (Some k) None ats gs h = tt
  indexed-keeps at n (Some k) (Some a) ats gs h = looked_up-keeps at n (all_known gs) k a ats gs h

  -- ---- whole drafts

  mutual
    pub made-keeps : (d : Draft) (n : ℕ) → Keep (made sets arrays item n d)
    made-keeps (Draft.known at v) n = value-keeps at n v
    made-keeps (Draft.broken fault) n = tt
    made-keeps (Draft.variable at x kind) n =
        keeps-cond Good (nat_lt x (length sets)) (element_node sets arrays item (variable_sort sets kind x) at n (E.Var x)) (Err (making.Fault.eval (OutOfIndex at))) (variable-keeps (variable_sort sets kind x) at n x) tt
    made-keeps (Draft.negated at d) n = keeps-next Good Good (as_operand item (place d) n (made sets arrays item n d)) (λ g. negated sets arrays item at n g) (as_operand-keeps (place d) n (made sets arrays item n d) (made-keeps d n)) (λ g h. negated-keeps at n g h)
    made-keeps (Draft.chain at d ss) n =
        keeps-next Good Good (as_operand item (place d) n (made sets arrays item n d)) (λ g. next (made_steps sets arrays item at n (g, []) ss) (λ ps. chained sets arrays item at n ps.0 ps.1)) (as_operand-keeps (place d) n (made sets arrays item n d) (made-keeps d n))
        (λ g h. keeps-next GoodParts Good (made_steps sets arrays item at n (g, []) ss) (λ ps. chained sets arrays item at n ps.0 ps.1) (steps-keep ss at n (g, []) (h, tt)) (λ ps k. chained-keeps at n ps.0 ps.1 k.0 k.1))
    made-keeps (Draft.related at r d e) n =
        keeps-next Good Good (as_operand item (place d) n (made sets arrays item n d)) (λ a. next (as_operand item (place e) (n + part_nodes a) (made sets arrays item (n + part_nodes a) e)) (λ b. compared sets arrays item at n r a b)) (as_operand-keeps (place d) n (made sets arrays item n d) (made-keeps d n))
        (λ a h. keeps-next Good Good (as_operand item (place e) (n + part_nodes a) (made sets arrays item (n + part_nodes a) e)) (λ b. compared sets arrays item at n r a b) (as_operand-keeps (place e) (n + part_nodes a) (made sets arrays item (n + part_nodes a) e) (made-keeps e (n + part_nodes a))) (λ b k. compared-keeps at n r a b h k))
    made-keeps (Draft.equivalent at ds) n = first-keeps ds n
    made-keeps (Draft.implied at d e) n =
        keeps-next Good Good (made sets arrays item n d) (λ a. next (made sets arrays item (n + part_nodes a) e) (λ b. implied item n a b)) (made-keeps d n)
        (λ a h. keeps-next Good Good (made sets arrays item (n + part_nodes a) e) (λ b. implied item n a b) (made-keeps e (n + part_nodes a)) (λ b k. implied-keeps n a b h k))
    made-keeps (Draft.one_of at ds) n = keeps-next Goods Good (made_all sets arrays item n ds) (λ gs. making.one_holds item n gs) (all-keep ds n) (λ gs h. one_holds-keeps n gs h)
    made-keeps (Draft.all_of at ds) n = keeps-next Goods Good (made_all sets arrays item n ds) (λ gs. making.all_hold item n gs) (all-keep ds n) (λ gs h. all_hold-keeps n gs h)
    made-keeps (Draft.opposite at d) n = keeps-next Good Good (made sets arrays item n d) (λ g. opposite item n g) (made-keeps d n) (λ g h. opposite-keeps n g h)
    made-keeps (Draft.aggregate at op ds) n = keeps-next Goods Good (made_operands sets arrays item n ds) (λ gs. aggregated sets arrays item op at n gs) (operands-keep ds n) (λ gs h. aggregated-keeps op at n gs h)
    made-keeps (Draft.absolute at d) n = keeps-next Good Good (as_operand item (place d) n (made sets arrays item n d)) (λ g. absolute sets arrays item at n g) (as_operand-keeps (place d) n (made sets arrays item n d) (made-keeps d n)) (λ g h. absolute-keeps at n g h)
    made-keeps (Draft.different at a) n = different-keeps at n a
    made-keeps (Draft.element at k ds) n =
        keeps-next Goods Good (made_all sets arrays item n ds) (λ gs. indexed sets arrays item at n k (array_of arrays k) (places ds) gs) (all-keep ds n) (λ gs h. indexed-keeps at n k (array_of arrays k) (places ds) gs h)

    all-keep : (ds : Drafts) (n : ℕ) → Keeps Goods (made_all sets arrays item n ds)
    all-keep no_drafts n = tt
    all-keep (more_drafts d ds) n =
        keeps-next Good Goods (made sets arrays item n d) (λ g. next (made_all sets arrays item (n + part_nodes g) ds) (λ gs. Ok (g ∷ gs))) (made-keeps d n)
        (λ g h. keeps-next Goods Goods (made_all sets arrays item (n + part_nodes g) ds) (λ gs. Ok (g ∷ gs)) (all-keep ds (n + part_nodes g)) (λ gs k. (h, k)))

    operands-keep : (ds : Drafts) (n : ℕ) → Keeps Goods (made_operands sets arrays item n ds)
    operands-keep no_drafts n = tt
    operands-keep (more_drafts d ds) n =
        keeps-next Good Goods (as_operand item (place d) n (made sets arrays item n d)) (λ g. next (made_operands sets arrays item (n + part_nodes g) ds) (λ gs. Ok (g ∷ gs))) (as_operand-keeps (place d) n (made sets arrays item n d) (made-keeps d n))
        (λ g h. keeps-next Goods Goods (made_operands sets arrays item (n + part_nodes g) ds) (λ gs. Ok (g ∷ gs)) (operands-keep ds (n + part_nodes g)) (λ gs k. (h, k)))

    steps-keep : (ss : Steps) (at n : ℕ) (ps : Parts) → GoodParts ps → Keeps GoodParts (made_steps sets arrays item at n ps ss)
    steps-keep no_steps at n ps h = h
    steps-keep (more_steps sign d ss) at n ps h =
        let m : ℕ = n + parts_nodes ps in
        keeps-next Good GoodParts (as_operand item (place d) m (made sets arrays item m d)) (λ g. next (stepped sets arrays item sign at (place d) n ps g) (λ qs. made_steps sets arrays item at n qs ss)) (as_operand-keeps (place d) m (made sets arrays item m d) (made-keeps d m))
        (λ g k. keeps-next GoodParts GoodParts (stepped sets arrays item sign at (place d) n ps g) (λ qs. made_steps sets arrays item at n qs ss) (stepped-keeps sign at (place d) n ps g h k) (λ qs l. steps-keep ss at n qs l))

    first-keeps : (ds : Drafts) (n : ℕ) → Keep (made_first sets arrays item n ds)
    first-keeps no_drafts n = known-keeps n (values.Bool true)
    first-keeps (more_drafts d ds) n =
        keeps-next Good Good (made sets arrays item n d) (λ g. next (truth_part item n g) (λ h. made_same sets arrays item n h ds)) (made-keeps d n)
        (λ g h. keeps-next Good Good (truth_part item n g) (λ h. made_same sets arrays item n h ds) (truth_part-keeps n g h) (λ k l. rest-keeps ds n k l))

    rest-keeps : (ds : Drafts) (n : ℕ) (g : Form) → Good g → Keep (made_same sets arrays item n g ds)
    rest-keeps no_drafts n g h = h
    rest-keeps (more_drafts d ds) n g h =
        keeps-next Good Good (made sets arrays item (n + part_nodes g) d) (λ h. next (making.same item n g h) (λ k. made_same sets arrays item n k ds)) (made-keeps d (n + part_nodes g))
        (λ a k. keeps-next Good Good (making.same item n g a) (λ k. made_same sets arrays item n k ds) (same-keeps n g a h k) (λ b l. rest-keeps ds n b l))

-- ---- conditions

module _ (sets : List (ℤ × ℤ)) (arrays : List Cells) where
  form-keeps : (n : ℕ) (c : Condition) → Keeps (Stands (tables arrays)) (form sets arrays n c)
  form-keeps n c = keeps-next (Stands (tables arrays)) (Stands (tables arrays)) (made sets arrays c.at n c.draft) (λ g. truth_part c.at n g) (made-keeps sets arrays c.at c.draft n) (λ g h. truth_part-keeps sets arrays c.at n g h)

  abbrev pub ArePlain : List Cons → Type 0
  ArePlain cs = list_all (plain_cons (tables arrays)) cs ≡ true

  forms-keep : (n : ℕ) (conditions : List Condition) → Keeps ArePlain (forms sets arrays n conditions)
  forms-keep n [] = refl
  forms-keep n (c ∷ conditions) =
      keeps-next (Stands (tables arrays)) ArePlain (form sets arrays n c) (λ g. next (forms sets arrays (n + part_nodes g) conditions) (λ ds. Ok (as_condition g ∷ ds))) (form-keeps n c)
      (λ g h. keeps-next ArePlain ArePlain (forms sets arrays (n + part_nodes g) conditions) (λ ds. Ok (as_condition g ∷ ds)) (forms-keep (n + part_nodes g) conditions)
      (λ ds k. more (plain_cons (tables arrays) (as_condition g)) (list_all (plain_cons (tables arrays)) ds) (as_condition-stands (tables arrays) g h) k))
    where
      more : (a b : Bool) → a ≡ true → b ≡ true → (a && b) ≡ true
      more a b h k = cc

  -- the constraints of conditions ask for no capacity
  pub forms-plain : (n : ℕ) (conditions : List Condition) (cs : List Cons) → forms sets arrays n conditions ≡ Ok cs → ArePlain cs
  forms-plain n conditions cs e = subst (Keeps ArePlain) e (forms-keep n conditions)

  -- nor does the expression of an objective
  pub goal-plain : (item : ℕ) (d : Draft) (f : Form) → goal_form sets arrays item d ≡ Ok f → plain (tables arrays) (as_number f) ≡ true
  goal-plain item d f e = as_number-stands (tables arrays) f (subst (Keeps (Stands (tables arrays))) (goal-made sets arrays item d f e).is_made (made-keeps sets arrays item (alone d) 0))
