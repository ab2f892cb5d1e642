-- The arms of the recursion over an expression or a constraint: what each makes of its parts, and that its numbers are small.
use Rattle.std.proofs.Common.{◌≡◌, ℕ, zero, suc, ◌+◌, ◌-◌, ◌*◌, ◌≤◌, ◌<◌, refl, List, [], ◌∷◌, map, length, get_or, drop, ℤ, pos, ap, sym, ◌∙◌, subst, arith}
use Rattle.std.specs.Prelude.{Option, Some, None, unsigned_abs}
use Rattle.std.proofs.Math.Nat.{mul-le-mul}
use Rattle.opl_domain.specs.Span.{Span, magnitude, point}
use Rattle.opl_domain.specs.Arithmetic.{span_add, span_neg, span_mul, span_div, span_rem, span_abs, span_min, span_max, span_hull}
use Rattle.opl_domain.specs.Family.{Family, Below}
use Rattle.opl_expr.specs.declared.model.Core.{Core}
use Rattle.opl_expr.specs.declared.forms.Expr.{Expr}
use Rattle.opl_expr.specs.declared.forms.Expr.TheVariants as E
use Rattle.opl_expr.specs.declared.forms.Cons.{Cons}
use Rattle.opl_expr.specs.declared.forms.Op.{Op}
use Rattle.opl_expr.specs.declared.tables.Cell.{Cell}
use Rattle.opl_expr.specs.Forms.{Term, Fact, Facts, terms_of, facts_of, fact, compared, constant_value}
use Rattle.opl_expr.specs.Options.{lift, lift1, bind, bind1, lift_some, joined}
use Rattle.opl_expr.specs.Range.{span_scale, flip, same_truth, taken, chosen, masks, cell_range, may_be, rest, ends, range, linears, range_of_linear, fact_range}
use Rattle.opl_expr.specs.Solutions.{declared}
use Rattle.opl_expr.specs.Sound.{IsSmall, term_magnitude, sum_magnitude, IsSoundTerm, IsSoundFact}
use Rattle.opl_expr.proofs.Bounds.{sound_small}
use Rattle.opl_expr.proofs.Parts.{sum_loop, any_default, sound_compared}
use Rattle.opl_expr.proofs.Plain.{term_Neg, term_Mul, term_Div, term_Rem, term_Abs}
use Rattle.opl_range.specs.Between.{term_of}
use Rattle.opl_range.proofs.Weights.{hulls_small, range_bound, fact_truth}
use Rattle.opl_range.proofs.Demands.{max_zero}
use Rattle.opl_range.proofs.Parts.{part_before, scaled_small, product_left, product_right, product_whole}
use Rattle.opl_range.proofs.Compare.{rest_small}

module _ (core : Core) (F : Family) where
  -- ---- values of arms

  pub neg_arm : (e a b : Expr) (r q : Option Span) → e ≡ E.Neg a → b ≡ a → r ≡ rest F (term_of core b) → q ≡ lift1 span_neg r → q ≡ rest F (term_of core e)
  neg_arm e a b r q i j k l =
      l ∙ ap (lift1 span_neg) (k ∙ ap (λ z. rest F (term_of core z)) j) ∙ sym (ap (λ z. rest F (term_of core z)) i ∙ ap (rest F) (term_Neg core.tables core.resources a))

  pub mul_left_arm : (e a b p s : Expr) (k : ℤ) (r q : Option Span) → e ≡ E.Mul a b → p ≡ a → s ≡ b → Some k ≡ constant_value (term_of core p) → r ≡ rest F (term_of core s) → q ≡ lift1 (span_scale k) r → q ≡ rest F (term_of core e)
  mul_left_arm e a b p s k r q i j l c m n =
      n ∙ ap (lift1 (span_scale k)) (m ∙ ap (λ z. rest F (term_of core z)) l)
      ∙ sym (ap (λ z. rest F (term_of core z)) i ∙ ap (rest F) (term_Mul core.tables core.resources a b ∙ product_left (term_of core a) (term_of core b) k (c ∙ ap (λ z. constant_value (term_of core z)) j)))

  pub mul_right_arm : (e a b p p' s : Expr) (k : ℤ) (r q : Option Span) → e ≡ E.Mul a b → p ≡ a → p' ≡ a → s ≡ b → None ≡ constant_value (term_of core p) → Some k ≡ constant_value (term_of core s) → r ≡ rest F (term_of core p') → q ≡ lift1 (span_scale k) r → q ≡ rest F (term_of core e)
  mul_right_arm e a b p p' s k r q i j j' l c d m n =
      n ∙ ap (lift1 (span_scale k)) (m ∙ ap (λ z. rest F (term_of core z)) j')
      ∙ sym (ap (λ z. rest F (term_of core z)) i ∙ ap (rest F) (term_Mul core.tables core.resources a b
      ∙ product_right (term_of core a) (term_of core b) k (c ∙ ap (λ z. constant_value (term_of core z)) j) (d ∙ ap (λ z. constant_value (term_of core z)) l)))

  -- the range of a part, as it is made of its rest
  pub part_range : (a b : Expr) (r q : Option Span) → b ≡ a → r ≡ rest F (term_of core b) → q ≡ ends F (term_of core b) r → q ≡ range F (term_of core a)
  part_range a b r q j k l = l ∙ ap (ends F (term_of core b)) k ∙ ap (λ z. range F (term_of core z)) j

  pub div_arm : (e a b : Expr) (x y q : Option Span) → e ≡ E.Div a b → x ≡ range F (term_of core a) → y ≡ range F (term_of core b) → q ≡ bind span_div x y → q ≡ rest F (term_of core e)
  div_arm e a b x y q i j k l =
      l ∙ ap (λ o. bind span_div o y) j ∙ ap (bind span_div (range F (term_of core a))) k ∙ sym (ap (λ z. rest F (term_of core z)) i ∙ ap (rest F) (term_Div core.tables core.resources a b))

  pub rem_arm : (e a b : Expr) (x y q : Option Span) → e ≡ E.Rem a b → x ≡ range F (term_of core a) → y ≡ range F (term_of core b) → q ≡ bind span_rem x y → q ≡ rest F (term_of core e)
  rem_arm e a b x y q i j k l =
      l ∙ ap (λ o. bind span_rem o y) j ∙ ap (bind span_rem (range F (term_of core a))) k ∙ sym (ap (λ z. rest F (term_of core z)) i ∙ ap (rest F) (term_Rem core.tables core.resources a b))

  pub abs_arm : (e a : Expr) (x q : Option Span) → e ≡ E.Abs a → x ≡ range F (term_of core a) → q ≡ bind1 span_abs x → q ≡ rest F (term_of core e)
  abs_arm e a x q i j l = l ∙ ap (bind1 span_abs) j ∙ sym (ap (λ z. rest F (term_of core z)) i ∙ ap (rest F) (term_Abs core.tables core.resources a))

  pub mul_arm : (e a b p s : Expr) (x y q : Option Span) → e ≡ E.Mul a b → p ≡ a → s ≡ b → None ≡ constant_value (term_of core p) → None ≡ constant_value (term_of core s) → x ≡ range F (term_of core a) → y ≡ range F (term_of core b) → q ≡ lift span_mul x y
      → q ≡ rest F (term_of core e)
  mul_arm e a b p s x y q i j l c d m n o =
      o ∙ ap (λ z. lift span_mul z y) m ∙ ap (lift span_mul (range F (term_of core a))) n
      ∙ sym (ap (λ z. rest F (term_of core z)) i ∙ ap (rest F) (term_Mul core.tables core.resources a b
      ∙ product_whole (term_of core a) (term_of core b) (c ∙ ap (λ z. constant_value (term_of core z)) j) (d ∙ ap (λ z. constant_value (term_of core z)) l)))

  -- ---- the numbers of arms are small

  pub rest_fits : Below F (declared core) → (b : Expr) (r : Option Span) → IsSoundTerm core.sets (term_of core b) → r ≡ rest F (term_of core b) → (u : Span) → r ≡ Some u → IsSmall (magnitude u)
  rest_fits w b r s e u i = omega (arith, rest_small core F (term_of core b) r u w e i, sound_small core.sets (term_of core b) s)

  pub range_small : Below F (declared core) → (b : Expr) (r q : Option Span) → r ≡ rest F (term_of core b) → q ≡ ends F (term_of core b) r → (u : Span) → q ≡ Some u → magnitude u ≤ term_magnitude core.sets (term_of core b)
  range_small w b r q e f u i = range_bound core.sets F (hulls_small core F w) (term_of core b) u (sym (f ∙ ap (ends F (term_of core b)) e) ∙ i)

  pub range_fits : Below F (declared core) → (b : Expr) (r q : Option Span) → IsSoundTerm core.sets (term_of core b) → r ≡ rest F (term_of core b) → q ≡ ends F (term_of core b) r → (u : Span) → q ≡ Some u → IsSmall (magnitude u)
  range_fits w b r q s e f u i = omega (arith, range_small w b r q e f u i, sound_small core.sets (term_of core b) s)

  pub multiple_fits : Below F (declared core) → (a b : Expr) (k : ℤ) (r : Option Span) → Some k ≡ constant_value (term_of core a) → r ≡ rest F (term_of core b) → IsSmall (term_magnitude core.sets (term_of core a) * term_magnitude core.sets (term_of core b))
      → (u : Span) → r ≡ Some u → IsSmall (unsigned_abs k * magnitude u)
  multiple_fits w a b k r c e s u i = scaled_small core.sets (term_of core a) (term_of core b) k (magnitude u) c (rest_small core F (term_of core b) r u w e i) s

  pub product_fits : Below F (declared core) → (a b : Expr) (r q x y : Option Span) → r ≡ rest F (term_of core a) → x ≡ ends F (term_of core a) r → q ≡ rest F (term_of core b) → y ≡ ends F (term_of core b) q
      → IsSmall (term_magnitude core.sets (term_of core a) * term_magnitude core.sets (term_of core b)) → (u v : Span) → x ≡ Some u → y ≡ Some v → IsSmall (magnitude u * magnitude v)
  product_fits w a b r q x y e f g h s u v i j = omega (arith, s, mul-le-mul (range_small w a r x e f u i) (range_small w b q y g h v j))

  -- ---- loops

  pub sum_more : (xs : List Expr) (L : ℕ) (e : Expr) (r q found : Option Span) → 0 < L → L ≤ length xs → e ≡ get_or xs (L - 1) e → r ≡ rest F (term_of core e) → found ≡ rest F (Term.sum (terms_of (map (term_of core) (drop L xs)))) → q ≡ lift span_add r found
      → q ≡ rest F (Term.sum (terms_of (map (term_of core) (drop (L - 1) xs))))
  sum_more xs L e r q found p h i j k l =
      l ∙ ap (λ o. lift span_add o found) j ∙ ap (lift span_add (rest F (term_of core e))) k ∙ ap (λ ys. rest F (Term.sum (terms_of (map (term_of core) ys)))) (sym (part_before xs L e p h i))

  pub sum_fits : Below F (declared core) → (xs : List Expr) (L : ℕ) (e : Expr) (r found : Option Span) → 0 < L → L ≤ length xs → e ≡ get_or xs (L - 1) e → IsSmall (sum_magnitude core.sets (terms_of (map (term_of core) xs))) → r ≡ rest F (term_of core e)
      → found ≡ rest F (Term.sum (terms_of (map (term_of core) (drop L xs)))) → (u v : Span) → r ≡ Some u → found ≡ Some v → IsSmall (magnitude u + magnitude v)
  sum_fits w xs L e r found p h i s j k u v m n =
      omega (arith, sum_loop core.sets (term_of core) xs L e p h i s, rest_small core F (term_of core e) r u w j m, rest_small core F (Term.sum (terms_of (map (term_of core) (drop L xs)))) found v w k n)

  extreme_more : (f : Span → Span → Span) (t : Term) (ts : List Term) → 0 < length ts
      → lift_some f (map (range_of_linear F) (linears F (terms_of (t ∷ ts)))) ≡ lift f (range F t) (lift_some f (map (range_of_linear F) (linears F (terms_of ts))))
  extreme_more f t [] h = absurd (omega (arith, h))
  extreme_more f t (s ∷ ts) h = refl

  some_left : (f : Expr → Term) (xs : List Expr) (L : ℕ) → L < length xs → 0 < length (map f (drop L xs))
  some_left f [] L h = absurd (omega (arith, h))
  some_left f (x ∷ xs) zero h = omega arith
  some_left f (x ∷ xs) (suc L) h = some_left f xs L (omega (arith, h))

  -- the least or the greatest of expressions from one place on, by one more
  pub extreme_next : (f : Span → Span → Span) (xs : List Expr) (L : ℕ) (e : Expr) (r x q found : Option Span) → 0 < L → L < length xs → e ≡ get_or xs (L - 1) e → r ≡ rest F (term_of core e) → x ≡ ends F (term_of core e) r
      → found ≡ lift_some f (map (range_of_linear F) (linears F (terms_of (map (term_of core) (drop L xs))))) → q ≡ lift f x found
      → q ≡ lift_some f (map (range_of_linear F) (linears F (terms_of (map (term_of core) (drop (L - 1) xs)))))
  extreme_next f xs L e r x q found p h i j k l m =
      m ∙ ap (λ o. lift f o found) (k ∙ ap (ends F (term_of core e)) j) ∙ ap (lift f (range F (term_of core e))) l ∙ sym (extreme_more f (term_of core e) (map (term_of core) (drop L xs)) (some_left (term_of core) xs L h))
      ∙ ap (λ ys. lift_some f (map (range_of_linear F) (linears F (terms_of (map (term_of core) ys))))) (sym (part_before xs L e p (omega (arith, h)) i))

  last_one : (xs : List Expr) (e : Expr) → 0 < length xs → e ≡ get_or xs (length xs - 1) e → drop (length xs - 1) xs ≡ e ∷ []
  last_one xs e h i = part_before xs (length xs) e h (omega arith) i ∙ ap (λ ys. e ∷ ys) (drop_whole xs)
    where
      drop_whole : (ys : List Expr) → drop (length ys) ys ≡ []
      drop_whole [] = refl
      drop_whole (y ∷ ys) = drop_whole ys

  pub extreme_last : (f : Span → Span → Span) (xs : List Expr) (e : Expr) (r x : Option Span) → 0 < length xs → e ≡ get_or xs (length xs - 1) e → r ≡ rest F (term_of core e) → x ≡ ends F (term_of core e) r
      → x ≡ lift_some f (map (range_of_linear F) (linears F (terms_of (map (term_of core) (drop (length xs - 1) xs)))))
  extreme_last f xs e r x h i j k =
      k ∙ ap (ends F (term_of core e)) j ∙ ap (λ ys. lift_some f (map (range_of_linear F) (linears F (terms_of (map (term_of core) ys))))) (sym (last_one xs e h i))

  pub by_form : (e : Expr) (t : Term) (q : Option Span) → term_of core e ≡ t → q ≡ rest F t → q ≡ rest F (term_of core e)
  by_form e t q i j = j ∙ ap (rest F) (sym i)

  pub by_fact : (c : Cons) (t : Fact) (q : Option Span) → fact core.tables core.resources c ≡ t → q ≡ fact_range F t → q ≡ fact_range F (fact core.tables core.resources c)
  by_fact c t q i j = j ∙ ap (fact_range F) (sym i)

  pub and_more : (xs : List Cons) (L : ℕ) (c : Cons) (r q found : Option Span) → 0 < L → L ≤ length xs → c ≡ get_or xs (L - 1) c → r ≡ fact_range F (fact core.tables core.resources c)
      → found ≡ fact_range F (Fact.and (facts_of (map (fact core.tables core.resources) (drop L xs)))) → q ≡ lift span_min r found → q ≡ fact_range F (Fact.and (facts_of (map (fact core.tables core.resources) (drop (L - 1) xs))))
  and_more xs L c r q found p h i j k l =
      l ∙ ap (λ o. lift span_min o found) j ∙ ap (lift span_min (fact_range F (fact core.tables core.resources c))) k ∙ ap (λ ys. fact_range F (Fact.and (facts_of (map (fact core.tables core.resources) ys)))) (sym (part_before xs L c p h i))

  pub or_more : (xs : List Cons) (L : ℕ) (c : Cons) (r q found : Option Span) → 0 < L → L ≤ length xs → c ≡ get_or xs (L - 1) c → r ≡ fact_range F (fact core.tables core.resources c)
      → found ≡ fact_range F (Fact.or (facts_of (map (fact core.tables core.resources) (drop L xs)))) → q ≡ lift span_max r found → q ≡ fact_range F (Fact.or (facts_of (map (fact core.tables core.resources) (drop (L - 1) xs))))
  or_more xs L c r q found p h i j k l =
      l ∙ ap (λ o. lift span_max o found) j ∙ ap (lift span_max (fact_range F (fact core.tables core.resources c))) k ∙ ap (λ ys. fact_range F (Fact.or (facts_of (map (fact core.tables core.resources) ys)))) (sym (part_before xs L c p h i))

  or_end : (c : Fact) → lift span_max (fact_range F c) (Some (point (pos 0))) ≡ fact_range F c
  or_end c = elim (fact_range F c) as (λ o. fact_range F c ≡ o → lift span_max o (Some (point (pos 0))) ≡ o) [ None ↦ λ e. refl | Some r ↦ λ e. ap Some (max_zero r (fact_truth F c r e)) ] refl

  pub imp_arm : (a b p s : Cons) (x y z q : Option Span) → p ≡ a → s ≡ b → x ≡ fact_range F (fact core.tables core.resources p) → y ≡ lift1 flip x → z ≡ fact_range F (fact core.tables core.resources s) → q ≡ lift span_max y z
      → q ≡ fact_range F (Fact.or (Facts.more_facts (Fact.not (fact core.tables core.resources a)) (Facts.more_facts (fact core.tables core.resources b) Facts.no_facts)))
  imp_arm a b p s x y z q i j k l m n =
      n ∙ ap (λ o. lift span_max o z) (l ∙ ap (lift1 flip) (k ∙ ap (λ c. fact_range F (fact core.tables core.resources c)) i))
      ∙ ap (lift span_max (lift1 flip (fact_range F (fact core.tables core.resources a)))) (m ∙ ap (λ c. fact_range F (fact core.tables core.resources c)) j ∙ sym (or_end (fact core.tables core.resources b)))

  pub iff_arm : (a b p s : Cons) (x z q : Option Span) → p ≡ a → s ≡ b → x ≡ fact_range F (fact core.tables core.resources p) → z ≡ fact_range F (fact core.tables core.resources s) → q ≡ lift same_truth x z
      → q ≡ fact_range F (Fact.iff (fact core.tables core.resources a) (fact core.tables core.resources b))
  iff_arm a b p s x z q i j k m n =
      n ∙ ap (λ o. lift same_truth o z) (k ∙ ap (λ c. fact_range F (fact core.tables core.resources c)) i)
      ∙ ap (lift same_truth (fact_range F (fact core.tables core.resources a))) (m ∙ ap (λ c. fact_range F (fact core.tables core.resources c)) j)

  pub cells_same : (D d : List (List ℤ)) (P p : List Expr) (C c : List Cell) → d ≡ D → p ≡ P → c ≡ C
      → joined span_hull (map (cell_range F) (chosen (taken (masks (may_be F) d (linears F (terms_of (map (term_of core) p))))) c)) ≡ joined span_hull (map (cell_range F) (chosen (taken (masks (may_be F) D (linears F (terms_of (map (term_of core) P))))) C))
  cells_same D d P p C c i j k = rw (i, j, k) refl

pub one_place : (xs : List Expr) (k : ℕ) (a b : Expr) → k < length xs → a ≡ get_or xs k a → b ≡ get_or xs k b → a ≡ b
one_place xs k a b h i j = i ∙ any_default xs k a b h ∙ sym j

module _ (core : Core) (op : Op) (a b : Expr) where
  pub cmp_first : (p : Expr) → p ≡ a → IsSoundFact core.sets (compared op (term_of core a) (term_of core b)) → IsSoundTerm core.sets (term_of core p)
  cmp_first p i s = subst (λ z. IsSoundTerm core.sets (term_of core z)) (sym i) (sound_compared core.sets op (term_of core a) (term_of core b) s).first

  pub cmp_second : (p : Expr) → p ≡ b → IsSoundFact core.sets (compared op (term_of core a) (term_of core b)) → IsSoundTerm core.sets (term_of core p)
  cmp_second p i s = subst (λ z. IsSoundTerm core.sets (term_of core z)) (sym i) (sound_compared core.sets op (term_of core a) (term_of core b) s).second

  pub cmp_same : (p q : Expr) → p ≡ a → q ≡ b → IsSoundFact core.sets (compared op (term_of core a) (term_of core b)) → IsSoundFact core.sets (compared op (term_of core p) (term_of core q))
  cmp_same p q i j s = subst (λ z. IsSoundFact core.sets (compared op (term_of core z) (term_of core q))) (sym i) (subst (λ z. IsSoundFact core.sets (compared op (term_of core a) (term_of core z))) (sym j) s)
