-- Numbers one behind another.
use Rattle.std.proofs.Common.{◌≡◌, ℕ, ◌+◌, ◌-◌, ◌^◌, ◌≤◌, min, max, ℤ, Bool, true, false, ◌↔◌, Result, List, [], ◌∷◌, ◌++◌, length, map, sym, ap, subst, ◌∙◌, refl, arith}
use Rattle.std.specs.Prelude.{IfOk}
use Rattle.std.specs.List.{All}
use Rattle.std.proofs.lemmas.Result.{IfOk-weaker}
use Rattle.std.proofs.lemmas.List.{map-append}
use Rattle.std.proofs.lemmas.List.Elements.{All-cons, All-head, All-nil, All-tail}
use Rattle.opl_expr.specs.declared.forms.Expr.{Expr}
use Rattle.opl_expr.specs.declared.forms.Expr.TheVariants as E
use Rattle.opl_form.specs.Measures as measures
use Rattle.opl_form.specs.Measures.{greatest, total}
use Rattle.opl_form.specs.Parts.{as_number}
use Rattle.opl_nodes.specs.declared.context.Context.{Context}
use Rattle.opl_nodes.specs.declared.part.Part.{Part}
use Rattle.opl_nodes.specs.Pieces.{IsCapped, IsPart, form, forms, magnitude}
use Rattle.opl_numbers.specs.declared.measured.Number.{Number}
use Rattle.opl_numbers.specs.declared.row.Numbers.{Numbers}
use Rattle.opl_numbers.specs.Numbers.{AreNumbers, IsNumber, number_at, number_of}
use Rattle.opl_numbers.proofs.Measures.{depth-Max, depth-Min, depth-Sum, magnitude-Max, magnitude-Min, magnitude-Sum, nodes-Max, nodes-Min, nodes-Sum}
use Rattle.opl_numbers.proofs.Products.{one-more, size-first}

-- ---- lists

pub All-front : {X : Type 0} (P : X → Type 0) (xs ys : List X) → All P (xs ++ ys) → All P xs
All-front P [] ys h = All-nil P
All-front P (x ∷ xs) ys h = All-cons P x xs (All-head P x (xs ++ ys) h) (All-front P xs ys (All-tail P x (xs ++ ys) h))

pub All-last : {X : Type 0} (P : X → Type 0) (xs : List X) (y : X) → All P (xs ++ y ∷ []) → P y
All-last P [] y h = All-head P y [] h
All-last P (x ∷ xs) y h = All-last P xs y (All-tail P x (xs ++ y ∷ []) h)

pub nothing-left : {X : Type 0} (xs : List X) → length xs ≡ 0 → xs ≡ []
nothing-left [] h = refl
nothing-left (x ∷ xs) h = absurd (omega arith)

-- a list that is not empty
pub filled : {X : Type 0} (xs : List X) (b : Bool) → (b ≡ true ↔ (xs ≡ [])) → b ≡ false → xs ≡ [] → ⊥
filled xs b h f e = let t : b ≡ true = h.1 e in cc

total-push : (ns : List ℕ) (n : ℕ) → total (ns ++ n ∷ []) ≡ total ns + n
total-push [] n = omega arith
total-push (m ∷ ns) n = let e = total-push ns n in omega (arith, e)

greatest-push : (ns : List ℕ) (n : ℕ) → greatest (ns ++ n ∷ []) ≡ max (greatest ns) n
greatest-push [] n = omega arith
greatest-push (m ∷ ns) n = let e = greatest-push ns n in omega (arith, e)

map-push : {A B : Type 0} (f : A → B) (xs : List A) (x : A) → map f (xs ++ x ∷ []) ≡ map f xs ++ f x ∷ []
map-push f xs x = map-append f xs (x ∷ [])

-- ---- one number more

capped : (t s m u v w : ℕ) → min t (2 ^ 127) ≡ min u (2 ^ 127) → s ≡ v → m ≡ min (t + s) (2 ^ 128 - 1) → w ≡ u + v → min m (2 ^ 127) ≡ min w (2 ^ 127)
capped t s m u v w h i j k = omega (arith, h, i, j, k)

largest : (t s m u v w : ℕ) → t ≡ u → s ≡ v → m ≡ max t s → w ≡ max u v → m ≡ w
largest t s m u v w h i j k = omega (arith, h, i, j, k)

added : (t s m u v w : ℕ) → t ≡ u → s ≡ v → m ≡ t + s → w ≡ u + v → m ≡ w
added t s m u v w h i j k = omega (arith, h, i, j, k)

shallow : (t s m : ℕ) → t ≤ 2049 → s ≤ 2049 → m ≡ max t s → m ≤ 2049
shallow t s m h i j = omega (arith, h, i, j)

pub numbers-push : (c : Context) (es : List Expr) (old new : Numbers) (n : Number) →
    new.exprs ≡ old.exprs ++ n.expr ∷ [] → new.total ≡ min (old.total + n.size) (2 ^ 128 - 1) → new.greatest ≡ max old.greatest n.size → new.depth ≡ max old.depth n.depth → new.nodes ≡ old.nodes + n.nodes →
    AreNumbers c es old → IsNumber c n → AreNumbers c (es ++ n.expr ∷ []) new
numbers-push c es old new n p q r s t h k = record {
  exprs = p ∙ ap (λ es. es ++ n.expr ∷ []) h.exprs;
  total = capped old.total n.size new.total (total (map (magnitude c) es)) (magnitude c n.expr) (total (map (magnitude c) (es ++ n.expr ∷ []))) h.total k.size q (ap total (map-push (magnitude c) es n.expr) ∙ total-push (map (magnitude c) es) (magnitude c n.expr));
  greatest = largest old.greatest n.size new.greatest (greatest (map (magnitude c) es)) (magnitude c n.expr) (greatest (map (magnitude c) (es ++ n.expr ∷ []))) h.greatest k.size r (ap greatest (map-push (magnitude c) es n.expr) ∙ greatest-push (map (magnitude c) es) (magnitude c n.expr));
  depth = largest old.depth n.depth new.depth (greatest (map measures.depth es)) (measures.depth n.expr) (greatest (map measures.depth (es ++ n.expr ∷ []))) h.depth k.depth s (ap greatest (map-push measures.depth es n.expr) ∙ greatest-push (map measures.depth es) (measures.depth n.expr));
  nodes = added old.nodes n.nodes new.nodes (total (map measures.nodes es)) (measures.nodes n.expr) (total (map measures.nodes (es ++ n.expr ∷ []))) h.nodes k.nodes t (ap total (map-push measures.nodes es n.expr) ∙ total-push (map measures.nodes es) (measures.nodes n.expr));
  is_shallow = shallow old.depth n.depth new.depth h.is_shallow k.is_shallow s;
}

-- ---- parts as numbers

-- as much of the parts as numbers
abbrev pub AreSoFar : List Part → Numbers → Type 0
AreSoFar ps ns = (c : Context) → All (IsPart c) ps → AreNumbers c (map as_number (forms ps)) ns

numbers-forms : (ps : List Part) (p : Part) → map as_number (forms (ps ++ p ∷ [])) ≡ map as_number (forms ps) ++ as_number (form p) ∷ []
numbers-forms ps p = ap (map as_number) (map-push form ps p) ∙ map-push as_number (forms ps) (form p)

pub so_far-next : (ps : List Part) (p : Part) (old new : Numbers) (n : Number) → AreSoFar ps old → n.expr ≡ as_number (form p) → ((c : Context) → IsPart c p → IsNumber c n) →
    ((c : Context) (es : List Expr) → AreNumbers c es old → IsNumber c n → AreNumbers c (es ++ n.expr ∷ []) new) → AreSoFar (ps ++ p ∷ []) new
so_far-next ps p old new n h e k f c all =
    subst (λ es. AreNumbers c es new) (ap (λ e. map as_number (forms ps) ++ e ∷ []) e ∙ sym (numbers-forms ps p))
    (f c (map as_number (forms ps)) (h c (All-front (IsPart c) ps (p ∷ []) all)) (k c (All-last (IsPart c) ps p all)))

numbers-of-forms : (ps : List Part) → map number_at ps ≡ map number_of (forms ps)
unfolding number_at
numbers-of-forms [] = refl
numbers-of-forms (p ∷ ps) = ap (λ ns. number_of (form p) ∷ ns) (numbers-of-forms ps)

pub each-number : {V F : Type 0} (items : V → List ℤ) (ps : List Part) (r : Result V F) → IfOk r (λ ns. items ns ≡ map number_at ps) → IfOk r (λ ns. items ns ≡ map number_of (forms ps))
each-number items ps r h = IfOk-weaker r (λ ns. items ns ≡ map number_at ps) (λ ns. items ns ≡ map number_of (forms ps)) (λ ns e. e ∙ numbers-of-forms ps) h

-- ---- nodes of numbers

module _ (c : Context) (es : List Expr) (ns : Numbers) (h : AreNumbers c es ns) where
  pub sum-size : IsCapped ns.total (magnitude c (E.Sum ns.exprs))
  sum-size = h.total ∙ ap (λ n. min n (2 ^ 127)) (sym (ap (λ es. magnitude c (E.Sum es)) h.exprs ∙ magnitude-Sum c es))

  pub least-size : (s : ℕ) → s ≡ max 1 ns.greatest → IsCapped s (magnitude c (E.Min ns.exprs))
  least-size s e = size-first s ns.greatest (greatest (map (magnitude c) es)) (magnitude c (E.Min ns.exprs)) e h.greatest (ap (λ es. magnitude c (E.Min es)) h.exprs ∙ magnitude-Min c es)

  pub greatest-size : (s : ℕ) → s ≡ max 1 ns.greatest → IsCapped s (magnitude c (E.Max ns.exprs))
  greatest-size s e = size-first s ns.greatest (greatest (map (magnitude c) es)) (magnitude c (E.Max ns.exprs)) e h.greatest (ap (λ es. magnitude c (E.Max es)) h.exprs ∙ magnitude-Max c es)

  pub sum-depth : ns.depth + 1 ≡ measures.depth (E.Sum ns.exprs)
  sum-depth = one-more ns.depth (greatest (map measures.depth es)) (measures.depth (E.Sum ns.exprs)) h.depth (ap (λ es. measures.depth (E.Sum es)) h.exprs ∙ depth-Sum es)

  pub least-depth : ns.depth + 1 ≡ measures.depth (E.Min ns.exprs)
  least-depth = one-more ns.depth (greatest (map measures.depth es)) (measures.depth (E.Min ns.exprs)) h.depth (ap (λ es. measures.depth (E.Min es)) h.exprs ∙ depth-Min es)

  pub greatest-depth : ns.depth + 1 ≡ measures.depth (E.Max ns.exprs)
  greatest-depth = one-more ns.depth (greatest (map measures.depth es)) (measures.depth (E.Max ns.exprs)) h.depth (ap (λ es. measures.depth (E.Max es)) h.exprs ∙ depth-Max es)

  pub sum-nodes : ns.nodes + 1 ≡ measures.nodes (E.Sum ns.exprs)
  sum-nodes = one-more ns.nodes (total (map measures.nodes es)) (measures.nodes (E.Sum ns.exprs)) h.nodes (ap (λ es. measures.nodes (E.Sum es)) h.exprs ∙ nodes-Sum es)

  pub least-nodes : ns.nodes + 1 ≡ measures.nodes (E.Min ns.exprs)
  least-nodes = one-more ns.nodes (total (map measures.nodes es)) (measures.nodes (E.Min ns.exprs)) h.nodes (ap (λ es. measures.nodes (E.Min es)) h.exprs ∙ nodes-Min es)

  pub greatest-nodes : ns.nodes + 1 ≡ measures.nodes (E.Max ns.exprs)
  greatest-nodes = one-more ns.nodes (total (map measures.nodes es)) (measures.nodes (E.Max ns.exprs)) h.nodes (ap (λ es. measures.nodes (E.Max es)) h.exprs ∙ nodes-Max es)
