-- The tests of nodes.
use Rattle.std.proofs.Common.{◌≡◌, ℕ, ◌+◌, ◌^◌, ◌<◌, ◌≤◌, unsigned_abs, Result, Ok, Err, refl, sym, ap, subst, ◌∙◌, arith}
use Rattle.std.proofs.lemmas.Bool.Decides.{nat_tests}
use Rattle.opl_value.specs.declared.value.Value.{Value}
use Rattle.opl_eval.specs.Compare.{rank}
use Rattle.opl_expr.specs.declared.forms.Cons.{Cons}
use Rattle.opl_expr.specs.declared.forms.Expr.{Expr}
use Rattle.opl_form.specs.Measures.{depth_of, nodes_of, part_depth, part_nodes}
use Rattle.opl_form.specs.Parts.{Form, ranked}
use Rattle.opl_form.specs.Parts.Form.{known, number, name, condition, truth}
use Rattle.opl_eval.specs.declared.fault.EvalFault.{EvalFault}
use Rattle.opl_eval.specs.declared.fault.EvalFault.TheVariants.{DivByZero, EmptyMinMax, OutOfIndex, OutOfMemory, TooLarge}
use Rattle.opl_form.specs.Nodes as making
use Rattle.opl_form.specs.Nodes.{Made, counted, sized}
use Rattle.opl_form.specs.Nodes.Fault.{eval, large, deep, many}
use Rattle.opl_nodes.specs.declared.context.Context.{Context}
use Rattle.opl_nodes.specs.declared.fault.FormFault.{FormFault}
use Rattle.opl_nodes.specs.declared.part.Form as code
use Rattle.opl_nodes.specs.declared.part.Part.{Part}
use Rattle.opl_nodes.specs.Contexts.{arrays, sets}
use Rattle.opl_nodes.specs.Pieces.{Counts, IsCapped, IsCounted, IsMade, Makes, Refuses, form_of, magnitude, told, tested}
use Rattle.opl_nodes.proofs.Measures.{magnitude-Const, magnitude-Truth}

-- ---- depth and number of nodes

pub counted-deep : (item n d m : ℕ) (g : Form) → 2048 < d → counted item n d m g ≡ Err (deep item)
counted-deep item n d m g h = grind (arith, nat_tests)

pub counted-many : (item n d m : ℕ) (g : Form) → d ≤ 2048 → 4194304 < n + m → counted item n d m g ≡ Err (many item)
counted-many item n d m g h k = grind (arith, nat_tests)

pub counted-fits : (item n d m : ℕ) (g : Form) → d ≤ 2048 → n + m ≤ 4194304 → counted item n d m g ≡ Ok g
counted-fits item n d m g h k = grind (arith, nat_tests)

pub ruleset counts = (counted-deep, counted-many)

pub sized-large : {A : Type 0} (at m : ℕ) (r : Made A) → 2 ^ 127 ≤ m → sized at m r ≡ Err (large at)
sized-large at m r h = grind (arith, nat_tests)

pub sized-small : {A : Type 0} (at m : ℕ) (r : Made A) → m < 2 ^ 127 → sized at m r ≡ r
sized-small at m r h = grind (arith, nat_tests)

-- ---- whole tests

capped-large : (s m : ℕ) → IsCapped s m → 2 ^ 127 ≤ s → 2 ^ 127 ≤ m
capped-large s m h k = omega (arith, h, k)

capped-small : (s m : ℕ) → IsCapped s m → s < 2 ^ 127 → s ≡ m
capped-small s m h k = omega (arith, h, k)

pub tested-large : (c : Context) (at n s : ℕ) (g : Form) → IsCapped s (magnitude c (ranked g)) → 2 ^ 127 ≤ s → tested c at n g ≡ Err (large at)
tested-large c at n s g h k = sized-large at (magnitude c (ranked g)) (counted c.item n (part_depth g) (part_nodes g) g) (capped-large s (magnitude c (ranked g)) h k)

same-small : (s m : ℕ) → s < 2 ^ 127 → s ≡ m → m < 2 ^ 127
same-small s m h e = omega (arith, h, e)

pub tested-counted : (c : Context) (at n s : ℕ) (g : Form) → IsCapped s (magnitude c (ranked g)) → s < 2 ^ 127 → tested c at n g ≡ counted c.item n (part_depth g) (part_nodes g) g
tested-counted c at n s g h k =
    sized-small at (magnitude c (ranked g)) (counted c.item n (part_depth g) (part_nodes g) g) (same-small s (magnitude c (ranked g)) k (capped-small s (magnitude c (ranked g)) h k))

-- a fault of the tests of depth and nodes
pub tested-refused : (c : Context) (at n s d m : ℕ) (g : Form) (fault : FormFault) → IsCapped s (magnitude c (ranked g)) → s < 2 ^ 127 → d ≡ part_depth g → m ≡ part_nodes g →
    Counts c.item n d m (Err fault) → Refuses (tested c at n g) fault
tested-refused c at n s d m g fault h k e f r =
    subst (λ t. Refuses t fault) (ap (λ d. counted c.item n d m g) e ∙ ap (λ m. counted c.item n (part_depth g) m g) f ∙ sym (tested-counted c at n s g h k)) (r g)

-- a form that passes them
pub tested-made : (c : Context) (at n s d m k : ℕ) (f : code.Form) → IsCapped s (magnitude c (ranked (form_of f))) → s < 2 ^ 127 → d ≡ part_depth (form_of f) → m ≡ part_nodes (form_of f) →
    IsCounted n d m k → IsMade c (tested c at n (form_of f)) (record { form = f; size = s; depth = d; nodes = k })
tested-made c at n s d m k f h l e g r = record {
  is_form = tested-counted c at n s (form_of f) h l ∙ counted-fits c.item n (part_depth (form_of f)) (part_nodes (form_of f)) (form_of f) (deep-enough d (part_depth (form_of f)) e r.is_shallow) (few-enough n m (part_nodes (form_of f)) g r.fit);
  is_part = record {
    size = capped-small s (magnitude c (ranked (form_of f))) h l;
    depth = e;
    nodes = r.found ∙ g;
    is_small = l;
    is_shallow = r.is_shallow;
    are_few = few n m k r.found r.fit;
  };
}
  where
    deep-enough : (d e : ℕ) → d ≡ e → d ≤ 2048 → e ≤ 2048
    deep-enough d e h k = omega (arith, h, k)

    few-enough : (n m k : ℕ) → m ≡ k → n + m ≤ 4194304 → n + k ≤ 4194304
    few-enough n m k h l = omega (arith, h, l)

    few : (n m k : ℕ) → k ≡ m → n + m ≤ 4194304 → k ≤ 4194304
    few n m k h l = omega (arith, h, l)

-- a fault of data
pub refuses-told : (A : Type 0) (f : EvalFault) → Refuses {A = A} (Err (eval f)) (told f)
refuses-told A (DivByZero at) = refl
refuses-told A (OutOfIndex at) = refl
refuses-told A (TooLarge at) = refl
refuses-told A (EmptyMinMax at) = refl
refuses-told A OutOfMemory = tt

-- ---- nodes as whole tests

module _ (c : Context) where
  pub makes-same : (a b : Made Form) (r : Result Part FormFault) → a ≡ b → Makes c a r → Makes c b r
  makes-same a b r e h = subst (λ m. Makes c m r) e h

  pub number-tested : (at n : ℕ) (e : Expr) → tested c at n (number e) ≡ making.number_node (sets c) (arrays c) c.item at n e
  unfolding magnitude
  number-tested at n e = refl

  pub name-tested : (at n d : ℕ) (e : Expr) → tested c at n (name d e) ≡ sized at (making.size (sets c) (arrays c) e) (counted c.item n (part_depth (name d e)) (part_nodes (name d e)) (name d e))
  unfolding magnitude
  name-tested at n d e = refl

  pub condition-tested : (at n : ℕ) (d : Cons) → tested c at n (condition d) ≡ making.condition_node c.item n d
  condition-tested at n d =
      ap (λ m. sized at m (counted c.item n (depth_of d) (nodes_of d) (condition d))) (magnitude-Truth c d) ∙ sized-small at 1 (counted c.item n (depth_of d) (nodes_of d) (condition d)) (omega arith)

  pub truth-tested : (at n : ℕ) (d : Cons) → tested c at n (truth d) ≡ making.operand c.item at n (condition d)
  truth-tested at n d = ap (λ m. sized at m (counted c.item n (part_depth (truth d)) (part_nodes (truth d)) (truth d))) (magnitude-Truth c d)

  pub value-tested : (at n : ℕ) (v : Value) → tested c at n (known v) ≡ making.value_node c.item at n v
  value-tested at n v = ap (λ m. sized at m (counted c.item n 1 1 (known v))) (magnitude-Const c (rank v))

  pub known-tested : (at n : ℕ) (v : Value) → unsigned_abs (rank v) < 2 ^ 127 → tested c at n (known v) ≡ making.known_node c.item n v
  known-tested at n v h = value-tested at n v ∙ sized-small at (unsigned_abs (rank v)) (counted c.item n 1 1 (known v)) h
