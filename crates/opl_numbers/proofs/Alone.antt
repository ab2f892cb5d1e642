-- The measures of a part as a number.
use Rattle.std.proofs.Common.{◌≡◌, ℕ, suc, ◌+◌, ◌-◌, ◌^◌, ◌<◌, ◌≤◌, min, max, ℤ, Result, Ok, sym, ap, subst, ◌∙◌, arith}
use Rattle.std.specs.Prelude.{IfOk, unsigned_abs}
use Rattle.std.proofs.lemmas.Result.{IfOk-weaker}
use Rattle.opl_value.specs.declared.value.Value.{Value}
use Rattle.opl_eval.specs.Arithmetic.{IsSmall}
use Rattle.opl_eval.specs.Compare as compare
use Rattle.opl_eval.specs.Compare.{rank}
use Rattle.opl_expr.specs.declared.forms.Cons.{Cons}
use Rattle.opl_expr.specs.declared.forms.Expr.{Expr}
use Rattle.opl_expr.specs.declared.forms.Expr.TheVariants as E
use Rattle.opl_form.specs.Measures.{depth, depth_of, nodes, nodes_of, part_depth, part_nodes}
use Rattle.opl_form.specs.Parts.{Form, nothing, ranked}
use Rattle.opl_form.specs.Parts.Form.{known, number, name, condition, truth}
use Rattle.opl_nodes.specs.declared.context.Context.{Context}
use Rattle.opl_nodes.specs.declared.part.Part.{Part}
use Rattle.opl_nodes.specs.declared.part.Form as code
use Rattle.opl_nodes.specs.Pieces.{IsMade, IsPart, form, form_of, magnitude}
use Rattle.opl_nodes.proofs.Measures.{magnitude-Const, magnitude-Truth}
use Rattle.opl_numbers.specs.declared.measured.Number.{Number}
use Rattle.opl_numbers.specs.Numbers.{IsNumber, constant, measured, number_of}
use Rattle.opl_numbers.proofs.Measures.{depth-Const, depth-Truth, depth-nothing, magnitude-nothing, nodes-Const, nodes-Truth, nodes-nothing}
use Rattle.opl_numbers.proofs.Small.{part-small}

-- what is known of a part, at its form
record IsAt (c : Context) (p : Part) (g : Form) : Type 0 where
  size : p.size ≡ magnitude c (ranked g)
  depth : p.depth ≡ part_depth g
  nodes : p.nodes ≡ part_nodes g
  small : p.size < 2 ^ 127
  shallow : p.depth ≤ 2048
  few : p.nodes ≤ 4194304

at-form : (c : Context) (p : Part) (g : Form) → g ≡ form p → IsPart c p → IsAt c p g
at-form c p g e h = record {
  size = h.size ∙ ap (λ g. magnitude c (ranked g)) (sym e);
  depth = h.depth ∙ ap part_depth (sym e);
  nodes = h.nodes ∙ ap part_nodes (sym e);
  small = h.is_small;
  shallow = h.is_shallow;
  few = h.are_few;
}

pub constant-is : (c : Context) (k : ℤ) → IsSmall k → IsNumber c (constant k)
constant-is c k h = record {
  size = sym (magnitude-Const c k);
  depth = sym (depth-Const k);
  nodes = sym (nodes-Const k);
  is_small = h;
  is_shallow = omega arith;
  are_few = omega arith;
}

weaker : {F : Type 0} (p : Part) (m : Number) (r : Result Number F) → ((c : Context) → IsPart c p → IsNumber c m) → IfOk r (λ n. n ≡ m) → IfOk r (λ n. (c : Context) → IsPart c p → IsNumber c n)
weaker p m r f h = IfOk-weaker r (λ n. n ≡ m) (λ n. (c : Context) → IsPart c p → IsNumber c n) (λ n e c k. subst (IsNumber c) (sym e) (f c k)) h

pub known-measured : {F : Type 0} (p : Part) (v : Value) (r : Result Number F) → known v ≡ form p → IfOk r (λ n. n ≡ constant (compare.number v)) → IfOk r (λ n. (c : Context) → IsPart c p → IsNumber c n)
known-measured p v r e h = weaker p (constant (compare.number v)) r (λ c k. constant-is c (compare.number v) (subst (λ g. IsSmall (number_of g)) (sym e) (part-small c p k))) h

pub number-measured : (p : Part) (e : Expr) → number e ≡ form p → (c : Context) → IsPart c p → IsNumber c (measured e p.size p.depth p.nodes)
number-measured p e f c h =
    let k = at-form c p (number e) f h in
    record {
      size = k.size;
      depth = k.depth;
      nodes = k.nodes;
      is_small = k.small;
      is_shallow = up p.depth k.shallow;
      are_few = few p.nodes k.few;
    }
  where
    up : (d : ℕ) → d ≤ 2048 → d ≤ 2049
    up d h = omega arith

    few : (m : ℕ) → m ≤ 4194304 → m ≤ 4194306
    few m h = omega arith

pub name-measured : {F : Type 0} (p : Part) (n : ℕ) (e : Expr) (d m : ℕ) (r : Result Number F) → name n e ≡ form p → d ≡ min (max 1 p.depth + 1) (2 ^ 32 - 1) → m ≡ p.nodes + 2 →
    IfOk r (λ n. n ≡ measured (nothing e) 0 d m) → IfOk r (λ n. (c : Context) → IsPart c p → IsNumber c n)
name-measured p n e d m r f i j h = weaker p (measured (nothing e) 0 d m) r (λ c k. by c (at-form c p (name n e) f k)) h
  where
    deep : (d q x y : ℕ) → d ≡ min (max 1 q + 1) (2 ^ 32 - 1) → q ≡ x → q ≤ 2048 → y ≡ suc (max 1 x) → d ≡ y
    deep d q x y h i j k = omega arith

    shallow : (d q : ℕ) → d ≡ min (max 1 q + 1) (2 ^ 32 - 1) → q ≤ 2048 → d ≤ 2049
    shallow d q h i = omega arith

    many : (m q x y : ℕ) → m ≡ q + 2 → q ≡ x → y ≡ suc (suc x) → m ≡ y
    many m q x y h i j = omega arith

    few : (m q : ℕ) → m ≡ q + 2 → q ≤ 4194304 → m ≤ 4194306
    few m q h i = omega arith

    by : (c : Context) → IsAt c p (name n e) → IsNumber c (measured (nothing e) 0 d m)
    by c k = record {
      size = sym (magnitude-nothing c e);
      depth = deep d p.depth (depth e) (depth (nothing e)) i k.depth k.shallow (depth-nothing e);
      nodes = many m p.nodes (nodes e) (nodes (nothing e)) j k.nodes (nodes-nothing e);
      is_small = omega arith;
      is_shallow = shallow d p.depth i k.shallow;
      are_few = few m p.nodes j k.few;
    }

pub condition-measured : {F : Type 0} (p : Part) (a : Cons) (d m : ℕ) (r : Result Number F) → condition a ≡ form p → d ≡ min (p.depth + 1) (2 ^ 32 - 1) → m ≡ p.nodes + 1 →
    IfOk r (λ n. n ≡ measured (E.Truth a) 1 d m) → IfOk r (λ n. (c : Context) → IsPart c p → IsNumber c n)
condition-measured p a d m r f i j h = weaker p (measured (E.Truth a) 1 d m) r (λ c k. by c (at-form c p (condition a) f k)) h
  where
    deep : (d q x y : ℕ) → d ≡ min (q + 1) (2 ^ 32 - 1) → q ≡ x → q ≤ 2048 → y ≡ suc x → d ≡ y
    deep d q x y h i j k = omega arith

    shallow : (d q : ℕ) → d ≡ min (q + 1) (2 ^ 32 - 1) → q ≤ 2048 → d ≤ 2049
    shallow d q h i = omega arith

    many : (m q x y : ℕ) → m ≡ q + 1 → q ≡ x → y ≡ suc x → m ≡ y
    many m q x y h i j = omega arith

    few : (m q : ℕ) → m ≡ q + 1 → q ≤ 4194304 → m ≤ 4194306
    few m q h i = omega arith

    by : (c : Context) → IsAt c p (condition a) → IsNumber c (measured (E.Truth a) 1 d m)
    by c k = record {
      size = sym (magnitude-Truth c a);
      depth = deep d p.depth (depth_of a) (depth (E.Truth a)) i k.depth k.shallow (depth-Truth a);
      nodes = many m p.nodes (nodes_of a) (nodes (E.Truth a)) j k.nodes (nodes-Truth a);
      is_small = omega arith;
      is_shallow = shallow d p.depth i k.shallow;
      are_few = few m p.nodes j k.few;
    }

pub truth-measured : {F : Type 0} (p : Part) (a : Cons) (m : ℕ) (r : Result Number F) → truth a ≡ form p → m ≡ p.nodes →
    IfOk r (λ n. n ≡ measured (E.Truth a) p.size p.depth m) → IfOk r (λ n. (c : Context) → IsPart c p → IsNumber c n)
truth-measured p a m r f j h = weaker p (measured (E.Truth a) p.size p.depth m) r (λ c k. by c (at-form c p (truth a) f k)) h
  where
    up : (d : ℕ) → d ≤ 2048 → d ≤ 2049
    up d h = omega arith

    few : (m q : ℕ) → m ≡ q → q ≤ 4194304 → m ≤ 4194306
    few m q h i = omega arith

    by : (c : Context) → IsAt c p (truth a) → IsNumber c (measured (E.Truth a) p.size p.depth m)
    by c k = record {
      size = k.size;
      depth = k.depth ∙ sym (depth-Truth a);
      nodes = j ∙ k.nodes ∙ sym (nodes-Truth a);
      is_small = k.small;
      is_shallow = up p.depth k.shallow;
      are_few = few m p.nodes j k.few;
    }

-- a value that values come to is a part
pub known-made : (c : Context) (v : Value) (s : ℕ) (f : code.Form) → s ≡ unsigned_abs (rank v) → form_of f ≡ known v → unsigned_abs (rank v) < 2 ^ 127 → IsMade c (Ok (known v)) (record { form = f; size = s; depth = 1; nodes = 1 })
known-made c v s f e g h = record {
  is_form = ap Ok (sym g);
  is_part = record {
    size = e ∙ sym (magnitude-Const c (rank v)) ∙ ap (λ g. magnitude c (ranked g)) (sym g);
    depth = ap part_depth (sym g);
    nodes = ap part_nodes (sym g);
    is_small = subst (λ n. n < 2 ^ 127) (sym e) h;
    is_shallow = omega arith;
    are_few = omega arith;
  };
}
