-- Operands, products, sums and sets.
use Rattle.std.proofs.Common.{◌≡◌, ℕ, Bool, true, false, ◌⊎◌, inl, inr, List, [], ◌∷◌, ◌++◌, map, Option, Some, None, refl, sym, ap, ◌∙◌, subst, arith, append_assoc}
use Rattle.std.specs.Prelude.{is_some}
use Rattle.opl_token.specs.declared.sign.Sign.TheVariants as signs
use Rattle.opl_token.specs.declared.token.Kind.{Kind}
use Rattle.opl_tree.specs.declared.expression.ExprTree.{ExprTree}
use Rattle.opl_tree.specs.declared.expression.ImpTree.{ImpTree}
use Rattle.opl_tree.specs.declared.expression.OrTree.{OrTree}
use Rattle.opl_tree.specs.declared.expression.AndTree.{AndTree}
use Rattle.opl_tree.specs.declared.expression.NegTree.{NegTree}
use Rattle.opl_tree.specs.declared.expression.CompareTree.{CompareTree}
use Rattle.opl_tree.specs.declared.expression.AddTree.{AddTree}
use Rattle.opl_tree.specs.declared.expression.AddStep.{AddStep}
use Rattle.opl_tree.specs.declared.expression.MulTree.{MulTree}
use Rattle.opl_tree.specs.declared.expression.MulStep.{MulStep}
use Rattle.opl_tree.specs.declared.expression.LastStep.{LastStep}
use Rattle.opl_tree.specs.declared.expression.OpenTree.{OpenTree}
use Rattle.opl_tree.specs.declared.expression.SignTree.{SignTree}
use Rattle.opl_tree.specs.declared.expression.PostTree.{PostTree}
use Rattle.opl_tree.specs.declared.expression.SuffixTree.{SuffixTree}
use Rattle.opl_tree.specs.declared.expression.SubscriptsTree.{SubscriptsTree}
use Rattle.opl_tree.specs.declared.expression.PrimTree.{PrimTree}
use Rattle.opl_tree.specs.declared.expression.KeyedTree.{KeyedTree}
use Rattle.opl_tree.specs.declared.expression.SetTree.{SetTree}
use Rattle.opl_tree.specs.declared.expression.ParamsTree.{ParamsTree}
use Rattle.opl_tree.specs.declared.expression.GroupStep.{GroupStep}
use Rattle.opl_tree.specs.declared.expression.GroupTree.{GroupTree}
use Rattle.opl_tree.specs.declared.expression.AddOp.{AddOp}
use Rattle.opl_tree.specs.declared.expression.AggregateOp.{AggregateOp}
use Rattle.opl_tree.specs.declared.expression.MulTree.TheVariants as muls
use Rattle.opl_tree.specs.declared.expression.OpenTree.TheVariants as opens
use Rattle.opl_tree.specs.declared.expression.SignTree.TheVariants as factors
use Rattle.opl_tree.specs.declared.expression.CompareTree.TheViews.{out-AddStep, roll-AddStep, roll-out-AddStep, out-AddTree, roll-AddTree, roll-out-AddTree, out-roll-AddTree, out-SetTree, roll-SetTree, roll-out-SetTree, out-roll-SetTree, out-MulTree, roll-MulTree, roll-out-MulTree, out-roll-MulTree, out-OpenTree, roll-OpenTree, roll-out-OpenTree, out-SignTree, roll-SignTree, roll-out-SignTree, out-roll-SignTree}
use Rattle.opl_tree.specs.declared.expression.CompareTree.TheOpen.{MulTree-F, OpenTree-F, SignTree-F}
use Rattle.opl_grammar.specs.declared.parts.Operand.{Operand}
use Rattle.opl_grammar.specs.declared.parts.Operand.TheVariants as operands
use Rattle.opl_tree.specs.Marks.{marks_add, marks_add_step, marks_mul, marks_params}
use Rattle.opl_tree.specs.Marks as mk
use Rattle.opl_tree.proofs.Marks.{marks_mul-Opened, marks_mul-Product, marks_open-NegativeOpen, marks_open-Aggregate, marks_sign-Negative, marks_sign-Postfix, marks_add_step-of, marks_add_step-is, marks_add-of, marks_set-of}
use Rattle.opl_grammar.specs.Input.{Input, Parser, and_then, pure, one, sees_sign, is_sign, many}
use Rattle.opl_grammar.specs.Input.{place as place_at}
use Rattle.opl_grammar.specs.Tables.{add_op_in, aggregate_in, is_add_op, is_mul_op, is_aggregate, sign_starts, word_starts_add, starts_add}
use Rattle.opl_grammar.specs.Just.{alone, without, OneMul, OneSign, post_at_sign, post_of_sign, post_at_mul, post_of_mul, post_of_add, name_of_found, name_of}
use Rattle.opl_grammar.specs.Rules as g
use Rattle.opl_grammar.specs.Rules.{Rules}
use Rattle.opl_parse.proofs.Firsts.{prim_starts_add, prim_no_minus, prim_no_aggregate, aggregate_starts_add}
use Rattle.opl_parse.proofs.Follow.{Ends, mul_ends, no_add, add_ends, no_sign, sign_ends}
use Rattle.opl_reader_laws.proofs.Forms.{placed, placed_shape, placed_law, maybe, maybe_tag, maybe_law, either, by_side, either_shape, either_law, mapped, Made, rule_law, stricter_law, plain, plain_law}
use Rattle.opl_reader_laws.proofs.Going.{after_side, going, going_shape, is_left, Forks, going_law}
use Rattle.opl_reader_laws.proofs.Led.{led_law}
use Rattle.opl_reader_laws.proofs.Opened.{opened, opened_shape, opened_law}
use Rattle.opl_reader_laws.proofs.Many.{many_law}
use Rattle.opl_parse.proofs.Ops.{add_op_part, add_op_reads, aggregate_part, aggregate_first, aggregate_reads, from_aggregate}
use Rattle.opl_reader_laws.proofs.Options.{after_maybe, then_same}
use Rattle.opl_reader_laws.proofs.Outcomes.{and_then_assoc, steps}
use Rattle.opl_reader_laws.proofs.Phrases.{Shape, Law, Any, one_law, pair, pair_shape, pair_law}
use Rattle.opl_parse.proofs.Posts.{post_law}
use Rattle.opl_parse.proofs.Shapes.{post_kind, operand_kind, First, post_shape, marks_operand, operand_ends, operand_shape, mul_shape, add_shape, set_shape, upper_shape, optional_upper, aggregated_shape, RulesLaw}
use Rattle.opl_reader_laws.proofs.Sided.{with_place, no_place, sided, sided_shape, sided_law}
use Rattle.opl_parse.proofs.Steps.{Chain, no_steps, chain_shape, split, unsplit, split_shape, split_read, split_law, steps_law}
use Rattle.opl_reader_laws.proofs.Takes.{Written}
use Rattle.opl_reader_laws.proofs.Tokens.{from_sign, sign_table, sign_first, sign_reads}
use Rattle.opl_grammar.specs.Tables as tables

-- ---- operands

abbrev OperandParts : Type 0
OperandParts = (ℕ × (Unit {0} × Operand)) ⊎ ((ℕ × (AggregateOp × (ParamsTree × MulTree))) ⊎ PostTree)

abbrev operand_to : OperandParts → Operand
operand_to (inl c) = g.negative c.0 c.1.1
operand_to (inr (inl c)) = operands.Open (opens.Aggregate c.0 c.1.0 c.1.1.0 c.1.1.1)
operand_to (inr (inr t)) = operands.Sign (factors.Postfix t)

abbrev operand_read : Rules → Parser OperandParts
operand_read r = either (is_sign signs.Minus) (placed (opened (sign_table signs.Minus) r.operand)) (either is_aggregate (placed (opened aggregate_in r.aggregate)) (g.post r))

abbrev operand_parts : Shape OperandParts
operand_parts = either_shape (placed_shape (opened_shape (λ u. mk.sign signs.Minus) (sign_first signs.Minus) operand_shape)) (either_shape (placed_shape (opened_shape aggregate_part aggregate_first aggregated_shape)) post_shape)

operand_is : (r : Rules) (i : Input) → g.operand r i ≡ mapped operand_to (operand_read r) i
unfolding g.operand g.negated g.aggregate
operand_is r i = simp steps

abbrev OneOpen : Type 0
OneOpen = OpenTree-F CompareTree MulTree NegTree OpenTree PrimTree SignTree SuffixTree AddStep AddTree AndTree ExprTree GroupStep GroupTree ImpTree KeyedTree LastStep MulStep OrTree ParamsTree PostTree SetTree SubscriptsTree

open_layer_made : (x : OneOpen) → Made operand_to (operands.Open (roll-OpenTree x))
open_layer_made (OpenTree-F.NegativeOpen at t) = record { of = inl (at, (tt, operands.Open t)); is = ap operands.Open (sym (opens.rolls-NegativeOpen at t)) }
open_layer_made (OpenTree-F.Aggregate at op t u) = record { of = inr (inl (at, (op, (t, u)))); is = ap operands.Open (sym (opens.rolls-Aggregate at op t u)) }

sign_layer_made : (x : OneSign) → Made operand_to (operands.Sign (roll-SignTree x))
sign_layer_made (SignTree-F.Negative at t) = record { of = inl (at, (tt, operands.Sign t)); is = ap operands.Sign (sym (factors.rolls-Negative at t)) }
sign_layer_made (SignTree-F.Postfix t) = record { of = inr (inr t); is = ap operands.Sign (sym (factors.rolls-Postfix t)) }

operand_made : (t : Operand) → Made operand_to t
operand_made (operands.Open t) = subst (λ x. Made operand_to (operands.Open x)) (roll-out-OpenTree t) (open_layer_made (out-OpenTree t))
operand_made (operands.Sign t) = subst (λ x. Made operand_to (operands.Sign x)) (roll-out-SignTree t) (sign_layer_made (out-SignTree t))

negative_spelt : (at : ℕ) (t : Operand) → marks_operand (g.negative at t) ≡ mk.place at ∷ mk.nested (mk.sign signs.Minus) (marks_operand t)
negative_spelt at (operands.Open t) = marks_open-NegativeOpen at t
negative_spelt at (operands.Sign t) = marks_sign-Negative at t

operand_spelt : (c : OperandParts) → marks_operand (operand_to c) ≡ operand_parts.marks c
operand_spelt (inl c) = negative_spelt c.0 c.1.1
operand_spelt (inr (inl c)) = marks_open-Aggregate c.0 c.1.0 c.1.1.0 c.1.1.1
    ∙ ap (λ ms. mk.place c.0 ∷ mk.nested (aggregate_part c.1.0) ms) (sym (append_assoc (mk.nested (mk.sign signs.OpenParenthesis) (marks_params c.1.1.0)) (mk.token (mk.sign signs.CloseParenthesis) ∷ []) (marks_mul c.1.1.1)))
operand_spelt (inr (inr t)) = marks_sign-Postfix t

-- whether an operand is just a post
post_of_layer : (x : OneSign) → post_of_sign (roll-SignTree x) ≡ post_at_sign x
unfolding post_of_sign
post_of_layer x = ap post_at_sign (out-roll-SignTree x)

post_of_negative : (at : ℕ) (t : SignTree) → post_of_sign (factors.Negative at t) ≡ None
post_of_negative at t = ap post_of_sign (sym (factors.rolls-Negative at t)) ∙ post_of_layer (SignTree-F.Negative at t)

pub post_of_postfix : (t : PostTree) → post_of_sign (factors.Postfix t) ≡ Some t
post_of_postfix t = ap post_of_sign (sym (factors.rolls-Postfix t)) ∙ post_of_layer (SignTree-F.Postfix t)

abbrev negative_view : Option (Option Bool) → Option (Option Bool)
negative_view None = None
negative_view (Some b) = Some None

abbrev operand_view : operand_parts.Tag → Option (Option Bool)
operand_view (inl x) = negative_view x.1
operand_view (inr (inl x)) = None
operand_view (inr (inr b)) = Some (Some b)

negative_tag : (at : ℕ) (t : Operand) → operand_kind (g.negative at t) ≡ negative_view (operand_kind t)
negative_tag at (operands.Open t) = refl
negative_tag at (operands.Sign t) = ap (λ o. Some (post_kind o)) (post_of_negative at t)

operand_tag : (c : OperandParts) → operand_kind (operand_to c) ≡ operand_view (operand_parts.tag c)
operand_tag (inl c) = negative_tag c.0 c.1.1
operand_tag (inr (inl c)) = refl
operand_tag (inr (inr t)) = ap (λ o. Some (post_kind o)) (post_of_postfix t)

pub operand_closing : (x : Option (Option Bool)) (k : Option Kind) → Ends 2 k → operand_ends x k
operand_closing None k h = h
operand_closing (Some b) k h = omega arith

negative_ends : (x : Option (Option Bool)) (k : Option Kind) → operand_ends (negative_view x) k → operand_ends x k
negative_ends None k h = h
negative_ends (Some b) k h = h

operand_parts_ends : (y : operand_parts.Tag) (k : Option Kind) → operand_ends (operand_view y) k → operand_parts.ends y k
operand_parts_ends (inl x) k h = negative_ends x.1 k h
operand_parts_ends (inr (inl x)) k h = h
operand_parts_ends (inr (inr b)) k h = h

pub operand_law : {n : ℕ} {r s : Rules} → RulesLaw n r s → Law n (g.operand r) (g.operand s) operand_shape
operand_law {n} {r} {s} R = rule_law
    (either_law (is_sign signs.Minus) (placed_law (opened_law (sign_reads signs.Minus) R.operand))
    (either_law is_aggregate (placed_law (opened_law aggregate_reads R.aggregate)) (post_law R) (λ F k h. h) (λ F k h. prim_no_aggregate k h)) (λ F k h. h)
    (λ F k h. by_side (λ a. from_aggregate (λ l. sees_sign signs.Minus l ≡ false) k a (λ x. refl)) (λ a. prim_no_minus k a) h))
    operand_shape operand_to (record {
      made = operand_made;
      marks = operand_spelt;
      tags = λ a b h. operand_tag a ∙ (ap operand_view h ∙ sym (operand_tag b));
      fits = λ c. tt;
      ends = λ a k h. operand_parts_ends (operand_parts.tag a) k (subst (λ x. operand_ends x k) (operand_tag a) h);
      closing = operand_closing;
      closes = λ k h. (h, (h, omega arith));
      begins = λ F k h. by_side (λ a. from_sign signs.Minus (λ l. tables.begins sign_starts word_starts_add l ≡ true) k a refl) (λ a. by_side (λ b. aggregate_starts_add k b) (λ b. prim_starts_add k b) a) h;
    }) (g.operand r) (g.operand s) (operand_is r) (operand_is s)

-- ---- products

abbrev MulParts : Type 0
MulParts = OpenTree ⊎ ((ℕ × SignTree) × Chain)

abbrev mul_to : MulParts → MulTree
mul_to (inl t) = muls.Opened t
mul_to (inr d) = muls.Product d.0.0 d.0.1 d.1.0 d.1.1

abbrev mul_read : Rules → Parser MulParts
mul_read r = going (sided (split_read r)) (g.steps r)

abbrev mul_parts : Shape MulParts
mul_parts = going_shape (sided_shape split_shape) chain_shape (First starts_add Any)

mul_of_is : (r : Rules) (at : ℕ) (t : Operand) (j : Input) → g.mul_of r at t j ≡ and_then (after_side (g.steps r) (with_place at (split t)) j) (λ c. pure (mul_to c))
mul_of_is r at (operands.Open t) j = refl
mul_of_is r at (operands.Sign t) j = simp steps

mul_is : (r : Rules) (i : Input) → g.mul r i ≡ mapped mul_to (mul_read r) i
unfolding g.mul
mul_is r i = then_same (g.operand r i) (λ t. g.mul_of r (place_at i) t) (λ t j. and_then (after_side (g.steps r) (with_place (place_at i) (split t)) j) (λ c. pure (mul_to c))) (mul_of_is r (place_at i)) ∙ simp steps

mul_layer_made : (x : OneMul) → Made mul_to (roll-MulTree x)
mul_layer_made (MulTree-F.Opened t) = record { of = inl t; is = sym (muls.rolls-Opened t) }
mul_layer_made (MulTree-F.Product at t xs l) = record { of = inr ((at, t), (xs, l)); is = sym (muls.rolls-Product at t xs l) }

mul_made : (t : MulTree) → Made mul_to t
mul_made t = subst (Made mul_to) (roll-out-MulTree t) (mul_layer_made (out-MulTree t))

mul_spelt : (c : MulParts) → marks_mul (mul_to c) ≡ mul_parts.marks c
mul_spelt (inl t) = marks_mul-Opened t
mul_spelt (inr d) = marks_mul-Product d.0.0 d.0.1 d.1.0 d.1.1

post_of_mul_layer : (x : OneMul) → post_of_mul (roll-MulTree x) ≡ post_at_mul x
unfolding post_of_mul
post_of_mul_layer x = ap post_at_mul (out-roll-MulTree x)

abbrev mul_view_of : Option (Option Bool) → Option Bool → Option Bool
mul_view_of None y = None
mul_view_of (Some o) None = None
mul_view_of (Some o) (Some true) = o
mul_view_of (Some o) (Some false) = None

mul_tag_of : (o : Option PostTree) (xs : List MulStep) (l : Option LastStep) → post_kind (alone xs (without l o)) ≡ mul_view_of (Some (post_kind o)) (Some (no_steps xs l))
mul_tag_of o [] None = refl
mul_tag_of o [] (Some x) = refl
mul_tag_of o (x ∷ xs) l = refl

mul_tag : (c : MulParts) → post_kind (post_of_mul (mul_to c)) ≡ mul_view_of (mul_parts.tag c).0 (mul_parts.tag c).1
mul_tag (inl t) = ap (λ x. post_kind (post_of_mul x)) (sym (muls.rolls-Opened t)) ∙ ap post_kind (post_of_mul_layer (MulTree-F.Opened t))
mul_tag (inr d) = ap (λ x. post_kind (post_of_mul x)) (sym (muls.rolls-Product d.0.0 d.0.1 d.1.0 d.1.1)) ∙ (ap post_kind (post_of_mul_layer (MulTree-F.Product d.0.0 d.0.1 d.1.0 d.1.1)) ∙ mul_tag_of (post_of_sign d.0.1) d.1.0 d.1.1)

mul_forks : Forks (sided_shape split_shape) chain_shape (First starts_add Any)
mul_forks = record {
  sides = sides;
  meets = λ b y k h. meets k h;
  starts = λ F k h. h;
  none = ([], None);
  none_marks = refl;
} where
  sides : (c d : OpenTree ⊎ (ℕ × SignTree)) → operand_kind (unsplit (no_place c)) ≡ operand_kind (unsplit (no_place d)) → is_left c ≡ is_left d
  sides (inl a) (inl b) h = refl
  sides (inl a) (inr b) h = cc
  sides (inr a) (inl b) h = cc
  sides (inr a) (inr b) h = refl

  meets : (k : Option Kind) → (is_mul_op k ≡ true) ⊎ Ends 2 k → Ends 1 k
  meets k (inl h) = mul_ends k h
  meets k (inr h) = omega arith

pub mul_law : {n : ℕ} {r s : Rules} → RulesLaw n r s → Law n (g.mul r) (g.mul s) mul_shape
mul_law {n} {r} {s} R = plain_law (going_law (sided_law (split_law r s (operand_law R))) (steps_law r s (operand_law R)) mul_forks) mul_to (record {
  made = mul_made;
  marks = mul_spelt;
  view = λ x. mul_view_of x.0 x.1;
  tag = mul_tag;
  closes = λ k h. (h, h);
  begins = λ F k h. h;
}) (g.mul r) (g.mul s) (mul_is r) (mul_is s)

-- ---- sums

abbrev add_step_to : AddOp × MulTree → AddStep
add_step_to c = roll-AddStep (record { op = c.0; term = c.1 })

add_step_is : (r : Rules) (i : Input) → g.add_step r i ≡ mapped add_step_to (pair (one add_op_in) (g.mul r)) i
unfolding g.add_step
add_step_is r i = simp steps

abbrev add_step_shape : Shape AddStep
add_step_shape = plain marks_add_step (Ends 2) (First is_add_op)

add_step_law : {n : ℕ} {r s : Rules} → RulesLaw n r s → Law n (g.add_step r) (g.add_step s) add_step_shape
add_step_law {n} {r} {s} R = plain_law (pair_law (one_law add_op_reads) (mul_law R) (λ x k h. tt)) add_step_to (record {
  made = λ t. record { of = ((out-AddStep t).op, (out-AddStep t).term); is = roll-out-AddStep t };
  marks = λ c. marks_add_step-of c.0 c.1;
  view = λ x. tt;
  tag = λ c. refl;
  closes = λ k h. h;
  begins = λ F k h. h;
}) (g.add_step r) (g.add_step s) (add_step_is r) (add_step_is s)

add_step_written : (t : AddStep) → Written (marks_add_step t)
add_step_written t = subst Written (sym (marks_add_step-is t)) (record { first = add_op_part (out-AddStep t).op; is = refl })

abbrev add_to : ℕ × (MulTree × List AddStep) → AddTree
add_to c = roll-AddTree (record { at = c.0; first = c.1.0; rest = c.1.1 })

add_is : (r : Rules) (i : Input) → g.add r i ≡ mapped add_to (placed (pair (g.mul r) (many is_add_op (g.add_step r)))) i
unfolding g.add
add_is r i = simp steps

post_of_add_is : (at : ℕ) (t : MulTree) (ts : List AddStep) → post_of_add (add_to (at, (t, ts))) ≡ alone ts (post_of_mul t)
unfolding post_of_add
post_of_add_is at t ts = ap (λ v. alone v.rest (post_of_mul v.first)) (out-roll-AddTree (record { at = at; first = t; rest = ts }))

alone_post : {A T : Type 0} (f : A → T) (xs : List A) (o : Option PostTree) → post_kind (alone xs o) ≡ alone (map f xs) (post_kind o)
alone_post f [] o = refl
alone_post f (x ∷ xs) o = refl

add_meets : (k : Option Kind) → (is_add_op k ≡ true) ⊎ (Ends 2 k × (is_add_op k ≡ false)) → Ends 2 k
add_meets k (inl h) = add_ends k h
add_meets k (inr h) = h.0

pub add_law : {n : ℕ} {r s : Rules} → RulesLaw n r s → Law n (g.add r) (g.add s) add_shape
add_law {n} {r} {s} R = plain_law
    (placed_law (pair_law (mul_law R) (many_law is_add_op (add_step_law R) (record { passes = λ F k h. h; meets = add_ends; written = add_step_written })) (λ x k h. add_meets k h)))
    add_to (record {
      made = λ t. record { of = ((out-AddTree t).at, ((out-AddTree t).first, (out-AddTree t).rest)); is = roll-out-AddTree t };
      marks = λ c. marks_add-of c.0 c.1.0 c.1.1;
      view = λ x. alone x.1 x.0;
      tag = λ c. ap post_kind (post_of_add_is c.0 c.1.0 c.1.1) ∙ alone_post (λ (t : AddStep). tt) c.1.1 (post_of_mul c.1.0);
      closes = λ k h. (omega arith, no_add k h);
      begins = λ F k h. h;
    }) (g.add r) (g.add s) (add_is r) (add_is s)

-- ---- sets

pub upper_law : {n : ℕ} {r s : Rules} → RulesLaw n r s → Law n (g.upper r) (g.upper s) upper_shape
unfolding g.upper
upper_law {n} {r} {s} R = led_law (sign_reads signs.Range) (add_law R)

abbrev set_to : ℕ × (AddTree × Option AddTree) → SetTree
set_to c = roll-SetTree (record { at = c.0; low = c.1.0; high = c.1.1 })

set_is : (r : Rules) (i : Input) → g.set r i ≡ mapped set_to (placed (pair (g.add r) (maybe (is_sign signs.Range) (g.upper r)))) i
unfolding g.set
set_is r i = simp and_then_assoc

name_of_set_is : (at : ℕ) (t : AddTree) (o : Option AddTree) → name_of (set_to (at, (t, o))) ≡ without o (name_of_found (post_of_add t))
unfolding name_of
name_of_set_is at t o = ap (λ v. without v.high (name_of_found (post_of_add v.low))) (out-roll-SetTree (record { at = at; low = t; high = o }))

optional_upper_law : {n : ℕ} {r s : Rules} → RulesLaw n r s → Law n (maybe (is_sign signs.Range) (g.upper r)) (maybe (is_sign signs.Range) (g.upper s)) optional_upper
optional_upper_law R = stricter_law (Ends 3) (maybe_law (is_sign signs.Range) (upper_law R) (λ F k h. h))

upper_meets : {X : Type 0} (k : Option Kind) → (is_sign signs.Range k ≡ true) ⊎ (X × Ends 3 k) → Ends 3 k
upper_meets k (inl h) = sign_ends signs.Range 3 (omega arith) k h
upper_meets k (inr h) = h.1

pub ends_law : {n : ℕ} {r s : Rules} → RulesLaw n r s → Law n (pair (g.add r) (maybe (is_sign signs.Range) (g.upper r))) (pair (g.add s) (maybe (is_sign signs.Range) (g.upper s))) (pair_shape add_shape optional_upper)
ends_law R = pair_law (add_law R) (optional_upper_law R) (λ x k h. upper_meets k h)

-- a post that is just a name
abbrev some_true : Option Bool → Bool
some_true None = false
some_true (Some b) = b

abbrev set_view : Option Bool → Option (Option Bool) → Bool
set_view x None = some_true x
set_view x (Some y) = false

found_name : (o : Option PostTree) → is_some (name_of_found o) ≡ some_true (post_kind o)
found_name None = refl
found_name (Some t) = refl

set_tag_of : (o : Option AddTree) (p : Option PostTree) → is_some (without o (name_of_found p)) ≡ set_view (post_kind p) (maybe_tag upper_shape o)
set_tag_of None p = found_name p
set_tag_of (Some t) p = refl

pub set_law : {n : ℕ} {r s : Rules} → RulesLaw n r s → Law n (g.set r) (g.set s) set_shape
set_law {n} {r} {s} R = plain_law (placed_law (ends_law R)) set_to (record {
  made = λ t. record { of = ((out-SetTree t).at, ((out-SetTree t).low, (out-SetTree t).high)); is = roll-out-SetTree t };
  marks = λ c. marks_set-of c.0 c.1.0 c.1.1 ∙ ap (λ ms. mk.place c.0 ∷ (marks_add c.1.0 ++ ms)) (after_maybe (mk.sign signs.Range) (sign_first signs.Range) add_shape c.1.1);
  view = λ x. set_view x.0 x.1;
  tag = λ c. ap is_some (name_of_set_is c.0 c.1.0 c.1.1) ∙ set_tag_of c.1.1 (post_of_add c.1.0);
  closes = λ k h. ((omega arith, no_sign signs.Range 4 (λ e. omega (arith, e)) k h), omega arith);
  begins = λ F k h. h;
}) (g.set r) (g.set s) (set_is r) (set_is s)
