-- The steps of a product: operators with factors, as long as one comes, and an open operand at the end.
use Rattle.std.proofs.Common.{◌≡◌, ℕ, zero, suc, max, ◌<◌, ◌≤◌, Bool, true, false, cond, ◌⊎◌, inl, inr, List, [], ◌∷◌, ◌++◌, map, Option, Some, None, Ok, Err, refl, sym, ap, ◌∙◌, subst, arith, append_assoc, append-nil}
use Rattle.std.specs.Option.{option_map}
use Rattle.opl_token.specs.declared.token.Kind.{Kind}
use Rattle.opl_tree.specs.declared.expression.MulStep.{MulStep}
use Rattle.opl_tree.specs.declared.expression.LastStep.{LastStep}
use Rattle.opl_tree.specs.declared.expression.OpenTree.{OpenTree}
use Rattle.opl_tree.specs.declared.expression.SignTree.{SignTree}
use Rattle.opl_tree.specs.declared.expression.MulOp.{MulOp}
use Rattle.opl_tree.specs.declared.expression.CompareTree.TheViews.{out-LastStep, roll-LastStep, roll-out-LastStep, out-MulStep, roll-MulStep, roll-out-MulStep}
use Rattle.opl_grammar.specs.declared.parts.Operand.{Operand}
use Rattle.opl_grammar.specs.declared.parts.Operand.TheVariants as operands
use Rattle.opl_tree.specs.Marks.{Mark, joined, mul_part, marks_mul_step, marks_last_step, marks_sign}
use Rattle.opl_tree.specs.Marks as mk
use Rattle.opl_tree.proofs.Marks.{marks_last_step-of, marks_mul_step-of, marks_mul_step-is}
use Rattle.opl_grammar.specs.Input.{Input, Stop, Outcome, Parser, kind, left, and_then, ◌>>=◌, pure, refuse, one}
use Rattle.opl_grammar.specs.Tables.{mul_op_in, is_mul_op, starts_add}
use Rattle.opl_grammar.specs.Rules as g
use Rattle.opl_grammar.specs.Rules.{Rules}
use Rattle.opl_parse.proofs.Follow.{Ends, no_mul, mul_ends}
use Rattle.opl_reader_laws.proofs.Forms.{maybe, maybe_shape, maybe_good, maybe_fails_at, mapped, Made, Rule, rule_good, rule_fails_at, rule_law, tagged}
use Rattle.opl_reader_laws.proofs.Going.{after_side, going, going_marks, going_shape, is_left, Forks, going_good, going_fails_at}
use Rattle.opl_reader_laws.proofs.Many.{pair_same, maybe_same}
use Rattle.opl_parse.proofs.Ops.{mul_first, mul_reads}
use Rattle.opl_reader_laws.proofs.Outcomes.{and_then_pure}
use Rattle.opl_reader_laws.proofs.Phrases.{Shape, Sound, Good, Fails, AllFail, More, Law, more_bind, more_test, Any, one_shape, one_law, pair, pair_shape, pair_good, pair_fails_at}
use Rattle.opl_parse.proofs.Shapes.{operand_kind, First, marks_operand, operand_ends, operand_shape}
use Rattle.opl_reader_laws.proofs.Takes.{Begins, takes_begins, begins_split, begins_join, begins_left, Written, begins_less}

abbrev pub Chain : Type 0
Chain = List MulStep × Option LastStep

abbrev pub chain_marks : Chain → List Mark
chain_marks c = joined (map marks_mul_step c.0) ++ mk.written (option_map marks_last_step c.1)

-- whether there is no step
abbrev pub no_steps : List MulStep → Option LastStep → Bool
no_steps [] None = true
no_steps [] (Some x) = false
no_steps (x ∷ xs) l = false

abbrev pub chain_empty : Chain → Bool
chain_empty c = no_steps c.0 c.1

-- so many turns are enough
abbrev pub turns_fit : ℕ → List MulStep → Type 0
turns_fit zero xs = ⊥
turns_fit (suc m) [] = Unit {0}
turns_fit (suc m) (x ∷ xs) = turns_fit m xs

abbrev chain_shape_n : ℕ → Shape Chain
chain_shape_n m = record {
  marks = chain_marks;
  Tag = Bool;
  tag = chain_empty;
  fits = λ c. turns_fit m c.0;
  ends = λ x. Ends 2;
  closes = Ends 2;
  begins = λ F k. (is_mul_op k ≡ true) ⊎ F k;
}

abbrev pub chain_shape : Shape Chain
chain_shape = tagged chain_marks chain_empty (Ends 2) (λ F k. (is_mul_op k ≡ true) ⊎ F k)

-- an operand, by its kind
abbrev pub split : Operand → OpenTree ⊎ SignTree
split (operands.Open t) = inl t
split (operands.Sign t) = inr t

abbrev pub unsplit : OpenTree ⊎ SignTree → Operand
unsplit (inl t) = operands.Open t
unsplit (inr t) = operands.Sign t

abbrev pub split_shape : Shape (OpenTree ⊎ SignTree)
split_shape = record {
  marks = λ c. marks_operand (unsplit c);
  Tag = Option (Option Bool);
  tag = λ c. operand_kind (unsplit c);
  fits = λ c. Unit {0};
  ends = operand_ends;
  closes = Ends 2;
  begins = First starts_add;
}

abbrev StepParts : Type 0
StepParts = Option (MulOp × (OpenTree ⊎ (SignTree × Chain)))

abbrev chain_to : StepParts → Chain
chain_to None = ([], None)
chain_to (Some c) = after_op c.0 c.1 where
  after_op : MulOp → OpenTree ⊎ (SignTree × Chain) → Chain
  after_op op (inl t) = ([], Some (roll-LastStep (record { op = op; factor = t })))
  after_op op (inr d) = (roll-MulStep (record { op = op; factor = d.0 }) ∷ d.1.0, d.1.1)

abbrev step_read : Parser (OpenTree ⊎ SignTree) → Parser Chain → Parser StepParts
step_read p rest = maybe is_mul_op (pair (one mul_op_in) (going p rest))

abbrev step_parts : Shape Chain → Shape StepParts
step_parts t = maybe_shape is_mul_op (pair_shape (one_shape mul_part mul_first) (going_shape split_shape t (First starts_add Any)))

-- the steps, without those found before
unfoldable pub chain_n : Parser (OpenTree ⊎ SignTree) → ℕ → Parser Chain
chain_n p zero = refuse
chain_n p (suc m) = mapped chain_to (step_read p (chain_n p m))

chain_forks : (t : Shape Chain) → ((y : t.Tag) (F : Option Kind → Type 0) (k : Option Kind) → t.begins (t.ends y) k → (is_mul_op k ≡ true) ⊎ Ends 2 k) → t.marks ([], None) ≡ [] → Forks split_shape t (First starts_add Any)
chain_forks t begins none = record {
  sides = sides;
  meets = λ b y k h. meets k (begins y Any k h);
  starts = λ F k h. h;
  none = ([], None);
  none_marks = none;
} where
  sides : (c d : OpenTree ⊎ SignTree) → operand_kind (unsplit c) ≡ operand_kind (unsplit d) → is_left c ≡ is_left d
  sides (inl a) (inl b) h = refl
  sides (inl a) (inr b) h = cc
  sides (inr a) (inl b) h = cc
  sides (inr a) (inr b) h = refl

  meets : (k : Option Kind) → (is_mul_op k ≡ true) ⊎ Ends 2 k → Ends 1 k
  meets k (inl h) = mul_ends k h
  meets k (inr h) = omega arith

-- ---- what a chain is made of

chain_made : (c : Chain) → Made chain_to c
chain_made c = by_parts c.0 c.1 where
  by_parts : (xs : List MulStep) (l : Option LastStep) → Made chain_to (xs, l)
  by_parts [] None = record { of = None; is = refl }
  by_parts [] (Some t) = record { of = Some ((out-LastStep t).op, inl (out-LastStep t).factor); is = ap (λ x. ([], Some x)) (roll-out-LastStep t) }
  by_parts (x ∷ xs) l = record { of = Some ((out-MulStep x).op, inr ((out-MulStep x).factor, (xs, l))); is = ap (λ y. (y ∷ xs, l)) (roll-out-MulStep x) }

module _ (t : Shape Chain) (same : (c : Chain) → t.marks c ≡ chain_marks c) where
  step_marks_are : (o : StepParts) → chain_marks (chain_to o) ≡ (step_parts t).marks o
  step_marks_are None = refl
  step_marks_are (Some c) = by_op c.0 c.1 where
    by_op : (op : MulOp) (d : OpenTree ⊎ (SignTree × Chain)) → chain_marks (chain_to (Some (op, d))) ≡ (step_parts t).marks (Some (op, d))
    by_op op (inl x) = marks_last_step-of op x
    by_op op (inr d) = ap (λ ms. (ms ++ joined (map marks_mul_step d.1.0)) ++ mk.written (option_map marks_last_step d.1.1)) (marks_mul_step-of op d.0)
        ∙ ap (λ ms. mk.token (mul_part op) ∷ ms) (append_assoc (marks_sign d.0) (joined (map marks_mul_step d.1.0)) (mk.written (option_map marks_last_step d.1.1)) ∙ ap (λ ms. marks_sign d.0 ++ ms) (sym (same d.1)))

chain_view : {X : Type 0} → Option X → Bool
chain_view None = true
chain_view (Some x) = false

step_empty : (t : Shape Chain) (o : StepParts) → chain_empty (chain_to o) ≡ chain_view ((step_parts t).tag o)
unfolding chain_view
step_empty t None = refl
step_empty t (Some c) = by_op c.0 c.1 where
  by_op : (op : MulOp) (d : OpenTree ⊎ (SignTree × Chain)) → chain_empty (chain_to (Some (op, d))) ≡ false
  by_op op (inl x) = refl
  by_op op (inr d) = refl

-- where nothing of a product comes, each chain ends
step_ends : (t : Shape Chain) → ((y : t.Tag) (k : Option Kind) → Ends 2 k → t.ends y k) → (o : StepParts) (k : Option Kind) → Ends 2 k → (step_parts t).ends ((step_parts t).tag o) k
step_ends t ends None k h = no_mul k h
step_ends t ends (Some c) k h = by_op c.0 c.1 where
  by_op : (op : MulOp) (d : OpenTree ⊎ (SignTree × Chain)) → (step_parts t).ends ((step_parts t).tag (Some (op, d))) k
  by_op op (inl x) = h
  by_op op (inr d) = ends (t.tag d.1) k h

fits_to_n : (m : ℕ) (o : StepParts) → (step_parts (chain_shape_n m)).fits o → turns_fit (suc m) (chain_to o).0
fits_to_n m None h = tt
fits_to_n m (Some c) h = by_op c.0 c.1 h where
  by_op : (op : MulOp) (d : OpenTree ⊎ (SignTree × Chain)) → (step_parts (chain_shape_n m)).fits (Some (op, d)) → turns_fit (suc m) (chain_to (Some (op, d))).0
  by_op op (inl x) h = tt
  by_op op (inr d) h = h.1.1

fits_from_n : (m : ℕ) (o : StepParts) → turns_fit (suc m) (chain_to o).0 → (step_parts (chain_shape_n m)).fits o
fits_from_n m None h = tt
fits_from_n m (Some c) h = by_op c.0 c.1 h where
  by_op : (op : MulOp) (d : OpenTree ⊎ (SignTree × Chain)) → turns_fit (suc m) (chain_to (Some (op, d))).0 → (step_parts (chain_shape_n m)).fits (Some (op, d))
  by_op op (inl x) h = (tt, tt)
  by_op op (inr d) h = (tt, (tt, h))

all_fit_parts : (o : StepParts) → (step_parts chain_shape).fits o
all_fit_parts None = tt
all_fit_parts (Some c) = by_op c.0 c.1 where
  by_op : (op : MulOp) (d : OpenTree ⊎ (SignTree × Chain)) → (step_parts chain_shape).fits (Some (op, d))
  by_op op (inl x) = (tt, tt)
  by_op op (inr d) = (tt, (tt, tt))

chain_rule : (m : ℕ) → Rule (step_parts (chain_shape_n m)) (chain_shape_n (suc m)) chain_to
chain_rule m = record {
  made = chain_made;
  marks = step_marks_are (chain_shape_n m) (λ c. refl);
  tags = λ a b h. step_empty (chain_shape_n m) a ∙ (ap chain_view h ∙ sym (step_empty (chain_shape_n m) b));
  fits_to = fits_to_n m;
  fits_from = fits_from_n m;
  ends = step_ends (chain_shape_n m) (λ y k h. h);
  closing = λ x k h. h;
  closes = λ k h. ((h, h), no_mul k h);
  begins = λ F k h. h;
}

whole_rule : Rule (step_parts chain_shape) chain_shape chain_to
whole_rule = record {
  made = chain_made;
  marks = step_marks_are chain_shape (λ c. refl);
  tags = λ a b h. step_empty chain_shape a ∙ (ap chain_view h ∙ sym (step_empty chain_shape b));
  fits_to = λ o h. tt;
  fits_from = λ o h. all_fit_parts o;
  ends = step_ends chain_shape (λ y k h. h);
  closing = λ x k h. h;
  closes = λ k h. ((h, h), no_mul k h);
  begins = λ F k h. h;
}

chain_front : (i : Input) (c : Chain) (j : Input) (F : Option Kind → Type 0) → Begins (chain_marks c) i j → F (kind j) → (is_mul_op (kind i) ≡ true) ⊎ F (kind i)
chain_front i c j F = subst (λ x. Begins (chain_marks x) i j → F (kind j) → (is_mul_op (kind i) ≡ true) ⊎ F (kind i)) (chain_made c).is (at_parts (chain_made c).of) where
  at_parts : (o : StepParts) → Begins (chain_marks (chain_to o)) i j → F (kind j) → (is_mul_op (kind i) ≡ true) ⊎ F (kind i)
  at_parts None h e = inr (subst (λ x. F (kind x)) (sym h) e)
  at_parts (Some c) h e =
      let t : Begins (mk.token (mul_part c.0) ∷ going_marks split_shape chain_shape c.1) i j = subst (λ ms. Begins ms i j) (step_marks_are chain_shape (λ c. refl) (Some c)) h in
      inl (subst (λ x. is_mul_op x ≡ true) (sym t.0.0) (mul_reads.starts c.0 t.0.1))

-- ---- the laws of so many turns

module _ (n : ℕ) (p : Parser (OpenTree ⊎ SignTree)) (P : Good n p split_shape) where
  going_of : (rest : Parser Chain) (t : Shape Chain) → Good n rest t → Forks split_shape t (First starts_add Any) → Good n (going p rest) (going_shape split_shape t (First starts_add Any))
  going_of rest t R forks = going_good n p split_shape rest t (First starts_add Any) P R forks

  pair_of : (rest : Parser Chain) (t : Shape Chain) → Good n rest t → Forks split_shape t (First starts_add Any) → Good n (pair (one mul_op_in) (going p rest)) (pair_shape (one_shape mul_part mul_first) (going_shape split_shape t (First starts_add Any)))
  pair_of rest t R forks = pair_good n (one mul_op_in) (one_shape mul_part mul_first) (going p rest) (going_shape split_shape t (First starts_add Any)) (one_law mul_reads).good (going_of rest t R forks) (λ x k h. tt)

  step_of : (rest : Parser Chain) (t : Shape Chain) → Good n rest t → Forks split_shape t (First starts_add Any) → Good n (step_read p rest) (step_parts t)
  step_of rest t R forks = maybe_good n is_mul_op (pair (one mul_op_in) (going p rest)) (pair_shape (one_shape mul_part mul_first) (going_shape split_shape t (First starts_add Any))) (pair_of rest t R forks) (λ F k h. h)

  forks_n : (m : ℕ) → Forks split_shape (chain_shape_n m) (First starts_add Any)
  forks_n m = chain_forks (chain_shape_n m) (λ y F k h. h) refl

  chain_n_good : (m : ℕ) → Good n (chain_n p m) (chain_shape_n m)
  unfolding chain_n
  chain_n_good zero = record {
    sound = λ i a j h. cc;
    complete = λ i a j fits d t e. absurd fits;
    accepts = λ i a j fits d t e. absurd fits;
    opening = λ i a j at fits t e g. absurd fits;
    front = chain_front;
    closing = λ x k h. h;
    sample = λ tail h. record { whole = tail; value = ([], None); takes = refl; starts = λ F k. inr k };
  }
  chain_n_good (suc m) = rule_good n (step_read p (chain_n p m)) (step_parts (chain_shape_n m)) (step_of (chain_n p m) (chain_shape_n m) (chain_n_good m) (forks_n m)) (chain_shape_n (suc m)) chain_to (chain_rule m) (chain_n p (suc m)) (λ i. refl)

  -- ---- enough turns are as good as more

  going_same : (rest other : Parser Chain) (i : Input) → ((b : SignTree) (j : Input) → p i ≡ Ok (inr b, j) → rest j ≡ other j) → going p rest i ≡ going p other i
  going_same rest other i same = by_first (p i) same where
    by_side_of : (c : OpenTree ⊎ SignTree) (j : Input) → ((b : SignTree) → c ≡ inr b → rest j ≡ other j) → after_side rest c j ≡ after_side other c j
    by_side_of (inl a) j e = refl
    by_side_of (inr b) j e = let k = e b refl in rw k refl

    by_first : (o : Outcome (OpenTree ⊎ SignTree)) → ((b : SignTree) (j : Input) → o ≡ Ok (inr b, j) → rest j ≡ other j) → and_then o (after_side rest) ≡ and_then o (after_side other)
    by_first (Ok c) e = by_side_of c.0 c.1 (λ b h. e b c.1 (ap (λ x. Ok (x, c.1)) h))
    by_first (Err f) e = refl

  step_same : (rest other : Parser Chain) (i : Input) → ((j : Input) → left j < left i → rest j ≡ other j) → step_read p rest i ≡ step_read p other i
  step_same rest other i same = maybe_same is_mul_op (pair (one mul_op_in) (going p rest)) (pair (one mul_op_in) (going p other)) i
      (pair_same (one mul_op_in) (going p rest) (going p other) i (λ op m h.
      let less = begins_less (mk.token (mul_part op) ∷ []) i m (record { first = mul_part op; is = refl }) (takes_begins (mk.token (mul_part op) ∷ []) i m ((one_law {n = n} mul_reads).good.sound i op m h).takes) in
      going_same rest other m (λ b j k.
      let le = begins_left (marks_sign b) m j (takes_begins (marks_sign b) m j (P.sound m (inr b) j k).takes) in
      same j (omega arith))))

  chain_enough : (m l : ℕ) (i : Input) → left i < m → left i < l → chain_n p m i ≡ chain_n p l i
  unfolding chain_n
  chain_enough zero l i h k = absurd (omega arith)
  chain_enough (suc m) zero i h k = absurd (omega arith)
  chain_enough (suc m) (suc l) i h k = ap (λ (o : Outcome StepParts). and_then o (λ c. pure (chain_to c))) (step_same (chain_n p m) (chain_n p l) i (λ j less. chain_enough m l j (omega arith) (omega arith)))

-- ---- the loop of the grammar

abbrev pub split_read : Rules → Parser (OpenTree ⊎ SignTree)
split_read r = mapped split (g.operand r)

abbrev in_front : List MulStep → Chain → Chain
in_front found c = (found ++ c.0, c.1)

abbrev Choice : Type 0
Choice = OpenTree ⊎ (SignTree × Chain)

abbrev FoundAgain : Rules → ℕ → List MulStep → Type 0
FoundAgain r m found = (x : MulStep) (j : Input) → g.steps_from r m (found ++ x ∷ []) j ≡ mapped (in_front (found ++ x ∷ [])) (chain_n (split_read r) m) j

abbrev finished : List MulStep → Outcome (MulOp × Choice) → Outcome Chain
finished found o = and_then (and_then (and_then o (λ a. pure (Some a))) (λ c. pure (chain_to c))) (λ c. pure (in_front found c))

steps_found : (r : Rules) (m : ℕ) (found : List MulStep) (i : Input) → g.steps_from r m found i ≡ mapped (in_front found) (chain_n (split_read r) m) i
unfolding chain_n g.steps_from
steps_found r zero found i = refl
steps_found r (suc m) found i = by_test (λ x j. steps_found r m (found ++ x ∷ []) j) (is_mul_op (kind i)) where
  by_chain : (op : MulOp) (t : SignTree) (o u : Outcome Chain) → u ≡ and_then o (λ c. pure (in_front (found ++ roll-MulStep (record { op = op; factor = t }) ∷ []) c)) →
      u ≡ finished found (and_then (and_then o (λ y. pure {A = Choice} (inr (t, y)))) (λ b. pure {A = MulOp × Choice} (op, b)))
  by_chain op t (Ok c) u e = e ∙ rw append_assoc refl
  by_chain op t (Err f) u e = e

  by_kind : FoundAgain r m found → (op : MulOp) (t : Operand) (j : Input) → g.after_factor r (g.steps_from r m) found op t j ≡ finished found (and_then (after_side (chain_n (split_read r) m) (split t) j) (λ b. pure {A = MulOp × Choice} (op, b)))
  by_kind again op (operands.Open t) j = rw append-nil refl
  by_kind again op (operands.Sign t) j = let x = roll-MulStep (record { op = op; factor = t }) in by_chain op t (chain_n (split_read r) m j) (g.steps_from r m (found ++ x ∷ []) j) (again x j)

  by_operand : FoundAgain r m found → (op : MulOp) (o : Outcome Operand) → and_then o (g.after_factor r (g.steps_from r m) found op) ≡ finished found (and_then (and_then (and_then o (λ t. pure (split t))) (after_side (chain_n (split_read r) m))) (λ b. pure {A = MulOp × Choice} (op, b)))
  by_operand again op (Ok c) = by_kind again op c.0 c.1
  by_operand again op (Err f) = refl

  by_op : FoundAgain r m found → (o : Outcome MulOp) → and_then o (λ op. g.operand r >>= g.after_factor r (g.steps_from r m) found op) ≡ finished found (and_then o (λ a. going (split_read r) (chain_n (split_read r) m) >>= (λ b. pure {A = MulOp × Choice} (a, b))))
  by_op again (Ok c) = by_operand again c.0 (g.operand r c.1)
  by_op again (Err f) = refl

  by_test : FoundAgain r m found → (b : Bool) → cond {A = Outcome Chain} b ((one mul_op_in >>= (λ op. g.operand r >>= g.after_factor r (g.steps_from r m) found op)) i) (Ok ((found, None), i))
      ≡ and_then (and_then (cond {A = Outcome StepParts} b ((pair (one mul_op_in) (going (split_read r) (chain_n (split_read r) m)) >>= (λ a. pure (Some a))) i) (Ok (None, i))) (λ c. pure (chain_to c))) (λ c. pure (in_front found c))
  by_test again true = by_op again (one mul_op_in i)
  by_test again false = rw append-nil refl

-- ---- more levels

after_factor_more : (r s : Rules) (more above : List MulStep → Parser Chain) → ((found : List MulStep) → More (more found) (above found)) → (found : List MulStep) (op : MulOp) (t : Operand) → More (g.after_factor r more found op t) (g.after_factor s above found op t)
after_factor_more r s more above h found op (operands.Open t) i d = refl
after_factor_more r s more above h found op (operands.Sign t) i d = h (found ++ roll-MulStep (record { op = op; factor = t }) ∷ []) i d

steps_from_more : (r s : Rules) → More (g.operand r) (g.operand s) → (m : ℕ) (found : List MulStep) → More (g.steps_from r m found) (g.steps_from s m found)
unfolding g.steps_from
steps_from_more r s h zero found i d = refl
steps_from_more r s h (suc m) found i d = more_test {A = Chain} (is_mul_op (kind i)) ((one mul_op_in >>= (λ op. g.operand r >>= g.after_factor r (g.steps_from r m) found op)) i) (Ok ((found, None), i)) ((one mul_op_in >>= (λ op. g.operand s >>= g.after_factor s (g.steps_from s m) found op)) i) (Ok ((found, None), i))
    (more_bind (one mul_op_in i) (one mul_op_in i) (λ op. g.operand r >>= g.after_factor r (g.steps_from r m) found op) (λ op. g.operand s >>= g.after_factor s (g.steps_from s m) found op) (λ e. refl)
    (λ op j. more_bind (g.operand r j) (g.operand s j) (g.after_factor r (g.steps_from r m) found op) (g.after_factor s (g.steps_from s m) found op) (h j) (after_factor_more r s (g.steps_from r m) (g.steps_from s m) (steps_from_more r s h m) found op)))
    (λ e. refl) d

steps_more : (r s : Rules) → More (g.operand r) (g.operand s) → More (g.steps r) (g.steps s)
unfolding g.steps
steps_more r s h i d = steps_from_more r s h (suc (left i)) [] i d

-- ---- the laws of the loop

mul_step_written : (t : MulStep) → Written (marks_mul_step t)
mul_step_written t = subst Written (sym (marks_mul_step-is t)) (record { first = mul_part (out-MulStep t).op; is = refl })

turns_enough : (xs : List MulStep) (l : Option LastStep) (i j : Input) (m : ℕ) → Begins (chain_marks (xs, l)) i j → left i < m → turns_fit m xs
turns_enough [] l i j zero h less = absurd (omega arith)
turns_enough [] l i j (suc m) h less = tt
turns_enough (x ∷ xs) l i j zero h less = absurd (omega arith)
turns_enough (x ∷ xs) l i j (suc m) h less =
    let w = begins_split (marks_mul_step x ++ joined (map marks_mul_step xs)) (mk.written (option_map marks_last_step l)) i j h in
    let v = begins_split (marks_mul_step x) (joined (map marks_mul_step xs)) i w.mid w.front in
    let less' = begins_less (marks_mul_step x) i v.mid (mul_step_written x) v.front in
    turns_enough xs l v.mid j m (begins_join (joined (map marks_mul_step xs)) (mk.written (option_map marks_last_step l)) v.mid w.mid j v.back w.back) (omega arith)

module _ (n : ℕ) (r : Rules) (P : Good n (split_read r) split_shape) where
  steps_is_n : (m : ℕ) (i : Input) → left i < m → g.steps r i ≡ chain_n (split_read r) m i
  unfolding g.steps
  steps_is_n m i h = steps_found r (suc (left i)) [] i ∙ (and_then_pure (chain_n (split_read r) (suc (left i)) i) ∙ chain_enough n (split_read r) P (suc (left i)) m i (omega arith) h)

  chain_n_is : (m : ℕ) (i : Input) → left i ≤ m → chain_n (split_read r) (suc m) i ≡ mapped chain_to (step_read (split_read r) (g.steps r)) i
  unfolding chain_n
  chain_n_is m i h = ap (λ (o : Outcome StepParts). and_then o (λ c. pure (chain_to c))) (step_same n (split_read r) P (chain_n (split_read r) m) (g.steps r) i (λ j less. sym (steps_is_n m j (omega arith))))

  steps_is_step : (i : Input) → g.steps r i ≡ mapped chain_to (step_read (split_read r) (g.steps r)) i
  steps_is_step i = steps_is_n (suc (left i)) i (omega arith) ∙ chain_n_is (left i) i (omega arith)

  steps_sound : (i : Input) (c : Chain) (j : Input) → g.steps r i ≡ Ok (c, j) → Sound (g.steps r) chain_shape n i c j
  steps_sound i c j e = record {
    takes = (sound_at (suc (left i)) (omega arith)).takes;
    fits = tt;
    deep = (sound_at (suc (left i)) (omega arith)).deep;
    again = λ i' j' b k.
        let m = suc (max (left i) (left i')) in
        let x = (sound_at m (omega arith)).again i' j' b k in
        record { value = x.value; is = steps_is_n m i' (omega arith) ∙ x.is; same = x.same };
    before = (sound_at (suc (left i)) (omega arith)).before;
  } where
    sound_at : (m : ℕ) → left i < m → Sound (chain_n (split_read r) m) (chain_shape_n m) n i c j
    sound_at m h = (chain_n_good n (split_read r) P m).sound i c j (sym (steps_is_n m i h) ∙ e)

  steps_good : Good n (g.steps r) chain_shape
  steps_good = record {
    sound = steps_sound;
    complete = λ i c j fits d t e.
        steps_is_n (suc (left i)) i (omega arith) ∙ (chain_n_good n (split_read r) P (suc (left i))).complete i c j (turns_enough c.0 c.1 i j (suc (left i)) (takes_begins (chain_marks c) i j t) (omega arith)) d t e;
    accepts = λ i c j fits d b e.
        let x = (chain_n_good n (split_read r) P (suc (left i))).accepts i c j (turns_enough c.0 c.1 i j (suc (left i)) b (omega arith)) d b e in
        record { value = x.value; is = steps_is_n (suc (left i)) i (omega arith) ∙ x.is; same = x.same };
    opening = λ i c j at fits b e g.
        steps_is_n (suc (left i)) i (omega arith) ∙ (chain_n_good n (split_read r) P (suc (left i))).opening i c j at (turns_enough c.0 c.1 i j (suc (left i)) b (omega arith)) b e g;
    front = chain_front;
    closing = λ x k h. h;
    sample = λ tail h. record { whole = tail; value = ([], None); takes = refl; starts = λ F k. inr k };
  }

  forks : Forks split_shape chain_shape (First starts_add Any)
  forks = chain_forks chain_shape (λ y F k h. h) refl

  steps_fail : AllFail n (split_read r) split_shape → (m : ℕ) (i : Input) (e : Stop) → left i < m → g.steps r i ≡ Err e → Fails n (g.steps r) chain_shape i e
  steps_fail f zero i e less h = absurd (omega arith)
  steps_fail f (suc m) i e less h = rule_fails_at n (step_read (split_read r) (g.steps r)) (step_parts chain_shape) (step_of n (split_read r) P (g.steps r) chain_shape steps_good forks) chain_shape chain_to whole_rule (g.steps r) steps_is_step i e
      (maybe_fails_at n is_mul_op (pair (one mul_op_in) (going (split_read r) (g.steps r))) (pair_shape (one_shape mul_part mul_first) (going_shape split_shape chain_shape (First starts_add Any))) (pair_of n (split_read r) P (g.steps r) chain_shape steps_good forks) (λ F k h. h) i e
      (pair_fails_at n (one mul_op_in) (one_shape mul_part mul_first) (going (split_read r) (g.steps r)) (going_shape split_shape chain_shape (First starts_add Any)) (one_law mul_reads).good (going_of n (split_read r) P (g.steps r) chain_shape steps_good forks) (λ x k h. tt) i e ((one_law {n = n} mul_reads).fails i e)
      (λ op l k. let less' = op_less i op l k in
      going_fails_at n (split_read r) split_shape (g.steps r) chain_shape (First starts_add Any) P steps_good forks l e (f l e)
      (λ b j o. let le = begins_left (marks_sign b) l j (takes_begins (marks_sign b) l j (P.sound l (inr b) j o).takes) in steps_fail f m j e (omega arith))))) h
    where
      op_less : (i : Input) (op : MulOp) (l : Input) → one mul_op_in i ≡ Ok (op, l) → left l < left i
      op_less i op l k = begins_less (mk.token (mul_part op) ∷ []) i l (record { first = mul_part op; is = refl }) (takes_begins (mk.token (mul_part op) ∷ []) i l ((one_law {n = n} mul_reads).good.sound i op l k).takes)

-- an operand by its kind
pub split_law : {n : ℕ} (r s : Rules) → Law n (g.operand r) (g.operand s) operand_shape → Law n (split_read r) (split_read s) split_shape
split_law {n} r s P = rule_law P split_shape split (record {
  made = made;
  marks = λ t. marks t;
  tags = λ a b h. tag a ∙ (h ∙ sym (tag b));
  fits = λ c. tt;
  ends = λ a k h. ends a k h;
  closing = P.good.closing;
  closes = λ k h. h;
  begins = λ F k h. h;
}) (split_read r) (split_read s) (λ i. refl) (λ i. refl) where
  made : (c : OpenTree ⊎ SignTree) → Made split c
  made (inl t) = record { of = operands.Open t; is = refl }
  made (inr t) = record { of = operands.Sign t; is = refl }

  marks : (t : Operand) → marks_operand (unsplit (split t)) ≡ marks_operand t
  marks (operands.Open t) = refl
  marks (operands.Sign t) = refl

  tag : (t : Operand) → operand_kind (unsplit (split t)) ≡ operand_kind t
  tag (operands.Open t) = refl
  tag (operands.Sign t) = refl

  ends : (t : Operand) (k : Option Kind) → operand_ends (operand_kind (unsplit (split t))) k → operand_ends (operand_kind t) k
  ends (operands.Open t) k h = h
  ends (operands.Sign t) k h = h

pub steps_law : {n : ℕ} (r s : Rules) → Law n (g.operand r) (g.operand s) operand_shape → Law n (g.steps r) (g.steps s) chain_shape
steps_law {n} r s P =
    let split = split_law r s P in
    record {
      good = steps_good n r split.good;
      fails = λ i e. steps_fail n r split.good split.fails (suc (left i)) i e (omega arith);
      more = steps_more r s P.more;
      fit = λ c. tt;
    }
