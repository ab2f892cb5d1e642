-- What may be written or not, as the trees say it.
use Rattle.std.proofs.Common.{◌≡◌, ℕ, Bool, true, false, cond, ◌⊎◌, inl, inr, Option, Some, None, Ok, Err, refl}
use Rattle.std.specs.Prelude.{◌||◌}
use Rattle.std.specs.Option.{option_map}
use Rattle.opl_token.specs.declared.token.Kind.{Kind}
use Rattle.opl_tree.specs.Marks.{Part}
use Rattle.opl_tree.specs.Marks as mk
use Rattle.opl_grammar.specs.Input.{Input, Outcome, Parser, kind, and_then, ◌>>=◌, pure}
use Rattle.opl_reader_laws.proofs.Forms.{maybe, maybe_marks, maybe_shape, Passes, maybe_law, either, either_shape, Misses, either_law, renamed_law}
use Rattle.opl_reader_laws.proofs.Led.{led_shape}
use Rattle.opl_reader_laws.proofs.Outcomes.{steps}
use Rattle.opl_reader_laws.proofs.Phrases.{Shape, Law}

pub after_maybe : {A : Type 0} (part : Part) (first : Option Kind → Type 0) (t : Shape A) (o : Option A) → mk.after part (option_map t.marks o) ≡ maybe_marks (led_shape part first t) o
after_maybe part first t None = refl
after_maybe part first t (Some a) = refl

pub written_maybe : {A : Type 0} (t : Shape A) (o : Option A) → mk.written (option_map t.marks o) ≡ maybe_marks t o
written_maybe t None = refl
written_maybe t (Some a) = refl

-- what goes on alike from the same outcome
pub then_same : {A B : Type 0} (o : Outcome A) (f h : A → Parser B) → ((a : A) (j : Input) → f a j ≡ h a j) → and_then o f ≡ and_then o h
then_same (Ok c) f h e = e c.0 c.1
then_same (Err e) f h k = refl

-- one of two phrases or nothing, by the next token
abbrev pub options : {A B : Type 0} → (Option Kind → Bool) → Parser A → (Option Kind → Bool) → Parser B → Parser (Option (A ⊎ B))
options {A} {B} test p other q = λ i. cond {A = Outcome (Option (A ⊎ B))} (test (kind i)) ((p >>= (λ a. pure (Some (inl a)))) i) (cond {A = Outcome (Option (A ⊎ B))} (other (kind i)) ((q >>= (λ b. pure (Some (inr b)))) i) (Ok (None, i)))

abbrev pub any_of : (Option Kind → Bool) → (Option Kind → Bool) → Option Kind → Bool
any_of test other k = test k || other k

options_is : {A B : Type 0} (test : Option Kind → Bool) (p : Parser A) (other : Option Kind → Bool) (q : Parser B) (i : Input) → options test p other q i ≡ maybe (any_of test other) (either test p q) i
options_is {A} {B} test p other q i = by_tests (test (kind i)) (other (kind i)) where
  by_tests : (a b : Bool) → cond {A = Outcome (Option (A ⊎ B))} a ((p >>= (λ a. pure (Some (inl a)))) i) (cond {A = Outcome (Option (A ⊎ B))} b ((q >>= (λ b. pure (Some (inr b)))) i) (Ok (None, i)))
      ≡ cond {A = Outcome (Option (A ⊎ B))} (a || b) (and_then (cond {A = Outcome (A ⊎ B)} a ((p >>= (λ a. pure (inl a))) i) ((q >>= (λ b. pure (inr b))) i)) (λ c. pure (Some c))) (Ok (None, i))
  by_tests true b = simp steps
  by_tests false true = simp steps
  by_tests false false = refl

pub or_true_left : (a b : Bool) → a ≡ true → (a || b) ≡ true
or_true_left a b h = rw h refl

pub or_true_right : (a b : Bool) → b ≡ true → (a || b) ≡ true
or_true_right true b h = refl
or_true_right false b h = h

pub or_false : (a b : Bool) → a ≡ false → b ≡ false → (a || b) ≡ false
or_false a b h k = rw (h, k) refl

abbrev pub options_shape : {A B : Type 0} → (Option Kind → Bool) → Shape A → (Option Kind → Bool) → Shape B → Shape (Option (A ⊎ B))
options_shape test s other t = maybe_shape (any_of test other) (either_shape s t)

pub options_law : {A B : Type 0} {n : ℕ} {p p' : Parser A} {s : Shape A} {q q' : Parser B} {t : Shape B} (test other : Option Kind → Bool) → Law n p p' s → Law n q q' t → Passes test s → Passes other t → Misses test t →
    Law n (options test p other q) (options test p' other q') (options_shape test s other t)
options_law {A} {B} {n} {p} {p'} {s} {q} {q'} {t} test other P Q first second misses =
    renamed_law (maybe_law (any_of test other) (either_law test P Q first misses) passes) (options test p other q) (options test p' other q') (options_is test p other q) (options_is test p' other q')
  where
    passes : Passes (any_of test other) (either_shape s t)
    passes F k (inl h) = or_true_left (test k) (other k) (first F k h)
    passes F k (inr h) = or_true_right (test k) (other k) (second F k h)
