-- Variables that are still labelled, turn by turn.
use Rattle.std.proofs.Common.{◌≡◌, ℕ, true, nat_eq, List, ◌∷◌, length, ℤ, sym, subst, arith}
use Rattle.opl_domain.specs.Family.{Family, set_of}
use Rattle.opl_expr.specs.Solutions.{declared}
use Rattle.opl_trace.specs.Answers.{is_value, is_single}
use Rattle.opl_trace.specs.Marks.{objective}
use Rattle.opl_steps.specs.Tasks as plain
use Rattle.opl_steps.specs.Tasks.Task.{values}
use Rattle.opl_turns.specs.Covered.{Covers}
use Rattle.opl_turns.proofs.Covered.{alone_one, covers_single}
use Rattle.opl_turns.proofs.Posted.{covers_posted}
use Rattle.opl_search.specs.declared.search.Turn.TheVariants as at
use Rattle.opl_search.specs.declared.tail.Tail.{Tail}
use Rattle.opl_search.specs.Tails.{tail_of}
use Rattle.opl_search.specs.States.{State, opened, posting, moment}
use Rattle.opl_search.specs.Pending.{IsTurn}

-- a value is posted
pub turn_posted : (s t : State) (x : ℕ) (v : ℤ) (xs : List ℕ) (us : List plain.Task) (tail : Tail) → Covers s.sets (values (x ∷ xs) ∷ us) → t ≡ posting (is_value x v) (opened s) → tail_of tail ≡ values xs ∷ us → IsTurn t (at.Down tail)
unfolding moment
turn_posted s t x v xs us tail h e i = subst (λ u. IsTurn u (at.Down tail)) (sym e)
    (λ C k b. subst (Covers C) (sym i) (covers_posted (objective s.core) (declared s.core) s.sets C s.posted s.best x v xs us h k b))

is_one : (n : ℕ) → nat_eq n 1 ≡ true → n ≡ 1
is_one n h = grind arith

-- a variable that has one value is left out
pub covers_left : (F : Family) (x : ℕ) (all xs : List ℕ) (us : List plain.Task) → all ≡ x ∷ xs → is_single F x ≡ true → Covers F (values all ∷ us) → Covers F (values xs ∷ us)
covers_left F x all xs us e one h = covers_single F x xs us (alone_one F x (is_one (length (set_of F x)) one)) (subst (λ ys. Covers F (values ys ∷ us)) e h)
