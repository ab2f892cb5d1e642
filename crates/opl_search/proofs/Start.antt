-- The beginning of a search.
use Rattle.std.proofs.Common.{◌≡◌, ◌∙◌, ℕ, zero, suc, ◌+◌, ◌<◌, ◌≤◌, inl, inr, Bool, true, false, ◌||◌, nat_eq, refl, List, [], ◌∷◌, length, ℤ, map, slice_index_or, ap, sym, subst, arith}
use Rattle.std.specs.Prelude.{None, pos}
use Rattle.std.specs.List.{list_any}
use Rattle.std.proofs.lemmas.Bool.{cases_lt}
use Rattle.opl_domain.specs.Family.{Family, member, IsRising, IsLeast, set_of, has}
use Rattle.opl_domain.proofs.Sets.{set_of-past}
use Rattle.opl_expr.specs.Solutions.{declared, base}
use Rattle.opl_trace.specs.Marks.{objective, core_trace, trace, numbers_from}
use Rattle.opl_trace.specs.Run.{values_of}
use Rattle.opl_steps.specs.Tasks.{doing}
use Rattle.opl_steps.specs.Tasks.Task.{values}
use Rattle.opl_turns.specs.Coming as c
use Rattle.opl_turns.specs.Coming.{coming}
use Rattle.opl_turns.specs.Covered.{Covers}
use Rattle.opl_search.specs.declared.search.Open.{Open}
use Rattle.opl_search.specs.declared.search.Turn.TheVariants as at
use Rattle.opl_search.specs.declared.tail.Tail.{Tail}
use Rattle.opl_search.specs.Tails.{tail_of}
use Rattle.opl_search.specs.States.{State, beginning, moment}
use Rattle.opl_search.specs.Pending.{comes, IsTurn, AreOpen}
use Rattle.opl_search.specs.Advance.{Seen, CanStart}
use Rattle.opl_search.proofs.Values.{least_first}

among_numbers : (y x n : ℕ) → x ≤ y → y < x + n → list_any (nat_eq y) (numbers_from x n) ≡ true
among_numbers y x zero h k = absurd (omega (arith, h, k))
among_numbers y x (suc n) h k = elim (nat_eq y x) as (λ b. nat_eq y x ≡ b → (b || list_any (nat_eq y) (numbers_from (suc x) n)) ≡ true) [
  | true ↦ λ e. refl
  | false ↦ λ e. let l : suc x ≤ y = grind (arith, h) in among_numbers y (suc x) n l (omega (arith, k))
] refl

or_none : (b : Bool) → b ≡ true → (b || false) ≡ true
or_none b e = rw e refl

none_past : (C : Family) (y : ℕ) (v : ℤ) → length C ≤ y → has C y v ≡ true → ⊥
none_past C y v h m = let k = subst (λ vs. member v vs ≡ true) (set_of-past C y h) m in cc

-- each variable is labelled
pub turn_starts : (s : State) (tail : Tail) (n : ℕ) → n ≡ length s.sets → tail_of tail ≡ values (numbers_from 0 n) ∷ [] → IsTurn s (at.Down tail)
turn_starts s tail n e i = λ C k b. subst (Covers C) (sym i) (λ y. elim (cases_lt y n) [
  | inl h ↦ let m = among_numbers y 0 n (omega arith) (omega (arith, h)) in inr (or_none (list_any (nat_eq y) (numbers_from 0 n)) m)
  | inr h ↦ inl (λ v w p q. absurd (none_past C y v (let z = b.same in omega (arith, h, e, z)) p))
])

plain_start : (s : State) (n : ℕ) → coming (objective s.core) (moment s.core) (c.Turn.down (values (numbers_from 0 (length (declared s.core))) ∷ [])) (base s.core) None n [] ≡ core_trace true s.core n
unfolding coming moment doing trace
plain_start s n = refl

-- all that comes is the trace of default search
pub comes_starts : (s : State) (os : List Open) (n k : ℕ) (tail : Tail) → s ≡ beginning s.core → os ≡ [] → k ≡ length s.sets → tail_of tail ≡ values (numbers_from 0 k) ∷ [] → comes s os n (at.Down tail) ≡ core_trace true s.core n
comes_starts s os n k tail b e l i =
    ap (λ ps. comes s ps n (at.Down tail)) e
    ∙ ap (λ ts. coming (objective s.core) (moment s.core) (c.Turn.down ts) s.posted s.best n []) (i ∙ ap (λ j. values (numbers_from 0 j) ∷ []) (l ∙ ap (λ t. length t.sets) b))
    ∙ ap (λ t. coming (objective s.core) (moment s.core) (c.Turn.down (values (numbers_from 0 (length (declared s.core))) ∷ [])) t.posted t.best n []) b
    ∙ plain_start s n

-- ---- values

mapped_at : (f : List ℤ → ℤ) (F : List (List ℤ)) (x : ℕ) → x < length F → slice_index_or (map f F) x (pos 0) ≡ f (slice_index_or F x [])
mapped_at f [] x h = absurd (omega arith)
mapped_at f (vs ∷ F) zero h = refl
mapped_at f (vs ∷ F) (suc x) h = mapped_at f F x (omega arith)

pub value_at : (F : Family) (x : ℕ) (v : ℤ) → x < length F → IsRising (set_of F x) → IsLeast (set_of F x) v → v ≡ slice_index_or (values_of F) x (pos 0)
unfolding set_of
value_at F x v h r l = sym (mapped_at (λ vs. slice_index_or vs zero (pos 0)) F x h ∙ ap (λ vs. slice_index_or vs zero (pos 0)) (least_first (set_of F x) v r l))

pub opens_start : (b : Bool) (s : Seen) → CanStart b s → AreOpen s.opens (length s.state.levels) s.state.levels
opens_start true s h = subst (λ os. AreOpen os (length s.state.levels) s.state.levels) (sym h.1) tt
opens_start false s h = h
