-- What is known at the end of the rounds.
use Rattle.std.proofs.Common.{◌≡◌, ◌∙◌, ℕ, Bool, true, false, refl, List, [], ◌∷◌, ℤ, ap, sym, subst, arith}
use Rattle.std.specs.Prelude.{Some, None}
use Rattle.opl_domain.specs.Family.{Family, IsFamily, only, Below, Full}
use Rattle.opl_trace.specs.Stable.{IsMonotone, IsGreatestStable, HasFailed}
use Rattle.opl_trace.specs.Removals.{DeadPair}
use Rattle.opl_trace.specs.Closure.{closure}
use Rattle.opl_trace.specs.ClosureLaws.{ClosesTo}
use Rattle.opl_trace.proofs.Passing.{false_unless}
use Rattle.opl_trace.proofs.Families.{only_full, only_below}
use Rattle.opl_trace.proofs.Closures.{closure_is}
use Rattle.opl_trace.proofs.Removals.{single_fails, stable_kept}
use Rattle.opl_filter.specs.Mentions.{lists}
use Rattle.opl_filter.specs.Filtering.{without, EachCanGo, IsLeftOf, IsBetween}
use Rattle.opl_filter.specs.Rounds.{AreThere, LooksOnlyAt, NoneDead, IsStuck, TriesAll}
use Rattle.opl_filter.proofs.Removals.{left_sets, left_below, left_kept, left_join}
use Rattle.opl_filter.proofs.Trying.{listed_first}

pub left_between : (dead : Family → Bool) (D F : Family) → IsFamily D → IsLeftOf dead D F → IsBetween dead D F
left_between dead D F f a = record { removals = a; below = left_below dead D F a; sets = left_sets dead D F f a }

fails : (dead : Family → Bool) (D : Family) → IsMonotone dead → None ≡ closure dead D → HasFailed dead D
fails dead D m e = subst (λ o. ClosesTo dead D o) (sym e) (closure_is dead D m)

pub dead_has_failed : (dead : Family → Bool) (D : Family) → IsMonotone dead → dead D ≡ true → HasFailed dead D
dead_has_failed dead D m h F s = let e = m.falls F D s.stable.full s.within h in let i = s.stable.spared in cc

pub stuck_has_failed : (dead : Family → Bool) (D F : Family) → IsMonotone dead → IsStuck dead D F → HasFailed dead D
stuck_has_failed dead D F m s =
    fails dead D m (single_fails dead D F s.variable s.value m (left_kept dead D F m s.removals) s.last_value.dead_value s.last_value.last)

-- where nothing is looked at nothing goes
none_gone : (dead : Family → Bool) (D F : Family) (ps : List (ℕ × ℤ)) → Full D → dead D ≡ false → LooksOnlyAt [] dead → EachCanGo dead D ps → F ≡ without D ps → dead F ≡ false
none_gone dead D F [] f h l g e = ap dead e ∙ h
none_gone dead D F (p ∷ ps) f h l g e = let i = l D p.0 p.1 f refl in let j = g.0.dead_value.is_dead in cc

-- a family is spared where its values are, or where no variable is looked at
spared_whole : (dead : Family → Bool) (variables : List ℕ) (D F : Family) → IsMonotone dead → IsFamily D → IsFamily F → dead D ≡ false → IsLeftOf dead D F → Below F D → AreThere variables D → LooksOnlyAt variables dead → NoneDead dead variables F → dead F ≡ false
spared_whole dead [] D F m f g h a b t l p = none_gone dead D F a.gone f.full h l a.each a.left
spared_whole dead (x ∷ variables) D F m f g h a b t l p =
    let here = listed_first x (lists variables x) in
    let r = g.full x (omega (arith, b.same, t x here)) in
    false_unless (dead F) (λ e.
    let k = m.falls (only F x r.0) F (only_full F x r.0 g.full) (only_below F x r.0 r.1) e in
    let i = p x r.0 here r.1 in
    cc)

none_dead : (dead : Family → Bool) (variables : List ℕ) (F : Family) → IsFamily F → dead F ≡ false → LooksOnlyAt variables dead → NoneDead dead variables F → DeadPair dead F None
none_dead dead variables F f h l p x v k m =
    elim (lists variables x) as (λ b. lists variables x ≡ b → dead (only F x v) ≡ false) [
      | true ↦ λ e. p x v e m
      | false ↦ λ e. l F x v f.full e ∙ h
    ] refl

pub rounds_end : (dead : Family → Bool) (variables : List ℕ) (D F : Family) → IsMonotone dead → AreThere variables D → LooksOnlyAt variables dead → IsFamily D → dead D ≡ false → IsLeftOf dead D F → NoneDead dead variables F → IsGreatestStable dead D F
rounds_end dead variables D F m t l f h a p =
    let below = left_below dead D F a in
    let sets = left_sets dead D F f a in
    let spared = spared_whole dead variables D F m f sets h a below t l p in
    record {
      is_stable = record { stable = stable_kept dead F spared sets (none_dead dead variables F sets spared l p); within = below };
      most = λ G s. (left_kept dead D F m a).above G s.stable s.within;
    }

pub left_round : (dead : Family → Bool) (variables : List ℕ) (D F G : Family) (r : Bool) → IsLeftOf dead D F → TriesAll dead variables F G (Some r) → IsLeftOf dead D G
left_round dead variables D F G false a t = subst (λ H. IsLeftOf dead D H) (sym t.0) a
left_round dead variables D F G true a t = left_join dead D F G a t.removals

pub round_stable : (dead : Family → Bool) (variables : List ℕ) (D F G : Family) (r : Bool) → IsMonotone dead → AreThere variables D → LooksOnlyAt variables dead → IsFamily D → dead D ≡ false → IsLeftOf dead D F → TriesAll dead variables F G (Some r) → r ≡ false → IsGreatestStable dead D G
round_stable dead variables D F G false m t l f h a s e = subst (λ H. IsGreatestStable dead D H) (sym s.0) (rounds_end dead variables D F m t l f h a s.1)
round_stable dead variables D F G true m t l f h a s e = cc
