-- An engine and a store of a ground core.
use Rattle.std.proofs.Common.{◌≡◌, ◌∙◌, ℕ, ◌+◌, ◌<◌, ◌≤◌, ◌^◌, ◌/◌, true, false, ◌||◌, refl, List, [], ◌∷◌, length, map, ℤ, pos, ◌≤ℤ◌, ◌<ℤ◌, sym, subst, arith}
use Rattle.std.specs.Prelude.{None, int_lt, unsigned_abs}
use Rattle.std.specs.List.{All, list_any}
use Rattle.std.proofs.lemmas.Int.{ints}
use Rattle.std.proofs.lemmas.List.Elements.{All-nil, All-cons, All-head, All-tail}
use Rattle.opl_expr.specs.declared.model.Core.{Core}
use Rattle.opl_expr.specs.Solutions.{base, declared}
use Rattle.opl_trace.specs.SoundCores.{IsSoundSet, IsSoundCore}
use Rattle.opl_trace.specs.GroundCores.{all_values, IsGroundCore}
use Rattle.opl_engine.specs.States as engine
use Rattle.opl_engine.specs.States.{Fits}
use Rattle.opl_engine.proofs.Holding.{declared_hold}
use Rattle.opl_search.specs.States.{beginning}
use Rattle.opl_store.specs.Stacks.{Stack, IsRange, size_between, values_between, all_blocks}
use Rattle.opl_solver.specs.Pairs.{both, IsPair}

-- ---- declared sets

ordered : (l h : ℤ) → int_lt h l ≡ false → l ≤ℤ h
ordered l h e = grind (arith, ints)

small : (v : ℤ) → unsigned_abs v ≤ 2 ^ 62 → v <ℤ pos (2 ^ 63)
small v h = omega (arith, ints, h)

range_of : (p : ℤ × ℤ) → int_lt p.1 p.0 ≡ false → IsSoundSet p → IsRange p
range_of p e s = let l = ordered p.0 p.1 e in (l, s.few l, small p.1 s.high)

pub all_ranges : (ps : List (ℤ × ℤ)) → list_any (λ p. int_lt p.1 p.0) ps ≡ false → All IsSoundSet ps → All IsRange ps
all_ranges [] e a = All-nil IsRange
all_ranges (p ∷ ps) e a =
    elim (int_lt p.1 p.0) as (λ b. int_lt p.1 p.0 ≡ b → (b || list_any (λ q. int_lt q.1 q.0) ps) ≡ false → All IsRange (p ∷ ps)) [
      | true ↦ λ i h. cc
      | false ↦ λ i h. All-cons IsRange p ps (range_of p i (All-head IsSoundSet p ps a)) (all_ranges ps h (All-tail IsSoundSet p ps a))
    ] refl e

few_blocks : (n : ℕ) → (n + 63) / 64 ≤ n + 1
few_blocks n = omega arith

blocks_few : (ps : List (ℤ × ℤ)) → all_blocks ps ≤ all_values ps + length ps
blocks_few [] = omega arith
blocks_few (p ∷ ps) = let f = few_blocks (size_between p) in let i = blocks_few ps in omega (arith, f, i)

pub few_words : (core : Core) → IsGroundCore core → length core.sets + all_blocks core.sets < 2 ^ 32
few_words core g = let b = blocks_few core.sets in let f = g.few in let v = g.values in omega (arith, b, f, v)

-- ---- the beginning

declared_top : (core : Core) → map values_between core.sets ≡ declared core
unfolding declared
declared_top core = refl

pub begins_both : (core : Core) (e : engine.State) (s : Stack) → e.core ≡ core → e.best ≡ None → e.posted ≡ base core → e.levels ≡ [] → s.top ≡ map values_between core.sets → both e s ≡ beginning core
begins_both core e s c b p l t = rw (c, b, p, l, t ∙ declared_top core) refl

pub begins_pair : (core : Core) (e : engine.State) (s : Stack) → IsSoundCore core → e.core ≡ core → e.best ≡ None → e.posted ≡ base core → e.levels ≡ [] → s.top ≡ map values_between core.sets → s.below ≡ [] → Fits e (declared core) [] → IsPair e s
begins_pair core e s i c b p l t k f =
    let top : s.top ≡ declared core = t ∙ declared_top core in
    record {
      sound = rw c i;
      fits = subst (λ F. Fits e F s.below) (sym top) (subst (λ Fs. Fits e (declared core) Fs) (sym k) f);
      now = rw (c, p, b, top) (declared_hold core (base core) None);
      below = rw (c, b, l) tt;
    }
