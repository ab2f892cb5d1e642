-- What each call makes of an engine and a store together.
use Rattle.std.proofs.Common.{◌≡◌, ◌∙◌, ℕ, suc, ◌<◌, true, false, cond, refl, List, [], ◌∷◌, ◌++◌, length, map, ℤ, ap, sym, subst, arith}
use Rattle.std.specs.Prelude.{Option, Some, nat_eq}
use Rattle.std.proofs.lemmas.List.{length-map}
use Rattle.opl_domain.specs.Span.{values}
use Rattle.opl_domain.specs.Family.{Family, has}
use Rattle.opl_expr.specs.declared.model.Core.{Core}
use Rattle.opl_expr.specs.Forms.{Fact}
use Rattle.opl_expr.specs.Solutions.{declared}
use Rattle.opl_trace.specs.Marks.{objective}
use Rattle.opl_trace.specs.Objective.{best_after}
use Rattle.opl_trace.specs.Run.{values_of}
use Rattle.opl_trace.proofs.Families.{has_at}
use Rattle.opl_engine.specs.Laws.{IsNotWorse}
use Rattle.opl_engine.specs.declared.closed.Closed.{Closed}
use Rattle.opl_engine.specs.declared.closed.Closed.TheVariants as closed
use Rattle.opl_engine.specs.States as engine
use Rattle.opl_engine.specs.States.{posted_below, HoldsAll, Fits, FitLevels, SameBeside}
use Rattle.opl_engine.proofs.Holding.{posting_holds, better_holds}
use Rattle.opl_search.specs.States.{Closes, moment, improved, Level, State, level_at, with_level, back_to, opened, posting, with_sets}
use Rattle.opl_store.specs.Stacks.{Stack}
use Rattle.opl_solver.specs.Pairs.{closed_as, levels_of, both, AllHold, IsPair, given_to, given_back}

-- ---- as many levels

fit_lengths : (core : Core) (ls : List engine.Level) (below : List Family) → FitLevels core ls below → length ls ≡ length below
fit_lengths core [] [] f = refl
fit_lengths core [] (F ∷ below) f = absurd f
fit_lengths core (l ∷ ls) [] f = absurd f
fit_lengths core (l ∷ ls) (F ∷ below) f = ap suc (fit_lengths core ls below f.1)

pub level_count : (e : engine.State) (s : Stack) → IsPair e s → length e.levels ≡ length s.below
level_count e s p = fit_lengths e.core e.levels s.below p.fits.levels

seen_lengths : (core : Core) (ls : List engine.Level) (below : List Family) → FitLevels core ls below → length (levels_of (map (λ l. l.posted) ls) below) ≡ length below
seen_lengths core [] [] f = refl
seen_lengths core [] (F ∷ below) f = absurd f
seen_lengths core (l ∷ ls) [] f = absurd f
seen_lengths core (l ∷ ls) (F ∷ below) f = ap suc (seen_lengths core ls below f.1)

pub both_count : (e : engine.State) (s : Stack) → IsPair e s → length (both e s).levels ≡ length s.below
both_count e s p = seen_lengths e.core e.levels s.below p.fits.levels

-- ---- equal parts

pub stack_pair : (e : engine.State) (s t : Stack) → t.top ≡ s.top → t.below ≡ s.below → IsPair e s → IsPair e t
stack_pair e s t f g p = record {
  sound = p.sound;
  fits = subst (λ F. Fits e F t.below) (sym f) (subst (λ Fs. Fits e s.top Fs) (sym g) p.fits);
  now = subst (HoldsAll e.core e.posted e.best) (sym f) p.now;
  below = subst (AllHold e.core e.best (posted_below e)) (sym g) p.below;
}

-- ---- posting

pub posted_pair : (e n : engine.State) (s : Stack) (c : Fact) → SameBeside e n → n.posted ≡ e.posted ++ c ∷ [] → ((F : Family) (below : List Family) → Fits e F below → Fits n F below) → IsPair e s → IsPair n s
posted_pair e n s c same posted f p = record {
  sound = rw (same.core) p.sound;
  fits = f s.top s.below p.fits;
  now = rw (same.core, same.best, posted) (posting_holds e.core e.posted (c ∷ []) e.best s.top p.now);
  below = rw (same.core, same.best, same.levels) p.below;
}

pub posted_both : (e n : engine.State) (s : Stack) (c : Fact) → SameBeside e n → n.posted ≡ e.posted ++ c ∷ [] → both n s ≡ posting c (both e s)
posted_both e n s c same posted = rw (same.core, same.best, posted, same.levels) refl

pub declared_length : (core : Core) → length (declared core) ≡ length core.sets
unfolding declared
declared_length core = length-map core.sets (λ p. values (record { low = p.0; high = p.1 }))

pub there : (e : engine.State) (s : Stack) (x : ℕ) (v : ℤ) → IsPair e s → has s.top x v ≡ true → x < length e.core.sets
there e s x v p h = let l = has_at s.top x v h in let m = p.now.within.same in let n = declared_length e.core in omega (arith, l, m, n)

-- ---- levels

all_better : (core : Core) (b c : Option ℤ) (Ps : List (List Fact)) (below : List Family) → IsNotWorse (objective core) b c → AllHold core b Ps below → AllHold core c Ps below
all_better core b c [] below w h = tt
all_better core b c (P ∷ Ps) [] w h = tt
all_better core b c (P ∷ Ps) (F ∷ below) w h = (better_holds core P b c F w h.0, all_better core b c Ps below w h.1)

pub opened_pair : (e n : engine.State) (s t : Stack) → n.core ≡ e.core → n.best ≡ e.best → n.posted ≡ e.posted → posted_below n ≡ e.posted ∷ posted_below e → ((F : Family) (below : List Family) → Fits e F below → Fits n F (F ∷ below)) → t.top ≡ s.top → t.below ≡ s.top ∷ s.below → IsPair e s → IsPair n t
opened_pair e n s t c b p l f g h i = record {
  sound = rw c i.sound;
  fits = subst (λ F. Fits n F t.below) (sym g) (subst (λ Fs. Fits n s.top Fs) (sym h) (f s.top s.below i.fits));
  now = rw (c, b, p, g) i.now;
  below = rw (c, b, l, h) (i.now, i.below);
}

pub opened_both : (e n : engine.State) (s t : Stack) → n.core ≡ e.core → n.best ≡ e.best → n.posted ≡ e.posted → posted_below n ≡ e.posted ∷ posted_below e → t.top ≡ s.top → t.below ≡ s.top ∷ s.below → both n t ≡ opened (both e s)
opened_both e n s t c b p l g h = rw (c, b, p, l, g, h) refl

pub closed_pair : (e n : engine.State) (s t : Stack) → n.core ≡ e.core → n.best ≡ e.best → posted_below e ≡ n.posted ∷ posted_below n → s.below ≡ t.top ∷ t.below → ((F G : Family) (below : List Family) → Fits e F (G ∷ below) → Fits n G below) → IsPair e s → IsPair n t
closed_pair e n s t c b l h f i =
    let k = subst (λ Fs. AllHold e.core e.best (n.posted ∷ posted_below n) Fs) h (subst (λ Ps. AllHold e.core e.best Ps s.below) l i.below) in
    record {
      sound = rw c i.sound;
      fits = f s.top t.top t.below (subst (λ Fs. Fits e s.top Fs) h i.fits);
      now = rw (c, b) k.0;
      below = rw (c, b) k.1;
    }

pub closed_both : (e n : engine.State) (s t : Stack) → n.core ≡ e.core → n.best ≡ e.best → posted_below e ≡ n.posted ∷ posted_below n → s.below ≡ t.top ∷ t.below → both n t ≡ given_back (both e s)
closed_both e n s t c b l h = rw (c, b, l, h) refl

-- closing what was opened last gives back the store as it was
pub reopened : (s t u : Stack) → t.below ≡ s.top ∷ s.below → t.below ≡ u.top ∷ u.below → (u.top ≡ s.top) × (u.below ≡ s.below)
reopened s t u h k = let e = sym k ∙ h in (cc, cc)

-- ---- a better best value

pub better_pair : (e n : engine.State) (s : Stack) (b : Option ℤ) → IsNotWorse (objective e.core) e.best b → n.best ≡ b → n.core ≡ e.core → n.posted ≡ e.posted → n.levels ≡ e.levels → ((F : Family) (below : List Family) → Fits e F below → Fits n F below) → IsPair e s → IsPair n s
better_pair e n s b w k c p l f i = record {
  sound = rw c i.sound;
  fits = f s.top s.below i.fits;
  now = rw (c, p, k) (better_holds e.core e.posted e.best b s.top w i.now);
  below = rw (c, k, l) (all_better e.core e.best b (posted_below e) s.below w i.below);
}

pub improved_both : (e n : engine.State) (s : Stack) → n.core ≡ e.core → n.best ≡ best_after (objective e.core) (values_of s.top) e.best → n.posted ≡ e.posted → n.levels ≡ e.levels → both n s ≡ improved (both e s)
improved_both e n s c b p l = rw (c, b, p, l) refl

-- ---- going back

-- once k levels are open the state is there, and until then it will be that of the level
abbrev pub reached : ℕ → State → State
reached k s = cond (nat_eq k (length s.levels)) s (back_to k s)

abbrev state : Core → Option ℤ → Family → List Fact → List Level → State
state core b F P ls = record { core = core; best = b; sets = F; posted = P; levels = ls }

not_equal : (k n : ℕ) → k < n → nat_eq k n ≡ false
not_equal k n h = grind (arith, h)

equal : (k n : ℕ) → k ≡ n → nat_eq k n ≡ true
equal k n h = grind (arith, h)

pub not_reached : (k : ℕ) (s : State) → k < length s.levels → reached k s ≡ back_to k s
not_reached k s h = rw (not_equal k (length s.levels) h) refl

pub is_reached : (k : ℕ) (s : State) → k ≡ length s.levels → reached k s ≡ s
is_reached k s h = rw (equal k (length s.levels) h) refl

level_there : (k : ℕ) (ls : List Level) → k < length ls → (l : Level) × (level_at k ls ≡ Some l)
level_there k [] h = absurd (omega (arith, h))
level_there k (l ∷ ls) h =
    elim (nat_eq k (length ls)) as (λ b. nat_eq k (length ls) ≡ b → (m : Level) × (cond b (Some l) (level_at k ls) ≡ Some m)) [
      | true ↦ λ e. (l, refl)
      | false ↦ λ e. level_there k ls (grind (arith, h, e))
    ] refl

level_here : (k : ℕ) (l : Level) (ls : List Level) → nat_eq k (length ls) ≡ true → level_at k (l ∷ ls) ≡ Some l
level_here k l ls e = rw e refl

not_further : (k : ℕ) (core : Core) (b : Option ℤ) (F : Family) (P : List Fact) (l : Level) (ls : List Level) → nat_eq k (length ls) ≡ true → state core b l.sets l.posted ls ≡ with_level (state core b F P (l ∷ ls)) k (Some l)
not_further k core b F P l ls e = rw e refl

level_above : (k : ℕ) (l : Level) (ls : List Level) → nat_eq k (length ls) ≡ false → level_at k (l ∷ ls) ≡ level_at k ls
level_above k l ls e = rw e refl

further : (k : ℕ) (core : Core) (b : Option ℤ) (F : Family) (P : List Fact) (l : Level) (ls : List Level) (m : Level) → nat_eq k (length ls) ≡ false → with_level (state core b l.sets l.posted ls) k (Some m) ≡ with_level (state core b F P (l ∷ ls)) k (Some m)
further k core b F P l ls m e = rw e refl

back_one : (k : ℕ) (core : Core) (b : Option ℤ) (F : Family) (P : List Fact) (ls : List Level) → k < length ls → reached k (given_to (state core b F P ls) ls) ≡ back_to k (state core b F P ls)
back_one k core b F P [] h = absurd (omega (arith, h))
back_one k core b F P (l ∷ ls) h =
    elim (nat_eq k (length ls)) as (λ c. nat_eq k (length ls) ≡ c → cond c (state core b l.sets l.posted ls) (back_to k (state core b l.sets l.posted ls)) ≡ back_to k (state core b F P (l ∷ ls))) [
      | true ↦ λ e. not_further k core b F P l ls e ∙ sym (ap (with_level (state core b F P (l ∷ ls)) k) (level_here k l ls e))
      | false ↦ λ e.
          let m = level_there k ls (grind (arith, h, e)) in
          ap (with_level (state core b l.sets l.posted ls) k) m.1 ∙ further k core b F P l ls m.0 e ∙ sym (ap (with_level (state core b F P (l ∷ ls)) k) (level_above k l ls e ∙ m.1))
    ] refl

pub back_step : (k : ℕ) (s n : State) → n ≡ given_back s → k < length s.levels → reached k n ≡ reached k s
back_step k s n e h = ap (reached k) e ∙ back_one k s.core s.best s.sets s.posted s.levels h ∙ sym (not_reached k s h)

-- ---- closing

pub closes_told : (e : engine.State) (s : Stack) (F : Family) (r : Closed) → engine.Closes e.core e.posted e.best F r → Closes (both e s) F (closed_as r)
unfolding moment
closes_told e s F (closed.Stable) h = h
closes_told e s F (closed.Failed) h = h

pub closed_from : (e : engine.State) (n : engine.State) (s t : Stack) → SameBeside e n → n.posted ≡ e.posted → t.below ≡ s.below → HoldsAll e.core e.posted e.best t.top → ((below : List Family) → Fits e s.top below → Fits n t.top below) → IsPair e s → IsPair n t
closed_from e n s t same posted g h f p = record {
  sound = rw (same.core) p.sound;
  fits = subst (λ Fs. Fits n t.top Fs) (sym g) (f s.below p.fits);
  now = rw (same.core, same.best, posted) h;
  below = rw (same.core, same.best, same.levels, g) p.below;
}

pub closing_both : (e n : engine.State) (s t : Stack) → SameBeside e n → n.posted ≡ e.posted → t.below ≡ s.below → both n t ≡ with_sets t.top (both e s)
closing_both e n s t same posted g = rw (same.core, same.best, posted, same.levels, g) refl
