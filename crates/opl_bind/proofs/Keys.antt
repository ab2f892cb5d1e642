-- Keys, choice by choice.
use Rattle.std.proofs.Common.{◌≡◌, suc, ◌+◌, ◌*◌, List, [], ◌∷◌, ◌++◌, length, map, refl, ap, sym, ◌∙◌, arith}
use Rattle.opl_bind.specs.declared.key_walk.Turn.{Turn}
use Rattle.opl_value.specs.declared.value.Value.{Value}
use Rattle.opl_given.specs.Elements.{element, left}
use Rattle.opl_bind.specs.Keys.{beginning, chosen, distance, distance_back, keys_over, under}

-- one more choice
pub under-last : (ts : List Turn) (t : Turn) (ks : List (List Value)) → under (ts ++ t ∷ []) ks ≡ under ts (map (λ key. element t.element ∷ key) ks ++ beginning (left t.later) (keys_over t.behind.now))
under-last [] t ks = refl
under-last (u ∷ us) t ks = ap (λ more. map (λ key. element u.element ∷ key) more ++ beginning (left u.later) (keys_over u.behind.now)) (under-last us t ks)

-- all is chosen
pub under-all : (ts : List Turn) → under ts ([] ∷ []) ≡ chosen ts ∷ under ts []
under-all [] = refl
under-all (t ∷ ts) = ap (λ more. map (λ key. element t.element ∷ key) more ++ beginning (left t.later) (keys_over t.behind.now)) (under-all ts)

pub back-last : (ts : List Turn) (t : Turn) → distance_back (ts ++ t ∷ []) ≡ distance_back ts + suc (length (left t.later) * suc (distance (map left t.behind.now)))
back-last [] t = omega arith
back-last (u ∷ us) t = ap (λ n. suc (length (left u.later) * suc (distance (map left u.behind.now))) + n) (back-last us t) ∙ omega arith

pub farther : (old new : List Turn) (t : Turn) (vs : List Value) (v : Value) → new ≡ old ++ t ∷ [] → vs ≡ v ∷ left t.later →
    distance_back old + length vs * suc (distance (map left t.behind.now)) ≡ distance_back new + distance (map left t.behind.now)
farther old new t vs v h g =
    ap (λ xs. distance_back old + length xs * suc (distance (map left t.behind.now))) g
    ∙ grind arith
    ∙ ap (λ n. n + distance (map left t.behind.now)) (sym (ap distance_back h ∙ back-last old t))

pub ruleset walks = (under-last, under-all, back-last, farther)
