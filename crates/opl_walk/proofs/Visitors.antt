-- What the two visitors are once marks are told to them.
use Rattle.std.proofs.Common.{◌≡◌, ◌<◌, ℕ, ◌+◌, max, [], ◌∷◌, ◌++◌, ◌∙◌, sym, append_assoc, append-nil, arith}
use Rattle.opl_tree.specs.Marks.{place, token, unbraced, opens, Marks}
use Rattle.opl_tree.specs.Spelling.{kind_of, kinds_of}
use Rattle.opl_tree.specs.Depth.{depth_of}
use Rattle.opl_walk.specs.Told.{capped, told}
use Rattle.opl_walk.specs.Visitors.{written, deepened}
use Rattle.opl_walk.specs.declared.spelling.Spelling.{Spelling}
use Rattle.opl_walk.specs.declared.depth.Depth.{Depth}

pub spelling-told : (level : ℕ) (ms : Marks) (s : Spelling) → (told written (λ k spelling. spelling) level ms s).kinds ≡ s.kinds ++ kinds_of ms
spelling-told level [] s = sym (append-nil s.kinds)
spelling-told level (place at ∷ ms) s = spelling-told level ms s
spelling-told level (token p ∷ ms) s = spelling-told level ms (written p s) ∙ append_assoc s.kinds (kind_of p ∷ []) (kinds_of ms)
spelling-told level (unbraced ∷ ms) s = spelling-told level ms s
spelling-told level (opens k ∷ ms) s = spelling-told level ms s

capped-most : (n a b : ℕ) → max (max n (capped (0 + a))) (capped b) ≡ max n (capped (max a b))
unfolding capped
capped-most n a b = omega arith

most-none : (n : ℕ) → n ≡ max n (capped 0)
unfolding capped
most-none n = omega arith

pub depth-told : (ms : Marks) (d : Depth) → (told (λ p depth. depth) deepened 0 ms d).greatest ≡ max d.greatest (capped (depth_of ms))
depth-told [] d = most-none d.greatest
depth-told (place at ∷ ms) d = depth-told ms d
depth-told (token p ∷ ms) d = depth-told ms d
depth-told (unbraced ∷ ms) d = depth-told ms d
depth-told (opens k ∷ ms) d = depth-told ms (deepened (capped (0 + k)) d) ∙ capped-most d.greatest k (depth_of ms)

pub capped-small : (n : ℕ) → n < 4294967296 → max 0 (capped n) ≡ n
unfolding capped
capped-small n h = omega arith

pub ruleset visitors = (spelling-told, depth-told, capped-small)
